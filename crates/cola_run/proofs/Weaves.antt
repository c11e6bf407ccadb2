-- That a merge over the bytes of runs that ran meets the trait.
use Rattle.std.proofs.Common.{◌≡◌, ℕ, Bool, true, List, Option, inr, refl, subst}
use Rattle.cola_cell.specs.declared.format.Format.{Format}
use Rattle.cola_cell.specs.declared.windows.Passed.{Passed}
use Rattle.cola_cell.specs.declared.windows.Reach.{Reach}
use Rattle.cola_cell.specs.Windows.{Views, IsReach, IsShown, Grown, OnlyTicks, Weaves}
use Rattle.cola_device.specs.declared.counts.Counts.{Counts}
use Rattle.cola_run.specs.Store.{Store, IsStore, held_of, state_of}
use Rattle.cola_run.specs.Weaving.{AreAtHand, IsFound, WoveOver, is_at_hand}
use Rattle.cola_run.proofs.Shown.{found_shown}

module _ {D M J : Type 0} (bytes : D → Option (List ℕ)) (counts : D → Counts) (wove : M → M → J → Format → Views → List ℕ → Passed → Type 0) (lends : Bool)
    (store before now : Store D) (is : store ≡ before) (level : ℕ) (own incoming sample : Reach) (merge merged : M) (job : J) (sound : IsStore (bytes store.buffers.cache.device) store) where
  -- what was found shows a run
  shown : (reach : Reach) (window : List ℕ) (last : Bool) → IsFound lends (bytes store.buffers.cache.device) store.geometry store.front reach window last → IsReach (held_of bytes store) level reach →
      is_at_hand store.geometry store.shadows reach ≡ true → IsShown (held_of bytes store) reach window last
  shown reach window last found r hand =
      found_shown bytes store lends reach window last sound found (λ there. record { level_in = (r there).level_in; slot_in = (r there).slot_in; within = (r there).within; some = there }) hand

  -- what it found it shows, and of what is spent it changed the ticks alone
  pub weaves : (views : Views) (room : List ℕ) (passed : Passed) (from to : ℕ) →
      WoveOver wove lends (bytes store.buffers.cache.device) store.geometry store.front own incoming sample merge merged job views room passed →
      Grown (held_of bytes store) (held_of bytes now) level room passed.cells → OnlyTicks (state_of bytes counts store) (state_of bytes counts now) from to passed.ticks →
      IsReach (held_of bytes before) level own → IsReach (held_of bytes before) level incoming → IsReach (held_of bytes before) level sample →
      AreAtHand before.geometry before.shadows own incoming sample → Weaves wove (state_of bytes counts before) (state_of bytes counts now) level own incoming sample merge merged job from to passed.steps
  weaves views room passed from to over grown ticks =
      subst (λ (s : Store D). IsReach (held_of bytes s) level own → IsReach (held_of bytes s) level incoming → IsReach (held_of bytes s) level sample →
      AreAtHand s.geometry s.shadows own incoming sample → Weaves wove (state_of bytes counts s) (state_of bytes counts now) level own incoming sample merge merged job from to passed.steps) is
      (λ o i s hand. inr (record {
        views = views;
        room = room;
        passed = passed;
        own_shown = shown own views.own views.own_last over.own_found o hand.own_there;
        incoming_shown = shown incoming views.incoming views.incoming_last over.incoming_found i hand.incoming_there;
        sample_shown = shown sample views.sample views.sample_last over.sample_found s hand.sample_there;
        wove_is = over.wove_is;
        grown_is = grown;
        only_ticks = ticks;
        steps_is = refl;
      }))
