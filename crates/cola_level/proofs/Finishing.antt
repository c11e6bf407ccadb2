-- What a finish leaves of a merge whose steps are done.
use Rattle.std.proofs.Common.{◌≡◌, ◌≢◌, ◌⊎◌, inl, inr, ℕ, ◌+◌, ◌<◌, ◌≤◌, List, map, Result, Ok, Err, OnOk, IfErr, ap, sym, subst, ◌∙◌, arith}
use Rattle.std.specs.List.Sorted.{IsStrictlySortedBy}
use Rattle.cola_outside.specs.Faults.{Rose}
use Rattle.cola_runs.specs.Cells as laws
use Rattle.cola_runs.specs.Cells.{IsRising}
use Rattle.cola_runs.specs.Steps.{Build, IsUnderWay, IsAdvanced}
use Rattle.cola_cell.specs.declared.cell.Reader.TheVariants.{Own, Incoming, Sample}
use Rattle.cola_cell.specs.declared.fault.PushFault.{PushFault}
use Rattle.cola_cell.specs.declared.fault.PushFault.TheVariants as push
use Rattle.cola_cell.specs.declared.fault.StepFault.{StepFault}
use Rattle.cola_cell.specs.declared.sink.Shadow.{Shadow}
use Rattle.cola_cell.specs.Fault.{step_of_push}
use Rattle.cola_cell.specs.Held.{Held, Spot, Told, LawCell, Stamped, span}
use Rattle.cola_cell.specs.Order.{key_cmp}
use Rattle.cola_cell.specs.Places.{block_of}
use Rattle.cola_cell.specs.Spent.{Buffer}
use Rattle.cola_cell.specs.State.{State}
use Rattle.cola_cell.specs.Shadows.{WriteCalm, FinishAnswers, Finishes, FinishSpends}
use Rattle.cola_cell.proofs.RunLemmas.{telling_stays}
use Rattle.cola_cell.specs.ToldCells.{cell_at, cells, shadow_cells, IsShadowTold}
use Rattle.cola_cell.proofs.CellLists.{cells-same}
use Rattle.cola_merge.specs.declared.aims.Aim.{Aim}
use Rattle.cola_merge.specs.declared.aims.Progress.{Progress}
use Rattle.cola_merge.specs.declared.aims.Progress.TheVariants.{Done}
use Rattle.cola_merge.specs.declared.merging.Merger.{Merger}
use Rattle.cola_merge.specs.Feeds.{part_of, feed_cells, feed_keys}
use Rattle.cola_merge.specs.Heads.{IsReady, build_of}
use Rattle.cola_merge.specs.Blocks.{blocks_left}
use Rattle.cola_merge.specs.States.{MergeState, state, TurnsWithin, StepCause, Grows, KeepsBlocks}
use Rattle.cola_merge.specs.Advance.{IsGoing, GoesBy}
use Rattle.cola_merge.proofs.Kept.{grows_then, feed_cells-stay, feeds_told-stay, ready-stays, forgets_keeps, left-stays}
use Rattle.cola_level.specs.Work.{Takes, GoesFurther, IsWholeAtEnd, IsCalm, IsDevice}
use Rattle.cola_level.specs.Built.{object_of, Moves}

module _ {A : Type 0} (old new : State) (level : ℕ) (result : Result A PushFault) (f : Finishes old new level result) where
  pub slot_same : (new.held.shadows level).slot ≡ (old.held.shadows level).slot
  slot_same = ap (λ (s : Shadow). s.slot) f.shadow_is

  pub len_same : (new.held.shadows level).len ≡ (old.held.shadows level).len
  len_same = ap (λ (s : Shadow). s.len) f.shadow_is

  pub finish_grows : Grows old.held new.held level
  finish_grows = record {
    around = f.around;
    slot_is = slot_same;
    len_rises = (let e = len_same in omega (arith, e));
    len_fits = λ h. (let e = len_same in omega (arith, e, h));
    others_stay = f.others_stay;
  }

  spot_same : (i : ℕ) → i < (old.held.shadows level).len → new.held.spots level (new.held.shadows level).slot i ≡ old.held.spots level (old.held.shadows level).slot i
  spot_same i h = ap (λ (s : ℕ). new.held.spots level s i) slot_same ∙ f.others_stay level (old.held.shadows level).slot i (inr (inr h))

  pub shadow_same : shadow_cells new.held level ≡ shadow_cells old.held level
  shadow_same =
      ap (λ (n : ℕ). cells (new.held.spots level (new.held.shadows level).slot) 0 n) len_same
      ∙ cells-same (new.held.spots level (new.held.shadows level).slot) (old.held.spots level (old.held.shadows level).slot) 0 (old.held.shadows level).len (λ k h. spot_same k (omega (arith, h)))

  pub shadow_told : IsShadowTold old.held level → IsShadowTold new.held level
  shadow_told t i h =
      let l : i < (old.held.shadows level).len = (let e = len_same in omega (arith, e, h)) in
      subst (λ (x : Spot). x ≡ Told (cell_at x)) (sym (spot_same i l)) (t i l)

-- ---- a merge on its way

module _ {A : Type 0} (old new : State) (aim : Aim) (m : Merger) (result : Result A PushFault)
    (f : Finishes old new aim.level result) (r : IsReady old.held aim m) where
  own_same : feed_cells new.held aim.own ≡ feed_cells old.held aim.own
  own_same = feed_cells-stay (finish_grows old new aim.level result f) aim.slot r.slot_is aim.own r.own_apart

  incoming_same : feed_cells new.held aim.incoming ≡ feed_cells old.held aim.incoming
  incoming_same = feed_cells-stay (finish_grows old new aim.level result f) aim.slot r.slot_is aim.incoming r.incoming_apart

  keys_same : feed_keys new.held aim.sample ≡ feed_keys old.held aim.sample
  keys_same = ap (λ (x : List LawCell). map laws.key_of x) (feed_cells-stay (finish_grows old new aim.level result f) aim.slot r.slot_is aim.sample r.sample_apart)

  build_same : build_of new.held aim m ≡ build_of old.held aim m
  build_same =
      ap (λ (x : List LawCell). record { own = m.own.at; incoming = m.incoming.at; sampled = m.sample.at; done = x }) (shadow_same old new aim.level result f)

  still_going : IsGoing old.held aim m → IsGoing new.held aim m
  still_going g = record {
    tells = telling_stays old.held new.held aim.level f.around g.tells;
    feeds = feeds_told-stay (finish_grows old new aim.level result f) r g.feeds;
    shadow = shadow_told old new aim.level result f g.shadow;
    own_rises = subst (IsRising key_cmp) (sym own_same) g.own_rises;
    incoming_rises = subst (IsRising key_cmp) (sym incoming_same) g.incoming_rises;
    keys_rise = subst (IsStrictlySortedBy key_cmp) (sym keys_same) g.keys_rise;
    under_way =
        subst (λ (x : List LawCell). IsUnderWay key_cmp (part_of aim) x (feed_cells new.held aim.incoming) (feed_keys new.held aim.sample) (build_of new.held aim m)) (sym own_same)
        (subst (λ (x : List LawCell). IsUnderWay key_cmp (part_of aim) (feed_cells old.held aim.own) x (feed_keys new.held aim.sample) (build_of new.held aim m)) (sym incoming_same)
        (subst (λ (x : List (List ℕ)). IsUnderWay key_cmp (part_of aim) (feed_cells old.held aim.own) (feed_cells old.held aim.incoming) x (build_of new.held aim m)) (sym keys_same)
        (subst (λ (x : Build (List ℕ) Stamped). IsUnderWay key_cmp (part_of aim) (feed_cells old.held aim.own) (feed_cells old.held aim.incoming) (feed_keys old.held aim.sample) x) (sym build_same)
        g.under_way)));
  }

  still_by : (first : Held) (n : Merger) (count : ℕ) → GoesBy first old.held aim n m count → GoesBy first new.held aim n m count
  still_by first n count g =
      subst (λ (x : Build (List ℕ) Stamped). IsAdvanced key_cmp (part_of aim) (feed_cells first aim.own) (feed_cells first aim.incoming) (feed_keys first aim.sample) count (build_of first aim n) x) (sym build_same) g

  lasts_keep : FinishSpends old new aim.level → (buffer : Buffer) → KeepsBlocks aim.level aim.slot buffer old.spent.lasts new.spent.lasts
  lasts_keep w buffer l s k d =
      forgets_keeps (block_of (span old.held) aim.level (old.held.shadows aim.level).slot (old.held.shadows aim.level).len) (old.spent.lasts buffer) (new.spent.lasts buffer) (w.writes.lasts_forget buffer) l s k (at_slot d)
    where
      at_slot : (l ≢ aim.level) ⊎ (s ≢ aim.slot) → (l ≢ aim.level) ⊎ (s ≢ (old.held.shadows aim.level).slot)
      at_slot (inl d) = inl d
      at_slot (inr d) = inr (λ e. d (e ∙ sym r.slot_is))

  left_same : FinishSpends old new aim.level → (doublings : ℕ) → blocks_left doublings new.spent.lasts aim m ≡ blocks_left doublings old.spent.lasts aim m
  left_same w doublings =
      three (left-stays doublings aim.level aim.slot old.spent.lasts new.spent.lasts Own aim.own r.own_apart (lasts_keep w) m.own.at)
      (left-stays doublings aim.level aim.slot old.spent.lasts new.spent.lasts Incoming aim.incoming r.incoming_apart (lasts_keep w) m.incoming.at)
      (left-stays doublings aim.level aim.slot old.spent.lasts new.spent.lasts Sample aim.sample r.sample_apart (lasts_keep w) m.sample.at)
    where
      three : {a b c x y z : ℕ} → a ≡ x → b ≡ y → c ≡ z → a + b + c ≡ x + y + z
      three e f g = omega (arith, e, f, g)

-- ---- the answers

-- the answer of the work, by that of the finish
abbrev pub lifted : {A : Type 0} → Result A PushFault → Result A StepFault
lifted (Ok a) = Ok a
lifted (Err fault) = Err (step_of_push fault)

module _ {A : Type 0} (aim : Aim) (s t : MergeState) (new : State) (result : Result A PushFault) (f : Finishes (object_of t) new aim.level result) (w : FinishSpends (object_of t) new aim.level)
    (moves : Moves {A = Progress} aim s t (Ok Done)) where
  further : (answer : Result A PushFault) → GoesFurther s.held t.held aim s.merger t.merger (Ok Done) → GoesFurther s.held new.held aim s.merger t.merger (lifted answer)
  further (Ok a) g = still_by (object_of t) new aim t.merger result f moves.ready s.held s.merger 28 g
  further (Err fault) g = (28, omega arith, still_by (object_of t) new aim t.merger result f moves.ready s.held s.merger 28 g)

  whole : (answer : Result A PushFault) → (IsGoing s.held aim s.merger → IsWholeAtEnd s.held t.held aim t.merger) → IsGoing s.held aim s.merger → OnOk (lifted answer) (IsWholeAtEnd s.held new.held aim t.merger)
  whole (Ok a) h going = λ u. shadow_same (object_of t) new aim.level result f ∙ h going u
  whole (Err fault) h going = tt

  takes : (answer : Result A PushFault) → Takes {A = Progress} aim s.merger t.merger (Ok Done) → Takes aim s.merger t.merger (lifted answer)
  takes (Ok a) k = record { enough = k.enough; rises = k.rises; at_most = k.at_most }
  takes (Err fault) k = record { enough = (let h = k.rises in omega (arith, h)); rises = k.rises; at_most = k.at_most }

  cause : (answer : Result A PushFault) → FinishAnswers t.held t.spent.faults new.spent.faults aim.level answer → t.spent.faults ≡ s.spent.faults →
      IfErr (lifted answer) (StepCause aim s.spent.faults (state new t.merger t.steps))
  cause (Ok a) h e = tt
  cause (Err push.Device) h e = subst (λ (x : ℕ). Rose x new.spent.faults) e h.0
  cause (Err (push.Overfull number)) h e = absurd h

  calm : (answer : Result A PushFault) → FinishAnswers t.held t.spent.faults new.spent.faults aim.level answer → WriteCalm t.spent.faults new.spent.faults answer → t.spent.faults ≡ s.spent.faults →
      IsCalm s.spent.faults new.spent.faults (lifted answer)
  calm (Ok a) h k e = k ∙ e
  calm (Err push.Device) h k e = tt
  calm (Err (push.Overfull number)) h k e = absurd h

  only : (answer : Result A PushFault) → FinishAnswers t.held t.spent.faults new.spent.faults aim.level answer → IfErr (lifted answer) IsDevice
  only (Ok a) h = tt
  only (Err push.Device) h = tt
  only (Err (push.Overfull number)) h = absurd h

  turned : (answer : Result A PushFault) → TurnsWithin aim s t → OnOk (lifted answer) (TurnsWithin aim s (state new t.merger t.steps))
  turned (Ok a) h = same w.writes.turned_is (left_same (object_of t) new aim t.merger result f moves.ready w s.held.fixed.doublings) h
    where
      same : {x y a b z : ℕ} → x ≡ y → a ≡ b → y + b ≤ z → x + a ≤ z
      same e f h = omega (arith, e, f, h)
  turned (Err fault) h = tt

  -- the merge after the finish
  pub finished : Moves aim s (state new t.merger t.steps) (lifted result)
  finished =
      let grew : Grows t.held new.held aim.level = finish_grows (object_of t) new aim.level result f in
      let e : (new.held.shadows aim.level).len ≡ (t.held.shadows aim.level).len = len_same (object_of t) new aim.level result f in
      record {
        ready = ready-stays grew moves.ready;
        grows = grows_then moves.grows grew;
        lasts = λ buffer b l k n d. lasts_keep (object_of t) new aim t.merger result f moves.ready w buffer l k n d ∙ moves.lasts buffer b l k n d;
        takes = takes result moves.takes;
        rises = moves.rises;
        emits = (let h = moves.emits in omega (arith, e, h));
        samples = (let h = moves.samples in omega (arith, e, h));
        builds = λ tells told. build_same (object_of t) new aim t.merger result f moves.ready ∙ moves.builds tells told;
        told = λ tells h. shadow_told (object_of t) new aim.level result f (moves.told tells h);
        cut = λ going.
            let g = moves.cut going in
            record {
              going = still_going (object_of t) new aim t.merger result f moves.ready g.going;
              own_stays = own_same (object_of t) new aim t.merger result f moves.ready ∙ g.own_stays;
              incoming_stays = incoming_same (object_of t) new aim t.merger result f moves.ready ∙ g.incoming_stays;
              keys_stay = keys_same (object_of t) new aim t.merger result f moves.ready ∙ g.keys_stay;
              further = further result g.further;
            };
        whole = whole result moves.whole;
        cause = cause result f.answer moves.calm;
        calm = calm result f.answer f.calm moves.calm;
        only = λ going fits. only result f.answer;
        turned = turned result moves.turned;
      }
