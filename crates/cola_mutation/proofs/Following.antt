-- Levels that end a mutation stand at the next clock.
use Rattle.std.proofs.Common.{◌≡◌, inl, inr, ℕ, suc, ◌+◌, ◌-◌, ◌*◌, ◌<◌, ◌≤◌, Bool, true, false, cond, List, [], ◌∷◌, length, refl, ap, sym, subst, ◌∙◌, arith}
use mathlib.Core.Path.{ap₂}
use Rattle.std.proofs.lemmas.Bool.{true≢false}
use Rattle.cola_clock.specs.Clock.{period, is_odd, works, flips, ends, visible_slot, SameSchedule}
use Rattle.cola_clock.specs.Marks.{Marks, AreAllMarks, all_marks_after}
use Rattle.cola_clock.specs.declared.state.Part.TheVariants.{All}
use Rattle.cola_clock.proofs.Laws.{adjacent-rest, ends-works, ends-over, over-not_works, window-keeps_above, window-keeps_self, window-keeps_below, window-next, is_odd-next_stay}
use Rattle.cola_clock.proofs.Wrap.{slot-stays, slot-turns}
use Rattle.cola_cell.specs.declared.sink.Shadow.{Shadow}
use Rattle.cola_cell.specs.Held.{Held, Fixed}
use Rattle.cola_cell.specs.Places.{slot_size}
use Rattle.cola_merge.specs.declared.aims.Feed.TheVariants as feed
use Rattle.cola_merge.specs.declared.aims.Aim.{Aim}
use Rattle.cola_merge.specs.declared.merging.Merger.{Merger}
use Rattle.cola_merge.specs.Heads.{head_at, fresh, IsReady}
use Rattle.cola_transfers.specs.Chain.{sampled_slot}
use Rattle.cola_level.specs.declared.level.Level.{Level}
use Rattle.cola_level.specs.Marks.{marks_of, all_marks_of, out_of_window, flipped}
use Rattle.cola_level.specs.Aims.{aim_at, own_items, marks_young}
use Rattle.cola_mutation.specs.Levels.{Fits, AreFit}
use Rattle.cola_mutation.specs.Ends.{ended, all_ended, Restarted}
use Rattle.cola_mutation.proofs.Keeping.{FeedsStay, ready_stays}
use Rattle.cola_mutation.proofs.Readying.{FirstFits, first_fits, ready_fresh, slot_below}
use Rattle.cola_mutation.proofs.Restarting.{ended_flips, ended_leaves, ended_stays}

-- ---- marks

marks_choice : (a b : Bool) (l : Level) → marks_of (cond a (flipped l) (cond b (out_of_window l) l)) ≡
    cond a (record { visible = l.shadow; shadow = 0; own = l.merger.own.at; incoming = l.merger.incoming.at; sampled = l.merger.sample.at })
    (cond b (record { visible = l.visible; shadow = l.shadow; own = 0; incoming = 0; sampled = 0 }) (marks_of l))
marks_choice true b l = refl
marks_choice false true l = refl
marks_choice false false l = refl

pub all_marks_ended : (t j : ℕ) (ls : List Level) → all_marks_of (all_ended t j ls) ≡ all_marks_after t j (all_marks_of ls)
all_marks_ended t j [] = refl
all_marks_ended t j (l ∷ ls) = ap₂ (λ (m : Marks) (ms : List Marks). m ∷ ms) (marks_choice (flips t j) (ends t j) l) (all_marks_ended t (suc j) ls)

pub length_marks : (ls : List Level) → length (all_marks_of ls) ≡ length ls
length_marks [] = refl
length_marks (l ∷ ls) = ap suc (length_marks ls)

pub length_ended : (t j : ℕ) (ls : List Level) → length (all_ended t j ls) ≡ length ls
length_ended t j [] = refl
length_ended t j (l ∷ ls) = ap suc (length_ended t (suc j) ls)

-- ---- aims that stay

aim_by : (i own above x y z : ℕ) → Bool → List Marks → Aim
aim_by i own above x y z odd [] = record {
  level = suc i;
  slot = 1 - y;
  own = feed.Run (record { level = suc i; slot = y; len = own });
  incoming = feed.Run (record { level = i; slot = x; len = above });
  sample = feed.Nothing;
  part = All;
  young = false;
  bottom = true;
}
aim_by i own above x y z odd (next ∷ under) = record {
  level = suc i;
  slot = 1 - y;
  own = feed.Run (record { level = suc i; slot = y; len = own });
  incoming = feed.Run (record { level = i; slot = x; len = above });
  sample = feed.Sampled (record { level = suc (suc i); slot = cond odd (1 - z) z; len = cond odd next.shadow next.visible });
  part = own_items odd (next ∷ under);
  young = marks_young odd (next ∷ under);
  bottom = false;
}

aim_is : (t i own above : ℕ) (below : List Marks) → aim_at t i own above below ≡ aim_by i own above (visible_slot t i) (visible_slot t (suc i)) (visible_slot t (suc (suc i))) (is_odd (period t (suc i))) below
unfolding aim_by
aim_is t i own above [] = refl
aim_is t i own above (next ∷ under) = refl

by_last : (i own above x y z w : ℕ) (odd : Bool) (below : List Marks) → (0 < length below → z ≡ w) → aim_by i own above x y z odd below ≡ aim_by i own above x y w odd below
unfolding aim_by
by_last i own above x y z w odd [] h = refl
by_last i own above x y z w odd (next ∷ under) h = ap (λ (n : ℕ). aim_by i own above x y n odd (next ∷ under)) (h (omega arith))

-- an aim reads of the clock the slots of three levels and a parity
pub aim_alike : (t u i own above : ℕ) (below : List Marks) → visible_slot t i ≡ visible_slot u i → visible_slot t (suc i) ≡ visible_slot u (suc i) →
    (0 < length below → visible_slot t (suc (suc i)) ≡ visible_slot u (suc (suc i))) → is_odd (period t (suc i)) ≡ is_odd (period u (suc i)) → aim_at t i own above below ≡ aim_at u i own above below
aim_alike t u i own above below x y z odd =
    aim_is t i own above below
    ∙ ap (λ (n : ℕ). aim_by i own above n (visible_slot t (suc i)) (visible_slot t (suc (suc i))) (is_odd (period t (suc i))) below) x
    ∙ ap (λ (n : ℕ). aim_by i own above (visible_slot u i) n (visible_slot t (suc (suc i))) (is_odd (period t (suc i))) below) y
    ∙ by_last i own above (visible_slot u i) (visible_slot u (suc i)) (visible_slot t (suc (suc i))) (visible_slot u (suc (suc i))) (is_odd (period t (suc i))) below z
    ∙ ap (λ (b : Bool). aim_by i own above (visible_slot u i) (visible_slot u (suc i)) (visible_slot u (suc (suc i))) b below) odd
    ∙ sym (aim_is u i own above below)

aim_below : (t i own above : ℕ) (ls : List Level) → flips t (suc (suc i)) ≡ false → ends t (suc (suc i)) ≡ false →
    aim_at t i own above (all_marks_of ls) ≡ aim_at t i own above (all_marks_of (all_ended t (suc (suc i)) ls))
aim_below t i own above [] f e = refl
aim_below t i own above (l ∷ ls) f e = ap (λ (x : Level). aim_at t i own above (marks_of x ∷ [])) (sym (ended_stays t (suc (suc i)) l f e))

feeds_restarted : {a b : Held} (t n i own above : ℕ) (below : List Marks) → Restarted t 0 n a b → flips t i ≡ false → flips t (suc i) ≡ false → flips t (suc (suc i)) ≡ false → FeedsStay a b (aim_at t i own above below)
feeds_restarted t n i own above [] r x y z = record {
  own = λ k. r.spots_stay (suc i) (visible_slot t (suc i)) k (inl (inr (inr y)));
  incoming = λ k. r.spots_stay i (visible_slot t i) k (inl (inr (inr x)));
  sample = λ k. refl;
}
feeds_restarted t n i own above (next ∷ under) r x y z = record {
  own = λ k. r.spots_stay (suc i) (visible_slot t (suc i)) k (inl (inr (inr y)));
  incoming = λ k. r.spots_stay i (visible_slot t i) k (inl (inr (inr x)));
  sample = λ k. r.spots_stay (suc (suc i)) (sampled_slot t (suc i)) (8 * k + 7) (inl (inr (inr z)));
}

-- ---- heads that stay, or are let go

pub merger_choice : (a b : Bool) (l : Level) → l.merger ≡ fresh → (cond a (flipped l) (cond b (out_of_window l) l)).merger ≡ fresh
merger_choice true b l e = ap (λ (m : Merger). record { own = head_at m.own.at; incoming = head_at m.incoming.at; sample = head_at m.sample.at }) e
merger_choice false true l e = refl
merger_choice false false l e = e

not_true : (b : Bool) → (b ≡ true → ⊥) → b ≡ false
not_true true h = absurd (h refl)
not_true false h = refl

-- a window that goes on does not end
pub goes_on : (t i : ℕ) → works (suc t) (suc i) ≡ true → ends t (suc i) ≡ false
goes_on t i w = not_true (ends t (suc i)) (λ e. true≢false (sym w ∙ over-not_works (suc t) i (ends-over t i e)))

pub rests_not_ends : (t j : ℕ) → works t j ≡ false → ends t j ≡ false
rests_not_ends t j w = not_true (ends t j) (λ e. true≢false (sym (ends-works t j e) ∙ w))

visible_choice : (b : Bool) (l : Level) → (cond b (out_of_window l) l).visible ≡ l.visible
visible_choice true l = refl
visible_choice false l = refl

pub visible_ended : (t j : ℕ) (l : Level) → flips t j ≡ false → (ended t j l).visible ≡ l.visible
visible_ended t j l f = ap (λ (b : Bool). (cond b (flipped l) (cond (ends t j) (out_of_window l) l)).visible) f ∙ visible_choice (ends t j) l

shadow_choice : (b : Bool) (l : Level) → (cond b (out_of_window l) l).shadow ≡ l.shadow
shadow_choice true l = refl
shadow_choice false l = refl

shadow_ended : (t j : ℕ) (l : Level) → flips t j ≡ false → (ended t j l).shadow ≡ l.shadow
shadow_ended t j l f = ap (λ (b : Bool). (cond b (flipped l) (cond (ends t j) (out_of_window l) l)).shadow) f ∙ shadow_choice (ends t j) l

-- ---- one level at the next clock

module _ (a b : Held) (t n i above above_next : ℕ) (l : Level) (ls : List Level) where
  shadow_next : (c : Bool) → flips t (suc i) ≡ c → Restarted t 0 n a b → suc i < n → Fits a t i above l (all_marks_of ls) → (ended t (suc i) l).shadow ≡ (b.shadows (suc i)).len
  shadow_next true f r h fits = ap (λ (x : Level). x.shadow) (ended_flips t (suc i) l f) ∙ sym (ap (λ (s : Shadow). s.len) (r.flipped (suc i) (omega arith) (omega (arith, h)) f))
  shadow_next false f r h fits = shadow_ended t (suc i) l f ∙ fits.shadow_is ∙ ap (λ (s : Shadow). s.len) (sym (r.others_stay (suc i) (inr (inr f))))

  slot_next : (c : Bool) → flips t (suc i) ≡ c → Restarted t 0 n a b → suc i < n → Fits a t i above l (all_marks_of ls) → (b.shadows (suc i)).slot ≡ 1 - visible_slot (suc t) (suc i)
  slot_next true f r h fits =
      ap (λ (s : Shadow). s.slot) (r.flipped (suc i) (omega arith) (omega (arith, h)) f)
      ∙ (let v = slot_below t (suc i) in let e : visible_slot t (suc i) ≡ 1 - (1 - visible_slot t (suc i)) = omega (arith, v) in e)
      ∙ ap (λ (x : ℕ). 1 - x) (sym (slot-turns t (suc i) f))
  slot_next false f r h fits =
      ap (λ (s : Shadow). s.slot) (r.others_stay (suc i) (inr (inr f))) ∙ fits.slot_is ∙ ap (λ (x : ℕ). 1 - x) (sym (slot-stays t (suc i) f))

  -- a level that goes on working has the aim that it had
  ready_on : Restarted t 0 n a b → works t (suc i) ≡ true → works (suc t) (suc i) ≡ true → (flips t i ≡ false → above_next ≡ above) → Fits a t i above l (all_marks_of ls) →
      IsReady b (aim_at (suc t) i (ended t (suc i) l).visible above_next (all_marks_of (all_ended t (suc (suc i)) ls))) (ended t (suc i) l).merger
  ready_on r w v same fits =
      let e : ends t (suc i) ≡ false = goes_on t i v in
      let x : flips t i ≡ false = window-keeps_above t i w e in
      let y : flips t (suc i) ≡ false = window-keeps_self t i w in
      let z : flips t (suc (suc i)) ≡ false = window-keeps_below t i w in
      let stays : ended t (suc i) l ≡ l = ended_stays t (suc i) l y e in
      let old : IsReady b (aim_at t i l.visible above (all_marks_of ls)) l.merger =
      ready_stays r.fixed_is (ap (λ (s : Shadow). s.slot) (r.others_stay (suc i) (inr (inr y)))) (feeds_restarted t n i l.visible above (all_marks_of ls) r x y z) (fits.ready w) in
      let aim : aim_at t i l.visible above (all_marks_of ls) ≡ aim_at (suc t) i l.visible above_next (all_marks_of (all_ended t (suc (suc i)) ls)) =
      aim_below t i l.visible above ls z (rests_not_ends t (suc (suc i)) (adjacent-rest t i w))
      ∙ ap (λ (m : ℕ). aim_at t i l.visible m (all_marks_of (all_ended t (suc (suc i)) ls))) (sym (same x))
      ∙ aim_alike t (suc t) i l.visible above_next (all_marks_of (all_ended t (suc (suc i)) ls)) (sym (slot-stays t i x)) (sym (slot-stays t (suc i) y)) (λ h. sym (slot-stays t (suc (suc i)) z)) (sym (is_odd-next_stay t (suc i) y)) in
      subst (λ (k : Level). IsReady b (aim_at (suc t) i k.visible above_next (all_marks_of (all_ended t (suc (suc i)) ls))) k.merger) (sym stays)
      (subst (λ (k : Aim). IsReady b k l.merger) aim old)

  merger_next : Fits a t i above l (all_marks_of ls) → works t (suc i) ≡ false → (ended t (suc i) l).merger ≡ fresh
  merger_next fits w = merger_choice (flips t (suc i)) (ends t (suc i)) l (fits.rests w)

  ready_next : (c : Bool) → works t (suc i) ≡ c → Restarted t 0 n a b → suc i < n → suc i < b.fixed.levels → (flips t i ≡ false → above_next ≡ above) → above_next ≤ slot_size i → (ended t (suc i) l).visible ≤ slot_size (suc i) →
      FirstFits b.fixed.levels (suc i) (all_marks_of (all_ended t (suc (suc i)) ls)) → Fits a t i above l (all_marks_of ls) → works (suc t) (suc i) ≡ true →
      IsReady b (aim_at (suc t) i (ended t (suc i) l).visible above_next (all_marks_of (all_ended t (suc (suc i)) ls))) (ended t (suc i) l).merger
  ready_next true w r h levels same above_fits visible_fits first fits v = ready_on r w v same fits
  ready_next false w r h levels same above_fits visible_fits first fits v =
      subst (λ (m : Merger). IsReady b (aim_at (suc t) i (ended t (suc i) l).visible above_next (all_marks_of (all_ended t (suc (suc i)) ls))) m) (sym (merger_next fits w))
      (ready_fresh (suc t) i (ended t (suc i) l).visible above_next (all_marks_of (all_ended t (suc (suc i)) ls)) levels (slot_next (flips t (suc i)) refl r h fits) visible_fits above_fits first)

  -- a level that stops working ends its window
  rests_next : (c : Bool) → works t (suc i) ≡ c → Fits a t i above l (all_marks_of ls) → works (suc t) (suc i) ≡ false → (ended t (suc i) l).merger ≡ fresh
  rests_next true w fits v = ap (λ (x : Level). x.merger) (ended_leaves t (suc i) l (window-keeps_self t i w) (over_now (ends t (suc i)) refl))
    where
      over_now : (e : Bool) → ends t (suc i) ≡ e → ends t (suc i) ≡ true
      over_now true e = e
      over_now false e = absurd (true≢false (sym (window-next t i w e) ∙ v))
  rests_next false w fits v = merger_next fits w

  fits_next : Restarted t 0 n a b → suc i < n → (flips t i ≡ false → above_next ≡ above) → above_next ≤ slot_size i → (ended t (suc i) l).visible ≤ slot_size (suc i) →
      FirstFits b.fixed.levels (suc i) (all_marks_of (all_ended t (suc (suc i)) ls)) → Fits a t i above l (all_marks_of ls) →
      Fits b (suc t) i above_next (ended t (suc i) l) (all_marks_of (all_ended t (suc (suc i)) ls))
  fits_next r h same above_fits visible_fits first fits =
      let levels : suc i < b.fixed.levels = subst (λ (f : Fixed). suc i < f.levels) (sym r.fixed_is) fits.level_in in
      record {
        level_in = levels;
        shadow_is = shadow_next (flips t (suc i)) refl r h fits;
        slot_is = slot_next (flips t (suc i)) refl r h fits;
        ready = λ v. ready_next (works t (suc i)) refl r h levels same above_fits visible_fits first fits v;
        rests = λ v. rests_next (works t (suc i)) refl fits v;
      }

-- ---- all levels at the next clock

pub all_fit_next : {a b : Held} (t n i above above_next : ℕ) (ls : List Level) → Restarted t 0 n a b → i + length ls < n → i + length ls < b.fixed.levels → (flips t i ≡ false → above_next ≡ above) → above_next ≤ slot_size i →
    AreAllMarks 0 (suc t) (suc i) above_next (all_marks_of (all_ended t (suc i) ls)) → AreFit a t i above ls → AreFit b (suc t) i above_next (all_ended t (suc i) ls)
all_fit_next t n i above above_next [] r h levels same fits marks f = tt
all_fit_next {a} {b} t n i above above_next (l ∷ ls) r h levels same fits marks f = (
  fits_next a b t n i above above_next l ls r (omega (arith, h)) same fits marks.0.visible_fits
      (first_fits 0 (suc t) (suc i) (ended t (suc i) l).visible b.fixed.levels (all_marks_of (all_ended t (suc (suc i)) ls))
      (let e = length_marks (all_ended t (suc (suc i)) ls) in let o = length_ended t (suc (suc i)) ls in omega (arith, e, o, levels)) marks.1) f.0,
  all_fit_next t n (suc i) l.visible (ended t (suc i) l).visible ls r (omega (arith, h)) (omega (arith, levels)) (visible_ended t (suc i) l) marks.0.visible_fits marks.1 f.1,
)

-- and at a clock that no level can tell from it
pub all_fit_same : (held : Held) (t u i above bottom : ℕ) (ls : List Level) → ((j : ℕ) → j ≤ bottom → SameSchedule u t j) → i + length ls ≤ bottom → AreFit held t i above ls → AreFit held u i above ls
all_fit_same held t u i above bottom [] same h f = tt
all_fit_same held t u i above bottom (l ∷ ls) same h f = (
  record {
    level_in = f.0.level_in;
    shadow_is = f.0.shadow_is;
    slot_is = f.0.slot_is ∙ ap (λ (x : ℕ). 1 - x) (sym (same (suc i) (omega (arith, h))).slot);
    ready = λ w. subst (λ (x : Aim). IsReady held x l.merger)
        (sym (aim_alike u t i l.visible above (all_marks_of ls) (same i (omega (arith, h))).slot (same (suc i) (omega (arith, h))).slot
        (λ more. (same (suc (suc i)) (let e = length_marks ls in omega (arith, h, e, more))).slot) (same (suc i) (omega (arith, h))).parity))
        (f.0.ready (sym (same (suc i) (omega (arith, h))).work ∙ w));
    rests = λ w. f.0.rests (sym (same (suc i) (omega (arith, h))).work ∙ w);
  },
  all_fit_same held t u (suc i) l.visible bottom ls same (omega (arith, h)) f.1,
)
