-- An accepted mutation of levels that stand for a map leaves levels that stand for the map with the key changed.
use Rattle.std.proofs.Common.{◌≡◌, ◌⊎◌, inl, inr, ℕ, zero, suc, ◌+◌, ◌-◌, ◌%◌, ◌^◌, ◌<◌, ◌≤◌, Bool, true, false, List, ◌∷◌, length, Option, Ok, refl, ap, sym, subst, ◌∙◌, arith}
use Rattle.std.proofs.lemmas.Bool.{true≢false}
use Rattle.std.specs.Cmp.Lexicographic.{nat_list_cmp_total}
use Rattle.cola_clock.specs.Clock.{period, is_odd, works, flips, ends, is_over, visible_slot, SameSchedule}
use Rattle.cola_clock.specs.Marks.{Marks, merge_steps, all_marks_after}
use Rattle.cola_clock.proofs.Laws.{flips-over, over-not_works, flips-not_over, not_over-next}
use Rattle.cola_clock.proofs.Wrap.{schedule-wrap}
use Rattle.cola_runs.specs.Weave.{Part, weave}
use Rattle.cola_laws.specs.Chain.{part_of, next_runs, first_keys, updated}
use Rattle.cola_laws.specs.Chain.{Level as LawLevel}
use Rattle.cola_laws.specs.Sound.{HasAtMost}
use Rattle.cola_laws.specs.Mutation.{AreAdvanced, IsBuilt, new_run}
use Rattle.cola_laws.specs.Plain.{IsSoundChain}
use Rattle.cola_laws.proofs.Mutations.{advanced-part, advanced-next_runs}
use Rattle.cola_laws.proofs.SlotSteps.{mutation-in-slots}
use Rattle.cola_cell.specs.declared.cell.Item.{Item}
use Rattle.cola_cell.specs.declared.sink.Shadow.{Shadow}
use Rattle.cola_cell.specs.Held.{Held, Fixed, Spot, Stamped, LawCell, as_item}
use Rattle.cola_cell.specs.Order.{key_cmp}
use Rattle.cola_cell.specs.Places.{IsPlace}
use Rattle.cola_cell.specs.Shadows.{IsKept}
use Rattle.cola_cell.specs.ToldCells.{IsTold, AreTold, shadow_cells}
use Rattle.cola_cell.proofs.CellLists.{cells-same}
use Rattle.cola_image.specs.Standing.{AreRunsTold, IsSlotAlike, AreRunsAlike}
use Rattle.cola_image.proofs.CellsLemmas.{levels-alike, runs-told}
use Rattle.cola_merge.specs.declared.merging.Merger.{Merger}
use Rattle.cola_level.specs.declared.level.Level.{Level}
use Rattle.cola_level.specs.Marks.{marks_of, all_marks_of}
use Rattle.cola_level.specs.Standing.{slot_cells, visible_cells, stood, all_stood}
use Rattle.cola_mutation.specs.Levels.{IsChain}
use Rattle.cola_mutation.specs.Work.{WorkState, with_shadow, AllAdvance}
use Rattle.cola_mutation.specs.Ends.{all_ended, Restarted}
use Rattle.cola_mutation.specs.Standing.{StandsFor, new_cell}
use Rattle.cola_mutation.proofs.Advancing.{cells_stay, visible_apart, telling_stays}
use Rattle.cola_mutation.proofs.Readying.{top_quiet, length_levels}
use Rattle.cola_mutation.proofs.Building.{small_slot}
use Rattle.cola_mutation.proofs.Following.{all_marks_ended, length_marks, length_ended}
use Rattle.cola_mutation.proofs.Lasting.{alike_grown, alike_then, alike_restarted, slots_of, told_next, told_same}
use Rattle.cola_mutation.proofs.Meaning.{can_all_turn, sound_after, whole_is, CanBuild, can_build}
use Rattle.cola_mutation.proofs.Accepting.{Accepted, keeps_top}

-- ---- the clock

zero_not_over : (t : ℕ) → is_over t 0 ≡ false
unfolding is_over
zero_not_over t = refl

flip_is_over : (t l : ℕ) → 0 < l → flips t l ≡ true → is_over t l ≡ true
flip_is_over t zero h f = absurd (omega (arith, h))
flip_is_over t (suc l) h f = flips-over t l f

pub over_rests : (t l : ℕ) → is_over t l ≡ true → works t l ≡ false
over_rests t zero o = absurd (true≢false (sym o ∙ zero_not_over t))
over_rests t (suc l) o = over-not_works t l o

pub over_above : (t l : ℕ) → is_over t l ≡ true → 0 < l
over_above t zero o = absurd (true≢false (sym o ∙ zero_not_over t))
over_above t (suc l) o = omega arith

-- a window that is over at the next clock was over, or ends
was_over : (t l : ℕ) (c e : Bool) → is_over t l ≡ c → ends t l ≡ e → is_over (suc t) l ≡ true → (is_over t l ≡ true) ⊎ (ends t l ≡ true)
was_over t l true e o x h = inl o
was_over t l false true o x h = inr x
was_over t zero false false o x h = absurd (true≢false (sym h ∙ zero_not_over (suc t)))
was_over t (suc l) false false o x h = absurd (true≢false (sym h ∙ not_over-next t l o x))

over_stays : (t l : ℕ) (c : Bool) → flips t l ≡ c → is_over (suc t) l ≡ true → flips t l ≡ false
over_stays t l false f h = f
over_stays t zero true f h = absurd (true≢false (sym h ∙ zero_not_over (suc t)))
over_stays t (suc l) true f h = absurd (true≢false (sym h ∙ flips-not_over t l f))

-- ---- cells

pub slot_same : (a b : Held) (l s n : ℕ) → IsSlotAlike a.spots b.spots l s n → slot_cells b l s n ≡ slot_cells a l s n
slot_same a b l s n same = cells-same (b.spots l s) (a.spots l s) 0 n (λ k h. same k (omega (arith, h)))

module _ (s u : WorkState) (v : Held) (most t : ℕ) (key : List ℕ) (item : Item) (top next : Level) (below under : List Level) (m : List ℕ → Option Stamped) where
  abbrev after_marks : List Marks
  after_marks = all_marks_of (with_shadow top (u.held.shadows 0).len ∷ next ∷ under)

  abbrev Done : Type 0
  Done = Accepted t (new_cell key item) s u top (with_shadow top (u.held.shadows 0).len) below (next ∷ under)

  abbrev Turned : Type 0
  Turned = Restarted t 0 (suc (length (next ∷ under))) u.held v

  many : Done → length (next ∷ under) ≡ length below
  many a = length_levels t 0 below (next ∷ under) a.turns.turned

  -- a shadow whose window is over stays until the levels flip
  saved_until : IsChain s.held t (top ∷ below) → StandsFor s.held most t (top ∷ below) m → (a : Done) → (l : ℕ) → l ≤ length below → is_over t l ≡ true → (a.mid.held.shadows l).saved ≡ true
  saved_until chain stand a l h o = ap (λ (x : Shadow). x.saved) (a.turns.keeps.shadows_stay l (inr (over_rests t l o))) ∙ stand.saved l (omega (arith, h)) o

  same_after : (a : Done) (l : ℕ) → 0 < l → u.held.shadows l ≡ a.mid.held.shadows l
  same_after a l h = a.builds.grows.around.shadows_stay l (λ e. let x : l ≡ 0 = e in omega (arith, x, h))

  kept_after : IsChain s.held t (top ∷ below) → StandsFor s.held most t (top ∷ below) m → (a : Done) → (l : ℕ) → l ≤ length below → flips t l ≡ true → IsKept u.held l
  kept_after chain stand a zero h f = record { is = inr (small_slot u.held.fixed.doublings) }
  kept_after chain stand a (suc l) h f = record {
    is = inl (ap (λ (x : Shadow). x.saved) (same_after a (suc l) (omega arith)) ∙ saved_until chain stand a (suc l) h (flips-over t l f));
  }

  slot_after : IsChain s.held t (top ∷ below) → (a : Done) → (l : ℕ) → l ≤ length below → (u.held.shadows l).slot ≡ 1 - visible_slot t l
  slot_after chain a zero h = a.builds.grows.slot_is ∙ a.turns.keeps.slots_stay 0 ∙ chain.fit.0.slot_is
  slot_after chain a (suc l) h =
      (keeps_top a.builds.grows).slots_stay (suc l) ∙ slots_of a.mid.held t 0 top.visible (next ∷ under) a.turns.fit (suc l) (omega arith) (let e = many a in omega (arith, e, h))

  -- the end of the mutation leaves the runs that it needs
  alike_end : IsChain s.held t (top ∷ below) → StandsFor s.held most t (top ∷ below) m → (a : Done) → Turned → AreRunsAlike u.held.spots v.spots t 0 after_marks
  alike_end chain stand a r =
      let e = many a in
      let f = length_marks under in
      alike_restarted t (suc (length (next ∷ under))) 0 after_marks r (λ l lo hi. slot_after chain a l (omega (arith, hi, e, f))) (λ l lo hi flip. kept_after chain stand a l (omega (arith, hi, e, f)) flip)

  all_advance : StandsFor s.held most t (top ∷ below) m → most ≤ 2 ^ (suc (length below) + 1) → (a : Done) →
      AllAdvance {A = Unit {0}} s.held a.mid.held t 0 top.visible (all_marks_of below) (all_marks_of (next ∷ under)) (Ok tt)
  all_advance stand room a = a.turns.advance (can_all_turn s.held most t top below m stand room)

  visible_mid : StandsFor s.held most t (top ∷ below) m → (a : Done) → AreTold (a.mid.held.spots 0 (visible_slot t 0)) top.visible
  visible_mid stand a = λ n h. subst (λ (x : Spot). IsTold x) (sym (a.turns.keeps.spots_stay 0 (visible_slot t 0) n (inl (top_quiet t)))) (stand.told.0 n h)

  built_by : IsChain s.held t (top ∷ below) → StandsFor s.held most t (top ∷ below) m → most ≤ 2 ^ (suc (length below) + 1) → (a : Done) → CanBuild a.mid.held t top.visible (new_cell key item) (all_marks_of (next ∷ under))
  built_by chain stand room a =
      let adv = all_advance stand room a in
      can_build a.mid.held most merge_steps t key item top next under m (telling_stays a.turns.keeps stand.tells)
      (ap (λ (x : Shadow). x.len) (a.turns.keeps.shadows_stay 0 (top_quiet t)) ∙ chain.fit.0.empty) (visible_mid stand a) adv.told
      (sound_after s.held a.mid.held most merge_steps t top below (next ∷ under) m stand a.turns.keeps adv.advanced)
      (subst (λ (n : ℕ). most ≤ 2 ^ (suc n + 1)) (sym (many a)) room)

  -- the visible run of level 0 has the cells that it had
  top_stays : IsChain s.held t (top ∷ below) → (a : Done) → visible_cells u.held t 0 top.visible ≡ visible_cells s.held t 0 top.visible
  top_stays chain a =
      cells_stay 0 (visible_slot t 0) top.visible (keeps_top a.builds.grows) (inr (visible_apart t 0 (a.mid.held.shadows 0).slot (a.turns.keeps.slots_stay 0 ∙ chain.fit.0.slot_is)))
      ∙ cells_stay 0 (visible_slot t 0) top.visible a.turns.keeps (inl (top_quiet t))

  -- level 0 is built as the laws have it
  built_whole : IsChain s.held t (top ∷ below) → StandsFor s.held most t (top ∷ below) m → most ≤ 2 ^ (suc (length below) + 1) → (a : Done) →
      shadow_cells u.held 0 ≡ weave key_cmp (part_of (is_odd (period t 0)) (all_stood s.held t 1 (all_marks_of below))) (visible_cells s.held t 0 top.visible) (new_run key (as_item item)) (first_keys (next_runs t 0 (all_stood s.held t 1 (all_marks_of below))))
  built_whole chain stand room a =
      let adv = all_advance stand room a in
      let ls : List (LawLevel (List ℕ) Stamped) = all_stood s.held t 1 (all_marks_of below) in
      let ms : List (LawLevel (List ℕ) Stamped) = all_stood a.mid.held t 1 (all_marks_of (next ∷ under)) in
      a.builds.whole (built_by chain stand room a).going
      ∙ whole_is a.mid.held t top.visible key item (all_marks_of (next ∷ under))
      ∙ ap (λ (p : Part). weave key_cmp p (visible_cells a.mid.held t 0 top.visible) (new_run key (as_item item)) (first_keys (next_runs t 0 ms))) (sym (advanced-part key_cmp merge_steps t 0 (is_odd (period t 0)) (visible_cells s.held t 0 top.visible) ls ms adv.advanced))
      ∙ ap (λ (cs : List LawCell). weave key_cmp (part_of (is_odd (period t 0)) ls) cs (new_run key (as_item item)) (first_keys (next_runs t 0 ms))) (cells_stay 0 (visible_slot t 0) top.visible a.turns.keeps (inl (top_quiet t)))
      ∙ ap (λ (rs : List (List LawCell)). weave key_cmp (part_of (is_odd (period t 0)) ls) (visible_cells s.held t 0 top.visible) (new_run key (as_item item)) (first_keys rs)) (sym (advanced-next_runs key_cmp merge_steps t 0 (visible_cells s.held t 0 top.visible) ls ms adv.advanced))

  is_built : IsChain s.held t (top ∷ below) → StandsFor s.held most t (top ∷ below) m → most ≤ 2 ^ (suc (length below) + 1) → (a : Done) → Turned →
      IsBuilt key_cmp t key (as_item item) (stood s.held t 0 (marks_of top)) (all_stood s.held t 1 (all_marks_of below)) (stood v t 0 (marks_of (with_shadow top (u.held.shadows 0).len)))
  is_built chain stand room a r =
      let alike = alike_end chain stand a r in
      record {
        visible = slot_same u.held v 0 (visible_slot t 0) top.visible alike.0 ∙ top_stays chain a;
        shadow =
            slot_same u.held v 0 (1 - visible_slot t 0) (u.held.shadows 0).len alike.1
            ∙ ap (λ (x : ℕ). slot_cells u.held 0 x (u.held.shadows 0).len) (sym (slot_after chain a 0 (omega arith)))
            ∙ built_whole chain stand room a;
        at_rest = record {
          own_rests = ap (λ (x : Merger). x.own.at) chain.fit.0.merger;
          incoming_rests = ap (λ (x : Merger). x.incoming.at) chain.fit.0.merger;
          sampled_rests = ap (λ (x : Merger). x.sample.at) chain.fit.0.merger;
        };
      }

  others_alike : IsChain s.held t (top ∷ below) → StandsFor s.held most t (top ∷ below) m → (a : Done) → Turned → AreRunsAlike a.mid.held.spots v.spots t 1 (all_marks_of (next ∷ under))
  others_alike chain stand a r = alike_then a.mid.held.spots u.held.spots v.spots t 1 (all_marks_of (next ∷ under)) (alike_grown t 0 (all_marks_of (next ∷ under)) a.builds.grows) (alike_end chain stand a r).2

  sound_next : IsChain s.held t (top ∷ below) → StandsFor s.held most t (top ∷ below) m → most ≤ 2 ^ (suc (length below) + 1) → HasAtMost key_cmp most (updated key_cmp key (as_item item) m) → (a : Done) → Turned →
      IsSoundChain key_cmp most (suc t % 2 ^ suc (length below)) (updated key_cmp key (as_item item) m) (all_stood v (suc t % 2 ^ suc (length below)) 0 (all_marks_of (all_ended t 0 (with_shadow top (u.held.shadows 0).len ∷ next ∷ under))))
  sound_next chain stand room few a r =
      let adv = all_advance stand room a in
      let others : all_stood v t 1 (all_marks_of (next ∷ under)) ≡ all_stood a.mid.held t 1 (all_marks_of (next ∷ under)) =
      levels-alike a.mid.held.spots v.spots t 1 (all_marks_of (next ∷ under)) (others_alike chain stand a r) in
      let f = length_marks below in
      let e : suc (length below) + 1 ≡ length (all_marks_of below) + 2 = omega (arith, f) in
      let wide : most ≤ 2 ^ (length (all_marks_of below) + 2) = subst (λ (n : ℕ). most ≤ 2 ^ n) e room in
      let sound = mutation-in-slots nat_list_cmp_total most (slot_cells s.held) (slot_cells v) (λ j k. refl) t m key (as_item item) (marks_of top) (marks_of (with_shadow top (u.held.shadows 0).len)) (all_marks_of below) (all_marks_of (next ∷ under))
      stand.sound (is_built chain stand room a r)
      (subst (λ (ls : List (LawLevel (List ℕ) Stamped)). AreAdvanced key_cmp merge_steps t 1 (visible_cells s.held t 0 top.visible) (all_stood s.held t 1 (all_marks_of below)) ls) (sym others) adv.advanced) wide few in
      let same : length (all_marks_of (next ∷ under)) ≡ length below = length_marks (next ∷ under) ∙ many a in
      subst (λ (ms : List Marks). IsSoundChain key_cmp most (suc t % 2 ^ suc (length below)) (updated key_cmp key (as_item item) m) (all_stood v (suc t % 2 ^ suc (length below)) 0 ms)) (sym (all_marks_ended t 0 (with_shadow top (u.held.shadows 0).len ∷ next ∷ under)))
      (subst (λ (n : ℕ). IsSoundChain key_cmp most (suc t % 2 ^ suc n) (updated key_cmp key (as_item item) m) (all_stood v (suc t % 2 ^ suc n) 0 (all_marks_after t 0 after_marks))) same sound)

  schedule : (l : ℕ) → l ≤ length below → SameSchedule (suc t % 2 ^ suc (length below)) (suc t) l
  schedule l h = schedule-wrap (suc t) (length below) l h

  shadow_told : IsChain s.held t (top ∷ below) → StandsFor s.held most t (top ∷ below) m → (a : Done) → AreTold (u.held.spots 0 (1 - visible_slot t 0)) (u.held.shadows 0).len
  shadow_told chain stand a = subst (λ (x : ℕ). AreTold (u.held.spots 0 x) (u.held.shadows 0).len) (slot_after chain a 0 (omega arith)) (a.builds.told (telling_stays a.turns.keeps stand.tells))

  visible_after : IsChain s.held t (top ∷ below) → StandsFor s.held most t (top ∷ below) m → (a : Done) → AreTold (u.held.spots 0 (visible_slot t 0)) top.visible
  visible_after chain stand a = λ n h.
      subst (λ (x : Spot). IsTold x) (sym ((keeps_top a.builds.grows).spots_stay 0 (visible_slot t 0) n (inr (visible_apart t 0 (a.mid.held.shadows 0).slot (a.turns.keeps.slots_stay 0 ∙ chain.fit.0.slot_is)))))
      (visible_mid stand a n h)

  told_after : IsChain s.held t (top ∷ below) → StandsFor s.held most t (top ∷ below) m → most ≤ 2 ^ (suc (length below) + 1) → (a : Done) → Turned →
      AreRunsTold v.spots (suc t % 2 ^ suc (length below)) 0 (all_marks_of (all_ended t 0 (with_shadow top (u.held.shadows 0).len ∷ next ∷ under)))
  told_after chain stand room a r =
      let adv = all_advance stand room a in
      let u_told : AreRunsTold u.held.spots t 0 after_marks = (
        visible_after chain stand a,
        shadow_told chain stand a,
        runs-told a.mid.held.spots u.held.spots t 1 (all_marks_of (next ∷ under)) (alike_grown t 0 (all_marks_of (next ∷ under)) a.builds.grows) adv.told,
      ) in
      let v_told = runs-told u.held.spots v.spots t 0 after_marks (alike_end chain stand a r) u_told in
      let ms : List Marks = all_marks_of (all_ended t 0 (with_shadow top (u.held.shadows 0).len ∷ next ∷ under)) in
      let next_told : AreRunsTold v.spots (suc t) 0 ms = subst (λ (xs : List Marks). AreRunsTold v.spots (suc t) 0 xs) (sym (all_marks_ended t 0 (with_shadow top (u.held.shadows 0).len ∷ next ∷ under))) (told_next v.spots t 0 after_marks v_told) in
      let e = length_marks (all_ended t 0 (with_shadow top (u.held.shadows 0).len ∷ next ∷ under)) in
      let f = length_ended t 0 (with_shadow top (u.held.shadows 0).len ∷ next ∷ under) in
      let g = many a in
      told_same v.spots (suc t) (suc t % 2 ^ suc (length below)) 0 (length below) ms schedule (omega (arith, e, f, g)) next_told

  saved_by : IsChain s.held t (top ∷ below) → StandsFor s.held most t (top ∷ below) m → (a : Done) → (l : ℕ) → l ≤ length below → (is_over t l ≡ true) ⊎ (ends t l ≡ true) → 0 < l → (a.mid.held.shadows l).saved ≡ true
  saved_by chain stand a l h (inl o) z = saved_until chain stand a l h o
  saved_by chain stand a l h (inr e) z = a.turns.saved chain.marks.0.visible_fits chain.marks.1 l z (let g = many a in omega (arith, g, h)) e

  saved_after : IsChain s.held t (top ∷ below) → StandsFor s.held most t (top ∷ below) m → (a : Done) → Turned → (l : ℕ) → l ≤ length below → is_over (suc t) l ≡ true → (v.shadows l).saved ≡ true
  saved_after chain stand a r l h o =
      let stays : flips t l ≡ false = over_stays t l (flips t l) refl o in
      ap (λ (x : Shadow). x.saved) (r.others_stay l (inr (inr stays)))
      ∙ ap (λ (x : Shadow). x.saved) (same_after a l (over_above (suc t) l o))
      ∙ saved_by chain stand a l h (was_over t l (is_over t l) (ends t l) refl refl o) (over_above (suc t) l o)

  pub stands_next : IsChain s.held t (top ∷ below) → StandsFor s.held most t (top ∷ below) m → most ≤ 2 ^ (suc (length below) + 1) → HasAtMost key_cmp most (updated key_cmp key (as_item item) m) → (a : Done) → Turned →
      StandsFor v most (suc t % 2 ^ suc (length below)) (all_ended t 0 (with_shadow top (u.held.shadows 0).len ∷ next ∷ under)) (updated key_cmp key (as_item item) m)
  stands_next chain stand room few a r = record {
    tells = λ l k n p. r.telling_is l k n ∙ telling_stays (keeps_top a.builds.grows) (telling_stays a.turns.keeps stand.tells) l k n (subst (λ (x : Fixed). IsPlace x.levels l k n) r.fixed_is p);
    told = told_after chain stand room a r;
    saved = λ l h o.
        let f = length_ended t 0 (with_shadow top (u.held.shadows 0).len ∷ next ∷ under) in
        let g = many a in
        let lo : l ≤ length below = omega (arith, h, f, g) in
        saved_after chain stand a r l lo (sym (schedule l lo).over ∙ o);
    sound = sound_next chain stand room few a r;
  }
