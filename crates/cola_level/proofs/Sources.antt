-- What aims read, as the laws of levels have it; and the runs that stay.
use Rattle.std.proofs.Common.{◌≡◌, ◌≢◌, ◌⊎◌, inl, inr, ℕ, suc, ◌-◌, ◌<◌, ◌≤◌, Bool, true, false, not, cond, if◌then◌else◌, List, [], ◌∷◌, Some, None, refl, ap, sym, ◌∙◌, arith}
use Rattle.std.specs.List.{slice_get}
use Rattle.std.proofs.lemmas.Option.{none-some}
use Rattle.cola_clock.specs.Clock.{period, is_odd, visible_slot}
use Rattle.cola_clock.specs.Marks.{Marks, sample_end}
use Rattle.cola_clock.specs.declared.state.Part.TheVariants.{All, Young}
use Rattle.cola_runs.specs.Cells.{sample}
use Rattle.cola_laws.specs.Chain as chain
use Rattle.cola_laws.specs.Chain.{upper_part, part_of, next_runs, first_keys}
use Rattle.cola_laws.proofs.Facts.{sampled-nothing, sampled-run}
use Rattle.cola_cell.specs.Held.{Held, LawCell, Stamped}
use Rattle.cola_cell.proofs.CellLists.{cells-same}
use Rattle.cola_merge.specs.declared.aims.Aim.{Aim}
use Rattle.cola_merge.specs.declared.aims.Feed.{Feed}
use Rattle.cola_merge.specs.declared.aims.Feed.TheVariants as feed
use Rattle.cola_cell.specs.declared.cell.Run.{Run}
use Rattle.cola_bottom.specs.Bottom.{bottom_of}
use Rattle.cola_merge.specs.Feeds as merge
use Rattle.cola_merge.specs.Feeds.{takes_young, feed_len, feed_keys}
use Rattle.cola_merge.specs.States.{Grows}
use Rattle.cola_merge.proofs.ToldRuns.{sampled_feed}
use Rattle.cola_level.specs.declared.level.Level.{Level}
use Rattle.cola_level.specs.Marks.{marks_of, all_marks_of}
use Rattle.cola_level.specs.Aims.{visible_run, sampled_run, sample_of, aim_with, aim_at}
use Rattle.cola_level.specs.Standing.{slot_cells, stood, all_stood}

slot_chosen : (f : ℕ → ℕ → List LawCell) (odd : Bool) (p q m n : ℕ) → f (if odd then p else q) (cond odd m n) ≡ cond odd (f p m) (f q n)
slot_chosen f true p q m n = refl
slot_chosen f false p q m n = refl

-- what a level samples
pub keys_of_next : (held : Held) (t j : ℕ) (below : List Marks) → feed_keys held (sample_of t j below) ≡ first_keys (next_runs t j (all_stood held t (suc j) below))
keys_of_next held t j [] = sym (sampled-nothing (List ℕ) Stamped t j)
keys_of_next held t j (next ∷ under) =
    sampled_feed held (sampled_run t j next)
    ∙ ap (λ (x : List LawCell). sample x) (slot_chosen (slot_cells held (suc j)) (is_odd (period t j)) (1 - visible_slot t (suc j)) (visible_slot t (suc j)) next.shadow next.visible)
    ∙ sym (sampled-run t j (stood held t (suc j) next) (all_stood held t (suc (suc j)) under))

part_chosen : (odd : Bool) → record { only_young = takes_young (if odd then Young else All); marks_young = not odd; drops_tombstones = false } ≡ upper_part odd
part_chosen true = refl
part_chosen false = refl

-- the part that a level builds
pub part_of_aim : (held : Held) (t j own : ℕ) (incoming : Feed) (below : List Marks) → merge.part_of (aim_with t j own incoming below) ≡ part_of (is_odd (period t j)) (all_stood held t (suc j) below)
part_of_aim held t j own incoming [] = refl
part_of_aim held t j own incoming (next ∷ under) = part_chosen (is_odd (period t j))

-- how many keys a level samples
pub sample_len : (t j : ℕ) (below : List Marks) → feed_len (sample_of t j below) ≡ sample_end (is_odd (period t j)) below
sample_len t j [] = refl
sample_len t j (next ∷ under) = refl

-- ---- the runs that stay while a shadow grows

module _ (old new : Held) (level : ℕ) (grows : Grows old new level) where
  pub slot_stays : (j s count : ℕ) → (j ≢ level) ⊎ (s ≢ (old.shadows level).slot) → slot_cells new j s count ≡ slot_cells old j s count
  slot_stays j s count d = cells-same (new.spots j s) (old.spots j s) 0 count (λ k h. grows.others_stay j s k (wider d))
    where
      wider : {P : Type 0} → (j ≢ level) ⊎ (s ≢ (old.shadows level).slot) → (j ≢ level) ⊎ (s ≢ (old.shadows level).slot) ⊎ P
      wider (inl d) = inl d
      wider (inr d) = inr (inl d)

  pub level_stays : (t j : ℕ) (m : Marks) → j ≢ level → stood new t j m ≡ stood old t j m
  level_stays t j m d =
      ap (λ (x : List LawCell). record { visible = x; shadow = slot_cells new j (1 - visible_slot t j) m.shadow; own = m.own; incoming = m.incoming; sampled = m.sampled }) (slot_stays j (visible_slot t j) m.visible (inl d))
      ∙ ap (λ (x : List LawCell). record { visible = slot_cells old j (visible_slot t j) m.visible; shadow = x; own = m.own; incoming = m.incoming; sampled = m.sampled }) (slot_stays j (1 - visible_slot t j) m.shadow (inl d))

  pub levels_stay : (t j : ℕ) (below : List Marks) → level < j → all_stood new t j below ≡ all_stood old t j below
  levels_stay t j [] h = refl
  levels_stay t j (m ∷ ms) h =
      ap (λ (x : chain.Level (List ℕ) Stamped). x ∷ all_stood new t (suc j) ms) (level_stays t j m (λ e. omega (arith, e, h)))
      ∙ ap (λ (xs : List (chain.Level (List ℕ) Stamped)). stood old t j m ∷ xs) (levels_stay t (suc j) ms (omega (arith, h)))

-- ---- the first of the levels behind

some_same : {X : Type 0} (x y : X) → Some x ≡ Some y → x ≡ y
some_same x y e = cc

aim_of_first : (t j own : ℕ) (incoming : Feed) (aim : Aim) (next : Level) (levels : List Level) → Some next ≡ slice_get levels 0 → ((under : List Marks) → aim ≡ aim_with t j own incoming (marks_of next ∷ under)) →
    aim ≡ aim_with t j own incoming (all_marks_of levels)
aim_of_first t j own incoming aim next [] e h = absurd (none-some next (sym e))
aim_of_first t j own incoming aim next (l ∷ ls) e h =
    h (all_marks_of ls) ∙ ap (λ (x : Level). aim_with t j own incoming (marks_of x ∷ all_marks_of ls)) (some_same next l e)

-- the aim of a level of 1 and more, by the slots that the clock gives to its runs
aim_by : (t n own above : ℕ) {second : ℕ} {aim : Aim} (below : List Marks) → 1 ≤ n → second ≡ visible_slot t (n - 1) →
    aim ≡ aim_with t n own (feed.Run (record { level = n - 1; slot = second; len = above })) below → aim ≡ aim_at t (n - 1) own above below
aim_by t n own above below h s e =
    e
    ∙ ap (λ (x : ℕ). aim_with t n own (feed.Run (record { level = n - 1; slot = x; len = above })) below) s
    ∙ ap (λ (j : ℕ). aim_with t j own (feed.Run (visible_run t (n - 1) above)) below) (let z : n ≡ suc (n - 1) = omega (arith, h) in z)

pub aim_above : (t n own above : ℕ) {slot second : ℕ} {aim : Aim} {next : Level} (levels : List Level) → 1 ≤ n → slot ≡ visible_slot t n → second ≡ visible_slot t (n - 1) → Some next ≡ slice_get levels 0 →
    ((under : List Marks) → aim ≡ aim_with t n own (feed.Run (record { level = n - 1; slot = second; len = above })) (marks_of next ∷ under)) → aim ≡ aim_at t (n - 1) own above (all_marks_of levels)
aim_above t n own above {second = second} {aim = aim} {next = next} levels h f s e a =
    aim_by t n own above (all_marks_of levels) h s (aim_of_first t n own (feed.Run (record { level = n - 1; slot = second; len = above })) aim next levels e a)

pub aim_below : (t n own above : ℕ) {slot second : ℕ} {aim : Aim} (levels : List Level) → 1 ≤ n → slot ≡ visible_slot t n → second ≡ visible_slot t (n - 1) → None ≡ slice_get levels 0 →
    aim ≡ bottom_of (record { level = n; slot = slot; len = own }) (record { level = n - 1; slot = second; len = above }) (1 - slot) → aim ≡ aim_at t (n - 1) own above (all_marks_of levels)
aim_below t n own above (l ∷ ls) h f s e a = absurd (none-some l e)
aim_below t n own above {second = second} [] h f s e a =
    aim_by t n own above [] h s (a ∙ ap (λ (x : ℕ). bottom_of (record { level = n; slot = x; len = own }) (record { level = n - 1; slot = second; len = above }) (1 - x)) f)
