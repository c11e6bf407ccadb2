-- The levels that the plain program makes of a file.
use Rattle.std.proofs.Common.{◌≡◌, ℕ, zero, suc, ◌+◌, ◌-◌, ◌≤◌, ◌<◌, ◌==◌, cond, List, [], ◌∷◌, ◌++◌, length, drop, refl, sym, ap, ◌∙◌, arith, add-one, append_assoc}
use Rattle.std.proofs.lemmas.Bool.{eq-eqb, ne_eqb}
use Rattle.cola_cell.specs.Held.{LawCell}
use Rattle.cola_clock.specs.Clock.{visible_slot}
use Rattle.cola_clock.specs.Marks.{Marks, marks_at}
use Rattle.cola_layout.specs.Cells.{slot_cells}
use Rattle.cola_laws.specs.Slots.{levels_of}
use Rattle.cola_layout.specs.declared.header.Header.{Header}
use Rattle.cola_layout.specs.Marks.{all_numbers}
use Rattle.cola_plain_files.specs.declared.verdict.level.PlainLevel.{PlainLevel}
use Rattle.cola_plain_files.specs.Levels.{as_level, as_levels}
use Rattle.cola_plain_files.specs.File.{file_of, IsLevelTold, ArePlacesTold, level_in}
use Rattle.cola_verdict.specs.Tests.{Tested, FileLevel, run_len, AreCellsTold, levels_in}
use Rattle.cola_plain_files.proofs.File.{file_says, run_len-is}

-- ---- a level by its marks

module _ (h : Header) (bytes : List ℕ) (level at : ℕ) (m : Marks) (is : m ≡ marks_at (all_numbers h.levels.items) level) (stands : at ≡ visible_slot h.clock level) (two : at < 2) where
  lengths : (slot : ℕ) → run_len (file_of h bytes) level slot ≡ cond (slot == at) m.visible m.shadow
  lengths slot = run_len-is (file_of h bytes) h bytes level slot at m (file_says h bytes) is stands

  visible_told : IsLevelTold (file_of h bytes) level → ArePlacesTold (file_of h bytes) level at m.visible
  visible_told told index lt =
      let e : run_len (file_of h bytes) level at ≡ m.visible = lengths at ∙ ap (λ b. cond b m.visible m.shadow) (eq-eqb at at refl) in
      told at two index (omega (arith, lt, e))

  shadow_told : IsLevelTold (file_of h bytes) level → ArePlacesTold (file_of h bytes) level (1 - at) m.shadow
  shadow_told told index lt =
      let other : 1 - at ≡ at → ⊥ = λ e. omega (arith, e, two) in
      let e : run_len (file_of h bytes) level (1 - at) ≡ m.shadow = lengths (1 - at) ∙ ap (λ b. cond b m.visible m.shadow) (ne_eqb (1 - at) at other) in
      told (1 - at) (omega arith) index (omega (arith, lt, e))

  abbrev built : ℕ → Marks → FileLevel
  built a n = record {
    visible = slot_cells (file_of h bytes).spots level a n.visible;
    shadow = slot_cells (file_of h bytes).spots level (1 - a) n.shadow;
    own = n.own;
    incoming = n.incoming;
    sampled = n.sampled;
  }

  pub level_built : (v s : List LawCell) → (ArePlacesTold (file_of h bytes) level at m.visible → v ≡ slot_cells (file_of h bytes).spots level at m.visible) →
      (ArePlacesTold (file_of h bytes) level (1 - at) m.shadow → s ≡ slot_cells (file_of h bytes).spots level (1 - at) m.shadow) → IsLevelTold (file_of h bytes) level →
      record { visible = v; shadow = s; own = m.own; incoming = m.incoming; sampled = m.sampled } ≡ level_in (file_of h bytes) level
  level_built v s ev es told =
      let first : record { visible = v; shadow = s; own = m.own; incoming = m.incoming; sampled = m.sampled } ≡ built at m = rw (ev (visible_told told), es (shadow_told told)) refl in
      first ∙ ap (λ a. built a m) (stands ∙ ap (λ t. visible_slot t level) (sym (file_says h bytes).clock))
      ∙ ap (built (visible_slot (file_of h bytes).clock level)) (is ∙ ap (λ ms. marks_at ms level) (sym (file_says h bytes).marks))

-- ---- all levels

pub marks_from : (marks : List Marks) (i : ℕ) → i < length marks → drop i marks ≡ marks_at marks i ∷ drop (i + 1) marks
marks_from marks i h = rw add-one (from marks i h)
  where
    from : (ms : List Marks) (n : ℕ) → n < length ms → drop n ms ≡ marks_at ms n ∷ drop (suc n) ms
    from [] n k = absurd (omega arith)
    from (m ∷ ms) zero k = refl
    from (m ∷ ms) (suc n) k = from ms n (omega arith)

as_levels-append : (xs : List PlainLevel) (x : PlainLevel) → as_levels (xs ++ x ∷ []) ≡ as_levels xs ++ as_level x ∷ []
as_levels-append [] x = refl
as_levels-append (y ∷ xs) x = ap (λ z. as_level y ∷ z) (as_levels-append xs x)

pub level_of_told : (file : Tested) (level : ℕ) → level < length file.marks → AreCellsTold file → IsLevelTold file level
level_of_told file level within told slot s index i = told level slot index (record { level_in = within; slot_in = s; within = i })

pub levels_more : (file : Tested) (i : ℕ) (made now : List PlainLevel) (x : PlainLevel) → i < length file.marks → now ≡ made ++ x ∷ [] → as_level x ≡ level_in file i →
    as_levels made ++ levels_of (slot_cells file.spots) file.clock i (drop i file.marks) ≡ levels_in file → as_levels now ++ levels_of (slot_cells file.spots) file.clock (i + 1) (drop (i + 1) file.marks) ≡ levels_in file
levels_more file i made now x within n e h =
    ap (λ z. as_levels z ++ levels_of (slot_cells file.spots) file.clock (i + 1) (drop (i + 1) file.marks)) n
    ∙ ap (λ z. z ++ levels_of (slot_cells file.spots) file.clock (i + 1) (drop (i + 1) file.marks)) (as_levels-append made x)
    ∙ append_assoc (as_levels made) (as_level x ∷ []) (levels_of (slot_cells file.spots) file.clock (i + 1) (drop (i + 1) file.marks))
    ∙ ap (λ z. as_levels made ++ z ∷ levels_of (slot_cells file.spots) file.clock (i + 1) (drop (i + 1) file.marks)) e
    ∙ ap (λ k. as_levels made ++ level_in file i ∷ levels_of (slot_cells file.spots) file.clock k (drop (i + 1) file.marks)) (add-one i)
    ∙ ap (λ ms. as_levels made ++ levels_of (slot_cells file.spots) file.clock i ms) (sym (marks_from file.marks i within)) ∙ h

drop_past : {X : Type 0} (n : ℕ) (xs : List X) → length xs ≤ n → drop n xs ≡ []
drop_past zero [] h = refl
drop_past zero (x ∷ xs) h = absurd (omega arith)
drop_past (suc n) [] h = refl
drop_past (suc n) (x ∷ xs) h = drop_past n xs (omega arith)

append_nothing : {X : Type 0} (xs : List X) → xs ++ [] ≡ xs
append_nothing [] = refl
append_nothing (x ∷ xs) = ap (λ z. x ∷ z) (append_nothing xs)

pub levels_all : (file : Tested) (i : ℕ) (made : List PlainLevel) → length file.marks ≤ i → as_levels made ++ levels_of (slot_cells file.spots) file.clock i (drop i file.marks) ≡ levels_in file → as_levels made ≡ levels_in file
levels_all file i made many h =
    sym (append_nothing (as_levels made)) ∙ ap (λ ms. as_levels made ++ levels_of (slot_cells file.spots) file.clock i ms) (sym (drop_past i file.marks many)) ∙ h
