-- A chain as it begins, from a store that was loaded by a header.
use Rattle.std.proofs.Common.{◌≡◌, ℕ, suc, ◌+◌, ◌-◌, ◌<◌, ◌^◌, true, List, [], ◌∷◌, length, get_or, Option, None, Some, ap, sym, subst, ◌∙◌, arith}
use Rattle.std.specs.Prelude.{IfSome}
use Rattle.std.proofs.lemmas.List.{length-map}
use Rattle.cola_clock.specs.Clock.{visible_slot}
use Rattle.cola_clock.specs.Marks.{Marks as LevelMarks}
use Rattle.cola_spec.specs.Map.{Map}
use Rattle.cola_cell.specs.declared.sink.Shadow.{Shadow}
use Rattle.cola_cell.specs.Held.{Held, IsTelling}
use Rattle.cola_layout.specs.declared.header.Header.{Header}
use Rattle.cola_layout.specs.declared.geometry.Geometry.{Geometry}
use Rattle.cola_layout.specs.declared.marks.Marks.{Marks}
use Rattle.cola_layout.specs.Marks.{numbers_of, all_numbers, no_marks}
use Rattle.cola_layout.specs.Cells.{file_spots}
use Rattle.cola_image.specs.Standing.{LevelsStandFor, found_in}
use Rattle.cola_image.proofs.StandingLemmas.{stand-alike}
use Rattle.cola_level.specs.Marks.{all_marks_of}
use Rattle.cola_mutation.specs.Levels.{IsChain, levels_with, ArePlaced}
use Rattle.cola_mutation.specs.Standing.{StandsFor}
use Rattle.cola_mutation.proofs.Beginning.{marks_back, new_chain}
use Rattle.cola_run.specs.Store as run
use Rattle.cola_run.specs.Store.{Store}
use Rattle.cola_run.specs.Saving.{IsLoaded, AreFileSpots}
use Rattle.cola_chain.proofs.LevelLists.{marks-length}
use Rattle.cola_chain.proofs.Headers.{alike-places}

-- the shadow of a level beside its visible run, with this length and on the device
abbrev beside_run : ℕ → ℕ → Marks → Shadow
beside_run t j m = record { slot = 1 - visible_slot t j; len = m.shadow; saved = true }

placed : (held : Held) (t j : ℕ) (items : List Marks) → ((k : ℕ) → k < length items → held.shadows (j + k) ≡ beside_run t (j + k) (get_or items k no_marks)) → ArePlaced held t j (all_numbers items)
placed held t j [] at = tt
placed held t j (m ∷ ms) at =
    let e : j + 0 ≡ j = omega arith in
    let first : held.shadows j ≡ beside_run t j m = subst (λ (n : ℕ). held.shadows n ≡ beside_run t n m) e (at 0 (omega arith)) in (
      ap (λ (s : Shadow). s.len) first,
      ap (λ (s : Shadow). s.slot) first,
      placed held t (suc j) ms
          (λ k h. let f : j + suc k ≡ suc j + k = omega arith in subst (λ (n : ℕ). held.shadows n ≡ beside_run t n (get_or ms k no_marks)) f (at (suc k) (omega (arith, h)))),
    )

module _ {D : Type 0} (bytes : D → Option (List ℕ)) (header : Header) (store : Store D) (told : Option (List ℕ)) (geometry_is : store.geometry ≡ header.geometry) (loaded : IsLoaded header (run.held_of bytes store) told) where
  numbers-many : length (all_numbers header.levels.items) ≡ header.geometry.bottom + 1
  numbers-many = length-map header.levels.items numbers_of ∙ header.one_each

  pub chain-begins : IsChain (run.held_of bytes store) header.clock (levels_with (all_numbers header.levels.items))
  chain-begins =
      let n = numbers-many in
      let three = header.geometry.bottom_fits.three in
      let one = header.one_each in
      new_chain (run.held_of bytes store) header.clock (all_numbers header.levels.items) (omega (arith, n, three)) (n ∙ ap (λ (g : Geometry). g.bottom + 1) (sym geometry_is))
      (subst (λ (m : ℕ). header.clock < 2 ^ m) (sym n) header.clock_fits) header.marks_fit
      (placed (run.held_of bytes store) header.clock 0 header.levels.items (λ k h. let e : 0 + k ≡ k = omega arith in subst (λ (m : ℕ). (run.held_of bytes store).shadows m ≡ beside_run header.clock m (get_or header.levels.items k no_marks)) (sym e) (loaded.shadows k (omega (arith, h, one)))))

  levels-many : length (levels_with (all_numbers header.levels.items)) ≡ header.geometry.bottom + 1
  levels-many = sym (marks-length (levels_with (all_numbers header.levels.items))) ∙ ap (λ (ms : List LevelMarks). length ms) (marks_back (all_numbers header.levels.items)) ∙ numbers-many

  pub all-saved : (l : ℕ) → l < length (levels_with (all_numbers header.levels.items)) → ((run.held_of bytes store).shadows l).saved ≡ true
  all-saved l h = let n = levels-many in ap (λ (s : Shadow). s.saved) (loaded.shadows l (omega (arith, h, n)))

  stands-by : (file : List ℕ) (most : ℕ) (m : Map) → AreFileSpots header.geometry (run.held_of bytes store).spots file → IsTelling (run.held_of bytes store) →
      LevelsStandFor most header.clock (all_numbers header.levels.items) (file_spots header.geometry.format file) m → StandsFor (run.held_of bytes store) most header.clock (levels_with (all_numbers header.levels.items)) (found_in m)
  stands-by file most m same tells stand =
      let n = numbers-many in
      let back = marks_back (all_numbers header.levels.items) in
      let here : LevelsStandFor most header.clock (all_numbers header.levels.items) (run.held_of bytes store).spots m =
      stand-alike most header.clock (all_numbers header.levels.items) (file_spots header.geometry.format file) (run.held_of bytes store).spots m
      (alike-places (header.geometry.bottom + 1) (file_spots header.geometry.format file) (run.held_of bytes store).spots header.clock 0 0 (all_numbers header.levels.items) header.marks_fit (omega (arith, n)) same) stand in
      let there : LevelsStandFor most header.clock (all_marks_of (levels_with (all_numbers header.levels.items))) (run.held_of bytes store).spots m =
      subst (λ (ms : List LevelMarks). LevelsStandFor most header.clock ms (run.held_of bytes store).spots m) (sym back) here in
      record { tells = tells; told = there.told; saved = λ l h over. all-saved l h; sound = there.sound }

  by-told : (u : Option (List ℕ)) → IfSome u (AreFileSpots header.geometry (run.held_of bytes store).spots) →
      IfSome u (λ file. (most : ℕ) (m : Map) → IsTelling (run.held_of bytes store) → LevelsStandFor most header.clock (all_numbers header.levels.items) (file_spots header.geometry.format file) m →
      StandsFor (run.held_of bytes store) most header.clock (levels_with (all_numbers header.levels.items)) (found_in m))
  by-told None same = tt
  by-told (Some file) same = λ most m tells stand. stands-by file most m same tells stand

  pub stands-begin : IfSome told (λ file. (most : ℕ) (m : Map) → IsTelling (run.held_of bytes store) → LevelsStandFor most header.clock (all_numbers header.levels.items) (file_spots header.geometry.format file) m →
      StandsFor (run.held_of bytes store) most header.clock (levels_with (all_numbers header.levels.items)) (found_in m))
  stands-begin = by-told told loaded.spots
