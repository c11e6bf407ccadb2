-- The worked files after four, eight, eleven and sixteen puts: their headers, the cells that they tell, and the levels that these
-- make are those of the plain program of the laws, which is sound for the map after the puts.
use Rattle.std.proofs.Common.{◌≡◌, ℕ, zero, suc, ◌+◌, ◌-◌, ◌^◌, ◌≤◌, ◌<◌, inl, inr, Bool, true, false, ◌&&◌, List, [], ◌∷◌, length, take, map, Option, None, refl, sym, ap, subst, ◌∙◌, arith}
use Rattle.std.specs.Cmp.Lexicographic.{nat_list_cmp_total}
use Rattle.std.proofs.lemmas.Bool.{cases_lt}
use Rattle.cola_cell.specs.declared.format.Format.TheVariants.{One}
use Rattle.cola_cell.specs.Held.{Spot, Spots, Untold, Bad, Told, Stamped}
use Rattle.cola_clock.specs.Clock.{period, is_odd, visible_slot, works, flips, ends, elapsed, window_step, window_length}
use Rattle.cola_clock.specs.Marks.{Marks, AreChainMarks}
use Rattle.cola_runs.specs.Weave.{weave, unlinked}
use Rattle.cola_runs.specs.Steps.{step}
use Rattle.cola_laws.specs.Chain.{Level}
use Rattle.cola_laws.specs.Plain.{empty_levels, worked, built, all_mutated, clock_after, IsSoundChain}
use Rattle.cola_laws.specs.Slots.{levels_of, all_marks_of}
use Rattle.cola_laws.proofs.Empty.{empty-sound}
use Rattle.cola_laws.proofs.InSlots.{sound-marks}
use Rattle.cola_laws.proofs.Programs.{runs-sound}
use Rattle.cola_layout.specs.declared.marks.Marks as layout
use Rattle.cola_layout.specs.Header.{header_bytes, head_bytes, marks_bytes}
use Rattle.cola_layout.specs.Marks.{all_numbers, no_marks}
use Rattle.cola_spec.specs.Map.{key_cmp}
use Rattle.cola_cell.specs.ToldCells.{IsTold, AreTold}
use Rattle.cola_layout.specs.Cells.{file_spots, slot_cells}
use Rattle.cola_image.specs.Standing.{found_in, AreRunsTold, FileStandsFor}
use Rattle.cola_image.specs.Worked.{marks, header_of, puts_to, map_after, file_of_four, file_of_eight, file_of_eleven, file_of_sixteen}
use Rattle.cola_image.proofs.WorkedMaps.{and-both, change_of, found-is, all-put, all-fit, all-rise, keys-of, count-is, is-map, stays-few}

-- ---- a test of told cells

is-told : Spot → Bool
is-told Untold = false
is-told Bad = false
is-told (Told c) = true

told-by-test : (s : Spot) → is-told s ≡ true → IsTold s
unfolding is-told
told-by-test Untold h = cc
told-by-test Bad h = cc
told-by-test (Told c) h = refl

slot-told : (ℕ → Spot) → ℕ → Bool
slot-told spots zero = true
slot-told spots (suc n) = is-told (spots n) && slot-told spots n

slot-by-test : (spots : ℕ → Spot) (n : ℕ) → slot-told spots n ≡ true → AreTold spots n
unfolding slot-told
slot-by-test spots zero h i below = absurd (omega (arith, below))
slot-by-test spots (suc n) h i below =
    let both = and-both (is-told (spots n)) (slot-told spots n) h in
    elim (cases_lt i n) [
      | inl before ↦ slot-by-test spots n both.1 i before
      | inr last ↦ let here : n ≡ i = omega (arith, last, below) in subst (λ (k : ℕ). IsTold (spots k)) here (told-by-test (spots n) both.0)
    ]

runs-told : Spots → ℕ → ℕ → List Marks → Bool
runs-told spots t j [] = true
runs-told spots t j (m ∷ below) = slot-told (spots j (visible_slot t j)) m.visible && slot-told (spots j (1 - visible_slot t j)) m.shadow && runs-told spots t (suc j) below

runs-by-test : (spots : Spots) (t j : ℕ) (ms : List Marks) → runs-told spots t j ms ≡ true → AreRunsTold spots t j ms
unfolding runs-told
runs-by-test spots t j [] h = tt
runs-by-test spots t j (m ∷ below) h =
    let rest = and-both (slot-told (spots j (visible_slot t j)) m.visible && slot-told (spots j (1 - visible_slot t j)) m.shadow) (runs-told spots t (suc j) below) h in
    let both = and-both (slot-told (spots j (visible_slot t j)) m.visible) (slot-told (spots j (1 - visible_slot t j)) m.shadow) rest.0 in (
      slot-by-test (spots j (visible_slot t j)) m.visible both.0,
      slot-by-test (spots j (1 - visible_slot t j)) m.shadow both.1,
      runs-by-test spots t (suc j) below rest.1,
    )

-- ---- a file that tells the levels of the plain program

-- the levels after puts
abbrev levels-after : List (List ℕ × List ℕ) → List (Level (List ℕ) Stamped)
levels-after puts = all_mutated key_cmp 0 (map change_of puts) (empty_levels 4)

-- what is computed of a file with so many keys at this clock, whose levels have these marks, and of the puts that made it
record IsComputed (count clock : ℕ) (levels : List layout.Marks) (bytes : List ℕ) (puts : List (List ℕ × List ℕ)) : Type 0 where
  text : take 512 bytes ≡ header_bytes (header_of count clock levels)
  long : length bytes ≡ 8192
  one_each : length levels ≡ 4
  few : count ≤ 32
  clock_is : clock_after 4 0 (map change_of puts) ≡ clock
  clock_fits : clock < 16
  counted : count ≡ length (all-put puts [])
  fit : all-fit (all-put puts []) ≡ true
  rise : all-rise (keys-of puts) ≡ true
  few_puts : length puts ≤ 32
  told : runs-told (file_spots One bytes) clock 0 (all_numbers levels) ≡ true
  made : levels_of (slot_cells (file_spots One bytes)) clock 0 (all_numbers levels) ≡ levels-after puts
  marked : all_marks_of (levels-after puts) ≡ all_numbers levels

-- the plain program is sound for the map after the puts
program-sound : (puts : List (List ℕ × List ℕ)) → all-rise (keys-of puts) ≡ true → length puts ≤ 32 →
    IsSoundChain key_cmp 32 (clock_after 4 0 (map change_of puts)) (found_in (map_after puts)) (levels-after puts)
program-sound puts rise few =
    subst (λ (f : List ℕ → Option Stamped). IsSoundChain key_cmp 32 (clock_after 4 0 (map change_of puts)) f (levels-after puts)) (found-is puts)
    (runs-sound nat_list_cmp_total 32 (map change_of puts) 0 (λ (q : List ℕ). None) (empty_levels 4) (empty-sound Stamped key_cmp 32 3) (omega arith) (stays-few puts rise few))

-- a sound chain of four levels meets the rules on marks
chain-marks : (t : ℕ) (f : List ℕ → Option Stamped) (ls : List (Level (List ℕ) Stamped)) → IsSoundChain key_cmp 32 t f ls → 32 ≤ 2 ^ (length ls + 1) → AreChainMarks t (all_marks_of ls)
chain-marks t f [] s room = absurd s
chain-marks t f (top ∷ below) s room =
    let e : suc (length below) + 1 ≡ length below + 2 = omega arith in
    sound-marks nat_list_cmp_total 32 t f top below s (subst (λ (x : ℕ). 32 ≤ 2 ^ x) e room)

marks-length : (ls : List (Level (List ℕ) Stamped)) → length (all_marks_of ls) ≡ length ls
marks-length [] = refl
marks-length (l ∷ ls) = ap suc (marks-length ls)

numbers-length : (levels : List layout.Marks) → length (all_numbers levels) ≡ length levels
numbers-length [] = refl
numbers-length (m ∷ levels) = ap suc (numbers-length levels)

stands : (count clock : ℕ) (levels : List layout.Marks) (bytes : List ℕ) (puts : List (List ℕ × List ℕ)) → IsComputed count clock levels bytes puts → FileStandsFor bytes (map_after puts)
stands count clock levels bytes puts is =
    let sound : IsSoundChain key_cmp 32 clock (found_in (map_after puts)) (levels-after puts) =
    subst (λ (t : ℕ). IsSoundChain key_cmp 32 t (found_in (map_after puts)) (levels-after puts)) is.clock_is (program-sound puts is.rise is.few_puts) in
    let four : length (levels-after puts) ≡ 4 = sym (marks-length (levels-after puts)) ∙ ap (λ (ms : List Marks). length ms) is.marked ∙ numbers-length levels ∙ is.one_each in
    let fit : AreChainMarks clock (all_numbers levels) =
    subst (AreChainMarks clock) is.marked (chain-marks clock (found_in (map_after puts)) (levels-after puts) sound (rw four (omega arith))) in (
      header_of count clock levels,
      record {
        spelled = record {
          text = is.text;
          sound = record {
            keys_in_range = record { some = omega arith; few = omega arith };
            bottom_fits = record { three = omega arith; holds = omega arith; least = λ h. absurd (omega (arith, h)) };
            block_fits = record { group = omega arith; fits = omega arith };
            count_fits = is.few;
            clock_fits = is.clock_fits;
            last_fits = omega arith;
            one_each = is.one_each;
            marks_fit = fit;
          };
        };
        closed = refl;
        whole = omega (arith, is.long);
        counted = is.counted ∙ sym (count-is puts);
        numbered = refl;
        is_map = is-map puts (omega (arith, is.few, is.counted)) is.fit;
        levels = record {
          told = runs-by-test (file_spots One bytes) clock 0 (all_numbers levels) is.told;
          sound = subst (λ (ls : List (Level (List ℕ) Stamped)). IsSoundChain key_cmp 32 clock (found_in (map_after puts)) ls) (sym is.made) sound;
        };
      },
    )

-- ---- the four files

four-computed : IsComputed 4 4 (marks 2 0 0 0 0 ∷ marks 2 0 0 0 0 ∷ no_marks ∷ no_marks ∷ []) file_of_four (puts_to 4)
unfolding head_bytes marks_bytes is-told slot-told runs-told visible_slot period worked built works flips ends elapsed window_step window_length is_odd step weave unlinked
four-computed = record {
  text = refl;
  long = refl;
  one_each = refl;
  few = omega arith;
  clock_is = refl;
  clock_fits = omega arith;
  counted = refl;
  fit = refl;
  rise = refl;
  few_puts = omega arith;
  told = refl;
  made = refl;
  marked = refl;
}

pub four-stands : FileStandsFor file_of_four (map_after (puts_to 4))
four-stands = stands 4 4 (marks 2 0 0 0 0 ∷ marks 2 0 0 0 0 ∷ no_marks ∷ no_marks ∷ []) file_of_four (puts_to 4) four-computed

eight-computed : IsComputed 8 8 (marks 2 0 0 0 0 ∷ marks 4 0 0 0 0 ∷ marks 2 0 0 0 0 ∷ no_marks ∷ []) file_of_eight (puts_to 8)
unfolding head_bytes marks_bytes is-told slot-told runs-told visible_slot period worked built works flips ends elapsed window_step window_length is_odd step weave unlinked
eight-computed = record {
  text = refl;
  long = refl;
  one_each = refl;
  few = omega arith;
  clock_is = refl;
  clock_fits = omega arith;
  counted = refl;
  fit = refl;
  rise = refl;
  few_puts = omega arith;
  told = refl;
  made = refl;
  marked = refl;
}

pub eight-stands : FileStandsFor file_of_eight (map_after (puts_to 8))
eight-stands = stands 8 8 (marks 2 0 0 0 0 ∷ marks 4 0 0 0 0 ∷ marks 2 0 0 0 0 ∷ no_marks ∷ []) file_of_eight (puts_to 8) eight-computed

eleven-computed : IsComputed 11 11 (marks 3 0 0 0 0 ∷ marks 6 4 0 0 0 ∷ marks 2 6 0 0 0 ∷ marks 0 2 0 2 0 ∷ []) file_of_eleven (puts_to 11)
unfolding head_bytes marks_bytes is-told slot-told runs-told visible_slot period worked built works flips ends elapsed window_step window_length is_odd step weave unlinked
eleven-computed = record {
  text = refl;
  long = refl;
  one_each = refl;
  few = omega arith;
  clock_is = refl;
  clock_fits = omega arith;
  counted = refl;
  fit = refl;
  rise = refl;
  few_puts = omega arith;
  told = refl;
  made = refl;
  marked = refl;
}

pub eleven-stands : FileStandsFor file_of_eleven (map_after (puts_to 11))
eleven-stands = stands 11 11 (marks 3 0 0 0 0 ∷ marks 6 4 0 0 0 ∷ marks 2 6 0 0 0 ∷ marks 0 2 0 2 0 ∷ []) file_of_eleven (puts_to 11) eleven-computed

sixteen-computed : IsComputed 16 0 (marks 2 0 0 0 0 ∷ marks 5 0 0 0 0 ∷ marks 8 0 0 0 0 ∷ marks 2 0 0 0 0 ∷ []) file_of_sixteen (puts_to 16)
unfolding head_bytes marks_bytes is-told slot-told runs-told visible_slot period worked built works flips ends elapsed window_step window_length is_odd step weave unlinked
sixteen-computed = record {
  text = refl;
  long = refl;
  one_each = refl;
  few = omega arith;
  clock_is = refl;
  clock_fits = omega arith;
  counted = refl;
  fit = refl;
  rise = refl;
  few_puts = omega arith;
  told = refl;
  made = refl;
  marked = refl;
}

pub sixteen-stands : FileStandsFor file_of_sixteen (map_after (puts_to 16))
sixteen-stands = stands 16 0 (marks 2 0 0 0 0 ∷ marks 5 0 0 0 0 ∷ marks 8 0 0 0 0 ∷ marks 2 0 0 0 0 ∷ []) file_of_sixteen (puts_to 16) sixteen-computed
