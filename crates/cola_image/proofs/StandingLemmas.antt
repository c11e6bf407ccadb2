-- When levels and files stand for a map.
use Rattle.std.proofs.Common.{◌≡◌, ℕ, zero, suc, ◌+◌, ◌*◌, ◌^◌, ◌≤◌, true, List, [], ◌∷◌, length, take, replicate, Option, Some, None, option_map, refl, sym, ap, subst, ◌∙◌, arith}
use Rattle.std.specs.FinMap as finite
use Rattle.std.specs.FinMap.{same_map}
use Rattle.std.specs.Cmp.Lexicographic.{nat_list_cmp_total}
use Rattle.std.proofs.Math.Path.{fun_ext}
use Rattle.std.proofs.lemmas.Option.{same_Some}
use Rattle.cola_cell.specs.Format.{width}
use Rattle.cola_cell.specs.Held.{Stamped, Spots}
use Rattle.cola_clock.specs.Marks.{Marks}
use Rattle.cola_laws.specs.Chain.{Level, visibles, value_at}
use Rattle.cola_laws.specs.Plain.{empty_level, empty_levels, IsSoundChain}
use Rattle.cola_laws.specs.Slots.{levels_of}
use Rattle.cola_laws.proofs.Empty.{empty-sound}
use Rattle.cola_layout.specs.Header.{Fields, IsSpelling}
use Rattle.cola_layout.specs.Marks as layout
use Rattle.cola_layout.proofs.Refusing.{spelling-one}
use Rattle.cola_spec.specs.Map.{Map, Stored, key_cmp, count, empty_map}
use Rattle.cola_spec.proofs.Entries.{same_key}
use Rattle.cola_spec.proofs.MapLaws.{empty_is_map}
use Rattle.cola_shapes.specs.Shapes.{stamped_of, stored_of}
use Rattle.cola_shapes.specs.Shapes.{shape_of}
use Rattle.cola_layout.specs.Cells.{slot_cells, file_spots}
use Rattle.cola_image.specs.Standing.{found_in, AreRunsTold, AreRunsAlike, LevelsStandFor, HeaderStandsFor, FileStandsFor}
use Rattle.cola_image.proofs.CellsLemmas.{levels-alike, runs-told}

-- levels that are told alike stand for the same map
pub stand-alike : (most t : ℕ) (marks : List Marks) (spots others : Spots) (m : Map) → AreRunsAlike spots others t 0 marks → LevelsStandFor most t marks spots m → LevelsStandFor most t marks others m
stand-alike most t marks spots others m same stand = record {
  told = runs-told spots others t 0 marks same stand.told;
  sound = subst (λ (ls : List (Level (List ℕ) Stamped)). IsSoundChain key_cmp most t (found_in m) ls) (sym (levels-alike spots others t 0 marks same)) stand.sound;
}

-- a sound chain says what its map has of each key
chain-says : (most t : ℕ) (f : List ℕ → Option Stamped) (levels : List (Level (List ℕ) Stamped)) → IsSoundChain key_cmp most t f levels → (q : List ℕ) → value_at key_cmp (visibles levels) q ≡ f q
chain-says most t f [] sound q = absurd sound
chain-says most t f (top ∷ below) sound q = sound.sound.stands q

-- what a map stores, from what a cell has
same-stored : (a b : Option Stored) → option_map stamped_of a ≡ option_map stamped_of b → a ≡ b
same-stored None None e = refl
same-stored None (Some b) e = cc
same-stored (Some a) None e = cc
same-stored (Some a) (Some b) e = ap (λ (s : Stamped). Some (stored_of s)) (same_Some (stamped_of a) (stamped_of b) e)

-- levels stand for one map, up to its last number
same-entries : (most t : ℕ) (marks : List Marks) (spots : Spots) (m n : Map) → LevelsStandFor most t marks spots m → LevelsStandFor most t marks spots n → m.entries ≡ n.entries
same-entries most t marks spots m n a b =
    same_map nat_list_cmp_total same_key m.entries n.entries
    (λ q. same-stored (finite.get m.entries q) (finite.get n.entries q)
    (sym (chain-says most t (found_in m) (levels_of (slot_cells spots) t 0 marks) a.sound q) ∙ chain-says most t (found_in n) (levels_of (slot_cells spots) t 0 marks) b.sound q))

same-map : (m n : Map) → m.entries ≡ n.entries → m.last ≡ n.last → m ≡ n
same-map m n e l = ap (λ x. record { entries = x; last = m.last }) e ∙ ap (λ (x : ℕ). record { entries = n.entries; last = x }) l

same-of-header : (header : Fields) (bytes : List ℕ) (m n : Map) → HeaderStandsFor header bytes m → HeaderStandsFor header bytes n → m ≡ n
same-of-header header bytes m n a b =
    same-map m n (same-entries header.keys header.clock (layout.all_numbers header.levels) (file_spots header.format bytes) m n a.levels b.levels)
    (sym a.numbered ∙ b.numbered)

pub one-map : (bytes : List ℕ) (m n : Map) → FileStandsFor bytes m → FileStandsFor bytes n → m ≡ n
one-map bytes m n a b =
    same-of-header a.0 bytes m n a.1
    (subst (λ (header : Fields). HeaderStandsFor header bytes n) (spelling-one b.0 a.0 (take 512 bytes) b.1.spelled a.1.spelled) b.1)

-- levels with nothing in them
levels-empty : (spots : Spots) (t j n : ℕ) → levels_of (slot_cells spots) t j (layout.all_numbers (replicate n layout.no_marks)) ≡ empty_levels n
levels-empty spots t j zero = refl
levels-empty spots t j (suc n) = ap (λ (ls : List (Level (List ℕ) Stamped)). empty_level ∷ ls) (levels-empty spots t (suc j) n)

told-empty : (spots : Spots) (t j n : ℕ) → AreRunsTold spots t j (layout.all_numbers (replicate n layout.no_marks))
told-empty spots t j zero = tt
told-empty spots t j (suc n) = ((λ index h. absurd (omega (arith, h))), (λ index h. absurd (omega (arith, h))), told-empty spots t (suc j) n)

-- the empty map has nothing of any key
found-none : (q : List ℕ) → found_in empty_map q ≡ None
unfolding empty_map
found-none q = ap (λ (s : Option Stored). option_map stamped_of s) (finite.get-empty key_cmp q)

stand-empty : (most : ℕ) (n : ℕ) (spots : Spots) → LevelsStandFor most 0 (layout.all_numbers (replicate (suc n) layout.no_marks)) spots empty_map
stand-empty most n spots = record {
  told = told-empty spots 0 0 (suc n);
  sound =
      subst (λ (f : List ℕ → Option Stamped). IsSoundChain key_cmp most 0 f (levels_of (slot_cells spots) 0 0 (layout.all_numbers (replicate (suc n) layout.no_marks)))) (fun_ext (λ (q : List ℕ). sym (found-none q)))
      (subst (λ (ls : List (Level (List ℕ) Stamped)). IsSoundChain key_cmp most 0 (λ (q : List ℕ). None) ls) (sym (levels-empty spots 0 0 (suc n))) (empty-sound _ key_cmp most n));
}

-- a closed file with no keys stands for the empty map
pub empty-stands : (header : Fields) (bytes : List ℕ) → IsSpelling header (take 512 bytes) → header.closed ≡ true →
    header.count ≡ 0 → header.clock ≡ 0 → header.last ≡ 0 → header.levels ≡ replicate (header.bottom + 1) layout.no_marks →
    width header.format * 2 ^ (header.bottom + 4) ≤ length bytes → HeaderStandsFor header bytes empty_map
unfolding empty_map
empty-stands header bytes spelled closed count clock last levels whole = record {
  spelled = spelled;
  closed = closed;
  whole = whole;
  counted = count ∙ sym (finite.len-empty key_cmp Stored);
  numbered = last;
  is_map = empty_is_map (shape_of header.format header.keys);
  levels =
      let one_more : header.bottom + 1 ≡ suc header.bottom = omega arith in
      subst (λ (t : ℕ). LevelsStandFor header.keys t (layout.all_numbers header.levels) (file_spots header.format bytes) empty_map) (sym clock)
      (subst (λ (marks : List _). LevelsStandFor header.keys 0 (layout.all_numbers marks) (file_spots header.format bytes) empty_map)
      (sym (levels ∙ ap (λ (n : ℕ). replicate n layout.no_marks) one_more))
      (stand-empty header.keys header.bottom (file_spots header.format bytes)));
}
