-- Files that pass all tests stand for a map, and files that stand for a map pass them.
use Rattle.std.proofs.Common.{◌≡◌, ℕ, zero, suc, ◌+◌, ◌*◌, ◌^◌, ◌<◌, ◌≤◌, ◌↔◌, true, List, [], ◌∷◌, length, map, take, refl, sym, subst, ◌∙◌, arith, Option, All}
use Rattle.std.specs.List.{AllByRecursion}
use Rattle.std.proofs.Math.Path.{fun_ext}
use Rattle.std.proofs.lemmas.List.{length-map}
use Rattle.std.proofs.lemmas.List.Elements.{All-same, All-head, All-tail}
use Rattle.cola_cell.specs.Format.{width}
use Rattle.cola_cell.specs.Held.{LawCell, Stamped}
use Rattle.cola_cell.specs.Order.{key_cmp}
use Rattle.cola_clock.specs.Marks.{Marks, AreChainMarks}
use Rattle.cola_layout.specs.Cells.{file_spots}
use Rattle.cola_image.specs.Standing.{found_in, HeaderStandsFor}
use Rattle.cola_laws.specs.Chain.{visibles, value_at}
use Rattle.cola_laws.specs.Plain.{empty_level, IsSoundChain}
use Rattle.cola_laws.specs.Slots.{all_marks_of}
use Rattle.cola_layout.specs.Header.{Fields, IsSpelling}
use Rattle.cola_layout.specs.Marks as layout
use Rattle.cola_spec.specs.Map.{Map, IsMap, EntryFits, count}
use Rattle.cola_shapes.specs.Shapes.{shape_of}
use Rattle.cola_verdict.specs.Tests.{FileLevel, Tested, tested_of, levels_in, level_at, below_at, live_pairs, ShadowAt}
use Rattle.cola_verdict.specs.Verdict.{Passes, IsVerdict}
use Rattle.cola_verdict.specs.declared.verdict.Flaw.TheVariants.{Cell, Order, Sample, Length, Shadow, Live, Count, Stamp}
use Rattle.cola_verdict.specs.declared.verdict.Verdict.TheVariants.{Sound}
use Rattle.cola_verdict.proofs.ByPlace.{seen_above, each-of_places, places-of_each}
use Rattle.cola_verdict.proofs.Fitting.{PairFits, visible-fit, entries-fit, last-fits, last-unstamped}
use Rattle.cola_verdict.proofs.Holding.{pairs-hold}
use Rattle.cola_verdict.proofs.Mapped.{stored-pair, map-of, map-says, entries-are, count-is}
use Rattle.cola_verdict.proofs.Passing.{ShadowPasses, LevelPasses, EachPasses, passed-sound, sound-passes}
use Rattle.cola_verdict.proofs.Runs.{cells-told, told-cells, levels-marks, levels-length}

-- ---- the tests of a file, level by level

module _ (file : Tested) where
  -- the visible run of the level above one; nothing lies above level 0
  abbrev run_above : ℕ → List LawCell
  run_above = seen_above empty_level (λ (l : FileLevel). l.visible) [] (levels_in file)

  shadow-tested : (j : ℕ) → ShadowAt file j ↔ ShadowPasses file.most file.clock j (run_above j) (level_at (levels_in file) j) (below_at (levels_in file) j)
  shadow-tested zero = ((λ h. tt), (λ h. tt))
  shadow-tested (suc i) = ((λ h. h), (λ h. h))

  levels-within : (j : ℕ) → j < length (levels_in file) → j < length file.marks
  levels-within j l = let e = levels-length file.spots file.clock file.marks in omega (arith, e, l)

  within-levels : (j : ℕ) → j < length file.marks → j < length (levels_in file)
  within-levels j l = let e = levels-length file.spots file.clock file.marks in omega (arith, e, l)

  pub tests-each : Passes file Order → Passes file Sample → Passes file Length → Passes file Shadow → Passes file Live → EachPasses file.most file.clock 0 [] (levels_in file)
  tests-each order samples few shadows live =
      each-of_places empty_level (λ (l : FileLevel). l.visible) (LevelPasses file.most file.clock) [] (levels_in file)
      (λ j l. let within = levels-within j l in
      record {
        order = order j within;
        samples = samples j within;
        few = few j within;
        shadow_passes = (shadow-tested j).0 (shadows j within);
        few_live = live j within;
      })

  at-level : EachPasses file.most file.clock 0 [] (levels_in file) → (j : ℕ) → j < length file.marks →
      LevelPasses file.most file.clock j (run_above j) (level_at (levels_in file) j) (below_at (levels_in file) j)
  at-level each j l =
      places-of_each empty_level (λ (l : FileLevel). l.visible) (LevelPasses file.most file.clock) [] (levels_in file) each j (within-levels j l)

-- ---- a list of levels, of which the first is level 0

chain-sound : (most t : ℕ) (levels : List FileLevel) → 1 ≤ length levels → AreChainMarks t (all_marks_of levels) → EachPasses most t 0 [] levels →
    IsSoundChain key_cmp most t (value_at key_cmp (visibles levels)) levels
chain-sound most t [] some marks each = absurd (omega (arith, some))
chain-sound most t (top ∷ below) some marks each = passed-sound most t top below marks each

chain-passes : (most t : ℕ) (map : List ℕ → Option Stamped) (levels : List FileLevel) → IsSoundChain key_cmp most t map levels → EachPasses most t 0 [] levels
chain-passes most t map [] sound = absurd sound
chain-passes most t map (top ∷ below) sound = sound-passes most t map top below sound

chain-says : (most t : ℕ) (map : List ℕ → Option Stamped) (levels : List FileLevel) → IsSoundChain key_cmp most t map levels → (q : List ℕ) →
    value_at key_cmp (visibles levels) q ≡ map q
chain-says most t map [] sound q = absurd sound
chain-says most t map (top ∷ below) sound q = sound.sound.stands q

-- ---- files that pass stand for the map that their visible runs answer as

module _ (header : Fields) (bytes : List ℕ) where
  -- the visible runs of the file
  abbrev runs-in : List (List LawCell)
  runs-in = visibles (levels_in (tested_of header bytes))

  marks-fit : IsSpelling header (take 512 bytes) → AreChainMarks header.clock (all_marks_of (levels_in (tested_of header bytes)))
  marks-fit spelled =
      subst (λ (marks : List Marks). AreChainMarks header.clock marks) (sym (levels-marks (file_spots header.format bytes) header.clock (layout.all_numbers header.levels)))
      spelled.sound.marks_fit

  some-level : IsSpelling header (take 512 bytes) → 1 ≤ length (levels_in (tested_of header bytes))
  some-level spelled =
      let one_each = spelled.sound.one_each in
      let numbers : length (layout.all_numbers header.levels) ≡ length header.levels = length-map header.levels layout.numbers_of in
      let levels = levels-length (file_spots header.format bytes) header.clock (layout.all_numbers header.levels) in
      omega (arith, one_each, numbers, levels)

  -- the map that the visible runs answer as, with the header's last number
  abbrev answered : Map
  answered = map-of header.last runs-in

  answered-count : count answered ≡ length (live_pairs runs-in)
  answered-count = count-is answered runs-in (map-says header.last runs-in)

  answered-is_map : IsSpelling header (take 512 bytes) → Passes (tested_of header bytes) Cell → Passes (tested_of header bytes) Count → Passes (tested_of header bytes) Stamp →
      IsMap (shape_of header.format header.keys) answered
  answered-is_map spelled told counted given =
      let pairs-fit : AllByRecursion (PairFits header.format) (live_pairs runs-in) =
      pairs-hold (PairFits header.format) runs-in
      (visible-fit header.format bytes header.clock 0 (layout.all_numbers header.levels) (cells-told (tested_of header bytes) told)) in
      let few = spelled.sound.count_fits in
      record {
        within = subst (λ (n : ℕ). n ≤ header.keys) (counted ∙ sym answered-count) few;
        fitting = All-same (EntryFits (shape_of header.format header.keys) header.last) _ _ (entries-are answered runs-in (map-says header.last runs-in))
            (entries-fit header.format header.keys header.last (live_pairs runs-in) pairs-fit given);
        last_given = last-fits header.format header.last spelled.sound.last_fits;
        unstamped = last-unstamped header.format header.last spelled.sound.last_fits;
      }

  pub passing-stands : (n : ℕ) → IsSpelling header (take 512 bytes) → header.closed ≡ true → width header.format * 2 ^ (header.bottom + 4) ≤ length bytes →
      IsVerdict (tested_of header bytes) (Sound n) → (m : Map) × HeaderStandsFor header bytes m × (count m ≡ n)
  passing-stands n spelled closed whole verdict =
      let file = tested_of header bytes in
      let told = verdict.0.0 in
      let order = verdict.0.1.0 in
      let samples = verdict.0.1.1.0 in
      let few = verdict.0.1.1.1.0 in
      let shadows = verdict.0.1.1.1.1.0 in
      let live = verdict.0.1.1.1.1.1.0 in
      let counted = verdict.0.1.1.1.1.1.1.0 in
      let given = verdict.0.1.1.1.1.1.1.1.0 in
      let each = tests-each file order samples few shadows live in
      let sound = chain-sound header.keys header.clock (levels_in file) (some-level spelled) (marks-fit spelled) each in (
        answered,
        record {
          spelled = spelled;
          closed = closed;
          whole = whole;
          counted = counted ∙ sym answered-count;
          numbered = refl;
          is_map = answered-is_map spelled told counted given;
          levels = record {
            told = cells-told file told;
            sound = subst (λ (f : List ℕ → Option Stamped). IsSoundChain key_cmp header.keys header.clock f (levels_in file)) (fun_ext (map-says header.last runs-in)) sound;
          };
        },
        answered-count ∙ sym verdict.1,
      )

-- ---- files that stand for a map pass

stamps-given : (most : ℕ) (header : Fields) (last : ℕ) (pairs : List (List ℕ × Stamped)) → All (EntryFits (shape_of header.format most) last) (map stored-pair pairs) →
    AllByRecursion (λ pair. pair.1.stamp ≤ last) pairs
stamps-given most header last [] fit = tt
stamps-given most header last (pair ∷ pairs) fit =
    let all = EntryFits (shape_of header.format most) last in
    let first = All-head all (stored-pair pair) (map stored-pair pairs) fit in
    (first.given, stamps-given most header last pairs (All-tail all (stored-pair pair) (map stored-pair pairs) fit))

-- the tests in their order
all-tests : (file : Tested) → Passes file Cell → Passes file Order → Passes file Sample → Passes file Length → Passes file Shadow → Passes file Live → Passes file Count → Passes file Stamp →
    AllByRecursion (Passes file) (Cell ∷ Order ∷ Sample ∷ Length ∷ Shadow ∷ Live ∷ Count ∷ Stamp ∷ [])
all-tests file a b c d e f g h = (a, (b, (c, (d, (e, (f, (g, (h, tt))))))))

pub standing-passes : (header : Fields) (bytes : List ℕ) (m : Map) → HeaderStandsFor header bytes m → IsVerdict (tested_of header bytes) (Sound (count m))
standing-passes header bytes m stands =
    let file = tested_of header bytes in
    let runs = visibles (levels_in file) in
    let says = chain-says header.keys header.clock (found_in m) (levels_in file) stands.levels.sound in
    let counted : count m ≡ length (live_pairs runs) = count-is m runs says in
    let each = chain-passes header.keys header.clock (found_in m) (levels_in file) stands.levels.sound in
    let given : AllByRecursion (λ pair. pair.1.stamp ≤ m.last) (live_pairs runs) =
    stamps-given header.keys header m.last (live_pairs runs)
    (All-same (EntryFits (shape_of header.format header.keys) m.last) _ _ (sym (entries-are m runs says)) stands.is_map.fitting) in (
      all-tests file (told-cells file stands.levels.told) (λ j l. (at-level file each j l).order) (λ j l. (at-level file each j l).samples) (λ j l. (at-level file each j l).few)
          (λ j l. (shadow-tested file j).1 (at-level file each j l).shadow_passes) (λ j l. (at-level file each j l).few_live) (stands.counted ∙ counted)
          (subst (λ (last : ℕ). AllByRecursion (λ pair. pair.1.stamp ≤ last) (live_pairs runs)) (sym stands.numbered) given),
      counted,
    )
