-- The header of the copy, and the map that the copy stands for.
use Rattle.std.proofs.Common.{◌≡◌, ℕ, zero, suc, ◌+◌, ◌-◌, ◌*◌, ◌^◌, ◌<◌, ◌≤◌, Bool, true, false, inl, inr, List, [], ◌∷◌, length, take, refl, sym, ap, subst, ◌∙◌, arith, leb, leb-true, le-leb, ◌&&◌}
use Rattle.std.specs.FinMap as finite
use Rattle.std.proofs.lemmas.List.Elements.{All-weaker}
use Rattle.cola_cell.specs.declared.format.Format.{Format}
use Rattle.cola_cell.specs.declared.format.Format.TheVariants.{One, Two}
use Rattle.cola_cell.specs.Decoded.{spot_of_bytes}
use Rattle.cola_cell.specs.Format.{stamp_limit}
use Rattle.cola_cell.specs.Held.{Spot, Spots, Untold, Told, Bad}
use Rattle.cola_cell.specs.Spelling.{IsNoSpelling}
use Rattle.cola_cell.specs.Places.{number_of, IsPlace}
use Rattle.cola_cell.proofs.DecodedLemmas.{spot_told, spot_bad}
use Rattle.cola_clock.specs.Clock.{visible_slot}
use Rattle.cola_clock.specs.Marks.{Marks as LevelMarks, marks_at}
use Rattle.cola_layout.specs.Header.{Fields, IsSpelling, IsSound, header_bytes, head_bytes}
use Rattle.cola_layout.specs.Marks.{all_numbers, numbers_of, marks_of}
use Rattle.cola_layout.proofs.Levels.{number-at, numbers-length, fits-here}
use Rattle.cola_layout.proofs.Places.{place-behind, place-within}
use Rattle.cola_spec.specs.Map.{Map, IsMap, EntryFits, Stored}
use Rattle.cola_shapes.specs.Shapes.{shape_of}
use Rattle.cola_cell.specs.ToldCells.{AreTold, IsTold}
use Rattle.cola_layout.specs.Cells.{cell_bytes, file_spots}
use Rattle.cola_image.specs.Standing.{IsSlotAlike, AreRunsAlike, AreRunsTold, LevelsStandFor, HeaderStandsFor}
use Rattle.cola_image.proofs.StandingLemmas.{stand-alike}
use Rattle.cola_wide.specs.Runs.{IsAmong, IsOfRun}
use Rattle.cola_wide.specs.Copied.{cells_of, wide_size, wide_header, with_version, SpellSameCell, IsBad, AreCopied, IsFilled, IsCopyOf}
use Rattle.cola_wide.proofs.Among.{slot-in}

-- ---- the header

-- the bytes of a header of format One, with the version 2
version-changed : (f : Fields) → with_version 2 (header_bytes (record f { format = One })) ≡ header_bytes (record f { format = Two })
unfolding head_bytes
version-changed f = refl

text-of : (f : Fields) → f.format ≡ One → with_version 2 (header_bytes f) ≡ header_bytes (wide_header f)
text-of f one = ap (λ (x : Format). with_version 2 (header_bytes (record f { format = x }))) one ∙ version-changed f

sound-of : (f : Fields) → f.format ≡ One → IsSound f → IsSound (wide_header f)
sound-of f one sound = record {
  keys_in_range = sound.keys_in_range;
  bottom_fits = sound.bottom_fits;
  block_fits = sound.block_fits;
  count_fits = sound.count_fits;
  clock_fits = sound.clock_fits;
  last_fits = (let limit : f.last ≤ 0 = subst (λ (x : Format). f.last ≤ stamp_limit x) one sound.last_fits in omega (arith, limit));
  one_each = sound.one_each;
  marks_fit = sound.marks_fit;
}

pub spelled-wide : (f : Fields) (bytes : List ℕ) → f.format ≡ One → IsSpelling f bytes → IsSpelling (wide_header f) (with_version 2 bytes)
spelled-wide f bytes one spelled = record {
  text = ap (λ (xs : List ℕ). with_version 2 xs) spelled.text ∙ text-of f one;
  sound = sound-of f one spelled.sound;
}

-- ---- runs, level by level

-- both runs of a level are told alike
abbrev IsLevelAlike : Spots → Spots → ℕ → ℕ → LevelMarks → Type 0
IsLevelAlike spots others t level m = IsSlotAlike spots others level (visible_slot t level) m.visible × IsSlotAlike spots others level (1 - visible_slot t level) m.shadow

each-alike : (spots others : Spots) (t j : ℕ) (marks : List LevelMarks) → ((i : ℕ) → i < length marks → IsLevelAlike spots others t (j + i) (marks_at marks i)) → AreRunsAlike spots others t j marks
each-alike spots others t j [] each = tt
each-alike spots others t j (m ∷ below) each =
    let here : IsLevelAlike spots others t j m = subst (λ (n : ℕ). IsLevelAlike spots others t n m) (let e : j + 0 ≡ j = omega arith in e) (each 0 (omega arith)) in (
      here.0,
      here.1,
      each-alike spots others t (suc j) below (λ i within. subst (λ (n : ℕ). IsLevelAlike spots others t n (marks_at below i)) (let e : j + suc i ≡ suc j + i = omega arith in e) (each (suc i) (omega (arith, within)))),
    )

-- both runs of a level are told
abbrev IsLevelTold : Spots → ℕ → ℕ → LevelMarks → Type 0
IsLevelTold spots t level m = AreTold (spots level (visible_slot t level)) m.visible × AreTold (spots level (1 - visible_slot t level)) m.shadow

each-told : (spots : Spots) (t j : ℕ) (marks : List LevelMarks) → AreRunsTold spots t j marks → (i : ℕ) → i < length marks → IsLevelTold spots t (j + i) (marks_at marks i)
each-told spots t j [] told i within = absurd (omega (arith, within))
each-told spots t j (m ∷ below) told zero within = subst (λ (n : ℕ). IsLevelTold spots t n m) (let e : j ≡ j + 0 = omega arith in e) (told.0, told.1)
each-told spots t j (m ∷ below) told (suc i) within = subst (λ (n : ℕ). IsLevelTold spots t n (marks_at below i)) (let e : suc j + i ≡ j + suc i = omega arith in e) (each-told spots t (suc j) below told.2 i (omega (arith, within)))

-- ---- the copy stands for the same map

-- a map of format One is one of format Two
wider : (a b n : ℕ) → a ≤ b → leb n a ≡ true → leb n b ≡ true
wider a b n more small = le-leb n b (omega (arith, more, leb-true n a small))

both-true : (a b : Bool) → (a && b) ≡ true → (a ≡ true) × (b ≡ true)
both-true true true e = (refl, refl)
both-true true false e = cc
both-true false b e = cc

and-true : (a b : Bool) → a ≡ true → b ≡ true → (a && b) ≡ true
and-true true true x y = refl
and-true true false x y = cc
and-true false b x y = cc

entry-wide : (keys last : ℕ) (entry : List ℕ × Stored) → EntryFits (shape_of One keys) last entry → EntryFits (shape_of Two keys) last entry
entry-wide keys last entry fits =
    let key : (leb 1 (length entry.0) ≡ true) × (leb (length entry.0) 24 ≡ true) = both-true (leb 1 (length entry.0)) (leb (length entry.0) 24) fits.key_fits in
    record {
      key_fits = and-true (leb 1 (length entry.0)) (leb (length entry.0) 40) key.0 (wider 24 40 (length entry.0) (omega arith) key.1);
      value_fits = wider 32 72 (length entry.1.value) (omega arith) fits.value_fits;
      given = fits.given;
    }

map-wide : (keys : ℕ) (m : Map) → IsMap (shape_of One keys) m → IsMap (shape_of Two keys) m
map-wide keys m is = record {
  within = is.within;
  fitting = All-weaker (EntryFits (shape_of One keys) m.last) (EntryFits (shape_of Two keys) m.last) (entry-wide keys m.last) (finite.entries m.entries) is.fitting;
  last_given = is.last_given;
  unstamped = tt;
}

-- the bytes of a cell that is copied tell the same
same-spot : (one two : List ℕ) → SpellSameCell one two → spot_of_bytes Two two ≡ spot_of_bytes One one
same-spot one two same = spot_told Two same.cell two same.is ∙ sym (spot_told One same.cell one same.was)

-- a run of a level of a header has its cells at these numbers
module _ (header : Fields) (old new : List ℕ) (sound : IsSound header) (copied : AreCopied header 8 (cells_of header) old new) where
  cell-alike : (level slot index count : ℕ) → level ≤ header.bottom → slot < 2 → count ≤ 2 ^ (level + 2) → index < count →
      (IsAmong (number_of level slot index) (number_of level slot 0) count → IsOfRun header (number_of level slot index)) →
      file_spots Two new level slot index ≡ file_spots One old level slot index
  cell-alike level slot index count within slot_is fits below run =
      let place : IsPlace (header.bottom + 1) level slot index = record { level_in = omega (arith, within); slot_in = slot_is; index_in = omega (arith, below, fits) } in
      same-spot (cell_bytes One old (number_of level slot index)) (cell_bytes Two new (number_of level slot index))
      ((copied (number_of level slot index) (place-behind level slot index) (place-within header.bottom level slot index place)).run (run (omega arith, omega (arith, below))))

  level-alike : (level : ℕ) → level < length header.levels → IsLevelAlike (file_spots One old) (file_spots Two new) header.clock level (numbers_of (marks_of header.levels level))
  level-alike level within =
      let fits = fits-here header.clock header.levels sound.marks_fit level within in
      let low : level ≤ header.bottom = omega (arith, within, sound.one_each) in (
        λ index below. cell-alike level (visible_slot header.clock level) index (marks_of header.levels level).visible low (slot-in header.clock level) fits.visible_fits below (λ among. (level, (low, inl among))),
        λ index below. cell-alike level (1 - visible_slot header.clock level) index (marks_of header.levels level).shadow low (omega arith) fits.shadow_fits below (λ among. (level, (low, inr among))),
      )

  runs-alike : AreRunsAlike (file_spots One old) (file_spots Two new) header.clock 0 (all_numbers header.levels)
  runs-alike =
      each-alike (file_spots One old) (file_spots Two new) header.clock 0 (all_numbers header.levels)
      (λ i within.
      subst (λ (n : ℕ). IsLevelAlike (file_spots One old) (file_spots Two new) header.clock n (marks_at (all_numbers header.levels) i)) (let e : i ≡ 0 + i = omega arith in e)
      (subst (λ (m : LevelMarks). IsLevelAlike (file_spots One old) (file_spots Two new) header.clock i m) (sym (number-at header.levels i))
      (level-alike i (omega (arith, within, numbers-length header.levels)))))

  stands-wide : (m : Map) → header.format ≡ One → HeaderStandsFor header old m → IsSpelling (wide_header header) (take 512 new) → length new ≡ 128 * cells_of header → HeaderStandsFor (wide_header header) new m
  stands-wide m one file spelled long = record {
    spelled = spelled;
    closed = file.closed;
    whole = omega (arith, long);
    counted = file.counted;
    numbered = file.numbered;
    is_map = map-wide header.keys m (subst (λ (x : Format). IsMap (shape_of x header.keys) m) one file.is_map);
    levels = stand-alike header.keys header.clock (all_numbers header.levels) (file_spots One old) (file_spots Two new) m runs-alike
        (subst (λ (x : Format). LevelsStandFor header.keys header.clock (all_numbers header.levels) (file_spots x old) m) one file.levels);
  }

-- the copy of a file, put together
pub copy-of : (header : Fields) (head old new : List ℕ) → header.format ≡ One → IsSpelling header (take 512 old) → head ≡ with_version 2 (take 512 old) → length new ≡ wide_size header → IsFilled header head old new → IsCopyOf header old new
copy-of header head old new one spelled head_is long filled =
    let here : take 512 new ≡ with_version 2 (take 512 old) = filled.head_is ∙ head_is in
    let is : IsSpelling (wide_header header) (take 512 new) = subst (λ (xs : List ℕ). IsSpelling (wide_header header) xs) (sym here) (spelled-wide header (take 512 old) one spelled) in
    record {
      size = long;
      head = here;
      spelled = is;
      last = (let limit : header.last ≤ 0 = subst (λ (x : Format). header.last ≤ stamp_limit x) one spelled.sound.last_fits in omega (arith, limit));
      behind_head = filled.behind_head;
      cells = filled.cells;
      stands = λ m file. stands-wide header old new spelled.sound filled.cells m one file is long;
    }

-- ---- a file that stands for a map has no bad cell

-- the index of a number in a run
told-in : (spots : ℕ → Spot) (first count number : ℕ) → AreTold spots count → IsAmong number first count → IsTold (spots (number - first))
told-in spots first count number told among = told (number - first) (omega (arith, among.0, among.1))

not-bad : (spot : Spot) → IsTold spot → spot ≡ Bad → ⊥
not-bad Untold told bad = cc
not-bad Bad told bad = cc
not-bad (Told c) told bad = cc

run-not-bad : (old : List ℕ) (level slot count number : ℕ) → AreTold (file_spots One old level slot) count → IsAmong number (number_of level slot 0) count → IsNoSpelling One (cell_bytes One old number) → ⊥
run-not-bad old level slot count number told among none =
    let index : ℕ = number - number_of level slot 0 in
    let e : number_of level slot index ≡ number = omega (arith, among.0) in
    not-bad (file_spots One old level slot index) (told-in (file_spots One old level slot) (number_of level slot 0) count number told among)
    (ap (λ (n : ℕ). spot_of_bytes One (cell_bytes One old n)) e ∙ spot_bad One (cell_bytes One old number) none)

pub stands-not_bad : (header : Fields) (old : List ℕ) (m : Map) (number : ℕ) → header.format ≡ One → HeaderStandsFor header old m → IsBad header number (cell_bytes One old number) → ⊥
stands-not_bad header old m number one file bad =
    let run = bad.run in
    let level : ℕ = run.0 in
    let sound : IsSound header = file.spelled.sound in
    let within : level < length (all_numbers header.levels) = omega (arith, run.1.0, numbers-length header.levels, sound.one_each) in
    let told : AreRunsTold (file_spots One old) header.clock 0 (all_numbers header.levels) = subst (λ (x : Format). AreRunsTold (file_spots x old) header.clock 0 (all_numbers header.levels)) one file.levels.told in
    let here : IsLevelTold (file_spots One old) header.clock level (numbers_of (marks_of header.levels level)) =
    subst (λ (k : LevelMarks). IsLevelTold (file_spots One old) header.clock level k) (number-at header.levels level)
    (subst (λ (n : ℕ). IsLevelTold (file_spots One old) header.clock n (marks_at (all_numbers header.levels) level)) (let e : 0 + level ≡ level = omega arith in e)
    (each-told (file_spots One old) header.clock 0 (all_numbers header.levels) told level within)) in
    elim run.1.1 [
      | inl among ↦ run-not-bad old level (visible_slot header.clock level) (marks_of header.levels level).visible number here.0 among bad.none
      | inr among ↦ run-not-bad old level (1 - visible_slot header.clock level) (marks_of header.levels level).shadow number here.1 among bad.none
    ]
