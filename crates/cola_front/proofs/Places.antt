-- What the bytes of both blocks spell, place by place, and where some of them were written.
use Rattle.std.proofs.Common.{◌≡◌, ◌≢◌, ◌⊎◌, ℕ, ◌+◌, ◌*◌, ◌<◌, ◌≤◌, ltb, Bool, List, [], ◌∷◌, ◌++◌, length, take, drop, get_or, set, replicate, Option, None, Some, refl, sym, ap, subst, ◌∙◌, inl, inr, arith}
use Rattle.std.specs.Prelude.{if◌then◌else◌}
use Rattle.std.proofs.lemmas.List.{ext_get_or, get_or_past, get_or-drop, get_or-set_same, get_or-set_other, get_or-replicate, length-drop, length-set, length-replicate, take_all}
use Rattle.std.proofs.lemmas.List.FromFn.{length-map-range_with_len, get_or-map-range_with_len, take-map-range_with_len, map-range_with_len_more}
use Rattle.std.proofs.lemmas.Bool.{cases_lt, cases_eq, lt-ltb, le-ltb}
use Rattle.cola_cell.specs.declared.format.Format.{Format}
use Rattle.cola_cell.specs.declared.format.Format.TheVariants.{One, Two}
use Rattle.cola_cell.specs.declared.cell.Cell.{Cell}
use Rattle.cola_cell.specs.Format.{width}
use Rattle.cola_cell.specs.Spelling.{IsSpelling, IsNoSpelling}
use Rattle.cola_cell.specs.Decoded.{decoded, standing, spelling}
use Rattle.cola_cell.proofs.DecodedLemmas.{decoded_is, decoding_is, spelling_back}
use Rattle.cola_device.specs.Bytes.{part, splice}
use Rattle.cola_device.proofs.BytesLemmas.{length-splice, part-part, part-splice_inside, part-splice_below, part-splice_above, part-replicate}
use Rattle.cola_front.specs.Front.{IsFront, ComesBack, AreBlocks, cell_bytes, place_in, places_in, front_of, stored, stored_all}
use Rattle.cola_front.proofs.FrontLemmas.{none_back, decoded_back, stored_many, stored_all_many, stored_all_push, width_next, put_behind}

-- no cell stands at a place of the header
pub header_place : (format : Format) (bytes : List ℕ) (place : ℕ) → place < 8 → place_in format bytes place ≡ None
header_place format bytes place low = ap (λ (t : Bool). if t then None else decoded format (cell_bytes format bytes place)) (lt-ltb place 8 low)

-- behind the header stands what the bytes spell
pub spelled_place : (format : Format) (bytes : List ℕ) (place : ℕ) → 8 ≤ place → place_in format bytes place ≡ decoded format (cell_bytes format bytes place)
spelled_place format bytes place behind = ap (λ (t : Bool). if t then None else decoded format (cell_bytes format bytes place)) (le-ltb place 8 behind)

-- what stands at a place comes back
pub place_back : (format : Format) (bytes : List ℕ) (place : ℕ) → ComesBack format (place_in format bytes place)
place_back format bytes place = elim (cases_lt place 8) [
  | inl low ↦ subst (ComesBack format) (sym (header_place format bytes place low)) (none_back format)
  | inr behind ↦ subst (ComesBack format) (sym (spelled_place format bytes place behind)) (decoded_back format (cell_bytes format bytes place))
]

-- the same bytes of a cell spell the same
pub place_same : (format : Format) (before now : List ℕ) (place : ℕ) → cell_bytes format now place ≡ cell_bytes format before place → place_in format now place ≡ place_in format before place
place_same format before now place is = ap (λ (xs : List ℕ). if ltb place 8 then None else decoded format xs) is

-- what stands at a place, by the bytes of its cell
abbrev pub place_of : Format → ℕ → List ℕ → Option Cell
place_of format place cell = if ltb place 8 then None else decoded format cell

-- zeros are stored where no cell stands
pub stored_none : (format : Format) (place : ℕ) (cell into : List ℕ) → place_of format place cell ≡ None → into ≡ replicate (width format) 0 → into ≡ stored format (place_of format place cell)
stored_none format place cell into none zeros = zeros ∙ ap (stored format) (sym none)

pub stored_header : (format : Format) (place : ℕ) (cell into : List ℕ) → place < 8 → into ≡ replicate (width format) 0 → into ≡ stored format (place_of format place cell)
stored_header format place cell into low zeros = stored_none format place cell into (ap (λ (t : Bool). if t then None else decoded format cell) (lt-ltb place 8 low)) zeros

pub stored_bad : (format : Format) (place : ℕ) (cell into : List ℕ) → 8 ≤ place → IsNoSpelling format cell → into ≡ replicate (width format) 0 → into ≡ stored format (place_of format place cell)
stored_bad format place cell into behind bad zeros =
    stored_none format place cell into (ap (λ (t : Bool). if t then None else decoded format cell) (le-ltb place 8 behind) ∙ sym (decoding_is format cell None bad)) zeros

-- and else the bytes themselves
pub stored_cell : (format : Format) (place : ℕ) (cell into : List ℕ) → 8 ≤ place → IsSpelling format (standing format cell) cell → into ≡ cell → into ≡ stored format (place_of format place cell)
stored_cell format place cell into behind so is =
    is ∙ sym (spelling_back format (standing format cell) cell so)
    ∙ ap (stored format) (sym (ap (λ (t : Bool). if t then None else decoded format cell) (le-ltb place 8 behind) ∙ decoded_is format (standing format cell) cell so))

-- the places of some bytes
module _ (format : Format) (bytes : List ℕ) where
  pub places_many : (first count : ℕ) → length (places_in format bytes first count) ≡ count
  places_many first count = length-map-range_with_len (place_in format bytes) first count

  places_at : (first count i : ℕ) → i < count → get_or (places_in format bytes first count) i None ≡ place_in format bytes (first + i)
  places_at first count i within = get_or-map-range_with_len (place_in format bytes) first count i (first + i) None within (omega arith)

  places_past : (first count i : ℕ) → count ≤ i → get_or (places_in format bytes first count) i None ≡ None
  places_past first count i past = get_or_past (places_in format bytes first count) i None (let many = places_many first count in omega (arith, many, past))

  pub place_at : (count place : ℕ) → place < count → get_or (places_in format bytes 0 count) place None ≡ place_in format bytes place
  place_at count place within = get_or-map-range_with_len (place_in format bytes) 0 count place place None within (omega arith)

  -- the first of them
  pub places_taken : (count fewer : ℕ) → fewer ≤ count → take fewer (places_in format bytes 0 count) ≡ places_in format bytes 0 fewer
  places_taken count fewer few = take-map-range_with_len (place_in format bytes) 0 count fewer few

  -- and those behind some
  pub places_dropped : (first count : ℕ) → drop first (places_in format bytes 0 (first + count)) ≡ places_in format bytes first count
  places_dropped first count =
      let all : List (Option Cell) = places_in format bytes 0 (first + count) in
      let left : length (drop first all) ≡ count = length-drop first all ∙ (let many = places_many 0 (first + count) in omega (arith, many)) in
      ext_get_or None (drop first all) (places_in format bytes first count) (left ∙ sym (places_many first count))
      (λ i within.
      let here : i < count = omega (arith, within, left) in
      get_or-drop first all i None ∙ place_at (first + count) (first + i) (omega (arith, here)) ∙ sym (places_at first count i here))

  places_one_more : (first count : ℕ) → places_in format bytes first (count + 1) ≡ places_in format bytes first count ++ place_in format bytes (first + count) ∷ []
  places_one_more first count = map-range_with_len_more (place_in format bytes) first count (first + count) (omega arith)

  -- they come back, each of them
  pub places_back : (first count i : ℕ) → ComesBack format (get_or (places_in format bytes first count) i None)
  places_back first count i = elim (cases_lt i count) [
    | inl within ↦ subst (ComesBack format) (sym (places_at first count i within)) (place_back format bytes (first + i))
    | inr past ↦ subst (ComesBack format) (sym (places_past first count i past)) (none_back format)
  ]

  -- a block whose first places are put, and one place more
  pub put_next : (first place : ℕ) (block old : List ℕ) → block ≡ stored_all format (places_in format bytes first place) ++ drop (width format * place) old
      → splice block (width format * place) (stored format (place_in format bytes (first + place))) ≡ stored_all format (places_in format bytes first (place + 1)) ++ drop (width format * (place + 1)) old
  put_next first place block old is =
      let done : List (Option Cell) = places_in format bytes first place in
      let cell : Option Cell = place_in format bytes (first + place) in
      let many : length (stored_all format done) ≡ width format * place = stored_all_many format done (places_back first place) ∙ ap (λ (n : ℕ). width format * n) (places_many first place) in
      ap (λ (xs : List ℕ). splice xs (width format * place) (stored format cell)) is
      ∙ (put_behind (stored_all format done) (stored format cell) old (width format * place) (width format) many (stored_many format cell (place_back format bytes (first + place)))
      ∙ (ap (λ (n : ℕ). (stored_all format done ++ stored format cell) ++ drop n old) (width_next format place)
      ∙ ap (λ (xs : List ℕ). xs ++ drop (width format * (place + 1)) old) (sym (ap (stored_all format) (places_one_more first place) ∙ stored_all_push format done cell))))

-- the bytes of both blocks spell a front
pub front_is : (format : Format) (block : ℕ) (bytes : List ℕ) → AreBlocks format block bytes → IsFront (front_of format block bytes)
front_is format block bytes are =
    record {
      some = are.some;
      few = are.few;
      many = places_many format bytes 0 (2 * block);
      header = λ place low. place_at format bytes (2 * block) place (let some = are.some in omega (arith, some, low)) ∙ header_place format bytes place low;
      comes_back = λ place. places_back format bytes 0 (2 * block) place;
    }

-- the bytes of a block that is stored
pub first_stored : (format : Format) (block : ℕ) (bytes : List ℕ) → places_in format bytes 0 block ≡ take block (places_in format bytes 0 (2 * block))
first_stored format block bytes = sym (places_taken format bytes (2 * block) block (omega arith))

pub second_stored : (format : Format) (block : ℕ) (bytes : List ℕ) → places_in format bytes block block ≡ drop block (places_in format bytes 0 (2 * block))
second_stored format block bytes =
    sym (ap (λ (n : ℕ). drop block (places_in format bytes 0 n)) (let e : 2 * block ≡ block + block = omega arith in e) ∙ places_dropped format bytes block block)

-- zeros spell no cell
zeros_part : (format : Format) (many place : ℕ) → place < many → cell_bytes format (replicate (width format * many) 0) place ≡ replicate (width format) 0
zeros_part One many place within = part-replicate (64 * many) 0 (64 * place) 64 (omega (arith, within))
zeros_part Two many place within = part-replicate (128 * many) 0 (128 * place) 128 (omega (arith, within))

zeros_place : (format : Format) (many place : ℕ) → place < many → place_in format (replicate (width format * many) 0) place ≡ None
zeros_place format many place within = elim (cases_lt place 8) [
  | inl low ↦ header_place format (replicate (width format * many) 0) place low
  | inr behind ↦ spelled_place format (replicate (width format * many) 0) place behind ∙ ap (decoded format) (zeros_part format many place within) ∙ none_back format
]

abbrev no_cell : Option Cell
no_cell = None

pub zeros_places : (format : Format) (many : ℕ) → places_in format (replicate (width format * many) 0) 0 many ≡ replicate many None
zeros_places format many =
    let bytes : List ℕ = replicate (width format * many) 0 in
    let long : length (places_in format bytes 0 many) ≡ many = places_many format bytes 0 many in
    ext_get_or None (places_in format bytes 0 many) (replicate many no_cell) (long ∙ sym (length-replicate many no_cell))
    (λ i within.
    let here : i < many = omega (arith, within, long) in
    place_at format bytes many i here ∙ zeros_place format many i here ∙ sym (get_or-replicate many i no_cell no_cell here))

-- a cell of a part
pub cell_part : (format : Format) (bytes : List ℕ) (first count k : ℕ) → k < count → cell_bytes format (part bytes (width format * first) (width format * count)) k ≡ cell_bytes format bytes (first + k)
cell_part One bytes first count k within = part-part bytes (64 * first) (64 * count) (64 * k) 64 (omega (arith, within)) ∙ ap (λ (n : ℕ). part bytes n 64) (let e : 64 * first + 64 * k ≡ 64 * (first + k) = omega arith in e)
cell_part Two bytes first count k within = part-part bytes (128 * first) (128 * count) (128 * k) 128 (omega (arith, within)) ∙ ap (λ (n : ℕ). part bytes n 128) (let e : 128 * first + 128 * k ≡ 128 * (first + k) = omega arith in e)

-- bytes of which whole cells were written
abbrev pub over : Format → List ℕ → ℕ → List ℕ → List ℕ
over format bytes at new = splice bytes (width format * at) new

-- a cell before them stays
cell_below : (format : Format) (bytes new : List ℕ) (at place : ℕ) → width format * at ≤ length bytes → place < at → cell_bytes format (over format bytes at new) place ≡ cell_bytes format bytes place
cell_below One bytes new at place holds below = part-splice_below bytes (64 * at) new (64 * place) 64 holds (omega (arith, below))
cell_below Two bytes new at place holds below = part-splice_below bytes (128 * at) new (128 * place) 128 holds (omega (arith, below))

-- and so does one behind them
cell_above : (format : Format) (bytes new : List ℕ) (at count place : ℕ) → width format * at + width format * count ≤ length bytes → length new ≡ width format * count → at + count ≤ place
    → cell_bytes format (over format bytes at new) place ≡ cell_bytes format bytes place
cell_above One bytes new at count place holds size above = part-splice_above bytes (64 * at) new (64 * place) 64 (omega (arith, holds, size)) (omega (arith, size, above))
cell_above Two bytes new at count place holds size above = part-splice_above bytes (128 * at) new (128 * place) 128 (omega (arith, holds, size)) (omega (arith, size, above))

-- one of them is new
cell_inside : (format : Format) (bytes new : List ℕ) (at count k : ℕ) → width format * at ≤ length bytes → length new ≡ width format * count → k < count → cell_bytes format (over format bytes at new) (at + k) ≡ cell_bytes format new k
cell_inside One bytes new at count k holds size within =
    ap (λ (n : ℕ). part (splice bytes (64 * at) new) n 64) (let e : 64 * (at + k) ≡ 64 * at + 64 * k = omega arith in e) ∙ part-splice_inside bytes (64 * at) new (64 * k) 64 holds (omega (arith, size, within))
cell_inside Two bytes new at count k holds size within =
    ap (λ (n : ℕ). part (splice bytes (128 * at) new) n 128) (let e : 128 * (at + k) ≡ 128 * at + 128 * k = omega arith in e) ∙ part-splice_inside bytes (128 * at) new (128 * k) 128 holds (omega (arith, size, within))

module _ (format : Format) (bytes new : List ℕ) (at count : ℕ) (holds : width format * at + width format * count ≤ length bytes) (size : length new ≡ width format * count) where
  -- they are as many bytes as before
  pub over_blocks : (block : ℕ) → AreBlocks format block bytes → AreBlocks format block (over format bytes at new)
  over_blocks block are = record { some = are.some; few = are.few; whole = length-splice bytes (width format * at) new (omega (arith, holds, size)) ∙ are.whole }

  over_below : (place : ℕ) → place < at → place_in format (over format bytes at new) place ≡ place_in format bytes place
  over_below place below = place_same format bytes (over format bytes at new) place (cell_below format bytes new at place (omega (arith, holds)) below)

  over_above : (place : ℕ) → at + count ≤ place → place_in format (over format bytes at new) place ≡ place_in format bytes place
  over_above place above = place_same format bytes (over format bytes at new) place (cell_above format bytes new at count place holds size above)

  -- what stands at other places stays
  pub over_others : (many place : ℕ) → place < at ⊎ at + count ≤ place → get_or (places_in format (over format bytes at new) 0 many) place None ≡ get_or (places_in format bytes 0 many) place None
  over_others many place other = elim (cases_lt place many) [
    | inl within ↦ place_at format (over format bytes at new) many place within ∙ elim other [ inl below ↦ over_below place below | inr above ↦ over_above place above ] ∙ sym (place_at format bytes many place within)
    | inr past ↦ places_past format (over format bytes at new) 0 many place past ∙ sym (places_past format bytes 0 many place past)
  ]

  -- and the new ones stand at theirs
  pub over_placed : (many k : ℕ) → 8 ≤ at → k < count → at + k < many → get_or (places_in format (over format bytes at new) 0 many) (at + k) None ≡ decoded format (cell_bytes format new k)
  over_placed many k behind within inside =
      place_at format (over format bytes at new) many (at + k) inside ∙ spelled_place format (over format bytes at new) (at + k) (omega (arith, behind)) ∙ ap (decoded format) (cell_inside format bytes new at count k (omega (arith, holds)) size within)

-- so many cells are no more bytes than more cells
pub room_many : (format : Format) (at count many : ℕ) → at + count ≤ many → width format * at + width format * count ≤ width format * many
room_many One at count many within = omega (arith, within)
room_many Two at count many within = omega (arith, within)

width_one : (format : Format) → width format ≡ width format * 1
width_one One = refl
width_one Two = refl

-- the bytes of one cell
whole_cell : (format : Format) (new : List ℕ) → length new ≡ width format → cell_bytes format new 0 ≡ new
whole_cell One new size = take_all 64 new (omega (arith, size))
whole_cell Two new size = take_all 128 new (omega (arith, size))

apart : (i place : ℕ) → i ≢ place → i < place ⊎ place + 1 ≤ i
apart i place other = elim (cases_lt i place) [ inl below ↦ inl below | inr above ↦ inr (omega (arith, above, other)) ]

-- one cell was written
pub places_written : (format : Format) (block : ℕ) (bytes : List ℕ) (place : ℕ) (cell : Cell) → AreBlocks format block bytes → 8 ≤ place → place < 2 * block → IsSpelling format cell (spelling format cell)
    → places_in format (over format bytes place (spelling format cell)) 0 (2 * block) ≡ set (places_in format bytes 0 (2 * block)) place (Some cell)
places_written format block bytes place cell are behind within s =
    let new : List ℕ = spelling format cell in
    let before : List (Option Cell) = places_in format bytes 0 (2 * block) in
    let now : List (Option Cell) = places_in format (over format bytes place new) 0 (2 * block) in
    let size : length new ≡ width format * 1 = s.size ∙ width_one format in
    let holds : width format * place + width format * 1 ≤ length bytes = (let whole = are.whole in let room = room_many format place 1 (2 * block) (omega (arith, within)) in omega (arith, whole, room)) in
    let long : length now ≡ 2 * block = places_many format (over format bytes place new) 0 (2 * block) in
    let many : length before ≡ 2 * block = places_many format bytes 0 (2 * block) in
    ext_get_or None now (set before place (Some cell)) (long ∙ sym (length-set before place (Some cell) ∙ many))
    (λ i inside. elim (cases_eq i place) [
      | inl e ↦
          ap (λ (n : ℕ). get_or now n None) (let at : i ≡ place + 0 = omega (arith, e) in at)
          ∙ over_placed format bytes new place 1 holds size (2 * block) 0 behind (omega arith) (omega (arith, within))
          ∙ ap (decoded format) (whole_cell format new s.size) ∙ decoded_is format cell new s
          ∙ sym (ap (λ (n : ℕ). get_or (set before place (Some cell)) n None) e ∙ get_or-set_same before place (Some cell) None (omega (arith, many, within)))
      | inr other ↦ over_others format bytes new place 1 holds size (2 * block) i (apart i place other) ∙ sym (get_or-set_other before place i (Some cell) None other)
    ])
