-- What stands in a front after each call, and what a load takes from a device's bytes.
use Rattle.std.proofs.Common.{◌≡◌, ◌⊎◌, ℕ, ◌+◌, ◌-◌, ◌*◌, ◌^◌, ◌<◌, ◌≤◌, List, length, take, drop, replicate, get_or, Option, None, Some, Result, Ok, Err, sym, ap, subst, ◌∙◌, inl, inr, arith}
use Rattle.std.specs.Prelude.{OnOk, IfSome}
use Rattle.std.proofs.Math.Nat.{mul_comm}
use Rattle.std.proofs.lemmas.Bool.{cases_lt}
use Rattle.cola_cell.specs.declared.format.Format.{Format}
use Rattle.cola_cell.specs.declared.cell.Cell.{Cell}
use Rattle.cola_cell.specs.Format.{width}
use Rattle.cola_cell.specs.Spelling.{IsSpelling}
use Rattle.cola_cell.specs.Decoded.{decoded, standing, spelling}
use Rattle.cola_cell.specs.Windows.{cell_bytes_at, AreSpelled}
use Rattle.cola_cell.proofs.DecodedLemmas.{decoded_is}
use Rattle.cola_device.specs.Bytes.{part, Gives}
use Rattle.cola_device.proofs.BytesLemmas.{length-part, part-part}
use Rattle.cola_front.specs.Front.{FrontCells, IsFront, AreBlocks, SameShape, IsLoaded, cell_at, cell_bytes, front_of, front_with, new_front}
use Rattle.cola_front.proofs.FrontLemmas.{room_left, width_none, width_sum}
use Rattle.cola_front.proofs.Places.{front_is, place_at, spelled_place, cell_part, over, over_blocks, over_others, over_placed, places_written, room_many, zeros_places}

-- the bytes of both blocks of a front
module _ (format : Format) (block : ℕ) (bytes : List ℕ) (front : FrontCells) (is : front_of format block bytes ≡ front) where
  pub sound_of : AreBlocks format block bytes → IsFront front
  sound_of are = subst IsFront is (front_is format block bytes are)

  -- they spell what stands at a place
  pub cell_of : (place : ℕ) → 8 ≤ place → place < 2 * front.block → decoded format (cell_bytes format bytes place) ≡ cell_at front place
  cell_of place behind within =
      let here : place < 2 * block = subst (λ (f : FrontCells). place < 2 * f.block) (sym is) within in
      sym (place_at format bytes (2 * block) place here ∙ spelled_place format bytes place behind) ∙ ap (λ (f : FrontCells). cell_at f place) is

  -- and so does a part of them
  pub window_shown : (found : List ℕ) (place count n : ℕ) → found ≡ part bytes (width format * place) (width format * count) → 8 ≤ place → place + count ≤ 2 * front.block → n < count
      → cell_at front (place + n) ≡ decoded front.format (cell_bytes front.format found n)
  window_shown found place count n there behind within below =
      sym (cell_of (place + n) (omega (arith, behind)) (omega (arith, within, below)))
      ∙ ap (decoded format) (sym (ap (λ (xs : List ℕ). cell_bytes format xs n) there ∙ cell_part format bytes place count n below))
      ∙ ap (λ (f : FrontCells). decoded f.format (cell_bytes f.format found n)) is

  -- a cell was written to a place behind the header
  pub written : (place : ℕ) (cell : Cell) (now : List ℕ) → AreBlocks format block bytes → 8 ≤ place → place < 2 * front.block → IsSpelling format cell (spelling format cell)
      → now ≡ over format bytes place (spelling format cell) → front_of format block now ≡ front_with front place cell
  written place cell now are behind within s new =
      let here : place < 2 * block = subst (λ (f : FrontCells). place < 2 * f.block) (sym is) within in
      ap (front_of format block) new ∙ ap (λ (xs : List (Option Cell)). record { format = format; block = block; cells = xs }) (places_written format block bytes place cell are behind here s)
      ∙ ap (λ (f : FrontCells). front_with f place cell) is

  -- cells were copied to places behind the header
  module _ (new now : List ℕ) (at count : ℕ) (are : AreBlocks format block bytes) (behind : 8 ≤ at) (within : at + count ≤ 2 * front.block) (size : length new ≡ width format * count) (put : now ≡ over format bytes at new) where
    here : at + count ≤ 2 * block
    here = subst (λ (f : FrontCells). at + count ≤ 2 * f.block) (sym is) within

    holds : width format * at + width format * count ≤ length bytes
    holds = let whole = are.whole in let room = room_many format at count (2 * block) here in omega (arith, whole, room)

    pub copied_sound : IsFront (front_of format block now)
    copied_sound = subst (λ (xs : List ℕ). IsFront (front_of format block xs)) (sym put) (front_is format block (over format bytes at new) (over_blocks format bytes new at count holds size block are))

    pub copied_others : (place : ℕ) → place < at ⊎ at + count ≤ place → cell_at (front_of format block now) place ≡ cell_at front place
    copied_others place other =
        ap (λ (xs : List ℕ). cell_at (front_of format block xs) place) put ∙ over_others format bytes new at count holds size (2 * block) place other ∙ ap (λ (f : FrontCells). cell_at f place) is

    pub copied_placed : (k : ℕ) → k < count → cell_at (front_of format block now) (at + k) ≡ decoded format (cell_bytes format new k)
    copied_placed k below =
        ap (λ (xs : List ℕ). cell_at (front_of format block xs) (at + k)) put ∙ over_placed format bytes new at count holds size (2 * block) k behind below (omega (arith, here, below))

  -- cells of some bytes, of which each is spelled, were put at a place and those behind it
  part_many : (cells : List ℕ) (count : ℕ) → count * width front.format ≤ length cells → length (part cells (width format * 0) (width format * count)) ≡ width format * count
  part_many cells count enough =
      let room : count * width format ≤ length cells = subst (λ (f : FrontCells). count * width f.format ≤ length cells) (sym is) enough in
      length-part cells (width format * 0) (width format * count) (let none = width_none format in let same = mul_comm count (width format) in omega (arith, room, none, same))

  pub spelled_placed : (cells now : List ℕ) (at count : ℕ) → AreBlocks format block bytes → 8 ≤ at → at + count ≤ 2 * front.block → count * width front.format ≤ length cells
      → now ≡ over format bytes at (part cells (width format * 0) (width format * count)) → AreSpelled front.format count cells
      → (k : ℕ) → k < count → cell_at (front_of format block now) (at + k) ≡ Some (standing front.format (cell_bytes_at front.format k cells))
  spelled_placed cells now at count are behind within enough put so k below =
      copied_placed (part cells (width format * 0) (width format * count)) now at count are behind within (part_many cells count enough) put k below
      ∙ ap (decoded format) (cell_part format cells 0 count k below ∙ ap (λ (n : ℕ). take (width format) (drop n cells)) (mul_comm (width format) (0 + k) ∙ ap (λ (n : ℕ). n * width format) (let none : 0 + k ≡ k = omega arith in none)))
      ∙ ap (λ (f : FrontCells). decoded f.format (cell_bytes_at f.format k cells)) is
      ∙ decoded_is front.format (standing front.format (cell_bytes_at front.format k cells)) (cell_bytes_at front.format k cells) (so k below)

  pub spelled_others : (cells now : List ℕ) (at count : ℕ) → AreBlocks format block bytes → 8 ≤ at → at + count ≤ 2 * front.block → count * width front.format ≤ length cells
      → now ≡ over format bytes at (part cells (width format * 0) (width format * count))
      → (place : ℕ) → place < at ⊎ at + count ≤ place → cell_at (front_of format block now) place ≡ cell_at front place
  spelled_others cells now at count are behind within enough put place other =
      copied_others (part cells (width format * 0) (width format * count)) now at count are behind within (part_many cells count enough) put place other

  pub spelled_sound : (cells now : List ℕ) (at count : ℕ) → AreBlocks format block bytes → 8 ≤ at → at + count ≤ 2 * front.block → count * width front.format ≤ length cells
      → now ≡ over format bytes at (part cells (width format * 0) (width format * count)) → IsFront (front_of format block now)
  spelled_sound cells now at count are behind within enough put =
      copied_sound (part cells (width format * 0) (width format * count)) now at count are behind within (part_many cells count enough) put

  -- the places from one on were taken from the bytes of a block
  module _ (given now : List ℕ) (first from : ℕ) (are : AreBlocks format block bytes) (begin : first ≤ from) (behind : 8 ≤ from) (number : first ≡ 0 ⊎ first ≡ front.block) (end : from ≤ first + front.block)
      (whole : length given ≡ width front.format * front.block) (put : now ≡ over format bytes from (part given (width format * (from - first)) (width format * (block - (from - first))))) where
    abbrev count : ℕ
    count = block - (from - first)

    same : block ≡ front.block
    same = ap (λ (f : FrontCells). f.block) is

    abbrev part_of : List ℕ
    part_of = part given (width format * (from - first)) (width format * count)

    size : length part_of ≡ width format * count
    size =
        let all : length given ≡ width format * block = subst (λ (f : FrontCells). length given ≡ width f.format * f.block) (sym is) whole in
        length-part given (width format * (from - first)) (width format * count) (let room = room_many format (from - first) count block (omega (arith, begin, end, same)) in omega (arith, room, all))

    within : from + count ≤ 2 * front.block
    within = elim number [ inl zero ↦ omega (arith, zero, begin, end, same) | inr second ↦ omega (arith, second, begin, end, same) ]

    ends : from + count ≡ first + front.block
    ends = omega (arith, begin, end, same)

    pub taken_above : (place : ℕ) → first + front.block ≤ place → cell_at (front_of format block now) place ≡ cell_at front place
    taken_above place above = copied_others part_of now from count are behind within size put place (inr (omega (arith, ends, above)))

    pub taken_below : (place : ℕ) → place < from → cell_at (front_of format block now) place ≡ cell_at front place
    taken_below place below = copied_others part_of now from count are behind within size put place (inl below)

    pub taken_there : (place : ℕ) → from ≤ place → place < first + front.block → cell_at (front_of format block now) place ≡ decoded front.format (cell_bytes front.format given (place - first))
    taken_there place above below =
        let k : ℕ = place - from in
        let few : k < count = omega (arith, above, below, ends) in
        ap (λ (n : ℕ). cell_at (front_of format block now) n) (let e : place ≡ from + k = omega (arith, above) in e)
        ∙ copied_placed part_of now from count are behind within size put k few
        ∙ ap (decoded format) (cell_part format given (from - first) count k few)
        ∙ ap (λ (n : ℕ). decoded format (cell_bytes format given n)) (let e : from - first + k ≡ place - first = omega (arith, begin, above) in e)
        ∙ ap (λ (f : FrontCells). decoded f.format (cell_bytes f.format given (place - first))) is

-- zeros are the bytes of a new front
pub new_is : (format : Format) (exp block wide : ℕ) (bytes : List ℕ) → wide ≡ width format → block ≡ 2 ^ exp → bytes ≡ replicate (wide * (2 * block)) 0 → front_of format block bytes ≡ new_front exp format
new_is format exp block wide bytes is size zeros =
    ap (front_of format block) (zeros ∙ ap (λ (n : ℕ). replicate (n * (2 * block)) 0) is)
    ∙ ap (λ (xs : List (Option Cell)). record { format = format; block = block; cells = xs }) (zeros_places format (2 * block))
    ∙ ap (λ (n : ℕ). record { format = format; block = n; cells = replicate (2 * n) None }) size

-- the bytes of a cell of a block are those of the device
loaded_bytes : (format : Format) (bytes block : List ℕ) (first place many : ℕ) → block ≡ part bytes (width format * first) (length block) → width format * many ≤ length block
    → first ≤ place → place < first + many → cell_bytes format block (place - first) ≡ cell_bytes format bytes place
loaded_bytes format bytes block first place many is whole begin end =
    let left : width format * (place - first) + width format ≤ width format * many = room_left format (place - first) many (omega (arith, begin, end)) in
    ap (λ (xs : List ℕ). part xs (width format * (place - first)) (width format)) is
    ∙ (part-part bytes (width format * first) (length block) (width format * (place - first)) (width format) (omega (arith, left, whole))
    ∙ ap (λ (n : ℕ). part bytes n (width format)) (width_sum format first (place - first) ∙ ap (λ (n : ℕ). width format * n) (let e : first + (place - first) ≡ place = omega (arith, begin) in e)))

-- what a block that was read gave
pub loaded_told : (format : Format) (told : Option (List ℕ)) (block : List ℕ) (cells : List (Option Cell)) (first from many : ℕ) → Gives told (width format * first) block
    → width format * many ≤ length block → first ≤ from
    → ((place : ℕ) → from ≤ place → place < first + many → get_or cells place None ≡ decoded format (cell_bytes format block (place - first)))
    → IfSome told (λ bytes. (place : ℕ) → from ≤ place → place < first + many → get_or cells place None ≡ decoded format (cell_bytes format bytes place))
loaded_told format None block cells first from many given whole begin taken = tt
loaded_told format (Some bytes) block cells first from many given whole begin taken =
    λ place above below. taken place above below ∙ ap (decoded format) (loaded_bytes format bytes block first place many given whole (omega (arith, begin, above)) below)

-- both blocks were read
pub both_loaded : (told : Option (List ℕ)) (middle now : FrontCells)
    → IfSome told (λ bytes. (place : ℕ) → 8 ≤ place → place < middle.block → cell_at middle place ≡ decoded middle.format (cell_bytes middle.format bytes place))
    → IfSome told (λ bytes. (place : ℕ) → middle.block ≤ place → place < middle.block + middle.block → cell_at now place ≡ decoded middle.format (cell_bytes middle.format bytes place))
    → ((place : ℕ) → place < middle.block → cell_at now place ≡ cell_at middle place) → SameShape middle now
    → IfSome told (λ bytes. IsLoaded bytes now)
both_loaded None middle now first second below shape = tt
both_loaded (Some bytes) middle now first second below shape =
    λ place behind within.
    subst (λ (f : Format). cell_at now place ≡ decoded f (cell_bytes f bytes place)) (sym shape.format)
    (elim (cases_lt place middle.block) [
      | inl low ↦ below place low ∙ first place behind low
      | inr high ↦ second place high (let same = shape.block in omega (arith, same, within))
    ])

-- where the second block was read too
pub load_meets : {T E : Type 0} (result : Result T E) (told told_now : Option (List ℕ)) (old middle now : FrontCells) (second : ℕ) → told_now ≡ told → second ≡ middle.block
    → IfSome told (λ bytes. (place : ℕ) → 8 ≤ place → place < 0 + old.block → cell_at middle place ≡ decoded old.format (cell_bytes old.format bytes place))
    → OnOk result (IfSome told_now (λ bytes. (place : ℕ) → second ≤ place → place < second + middle.block → cell_at now place ≡ decoded middle.format (cell_bytes middle.format bytes place)))
    → ((place : ℕ) → place < second → cell_at now place ≡ cell_at middle place) → SameShape old middle → SameShape middle now
    → OnOk result (IfSome told (λ bytes. IsLoaded bytes now))
load_meets (Err fault) told told_now old middle now second same is first last below a b = tt
load_meets (Ok value) told told_now old middle now second same is first last below a b =
    both_loaded told middle now
    (subst (λ (n : ℕ). IfSome told (λ bytes. (place : ℕ) → 8 ≤ place → place < n → cell_at middle place ≡ decoded middle.format (cell_bytes middle.format bytes place))) (let s = a.block in let e : 0 + old.block ≡ middle.block = omega (arith, s) in e)
    (subst (λ (f : Format). IfSome told (λ bytes. (place : ℕ) → 8 ≤ place → place < 0 + old.block → cell_at middle place ≡ decoded f (cell_bytes f bytes place))) (sym a.format) first))
    (subst (λ (t : Option (List ℕ)). IfSome t (λ bytes. (place : ℕ) → middle.block ≤ place → place < middle.block + middle.block → cell_at now place ≡ decoded middle.format (cell_bytes middle.format bytes place))) same
    (subst (λ (n : ℕ). IfSome told_now (λ bytes. (place : ℕ) → n ≤ place → place < n + middle.block → cell_at now place ≡ decoded middle.format (cell_bytes middle.format bytes place))) is last))
    (subst (λ (n : ℕ). (place : ℕ) → place < n → cell_at now place ≡ cell_at middle place) is below) b
