-- The first place at which two lists of bytes differ, and what a comparison of two devices answers.
use Rattle.std.specs.Prelude.{◌≡◌, ◌≢◌, ◌⊎◌, ℕ, suc, ◌+◌, ◌/◌, ◌==◌, ◌≤◌, min, if◌then◌else◌, List, [], ◌∷◌, length, take, slice_get, Option, Some, None, Result, Ok, Err, IfSome}
use Rattle.std.specs.Option.{option_map}
use Rattle.cola_outside.specs.Faults.{Rose}
use Rattle.cola_device.specs.declared.device.Device as device
use Rattle.cola_device.specs.declared.device.DeviceFault.{DeviceFault}
use Rattle.cola_device.specs.Bytes.{part}
use Rattle.cola_opening.specs.Counted.{Spends}

-- the least place at which two lists have different items, or at which one has an item and the other has ended; none where
-- they are the same
abbrev pub first_difference : List ℕ → List ℕ → Option ℕ
first_difference [] [] = None
first_difference [] (y ∷ ys) = Some 0
first_difference (x ∷ xs) [] = Some 0
first_difference (x ∷ xs) (y ∷ ys) = if x == y then option_map (λ place. suc place) (first_difference xs ys) else Some 0

-- two lists have the same items before a place, and not the same there
pub record DifferAt (xs ys : List ℕ) (place : ℕ) : Type 0 where
  pub same : take place xs ≡ take place ys
  pub differ : slice_get xs place ≢ slice_get ys place

-- how many pieces of up to 512 bytes so many bytes are
abbrev pub pieces_of : ℕ → ℕ
pieces_of size = (size + 511) / 512

-- where both are told, they stand in this relation
abbrev pub IfBoth : Option (List ℕ) → Option (List ℕ) → (List ℕ → List ℕ → Type 0) → Type 0
IfBoth first second relation = IfSome first (λ xs. IfSome second (λ ys. relation xs ys))

-- the first place at which pieces of two lists differ, so many bytes from a place on
abbrev pub differ_within : ℕ → ℕ → List ℕ → List ℕ → Option ℕ
differ_within at count xs ys = option_map (λ place. at + place) (first_difference (part xs at count) (part ys at count))

module _ {D E : Type 0} (d : device.Ghosts D) (e : device.Ghosts E) (first first_now : D) (second second_now : E) where
  -- both were read at most so often, and asked for their sizes at most so often; their bytes stay, and all that they keep
  pub record OnlyRead (reads others : ℕ) : Type 0 where
    pub bytes_stay : d.bytes first_now ≡ d.bytes first
    pub kept : d.kept first_now ≡ d.kept first
    pub spends : Spends (d.counts first) (d.counts first_now) reads 0 others
    pub second_bytes_stay : e.bytes second_now ≡ e.bytes second
    pub second_kept : e.kept second_now ≡ e.kept second
    pub second_spends : Spends (e.counts second) (e.counts second_now) reads 0 others

  -- one of the two met a fault
  abbrev pub MetFault : Type 0
  MetFault = Rose (d.counts first).faults (d.counts first_now).faults ⊎ Rose (e.counts second).faults (e.counts second_now).faults

  -- neither met a fault, and where both tell their bytes this is the place that their bytes have
  pub record IsPlace (of_bytes : List ℕ → List ℕ → Option ℕ) (place : Option ℕ) : Type 0 where
    pub place_is : IfBoth (d.bytes first) (e.bytes second) (λ xs ys. place ≡ of_bytes xs ys)
    pub no_fault : (d.counts first_now).faults ≡ (d.counts first).faults
    pub second_no_fault : (e.counts second_now).faults ≡ (e.counts second).faults

  -- what was answered: the place that the bytes have; or that a device failed, and its count of faults rose
  abbrev pub Compares : (List ℕ → List ℕ → Option ℕ) → Result (Option ℕ) DeviceFault → Type 0
  Compares of_bytes (Ok place) = IsPlace of_bytes place
  Compares of_bytes (Err fault) = MetFault

  -- each was read as often as the shorter has pieces, at most, where both tell their bytes
  pub record OnlyCompared : Type 0 where
    pub reads : ℕ
    pub few : IfBoth (d.bytes first) (e.bytes second) (λ xs ys. reads ≤ pieces_of (min (length xs) (length ys)))
    pub only_read : OnlyRead reads 1
