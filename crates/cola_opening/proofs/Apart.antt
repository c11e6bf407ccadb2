-- What a file's bytes exclude.
use Rattle.std.proofs.Common.{◌≡◌, ℕ, ◌≤◌, inl, inr, List, length, take, Option, Some, Result, Ok, Err, subst, arith}
use Rattle.std.specs.Prelude.{IfSome}
use Rattle.cola_device.specs.declared.device.Device as device
use Rattle.cola_layout.specs.Fields.{fields_of}
use Rattle.cola_layout.specs.Header.{Fields}
use Rattle.cola_layout.proofs.Refusing.{spelling-one}
use Rattle.cola_opening.specs.declared.fault.HeaderFault.{HeaderFault}
use Rattle.cola_opening.specs.declared.fault.HeaderFault.TheVariants.{NotStore, Small, Device}
use Rattle.cola_opening.specs.declared.reading.FoundHeader.{FoundHeader}
use Rattle.cola_opening.specs.Judged.{file_size, HasHeader, IsSmall, IsNoStore, IsFoundIn, FindsHeader, IsHeaderOrFault}
use Rattle.cola_opening.proofs.Sizes.{header_fits}

-- a file has one header
pub one-header : (header other : Fields) (bytes : List ℕ) → HasHeader header bytes → HasHeader other bytes → other ≡ header
one-header header other bytes has its = spelling-one other header (take 512 bytes) its.spelled has.spelled

pub not-small : (header : Fields) (bytes : List ℕ) → HasHeader header bytes → IsSmall bytes → ⊥
not-small header bytes has (inl short) = omega (arith, short, has.whole, header_fits header.format header.bottom has.spelled.sound.bottom_fits.three)
not-small header bytes has (inr (other, (spelled, few))) =
    let whole : file_size other.format other.bottom ≤ length bytes = subst (λ (f : Fields). file_size f.format f.bottom ≤ length bytes) (spelling-one header other (take 512 bytes) has.spelled spelled) has.whole in
    omega (arith, few, whole)

pub not-none : (header : Fields) (bytes : List ℕ) → HasHeader header bytes → IsNoStore bytes → ⊥
not-none header bytes has is = is.none header has.spelled

pub none-not_small : (bytes : List ℕ) → IsNoStore bytes → IsSmall bytes → ⊥
none-not_small bytes is (inl short) = omega (arith, short, is.long)
none-not_small bytes is (inr (header, (spelled, few))) = is.none header spelled

told : (t : Option (List ℕ)) (bytes : List ℕ) (P : List ℕ → Type 0) → t ≡ Some bytes → IfSome t P → P bytes
told t bytes P is p = subst (λ (o : Option (List ℕ)). IfSome o P) is p

pub header-found : {D : Type 0} (d : device.Ghosts D) (header : Fields) (bytes head : List ℕ) (before now : D) (result : Result FoundHeader HeaderFault) → d.bytes before ≡ Some bytes → HasHeader header bytes → FindsHeader d before head now result → IsHeaderOrFault header result
header-found d header bytes head before now (Ok found) is has seen = one-header header (fields_of found.header) bytes has (told (d.bytes before) bytes (IsFoundIn found head) is seen.0.why_is).has
header-found d header bytes head before now (Err NotStore) is has seen = not-none header bytes has (told (d.bytes before) bytes IsNoStore is seen.why_is)
header-found d header bytes head before now (Err Small) is has seen = not-small header bytes has (told (d.bytes before) bytes IsSmall is seen.why_is)
header-found d header bytes head before now (Err Device) is has seen = tt
