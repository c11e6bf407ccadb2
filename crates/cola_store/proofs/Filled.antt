-- The bytes of a device that was laid out and has its header, and which refusals of that are left where nothing speaks for them.
use Rattle.std.proofs.Common.{◌≡◌, ℕ, ◌-◌, ◌≤◌, List, ◌++◌, length, take, drop, replicate, Option, Some, None, Result, Ok, Err, refl, sym, ◌∙◌, ap, subst, arith, length-append, ◌<◌, true, inl, inr}
use Rattle.std.specs.Prelude.{IfSome, OnOk, is_ok, IsSomeAnd}
use Rattle.std.proofs.lemmas.List.{length-replicate, drop-replicate, take_at, drop_at}
use Rattle.cola_outside.specs.Told.{Both}
use Rattle.cola_outside.specs.Faults.{Rose}
use Rattle.cola_cell.specs.declared.format.Format.{Format}
use Rattle.cola_device.specs.Bytes.{splice, IsEmpty, HasSize, HasRange, LaidOut, Wrote}
use Rattle.cola_device.proofs.ToldLemmas.{length-WroteSome}
use Rattle.cola_device.specs.declared.device.Device as device
use Rattle.cola_layout.specs.Header.{IsSpelling}
use Rattle.cola_layout.specs.declared.fault.LayoutFault.{LayoutFault}
use Rattle.cola_layout.specs.declared.fault.LayoutFault.TheVariants as layout
use Rattle.cola_layout.specs.Geometry.{Refuses}
use Rattle.cola_layout.proofs.Powers.{bottom-is_one}
use Rattle.cola_opening.specs.Judged.{file_size}
use Rattle.cola_image.proofs.StandingLemmas.{empty-stands}
use Rattle.cola_store.specs.Create.{IsNewFile, new_header, Suits, Created}
use Rattle.cola_store.specs.declared.fault.CreateFault.{CreateFault}
use Rattle.cola_store.specs.declared.fault.CreateFault.TheVariants.{Keys, Block, NotEmpty, Device}

-- where bytes are told, there are at most so many afterwards
abbrev pub AtMost : ℕ → Option (List ℕ) → Option (List ℕ) → Type 0
AtMost size before now = Both before now (λ _ bytes. length bytes ≤ size)

pub laid_at_most : {T E : Type 0} (result : Result T E) (size : ℕ) (before now : Option (List ℕ)) → LaidOut result size before now → AtMost size before now
laid_at_most result size None None laid = tt
laid_at_most result size None (Some now) laid = absurd laid
laid_at_most result size (Some before) None laid = absurd laid
laid_at_most (Ok value) size (Some before) (Some now) laid = omega (arith, ap length laid ∙ length-replicate size 0)
laid_at_most (Err fault) size (Some before) (Some now) laid = laid

pub wrote_at_most : {T E : Type 0} (result : Result T E) (size at : ℕ) (from : List ℕ) (before mid now : Option (List ℕ)) → AtMost size before mid → HasRange mid at (length from) → Wrote result at from mid now → AtMost size before now
wrote_at_most result size at from None None None few inside wrote = tt
wrote_at_most result size at from None None (Some now) few inside wrote = absurd wrote
wrote_at_most result size at from None (Some mid) now few inside wrote = absurd few
wrote_at_most result size at from (Some before) None now few inside wrote = absurd few
wrote_at_most result size at from (Some before) (Some mid) None few inside wrote = absurd wrote
wrote_at_most result size at from (Some before) (Some mid) (Some now) few inside wrote = omega (arith, few, length-WroteSome wrote inside)

-- zero bytes with a header in the place of the first of them
pub zeros_behind : (size : ℕ) (header : List ℕ) → length header ≡ 512 → splice (replicate size 0) 0 header ≡ header ++ replicate (size - 512) 0
zeros_behind size header long =
    ap (λ n. header ++ drop n (replicate size 0)) long ∙ ap (λ xs. header ++ xs) (drop-replicate 512 size 0)

pub filled : {T U : Type 0} (E : Type 0) (value : T) (other : U) (size : ℕ) (header : List ℕ) (before mid now : Option (List ℕ)) → length header ≡ 512 → LaidOut {T = T} {E = E} (Ok value) size before mid → Wrote {T = U} {E = E} (Ok other) 0 header mid now
    → IfSome now (λ bytes. bytes ≡ header ++ replicate (size - 512) 0)
filled E value other size header before mid None long laid wrote = tt
filled E value other size header None None (Some now) long laid wrote = absurd wrote
filled E value other size header None (Some mid) (Some now) long laid wrote = absurd laid
filled E value other size header (Some before) None (Some now) long laid wrote = absurd laid
filled E value other size header (Some before) (Some mid) (Some now) long laid wrote =
    wrote.others_stay ∙ (ap (splice mid 0) wrote.exact ∙ (ap (λ xs. splice xs 0 header) laid ∙ zeros_behind size header long))

-- these bytes are a new file
pub is_new_file : (format : Format) (keys block_exp bottom : ℕ) (header bytes : List ℕ) → length header ≡ 512 → IsSpelling (new_header format keys block_exp bottom) header → 512 ≤ file_size format bottom → bytes ≡ header ++ replicate (file_size format bottom - 512) 0
    → IsNewFile format keys block_exp bottom bytes
is_new_file format keys block_exp bottom header bytes long spelled room is =
    let behind : List ℕ = replicate (file_size format bottom - 512) 0 in
    let size : length bytes ≡ file_size format bottom =
    ap length is ∙ (length-append header behind ∙ omega (arith, long, length-replicate {A = ℕ} (file_size format bottom - 512) 0, room)) in
    record {
      size = size;
      stands =
          empty-stands (new_header format keys block_exp bottom) bytes
          (subst (λ xs. IsSpelling (new_header format keys block_exp bottom) xs) (sym (ap (take 512) is ∙ take_at header behind 512 long)) spelled)
          refl refl refl refl refl (omega (arith, size));
      zero_behind = ap (drop 512) is ∙ drop_at header behind 512 long;
    }

pub told_new_file : (format : Format) (keys block_exp bottom size : ℕ) (header : List ℕ) (told : Option (List ℕ)) → size ≡ file_size format bottom → length header ≡ 512 → IsSpelling (new_header format keys block_exp bottom) header → 512 ≤ size → IfSome told (λ bytes. bytes ≡ header ++ replicate (size - 512) 0)
    → IfSome told (IsNewFile format keys block_exp bottom)
told_new_file format keys block_exp bottom size header None is long spelled room found = tt
told_new_file format keys block_exp bottom size header (Some bytes) is long spelled room found =
    is_new_file format keys block_exp bottom header bytes long spelled (omega (arith, is, room)) (found ∙ ap (λ n. header ++ replicate (n - 512) 0) is)

-- a size of 0 is that of no bytes
pub size_0_is_empty : (told : Option (List ℕ)) (size : ℕ) → size ≡ 0 → HasSize told size → IsEmpty told
size_0_is_empty None size none has = tt
size_0_is_empty (Some bytes) size none has = sym has ∙ none

pub on_ok : {T E P : Type 0} (result : Result T E) → P → OnOk result P
on_ok (Ok value) p = p
on_ok (Err fault) p = tt

-- sizes of a store are not refused
suited : (keys block_exp bottom : ℕ) (fault : LayoutFault) → Suits keys block_exp bottom → Refuses keys block_exp fault → ⊥
suited keys block_exp bottom layout.Keys suits (inl none) = omega (arith, none, suits.keys_in_range.some)
suited keys block_exp bottom layout.Keys suits (inr many) = omega (arith, many, suits.keys_in_range.few)
suited keys block_exp bottom layout.Block suits (are, (other, is, inl small)) = omega (arith, small, suits.block_fits.group)
suited keys block_exp bottom layout.Block suits (are, (other, is, inr large)) =
    let same : other ≡ bottom = bottom-is_one keys other bottom is suits.bottom_is in
    omega (arith, rw same at large, suits.block_fits.fits)

-- no bytes and some bytes
none_and_some : (told : Option (List ℕ)) → IsSomeAnd told (λ bytes. length bytes ≡ 0) → IfSome told (λ bytes. 0 < length bytes) → ⊥
none_and_some None none some = none
none_and_some (Some bytes) none some = omega (arith, none, some)

pub is_made : {D : Type 0} (d : device.Ghosts D) (format : Format) (keys block_exp bottom : ℕ) (before now : D) (result : Result (Unit {0}) CreateFault) → Suits keys block_exp bottom → IsSomeAnd (d.bytes before) (λ bytes. length bytes ≡ 0)
    → (Rose (d.counts before).faults (d.counts now).faults → ⊥) → Created d format keys block_exp before now result → is_ok result ≡ true
is_made d format keys block_exp bottom before now (Ok value) suits none calm made = refl
is_made d format keys block_exp bottom before now (Err Keys) suits none calm refused = absurd (suited keys block_exp bottom layout.Keys suits refused.why)
is_made d format keys block_exp bottom before now (Err Block) suits none calm refused = absurd (suited keys block_exp bottom layout.Block suits refused.why)
is_made d format keys block_exp bottom before now (Err NotEmpty) suits none calm was = absurd (none_and_some (d.bytes before) none was.some)
is_made d format keys block_exp bottom before now (Err Device) suits none calm failed = absurd (calm failed.cause)
