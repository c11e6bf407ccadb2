-- A `&` to a region is made where one to its bytes is.
use Rattle.std.proofs.Common.{ℕ, ◌^◌, List, w8}
use Rattle.std.specs.Prelude.{Option, Some, None}
use seplogic.Ra.Ura.{Ura}
use base.Fraction.{full_share}
use base.Fml.{Lft, ftrue, flt}
use types.Logic.{Logic}
use denote.Array.{Array, Array-row_laws}
use denote.Builtin.{u8}
use denote.Copied.{uint_Copied}
use denote.Param.Shared.{copy_shared}
use denote.Plain.{uint_row_laws}
use denote.RawPtr.{Ptr, lies_at}
use denote.Shares.{Shares-Array}
use denote.Sharing.{ShrLaws, said}
use denote.SharingLaws.{nothing_shr_laws, said_shr_laws, beside_shr_laws}
use denote.Struct.Field.{RawPtr-field, usize-field}
use denote.Struct.Laws.{RawPtr-copy, usize-copy}
use denote.Struct.Lending.{lent_at, lent_at_shr_laws, Lends, Lends-lies, Lends-said, Lends-nothing, Lends-both, of_Lends}
use Rattle.cola_mapped.specs.Region.{region_at, region_lent}
use Rattle.cola_mapped.specs.contracts.lent.Lent as lent
use Rattle.cola_mapped.proofs.lent.Lent.TheLaw.Statement.{statement}

lent_laws : (p : Ptr) (n : ℕ) (bytes : Option (List ℕ)) → ShrLaws (region_lent p n bytes)
lent_laws p n None = nothing_shr_laws
lent_laws p n (Some xs) =
    beside_shr_laws (said (flt n (2 ^ 63))) (lent_at (Array u8 n) p xs) (said_shr_laws (flt n (2 ^ 63)) tt) (lent_at_shr_laws (Array u8 n) (Array-row_laws u8 (uint_row_laws w8) n) p xs)

lends : {M : Type 1} {𝓤 : Ura M} (𝓛 : Logic 𝓤) (l : Lft) (p : Ptr) (n : ℕ) (bytes : Option (List ℕ)) → Lends 𝓛 (region_at p n bytes) (region_lent p n bytes) l
lends 𝓛 l p n None = Lends-nothing 𝓛 ftrue l
lends 𝓛 l p n (Some xs) =
    Lends-both 𝓛 (flt n (2 ^ 63)) (lies_at (Array u8 n) full_share p xs) (said (flt n (2 ^ 63))) (lent_at (Array u8 n) p xs) l (Lends-said 𝓛 (flt n (2 ^ 63)) tt l)
    (Lends-lies 𝓛 (Array u8 n) l p xs (Shares-Array 𝓛 u8 tt n l ((uint_Copied 𝓛 w8).shares full_share l) xs))

pub shares : statement
shares = of_Lends lent.struct lent.the_codes lent.the_heap lent.the_lent (λ d p. lent_laws d.at d.len d.bytes) (copy_shared RawPtr-field RawPtr-copy, (copy_shared usize-field usize-copy, tt))
    (λ M 𝓤 𝓛 d p. lends 𝓛 lent.the_row.lives d.at d.len d.bytes)
