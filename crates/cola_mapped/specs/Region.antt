-- What a region owns and lends.
use Rattle.std.specs.Prelude.{ℕ, ◌^◌, List, [], Option, Some, None}
use base.Fraction.{full_share}
use base.Fml.{Fml, Lft, ftrue, fsep, flt}
use denote.Array.{Array}
use denote.Builtin.{u8}
use denote.RawPtr.{Ptr, lies_at}
use denote.Sharing.{nothing, said, beside}
use denote.Struct.Lending.{lent_at}

-- so many bytes at a pointer, or nothing where it is empty
abbrev pub region_at : Ptr → ℕ → Option (List ℕ) → Fml
region_at at len None = ftrue
region_at at len (Some bytes) = fsep (flt len (2 ^ 63)) (lies_at (Array u8 len) full_share at bytes)

-- what a `&` to a region holds: its bytes, to be read, or nothing where it is empty
abbrev pub region_lent : Ptr → ℕ → Option (List ℕ) → Lft → Fml
region_lent at len None = nothing
region_lent at len (Some bytes) = beside (said (flt len (2 ^ 63))) (lent_at (Array u8 len) at bytes)

-- the bytes of a region, none where it is empty
abbrev pub bytes_in : Option (List ℕ) → List ℕ
bytes_in None = []
bytes_in (Some bytes) = bytes
