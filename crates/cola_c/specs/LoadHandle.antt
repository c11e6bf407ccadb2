-- What the handle of a load owns.
use Rattle.std.specs.Prelude.{◌≡◌, Option, Some, None, ⊤}
use Rattle.std.specs.declared.boxed.Box.{Box}
use base.Fml.{Fml, ftrue}
use denote.RawPtr.{Ptr}
use Rattle.std.specs.Box.Ownership.{box_owns}
use Rattle.cola_handle.specs.Handle.{given_back}
use Rattle.cola_tools.specs.Loading.{Loads}
use Rattle.cola_tools.specs.contracts.loading.Load.{the_row}

-- what a handle owns with a load behind it, and with none nothing
abbrev pub load_at : Ptr → Option Loads → Fml
load_at at None = ftrue
load_at at (Some load) = box_owns given_back the_row at load

-- what was taken out of a handle is what was behind it
abbrev pub IsLoadInside : {B : Type 0} → Option Loads → Option (Box Loads B) → Type 0
IsLoadInside None None = ⊤
IsLoadInside None (Some b) = ⊥
IsLoadInside (Some load) None = ⊥
IsLoadInside (Some load) (Some b) = b.value ≡ load
