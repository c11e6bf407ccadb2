-- What a handle owns.
use Rattle.std.specs.Prelude.{◌≡◌, Option, Some, None, ⊤}
use Rattle.std.specs.declared.boxed.Box.{Box}
use base.Fml.{Fml, ftrue}
use denote.RawPtr.{Ptr}
use mir.Syntax.{Ty}
use Rattle.std.specs.Box.Ownership.{box_owns}
use Rattle.std.specs.contracts.impls.GlobalAllocator.TheImpl as heap
use Rattle.cola_handle.specs.declared.session.Session.{Session}
use Rattle.cola_handle.specs.contracts.session.Session.{the_row}

-- the right to give a block back to the heap, whose handle says nothing
abbrev pub given_back : Ty → Ptr → Fml
given_back = heap.ghosts.dealloc_token (record { memory = record { seal = tt } })

-- what a handle owns with a session behind it, and with none nothing
abbrev pub owned_at : Ptr → Option Session → Fml
owned_at at None = ftrue
owned_at at (Some session) = box_owns given_back the_row at session

-- what was taken out of a handle is what was behind it
abbrev pub IsInside : {B : Type 0} → Option Session → Option (Box Session B) → Type 0
IsInside None None = ⊤
IsInside None (Some b) = ⊥
IsInside (Some session) None = ⊥
IsInside (Some session) (Some b) = b.value ≡ session
