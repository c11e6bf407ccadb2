-- What was taken out of a handle is the session that was behind it.
use Rattle.std.proofs.Common.{◌≡◌, subst}
use Rattle.std.specs.Prelude.{Option, Some}
use Rattle.std.specs.declared.boxed.Box.{Box}
use Rattle.cola_handle.specs.declared.session.Session.{Session}
use Rattle.cola_handle.specs.Handle.{IsInside}

pub inside : {B : Type 0} (before : Option Session) (session : Session) (box : Box Session B) → before ≡ Some session → IsInside before (Some box) → box.value ≡ session
inside before session box is taken = subst (λ (o : Option Session). IsInside o (Some box)) is taken
