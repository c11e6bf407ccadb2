-- Where marks lie.
use Rattle.std.proofs.Common.{◌≡◌, Option, Some, None, refl, subst}
use Rattle.std.specs.Prelude.{IsSome, IfSome}
use Rattle.cola_mapped.specs.declared.lent.Lent.{Lent}
use Rattle.cola_handle.specs.Marks.{Place, place_in}

pub some_there : (marks : Option Lent) (place : Place) → place_in marks ≡ Some place → IsSome marks
some_there None place is = absurd (cc is)
some_there (Some lent) place is = refl

pub placed : (here place : Place) (marks : Option Lent) → place_in marks ≡ Some place → IfSome (place_in marks) (λ it. here ≡ it) → here ≡ place
placed here place marks is says = subst (λ (it : Option Place). IfSome it (λ (p : Place). here ≡ p)) is says
