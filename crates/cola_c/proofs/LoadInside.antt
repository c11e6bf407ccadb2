-- What was taken out of the handle of a load is what was behind it; and what a load gives back that was not written.
use Rattle.std.proofs.Common.{◌≡◌, ◌∙◌, ℕ, List, length, ap, subst}
use Rattle.std.proofs.lemmas.Bool.{false≢true}
use Rattle.std.specs.Prelude.{Option, Some, None, IsSome}
use Rattle.std.specs.declared.boxed.Box.{Box}
use Rattle.cola_mapped.specs.declared.region.Region.{Region}
use Rattle.cola_mapped.specs.Region.{bytes_in}
use Rattle.cola_tools.specs.Growing.{AreZero}
use Rattle.cola_tools.specs.Loading.{Loads, IsBegun}
use Rattle.cola_tools.specs.New.{Place, place_of}
use Rattle.cola_tools.proofs.NewFiles.{same-zeros}
use Rattle.cola_c.specs.LoadHandle.{IsLoadInside}
use Rattle.cola_c.specs.Loads.{place_at}

pub load-inside : {B : Type 0} (before : Option Loads) (load : Loads) (box : Box Loads B) → before ≡ Some load → IsLoadInside before (Some box) → box.value ≡ load
load-inside before load box is taken = subst (λ (o : Option Loads). IsLoadInside o (Some box)) is taken

-- zero bytes, as many as others that are zero, are these
zero-again : (before now : Option (List ℕ)) → IsSome before → IsSome now → AreZero (bytes_in before) → AreZero (bytes_in now)
    → length (bytes_in now) ≡ length (bytes_in before) → now ≡ before
zero-again None now some there was is many = absurd (false≢true some)
zero-again (Some before) None some there was is many = absurd (false≢true there)
zero-again (Some before) (Some now) some there was is many = ap (λ (bytes : List ℕ). Some bytes) (same-zeros now before is was many)

-- a load that was begun, and of which no block was written, gives its region back as it was
pub given-back : (keys block version : ℕ) (before now : Region) (load held : Loads) → held ≡ load → IsBegun keys block version (bytes_in before.bytes) (place_at before) load
    → IsSome before.bytes → IsSome now.bytes → (held.device.writes ≡ 0 → AreZero (bytes_in now.bytes)) → place_at now ≡ place_of held.device
    → (now.bytes ≡ before.bytes) × ((now.at ≡ before.at) × (now.len ≡ before.len))
given-back keys block version before now load held same begun some there unwritten placed =
    let zero : AreZero (bytes_in now.bytes) = unwritten (ap (λ (l : Loads). l.device.writes) same ∙ begun.begun.no_writes) in
    let place : place_at now ≡ place_at before = placed ∙ (ap (λ (l : Loads). place_of l.device) same ∙ begun.begun.place_is) in
    (zero-again before.bytes now.bytes some there begun.was_zero zero (ap (λ (p : Place). p.many) place), (ap (λ (p : Place). p.at) place, ap (λ (p : Place). p.len) place))
