-- A mirror tells its bytes exactly where both sides do.
use Rattle.std.specs.Prelude.{◌≡◌, ℕ, Bool, true, false, ◌&&◌, List, Option, is_some, refl}
use Rattle.cola_mirror.specs.declared.sides.Sides.{Sides}
use Rattle.cola_mirror.specs.declared.sides.Sides.TheVariants.{Both, First, Second}
use Rattle.cola_mirror.specs.Sides.{in_use}
use Rattle.cola_mirror.specs.Mirror.{told_where}

pub is_some-where : (a b : Bool) (sides : Sides) (x y : Option (List ℕ)) → is_some x ≡ a → is_some y ≡ b →
    is_some (told_where (a && b) (in_use sides x y)) ≡ (a && b)
is_some-where true true Both x y first second = first
is_some-where true true First x y first second = first
is_some-where true true Second x y first second = second
is_some-where true false sides x y first second = refl
is_some-where false b sides x y first second = refl
