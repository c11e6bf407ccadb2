-- Prefixes and their ends, computed.
use Rattle.std.proofs.Common.{◌≡◌, true, false, [], ◌∷◌, Some, None, refl}
use Rattle.cola_kv.specs.Prefix.{begins_with, prefix_end}

plain : prefix_end (7 ∷ 4 ∷ []) ≡ Some (7 ∷ 5 ∷ [])
plain = refl

carried : prefix_end (7 ∷ 254 ∷ 255 ∷ 255 ∷ []) ≡ Some (7 ∷ 255 ∷ [])
carried = refl

far : prefix_end (7 ∷ 255 ∷ 255 ∷ []) ≡ Some (8 ∷ [])
far = refl

none : prefix_end (255 ∷ 255 ∷ []) ≡ None
none = refl

empty : prefix_end [] ≡ None
empty = refl

itself : begins_with (7 ∷ 4 ∷ []) (7 ∷ 4 ∷ []) ≡ true
itself = refl

longer : begins_with (7 ∷ 4 ∷ []) (7 ∷ 4 ∷ 0 ∷ []) ≡ true
longer = refl

shorter : begins_with (7 ∷ 4 ∷ []) (7 ∷ []) ≡ false
shorter = refl

other : begins_with (7 ∷ 4 ∷ []) (7 ∷ 5 ∷ []) ≡ false
other = refl
