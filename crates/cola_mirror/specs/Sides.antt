-- The sides of a mirror that are in use: which are called, and which are left.
use Rattle.std.specs.Prelude.{Bool, true, false}
use Rattle.cola_mirror.specs.declared.sides.Sides.{Sides}
use Rattle.cola_mirror.specs.declared.sides.Sides.TheVariants.{Both, First, Second}

-- whether the first side is in use
abbrev pub has_first : Sides → Bool
has_first Both = true
has_first First = true
has_first Second = false

-- whether the second side is in use
abbrev pub has_second : Sides → Bool
has_second Both = true
has_second First = false
has_second Second = true

-- whether the second side is asked, by whether the first failed: it is in use, and the first is not or failed
abbrev pub asks_second : Sides → Bool → Bool
asks_second Both failed = failed
asks_second First failed = false
asks_second Second failed = true

-- whether the second side is called along with the first, whatever that did: it is in use
abbrev pub calls_second : Sides → Bool → Bool
calls_second sides failed = has_second sides

-- the sides in use after a call that loses none
abbrev pub after_asking : Sides → Bool → Bool → Sides
after_asking sides first second = sides

-- and after bytes were changed, by whether the first side failed and whether the second did: of two the one that failed is
-- lost, and where both failed the second
abbrev pub after_change : Sides → Bool → Bool → Sides
after_change Both false false = Both
after_change Both true false = Second
after_change Both false true = First
after_change Both true true = First
after_change First first second = First
after_change Second first second = Second

-- and after a settle: of two the one that failed is lost, and where both failed none
abbrev pub after_settle : Sides → Bool → Bool → Sides
after_settle Both false false = Both
after_settle Both true false = Second
after_settle Both false true = First
after_settle Both true true = Both
after_settle First first second = First
after_settle Second first second = Second

-- of what both sides have: what a side in use has
abbrev pub in_use : {A : Type 0} → Sides → A → A → A
in_use Both first second = first
in_use First first second = first
in_use Second first second = second
