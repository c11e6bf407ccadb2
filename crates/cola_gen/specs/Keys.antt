-- The keys of the workload, by number, and what each is worth.
use Rattle.std.specs.Prelude.{ℕ, ◌+◌, ◌-◌, ◌*◌, ◌/◌, ◌%◌, ◌^◌, ◌≡◌, ◌<◌, nat_eq, nat_lt, if◌then◌else◌, List, [], ◌∷◌, map, decimal, Option, Some, None}
use Rattle.cola_spec.specs.Map.{Map, value_of, count}

-- how many keys are made for so many
abbrev pub made : ℕ → ℕ
made keys = keys - keys / 4

-- how many of the numbers below this one are even
abbrev pub evens : ℕ → ℕ
evens number = (number + 1) / 2

-- the number that the key of this place spells: the factor is odd, so no two places below 2^32 have the same
abbrev pub scattered : ℕ → ℕ
scattered place = place * 2654435761 % 2 ^ 32

-- a hexadecimal digit, in lower case
abbrev pub hex_digit : ℕ → ℕ
hex_digit digit = if nat_lt digit 10 then 48 + digit else 87 + digit

-- a number below 2^32 in eight hexadecimal digits
abbrev pub hex_text : ℕ → List ℕ
hex_text number = map (λ unit. hex_digit (number / unit % 16)) (268435456 ∷ 16777216 ∷ 1048576 ∷ 65536 ∷ 4096 ∷ 256 ∷ 16 ∷ 1 ∷ [])

-- the key of a place
abbrev pub key_text : ℕ → List ℕ
key_text place = hex_text (scattered place)

-- the value of a place
abbrev pub value_text : ℕ → List ℕ
value_text place = decimal place

-- what the key of a place has at the end: its value at odd places, and nothing at even ones
abbrev pub expected : ℕ → Option (List ℕ)
expected place = if nat_eq (place % 2) 1 then Some (value_text place) else None

-- the map has the keys of the odd places below this number, each with its value, and no other key
pub record HasOdd (number : ℕ) (m : Map) : Type 0 where
  pub values : (place : ℕ) → place < number → value_of m (key_text place) ≡ expected place
  pub no_other : (key : List ℕ) → ((place : ℕ) → place < number → key ≡ key_text place → ⊥) → value_of m key ≡ None
  pub counted : count m ≡ number - evens number
