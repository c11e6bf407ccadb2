-- How many options were given.
use Rattle.std.specs.Prelude.{ℕ, ◌+◌, Bool, true, false, Option, Some, None}
use Rattle.cola_words.specs.declared.options.Options.{Options}

abbrev pub one_if_some : {A : Type 0} → Option A → ℕ
one_if_some None = 0
one_if_some (Some x) = 1

abbrev pub one_if : Bool → ℕ
one_if true = 1
one_if false = 0

abbrev pub given_count : Options → ℕ
given_count o =
    one_if_some o.keys + one_if_some o.block + one_if_some o.version + one_if_some o.cache + one_if o.cost + one_if_some o.mirror
