-- Options that are read one after another, beside those that were given before.
use Rattle.std.proofs.Common.{◌≡◌, ℕ, ◌+◌, ◌≤◌, Bool, true, false, List, [], ◌∷◌, Option, Some, None, refl, ap, ◌∙◌, arith, bytes_eq, codes}
use Rattle.std.specs.Option.{option_and_then}
use Rattle.cola_words.specs.declared.options.Given.{Given}
use Rattle.cola_words.specs.declared.options.Given.TheVariants.{Cost}
use Rattle.cola_words.specs.declared.options.Options.{Options}
use Rattle.cola_words.specs.Options.{given_of, before, options_of, with_given, with_all}
use Rattle.cola_words.specs.Counts.{one_if, one_if_some, given_count}

-- `--cost` stands alone, whatever is behind it
pub cost_alone : (place : ℕ) (name : List ℕ) (words : List (List ℕ)) → bytes_eq name (codes "--cost") ≡ true → options_of place (name ∷ words) ≡ before (options_of (place + 1) words) Cost
cost_alone place name [] e = rw e refl
cost_alone place name (value ∷ words) e = rw e refl

-- another name has its value behind it
with_value : (place : ℕ) (name value : List ℕ) (words : List (List ℕ)) → bytes_eq name (codes "--cost") ≡ false → options_of place (name ∷ value ∷ words) ≡ option_and_then (before (options_of (place + 2) words)) (given_of name value (place + 1))
with_value place name value words e = rw e refl

-- an option of a name and its value stands before those of the words behind it
pub valued : (place : ℕ) (name value : List ℕ) (words : List (List ℕ)) (given : Given) → bytes_eq name (codes "--cost") ≡ false → given_of name value (place + 1) ≡ Some given → options_of place (name ∷ value ∷ words) ≡ before (options_of (place + 2) words) given
valued place name value words given e is =
    with_value place name value words e ∙ ap (option_and_then (before (options_of (place + 2) words))) is

-- an option that was not given before is taken before all that follow
pub one_taken : (o more : Options) (given : Given) (rest : Option (List Given)) → Some more ≡ with_given o given → option_and_then (with_all o) (before rest given) ≡ option_and_then (with_all more) rest
one_taken o more given None e = refl
one_taken o more given (Some givens) e = rw (← e) refl

-- an option that was given before spoils all
pub one_refused : (o : Options) (given : Given) (rest : Option (List Given)) → None ≡ with_given o given → option_and_then (with_all o) (before rest given) ≡ None
one_refused o given None e = refl
one_refused o given (Some givens) e = rw (← e) refl

at_most_one : {A : Type 0} (x : Option A) → one_if_some x ≤ 1
at_most_one None = omega arith
at_most_one (Some x) = omega arith

flag_at_most_one : (b : Bool) → one_if b ≤ 1
flag_at_most_one true = omega arith
flag_at_most_one false = omega arith

-- there are six options
pub six_options : (o : Options) → given_count o ≤ 6
six_options o =
    omega (arith, at_most_one o.keys, at_most_one o.block, at_most_one o.version, at_most_one o.cache, flag_at_most_one o.cost, at_most_one o.mirror)
