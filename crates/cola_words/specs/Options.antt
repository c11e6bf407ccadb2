-- The options among the words of the command line. A word is the list of its bytes.
use Rattle.std.specs.Prelude.{ℕ, nat_eq, ◌+◌, Bool, true, false, not, if◌then◌else◌, List, [], ◌∷◌, Option, Some, None, bytes_eq, codes}
use Rattle.std.specs.Option.{option_map, option_and_then, is_some}
use Rattle.cola_spec.specs.Command.{is_number, number_of}
use Rattle.cola_words.specs.declared.options.Given.{Given}
use Rattle.cola_words.specs.declared.options.Given.TheVariants.{Keys, Block, Version, Cache, Cost, Mirror}
use Rattle.cola_words.specs.declared.options.Options.{Options}

-- a file is named by at least one byte, of which the first is no `-`
abbrev pub is_path : List ℕ → Bool
is_path [] = false
is_path (byte ∷ bytes) = not (nat_eq byte 45)

-- a number is 1 to 10 decimal digits
abbrev pub number_in : List ℕ → Option ℕ
number_in word = if is_number 10 word then Some (number_of word) else None

-- a file at a place among the words
abbrev pub mirror_at : ℕ → List ℕ → Option Given
mirror_at place word = if is_path word then Some (Mirror place) else None

-- the option of a name and its value, which stands at a place among the words
abbrev pub given_of : List ℕ → List ℕ → ℕ → Option Given
given_of name value place =
    if bytes_eq name (codes "--keys") then option_map Keys (number_in value)
    else if bytes_eq name (codes "--block") then option_map Block (number_in value)
    else if bytes_eq name (codes "--version") then option_map Version (number_in value)
    else if bytes_eq name (codes "--cache") then option_map Cache (number_in value)
    else if bytes_eq name (codes "--mirror") then mirror_at place value
    else None

-- an option before those of the words behind it
abbrev pub before : Option (List Given) → Given → Option (List Given)
before rest given = option_map (λ givens. given ∷ givens) rest

-- the options that words spell, one after another, the first word standing at a place among all words; none where they
-- spell no options. `--cost` stands alone, and each other name has its value behind it
abbrev pub options_of : ℕ → List (List ℕ) → Option (List Given)
options_of place [] = Some []
options_of place (name ∷ []) = if bytes_eq name (codes "--cost") then Some (Cost ∷ []) else None
options_of place (name ∷ value ∷ words) =
    if bytes_eq name (codes "--cost") then before (options_of (place + 1) (value ∷ words)) Cost
    else option_and_then (before (options_of (place + 2) words)) (given_of name value (place + 1))

abbrev pub no_options : Options
no_options = record { keys = None; block = None; version = None; cache = None; cost = false; mirror = None }

-- one more option; none where it was given before
abbrev pub with_given : Options → Given → Option Options
with_given o (Keys n) = if is_some o.keys then None else Some (record o { keys = Some n })
with_given o (Block n) = if is_some o.block then None else Some (record o { block = Some n })
with_given o (Version n) = if is_some o.version then None else Some (record o { version = Some n })
with_given o (Cache n) = if is_some o.cache then None else Some (record o { cache = Some n })
with_given o Cost = if o.cost then None else Some (record o { cost = true })
with_given o (Mirror place) = if is_some o.mirror then None else Some (record o { mirror = Some place })

-- options that are each given once, beside those given before; none where one is given twice
abbrev pub with_all : Options → List Given → Option Options
with_all o [] = Some o
with_all o (given ∷ givens) = option_and_then (λ more. with_all more givens) (with_given o given)

-- what the words from a place on say as options, each at most once
abbrev pub options_in : ℕ → List (List ℕ) → Option Options
options_in place words = option_and_then (with_all no_options) (options_of place words)
