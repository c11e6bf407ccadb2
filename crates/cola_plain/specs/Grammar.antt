-- The command of a line by a table: of each verb its name, and the kinds of the words after it.
use Rattle.std.specs.Prelude.{ℕ, Bool, true, false, ◌&&◌, ◌||◌, not, if◌then◌else◌, List, [], ◌∷◌, Option, Some, None, bytes_eq, codes}
use Rattle.cola_plain.specs.declared.command.Grammar.{Grammar}
use Rattle.cola_plain.specs.declared.command.Kind.{Kind}
use Rattle.cola_plain.specs.declared.command.Kind.TheVariants as kind
use Rattle.cola_plain.specs.declared.command.Kind.TheVariants.{Key, Value, Pairs}
use Rattle.cola_plain.specs.declared.command.Verb.{Verb}
use Rattle.cola_plain.specs.declared.command.Verb.TheVariants.{Put, PutIf, Del, Get, Stamp, Range, Scan, Count, Close, Reopen}
use Rattle.cola_spec.specs.Map.{Shape, is_key, is_value}
use Rattle.cola_spec.specs.Command as spec
use Rattle.cola_spec.specs.Command.{is_number, number_of}

-- what a grammar says
pub record Form : Type 0 where
  pub name : List ℕ
  pub verb : Verb
  pub stamped : Bool
  pub kinds : List Kind

abbrev pub form : List ℕ → Verb → Bool → List Kind → Form
form name verb stamped kinds = record { name = name; verb = verb; stamped = stamped; kinds = kinds }

abbrev pub form_of : Grammar → Form
form_of grammar = form grammar.name.now grammar.verb grammar.stamped grammar.kinds.now

-- what the grammars of all verbs say
abbrev pub table : List Form
table =
    form (codes "put") Put false (Key ∷ Value ∷ [])
    ∷ form (codes "putif") PutIf true (Key ∷ kind.Stamp ∷ Value ∷ [])
    ∷ form (codes "del") Del false (Key ∷ [])
    ∷ form (codes "get") Get false (Key ∷ [])
    ∷ form (codes "stamp") Stamp true (Key ∷ [])
    ∷ form (codes "range") Range false (Key ∷ Key ∷ [])
    ∷ form (codes "scan") Scan false (Key ∷ Pairs ∷ [])
    ∷ form (codes "count") Count false []
    ∷ form (codes "close") Close false []
    ∷ form (codes "open") Reopen false []
    ∷ []

-- the first of a name
abbrev pub named : List Form → List ℕ → Option Form
named [] name = None
named (first ∷ rest) name = if bytes_eq name first.name then Some first else named rest name

-- whether a word is of a kind
abbrev pub is_of : Shape → Kind → List ℕ → Bool
is_of shape Key word = is_key shape word
is_of shape Value word = is_value shape word
is_of shape kind.Stamp word = is_number 19 word
is_of shape Pairs word = is_number 10 word

-- whether words are of these kinds, one of each, in order
abbrev pub are_of : Shape → List Kind → List (List ℕ) → Bool
are_of shape [] [] = true
are_of shape [] (word ∷ words) = false
are_of shape (kind ∷ kinds) [] = false
are_of shape (kind ∷ kinds) (word ∷ words) = is_of shape kind word && are_of shape kinds words

-- a command with the number that a word spells, if it spells one
abbrev pub with_number : ℕ → List ℕ → (ℕ → spec.Command) → Option spec.Command
with_number most word command = if is_number most word then Some (command (number_of word)) else None

-- the command of a verb and the words after it, if they are as many as it takes
abbrev pub built : Verb → List (List ℕ) → Option spec.Command
built Put (key ∷ value ∷ []) = Some (spec.Put key value)
built PutIf (key ∷ seen ∷ value ∷ []) = with_number 19 seen (λ stamp. spec.PutIf key stamp value)
built Del (key ∷ []) = Some (spec.Del key)
built Get (key ∷ []) = Some (spec.Get key)
built Stamp (key ∷ []) = Some (spec.Stamp key)
built Range (low ∷ high ∷ []) = Some (spec.Range low high)
built Scan (low ∷ most ∷ []) = with_number 10 most (λ pairs. spec.Scan low pairs)
built Count [] = Some spec.Count
built Close [] = Some spec.Close
built Reopen [] = Some spec.Reopen
built _ _ = None

-- what a line asks whose verb has a form, with the words after the verb
abbrev pub by_form : Shape → Form → List (List ℕ) → Option spec.Command
by_form shape form words =
    if (not form.stamped || shape.stamped) && are_of shape form.kinds words then built form.verb words else None

-- the same where it may have none
abbrev pub by_any : Shape → Option Form → List (List ℕ) → Option spec.Command
by_any shape None words = None
by_any shape (Some form) words = by_form shape form words
