-- Each verb's command, as its words are taken and tested one by one.
use Rattle.std.proofs.Common.{◌≡◌, ℕ, Bool, true, false, ◌&&◌, List, [], ◌∷◌, Option, Some, None, refl, if◌then◌else◌}
use Rattle.std.specs.Option.{option_map, option_and_then}
use Rattle.cola_line.specs.Words.{only_word, only_two, only_three}
use Rattle.cola_spec.specs.Map.{Shape, is_key, is_value}
use Rattle.cola_spec.specs.Command.{Command, Put, PutIf, Del, Get, Stamp, Range, Scan, when, put_of, put_if_of, del_of, get_of, stamp_of, range_of, scan_of, is_number, number_of}

-- a value that is there where its test passes
abbrev pub tested : {A : Type 0} → Bool → A → Option A
tested b x = if b then Some x else None

abbrev pub key_in : Shape → List ℕ → Option (List ℕ)
key_in shape word = tested (is_key shape word) word

abbrev pub value_in : Shape → List ℕ → Option (List ℕ)
value_in shape word = tested (is_value shape word) word

abbrev pub number_in : ℕ → List ℕ → Option ℕ
number_in most word = tested (is_number most word) (number_of word)

one_test : {A : Type 0} (b : Bool) (x : A) (command : A → Command) → when b (command x) ≡ option_map command (tested b x)
one_test true x command = refl
one_test false x command = refl

two_tests : {A B : Type 0} (a b : Bool) (x : A) (y : B) (command : A → B → Command) → when (a && b) (command x y) ≡ option_and_then (λ x'. option_map (command x') (tested b y)) (tested a x)
two_tests true b x y command = one_test b y (command x)
two_tests false b x y command = refl

three_tests : {A B C : Type 0} (a b c : Bool) (x : A) (y : B) (z : C) (command : A → B → C → Command) → when (a && b && c) (command x y z) ≡ option_and_then (λ x'. option_and_then (λ y'. option_map (command x' y') (tested c z)) (tested b y)) (tested a x)
three_tests true b c x y z command = two_tests b c y z (command x)
three_tests false b c x y z command = refl

pub put_taken : (shape : Shape) (words : List (List ℕ)) → put_of shape words ≡ option_and_then (λ two. option_and_then (λ key. option_map (Put key) (value_in shape two.1)) (key_in shape two.0)) (only_two words)
put_taken shape [] = refl
put_taken shape (key ∷ []) = refl
put_taken shape (key ∷ value ∷ []) = two_tests (is_key shape key) (is_value shape value) key value Put
put_taken shape (key ∷ value ∷ word ∷ words) = refl

pub put_if_taken : (shape : Shape) (words : List (List ℕ)) → shape.stamped ≡ true → put_if_of shape words ≡ option_and_then (λ three. option_and_then (λ key. option_and_then (λ seen. option_map (PutIf key seen) (value_in shape three.2)) (number_in 19 three.1)) (key_in shape three.0)) (only_three words)
put_if_taken shape [] stamped = refl
put_if_taken shape (key ∷ []) stamped = refl
put_if_taken shape (key ∷ seen ∷ []) stamped = refl
put_if_taken shape (key ∷ seen ∷ value ∷ []) stamped =
    rw stamped (three_tests (is_key shape key) (is_number 19 seen) (is_value shape value) key (number_of seen) value PutIf)
put_if_taken shape (key ∷ seen ∷ value ∷ word ∷ words) stamped = refl

-- no conditional put where nothing is stamped
pub put_if_unstamped : (shape : Shape) (words : List (List ℕ)) → shape.stamped ≡ false → put_if_of shape words ≡ None
put_if_unstamped shape [] unstamped = refl
put_if_unstamped shape (key ∷ []) unstamped = refl
put_if_unstamped shape (key ∷ seen ∷ []) unstamped = refl
put_if_unstamped shape (key ∷ seen ∷ value ∷ []) unstamped = rw unstamped refl
put_if_unstamped shape (key ∷ seen ∷ value ∷ word ∷ words) unstamped = refl

pub del_taken : (shape : Shape) (words : List (List ℕ)) → del_of shape words ≡ option_and_then (λ word. option_map Del (key_in shape word)) (only_word words)
del_taken shape [] = refl
del_taken shape (word ∷ []) = one_test (is_key shape word) word Del
del_taken shape (word ∷ next ∷ words) = refl

pub get_taken : (shape : Shape) (words : List (List ℕ)) → get_of shape words ≡ option_and_then (λ word. option_map Get (key_in shape word)) (only_word words)
get_taken shape [] = refl
get_taken shape (word ∷ []) = one_test (is_key shape word) word Get
get_taken shape (word ∷ next ∷ words) = refl

pub stamp_taken : (shape : Shape) (words : List (List ℕ)) → shape.stamped ≡ true → stamp_of shape words ≡ option_and_then (λ word. option_map Stamp (key_in shape word)) (only_word words)
stamp_taken shape [] stamped = refl
stamp_taken shape (word ∷ []) stamped = rw stamped (one_test (is_key shape word) word Stamp)
stamp_taken shape (word ∷ next ∷ words) stamped = refl

-- no stamp where nothing is stamped
pub stamp_unstamped : (shape : Shape) (words : List (List ℕ)) → shape.stamped ≡ false → stamp_of shape words ≡ None
stamp_unstamped shape [] unstamped = refl
stamp_unstamped shape (word ∷ []) unstamped = rw unstamped refl
stamp_unstamped shape (word ∷ next ∷ words) unstamped = refl

pub range_taken : (shape : Shape) (words : List (List ℕ)) → range_of shape words ≡ option_and_then (λ two. option_and_then (λ low. option_map (Range low) (key_in shape two.1)) (key_in shape two.0)) (only_two words)
range_taken shape [] = refl
range_taken shape (low ∷ []) = refl
range_taken shape (low ∷ high ∷ []) = two_tests (is_key shape low) (is_key shape high) low high Range
range_taken shape (low ∷ high ∷ word ∷ words) = refl

pub scan_taken : (shape : Shape) (words : List (List ℕ)) → scan_of shape words ≡ option_and_then (λ two. option_and_then (λ low. option_map (Scan low) (number_in 10 two.1)) (key_in shape two.0)) (only_two words)
scan_taken shape [] = refl
scan_taken shape (low ∷ []) = refl
scan_taken shape (low ∷ most ∷ []) = two_tests (is_key shape low) (is_number 10 most) low (number_of most) Scan
scan_taken shape (low ∷ most ∷ word ∷ words) = refl
