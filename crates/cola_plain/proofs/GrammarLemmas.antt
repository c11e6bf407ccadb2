-- The table of grammars says what the lines ask.
use Rattle.std.proofs.Common.{◌≡◌, refl, ap, ◌∙◌, ℕ, Bool, true, false, ◌&&◌, if◌then◌else◌, List, [], ◌∷◌, Option, Some, None}
use Rattle.std.specs.Prelude.{codes}
use Rattle.std.proofs.Math.Bool.{and-true, and-false}
use Rattle.cola_plain.specs.Grammar.{Form, table, named, by_form, by_any, form}
use Rattle.cola_plain.specs.declared.command.Verb.TheVariants.{Put, PutIf, Del, Get, Stamp, Range, Scan, Count, Close, Reopen}
use Rattle.cola_plain.specs.declared.command.Kind.TheVariants as kind
use Rattle.cola_plain.specs.declared.command.Kind.TheVariants.{Key, Value, Pairs}
use Rattle.cola_spec.specs.Map.{Shape, is_key, is_value}
use Rattle.cola_spec.specs.Command as spec
use Rattle.cola_spec.specs.Command.{verb_of, is_number}

-- a number is tested once more where it is read
read_second : (a b : Bool) (x : Option spec.Command) → (if a && (b && true) then (if b then x else None) else None) ≡ (if a && b then x else None)
read_second true true x = refl
read_second true false x = refl
read_second false b x = refl

read_third : (a b c d : Bool) (x : Option spec.Command) → (if a && (b && (c && (d && true))) then (if c then x else None) else None) ≡ (if a && b && c && d then x else None)
read_third true true true true x = refl
read_third true true true false x = refl
read_third true true false d x = refl
read_third true false c d x = refl
read_third false b c d x = refl

module _ (shape : Shape) where
  put_means : (words : List (List ℕ)) → by_form shape (form (codes "put") Put false (Key ∷ Value ∷ [])) words ≡ spec.put_of shape words
  put_means [] = refl
  put_means (a ∷ []) = simp and-false
  put_means (a ∷ b ∷ []) = simp and-true
  put_means (a ∷ b ∷ c ∷ words) = simp and-false

  put_if_means : (words : List (List ℕ)) → by_form shape (form (codes "putif") PutIf true (Key ∷ kind.Stamp ∷ Value ∷ [])) words ≡ spec.put_if_of shape words
  put_if_means [] = simp and-false
  put_if_means (a ∷ []) = simp and-false
  put_if_means (a ∷ b ∷ []) = simp and-false
  put_if_means (a ∷ b ∷ c ∷ []) = read_third shape.stamped (is_key shape a) (is_number 19 b) (is_value shape c) _
  put_if_means (a ∷ b ∷ c ∷ d ∷ words) = simp and-false

  del_means : (words : List (List ℕ)) → by_form shape (form (codes "del") Del false (Key ∷ [])) words ≡ spec.del_of shape words
  del_means [] = refl
  del_means (a ∷ []) = simp and-true
  del_means (a ∷ b ∷ words) = simp and-false

  get_means : (words : List (List ℕ)) → by_form shape (form (codes "get") Get false (Key ∷ [])) words ≡ spec.get_of shape words
  get_means [] = refl
  get_means (a ∷ []) = simp and-true
  get_means (a ∷ b ∷ words) = simp and-false

  stamp_means : (words : List (List ℕ)) → by_form shape (form (codes "stamp") Stamp true (Key ∷ [])) words ≡ spec.stamp_of shape words
  stamp_means [] = simp and-false
  stamp_means (a ∷ []) = simp and-true
  stamp_means (a ∷ b ∷ words) = simp and-false

  range_means : (words : List (List ℕ)) → by_form shape (form (codes "range") Range false (Key ∷ Key ∷ [])) words ≡ spec.range_of shape words
  range_means [] = refl
  range_means (a ∷ []) = simp and-false
  range_means (a ∷ b ∷ []) = simp and-true
  range_means (a ∷ b ∷ c ∷ words) = simp and-false

  scan_means : (words : List (List ℕ)) → by_form shape (form (codes "scan") Scan false (Key ∷ Pairs ∷ [])) words ≡ spec.scan_of shape words
  scan_means [] = refl
  scan_means (a ∷ []) = simp and-false
  scan_means (a ∷ b ∷ []) = read_second (is_key shape a) (is_number 10 b) _
  scan_means (a ∷ b ∷ c ∷ words) = simp and-false

  count_means : (words : List (List ℕ)) → by_form shape (form (codes "count") Count false []) words ≡ spec.alone spec.Count words
  count_means [] = refl
  count_means (a ∷ words) = refl

  close_means : (words : List (List ℕ)) → by_form shape (form (codes "close") Close false []) words ≡ spec.alone spec.Close words
  close_means [] = refl
  close_means (a ∷ words) = refl

  open_means : (words : List (List ℕ)) → by_form shape (form (codes "open") Reopen false []) words ≡ spec.alone spec.Reopen words
  open_means [] = refl
  open_means (a ∷ words) = refl

-- where a test chooses a form
chosen : (shape : Shape) (words : List (List ℕ)) (test : Bool) (first : Form) (rest : Option Form) (x y : Option spec.Command) → by_form shape first words ≡ x → by_any shape rest words ≡ y → by_any shape (if test then Some first else rest) words ≡ (if test then x else y)
chosen shape words true first rest x y e f = e
chosen shape words false first rest x y e f = f

table_means : (shape : Shape) (name : List ℕ) (words : List (List ℕ)) → by_any shape (named table name) words ≡ verb_of shape name words
table_means shape name words =
    chosen shape words _ _ _ _ _ (put_means shape words)
    (chosen shape words _ _ _ _ _ (put_if_means shape words)
    (chosen shape words _ _ _ _ _ (del_means shape words)
    (chosen shape words _ _ _ _ _ (get_means shape words)
    (chosen shape words _ _ _ _ _ (stamp_means shape words)
    (chosen shape words _ _ _ _ _ (range_means shape words)
    (chosen shape words _ _ _ _ _ (scan_means shape words)
    (chosen shape words _ _ _ _ _ (count_means shape words)
    (chosen shape words _ _ _ _ _ (close_means shape words)
    (chosen shape words _ _ _ _ _ (open_means shape words) refl)))))))))

-- what was found in the table is what a line asks by
pub found_means : (shape : Shape) (name : List ℕ) (words : List (List ℕ)) (found : Option Form) → found ≡ named table name → by_any shape found words ≡ verb_of shape name words
found_means shape name words found is = ap (λ any. by_any shape any words) is ∙ table_means shape name words
