-- Laws of the first difference of two lists.
use Rattle.std.proofs.Common.{◌≡◌, ℕ, zero, suc, ◌+◌, ◌≤◌, Bool, true, false, cond, eqb, List, [], ◌∷◌, ◌++◌, length, take, Option, Some, None, refl, sym, ap, subst, ◌∙◌, arith}
use Rattle.std.specs.Option.{option_map}
use Rattle.std.proofs.lemmas.Bool.{eqb-true, eq-eqb}
use Rattle.cola_device.specs.Bytes.{part}
use Rattle.cola_device.proofs.BytesLemmas.{length-part, part-append}
use Rattle.cola_mirror.specs.Differ.{first_difference, DifferAt, differ_within}

-- ---- lists that begin the same

-- one item more before both
pub difference-cons : (x : ℕ) (xs ys : List ℕ) → first_difference (x ∷ xs) (x ∷ ys) ≡ option_map (λ place. suc place) (first_difference xs ys)
difference-cons x xs ys = ap (λ (same : Bool). cond same (option_map (λ place. suc place) (first_difference xs ys)) (Some 0)) (eq-eqb x x refl)

map-next : (place : Option ℕ) (n : ℕ) → option_map (λ k. suc k) (option_map (λ k. n + k) place) ≡ option_map (λ k. suc n + k) place
map-next None n = refl
map-next (Some k) n = ap Some (omega arith)

pub map-none : (place : Option ℕ) → place ≡ option_map (λ k. 0 + k) place
map-none None = refl
map-none (Some k) = ap Some (omega arith)

pub map-add : (place : Option ℕ) (n m : ℕ) → option_map (λ k. n + k) (option_map (λ k. m + k) place) ≡ option_map (λ k. (n + m) + k) place
map-add None n m = refl
map-add (Some k) n m = ap Some (omega arith)

-- the same items before both
pub difference-shared : (front xs ys : List ℕ) → first_difference (front ++ xs) (front ++ ys) ≡ option_map (λ k. length front + k) (first_difference xs ys)
difference-shared [] xs ys = map-none (first_difference xs ys)
difference-shared (a ∷ front) xs ys =
    difference-cons a (front ++ xs) (front ++ ys)
    ∙ (ap (λ (place : Option ℕ). option_map (λ k. suc k) place) (difference-shared front xs ys)
    ∙ map-next (first_difference xs ys) (length front))

pub difference-none : (xs : List ℕ) → first_difference xs xs ≡ None
difference-none [] = refl
difference-none (x ∷ xs) = difference-cons x xs xs ∙ ap (λ (place : Option ℕ). option_map (λ k. suc k) place) (difference-none xs)

none-next : (place : Option ℕ) → option_map (λ (k : ℕ). suc k) place ≡ None → place ≡ None
none-next None is = refl
none-next (Some k) is = cc

some-next : (place : Option ℕ) (k : ℕ) → option_map (λ (k : ℕ). suc k) place ≡ Some k → (j : ℕ) × ((place ≡ Some j) × (k ≡ suc j))
some-next None k is = cc
some-next (Some j) k is = (j, (refl, cc))

none-same-cons : (x y : ℕ) (xs ys : List ℕ) (same : Bool) → (first_difference xs ys ≡ None → xs ≡ ys) → eqb x y ≡ same → cond same (option_map (λ (k : ℕ). suc k) (first_difference xs ys)) (Some 0) ≡ None → x ∷ xs ≡ y ∷ ys
none-same-cons x y xs ys true later test none = let head : x ≡ y = eqb-true x y test in let tail : xs ≡ ys = later (none-next (first_difference xs ys) none) in cc
none-same-cons x y xs ys false later test none = cc

pub none-same : (xs ys : List ℕ) → first_difference xs ys ≡ None → xs ≡ ys
none-same [] [] none = refl
none-same [] (y ∷ ys) none = cc
none-same (x ∷ xs) [] none = cc
none-same (x ∷ xs) (y ∷ ys) none = none-same-cons x y xs ys (eqb x y) (none-same xs ys) refl none

-- ---- a difference that was found

found-cons : (front others xs ys : List ℕ) (k : ℕ) (same : Bool) → ((j : ℕ) → first_difference front others ≡ Some j → first_difference (front ++ xs) (others ++ ys) ≡ Some j) →
    cond same (option_map (λ (k : ℕ). suc k) (first_difference front others)) (Some 0) ≡ Some k → cond same (option_map (λ (k : ℕ). suc k) (first_difference (front ++ xs) (others ++ ys))) (Some 0) ≡ Some k
found-cons front others xs ys k true later found =
    let next = some-next (first_difference front others) k found in
    ap (λ (place : Option ℕ). option_map (λ (k : ℕ). suc k) place) (later next.0 next.1.0) ∙ ap Some (sym next.1.1)
found-cons front others xs ys k false later found = found

-- more items behind both
pub difference-found : (front others xs ys : List ℕ) (k : ℕ) → length front ≡ length others → first_difference front others ≡ Some k → first_difference (front ++ xs) (others ++ ys) ≡ Some k
difference-found [] [] xs ys k many found = cc
difference-found [] (b ∷ others) xs ys k many found = absurd (omega (arith, many))
difference-found (a ∷ front) [] xs ys k many found = absurd (omega (arith, many))
difference-found (a ∷ front) (b ∷ others) xs ys k many found = found-cons front others xs ys k (eqb a b) (λ j. difference-found front others xs ys j (omega (arith, many))) found

-- ---- the first difference is the first

some-differ-cons : (x y : ℕ) (xs ys : List ℕ) (k : ℕ) (same : Bool) → ((j : ℕ) → first_difference xs ys ≡ Some j → DifferAt xs ys j) → eqb x y ≡ same →
    cond same (option_map (λ (k : ℕ). suc k) (first_difference xs ys)) (Some 0) ≡ Some k → DifferAt (x ∷ xs) (y ∷ ys) k
some-differ-cons x y xs ys k true later test found =
    let next = some-next (first_difference xs ys) k found in
    let head : x ≡ y = eqb-true x y test in
    let tail = later next.0 next.1.0 in
    subst (λ (n : ℕ). DifferAt (x ∷ xs) (y ∷ ys) n) (sym next.1.1) (record { same = (let rest = tail.same in cc); differ = λ e. tail.differ e })
some-differ-cons x y xs ys k false later test found =
    subst (λ (n : ℕ). DifferAt (x ∷ xs) (y ∷ ys) n) (let e : 0 ≡ k = cc in e) (record { same = refl; differ = λ e. (let head : x ≡ y = cc in let yes = eq-eqb x y head in cc) })

pub some-differ : (xs ys : List ℕ) (k : ℕ) → first_difference xs ys ≡ Some k → DifferAt xs ys k
some-differ [] [] k found = cc
some-differ [] (y ∷ ys) k found = subst (λ (n : ℕ). DifferAt [] (y ∷ ys) n) (let e : 0 ≡ k = cc in e) (record { same = refl; differ = λ e. cc })
some-differ (x ∷ xs) [] k found = subst (λ (n : ℕ). DifferAt (x ∷ xs) [] n) (let e : 0 ≡ k = cc in e) (record { same = refl; differ = λ e. cc })
some-differ (x ∷ xs) (y ∷ ys) k found = some-differ-cons x y xs ys k (eqb x y) (λ j. some-differ xs ys j) refl found

pub differ-some : (xs ys : List ℕ) (k : ℕ) → DifferAt xs ys k → first_difference xs ys ≡ Some k
differ-some [] [] k is = absurd (is.differ refl)
differ-some [] (y ∷ ys) zero is = refl
differ-some [] (y ∷ ys) (suc k) is = (let none = is.same in cc)
differ-some (x ∷ xs) [] zero is = refl
differ-some (x ∷ xs) [] (suc k) is = (let none = is.same in cc)
differ-some (x ∷ xs) (y ∷ ys) zero is =
    elim (eqb x y) as (λ same. eqb x y ≡ same → cond same (option_map (λ (k : ℕ). suc k) (first_difference xs ys)) (Some 0) ≡ Some 0) [
      | true ↦ λ test. absurd (is.differ (ap (λ (n : ℕ). Some n) (eqb-true x y test)))
      | false ↦ λ test. refl
    ] refl
differ-some (x ∷ xs) (y ∷ ys) (suc k) is =
    let both = is.same in
    let head : x ≡ y = cc in
    let tail : take k xs ≡ take k ys = cc in
    ap (λ (same : Bool). cond same (option_map (λ place. suc place) (first_difference xs ys)) (Some 0)) (eq-eqb x y head)
    ∙ ap (λ (place : Option ℕ). option_map (λ k. suc k) place) (differ-some xs ys k (record { same = tail; differ = is.differ }))

-- ---- pieces

-- all of so many items, of a first piece and those behind it
split-at : (bytes : List ℕ) (a c : ℕ) → part bytes 0 (a + c) ≡ part bytes 0 a ++ part bytes a c
split-at bytes a c = sym (subst (λ (n : ℕ). part bytes 0 a ++ part bytes n c ≡ part bytes 0 (a + c)) (let e : 0 + a ≡ a = omega arith in e) (part-append bytes 0 a c))

-- two lists that are the same up to a place differ first where the pieces behind it do
pub within-join : (xs ys : List ℕ) (a c : ℕ) → a ≤ length xs → first_difference (part xs 0 a) (part ys 0 a) ≡ None → first_difference (part xs 0 (a + c)) (part ys 0 (a + c)) ≡ differ_within a c xs ys
within-join xs ys a c fits none =
    let same : part xs 0 a ≡ part ys 0 a = none-same (part xs 0 a) (part ys 0 a) none in
    let long : length (part xs 0 a) ≡ a = length-part xs 0 a (omega (arith, fits)) in
    ap (λ (zs : List ℕ). first_difference zs (part ys 0 (a + c))) (split-at xs a c)
    ∙ (ap (λ (zs : List ℕ). first_difference (part xs 0 a ++ part xs a c) zs) (split-at ys a c ∙ ap (λ (zs : List ℕ). zs ++ part ys a c) (sym same))
    ∙ (difference-shared (part xs 0 a) (part xs a c) (part ys a c)
    ∙ ap (λ (n : ℕ). option_map (λ k. n + k) (first_difference (part xs a c) (part ys a c))) long))

-- a difference that was found stays one
pub within-found : (xs ys : List ℕ) (a c k : ℕ) → a ≤ length xs → a ≤ length ys → first_difference (part xs 0 a) (part ys 0 a) ≡ Some k → first_difference (part xs 0 (a + c)) (part ys 0 (a + c)) ≡ Some k
within-found xs ys a c k fits others_fit found =
    let long : length (part xs 0 a) ≡ a = length-part xs 0 a (omega (arith, fits)) in
    let other_long : length (part ys 0 a) ≡ a = length-part ys 0 a (omega (arith, others_fit)) in
    ap (λ (zs : List ℕ). first_difference zs (part ys 0 (a + c))) (split-at xs a c)
    ∙ (ap (λ (zs : List ℕ). first_difference (part xs 0 a ++ part xs a c) zs) (split-at ys a c)
    ∙ difference-found (part xs 0 a) (part ys 0 a) (part xs a c) (part ys a c) k (long ∙ sym other_long) found)
