-- Lines by their last byte, and parts by the last part.
use Rattle.std.proofs.Common.{ℕ, zero, suc, ◌≡◌, ◌≢◌, ◌+◌, cond, refl, ap, subst, List, [], ◌∷◌, length, get_or, take, arith}
use Rattle.std.proofs.lemmas.Bool.{eq-eqb, ne_eqb}
use Rattle.std.specs.Borrow.{Bor}
use Rattle.cola_spec.specs.Lines.{all_but_last, without_empty_last, without_return}
use Rattle.cola_plain.specs.Lines.{texts}

pub return_dropped : (xs : List ℕ) (i : ℕ) → i + 1 ≡ length xs → get_or xs i 0 ≡ 13 → without_return xs ≡ take i xs
return_dropped [] i last is = absurd (omega arith)
return_dropped (x ∷ []) zero last is = ap (λ b. cond b [] (x ∷ [])) (eq-eqb x 13 is)
return_dropped (x ∷ []) (suc i) last is = absurd (omega arith)
return_dropped (x ∷ y ∷ xs) zero last is = absurd (omega arith)
return_dropped (x ∷ y ∷ xs) (suc i) last is = ap (λ rest. x ∷ rest) (return_dropped (y ∷ xs) i (omega arith) is)

pub other_kept : (xs : List ℕ) (i : ℕ) → i + 1 ≡ length xs → get_or xs i 0 ≢ 13 → without_return xs ≡ xs
other_kept [] i last is = refl
other_kept (x ∷ []) zero last is = ap (λ b. cond b [] (x ∷ [])) (ne_eqb x 13 is)
other_kept (x ∷ []) (suc i) last is = absurd (omega arith)
other_kept (x ∷ y ∷ xs) zero last is = absurd (omega arith)
other_kept (x ∷ y ∷ xs) (suc i) last is = ap (λ rest. x ∷ rest) (other_kept (y ∷ xs) i (omega arith) is)

pub last_left_out : (xs : List (Bor (List ℕ))) (i : ℕ) → i + 1 ≡ length xs → texts (take i xs) ≡ all_but_last (texts xs)
last_left_out [] i last = absurd (omega arith)
last_left_out (x ∷ []) zero last = refl
last_left_out (x ∷ []) (suc i) last = absurd (omega arith)
last_left_out (x ∷ y ∷ xs) zero last = absurd (omega arith)
last_left_out (x ∷ y ∷ xs) (suc i) last = ap (λ rest. x.now ∷ rest) (last_left_out (y ∷ xs) i (omega arith))

empty_alone : (text : List ℕ) → length text ≡ 0 → [] ≡ without_empty_last (text ∷ [])
empty_alone [] is = refl
empty_alone (byte ∷ bytes) is = absurd (omega arith)

full_alone : (text : List ℕ) → length text ≢ 0 → text ∷ [] ≡ without_empty_last (text ∷ [])
full_alone [] is = absurd (is refl)
full_alone (byte ∷ bytes) is = refl

pub empty_left_out : (xs : List (Bor (List ℕ))) (i : ℕ) (d : Bor (List ℕ)) → i + 1 ≡ length xs → length (get_or xs i d).now ≡ 0 → texts (take i xs) ≡ without_empty_last (texts xs)
empty_left_out [] i d last is = absurd (omega arith)
empty_left_out (x ∷ []) zero d last is = empty_alone x.now is
empty_left_out (x ∷ []) (suc i) d last is = absurd (omega arith)
empty_left_out (x ∷ y ∷ xs) zero d last is = absurd (omega arith)
empty_left_out (x ∷ y ∷ xs) (suc i) d last is = ap (λ rest. x.now ∷ rest) (empty_left_out (y ∷ xs) i d (omega arith) is)

pub full_stays : (xs : List (Bor (List ℕ))) (i : ℕ) (d : Bor (List ℕ)) → i + 1 ≡ length xs → length (get_or xs i d).now ≢ 0 → texts xs ≡ without_empty_last (texts xs)
full_stays [] i d last is = refl
full_stays (x ∷ []) zero d last is = full_alone x.now is
full_stays (x ∷ []) (suc i) d last is = absurd (omega arith)
full_stays (x ∷ y ∷ xs) zero d last is = absurd (omega arith)
full_stays (x ∷ y ∷ xs) (suc i) d last is = ap (λ rest. x.now ∷ rest) (full_stays (y ∷ xs) i d (omega arith) is)

pub nothing_left_out : (xs : List (Bor (List ℕ))) → length xs ≡ 0 → (texts xs ≡ without_empty_last (texts xs)) × (texts xs ≡ all_but_last (texts xs))
nothing_left_out [] none = (refl, refl)
nothing_left_out (x ∷ xs) none = absurd (omega arith)

pub nothing_dropped : (xs : List ℕ) → length xs ≡ 0 → xs ≡ without_return xs
nothing_dropped [] none = refl
nothing_dropped (x ∷ xs) none = absurd (omega arith)

pub empty_read : (xs : List (Bor (List ℕ))) (i : ℕ) (x : Bor (List ℕ)) → i + 1 ≡ length xs → x ≡ get_or xs i x → length x.now ≡ 0 → texts (take i xs) ≡ without_empty_last (texts xs)
empty_read xs i x last is none = empty_left_out xs i x last (subst (λ y. length y.now ≡ 0) is none)

pub full_read : (xs : List (Bor (List ℕ))) (i : ℕ) (x : Bor (List ℕ)) → i + 1 ≡ length xs → x ≡ get_or xs i x → length x.now ≢ 0 → texts xs ≡ without_empty_last (texts xs)
full_read xs i x last is some = full_stays xs i x last (subst (λ y. length y.now ≢ 0) is some)
