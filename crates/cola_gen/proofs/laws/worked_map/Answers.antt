use Rattle.std.proofs.Common.{◌≡◌, ◌+◌, ◌<◌, ℕ, List, [], ◌∷◌, Option, Some, None, ap, codes, arith, ◌∙◌}
use Rattle.std.proofs.lemmas.Fmt.{decimal_digit}
use Rattle.std.specs.Prelude.{not}
use Rattle.cola_spec.specs.Map.{Map, value_of}
use Rattle.cola_gen.specs.Keys.{key_text, value_text}
use Rattle.cola_gen.specs.Turns.{one, same, wrong_in}
use Rattle.cola_gen.proofs.laws.worked_map.Goals as goal

-- the wrong answers of three places, by what the map has at each
wrong_of : (m : Map) (a b c : Option (List ℕ)) → value_of m (key_text 0) ≡ a → value_of m (key_text 1) ≡ b → value_of m (key_text 2) ≡ c →
    wrong_in m 3 ≡ one (not (same c None)) + (one (not (same b (Some (codes "1")))) + (one (not (same a None)) + 0))
wrong_of m a b c e f g =
    let rest : ℕ = one (not (same (value_of m (key_text 1)) (Some (value_text 1)))) + (one (not (same (value_of m (key_text 0)) None)) + 0) in
    ap (λ x. one (not (same x None)) + rest) g
    ∙ ap (λ (x : List ℕ). one (not (same c None)) + (one (not (same (value_of m (key_text 1)) (Some x))) + (one (not (same (value_of m (key_text 0)) None)) + 0))) (decimal_digit 1 (omega arith))
    ∙ ap (λ x. one (not (same c None)) + (one (not (same x (Some (codes "1")))) + (one (not (same (value_of m (key_text 0)) None)) + 0))) f
    ∙ ap (λ x. one (not (same c None)) + (one (not (same b (Some (codes "1")))) + (one (not (same x None)) + 0))) e

pub returns-clause-left : goal.returns-clause-left
returns-clause-left c = λ m has. has.values 1 (omega arith) ∙ ap (λ (x : List ℕ). Some x) (decimal_digit 1 (omega arith))

pub returns-clause-right : goal.returns-clause-right
returns-clause-right c = λ m has. wrong_of m None (Some (codes "1")) None (has.values 0 (omega arith)) (has.values 1 (omega arith) ∙ ap (λ (x : List ℕ). Some x) (decimal_digit 1 (omega arith))) (has.values 2 (omega arith))

pub returns-clause-none_left : goal.returns-clause-none_left
returns-clause-none_left c = λ m none. wrong_of m None None None (none (key_text 0)) (none (key_text 1)) (none (key_text 2))

pub returns-clause-none_gone : goal.returns-clause-none_gone
returns-clause-none_gone c = λ m all.
    let text : (place : ℕ) → place < 10 → value_of m (key_text place) ≡ Some ((48 + place) ∷ []) = λ place small. all place ∙ ap (λ (x : List ℕ). Some x) (decimal_digit place small) in
    wrong_of m (Some (codes "0")) (Some (codes "1")) (Some (codes "2")) (text 0 (omega arith)) (text 1 (omega arith)) (text 2 (omega arith))
