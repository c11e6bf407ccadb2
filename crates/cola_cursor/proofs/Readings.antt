-- What calls that read spend, one after another.
use Rattle.std.proofs.Common.{ℕ, ◌∙◌, refl, arith}
use Rattle.cola_cell.specs.State.{State}
use Rattle.cola_cell.proofs.CostsLemmas.{costs_none, costs_then, costs_within}
use Rattle.cola_cursor.specs.Lines.{Reading}

pub reading_none : (state : State) (steps : ℕ) → Reading state state steps steps
reading_none state steps = record { costs = costs_within (costs_none state.spent steps) (omega arith) (omega arith); others_stay = λ b n. refl }

pub reading_then : {a b c : State} {s t u : ℕ} → Reading a b s t → Reading b c t u → Reading a c s u
reading_then {a} {b} {c} {s} {t} {u} h k =
    let x = h.costs.steps_stay in
    let y = k.costs.steps_stay in
    record {
      costs = costs_within (costs_then h.costs k.costs) (omega arith) (omega arith);
      others_stay = λ b n. k.others_stay b n ∙ h.others_stay b n;
    }
