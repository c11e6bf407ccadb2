use Rattle.std.proofs.Common.{◌+◌, List, length, ap, subst, sym, ◌∙◌, arith}
use Rattle.std.proofs.lemmas.List.{length-replicate}
use Rattle.std.proofs.lemmas.Nat.{pow_pos}
use Rattle.cola_layout.specs.declared.marks.Marks.{Marks}
use Rattle.cola_layout.specs.Marks.{AreMarks, no_marks}
use Rattle.cola_layout.proofs.Levels.{marks-empty}
use Rattle.cola_layout.proofs.header.Header.empty.Goals as goal

pub invariant_of-result : goal.invariant_of-result
invariant_of-result c =
    let bottom = c.args.geometry.bottom in
    let n = c.levels.result in
    record {
      count_fits = omega arith;
      clock_fits = pow_pos (bottom + 1);
      last_fits = omega arith;
      one_each = ap length c.empty_levels-levels.ensures ∙ length-replicate n no_marks ∙ c.levels.ensures.value;
      marks_fit = subst (λ (ms : List Marks). AreMarks 0 ms) (sym c.empty_levels-levels.ensures) (marks-empty 0 n);
    }
