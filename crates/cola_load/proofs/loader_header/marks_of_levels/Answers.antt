use Rattle.std.proofs.Common.{ℕ, [], ◌∷◌, ◌++◌, take, ◌+◌, ◌≡◌, ap, ◌∙◌, arith, take_all}
use Rattle.cola_load.specs.Filled.{marks_from, filled_marks}
use Rattle.cola_load.proofs.Rowing.{marks-many, marks-more}
use Rattle.cola_load.proofs.loader_header.marks_of_levels.Goals as goal

pub loop-level-preserved : goal.loop-level-preserved
loop-level-preserved c = record {
  filled = c.push.ensures.items ∙ (λ i. c.loop-level.invariant.filled i ++ (c.marks_of_len.ensures ∙ ap filled_marks c.len_of_run.ensures.value) i ∷ [])
      ∙ marks-more c.args.rows c.args.geometry.now.bottom c.loop-level.level (omega (arith, c.loop-level-test.true, c.levels-level-end.ensures.value));
  size = c.push.ensures.len ∙ ap (λ (n : ℕ). n + 1) c.loop-level.invariant.size;
}

pub returns : goal.returns
returns c =
    let g = c.args.geometry.now in
    let at : c.loop-level.level ≡ g.bottom + 1 = omega (arith, c.loop-level-test.false, c.levels-level-end.ensures.value, c.loop-level.auto.level-end) in
    c.loop-level.invariant.filled ∙ ap (λ (n : ℕ). take n (marks_from c.args.rows g.bottom)) at
    ∙ take_all (g.bottom + 1) (marks_from c.args.rows g.bottom) (omega (arith, marks-many c.args.rows g.bottom))
