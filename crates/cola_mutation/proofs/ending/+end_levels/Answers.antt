-- The end of a mutation at all levels, the first and then the others.
use Rattle.std.proofs.Common.{ℕ, ◌+◌, ◌≤◌, List, ◌∷◌, length, sym, ap, subst, add-one, ◌∙◌, arith}
use Rattle.cola_cell.specs.Held.{Fixed}
use Rattle.cola_level.specs.declared.level.Level.{Level}
use Rattle.cola_mutation.specs.Ends.{ended, all_ended, AreDone, Restarted}
use Rattle.cola_mutation.proofs.Restarting.{restarted_then, restarted_alone, none_ended}
use Rattle.cola_mutation.proofs.ending.+end_levels.Goals as goal

pub end_level-requires : goal.end_level-requires
end_level-requires g t c = record {
  level_in = omega (arith, c.in-Some.ensures.cases.1, c.requires.levels_in);
  number_in = omega (arith, c.in-Some.ensures.cases.1, c.requires.numbers_in);
  clock_in = c.requires.clock_in;
  done = (subst (λ (ls : List Level). AreDone c.args.clock c.args.number ls) c.in-Some.ensures.cases.0 c.requires.done).0;
}

pub end_levels-requires : goal.end_levels-requires
end_levels-requires g t c κs within = (
  omega (arith, c.in-Some.ensures.cases.1, c.decreases),
  (
    within,
    (
      subst (λ (f : Fixed). c.args.number + 1 + length c.in-Some.below.now ≤ f.levels) (sym c.end_level.ensures.restarted.fixed_is) (omega (arith, c.in-Some.ensures.cases.1, c.requires.levels_in)),
      (
        omega (arith, c.in-Some.ensures.cases.1, c.requires.numbers_in),
        (
          c.requires.clock_in,
          subst (λ (n : ℕ). AreDone c.args.clock n c.in-Some.below.now) (sym (add-one c.args.number))
              (subst (λ (ls : List Level). AreDone c.args.clock c.args.number ls) c.in-Some.ensures.cases.0 c.requires.done).1,
        ),
      ),
    ),
  ),
)

pub returns-then-flips-clause-ended : goal.returns-then-flips-clause-ended
returns-then-flips-clause-ended g t c =
    ap (λ (l : Level). l ∷ c.end_levels.new.levels) c.end_level.ensures.ended
    ∙ ap (λ (ls : List Level). ended c.args.clock c.args.number c.in-Some.level.now ∷ ls)
    (c.end_levels.ensures.ended ∙ ap (λ (n : ℕ). all_ended c.args.clock n c.in-Some.below.now) (add-one c.args.number))
    ∙ ap (λ (ls : List Level). all_ended c.args.clock c.args.number ls) (sym c.in-Some.ensures.cases.0)

pub returns-then-flips-clause-restarted : goal.returns-then-flips-clause-restarted
returns-then-flips-clause-restarted g t c =
    let rest = subst (λ (n : ℕ). Restarted c.args.clock n (length c.in-Some.below.now) (g.W.CellSource.state c.end_level.new.work).held (g.W.CellSource.state c.end_levels.new.work).held) (add-one c.args.number) c.end_levels.ensures.restarted in
    subst (λ (ls : List Level). Restarted c.args.clock c.args.number (length ls) (g.W.CellSource.state c.args.work.now).held (g.W.CellSource.state c.end_levels.new.work).held) (sym c.in-Some.ensures.cases.0)
    (restarted_then c.args.clock c.args.number (length c.in-Some.below.now) c.end_level.ensures.restarted rest)

pub returns-else-flips-clause-ended : goal.returns-else-flips-clause-ended
returns-else-flips-clause-ended g t c =
    ap (λ (l : Level). l ∷ c.in-Some.below.now) c.end_level.ensures.ended
    ∙ ap (λ (ls : List Level). ended c.args.clock c.args.number c.in-Some.level.now ∷ ls) (sym (none_ended c.args.clock c.args.number c.in-Some.below.now (sym c.flips.ensures ∙ c.if-flips.false)))
    ∙ ap (λ (ls : List Level). all_ended c.args.clock c.args.number ls) (sym c.in-Some.ensures.cases.0)

pub returns-else-flips-clause-restarted : goal.returns-else-flips-clause-restarted
returns-else-flips-clause-restarted g t c =
    subst (λ (ls : List Level). Restarted c.args.clock c.args.number (length ls) (g.W.CellSource.state c.args.work.now).held (g.W.CellSource.state c.end_level.new.work).held) (sym c.in-Some.ensures.cases.0)
    (restarted_alone c.args.clock c.args.number (length c.in-Some.below.now) (sym c.flips.ensures ∙ c.if-flips.false) c.end_level.ensures.restarted)
