-- One level at the end of a mutation.
use Rattle.std.proofs.Common.{ℕ, true, false, sym, subst, ◌∙◌}
use Rattle.cola_cell.specs.Shadows.{Restarts}
use Rattle.cola_mutation.proofs.Restarting.{ended_flips, ended_leaves, ended_stays, ends_at, zero_flips, restarted_one, restarted_not}
use Rattle.cola_mutation.proofs.ending.end_level.Goals as goal

pub returns-then-flips-clause-ended : goal.returns-then-flips-clause-ended
returns-then-flips-clause-ended g c = c.flip.ensures ∙ sym (ended_flips c.args.clock c.args.number c.args.level.now (sym c.flips.ensures ∙ c.if-flips.true))

pub returns-then-flips-clause-restarted : goal.returns-then-flips-clause-restarted
returns-then-flips-clause-restarted g c =
    restarted_one c.args.clock c.args.number (sym c.flips.ensures ∙ c.if-flips.true)
    (subst (λ (slot : ℕ). Restarts (g.W.CellSource.state c.args.work.now).held (g.W.CellSource.state c.restart.new.self).held c.args.number slot) c.visible_slot.ensures.value c.restart.ensures.restarts)

pub returns-then-number-eq0-clause-ended : goal.returns-then-number-eq0-clause-ended
returns-then-number-eq0-clause-ended g c = absurd (zero_flips c.args.clock c.args.number c.if-number-eq0.true (sym c.flips.ensures ∙ c.if-flips.false))

pub returns-then-number-eq0-clause-restarted : goal.returns-then-number-eq0-clause-restarted
returns-then-number-eq0-clause-restarted g c = restarted_not _ c.args.clock c.args.number (sym c.flips.ensures ∙ c.if-flips.false)

pub returns-then-not-flips-clause-ended : goal.returns-then-not-flips-clause-ended
returns-then-not-flips-clause-ended g c =
    let stays = sym c.flips.ensures ∙ c.if-flips.false in
    sym (ended_stays c.args.clock c.args.number c.args.level.now stays (ends_at c.args.clock c.args.number false c.if-number-eq0.false stays (sym c.flips-2.ensures ∙ c.if-not-flips.true)))

pub leave_window-requires : goal.leave_window-requires
leave_window-requires g c =
    c.requires.done (ends_at c.args.clock c.args.number true c.if-number-eq0.false (sym c.flips.ensures ∙ c.if-flips.false) (sym c.flips-2.ensures ∙ c.if-not-flips.false))

pub returns-clause-ended : goal.returns-clause-ended
returns-clause-ended g c =
    let stays = sym c.flips.ensures ∙ c.if-flips.false in
    c.leave_window.ensures
    ∙ sym (ended_leaves c.args.clock c.args.number c.args.level.now stays (ends_at c.args.clock c.args.number true c.if-number-eq0.false stays (sym c.flips-2.ensures ∙ c.if-not-flips.false)))

pub returns-clause-restarted : goal.returns-clause-restarted
returns-clause-restarted g c = restarted_not _ c.args.clock c.args.number (sym c.flips.ensures ∙ c.if-flips.false)
