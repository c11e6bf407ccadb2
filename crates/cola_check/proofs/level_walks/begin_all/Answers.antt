use Rattle.std.proofs.Common.{rules, ◌≡◌, ℕ, ◌+◌, false, [], ◌∷◌, get_or, None, subst, arith}
use Rattle.cola_check.proofs.Common.{get_or_default, Held, looks_then, LevelRuns, PassCause, runs_of, BeginsLevel, StandsAt}
use Rattle.std.proofs.lemmas.Grind.{common_steps}
use Rattle.cola_check.proofs.RunBlocks.{stands-at, began-one, blocks-taken}
use Rattle.cola_check.proofs.Levels.{each_next, length_push, begun_one, refused, cause_later, level_bad}
use Rattle.cola_check.proofs.Fronts.{turns_then}
use Rattle.cola_check.proofs.level_walks.begin_all.Goals as goal

-- what an index beyond the end would give
abbrev beyond : LevelRuns
beyond = record { visible = record { level = 0; slot = 0; len = 0 }; shadow = None; odd = false }

pub loop-i-preserved : goal.loop-i-preserved
loop-i-preserved g c =
    let i = c.loop-i.invariant in
    let held : Held = (g.W.CellSource.state c.args.work.now).held in
    let level : LevelRuns = get_or c.args.levels.now c.loop-i.i beyond in
    let is = get_or_default c.args.levels.now c.loop-i.i beyond level c.loop-i-test.true in
    let new = c.in_ok-walks.walks in
    let F : Held → Type 0 = λ h. BeginsLevel h level new in
    record {
      looks = looks_then i.looks c.in_ok-walks.ensures.looks;
      turns = turns_then i.turns c.in_ok-walks.ensures.reads.turns;
      unread = begun_one c.args.levels.now c.loop-i.begun.items c.push.new.self.items c.loop-i.i level new _ _ _ c.push.ensures.items c.loop-i-test.true is i.unread c.in_ok-walks.ensures.reads.unread;
      blocks = λ at.
          let here : StandsAt c.loop-i.i level = subst (λ (n : ℕ). StandsAt n level) (let z : 0 + c.loop-i.i ≡ c.loop-i.i = omega arith in z) (stands-at 0 c.loop-i.i c.args.levels.now level c.loop-i-test.true is at) in
          began-one (g.W.CellSource.state c.args.work.now) (g.W.CellSource.state c.loop-i.work) (g.W.CellSource.state c.begin.new.work) c.args.levels.now c.loop-i.begun.items c.push.new.self.items c.loop-i.i level new
          i.looks.cells_stay c.in_ok-walks.ensures.looks.cells_stay at c.loop-i-test.true is i.count i.begins c.push.ensures.items (c.in_ok-walks.ensures.blocks c.loop-i.i here) (i.blocks at);
      count = length_push c.loop-i.begun.items c.push.new.self.items new c.loop-i.i c.push.ensures.items i.count;
      begins = each_next (BeginsLevel held) c.args.levels.now c.loop-i.begun.items c.push.new.self.items c.loop-i.i level new c.loop-i-test.true is c.push.ensures.items i.begins
          (subst F i.looks.cells_stay c.in_ok-walks.ensures.begins);
    }

pub returns-in_err-walks-clause-reads : goal.returns-in_err-walks-clause-reads
returns-in_err-walks-clause-reads g c = record {
  cause =
      let w = g.W.CellSource in
      let held : Held = (w.state c.args.work.now).held in
      let i = c.loop-i.invariant in
      let level : LevelRuns = get_or c.args.levels.now c.loop-i.i beyond in
      let is = get_or_default c.args.levels.now c.loop-i.i beyond level c.loop-i-test.true in
      let faults = (w.state c.args.work.now).spent.faults in
      let now = (w.state c.begin.new.work).spent.faults in
      refused c.from_residual.result c.in_err-walks.field-0.0 (PassCause held (runs_of c.args.levels.now) faults now) c.from_residual.ensures.1
      (cause_later (w.state c.loop-i.work).held held (runs_of (level ∷ [])) (runs_of c.args.levels.now) faults (w.state c.loop-i.work).spent.faults now c.in_err-walks.field-0.0 i.looks.cells_stay i.looks.calm
      (λ n. level_bad held n c.args.levels.now c.loop-i.i level c.loop-i-test.true is) c.in_err-walks.ensures.reads.cause);
  unread = grind (arith, common_steps);
  turns = search rules;
}

pub returns-clause-blocks : goal.returns-clause-blocks
returns-clause-blocks g c = λ at.
    let b = c.loop-i.invariant.blocks at in
    let all = blocks-taken (g.W.CellSource.state c.args.work.now).held c.loop-i.i c.args.levels.now in
    omega (arith, b, all)
