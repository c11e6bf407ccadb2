use Rattle.std.proofs.Common.{[], ◌∷◌, sym, ap, subst, arith}
use Rattle.cola_check.proofs.Common.{Held, HasRun, Run, Incoming, LevelWalks, Nothing, unbegun, ReadsOn, PassCause, shadow_run, with_shadow}
use Rattle.cola_check.proofs.RunBlocks.{level-began}
use Rattle.cola_check.proofs.Levels.{refused, cause_later, shadow_has, shadow_bad, shadow_cells, none_unread}
use Rattle.cola_check.proofs.Fronts.{turns_then}
use Rattle.cola_check.proofs.level_walks.LevelWalks.begin.Goals as goal

pub returns-clause-blocks : goal.returns-clause-blocks
returns-clause-blocks g c = λ n at.
    let level : LevelWalks = record { visible = record { walk = c.in_ok-visible.visible; said = Nothing }; shadow = record { walk = c.in_ok-shadow.shadow; said = Nothing }; odd = c.args.level.now.odd } in
    let R : Run → Type 0 = λ r. ReadsOn (g.W.CellSource.state c.begin.new.work) (g.W.CellSource.state c.begin-2.new.work) (unbegun r Incoming) c.in_ok-shadow.shadow in
    level-began c.in_ok-visible.ensures.looks.cells_stay c.in_ok-shadow.ensures.looks.cells_stay n c.args.level.now level at c.in_ok-visible.ensures.begins.reader_is c.in_ok-visible.ensures.blocks
    (subst R c.shadow_run-shadow_run.ensures c.in_ok-shadow.ensures.blocks)

pub begin-requires-2 : goal.begin-requires-2
begin-requires-2 g c = record {
  run =
      let held : Held = (g.W.CellSource.state c.args.work.now).held in
      let level = c.args.level.now in
      subst (λ (h : Held). HasRun h c.shadow_run-shadow_run.result) (sym c.in_ok-visible.ensures.looks.cells_stay)
      (subst (λ (r : Run). HasRun held r) (sym c.shadow_run-shadow_run.ensures) (shadow_has held level.shadow level.visible c.requires.visible c.requires.shadow));
}

pub returns-in_err-shadow-clause-reads : goal.returns-in_err-shadow-clause-reads
returns-in_err-shadow-clause-reads g c =
    let w = g.W.CellSource in
    let held : Held = (w.state c.args.work.now).held in
    let mid : Held = (w.state c.begin.new.work).held in
    let level = c.args.level.now in
    let runs = level.visible ∷ with_shadow level.shadow [] in
    let fault = c.in_err-shadow.field-0.0 in
    let faults = (w.state c.args.work.now).spent.faults in
    let between = (w.state c.begin.new.work).spent.faults in
    let now = (w.state c.begin-2.new.work).spent.faults in
    let first = c.in_ok-visible.ensures in
    let second = c.in_err-shadow.ensures.reads in
    record {
      cause = refused c.from_residual-in_err-shadow.result fault (PassCause held runs faults now) c.from_residual-in_err-shadow.ensures.1
          (cause_later mid held (shadow_run level ∷ []) runs faults between now fault first.looks.cells_stay first.looks.calm (λ n. shadow_bad held n level.shadow level.visible)
          (subst (λ (r : Run). PassCause mid (r ∷ []) between now fault) c.shadow_run-shadow_run.ensures second.cause));
      unread =
          let d = shadow_cells level.shadow level.visible [] in
          let e = none_unread c.from_residual-in_err-shadow.result fault c.from_residual-in_err-shadow.ensures.1 in
          let f = ap (λ (r : Run). r.len) c.shadow_run-shadow_run.ensures in
          omega (arith, first.reads.unread, second.unread, d, e, f);
      turns = turns_then first.reads.turns second.turns;
    }

pub returns-clause-reads : goal.returns-clause-reads
returns-clause-reads g c =
    let level = c.args.level.now in
    record {
      cause = tt;
      unread =
          let d = shadow_cells level.shadow level.visible [] in
          let f = ap (λ (r : Run). r.len) c.shadow_run-shadow_run.ensures in
          omega (arith, c.in_ok-visible.ensures.reads.unread, c.in_ok-shadow.ensures.reads.unread, d, f);
      turns = turns_then c.in_ok-visible.ensures.reads.turns c.in_ok-shadow.ensures.reads.turns;
    }
