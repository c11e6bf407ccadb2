use Rattle.std.proofs.Common.{◌≡◌, inr, ◌+◌, ◌≤◌, ℕ, min, List, [], ◌∷◌, IfSome, IsTrue, ◌↔◌, refl, Ok, sym, subst, ◌∙◌, arith, option_to_list}
use Rattle.cola_check.proofs.Common.{count_looks, Held, LawCell, as_cell, By, IsGiven, Own, costs_none, costs_read_then, costs_then, costs_within, cells, looked_none, looks_read, looks_then, lists_below, sample_len, sample_reads}
use Rattle.cola_check.proofs.Common.{Suits, IsSeen, IsRunTold, PassCause}
use Rattle.cola_check.proofs.Levels.{refused, cause_later}
use Rattle.cola_check.proofs.RunBlocks.{run-most, sample-most, own-read, sample-read}
use Rattle.cola_check.proofs.Prefixes.{given-at, cells-next, reads-one}
use Rattle.cola_check.proofs.visible.read_all.Goals as goal

pub loop-index-init : goal.loop-index-init
loop-index-init g c = record {
  looks = looked_none;
  cost = costs_within (costs_none (g.W.CellSource.state c.args.work.now).spent c.args.steps.now) (omega arith) (omega arith);
  blocks =
      let a = run-most (g.W.CellSource.state c.args.work.now) Own c.args.run.now 0 in
      let b = sample-most (g.W.CellSource.state c.args.work.now) c.args.below c.empty-seen.result.looks in
      omega (arith, a, b);
  place_is = c.empty-seen.ensures.place;
  seen = λ told rest. c.empty-seen.ensures.seen (lists_below (g.W.CellSource.state c.args.work.now).held c.args.below rest);
}

pub loop-index-preserved : goal.loop-index-preserved
loop-index-preserved g c =
    let i = c.loop-index.invariant in
    let held = (g.W.CellSource.state c.args.work.now).held in
    let run = c.args.run.now in
    let old = c.loop-index.seen in
    let new = c.take.new.self in
    let cell = c.read_packed.new.into in
    let below = c.args.below in
    let index = c.loop-index.index in
    let one = reads-one below old.looks new.looks (as_cell cell) c.take.ensures.looks in
    let bound : index + min old.looks (sample_len below) + 1 + sample_reads below old.looks (as_cell cell) ≤ index + 1 + min new.looks (sample_len below) = omega (arith, one) in
    let F : Held → Type 0 = λ h. IfSome below (IsRunTold h) → (rest : List (List LawCell)) → (IsTrue c.in_ok-suits.suits ↔ Suits (lists_below h below rest) old.looks (as_cell cell)) in
    record {
      looks = looks_then (looks_then i.looks (looks_read c.in_ok-read_packed.ensures.kept c.in_ok-read_packed.ensures.reads)) c.in_ok-suits.ensures.looks;
      cost = costs_within (costs_then {more = sample_reads below old.looks (as_cell cell)} {others = sample_reads below old.looks (as_cell cell)} (costs_read_then {buffer = By Own run.level} {result = Ok cell} i.cost c.in_ok-read_packed.ensures.reads c.in_ok-read_packed.ensures.one_tick) c.in_ok-suits.ensures.reads.cost) bound bound;
      blocks =
          let one = own-read run below cell index old.looks c.in_ok-read_packed.ensures.reads c.loop-index-test.true in
          let two = sample-read run below (index + 1) old.looks new.looks (count_looks (as_cell cell ∷ [])) c.in_ok-suits.ensures.looks.cells_stay c.take.ensures.looks c.in_ok-suits.ensures.blocks in
          omega (arith, i.blocks, one, two);
      place_is = let a = c.take.ensures.place in let b = i.place_is in omega (arith, a, b);
      seen = λ told rest.
          let given = subst (λ (h : Held). IsGiven h run.level run.slot index cell) i.looks.cells_stay c.in_ok-read_packed.ensures.reads.answer in
          let next = cells-next (held.spots run.level run.slot) index (as_cell cell) (given-at held run index cell told.run_told c.loop-index-test.true given) in
          let suits = subst F (c.in_ok-read_packed.ensures.reads.cells_stay ∙ i.looks.cells_stay) c.in_ok-suits.ensures.suits in
          subst (λ (xs : List LawCell). IsSeen (lists_below held below rest) xs new) (sym next)
          (c.take.ensures.seen (lists_below held below rest) (cells (held.spots run.level run.slot) 0 index) (i.seen told rest) (suits told.below_told rest));
    }

pub returns-in_err-suits-clause-reads : goal.returns-in_err-suits-clause-reads
returns-in_err-suits-clause-reads g c =
    let w = g.W.CellSource in
    let i = c.loop-index.invariant in
    let read = c.in_ok-read_packed.ensures in
    let cell = c.read_packed.new.into in
    let fault = c.in_err-suits.field-0.0 in
    let faults = (w.state c.args.work.now).spent.faults in
    let between = (w.state c.read_packed.new.self).spent.faults in
    let now = (w.state c.suits_at.new.work).spent.faults in
    let below = c.args.below in
    let looks = c.loop-index.seen.looks in
    let more = sample_reads below looks (as_cell cell) in
    let one = reads-one below looks (looks + count_looks (as_cell cell ∷ [])) (as_cell cell) refl in
    let bound : c.loop-index.index + min looks (sample_len below) + 1 + more ≤ c.args.run.now.len + sample_len below = omega (arith, one, c.loop-index-test.true) in
    record {
      cause = refused c.from_residual-in_err-suits.result fault (PassCause (w.state c.args.work.now).held (c.args.run.now ∷ option_to_list below) faults now) c.from_residual-in_err-suits.ensures.1
          (cause_later (w.state c.read_packed.new.self).held (w.state c.args.work.now).held (option_to_list below) (c.args.run.now ∷ option_to_list below) faults between now fault
          (read.reads.cells_stay ∙ i.looks.cells_stay) (read.reads.calm ∙ i.looks.calm) (λ n b. inr b) c.in_err-suits.ensures.reads.cause);
      cost = costs_within (costs_then {more = more} {others = more} (costs_read_then {buffer = By Own c.args.run.now.level} {result = Ok cell} i.cost read.reads read.one_tick) c.in_err-suits.ensures.reads.cost) bound bound;
    }

pub returns-clause-seen : goal.returns-clause-seen
returns-clause-seen g c = λ told rest.
    let held = (g.W.CellSource.state c.args.work.now).held in
    let run = c.args.run.now in
    let whole : c.loop-index.index ≡ run.len = omega (arith, c.loop-index.auto.index-end, c.loop-index-test.false) in
    subst (λ (n : ℕ). IsSeen (lists_below held c.args.below rest) (cells (held.spots run.level run.slot) 0 n) c.loop-index.seen) whole (c.loop-index.invariant.seen told rest)
