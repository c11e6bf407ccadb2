use Rattle.std.proofs.Common.{rules, ◌+◌, ◌≤◌, ◌↔◌, ℕ, List, Option, None, IsTrue, sym, ap, subst, ◌∙◌, length, arith}
use Rattle.cola_check.proofs.Common.{AllByRecursion, refill, Held, looks_as, looks_then, LevelWalks, PassCause, runs_of, cells_in, runs_in, LevelFits, IsLevelReady, all_ahead, ReadFrom, IsWithin, visible_said, counted, all_unread}
use Rattle.cola_check.proofs.Common.{all_left, FirstStay, AreLeasts, AreFirstLeasts, AreAwayFrom}
use Rattle.cola_check.proofs.RunBlocks.{read-from, read-from_stays}
use Rattle.cola_check.proofs.Levels.{refused, cause_later}
use Rattle.cola_check.proofs.LiveKeys.{has_rooms, all_fit, all_ready, bad_of_levels, few_cells, counting_begins, counting_on, counting_less, counting_same, counting_many, counting_ends, stamped_ends, refilled_passes, refilled_as}
use Rattle.cola_check.proofs.LeastKeys.{leads, leasts-many, kept-on, refilled-leasts}
use Rattle.cola_check.proofs.Fronts.{turns_then}
use Rattle.cola_check.proofs.live.count_live.Goals as goal

pub loop-key-init : goal.loop-key-init
loop-key-init g c = record {
  looks = looks_as c.in_ok-walks.ensures.looks;
  turns = c.in_ok-walks.ensures.reads.turns;
  unread = c.in_ok-walks.ensures.reads.unread;
  placed = λ at. read-from (g.W.CellSource.state c.args.work.now).held 0 c.args.levels.now c.in_ok-walks.walks.items at c.in_ok-walks.ensures.begins;
  blocks = c.in_ok-walks.ensures.blocks;
  leasts = subst (AreLeasts None c.leasts_of-leasts.result.items) c.as_slice.ensures.value c.leasts_of-leasts.ensures;
  counting = counting_begins c.in_ok-walks.ensures.begins c.none-tally.ensures.counts c.none-tally.ensures.stamped;
}

pub pass_below-requires-clause-fit : goal.pass_below-requires-clause-fit
pass_below-requires-clause-fit g c =
    let i = c.loop-key.invariant in
    let F : Held → List LevelWalks → Type 0 = λ h ws. AllByRecursion (LevelFits h) ws in
    subst (F (g.W.CellSource.state c.loop-key.work).held) (sym c.as_mut_slice.ensures.value)
    (subst (λ h. F h c.loop-key.walks.items) (sym i.looks.cells_stay) (all_fit (g.W.CellSource.state c.args.work.now).held c.args.levels.now c.loop-key.walks.items i.counting.on))

pub pass_below-requires-clause-ready : goal.pass_below-requires-clause-ready
pass_below-requires-clause-ready g c =
    subst (AllByRecursion IsLevelReady) (sym c.as_mut_slice.ensures.value)
    (all_ready (g.W.CellSource.state c.args.work.now).held c.args.levels.now c.loop-key.walks.items c.loop-key.invariant.counting.on)

pub pass_below-requires-clause-away : goal.pass_below-requires-clause-away
pass_below-requires-clause-away g c =
    let i = c.loop-key.invariant in
    subst (AreAwayFrom c.first_with-first.result c.in-Some.key) (sym c.as_mut_slice.ensures.value)
    (c.first_with-first.ensures c.loop-key.walks.items (subst (λ (ls : List (Option (List ℕ))). AreLeasts None ls c.loop-key.walks.items) (sym c.as_slice-in-Some.ensures.value) i.leasts) (leads c.loop-key.walks.items c.least_of.ensures c.as_slice-in-loop-key.ensures.value i.leasts c.in-Some.is))

-- the walks behind the key
abbrev walks_on : List LevelWalks → List LevelWalks → List LevelWalks
walks_on olds news = refill (length olds) olds news

pub count-requires-clause-same : goal.count-requires-clause-same
count-requires-clause-same g c =
    let i = c.loop-key.invariant in
    let news = walks_on c.loop-key.walks.items c.pass_below.new.levels in
    counting_same i.counting c.in-Some.key news (refilled_passes c.in-Some.key c.pass_below.new.levels i.looks.cells_stay c.as_mut_slice.ensures.value c.in_ok-pass_below.ensures.passes) ∙ sym (ap length c.as_slice-in-Some-2.ensures.value)

pub count-requires-clause-rooms : goal.count-requires-clause-rooms
count-requires-clause-rooms g c =
    has_rooms (all_ahead c.loop-key.walks.items) (cells_in (runs_of c.args.levels.now)) c.loop-key.tally.counts.items
    (few_cells (g.W.CellSource.state c.args.work.now).held c.known.ensures c.args.levels.now c.requires.few c.requires.runs) c.loop-key.invariant.counting.bounded

pub lower_all-requires-clause-same : goal.lower_all-requires-clause-same
lower_all-requires-clause-same g c =
    let i = c.loop-key.invariant in
    let news = walks_on c.loop-key.walks.items c.pass_below.new.levels in
    ap length c.as_mut_slice-in-Some.ensures.value ∙ leasts-many None c.loop-key.leasts.items c.loop-key.walks.items i.leasts ∙ sym i.counting.same
    ∙ counting_same i.counting c.in-Some.key news (refilled_passes c.in-Some.key c.pass_below.new.levels i.looks.cells_stay c.as_mut_slice.ensures.value c.in_ok-pass_below.ensures.passes) ∙ sym (ap length c.as_slice-in-Some-3.ensures.value)

pub lower_all-requires-clause-kept : goal.lower_all-requires-clause-kept
lower_all-requires-clause-kept g c =
    let i = c.loop-key.invariant in
    let first = c.first_with-first.result in
    let news = walks_on c.loop-key.walks.items c.pass_below.new.levels in
    let stay = refilled_as (g.W.CellSource.state c.loop-key.work).held c.in-Some.key c.pass_below.new.levels c.as_mut_slice.ensures.value c.in_ok-pass_below.ensures.passes (FirstStay first) c.in_ok-pass_below.ensures.stay in
    subst (λ (ls : List (Option (List ℕ))). AreFirstLeasts first None ls c.as_slice-in-Some-3.result.now) (sym c.as_mut_slice-in-Some.ensures.value)
    (subst (AreFirstLeasts first None c.loop-key.leasts.items) (sym c.as_slice-in-Some-3.ensures.value) (kept-on first None c.loop-key.leasts.items c.loop-key.walks.items news i.leasts stay))

pub loop-key-smaller : goal.loop-key-smaller
loop-key-smaller g c =
    let i = c.loop-key.invariant in
    let news = walks_on c.loop-key.walks.items c.pass_below.new.levels in
    counting_less i.counting c.in-Some.key (leads c.loop-key.walks.items c.least_of.ensures c.as_slice-in-loop-key.ensures.value i.leasts c.in-Some.is) news
    (refilled_passes c.in-Some.key c.pass_below.new.levels i.looks.cells_stay c.as_mut_slice.ensures.value c.in_ok-pass_below.ensures.passes)

pub loop-key-preserved : goal.loop-key-preserved
loop-key-preserved g c =
    let i = c.loop-key.invariant in
    let e = c.as_slice-in-Some-2.ensures.value in
    let news = walks_on c.loop-key.walks.items c.pass_below.new.levels in
    let S : List LevelWalks → Type 0 = λ ws. IsTrue c.count.new.self.stamped ↔ (IsTrue c.loop-key.tally.stamped × IsWithin c.args.last (visible_said ws)) in
    let before = g.W.CellSource.state c.loop-key.work in
    let after = g.W.CellSource.state c.pass_below.new.work in
    let left = refilled_as before.held c.in-Some.key c.pass_below.new.levels c.as_mut_slice.ensures.value c.in_ok-pass_below.ensures.passes (λ xs ns. c.pass_below.new.steps + all_unread ns ≤ c.loop-key.steps + all_unread xs) c.in_ok-pass_below.ensures.reads.unread in
    record {
      looks = looks_then i.looks c.in_ok-pass_below.ensures.looks;
      turns = turns_then i.turns c.in_ok-pass_below.ensures.reads.turns;
      unread = let l = i.unread in omega (arith, left, l);
      placed = λ at. read-from_stays (g.W.CellSource.state c.args.work.now).held c.in-Some.key 0 c.loop-key.walks.items news (i.placed at) (refilled_passes c.in-Some.key c.pass_below.new.levels i.looks.cells_stay c.as_mut_slice.ensures.value c.in_ok-pass_below.ensures.passes);
      blocks = λ at.
          let b = i.blocks at in
          let from = subst (ReadFrom 0) (sym c.as_mut_slice.ensures.value) (i.placed at) in
          let more = refilled_as before.held c.in-Some.key c.pass_below.new.levels c.as_mut_slice.ensures.value c.in_ok-pass_below.ensures.passes (λ xs ns. after.spent.turned + all_left after ns ≤ before.spent.turned + all_left before xs)
          (c.in_ok-pass_below.ensures.blocks 0 from).blocks in
          omega (arith, b, more);
      leasts = refilled-leasts c.loop-key.leasts.items c.lower_all.new.leasts news
          (leasts-many None c.loop-key.leasts.items c.loop-key.walks.items i.leasts ∙ sym i.counting.same ∙ counting_same i.counting c.in-Some.key news (refilled_passes c.in-Some.key c.pass_below.new.levels i.looks.cells_stay c.as_mut_slice.ensures.value c.in_ok-pass_below.ensures.passes))
          (subst (AreLeasts None c.lower_all.new.leasts) c.as_slice-in-Some-3.ensures.value c.lower_all.ensures);
      counting = counting_on i.counting c.in-Some.key (leads c.loop-key.walks.items c.least_of.ensures c.as_slice-in-loop-key.ensures.value i.leasts c.in-Some.is) news
          (refilled_passes c.in-Some.key c.pass_below.new.levels i.looks.cells_stay c.as_mut_slice.ensures.value c.in_ok-pass_below.ensures.passes)
          (c.count.ensures.counted ∙ ap (counted c.loop-key.tally.counts.items) e) (subst S e c.count.ensures.stamped);
    }

pub returns-in_err-pass_below-clause-reads : goal.returns-in_err-pass_below-clause-reads
returns-in_err-pass_below-clause-reads g c = record {
  cause =
      let w = g.W.CellSource in
      let held : Held = (w.state c.args.work.now).held in
      let i = c.loop-key.invariant in
      let faults = (w.state c.args.work.now).spent.faults in
      let between = (w.state c.loop-key.work).spent.faults in
      let now = (w.state c.pass_below.new.work).spent.faults in
      let fault = c.in_err-pass_below.field-0.0 in
      refused c.from_residual-in_err-pass_below.result fault (PassCause held (runs_of c.args.levels.now) faults now) c.from_residual-in_err-pass_below.ensures.1
      (cause_later (w.state c.loop-key.work).held held (runs_in c.loop-key.walks.items) (runs_of c.args.levels.now) faults between now fault i.looks.cells_stay i.looks.calm
      (λ n. bad_of_levels held n c.args.levels.now c.loop-key.walks.items i.counting.on)
      (subst (λ (ws : List LevelWalks). PassCause (w.state c.loop-key.work).held (runs_in ws) between now fault) c.as_mut_slice.ensures.value c.in_err-pass_below.ensures.reads.cause));
  cost = search rules;
}

pub returns-clause-counts : goal.returns-clause-counts
returns-clause-counts g c = counting_ends c.loop-key.invariant.counting (leads c.loop-key.walks.items c.least_of.ensures c.as_slice-in-loop-key.ensures.value c.loop-key.invariant.leasts c.in_default.is)

pub returns-clause-stamped : goal.returns-clause-stamped
returns-clause-stamped g c = stamped_ends c.loop-key.invariant.counting (leads c.loop-key.walks.items c.least_of.ensures c.as_slice-in-loop-key.ensures.value c.loop-key.invariant.leasts c.in_default.is)

pub returns-clause-many : goal.returns-clause-many
returns-clause-many g c = counting_many c.loop-key.invariant.counting
