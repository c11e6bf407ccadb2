use Rattle.std.proofs.Common.{◌≡◌, ◌-◌, refl, arith, subst}
use Rattle.cola_spec.specs.Command as spec
use Rattle.cola_spec.specs.Reply.{Counted}
use Rattle.cola_table.specs.Replies.{turn_of}
use Rattle.cola_table.specs.Terms.{shape}
use Rattle.cola_line.proofs.Turns.{count_steps}
use Rattle.cola_line.proofs.answers.ask.Goals as goal

pub returns-in-Put-clause-turn : goal.returns-in-Put-clause-turn
returns-in-Put-clause-turn g c = rw c.in-Put.is c.put.ensures.turn

pub returns-in-PutIf-clause-turn : goal.returns-in-PutIf-clause-turn
returns-in-PutIf-clause-turn g c = rw c.in-PutIf.is c.put_if.ensures.turn

pub returns-in-Del-clause-turn : goal.returns-in-Del-clause-turn
returns-in-Del-clause-turn g c = rw c.in-Del.is c.delete.ensures.turn

pub returns-in-Get-clause-turn : goal.returns-in-Get-clause-turn
returns-in-Get-clause-turn g c = rw c.in-Get.is c.get.ensures.turn

pub returns-in-Stamp-clause-turn : goal.returns-in-Stamp-clause-turn
returns-in-Stamp-clause-turn g c = rw c.in-Stamp.is c.stamp.ensures.turn

pub returns-in-Count-clause-turn : goal.returns-in-Count-clause-turn
returns-in-Count-clause-turn g c =
    let none : 0 ≡ c.args.steps.now - c.args.steps.now = omega arith in
    rw c.in-Count.is (record {
      given = subst (λ n. g.T.Table.answers c.args.table.now (turn_of spec.Count (Counted c.count.result) n) c.args.table.now) none c.count.ensures.given;
      faults = refl;
      step = λ m held. count_steps (shape (g.T.Table.terms c.args.table.now)) m (g.T.Table.holds c.args.table.now) (c.args.steps.now - c.args.steps.now) c.count.result (c.count.ensures.counted m held) held;
    })
