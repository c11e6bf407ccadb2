use Rattle.std.proofs.Common.{inl, ◌≤◌, Option, sym, ap, subst, ◌∙◌, arith}
use Rattle.cola_cell.specs.declared.cell.Item.{Item}
use Rattle.std.specs.Option.{option_or}
use Rattle.cola_cell.specs.Held.{Held}
use Rattle.cola_look.proofs.Looking.{err_is, looks_as, looks_then, looks_refused}
use Rattle.cola_cursor.specs.Lines.{left_of}
use Rattle.cola_cursor.specs.Results.{Fetches}
use Rattle.cola_cursor.proofs.Fronts.{Passing, passing_goes_on, passing_ends, value_stays, value_found}
use Rattle.cola_cursor.proofs.Readings.{reading_then}
use Rattle.cola_cursor.proofs.Lefts.{left_behind}
use Rattle.cola_cursor.proofs.line.Line.pass.Goals as goal

pub loop-self-preserved : goal.loop-self-preserved
loop-self-preserved g c =
    let i = c.loop-self.invariant in
    let has = sym c.has_key.ensures ∙ c.loop-self-test.true in
    let F : Held → Type 0 = λ h. Fetches c.args.falls h c.go_behind.new.self c.read_head.new.self in
    let P : Option Item → Type 0 = λ x. Passing c.args.falls (g.W.CellSource.state c.args.work.now).held c.args.key.now c.args.self.now c.read_head.new.self x in
    let behind : left_of c.go_behind.new.self ≤ left_of c.loop-self.self = left_behind c.loop-self.self c.go_behind.new.self c.go_behind.ensures.run c.go_behind.ensures.place c.go_behind.ensures.head in
    let left = c.in_ok-read_head.ensures.left in
    record {
      looks = looks_then i.looks c.in_ok-read_head.ensures.looks;
      reading = reading_then i.reading c.in_ok-read_head.ensures.reading;
      left = let l = i.left in omega arith;
      first = λ v. inl (value_stays c.args.self.now c.loop-self.self c.loop-self.item c.or-item.result (c.or-item.ensures ∙ ap (option_or c.loop-self.item) c.item.ensures) v (i.first v));
      passing = subst P (sym (c.or-item.ensures ∙ ap (option_or c.loop-self.item) c.item.ensures)) (passing_goes_on c.args.falls i.passing has c.go_behind.ensures.run c.go_behind.ensures.place (subst F i.looks.cells_stay c.in_ok-read_head.ensures.fetches));
    }

pub returns-clause-passes : goal.returns-clause-passes
returns-clause-passes g c = passing_ends c.args.falls c.loop-self.invariant.passing (sym c.has_key.ensures ∙ c.loop-self-test.false)

pub returns-clause-first : goal.returns-clause-first
returns-clause-first g c = λ h v. value_found c.args.self.now c.loop-self.self c.loop-self.item c.args.key.now (sym c.has_key.ensures ∙ c.loop-self-test.false) h (c.loop-self.invariant.first v)

pub returns-in_err-read_head-clause-looks : goal.returns-in_err-read_head-clause-looks
returns-in_err-read_head-clause-looks g c =
    looks_refused c.in_err-read_head.field-0.0 c.from_residual.result c.loop-self.invariant.looks c.in_err-read_head.ensures.looks (err_is c.from_residual.result c.in_err-read_head.field-0.0 c.from_residual.ensures.1)

pub returns-clause-looks : goal.returns-clause-looks
returns-clause-looks g c = looks_as c.loop-self.invariant.looks
