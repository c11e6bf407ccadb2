-- A head is read by one read at most.
use Rattle.std.proofs.Common.{◌≡◌, ◌<◌, Option, ap, sym, subst, ◌∙◌}
use Rattle.cola_cell.specs.declared.cell.Cell.{Cell}
use Rattle.cola_merge.specs.Fetched.{Head}
use Rattle.cola_merge.specs.Feeds.{feed_len}
use Rattle.cola_merge.specs.Heads.{head_at, IsHead}
use Rattle.cola_merge.specs.States.{Fetch}
use Rattle.cola_merge.proofs.Reading.{placed, read_fetches}
use Rattle.cola_merge.proofs.heads.Head.read.Goals as goal

pub returns-clause-fetch : goal.returns-clause-fetch
returns-clause-fetch g c =
    let old = g.W.CellSource.state c.args.work.now in
    let at = c.self.inside.at in
    let head : head_at at ≡ c.args.self.now = ap (λ (x : Option Cell). record { at = at; cell = x }) (sym (ap (λ (h : Head). h.cell) c.self.view_is ∙ c.requires.missing)) ∙ c.self.view_is in
    subst (λ (h : Head). Fetch old (g.W.CellSource.state c.read.new.work) c.args.reader c.args.feed.now h (record { at = at; cell = c.read.new.self }) c.args.steps.now c.read.new.steps c.read.result) head
    (read_fetches c.args.reader c.args.feed.now at c.in-Some.next c.args.steps.now c.read.new.steps (placed old.held c.args.reader c.args.feed.now at c.in-Some.next (sym c.place.ensures ∙ c.in-Some.is))
    (subst (λ (h : Head). h.at < feed_len c.args.feed.now) (sym head) c.requires.left) c.read.ensures.one_tick c.read.new.self c.read.result
    (subst (λ (h : Head). IsHead old.held c.args.feed.now h) (sym head) c.requires.head) c.read.ensures.reads)
