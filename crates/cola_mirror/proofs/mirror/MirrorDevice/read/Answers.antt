use Rattle.std.proofs.Common.{◌≡◌, Bool, refl, subst, ◌∙◌}
use Rattle.std.specs.Prelude.{is_err}
use Rattle.cola_mirror.specs.Sides.{asks_second}
use Rattle.cola_mirror.specs.Mirror.{Reads, IfCalled}
use Rattle.cola_mirror.proofs.CallLemmas.{asked-by, read-first, counted-read}
use Rattle.cola_mirror.proofs.mirror.MirrorDevice.read.Goals as goal

pub returns-clause-is : goal.returns-clause-is
returns-clause-is g c =
    let inside = c.self.inside in
    let first = c.read_where-first in
    let second = c.read_where-second in
    let asked : c.asks_second-called.result ≡ asks_second inside.sides (is_err first.result) = asked-by inside.sides c.asks_second-called.result c.is_err.result (is_err first.result) c.asks_second-called.ensures c.is_err.ensures.value in
    rw (← c.self.view_is) (record {
      first = first.result;
      second = second.result;
      first_is = read-first g.D.Device c.args.at first.new.into second.new.into inside.sides inside.first first.result first.new.side
          (λ unasked. second.ensures.stays (asked ∙ unasked))
          (subst (λ (called : Bool). IfCalled called (Reads g.D.Device c.args.at first.new.into) inside.first first.result first.new.side) c.has_first.ensures first.ensures.called);
      second_is = subst (λ (called : Bool). IfCalled called (Reads g.E.Device c.args.at second.new.into) inside.second second.result second.new.side) asked second.ensures.called;
      answer = c.counted.ensures.answer ∙ c.or.ensures;
      sides_are = refl;
      counts_are = counted-read c.or.result c.counted.result inside.counts c.read.new.self c.counted.new.counts c.counted.ensures.answer c.read.ensures c.counted.ensures.counts;
      first_faults_stay = refl;
      second_faults_stay = refl;
    })
