use Rattle.std.proofs.Common.{Bool, refl, subst, ◌∙◌}
use Rattle.std.specs.Prelude.{is_err}
use Rattle.cola_mirror.specs.Sides.{after_change}
use Rattle.cola_mirror.specs.Mirror.{LaysOut, IfCalled}
use Rattle.cola_mirror.proofs.CallLemmas.{left-by, counted-other}
use Rattle.cola_mirror.proofs.mirror.MirrorDevice.lay_out.Goals as goal

pub returns-clause-is : goal.returns-clause-is
returns-clause-is g c =
    let inside = c.self.inside in
    let first = c.lay_out_where-first in
    let second = c.lay_out_where-second in
    rw (← c.self.view_is) (record {
      first = first.result;
      second = second.result;
      first_is = subst (λ (called : Bool). IfCalled called (LaysOut g.D.Device c.args.size) inside.first first.result first.new.side) c.has_first.ensures first.ensures;
      second_is = subst (λ (called : Bool). IfCalled called (LaysOut g.E.Device c.args.size) inside.second second.result second.new.side) c.has_second.ensures second.ensures;
      answer = c.counted.ensures.answer ∙ c.or.ensures;
      sides_are = left-by after_change c.self.inside.sides c.after_change-self-inside.result c.is_err.result c.is_err-2.result (is_err c.lay_out_where-first.result) (is_err c.lay_out_where-second.result) c.after_change-self-inside.ensures c.is_err.ensures.value c.is_err-2.ensures.value;
      counts_are = counted-other c.or.result c.counted.result inside.counts c.other.new.self c.counted.new.counts c.counted.ensures.answer c.other.ensures c.counted.ensures.counts;
      first_faults_stay = refl;
      second_faults_stay = refl;
    })
