use Rattle.std.proofs.Common.{◌+◌, sym, ap, subst, ◌∙◌}
use Rattle.cola_check.proofs.Common.{option_or, OrderAt, SampleAt, LengthAt, OrderEndsAt, IsAtFirst, FindsFirst}
use Rattle.cola_check.proofs.Prefixes.{next-order, run-more}
use Rattle.cola_check.proofs.firsts.FirstFlaws.with.Goals as goal

pub returns-clause-found : goal.returns-clause-found
returns-clause-found c = λ file above here.
    let s = c.args.self.now in
    let level = c.args.level in
    record {
      order = subst (FindsFirst (OrderAt file) (OrderEndsAt file) (level + 1)) (sym (c.or.ensures ∙ ap (option_or s.order) c.place_of.ensures)) (next-order file level s.order c.args.tests.now.disorder above.order here.order);
      sample = subst (FindsFirst (SampleAt file) IsAtFirst (level + 1)) (sym (c.or-2.ensures ∙ ap (option_or s.sample) c.first_cell.ensures)) (run-more (SampleAt file) level s.sample c.args.tests.now.is_sampled above.sample here.sampled);
      length = subst (FindsFirst (LengthAt file) IsAtFirst (level + 1)) (sym (c.or-3.ensures ∙ ap (option_or s.length) c.first_cell-2.ensures)) (run-more (LengthAt file) level s.length c.args.tests.now.has_few above.length here.few);
    }
