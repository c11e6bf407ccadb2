use Rattle.std.proofs.Common.{rules, ◌∙◌, ℕ, Result, Err, refl, ap, subst}
use Rattle.cola_mapped.specs.declared.region.Region.{Region}
use Rattle.cola_mapped.specs.Region.{bytes_in}
use Rattle.cola_tools.specs.declared.fault.ToolFault.{ToolFault}
use Rattle.cola_tools.specs.Growing.{Grows}
use Rattle.cola_c.proofs.tools.cola_core_grow.Goals as goal

pub returns-in-Err : goal.returns-in-Err
returns-in-Err c =
    let is = c.grow_on-bytes.ensures.grows in
    let now = c.grow_on-bytes.result.0 in
    record {
      answer = Err c.in-Err.fault;
      ticks = is.0;
      ticks_now = is.1.0;
      grows =
          subst (λ (r : Region). Grows c.args.keys c.args.block c.args.from.now (bytes_in r.bytes) (bytes_in now.bytes) is.0 is.1.0 (Err c.in-Err.fault)) c.replace-bytes.ensures.value
          (subst (λ (r : Result ℕ ToolFault). Grows c.args.keys c.args.block c.args.from.now (bytes_in c.replace-bytes.result.bytes) (bytes_in now.bytes) is.0 is.1.0 r) c.in-Err.is is.1.1);
      number_is = search (rules, c.fault_code.ensures);
      told_is = refl;
      lent = c.grow_on-bytes.ensures.back;
      at_stays = c.grow_on-bytes.ensures.at ∙ ap (λ (r : Region). r.at) c.replace-bytes.ensures.value;
      len_stays = c.grow_on-bytes.ensures.len ∙ ap (λ (r : Region). r.len) c.replace-bytes.ensures.value;
    }
