use Rattle.std.proofs.Common.{◌∙◌, ◌++◌, ap, sym, arith, map, option_to_list}
use Rattle.cola_plain.specs.Command.{request_with, shape_of}
use Rattle.cola_plain.proofs.ScriptLemmas.{asked_so_far, none_more}
use Rattle.cola_plain.proofs.script.requests.Goals.{in-Some+in_ok-push-in-Some, in-None}
use Rattle.cola_plain.proofs.script.requests.Goals as goal

pub loop-raw-preserved : goal.loop-raw-preserved
loop-raw-preserved c =
    let more = asked_so_far (shape_of c.args.shape.now) c.deref-raw-items.result.now c.loop-raw.raw-index _ c.loop-raw.all.items c.in_ok-request.field-0 (omega arith) c.loop-raw.invariant c.in_ok-request.ensures in
    elim c.match-branch-3.branch [
      | in-Some+in_ok-push-in-Some w ↦ ap (λ v. map request_with v.items) w.all-is
          ∙ ap (map request_with) (w.in_ok-push-in-Some.ensures.items ∙ ap (λ o. c.loop-raw.all.items ++ option_to_list o) (sym w.in-Some.is))
          ∙ more
      | in-None w ↦ ap (λ v. map request_with v.items) w.all-is
          ∙ ap (map request_with) (none_more c.loop-raw.all.items c.in_ok-request.field-0 w.in-None.is)
          ∙ more
    ]
