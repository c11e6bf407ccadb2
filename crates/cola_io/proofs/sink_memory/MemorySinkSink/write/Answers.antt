use Rattle.std.proofs.Common.{refl, inr, ap, sym, ◌∙◌}
use Rattle.cola_io.specs.FailedCalls.{is_listed}
use Rattle.cola_io.proofs.sink_memory.MemorySinkSink.write.Goals as goal

pub returns-then-contains-clause-fails : goal.returns-then-contains-clause-fails
returns-then-contains-clause-fails c = (
  λ _.
      inr
      (ap (is_listed c.args.self.now.failing.items) c.fault-then-contains.ensures.calls ∙ sym (ap (λ xs. is_listed xs c.saturating_add-self.result) c.deref.ensures.value)
      ∙ sym c.contains.ensures.value ∙ c.if-contains.true),
  λ _. refl,
)
