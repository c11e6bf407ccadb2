use Rattle.std.proofs.Common.{◌≡◌, ◌+◌, ◌-◌, take, drop, length, ◌∙◌, ap, arith}
use Rattle.cola_io.proofs.FailedLemmas.{failed_listed}
use Rattle.cola_io.proofs.StreamLemmas.{left_behind}
use Rattle.cola_io.proofs.source_memory.MemorySourceSource.read.Goals as goal

pub returns-clause-bytes : goal.returns-clause-bytes
returns-clause-bytes c =
    let now = c.is_failing.new.self in
    let at : now.at ≡ c.args.self.now.at = ap (λ s. s.at) c.is_failing.ensures.counted in
    left_behind c.args.self.now.at c.min-at.result c.min-count.result (length c.args.into.now) c.args.self.now.bytes.items now.bytes.items c.copy_from_slice.new.self _
    (ap (λ s. s.bytes.items) c.is_failing.ensures.counted)
    (omega (arith, now.bytes.ok.0))
    (omega (arith, now.bytes.ok.0))
    (c.copy_from_slice.ensures.after ∙ ap (λ t. take (c.min-at.result + c.min-count.result - c.min-at.result) (drop c.min-at.result t)) c.deref.ensures.value)

pub returns-then-is_failing-clause-faults_counted : goal.returns-then-is_failing-clause-faults_counted
returns-then-is_failing-clause-faults_counted c =
    let listed = c.is_failing.ensures.listed.0 c.if-is_failing.true in
    failed_listed c.args.self.now.failing.items c.is_failing.new.self.failing.items c.args.self.now.calls c.is_failing.new.self.calls (ap (λ s. s.failing.items) c.is_failing.ensures.counted) listed.0
    (ap (λ s. s.calls) c.is_failing.ensures.counted) listed.1
