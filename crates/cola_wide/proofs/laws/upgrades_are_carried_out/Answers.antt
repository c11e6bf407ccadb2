use Rattle.cola_wide.proofs.laws.upgrades_are_carried_out.Goals as goal

pub returns-clause-done : goal.returns-clause-done
returns-clause-done g c = λ from from' to to' done. let whole = done.1.copy_is in (done.0, (done.1.was, (done.1.was_empty, (whole.source.why_is, (whole.size, (whole.copy, whole.settled))))))

pub returns-clause-done_calls : goal.returns-clause-done_calls
returns-clause-done_calls g c = λ from from' to to' done.
    let whole = done.1.copy_is in (done.0, (done.1.was, ((whole.source.counts, whole.source.no_fault), (whole.writes_are, whole.no_fault))))

pub returns-clause-bad_cell : goal.returns-clause-bad_cell
returns-clause-bad_cell g c = λ number from from' to to' met. (met.0, (met.1.was, (met.1.was_empty, (met.1.copy_is.source.why_is, met.1.copy_is.begun))))

pub returns-clause-bad_calls : goal.returns-clause-bad_calls
returns-clause-bad_calls g c = λ number from from' to to' met.
    let bad = met.1.copy_is in (met.0, (met.1.was, ((bad.source.counts, bad.source.no_fault), (bad.writes_are, bad.no_fault))))
