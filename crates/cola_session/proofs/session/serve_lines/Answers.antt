use Rattle.std.proofs.Common.{◌++◌, ◌∷◌, [], refl, sym, ap, ◌∙◌, subst, option_copied}
use Rattle.cola_io.specs.Counted.{after_fault}
use Rattle.cola_io.specs.Reads.{bytes_read}
use Rattle.cola_session.specs.Ends.{Status0, Status3, Status4, Status9}
use Rattle.cola_session.specs.Reading.{line_read}
use Rattle.cola_session.proofs.ReadingOn.{ReadSoFar, read_none, read_line, ends_whole, ends_by_source, ends_spent, ends_by_sink, holds_line, line_no_fault, line_faults, fewer_left}
use Rattle.cola_session.proofs.Leading.{all-none, all-then, front-then, counts-ok, counts-err}
use Rattle.cola_session.proofs.session.serve_lines.Goals as goal

pub lines-init : goal.lines-init
lines-init g c = record {
  reads = [];
  told = [];
  read = subst (λ r. ReadSoFar g.S.Source c.args.source.now c.args.source.now r [] []) (sym c.new-reader.ensures) (read_none g.S.Source c.args.source.now);
  sink_faults = refl;
  led = all-none g.H.Table.Table g.H.Home.home g.K.Sink c.args.home c.args.sink.now c.args.steps.now;
}

pub returns-in-End : goal.returns-in-End
returns-in-End g c =
    let i = c.lines.invariant in
    Status0 refl (ends_whole g.S.Source g.K.Sink c.args.source.now c.lines.source c.next_line-next.new.source c.args.sink.now c.lines.sink c.lines.reader c.next_line-next.new.self i.reads i.told _ i.read i.led i.sink_faults c.in-End.ensures.lines c.in-End.ensures.faults)

pub returns-in-Fault : goal.returns-in-Fault
returns-in-Fault g c =
    let i = c.lines.invariant in
    Status3 refl (ends_by_source g.S.Source g.K.Sink c.args.source.now c.lines.source c.next_line-next.new.source c.args.sink.now c.lines.sink c.lines.reader c.next_line-next.new.self i.reads i.told _ i.read i.led i.sink_faults c.in-Fault.ensures.lines c.in-Fault.ensures.faults)

pub returns-in-Budget : goal.returns-in-Budget
returns-in-Budget g c =
    let i = c.lines.invariant in
    Status9 refl (ends_spent g.S.Source g.K.Sink c.args.source.now c.lines.source c.next_line-next.new.source c.args.sink.now c.lines.sink c.lines.reader c.next_line-next.new.self i.reads i.told _ i.read i.led i.sink_faults c.in-Budget.ensures.lines c.in-Budget.ensures.faults)

pub returns-in-Err : goal.returns-in-Err
returns-in-Err g c =
    let i = c.lines.invariant in
    let call = c.next_line-next.ensures.lines in
    let next = c.next_line-next.result in
    let reader = c.next_line-next.new.self in
    let line = line_read (option_copied c.text_of-text.result) in
    let holds = holds_line c.lines.reader reader (bytes_read call.reads) next call.line c.in_default.not-End c.in_default.not-Fault c.in_default.not-Budget in
    Status4 refl (ends_by_sink g.S.Source c.args.source.now c.lines.source c.next_line-next.new.source c.lines.reader reader i.reads i.told next i.read call g.K.Sink c.args.sink.now c.carry_out-after.new.sink _ line
    c.text_of-text.ensures (line_no_fault next reader.line holds)
    (front-then g.H.Table.Table g.H.Home.home g.K.Sink c.args.home c.lines.home c.carry_out-after.result.0 c.args.sink.now c.lines.sink c.carry_out-after.new.sink c.args.steps.now c.lines.steps c.carry_out-after.new.steps i.told i.led line c.carry_out-after.result.1
    c.carry_out-after.ensures.line c.in-Err.field-0 c.in-Err.is)
    (line_faults next reader.line _ _ holds c.next_line-next.ensures.faults)
    (counts-err c.carry_out-after.result.1 c.in-Err.field-0 _ _ c.in-Err.is c.carry_out-after.ensures.faults_counted ∙ ap after_fault i.sink_faults))

pub lines-smaller : goal.lines-smaller
lines-smaller g c =
    let call = c.next_line-next.ensures.lines in
    fewer_left c.lines.reader c.next_line-next.new.self (bytes_read call.reads) c.next_line-next.result call.line (holds_line c.lines.reader c.next_line-next.new.self (bytes_read call.reads) c.next_line-next.result call.line c.in_default.not-End c.in_default.not-Fault c.in_default.not-Budget)

pub lines-preserved : goal.lines-preserved
lines-preserved g c =
    let i = c.lines.invariant in
    let call = c.next_line-next.ensures.lines in
    let next = c.next_line-next.result in
    let reader = c.next_line-next.new.self in
    let line = line_read (option_copied c.text_of-text.result) in
    let holds = holds_line c.lines.reader reader (bytes_read call.reads) next call.line c.in_default.not-End c.in_default.not-Fault c.in_default.not-Budget in
    record {
      reads = call.reads ++ i.reads;
      told = i.told ++ line ∷ [];
      read = read_line g.S.Source c.args.source.now c.lines.source c.next_line-next.new.source c.lines.reader reader i.reads i.told next i.read call line
          c.text_of-text.ensures (line_no_fault next reader.line holds) (line_faults next reader.line _ _ holds c.next_line-next.ensures.faults);
      sink_faults = counts-ok c.carry_out-after.result.1 c.in_default-written.field-0 _ _ c.in_default-written.is c.carry_out-after.ensures.faults_counted ∙ i.sink_faults;
      led = all-then g.H.Table.Table g.H.Home.home g.K.Sink c.args.home c.lines.home c.carry_out-after.result.0 c.args.sink.now c.lines.sink c.carry_out-after.new.sink c.args.steps.now c.lines.steps c.carry_out-after.new.steps i.told i.led line c.carry_out-after.result.1
          c.carry_out-after.ensures.line c.in_default-written.field-0 c.in_default-written.is;
    }
