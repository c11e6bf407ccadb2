-- Lines are loaded until the source ends or fails, a line has a word, or the device refuses a block.
use Rattle.std.proofs.Common.{◌≡◌, ◌∙◌, ◌+◌, ◌≤◌, ◌^◌, ◌++◌, ◌∷◌, [], ℕ, Some, length, length-append, refl, sym, ap, subst, arith, option_copied}
use Rattle.cola_outside.specs.Faults.{Rose}
use Rattle.cola_io.specs.Reads.{bytes_read}
use Rattle.cola_layout.specs.declared.geometry.Geometry.{Geometry}
use Rattle.cola_report.specs.Line.{LineEnds}
use Rattle.cola_session.specs.Reading.{line_read}
use Rattle.cola_session.proofs.ReadingOn.{ReadSoFar, read_none, read_line, ends_whole, ends_by_source, ends_spent, holds_line, line_no_fault, line_faults, fewer_left}
use Rattle.cola_shapes.specs.Shapes.{shape_of}
use Rattle.cola_load.proofs.Blocks.{blocks-rise}
use Rattle.cola_opening.proofs.Spending.{spends-more}
use Rattle.cola_load.specs.Rows.{word_of}
use Rattle.cola_filling.specs.Loads as ends
use Rattle.cola_filling.specs.Loads.{HaveNoWord, word_line}
use Rattle.cola_filling.proofs.LoadedSoFar.{LoadedSoFar, none-loaded, line-loaded, row-loaded, row-spends, one-more, is-higher, first-told, found-word, none-now, no-header, no-header-then, all-are-loaded}
use Rattle.cola_filling.proofs.loading.load_lines.Goals as goal

pub lines-init : goal.lines-init
lines-init g c = record {
  reads = [];
  told = [];
  read = subst (λ r. ReadSoFar g.S.Source c.args.source.now c.args.source.now r [] []) (sym c.new-reader.ensures) (read_none g.S.Source c.args.source.now);
  loaded =
      subst (λ s. LoadedSoFar g.D.Device c.args.geometry.now [] s c.args.loader.now c.args.device.now c.args.device.now) (sym c.begin-rows.ensures)
      (none-loaded g.D.Device c.args.geometry.now c.args.loader.now c.args.device.now c.requires.fresh c.requires.same);
  few = subst (λ r. 0 + (r.allowed + length r.pending) ≤ 2 ^ 40) (sym c.new-reader.ensures) (omega arith);
  sink_stays = refl;
  kept = refl;
}

pub returns-in-End-clause-ends : goal.returns-in-End-clause-ends
returns-in-End-clause-ends g c =
    let i = c.lines.invariant in
    all-are-loaded g.D.Device c.args.geometry.now i.told c.lines.rows c.lines.loader c.args.device.now c.lines.device i.loaded g.S.Source g.K.Sink c.args.loader.now c.requires.same c.requires.fresh.no_last
    c.args.source.now c.next_line-next.new.source c.args.sink.now c.lines.sink i.sink_stays
    (λ C carried. ends_whole g.S.Source g.K.Sink c.args.source.now c.lines.source c.next_line-next.new.source c.args.sink.now c.args.sink.now c.lines.reader c.next_line-next.new.self i.reads i.told C i.read carried refl c.in-End.ensures.lines c.in-End.ensures.faults)

pub returns-in-Fault-clause-ends : goal.returns-in-Fault-clause-ends
returns-in-Fault-clause-ends g c =
    let i = c.lines.invariant in
    ends.Status3 refl
    (ends_by_source g.S.Source g.K.Sink c.args.source.now c.lines.source c.next_line-next.new.source c.args.sink.now c.lines.sink c.lines.reader c.next_line-next.new.self i.reads i.told _ i.read
    (subst (λ (G : Geometry). HaveNoWord (shape_of G.format G.keys) i.told) c.requires.same i.loaded.no_word) (ap g.K.Sink.faults i.sink_stays) c.in-Fault.ensures.lines c.in-Fault.ensures.faults)
    (record {
      sink_stays = i.sink_stays;
      no_fault = i.loaded.no_fault;
      no_header = no-header g.D.Device c.args.geometry.now i.told c.lines.rows c.lines.loader c.args.device.now c.lines.device i.loaded;
    })

pub returns-in-Budget-clause-ends : goal.returns-in-Budget-clause-ends
returns-in-Budget-clause-ends g c =
    let i = c.lines.invariant in
    ends.Status9 refl
    (ends_spent g.S.Source g.K.Sink c.args.source.now c.lines.source c.next_line-next.new.source c.args.sink.now c.lines.sink c.lines.reader c.next_line-next.new.self i.reads i.told _ i.read
    (subst (λ (G : Geometry). HaveNoWord (shape_of G.format G.keys) i.told) c.requires.same i.loaded.no_word) (ap g.K.Sink.faults i.sink_stays) c.in-Budget.ensures.lines c.in-Budget.ensures.faults)
    (record {
      sink_stays = i.sink_stays;
      no_fault = i.loaded.no_fault;
      no_header = no-header g.D.Device c.args.geometry.now i.told c.lines.rows c.lines.loader c.args.device.now c.lines.device i.loaded;
    })

pub returns-in-Some-clause-ends : goal.returns-in-Some-clause-ends
returns-in-Some-clause-ends g c =
    let i = c.lines.invariant in
    let call = c.next_line-next.ensures.lines in
    let next = c.next_line-next.result in
    let reader = c.next_line-next.new.self in
    let line = line_read (option_copied c.text_of-text.result) in
    let holds = holds_line c.lines.reader reader (bytes_read call.reads) next call.line c.in_default.not-End c.in_default.not-Fault c.in_default.not-Budget in
    let now = read_line g.S.Source c.args.source.now c.lines.source c.next_line-next.new.source c.lines.reader reader i.reads i.told next i.read call line
    c.text_of-text.ensures (line_no_fault next reader.line holds) (line_faults next reader.line _ _ holds c.next_line-next.ensures.faults) in
    ends.AtWord (record {
      reads = call.reads ++ i.reads;
      before = i.told;
      last = line;
      first = first-told g.S.Source c.args.source.now c.next_line-next.new.source reader (call.reads ++ i.reads) (i.told ++ line ∷ []) now;
      read = now.read_for;
      unrefused = now.unrefused;
      no_word = subst (λ (G : Geometry). HaveNoWord (shape_of G.format G.keys) i.told) c.requires.same i.loaded.no_word;
      word = c.in-Some.word;
      word_is =
          subst (λ (G : Geometry). word_of (shape_of G.format G.keys) (i.told ++ line ∷ []) ≡ Some c.in-Some.word) c.requires.same
          (found-word c.args.geometry.now.keys c.args.geometry.now.format i.told line c.lines.rows c.line-answer.new.self c.line-answer.result i.loaded.state_is i.loaded.no_word c.line-answer.ensures.judged c.in-Some.word
          (sym c.word.ensures ∙ c.in-Some.is));
      wrote = subst (λ (k : g.row.K.Denot). LineEnds g.K.Sink (word_line c.in-Some.word) 14 k c.write_word.new.sink c.write_word.result) i.sink_stays c.write_word.ensures;
      source_faults = now.source_faults;
      no_fault = i.loaded.no_fault;
      no_header = no-header g.D.Device c.args.geometry.now i.told c.lines.rows c.lines.loader c.args.device.now c.lines.device i.loaded;
    })

pub push-requires-clause-above : goal.push-requires-clause-above
push-requires-clause-above g c =
    let i = c.lines.invariant in
    let line = line_read (option_copied c.text_of-text.result) in
    is-higher g.D.Device c.args.geometry.now i.told line c.lines.rows c.line-answer.new.self c.lines.loader c.args.device.now c.lines.device c.line-answer.result i.loaded c.line-answer.ensures.judged
    (sym c.word.ensures ∙ c.in_default-word.is) c.in-Row.key c.in-Row.value c.in-Row.is

pub returns-in-Err-clause-ends : goal.returns-in-Err-clause-ends
returns-in-Err-clause-ends g c =
    let i = c.lines.invariant in
    let call = c.next_line-next.ensures.lines in
    let next = c.next_line-next.result in
    let reader = c.next_line-next.new.self in
    let line = line_read (option_copied c.text_of-text.result) in
    let holds = holds_line c.lines.reader reader (bytes_read call.reads) next call.line c.in_default.not-End c.in_default.not-Fault c.in_default.not-Budget in
    let now = read_line g.S.Source c.args.source.now c.lines.source c.next_line-next.new.source c.lines.reader reader i.reads i.told next i.read call line
    c.text_of-text.ensures (line_no_fault next reader.line holds) (line_faults next reader.line _ _ holds c.next_line-next.ensures.faults) in
    ends.Status5 refl (record {
      reads = call.reads ++ i.reads;
      lines = i.told ++ line ∷ [];
      first = first-told g.S.Source c.args.source.now c.next_line-next.new.source reader (call.reads ++ i.reads) (i.told ++ line ∷ []) now;
      read = now.read_for;
      unrefused = now.unrefused;
      no_word =
          subst (λ (G : Geometry). HaveNoWord (shape_of G.format G.keys) (i.told ++ line ∷ [])) c.requires.same
          (none-now c.args.geometry.now.keys c.args.geometry.now.format i.told line c.lines.rows c.line-answer.new.self c.line-answer.result i.loaded.state_is i.loaded.no_word c.line-answer.ensures.judged (sym c.word.ensures ∙ c.in_default-word.is));
      source_faults = now.source_faults;
      sink_stays = i.sink_stays;
      cause = subst (λ (n : ℕ). Rose n (g.D.Device.counts c.push.new.device).faults) i.loaded.no_fault c.in-Err.ensures.counts.cause;
      no_header = no-header-then g.D.Device c.args.geometry.now i.told c.lines.rows c.lines.loader c.args.device.now c.lines.device i.loaded c.push.new.device c.push.ensures.front_stays;
    })

pub lines-smaller-in_default-push : goal.lines-smaller-in_default-push
lines-smaller-in_default-push g c =
    let call = c.next_line-next.ensures.lines in
    fewer_left c.lines.reader c.next_line-next.new.self (bytes_read call.reads) c.next_line-next.result call.line (holds_line c.lines.reader c.next_line-next.new.self (bytes_read call.reads) c.next_line-next.result call.line c.in_default.not-End c.in_default.not-Fault c.in_default.not-Budget)

pub lines-preserved-in_default-push : goal.lines-preserved-in_default-push
lines-preserved-in_default-push g c =
    let i = c.lines.invariant in
    let call = c.next_line-next.ensures.lines in
    let next = c.next_line-next.result in
    let reader = c.next_line-next.new.self in
    let line = line_read (option_copied c.text_of-text.result) in
    let holds = holds_line c.lines.reader reader (bytes_read call.reads) next call.line c.in_default.not-End c.in_default.not-Fault c.in_default.not-Budget in
    let fewer = fewer_left c.lines.reader reader (bytes_read call.reads) next call.line holds in
    record {
      reads = call.reads ++ i.reads;
      told = i.told ++ line ∷ [];
      read = read_line g.S.Source c.args.source.now c.lines.source c.next_line-next.new.source c.lines.reader reader i.reads i.told next i.read call line
          c.text_of-text.ensures (line_no_fault next reader.line holds) (line_faults next reader.line _ _ holds c.next_line-next.ensures.faults);
      loaded = row-loaded g.D.Device c.args.geometry.now i.told line c.lines.rows c.line-answer.new.self c.lines.loader c.args.device.now c.lines.device c.line-answer.result i.loaded c.line-answer.ensures.judged
          (sym c.word.ensures ∙ c.in_default-word.is) c.in-Row.key c.in-Row.value c.in-Row.is c.push.new.self c.push.new.device c.in_default-push.ensures.pushes c.push.ensures.geometry c.push.ensures.last c.in_default-push.ensures.rows c.in_default-push.ensures.key
          (row-spends g.D.Device c.args.geometry.now i.told line c.lines.rows c.line-answer.new.self c.lines.loader c.args.device.now c.lines.device c.line-answer.result i.loaded c.line-answer.ensures.judged
          (sym c.word.ensures ∙ c.in_default-word.is) c.in-Row.key c.in-Row.value c.in-Row.is c.push.new.device c.push.ensures.counts) c.in_default-push.ensures.counts.none_hidden;
      few = omega (arith, i.few, fewer, length-append i.told (line ∷ []));
      sink_stays = i.sink_stays;
      kept = c.push.ensures.kept ∙ i.kept;
    }

pub lines-smaller : goal.lines-smaller
lines-smaller g c =
    let call = c.next_line-next.ensures.lines in
    fewer_left c.lines.reader c.next_line-next.new.self (bytes_read call.reads) c.next_line-next.result call.line (holds_line c.lines.reader c.next_line-next.new.self (bytes_read call.reads) c.next_line-next.result call.line c.in_default.not-End c.in_default.not-Fault c.in_default.not-Budget)

pub lines-preserved : goal.lines-preserved
lines-preserved g c =
    let i = c.lines.invariant in
    let call = c.next_line-next.ensures.lines in
    let next = c.next_line-next.result in
    let reader = c.next_line-next.new.self in
    let line = line_read (option_copied c.text_of-text.result) in
    let holds = holds_line c.lines.reader reader (bytes_read call.reads) next call.line c.in_default.not-End c.in_default.not-Fault c.in_default.not-Budget in
    let fewer = fewer_left c.lines.reader reader (bytes_read call.reads) next call.line holds in
    record {
      reads = call.reads ++ i.reads;
      told = i.told ++ line ∷ [];
      read = read_line g.S.Source c.args.source.now c.lines.source c.next_line-next.new.source c.lines.reader reader i.reads i.told next i.read call line
          c.text_of-text.ensures (line_no_fault next reader.line holds) (line_faults next reader.line _ _ holds c.next_line-next.ensures.faults);
      loaded = line-loaded g.D.Device c.args.geometry.now i.told line c.lines.rows c.line-answer.new.self c.lines.loader c.args.device.now c.lines.device c.line-answer.result i.loaded c.line-answer.ensures.judged
          (sym c.word.ensures ∙ c.in_default-word.is) c.in_default-answer.not-Row;
      few = omega (arith, i.few, fewer, length-append i.told (line ∷ []));
      sink_stays = i.sink_stays;
      kept = i.kept;
    }

pub returns-in-End-clause-spends : goal.returns-in-End-clause-spends
returns-in-End-clause-spends g c =
    let i = c.lines.invariant in
    spends-more i.loaded.spends (omega arith) (blocks-rise c.args.geometry.now c.lines.loader.rows c.args.geometry.now.keys i.loaded.few) (omega arith)

pub returns-in-Fault-clause-spends : goal.returns-in-Fault-clause-spends
returns-in-Fault-clause-spends g c =
    let i = c.lines.invariant in
    spends-more i.loaded.spends (omega arith) (blocks-rise c.args.geometry.now c.lines.loader.rows c.args.geometry.now.keys i.loaded.few) (omega arith)

pub returns-in-Budget-clause-spends : goal.returns-in-Budget-clause-spends
returns-in-Budget-clause-spends g c =
    let i = c.lines.invariant in
    spends-more i.loaded.spends (omega arith) (blocks-rise c.args.geometry.now c.lines.loader.rows c.args.geometry.now.keys i.loaded.few) (omega arith)

pub returns-in-Some-clause-spends : goal.returns-in-Some-clause-spends
returns-in-Some-clause-spends g c =
    let i = c.lines.invariant in
    spends-more i.loaded.spends (omega arith) (blocks-rise c.args.geometry.now c.lines.loader.rows c.args.geometry.now.keys i.loaded.few) (omega arith)

pub returns-in-Err-clause-spends : goal.returns-in-Err-clause-spends
returns-in-Err-clause-spends g c =
    let i = c.lines.invariant in
    let line = line_read (option_copied c.text_of-text.result) in
    let none = sym c.word.ensures ∙ c.in_default-word.is in
    spends-more
    (row-spends g.D.Device c.args.geometry.now i.told line c.lines.rows c.line-answer.new.self c.lines.loader c.args.device.now c.lines.device c.line-answer.result i.loaded c.line-answer.ensures.judged
    none c.in-Row.key c.in-Row.value c.in-Row.is c.push.new.device c.push.ensures.counts)
    (omega arith)
    (blocks-rise c.args.geometry.now (c.lines.loader.rows + 1) c.args.geometry.now.keys
    (one-more g.D.Device c.args.geometry.now i.told line c.lines.rows c.line-answer.new.self c.lines.loader c.args.device.now c.lines.device c.line-answer.result i.loaded c.line-answer.ensures.judged
    none c.in-Row.key c.in-Row.value c.in-Row.is))
    (omega arith)
