use Rattle.std.specs.Prelude.{nat_eq}
use Rattle.std.proofs.Common.{◌≡◌, ◌∙◌, ℕ, List, ◌∷◌, [], length, Bool, false, Option, Some, None, sym, ap, subst, option_copied}
use Rattle.cola_cell.specs.declared.format.Format.{Format}
use Rattle.cola_io.proofs.StreamLemmas.{Appended-none}
use Rattle.cola_line.specs.Replied.{Wrote}
use Rattle.cola_line.specs.Spoken.{spoken}
use Rattle.cola_line.specs.declared.command.Command.{Command}
use Rattle.cola_spec.specs.Command.{line_requests, command_of, Close, Reopen}
use Rattle.cola_spec.specs.Command as spec
use Rattle.cola_spec.specs.Reply as reply
use Rattle.cola_spec.specs.Reply.{reply_text}
use Rattle.cola_spec.specs.Machine.{Turn}
use Rattle.cola_shapes.specs.Shapes.{shape_of}
use Rattle.cola_session.specs.Reading.{line_read}
use Rattle.cola_session.proofs.Leading.{leads-turn, leads-none, bad-turned, asks-text, empty-text}
use Rattle.cola_session.proofs.session.carry_out.Goals as goal

-- a turn that is no command
abbrev bad : Turn
bad = record { request = None; answer = reply.Bad; ticks = 0 }

-- what a line with this text asks, by the format that the home gives
asks : (text : Option (List ℕ)) (bytes : List ℕ) (format is : Format) (request : Option spec.Command) → text ≡ Some bytes → format ≡ is → nat_eq (length bytes) 0 ≡ false → ((keys : ℕ) → request ≡ command_of (shape_of format keys) bytes)
    → (keys : ℕ) → request ∷ [] ≡ line_requests (shape_of is keys) (line_read text)
asks text bytes format is request text_is format_is some means keys =
    subst (λ (f : Format). request ∷ [] ≡ line_requests (shape_of f keys) (line_read text)) format_is
    (subst (λ (x : Option (List ℕ)). request ∷ [] ≡ line_requests (shape_of format keys) (line_read x)) (sym text_is) (asks-text (shape_of format keys) bytes request some (means keys)))

pub returns-in_default-clause-line : goal.returns-in_default-clause-line
returns-in_default-clause-line g c = λ known state.
    leads-turn g.H.Table.Table g.H.Home.home g.K.Sink (line_read (option_copied c.args.text)) c.write_reply-written.result c.args.home c.args.home c.args.sink.now c.write_reply-written.new.sink c.args.steps.now c.args.steps.now state c.know.ensures.few
    None (λ keys. sym (ap (λ x. line_requests (shape_of (g.H.Home.home.format c.args.home) keys) (line_read (option_copied x))) c.in_default.is)) bad
    (bad-turned g.H.Table.Table g.H.Home.home g.K.Sink state c.write_reply-written.result c.args.home c.args.sink.now c.write_reply-written.new.sink c.args.steps.now c.know.ensures.stays
    (subst (λ (b : Bool). Wrote (reply_text b 0 reply.Bad) c.write_reply-written.result (g.K.Sink.written c.args.sink.now) (g.K.Sink.written c.write_reply-written.new.sink)) c.cost.ensures c.write_reply-written.ensures.wrote)) known

pub returns-then-is_empty-clause-line : goal.returns-then-is_empty-clause-line
returns-then-is_empty-clause-line g c =
    leads-none g.H.Table.Table g.H.Home.home g.K.Sink (line_read (option_copied c.args.text)) _ c.args.home c.args.sink.now c.args.steps.now c.know.ensures.few c.know.ensures.stays
    (ap (λ x. line_read (option_copied x)) c.in-Some.is ∙ empty-text c.in-Some.text.now (sym c.if-is_empty.ensures)) (Appended-none (g.K.Sink.written c.args.sink.now))

pub returns-in-None-clause-line : goal.returns-in-None-clause-line
returns-in-None-clause-line g c = λ known state.
    leads-turn g.H.Table.Table g.H.Home.home g.K.Sink (line_read (option_copied c.args.text)) c.write_reply-written-in-None.result c.args.home c.args.home c.args.sink.now c.write_reply-written-in-None.new.sink c.args.steps.now c.args.steps.now state c.know.ensures.few
    None (asks (option_copied c.args.text) c.in-Some.text.now c.format.result (g.H.Home.home.format c.args.home) None (ap option_copied c.in-Some.is) c.format.ensures (sym c.if-is_empty.ensures) c.in-None.ensures.means) bad
    (bad-turned g.H.Table.Table g.H.Home.home g.K.Sink state c.write_reply-written-in-None.result c.args.home c.args.sink.now c.write_reply-written-in-None.new.sink c.args.steps.now c.know.ensures.stays
    (subst (λ (b : Bool). Wrote (reply_text b 0 reply.Bad) c.write_reply-written-in-None.result (g.K.Sink.written c.args.sink.now) (g.K.Sink.written c.write_reply-written-in-None.new.sink)) c.cost-in-None.ensures c.write_reply-written-in-None.ensures.wrote)) known

pub returns-in-Some-Close-clause-line : goal.returns-in-Some-Close-clause-line
returns-in-Some-Close-clause-line g c = λ known state.
    let made = c.close.ensures.turn state c.args.steps.now in
    leads-turn g.H.Table.Table g.H.Home.home g.K.Sink (line_read (option_copied c.args.text)) c.close.result.1 c.args.home c.close.result.0 c.args.sink.now c.close.new.sink c.args.steps.now c.args.steps.now state c.know.ensures.few
    (Some Close)
    (asks (option_copied c.args.text) c.in-Some.text.now c.format.result (g.H.Home.home.format c.args.home) (Some Close) (ap option_copied c.in-Some.is) c.format.ensures (sym c.if-is_empty.ensures)
    (λ keys. ap (λ (x : Command). Some (spoken x)) (sym c.in-Some-Close.field-0-is) ∙ c.in-Some-Close.ensures.means keys))
    made.0 made.1 known

pub returns-in-Some-Reopen-clause-line : goal.returns-in-Some-Reopen-clause-line
returns-in-Some-Reopen-clause-line g c = λ known state.
    let made = c.reopen.ensures.turn state in
    leads-turn g.H.Table.Table g.H.Home.home g.K.Sink (line_read (option_copied c.args.text)) c.reopen.result.1 c.args.home c.reopen.result.0 c.args.sink.now c.reopen.new.sink c.args.steps.now c.reopen.new.steps state c.know.ensures.few
    (Some Reopen)
    (asks (option_copied c.args.text) c.in-Some.text.now c.format.result (g.H.Home.home.format c.args.home) (Some Reopen) (ap option_copied c.in-Some.is) c.format.ensures (sym c.if-is_empty.ensures)
    (λ keys. ap (λ (x : Command). Some (spoken x)) (sym c.in-Some-Reopen.field-0-is) ∙ c.in-Some-Reopen.ensures.means keys))
    made.0 made.1 known

pub returns-in-Some-parse_line : goal.returns-in-Some-parse_line
returns-in-Some-parse_line g c = record {
  line = λ known state.
      let made = c.ask-written.ensures.turn state in
      leads-turn g.H.Table.Table g.H.Home.home g.K.Sink (line_read (option_copied c.args.text)) c.ask-written.result c.args.home c.ask-written.new.self c.args.sink.now c.ask-written.new.sink c.args.steps.now c.ask-written.new.steps state c.know.ensures.few
      (Some (spoken c.in-Some-parse_line.command))
      (asks (option_copied c.args.text) c.in-Some.text.now c.format.result (g.H.Home.home.format c.args.home) (Some (spoken c.in-Some-parse_line.command)) (ap option_copied c.in-Some.is) c.format.ensures (sym c.if-is_empty.ensures)
      c.in-Some-parse_line.ensures.means)
      made.0 made.1 known;
  faults_counted = c.ask-written.ensures.faults_counted;
  faults_kept = c.ask-written.ensures.faults_kept;
}
