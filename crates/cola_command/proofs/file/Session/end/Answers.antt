use Rattle.std.proofs.Common.{subst, sym, ap, ◌∙◌}
use Rattle.cola_command.specs.declared.place.Place.{Place}
use Rattle.cola_line.specs.Replied.{reply_of}
use Rattle.cola_command.specs.File.{device_of}
use Rattle.cola_command.specs.Turns.{CloseCause, is_closed}
use Rattle.cola_command.proofs.PlaceTurns.{never-open}
use Rattle.cola_command.proofs.file.Session.end.Goals as goal

pub unreachable-requires : goal.unreachable-requires
unreachable-requires g c =
    never-open g.D.Device c.args.self.place (reply_of c.close-place.result.1) c.in-Open.field-0
    (subst (λ (p : Place g.row.D.Denot g.D.Device). CloseCause g.D.Device c.args.self.place (reply_of c.close-place.result.1) p) c.in-Open.is c.close-place.ensures.cause)

pub returns-in-Closing-clause-ended : goal.returns-in-Closing-clause-ended
returns-in-Closing-clause-ended g c = record {
  place = c.close-place.result.0;
  answer = reply_of c.close-place.result.1;
  cause = c.close-place.ensures.cause;
  device_is = c.into_device.ensures ∙ sym (ap (λ (p : Place g.row.D.Denot g.D.Device). device_of p) c.in-Closing.is);
  closed_is = sym (ap (λ (p : Place g.row.D.Denot g.D.Device). is_closed p) c.in-Closing.is);
}

pub returns-in-Closed-clause-ended : goal.returns-in-Closed-clause-ended
returns-in-Closed-clause-ended g c = record {
  place = c.close-place.result.0;
  answer = reply_of c.close-place.result.1;
  cause = c.close-place.ensures.cause;
  device_is = sym (ap (λ (p : Place g.row.D.Denot g.D.Device). device_of p) c.in-Closed.is);
  closed_is = sym (ap (λ (p : Place g.row.D.Denot g.D.Device). is_closed p) c.in-Closed.is);
}
