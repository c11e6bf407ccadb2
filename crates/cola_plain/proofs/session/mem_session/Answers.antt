use Rattle.std.proofs.Common.{◌≡◌, false}
use Rattle.cola_spec.specs.Map.{empty_map}
use Rattle.cola_spec.specs.Lines.{raw_lines}
use Rattle.cola_spec.specs.Command.{requests}
use Rattle.cola_spec.specs.Machine.{Open, plain_turns, turns_text}
use Rattle.cola_plain.specs.Session.{small_shape}
use Rattle.cola_plain.proofs.SessionLemmas.{ok_first}
use Rattle.cola_plain.proofs.session.mem_session.Goals as goal

pub returns : goal.returns
returns c = ok_first (λ text. text.items ≡ turns_text false (plain_turns (small_shape c.args.limit) (Open empty_map) (requests (small_shape c.args.limit) (raw_lines c.args.bytes.now)))) _ c.run.result (c.run.ensures.text (Open empty_map) c.new.ensures)
