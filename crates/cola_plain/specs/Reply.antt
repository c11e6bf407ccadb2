-- What the replies of this crate stand for.
use Rattle.std.specs.Prelude.{map, option_map}
use Rattle.cola_plain.specs.declared.reply.Failure.{Failure}
use Rattle.cola_plain.specs.declared.reply.Failure.TheVariants.{Fault, Damaged, Overfull}
use Rattle.cola_plain.specs.declared.reply.Refusal.{Refusal}
use Rattle.cola_plain.specs.declared.reply.Refusal.TheVariants.{NotStore, NotClosed, Small, Memory}
use Rattle.cola_plain.specs.declared.reply.Reply.{Reply}
use Rattle.cola_plain.specs.declared.reply.Reply.TheVariants.{Put, Deleted, Got, Stamped, Rows, Cut, Counted, Failed, Closed, Opened, Refused, Already, Shut, Bad}
use Rattle.cola_plain.specs.Map.{outcome_with, pair_with}
use Rattle.cola_spec.specs.Reply as spec

-- the failure of the same name, with the same number
abbrev pub failure_with : Failure → spec.Failure
failure_with Fault = spec.Fault
failure_with (Damaged cell) = spec.Damaged cell
failure_with (Overfull level) = spec.Overfull level

-- the refusal of the same name
abbrev pub refusal_with : Refusal → spec.Refusal
refusal_with NotStore = spec.NotStore
refusal_with NotClosed = spec.NotClosed
refusal_with Small = spec.Small
refusal_with Memory = spec.Memory

-- the reply by its bytes
abbrev pub reply_with : Reply → spec.Reply
reply_with (Put outcome) = spec.Put (outcome_with outcome)
reply_with (Deleted value) = spec.Deleted (option_map (λ v. v.items) value)
reply_with (Got value) = spec.Got (option_map (λ v. v.items) value)
reply_with (Stamped stamp) = spec.Stamped stamp
reply_with (Rows rows) = spec.Rows (map pair_with rows.items)
reply_with (Cut rows failure) = spec.Cut (map pair_with rows.items) (failure_with failure)
reply_with (Counted keys) = spec.Counted keys
reply_with (Failed failure) = spec.Failed (failure_with failure)
reply_with Closed = spec.Closed
reply_with (Opened keys) = spec.Opened keys
reply_with (Refused refusal) = spec.Refused (refusal_with refusal)
reply_with Already = spec.Already
reply_with Shut = spec.Shut
reply_with Bad = spec.Bad
