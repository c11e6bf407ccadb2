use Rattle.std.proofs.Common.{Err, subst}
use Rattle.cola_opening.specs.declared.fault.HeaderFault.{HeaderFault}
use Rattle.cola_opening.specs.declared.fault.HeaderFault.TheVariants.{Small}
use Rattle.cola_opening.specs.Judged.{FindsHeader}
use Rattle.cola_mirror.proofs.WholeLemmas.{found-long, found-range, not-small, not-in_use, begun-range, copying-failed, copied-so_far, room, copied-all, last-failed, all-done}
use Rattle.cola_mirror.proofs.rebuilding.rebuild.Goals as goal

pub returns-in-Err-Small-clause-complete : goal.returns-in-Err-Small-clause-complete
returns-in-Err-Small-clause-complete g c = λ can.
    let found : FindsHeader g.D.Device c.args.from.now c.read_header.new.head c.read_header.new.device (Err Small) =
    subst (λ (fault : HeaderFault). FindsHeader g.D.Device c.args.from.now c.read_header.new.head c.read_header.new.device (Err fault)) c.in-Err-Small.field-0-is c.in-Err-Small.ensures.found in
    absurd (not-small g.D.Device g.E.Device c.args.from.now c.read_header.new.device c.args.to.now c.args.to.now can found.why_is)

pub returns-then-not-found-clause-complete : goal.returns-then-not-found-clause-complete
returns-then-not-found-clause-complete g c = λ can.
    absurd (not-in_use g.D.Device g.E.Device c.args.from.now c.read_header.new.device c.args.to.now c.args.to.now c.in-Ok.found c.read_header.new.head can c.if-not-found.true c.in-Ok.ensures.found.0.why_is)

pub make_ready-requires : goal.make_ready-requires
make_ready-requires g c = found-long c.in-Ok.found c.read_header.new.head c.in-Ok.ensures.found.1

pub copy_behind-requires-clause-long : goal.copy_behind-requires-clause-long
copy_behind-requires-clause-long g c = found-long c.in-Ok.found c.read_header.new.head c.in-Ok.ensures.found.1

pub copy_behind-requires-clause-inside : goal.copy_behind-requires-clause-inside
copy_behind-requires-clause-inside g c = found-range c.in-Ok.found c.read_header.new.head (g.D.Device.bytes c.args.from.now) (g.D.Device.bytes c.read_header.new.device) c.read_header.ensures.bytes_stay c.in-Ok.ensures.found.0.why_is

pub copy_behind-requires-clause-room : goal.copy_behind-requires-clause-room
copy_behind-requires-clause-room g c = begun-range c.in-Ok.found.size (g.E.Device.bytes c.args.to.now) (g.E.Device.bytes c.make_ready.new.to) c.in-Ok-make_ready.ensures.begun

pub returns-in-Err-copy_behind-clause-rebuilds : goal.returns-in-Err-copy_behind-clause-rebuilds
returns-in-Err-copy_behind-clause-rebuilds g c =
    copying-failed g.D.Device g.E.Device c.args.from.now c.read_header.new.device c.copy_behind.new.from c.args.to.now c.make_ready.new.to c.copy_behind.new.to c.in-Ok.found c.read_header.new.head c.read_header.array_long c.if-not-found.false
    c.in-Ok.ensures.found.0 c.in-Ok.ensures.found.1 c.read_header.ensures.kept c.in-Ok-make_ready.ensures c.copy_behind.ensures.below c.copy_behind.ensures.only c.in-Err-copy_behind.field-0 c.in-Err-copy_behind.ensures.moves

pub returns-in-Err-copy_behind-clause-only_copied : goal.returns-in-Err-copy_behind-clause-only_copied
returns-in-Err-copy_behind-clause-only_copied g c =
    copied-so_far g.D.Device g.E.Device c.args.from.now c.read_header.new.device c.copy_behind.new.from c.args.to.now c.make_ready.new.to c.copy_behind.new.to c.in-Ok.found c.read_header.new.head c.read_header.array_long c.if-not-found.false
    c.in-Ok.ensures.found.0 c.in-Ok.ensures.found.1 c.read_header.ensures.kept c.in-Ok-make_ready.ensures c.copy_behind.ensures.below c.copy_behind.ensures.only

pub write_first-requires : goal.write_first-requires
write_first-requires g c =
    room g.D.Device g.E.Device c.args.from.now c.read_header.new.device c.copy_behind.new.from c.args.to.now c.make_ready.new.to c.copy_behind.new.to c.in-Ok.found c.read_header.new.head c.read_header.array_long c.if-not-found.false
    c.in-Ok.ensures.found.0 c.in-Ok.ensures.found.1 c.read_header.ensures.kept c.in-Ok-make_ready.ensures c.copy_behind.ensures.below c.copy_behind.ensures.only

pub returns-in-Ok-write_first-clause-rebuilds : goal.returns-in-Ok-write_first-clause-rebuilds
returns-in-Ok-write_first-clause-rebuilds g c =
    all-done g.D.Device g.E.Device c.args.from.now c.read_header.new.device c.copy_behind.new.from c.args.to.now c.make_ready.new.to c.copy_behind.new.to c.in-Ok.found c.read_header.new.head c.read_header.array_long c.if-not-found.false
    c.in-Ok.ensures.found.0 c.in-Ok.ensures.found.1 c.read_header.ensures.kept c.in-Ok-make_ready.ensures c.copy_behind.ensures.below c.copy_behind.ensures.only
    c.write_first.new.to c.in-Ok-write_first.field-0 c.in-Ok-copy_behind.ensures.moves c.in-Ok-write_first.ensures.wrote c.in-Ok-write_first.ensures.settled c.in-Ok-write_first.ensures.counts

pub returns-in-Ok-write_first-clause-only_copied : goal.returns-in-Ok-write_first-clause-only_copied
returns-in-Ok-write_first-clause-only_copied g c =
    copied-all g.D.Device g.E.Device c.args.from.now c.read_header.new.device c.copy_behind.new.from c.args.to.now c.make_ready.new.to c.copy_behind.new.to c.in-Ok.found c.read_header.new.head c.read_header.array_long c.if-not-found.false
    c.in-Ok.ensures.found.0 c.in-Ok.ensures.found.1 c.read_header.ensures.kept c.in-Ok-make_ready.ensures c.copy_behind.ensures.below c.copy_behind.ensures.only
    c.write_first.new.to c.in-Ok-copy_behind.ensures.moves c.write_first.result c.write_first.ensures.wrote c.write_first.ensures.counts c.write_first.ensures.kept

pub returns-in-Err-write_first-clause-rebuilds : goal.returns-in-Err-write_first-clause-rebuilds
returns-in-Err-write_first-clause-rebuilds g c =
    last-failed g.D.Device g.E.Device c.args.from.now c.read_header.new.device c.copy_behind.new.from c.args.to.now c.make_ready.new.to c.copy_behind.new.to c.in-Ok.found c.read_header.new.head c.read_header.array_long c.if-not-found.false
    c.in-Ok.ensures.found.0 c.in-Ok.ensures.found.1 c.read_header.ensures.kept c.in-Ok-make_ready.ensures c.copy_behind.ensures.below c.copy_behind.ensures.only
    c.write_first.new.to c.in-Err-write_first.field-0 c.in-Ok-copy_behind.ensures.moves c.in-Err-write_first.ensures.wrote c.in-Err-write_first.ensures.counts

pub returns-in-Err-write_first-clause-only_copied : goal.returns-in-Err-write_first-clause-only_copied
returns-in-Err-write_first-clause-only_copied g c =
    copied-all g.D.Device g.E.Device c.args.from.now c.read_header.new.device c.copy_behind.new.from c.args.to.now c.make_ready.new.to c.copy_behind.new.to c.in-Ok.found c.read_header.new.head c.read_header.array_long c.if-not-found.false
    c.in-Ok.ensures.found.0 c.in-Ok.ensures.found.1 c.read_header.ensures.kept c.in-Ok-make_ready.ensures c.copy_behind.ensures.below c.copy_behind.ensures.only
    c.write_first.new.to c.in-Ok-copy_behind.ensures.moves c.write_first.result c.write_first.ensures.wrote c.write_first.ensures.counts c.write_first.ensures.kept
