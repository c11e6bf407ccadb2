use Rattle.std.proofs.lemmas.Bool.{ne_eqb, eq-eqb}
use Rattle.cola_io.proofs.BufferLemmas.{return_kept, return_dropped}
use Rattle.cola_io.proofs.buffer.drop_return.Goals as goal

pub returns-then-byte-ne13-clause-text : goal.returns-then-byte-ne13-clause-text
returns-then-byte-ne13-clause-text c =
    return_kept c.args.bytes.now.items c.pop.new.self.items _ c.in-Some.byte c.in-Some.ensures.items c.push.ensures.items (ne_eqb c.in-Some.byte 13 c.if-byte-ne13.true)

pub returns-else-byte-ne13-clause-text : goal.returns-else-byte-ne13-clause-text
returns-else-byte-ne13-clause-text c =
    return_dropped c.args.bytes.now.items c.pop.new.self.items c.in-Some.byte c.in-Some.ensures.items (eq-eqb c.in-Some.byte 13 c.if-byte-ne13.false)
