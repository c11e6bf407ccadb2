use Rattle.cola_io.proofs.BufferLemmas.{gathered}
use Rattle.cola_io.proofs.buffer.Buffer.gather.Goals as goal

pub returns : goal.returns
returns c =
    gathered c.self.inside.held c.hold-self-inside.result c.self.inside.bytes.items c.hold-self-inside.new.bytes.items c.self.inside.chunk c.self.inside.from c.self.inside.to c.args.count c.args.self.now
    c.self.view_is c.requires.line c.requires.there c.self.invariant.0 c.hold-self-inside.ensures.line c.hold-self-inside.ensures.part
