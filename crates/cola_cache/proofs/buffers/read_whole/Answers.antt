use Rattle.std.proofs.Common.{ℕ, ◌*◌, length, subst, sym, ap}
use Rattle.cola_cache.specs.Cache.{IsBlock}
use Rattle.cola_cache.specs.Blocks.{Since}
use Rattle.cola_cache.proofs.BlocksLemmas.{since-read}
use Rattle.cola_cache.proofs.buffers.read_whole.Goals as goal

pub returns-clause-since : goal.returns-clause-since
returns-clause-since g c = λ many made less since.
    let is : IsBlock c.args.device.now.size (c.args.block * length c.args.into.now) (length c.args.into.now) c.args.block = (ap (λ (n : ℕ). c.args.block * n) c.requires.size, c.requires.size) in
    let block = c.args.block in
    subst (λ (blocks : ℕ). Since many blocks c.read.new.self.held made (g.D.Device.counts c.read.new.self.device)) (sym c.read.ensures.settings.0)
    (since-read many c.args.device.now.blocks block c.args.device.now.held c.read.new.self.held made (g.D.Device.counts c.args.device.now.device) (g.D.Device.counts c.read.new.self.device) c.read.result
    less since c.read.ensures.counts (c.read.ensures.block block is) c.read.ensures.err (c.read.ensures.reads block is))
