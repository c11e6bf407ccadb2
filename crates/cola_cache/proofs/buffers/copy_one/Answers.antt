use Rattle.std.proofs.Common.{◌≡◌, ◌*◌, eqb, true, Option, ℕ, Some, None, ap, sym, ◌∙◌}
use Rattle.std.specs.Option.{option_eq}
use Rattle.std.proofs.lemmas.Bool.{eqb-true}
use Rattle.cola_device.specs.Bytes.{Gives}
use Rattle.cola_cache.specs.Blocks.{last_in, to_copy}
use Rattle.cola_cache.proofs.BlocksLemmas.{copies-late, copied}
use Rattle.cola_cache.proofs.buffers.copy_one.Goals as goal

same : (found : Option ℕ) (block : ℕ) → option_eq eqb found (Some block) ≡ true → found ≡ Some block
same None block is = absurd (cc)
same (Some held) block is = ap (λ (b : ℕ). Some b) (eqb-true held block is)

pub returns-in-Some-clause-copies : goal.returns-in-Some-clause-copies
returns-in-Some-clause-copies g c =
    let is : last_in c.args.lasts.now c.args.buffer ≡ Some c.args.block = same (last_in c.args.lasts.now c.args.buffer) c.args.block (sym c.eq.ensures ∙ c.if-eq.true) in
    let given : Gives (g.D.Device.bytes c.args.device.now.device) (c.args.block * c.args.size) c.copy_from_slice.new.self = rw (c.copy_from_slice.ensures.after, c.requires.size) c.bytes_of.ensures.given in
    copies-late (to_copy g.D.Device.lends (g.D.Device.bytes c.args.device.now.device)) c.args.copies.now c.copy_from_slice.new.self c.args.lasts.now c.args.shares.now c.args.buffer c.args.block c.args.size
    c.requires.buffer c.copy_from_slice.auto.self is (copied g.D.Device.lends (g.D.Device.bytes c.args.device.now.device) (c.args.block * c.args.size) c.copy_from_slice.new.self given) c.requires.copies
