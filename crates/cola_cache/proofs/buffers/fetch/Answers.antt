use Rattle.std.proofs.Common.{◌≡◌, ◌*◌, Bool, Some, None, refl, ap}
use Rattle.std.proofs.lemmas.List.{set-set}
use Rattle.cola_device.specs.Bytes.{Gives}
use Rattle.cola_cache.specs.Blocks.{to_copy}
use Rattle.cola_cache.specs.Cache.{used}
use Rattle.cola_cache.proofs.BlocksLemmas.{copies-turned, shared-turned, copied}
use Rattle.cola_cache.proofs.buffers.fetch.Goals as goal

pub returns-in-Ok : goal.returns-in-Ok
returns-in-Ok g c =
    let lends : Bool = g.D.Device.lends in
    let given : Gives (g.D.Device.bytes c.args.device.now.device) (c.args.block * c.args.size) c.read_whole.new.into = rw c.requires.can.size_is c.in-Ok.ensures.given in
    let held : c.read_whole.new.device.held ≡ used c.args.device.now.blocks c.args.block c.args.device.now.held = c.in-Ok.ensures.read.held in
    rw (set-set c.args.lasts.now c.args.buffer None (Some c.args.block)) record {
      ok = refl;
      err = tt;
      copies = copies-turned (to_copy lends (g.D.Device.bytes c.args.device.now.device)) (to_copy lends (g.D.Device.bytes c.read_whole.new.device.device)) c.args.copies.now c.read_whole.new.into c.args.lasts.now c.args.shares.now c.args.buffer c.args.size (Some c.args.block)
          (ap (to_copy lends) c.read_whole.ensures.read.bytes_stay) c.requires.can.there c.read_whole.auto.into (λ block is. let same : block ≡ c.args.block = cc in rw same (copied lends (g.D.Device.bytes c.args.device.now.device) (c.args.block * c.args.size) c.read_whole.new.into given)) c.requires.can.copies_are;
      shared = rw held (shared-turned (used c.args.device.now.blocks c.args.block c.args.device.now.held) c.args.lasts.now c.args.shares.now c.args.buffer (Some c.args.block) None c.requires.can.there c.requires.can.copies_are.shares_too (λ block is some absent. some refl) c.requires.after);
      read = c.in-Ok.ensures.read;
      since = c.in-Ok.ensures.since;
    }

pub returns-in-Err : goal.returns-in-Err
returns-in-Err g c =
    let lends : Bool = g.D.Device.lends in
    let held : c.read_whole.new.device.held ≡ c.args.device.now.held = c.in-Err.ensures.read.held in record {
      ok = tt;
      err = refl;
      copies = copies-turned (to_copy lends (g.D.Device.bytes c.args.device.now.device)) (to_copy lends (g.D.Device.bytes c.read_whole.new.device.device)) c.args.copies.now c.read_whole.new.into c.args.lasts.now c.args.shares.now c.args.buffer c.args.size None
          (ap (to_copy lends) c.read_whole.ensures.read.bytes_stay) c.requires.can.there c.read_whole.auto.into (λ block is. absurd (cc)) c.requires.can.copies_are;
      shared = rw held (shared-turned c.args.device.now.held c.args.lasts.now c.args.shares.now c.args.buffer None None c.requires.can.there c.requires.can.copies_are.shares_too (λ block is some absent. some refl) c.requires.can.shared);
      read = c.in-Err.ensures.read;
      since = c.in-Err.ensures.since;
    }
