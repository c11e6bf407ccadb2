use Rattle.std.proofs.Common.{◌≡◌, ◌<◌, true, false, sym, subst, ◌∙◌, arith, Bool, Ok, Err, refl}
use Rattle.cola_cell.specs.declared.sink.Shadow.{Shadow}
use Rattle.cola_cell.specs.declared.fault.PushFault.{PushFault}
use Rattle.cola_cell.specs.Flat.{shadow_at}
use Rattle.cola_run.specs.Cells.{block_cells}
use Rattle.cola_run.specs.Parts.{OneShadow, fills, TailPushed}
use Rattle.cola_run.proofs.Calls.{slot-most, lengthened-by, refused-after}
use Rattle.cola_run.proofs.device_cells.lengthen_on_device.Goals as goal

pub fills_block-requires : goal.fills_block-requires
fills_block-requires g c =
    subst (λ (x : Shadow). x.len < 16777216) (sym c.shadow_of-shadow.ensures)
    (slot-most c.args.level (shadow_at c.args.shadows.now c.args.level).len (omega (arith, c.args.geometry.now.shallow, c.requires.level)) c.requires.place.index_in)

pub longer-requires : goal.longer-requires
longer-requires g c =
    subst (λ (x : Shadow). x.len < 16777216) (sym c.shadow_of-shadow.ensures)
    (slot-most c.args.level (shadow_at c.args.shadows.now c.args.level).len (omega (arith, c.args.geometry.now.shallow, c.requires.level)) c.requires.place.index_in)

pub longer-requires-in-Ok : goal.longer-requires-in-Ok
longer-requires-in-Ok g c =
    subst (λ (x : Shadow). x.len < 16777216) (sym c.shadow_of-shadow.ensures)
    (slot-most c.args.level (shadow_at c.args.shadows.now c.args.level).len (omega (arith, c.args.geometry.now.shallow, c.requires.level)) c.requires.place.index_in)

pub returns-then-not-fills_block-clause-lengthened : goal.returns-then-not-fills_block-clause-lengthened
returns-then-not-fills_block-clause-lengthened g c =
    let geometry = c.args.geometry.now in
    let tails = c.args.tails.now in
    let shadow = c.shadow_of-shadow.result in
    let told = g.D.Device.bytes c.args.buffers.now.cache.device in
    let fill : fills geometry shadow.len ≡ false = sym c.fills_block.ensures ∙ c.if-not-fills_block.true in
    lengthened-by geometry told told c.args.shadows.now c.set_shadow.new.shadows tails c.args.level shadow (Ok tt) c.shadow_of-shadow.ensures
    (subst (λ (x : Shadow). OneShadow c.args.shadows.now c.set_shadow.new.shadows c.args.level x) c.longer.ensures c.set_shadow.ensures)
    (subst (λ (t : Bool). TailPushed {T = Unit {0}} {E = PushFault} t (Ok tt) geometry tails c.args.level shadow.slot shadow.len told told) (sym fill) (refl, refl)) tt

pub returns-in-Ok-clause-lengthened : goal.returns-in-Ok-clause-lengthened
returns-in-Ok-clause-lengthened g c =
    let geometry = c.args.geometry.now in
    let tails = c.args.tails.now in
    let shadow = c.shadow_of-shadow.result in
    let told = g.D.Device.bytes c.args.buffers.now.cache.device in
    let now = g.D.Device.bytes c.write_tail.new.buffers.cache.device in
    let fill : fills geometry shadow.len ≡ true = sym c.fills_block.ensures ∙ c.if-not-fills_block.false in
    lengthened-by geometry told now c.args.shadows.now c.set_shadow-in-Ok.new.shadows tails c.args.level shadow (Ok tt) c.shadow_of-shadow.ensures
    (subst (λ (x : Shadow). OneShadow c.args.shadows.now c.set_shadow-in-Ok.new.shadows c.args.level x) c.longer-in-Ok.ensures c.set_shadow-in-Ok.ensures)
    (subst (λ (t : Bool). TailPushed {T = Unit {0}} {E = PushFault} t (Ok tt) geometry tails c.args.level shadow.slot shadow.len told now) (sym fill) c.in-Ok.ensures.wrote) tt

pub returns-in-Err-clause-lengthened : goal.returns-in-Err-clause-lengthened
returns-in-Err-clause-lengthened g c =
    let geometry = c.args.geometry.now in
    let tails = c.args.tails.now in
    let shadow = c.shadow_of-shadow.result in
    let told = g.D.Device.bytes c.args.buffers.now.cache.device in
    let now = g.D.Device.bytes c.write_tail.new.buffers.cache.device in
    let fill : fills geometry shadow.len ≡ true = sym c.fills_block.ensures ∙ c.if-not-fills_block.false in
    lengthened-by geometry told now c.args.shadows.now c.set_shadow-in-Err.new.shadows tails c.args.level shadow (Err c.in-Err.fault) c.shadow_of-shadow.ensures
    (subst (λ (x : Shadow). OneShadow c.args.shadows.now c.set_shadow-in-Err.new.shadows c.args.level x)
    (c.unsaved.ensures ∙ refused-after (block_cells geometry) shadow c.in-Err.fault c.in-Err.ensures.fault) c.set_shadow-in-Err.ensures)
    (subst (λ (t : Bool). TailPushed {T = Unit {0}} {E = PushFault} t (Err c.in-Err.fault) geometry tails c.args.level shadow.slot shadow.len told now) (sym fill) c.in-Err.ensures.wrote)
    c.in-Err.ensures.fault
