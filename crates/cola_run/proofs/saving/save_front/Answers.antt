use Rattle.std.proofs.Common.{◌≡◌, ◌<◌, ◌≤◌, ◌*◌, ℕ, List, Option, Some, None, Err, subst, ◌∙◌, arith}
use Rattle.std.proofs.Math.Nat.{mul-le-mul_right}
use Rattle.cola_device.specs.declared.device.DeviceFault.{DeviceFault}
use Rattle.cola_outside.specs.Told.{Both}
use Rattle.cola_device.specs.Bytes.{HasRange, Wrote}
use Rattle.cola_front.specs.Front.{block_size, image, InOrder}
use Rattle.cola_front.proofs.Writes.{store_refused, store_tried}
use Rattle.cola_run.proofs.saving.save_front.Goals as goal

-- a file of two blocks and more has two
two-of : (told : Option (List ℕ)) (many size : ℕ) → 1 < many → HasRange told 0 (many * size) → HasRange told 0 (2 * size)
two-of None many size h r = tt
two-of (Some bytes) many size h r = let m : 2 * size ≤ many * size = mul-le-mul_right size h in omega (arith, m, r)

-- both blocks were written, or were to be: the file, and the order of them
tried : (g : _) (c : goal.After-block-in-Ok-2-1 g) →
    Wrote c.write_block-in-Ok.result 0 (image c.args.front.now c.args.header.now) (g.D.Device.bytes c.args.buffers.now.cache.device) (g.D.Device.bytes c.write_block-in-Ok.new.self.cache.device)
    × Both (g.D.Device.bytes c.args.buffers.now.cache.device) (g.D.Device.bytes c.write_block-in-Ok.new.self.cache.device) (InOrder c.write_block-in-Ok.result c.args.front.now)
tried g c =
    let f = c.args.front.now in
    let told = g.D.Device.bytes in
    let sound = c.put_second.ensures.sound in
    let size : c.args.buffers.now.cache.size ≡ block_size f = c.requires.size in
    let now : c.write_block.new.self.cache.size ≡ block_size f = c.write_block.ensures.stays.size ∙ size in
    let one : 1 * c.args.buffers.now.cache.size ≡ block_size f = omega (arith, size) in
    let none : 0 * c.write_block.new.self.cache.size ≡ 0 = omega arith in
    let inside : HasRange (told c.args.buffers.now.cache.device) 0 (2 * block_size f) =
    subst (λ (n : ℕ). HasRange (told c.args.buffers.now.cache.device) 0 (2 * n)) size (two-of (told c.args.buffers.now.cache.device) c.args.buffers.now.many c.args.buffers.now.cache.size c.requires.many c.block_size-size.ensures.sound.inside) in
    store_tried f sound c.args.header.now (omega (arith, c.told-header)) DeviceFault c.in-Ok.field-0 c.write_block-in-Ok.result (1 * c.args.buffers.now.cache.size) c.put_second.new.block c.put_first.new.block
    (told c.args.buffers.now.cache.device) (told c.write_block.new.self.cache.device) (told c.write_block-in-Ok.new.self.cache.device) one c.put_second.ensures.put c.put_first.ensures.put inside c.in-Ok.ensures.wrote
    (subst (λ (n : ℕ). Wrote c.write_block-in-Ok.result n c.put_first.new.block (told c.write_block.new.self.cache.device) (told c.write_block-in-Ok.new.self.cache.device)) none c.write_block-in-Ok.ensures.wrote)

pub returns-in-Ok-clause-wrote : goal.returns-in-Ok-clause-wrote
returns-in-Ok-clause-wrote g c = (tried g c).0

pub returns-in-Ok-clause-in_order : goal.returns-in-Ok-clause-in_order
returns-in-Ok-clause-in_order g c = (tried g c).1

-- the second was not
refused : (g : _) (c : goal.In-Err g) →
    Wrote {T = Unit {0}} (Err c.in-Err.refusal) 0 (image c.args.front.now c.args.header.now) (g.D.Device.bytes c.args.buffers.now.cache.device) (g.D.Device.bytes c.write_block.new.self.cache.device)
    × Both (g.D.Device.bytes c.args.buffers.now.cache.device) (g.D.Device.bytes c.write_block.new.self.cache.device) (InOrder {T = Unit {0}} (Err c.in-Err.refusal) c.args.front.now)
refused g c =
    let f = c.args.front.now in
    let told = g.D.Device.bytes in
    let sound = c.put_second.ensures.sound in
    let size : c.args.buffers.now.cache.size ≡ block_size f = c.requires.size in
    let one : 1 * c.args.buffers.now.cache.size ≡ block_size f = omega (arith, size) in
    let inside : HasRange (told c.args.buffers.now.cache.device) 0 (2 * block_size f) =
    subst (λ (n : ℕ). HasRange (told c.args.buffers.now.cache.device) 0 (2 * n)) size (two-of (told c.args.buffers.now.cache.device) c.args.buffers.now.many c.args.buffers.now.cache.size c.requires.many c.block_size-size.ensures.sound.inside) in
    store_refused f sound c.args.header.now (omega (arith, c.told-header)) DeviceFault c.in-Err.refusal (1 * c.args.buffers.now.cache.size) c.put_second.new.block (told c.args.buffers.now.cache.device) (told c.write_block.new.self.cache.device)
    one c.put_second.ensures.put inside c.in-Err.ensures.wrote

pub returns-in-Err-clause-wrote : goal.returns-in-Err-clause-wrote
returns-in-Err-clause-wrote g c = (refused g c).0

pub returns-in-Err-clause-in_order : goal.returns-in-Err-clause-in_order
returns-in-Err-clause-in_order g c = (refused g c).1
