use Rattle.std.proofs.Common.{◌≡◌, ◌+◌, ap, ◌∙◌, arith}
use Rattle.cola_cell.specs.declared.sink.Shadow.{Shadow}
use Rattle.cola_cell.specs.Flat.{shadow_at}
use Rattle.cola_cell.specs.Places.{number_of}
use Rattle.cola_layout.proofs.Places.{front-below}
use Rattle.cola_layout.proofs.Powers.{next_power}
use Rattle.cola_run.proofs.device_cells.push_in_front.Goals as goal

pub write_as-requires-clause-within : goal.write_as-requires-clause-within
write_as-requires-clause-within c =
    let b = c.args.geometry.now.block_exp in
    let sh = shadow_at c.args.shadows.now c.args.level in
    let number : c.place.result ≡ number_of c.args.level sh.slot sh.len = c.place.ensures.value ∙ ap (λ (x : Shadow). number_of c.args.level x.slot x.len) c.shadow_of-shadow.ensures in
    omega (
      arith,
      front-below b c.args.level sh.slot sh.len (omega (arith, c.requires.place.slot_in)) c.requires.place.index_in c.requires.level,
      next_power b (b + 1) (omega arith),
      c.requires.block,
      number,
    )

pub returns-clause-within : goal.returns-clause-within
returns-clause-within c =
    let b = c.args.geometry.now.block_exp in
    let sh = shadow_at c.args.shadows.now c.args.level in
    omega (
      arith,
      front-below b c.args.level sh.slot sh.len (omega (arith, c.requires.place.slot_in)) c.requires.place.index_in c.requires.level,
      next_power b (b + 1) (omega arith),
      c.requires.block,
      c.write_as.ensures.sound.many,
    )
