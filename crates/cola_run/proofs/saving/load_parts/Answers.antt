use Rattle.std.proofs.Common.{◌≡◌, ◌+◌, ◌-◌, ◌^◌, sym, ap, ◌∙◌, arith}
use Rattle.cola_layout.specs.declared.geometry.Geometry.{Geometry}
use Rattle.cola_layout.proofs.Powers.{power-le}
use Rattle.cola_run.proofs.Fronts.{runs-spelled, lowest-bad, runs-fit}
use Rattle.std.proofs.lemmas.Option.{IfSome_then}
use Rattle.cola_run.proofs.saving.load_parts.Goals as goal

pub load_front-requires-clause-many : goal.load_front-requires-clause-many
load_front-requires-clause-many g c =
    omega (arith, power-le 2 (c.args.geometry.now.bottom + 4 - c.args.geometry.now.block_exp) (omega (arith, c.args.geometry.now.block_fits.fits)), c.requires.many)

pub returns-in-Some-clause-answer : goal.returns-in-Some-clause-answer
returns-in-Some-clause-answer g c =
    let h = c.args.header.now in
    let fits = h.geometry.block_fits.fits in
    let shape = c.load_front.ensures.shape in
    let format : c.load_front.new.front.format ≡ h.geometry.format = shape.format ∙ c.requires.shape.format ∙ ap (λ (x : Geometry). x.format) (sym c.requires.geometry) in
    let block : c.load_front.new.front.block ≡ 2 ^ h.geometry.block_exp = shape.block ∙ c.requires.shape.front_block ∙ ap (λ (x : Geometry). 2 ^ x.block_exp) (sym c.requires.geometry) in
    IfSome_then (g.D.Device.bytes c.args.buffers.now.cache.device) c.in-Ok.ensures.loaded
    (λ bytes loaded. lowest-bad h c.load_front.new.front bytes loaded format block (runs-fit h) (omega (arith, fits)) c.in-Some.number c.in-Some.ensures.some)

pub returns-in-None-clause-answer : goal.returns-in-None-clause-answer
returns-in-None-clause-answer g c =
    let h = c.args.header.now in
    let fits = h.geometry.block_fits.fits in
    let shape = c.load_front.ensures.shape in
    let format : c.load_front.new.front.format ≡ h.geometry.format = shape.format ∙ c.requires.shape.format ∙ ap (λ (x : Geometry). x.format) (sym c.requires.geometry) in
    let block : c.load_front.new.front.block ≡ 2 ^ h.geometry.block_exp = shape.block ∙ c.requires.shape.front_block ∙ ap (λ (x : Geometry). 2 ^ x.block_exp) (sym c.requires.geometry) in
    IfSome_then (g.D.Device.bytes c.args.buffers.now.cache.device) c.in-Ok.ensures.loaded
    (λ bytes loaded. runs-spelled h c.load_front.new.front bytes loaded format block (runs-fit h) (omega (arith, fits)) (c.first_bad.ensures.none c.in-None.is))
