use Rattle.std.proofs.Common.{◌≡◌, drop, slice_index, refl, ◌∙◌}
use Rattle.byteorder.specs.Endian.{little_number}
use Rattle.cola_layout.proofs.Refusing.{no-format, no-geometry, no-bottom, no-zero}
use Rattle.cola_layout.proofs.decode.read_geometry.Goals as goal
use Rattle.cola_layout.proofs.decode.read_geometry.Goals.{then-geometry-bytes-via-then-geometry-bytes, then-geometry-bytes-via-else-geometry-bytes+then-bytes-ne0}

pub returns-in_err-format : goal.returns-in_err-format
returns-in_err-format c = rw c.from_residual.ensures (no-format c.args.bytes.now c.in_err-format.ensures)

pub returns-in_default : goal.returns-in_default
returns-in_default c =
    no-geometry c.args.bytes.now c.u64_at.result (slice_index c.args.bytes.now 12) c.in_default.field-0 c.u64_at.ensures refl c.in_default.ensures.refused

pub returns-then-geometry-bytes : goal.returns-then-geometry-bytes
returns-then-geometry-bytes c =
    let keys_are : c.in-Ok.geometry.keys ≡ little_number 8 (drop 16 c.args.bytes.now) = c.in-Ok.ensures.keys ∙ c.u64_at.ensures in
    elim c.then-geometry-bytes.branch [
      | then-geometry-bytes-via-then-geometry-bytes w ↦
          no-bottom c.args.bytes.now c.in-Ok.geometry.keys c.in-Ok.geometry.bottom keys_are c.in-Ok.geometry.bottom_fits w.if-geometry-bytes.true
      | then-geometry-bytes-via-else-geometry-bytes+then-bytes-ne0 w ↦ no-zero c.args.bytes.now w.if-bytes-ne0.true
    ]
