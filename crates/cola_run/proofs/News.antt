-- A new store.
use Rattle.std.proofs.Common.{◌≡◌, ◌+◌, ◌-◌, ◌*◌, ◌/◌, ◌^◌, ℕ, List, replicate, Option, Some, None, IfSome, inl, inr, refl, sym, ap, subst, ◌∙◌, arith}
use Rattle.std.proofs.lemmas.List.{length-replicate, get_or-replicate, get_or_past}
use Rattle.std.proofs.lemmas.Bool.{cases_lt, false≢true}
use Rattle.std.proofs.lemmas.Nat.{pow_pos, pow-add}
use Rattle.std.proofs.Math.Nat.{mul_left_comm, mul-div_cancel}
use Rattle.cola_cell.specs.declared.sink.Shadow.{Shadow}
use Rattle.cola_cell.specs.Flat.{shadow_at}
use Rattle.cola_cell.specs.Format.{width}
use Rattle.cola_cell.specs.Shadows.{emptied}
use Rattle.cola_device.specs.declared.counts.Counts.{Counts}
use Rattle.cola_device.specs.Bytes.{HasRange}
use Rattle.cola_layout.specs.declared.geometry.Geometry.{Geometry}
use Rattle.cola_run.specs.Cells.{block_cells, block_bytes, file_bytes, file_blocks, device_levels, IsShadow, IsBacked}
use Rattle.cola_run.specs.Store.{IsStore, new_store}
use Rattle.cola_run.proofs.Spots.{in-tail}

parts-are : (geometry : Geometry) → 2 ^ (geometry.bottom + 4) ≡ file_blocks geometry * block_cells geometry
parts-are geometry =
    ap (λ (n : ℕ). 2 ^ n) (sym (omega (arith, geometry.block_fits.fits))) ∙ pow-add 2 (geometry.bottom + 4 - geometry.block_exp) geometry.block_exp

-- the blocks of a file
pub blocks-are : (geometry : Geometry) → 2 ^ (geometry.bottom + 4) / block_cells geometry ≡ file_blocks geometry
blocks-are geometry = ap (λ (n : ℕ). n / block_cells geometry) (parts-are geometry) ∙ mul-div_cancel (file_blocks geometry) (pow_pos geometry.block_exp)

-- and its bytes
pub bytes-are : (geometry : Geometry) → file_blocks geometry * block_bytes geometry ≡ file_bytes geometry
bytes-are geometry = mul_left_comm (file_blocks geometry) (width geometry.format) (block_cells geometry) ∙ ap (λ (n : ℕ). width geometry.format * n) (sym (parts-are geometry))

-- each shadow is empty
empty-all : (n level : ℕ) → shadow_at (replicate n (emptied 1)) level ≡ emptied 1
empty-all n level = elim (cases_lt level n) [
  | inl below ↦ get_or-replicate n level (emptied 1) (emptied 1) below
  | inr above ↦ get_or_past (replicate n (emptied 1)) level (emptied 1) (let long = length-replicate n (emptied 1) in omega (arith, long, above))
]

pub new-sound : {D : Type 0} (told : Option (List ℕ)) (device : D) (counts : Counts) (geometry : Geometry) (cache : ℕ) → HasRange told 0 (file_bytes geometry) → IsStore told (new_store device counts geometry cache)
new-sound told device counts geometry cache inside = record {
  cells = record {
    shape = record {
      block = geometry.block_fits;
      shallow = geometry.shallow;
      format = refl;
      front_block = refl;
      shadows_many = length-replicate (geometry.bottom + 1) (emptied 1);
      shadows_fit = λ level low. subst (λ (x : Shadow). IsShadow level x) (sym (empty-all (geometry.bottom + 1) level)) (record { slot_in = omega arith; within = omega arith });
      tails_many = length-replicate (width geometry.format * (block_cells geometry * device_levels geometry)) 0;
      unsaved = λ level on e. absurd (false≢true (sym e ∙ ap (λ (x : Shadow). x.saved) (empty-all (geometry.bottom + 1) level)));
    };
    backed = by-case told inside;
  };
  size = refl;
  many = refl;
  buffers_many = length-replicate (1 + 3 * device_levels geometry) none;
}
  where
    none : Option ℕ
    none = None

    by-case : (x : Option (List ℕ)) → HasRange x 0 (file_bytes geometry) → IfSome x (IsBacked geometry (replicate (geometry.bottom + 1) (emptied 1)) (replicate (width geometry.format * (block_cells geometry * device_levels geometry)) 0))
    by-case None h = tt
    by-case (Some bytes) h = record {
      long = omega (arith, h);
      saved = λ level on e i t.
          let sh = shadow_at (replicate (geometry.bottom + 1) (emptied 1)) level in
          absurd (omega (arith, (in-tail (block_cells geometry) sh sh.slot i t).within, ap (λ (x : Shadow). x.len) (empty-all (geometry.bottom + 1) level)));
    }
