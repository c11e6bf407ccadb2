use Rattle.std.proofs.Common.{◌≡◌, ◌≤◌, ◌+◌, ◌*◌, ◌%◌, ℕ, List, Option, Some, None, inl, inr, refl, sym, ap, subst, ◌∙◌, arith}
use Rattle.std.proofs.lemmas.Bool.{cases_eq}
use Rattle.std.proofs.lemmas.List.{get_or-set_same}
use Rattle.cola_cell.specs.declared.sink.Shadow.{Shadow}
use Rattle.cola_cell.specs.Places.{slot_size}
use Rattle.cola_cell.specs.Shadows.{emptied}
use Rattle.cola_device.specs.Bytes.{Gives}
use Rattle.cola_layout.proofs.Places.{slot-blocks}
use Rattle.cola_cache.specs.Blocks.{last_in}
use Rattle.cola_run.specs.Cells.{IsOnDevice, block_cells, block_bytes, block_number}
use Rattle.cola_run.specs.Parts.{OneShadow}
use Rattle.cola_run.proofs.Calls.{one-again}
use Rattle.std.proofs.Math.Nat.{zero-mod}
use Rattle.cola_run.proofs.Loads.{sound-shadow, sound-filled}
use Rattle.cola_run.proofs.saving.load_shadow.Goals as goal

pub returns-then-shadow-cells_of_block-eq0-clause-sound : goal.returns-then-shadow-cells_of_block-eq0-clause-sound
returns-then-shadow-cells_of_block-eq0-clause-sound g c =
    let geometry = c.args.geometry.now in
    let told = g.D.Device.bytes c.args.buffers.now.cache.device in
    sound-shadow geometry (record { told = told; shadows = c.args.shadows.now; tails = c.args.tails.now }) (record { told = told; shadows = c.set_shadow-then-shadow-cells_of_block-eq0.new.shadows; tails = c.args.tails.now })
    c.args.level c.args.shadow refl refl
    (one-again c.args.shadows.now c.set_shadow.new.shadows c.set_shadow-then-shadow-cells_of_block-eq0.new.shadows c.args.level c.empty_in.result c.args.shadow c.set_shadow.ensures c.set_shadow-then-shadow-cells_of_block-eq0.ensures)
    c.requires.stands
    (λ on. (c.requires.saved, ap (λ (n : ℕ). c.args.shadow.len % n) (sym c.cells_of_block.ensures.value) ∙ c.if-shadow-cells_of_block-eq0.true))

pub block_at-requires : goal.block_at-requires
block_at-requires g c =
    let geometry = c.args.geometry.now in
    let high : geometry.block_exp ≤ c.args.level + 2 = omega (arith, c.front_levels.ensures, c.if-level-front_levels.false) in
    record {
      level_in = omega (arith, c.requires.level);
      slot_in = c.requires.stands.slot_in;
      index_in = elim (cases_eq c.args.shadow.len (slot_size c.args.level)) [
        | inl e ↦ absurd (c.if-shadow-cells_of_block-eq0.false (ap (λ (n : ℕ). c.args.shadow.len % n) c.cells_of_block.ensures.value ∙ ap (λ (n : ℕ). n % block_cells geometry) e ∙ (slot-blocks geometry.block_exp c.args.level 0 high).1))
        | inr d ↦ omega (arith, c.requires.stands.within, d)
      ];
    }

pub put_block-requires-clause-size : goal.put_block-requires-clause-size
put_block-requires-clause-size g c = c.copy.ensures.size ∙ c.turn_to.ensures.stays.size ∙ c.requires.size

pub returns-in-Ok-clause-sound : goal.returns-in-Ok-clause-sound
returns-in-Ok-clause-sound g c =
    let geometry = c.args.geometry.now in
    let told = g.D.Device.bytes c.args.buffers.now.cache.device in
    let now = g.D.Device.bytes c.turn_to.new.self.cache.device in
    let device : IsOnDevice geometry c.args.level = record { within = c.requires.level; whole = omega (arith, c.front_levels.ensures, c.if-level-front_levels.false) } in
    let copy = c.copy.result.now in
    let size : c.turn_to.new.self.cache.size ≡ block_bytes geometry = c.turn_to.ensures.stays.size ∙ c.requires.size in
    let there : last_in c.turn_to.new.self.lasts 0 ≡ Some c.block_at.result =
    ap (λ (xs : List (Option ℕ)). last_in xs 0) c.in-Ok.ensures.ok ∙ get_or-set_same c.args.buffers.now.lasts 0 (Some c.block_at.result) None c.requires.buffer in
    let given : Gives now (c.block_at.result * c.turn_to.new.self.cache.size) copy = c.copy.ensures.given c.block_at.result there in
    let same : Gives told (block_number geometry c.args.level c.args.shadow.slot c.args.shadow.len * block_bytes geometry) copy =
    subst (λ (x : Option (List ℕ)). Gives x (block_number geometry c.args.level c.args.shadow.slot c.args.shadow.len * block_bytes geometry) copy) c.turn_to.ensures.bytes_stay
    (subst (λ (n : ℕ). Gives now (n * block_bytes geometry) copy) c.block_at.ensures.value (subst (λ (n : ℕ). Gives now (c.block_at.result * n) copy) size given)) in
    sound-filled geometry (record { told = told; shadows = c.args.shadows.now; tails = c.args.tails.now }) (record { told = now; shadows = c.set_shadow-in-Ok.new.shadows; tails = c.put_block.new.self })
    c.args.level c.args.shadow copy device c.turn_to.ensures.bytes_stay (c.copy.ensures.size ∙ size)
    c.put_block.ensures.put
    (one-again c.args.shadows.now c.set_shadow.new.shadows c.set_shadow-in-Ok.new.shadows c.args.level c.empty_in.result c.args.shadow c.set_shadow.ensures c.set_shadow-in-Ok.ensures)
    c.requires.stands c.requires.saved same

pub returns-in-Err-clause-sound : goal.returns-in-Err-clause-sound
returns-in-Err-clause-sound g c =
    let geometry = c.args.geometry.now in
    let told = g.D.Device.bytes c.args.buffers.now.cache.device in
    let now = g.D.Device.bytes c.turn_to.new.self.cache.device in
    let one : OneShadow c.args.shadows.now c.set_shadow.new.shadows c.args.level (emptied c.args.shadow.slot) = subst (λ (x : Shadow). OneShadow c.args.shadows.now c.set_shadow.new.shadows c.args.level x) c.empty_in.ensures c.set_shadow.ensures in
    sound-shadow geometry (record { told = told; shadows = c.args.shadows.now; tails = c.args.tails.now }) (record { told = now; shadows = c.set_shadow.new.shadows; tails = c.args.tails.now })
    c.args.level (emptied c.args.shadow.slot) c.turn_to.ensures.bytes_stay refl one (record { slot_in = c.requires.stands.slot_in; within = omega arith })
    (λ on. (refl, zero-mod (block_cells geometry)))
