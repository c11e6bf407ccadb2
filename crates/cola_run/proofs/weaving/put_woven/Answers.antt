-- The cells stand behind the shadow, and the others stay.
use Rattle.std.proofs.Common.{◌≡◌, ◌+◌, ◌-◌, ◌^◌, ◌≤◌, ◌<◌, ◌⊎◌, ℕ, Some, ap, subst, sym, ◌∙◌, arith}
use Rattle.cola_cell.specs.declared.format.Format.{Format}
use Rattle.cola_cell.specs.declared.sink.Shadow.{Shadow}
use Rattle.cola_cell.specs.Decoded.{standing}
use Rattle.cola_cell.specs.Flat.{shadow_at}
use Rattle.cola_cell.specs.Places.{number_of}
use Rattle.cola_cell.specs.Windows.{AreSpelled, cell_bytes_at, grown}
use Rattle.cola_front.specs.Front.{cell_at}
use Rattle.cola_run.specs.Cells.{end_number}
use Rattle.cola_run.specs.Parts.{OneShadow}
use Rattle.cola_layout.proofs.Places.{front-below}
use Rattle.cola_layout.proofs.Powers.{next_power}
use Rattle.cola_run.proofs.weaving.put_woven.Goals as goal

pub put_spelled-requires-clause-within : goal.put_spelled-requires-clause-within
put_spelled-requires-clause-within c =
    let b = c.args.geometry.now.block_exp in
    let sh = shadow_at c.args.shadows.now c.args.level in
    let some : 0 < c.args.count = omega (arith, c.if-count-eq0.false) in
    let below : number_of c.args.level sh.slot (sh.len + c.args.count - 1) < 2 ^ (b + 1) =
    front-below b c.args.level sh.slot (sh.len + c.args.count - 1) (omega (arith, c.requires.slot)) (omega (arith, c.requires.room, some)) c.requires.level in
    let number : c.place.result ≡ number_of c.args.level sh.slot sh.len = c.place.ensures.value ∙ ap (λ (x : Shadow). number_of c.args.level x.slot x.len) c.shadow_of-shadow.ensures in
    omega (arith, below, next_power b (b + 1) (omega arith), c.requires.block, number, some)

pub put_spelled-requires-clause-spelled : goal.put_spelled-requires-clause-spelled
put_spelled-requires-clause-spelled c = subst (λ (f : Format). AreSpelled f c.args.count c.args.cells.now) (sym c.requires.format) c.requires.spelled

pub returns : goal.returns
returns c =
    let sh = shadow_at c.args.shadows.now c.args.level in
    let number : c.place.result ≡ end_number c.args.shadows.now c.args.level = c.place.ensures.value ∙ ap (λ (x : Shadow). number_of c.args.level x.slot x.len) c.shadow_of-shadow.ensures in
    record {
      placed = λ k h. ap (λ (p : ℕ). cell_at c.put_spelled.new.self (p + k)) (sym number) ∙ c.put_spelled.ensures.placed k h
          ∙ ap (λ (f : Format). Some (standing f (cell_bytes_at f k c.args.cells.now))) c.requires.format;
      others = λ p d. c.put_spelled.ensures.others p (subst (λ (m : ℕ). (p < m) ⊎ (m + c.args.count ≤ p)) (sym number) d);
      shape = c.put_spelled.ensures.shape;
      shadow = subst (λ (x : Shadow). OneShadow c.args.shadows.now c.set_shadow.new.shadows c.args.level x) (c.longer_by.ensures ∙ ap (λ (x : Shadow). grown c.args.count x) c.shadow_of-shadow.ensures) c.set_shadow.ensures;
    }
