use Rattle.std.proofs.Common.{◌+◌, ◌^◌, ◌≤◌, ◌↔◌, false, arith}
use Rattle.std.specs.Prelude.{IsTrue}
use Rattle.std.proofs.lemmas.Bool.{false≢true}
use Rattle.std.proofs.Math.Pow.{pow_mono}
use Rattle.cola_layout.specs.Fields.{fields_of}
use Rattle.cola_wide.specs.Runs.{IsOfLevel}
use Rattle.cola_wide.proofs.Among.{level-from, level-below}
use Rattle.cola_wide.proofs.cells.is_of_level.Goals as goal

pub visible_slot-slot-requires-clause-clock_in_range : goal.visible_slot-slot-requires-clause-clock_in_range
visible_slot-slot-requires-clause-clock_in_range c =
    let g = c.args.header.now.geometry in
    let grows : 2 ^ (g.bottom + 1) ≤ 2 ^ 23 = pow_mono {i = g.bottom + 1} {j = 23} (omega (arith, g.shallow)) in
    omega (arith, c.args.header.now.clock_fits, grows)

-- what is not so is said by false
neither : {P : Type 0} → (P → ⊥) → IsTrue false ↔ P
neither none = (λ yes. absurd (false≢true yes), λ is. absurd (none is))

pub returns-then-number-first : goal.returns-then-number-first
returns-then-number-first c =
    neither (λ (is : IsOfLevel (fields_of c.args.header.now) c.args.level c.args.number). omega (arith, level-from c.args.header.now c.args.level c.args.number is, c.if-number-first.true, c.place-first.ensures.value))

pub returns-then-number-first-2 : goal.returns-then-number-first-2
returns-then-number-first-2 c =
    neither (λ (is : IsOfLevel (fields_of c.args.header.now) c.args.level c.args.number). omega (arith, level-below c.args.header.now c.args.level c.args.number c.requires is, c.if-number-first-2.true, c.place-first.ensures.value))
