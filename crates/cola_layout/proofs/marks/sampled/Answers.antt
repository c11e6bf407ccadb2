use Rattle.std.proofs.Common.{◌≡◌, sym, ◌∙◌, arith}
use Rattle.cola_clock.specs.Schedule.{below_at}
use Rattle.cola_clock.specs.declared.state.Below.TheVariants.{Visible, Shadow, Nothing}
use Rattle.cola_layout.proofs.Levels.{end-visible, end-shadow, end-nothing}
use Rattle.cola_layout.proofs.Phases.{visible-even, shadow-odd, nothing-bottom, visible-above_bottom, shadow-above_bottom}
use Rattle.cola_layout.proofs.marks.sampled.Goals as goal

pub bounds-levels-level : goal.bounds-levels-level
bounds-levels-level c =
    let above : c.args.level ≡ c.args.bottom → ⊥ =
    visible-above_bottom c.args.clock c.args.level c.args.bottom (sym c.next_of.ensures ∙ c.in-Visible.is) in
    omega arith

pub bounds-levels-level-in-Shadow : goal.bounds-levels-level-in-Shadow
bounds-levels-level-in-Shadow c =
    let above : c.args.level ≡ c.args.bottom → ⊥ =
    shadow-above_bottom c.args.clock c.args.level c.args.bottom (sym c.next_of.ensures ∙ c.in-Shadow.is) in
    omega arith

pub returns-in-Visible : goal.returns-in-Visible
returns-in-Visible c =
    let is : below_at c.args.clock c.args.level c.args.bottom ≡ Visible = sym c.next_of.ensures ∙ c.in-Visible.is in
    let above : c.args.level ≡ c.args.bottom → ⊥ = visible-above_bottom c.args.clock c.args.level c.args.bottom is in
    sym (end-visible c.args.clock c.args.level c.args.levels.now (visible-even c.args.clock c.args.level c.args.bottom is) (omega arith))

pub returns-in-Shadow : goal.returns-in-Shadow
returns-in-Shadow c =
    let is : below_at c.args.clock c.args.level c.args.bottom ≡ Shadow = sym c.next_of.ensures ∙ c.in-Shadow.is in
    let above : c.args.level ≡ c.args.bottom → ⊥ = shadow-above_bottom c.args.clock c.args.level c.args.bottom is in
    sym (end-shadow c.args.clock c.args.level c.args.levels.now (shadow-odd c.args.clock c.args.level c.args.bottom is) (omega arith))

pub returns-in-Nothing : goal.returns-in-Nothing
returns-in-Nothing c =
    let is : below_at c.args.clock c.args.level c.args.bottom ≡ Nothing = sym c.next_of.ensures ∙ c.in-Nothing.is in
    let last : c.args.level ≡ c.args.bottom = nothing-bottom c.args.clock c.args.level c.args.bottom is in
    sym (end-nothing c.args.clock c.args.level c.args.levels.now (omega arith))
