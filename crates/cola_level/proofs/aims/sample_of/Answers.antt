-- What a level above the bottom samples.
use Rattle.std.proofs.Common.{ℕ, ◌+◌, ◌-◌, ap, sym, ◌∙◌}
use Rattle.std.proofs.Math.Numerals.{add-one}
use Rattle.cola_clock.specs.Clock.{visible_slot}
use Rattle.cola_cell.specs.declared.cell.Run.{Run}
use Rattle.cola_level.specs.Marks.{marks_of}
use Rattle.cola_level.proofs.Parities.{sampled_visible, sampled_shadow, never_nothing}
use Rattle.cola_level.proofs.aims.sample_of.Goals as goal

pub returns-in-Visible : goal.returns-in-Visible
returns-in-Visible c =
    ap (λ (s : ℕ). record { level = c.args.level + 1; slot = s; len = c.args.next.now.visible }) c.visible_slot-visible.ensures.value
    ∙ ap (λ (j : ℕ). (record { level = j; slot = visible_slot c.args.clock j; len = c.args.next.now.visible })) (add-one c.args.level)
    ∙ sym (sampled_visible c.args.clock c.args.level c.args.bottom (marks_of c.args.next.now) (sym c.next_of.ensures ∙ c.in-Visible.is))

pub returns-in-Shadow : goal.returns-in-Shadow
returns-in-Shadow c =
    ap (λ (s : ℕ). (record { level = c.args.level + 1; slot = 1 - s; len = c.args.next.now.shadow })) c.visible_slot-visible.ensures.value
    ∙ ap (λ (j : ℕ). (record { level = j; slot = 1 - visible_slot c.args.clock j; len = c.args.next.now.shadow })) (add-one c.args.level)
    ∙ sym (sampled_shadow c.args.clock c.args.level c.args.bottom (marks_of c.args.next.now) (sym c.next_of.ensures ∙ c.in-Shadow.is))

pub returns-in-Nothing : goal.returns-in-Nothing
returns-in-Nothing c = absurd (never_nothing c.args.clock c.args.level c.args.bottom c.requires.above_bottom (sym c.next_of.ensures ∙ c.in-Nothing.is))
