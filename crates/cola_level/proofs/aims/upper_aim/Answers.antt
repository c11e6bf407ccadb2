-- The aim of a level above the bottom.
use Rattle.std.proofs.Common.{◌≡◌, ◌≤◌, ◌-◌, ℕ, Bool, false, not, if◌then◌else◌, ap, sym, subst, ◌∙◌}
use Rattle.cola_clock.specs.Clock.{period, is_odd, visible_slot}
use Rattle.cola_clock.specs.declared.state.Part.{Part}
use Rattle.cola_clock.specs.declared.state.Part.TheVariants.{All, Young}
use Rattle.cola_merge.specs.Feeds.{takes_young}
use Rattle.cola_cell.specs.declared.cell.Run.{Run}
use Rattle.cola_merge.specs.declared.aims.Feed.TheVariants as feed
use Rattle.cola_level.specs.Marks.{marks_of}
use Rattle.cola_level.specs.Aims.{sampled_run}
use Rattle.cola_level.proofs.Parities.{upper_part, upper_young, slot_small}
use Rattle.cola_level.proofs.aims.upper_aim.Goals as goal

pub overflow_sub-result : goal.overflow_sub-result
overflow_sub-result c = subst (λ (x : ℕ). x ≤ 1) (sym c.requires.slot) (slot_small c.args.clock c.args.own.level)

pub returns : goal.returns
returns c = λ under.
    let t : ℕ = c.args.clock in
    let j : ℕ = c.args.own.level in
    let len : ℕ = c.args.own.len in
    let part : c.own_part-part.result ≡ (if is_odd (period c.args.clock c.args.own.level) then Young else All) = c.own_part-part.ensures ∙ upper_part t j c.args.bottom c.requires.above_bottom in
    ap (λ (s : ℕ). record { level = j; slot = 1 - s; own = feed.Run (record { level = j; slot = s; len = len }); incoming = c.args.incoming; sample = feed.Sampled c.sample_of.result; part = c.own_part-part.result; young = c.marks_young.result; bottom = false }) c.requires.slot
    ∙ ap (λ (x : Run). record { level = j; slot = 1 - visible_slot t j; own = feed.Run (record { level = j; slot = visible_slot t j; len = len }); incoming = c.args.incoming; sample = feed.Sampled x; part = c.own_part-part.result; young = c.marks_young.result; bottom = false }) c.sample_of.ensures
    ∙ ap (λ (x : Bool). record { level = j; slot = 1 - visible_slot t j; own = feed.Run (record { level = j; slot = visible_slot t j; len = len }); incoming = c.args.incoming; sample = feed.Sampled (sampled_run t j (marks_of c.args.next.now)); part = c.own_part-part.result; young = x; bottom = false })
    (c.marks_young.ensures ∙ ap (λ (p : Part). not (takes_young p)) c.own_part-part.ensures ∙ upper_young t j c.args.bottom c.requires.above_bottom)
    ∙ ap (λ (x : Part). record { level = j; slot = 1 - visible_slot t j; own = feed.Run (record { level = j; slot = visible_slot t j; len = len }); incoming = c.args.incoming; sample = feed.Sampled (sampled_run t j (marks_of c.args.next.now)); part = x; young = not (is_odd (period t j)); bottom = false }) part
