use Rattle.std.proofs.Common.{◌≡◌, ◌≤◌, ◌+◌, ◌*◌, ◌^◌, ◌<◌, ◌⊎◌, inl, inr, ℕ, sym, ◌∙◌, ap, arith}
use Rattle.std.proofs.lemmas.Bool.{false≢true}
use Rattle.cola_layout.specs.Marks.{marks_of}
use Rattle.cola_layout.proofs.Phases.{fits-first, fits-before, fits-inside, fits-after}
use Rattle.cola_layout.proofs.Levels.{at-number, at-first, too-long}
use Rattle.cola_layout.proofs.marks.level_fits.Goals as goal
use Rattle.cola_layout.proofs.marks.level_fits.Goals.{then-here-slot-via-then-here-slot, then-here-slot-via-else-here-slot+then-here-slot-2}

pub returns-then-here-slot : goal.returns-then-here-slot
returns-then-here-slot c =
    let levels = c.args.levels.now in
    let j = c.args.level in
    let long : (2 ^ (j + 2) < (marks_of levels j).visible) ⊎ (2 ^ (j + 2) < (marks_of levels j).shadow) =
    elim c.then-here-slot.branch [
      | then-here-slot-via-then-here-slot w ↦ inl (rw c.slot_cells-slot.ensures at w.if-here-slot.true)
      | then-here-slot-via-else-here-slot+then-here-slot-2 w ↦ inr (rw c.slot_cells-slot.ensures at w.if-here-slot-2.true)
    ]
    in
    ((λ h. absurd (false≢true h)), (λ fits. absurd (too-long c.args.clock levels j long fits)))

pub returns-then-level-eq0 : goal.returns-then-level-eq0
returns-then-level-eq0 c =
    let levels = c.args.levels.now in
    let j = c.args.level in
    let visible_fits : (marks_of levels j).visible ≤ 2 ^ (j + 2) = omega arith in
    let shadow_fits : (marks_of levels j).shadow ≤ 2 ^ (j + 2) = omega arith in
    at-first c.args.clock levels j c.is_idle.ensures (fits-first c.args.clock j _ _ _ visible_fits shadow_fits c.if-level-eq0.true)

pub returns-in-Before : goal.returns-in-Before
returns-in-Before c =
    let levels = c.args.levels.now in
    let j = c.args.level in
    let visible_fits : (marks_of levels j).visible ≤ 2 ^ (j + 2) = omega arith in
    let shadow_fits : (marks_of levels j).shadow ≤ 2 ^ (j + 2) = omega arith in
    at-number c.args.clock levels j (omega arith) c.is_idle-in-Before.ensures
    (fits-before c.args.clock j _ _ _ visible_fits shadow_fits (omega arith) (sym c.phase.ensures.value ∙ c.in-Before.is))

pub returns-in-Inside : goal.returns-in-Inside
returns-in-Inside c =
    let levels = c.args.levels.now in
    let j = c.args.level in
    let visible_fits : (marks_of levels j).visible ≤ 2 ^ (j + 2) = omega arith in
    let shadow_fits : (marks_of levels j).shadow ≤ 2 ^ (j + 2) = omega arith in
    let steps_are : 28 * c.from.result ≡ 28 * c.in-Inside.step = ap (λ (n : ℕ). 28 * n) c.from.ensures in
    at-number c.args.clock levels j (omega arith) (rw (c.sampled-sample.ensures, steps_are) at c.is_working.ensures)
    (fits-inside c.args.clock j _ _ _ visible_fits shadow_fits c.in-Inside.step (omega arith) (sym c.phase.ensures.value ∙ c.in-Inside.is))

pub returns-in-After : goal.returns-in-After
returns-in-After c =
    let levels = c.args.levels.now in
    let j = c.args.level in
    let visible_fits : (marks_of levels j).visible ≤ 2 ^ (j + 2) = omega arith in
    let shadow_fits : (marks_of levels j).shadow ≤ 2 ^ (j + 2) = omega arith in
    at-number c.args.clock levels j (omega arith) c.is_at_rest.ensures
    (fits-after c.args.clock j _ _ _ visible_fits shadow_fits (omega arith) (sym c.phase.ensures.value ∙ c.in-After.is))
