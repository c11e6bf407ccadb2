use Rattle.std.proofs.Common.{◌≡◌, ℕ, ◌+◌, List, length, drop, refl, sym, ◌∙◌, ap, subst, arith}
use Rattle.std.proofs.lemmas.Bool.{false≢true}
use Rattle.cola_cell.proofs.Numbers.{AreBytes}
use Rattle.cola_layout.specs.declared.marks.Marks.{Marks}
use Rattle.cola_layout.specs.Marks.{AreMarks}
use Rattle.cola_layout.specs.Header.{IsSound}
use Rattle.cola_layout.specs.Read.{levels_in}
use Rattle.cola_layout.proofs.Readings.{levels-length_in}
use Rattle.cola_layout.proofs.Refusing.{no-state, no-rule, no-end, said, says-said, spells-said}
use Rattle.cola_layout.proofs.decode.read.Goals as goal
use Rattle.cola_layout.proofs.decode.read.Goals.{then-count-geometry-via-then-count-geometry, then-count-geometry-via-else-count-geometry+then-clock-clock_end, then-count-geometry-via-else-count-geometry+else-clock-clock_end+then-last-last_limit, then-not-is_zero_behind-via-then-not-is_zero_behind, then-not-is_zero_behind-via-else-not-is_zero_behind+then-not-levels_fit}

-- the marks that were read are those of as many levels as there are
read_all : (n levels : ℕ) (items : List Marks) (xs : List ℕ) → n ≡ levels → items ≡ levels_in n xs → items ≡ levels_in levels xs
read_all n levels items xs e is = is ∙ ap (λ (k : ℕ). levels_in k xs) e

pub returns-in_err-closed : goal.returns-in_err-closed
returns-in_err-closed c = rw c.from_residual-in_err-closed.ensures (no-state c.args.bytes.now c.in_err-closed.ensures)

pub returns-then-count-geometry : goal.returns-then-count-geometry
returns-then-count-geometry c =
    let g = c.in_ok-geometry.geometry in
    let levels = levels_in (g.bottom + 1) (drop 48 c.args.bytes.now) in
    let says = says-said g c.in_ok-closed.closed c.u64_at-count.result c.u64_at-clock.result c.u64_at-last.result levels c.args.bytes.now
    c.in_ok-geometry.ensures c.in_ok-closed.ensures c.u64_at-count.ensures c.u64_at-clock.ensures c.u64_at-last.ensures refl in
    no-rule c.args.bytes.now (said g c.in_ok-closed.closed c.u64_at-count.result c.u64_at-clock.result c.u64_at-last.result levels) says
    (λ (sound : IsSound (said g c.in_ok-closed.closed c.u64_at-count.result c.u64_at-clock.result c.u64_at-last.result levels)).
    elim c.then-count-geometry.branch [
      | then-count-geometry-via-then-count-geometry w ↦ omega (arith, sound.count_fits, w.if-count-geometry.true)
      | then-count-geometry-via-else-count-geometry+then-clock-clock_end w ↦ omega (arith, sound.clock_fits, w.if-clock-clock_end.true, w.clock_end.ensures.value)
      | then-count-geometry-via-else-count-geometry+else-clock-clock_end+then-last-last_limit w ↦ omega (arith, sound.last_fits, w.if-last-last_limit.true, w.last_limit.ensures)
    ])

pub levels_fit-requires-clause-one_each : goal.levels_fit-requires-clause-one_each
levels_fit-requires-clause-one_each c =
    ap length (c.as_slice.ensures.value ∙ read_all _ (c.in_ok-geometry.geometry.bottom + 1) _ (drop 48 c.args.bytes.now) c.levels.ensures.value c.read_levels-levels.ensures)
    ∙ levels-length_in (c.in_ok-geometry.geometry.bottom + 1) (drop 48 c.args.bytes.now)

pub returns-then-not-is_zero_behind : goal.returns-then-not-is_zero_behind
returns-then-not-is_zero_behind c =
    let g = c.in_ok-geometry.geometry in
    let levels = c.read_levels-levels.result.items in
    let levels_are : levels ≡ levels_in (g.bottom + 1) (drop 48 c.args.bytes.now) =
    read_all c.levels.result (g.bottom + 1) levels (drop 48 c.args.bytes.now) c.levels.ensures.value c.read_levels-levels.ensures in
    let says = says-said g c.in_ok-closed.closed c.u64_at-count.result c.u64_at-clock.result c.u64_at-last.result levels c.args.bytes.now
    c.in_ok-geometry.ensures c.in_ok-closed.ensures c.u64_at-count.ensures c.u64_at-clock.ensures c.u64_at-last.ensures levels_are in
    elim c.then-not-is_zero_behind.branch [
      | then-not-is_zero_behind-via-then-not-is_zero_behind w ↦
          no-end c.args.bytes.now (said g c.in_ok-closed.closed c.u64_at-count.result c.u64_at-clock.result c.u64_at-last.result levels) says
          (λ zeros. false≢true (sym w.if-not-is_zero_behind.true ∙ c.is_zero_behind.ensures.1 (rw c.levels-2.ensures.value zeros)))
      | then-not-is_zero_behind-via-else-not-is_zero_behind+then-not-levels_fit w ↦
          no-rule c.args.bytes.now (said g c.in_ok-closed.closed c.u64_at-count.result c.u64_at-clock.result c.u64_at-last.result levels) says
          (λ sound. false≢true (sym w.if-not-levels_fit.true ∙ w.levels_fit.ensures.1
          (subst (λ (ms : List Marks). AreMarks c.u64_at-clock.result ms) (sym w.as_slice.ensures.value) sound.marks_fit)))
    ]

pub invariant_of-result : goal.invariant_of-result
invariant_of-result c =
    let g = c.in_ok-geometry.geometry in
    let levels = c.read_levels-levels.result.items in
    record {
      count_fits = c.if-count-geometry.false;
      clock_fits = omega (arith, c.if-clock-clock_end.false, c.clock_end.ensures.value);
      last_fits = omega (arith, c.if-last-last_limit.false, c.last_limit.ensures);
      one_each = ap length (read_all c.levels.result (g.bottom + 1) levels (drop 48 c.args.bytes.now) c.levels.ensures.value c.read_levels-levels.ensures)
          ∙ levels-length_in (g.bottom + 1) (drop 48 c.args.bytes.now);
      marks_fit = subst (λ (ms : List Marks). AreMarks c.u64_at-clock.result ms) c.as_slice.ensures.value (c.levels_fit.ensures.0 c.if-not-levels_fit.false);
    }

pub returns : goal.returns
returns c =
    let g = c.in_ok-geometry.geometry in
    let levels = c.read_levels-levels.result.items in
    let levels_are : levels ≡ levels_in (g.bottom + 1) (drop 48 c.args.bytes.now) =
    read_all c.levels.result (g.bottom + 1) levels (drop 48 c.args.bytes.now) c.levels.ensures.value c.read_levels-levels.ensures in
    let says = says-said g c.in_ok-closed.closed c.u64_at-count.result c.u64_at-clock.result c.u64_at-last.result levels c.args.bytes.now
    c.in_ok-geometry.ensures c.in_ok-closed.ensures c.u64_at-count.ensures c.u64_at-clock.ensures c.u64_at-last.ensures levels_are in
    let small : AreBytes c.args.bytes.now = λ i. (let fits = c.type_inv.bytes i in omega arith) in
    spells-said g c.in_ok-closed.closed c.u64_at-count.result c.u64_at-clock.result c.u64_at-last.result levels c.args.bytes.now
    c.requires small says (rw c.levels-2.ensures.value at (c.is_zero_behind.ensures.0 c.if-not-is_zero_behind.false))
    c.if-count-geometry.false
    (omega (arith, c.if-clock-clock_end.false, c.clock_end.ensures.value))
    (omega (arith, c.if-last-last_limit.false, c.last_limit.ensures))
    (ap length levels_are ∙ levels-length_in (g.bottom + 1) (drop 48 c.args.bytes.now))
    (subst (λ (ms : List Marks). AreMarks c.u64_at-clock.result ms) c.as_slice.ensures.value (c.levels_fit.ensures.0 c.if-not-levels_fit.false))
