use Rattle.std.proofs.Common.{◌≡◌, ℕ, List, [], ◌∷◌, ◌++◌, take, refl, ap, ◌∙◌, sym, take_all}
use Rattle.std.proofs.lemmas.List.{append-nil}
use Rattle.cola_shapes.specs.Shapes.{shape_of}
use Rattle.cola_load.specs.declared.said.Said.{Said}
use Rattle.cola_load.specs.declared.said.Said.TheVariants as saying
use Rattle.cola_load.specs.PlainLines.{lines_of}
use Rattle.cola_load.specs.Rows.{row_of, rows_said}
use Rattle.cola_load.proofs.Chains.{rows-more}
use Rattle.cola_load.proofs.plain.rows_said.Goals as goal
use Rattle.cola_load.proofs.plain.rows_said.Goals.{in-Row+in_ok-push, in_default}

no-row : (says : Said) (rows : List (List ℕ × List ℕ)) → ((key value : List ℕ) → says ≡ saying.Row key value → ⊥) → rows ≡ rows ++ row_of says
no-row (saying.Row key value) rows other = absurd (other key value refl)
no-row says rows other = sym (append-nil rows)

pub loop-line-preserved : goal.loop-line-preserved
loop-line-preserved c = λ keys.
    let shape = shape_of c.args.format keys in
    let before = rows_said shape (lines_of (take c.loop-line.line-index c.args.lines.now)) in
    let was = c.loop-line.invariant keys in
    let means = ap (λ (says : Said). before ++ row_of says) (c.said_by.ensures.means keys) in
    let more = rows-more shape c.args.lines.now c.loop-line.line-index c.loop-line-test.true in
    elim c.match-said_by.branch [
      | in-Row+in_ok-push w ↦
          ap (λ rows. rows.items) w.rows-is ∙ w.in_ok-push.ensures.items ∙ ap (λ rows. rows ++ (w.in-Row.key, w.in-Row.value) ∷ []) was
          ∙ ap (λ (says : Said). before ++ row_of says) (sym w.in-Row.is) ∙ means ∙ sym more
      | in_default w ↦ ap (λ rows. rows.items) w.rows-is ∙ was ∙ no-row c.said_by.result before w.in_default.not-Row ∙ means ∙ sym more
    ]

pub returns : goal.returns
returns c = λ keys.
    c.loop-line.invariant keys
    ∙ ap (λ lines. rows_said (shape_of c.args.format keys) (lines_of lines)) (take_all c.loop-line.line-index c.args.lines.now c.loop-line-test.false)
