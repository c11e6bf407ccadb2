use Rattle.std.proofs.Common.{◌≡◌, ◌∙◌, ℕ, ◌+◌, ◌*◌, List, ◌++◌, length, drop, refl, sym, ap, subst, arith, append_assoc}
use Rattle.sha2.specs.Hashers.{Holds256}
use Rattle.cola_marks.specs.Pages.{page_of}
use Rattle.cola_journal_bytes.specs.declared.writing.JournalWriter.{JournalWriter}
use Rattle.cola_journal_bytes.specs.Format.{Piece, piece_head, all_bytes, summed}
use Rattle.cola_c.specs.Journal.{pieces_from, pieces_of}
use Rattle.cola_c.proofs.Pieces.{passed, written_on}
use Rattle.cola_c.proofs.journal.sum_of.Goals as goal
use Rattle.cola_c.proofs.journal.sum_of.Goals.{then-marks-page-ne0, else-marks-page-ne0}

-- what was summed and what is left are all that is to be summed
abbrev Far : (marks bytes : List ℕ) (page : ℕ) → JournalWriter → Type 0
Far marks bytes page writer = (front : List ℕ) × (Holds256 writer.sum front × (front ++ all_bytes (pieces_from page (drop page marks) bytes) ≡ summed (pieces_of marks bytes)))

pub loop-page-preserved : goal.loop-page-preserved
loop-page-preserved c =
    let bytes : List ℕ = c.args.bytes.now in
    let marks : List ℕ = c.args.marks.now in
    let page : ℕ = c.loop-page.page in
    let far = c.loop-page.invariant in
    elim c.if-marks-page-ne0.branch [
      | then-marks-page-ne0 w ↦
          let head : ℕ → List ℕ → List ℕ = λ at it. piece_head at (length it) ++ it in
          let same : page * 4096 ≡ 4096 * page = omega arith in
          let wrote : head (page * 4096) w.page_at.result.now ≡ head (4096 * page) (page_of bytes page) = ap (head (page * 4096)) w.page_at.ensures ∙ ap (λ (at : ℕ). head at (page_of bytes page)) same in
          subst (Far marks bytes (page + 1)) (sym w.writer-is) (
            far.0 ++ head (page * 4096) w.page_at.result.now,
            (subst (λ (m : List ℕ). Holds256 w.piece.new.self.sum m) (append_assoc far.0 (piece_head (page * 4096) (length w.page_at.result.now)) w.page_at.result.now) (w.piece.ensures.sum far.0 far.1.0), written_on far.0 (head (page * 4096) w.page_at.result.now) page marks bytes (summed (pieces_of marks bytes)) (omega (arith, c.loop-page-test.true)) w.if-marks-page-ne0.true wrote far.1.1),
          )
      | else-marks-page-ne0 w ↦
          let on = ap (λ (ps : List Piece). far.0 ++ all_bytes ps) (passed page marks bytes (omega (arith, c.loop-page-test.true)) w.if-marks-page-ne0.false) in
          subst (Far marks bytes (page + 1)) (sym w.writer-is) (far.0, (far.1.0, sym on ∙ far.1.1))
    ]
