use Rattle.std.proofs.Common.{◌∙◌, ⊎_elim, arith}
use Rattle.std.specs.Prelude.{slice_index}
use Rattle.std.proofs.lemmas.Bool.{cases_eq}
use Rattle.cola_marks.proofs.laws.sessions_join.Goals as goal

pub returns : goal.returns
returns c first second before between now same stay later page there clear =
    ⊎_elim
    (λ was_clear. later page there clear ∙ same page (omega (arith, there, stay.many)) was_clear)
    (λ was_set. absurd (stay.stay page (omega (arith, there, stay.many)) was_set clear))
    (cases_eq (slice_index first page) 0)
