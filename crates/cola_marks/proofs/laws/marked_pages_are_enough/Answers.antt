use Rattle.std.proofs.Common.{◌∙◌, ⊎_elim, sym, length}
use Rattle.std.specs.Prelude.{slice_index}
use Rattle.std.proofs.lemmas.Bool.{cases_eq}
use Rattle.cola_marks.proofs.PageLemmas.{pages_tell}
use Rattle.cola_marks.proofs.laws.marked_pages_are_enough.Goals as goal

pub returns : goal.returns
returns c marks before now file same as_many covered new old =
    pages_tell file now (length marks) as_many covered
    (λ page there. ⊎_elim (λ clear. old page there clear ∙ sym (same page there clear)) (λ set. new page there set) (cases_eq (slice_index marks page) 0))
