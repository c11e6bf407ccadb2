use Rattle.std.proofs.Common.{ℕ, List, sym, ap, subst}
use Rattle.std.specs.Prelude.{Option}
use Rattle.cola_image.specs.Standing.{FileStandsFor}
use Rattle.cola_mapped.specs.Region.{bytes_in}
use Rattle.cola_store.specs.Store.{terms_of}
use Rattle.cola_handle.specs.Lent.{HasTerms}
use Rattle.cola_handle.specs.Marks.{AreMarked, marks_in}
use Rattle.cola_handle.specs.Open.{first_of, first_marks_of, closing_blocks}
use Rattle.cola_handle.proofs.FewMarks.{closed-marked}
use Rattle.cola_handle.proofs.Openings.{closed-terms}
use Rattle.cola_handle.proofs.opening.close.Goals as goal

pub returns-clause-given : goal.returns-clause-given
returns-clause-given c = record { device = c.in-Ok.device; closes = c.in-Ok.ensures.given; bytes_are = ap bytes_in c.give_back.ensures.bytes }

pub returns-clause-stands : goal.returns-clause-stands
returns-clause-stands c = λ m holds.
    subst (λ (b : Option (List ℕ)). FileStandsFor (bytes_in b) m) (sym c.give_back.ensures.bytes) (c.in-Ok.ensures.given.stands m holds)

pub returns-clause-terms : goal.returns-clause-terms
returns-clause-terms c =
    subst (λ (b : Option (List ℕ)). HasTerms (terms_of c.args.session.kv.store) (bytes_in b)) (sym c.give_back.ensures.bytes) (closed-terms _ _ c.in-Ok.ensures.given)

pub returns-clause-marked : goal.returns-clause-marked
returns-clause-marked c =
    subst (λ (b : Option (List ℕ)). AreMarked (first_marks_of c.args.session) (first_of c.args.session) (closing_blocks c.args.session) (marks_in c.give_back.result.1) (bytes_in b)) (sym c.give_back.ensures.bytes)
    (closed-marked (marks_in c.give_back.result.1) c.in-Ok.device.device.bytes c.args.session c.in-Ok.device c.in-Ok.ensures.given c.in-Ok.ensures.kept c.give_back.ensures.marked)
