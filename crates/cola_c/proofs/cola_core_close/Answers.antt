use Rattle.std.proofs.Common.{rules, ◌≡◌, ◌∙◌, subst}
use Rattle.cola_handle.specs.declared.session.Session.{Session}
use Rattle.cola_c.specs.Exports.{Closes}
use Rattle.cola_c.proofs.Inside.{inside}
use Rattle.cola_c.proofs.cola_core_close.Goals as goal

pub returns-clause-done : goal.returns-clause-done
returns-clause-done c = λ session was.
    let is : c.into_inner.result ≡ session = c.into_inner.ensures ∙ inside _ session _ was c.in-Some.ensures.taken in (
      search (rules, c.code-2.ensures),
      subst (λ (o : Session). Closes o c.close-bytes.result.0) is (record {
        given = c.close-bytes.ensures.given;
        terms = c.close-bytes.ensures.terms;
        stands = c.close-bytes.ensures.stands;
        lent = c.close-bytes.ensures.lent;
        place = c.close-bytes.ensures.place;
      }),
    )
