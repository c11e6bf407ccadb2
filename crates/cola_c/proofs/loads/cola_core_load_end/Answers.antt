use Rattle.std.proofs.Common.{rules, ◌≡◌, ◌∙◌, ap, subst}
use Rattle.cola_tools.specs.Loading.{Loads}
use Rattle.cola_c.specs.Loads.{EndsLoad}
use Rattle.cola_c.proofs.LoadInside.{load-inside}
use Rattle.cola_c.proofs.loads.cola_core_load_end.Goals as goal

pub returns-clause-done : goal.returns-clause-done
returns-clause-done c = λ load was.
    let is : c.into_inner.result ≡ load = c.into_inner.ensures ∙ load-inside _ load _ was c.in-Some.ensures.taken in (
      search (rules, c.code-2.ensures),
      subst (λ (o : Loads). EndsLoad o c.end-bytes.result.0) is (record {
        made = c.end-bytes.ensures.made;
        lent = c.end-bytes.ensures.back;
        place = c.end-bytes.ensures.place;
      }),
      c.end-bytes.ensures.rows ∙ ap (λ (o : Loads). o.loader.rows) is,
    )
