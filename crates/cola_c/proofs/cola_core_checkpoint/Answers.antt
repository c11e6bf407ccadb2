use Rattle.std.proofs.Common.{rules, ℕ, ◌≡◌, ◌∙◌, refl, sym, subst}
use Rattle.std.proofs.lemmas.Option.{same_Some}
use denote.RawPtr.{Ptr}
use Rattle.cola_mapped.specs.Region.{bytes_in}
use Rattle.cola_kv.specs.Opened.{IsOpen}
use Rattle.cola_store.specs.Store.{terms_of}
use Rattle.cola_handle.specs.declared.session.Session.{Session}
use Rattle.cola_handle.specs.Open.{lent_device, lent_with}
use Rattle.cola_handle.proofs.Openings.{same-terms, terms-left}
use Rattle.cola_c.specs.Exports.{Checkpoints, Unfinished}
use Rattle.cola_c.proofs.Inside.{inside}
use Rattle.cola_c.proofs.cola_core_checkpoint.Goals as goal

pub returns-in-Ok-clause-done : goal.returns-in-Ok-clause-done
returns-in-Ok-clause-done c = λ old was new now.
    let is : c.into_inner.result ≡ old = c.into_inner.ensures ∙ inside _ old _ was c.in-Some.ensures.taken in
    let then : c.in-Ok.session.value ≡ new = same_Some _ _ (sym c.put.ensures ∙ now) in
    let first : Session = c.into_inner.result in
    let last : Session = c.in-Ok.session.value in (
      search (rules, c.code-in-Ok.ensures),
      refl,
      subst (λ (o : Session). Checkpoints o new) is (subst (λ (n : Session). Checkpoints first n) then (record {
        closed = bytes_in c.close-bytes.result.0.bytes;
        closes = c.close-bytes.ensures.given;
        marks = c.close-bytes.result.1;
        pages = c.close-bytes.ensures.marked;
        were_lent = record { bytes_are = c.in-Ok.ensures.first; marks_are = c.in-Ok.ensures.first_marks };
        marks_place = c.in-Ok.ensures.marks_place ∙ c.close-bytes.ensures.marks_place;
        stood = c.close-bytes.ensures.stands;
        marked = c.in-Ok.ensures.marked;
        again = subst (λ (p : Ptr × ℕ). IsOpen lent_device (lent_with p.0 p.1 (bytes_in c.close-bytes.result.0.bytes) c.close-bytes.result.1) 0 last.kv) c.close-bytes.ensures.place c.in-Ok.ensures.opens;
        holds = λ m held. c.in-Ok.ensures.holds m (c.close-bytes.ensures.stands m held);
        stays = record {
          terms_are = same-terms (terms_of last.kv.store) (terms_of first.kv.store) (bytes_in c.close-bytes.result.0.bytes) c.in-Ok.ensures.terms c.close-bytes.ensures.terms;
          place_is = c.in-Ok.ensures.place ∙ c.close-bytes.ensures.place;
        };
      })),
    )

pub returns-in-Err-clause-refused : goal.returns-in-Err-clause-refused
returns-in-Err-clause-refused c = λ old was none.
    let is : c.into_inner.result ≡ old = c.into_inner.ensures ∙ inside _ old _ was c.in-Some.ensures.taken in record {
      answer = c.in-Err.answer;
      number_is = search (rules, c.code-in-Err.ensures);
      says = subst (λ (o : Session). Unfinished o c.in-Err.left c.in-Err.answer) is (record {
        closed = bytes_in c.close-bytes.result.0.bytes;
        closes = c.close-bytes.ensures.given;
        cause = c.in-Err.ensures.cause;
        only = λ m held. c.in-Err.ensures.only m (c.close-bytes.ensures.stands m held);
        left = c.in-Err.ensures.left;
        terms = terms-left _ (bytes_in c.close-bytes.result.0.bytes) (bytes_in c.in-Err.left.bytes) c.in-Err.answer c.close-bytes.ensures.terms c.in-Err.ensures.left;
        stands = λ m held. c.in-Err.ensures.stands m (c.close-bytes.ensures.stands m held);
        lent = c.in-Err.ensures.back;
        place = cc (c.close-bytes.ensures.place, c.in-Err.ensures.back_at, c.in-Err.ensures.back_len);
      });
    }
