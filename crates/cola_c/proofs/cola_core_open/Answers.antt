use Rattle.std.proofs.Common.{rules, ◌≡◌, ◌∙◌, Option, None, sym, ap, subst}
use Rattle.std.proofs.lemmas.Option.{same_Some}
use Rattle.cola_mapped.specs.declared.lent.Lent.{Lent}
use Rattle.cola_mapped.specs.declared.region.Region.{Region}
use Rattle.cola_mapped.specs.Region.{bytes_in}
use Rattle.cola_kv.specs.Opened.{IsOpen}
use Rattle.cola_handle.specs.Open.{lent_device, lent_with}
use Rattle.cola_handle.specs.declared.session.Session.{Session}
use Rattle.cola_c.specs.Exports.{Opens, IsRefused}
use Rattle.cola_c.proofs.cola_core_open.Goals as goal

pub returns-in-Ok-clause-opened : goal.returns-in-Ok-clause-opened
returns-in-Ok-clause-opened c = λ none session now.
    let is : c.replace-bytes.result ≡ c.args.region.now = c.replace-bytes.ensures.value in
    let then : c.in-Ok.session.value ≡ session = same_Some _ _ (sym c.put.ensures ∙ now) in (
      search (rules, c.code-in-Ok.ensures),
      ap (λ (r : Region). r.bytes) c.replace-bytes.ensures.after ∙ c.none.ensures,
      subst (λ (r : Region). Opens r None session) is (subst (λ (s : Session). Opens c.replace-bytes.result None s) then (record {
        given = subst (λ (l : Option Lent). IsOpen lent_device (lent_with c.replace-bytes.result.at c.replace-bytes.result.len (bytes_in c.replace-bytes.result.bytes) l) 0 c.in-Ok.session.value.kv) c.none-2.ensures c.in-Ok.ensures.opens;
        terms = c.in-Ok.ensures.terms;
        marked = c.in-Ok.ensures.marked;
        place = c.in-Ok.ensures.place;
        holds = c.in-Ok.ensures.holds;
      })),
    )

pub returns-in-Err-clause-refused : goal.returns-in-Err-clause-refused
returns-in-Err-clause-refused c = λ none closed.
    let is : c.replace-bytes.result ≡ c.args.region.now = c.replace-bytes.ensures.value in record {
      answer = c.in-Err.answer;
      number_is = search (rules, c.code-in-Err.ensures);
      says = subst (λ (r : Region). IsRefused r c.in-Err.bytes c.in-Err.answer) is (record {
        cause = c.in-Err.ensures.cause;
        only = c.in-Err.ensures.only;
        left = c.in-Err.ensures.left;
        stands = c.in-Err.ensures.stands;
        lent = c.in-Err.ensures.back;
        at_stays = c.in-Err.ensures.back_at;
        len_stays = c.in-Err.ensures.back_len;
      });
    }
