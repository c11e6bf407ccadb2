use Rattle.std.proofs.Common.{rules, ◌≡◌, ◌∙◌, ℕ, List, sym, ap, subst}
use Rattle.std.proofs.lemmas.Option.{same_Some}
use Rattle.cola_mapped.specs.declared.region.Region.{Region}
use Rattle.cola_mapped.specs.Region.{bytes_in}
use Rattle.cola_handle.specs.declared.session.Session.{Session}
use Rattle.cola_handle.specs.Marks.{Place, AreMarked, refused_blocks, marks_in}
use Rattle.cola_c.specs.Marked.{OpensMarked, IsMarkedRefused}
use Rattle.cola_c.proofs.Placing.{some_there, placed}
use Rattle.cola_c.proofs.marked.cola_core_open_marked.Goals as goal

pub returns-in-Ok-clause-opened : goal.returns-in-Ok-clause-opened
returns-in-Ok-clause-opened c = λ none session now.
    let is : c.replace-bytes.result ≡ c.args.region.now = c.replace-bytes.ensures.value in
    let its : c.replace.result ≡ c.args.marks.now = c.replace.ensures.value in
    let then : c.in-Ok.session.value ≡ session = same_Some _ _ (sym c.put.ensures ∙ now) in (
      search (rules, c.code-in-Ok.ensures),
      ap (λ (r : Region). r.bytes) c.replace-bytes.ensures.after ∙ c.none.ensures,
      ap (λ (r : Region). r.bytes) c.replace.ensures.after ∙ c.none-2.ensures,
      subst (λ (r : Region). OpensMarked r c.args.marks.now session) is
          (subst (λ (m : Region). OpensMarked c.replace-bytes.result m session) its
          (subst (λ (s : Session). OpensMarked c.replace-bytes.result c.replace.result s) then (record {
            lent = c.of-lent.result;
            marks_are = c.of-lent.ensures.marks;
            place_is = c.of-lent.ensures.place;
            opens = record {
              given = c.in-Ok.ensures.opens;
              terms = c.in-Ok.ensures.terms;
              marked = c.in-Ok.ensures.marked;
              place = c.in-Ok.ensures.place;
              holds = c.in-Ok.ensures.holds;
            };
            were_lent = record { bytes_are = c.in-Ok.ensures.first; marks_are = c.in-Ok.ensures.first_marks ∙ c.of-lent.ensures.marks };
            marks_place = c.in-Ok.ensures.marks_place ∙ c.of-lent.ensures.place;
          }))),
    )

pub returns-in-Err-clause-refused : goal.returns-in-Err-clause-refused
returns-in-Err-clause-refused c = λ none closed.
    let is : c.replace-bytes.result ≡ c.args.region.now = c.replace-bytes.ensures.value in
    let its : c.replace.result ≡ c.args.marks.now = c.replace.ensures.value in
    let lay = c.in-Err.ensures.back_marks ∙ c.of-lent.ensures.place in
    let here : Place = (c.into_region.result.at, c.into_region.result.len) in
    let there : Place = (c.replace.result.at, c.replace.result.len) in
    let same : here ≡ there = placed here there c.in-Err.lent lay c.into_region.ensures.place in record {
      answer = c.in-Err.answer;
      number_is = search (rules, c.code-in-Err.ensures);
      says = subst (λ (r : Region). IsMarkedRefused r c.args.marks.now c.in-Err.bytes c.into_region.result c.in-Err.answer) is
          (subst (λ (m : Region). IsMarkedRefused c.replace-bytes.result m c.in-Err.bytes c.into_region.result c.in-Err.answer) its (record {
            refused = record {
              cause = c.in-Err.ensures.cause;
              only = c.in-Err.ensures.only;
              left = c.in-Err.ensures.left;
              stands = c.in-Err.ensures.stands;
              lent = c.in-Err.ensures.back;
              at_stays = c.in-Err.ensures.back_at;
              len_stays = c.in-Err.ensures.back_len;
            };
            marked = subst (λ (ms : List ℕ). AreMarked ms (bytes_in c.replace-bytes.result.bytes) refused_blocks (bytes_in c.into_region.result.bytes) (bytes_in c.in-Err.bytes.bytes)) c.of-lent.ensures.marks
                (subst (λ (ms : List ℕ). AreMarked (marks_in c.of-lent.result) (bytes_in c.replace-bytes.result.bytes) refused_blocks ms (bytes_in c.in-Err.bytes.bytes)) (sym c.into_region.ensures.marks) c.in-Err.ensures.back_marked);
            lent = c.into_region.ensures.lent (some_there c.in-Err.lent there lay);
            at_stays = ap (λ (p : Place). p.0) same;
            len_stays = ap (λ (p : Place). p.1) same;
          }));
    }
