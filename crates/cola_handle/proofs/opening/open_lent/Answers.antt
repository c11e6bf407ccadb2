use Rattle.std.proofs.Common.{◌≡◌, ◌∙◌, ℕ, List, sym, ap, subst}
use Rattle.std.specs.Prelude.{is_some}
use Rattle.cola_image.specs.Standing.{FileStandsFor}
use Rattle.cola_mapped.specs.Mapped.{Mapped}
use Rattle.cola_kv.specs.Opened.{IsOpen}
use Rattle.cola_mapped.specs.Region.{bytes_in}
use Rattle.cola_handle.specs.declared.session.Session.{Session}
use Rattle.cola_store.specs.Store.{terms_of}
use Rattle.cola_table.specs.Terms.{Terms}
use Rattle.cola_handle.specs.Lent.{IsClosedStore, HasTerms, OpenCause}
use Rattle.cola_handle.specs.Open.{LentDevice, lent_device, lent_with, HoldsMap}
use Rattle.cola_handle.proofs.Openings.{left-same, same-terms}
use Rattle.cola_handle.specs.Marks.{AreMarked, marks_in}
use Rattle.cola_handle.specs.Open.{first_of, first_marks_of, closing_blocks}
use Rattle.cola_handle.proofs.FewMarks.{lent-few, closed-few}
use Rattle.cola_handle.proofs.Lending.{over-is}
use Rattle.cola_handle.proofs.opening.open_lent.Goals as goal

pub returns-in-Err-clause-cause : goal.returns-in-Err-clause-cause
returns-in-Err-clause-cause c =
    subst (λ (b : List ℕ). OpenCause b c.in-Err.refusal.2) ((ap (λ (d : LentDevice). d.device.bytes) c.over-device.ensures ∙ ap (λ (d : Mapped). d.bytes) c.over.ensures)) c.in-Err.ensures.cause

pub returns-in-Err-clause-only : goal.returns-in-Err-clause-only
returns-in-Err-clause-only c = λ m stands. c.in-Err.ensures.only m (subst (λ (b : List ℕ). FileStandsFor b m) (sym ((ap (λ (d : LentDevice). d.device.bytes) c.over-device.ensures ∙ ap (λ (d : Mapped). d.bytes) c.over.ensures))) stands)

pub returns-in-Err-clause-left : goal.returns-in-Err-clause-left
returns-in-Err-clause-left c = left-same _ _ c.in-Err.refusal.2 (ap bytes_in c.in-Err.ensures.back ∙ (ap (λ (d : LentDevice). d.device.bytes) c.over-device.ensures ∙ ap (λ (d : Mapped). d.bytes) c.over.ensures))

pub returns-in-Err-clause-stands : goal.returns-in-Err-clause-stands
returns-in-Err-clause-stands c = λ m stands.
    subst (λ (b : List ℕ). FileStandsFor b m) (sym (ap bytes_in c.in-Err.ensures.back ∙ (ap (λ (d : LentDevice). d.device.bytes) c.over-device.ensures ∙ ap (λ (d : Mapped). d.bytes) c.over.ensures))) stands

pub returns-in-Err-clause-back : goal.returns-in-Err-clause-back
returns-in-Err-clause-back c = ap is_some c.in-Err.ensures.back

pub returns-in-Ok-new-clause-holds : goal.returns-in-Ok-new-clause-holds
returns-in-Ok-new-clause-holds c = λ m stands.
    subst (λ (s : Session). HoldsMap s m) (sym c.in-Ok-new.ensures.ok) (c.in-Ok.ensures.holds m (subst (λ (b : List ℕ). FileStandsFor b m) (sym ((ap (λ (d : LentDevice). d.device.bytes) c.over-device.ensures ∙ ap (λ (d : Mapped). d.bytes) c.over.ensures))) stands))

pub returns-in-Ok-new-clause-terms : goal.returns-in-Ok-new-clause-terms
returns-in-Ok-new-clause-terms c =
    subst (λ (s : Session). HasTerms (terms_of s.kv.store) (bytes_in c.args.lent.bytes)) (sym c.in-Ok-new.ensures.ok)
    (subst (λ (b : List ℕ). HasTerms (terms_of c.in-Ok.kv.store) b) ((ap (λ (d : LentDevice). d.device.bytes) c.over-device.ensures ∙ ap (λ (d : Mapped). d.bytes) c.over.ensures)) c.in-Ok.ensures.terms)

pub returns-in-Err-new-clause-cause : goal.returns-in-Err-new-clause-cause
returns-in-Err-new-clause-cause c = subst IsClosedStore ((ap (λ (d : LentDevice). d.device.bytes) c.over-device.ensures ∙ ap (λ (d : Mapped). d.bytes) c.over.ensures)) (c.in-Ok.ensures.terms.header, c.in-Ok.ensures.terms.was)

pub returns-in-Err-new-clause-left : goal.returns-in-Err-new-clause-left
returns-in-Err-new-clause-left c =
    let over : c.over-device.result.device.bytes ≡ bytes_in c.args.lent.bytes = (ap (λ (d : LentDevice). d.device.bytes) c.over-device.ensures ∙ ap (λ (d : Mapped). d.bytes) c.over.ensures) in
    let opened : HasTerms (terms_of c.in-Ok.kv.store) (bytes_in c.args.lent.bytes) = subst (λ (b : List ℕ). HasTerms (terms_of c.in-Ok.kv.store) b) over c.in-Ok.ensures.terms in
    let closed : HasTerms (terms_of c.in-Ok.kv.store) (bytes_in c.close-region.result.0.bytes) =
    subst (λ (s : Session). HasTerms (terms_of s.kv.store) (bytes_in c.close-region.result.0.bytes)) c.in-Err-new.ensures.value_returned c.close-region.ensures.terms in
    record {
      terms_stay = λ terms has. subst (λ (t : Terms). HasTerms t (bytes_in c.close-region.result.0.bytes)) (same-terms (terms_of c.in-Ok.kv.store) terms (bytes_in c.args.lent.bytes) opened has) closed;
      map_stays = λ m stands. c.close-region.ensures.stands m
          (subst (λ (s : Session). HoldsMap s m) (sym c.in-Err-new.ensures.value_returned) (c.in-Ok.ensures.holds m (subst (λ (b : List ℕ). FileStandsFor b m) (sym over) stands)));
    }

pub returns-in-Err-new-clause-stands : goal.returns-in-Err-new-clause-stands
returns-in-Err-new-clause-stands c = λ m stands. c.close-region.ensures.stands m
    (subst (λ (s : Session). HoldsMap s m) (sym c.in-Err-new.ensures.value_returned) (c.in-Ok.ensures.holds m (subst (λ (b : List ℕ). FileStandsFor b m) (sym ((ap (λ (d : LentDevice). d.device.bytes) c.over-device.ensures ∙ ap (λ (d : Mapped). d.bytes) c.over.ensures))) stands)))

pub returns-in-Ok-new-clause-opens : goal.returns-in-Ok-new-clause-opens
returns-in-Ok-new-clause-opens c =
    subst (λ (s : Session). IsOpen lent_device (lent_with c.args.lent.at c.args.lent.len (bytes_in c.args.lent.bytes) c.args.marks) 0 s.kv) (sym c.in-Ok-new.ensures.ok)
    (subst (λ (d : LentDevice). IsOpen lent_device d 0 c.in-Ok.kv) (over-is c.over-device.result c.over.result c.args.lent.at c.args.lent.len (bytes_in c.args.lent.bytes) c.args.marks c.over-device.ensures c.over.ensures) c.in-Ok.ensures.opens)

pub returns-in-Err-clause-back_marked : goal.returns-in-Err-clause-back_marked
returns-in-Err-clause-back_marked c =
    lent-few (marks_in c.in-Err.refusal.1) (bytes_in c.in-Err.refusal.0.bytes) c.args.lent.at c.args.lent.len (bytes_in c.args.lent.bytes) c.args.marks c.over-device.result
    (over-is c.over-device.result c.over.result c.args.lent.at c.args.lent.len (bytes_in c.args.lent.bytes) c.args.marks c.over-device.ensures c.over.ensures) c.in-Err.ensures.back_marked

pub returns-in-Err-new-clause-back_marked : goal.returns-in-Err-new-clause-back_marked
returns-in-Err-new-clause-back_marked c =
    let its = marks_in c.close-region.result.1 in
    let now = bytes_in c.close-region.result.0.bytes in
    let session : Session = record { kv = c.in-Ok.kv } in
    closed-few its now c.args.lent.at c.args.lent.len (bytes_in c.args.lent.bytes) c.args.marks c.over-device.result
    (over-is c.over-device.result c.over.result c.args.lent.at c.args.lent.len (bytes_in c.args.lent.bytes) c.args.marks c.over-device.ensures c.over.ensures) session c.in-Ok.ensures.opens c.in-Ok.ensures.kept
    (subst (λ (s : Session). AreMarked (first_marks_of s) (first_of s) (closing_blocks s) its now) c.in-Err-new.ensures.value_returned c.close-region.ensures.marked)
