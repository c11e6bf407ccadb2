-- How many pages have a mark behind a session.
use Rattle.std.proofs.Common.{◌≡◌, ◌∙◌, ℕ, ◌+◌, ◌*◌, ◌<◌, ◌≤◌, List, length, take, sym, ap, subst, arith}
use Rattle.cola_device.specs.declared.counts.Counts.{Counts}
use Rattle.cola_layout.specs.Fields.{fields_of}
use Rattle.cola_mapped.specs.declared.region.Region.{Region}
use Rattle.cola_mapped.specs.Region.{bytes_in}
use Rattle.cola_marks.specs.Pages.{marked}
use Rattle.cola_store.specs.Open.{WasClosed}
use Rattle.cola_store.specs.Transfers.{IsCounting}
use Rattle.cola_store.proofs.OpenLaws.{fits}
use Rattle.cola_kv.specs.Kv.{WritesWithin, steps_of, opened_of}
use Rattle.cola_handle.specs.declared.session.Session.{Session}
use Rattle.cola_handle.specs.Open.{lent_device, first_of, first_marks_of, closing_blocks}
use Rattle.cola_c.specs.Marked.{session_blocks, FewPagesAreMarked}
use Rattle.cola_c.proofs.Staying.{lent_stays}

pub few_marked : (last : Session) → (IsCounting last.kv.store → WritesWithin lent_device (steps_of last.kv) last.kv) → FewPagesAreMarked last
few_marked last within before marks now marks_now first opens stays counting gives less =
    let lent = lent_stays first last stays in
    let bytes_are : first_of last ≡ bytes_in before.bytes = lent.0.bytes_are ∙ opens.were_lent.bytes_are in
    let marks_are : first_marks_of last ≡ bytes_in marks.bytes = lent.0.marks_are ∙ opens.were_lent.marks_are in
    let none : (opened_of last.kv).writes ≡ 0 = ap (λ (c : Counts). c.writes) stays.opened_is ∙ ap (λ (c : Counts). c.writes) opens.opens.given.opened_is in
    let most : closing_blocks last ≤ session_blocks last = omega (arith, within counting, none) in
    let terms = opens.opens.terms in
    let long : 512 ≤ length (bytes_in before.bytes) = fits (fields_of terms.header) (bytes_in before.bytes) (take 512 (bytes_in before.bytes)) terms.was.has.spelled terms.was.has.whole in
    let some : 0 < length (first_of last) = subst (λ (b : List ℕ). 0 < length b) (sym bytes_are) (omega (arith, long)) in
    let few : marked (bytes_in marks_now.bytes) ≤ marked (first_marks_of last) + 17 * closing_blocks last = gives.marked.few some (omega (arith, most, less)) in
    subst (λ (ms : List ℕ). marked (bytes_in marks_now.bytes) ≤ marked ms + 17 * session_blocks last) marks_are (omega (arith, few, most))
