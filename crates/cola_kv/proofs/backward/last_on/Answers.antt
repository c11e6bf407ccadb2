use Rattle.std.proofs.Common.{◌≡◌, ◌∙◌, ap, Ok, Err, refl, arith}
use Rattle.cola_cursor.specs.Lines.{all_left}
use Rattle.cola_kv.specs.Errors.{of_read}
use Rattle.cola_kv.proofs.Falling.{lasts-asked, lasts-err}
use Rattle.cola_kv.proofs.backward.last_on.Goals as goal

pub returns-in_err-pair : goal.returns-in_err-pair
returns-in_err-pair g c =
    let f = c.in_err-pair.field-0.0 in
    lasts-err g.D.Device c.args.kv.now _ c.from_residual-in_err-pair.result (of_read f) c.from_residual-in_err-pair.ensures.1
    (lasts-asked g.D.Device c.args.kv.now _ c.range_back.new.self refl c.range_back.ensures.kept c.next.ensures.kept c.next.ensures.call.faults_kept c.in_ok-walk.walk c.next.new.walk _ _ _
    c.in_ok-walk.ensures.given (c.range_back.ensures.unread refl) c.in_ok-walk.ensures.answer c.next.ensures.sound
    (Err f) c.in_err-pair.ensures.given c.in_err-pair.ensures.answer c.next.ensures.call.within tt c.in_err-pair.ensures.faults tt refl)

pub returns : goal.returns
returns g c =
    let before : c.cells_left-left.result ≡ all_left c.in_ok-walk.walk.lines.items = c.cells_left-left.ensures ∙ ap all_left c.as_slice.ensures.value in
    let now : c.cells_left.result ≡ all_left c.next.new.walk.lines.items = c.cells_left.ensures ∙ ap all_left c.as_slice-2.ensures.value in
    let left = c.in_ok-pair.ensures.left in
    let steps = c.next.ensures.call.steps_kept in
    lasts-asked g.D.Device c.args.kv.now _ c.range_back.new.self refl c.range_back.ensures.kept c.next.ensures.kept c.next.ensures.call.faults_kept c.in_ok-walk.walk c.next.new.walk _ _ _
    c.in_ok-walk.ensures.given (c.range_back.ensures.unread refl) c.in_ok-walk.ensures.answer c.next.ensures.sound
    (Ok c.in_ok-pair.pair) c.in_ok-pair.ensures.given c.in_ok-pair.ensures.answer c.next.ensures.call.within left c.in_ok-pair.ensures.faults (omega (arith, before, now, left, steps)) tt
