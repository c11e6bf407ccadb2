use Rattle.std.proofs.Common.{◌≡◌, ℕ, ◌+◌, ◌<◌, ◌≤◌, Bool, true, false, List, length, take, drop, Option, Some, None, refl, ap, sym, subst, ◌∙◌, arith, rules}
use Rattle.cola_cell.specs.declared.cell.Cell.{Cell}
use Rattle.cola_cell.specs.declared.cell.Reader.TheVariants.{Own, Incoming, Sample}
use Rattle.cola_cell.specs.Cell.{key_of}
use Rattle.cola_cell.specs.Order.{key_cmp}
use Rattle.cola_cell.specs.Format.{width}
use Rattle.cola_cell.specs.Decoded.{standing}
use Rattle.cola_cell.specs.Packed.{passed}
use Rattle.cola_cell.specs.Held.{as_cell}
use Rattle.cola_cell.specs.Spelling.{IsSpelling}
use Rattle.cola_runs.specs.Steps as laws
use Rattle.cola_window.specs.Windows.{front_cell, above_front, as_head, as_action, asked, pick, ActSuits, ActsLeast, ActsItemOrLook, part_of}
use Rattle.cola_window.proofs.Fronts.{front_is, front_by, no_front, long_front, spelled, above_some}
use Rattle.cola_window.proofs.Fronts.{least_is}
use Rattle.std.specs.declared.cmp.Ordering.TheVariants.{Less, Equal, Greater}
use Rattle.std.specs.Option.{option_map}
use Rattle.cola_window.proofs.windows.emit_least.Goals as goal

pub returns-then-has_front-clause-suits : goal.returns-then-has_front-clause-suits
returns-then-has_front-clause-suits c = λ link.
    let z = front_is c.args.format c.args.sample.now c.has_front-then-not-has_front-2.result c.has_front-then-not-has_front-2.ensures c.if-has_front.true in
    subst (λ (o : Option Cell). ActSuits c.args.rules link (front_cell c.args.format c.args.own.now) (front_cell c.args.format c.args.incoming.now) o c.look.result) (sym z) (c.look.ensures.suits c.args.rules link _ _ _)

pub returns-then-not-has_front-clause-suits : goal.returns-then-not-has_front-clause-suits
returns-then-not-has_front-clause-suits c = λ link.
    let y = front_by c.args.format c.args.incoming.now c.has_front-then-not-has_front.result c.front.result.now c.has_front-then-not-has_front.ensures c.if-not-has_front-2.false c.front.ensures in
    c.emit_item_or_look.ensures.suits (front_cell c.args.format c.args.own.now) _ _ y refl link

pub returns-then-not-has_front-3-clause-suits : goal.returns-then-not-has_front-3-clause-suits
returns-then-not-has_front-3-clause-suits c = λ link.
    let x = front_by c.args.format c.args.own.now c.has_front.result c.front-cell.result.now c.has_front.ensures c.if-not-has_front.false c.front-cell.ensures in
    c.emit_item_or_look-then-not-has_front-3.ensures.suits _ (front_cell c.args.format c.args.incoming.now) _ x refl link

pub cmp_keys_in-requires-clause-left : goal.cmp_keys_in-requires-clause-left
cmp_keys_in-requires-clause-left c = spelled c.args.format c.args.own.now c.has_front.result c.front-cell.result.now c.has_front.ensures c.if-not-has_front.false c.front-cell.ensures c.requires.own

pub cmp_keys_in-requires-clause-right : goal.cmp_keys_in-requires-clause-right
cmp_keys_in-requires-clause-right c = spelled c.args.format c.args.incoming.now c.has_front-2.result c.front-newer.result.now c.has_front-2.ensures c.if-not-has_front-3.false c.front-newer.ensures c.requires.incoming

pub emit_item_or_look-requires-in-Less-clause-cell : goal.emit_item_or_look-requires-in-Less-clause-cell
emit_item_or_look-requires-in-Less-clause-cell c = spelled c.args.format c.args.own.now c.has_front.result c.front-cell.result.now c.has_front.ensures c.if-not-has_front.false c.front-cell.ensures c.requires.own

pub emit_item_or_look-requires-in-Greater-clause-cell : goal.emit_item_or_look-requires-in-Greater-clause-cell
emit_item_or_look-requires-in-Greater-clause-cell c = spelled c.args.format c.args.incoming.now c.has_front-2.result c.front-newer.result.now c.has_front-2.ensures c.if-not-has_front-3.false c.front-newer.ensures c.requires.incoming

pub returns-in-Less-clause-act : goal.returns-in-Less-clause-act
returns-in-Less-clause-act c = λ link.
    let x = front_by c.args.format c.args.own.now c.has_front.result c.front-cell.result.now c.has_front.ensures c.if-not-has_front.false c.front-cell.ensures in
    let y = front_by c.args.format c.args.incoming.now c.has_front-2.result c.front-newer.result.now c.has_front-2.ensures c.if-not-has_front-3.false c.front-newer.ensures in
    c.emit_item_or_look-in-Less.ensures.act link (front_cell c.args.format c.args.own.now) (front_cell c.args.format c.args.incoming.now) (front_cell c.args.format c.args.sample.now) x refl
    ∙ sym (least_is Less c.args.rules link (front_cell c.args.format c.args.own.now) (front_cell c.args.format c.args.incoming.now) (option_map key_of (front_cell c.args.format c.args.sample.now)) (standing c.args.format c.front-cell.result.now) (standing c.args.format c.front-newer.result.now) x y (sym c.cmp_keys_in.ensures ∙ c.in-Less.is))

pub returns-in-Less-clause-suits : goal.returns-in-Less-clause-suits
returns-in-Less-clause-suits c = λ link.
    let x = front_by c.args.format c.args.own.now c.has_front.result c.front-cell.result.now c.has_front.ensures c.if-not-has_front.false c.front-cell.ensures in
    c.emit_item_or_look-in-Less.ensures.suits _ (front_cell c.args.format c.args.incoming.now) _ x refl link

pub returns-in-Equal-clause-act : goal.returns-in-Equal-clause-act
returns-in-Equal-clause-act c = λ link.
    let x = front_by c.args.format c.args.own.now c.has_front.result c.front-cell.result.now c.has_front.ensures c.if-not-has_front.false c.front-cell.ensures in
    let y = front_by c.args.format c.args.incoming.now c.has_front-2.result c.front-newer.result.now c.has_front-2.ensures c.if-not-has_front-3.false c.front-newer.ensures in
    c.pass.ensures.act c.args.rules link (front_cell c.args.format c.args.own.now) (front_cell c.args.format c.args.incoming.now) (front_cell c.args.format c.args.sample.now)
    ∙ sym (least_is Equal c.args.rules link (front_cell c.args.format c.args.own.now) (front_cell c.args.format c.args.incoming.now) (option_map key_of (front_cell c.args.format c.args.sample.now)) (standing c.args.format c.front-cell.result.now) (standing c.args.format c.front-newer.result.now) x y (sym c.cmp_keys_in.ensures ∙ c.in-Equal.is))

pub returns-in-Equal-clause-suits : goal.returns-in-Equal-clause-suits
returns-in-Equal-clause-suits c = λ link.
    let x = front_by c.args.format c.args.own.now c.has_front.result c.front-cell.result.now c.has_front.ensures c.if-not-has_front.false c.front-cell.ensures in
    c.pass.ensures.suits c.args.rules link _ (front_cell c.args.format c.args.incoming.now) (front_cell c.args.format c.args.sample.now) _ x

pub returns-in-Greater-clause-act : goal.returns-in-Greater-clause-act
returns-in-Greater-clause-act c = λ link.
    let x = front_by c.args.format c.args.own.now c.has_front.result c.front-cell.result.now c.has_front.ensures c.if-not-has_front.false c.front-cell.ensures in
    let y = front_by c.args.format c.args.incoming.now c.has_front-2.result c.front-newer.result.now c.has_front-2.ensures c.if-not-has_front-3.false c.front-newer.ensures in
    c.emit_item_or_look-in-Greater.ensures.act link (front_cell c.args.format c.args.own.now) (front_cell c.args.format c.args.incoming.now) (front_cell c.args.format c.args.sample.now) y refl
    ∙ sym (least_is Greater c.args.rules link (front_cell c.args.format c.args.own.now) (front_cell c.args.format c.args.incoming.now) (option_map key_of (front_cell c.args.format c.args.sample.now)) (standing c.args.format c.front-cell.result.now) (standing c.args.format c.front-newer.result.now) x y (sym c.cmp_keys_in.ensures ∙ c.in-Greater.is))

pub returns-in-Greater-clause-suits : goal.returns-in-Greater-clause-suits
returns-in-Greater-clause-suits c = λ link.
    let y = front_by c.args.format c.args.incoming.now c.has_front-2.result c.front-newer.result.now c.has_front-2.ensures c.if-not-has_front-3.false c.front-newer.ensures in
    c.emit_item_or_look-in-Greater.ensures.suits (front_cell c.args.format c.args.own.now) _ _ y refl link
