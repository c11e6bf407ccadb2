use Rattle.std.proofs.Common.{◌≡◌, ℕ, ◌≤◌, List, length, take, drop, Option, Some, None, sym, subst, ap, ◌∙◌}
use Rattle.cola_cell.specs.declared.cell.Cell.{Cell}
use Rattle.cola_cell.specs.declared.packed.Pass.{Pass}
use Rattle.cola_cell.specs.Format.{width}
use Rattle.cola_cell.specs.Decoded.{standing}
use Rattle.cola_cell.specs.Packed.{passed, MayPass}
use Rattle.cola_window.specs.Windows.{Spells, Suits, Puts, emitted_of, pick, front_cell, window_of, act_pass}
use Rattle.cola_window.proofs.Going.{suits_picked, spelled_picked, picked_cell}
use Rattle.cola_window.proofs.windows.emit_front.Goals as goal

pub put-requires-clause-spells : goal.put-requires-clause-spells
put-requires-clause-spells c =
    let s = suits_picked c.args.format (act_pass c.args.rules c.args.link c.args.act) c.args.act.head c.args.left.own.now c.args.left.incoming.now c.args.left.sample.now c.requires.suits in
    subst (Spells c.args.format) (sym c.picked.ensures) (spelled_picked c.args.format c.args.act.head c.args.left.own.now c.args.left.incoming.now c.args.left.sample.now c.requires.own c.requires.incoming c.requires.sample s.0)

pub put-requires-clause-may : goal.put-requires-clause-may
put-requires-clause-may c =
    let s = suits_picked c.args.format (act_pass c.args.rules c.args.link c.args.act) c.args.act.head c.args.left.own.now c.args.left.incoming.now c.args.left.sample.now c.requires.suits in
    subst (λ (x : List ℕ). MayPass c.in-Some.pass (standing c.args.format x)) (sym c.picked.ensures)
    (subst (λ (p : Option Pass). Suits p (Some (standing c.args.format (take (width c.args.format) (window_of c.args.act.head c.args.left.own.now c.args.left.incoming.now c.args.left.sample.now))))) (sym c.as_pass.ensures ∙ c.in-Some.is) s.1)

pub returns-in-Some-clause-puts : goal.returns-in-Some-clause-puts
returns-in-Some-clause-puts c =
    let s = suits_picked c.args.format (act_pass c.args.rules c.args.link c.args.act) c.args.act.head c.args.left.own.now c.args.left.incoming.now c.args.left.sample.now c.requires.suits in
    let e : emitted_of (act_pass c.args.rules c.args.link c.args.act) (pick c.args.act.head (front_cell c.args.format c.args.left.own.now) (front_cell c.args.format c.args.left.incoming.now) (front_cell c.args.format c.args.left.sample.now))
    ≡ Some (passed c.in-Some.pass (standing c.args.format c.picked.result.now)) =
    ap (λ (o : Option Cell). emitted_of (act_pass c.args.rules c.args.link c.args.act) o) (picked_cell c.args.format c.args.act.head c.args.left.own.now c.args.left.incoming.now c.args.left.sample.now s.0)
    ∙ ap (λ (p : Option Pass). emitted_of p (Some (standing c.args.format (take (width c.args.format) (window_of c.args.act.head c.args.left.own.now c.args.left.incoming.now c.args.left.sample.now))))) (sym c.as_pass.ensures ∙ c.in-Some.is)
    ∙ ap (λ (x : List ℕ). Some (passed c.in-Some.pass (standing c.args.format x))) (sym c.picked.ensures) in
    subst (λ (o : Option Cell). Puts c.args.format c.args.at o c.put.new.room) (sym e) c.put.ensures.cell
