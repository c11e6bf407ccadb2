use Rattle.std.proofs.Common.{◌≡◌, ◌+◌, ◌<◌, suc, length, set, drop, Some, Err, refl, sym, ap, subst, ◌∙◌, arith, set-set}
use Rattle.std.proofs.lemmas.List.{set-get_or}
use Rattle.cola_cell.specs.Held.{Held}
use Rattle.cola_look.proofs.Looking.{looks_then, looks_refused, looked_none}
use Rattle.cola_cursor.specs.Passing.{NoneHas}
use Rattle.cola_cursor.specs.Saving.{cursor_at}
use Rattle.cola_cursor.proofs.Behind.{value_passes}
use Rattle.cola_cursor.proofs.First.{pass_one}
use Rattle.cola_cursor.proofs.Going.{quiet_begins, key_below, answer_going, takes_pair, went, stayed}
use Rattle.cola_cursor.proofs.Lists.{fetch_none, left_at, bad_at}
use Rattle.cola_cursor.proofs.simple.simple_step.Goals as goal

pub returns-in-Value : goal.returns-in-Value
returns-in-Value g c =
    let w = g.W.CellSource in
    let held : Held = (w.state c.args.work.now).held in
    let end = c.args.end.now in
    let olds = c.args.lines.now in
    let item = c.in-Ok.item in
    let key = c.in-Some.least.key in
    let i = c.in-Some.least.first in
    let d = c.index-lines-i-3.result in
    let news = set olds i c.pass.new.self in
    let l : i < length olds = c.if-i-lines.false in
    let n : i + 1 ≡ suc i = omega arith in
    let ready = c.are_ready.ensures c.if-not-are_ready.false in
    let least = sym c.in-Some.ensures.key in
    let quiet = quiet_begins c.args.falls held (cursor_at olds end c.args.falls) olds (fetch_none c.args.falls held olds c.requires.fit ready) in
    let p = pass_one c.args.falls held key olds i d c.pass.new.self item c.requires.fit ready l c.in-Some.ensures.first (subst (λ m. NoneHas key (drop m olds)) n (c.any_has.ensures c.if-any_has.false)) c.in-Ok.ensures.passes in
    let there = c.in-Some-item.is ∙ ap Some c.in-Value.is in
    let old = cursor_at olds end c.args.falls in
    let new = cursor_at news end c.args.falls in
    let left = left_at c.args.falls olds i d c.pass.new.self l in
    went c.args.falls w c.args.work.now c.pass.new.work old new c.args.steps.now c.pass.new.steps c.in-Ok.ensures.reading
    (Some (key, c.in-Value.value, c.in-Value.stamp)) (looks_then looked_none c.in-Ok.ensures.looks) c.requires (let a = left.1 in let b = left.2 in let r = c.in-Ok.ensures.left in omega (arith, a, b, r)) refl refl refl
    (answer_going c.args.falls quiet key least news item p) (key_below c.args.falls quiet key least)
    (value_passes c.args.falls held key c.in-Value.value c.in-Value.stamp olds news item there p)
    (takes_pair c.args.falls old new quiet key least item c.in-Value.value c.in-Value.stamp refl p there)

pub returns-in-Err : goal.returns-in-Err
returns-in-Err g c =
    let end = c.args.end.now in
    let olds = c.args.lines.now in
    let i = c.in-Some.least.first in
    let d = c.index-lines-i-3.result in
    let line = c.copy-line.result in
    let l : i < length olds = c.if-i-lines.false in
    let same = set-set olds i c.pass.new.self line ∙ ap (set olds i) c.copy-line.ensures ∙ set-get_or olds i c.index-lines-i-2.result in
    let h = c.in-Err.ensures in
    let left = left_at c.args.falls olds i d c.pass.new.self l in
    stayed c.args.falls g.W.CellSource c.args.work.now c.pass.new.work (cursor_at olds end c.args.falls) (cursor_at (set (set olds i c.pass.new.self) i line) end c.args.falls) c.args.steps.now c.pass.new.steps h.reading
    (Err c.in-Err.fault) c.in-Err.fault (looks_refused c.in-Err.fault (Err c.in-Err.fault) looked_none h.looks refl) refl (ap (λ x. cursor_at x end c.args.falls) same) refl c.requires (let a = left.1 in let r = h.left in omega (arith, a, r))
    (bad_at c.args.falls (g.W.CellSource.state c.args.work.now).held olds i d _ _ c.in-Err.fault l h.cause)
