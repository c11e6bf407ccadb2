use Rattle.std.proofs.Common.{refl, sym, ap, ◌∙◌}
use Rattle.std.specs.Prelude.{option_copied}
use Rattle.cola_merge.specs.Heads.{heads}
use Rattle.cola_merge.proofs.rules.emit_least.Goals as goal

pub returns-in-Some-clause-suits : goal.returns-in-Some-clause-suits
returns-in-Some-clause-suits c =
    c.look.ensures.suits (heads c.args.own.now c.args.incoming.now c.args.sample.now) c.in-Some.field-0.now
    (sym c.cell-in-None-None.ensures ∙ ap option_copied c.in-Some.is)

pub returns-in-None-Some-clause-suits : goal.returns-in-None-Some-clause-suits
returns-in-None-Some-clause-suits c =
    c.emit_item_or_look.ensures.suits (heads c.args.own.now c.args.incoming.now c.args.sample.now)
    (sym c.cell-2.ensures ∙ ap option_copied c.in-None-Some.is-1) refl

pub returns-in-Some-None-clause-suits : goal.returns-in-Some-None-clause-suits
returns-in-Some-None-clause-suits c =
    c.emit_item_or_look-in-Some-None.ensures.suits (heads c.args.own.now c.args.incoming.now c.args.sample.now)
    (sym c.cell.ensures ∙ ap option_copied c.in-Some-None.is-0) refl

pub returns-in-Less-clause-suits : goal.returns-in-Less-clause-suits
returns-in-Less-clause-suits c =
    c.emit_item_or_look-in-Less.ensures.suits (heads c.args.own.now c.args.incoming.now c.args.sample.now)
    (sym c.cell.ensures ∙ ap option_copied c.in-Some-Some.is-0) refl

pub returns-in-Equal-clause-suits : goal.returns-in-Equal-clause-suits
returns-in-Equal-clause-suits c = c.pass.ensures.suits (heads c.args.own.now c.args.incoming.now c.args.sample.now)

pub returns-in-Greater-clause-suits : goal.returns-in-Greater-clause-suits
returns-in-Greater-clause-suits c =
    c.emit_item_or_look-in-Greater.ensures.suits (heads c.args.own.now c.args.incoming.now c.args.sample.now)
    (sym c.cell-2.ensures ∙ ap option_copied c.in-Some-Some.is-1) refl
