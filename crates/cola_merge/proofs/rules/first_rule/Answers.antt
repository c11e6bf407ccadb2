use Rattle.cola_merge.proofs.rules.first_rule.Goals as goal

pub returns-in-Some-clause-suits : goal.returns-in-Some-clause-suits
returns-in-Some-clause-suits c = c.pass.ensures.suits (record { own = c.args.own.now; incoming = c.args.incoming.now; sample = c.args.sample.now })

pub returns-in-Some-cell-clause-suits : goal.returns-in-Some-cell-clause-suits
returns-in-Some-cell-clause-suits c = c.pass-in-Some-cell.ensures.suits (record { own = c.args.own.now; incoming = c.args.incoming.now; sample = c.args.sample.now })
