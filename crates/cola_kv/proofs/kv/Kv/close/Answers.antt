use Rattle.cola_kv.proofs.Openings.{owes-so, closed-file-of}
use Rattle.cola_kv.proofs.kv.Kv.close.Goals as goal

pub returns-clause-owes : goal.returns-clause-owes
returns-clause-owes g c = λ m holds. owes-so g.D.Device c.args.self m c.close.result holds c.close.ensures.closes

pub returns-clause-file : goal.returns-clause-file
returns-clause-file g c = closed-file-of g.D.Device c.args.self c.close.result c.close.ensures.closes
