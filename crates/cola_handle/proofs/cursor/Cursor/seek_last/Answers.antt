use Rattle.cola_handle.proofs.Turned.{behind-last, none-ahead}
use Rattle.cola_handle.proofs.cursor.Cursor.seek_last.Goals as goal

pub returns-clause-behind : goal.returns-clause-behind
returns-clause-behind c = λ m bytes. behind-last m c.args.high.now c.args.bounded c.at_end.result bytes c.at_end.ensures

pub returns-clause-none_ahead : goal.returns-clause-none_ahead
returns-clause-none_ahead c = λ m bytes. none-ahead m c.args.high.now c.args.bounded c.at_end.result bytes c.at_end.ensures
