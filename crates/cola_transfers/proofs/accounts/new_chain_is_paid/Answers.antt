use Rattle.cola_transfers.proofs.PaidLaws.{paid-new}
use Rattle.cola_transfers.proofs.accounts.new_chain_is_paid.Goals as goal

pub returns : goal.returns
returns c = paid-new
