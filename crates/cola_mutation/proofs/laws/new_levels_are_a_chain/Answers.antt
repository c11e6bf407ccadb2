use Rattle.cola_mutation.proofs.Beginning.{marks_back, new_chain}
use Rattle.cola_mutation.proofs.laws.new_levels_are_a_chain.Goals as goal

pub returns-clause-chain : goal.returns-clause-chain
returns-clause-chain c = new_chain

pub returns-clause-marks : goal.returns-clause-marks
returns-clause-marks c = marks_back
