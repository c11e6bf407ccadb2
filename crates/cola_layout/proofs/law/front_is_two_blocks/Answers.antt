use Rattle.cola_layout.proofs.Places.{device-behind, front-below}
use Rattle.cola_layout.proofs.law.front_is_two_blocks.Goals as goal

pub returns-clause-front : goal.returns-clause-front
returns-clause-front c = front-below

pub returns-clause-device : goal.returns-clause-device
returns-clause-device c = device-behind
