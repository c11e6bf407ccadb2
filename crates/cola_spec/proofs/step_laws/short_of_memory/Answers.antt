use Rattle.cola_spec.proofs.StepLaws.{short_row, row_is_short}
use Rattle.cola_spec.proofs.step_laws.short_of_memory.Goals as goal

pub returns : goal.returns
returns c = λ shape state next request answer ticks. (short_row shape state next request answer ticks, row_is_short shape state next request answer ticks)
