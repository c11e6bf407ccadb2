use Rattle.cola_spec.specs.Machine.{faulted_steps}
use Rattle.cola_mirror.specs.Sides.{has_first, has_second}
use Rattle.cola_command.proofs.Rising.{faults-rise}
use Rattle.cola_command_laws.proofs.Mirroring.{rose-through}
use Rattle.cola_command_laws.proofs.mirror_laws.mirrored_turns_count_faults.Goals as goal

pub returns-clause-first : goal.returns-clause-first
returns-clause-first g c = λ turns last sound over used. rose-through (has_first last.sides) (faulted_steps turns) last.counts.faults last.first_faults (g.D.Device.counts last.first).faults (faults-rise turns 0 last.counts.faults over) used sound.first_met

pub returns-clause-second : goal.returns-clause-second
returns-clause-second g c = λ turns last sound over used. rose-through (has_second last.sides) (faulted_steps turns) last.counts.faults last.second_faults (g.D.Device.counts last.second).faults (faults-rise turns 0 last.counts.faults over) used sound.second_met
