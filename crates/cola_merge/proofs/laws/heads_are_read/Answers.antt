use Rattle.cola_merge.proofs.Reading.{heads_of}
use Rattle.cola_merge.proofs.Stepping.{all_read}
use Rattle.cola_merge.proofs.laws.heads_are_read.Goals as goal

pub returns-clause-ready : goal.returns-clause-ready
returns-clause-ready c = λ held aim m r. heads_of r

pub returns-clause-fetched : goal.returns-clause-fetched
returns-clause-fetched c = λ held aim m h. all_read h
