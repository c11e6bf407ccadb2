use Rattle.cola_laws.proofs.Programs.{mutated-sound, runs-sound}
use Rattle.cola_laws.proofs.mutation.whole_runs_keep.Goals as goal

pub returns : goal.returns
returns g c = record {
  one = λ most t map k item levels s room few. mutated-sound g.met.K.Ord.total most t map k item levels s room few;
  all = λ most changes t map levels s room few. runs-sound g.met.K.Ord.total most changes t map levels s room few;
}
