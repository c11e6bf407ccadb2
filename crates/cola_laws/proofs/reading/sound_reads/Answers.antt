use Rattle.std.proofs.Common.{refl}
use Rattle.cola_laws.proofs.Alike.{alike-visible, alike-answers, alike-kept}
use Rattle.cola_laws.proofs.reading.sound_reads.Goals as goal

pub returns : goal.returns
returns g c = record {
  runs = λ most t u j before after h v. alike-visible g.K.Ord.cmp most t u j before after h v;
  answers = λ t u j before after h q. alike-answers g.K.Ord.cmp 0 t u j before after h q;
  shadows = λ most t u j above before after h kept. alike-kept g.K.Ord.cmp most t u j above above before after refl h kept;
}
