use Rattle.cola_reverse.proofs.Back.{gives_back}
use Rattle.cola_reverse.proofs.turning.turned_gives_back.Goals as goal

pub returns : goal.returns
returns g c = λ lo hi pairs given rest k x rise e. gives_back g.met.K.Ord.total lo hi k x given rest pairs rise e
