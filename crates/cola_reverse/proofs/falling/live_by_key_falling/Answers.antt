use Rattle.cola_reverse.proofs.Falls.{falls, all_rising_left, last_is_answer, falling_walk}
use Rattle.cola_reverse.proofs.Turned.{live_reverse}
use Rattle.cola_reverse.proofs.falling.live_by_key_falling.Goals as goal

pub returns : goal.returns
returns g c = record {
  step = λ within k runs same h b p. falls g.met.K.Ord.total same within k runs h b p;
  rising = λ k runs h. all_rising_left g.met.K.Ord.total k runs h;
  item = λ k runs h p. last_is_answer g.met.K.Ord.total k runs h p;
  reversed = λ within runs same h. live_reverse g.met.K.Ord.total same within runs h;
  walk = λ lo hi runs pairs same h w. falling_walk g.met.K.Ord.total same lo hi runs pairs h w;
}
