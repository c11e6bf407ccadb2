use Rattle.cola_pairs.proofs.LivePairs.{all_rising_onward}
use Rattle.cola_pairs.proofs.Onward.{first_is_answer, live_step, live_ends, all_rising_passed, walk_lives, below_closes}
use Rattle.cola_pairs.proofs.walking.live_by_key.Goals as goal

pub returns : goal.returns
returns g c =
    let o = g.met.K.Ord.total in
    record {
      step = λ hi k rests same h b p. live_step o same _ k rests (all_rising_onward o rests h) p b;
      rising = λ k rests h. all_rising_passed o k rests h;
      item = λ k rests h p. first_is_answer o k rests (all_rising_onward o rests h) p;
      end = λ hi rests h p. live_ends o _ (below_closes o hi) rests (all_rising_onward o rests h) p;
      walk = λ hi rests pairs same h w. walk_lives o _ (below_closes o hi) same rests pairs (all_rising_onward o rests h) w;
    }
