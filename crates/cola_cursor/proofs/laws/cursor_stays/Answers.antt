use Rattle.cola_cursor.proofs.Staying.{stands_stay, ahead_stays}
use Rattle.cola_cursor.proofs.laws.cursor_stays.Goals as goal

pub returns : goal.returns
returns c = record {
  stands = λ old new cursor e s h. stands_stay cursor.falls old new cursor e s h;
  ahead = λ old new cursor pairs s a. ahead_stays cursor.falls old new cursor pairs s a;
}
