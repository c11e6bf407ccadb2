-- What an accepted mutation does to the transfers.
use Rattle.std.proofs.Common.{◌≡◌, inr, ℕ, suc, ◌+◌, ◌*◌, ◌/◌, ◌<◌, ◌≤◌, List, ◌∷◌, length, ap, sym, subst, arith}
use Rattle.cola_cell.specs.declared.cell.Cell.{Cell}
use Rattle.cola_cell.specs.declared.sink.Shadow.{Shadow}
use Rattle.cola_cell.specs.Held.{Held, Fixed}
use Rattle.cola_cell.specs.Spent.{Spent}
use Rattle.cola_transfers.specs.Chain.{IsTopBuilt, AreFlipped}
use Rattle.cola_level.specs.declared.level.Level.{Level}
use Rattle.cola_level.specs.Marks.{all_marks_of}
use Rattle.cola_level.specs.Standing.{transfers_of}
use Rattle.cola_level.proofs.Writing.{saved_kept, kept_same}
use Rattle.cola_mutation.specs.Levels.{IsChain}
use Rattle.cola_mutation.specs.Work.{WorkState, transfers, with_shadow, many_working, SpendsWithin}
use Rattle.cola_mutation.specs.Ends.{all_ended, Restarted}
use Rattle.cola_mutation.specs.Standing.{Trades}
use Rattle.cola_mutation.proofs.AddingUp.{spends_then, spends_more}
use Rattle.cola_mutation.proofs.Readying.{length_levels}
use Rattle.cola_mutation.proofs.Following.{all_marks_ended, length_marks}
use Rattle.cola_mutation.proofs.Accepting.{Accepted, marks_worked, half_work}

flips_trade : {a b : Held} (t n lowest : ℕ) (spent now : Spent) → now ≡ spent → lowest < n → Restarted t 0 n a b → AreFlipped t lowest (transfers_of a spent) (transfers_of b now)
flips_trade {a} {b} t n lowest spent now e h r = record {
  reads = ap (λ (x : Spent). x.turned) e;
  writes = ap (λ (x : Spent). x.written) e;
  readers = ap (λ (x : Spent). (transfers_of a x).readers) e;
  flipped = λ l lo f. saved_kept b l (ap (λ (x : Shadow). x.saved) (r.flipped l (omega arith) (omega (arith, h, lo)) f));
  others = λ l lo f. kept_same a b l r.fixed_is (r.others_stay l (inr (inr f)));
}

pub trades_next : (s u v : WorkState) (t : ℕ) (c : Cell) (top next : Level) (below under : List Level) → IsChain s.held t (top ∷ below) → (a : Accepted t c s u top (with_shadow top (u.held.shadows 0).len) below (next ∷ under)) →
    Restarted t 0 (suc (length (next ∷ under))) u.held v.held → v.spent ≡ u.spent → Trades t s v top below (all_ended t 1 (next ∷ under))
trades_next s u v t c top next below under chain a r e = record {
  worked = all_marks_of (next ∷ under);
  marks = marks_worked t top below (next ∷ under) chain a.turns;
  after_is = all_marks_ended t 1 (next ∷ under);
  mutated = record {
    after_work = transfers a.mid;
    after_top = transfers u;
    levels = a.turns.worked;
    top = subst (λ (f : Fixed). IsTopBuilt f.doublings t (all_marks_of (next ∷ under)) (transfers a.mid) (transfers u)) a.turns.keeps.fixed_is (a.builds.traded (all_marks_of under));
    flips = flips_trade t (suc (length (next ∷ under))) (length (all_marks_of below)) u.spent v.spent e
        (let f = length_marks below in let g = length_levels t 0 below (next ∷ under) a.turns.turned in omega (arith, f, g)) r;
  };
}

-- ---- what it cost

pub costs_all : {X : Type 0} (s mid u v : Spent) (i j k t : ℕ) (below : List X) → SpendsWithin s mid i j (59 * many_working t 0 below) (many_working t 0 below) → SpendsWithin mid u j k 9 0 → v ≡ u →
    SpendsWithin s v i k (9 + 59 * (suc (length below) / 2)) (suc (length below) / 2)
costs_all s mid u v i j k t below g h e =
    let half = half_work t below in
    subst (λ (x : Spent). SpendsWithin s x i k (9 + 59 * (suc (length below) / 2)) (suc (length below) / 2)) (sym e)
    (spends_more (let lo : 59 * many_working t 0 below + 9 ≤ 9 + 59 * (suc (length below) / 2) = omega (arith, half) in lo) (let lo : many_working t 0 below + 0 ≤ suc (length below) / 2 = omega (arith, half) in lo) (spends_then g h))
