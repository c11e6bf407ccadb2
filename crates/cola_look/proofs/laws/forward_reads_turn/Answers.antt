use Rattle.std.proofs.Common.{sym, subst}
use Rattle.cola_cell.specs.Places.{Block}
use Rattle.cola_look.proofs.TurnLemmas.{Turned, turn_once, read_turned, read_within}
use Rattle.cola_look.proofs.laws.forward_reads_turn.Goals as goal

pub returns : goal.returns
returns c = record {
  accepted = λ old new buffer level slot index found block next size i end r b h l same.
      turn_once old.spent.turned new.spent.turned (old.spent.lasts buffer) (new.spent.lasts buffer) block next size i end h l same
      (subst (λ (x : Block). Turned old.spent.turned new.spent.turned (old.spent.lasts buffer) (new.spent.lasts buffer) x) (sym b) (read_turned r));
  refused = λ old new buffer level slot index result block size i end r b h l. read_within block size i end h l r b;
}
