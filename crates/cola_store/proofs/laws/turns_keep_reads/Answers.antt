use Rattle.std.proofs.Common.{subst, sym}
use Rattle.cola_store.specs.Store.{Stored, HasRead}
use Rattle.cola_store.proofs.Rising.{search-reads, put-turn, put-if-turn, delete-turn}
use Rattle.cola_store.proofs.laws.turns_keep_reads.Goals as goal

pub returns-clause-puts : goal.returns-clause-puts
returns-clause-puts g c = λ key value old new m answer ticks holds turn. put-turn g.D.Device.bytes g.D.Device.counts old new m key value answer holds turn.0.0

pub returns-clause-conditional_puts : goal.returns-clause-conditional_puts
returns-clause-conditional_puts g c = λ key seen value old new m answer ticks holds turn. put-if-turn g.D.Device.bytes g.D.Device.counts old new m key seen value answer holds turn.0.0

pub returns-clause-deletes : goal.returns-clause-deletes
returns-clause-deletes g c = λ key old new m answer ticks holds turn. delete-turn g.D.Device.bytes g.D.Device.counts old new m key answer holds turn.0.0

pub returns-clause-gets : goal.returns-clause-gets
returns-clause-gets g c = λ key old new m answer ticks holds turn. search-reads g.D.Device.bytes g.D.Device.counts old new m key turn.0.search holds turn.0.searches

pub returns-clause-stamps : goal.returns-clause-stamps
returns-clause-stamps g c = λ key old new m answer ticks holds turn. search-reads g.D.Device.bytes g.D.Device.counts old new m key turn.0.search holds turn.0.searches

pub returns-clause-counts : goal.returns-clause-counts
returns-clause-counts g c = λ old new answer ticks turn has. subst (λ (s : Stored g.row.D.Denot). HasRead g.D.Device.counts s) (sym turn.0.1) has
