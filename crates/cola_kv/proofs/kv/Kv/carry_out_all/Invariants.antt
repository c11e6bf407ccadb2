-- The calls that were made so far were answered so, and there is room for all results.
use Rattle.std.proofs.Common.{◌≡◌, ◌≤◌, length, vec_len}
use Rattle.std.specs.Vec.{vec_capacity}
use Rattle.cola_kv.proofs.Listing.{Progress}
use Rattle.cola_kv.proofs.kv.Kv.carry_out_all.Given as goal

abbrev pub invariant-loop-call : goal.invariant-loop-call
invariant-loop-call g l =
    Progress g.D.Device l.initial.self l.self l.calls l.call-index l.results.items l.initial.steps l.steps × ((length l.calls ≤ vec_capacity l.results) × (vec_len l.results ≡ l.call-index))
