use Rattle.std.proofs.Common.{Bor, ℕ, List, None, inl}
use Rattle.std.specs.Bound.{bound_map}
use Rattle.cola_store.specs.Backward.{pairs_back}
use Rattle.cola_handle.proofs.Taking.{fills_back}
use Rattle.cola_handle.proofs.falling.fill_back.Goals as goal

pub returns-in-Ok-clause-rows : goal.returns-in-Ok-clause-rows
returns-in-Ok-clause-rows g c = λ m holds.
    let begun = c.in-Ok.ensures.answer m holds in
    c.take_rows.ensures.rows m (pairs_back m None (bound_map (λ (key : Bor (List ℕ)). key.now) c.args.high)) begun.1 begun.0

pub returns-in-Ok-clause-fills : goal.returns-in-Ok-clause-fills
returns-in-Ok-clause-fills g c =
    fills_back g.D.Device (bound_map (λ (key : Bor (List ℕ)). key.now) c.args.high) c.args.store.now c.range_back.new.self c.take_rows.new.table c.take_rows.new.rows c.in-Ok.walk c.in-Ok.ensures.given c.take_rows.result c.take_rows.ensures.takes

pub returns-in-Err-clause-fills : goal.returns-in-Err-clause-fills
returns-in-Err-clause-fills g c = inl c.in-Err.ensures.given
