use Rattle.std.proofs.Common.{◌∙◌, arith, ℕ, List, Ok, Err, sym, ap, subst, inl, inr, refl, None}
use Rattle.cola_store.specs.Backward.{pairs_back}
use Rattle.cola_handle.specs.Behind.{behind, bound_of, Turns}
use Rattle.std.specs.declared.ops.Bound.{Bound}
use Rattle.cola_cell.specs.declared.fault.ReadFault.{ReadFault}
use Rattle.cola_handle.specs.Cursors.{Pair, HaveFirst}
use Rattle.cola_handle.specs.Falling.{FillsBack}
use Rattle.cola_handle.specs.Open.{lent_device}
use Rattle.cola_handle.proofs.Rows.{none_first, last_good, keys_have_bytes}
use Rattle.cola_handle.proofs.Taking.{fill_back_reads}
use Rattle.cola_handle.proofs.Turned.{behind-bound, behind-first, have-behind, turned, turned-none}
use Rattle.cola_handle.proofs.falling.prev.Goals as goal
use Rattle.cola_handle.proofs.falling.prev.Goals.{then-rows-eq0-via-then-rows-eq0, then-rows-eq0-via-else-rows-eq0+then-is_first}

-- no row is wanted, or nothing is behind
pub returns-then-rows-eq0-clause-answer : goal.returns-then-rows-eq0-clause-answer
returns-then-rows-eq0-clause-answer g c = λ m held.
    let first : HaveFirst (behind m c.args.cursor.now) c.args.rows.now 0 = elim c.then-rows-eq0.branch [
      | then-rows-eq0-via-then-rows-eq0 w ↦ none_first (behind m c.args.cursor.now) c.args.rows.now (inl w.if-rows-eq0.true)
      | then-rows-eq0-via-else-rows-eq0+then-is_first w ↦
          none_first (behind m c.args.cursor.now) c.args.rows.now (inr (behind-first m c.args.cursor.now (keys_have_bytes _ m held.is_map) (sym w.is_first.ensures ∙ w.if-is_first.true)))
    ] in
    (have-behind m c.args.cursor.now c.args.cursor.now c.args.rows.now 0 first (turned-none c.args.cursor.now c.args.rows.now 0 refl), held)

pub turn_to-requires : goal.turn_to-requires
turn_to-requires g c =
    last_good c.fill_back.new.rows c.in-Ok.given _ (omega arith) (omega (arith, c.in-Ok.ensures.writes.few, c.fill_back.auto.rows)) c.in-Ok.ensures.writes.good

-- rows were given
pub returns-then-given-gt0-clause-answer : goal.returns-then-given-gt0-clause-answer
returns-then-given-gt0-clause-answer g c = λ m held.
    let rows = c.in-Ok.ensures.rows m held in
    let first : HaveFirst (behind m c.args.cursor.now) c.fill_back.new.rows c.in-Ok.given =
    subst (λ (ps : List Pair). HaveFirst ps c.fill_back.new.rows c.in-Ok.given) (ap (pairs_back m None) (c.as_ref.ensures ∙ c.bound-high.ensures) ∙ behind-bound m c.args.cursor.now) rows.0 in
    let turns : Turns c.args.cursor.now c.turn_to.new.self c.fill_back.new.rows c.in-Ok.given =
    turned c.args.cursor.now c.turn_to.new.self c.fill_back.new.rows c.in-Ok.given _ (omega arith) (omega (arith, c.in-Ok.ensures.writes.few, c.fill_back.auto.rows)) c.turn_to.ensures.is_at in
    (have-behind m c.args.cursor.now c.turn_to.new.self c.fill_back.new.rows c.in-Ok.given first turns, rows.1)

-- none was
pub returns-else-given-gt0-clause-answer : goal.returns-else-given-gt0-clause-answer
returns-else-given-gt0-clause-answer g c = λ m held.
    let rows = c.in-Ok.ensures.rows m held in
    let first : HaveFirst (behind m c.args.cursor.now) c.fill_back.new.rows c.in-Ok.given =
    subst (λ (ps : List Pair). HaveFirst ps c.fill_back.new.rows c.in-Ok.given) (ap (pairs_back m None) (c.as_ref.ensures ∙ c.bound-high.ensures) ∙ behind-bound m c.args.cursor.now) rows.0 in
    let turns : Turns c.args.cursor.now c.args.cursor.now c.fill_back.new.rows c.in-Ok.given = turned-none c.args.cursor.now c.fill_back.new.rows c.in-Ok.given (omega arith) in
    (have-behind m c.args.cursor.now c.args.cursor.now c.fill_back.new.rows c.in-Ok.given first turns, rows.1)

-- what is read is read by the range
pub returns-then-given-gt0-clause-reads : goal.returns-then-given-gt0-clause-reads
returns-then-given-gt0-clause-reads g c = fill_back_reads _ c.args.session.now.kv.store c.fill_back.new.store c.fill_back.new.rows (Ok c.in-Ok.given) c.in-Ok.ensures.fills

pub returns-else-given-gt0-clause-reads : goal.returns-else-given-gt0-clause-reads
returns-else-given-gt0-clause-reads g c = fill_back_reads _ c.args.session.now.kv.store c.fill_back.new.store c.fill_back.new.rows (Ok c.in-Ok.given) c.in-Ok.ensures.fills

pub returns-in-Err-BadCell-clause-reads : goal.returns-in-Err-BadCell-clause-reads
returns-in-Err-BadCell-clause-reads g c = fill_back_reads _ c.args.session.now.kv.store c.fill_back.new.store c.fill_back.new.rows (Err c.in-Err-BadCell.field-0) c.in-Err-BadCell.ensures.fills

-- what was filled is filled up to the cursor's place
pub returns-then-given-gt0-clause-given : goal.returns-then-given-gt0-clause-given
returns-then-given-gt0-clause-given g c = inr (subst (λ (b : Bound (List ℕ)). FillsBack lent_device b c.args.session.now.kv.store c.fill_back.new.store c.fill_back.new.rows (Ok c.in-Ok.given)) (c.as_ref.ensures ∙ c.bound-high.ensures) c.in-Ok.ensures.fills)

pub returns-else-given-gt0-clause-given : goal.returns-else-given-gt0-clause-given
returns-else-given-gt0-clause-given g c = inr (subst (λ (b : Bound (List ℕ)). FillsBack lent_device b c.args.session.now.kv.store c.fill_back.new.store c.fill_back.new.rows (Ok c.in-Ok.given)) (c.as_ref.ensures ∙ c.bound-high.ensures) c.in-Ok.ensures.fills)

pub returns-in-Err-BadCell-clause-given : goal.returns-in-Err-BadCell-clause-given
returns-in-Err-BadCell-clause-given g c =
    let filled : FillsBack lent_device (bound_of c.args.cursor.now) c.args.session.now.kv.store c.fill_back.new.store c.fill_back.new.rows (Err c.in-Err-BadCell.field-0) =
    subst (λ (b : Bound (List ℕ)). FillsBack lent_device b c.args.session.now.kv.store c.fill_back.new.store c.fill_back.new.rows (Err c.in-Err-BadCell.field-0)) (c.as_ref.ensures ∙ c.bound-high.ensures) c.in-Err-BadCell.ensures.fills in
    subst (λ (f : ReadFault). FillsBack lent_device (bound_of c.args.cursor.now) c.args.session.now.kv.store c.fill_back.new.store c.fill_back.new.rows (Err f)) c.in-Err-BadCell.field-0-is filled
