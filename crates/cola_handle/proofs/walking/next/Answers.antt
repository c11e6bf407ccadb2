use Rattle.std.proofs.Common.{◌∙◌, arith, List, Ok, Err, sym, subst, inl, inr, refl}
use Rattle.cola_handle.specs.Cursors.{Pair, ahead, HaveFirst, Moves}
use Rattle.cola_handle.proofs.Turns.{fill_reads}
use Rattle.cola_handle.proofs.Rows.{none_first, last_good, ahead-void, walked-ahead, next_given, moved, stayed}
use Rattle.cola_handle.proofs.walking.next.Goals as goal
use Rattle.cola_handle.proofs.walking.next.Goals.{then-rows-eq0-via-then-rows-eq0, then-rows-eq0-via-else-rows-eq0+then-is_void}

-- no row is wanted, or none can be ahead
pub returns-then-rows-eq0-clause-answer : goal.returns-then-rows-eq0-clause-answer
returns-then-rows-eq0-clause-answer g c = λ m held. (
  elim c.then-rows-eq0.branch [
    | then-rows-eq0-via-then-rows-eq0 w ↦ none_first (ahead m c.args.cursor.now) c.args.rows.now (inl w.if-rows-eq0.true)
    | then-rows-eq0-via-else-rows-eq0+then-is_void w ↦ none_first (ahead m c.args.cursor.now) c.args.rows.now (inr (ahead-void m c.args.cursor.now (sym w.is_void.ensures ∙ w.if-is_void.true)))
  ],
  refl,
  held,
)

pub pass-requires : goal.pass-requires
pass-requires g c =
    last_good c.fill.new.rows c.in-Ok.given _ (omega arith) (omega (arith, c.in-Ok.ensures.writes.few, c.fill.auto.rows)) c.in-Ok.ensures.writes.good

-- rows were given
pub returns-then-given-gt0-clause-answer : goal.returns-then-given-gt0-clause-answer
returns-then-given-gt0-clause-answer g c = λ m held.
    let rows = c.in-Ok.ensures.rows m held in
    let first : HaveFirst (ahead m c.args.cursor.now) c.fill.new.rows c.in-Ok.given =
    subst (λ (ps : List Pair). HaveFirst ps c.fill.new.rows c.in-Ok.given) (walked-ahead _ m c.args.cursor.now _ _ held.is_map c.low-low.ensures (c.as_ref.ensures.value ∙ c.high-high.ensures)) rows.0 in
    let moves : Moves c.args.cursor.now c.pass.new.self c.fill.new.rows c.in-Ok.given =
    moved c.args.cursor.now c.pass.new.self c.fill.new.rows c.in-Ok.given _ (omega arith) (omega (arith, c.in-Ok.ensures.writes.few, c.fill.auto.rows)) c.pass.ensures.is_behind in
    (first, next_given m c.args.cursor.now c.pass.new.self c.fill.new.rows c.in-Ok.given first moves, rows.1)

-- none was
pub returns-else-given-gt0-clause-answer : goal.returns-else-given-gt0-clause-answer
returns-else-given-gt0-clause-answer g c = λ m held.
    let rows = c.in-Ok.ensures.rows m held in
    let first : HaveFirst (ahead m c.args.cursor.now) c.fill.new.rows c.in-Ok.given =
    subst (λ (ps : List Pair). HaveFirst ps c.fill.new.rows c.in-Ok.given) (walked-ahead _ m c.args.cursor.now _ _ held.is_map c.low-low.ensures (c.as_ref.ensures.value ∙ c.high-high.ensures)) rows.0 in
    let moves : Moves c.args.cursor.now c.args.cursor.now c.fill.new.rows c.in-Ok.given = stayed c.args.cursor.now c.fill.new.rows c.in-Ok.given (omega arith) in
    (first, next_given m c.args.cursor.now c.args.cursor.now c.fill.new.rows c.in-Ok.given first moves, rows.1)

-- what is read is read by the range
pub returns-then-given-gt0-clause-reads : goal.returns-then-given-gt0-clause-reads
returns-then-given-gt0-clause-reads g c = fill_reads c.args.cursor.now _ _ c.args.session.now.kv.store c.fill.new.table c.fill.new.rows (Ok c.in-Ok.given) c.in-Ok.ensures.fills

pub returns-else-given-gt0-clause-reads : goal.returns-else-given-gt0-clause-reads
returns-else-given-gt0-clause-reads g c = fill_reads c.args.cursor.now _ _ c.args.session.now.kv.store c.fill.new.table c.fill.new.rows (Ok c.in-Ok.given) c.in-Ok.ensures.fills

pub returns-in-Err-BadCell-clause-reads : goal.returns-in-Err-BadCell-clause-reads
returns-in-Err-BadCell-clause-reads g c = fill_reads c.args.cursor.now _ _ c.args.session.now.kv.store c.fill.new.table c.fill.new.rows (Err c.in-Err-BadCell.field-0) c.in-Err-BadCell.ensures.fills
