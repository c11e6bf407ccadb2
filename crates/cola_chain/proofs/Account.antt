-- The account of a chain: counted from other numbers it is the same, a step keeps it, and it gives the bounds.
use Rattle.std.proofs.Common.{◌≡◌, ◌≢◌, inl, inr, ℕ, suc, ◌+◌, ◌-◌, ◌*◌, ◌/◌, ◌%◌, ◌^◌, ◌<◌, ◌≤◌, min, Bool, true, false, ◌||◌, nat_lt, List, [], ◌∷◌, length, take, drop, Option, Result, Ok, Err, refl, ap, sym, subst, ◌∙◌, arith}
use Rattle.std.specs.List.{refill}
use Rattle.std.proofs.lemmas.List.{take-append-le}
use Rattle.std.proofs.Math.Seq.{take-length}
use Rattle.cola_clock.specs.Clock.{works}
use Rattle.cola_clock.specs.Marks.{Marks, all_marks_after}
use Rattle.cola_laws.specs.Plain.{next_clock}
use Rattle.cola_cell.specs.declared.cell.Reader.TheVariants.{Own, Incoming, Sample}
use Rattle.cola_cell.specs.declared.fault.ReadFault.{ReadFault}
use Rattle.cola_cell.specs.Held.{Held, Fixed, span}
use Rattle.cola_cell.specs.Places.{slot_size}
use Rattle.cola_cell.specs.Spent.{Spent, Buffer, Search, By}
use Rattle.cola_cell.specs.State.{State}
use Rattle.cola_cell.specs.Windows.{Scans}
use Rattle.cola_cell.specs.declared.format.Format.{Format}
use Rattle.cola_cell.specs.declared.windows.Reach.{Reach}
use Rattle.cola_device.specs.declared.counts.Counts.{Counts}
use Rattle.cola_layout.specs.declared.geometry.Geometry.{Geometry}
use Rattle.cola_merge.specs.Blocks.{is_last}
use Rattle.cola_transfers.specs.Blocks.{slot_cells, IsWrittenDown}
use Rattle.cola_transfers.specs.Blocks as blocks
use Rattle.cola_transfers.specs.Credit.{parts, last_value}
use Rattle.cola_transfers.specs.Chain.{Transfers, IsLevelWorked, IsLevelsTurn, AreLevelsWorked, IsTopBuilt, AreFlipped, IsMutated, IsPaidCounting, counted}
use Rattle.cola_transfers.proofs.PaidLaws.{paid-new, counting-next, bound-reads, bound-writes}
use Rattle.cola_level.specs.declared.level.Level.{Level}
use Rattle.cola_level.specs.Marks.{all_marks_of}
use Rattle.cola_level.specs.Standing.{transfers_of, is_kept}
use Rattle.cola_mutation.specs.Levels.{IsChain}
use Rattle.cola_mutation.specs.Work.{WorkState, transfers}
use Rattle.cola_mutation.specs.Standing.{AllTrade}
use Rattle.cola_run.specs.Cells.{block_cells}
use Rattle.cola_run.proofs.Reading.{span-is}
use Rattle.cola_run.specs.Store as run
use Rattle.cola_run.specs.Store.{Store}
use Rattle.cola_chain.specs.Contents.{Contents, Kept, held_of, spent_of, kept_of}
use Rattle.cola_chain.specs.Account.{ArePaid, sums_of, IsPaid, IsContents, AreBounded, added}
use Rattle.cola_chain.proofs.LevelLists.{marks-length}

-- ---- transfers that are counted from other numbers on

-- reads are counted from b on since there were a, writes from d on since there were c
abbrev shifted : (a b c d : ℕ) → Transfers → Transfers
shifted a b c d s = record { reads = b + (s.reads - a); writes = d + (s.writes - c); readers = s.readers; kept = s.kept }

moved_on : (a b x y p q : ℕ) → a ≤ x → x ≤ y → y + p ≤ x + q → b + (y - a) + p ≤ b + (x - a) + q
moved_on a b x y p q h k e = omega (arith, h, k, e)

moved_under : (a b x y q : ℕ) → a ≤ x → x ≤ y → y ≤ x + q → b + (y - a) ≤ b + (x - a) + q
moved_under a b x y q h k e = omega (arith, h, k, e)

moved_stays : (a b x y : ℕ) → x ≤ y → b + (x - a) ≤ b + (y - a)
moved_stays a b x y k = omega (arith, k)

moved_least : (a b x y : ℕ) → y ≤ x → b + (y - a) ≤ b + (x - a)
moved_least a b x y k = omega (arith, k)

written_shifted : (slot span old new : ℕ) (ended was now : Bool) (c d x y : ℕ) → c ≤ x → x ≤ y → IsWrittenDown slot span old new ended was now x y → IsWrittenDown slot span old new ended was now (d + (x - c)) (d + (y - c))
written_shifted slot span old new ended was now c d x y h k w = record {
  grows = w.grows;
  small = λ l. moved_least c d x y (w.small l);
  fills = λ e. moved_on c d x y (old / span) (new / span) h k (w.fills e);
  finishes = let f = moved_on c d x y (old / span) (new / span + 1) h k (let g = w.finishes in omega (arith, g)) in omega (arith, f);
  still_kept = λ e f. moved_on c d x y (old / span) (new / span) h k (w.still_kept e f);
  whole = λ l e. moved_on c d x y (old / span) (new / span) h k (w.whole l e);
  kept_at_end = w.kept_at_end;
  kept_whole = w.kept_whole;
  kept_still = w.kept_still;
}

-- no number fell
record Goes (old new : Transfers) : Type 0 where
  pub reads_stay : old.reads ≤ new.reads
  pub writes_stay : old.writes ≤ new.writes

module _ (a b c d : ℕ) where
  work_shifted : (dbl t i above : ℕ) (m n : Marks) (below : List Marks) (old new : Transfers) → a ≤ old.reads → c ≤ old.writes → IsLevelWorked dbl t i above m n below old new →
      IsLevelWorked dbl t i above m n below (shifted a b c d old) (shifted a b c d new)
  work_shifted dbl t i above m n below old new h k w = record {
    visible = w.visible;
    goes_on = w.goes_on;
    emits = w.emits;
    reads_stay = moved_stays a b old.reads new.reads w.reads_stay;
    writes_stay = moved_stays c d old.writes new.writes w.writes_stay;
    reads = moved_on a b old.reads new.reads _ _ h w.reads_stay w.reads;
    writes = written_shifted _ _ _ _ _ _ _ c d old.writes new.writes k w.writes_stay w.writes;
    beside = record { own = w.beside.own; incoming = w.beside.incoming; sample = w.beside.sample; kept = w.beside.kept };
  }

  turn_shifted : (dbl t i above : ℕ) (m n : Marks) (below : List Marks) (old new : Transfers) (busy : Bool) → a ≤ old.reads → c ≤ old.writes → IsLevelsTurn dbl t i above m n below old new busy →
      IsLevelsTurn dbl t i above m n below (shifted a b c d old) (shifted a b c d new) busy
  turn_shifted dbl t i above m n below old new true h k w = work_shifted dbl t i above m n below old new h k w
  turn_shifted dbl t i above m n below old new false h k w = record { marks = w.marks; transfers = ap (shifted a b c d) w.transfers }

  turn_goes : (dbl t i above : ℕ) (m n : Marks) (below : List Marks) (old new : Transfers) (busy : Bool) → IsLevelsTurn dbl t i above m n below old new busy → Goes old new
  turn_goes dbl t i above m n below old new true w = record { reads_stay = w.reads_stay; writes_stay = w.writes_stay }
  turn_goes dbl t i above m n below old new false w =
      let e : new.reads ≡ old.reads = ap (λ (s : Transfers). s.reads) w.transfers in
      let f : new.writes ≡ old.writes = ap (λ (s : Transfers). s.writes) w.transfers in
      record { reads_stay = omega (arith, e); writes_stay = omega (arith, f) }

  all_go : (dbl t i above : ℕ) (levels worked : List Marks) (old new : Transfers) → AreLevelsWorked dbl t i above levels worked old new → Goes old new
  all_go dbl t i above [] [] old new e =
      let f : new.reads ≡ old.reads = ap (λ (s : Transfers). s.reads) e in
      let g : new.writes ≡ old.writes = ap (λ (s : Transfers). s.writes) e in
      record { reads_stay = omega (arith, f); writes_stay = omega (arith, g) }
  all_go dbl t i above [] (n ∷ under) old new h = absurd h
  all_go dbl t i above (m ∷ below) [] old new h = absurd h
  all_go dbl t i above (m ∷ below) (n ∷ under) old new h =
      let one = turn_goes dbl t i above m n below old h.0 (works t (suc i)) h.1 in
      let rest = all_go dbl t (suc i) m.visible below under h.0 new h.2 in
      record { reads_stay = omega (arith, one.reads_stay, rest.reads_stay); writes_stay = omega (arith, one.writes_stay, rest.writes_stay) }

  all_shifted : (dbl t i above : ℕ) (levels worked : List Marks) (old new : Transfers) → a ≤ old.reads → c ≤ old.writes → AreLevelsWorked dbl t i above levels worked old new →
      AreLevelsWorked dbl t i above levels worked (shifted a b c d old) (shifted a b c d new)
  all_shifted dbl t i above [] [] old new h k e = ap (shifted a b c d) e
  all_shifted dbl t i above [] (n ∷ under) old new h k w = absurd w
  all_shifted dbl t i above (m ∷ below) [] old new h k w = absurd w
  all_shifted dbl t i above (m ∷ below) (n ∷ under) old new h k w =
      let one = turn_goes dbl t i above m n below old w.0 (works t (suc i)) w.1 in (
        shifted a b c d w.0,
        turn_shifted dbl t i above m n below old w.0 (works t (suc i)) h k w.1,
        all_shifted dbl t (suc i) m.visible below under w.0 new (omega (arith, h, one.reads_stay)) (omega (arith, k, one.writes_stay)) w.2,
      )

  top_shifted : (dbl t : ℕ) (worked : List Marks) (old new : Transfers) → a ≤ old.reads → c ≤ old.writes → IsTopBuilt dbl t worked old new → IsTopBuilt dbl t worked (shifted a b c d old) (shifted a b c d new)
  top_shifted dbl t worked old new h k w = record {
    reads_stay = moved_stays a b old.reads new.reads w.reads_stay;
    writes_stay = moved_stays c d old.writes new.writes w.writes_stay;
    reads = moved_under a b old.reads new.reads _ h w.reads_stay w.reads;
    writes = moved_least c d old.writes new.writes w.writes;
    own = w.own;
    incoming = w.incoming;
    sample = w.sample;
    kept = w.kept;
  }

  flips_shifted : (t lowest : ℕ) (old new : Transfers) → AreFlipped t lowest old new → AreFlipped t lowest (shifted a b c d old) (shifted a b c d new)
  flips_shifted t lowest old new w = record {
    reads = ap (λ (n : ℕ). b + (n - a)) w.reads;
    writes = ap (λ (n : ℕ). d + (n - c)) w.writes;
    readers = w.readers;
    flipped = w.flipped;
    others = w.others;
  }

  mutated_shifted : (dbl t above : ℕ) (ahead worked : List Marks) (old new : Transfers) → a ≤ old.reads → c ≤ old.writes → IsMutated dbl t above ahead worked old new →
      IsMutated dbl t above ahead worked (shifted a b c d old) (shifted a b c d new)
  mutated_shifted dbl t above ahead worked old new h k w =
      let work = all_go dbl t 0 above ahead worked old w.after_work w.levels in
      record {
        after_work = shifted a b c d w.after_work;
        after_top = shifted a b c d w.after_top;
        levels = all_shifted dbl t 0 above ahead worked old w.after_work h k w.levels;
        top = top_shifted dbl t worked w.after_work w.after_top (omega (arith, h, work.reads_stay)) (omega (arith, k, work.writes_stay)) w.top;
        flips = flips_shifted t (length ahead) w.after_top new w.flips;
      }

-- ---- a step

worked_length : (dbl t i above : ℕ) (levels worked : List Marks) (old new : Transfers) → AreLevelsWorked dbl t i above levels worked old new → length worked ≡ length levels
worked_length dbl t i above [] [] old new w = refl
worked_length dbl t i above [] (n ∷ under) old new w = absurd w
worked_length dbl t i above (m ∷ below) [] old new w = absurd w
worked_length dbl t i above (m ∷ below) (n ∷ under) old new w = ap suc (worked_length dbl t (suc i) m.visible below under w.0 new w.2)

no_more : (a b : ℕ) → b + (a - a) ≡ b
no_more a b = omega arith

one_more : (m : ℕ) → min (suc m) last_value ≡ added m 1
one_more m = ap (λ (n : ℕ). min n last_value) (let e : suc m ≡ m + 1 = omega arith in e)

-- the account of the levels after an accepted step, at a clock that is the next one
pub paid-next : (s u : WorkState) (t next m b d : ℕ) (levels after : List Level) → 2 ≤ length levels → IsChain u.held next after → next ≡ next_clock (length levels) t → u.held.fixed ≡ s.held.fixed →
    s.spent.turned ≤ u.spent.turned → s.spent.written ≤ u.spent.written → AllTrade t s u levels after →
    ArePaid s.held.fixed.doublings m t levels (sums_of s.held s.spent b d) →
    ArePaid u.held.fixed.doublings (added m 1) next after (sums_of u.held u.spent (added b (u.spent.turned - s.spent.turned)) (added d (u.spent.written - s.spent.written)))
paid-next s u t next m b d [] after many chain clock fixed turned written trade paid = absurd trade
paid-next s u t next m b d (top ∷ below) [] many chain clock fixed turned written trade paid = absurd trade
paid-next s u t next m b d (top ∷ below) (first ∷ after) many chain clock fixed turned written trade paid =
    let dbl : ℕ = s.held.fixed.doublings in
    let old : Transfers = shifted s.spent.turned b s.spent.written d (transfers s) in
    let new : Transfers = shifted s.spent.turned b s.spent.written d (transfers u) in
    let begin : IsPaidCounting dbl m t top.visible (all_marks_of below) old =
    subst (λ (x : ℕ). IsPaidCounting dbl m t top.visible (all_marks_of below) (record { reads = x; writes = d + (s.spent.written - s.spent.written); readers = (transfers s).readers; kept = (transfers s).kept })) (sym (no_more s.spent.turned b))
    (subst (λ (x : ℕ). IsPaidCounting dbl m t top.visible (all_marks_of below) (record { reads = b; writes = x; readers = (transfers s).readers; kept = (transfers s).kept })) (sym (no_more s.spent.written d)) paid) in
    let mutated = mutated_shifted s.spent.turned b s.spent.written d dbl t top.visible (all_marks_of below) trade.worked (transfers s) (transfers u) (omega arith) (omega arith) trade.mutated in
    let fits : first.visible ≤ slot_cells 0 = chain.marks.0.visible_fits in
    let done : IsPaidCounting dbl (min (suc m) last_value) (suc t % 2 ^ suc (length trade.worked)) first.visible (all_marks_after t 1 trade.worked) (counted new) =
    counting-next dbl m t top.visible first.visible (all_marks_of below) trade.worked old new fits trade.marks mutated
    (moved_stays s.spent.turned b s.spent.turned u.spent.turned turned) (moved_stays s.spent.written d s.spent.written u.spent.written written) begin in
    let many_is : length trade.worked ≡ length below = worked_length dbl t 0 top.visible (all_marks_of below) trade.worked (transfers s) trade.mutated.after_work trade.mutated.levels ∙ marks-length below in
    let clock_is : suc t % 2 ^ suc (length trade.worked) ≡ next = ap (λ (n : ℕ). suc t % 2 ^ suc n) many_is ∙ sym clock in
    subst (λ (f : Fixed). IsPaidCounting f.doublings (added m 1) next first.visible (all_marks_of after) (counted new)) (sym fixed)
    (subst (λ (ms : List Marks). IsPaidCounting dbl (added m 1) next first.visible ms (counted new)) (sym trade.after_is)
    (subst (λ (n : ℕ). IsPaidCounting dbl (added m 1) n first.visible (all_marks_after t 1 trade.worked) (counted new)) clock_is
    (subst (λ (n : ℕ). IsPaidCounting dbl n (suc t % 2 ^ suc (length trade.worked)) first.visible (all_marks_after t 1 trade.worked) (counted new)) (one_more m) done)))

-- ---- a new chain

pub paid-begins : (held : Held) (spent : Spent) (t : ℕ) (levels : List Level) → IsChain held t levels → ((l : ℕ) → l < length levels → (held.shadows l).saved ≡ true) →
    ArePaid held.fixed.doublings 0 t levels (sums_of held spent 0 0)
paid-begins held spent t [] chain saved = tt
paid-begins held spent t (top ∷ below) chain saved =
    λ few few_reads few_writes.
    paid-new held.fixed.doublings t top.visible (all_marks_of below) (sums_of held spent 0 0) refl refl chain.marks.0.visible_fits chain.marks.1
    (λ l h. ap (λ (x : Bool). x || nat_lt (slot_size l) (span held)) (saved l (let e = marks-length below in omega (arith, h, e))))

-- ---- the bounds

pub bounded : (geometry : Geometry) (m r w t levels : ℕ) (ls : List Level) (s : Transfers) → length ls ≡ geometry.bottom + 1 → m < last_value → s.reads < last_value → s.writes < last_value →
    ArePaid (geometry.block_exp - 3) m t ls s → AreBounded geometry m s.reads s.writes
bounded geometry m r w t levels [] s many few few_reads few_writes paid = absurd (let e : 0 ≡ geometry.bottom + 1 = many in omega (arith, e))
bounded geometry m r w t levels (top ∷ below) s many few few_reads few_writes paid =
    let d : ℕ = geometry.block_exp - 3 in
    let ahead : List Marks = all_marks_of below in
    let n : length ahead ≡ geometry.bottom = let e = marks-length below in let f : suc (length below) ≡ geometry.bottom + 1 = many in omega (arith, e, f) in
    let fits : d ≤ suc (length ahead) = let f = geometry.block_fits.fits in omega (arith, f, n) in
    let span : blocks.block_cells d ≡ block_cells geometry = span-is geometry geometry.block_fits in
    let p = paid few few_reads few_writes in
    let R : ℕ → ℕ → Type 0 = λ (x : ℕ) (y : ℕ). s.reads ≤ parts (14 * (m * x)) y + 4 * (2 ^ (geometry.bottom + 4) / y) in
    record {
      reads_most = subst (λ (y : ℕ). s.reads ≤ parts (14 * (m * (geometry.bottom + 1))) y + 4 * (2 ^ (geometry.bottom + 4) / y)) span
          (subst (λ (x : ℕ). s.reads ≤ parts (14 * (m * x)) (blocks.block_cells d) + 4 * (2 ^ (geometry.bottom + 4) / blocks.block_cells d)) (let e : suc (length ahead) ≡ geometry.bottom + 1 = omega (arith, n) in e)
          (subst (λ (x : ℕ). s.reads ≤ parts (14 * (m * suc (length ahead))) (blocks.block_cells d) + 4 * (2 ^ (x + 4) / blocks.block_cells d)) n (bound-reads d m t top.visible ahead s fits p)));
      writes_most = subst (λ (y : ℕ). s.writes ≤ parts (4 * (m * (geometry.bottom + 1))) y + 2 ^ (geometry.bottom + 4) / y) span
          (subst (λ (x : ℕ). s.writes ≤ parts (4 * (m * x)) (blocks.block_cells d) + 2 ^ (geometry.bottom + 4) / blocks.block_cells d) (let e : suc (length ahead) ≡ geometry.bottom + 1 = omega (arith, n) in e)
          (subst (λ (x : ℕ). s.writes ≤ parts (4 * (m * suc (length ahead))) (blocks.block_cells d) + 2 ^ (x + 4) / blocks.block_cells d) n (bound-writes d m t top.visible ahead s fits p)));
    }

-- ---- reads by way of the block of searches

pub paid-stays : {D K : Type 0} (bytes : D → Option (List ℕ)) (counts : D → Counts) (kept : D → K) (old new : Contents D) → held_of bytes new ≡ held_of bytes old → kept_of bytes counts kept new ≡ kept_of bytes counts kept old →
    ((buffer : Buffer) → buffer ≢ Search → (spent_of counts new).lasts buffer ≡ (spent_of counts old).lasts buffer) → IsPaid bytes counts old → IsPaid bytes counts new
paid-stays {D} {K} bytes counts kept old new held_is kept_is lasts p =
    let own : (l : ℕ) → (spent_of counts new).lasts (By Own l) ≡ (spent_of counts old).lasts (By Own l) = λ l. lasts (By Own l) (λ e. let f : ⊥ = cc in f) in
    let incoming : (l : ℕ) → (spent_of counts new).lasts (By Incoming l) ≡ (spent_of counts old).lasts (By Incoming l) = λ l. lasts (By Incoming l) (λ e. let f : ⊥ = cc in f) in
    let sample : (l : ℕ) → (spent_of counts new).lasts (By Sample l) ≡ (spent_of counts old).lasts (By Sample l) = λ l. lasts (By Sample l) (λ e. let f : ⊥ = cc in f) in
    let readers_is : (transfers_of (held_of bytes new) (spent_of counts new)).readers ≡ (transfers_of (held_of bytes old) (spent_of counts old)).readers =
    λ i. record {
      own = λ level slot number. is_last (own level i) level slot number;
      incoming = λ level slot number. is_last (incoming level i) level slot number;
      sample = λ level slot number. is_last (sample level i) level slot number;
    } in
    let same : sums_of (held_of bytes new) (spent_of counts new) new.reads new.writes ≡ sums_of (held_of bytes old) (spent_of counts old) old.reads old.writes =
    λ i. record { reads = (kept_is i).reads; writes = (kept_is i).writes; readers = readers_is i; kept = λ level. is_kept (held_is i) level } in
    record {
      paid =
          subst (λ (x : Held). ArePaid x.fixed.doublings new.accepted new.clock new.levels (sums_of (held_of bytes new) (spent_of counts new) new.reads new.writes)) (sym held_is)
          (subst (λ (k : Kept K). ArePaid (held_of bytes old).fixed.doublings k.accepted k.clock k.levels (sums_of (held_of bytes new) (spent_of counts new) new.reads new.writes)) (sym kept_is)
          (subst (λ (x : Transfers). ArePaid (held_of bytes old).fixed.doublings old.accepted old.clock old.levels x) (sym same) p.paid));
    }

-- a chain of whose store a cell was read by way of that block
pub read-sound : {D K : Type 0} (bytes : D → Option (List ℕ)) (counts : D → Counts) (kept : D → K) (old : Contents D) (store : Store D) → run.held_of bytes store ≡ held_of bytes old → run.kept_of bytes counts kept store ≡ run.kept_of bytes counts kept old.store →
    ((buffer : Buffer) → buffer ≢ Search → (run.spent_of counts store).lasts buffer ≡ (spent_of counts old).lasts buffer) → IsContents bytes counts old → IsContents bytes counts (record old { store = store })
read-sound {D} {K} bytes counts kept old store held_is kept_is lasts sound =
    let new : Contents D = record old { store = store } in
    let same : kept_of bytes counts kept new ≡ kept_of bytes counts kept old =
    ap (λ (k : run.Kept K). record { store = k; levels = old.levels; clock = old.clock; accepted = old.accepted; reads = old.reads; writes = old.writes }) kept_is in
    record {
      stands = subst (λ (h : Held). IsChain h old.clock old.levels) (sym held_is) sound.stands;
      paid = λ counted. paid-stays bytes counts kept old new held_is same lasts (sound.paid counted);
    }

-- a search over windows changes no cell, and of the blocks that buffers hold that of searches alone
module _ {S P : Type 0} (sought : S → S → P → Format → List ℕ → ℕ → Type 0) (old new : State) (reach : Reach) (before after : S) (probe : P) (from to : ℕ) where
  pub held-scanned : (result : Result ℕ ReadFault) → Scans sought old new reach before after probe from to result → new.held ≡ old.held
  held-scanned (Ok ticks) (inl still) = ap (λ (x : State). x.held) still.state_is
  held-scanned (Ok ticks) (inr s) = s.held_is ∙ s.first.cells_stay
  held-scanned (Err fault) refused = refused.0.cells_stay

  pub lasts-scanned : (result : Result ℕ ReadFault) → Scans sought old new reach before after probe from to result → (buffer : Buffer) → buffer ≢ Search →
      new.spent.lasts buffer ≡ old.spent.lasts buffer
  lasts-scanned (Ok ticks) (inl still) buffer d = ap (λ (x : State). x.spent.lasts buffer) still.state_is
  lasts-scanned (Ok ticks) (inr s) buffer d = s.others.lasts_are buffer ∙ s.first.others_stay buffer d
  lasts-scanned (Err fault) refused buffer d = refused.0.others_stay buffer d

-- ---- a chain after a step

pub paid-step : {D : Type 0} (bytes : D → Option (List ℕ)) (counts : D → Counts) (old new : Contents D) (from to : ℕ) → 2 ≤ length old.levels → IsChain (held_of bytes new) new.clock new.levels → new.clock ≡ next_clock (length old.levels) old.clock →
    (held_of bytes new).fixed ≡ (held_of bytes old).fixed → (spent_of counts old).turned ≤ (spent_of counts new).turned → (spent_of counts old).written ≤ (spent_of counts new).written →
    AllTrade old.clock (record { held = held_of bytes old; spent = spent_of counts old; steps = from }) (record { held = held_of bytes new; spent = spent_of counts new; steps = to }) old.levels new.levels →
    new.accepted ≡ added old.accepted 1 → new.reads ≡ added old.reads ((spent_of counts new).turned - (spent_of counts old).turned) → new.writes ≡ added old.writes ((spent_of counts new).written - (spent_of counts old).written) →
    IsPaid bytes counts old → IsPaid bytes counts new
paid-step bytes counts old new from to many chain clock fixed turned written trades accepted reads writes paid = record {
  paid =
      let s : WorkState = record { held = held_of bytes old; spent = spent_of counts old; steps = from } in
      let u : WorkState = record { held = held_of bytes new; spent = spent_of counts new; steps = to } in
      let done = paid-next s u old.clock new.clock old.accepted old.reads old.writes old.levels new.levels many chain clock fixed turned written trades paid.paid in
      subst (λ (n : ℕ). ArePaid (held_of bytes new).fixed.doublings n new.clock new.levels (sums_of (held_of bytes new) (spent_of counts new) new.reads new.writes)) (sym accepted)
      (subst (λ (n : ℕ). ArePaid (held_of bytes new).fixed.doublings (added old.accepted 1) new.clock new.levels (sums_of (held_of bytes new) (spent_of counts new) n new.writes)) (sym reads)
      (subst (λ (n : ℕ). ArePaid (held_of bytes new).fixed.doublings (added old.accepted 1) new.clock new.levels
      (sums_of (held_of bytes new) (spent_of counts new) (added old.reads ((spent_of counts new).turned - (spent_of counts old).turned)) n)) (sym writes) done));
}

-- what a slice that was lent leaves in its owner
pub refilled : {X : Type 0} (xs ws : List X) → length ws ≡ length xs → refill (length xs) xs ws ≡ ws
refilled xs ws h = take-append-le (length xs) ws (drop (length ws) xs) (omega (arith, h)) ∙ ap (λ (n : ℕ). take n ws) (sym h) ∙ take-length ws
