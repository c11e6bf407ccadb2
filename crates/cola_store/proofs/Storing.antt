-- A search of a store, a step of its chain, and a call that only reads: what they say of the store, and leave of walks.
use Rattle.std.proofs.Common.{◌≡◌, ℕ, suc, ◌+◌, ◌-◌, ◌*◌, ◌<◌, ◌≤◌, ◌≢◌, ◌^◌, min, Bool, List, [], ◌∷◌, length, Option, Some, None, Result, Ok, Err, option_map, true, refl, ap, sym, subst, ◌∙◌, arith}
use Rattle.std.specs.Prelude.{OnOk}
use Rattle.std.specs.Option.{IsSome}
use Rattle.std.specs.FinMap as finite
use Rattle.cola_clock.specs.Clock.{visible_slot}
use Rattle.cola_runs.specs.Seen.{answer, value_of}
use Rattle.cola_laws.specs.Chain.{value_at, updated}
use Rattle.cola_laws.specs.Sound.{HasAtMost}
use Rattle.cola_transfers.specs.Credit.{last_value}
use Rattle.cola_cell.specs.declared.cell.Item.{Item}
use Rattle.cola_cell.specs.declared.cell.Item.TheVariants.{Value, Tombstone}
use Rattle.cola_cell.specs.declared.cell.Run.{Run}
use Rattle.cola_cell.specs.declared.fault.ReadFault.{ReadFault}
use Rattle.cola_cell.specs.declared.fault.ReadFault.TheVariants as read
use Rattle.cola_cell.specs.declared.fault.StepFault.{StepFault}
use Rattle.cola_cell.specs.declared.fault.StepFault.TheVariants as step
use Rattle.cola_cell.specs.Costs.{Costs}
use Rattle.cola_cell.specs.Format.{stamp_limit}
use Rattle.cola_cell.specs.Held.{Held, Fixed, LawCell, Stamped, as_item}
use Rattle.cola_cell.specs.Order.{key_cmp}
use Rattle.cola_cell.specs.Spent.{Spent, Ticks, Buffer, Search}
use Rattle.cola_device.specs.declared.counts.Counts.{Counts}
use Rattle.cola_layout.specs.declared.geometry.Geometry.{Geometry}
use Rattle.cola_spec.specs.Bounds.{get_bound}
use Rattle.cola_spec.specs.Map.{Map, IsMap, count, Stored as Entry}
use Rattle.cola_spec.specs.Map as map
use Rattle.cola_spec.specs.Reply as reply
use Rattle.cola_table.specs.Answers.{OnlyDevice, StepFaults}
use Rattle.cola_table.specs.Terms.{Terms, shape, Call}
use Rattle.cola_shapes.specs.Shapes.{stamped_of}
use Rattle.cola_image.specs.Standing.{found_in}
use Rattle.cola_look.specs.Outcome.{Found, Answers}
use Rattle.cola_search.specs.Finds.{Finds}
use Rattle.cola_cursor.specs.Standing as standing
use Rattle.cola_cursor.specs.Standing.{with_stamp}
use Rattle.cola_cursor.specs.declared.cursor.Cursor.{Cursor}
use Rattle.cola_cursor.specs.declared.line.Line.{Line}
use Rattle.cola_cursor.proofs.Staying.{stands_stay, ahead_stays}
use Rattle.cola_level.specs.declared.level.Level.{Level}
use Rattle.cola_level.specs.Work.{IsDevice}
use Rattle.cola_merge.specs.States.{StepCalm}
use Rattle.cola_level.specs.Aims.{visible_run}
use Rattle.cola_mutation.specs.Standing.{StandsFor, KeepsProgress, HasRefusal}
use Rattle.cola_mutation.specs.Steps.{IsMapOf, ChangesMap, KeepsMap, with_item}
use Rattle.cola_mutation.proofs.Causes.{device_rose}
use Rattle.cola_mutation.proofs.MapLemmas.{few-found}
use Rattle.cola_mutation.specs.Work.{WorkState, HaveTurned}
use Rattle.cola_run.specs.Store as run
use Rattle.cola_chain.specs.Contents as chain
use Rattle.cola_chain.specs.Contents.{Contents}
use Rattle.cola_chain.specs.Runs.{visible_runs, visible_lists, AreSearched}
use Rattle.cola_chain.specs.Account.{IsPaid, CountsStep, added}
use Rattle.cola_chain.proofs.Account.{paid-stays}
use Rattle.cola_store.specs.declared.account.Account.{Account}
use Rattle.cola_store.specs.Store.{Stored, IsStored, IsMadeAfter, HasWritten, Holds, held_of, spent_of, state_of, geometry_of, levels_of, runs_of, terms_of, kept_of}
use Rattle.cola_store.specs.Calls.{stamped_found, FindsIn, TicksWithin, ReadsWithin, Same, Searches, with_search, with_refusal, value_found, stamp_found}
use Rattle.cola_store.specs.Walks.{WalksStay, TicksFew, TurnsWithin, left_of, left_after}

-- Ticks

-- the ticks between two counts of a ledger are those that the object counts
pub ticked_between : (old new : Spent) (before after most : ℕ) → TicksWithin old new before after most → Ticks old.ticked new.ticked (after - before)
ticked_between old new before after most t = let e = t.ticked_is in let s = t.steps_stay in omega (arith, e, s)

-- the same of a call that reads and leaves some to make, each tick for a block at most
pub turns_few : (old new : Spent) (before after left most : ℕ) → Costs old new before after (after - before) (after - before) → after + left ≤ before + most → TurnsWithin old new left most
turns_few old new before after left most c within =
    let e = c.ticked_is in
    let s = c.steps_stay in
    let r = c.turned_rises in
    record {
      turned_stays = c.turned_stays;
      turned_rises = omega (arith, r, s, within);
      written_is = c.written_is;
      ticks = record { made = after - before; counted = omega (arith, e, s); few = omega (arith, s, within) };
    }

-- and of a step on a walk, by its answer
pub turns_gone : (stamp : ℕ) (walk after : Cursor) (result : Result (Option (List ℕ × List ℕ)) ReadFault) (old new : Spent) (before now : ℕ) → Costs old new before now (now - before) (now - before) →
    OnOk (with_stamp stamp result) (now + left_of after ≤ before + left_of walk) → now ≤ before + left_of walk → TurnsWithin old new (left_after after result) (left_of walk)
turns_gone stamp walk after (Ok answer) old new before now c left most = turns_few old new before now (left_of after) (left_of walk) c left
turns_gone stamp walk after (Err fault) old new before now c left most = turns_few old new before now 0 (left_of walk) c (omega (arith, most))

-- one call behind another
pub ticks_then : (old mid new : Spent) (most left less : ℕ) → TicksFew old mid left most → TicksFew mid new less left → TicksFew old new less most
ticks_then old mid new most left less a b =
    let x = a.counted in
    let y = b.counted in
    let z = a.few in
    let w = b.few in
    record { made = a.made + b.made; counted = omega (arith, x, y); few = omega (arith, z, w) }

-- where nothing is done none is made
pub none_made : (spent : Spent) (left : ℕ) → TicksFew spent spent left left
none_made spent left = record { made = 0; counted = omega arith; few = omega arith }

pub no_tick : (ticked : ℕ) → Ticks ticked ticked 0
no_tick ticked = omega arith

-- Searches

pub length-visible : (t j : ℕ) (levels : List Level) → length (visible_runs t j levels) ≡ length levels
length-visible t j [] = refl
length-visible t j (l ∷ ls) = ap suc (length-visible t (suc j) ls)

as-found : (found : Option Item) → stamped_found found ≡ value_of (option_map as_item found)
as-found None = refl
as-found (Some (Value v s)) = refl
as-found (Some Tombstone) = refl

-- on lists that have for a key what a map has, the laws' answer is the map's
pub finds : (lists : List (List LawCell)) (m : Map) (key : List ℕ) (result : Result (Option Item) ReadFault) → Answers (Found (answer key_cmp key lists)) (option_map as_item) result →
    value_at key_cmp lists key ≡ found_in m key → FindsIn m key result
finds lists m key (Ok found) is values = as-found found ∙ ap value_of is ∙ values
finds lists m key (Err read.Device) is values = tt
finds lists m key (Err (read.BadCell n)) is values = absurd is

module _ {D K : Type 0} (bytes : D → Option (List ℕ)) (counts : D → Counts) (kept : D → K) where
  -- a store after a search of its chain
  abbrev pub searched_store : Stored D → Contents D → Stored D
  searched_store store now = record { chain = now; count = store.count; last = store.last; account = with_search store.account }

  -- what a call that only reads leaves
  pub same : (store : Stored D) (now : Contents D) (account : Account) → chain.held_of bytes now ≡ held_of bytes store → chain.kept_of bytes counts kept now ≡ chain.kept_of bytes counts kept store.chain →
      Same bytes counts store (record { chain = now; count = store.count; last = store.last; account = account })
  same store now account held_is kept_is = record {
    held_is = held_is;
    geometry_is = ap (λ (k : chain.Kept K). k.store.geometry) kept_is;
    levels_are = ap (λ (k : chain.Kept K). k.levels) kept_is;
    clock_is = ap (λ (k : chain.Kept K). k.clock) kept_is;
    steps_are = ap (λ (k : chain.Kept K). k.accepted) kept_is;
    reads_are = ap (λ (k : chain.Kept K). k.reads) kept_is;
    writes_are = ap (λ (k : chain.Kept K). k.writes) kept_is;
    count_is = refl;
    last_is = refl;
  }

  many-runs : (store : Stored D) (runs : List Run) → IsStored bytes counts store → runs ≡ runs_of store → length runs ≡ levels_of store
  many-runs store runs is runs_are = ap (λ (rs : List Run). length rs) runs_are ∙ length-visible store.chain.clock 0 store.chain.levels ∙ is.many

  pub searched : (store : Stored D) (now : Contents D) (runs : List Run) (key : List ℕ) (result : Result (Option Item) ReadFault) (before after : ℕ) → IsStored bytes counts store → runs ≡ runs_of store →
      chain.held_of bytes now ≡ held_of bytes store → chain.kept_of bytes counts kept now ≡ chain.kept_of bytes counts kept store.chain →
      Finds runs key (state_of bytes counts store) (chain.state_of bytes counts now) before after result →
      ((m : Map) → Holds bytes store m → AreSearched (held_of bytes store) runs (visible_lists (held_of bytes store) store.chain.clock store.chain.levels) (found_in m)) →
      Searches bytes counts store (searched_store store now) key result
  searched store now runs key result before after is runs_are held_is kept_is finds ready =
      let n = many-runs store (runs_of store) is refl in
      let f = subst (λ (rs : List Run). Finds rs key (state_of bytes counts store) (chain.state_of bytes counts now) before after result) runs_are finds in
      let within : (turns : ℕ) → (chain.spent_of counts now).turned ≤ (spent_of counts store).turned + turns → ReadsWithin (spent_of counts store) (chain.spent_of counts now) turns =
      (λ turns rises. record { turned_stays = f.costs.turned_stays; turned_rises = rises; written_is = f.costs.written_is }) in
      let one : (chain.spent_of counts now).turned ≤ (spent_of counts store).turned + length (runs_of store) → ReadsWithin (spent_of counts store) (chain.spent_of counts now) (levels_of store) =
      (λ rises. within (levels_of store) (subst (λ (k : ℕ). (chain.spent_of counts now).turned ≤ (spent_of counts store).turned + k) n rises)) in
      record {
        exact = f.exact;
        cause = f.cause;
        reads = within (2 * levels_of store) (subst (λ (k : ℕ). (chain.spent_of counts now).turned ≤ (spent_of counts store).turned + 2 * k) n f.costs.turned_rises);
        standing = λ lists told sampled. one (f.turns lists told sampled);
        on_map = λ m holds.
            let lists = visible_lists (held_of bytes store) store.chain.clock store.chain.levels in
            let r = subst (λ (rs : List Run). AreSearched (held_of bytes store) rs lists (found_in m)) runs_are (ready m holds) in
            one (f.turns lists r.told r.sampled);
        same = same store now (with_search store.account) held_is kept_is;
        counted = refl;
      }

  -- what was written since the opening, after a search
  written-stays : (store : Stored D) (now : Contents D) (account : Account) → account.opened ≡ store.account.opened → account.calm ≡ store.account.calm → chain.kept_of bytes counts kept now ≡ chain.kept_of bytes counts kept store.chain →
      (chain.spent_of counts now).written ≡ (spent_of counts store).written → HasWritten counts store → HasWritten counts (record { chain = now; count = store.count; last = store.last; account = account })
  written-stays store now account opened_is calm_is kept_is written_is is = λ calm few.
      let writes : now.writes ≡ store.chain.writes = ap (λ (k : chain.Kept K). k.writes) kept_is in
      let opened : account.opened.writes ≡ store.account.opened.writes = ap (λ (c : Counts). c.writes) opened_is in
      let old = is (sym calm_is ∙ calm) (subst (λ (n : ℕ). n < last_value) writes few) in
      omega (arith, writes, written_is, opened, old)

  pub search-ticks : (store : Stored D) (now : Contents D) (runs : List Run) (before after : ℕ) → IsStored bytes counts store → runs ≡ runs_of store →
      Costs (spent_of counts store) (chain.spent_of counts now) before after (8 * length runs) (2 * length runs) →
      TicksWithin (spent_of counts store) (chain.spent_of counts now) before after (get_bound (levels_of store))
  search-ticks store now runs before after is runs_are costs = record {
    steps_stay = costs.steps_stay;
    steps_rise = subst (λ (k : ℕ). after ≤ before + 8 * k) (many-runs store runs is runs_are) costs.steps_rise;
    ticked_is = costs.ticked_is;
    faults_stay = costs.faults_stay;
  }

  -- a store whose chain was only read by way of the block of searches, with another number of searches
  pub read-is : (store : Stored D) (now : Contents D) (account : Account) → account.opened ≡ store.account.opened → account.calm ≡ store.account.calm →
      IsStored bytes counts store → chain.held_of bytes now ≡ held_of bytes store → chain.kept_of bytes counts kept now ≡ chain.kept_of bytes counts kept store.chain →
      (chain.spent_of counts now).written ≡ (spent_of counts store).written →
      ((buffer : Buffer) → buffer ≢ Search → (chain.spent_of counts now).lasts buffer ≡ (spent_of counts store).lasts buffer) →
      IsStored bytes counts (record { chain = now; count = store.count; last = store.last; account = account })
  read-is store now account opened_is calm_is is held_is kept_is written_is lasts =
      let geometry_is : now.store.geometry ≡ geometry_of store = ap (λ (k : chain.Kept K). k.store.geometry) kept_is in
      record {
        many = subst (λ (q : Geometry). length now.levels ≡ q.bottom + 1) (sym geometry_is) (ap (λ (k : chain.Kept K). length k.levels) kept_is ∙ is.many);
        count_fits = subst (λ (q : Geometry). store.count ≤ q.keys) (sym geometry_is) is.count_fits;
        last_fits = subst (λ (q : Geometry). store.last ≤ stamp_limit q.format) (sym geometry_is) is.last_fits;
        made = subst (λ (c : Counts). IsMadeAfter c (chain.held_of bytes now)) (sym opened_is) (subst (λ (h : Held). IsMadeAfter store.account.opened h) (sym held_is) is.made);
        paid = λ calm. paid-stays bytes counts kept store.chain now held_is kept_is lasts (is.paid (sym calm_is ∙ calm));
        written = written-stays store now account opened_is calm_is kept_is written_is is.written;
      }

-- Steps

-- a count that stops at the last value of 64 bits, where it does not stand there
below-last : (most n : ℕ) → min n most < most → n < most
below-last most n h = omega (arith, h)

pub not-last : (before more after : ℕ) → after ≡ added before more → after < last_value → (after ≡ before + more) × (before < last_value)
not-last before more after is few =
    let less : before + more < last_value = below-last last_value (before + more) (subst (λ (n : ℕ). n < last_value) is few) in
    (is ∙ whole last_value (before + more) less, before-less last_value before more less)
  where
    whole : (most n : ℕ) → n < most → min n most ≡ n
    whole most n h = omega (arith, h)

    before-less : (most n m : ℕ) → n + m < most → n < most
    before-less most n m h = omega (arith, h)

-- what was written since the opening, after an accepted step
written-rises : (calm : Bool) (before after opened a b : ℕ) → a ≤ b → (calm ≡ true → before < last_value → a ≤ opened + 1 + before) → after ≡ added before (b - a) →
    calm ≡ true → after < last_value → b ≤ opened + 1 + after
written-rises calm before after opened a b stays old is calm_is few =
    let whole = not-last before (b - a) after is few in
    let e = whole.0 in
    let was = old calm_is whole.1 in
    omega (arith, e, was, stays)

-- a device that keeps its size where it tells its bytes tells them still
pub still-tells : {A B : Type 0} (f g : A → B) (old now : Option A) → option_map g now ≡ option_map f old → IsSome old → IsSome now
still-tells f g old (Some a) is some = refl
still-tells f g (Some b) None is some = cc
still-tells f g None None is some = some

-- a device's fault alone
only : (fault : StepFault) → IsDevice fault → OnlyDevice fault
only step.Device is = tt
only (step.BadCell number) is = is
only (step.Overfull level) is = is

-- what a refused step counts, by its cause
pub step-faults : (A : Type 0) {t : ℕ} {key : List ℕ} {item : Item} {s u : WorkState} {ls ms : List Level} (fault : StepFault) → HasRefusal t key item s u ls ms fault →
    StepCalm s.spent.faults u.spent.faults fault → StepFaults {A = A} (Err fault) s.spent.faults u.spent.faults
step-faults A {t} {key} {item} {s} {u} {ls} {ms} step.Device cause calm = device_rose t key item s u ls ms cause
step-faults A (step.BadCell number) cause calm = calm
step-faults A (step.Overfull level) cause calm = calm

-- the terms of a store with this geometry
abbrev pub terms_at : Geometry → Terms
terms_at geometry = record { format = geometry.format; limit = geometry.keys; depth = geometry.bottom + 1 }

module _ {D K : Type 0} (bytes : D → Option (List ℕ)) (counts : D → Counts) (kept : D → K) (store : Stored D) (now : Contents D)
    (is : IsStored bytes counts store) (kept_is : run.kept_of bytes counts kept now.store ≡ run.kept_of bytes counts kept store.chain.store) where
  geometry_is : now.store.geometry ≡ geometry_of store
  geometry_is = ap (λ (k : run.Kept K). k.geometry) kept_is

  tells : IsSome (bytes store.chain.store.buffers.cache.device) → IsSome (bytes now.store.buffers.cache.device)
  tells = still-tells (run.beside (geometry_of store)) (run.beside now.store.geometry) (bytes store.chain.store.buffers.cache.device) (bytes now.store.buffers.cache.device) (ap (λ (k : run.Kept K). k.beside) kept_is)

  made-stays : (chain.held_of bytes now).fixed ≡ (held_of bytes store).fixed → IsMadeAfter store.account.opened (chain.held_of bytes now)
  made-stays fixed = record {
    reads_stay = subst (λ (f : Fixed). store.account.opened.reads ≤ f.made.reads) (sym fixed) is.made.reads_stay;
    reads_rise = subst (λ (f : Fixed). f.made.reads ≤ store.account.opened.reads + 1) (sym fixed) is.made.reads_rise;
    no_fault = subst (λ (f : Fixed). f.made.faults ≡ store.account.opened.faults) (sym fixed) is.made.no_fault;
  }

  map-of : (m : Map) → Holds bytes store m → IsMapOf (held_of bytes store) (geometry_of store).keys store.chain.clock store.chain.levels (found_in m)
  map-of m holds =
      let room : (geometry_of store).keys ≤ 2 ^ ((geometry_of store).bottom + 2) = (geometry_of store).bottom_fits.holds in
      let n : length store.chain.levels + 1 ≡ (geometry_of store).bottom + 2 = omega (arith, is.many) in
      record { stands = holds.stands; room = subst (λ (k : ℕ). (geometry_of store).keys ≤ 2 ^ k) (sym n) room }

  -- the store after an accepted step
  pub stored-after : (unit : Unit {0}) (count last : ℕ) → length now.levels ≡ length store.chain.levels → (chain.held_of bytes now).fixed ≡ (held_of bytes store).fixed → count ≤ (geometry_of store).keys → last ≤ stamp_limit (geometry_of store).format →
      (spent_of counts store).written ≤ (chain.spent_of counts now).written →
      CountsStep counts store.chain now (Ok unit) → (IsPaid bytes counts store.chain → IsPaid bytes counts now) →
      IsStored bytes counts (record { chain = now; count = count; last = last; account = store.account })
  stored-after unit count last many fixed count_fits last_fits written counted paid = record {
    many = many ∙ is.many ∙ ap (λ (q : Geometry). q.bottom + 1) (sym geometry_is);
    count_fits = subst (λ (q : Geometry). count ≤ q.keys) (sym geometry_is) count_fits;
    last_fits = subst (λ (q : Geometry). last ≤ stamp_limit q.format) (sym geometry_is) last_fits;
    made = made-stays fixed;
    paid = λ calm. paid (is.paid calm);
    written = written-rises store.account.calm store.chain.writes now.writes store.account.opened.writes (spent_of counts store).written (chain.spent_of counts now).written written is.written counted.2;
  }

  -- and after a refused one
  pub stored-still : length now.levels ≡ length store.chain.levels → (chain.held_of bytes now).fixed ≡ (held_of bytes store).fixed →
      IsStored bytes counts (record { chain = now; count = store.count; last = store.last; account = with_refusal store.account })
  stored-still many fixed = record {
    many = many ∙ is.many ∙ ap (λ (q : Geometry). q.bottom + 1) (sym geometry_is);
    count_fits = subst (λ (q : Geometry). store.count ≤ q.keys) (sym geometry_is) is.count_fits;
    last_fits = subst (λ (q : Geometry). store.last ≤ stamp_limit q.format) (sym geometry_is) is.last_fits;
    made = made-stays fixed;
    paid = λ calm. cc;
    written = λ calm few. cc;
  }

  -- an accepted step of a store that stands for a map
  pub holds-after : (account : Account) (key : List ℕ) (item : Item) (number last : ℕ) (m after : Map) → Holds bytes store m → IsMap (shape (terms_of store)) after → found_in after ≡ updated key_cmp key (as_item item) (found_in m) →
      number ≡ count after → last ≡ after.last →
      ChangesMap (held_of bytes store) (chain.held_of bytes now) store.chain.clock now.clock key item store.chain.levels now.levels →
      Holds bytes (record { chain = now; count = number; last = last; account = account }) after
  holds-after account key item number last m after holds is_map found number_is last_is changes =
      let most = (geometry_of store).keys in
      let few : HasAtMost key_cmp most (with_item key item (found_in m)) = subst (λ (f : List ℕ → Option Stamped). HasAtMost key_cmp most f) found (few-found most after is_map.within) in
      let stands : StandsFor (chain.held_of bytes now) most now.clock now.levels (found_in after) =
      subst (λ (f : List ℕ → Option Stamped). StandsFor (chain.held_of bytes now) most now.clock now.levels f) (sym found) (changes most (found_in m) (map-of m holds) few) in
      record {
        tells = tells holds.tells;
        stands = subst (λ (q : Geometry). StandsFor (chain.held_of bytes now) q.keys now.clock now.levels (found_in after)) (sym geometry_is) stands;
        counted = number_is;
        numbered = last_is;
        is_map = subst (λ (q : Geometry). IsMap (shape (terms_at q)) after) (sym geometry_is) is_map;
      }

  -- a refused one
  pub holds-still : (account : Account) (m : Map) → Holds bytes store m → now.clock ≡ store.chain.clock → KeepsMap (held_of bytes store) (chain.held_of bytes now) store.chain.clock store.chain.levels now.levels →
      Holds bytes (record { chain = now; count = store.count; last = store.last; account = account }) m
  holds-still account m holds clock keeps =
      let most = (geometry_of store).keys in
      let stands = subst (λ (t : ℕ). StandsFor (chain.held_of bytes now) most t now.levels (found_in m)) (sym clock) (keeps most (found_in m) (map-of m holds)) in
      record {
        tells = tells holds.tells;
        stands = subst (λ (q : Geometry). StandsFor (chain.held_of bytes now) q.keys now.clock now.levels (found_in m)) (sym geometry_is) stands;
        counted = holds.counted;
        numbered = holds.numbered;
        is_map = subst (λ (q : Geometry). IsMap (shape (terms_at q)) m) (sym geometry_is) holds.is_map;
      }

  pub refused-right : (account : Account) (fault : StepFault) (m : Map) → Holds bytes store m → now.clock ≡ store.chain.clock → KeepsMap (held_of bytes store) (chain.held_of bytes now) store.chain.clock store.chain.levels now.levels →
      ((most : ℕ) (f : List ℕ → Option Stamped) → IsMapOf (held_of bytes store) most store.chain.clock store.chain.levels f → IsDevice fault) →
      OnlyDevice fault × Holds bytes (record { chain = now; count = store.count; last = store.last; account = account }) m
  refused-right account fault m holds clock keeps device = (
    only fault (device (geometry_of store).keys (found_in m) (map-of m holds)),
    holds-still account m holds clock keeps,
  )

-- Calls that only read

module _ {D K : Type 0} (bytes : D → Option (List ℕ)) (counts : D → Counts) (kept : D → K) (old new : Stored D) (same : Same bytes counts old new) (kept_is : kept_of bytes counts kept new ≡ kept_of bytes counts kept old) where
  runs-same : runs_of new ≡ runs_of old
  runs-same = ap (λ (ls : List Level). visible_runs new.chain.clock 0 ls) same.levels_are ∙ ap (λ (t : ℕ). visible_runs t 0 old.chain.levels) same.clock_is

  pub terms-same : terms_of new ≡ terms_of old
  terms-same = ap terms_at same.geometry_is

  pub holds-same : (m : Map) → Holds bytes old m → Holds bytes new m
  holds-same m holds = record {
    tells = still-tells (run.beside (geometry_of old)) (run.beside (geometry_of new)) (bytes old.chain.store.buffers.cache.device) (bytes new.chain.store.buffers.cache.device) (ap (λ (k : run.Kept K). k.beside) kept_is) holds.tells;
    stands =
        subst (λ (h : Held). StandsFor h (geometry_of new).keys new.chain.clock new.chain.levels (found_in m)) (sym same.held_is)
        (subst (λ (q : Geometry). StandsFor (held_of bytes old) q.keys new.chain.clock new.chain.levels (found_in m)) (sym same.geometry_is)
        (subst (λ (t : ℕ). StandsFor (held_of bytes old) (geometry_of old).keys t new.chain.levels (found_in m)) (sym same.clock_is)
        (subst (λ (ls : List Level). StandsFor (held_of bytes old) (geometry_of old).keys old.chain.clock ls (found_in m)) (sym same.levels_are) holds.stands)));
    counted = same.count_is ∙ holds.counted;
    numbered = same.last_is ∙ holds.numbered;
    is_map = subst (λ (q : Geometry). IsMap (shape (terms_at q)) m) (sym same.geometry_is) holds.is_map;
  }

  pub walks-same : WalksStay bytes old new
  walks-same = record {
    standing = λ walk stands. record {
      cursor = subst (λ (h : Held). standing.Stands h walk) (sym same.held_is) stands.cursor;
      visible = stands.visible ∙ sym runs-same;
    };
    pairs_ahead = λ walk pairs ahead. record {
      stamped = ahead.stamped;
      cursor = subst (λ (h : Held). standing.Ahead h walk ahead.stamped) (sym same.held_is) ahead.cursor;
      pairs_are = ahead.pairs_are;
      visible = ahead.visible ∙ sym runs-same;
    };
  }

  pub call-same : (before after bound : ℕ) → TicksWithin (spent_of counts old) (spent_of counts new) before after bound →
      Call (terms_of old) (terms_of new) (spent_of counts old).faults (spent_of counts new).faults before after bound
  call-same before after bound ticks = record {
    same_terms = terms-same;
    faults_kept = ticks.faults_stay;
    steps_kept = ticks.steps_stay;
    within = ticks.steps_rise;
  }

-- the number of keys, by what a count answered
pub counted-is : (n m : ℕ) → reply.Counted n ≡ reply.Counted m → n ≡ m
counted-is n m is = cc

-- what a map stores of a key, by what a search found
value-stored : (x : Option Entry) → option_map (λ (s : Stamped). s.value) (option_map stamped_of x) ≡ option_map (λ (s : Entry). s.value) x
value-stored None = refl
value-stored (Some s) = refl

stamp-stored : (x : Option Entry) → option_map (λ (s : Stamped). s.stamp) (option_map stamped_of x) ≡ option_map (λ (s : Entry). s.stamp) x
stamp-stored None = refl
stamp-stored (Some s) = refl

pub value-found : (m : Map) (key : List ℕ) (found : Option Item) → stamped_found found ≡ found_in m key → value_found found ≡ map.value_of m key
value-found m key found is = ap (option_map (λ (s : Stamped). s.value)) is ∙ value-stored (finite.get m.entries key)

pub stamp-found : (m : Map) (key : List ℕ) (found : Option Item) → stamped_found found ≡ found_in m key → stamp_found found ≡ map.stamp_of m key
stamp-found m key found is = ap (option_map (λ (s : Stamped). s.stamp)) is ∙ stamp-stored (finite.get m.entries key)

-- Refused steps: what they leave of the walks over the store

turned-runs : (t i : ℕ) (ls ms : List Level) → HaveTurned t i ls ms → visible_runs t (suc i) ms ≡ visible_runs t (suc i) ls
turned-runs t i [] [] h = refl
turned-runs t i [] (m ∷ ms) h = absurd h
turned-runs t i (l ∷ ls) [] h = absurd h
turned-runs t i (l ∷ ls) (m ∷ ms) h =
    ap (λ (v : ℕ). visible_run t (suc i) v ∷ visible_runs t (suc (suc i)) ms) h.0.visible ∙ ap (λ (rs : List Run). visible_run t (suc i) l.visible ∷ rs) (turned-runs t (suc i) ls ms h.1)

pub kept-runs : (t : ℕ) (ls ms : List Level) → KeepsProgress t ls ms → visible_runs t 0 ms ≡ visible_runs t 0 ls
kept-runs t [] [] h = refl
kept-runs t [] (m ∷ ms) h = absurd h
kept-runs t (l ∷ ls) [] h = absurd h
kept-runs t (l ∷ ls) (m ∷ ms) h =
    ap (λ (x : Level). visible_run t 0 x.visible ∷ visible_runs t 1 ms) h.0 ∙ ap (λ (rs : List Run). visible_run t 0 l.visible ∷ rs) (turned-runs t 0 ls ms h.1)

-- the first run of a list and the others
abbrev first-of : Run → List Run → Run
first-of r [] = r
first-of r (x ∷ xs) = x

abbrev rest-of : List Run → List Run
rest-of [] = []
rest-of (x ∷ xs) = xs

lines-stay : (old new : Held) (t j : ℕ) (levels : List Level) (lines : List Line) → standing.runs_of lines ≡ visible_runs t j levels →
    ((level index : ℕ) → level < j + length levels → new.spots level (visible_slot t level) index ≡ old.spots level (visible_slot t level) index) → standing.RunsStay old new lines
unfolding visible_slot
lines-stay old new t j levels [] is stay = tt
lines-stay old new t j [] (x ∷ xs) is stay = cc
lines-stay old new t j (l ∷ ls) (x ∷ xs) is stay = (
  λ i within. subst (λ (r : Run). new.spots r.level r.slot i ≡ old.spots r.level r.slot i) (sym (ap (first-of x.run) is)) (stay j i (omega arith)),
  lines-stay old new t (suc j) ls xs (ap rest-of is) (λ level index h. stay level index (omega (arith, h))),
)

module _ {D : Type 0} (bytes : D → Option (List ℕ)) (store : Stored D) (now : Contents D) (clock : now.clock ≡ store.chain.clock) (progress : KeepsProgress store.chain.clock store.chain.levels now.levels)
    (fixed : (chain.held_of bytes now).fixed ≡ (held_of bytes store).fixed)
    (stay : (level index : ℕ) → level < length store.chain.levels → (chain.held_of bytes now).spots level (visible_slot store.chain.clock level) index ≡ (held_of bytes store).spots level (visible_slot store.chain.clock level) index) where
  runs-kept : visible_runs now.clock 0 now.levels ≡ runs_of store
  runs-kept = ap (λ (t : ℕ). visible_runs t 0 now.levels) clock ∙ kept-runs store.chain.clock store.chain.levels now.levels progress

  pub walks-refused : (account : Account) → WalksStay bytes store (record { chain = now; count = store.count; last = store.last; account = account })
  walks-refused account = record {
    standing = λ walk stands. record {
      cursor = stands_stay walk.falls (held_of bytes store) (chain.held_of bytes now) walk (ap (λ (f : Fixed). f.levels) fixed) (lines-stay (held_of bytes store) (chain.held_of bytes now) store.chain.clock 0 store.chain.levels walk.lines.items stands.visible (λ level index h. stay level index (omega (arith, h)))) stands.cursor;
      visible = stands.visible ∙ sym runs-kept;
    };
    pairs_ahead = λ walk pairs ahead. record {
      stamped = ahead.stamped;
      cursor = ahead_stays walk.falls (held_of bytes store) (chain.held_of bytes now) walk ahead.stamped (lines-stay (held_of bytes store) (chain.held_of bytes now) store.chain.clock 0 store.chain.levels walk.lines.items ahead.visible (λ level index h. stay level index (omega (arith, h)))) ahead.cursor;
      pairs_are = ahead.pairs_are;
      visible = ahead.visible ∙ sym runs-kept;
    };
  }
