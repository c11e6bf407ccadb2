-- Fetched heads.
use Rattle.std.proofs.Common.{◌≡◌, ◌≢◌, ℕ, ◌+◌, ◌/◌, ◌^◌, ◌<◌, ◌≤◌, Option, Some, None, Result, Ok, Err, refl, ap, sym, subst, ◌∙◌, arith}
use Rattle.std.specs.Result.{IsErrAnd}
use Rattle.std.proofs.lemmas.Option.{same_Some}
use Rattle.cola_cell.specs.declared.windows.Reach.{Reach}
use Rattle.cola_cell.specs.declared.cell.Reader.{Reader}
use Rattle.cola_cell.specs.declared.cell.Reader.TheVariants.{Own, Incoming, Sample}
use Rattle.cola_cell.specs.declared.cell.Cell.{Cell}
use Rattle.cola_cell.specs.declared.fault.ReadFault.{ReadFault}
use Rattle.cola_cell.specs.declared.fault.ReadFault.TheVariants as read
use Rattle.cola_cell.specs.Fault.{step_of_read}
use Rattle.cola_cell.specs.Places.{block_of}
use Rattle.cola_cell.specs.Held.{Held, span}
use Rattle.cola_cell.specs.Spent.{Buffer, By, IsBad, ReadAnswers, ReadCalm}
use Rattle.cola_cell.specs.Reads.{Reads, ReadsIn}
use Rattle.cola_cell.specs.State.{State}
use Rattle.cola_merge.specs.declared.aims.Feed.{Feed}
use Rattle.cola_merge.specs.declared.aims.Feed.TheVariants as feed
use Rattle.cola_merge.specs.declared.aims.Aim.{Aim}
use Rattle.cola_merge.specs.Fetched.{Head}
use Rattle.cola_merge.specs.declared.merging.Merger.{Merger}
use Rattle.cola_merge.specs.Feeds.{feed_of, feed_len, read_len, place_of, feed_spots, IsFeed, IsBadAt}
use Rattle.cola_merge.specs.Heads.{head_at, head_of, with_head, consumed, IsHeldCell, IsHead, HasHeads, IsReady, missing_head, missing, held_head, fetched_of, fetched}
use Rattle.cola_merge.specs.Blocks.{Lasts, run_left, feed_left, blocks_left}
use Rattle.cola_merge.specs.States.{IsOther, IsBeside, ReadFailed, Fetches, Fetch, state, StepCause, StepCalm}
use Rattle.cola_merge.specs.Advance.{cells_read}
use Rattle.cola_merge.specs.Pulls.{Looks, Looked, Unread}
use Rattle.cola_merge.proofs.Groups.{read_left, sampled_block}
use Rattle.cola_merge.proofs.Kept.{left-beside}
use Rattle.cola_merge.proofs.Sums.{spends_ticks}

-- ---- one read

-- a feed that reads the cell at a cursor at this place
pub record IsPlaced (held : Held) (reader : Reader) (f : Feed) (at : ℕ) (p : Reach) : Type 0 where
  pub all : read_len f ≡ feed_len f
  pub counts : (cell : Option Cell) → fetched_of f (record { at = at; cell = cell }) ≡ at + held_head cell
  pub spot : feed_spots held f at ≡ held.spots p.run.level p.run.slot p.from
  pub bad : (number : ℕ) → at < feed_len f → IsBad held p.run.level p.run.slot p.from number → IsBadAt held f at number
  pub beside : (buffer : Buffer) → IsOther reader f buffer → buffer ≢ By reader p.run.level
  pub size : ℕ
  pub block : p.from / span held ≡ at / size
  pub left : (lasts : Lasts) → feed_left held.fixed.doublings lasts reader f at ≡ run_left (span held) (lasts (By reader p.run.level)) p.run size (feed_len f) at

pub placed : (held : Held) (reader : Reader) (f : Feed) (at : ℕ) (p : Reach) → place_of f at ≡ Some p → IsPlaced held reader f at p
placed held reader (feed.Run run) at p e = subst (IsPlaced held reader (feed.Run run) at) (same_Some _ _ e)
    (record { all = refl; counts = λ _. refl; spot = refl; bad = λ _ h b. (h, b); beside = λ _ d. d; size = span held; block = refl; left = λ _. refl })
placed held reader (feed.Sampled run) at p e = subst (IsPlaced held reader (feed.Sampled run) at) (same_Some _ _ e) (record {
  all = refl;
  counts = λ _. refl;
  spot = refl;
  bad = λ _ h b. (h, b);
  beside = λ _ d. d;
  size = 2 ^ held.fixed.doublings;
  block = sampled_block at held.fixed.doublings;
  left = λ _. refl;
})
placed held reader _ at p e = cc

calm_same : (T A : Type 0) (before now : ℕ) (fault : ReadFault) → ReadCalm {T = T} before now (Err fault) → ReadCalm {T = A} before now (Err fault)
calm_same T A before now read.Device h = tt
calm_same T A before now (read.BadCell number) h = h

-- ---- the head was not held

-- a read of the place of the next cell
module _ {old new : State} (reader : Reader) (f : Feed) (at : ℕ) (p : Reach) (from to : ℕ) (facts : IsPlaced old.held reader f at p) (h : at < feed_len f) (ticked : to ≡ from + 1) where
  reads_left : (c : Cell) → Reads old new (By reader p.run.level) p.run.level p.run.slot p.from (Ok c) →
      new.spent.turned + feed_left old.held.fixed.doublings new.spent.lasts reader f at ≤ old.spent.turned + feed_left old.held.fixed.doublings old.spent.lasts reader f at
  reads_left c r =
      let same : block_of (span old.held) p.run.level p.run.slot p.from ≡ record { level = p.run.level; slot = p.run.slot; number = at / facts.size } =
      ap (λ (n : ℕ). record { level = p.run.level; slot = p.run.slot; number = n }) facts.block in
      let l = read_left (span old.held) (old.spent.lasts (By reader p.run.level)) (new.spent.lasts (By reader p.run.level)) p.run facts.size (feed_len f) at old.spent.turned new.spent.turned h r.turned_rises
      (λ s. (r.in_small s).turned_is)
      (λ b. let i = r.in_last (b ∙ ap Some (sym same)) in (i.turned_is, i.last_is))
      (λ m. r.moves m ∙ ap Some same) in
      omega (arith, l, facts.left old.spent.lasts, facts.left new.spent.lasts)

  -- a read, by its answer
  fetch_by : {read : Result Cell ReadFault} (result : Result (Unit {0}) ReadFault) (cell : Option Cell) → Reads old new (By reader p.run.level) p.run.level p.run.slot p.from read →
      IsHead old.held f (record { at = at; cell = cell }) → ReadCalm old.spent.faults new.spent.faults result →
      Fetches old new reader f (head_at at) (record { at = at; cell = cell }) from to result → Fetch old new reader f (head_at at) (record { at = at; cell = cell }) from to result
  fetch_by result cell r head calm fetches = record {
    cells_stay = r.cells_stay;
    at_is = refl;
    head = head;
    spends = spends_ticks 1 ticked r.one_tick r.turned_stays (omega (arith, r.written_is)) (omega (arith, r.written_is, r.turned_rises)) r.faults_stay;
    written_is = r.written_is;
    others_stay = λ buffer d. r.others_stay buffer (facts.beside buffer d);
    calm = calm;
    fetches = fetches;
  }

  pub read_fetches : (room : Option Cell) (result : Result (Unit {0}) ReadFault) → IsHead old.held f (head_at at) →
      ReadsIn old new (By reader p.run.level) p.run.level p.run.slot p.from room result →
      Fetch old new reader f (head_at at) (record { at = at; cell = room }) from to result
  read_fetches room (Ok done) i r = rw r.has (fetch_by (Ok done) (Some r.cell) r.reads
      (record { within = i.within; cell = (h, rw facts.spot r.reads.answer.told, r.reads.answer.fits) }) r.reads.calm
      (λ _. refl, omega (arith, ticked), omega (arith, ticked, facts.counts None, facts.counts (Some r.cell)), reads_left r.cell r.reads))
  read_fetches room (Err fault) i r = rw r.has (fetch_by (Err fault) None r.reads i (calm_same Cell (Unit {0}) old.spent.faults new.spent.faults fault r.reads.calm)
      (cause fault r.reads.answer, refl, ticked, omega (arith, facts.counts None, facts.all, h)))
    where
      cause : (fault : ReadFault) → ReadAnswers old.held old.spent.faults new.spent.faults p.run.level p.run.slot p.from (Err fault) → ReadFailed old.held old.spent.faults new.spent.faults f at fault
      cause read.Device a = a
      cause (read.BadCell number) a = facts.bad number h a

-- ---- one head of three

pub heads_of : {held : Held} {aim : Aim} {m : Merger} → IsReady held aim m → HasHeads held aim m
heads_of r = record { own_feed = r.own_feed; incoming_feed = r.incoming_feed; sample_feed = r.sample_feed; own = r.own; incoming = r.incoming; sample = r.sample }

-- other heads of the same feeds
pub ready_by : {held : Held} {aim : Aim} {m n : Merger} → IsReady held aim m → HasHeads held aim n → IsReady held aim n
ready_by r h = record {
  level_in = r.level_in;
  slot_is = r.slot_is;
  own_feed = r.own_feed;
  incoming_feed = r.incoming_feed;
  sample_feed = r.sample_feed;
  own_apart = r.own_apart;
  incoming_apart = r.incoming_apart;
  sample_apart = r.sample_apart;
  own = h.own;
  incoming = h.incoming;
  sample = h.sample;
}

pub heads_with : {held : Held} {aim : Aim} {m : Merger} {head : Head} (reader : Reader) → HasHeads held aim m → IsHead held (feed_of aim reader) head → HasHeads held aim (with_head m reader head)
heads_with Own r h = record { own_feed = r.own_feed; incoming_feed = r.incoming_feed; sample_feed = r.sample_feed; own = h; incoming = r.incoming; sample = r.sample }
heads_with Incoming r h = record { own_feed = r.own_feed; incoming_feed = r.incoming_feed; sample_feed = r.sample_feed; own = r.own; incoming = h; sample = r.sample }
heads_with Sample r h = record { own_feed = r.own_feed; incoming_feed = r.incoming_feed; sample_feed = r.sample_feed; own = r.own; incoming = r.incoming; sample = h }

pub head_in : {held : Held} {aim : Aim} {m : Merger} (reader : Reader) → HasHeads held aim m → IsHead held (feed_of aim reader) (head_of m reader)
head_in Own r = r.own
head_in Incoming r = r.incoming
head_in Sample r = r.sample

pub feed_in : {held : Held} {aim : Aim} {m : Merger} (reader : Reader) → HasHeads held aim m → IsFeed held.fixed (feed_of aim reader)
feed_in Own r = r.own_feed
feed_in Incoming r = r.incoming_feed
feed_in Sample r = r.sample_feed

pub head_of-with : (m : Merger) (reader : Reader) (head : Head) → head_of (with_head m reader head) reader ≡ head
head_of-with m Own head = refl
head_of-with m _ head = refl

-- the head that stands there already
pub with_same : (m : Merger) (reader : Reader) (head : Head) → head ≡ head_of m reader → with_head m reader head ≡ m
with_same m Own head e = ap (with_head m Own) e
with_same m Incoming head e = ap (with_head m Incoming) e
with_same m Sample head e = ap (with_head m Sample) e

-- the head that stands there, consumed
pub with_passed : (m : Merger) (reader : Reader) (head passed : Head) → head ≡ head_of m reader → passed ≡ head_at (head.at + 1) → with_head m reader passed ≡ with_head m reader (head_at ((head_of m reader).at + 1))
with_passed m reader head passed v e = ap (with_head m reader) (e ∙ ap (λ (h : Head). head_at (h.at + 1)) v)

pub consumed-with : (m : Merger) (reader : Reader) (head : Head) (n : ℕ) → head.at ≡ (head_of m reader).at + n → consumed (with_head m reader head) ≡ consumed m + n
consumed-with m Own head n e = omega (arith, e)
consumed-with m _ head n e = omega (arith, e)

-- what holds of the head that comes in, and of each that stands, holds of each then
with_each : (P : Reader → Head → Type 0) (m : Merger) (reader : Reader) (head : Head) → P reader head → ((other : Reader) → P other (head_of m other)) → (other : Reader) →
    P other (head_of (with_head m reader head) other)
with_each P m Own head h k Own = h
with_each P m Incoming head h k Incoming = h
with_each P m Sample head h k Sample = h
with_each P m _ head h k other = k other

pub rises-with : (m : Merger) (reader : Reader) (head : Head) → (head_of m reader).at ≤ head.at → (other : Reader) → (head_of m other).at ≤ (head_of (with_head m reader head) other).at
rises-with m reader head h = with_each (λ other x. (head_of m other).at ≤ x.at) m reader head h (λ other. omega arith)

beside-with : (aim : Aim) (reader : Reader) (buffer : Buffer) → IsBeside aim buffer → IsOther reader (feed_of aim reader) buffer
beside-with aim Own buffer b = b.own
beside-with aim Incoming buffer b = b.incoming
beside-with aim Sample buffer b = b.sample

pub missing-with : (m : Merger) (reader : Reader) (head : Head) → missing (with_head m reader head) + missing_head (head_of m reader).cell ≡ missing m + missing_head head.cell
missing-with m Own head = omega arith
missing-with m _ head = omega arith

pub fetched-with : (aim : Aim) (m : Merger) (reader : Reader) (head : Head) → fetched aim (with_head m reader head) + fetched_of (feed_of aim reader) (head_of m reader) ≡ fetched aim m + fetched_of (feed_of aim reader) head
fetched-with aim m Own head = omega arith
fetched-with aim m _ head = omega arith

-- a head is held or missing
pub one_of : (c : Option Cell) → missing_head c + held_head c ≡ 1
one_of None = refl
one_of (Some c) = refl

pub three_of : (m : Merger) → missing m + (held_head m.own.cell + held_head m.incoming.cell + held_head m.sample.cell) ≡ 3
three_of m = omega (arith, one_of m.own.cell, one_of m.incoming.cell, one_of m.sample.cell)

-- blocks left of the three feeds, from those of one
pub left-with : (aim : Aim) (m : Merger) (d : ℕ) (before now : Lasts) (o n : ℕ) (reader : Reader) (head : Head) →
    n + feed_left d now reader (feed_of aim reader) head.at ≤ o + feed_left d before reader (feed_of aim reader) (head_of m reader).at →
    ((buffer : Buffer) → IsOther reader (feed_of aim reader) buffer → now buffer ≡ before buffer) →
    n + blocks_left d now aim (with_head m reader head) ≤ o + blocks_left d before aim m
left-with aim m d before now o n Own head h k =
    let e = left-beside d before now Own Incoming (λ e. cc) aim.own aim.incoming k m.incoming.at in
    let f = left-beside d before now Own Sample (λ e. cc) aim.own aim.sample k m.sample.at in omega (arith, h, e, f)
left-with aim m d before now o n Incoming head h k =
    let e = left-beside d before now Incoming Own (λ e. cc) aim.incoming aim.own k m.own.at in
    let f = left-beside d before now Incoming Sample (λ e. cc) aim.incoming aim.sample k m.sample.at in omega (arith, h, e, f)
left-with aim m d before now o n Sample head h k =
    let e = left-beside d before now Sample Own (λ e. cc) aim.sample aim.own k m.own.at in
    let f = left-beside d before now Sample Incoming (λ e. cc) aim.sample aim.incoming k m.incoming.at in omega (arith, h, e, f)

-- what was read of a feed is part of it
fetched_within : (held : Held) (f : Feed) (at : ℕ) (c : Option Cell) → at ≤ feed_len f → IsHeldCell held f at c → fetched_of f (record { at = at; cell = c }) ≤ read_len f
fetched_within held (feed.Run run) at None h k = omega (arith, h)
fetched_within held (feed.Run run) at (Some c) h k = omega (arith, k.0)
fetched_within held (feed.Sampled run) at None h k = omega (arith, h)
fetched_within held (feed.Sampled run) at (Some c) h k = omega (arith, k.0)
fetched_within held _ at c h k = omega arith

pub head_within : {held : Held} {f : Feed} {head : Head} → IsHead held f head → fetched_of f head ≤ read_len f
head_within {held} {f} {head} h = fetched_within held f head.at head.cell h.within h.cell

-- ---- a fetch of one head

module _ {A : Type 0} {aim : Aim} {old new : State} (m : Merger) (from to : ℕ) (reader : Reader) (head : Head) (r : HasHeads old.held aim m) where
  fetch_looks : (result : Result A ReadFault) → Fetch old new reader (feed_of aim reader) (head_of m reader) head from to result → Looks aim (state old m from) (state new (with_head m reader head) to)
  fetch_looks result f = record {
    cells_stay = f.cells_stay;
    at_is = with_each (λ other x. x.at ≡ (head_of m other).at) m reader head f.at_is (λ other. refl);
    heads = heads_with reader r f.head;
    spends = f.spends;
    written_is = f.written_is;
    others_stay = λ buffer b. f.others_stay buffer (beside-with aim reader buffer b);
  }

  -- an accepted fetch
  pub fetch_looked : (a : A) → Fetch old new reader (feed_of aim reader) (head_of m reader) head from to (Ok a) → Looked aim (state old m from) (state new (with_head m reader head) to)
  fetch_looked a f = record {
    looks = fetch_looks (Ok a) f;
    ticks = omega (arith, missing-with m reader head, f.fetches.1);
    reads = omega (arith, fetched-with aim m reader head, f.fetches.2);
    turned = left-with aim m old.held.fixed.doublings old.spent.lasts new.spent.lasts old.spent.turned new.spent.turned reader head f.fetches.3 f.others_stay;
    calm = f.calm;
  }

-- a refused fetch
all_within : {held : Held} {aim : Aim} {m : Merger} (reader : Reader) → HasHeads held aim m → fetched_of (feed_of aim reader) (head_of m reader) < read_len (feed_of aim reader) → fetched aim m < cells_read aim
all_within Own r h = omega (arith, h, head_within r.incoming, head_within r.sample)
all_within Incoming r h = omega (arith, h, head_within r.own, head_within r.sample)
all_within Sample r h = omega (arith, h, head_within r.own, head_within r.incoming)

fetch_cause : (aim : Aim) (old new : State) (m : Merger) (to : ℕ) (reader : Reader) (head : Head) (fault : ReadFault) → new.held ≡ old.held → head.at ≡ (head_of m reader).at →
    ReadFailed old.held old.spent.faults new.spent.faults (feed_of aim reader) (head_of m reader).at fault →
    StepCause aim old.spent.faults (state new (with_head m reader head) to) (step_of_read fault)
fetch_cause aim old new m to reader head read.Device s e c = c
fetch_cause aim old new m to reader head (read.BadCell number) s e c =
    record { reader = reader; bad = rw (head_of-with m reader head, e, s) c }

fetch_calm : (A : Type 0) (before now : ℕ) (fault : ReadFault) → ReadCalm {T = A} before now (Err fault) → StepCalm before now (step_of_read fault)
fetch_calm A before now read.Device c = tt
fetch_calm A before now (read.BadCell number) c = c

pub fetch_unread : {A : Type 0} {aim : Aim} {old new : State} (m : Merger) (from to : ℕ) (reader : Reader) (head : Head) (fault : ReadFault) → HasHeads old.held aim m →
    Fetch {A = A} old new reader (feed_of aim reader) (head_of m reader) head from to (Err fault) → Unread aim (state old m from) (state new (with_head m reader head) to) fault
fetch_unread {A} {aim} {old} {new} m from to reader head fault r f =
    let all : fetched aim m < cells_read aim = all_within reader r f.fetches.3 in
    let cell : missing_head head.cell ≡ missing_head (head_of m reader).cell = ap (λ (x : Head). missing_head x.cell) f.fetches.1 in
    let same : fetched_of (feed_of aim reader) head ≡ fetched_of (feed_of aim reader) (head_of m reader) = ap (fetched_of (feed_of aim reader)) f.fetches.1 in
    record {
      looks = fetch_looks m from to reader head r (Err fault) f;
      ticks = omega (arith, missing-with m reader head, cell, f.fetches.2);
      reads = omega (arith, fetched-with aim m reader head, same, f.fetches.2);
      left = omega (arith, fetched-with aim m reader head, same, all);
      cause = fetch_cause aim old new m to reader head fault f.cells_stay f.at_is f.fetches.0;
      calm = fetch_calm A old.spent.faults new.spent.faults fault f.calm;
    }

-- the error that a `?` hands on
pub err_is : {T E : Type 0} (r : Result T E) (f : E) → IsErrAnd r (λ y. y ≡ f) → r ≡ Err f
err_is (Ok x) f h = absurd h
err_is (Err y) f h = ap Err h
