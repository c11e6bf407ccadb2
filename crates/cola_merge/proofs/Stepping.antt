-- One step of the heads that are held.
use Rattle.std.proofs.Common.{◌≡◌, ℕ, suc, ◌+◌, ◌*◌, ◌/◌, ◌^◌, ◌<◌, ◌≤◌, List, ◌++◌, Option, Some, None, IsSome, refl, ap, sym, subst, ◌∙◌, arith}
use Rattle.std.specs.Option.{option_map, option_to_list}
use Rattle.std.proofs.lemmas.Bool.{true≢false}
use Rattle.cola_runs.specs.Steps as runs
use Rattle.cola_runs.specs.Steps.{Action, Take, Ended, Build, after, consumed_from, step, steps}
use Rattle.cola_cell.specs.declared.cell.Cell.{Cell}
use Rattle.cola_cell.specs.declared.cell.Reader.{Reader}
use Rattle.cola_cell.specs.declared.cell.Reader.TheVariants.{Own, Incoming, Sample}
use Rattle.cola_cell.specs.declared.fault.PushFault.{PushFault}
use Rattle.cola_cell.specs.declared.fault.PushFault.TheVariants as push
use Rattle.cola_cell.specs.Cell.{key_of}
use Rattle.cola_cell.specs.Fault.{step_of_push}
use Rattle.cola_cell.specs.Places.{slot_size}
use Rattle.cola_cell.specs.Held.{Held, LawCell, Stamped, as_cell, IsTelling, span}
use Rattle.cola_cell.specs.Spent.{Buffer}
use Rattle.cola_cell.specs.State.{State}
use Rattle.cola_merge.specs.declared.aims.Feed.{Feed}
use Rattle.cola_merge.specs.declared.aims.Feed.TheVariants as feed
use Rattle.cola_merge.specs.declared.aims.Aim.{Aim}
use Rattle.cola_merge.specs.Fetched.{Head}
use Rattle.cola_merge.specs.declared.merging.Merger.{Merger}
use Rattle.cola_cell.specs.ToldCells.{shadow_cells}
use Rattle.cola_cell.specs.Order.{key_cmp}
use Rattle.cola_merge.specs.Feeds.{part_of, feed_of, feed_len, read_len, feed_cells, feed_keys}
use Rattle.cola_merge.specs.Heads.{head_at, head_of, with_head, consumed, IsHeldCell, IsHead, HasHeads, IsReady, AreFetched, held_head, fetched_of, fetched, AreFeedsTold, build_of}
use Rattle.cola_merge.specs.Rules.{as_head, next_action, Emits, HeadFits}
use Rattle.cola_merge.specs.Blocks.{Lasts, feed_left, blocks_left}
use Rattle.cola_merge.specs.States.{KeepsBlocks, count_of, Emitted, PushFailed, Unpushed, MergeState, state, len_of, Goes, Took, StepCause, StepCalm, failed_push, Refused}
use Rattle.cola_merge.proofs.Groups.{run_left-next}
use Rattle.cola_merge.proofs.Kept.{ready-stays, left-stays}
use Rattle.cola_merge.proofs.Reading.{heads_of, ready_by, heads_with, head_in, feed_in, consumed-with, rises-with, missing-with, fetched-with, left-with, head_within}
use Rattle.cola_merge.proofs.Ruling.{taken_by, step_of_heads, small_cursor}
use Rattle.std.proofs.Math.Pow.{pow_pos}

-- ---- the head that is taken

-- what holds of each cell holds of a head that is there
if_some : (c : Option Cell) (P : Option Cell → Type 0) → IsSome c → ((d : Cell) → P (Some d)) → P c
if_some None P e h = absurd (true≢false (sym e))
if_some (Some c) P e h = h c

some_of : {X : Type 0} (read : Cell → X) (c : Option Cell) → IsSome (option_map read c) → IsSome c
some_of read None e = absurd (true≢false (sym e))
some_of read (Some c) e = refl

pub head_there : (aim : Aim) (m : Merger) (reader : Reader) (c : Option Cell) → Take (as_head reader) (option_map as_cell c) ≡ next_action aim m → IsSome (head_of m reader).cell
head_there aim m Own c e = some_of as_cell m.own.cell (taken_by aim m (Take runs.Own (option_map as_cell c)) e)
head_there aim m Incoming c e = some_of as_cell m.incoming.cell (taken_by aim m (Take runs.Incoming (option_map as_cell c)) e)
head_there aim m Sample c e = some_of key_of m.sample.cell (taken_by aim m (Take runs.Sample (option_map as_cell c)) e).0

count_small : (c : Option Cell) → count_of c ≤ 1
count_small None = omega arith
count_small (Some c) = omega arith

-- a consumed key of the sample emits its lookahead cell
sampled_one : (aim : Aim) (m : Merger) (reader : Reader) (c : Option Cell) → Take (as_head reader) (option_map as_cell c) ≡ next_action aim m →
    (with_head m reader (head_at ((head_of m reader).at + 1))).sample.at ≤ m.sample.at + count_of c
sampled_one aim m Own c e = omega arith
sampled_one aim m Incoming c e = omega arith
sampled_one aim m Sample c e =
    let k : count_of c ≡ 1 = if_some c (λ x. count_of x ≡ 1) (some_of as_cell c (taken_by aim m (Take runs.Sample (option_map as_cell c)) e).1) (λ _. refl) in omega (arith, k)

-- ---- a consumed head

pub held_below : {held : Held} {f : Feed} {head : Head} → IsHead held f head → IsSome head.cell → head.at < feed_len f
held_below {held} {f} {head} h e = (if_some head.cell (λ x. IsHeldCell held f head.at x → head.at < feed_len f) e (λ _ k. k.0)) h.cell

fetched_some : (f : Feed) (head : Head) → IsSome head.cell → fetched_of f (head_at (head.at + 1)) ≡ fetched_of f head
fetched_some (feed.One c) head e = refl
fetched_some feed.Nothing head e = refl
fetched_some _ head e = let k : held_head head.cell ≡ 1 = if_some head.cell (λ x. held_head x ≡ 1) e (λ _. refl) in omega (arith, k)

pub feed_left-next : (d : ℕ) (lasts : Lasts) (reader : Reader) (f : Feed) (at : ℕ) → at < feed_len f → feed_left d lasts reader f (at + 1) ≤ feed_left d lasts reader f at
feed_left-next d lasts reader (feed.Run run) at h = run_left-next (8 * 2 ^ d) _ run (8 * 2 ^ d) run.len at (let p : 0 < 2 ^ d = pow_pos d in omega (arith, p)) h
feed_left-next d lasts reader (feed.Sampled run) at h = run_left-next (8 * 2 ^ d) _ run (2 ^ d) (run.len / 8) at (pow_pos d) h
feed_left-next d lasts reader _ at h = omega arith

left-kept : (d : ℕ) (before now : Lasts) (aim : Aim) (m n : Merger) {held : Held} → IsReady held aim n → ((buffer : Buffer) → KeepsBlocks aim.level aim.slot buffer before now) →
    blocks_left d now aim m ≡ blocks_left d before aim m
left-kept d before now aim m n r k =
    let a = left-stays d aim.level aim.slot before now Own aim.own r.own_apart k m.own.at in
    let b = left-stays d aim.level aim.slot before now Incoming aim.incoming r.incoming_apart k m.incoming.at in
    let c = left-stays d aim.level aim.slot before now Sample aim.sample r.sample_apart k m.sample.at in omega (arith, a, b, c)

-- ---- the heads behind a consumed one

pub passed_heads : {held : Held} {aim : Aim} {m : Merger} (reader : Reader) → HasHeads held aim m → (head_of m reader).at < feed_len (feed_of aim reader) →
    HasHeads held aim (with_head m reader (head_at ((head_of m reader).at + 1)))
passed_heads reader r h = heads_with reader r (record { within = omega (arith, h); cell = tt })

pub passed_reads : (aim : Aim) (m : Merger) (reader : Reader) → IsSome (head_of m reader).cell → fetched aim (with_head m reader (head_at ((head_of m reader).at + 1))) ≡ fetched aim m
passed_reads aim m reader h = omega (arith, fetched-with aim m reader (head_at ((head_of m reader).at + 1)), fetched_some (feed_of aim reader) (head_of m reader) h)

pub passed_left : (aim : Aim) (m : Merger) (d : ℕ) (lasts : Lasts) (reader : Reader) → (head_of m reader).at < feed_len (feed_of aim reader) →
    blocks_left d lasts aim (with_head m reader (head_at ((head_of m reader).at + 1))) ≤ blocks_left d lasts aim m
passed_left aim m d lasts reader below =
    let h = feed_left-next d lasts reader (feed_of aim reader) (head_of m reader).at below in
    let l = left-with aim m d lasts lasts 0 0 reader (head_at ((head_of m reader).at + 1)) (omega (arith, h)) (λ buffer d. refl) in omega (arith, l)

-- ---- the build

build_after : (held new : Held) (aim : Aim) (m : Merger) (reader : Reader) (cells : List LawCell) → shadow_cells new aim.level ≡ shadow_cells held aim.level ++ cells →
    consumed_from (as_head reader) cells (build_of held aim m) ≡ build_of new aim (with_head m reader (head_at ((head_of m reader).at + 1)))
build_after held new aim m Own cells e = let z : suc m.own.at ≡ m.own.at + 1 = omega arith in cc
build_after held new aim m Incoming cells e = let z : suc m.incoming.at ≡ m.incoming.at + 1 = omega arith in cc
build_after held new aim m Sample cells e = let z : suc m.sample.at ≡ m.sample.at + 1 = omega arith in cc

-- ---- a step that was accepted

-- the object of a state
abbrev pub object_of : MergeState → State
object_of s = record { held = s.held; spent = s.spent }

module _ {aim : Aim} (s : MergeState) (new : State) (to : ℕ) (reader : Reader) (c : Option Cell) (r : IsReady s.held aim s.merger) (f : AreFetched aim s.merger)
    (asked : Take (as_head reader) (option_map as_cell c) ≡ next_action aim s.merger) (e : Emitted (object_of s) new aim.level c s.steps to) where
  there : IsSome (head_of s.merger reader).cell
  there = head_there aim s.merger reader c asked

  below : (head_of s.merger reader).at < feed_len (feed_of aim reader)
  below = held_below (head_in reader (heads_of r)) there

  abbrev next : Merger
  next = with_head s.merger reader (head_at ((head_of s.merger reader).at + 1))

  keeps : (buffer : Buffer) → KeepsBlocks aim.level aim.slot buffer s.spent.lasts new.spent.lasts
  keeps buffer = subst (λ (x : ℕ). KeepsBlocks aim.level x buffer s.spent.lasts new.spent.lasts) (sym r.slot_is) (e.keeps buffer)

  built : IsTelling s.held → AreFeedsTold s.held aim →
      build_of new.held aim next ≡ steps key_cmp (part_of aim) (feed_cells s.held aim.own) (feed_cells s.held aim.incoming) (feed_keys s.held aim.sample) 1 (build_of s.held aim s.merger)
  built t h =
      sym (step_of_heads s.held aim s.merger (heads_of r) f h
      ∙ ap (λ (a : Action (List ℕ) Stamped). after a (build_of s.held aim s.merger)) (sym asked)
      ∙ build_after s.held new.held aim s.merger reader (option_to_list (option_map as_cell c)) (e.done t))

  consumed_one : consumed next ≡ consumed s.merger + 1
  consumed_one = consumed-with s.merger reader (head_at ((head_of s.merger reader).at + 1)) 1 refl

  step_goes : Goes aim s (state new next to) 1
  step_goes = record {
    ready = ready-stays e.grows (ready_by r (passed_heads reader (heads_of r) below));
    grows = e.grows;
    consumes = consumed_one;
    rises = λ other. rises-with s.merger reader (head_at ((head_of s.merger reader).at + 1)) (omega arith) other;
    emits = omega (arith, e.len_is, count_small c, consumed_one);
    samples = omega (arith, e.len_is, sampled_one aim s.merger reader c asked);
    builds = λ t h. built t h;
    told = λ t h. e.told t h;
    spends = e.spends;
    lasts = λ buffer _. keeps buffer;
  }

  pub took_step : Took aim s (state new next to) 1
  took_step = record {
    goes = step_goes;
    ticks = omega (arith, e.ticks, missing-with s.merger reader (head_at ((head_of s.merger reader).at + 1)), count_small c);
    reads = omega (arith, e.ticks, passed_reads aim s.merger reader there, e.len_is);
    turned = (
        let k = left-kept s.held.fixed.doublings s.spent.lasts new.spent.lasts aim next s.merger r keeps in
        let l = passed_left aim s.merger s.held.fixed.doublings s.spent.lasts reader below in omega (arith, e.turned_is, k, l)
        );
    written = e.written;
    saved = e.saved;
    calm = e.calm;
  }

-- ---- a step that was refused

pub all_read : {held : Held} {aim : Aim} {m : Merger} → HasHeads held aim m → fetched aim m ≤ read_len aim.own + read_len aim.incoming + read_len aim.sample
all_read r = omega (arith, head_within r.own, head_within r.incoming, head_within r.sample)

module _ {aim : Aim} (s : MergeState) (new : State) (to : ℕ) (reader : Reader) (c : Option Cell) (fault : PushFault) (r : IsReady s.held aim s.merger) (f : AreFetched aim s.merger)
    (asked : Take (as_head reader) (option_map as_cell c) ≡ next_action aim s.merger) (e : Unpushed (object_of s) new aim.level c s.steps to fault) where
  refused_goes : Goes aim s (state new s.merger to) 0
  refused_goes = record {
    ready = ready-stays e.grows r;
    grows = e.grows;
    consumes = omega arith;
    rises = λ other. omega arith;
    emits = omega (arith, e.len_is);
    samples = omega (arith, e.len_is);
    builds = λ _ _. ap (λ (l : List LawCell). record { own = s.merger.own.at; incoming = s.merger.incoming.at; sampled = s.merger.sample.at; done = l }) e.done;
    told = λ _ h. e.told h;
    spends = e.spends;
    lasts = λ buffer _. subst (λ (x : ℕ). KeepsBlocks aim.level x buffer s.spent.lasts new.spent.lasts) (sym r.slot_is) (e.keeps buffer);
  }

  by_fault : (fault : PushFault) → PushFailed (len_of aim s) s.spent.faults new.spent.faults aim.level s.steps to fault →
      (to ≤ s.steps + 1) × (len_of aim s ≤ slot_size aim.level → to + len_of aim s ≤ s.steps + slot_size aim.level)
      × StepCause aim s.spent.faults (state new s.merger to) (step_of_push fault) × StepCalm s.spent.faults new.spent.faults (step_of_push fault)
      × (to + len_of aim s ≤ s.steps + ((new.held.shadows aim.level).len + failed_push (step_of_push fault)))
  by_fault push.Device h = (omega (arith, h.2), λ l. omega (arith, h.0, h.2), h.1, tt, omega (arith, h.2, e.len_is))
  by_fault (push.Overfull number) h = (
    omega (arith, h.3),
    λ l. omega (arith, h.3, l),
    record { level_is = h.1; full = e.len_is ∙ h.0; fetched = f; emits = rw (← asked) (if_some c (λ x. Emits (Take (as_head reader) (option_map as_cell x))) e.there (λ _. tt)) },
    h.2,
    omega (arith, h.3, e.len_is),
  )

  pub refused_step : Refused aim s (state new s.merger to) 0 (step_of_push fault)
  refused_step =
      let b = by_fault fault e.cause in
      let small : to ≤ s.steps + 1 = b.0 in
      record {
        goes = refused_goes;
        ticks = omega (arith, small);
        reads = λ l. let a = b.1 l in omega (arith, all_read (heads_of r), a);
        pushes = omega (arith, all_read (heads_of r), b.4);
        written = let d = ap (λ (n : ℕ). n / span s.held) e.len_is in omega (arith, e.written, d);
        cause = b.2;
        calm = b.3;
      }

-- ---- what the calls of a step ask

pub held_fits : (held : Held) (f : Feed) (at : ℕ) (c : Option Cell) → IsHeldCell held f at c → HeadFits held.fixed.format c
held_fits held f at None h = tt
held_fits held f at (Some c) h = h.2

pub small_after : {held : Held} {aim : Aim} {m : Merger} (reader : Reader) → HasHeads held aim m → held.fixed.levels ≤ 23 → (head_of m reader).at + 1 < 2 ^ 32
small_after {held} {aim} {m} reader r l =
    let h : 8 * (head_of m reader).at < 2 ^ 32 = small_cursor held.fixed (feed_of aim reader) (head_of m reader).at l (feed_in reader r) (head_in reader r).within in omega (arith, h)
