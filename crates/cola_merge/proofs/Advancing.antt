-- What a call of a merge says, from the steps that it took.
use Rattle.std.proofs.Common.{◌≡◌, ℕ, ◌+◌, ◌-◌, ◌*◌, ◌≤◌, List, length, map, Some, None, Result, Ok, Err, OnOk, refl, ap, sym, subst, ◌∙◌, arith}
use Rattle.std.specs.Cmp.Lexicographic.{nat_list_cmp_total}
use Rattle.cola_runs.specs.Cells as laws
use Rattle.cola_runs.specs.Cells.{IsRising}
use Rattle.cola_runs.specs.Steps as runs
use Rattle.cola_runs.specs.Steps.{Action, Take, Ended, Build, steps, cells_left, IsUnderWay, IsAdvanced}
use Rattle.cola_runs.proofs.Stepping.{steps_are_advanced}
use Rattle.cola_runs.proofs.Builds.{used_up, has_room}
use Rattle.cola_cell.specs.declared.cell.Reader.{Reader}
use Rattle.cola_cell.specs.declared.cell.Reader.TheVariants.{Own, Incoming, Sample}
use Rattle.cola_cell.specs.declared.fault.StepFault.{StepFault}
use Rattle.cola_cell.specs.declared.fault.StepFault.TheVariants.{Device, BadCell, Overfull}
use Rattle.cola_cell.specs.Places.{slot_size}
use Rattle.cola_cell.specs.Held.{Held, LawCell, Stamped}
use Rattle.cola_cell.proofs.RunLemmas.{telling_stays, told_is_good}
use Rattle.cola_merge.specs.declared.aims.Feed.{Feed}
use Rattle.cola_merge.specs.declared.aims.Feed.TheVariants as feed
use Rattle.cola_merge.specs.declared.aims.Aim.{Aim}
use Rattle.cola_merge.specs.declared.aims.Progress.{Progress}
use Rattle.cola_merge.specs.declared.aims.Progress.TheVariants.{Done, More}
use Rattle.cola_merge.specs.declared.merging.Merger.{Merger}
use Rattle.cola_cell.specs.ToldCells.{cell_at, shadow_cells}
use Rattle.cola_cell.specs.Order.{key_cmp}
use Rattle.cola_merge.specs.Feeds.{part_of, feed_of, feed_cells, feed_keys, IsFeedTold, IsBadAt}
use Rattle.cola_merge.specs.Heads.{fresh, fresh_head, head_of, consumed, fetched_of, fetched, IsReady, IsUsedUp, AreFeedsTold, build_of}
use Rattle.cola_merge.specs.Rules.{next_action, Emits}
use Rattle.cola_merge.specs.States.{MergeState, len_of, Goes, Took, IsOverfull, TakesQuota}
use Rattle.cola_merge.specs.Advance.{Consumes, whole_run, IsGoing, GoesBy, GoesFurther, Gone, IsWhole, HasStepCause, IsCalm, IsDeviceFault, cells_read, refused_push, BuildsBy, Advances}
use Rattle.cola_cell.proofs.CellLists.{length-cells}
use Rattle.cola_merge.proofs.Kept.{feed_cells-stay, feeds_told-stay}
use Rattle.cola_merge.proofs.Reading.{heads_of, three_of}
use Rattle.cola_merge.proofs.Ruling.{feed_length, keys_length, action_of_heads}
use Rattle.cola_merge.proofs.Stepping.{all_read}

-- ---- whatever the answer

goes_of : {aim : Aim} {s t : MergeState} {quota : ℕ} (result : Result Progress StepFault) → TakesQuota aim s t quota result → (count : ℕ) × (count ≤ quota) × Goes aim s t count
goes_of {quota = quota} (Ok More) r = (quota, omega arith, r.steps.0.goes)
goes_of _ r = (r.steps.0, (let h = r.steps.1 in omega (arith, h)), r.steps.2.goes)

consumes_of : {aim : Aim} {s t : MergeState} {quota : ℕ} (result : Result Progress StepFault) → TakesQuota aim s t quota result → Consumes aim s.merger t.merger quota result
consumes_of (Ok More) r = (r.steps.0.goes.consumes, r.steps.1)
consumes_of (Ok Done) r = let h = r.steps.1 in let e = r.steps.2.goes.consumes in (omega (arith, e), omega (arith, h, e), r.steps.3)
consumes_of (Err fault) r = let h = r.steps.1 in let e = r.steps.2.goes.consumes in (omega (arith, e), omega (arith, h, e))

-- ---- a merge on its way

module _ {aim : Aim} (s t : MergeState) (r : IsReady s.held aim s.merger) (going : IsGoing s.held aim s.merger) where
  advanced : {count : ℕ} → Goes aim s t count → GoesBy s.held t.held aim s.merger t.merger count
  advanced {count} g =
      subst (λ (p : Build (List ℕ) Stamped). IsAdvanced key_cmp (part_of aim) (feed_cells s.held aim.own) (feed_cells s.held aim.incoming) (feed_keys s.held aim.sample) count (build_of s.held aim s.merger) p)
      (sym (g.builds going.tells going.feeds))
      (steps_are_advanced nat_list_cmp_total (part_of aim) (feed_cells s.held aim.own) (feed_cells s.held aim.incoming) (feed_keys s.held aim.sample) going.own_rises going.incoming_rises going.keys_rise
      count (build_of s.held aim s.merger) going.under_way)

  own_same : {count : ℕ} → Goes aim s t count → feed_cells t.held aim.own ≡ feed_cells s.held aim.own
  own_same g = feed_cells-stay g.grows aim.slot r.slot_is aim.own r.own_apart

  incoming_same : {count : ℕ} → Goes aim s t count → feed_cells t.held aim.incoming ≡ feed_cells s.held aim.incoming
  incoming_same g = feed_cells-stay g.grows aim.slot r.slot_is aim.incoming r.incoming_apart

  keys_same : {count : ℕ} → Goes aim s t count → feed_keys t.held aim.sample ≡ feed_keys s.held aim.sample
  keys_same g = ap (λ (x : List LawCell). map laws.key_of x) (feed_cells-stay g.grows aim.slot r.slot_is aim.sample r.sample_apart)

  goes_on : {count : ℕ} → Goes aim s t count → IsGoing t.held aim t.merger
  goes_on g = record {
    tells = telling_stays s.held t.held aim.level g.grows.around going.tells;
    feeds = feeds_told-stay g.grows r going.feeds;
    shadow = g.told going.tells going.shadow;
    own_rises = rw (own_same g) going.own_rises;
    incoming_rises = rw (incoming_same g) going.incoming_rises;
    keys_rise = rw (keys_same g) going.keys_rise;
    under_way = rw (own_same g, incoming_same g, keys_same g) (advanced g).under_way;
  }

  -- no source cell is left
  none_left : IsUsedUp aim t.merger → cells_left (feed_cells s.held aim.own) (feed_cells s.held aim.incoming) (feed_keys s.held aim.sample) (build_of t.held aim t.merger) ≡ 0
  none_left u =
      omega (arith, feed_length s.held aim.own, feed_length s.held aim.incoming, keys_length s.held aim.sample, u.own, u.incoming, u.sample)

  -- where it is done, it took as many steps as it could of any larger quota
  done_advanced : {count quota : ℕ} → Goes aim s t count → count ≤ quota → IsUsedUp aim t.merger → GoesBy s.held t.held aim s.merger t.merger quota
  done_advanced {count} {quota} g l u =
      let a = advanced g in
      let z = none_left u in
      record {
        under_way = a.under_way;
        consumes = omega (arith, a.consumes, a.leaves, z, l);
        leaves = omega (arith, a.leaves, z, l);
        emits = a.emits;
        extends = a.extends;
        own_rises = a.own_rises;
        incoming_rises = a.incoming_rises;
        sampled_rises = a.sampled_rises;
      }

  further : {quota : ℕ} (result : Result Progress StepFault) → TakesQuota aim s t quota result → GoesFurther s.held t.held aim s.merger t.merger quota result
  further (Ok More) k = advanced k.steps.0.goes
  further (Ok Done) k = done_advanced k.steps.2.goes k.steps.1 k.steps.3
  further (Err fault) k = (k.steps.0, k.steps.1, advanced k.steps.2.goes)

  gone_of : {quota : ℕ} (result : Result Progress StepFault) → TakesQuota aim s t quota result → Gone s.held t.held aim s.merger t.merger quota result
  gone_of result k =
      let g = (goes_of result k).2 in
      record { going = goes_on g; own_stays = own_same g; incoming_stays = incoming_same g; keys_stay = keys_same g; further = further result k }

  whole_of : {quota : ℕ} (result : Result Progress StepFault) → TakesQuota aim s t quota result → IsWhole s.held t.held aim result
  whole_of (Ok More) k = tt
  whole_of (Ok Done) k =
      used_up key_cmp (part_of aim) (feed_cells s.held aim.own) (feed_cells s.held aim.incoming) (feed_keys s.held aim.sample) (build_of t.held aim t.merger) (advanced k.steps.2.goes).under_way (none_left k.steps.3)
  whole_of (Err fault) k = tt

  whole_same : {count : ℕ} → Goes aim s t count → whole_run t.held aim ≡ whole_run s.held aim
  whole_same g = rw (own_same g, incoming_same g, keys_same g)

-- ---- refusals

-- a told cell is not bad
never_bad : (held : Held) (f : Feed) (at number : ℕ) → IsFeedTold held f → IsBadAt held f at number → ⊥
never_bad held (feed.Run run) at number t b = told_is_good (held.spots run.level run.slot at) (cell_at (held.spots run.level run.slot at)) (t at b.0) b.1.told
never_bad held (feed.Sampled run) at number t b = told_is_good (held.spots run.level run.slot (8 * at + 7)) (cell_at (held.spots run.level run.slot (8 * at + 7))) (t at b.0) b.1.told
never_bad held _ at number t b = b

told_feed : {held : Held} {aim : Aim} (reader : Reader) → AreFeedsTold held aim → IsFeedTold held (feed_of aim reader)
told_feed Own t = t.own
told_feed Incoming t = t.incoming
told_feed Sample t = t.sample

emits_is : (a : Action (List ℕ) Stamped) → Emits a → (head : runs.Head) × (c : LawCell) × (a ≡ Take head (Some c))
emits_is (Take head None) e = absurd e
emits_is (Take head (Some c)) e = (head, c, refl)
emits_is Ended e = absurd e

-- a run that fits its slot never overflows it
never_overfull : {aim : Aim} {t : MergeState} {level : ℕ} → IsReady t.held aim t.merger → IsGoing t.held aim t.merger → length (whole_run t.held aim) ≤ slot_size aim.level → IsOverfull aim t level → ⊥
never_overfull {aim} {t} {level} r going fits o =
    let e = emits_is (next_action aim t.merger) o.emits in
    let room = has_room nat_list_cmp_total (part_of aim) (feed_cells t.held aim.own) (feed_cells t.held aim.incoming) (feed_keys t.held aim.sample) going.own_rises going.incoming_rises going.keys_rise
    (build_of t.held aim t.merger) going.under_way e.0 e.1 (sym (action_of_heads t.held aim t.merger (heads_of r) o.fetched going.feeds) ∙ e.2) in
    let len : length (shadow_cells t.held aim.level) ≡ (t.held.shadows aim.level).len = length-cells (t.held.spots aim.level (t.held.shadows aim.level).slot) 0 (t.held.shadows aim.level).len in
    omega (arith, len, o.full, room, fits)

cause_of : {aim : Aim} {s t : MergeState} {quota : ℕ} (result : Result Progress StepFault) → TakesQuota aim s t quota result → HasStepCause aim s.spent.faults t result
cause_of (Ok progress) k = tt
cause_of (Err fault) k = k.steps.2.cause

calm_of : {aim : Aim} {s t : MergeState} {quota : ℕ} (result : Result Progress StepFault) → TakesQuota aim s t quota result → IsCalm s.spent.faults t.spent.faults result
calm_of (Ok More) k = k.steps.0.calm
calm_of _ k = k.steps.2.calm

only_of : {aim : Aim} {s t : MergeState} {quota : ℕ} (result : Result Progress StepFault) → IsReady s.held aim s.merger → TakesQuota aim s t quota result → IsGoing s.held aim s.merger →
    length (whole_run s.held aim) ≤ slot_size aim.level → IsDeviceFault result
only_of (Ok progress) r k going fits = tt
only_of (Err Device) r k going fits = tt
only_of {aim} {s} {t} (Err (BadCell number)) r k going fits =
    let g = k.steps.2.goes in
    let bad = k.steps.2.cause in
    never_bad t.held (feed_of aim bad.reader) (head_of t.merger bad.reader).at number (told_feed bad.reader (feeds_told-stay g.grows r going.feeds)) bad.bad
only_of {aim} {s} {t} (Err (Overfull level)) r k going fits =
    let g = k.steps.2.goes in
    never_overfull g.ready (goes_on s t r going g) (subst (λ (x : List LawCell). length x ≤ slot_size aim.level) (sym (whole_same s t r going g)) fits) k.steps.2.cause

-- ---- costs

ticks_of : {aim : Aim} {s t : MergeState} {quota : ℕ} (result : Result Progress StepFault) → TakesQuota aim s t quota result → t.steps ≤ s.steps + (3 + 2 * quota)
ticks_of {s = s} {t = t} (Ok More) k = let m = three_of s.merger in let h = k.steps.0.ticks in omega (arith, m, h)
ticks_of {s = s} {t = t} _ k = let m = three_of s.merger in let h = k.steps.2.ticks in let l = k.steps.1 in omega (arith, m, h, l)

fresh_of : (f : Feed) → fetched_of f fresh_head ≡ 0
fresh_of (feed.Run run) = refl
fresh_of _ = refl

fresh_fetched : (aim : Aim) (m : Merger) → m ≡ fresh → fetched aim m ≡ 0
fresh_fetched aim m e = ap (λ (x : Merger). fetched aim x) e ∙ (let a = fresh_of aim.own in let b = fresh_of aim.incoming in let c = fresh_of aim.sample in omega (arith, a, b, c))

-- at most one tick for each cell that was not read of the object, and for each push
took_reads : {aim : Aim} {s t : MergeState} {count : ℕ} → Took aim s t count → len_of aim s ≤ slot_size aim.level →
    (t.steps + fetched aim s.merger + len_of aim s ≤ s.steps + cells_read aim + (len_of aim t + 0)) × (t.steps + fetched aim s.merger + len_of aim s ≤ s.steps + cells_read aim + slot_size aim.level)
took_reads k l = let a = all_read (heads_of k.goes.ready) in (omega (arith, a, k.reads), omega (arith, a, k.reads, k.goes.grows.len_fits l))

-- the same of a call
reads_of : {aim : Aim} {s t : MergeState} {quota : ℕ} (result : Result Progress StepFault) → TakesQuota aim s t quota result → len_of aim s ≤ slot_size aim.level →
    (t.steps + fetched aim s.merger + len_of aim s ≤ s.steps + cells_read aim + (len_of aim t + refused_push result)) × (t.steps + fetched aim s.merger + len_of aim s ≤ s.steps + cells_read aim + slot_size aim.level)
reads_of (Ok More) k l = took_reads k.steps.0 l
reads_of (Ok Done) k l = took_reads k.steps.2 l
reads_of (Err fault) k l = (k.steps.2.pushes, k.steps.2.reads l)

-- what steps that were taken leave
on_took : {aim : Aim} {s t : MergeState} {quota : ℕ} {P : Type 0} → ((count : ℕ) → Took aim s t count → P) → (result : Result Progress StepFault) → TakesQuota aim s t quota result → OnOk result P
on_took {quota = quota} f (Ok More) k = f quota k.steps.0
on_took f (Ok Done) k = f k.steps.0 k.steps.2
on_took f (Err fault) k = tt

-- ---- what a call says

-- as many steps as source cells were consumed
builds_of : {aim : Aim} {s t : MergeState} {count : ℕ} → Goes aim s t count → BuildsBy s.held t.held aim s.merger t.merger
builds_of {aim} {s} {t} {count} g tells told =
    let e : consumed t.merger - consumed s.merger ≡ count = let c = g.consumes in omega (arith, c) in rw e (g.builds tells told)

pub advances : {aim : Aim} {s t : MergeState} {quota : ℕ} (result : Result Progress StepFault) → IsReady s.held aim s.merger → len_of aim s ≤ slot_size aim.level → TakesQuota aim s t quota result →
    Advances aim s t quota result
advances {aim} {s} {t} result r l k =
    let g = (goes_of result k).2 in
    record {
      ready = g.ready;
      frames = g.grows;
      lasts = g.lasts;
      saved = on_took (λ _ k. k.saved) result k;
      consumes = consumes_of result k;
      rises = g.rises;
      emits = g.emits;
      samples = g.samples;
      builds = builds_of g;
      told = g.told;
      cut = λ going. gone_of s t r going result k;
      whole = λ going. whole_of s t r going result k;
      cause = cause_of result k;
      calm = calm_of result k;
      only = λ going fits. only_of result r k going fits;
      ticks = ticks_of result k;
      begins = λ e. let none = fresh_fetched aim s.merger e in let b = reads_of result k l in record { pushes = omega (arith, none, b.0); places = omega (arith, none, b.1) };
      spends = g.spends;
      turned = on_took (λ _ k. k.turned) result k;
      written = on_took (λ _ k. k.written) result k;
    }
