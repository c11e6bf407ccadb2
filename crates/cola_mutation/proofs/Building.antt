-- The build of level 0, from what the merge says.
use Rattle.std.proofs.Common.{◌≡◌, ◌≢◌, inl, ℕ, ◌+◌, ◌-◌, ◌*◌, ◌/◌, ◌^◌, ◌<◌, ◌≤◌, nat_lt, Bool, ◌||◌, cond, List, [], ◌∷◌, Result, Ok, Err, refl, ap, ◌∙◌, arith}
use Rattle.std.proofs.lemmas.Nat.{pow_pos, div_below}
use Rattle.std.proofs.lemmas.Bool.{lt-ltb}
use Rattle.cola_clock.specs.Clock.{visible_slot}
use Rattle.cola_clock.specs.Marks.{Marks}
use Rattle.cola_cell.specs.declared.cell.Cell.{Cell}
use Rattle.cola_cell.specs.declared.cell.Reader.TheVariants.{Own, Incoming, Sample}
use Rattle.cola_cell.specs.declared.fault.StepFault.{StepFault}
use Rattle.cola_cell.specs.declared.fault.StepFault.TheVariants.{Device, BadCell, Overfull}
use Rattle.cola_cell.specs.declared.sink.Shadow.{Shadow}
use Rattle.cola_cell.specs.Held.{Held, Fixed, span}
use Rattle.cola_cell.specs.Places.{slot_size}
use Rattle.cola_cell.specs.Spent.{Buffer, By}
use Rattle.cola_cell.specs.ToldCells.{IsShadowTold, shadow_cells}
use Rattle.cola_merge.specs.declared.aims.Progress.{Progress}
use Rattle.cola_merge.specs.declared.aims.Progress.TheVariants.{Done, More}
use Rattle.cola_merge.specs.declared.merging.Merger.{Merger}
use Rattle.cola_merge.specs.Blocks.{blocks_left, groups, is_last}
use Rattle.cola_merge.specs.Heads.{fresh, consumed, IsReady}
use Rattle.cola_merge.specs.States as merge
use Rattle.cola_merge.specs.States.{Grows, Spends, KeepsBlocks}
use Rattle.cola_merge.specs.Advance.{IsGoing, whole_run, IsDeviceFault, IsThrifty, Advances}
use Rattle.cola_transfers.specs.Chain.{IsTopBuilt, sample_left}
use Rattle.cola_level.specs.declared.level.Level.{Level}
use Rattle.cola_level.specs.Aims.{top_at}
use Rattle.cola_level.specs.Standing.{is_kept}
use Rattle.cola_level.specs.Work.{IsDevice}
use Rattle.cola_mutation.specs.Work.{WorkState, with_merger, transfers, Costs, IsTopTaken, with_shadow, build_aim, Builds}

-- ---- few sources

few_sources : {held : Held} (t own : ℕ) (c : Cell) (next : Marks) (n : Merger) → IsReady held (top_at t own c (next ∷ [])) n → consumed n ≤ 6
few_sources t own c next n r = omega (arith, r.own.within, r.incoming.within, r.sample.within, r.own_feed.within, r.sample_feed.within)

not_more : {held : Held} (t own : ℕ) (c : Cell) (next : Marks) (n : Merger) (P : Type 0) → IsReady held (top_at t own c (next ∷ [])) n → consumed n ≡ consumed fresh + 7 → P
not_more t own c next n P r e = let few = few_sources t own c next n r in absurd (omega (arith, few, e))

-- ---- costs

costs_built : (s u : WorkState) (t own : ℕ) (c : Cell) (next : Marks) (n : Merger) (r : Result Progress StepFault) → IsReady u.held (top_at t own c (next ∷ [])) n →
    IsThrifty (top_at t own c (next ∷ [])) s.steps u.steps (s.held.shadows 0).len (u.held.shadows 0).len r → Spends s.spent u.spent s.steps u.steps → Costs s u 9 0
costs_built s u t own c next n r ready thrifty spends = record {
  steps_stay = spends.steps_stay;
  steps_rise = let places = thrifty.places in omega (arith, places, ready.own_feed.within, ready.sample_feed.within);
  ticked_is = spends.ticked_is;
  turned_stays = spends.turned_stays;
  written_stays = spends.written_stays;
  transfers = let e = spends.transfers in omega (arith, e);
  faults_stay = spends.faults_stay;
}

-- ---- transfers

pub small_slot : (d : ℕ) → 4 < 8 * 2 ^ d
small_slot d = let p : 0 < 2 ^ d = pow_pos d in omega (arith, p)

few_blocks : (d n : ℕ) → n ≤ 4 → n / (8 * 2 ^ d) < 1
few_blocks d n h = let p : 4 < 8 * 2 ^ d = small_slot d in div_below n (8 * 2 ^ d) 1 (omega (arith, p)) (omega (arith, p, h))

no_own_blocks : (d : ℕ) (x : ℕ) → cond (nat_lt 4 (8 * 2 ^ d)) 0 x ≡ 0
no_own_blocks d x = ap (λ (b : Bool). cond b 0 x) (lt-ltb 4 (8 * 2 ^ d) (small_slot d))

-- only the sample has blocks left
left_built : (s : WorkState) (t own : ℕ) (c : Cell) (next : Marks) (under : List Marks) →
    blocks_left s.held.fixed.doublings s.spent.lasts (top_at t own c (next ∷ [])) fresh ≡ sample_left s.held.fixed.doublings (transfers s).readers t 0 (next ∷ under) 0
left_built s t own c next under =
    let d : ℕ = s.held.fixed.doublings in
    let rest : ℕ = sample_left s.held.fixed.doublings (transfers s).readers t 0 (next ∷ under) 0 in
    let blocks : ℕ = groups (8 * 2 ^ s.held.fixed.doublings) 0 own - cond (is_last (s.spent.lasts (By Own 0)) 0 (visible_slot t 0) (0 / (8 * 2 ^ s.held.fixed.doublings))) 1 0 in
    let none : cond (nat_lt 4 (8 * 2 ^ s.held.fixed.doublings)) 0 blocks ≡ 0 = no_own_blocks s.held.fixed.doublings blocks in
    let e : 0 + 0 + rest ≡ rest = omega arith in
    ap (λ (x : ℕ). x + 0 + rest) none ∙ e

own_beside : (t own l : ℕ) (c : Cell) (next : Marks) → l ≢ 0 → merge.IsBeside (top_at t own c (next ∷ [])) (By Own l)
own_beside t own l c next d = record { own = λ (e : By Own l ≡ By Own 0). d (let f : l ≡ 0 = cc in f); incoming = tt; sample = λ (e : By Own l ≡ By Sample 1). let f : ⊥ = cc in f }

incoming_beside : (t own l : ℕ) (c : Cell) (next : Marks) → merge.IsBeside (top_at t own c (next ∷ [])) (By Incoming l)
incoming_beside t own l c next = record { own = λ (e : By Incoming l ≡ By Own 0). let f : ⊥ = cc in f; incoming = tt; sample = λ (e : By Incoming l ≡ By Sample 1). let f : ⊥ = cc in f }

sample_beside : (t own l : ℕ) (c : Cell) (next : Marks) → l ≢ 1 → merge.IsBeside (top_at t own c (next ∷ [])) (By Sample l)
sample_beside t own l c next d = record { own = λ (e : By Sample l ≡ By Own 0). let f : ⊥ = cc in f; incoming = tt; sample = λ (e : By Sample l ≡ By Sample 1). d (let f : l ≡ 1 = cc in f) }

kept_beside : {a b : Held} (l : ℕ) → Grows a b 0 → l ≢ 0 → is_kept b l ≡ is_kept a l
kept_beside {a} {b} l g d =
    ap (λ (s : Shadow). s.saved || nat_lt (slot_size l) (8 * 2 ^ b.fixed.doublings)) (g.around.shadows_stay l d)
    ∙ ap (λ (f : Fixed). (a.shadows l).saved || nat_lt (slot_size l) (8 * 2 ^ f.doublings)) g.around.fixed_is

built_traded : (s u : WorkState) (t own : ℕ) (c : Cell) (next : Marks) (under : List Marks) (n : Merger) → Grows s.held u.held 0 → (s.held.shadows 0).len ≡ 0 → (u.held.shadows 0).len ≤ 4 →
    ((buffer : Buffer) → merge.IsBeside (top_at t own c (next ∷ [])) buffer → KeepsBlocks 0 (top_at t own c (next ∷ [])).slot buffer s.spent.lasts u.spent.lasts) →
    s.spent.turned ≤ u.spent.turned → s.spent.written ≤ u.spent.written →
    (u.spent.turned + blocks_left s.held.fixed.doublings u.spent.lasts (top_at t own c (next ∷ [])) n ≤ s.spent.turned + blocks_left s.held.fixed.doublings s.spent.lasts (top_at t own c (next ∷ [])) fresh) →
    (u.spent.written + (s.held.shadows 0).len / span s.held ≤ s.spent.written + (u.held.shadows 0).len / span s.held) →
    IsTopBuilt s.held.fixed.doublings t (next ∷ under) (transfers s) (transfers u)
built_traded s u t own c next under n grows empty few lasts turned_stays written_stays turned written = record {
  reads_stay = turned_stays;
  writes_stay = written_stays;
  reads =
      let left = left_built s t own c next under in
      omega (arith, turned, left);
  writes = let e = few_blocks s.held.fixed.doublings (u.held.shadows 0).len few in omega (arith, e, written);
  own = λ l k number d. lasts (By Own l) (own_beside t own l c next d) l k number (inl d);
  incoming = λ l k number d. lasts (By Incoming l) (incoming_beside t own l c next) l k number (inl d);
  sample = λ l k number d e. lasts (By Sample l) (sample_beside t own l c next e) l k number (inl d);
  kept = λ l d. kept_beside l grows d;
}

-- ---- both answers

pub untold_none : (held : Held) → (held.shadows 0).len ≡ 0 → IsShadowTold held 0
untold_none held e = λ i h. absurd (let f = e in omega (arith, f, h))

device_only : (fault : StepFault) → IsDeviceFault (Err fault) → IsDevice fault
device_only Device h = tt
device_only (BadCell number) h = h
device_only (Overfull level) h = h

whole_done : {s u : WorkState} (t own : ℕ) (c : Cell) (next : Marks) (n : Merger) (p : Progress) → Advances (top_at t own c (next ∷ [])) (with_merger s fresh) (with_merger u n) 7 (Ok p) → IsGoing s.held (top_at t own c (next ∷ [])) fresh →
    shadow_cells u.held 0 ≡ whole_run s.held (top_at t own c (next ∷ []))
whole_done t own c next n Done h going = h.whole going
whole_done t own c next n More h going = not_more t own c next n _ h.ready h.consumes.0

-- a whole run has as many cells as its sources may give
whole_length : {s u : WorkState} (t own : ℕ) (c : Cell) (next : Marks) (n : Merger) (p : Progress) → (s.held.shadows 0).len ≡ 0 → Advances (top_at t own c (next ∷ [])) (with_merger s fresh) (with_merger u n) 7 (Ok p) →
    IsTopTaken (top_at t own c (next ∷ [])) s.held u.held
whole_length t own c next n Done empty h = record {
  emits = let e = h.emits in omega (arith, e, empty, h.ready.own.within, h.ready.incoming.within, h.ready.sample.within);
  samples = let e = h.samples in let used = h.consumes.2.sample in omega (arith, e, empty, used);
  built = n;
  done = h.consumes.2;
  builds = h.builds;
  grows = h.frames;
}
whole_length t own c next n More empty h = not_more t own c next n _ h.ready h.consumes.0

pub builds_ok : {A : Type 0} (a : A) (p : Progress) (t : ℕ) (c : Cell) (s u : WorkState) (top built : Level) (next : Marks) (n : Merger) → (s.held.shadows 0).len ≡ 0 →
    Advances (build_aim t c top next) (with_merger s fresh) (with_merger u n) 7 (Ok p) → built ≡ with_shadow top (u.held.shadows 0).len → Builds t c s u top built next (Ok a)
builds_ok a p t c s u top built next n empty h e =
    let few : (u.held.shadows 0).len ≤ slot_size 0 = h.frames.len_fits (omega (arith, empty)) in
    record {
      grows = h.frames;
      accepted = e;
      same = tt;
      within = few;
      told = λ tells. h.told tells (untold_none s.held empty);
      whole = λ going. whole_done t top.visible c next n p h going;
      only = λ going fits. tt;
      traded = λ under. built_traded s u t top.visible c next under n h.frames empty few h.lasts h.spends.turned_stays h.spends.written_stays h.turned h.written;
      took = whole_length t top.visible c next n p empty h;
      refused = tt;
      calm = h.calm;
      costs = costs_built s u t top.visible c next n (Ok p) h.ready (h.begins refl) h.spends;
    }

pub builds_err : {A : Type 0} (fault : StepFault) (t : ℕ) (c : Cell) (s u : WorkState) (top : Level) (next : Marks) (n : Merger) → (s.held.shadows 0).len ≡ 0 →
    Advances (build_aim t c top next) (with_merger s fresh) (with_merger u n) 7 (Err fault) → Builds {A = A} t c s u top top next (Err fault)
builds_err fault t c s u top next n empty h = record {
  grows = h.frames;
  accepted = tt;
  same = refl;
  within = h.frames.len_fits (omega (arith, empty));
  told = λ tells. h.told tells (untold_none s.held empty);
  whole = λ going. tt;
  only = λ going fits. device_only fault (h.only going fits);
  traded = λ under. tt;
  took = tt;
  refused = record {
    empty = empty;
    grows = h.frames;
    merger = n;
    ready = h.ready;
    emits = let e = h.emits in omega (arith, e, empty);
    samples = let e = h.samples in omega (arith, e, empty);
    builds = h.builds;
    cause = h.cause;
  };
  calm = h.calm;
  costs = costs_built s u t top.visible c next n (Err fault) h.ready (h.begins refl) h.spends;
}
