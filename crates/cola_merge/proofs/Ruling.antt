-- What the rules take of the heads that are held, and that it is the step of the laws.
use Rattle.std.proofs.Common.{◌≡◌, ℕ, ◌+◌, ◌*◌, ◌/◌, ◌^◌, ◌<◌, ◌≤◌, Bool, true, false, cond, List, length, Option, Some, None, IsSome, refl, ap, sym, ◌∙◌, arith}
use Rattle.std.specs.declared.cmp.Ordering.{Ordering}
use Rattle.std.specs.declared.cmp.Ordering.TheVariants.{Less, Equal, Greater}
use Rattle.std.specs.Ordering.{is_gt, match_ordering}
use Rattle.std.specs.Option.{option_map}
use Rattle.std.specs.List.{slice_get}
use Rattle.std.proofs.lemmas.Bool.{true≢false}
use Rattle.std.proofs.lemmas.List.{length-map}
use Rattle.std.proofs.Math.Pow.{pow_mono}
use Rattle.std.proofs.Math.Nat.{div-le_self}
use Rattle.std.proofs.lemmas.Option.{slice_get-map, none-some}
use Rattle.cola_runs.specs.Cells as laws
use Rattle.cola_runs.specs.Weave.{Part}
use Rattle.cola_runs.specs.Steps as runs
use Rattle.cola_runs.specs.Steps.{Action, Take, Ended, Build, emitted, item_or_look, least, rule, skips_own, skips_incoming, after, step}
use Rattle.cola_cell.specs.declared.cell.Cell.{Cell}
use Rattle.cola_cell.specs.declared.cell.Run.{Run}
use Rattle.cola_cell.specs.declared.cell.Cell.TheVariants as cell
use Rattle.cola_cell.specs.Cell.{key_of}
use Rattle.cola_cell.specs.Held.{Held, Fixed, Told, Tells, LawCell, Stamped, as_cell}
use Rattle.cola_cell.proofs.RunLemmas.{given_is_told}
use Rattle.cola_merge.specs.declared.aims.Feed.{Feed}
use Rattle.cola_merge.specs.declared.aims.Feed.TheVariants as feed
use Rattle.cola_merge.specs.declared.aims.Aim.{Aim}
use Rattle.cola_merge.specs.declared.merging.Merger.{Merger}
use Rattle.cola_cell.specs.ToldCells.{cell_at}
use Rattle.cola_cell.specs.Order.{key_cmp}
use Rattle.cola_merge.specs.Feeds.{part_of, feed_len, feed_spots, feed_cells, feed_keys, IsFeedTold, IsFeed, IsSource}
use Rattle.cola_merge.specs.Heads.{IsHeldCell, HasHeads, IsUsedUp, AreFetched, AreFeedsTold, build_of}
use Rattle.cola_merge.specs.Rules.{next_action}
use Rattle.cola_cell.proofs.CellLists.{get-cells, past-cells, length-cells}

-- ---- what a rule takes is there

module _ {K V : Type 0} where
  -- the head that is taken is there, and a lookahead cell is emitted for the sample's; where none is taken there is none
  abbrev pub IsTaken : Option (laws.Cell K V) → Option (laws.Cell K V) → Option K → Action K V → Type 0
  IsTaken own incoming key (Take runs.Own c) = IsSome own
  IsTaken own incoming key (Take runs.Incoming c) = IsSome incoming
  IsTaken own incoming key (Take runs.Sample c) = IsSome key × IsSome c
  IsTaken own incoming key Ended = (own ≡ None) × (incoming ≡ None) × (key ≡ None)

  by_cond : (P : Action K V → Type 0) (b : Bool) (x y : Action K V) → (b ≡ true → P x) → P y → P (cond b x y)
  by_cond P true x y h k = h refl
  by_cond P false x y h k = k

  by_order : (P : Action K V → Type 0) (r : Ordering) (x y z : Action K V) → P x → P y → P z → P (match_ordering r x y z)
  by_order P Less x y z h k l = h
  by_order P Equal x y z h k l = k
  by_order P Greater x y z h k l = l

  skipped : (skips : Option (laws.Cell K V) → Bool) → skips None ≡ false → (c : Option (laws.Cell K V)) → skips c ≡ true → IsSome c
  skipped skips n None e = absurd (true≢false (sym e ∙ n))
  skipped skips n (Some c) e = refl

module _ {K V : Type 0} (cmp : K → K → Ordering) (part : Part) (link : ℕ) where
  item_taken : (own incoming : Option (laws.Cell K V)) (key : Option K) (head : runs.Head) (c : laws.Cell K V) → ((e : Option (laws.Cell K V)) → IsTaken own incoming key (Take head e)) →
      IsTaken own incoming key (item_or_look cmp part link head c key)
  item_taken own incoming None head c h = h (emitted part link head c)
  item_taken own incoming (Some k) head c h =
      by_cond (IsTaken own incoming (Some k)) (is_gt (cmp (laws.key_of c) k)) (Take runs.Sample (Some (laws.Look k link))) (Take head (emitted part link head c)) (λ _. (refl, refl)) (h (emitted part link head c))

  least_taken : (own incoming : Option (laws.Cell K V)) (key : Option K) → IsTaken own incoming key (least cmp part link own incoming key)
  least_taken None None None = (refl, refl, refl)
  least_taken None None (Some k) = (refl, refl)
  least_taken (Some c) None key = item_taken (Some c) None key runs.Own c (λ e. refl)
  least_taken None (Some d) key = item_taken None (Some d) key runs.Incoming d (λ e. refl)
  least_taken (Some c) (Some d) key =
      by_order (IsTaken (Some c) (Some d) key) (cmp (laws.key_of c) (laws.key_of d)) (item_or_look cmp part link runs.Own c key) (Take runs.Own None) (item_or_look cmp part link runs.Incoming d key)
      (item_taken (Some c) (Some d) key runs.Own c (λ e. refl)) refl (item_taken (Some c) (Some d) key runs.Incoming d (λ e. refl))

  pub rule_taken : (own incoming : Option (laws.Cell K V)) (key : Option K) → IsTaken own incoming key (rule cmp part link own incoming key)
  rule_taken own incoming key =
      by_cond (IsTaken own incoming key) (skips_own part own) (Take runs.Own None) (cond (skips_incoming incoming) (Take runs.Incoming None) (least cmp part link own incoming key)) (skipped (λ c. skips_own part c) refl own)
      (by_cond (IsTaken own incoming key) (skips_incoming incoming) (Take runs.Incoming None) (least cmp part link own incoming key) (skipped (λ c. skips_incoming c) refl incoming) (least_taken own incoming key))

-- ---- no head is left

pub not_below : (at n : ℕ) → (at < n → ⊥) → n ≤ at
not_below at n h = omega (arith, h)

none_left : {X : Type 0} (read : Cell → X) (f : Feed) (at : ℕ) (c : Option Cell) → option_map read c ≡ None → (at < feed_len f → IsSome c) → feed_len f ≤ at
none_left read f at None e h = not_below at (feed_len f) (λ l. true≢false (sym (h l)))
none_left read f at (Some c) e h = absurd (none-some (read c) (sym e))

-- the head that the action takes is there
pub taken_by : (aim : Aim) (m : Merger) (a : Action (List ℕ) Stamped) → a ≡ next_action aim m → IsTaken (option_map as_cell m.own.cell) (option_map as_cell m.incoming.cell) (option_map key_of m.sample.cell) a
taken_by aim m a e = rw e (rule_taken key_cmp (part_of aim) (8 * m.sample.at) (option_map as_cell m.own.cell) (option_map as_cell m.incoming.cell) (option_map key_of m.sample.cell))

-- where the rules end, each feed is used up
pub ended_is_used_up : (aim : Aim) (m : Merger) → AreFetched aim m → Ended ≡ next_action aim m → IsUsedUp aim m
ended_is_used_up aim m f e =
    let t = taken_by aim m Ended e in
    record {
      own = none_left as_cell aim.own m.own.at m.own.cell t.0 f.own;
      incoming = none_left as_cell aim.incoming m.incoming.at m.incoming.cell t.1 f.incoming;
      sample = none_left key_of aim.sample m.sample.at m.sample.cell t.2 f.sample;
    }

-- ---- the heads are the cells at the cursors

pub feed_length : (held : Held) (f : Feed) → length (feed_cells held f) ≡ feed_len f
feed_length held f = length-cells (feed_spots held f) 0 (feed_len f)

pub keys_length : (held : Held) (f : Feed) → length (feed_keys held f) ≡ feed_len f
keys_length held f = length-map (feed_cells held f) laws.key_of ∙ feed_length held f

-- the told cell of a feed at a cursor
pub told_get : (held : Held) (f : Feed) (at : ℕ) (c : LawCell) → at < feed_len f → IsFeedTold held f → Tells (feed_spots held f at) (Told c) → slice_get (feed_cells held f) at ≡ Some c
told_get held f at c l told h =
    get-cells (feed_spots held f) 0 (feed_len f) at l
    ∙ ap (λ (n : ℕ). Some (cell_at (feed_spots held f n))) (let z : 0 + at ≡ at = omega arith in z)
    ∙ ap Some (given_is_told (feed_spots held f at) (cell_at (feed_spots held f at)) c (told at l) h)

pub held_is : (held : Held) (f : Feed) (at : ℕ) (c : Option Cell) → IsHeldCell held f at c → (at < feed_len f → IsSome c) → IsFeedTold held f →
    option_map as_cell c ≡ slice_get (feed_cells held f) at
held_is held f at None h t told = sym (past-cells (feed_spots held f) 0 (feed_len f) at (not_below at (feed_len f) (λ l. true≢false (sym (t l)))))
held_is held f at (Some c) h t told =
    sym (told_get held f at (as_cell c) h.0 told h.1)

pub key_of-as_cell : (c : Cell) → key_of c ≡ laws.key_of (as_cell c)
key_of-as_cell (cell.Item key item young link) = refl
key_of-as_cell (cell.Look key link) = refl

keys-as_cell : (c : Option Cell) → option_map key_of c ≡ option_map laws.key_of (option_map as_cell c)
keys-as_cell None = refl
keys-as_cell (Some c) = ap (λ (x : List ℕ). Some x) (key_of-as_cell c)

-- the action of the heads is that of the cells at the cursors
pub action_of_heads : (held : Held) (aim : Aim) (m : Merger) → HasHeads held aim m → AreFetched aim m → AreFeedsTold held aim →
    next_action aim m
    ≡ rule key_cmp (part_of aim) (8 * m.sample.at) (slice_get (feed_cells held aim.own) m.own.at) (slice_get (feed_cells held aim.incoming) m.incoming.at) (slice_get (feed_keys held aim.sample) m.sample.at)
action_of_heads held aim m r f t =
    let own : List LawCell = feed_cells held aim.own in
    let incoming : List LawCell = feed_cells held aim.incoming in
    let keys : List (List ℕ) = feed_keys held aim.sample in
    let a : option_map as_cell m.own.cell ≡ slice_get own m.own.at = held_is held aim.own m.own.at m.own.cell r.own.cell f.own t.own in
    let b : option_map as_cell m.incoming.cell ≡ slice_get incoming m.incoming.at = held_is held aim.incoming m.incoming.at m.incoming.cell r.incoming.cell f.incoming t.incoming in
    let s : option_map as_cell m.sample.cell ≡ slice_get (feed_cells held aim.sample) m.sample.at = held_is held aim.sample m.sample.at m.sample.cell r.sample.cell f.sample t.sample in
    let k : option_map key_of m.sample.cell ≡ slice_get keys m.sample.at =
    keys-as_cell m.sample.cell ∙ ap (option_map laws.key_of) s ∙ sym (slice_get-map laws.key_of (feed_cells held aim.sample) m.sample.at) in
    cc

-- the step of the laws is that of the heads
pub step_of_heads : (held : Held) (aim : Aim) (m : Merger) → HasHeads held aim m → AreFetched aim m → AreFeedsTold held aim →
    step key_cmp (part_of aim) (feed_cells held aim.own) (feed_cells held aim.incoming) (feed_keys held aim.sample) (build_of held aim m) ≡ after (next_action aim m) (build_of held aim m)
unfolding step
step_of_heads held aim m r f t = ap (λ (x : Action (List ℕ) Stamped). after x (build_of held aim m)) (sym (action_of_heads held aim m r f t))

-- ---- a cursor is small

-- the length of a feed
run_small : (fixed : Fixed) (run : Run) → fixed.levels ≤ 23 → IsSource fixed run → run.len ≤ 2 ^ 25
run_small fixed run few s = let a = s.level_in in let b = s.within in let c : 2 ^ (run.level + 2) ≤ 2 ^ 25 = pow_mono (let z : run.level + 2 ≤ 25 = omega (arith, a, few) in z) in omega (arith, b, c)

pub feed_small : (fixed : Fixed) (f : Feed) → fixed.levels ≤ 23 → IsFeed fixed f → feed_len f ≤ 2 ^ 25
feed_small fixed (feed.Run run) few s = run_small fixed run few s
feed_small fixed (feed.Sampled run) few s = let a = run_small fixed run few s in let d : run.len / 8 ≤ run.len = div-le_self run.len 8 in omega (arith, a, d)
feed_small fixed _ few s = omega arith

pub small_cursor : (fixed : Fixed) (f : Feed) (at : ℕ) → fixed.levels ≤ 23 → IsFeed fixed f → at ≤ feed_len f → 8 * at < 2 ^ 32
small_cursor fixed f at l h e = let a = feed_small fixed f l h in omega (arith, a, e)
