-- A walk over the runs of several levels by least keys, and what it counts.
use Rattle.std.proofs.Common.{◌≡◌, ℕ, zero, suc, ◌+◌, ◌<◌, ◌≤◌, cond, List, [], ◌∷◌, length, take, drop, get_or, take-take, get_or-take, refl, sym, ap, subst, ◌∙◌, arith, ◌↔◌, ◌^◌, false, map, replicate, Option, None, Some, inl}
use Rattle.std.proofs.Common.{inr, ◌*◌, Bool, true, IfSome, IsTrue}
use Rattle.cola_check.proofs.Common.{AllByRecursion, refill, take-set, drop-set, drop_all, get_or_default, length-map, length-replicate, option_or, transport, IsRising, seen, holds, answer, AtHead, pass_key, pass_keys, HeadsPast}
use Rattle.cola_check.proofs.Common.{by_bool, all_change, Value, Tombstone, LawCell, Stamped, Held, key_cmp, Run, slot_size, HasRun, live_pairs, LevelWalks, LiveCount, Said, said_or, live_one, visible_said, shadow_said, no_count}
use Rattle.cola_check.proofs.Common.{HasRoom, added, counted, said_of, IsWithin, Found, Nothing, Gone, Live, as_seen, rest, least_from, Each, HasLevel, shadow_or_none, shadow_run, with_shadow, runs_of, cells_in, AreRunsInOrder}
use Rattle.cola_check.proofs.Common.{cells_of, walks_in, runs_in, LevelFits, IsLevelReady, all_ahead, BeginsLevel, Hears, PassesLevel, LevelCells, visible_runs, shadow_runs, AreLiveCounts, AreStamped, LevelRuns, Walk, HasBadRun}
use Rattle.cola_check.proofs.Common.{HasBadIn, IsInOrder}
use Rattle.std.proofs.Math.ListN.{set}
use Rattle.cola_pairs.specs.Live.{with_answer, below_end}
use Rattle.cola_pairs.proofs.LivePairs.{all_rising_onward}
use Rattle.cola_pairs.proofs.Onward.{live_step, live_ends, below_closes}
use Rattle.cola_cell.proofs.PlaceNumbers.{slot_size-mono}
use Rattle.cola_check.specs.Chains.{lives}
use Rattle.cola_check.proofs.Levels.{left_next, by_each, by_each_then, each_all, each_length, refilled, shadow_cells, skipped_bad, none-sorted}
use Rattle.cola_look.proofs.KeyLemmas.{keys_alike}
use Rattle.cola_check.proofs.LeastKeys.{key_total, HeadFrom, AnyHas, some_head, least_is, least_none}
use Rattle.cola_check.proofs.Fronts.{ahead_stays, ahead_falls}
use Rattle.cola_check.proofs.Carrying.{BeginsFrom, begins_from, IsOn, on_first, on_next, told_of, found_of_key, rest_begins, nothing_left}
use Rattle.cola_runs.specs.Cells as laws
use Rattle.cola_check.specs.declared.walk.Found.TheVariants as found

-- ---- counts of levels, from the last one up

same_count : (count : LiveCount) (v s : ℕ) → count.visible ≡ v → count.shadow ≡ s → count ≡ record { visible = v; shadow = s }
same_count count v s e f = ap (λ (n : ℕ). record { visible = n; shadow = count.shadow }) e ∙ ap (λ (n : ℕ). record { visible = v; shadow = n }) f

room_at : (counts : List LiveCount) (i : ℕ) → i < length counts → AllByRecursion HasRoom counts → HasRoom (get_or counts i no_count)
room_at [] i l h = absurd (omega (arith, l))
room_at (count ∷ counts) zero l h = h.0
room_at (count ∷ counts) (suc i) l h = room_at counts i (omega (arith, l)) h.1

-- no level is counted yet
pub none_counted : (counts : List LiveCount) (levels : List LevelWalks) (n : ℕ) → length counts ≤ n → drop n counts ≡ counted (drop n counts) (drop n levels)
none_counted counts levels n l = let e = drop_all n counts l in e ∙ sym (ap (λ (cs : List LiveCount). counted cs (drop n levels)) e)

module _ (counts olds : List LiveCount) (levels : List LevelWalks) (n i : ℕ) (many : n ≡ suc i) (first : take n counts ≡ take n olds) (in_counts : i < length counts) (in_olds : i < length olds) where
  both : (take i counts ≡ take i olds) × (get_or counts i no_count ≡ get_or olds i no_count)
  both =
      let less : i < n = omega (arith, many) in (
        sym (take-take i n counts (omega (arith, less))) ∙ ap (take i) first ∙ take-take i n olds (omega (arith, less)),
        sym (get_or-take n counts i no_count less) ∙ ap (λ (cs : List LiveCount). get_or cs i no_count) first ∙ get_or-take n olds i no_count less,
      )

  -- the next count up is as it was, and has room
  pub next_has_room : AllByRecursion HasRoom olds → HasRoom (get_or counts i no_count)
  next_has_room rooms = subst HasRoom (sym both.1) (room_at olds i in_olds rooms)

  pub first_stay : (new : LiveCount) → take i (set counts i new) ≡ take i olds
  first_stay new = take-set counts i new ∙ both.0

  module _ (level : LevelWalks) (in_levels : i < length levels) (level_is : level ≡ get_or levels i level) where
    after : n ≡ i + 1
    after = omega (arith, many)

    here : drop i levels ≡ level ∷ drop (i + 1) levels
    here = left_next levels i level in_levels level_is

    module _ (visible shadow : Said) (visible_is : visible ≡ visible_said (drop n levels)) (shadow_is : shadow ≡ shadow_said (drop n levels)) where
      visible_below : visible ≡ visible_said (drop (i + 1) levels)
      visible_below = visible_is ∙ ap (λ (m : ℕ). visible_said (drop m levels)) after

      shadow_below : shadow ≡ shadow_said (drop (i + 1) levels)
      shadow_below = shadow_is ∙ ap (λ (m : ℕ). shadow_said (drop m levels)) after

      pub visible_next : {said : Said} → said ≡ said_or level.visible.said visible → said ≡ visible_said (drop i levels)
      visible_next e = e ∙ ap (said_or level.visible.said) visible_below ∙ sym (ap visible_said here)

      pub shadow_next : {said : Said} → said ≡ said_or level.shadow.said (cond level.odd shadow visible) → said ≡ shadow_said (drop i levels)
      shadow_next e =
          e ∙ ap (λ (s : Said). said_or level.shadow.said (cond level.odd s visible)) shadow_below
          ∙ ap (λ (s : Said). said_or level.shadow.said (cond level.odd (shadow_said (drop (i + 1) levels)) s)) visible_below ∙ sym (ap shadow_said here)

    -- it is counted
    pub counted_next : (new : LiveCount) (visible shadow : Said) → drop n counts ≡ counted (drop n olds) (drop n levels) → visible ≡ visible_said (drop i levels) → shadow ≡ shadow_said (drop i levels) →
        new.visible ≡ (get_or counts i no_count).visible + live_one visible → new.shadow ≡ (get_or counts i no_count).shadow + live_one shadow →
        drop i (set counts i new) ≡ counted (drop i olds) (drop i levels)
    counted_next new visible shadow below visible_is shadow_is v s =
        let old : LiveCount = get_or olds i no_count in
        let rest : List LevelWalks = drop (i + 1) levels in
        let tail : drop (i + 1) counts ≡ counted (drop (i + 1) olds) rest = subst (λ (m : ℕ). drop m counts ≡ counted (drop m olds) (drop m levels)) after below in
        let new_is : new ≡ added old (level ∷ rest) =
        same_count new (old.visible + live_one (visible_said (level ∷ rest))) (old.shadow + live_one (shadow_said (level ∷ rest)))
        (v ∙ ap (λ (c : LiveCount). c.visible + live_one visible) both.1 ∙ ap (λ (said : Said). old.visible + live_one said) (visible_is ∙ ap visible_said here))
        (s ∙ ap (λ (c : LiveCount). c.shadow + live_one shadow) both.1 ∙ ap (λ (said : Said). old.shadow + live_one said) (shadow_is ∙ ap shadow_said here)) in
        drop-set counts i new in_counts
        ∙ ap (λ (c : LiveCount). c ∷ drop (i + 1) counts) new_is ∙ ap (λ (cs : List LiveCount). added old (level ∷ rest) ∷ cs) tail
        ∙ sym (ap (λ (ls : List LevelWalks). counted (drop i olds) ls) here ∙ ap (λ (cs : List LiveCount). counted cs (level ∷ rest)) (left_next olds i old in_olds (get_or_default olds i no_count old in_olds)))

-- ---- a step over a key below which no run begins

-- this holds of both runs of a level
abbrev pub OfBoth : (List LawCell → Type 0) → LevelCells → Type 0
OfBoth P level = P level.visible × P level.shadow

-- the runs of a level without the cells of a key at their fronts
abbrev pub passed_cells : List ℕ → LevelCells → LevelCells
passed_cells k level = record { visible = pass_key key_cmp k level.visible; shadow = pass_key key_cmp k level.shadow; odd = level.odd }

-- it holds of each of the visible runs, and of the shadow and what lies below it
over_both : (P : List LawCell → Type 0) (levels : List LevelCells) → AllByRecursion (OfBoth P) levels → AllByRecursion P (visible_runs levels) × AllByRecursion P (shadow_runs levels)
over_both P [] h = (tt, tt)
over_both P (level ∷ levels) h =
    let r = over_both P levels h.1 in
    ((h.0.0, r.0), (h.0.1, by_bool (λ b. AllByRecursion P (cond b (shadow_runs levels) (visible_runs levels))) r.1 r.0 level.odd))

-- passing a key goes through them
both_passed : (k : List ℕ) (levels : List LevelCells) → (visible_runs (map (passed_cells k) levels) ≡ pass_keys key_cmp k (visible_runs levels)) × (shadow_runs (map (passed_cells k) levels) ≡ pass_keys key_cmp k (shadow_runs levels))
both_passed k [] = (refl, refl)
both_passed k (level ∷ levels) =
    let r = both_passed k levels in
    let behind = by_bool (λ b. cond b (shadow_runs (map (passed_cells k) levels)) (visible_runs (map (passed_cells k) levels)) ≡ pass_keys key_cmp k (cond b (shadow_runs levels) (visible_runs levels))) r.1 r.0 level.odd in
    (ap (λ runs. pass_key key_cmp k level.visible ∷ runs) r.0, ap (λ runs. pass_key key_cmp k level.shadow ∷ runs) behind)

-- ---- what the runs say of the key

-- an answer of runs as what they say of the key
abbrev pub as_said : Option (laws.Item Stamped) → Said
as_said None = Nothing
as_said (Some (laws.Value v)) = Live v.stamp
as_said (Some laws.Tombstone) = Gone

said_joined : (a b : Option (laws.Item Stamped)) → said_or (as_said a) (as_said b) ≡ as_said (option_or a b)
said_joined (Some (laws.Value v)) b = refl
said_joined _ b = refl

pub said_found : (f : Found) → said_of f ≡ as_said (holds (as_seen f))
said_found (found.Old (Value value stamp)) = refl
said_found (found.Young (Value value stamp)) = refl
said_found _ = refl

-- the walks of a level have heard what its runs say of the key
pub record IsSaid (k : List ℕ) (level : LevelCells) (walks : LevelWalks) : Type 0 where
  pub visible : walks.visible.said ≡ as_said (holds (seen key_cmp k level.visible))
  pub shadow : walks.shadow.said ≡ as_said (holds (seen key_cmp k level.shadow))
  pub odd_is : walks.odd ≡ level.odd

module _ (k : List ℕ) where
  said_of_run : (heard : Said) (run : List LawCell) → heard ≡ as_said (holds (seen key_cmp k run)) → (said : Said) (runs : List (List LawCell)) → said ≡ as_said (answer key_cmp k runs) →
      said_or heard said ≡ as_said (answer key_cmp k (run ∷ runs))
  said_of_run heard run e said runs h =
      ap (λ x. said_or x said) e ∙ ap (said_or (as_said (holds (seen key_cmp k run)))) h ∙ said_joined (holds (seen key_cmp k run)) (answer key_cmp k runs)

  -- both lists have heard what their runs answer
  both_answer : (levels : List LevelCells) (walks : List LevelWalks) → Each (IsSaid k) levels walks →
      (visible_said walks ≡ as_said (answer key_cmp k (visible_runs levels))) × (shadow_said walks ≡ as_said (answer key_cmp k (shadow_runs levels)))
  both_answer [] [] h = (refl, refl)
  both_answer (level ∷ levels) (w ∷ walks) h =
      let r = both_answer levels walks h.1 in
      let behind = by_bool (λ b. cond b (shadow_said walks) (visible_said walks) ≡ as_said (answer key_cmp k (cond b (shadow_runs levels) (visible_runs levels)))) r.1 r.0 level.odd in (
        said_of_run w.visible.said level.visible h.0.visible (visible_said walks) (visible_runs levels) r.0,
        said_of_run w.shadow.said level.shadow h.0.shadow (cond w.odd (shadow_said walks) (visible_said walks)) (cond level.odd (shadow_runs levels) (visible_runs levels))
            (ap (λ b. cond b (shadow_said walks) (visible_said walks)) h.0.odd_is ∙ behind),
      )
  both_answer _ _ h = absurd h

-- ---- live pairs

pairs_step : (k : List ℕ) (runs : List (List LawCell)) → AllByRecursion (IsRising key_cmp) runs → AllByRecursion (BeginsFrom k) runs →
    live_pairs runs ≡ with_answer k (answer key_cmp k runs) (live_pairs (pass_keys key_cmp k runs))
pairs_step k runs h p = live_step key_total keys_alike (below_end key_cmp None) k runs (all_rising_onward key_total runs h) p refl

one_more : (k : List ℕ) (a : Option (laws.Item Stamped)) (pairs : List (List ℕ × Stamped)) → length (with_answer k a pairs) ≡ live_one (as_said a) + length pairs
one_more k (Some (laws.Value v)) pairs = omega arith
one_more k _ pairs = omega arith

stamped_more : (last : ℕ) (k : List ℕ) (a : Option (laws.Item Stamped)) (pairs : List (List ℕ × Stamped)) → AreStamped last (with_answer k a pairs) ↔ (IsWithin last (as_said a) × AreStamped last pairs)
stamped_more last k (Some (laws.Value v)) pairs = ((λ h. h), (λ h. h))
stamped_more last k _ pairs = ((λ h. (tt, h)), (λ h. h.1))

-- runs of no cells have no live key
pairs_end : (runs : List (List LawCell)) → AllByRecursion (λ run. run ≡ []) runs → live_pairs runs ≡ []
pairs_end runs h = live_ends key_total (below_end key_cmp None) (below_closes key_total None) runs (all_rising_onward key_total runs (all_change (λ run e. subst (IsRising key_cmp) (sym e) (none-sorted _)) runs h)) (past runs h)
  where
    past : (runs : List (List LawCell)) → AllByRecursion (λ run. run ≡ []) runs → HeadsPast key_cmp None runs
    past [] h = tt
    past (run ∷ runs) h = (subst (AtHead (λ q. below_end key_cmp None q ≡ false)) (sym h.0) tt, past runs h.1)

-- ---- counts of several levels

-- the counts of a level so far, and the live keys of what is left, are the live keys of all
pub record IsCounting (whole left : List LevelCells) (count : LiveCount) : Type 0 where
  pub visible : count.visible + lives (visible_runs left) ≡ lives (visible_runs whole)
  pub shadow : count.shadow + lives (shadow_runs left) ≡ lives (shadow_runs whole)

-- the same of each level
abbrev pub AreCounting : List LevelCells → List LevelCells → List LiveCount → Type 0
AreCounting [] [] [] = Unit {0}
AreCounting (w ∷ whole) (l ∷ left) (c ∷ counts) = IsCounting (w ∷ whole) (l ∷ left) c × AreCounting whole left counts
AreCounting _ _ _ = ⊥

pub counting_none : (whole : List LevelCells) → AreCounting whole whole (replicate (length whole) no_count)
counting_none [] = tt
counting_none (w ∷ whole) = (record { visible = omega arith; shadow = omega arith }, counting_none whole)

module _ (k : List ℕ) where
  lives_step : (runs : List (List LawCell)) (said : Said) → AllByRecursion (IsRising key_cmp) runs → AllByRecursion (BeginsFrom k) runs → said ≡ as_said (answer key_cmp k runs) →
      lives runs ≡ live_one said + lives (pass_keys key_cmp k runs)
  lives_step runs said h p e =
      ap length (pairs_step k runs h p) ∙ one_more k (answer key_cmp k runs) (live_pairs (pass_keys key_cmp k runs)) ∙ ap (λ x. live_one x + lives (pass_keys key_cmp k runs)) (sym e)

  module _ (left : List LevelCells) (walks : List LevelWalks) (said : Each (IsSaid k) left walks) (rising : AllByRecursion (OfBoth (IsRising key_cmp)) left) (begins : AllByRecursion (OfBoth (BeginsFrom k)) left) where
    visible_step : lives (visible_runs left) ≡ live_one (visible_said walks) + lives (visible_runs (map (passed_cells k) left))
    visible_step =
        lives_step (visible_runs left) (visible_said walks) (over_both (IsRising key_cmp) left rising).0 (over_both (BeginsFrom k) left begins).0 (both_answer k left walks said).0
        ∙ ap (λ runs. live_one (visible_said walks) + lives runs) (sym (both_passed k left).0)

    shadow_step : lives (shadow_runs left) ≡ live_one (shadow_said walks) + lives (shadow_runs (map (passed_cells k) left))
    shadow_step =
        lives_step (shadow_runs left) (shadow_said walks) (over_both (IsRising key_cmp) left rising).1 (over_both (BeginsFrom k) left begins).1 (both_answer k left walks said).1
        ∙ ap (λ runs. live_one (shadow_said walks) + lives runs) (sym (both_passed k left).1)

    -- the stamps of what is left are that of the key and those behind it
    pub stamps_step : (last : ℕ) → AreStamped last (live_pairs (visible_runs left)) ↔ (IsWithin last (visible_said walks) × AreStamped last (live_pairs (visible_runs (map (passed_cells k) left))))
    stamps_step last =
        let pairs = sym (pairs_step k (visible_runs left) (over_both (IsRising key_cmp) left rising).0 (over_both (BeginsFrom k) left begins).0) in
        let one = sym (both_answer k left walks said).0 in
        let runs = sym (both_passed k left).0 in
        transport (λ i. AreStamped last (pairs i) ↔ (IsWithin last (one i) × AreStamped last (live_pairs (runs i))))
        (stamped_more last k (answer key_cmp k (visible_runs left)) (live_pairs (pass_keys key_cmp k (visible_runs left))))

  pub counting_step : (whole left : List LevelCells) (counts : List LiveCount) (walks : List LevelWalks) → Each (IsSaid k) left walks → AllByRecursion (OfBoth (IsRising key_cmp)) left → AllByRecursion (OfBoth (BeginsFrom k)) left →
      AreCounting whole left counts → AreCounting whole (map (passed_cells k) left) (counted counts walks)
  counting_step [] [] [] walks s h p c = tt
  counting_step (w ∷ whole) (l ∷ left) (n ∷ counts) [] s h p c = absurd s
  counting_step (w ∷ whole) (l ∷ left) (n ∷ counts) (x ∷ walks) s h p c =
      let a = visible_step (l ∷ left) (x ∷ walks) s h p in
      let b = shadow_step (l ∷ left) (x ∷ walks) s h p in
      (record { visible = omega (arith, c.0.visible); shadow = omega (arith, c.0.shadow) }, counting_step whole left counts walks s.1 h.1 p.1 c.1)
  counting_step _ _ _ walks s h p c = absurd c

-- where nothing is left, all is counted
pub counting_end : (whole left : List LevelCells) (counts : List LiveCount) → AllByRecursion (OfBoth (λ run. run ≡ [])) left → AreCounting whole left counts → AreLiveCounts whole counts
counting_end [] [] [] h c = tt
counting_end (w ∷ whole) (l ∷ left) (n ∷ counts) h c =
    let none = over_both (λ run. run ≡ []) (l ∷ left) h in
    let a : lives (visible_runs (l ∷ left)) ≡ 0 = ap length (pairs_end (visible_runs (l ∷ left)) none.0) in
    let b : lives (shadow_runs (l ∷ left)) ≡ 0 = ap length (pairs_end (shadow_runs (l ∷ left)) none.1) in
    (record { visible = omega (arith, c.0.visible); shadow = omega (arith, c.0.shadow) }, counting_end whole left counts h.1 c.1)
counting_end _ _ _ h c = absurd c

-- and no stamp is left
pub stamps_end : (last : ℕ) (left : List LevelCells) → AllByRecursion (OfBoth (λ run. run ≡ [])) left → AreStamped last (live_pairs (visible_runs left))
stamps_end last left h = subst (AreStamped last) (sym (pairs_end (visible_runs left) (over_both (λ run. run ≡ []) left h).0)) tt

-- ---- how far the counts may rise

-- the counts of a level, and a number of keys to come, are at most so many
pub record IsBounded (more most : ℕ) (count : LiveCount) : Type 0 where
  pub visible : count.visible + more ≤ most
  pub shadow : count.shadow + more ≤ most

pub bounded_none : (more most n : ℕ) → more ≤ most → AllByRecursion (IsBounded more most) (replicate n no_count)
bounded_none more most zero h = tt
bounded_none more most (suc n) h = (record { visible = omega arith; shadow = omega arith }, bounded_none more most n h)

at_most_one : (said : Said) → live_one said ≤ 1
at_most_one Nothing = omega arith
at_most_one _ = omega arith

pub bounded_step : (more less most : ℕ) (counts : List LiveCount) (walks : List LevelWalks) → less < more → AllByRecursion (IsBounded more most) counts → AllByRecursion (IsBounded less most) (counted counts walks)
bounded_step more less most [] walks l h = tt
bounded_step more less most (n ∷ counts) [] l h = all_change (λ c b. record { visible = omega (arith, l, b.visible); shadow = omega (arith, l, b.shadow) }) (n ∷ counts) h
bounded_step more less most (n ∷ counts) (x ∷ walks) l h =
    let d = at_most_one (visible_said (x ∷ walks)) in
    let e = at_most_one (shadow_said (x ∷ walks)) in
    (record { visible = omega (arith, h.0.visible); shadow = omega (arith, h.0.shadow) }, bounded_step more less most counts walks l h.1)

pub has_rooms : (more most : ℕ) (counts : List LiveCount) → most + 1 < 2 ^ 64 → AllByRecursion (IsBounded more most) counts → AllByRecursion HasRoom counts
has_rooms more most counts l = all_change (λ n b. record { visible = omega (arith, b.visible, l); shadow = omega (arith, b.shadow, l) }) counts

pub same_many : (counts : List LiveCount) (walks : List LevelWalks) → length (counted counts walks) ≡ length counts
same_many (n ∷ counts) (x ∷ walks) = ap suc (same_many counts walks)
same_many _ _ = refl

-- ---- the walk

-- what a run says of a key by what was found of it in a walk over the run
heard_of_key : {held : Held} {k : List ℕ} {run : Run} {old new : Walk} {said : Said} → IsOn held run old → IsInOrder held run → HeadFrom k old.head → Hears held k old new said →
    said ≡ as_said (holds (seen key_cmp k (rest held old)))
heard_of_key i o h p = p.said_is ∙ said_found p.found ∙ ap (λ s. as_said (holds s)) (found_of_key i o h p.passes)

-- ---- a level and the walks over its runs

-- the walks of a level are on their way in its runs
pub record LevelOn (held : Held) (level : LevelRuns) (walks : LevelWalks) : Type 0 where
  pub visible : IsOn held level.visible walks.visible.walk
  pub shadow : IsOn held (shadow_run level) walks.shadow.walk
  pub odd_is : walks.odd ≡ level.odd

-- both runs of a level are in order
abbrev pub BothInOrder : Held → LevelRuns → Type 0
BothInOrder held level = IsInOrder held level.visible × IsInOrder held (shadow_run level)

-- what is left of a level's runs
abbrev pub rest_of : Held → LevelWalks → LevelCells
rest_of held walks = record { visible = rest held walks.visible.walk; shadow = rest held walks.shadow.walk; odd = walks.odd }

module _ (held : Held) where
  empty_in_order : (run : Run) → run.len ≡ 0 → IsInOrder held run
  empty_in_order run e = record {
    told = λ i l. absurd (omega arith);
    rising = subst (λ n. IsRising key_cmp (Rattle.cola_cell.specs.ToldCells.cells (held.spots run.level run.slot) 0 n)) (sym e) (none-sorted _);
  }

  shadow_in_order : (shadow : Option Run) (visible : Run) (runs : List Run) → AllByRecursion (IsInOrder held) (with_shadow shadow runs) → IsInOrder held (shadow_or_none shadow visible) × AllByRecursion (IsInOrder held) runs
  shadow_in_order None visible runs h = (empty_in_order (shadow_or_none None visible) refl, h)
  shadow_in_order (Some run) visible runs h = h

  pub both_in_order : (levels : List LevelRuns) → AreRunsInOrder held levels → AllByRecursion (BothInOrder held) levels
  both_in_order [] h = tt
  both_in_order (level ∷ levels) h = let s = shadow_in_order level.shadow level.visible (runs_of levels) h.1 in ((h.0, s.0), both_in_order levels s.1)

  -- ---- where the walks begin

  pub on_begin : (levels : List LevelRuns) (walks : List LevelWalks) → Each (BeginsLevel held) levels walks → Each (LevelOn held) levels walks
  on_begin = by_each (BeginsLevel held) (Each (LevelOn held)) tt (λ l w levels walks b h. (
    record {
      visible = on_first b.visible.run_is b.visible.at_is b.visible.fits b.visible.ready;
      shadow = on_first b.shadow.run_is b.shadow.at_is b.shadow.fits b.shadow.ready;
      odd_is = b.odd_is;
    },
    h,
  ))

  rests_begin : (levels : List LevelRuns) (walks : List LevelWalks) → Each (BeginsLevel held) levels walks → map (rest_of held) walks ≡ map (cells_of held) levels
  rests_begin = by_each (BeginsLevel held) (λ levels walks. map (rest_of held) walks ≡ map (cells_of held) levels) refl (λ l w levels walks h f.
      let a = rest_begins held l.visible w.visible.walk h.visible.run_is h.visible.at_is in
      let b = rest_begins held (shadow_run l) w.shadow.walk h.shadow.run_is h.shadow.at_is in
      let e = h.odd_is in
      cc)

  -- ---- what a step keeps

  module _ (k : List ℕ) where
    pub on_pass : (levels : List LevelRuns) (olds news : List LevelWalks) → Each (LevelOn held) levels olds → Each (PassesLevel held k) olds news → Each (LevelOn held) levels news
    on_pass = by_each_then (LevelOn held) (PassesLevel held k) (λ levels olds news. Each (LevelOn held) levels news) tt (λ l x n levels olds news o p r. (
      record { visible = on_next o.visible p.visible.passes; shadow = on_next o.shadow p.shadow.passes; odd_is = p.odd_is ∙ o.odd_is },
      r,
    ))

    rests_pass : (levels : List LevelRuns) (olds news : List LevelWalks) → AllByRecursion (BothInOrder held) levels → Each (LevelOn held) levels olds → Each (PassesLevel held k) olds news →
        map (rest_of held) news ≡ map (passed_cells k) (map (rest_of held) olds)
    rests_pass levels olds news h o p =
        by_each_then (LevelOn held) (PassesLevel held k) (λ ls os ns. AllByRecursion (BothInOrder held) ls → map (rest_of held) ns ≡ map (passed_cells k) (map (rest_of held) os)) (λ h. refl) (λ l x n ls os ns o p r h.
        let a = p.visible.passes.rest_is (told_of o.visible h.0.0) in
        let b = p.shadow.passes.rest_is (told_of o.shadow h.0.1) in
        let e = p.odd_is in
        let f = r h.1 in
        cc) levels olds news o p h

    saids : (levels : List LevelRuns) (olds news : List LevelWalks) → AllByRecursion (BothInOrder held) levels → Each (LevelOn held) levels olds → AllByRecursion (λ walk. HeadFrom k walk.head) (walks_in olds) →
        Each (PassesLevel held k) olds news → Each (IsSaid k) (map (rest_of held) olds) news
    saids levels olds news h o f p =
        by_each_then (LevelOn held) (PassesLevel held k) (λ ls os ns. AllByRecursion (BothInOrder held) ls → AllByRecursion (λ walk. HeadFrom k walk.head) (walks_in os) → Each (IsSaid k) (map (rest_of held) os) ns) (λ h f. tt)
        (λ l x n ls os ns o p r h f. (record { visible = heard_of_key o.visible h.0.0 f.0 p.visible; shadow = heard_of_key o.shadow h.0.1 f.1.0 p.shadow; odd_is = p.odd_is }, r h.1 f.1.1)) levels olds news o p h f

    begins : (levels : List LevelRuns) (walks : List LevelWalks) → AllByRecursion (BothInOrder held) levels → Each (LevelOn held) levels walks → AllByRecursion (λ walk. HeadFrom k walk.head) (walks_in walks) →
        AllByRecursion (OfBoth (BeginsFrom k)) (map (rest_of held) walks)
    begins [] [] h o f = tt
    begins (l ∷ levels) (w ∷ walks) h o f = (
      (
        begins_from held k w.visible.walk o.0.visible.fits o.0.visible.ready (told_of o.0.visible h.0.0) f.0,
        begins_from held k w.shadow.walk o.0.shadow.fits o.0.shadow.ready (told_of o.0.shadow h.0.1) f.1.0,
      ),
      begins levels walks h.1 o.1 f.1.1,
    )
    begins _ _ h o f = absurd o

    ahead_same : (olds news : List LevelWalks) → Each (PassesLevel held k) olds news → all_ahead news ≤ all_ahead olds
    ahead_same = by_each (PassesLevel held k) (λ olds news. all_ahead news ≤ all_ahead olds) (omega arith) (λ x n olds news p r.
        let a = ahead_stays p.visible.passes in
        let b = ahead_stays p.shadow.passes in
        omega arith)

    -- a step over a key that a head has passes a cell
    ahead_less : (olds news : List LevelWalks) → Each (PassesLevel held k) olds news → AnyHas k (walks_in olds) → all_ahead news < all_ahead olds
    ahead_less [] news p a = absurd a
    ahead_less (x ∷ olds) [] p a = absurd p
    ahead_less (x ∷ olds) (n ∷ news) p a =
        let v = ahead_stays p.0.visible.passes in
        let s = ahead_stays p.0.shadow.passes in
        let r = ahead_same olds news p.1 in
        elim a [
          | inl h ↦ let d = ahead_falls p.0.visible.passes h in omega (arith, d, s, r)
          | inr (inl h) ↦ let d = ahead_falls p.0.shadow.passes h in omega (arith, d, v, r)
          | inr (inr h) ↦ let d = ahead_less olds news p.1 h in omega (arith, d, v, s)
        ]

  rising : (levels : List LevelRuns) (walks : List LevelWalks) → AllByRecursion (BothInOrder held) levels → Each (LevelOn held) levels walks → AllByRecursion (OfBoth (IsRising key_cmp)) (map (rest_of held) walks)
  rising [] [] h o = tt
  rising (l ∷ levels) (w ∷ walks) h o = ((o.0.visible.rising h.0.0, o.0.shadow.rising h.0.1), rising levels walks h.1 o.1)
  rising _ _ h o = absurd o

  nothing_at_end : (levels : List LevelRuns) (walks : List LevelWalks) → AllByRecursion (BothInOrder held) levels → Each (LevelOn held) levels walks → AllByRecursion (λ walk. walk.head ≡ None) (walks_in walks) →
      AllByRecursion (OfBoth (λ run. run ≡ [])) (map (rest_of held) walks)
  nothing_at_end [] [] h o e = tt
  nothing_at_end (l ∷ levels) (w ∷ walks) h o e = (
    (nothing_left held w.visible.walk o.0.visible.fits o.0.visible.ready (told_of o.0.visible h.0.0) e.0, nothing_left held w.shadow.walk o.0.shadow.fits o.0.shadow.ready (told_of o.0.shadow h.0.1) e.1.0),
    nothing_at_end levels walks h.1 o.1 e.1.1,
  )
  nothing_at_end _ _ h o e = absurd o

  -- ---- what the walks stand for

  pub all_fit : (levels : List LevelRuns) (walks : List LevelWalks) → Each (LevelOn held) levels walks → AllByRecursion (LevelFits held) walks
  all_fit = each_all (LevelOn held) (LevelFits held) (λ l w o. record { visible = o.visible.fits; shadow = o.shadow.fits })

  pub all_ready : (levels : List LevelRuns) (walks : List LevelWalks) → Each (LevelOn held) levels walks → AllByRecursion IsLevelReady walks
  all_ready = each_all (LevelOn held) IsLevelReady (λ l w o. record { visible = o.visible.ready; shadow = o.shadow.ready })

  -- a bad cell of a run that is walked over is one of the levels' runs
  pub bad_of_levels : (number : ℕ) (levels : List LevelRuns) (walks : List LevelWalks) → Each (LevelOn held) levels walks → HasBadRun held number (runs_in walks) → HasBadRun held number (runs_of levels)
  bad_of_levels number levels [] o b = absurd b
  bad_of_levels number [] (w ∷ walks) o b = absurd o
  bad_of_levels number (l ∷ levels) (w ∷ walks) o (inl b) = inl (subst (λ (r : Run). HasBadIn held r number) o.0.visible.run_is b)
  bad_of_levels number (l ∷ levels) (w ∷ walks) o (inr (inl b)) = inr (go l.shadow (subst (λ (r : Run). HasBadIn held r number) o.0.shadow.run_is b))
    where
      go : (shadow : Option Run) → HasBadIn held (shadow_or_none shadow l.visible) number → HasBadRun held number (with_shadow shadow (runs_of levels))
      go None b = let w = b.within in absurd (omega arith)
      go (Some run) b = inl b
  bad_of_levels number (l ∷ levels) (w ∷ walks) o (inr (inr b)) = inr (skipped_bad held number l.shadow (runs_of levels) (bad_of_levels number levels walks o.1 b))

  -- ---- how many cells there are

  ahead_whole : (levels : List LevelRuns) (walks : List LevelWalks) → Each (LevelOn held) levels walks → all_ahead walks ≤ cells_in (runs_of levels)
  ahead_whole = by_each (LevelOn held) (λ levels walks. all_ahead walks ≤ cells_in (runs_of levels)) (omega arith) (λ l w levels walks o r.
      let a : w.visible.walk.run.len ≡ l.visible.len = ap (λ (r : Run). r.len) o.visible.run_is in
      let b : w.shadow.walk.run.len ≡ (shadow_run l).len = ap (λ (r : Run). r.len) o.shadow.run_is in
      let c = shadow_cells l.shadow l.visible (runs_of levels) in
      omega arith)

  run_small : (run : Run) → held.fixed.levels ≤ 23 → HasRun held run → run.len ≤ slot_size 22
  run_small run h r = let a = slot_size-mono run.level 22 (let l = r.level_in in omega arith) in let b = r.within in omega arith

  level_small : held.fixed.levels ≤ 23 → (levels : List LevelRuns) → AllByRecursion (HasLevel held) levels → cells_in (runs_of levels) ≤ length levels * (slot_size 22 + slot_size 22)
  level_small h [] r = omega arith
  level_small h (l ∷ levels) r = let a = run_small l.visible h r.0.visible in let b = level_small h levels r.1 in let c = go l.shadow r.0.shadow in omega arith
    where
      go : (shadow : Option Run) → IfSome shadow (HasRun held) → cells_in (with_shadow shadow (runs_of levels)) ≤ slot_size 22 + cells_in (runs_of levels)
      go None s = omega arith
      go (Some run) s = let a = run_small run h s in omega arith

  pub few_cells : held.fixed.levels ≤ 23 → (levels : List LevelRuns) → length levels ≤ 23 → AllByRecursion (HasLevel held) levels → cells_in (runs_of levels) + 1 < 2 ^ 64
  few_cells h levels n r = let a = level_small h levels r in omega arith

-- ---- what is counted

-- the walks are on their way; what is counted and what is left make up the whole
pub record Counting (held : Held) (last : ℕ) (levels : List LevelRuns) (walks : List LevelWalks) (counts : List LiveCount) (stamped : Bool) : Type 0 where
  pub on : Each (LevelOn held) levels walks
  pub same : length counts ≡ length walks
  pub bounded : AllByRecursion (IsBounded (all_ahead walks) (cells_in (runs_of levels))) counts
  pub counts_are : AreRunsInOrder held levels → AreCounting (map (cells_of held) levels) (map (rest_of held) walks) counts
  pub stamps_are : AreRunsInOrder held levels → AreStamped last (live_pairs (visible_runs (map (cells_of held) levels))) ↔ (IsTrue stamped × AreStamped last (live_pairs (visible_runs (map (rest_of held) walks))))

pub counting_begins : {held : Held} {last : ℕ} {levels : List LevelRuns} {walks : List LevelWalks} {counts : List LiveCount} {stamped : Bool} →
    Each (BeginsLevel held) levels walks → counts ≡ replicate (length levels) no_count → stamped ≡ true → Counting held last levels walks counts stamped
counting_begins {held} {last} {levels} {walks} {counts} {stamped} b e t =
    let on = on_begin held levels walks b in
    let rests = rests_begin held levels walks b in
    let n : replicate (length (map (cells_of held) levels)) no_count ≡ counts = ap (λ m. replicate m no_count) (length-map levels (cells_of held)) ∙ sym e in
    record {
      on = on;
      same = ap length e ∙ length-replicate (length levels) no_count ∙ sym (each_length (LevelOn held) levels walks on);
      bounded = subst (AllByRecursion (IsBounded (all_ahead walks) (cells_in (runs_of levels)))) (sym e) (bounded_none (all_ahead walks) (cells_in (runs_of levels)) (length levels) (ahead_whole held levels walks on));
      counts_are = λ o. subst (λ left. AreCounting (map (cells_of held) levels) left counts) (sym rests) (subst (AreCounting (map (cells_of held) levels) (map (cells_of held) levels)) n (counting_none (map (cells_of held) levels)));
      stamps_are = λ o.
          subst (λ left. AreStamped last (live_pairs (visible_runs (map (cells_of held) levels))) ↔ (IsTrue stamped × AreStamped last (live_pairs (visible_runs left)))) (sym rests) ((λ h. (t, h)), (λ h. h.1));
    }

module _ {held : Held} {last : ℕ} {levels : List LevelRuns} {walks : List LevelWalks} {counts : List LiveCount} {stamped : Bool} (c : Counting held last levels walks counts stamped) where
  pub counting_same : (k : List ℕ) (news : List LevelWalks) → Each (PassesLevel held k) walks news → length counts ≡ length news
  counting_same k news p = c.same ∙ each_length (LevelOn held) levels walks c.on ∙ sym (each_length (LevelOn held) levels news (on_pass held k levels walks news c.on p))

  pub counting_many : length counts ≡ length levels
  counting_many = c.same ∙ each_length (LevelOn held) levels walks c.on

  heads : (k : List ℕ) → least_from None (walks_in walks) ≡ Some k → AllByRecursion (λ walk. HeadFrom k walk.head) (walks_in walks)
  heads k least = (least_is None (walks_in walks) k least).from

  pub counting_less : (k : List ℕ) → least_from None (walks_in walks) ≡ Some k → (news : List LevelWalks) → Each (PassesLevel held k) walks news → all_ahead news < all_ahead walks
  counting_less k least news p = ahead_less held k walks news p (some_head k (walks_in walks) (least_is None (walks_in walks) k least).any)

  module _ (k : List ℕ) (least : least_from None (walks_in walks) ≡ Some k) (news : List LevelWalks) (p : Each (PassesLevel held k) walks news) where
    pub counting_on : {after : List LiveCount} {still : Bool} → after ≡ counted counts news → (IsTrue still ↔ (IsTrue stamped × IsWithin last (visible_said news))) → Counting held last levels news after still
    counting_on {after} {still} e s =
        let left : List LevelCells = map (rest_of held) walks in
        let whole : List LevelCells = map (cells_of held) levels in
        record {
          on = on_pass held k levels walks news c.on p;
          same = ap length e ∙ same_many counts news ∙ counting_same k news p;
          bounded = subst (AllByRecursion (IsBounded (all_ahead news) (cells_in (runs_of levels)))) (sym e) (bounded_step (all_ahead walks) (all_ahead news) (cells_in (runs_of levels)) counts news (counting_less k least news p) c.bounded);
          counts_are = λ o.
              let h = both_in_order held levels o in
              subst (AreCounting whole (map (rest_of held) news)) (sym e)
              (subst (λ ls. AreCounting whole ls (counted counts news)) (sym (rests_pass held k levels walks news h c.on p))
              (counting_step k whole left counts news (saids held k levels walks news h c.on (heads k least) p) (rising held levels walks h c.on) (begins held k levels walks h c.on (heads k least)) (c.counts_are o)));
          stamps_are = λ o.
              let h = both_in_order held levels o in
              let step = stamps_step k left news (saids held k levels walks news h c.on (heads k least) p) (rising held levels walks h c.on) (begins held k levels walks h c.on (heads k least)) last in
              let before = c.stamps_are o in
              subst (λ ls. AreStamped last (live_pairs (visible_runs whole)) ↔ (IsTrue still × AreStamped last (live_pairs (visible_runs ls)))) (sym (rests_pass held k levels walks news h c.on p)) (
                (λ a. let b = before.0 a in let d = step.0 b.1 in (s.1 (b.0, d.0), d.1)),
                (λ a. let b = s.0 a.0 in before.1 (b.0, step.1 (b.1, a.1))),
              );
        }

  module _ (none : least_from None (walks_in walks) ≡ None) (o : AreRunsInOrder held levels) where
    left_nothing : AllByRecursion (OfBoth (λ run. run ≡ [])) (map (rest_of held) walks)
    left_nothing = nothing_at_end held levels walks (both_in_order held levels o) c.on (least_none None (walks_in walks) none).1

    pub counting_ends : AreLiveCounts (map (cells_of held) levels) counts
    counting_ends = counting_end (map (cells_of held) levels) (map (rest_of held) walks) counts left_nothing (c.counts_are o)

    pub stamped_ends : IsTrue stamped ↔ AreStamped last (live_pairs (visible_runs (map (cells_of held) levels)))
    stamped_ends = ((λ t. (c.stamps_are o).1 (t, stamps_end last (map (rest_of held) walks) left_nothing)), (λ h. ((c.stamps_are o).0 h).0))

-- ---- a new list written over an old one

-- what holds of a list and the new one holds of an equal list and of what is written over it
pub refilled_as : (held : Held) (k : List ℕ) {xs olds : List LevelWalks} (news : List LevelWalks) → xs ≡ olds → Each (PassesLevel held k) xs news →
    (P : List LevelWalks → List LevelWalks → Type 0) → P xs news → P olds (refill (length olds) olds news)
refilled_as held k {xs} {olds} news f h P p =
    let r = sym (refilled olds news (each_length (PassesLevel held k) xs news h ∙ ap length f)) in
    transport (λ i. P (f i) (r i)) p

pub refilled_passes : {held object : Held} (k : List ℕ) {xs olds : List LevelWalks} (news : List LevelWalks) → held ≡ object → xs ≡ olds → Each (PassesLevel held k) xs news →
    Each (PassesLevel object k) olds (refill (length olds) olds news)
refilled_passes {held} k {xs} news e f h = refilled_as held k news f h (Each (PassesLevel _ k)) (subst (λ (x : Held). Each (PassesLevel x k) xs news) e h)
