-- The test of a cut: a merge along a run, two merges side by side, and a shadow beside its build.
use Rattle.std.proofs.Common.{◌≡◌, ℕ, suc, ◌+◌, ◌-◌, ◌*◌, ◌<◌, ◌≤◌, ◌↔◌, ◌⊎◌, inl, inr, Bool, true, false, IsTrue, List, [], ◌∷◌, ◌++◌, Option, Some, None, Result, Ok, Err, refl, ap, sym, subst, ◌∙◌, arith, not, IfOk, true≢false}
use Rattle.std.proofs.Common.{is_some}
use Rattle.cola_check.proofs.Common.{append_cancel_left, Rose, Cell, Run, Reader, Own, Incoming, ReadFault, Device, BadCell, Held, Spot, Told, Tells, LawCell, as_cell, Spent, Buffer, ReadAnswers, State, Reads, given_is_told}
use Rattle.cola_check.proofs.Common.{cell_at, cells, run_cells, Costs, Feed, Aim, Merger, feed_of, IsBadAt, feed_len, head_of, HasHeads, fetched, consumed, fresh, Spends, state, cells_read, whole_run, Gives, HasPullCause, Pulls}
use Rattle.cola_check.proofs.Common.{given_cells, IsRunTold, HasBadRun, PassCause, ReadsRuns, runs_of_feed, runs_of_aim, Followed, Compared, CutFits, CutsAfter, resumed, by_others, Cursors}
use Rattle.cola_cell.specs.declared.cell.Reader.TheVariants.{Sample}
use Rattle.cola_merge.specs.Pulls.{AreInOrder, ahead}
use Rattle.cola_merge.proofs.Sums.{spends_none, spends_then}
use Rattle.cola_merge.proofs.Stepping.{all_read}
use Rattle.cola_merge.proofs.Pulling.{fewer_left}
use Rattle.cola_merge.proofs.Ahead.{ahead-fresh, cut_is_ahead}
use Rattle.cola_check.proofs.Levels.{cause_among}
use Rattle.cola_merge.specs.declared.aims.Feed.TheVariants as feed

-- ---- what a read spends

-- one read spends as steps of a merge do
read_spends : {old new : State} {buffer : Buffer} {level slot index : ℕ} {result : Result Cell ReadFault} {from to : ℕ} → Reads old new buffer level slot index result → to ≡ from + 1 → Spends old.spent new.spent from to
read_spends r e = record {
  steps_stay = omega (arith, e);
  ticked_is = omega (arith, e, r.one_tick);
  turned_stays = r.turned_stays;
  written_stays = omega (arith, r.written_is);
  transfers = omega (arith, e, r.written_is, r.turned_rises);
  faults_stay = r.faults_stay;
}

-- ---- causes

-- a bad run of one of two lists is one of both
bad_of_both : (held : Held) (number : ℕ) (xs ys : List Run) → HasBadRun held number xs ⊎ HasBadRun held number ys → HasBadRun held number (xs ++ ys)
bad_of_both held number [] ys (inl h) = absurd h
bad_of_both held number [] ys (inr h) = h
bad_of_both held number (x ∷ xs) ys (inl (inl h)) = inl h
bad_of_both held number (x ∷ xs) ys (inl (inr h)) = inr (bad_of_both held number xs ys (inl h))
bad_of_both held number (x ∷ xs) ys (inr h) = inr (bad_of_both held number xs ys (inr h))

bad_in_feed : (held : Held) (f : Feed) (at number : ℕ) → IsBadAt held f at number → HasBadRun held number (runs_of_feed f)
bad_in_feed held (feed.Run run) at number h = inl (record { index = at; within = h.0; bad = h.1 })
bad_in_feed held (feed.Sampled run) at number h = inl (record { index = 8 * at + 7; within = (let l = h.0 in omega (arith, l)); bad = h.1 })
bad_in_feed held _ at number h = absurd h

bad_in_aim : (held : Held) (aim : Aim) (reader : Reader) (number : ℕ) → HasBadRun held number (runs_of_feed (feed_of aim reader)) → HasBadRun held number (runs_of_aim aim)
bad_in_aim held aim Own number h = bad_of_both held number (runs_of_feed aim.own) (runs_of_feed aim.incoming ++ runs_of_feed aim.sample) (inl h)
bad_in_aim held aim Incoming number h =
    bad_of_both held number (runs_of_feed aim.own) (runs_of_feed aim.incoming ++ runs_of_feed aim.sample) (inr (bad_of_both held number (runs_of_feed aim.incoming) (runs_of_feed aim.sample) (inl h)))
bad_in_aim held aim Sample number h =
    bad_of_both held number (runs_of_feed aim.own) (runs_of_feed aim.incoming ++ runs_of_feed aim.sample) (inr (bad_of_both held number (runs_of_feed aim.incoming) (runs_of_feed aim.sample) (inr h)))

pub pull_cause : (held : Held) (aim : Aim) (before between : ℕ) (b : Spent) (n : Merger) (to : ℕ) (fault : ReadFault) → between ≡ before → HasPullCause held aim between b n to (Err fault) →
    PassCause held (runs_of_aim aim) before b.faults fault
pull_cause held aim before between b n to Device e c = subst (λ (x : ℕ). Rose x b.faults) e c
pull_cause held aim before between b n to (BadCell number) e c = bad_in_aim held aim c.reader number (bad_in_feed held (feed_of aim c.reader) (head_of n c.reader).at number c.bad)

read_cause : (held : Held) (run : Run) (runs : List Run) (index before between now : ℕ) (fault : ReadFault) → index < run.len → between ≡ before → ReadAnswers held between now run.level run.slot index (Err fault) →
    PassCause held (run ∷ runs) before now fault
read_cause held run runs index before between now Device l e c = subst (λ (x : ℕ). Rose x now) e c
read_cause held run runs index before between now (BadCell number) l e c = inl (record { index = index; within = l; bad = c })

-- ---- one pull

-- a pull of an object that held these cells before
pub pulled_at : {aim : Aim} {m n : Merger} {i j : ℕ} {result : Result (Option Cell) ReadFault} (held : Held) (one two : State) → one.held ≡ held → Pulls aim (state one m i) (state two n j) result →
    Pulls aim (state (record one { held = held }) m i) (state two n j) result
pulled_at {aim} {m} {n} {i} {j} {result} held one two e p = subst (λ (h : Held). Pulls aim (state (record one { held = h }) m i) (state two n j) result) e p

gave_some : (held : Held) (aim : Aim) (m n : Merger) (given : Option Cell) (c : Cell) → given ≡ Some c → Gives held aim m n (Ok given) → ahead held aim m ≡ as_cell c ∷ ahead held aim n
gave_some held aim m n given c e h = subst (λ (x : Option Cell). Gives held aim m n (Ok x)) e h

gave_none : (held : Held) (aim : Aim) (m n : Merger) (given : Option Cell) → given ≡ None → Gives held aim m n (Ok given) → ahead held aim m ≡ []
gave_none held aim m n given e h = subst (λ (x : Option Cell). Gives held aim m n (Ok x)) e h

-- ---- a merge along a run

parts_same : (x y : LawCell) (xs ys : List LawCell) → x ∷ xs ≡ y ∷ ys → (x ≡ y) × (xs ≡ ys)
parts_same x y xs ys e = (cc, cc)

none_some : (y : LawCell) (ys : List LawCell) → [] ≡ y ∷ ys → ⊥
none_some y ys e = cc

-- the cells of the run up to an index were given
pub record Following (old new : State) (aim : Aim) (run : Run) (m n : Merger) (from to at : ℕ) : Type 0 where
  pub cells_stay : new.held ≡ old.held
  pub heads : HasHeads old.held aim n
  pub follows : AreInOrder old.held aim → IsRunTold old.held run → (rest : List LawCell) →
      (ahead old.held aim m ≡ run_cells old.held run ++ rest) ↔ (ahead old.held aim n ≡ cells (old.held.spots run.level run.slot) at (run.len - at) ++ rest)
  pub ticks : to + fetched aim m ≤ from + (fetched aim n + at)
  pub spends : Spends old.spent new.spent from to
  pub written_is : new.spent.written ≡ old.spent.written
  pub calm : new.spent.faults ≡ old.spent.faults

pub following_none : {aim : Aim} {m : Merger} (run : Run) (object : State) (n : ℕ) → HasHeads object.held aim m → Following object object aim run m m n n 0
following_none {aim} {m} run object n h =
    let z : run.len - 0 ≡ run.len = omega arith in
    record {
      cells_stay = refl;
      heads = h;
      follows = λ t w rest. (
        λ e. e ∙ ap (λ (k : ℕ). cells (object.held.spots run.level run.slot) 0 k ++ rest) (sym z),
        λ e. e ∙ ap (λ (k : ℕ). cells (object.held.spots run.level run.slot) 0 k ++ rest) z,
      );
      ticks = omega arith;
      spends = spends_none object.spent n;
      written_is = refl;
      calm = refl;
    }

next_cells : (spots : ℕ → Spot) (at len : ℕ) → at < len → cells spots at (len - at) ≡ cell_at (spots at) ∷ cells spots (at + 1) (len - (at + 1))
next_cells spots at len l =
    ap (λ (k : ℕ). cells spots at k) (let e : len - at ≡ suc (len - suc at) = omega (arith, l) in e)
    ∙ ap (λ (k : ℕ). cell_at (spots at) ∷ cells spots k (len - k)) (let e : suc at ≡ at + 1 = omega arith in e)

module _ {old one : State} (two : State) {aim : Aim} {run : Run} {m n o : Merger} {i j k at : ℕ} (f : Following old one aim run m n i j at) where
  -- a head was not read
  pub pull_stops : (result : Result Bool ReadFault) (fault : ReadFault) → result ≡ Err fault → at < run.len → Pulls aim (state one n j) (state two o k) (Err fault) → Followed old two aim run m o i k result
  pull_stops result fault e l q = let p = pulled_at old.held one two f.cells_stay q in subst (λ (x : Result Bool ReadFault). Followed old two aim run m o i k x) (sym e) (record {
    follows = λ t w. tt;
    heads = p.heads;
    ticks = omega (arith, f.ticks, p.ticks.0, p.ticks.1, l);
    spends = spends_then f.spends p.spends;
    written_is = p.written ∙ f.written_is;
    cause = cause_among old.held (runs_of_aim aim) (run ∷ runs_of_aim aim) old.spent.faults two.spent.faults fault (λ number b. inr b) (pull_cause old.held aim old.spent.faults one.spent.faults two.spent o k fault f.calm p.cause);
  })

  -- the merge has no more cells
  pub pull_ends : (given : Option Cell) → given ≡ None → at < run.len → Pulls aim (state one n j) (state two o k) (Ok given) → Followed old two aim run m o i k (Ok false)
  pull_ends given e l q = let p = pulled_at old.held one two f.cells_stay q in record {
    follows = λ t w rest g. none_some _ _ (sym (gave_none old.held aim n o given e (p.gives t)) ∙ (f.follows t w rest).0 g ∙ ap (λ (xs : List LawCell). xs ++ rest) (next_cells (old.held.spots run.level run.slot) at run.len l));
    heads = p.heads;
    ticks = omega (arith, f.ticks, p.ticks, l);
    spends = spends_then f.spends p.spends;
    written_is = p.written ∙ f.written_is;
    cause = tt;
  }

module _ {old one : State} (two : State) {aim : Aim} {run : Run} {m n o : Merger} {i j k at : ℕ} (f : Following old one aim run m n i j at) (given : Option Cell)
    (q : Pulls aim (state one n j) (state two o k) (Ok given)) where
  p : Pulls aim (state (record one { held = old.held }) n j) (state two o k) (Ok given)
  p = pulled_at old.held one two f.cells_stay q

  same : two.held ≡ old.held
  same = q.cells_stay ∙ f.cells_stay

  module _ {new : State} {l : ℕ} {buffer : Buffer} (below : at < run.len) (tick : l ≡ k + 1) where
    spends : {result : Result Cell ReadFault} → Reads two new buffer run.level run.slot at result → Spends old.spent new.spent i l
    spends r = spends_then f.spends (spends_then p.spends (read_spends r tick))

    -- the cell of the run was not read
    pub read_stops : (result : Result Bool ReadFault) (fault : ReadFault) → result ≡ Err fault → Reads two new buffer run.level run.slot at (Err fault) → Followed old new aim run m o i l result
    read_stops result fault e r = subst (λ (x : Result Bool ReadFault). Followed old new aim run m o i l x) (sym e) (record {
      follows = λ t w. tt;
      heads = p.heads;
      ticks = omega (arith, f.ticks, p.ticks, all_read p.heads, below, tick);
      spends = spends r;
      written_is = r.written_is ∙ p.written ∙ f.written_is;
      cause = read_cause old.held run (runs_of_aim aim) at old.spent.faults two.spent.faults new.spent.faults fault below (p.calm ∙ f.calm) (subst (λ (x : Held). ReadAnswers x two.spent.faults new.spent.faults run.level run.slot at (Err fault)) same r.answer);
    })

    module _ (gave read : Cell) (is : given ≡ Some gave) (r : Reads two new buffer run.level run.slot at (Ok read)) where
      first : AreInOrder old.held aim → ahead old.held aim n ≡ as_cell gave ∷ ahead old.held aim o
      first t = gave_some old.held aim n o given gave is (p.gives t)

      second : IsRunTold old.held run → cell_at (old.held.spots run.level run.slot at) ≡ as_cell read
      second w = given_is_told (old.held.spots run.level run.slot at) (cell_at (old.held.spots run.level run.slot at)) (as_cell read) (w at below)
          (subst (λ (x : Held). Tells (x.spots run.level run.slot at) (Told (as_cell read))) same r.answer.told)

      shown : IsRunTold old.held run → (rest : List LawCell) → cells (old.held.spots run.level run.slot) at (run.len - at) ++ rest ≡ as_cell read ∷ (cells (old.held.spots run.level run.slot) (at + 1) (run.len - (at + 1)) ++ rest)
      shown w rest = ap (λ (xs : List LawCell). xs ++ rest) (next_cells (old.held.spots run.level run.slot) at run.len below)
          ∙ ap (λ (x : LawCell). x ∷ (cells (old.held.spots run.level run.slot) (at + 1) (run.len - (at + 1)) ++ rest)) (second w)

      -- another cell was given
      pub cells_differ : (as_cell gave ≡ as_cell read → ⊥) → Followed old new aim run m o i l (Ok false)
      cells_differ differ = record {
        follows = λ t w rest g. differ (parts_same _ _ _ _ (sym (first t) ∙ (f.follows t w rest).0 g ∙ shown w rest)).0;
        heads = p.heads;
        ticks = omega (arith, f.ticks, p.ticks, below, tick);
        spends = spends r;
        written_is = r.written_is ∙ p.written ∙ f.written_is;
        cause = tt;
      }

      -- the same cell was
      pub follows_on : as_cell gave ≡ as_cell read → Following old new aim run m o i l (at + 1)
      follows_on e = record {
        cells_stay = r.cells_stay ∙ same;
        heads = p.heads;
        follows = λ t w rest. (
          λ g. (parts_same _ _ _ _ (sym (first t) ∙ (f.follows t w rest).0 g ∙ shown w rest)).1,
          λ g. (f.follows t w rest).1 (first t ∙ ap (λ (xs : List LawCell). as_cell gave ∷ xs) g ∙ ap (λ (x : LawCell). x ∷ (cells (old.held.spots run.level run.slot) (at + 1) (run.len - (at + 1)) ++ rest)) e ∙ sym (shown w rest)),
        );
        ticks = omega (arith, f.ticks, p.ticks, tick);
        spends = spends r;
        written_is = r.written_is ∙ p.written ∙ f.written_is;
        calm = r.calm ∙ p.calm ∙ f.calm;
      }

-- the run was followed to its end
pub follows_all : {old new : State} {aim : Aim} {run : Run} {m n : Merger} {i j at : ℕ} → Following old new aim run m n i j at → at ≡ run.len → Followed old new aim run m n i j (Ok true)
follows_all {old} {new} {aim} {run} {m} {n} {i} {j} {at} f e = record {
  follows = λ t w. (f.follows t w (ahead old.held aim n)).1 (ap (λ (k : ℕ). cells (old.held.spots run.level run.slot) at k ++ ahead old.held aim n) (let z : 0 ≡ run.len - at = omega (arith, e) in z));
  heads = f.heads;
  ticks = omega (arith, f.ticks, e);
  spends = f.spends;
  written_is = f.written_is;
  cause = tt;
}

-- ---- the answer of a comparison

pub differ_by : {P : Type 0} (b : Bool) → (IsTrue b ↔ P) → b ≡ false → P → ⊥
differ_by b h e p = true≢false (sym (h.1 p) ∙ e)

-- ---- two merges side by side

-- the same cells were given by both
pub record Comparing (old new : State) (aim : Aim) (first one second two : Merger) (from to : ℕ) : Type 0 where
  pub cells_stay : new.held ≡ old.held
  pub one_heads : HasHeads old.held aim one
  pub two_heads : HasHeads old.held aim two
  pub same : AreInOrder old.held aim → (ahead old.held aim first ≡ ahead old.held aim second) ↔ (ahead old.held aim one ≡ ahead old.held aim two)
  pub ticks : to + fetched aim first + fetched aim second ≤ from + (fetched aim one + fetched aim two)
  pub spends : Spends old.spent new.spent from to
  pub written_is : new.spent.written ≡ old.spent.written
  pub calm : new.spent.faults ≡ old.spent.faults

pub comparing_none : {aim : Aim} {first second : Merger} (object : State) (n : ℕ) → HasHeads object.held aim first → HasHeads object.held aim second → Comparing object object aim first first second second n n
comparing_none object n h k = record {
  cells_stay = refl;
  one_heads = h;
  two_heads = k;
  same = λ t. (λ e. e, λ e. e);
  ticks = omega arith;
  spends = spends_none object.spent n;
  written_is = refl;
  calm = refl;
}

-- an answer by its opposite
turned : (answer other : Bool) → not other ≡ not answer → answer ≡ other
turned true true e = refl
turned false false e = refl
turned _ _ e = cc

-- what a merge that reads by the other readers spends, the object does
object-spends : (old new : State) {from to : ℕ} → Spends (by_others old).spent (by_others new).spent from to → Spends old.spent new.spent from to
object-spends old new s = record {
  steps_stay = s.steps_stay;
  ticked_is = s.ticked_is;
  turned_stays = s.turned_stays;
  written_stays = s.written_stays;
  transfers = s.transfers;
  faults_stay = s.faults_stay;
}

module _ {old one : State} (two : State) {aim : Aim} {f0 f g s0 s : Merger} {i j k : ℕ} (h : Comparing old one aim f0 f s0 s i j) where
  -- the first merge was refused
  pub first_stops : (result : Result Bool ReadFault) (fault : ReadFault) → result ≡ Err fault → Pulls aim (state one f j) (state two g k) (Err fault) → Compared old two aim f0 s0 i k result
  first_stops result fault e r = let p = pulled_at old.held one two h.cells_stay r in subst (λ (x : Result Bool ReadFault). Compared old two aim f0 s0 i k x) (sym e) (record {
    same = λ t. tt;
    ticks = omega (arith, h.ticks, p.ticks.0, p.ticks.1, all_read h.two_heads);
    spends = spends_then h.spends p.spends;
    written_is = p.written ∙ h.written_is;
    cause = pull_cause old.held aim old.spent.faults one.spent.faults two.spent g k fault h.calm p.cause;
  })

  module _ (given : Option Cell) (first : Pulls aim (state one f j) (state two g k) (Ok given)) where
    given_first : Pulls aim (state (record one { held = old.held }) f j) (state two g k) (Ok given)
    given_first = pulled_at old.held one two h.cells_stay first

    same_cells : two.held ≡ old.held
    same_cells = first.cells_stay ∙ h.cells_stay

    module _ (new : State) {o : Merger} {l : ℕ} where
      -- the second was
      pub second_stops : (result : Result Bool ReadFault) (fault : ReadFault) → result ≡ Err fault → Pulls aim (state (by_others two) s k) (state (by_others new) o l) (Err fault) → Compared old new aim f0 s0 i l result
      second_stops result fault e r = let q = pulled_at old.held (by_others two) (by_others new) same_cells r in subst (λ (x : Result Bool ReadFault). Compared old new aim f0 s0 i l x) (sym e) (record {
        same = λ t. tt;
        ticks = omega (arith, h.ticks, given_first.ticks, q.ticks.0, q.ticks.1, all_read given_first.heads);
        spends = spends_then h.spends (spends_then given_first.spends (object-spends two new q.spends));
        written_is = q.written ∙ given_first.written ∙ h.written_is;
        cause = pull_cause old.held aim old.spent.faults two.spent.faults (by_others new).spent o l fault (given_first.calm ∙ h.calm) q.cause;
      })

      module _ (other : Option Cell) (second : Pulls aim (state (by_others two) s k) (state (by_others new) o l) (Ok other)) where
        q : Pulls aim (state (record (by_others two) { held = old.held }) s k) (state (by_others new) o l) (Ok other)
        q = pulled_at old.held (by_others two) (by_others new) same_cells second

        -- both answered
        answered : (answer : Bool) → (AreInOrder old.held aim → IsTrue answer ↔ (ahead old.held aim f0 ≡ ahead old.held aim s0)) → Compared old new aim f0 s0 i l (Ok answer)
        answered answer same = record {
          same = same;
          ticks = omega (arith, h.ticks, given_first.ticks, q.ticks, all_read given_first.heads, all_read q.heads);
          spends = spends_then h.spends (spends_then given_first.spends (object-spends two new q.spends));
          written_is = q.written ∙ given_first.written ∙ h.written_is;
          cause = tt;
        }

        -- the second has no more cells
        pub second_ends : (gave : Cell) → given ≡ Some gave → other ≡ None → Compared old new aim f0 s0 i l (Ok false)
        second_ends gave e n = answered false (λ t. (
          λ no. absurd (true≢false (sym no)),
          λ x. absurd (none_some _ _ (sym (gave_none old.held aim s o other n (q.gives t)) ∙ sym ((h.same t).0 x) ∙ gave_some old.held aim f g given gave e (given_first.gives t))),
        ))

        -- they gave two cells
        pub both_differ : (gave read : Cell) → given ≡ Some gave → other ≡ Some read → (as_cell gave ≡ as_cell read → ⊥) → Compared old new aim f0 s0 i l (Ok false)
        both_differ gave read e n differ = answered false (λ t. (
          λ no. absurd (true≢false (sym no)),
          λ x. absurd (differ (parts_same _ _ _ _ (sym (gave_some old.held aim f g given gave e (given_first.gives t)) ∙ (h.same t).0 x ∙ gave_some old.held aim s o other read n (q.gives t))).0),
        ))

        -- they gave the same cell
        pub compares_on : (gave read : Cell) → given ≡ Some gave → other ≡ Some read → as_cell gave ≡ as_cell read → Comparing old new aim f0 g s0 o i l
        compares_on gave read e n is = record {
          cells_stay = second.cells_stay ∙ same_cells;
          one_heads = given_first.heads;
          two_heads = q.heads;
          same = λ t. (
            λ x. (parts_same _ _ _ _ (sym (gave_some old.held aim f g given gave e (given_first.gives t)) ∙ (h.same t).0 x ∙ gave_some old.held aim s o other read n (q.gives t))).1,
            λ x. (h.same t).1 (gave_some old.held aim f g given gave e (given_first.gives t) ∙ ap (λ (xs : List LawCell). as_cell gave ∷ xs) x ∙ ap (λ (y : LawCell). y ∷ ahead old.held aim o) is
                ∙ sym (gave_some old.held aim s o other read n (q.gives t))),
          );
          ticks = omega (arith, h.ticks, given_first.ticks, q.ticks);
          spends = spends_then h.spends (spends_then given_first.spends (object-spends two new q.spends));
          written_is = q.written ∙ given_first.written ∙ h.written_is;
          calm = q.calm ∙ given_first.calm ∙ h.calm;
        }

      -- the first has no more cells: the second must have none
      pub first_ends : (other : Option Cell) (second : Pulls aim (state (by_others two) s k) (state (by_others new) o l) (Ok other)) (answer : Bool) → given ≡ None → is_some other ≡ not answer → Compared old new aim f0 s0 i l (Ok answer)
      first_ends None second answer e n = answered None second answer (λ t. (
        λ _. (h.same t).1 (gave_none old.held aim f g given e (given_first.gives t) ∙ sym ((q None second).gives t)),
        λ _. turned answer true n,
      ))
      first_ends (Some read) second answer e n = answered (Some read) second answer (λ t. (
        λ yes. absurd (true≢false (sym yes ∙ turned answer false n)),
        λ x. absurd (none_some _ _ (sym (gave_none old.held aim f g given e (given_first.gives t)) ∙ (h.same t).0 x ∙ (q (Some read) second).gives t)),
      ))

-- a given cell leaves fewer source cells
pub fewer_given : {held : Held} {aim : Aim} (one two : State) (m : Merger) {n : Merger} {i j : ℕ} (given : Option Cell) (c : Cell) → given ≡ Some c → one.held ≡ held → Pulls aim (state one m i) (state two n j) (Ok given) →
    feed_len aim.own + feed_len aim.incoming + feed_len aim.sample - consumed n < feed_len aim.own + feed_len aim.incoming + feed_len aim.sample - consumed m
fewer_given {held} {aim} one two m {n} given c e stays q =
    let p = pulled_at held one two stays q in
    fewer_left m p.heads (let l : consumed m + 1 ≤ consumed n = subst (λ (x : Option Cell). consumed m + given_cells (Ok x) ≤ consumed n) e p.consumes in omega (arith, l))

-- ---- where a merge begins

module _ {held : Held} {aim : Aim} {cursors : Cursors} {shadow : Run} (f : CutFits held aim cursors shadow) where
  heads_from : (from : Cursors) → from.own ≤ feed_len aim.own → from.incoming ≤ feed_len aim.incoming → from.sample ≤ feed_len aim.sample → HasHeads held aim (resumed from)
  heads_from from own incoming sample = record {
    own_feed = f.own;
    incoming_feed = f.incoming;
    sample_feed = f.sample;
    own = record { within = own; cell = tt };
    incoming = record { within = incoming; cell = tt };
    sample = record { within = sample; cell = tt };
  }

  pub heads_at : HasHeads held aim (resumed cursors)
  heads_at = heads_from cursors f.own_within f.incoming_within f.sample_within

  pub heads_fresh : HasHeads held aim fresh
  heads_fresh = heads_from (record { own = 0; incoming = 0; sample = 0 }) (omega arith) (omega arith) (omega arith)

-- ---- the answer

module _ {held : Held} {aim : Aim} {cursors : Cursors} {shadow : Run} (f : CutFits held aim cursors shadow) (t : AreInOrder held aim) where
  as_ahead : (run_cells held shadow ++ ahead held aim (resumed cursors) ≡ whole_run held aim) ↔ CutsAfter held aim cursors (run_cells held shadow)
  as_ahead = cut_is_ahead held aim (resumed cursors) (run_cells held shadow) t f.sample_within

  -- the whole run does not begin with the shadow
  begins_otherwise : ((rest : List LawCell) → ahead held aim fresh ≡ run_cells held shadow ++ rest → ⊥) → CutsAfter held aim cursors (run_cells held shadow) → ⊥
  begins_otherwise h c = h (ahead held aim (resumed cursors)) (ahead-fresh held aim ∙ sym (as_ahead.1 c))

  -- it does, and what follows is told by what is ahead
  goes_on_as : (n : Merger) (answer : Bool) → ahead held aim fresh ≡ run_cells held shadow ++ ahead held aim n → (IsTrue answer ↔ (ahead held aim n ≡ ahead held aim (resumed cursors))) →
      IsTrue answer ↔ CutsAfter held aim cursors (run_cells held shadow)
  goes_on_as n answer e h = (
    λ yes. as_ahead.0 (ap (λ (xs : List LawCell). run_cells held shadow ++ xs) (sym (h.0 yes)) ∙ sym e ∙ ahead-fresh held aim),
    λ c. h.1 (append_cancel_left (run_cells held shadow) (ahead held aim n) (ahead held aim (resumed cursors)) (sym e ∙ ahead-fresh held aim ∙ sym (as_ahead.1 c))),
  )

-- ---- causes and costs

costs_of : {a b : Spent} {i j n : ℕ} → Spends a b i j → b.written ≡ a.written → j ≤ i + n → Costs a b i j n n
costs_of {a} {b} {i} {j} {n} s w l = record {
  steps_stay = s.steps_stay;
  steps_rise = l;
  ticked_is = s.ticked_is;
  turned_stays = s.turned_stays;
  turned_rises = omega (arith, s.transfers, w, l);
  written_is = w;
  faults_stay = s.faults_stay;
}

-- a pass of a merge that begins
pub from_fresh : {aim : Aim} {run : Run} {old new : State} {m n : Merger} {i j : ℕ} {answer : Bool} (result : Bool) → m ≡ fresh → answer ≡ result → Followed old new aim run m n i j (Ok answer) →
    Followed old new aim run fresh n i j (Ok result)
from_fresh {aim} {run} {old} {new} {m} {n} {i} {j} {answer} result e f p =
    subst (λ (x : Bool). Followed old new aim run fresh n i j (Ok x)) f (subst (λ (x : Merger). Followed old new aim run x n i j (Ok answer)) e p)

-- a pass of a merge that was resumed, where the object keeps its cells
pub from_cursors : {aim : Aim} {one new : State} {n o : Merger} {j k : ℕ} {result : Result Bool ReadFault} (held : Held) (cursors : Cursors) → one.held ≡ held → o ≡ resumed cursors → Compared one new aim n o j k result →
    Compared (record one { held = held }) new aim n (resumed cursors) j k result
from_cursors {aim} {one} {new} {n} {o} {j} {k} {result} held cursors e f p =
    subst (λ (x : Merger). Compared (record one { held = held }) new aim n x j k result) f (subst (λ (x : Held). Compared (record one { held = x }) new aim n o j k result) e p)

-- what the test says, from its two passes
pub record Tested (old new : State) (aim : Aim) (cursors : Cursors) (shadow : Run) (from to : ℕ) (result : Result Bool ReadFault) : Type 0 where
  pub cut : AreInOrder old.held aim → IsRunTold old.held shadow → IfOk result (λ cut. IsTrue cut ↔ CutsAfter old.held aim cursors (run_cells old.held shadow))
  pub reads : ReadsRuns old new from to (shadow ∷ runs_of_aim aim) (2 * cells_read aim + shadow.len) result

module _ {old one : State} {aim : Aim} {cursors : Cursors} {shadow : Run} {n : Merger} {i j : ℕ} (f : CutFits old.held aim cursors shadow) where
  -- the first pass was refused
  pub first_fails : (result : Result Bool ReadFault) (fault : ReadFault) → result ≡ Err fault → {m : Merger} → Followed old one aim shadow m n i j (Err fault) → Tested old one aim cursors shadow i j result
  first_fails result fault e p = subst (λ (x : Result Bool ReadFault). Tested old one aim cursors shadow i j x) (sym e) (record {
    cut = λ t w. tt;
    reads = record { cause = p.cause; cost = costs_of p.spends p.written_is (let l = p.ticks in omega (arith, l)) };
  })

  -- the shadow is no beginning of the whole run
  pub first_differs : Followed old one aim shadow fresh n i j (Ok false) → Tested old one aim cursors shadow i j (Ok false)
  first_differs p = record {
    cut = λ t w. (λ no. absurd (true≢false (sym no)), λ c. absurd (begins_otherwise f t (p.follows t w) c));
    reads = record { cause = tt; cost = costs_of p.spends p.written_is (let l = p.ticks in let r = all_read p.heads in omega (arith, l, r)) };
  }

  -- the second pass told
  module _ {new : State} {k : ℕ} (p : Followed old one aim shadow fresh n i j (Ok true)) where
    costs_both : {result : Result Bool ReadFault} → Compared (record one { held = old.held }) new aim n (resumed cursors) j k result → Costs old.spent new.spent i k (2 * cells_read aim + shadow.len) (2 * cells_read aim + shadow.len)
    costs_both q = costs_of (spends_then p.spends q.spends) (q.written_is ∙ p.written_is)
        (omega (arith, p.ticks, q.ticks))

    pub second_tells : one.spent.faults ≡ old.spent.faults → (result : Result Bool ReadFault) → Compared (record one { held = old.held }) new aim n (resumed cursors) j k result → Tested old new aim cursors shadow i k result
    second_tells calm (Ok answer) q = record {
      cut = λ t w. goes_on_as f t n answer (p.follows t w) (q.same t);
      reads = record { cause = tt; cost = costs_both q };
    }
    second_tells calm (Err fault) q = record {
      cut = λ t w. tt;
      reads = record {
        cause = cause_among old.held (runs_of_aim aim) (shadow ∷ runs_of_aim aim) old.spent.faults new.spent.faults fault (λ number b. inr b) (subst (λ (x : ℕ). PassCause old.held (runs_of_aim aim) x new.spent.faults fault) calm q.cause);
        cost = costs_both q;
      };
    }
