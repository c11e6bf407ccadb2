-- The search of a list of runs, run by run.
use Rattle.std.proofs.Common.{◌≡◌, ◌≢◌, ◌⊎◌, inl, inr, ℕ, zero, suc, ◌+◌, ◌*◌, ◌%◌, ◌≤◌, ◌<◌, Bool, true, false, if◌then◌else◌, ◌==◌, List, [], ◌∷◌, length, drop, Option, None, Some, Result, Ok, Err, IfErr, get_or, refl, sym, ap, subst, ◌∙◌, arith}
use Rattle.std.specs.Option.{option_map, option_or, is_some}
use Rattle.std.proofs.Math.Seq.{drop-cons}
use Rattle.std.proofs.lemmas.List.Elements.{Contains-get_or}
use Rattle.cola_outside.specs.Faults.{Rose}
use Rattle.std.specs.Cmp.Lexicographic.{nat_list_cmp_total}
use Rattle.cola_runs.specs.Cells.{Item, Entry, Look, IsLinked}
use Rattle.cola_runs.specs.Seen.{answer}
use Rattle.cola_runs.specs.Search as laws
use Rattle.cola_runs.proofs.Searches.{Begins, finds_answer}
use Rattle.cola_cell.specs.declared.cell.Run.{Run}
use Rattle.cola_cell.specs.declared.cell.Item.{Item as CellItem}
use Rattle.cola_cell.specs.declared.fault.ReadFault.{ReadFault}
use Rattle.cola_cell.specs.declared.fault.ReadFault.TheVariants.{Device, BadCell}
use Rattle.cola_cell.specs.Held.{Held, LawCell, Stamped, as_item}
use Rattle.cola_cell.specs.Spent.{Buffer, Search}
use Rattle.cola_cell.specs.State.{State}
use Rattle.cola_cell.specs.Listed.{IsRun}
use Rattle.cola_cell.specs.Costs.{Costs}
use Rattle.cola_cell.proofs.CostsLemmas.{costs_none, costs_then, costs_within}
use Rattle.cola_look.specs.declared.seeking.Seat.{Seat}
use Rattle.cola_cell.specs.Order.{key_cmp}
use Rattle.cola_look.specs.Outcome.{Outcome, Found, BadAt, Open, and_then, Answers}
use Rattle.cola_look.specs.Runs.{AreRuns, BeginsNear}
use Rattle.cola_look.specs.Seek.{found_in, as_seat, SeekCause, turns_from}
use Rattle.cola_look.specs.Seeks.{Seeks}
use Rattle.cola_look.proofs.SeekLemmas.{found_is_seek, GoesOn, answers_whole, device_answers}
use Rattle.cola_search.specs.Finds.{Finds}
use Rattle.cola_search.specs.Find.{length_of_first, item_or, found_in_runs, FindCause}

-- ---- what is told of the runs decides the search

item_or_is : (hit below : Option (Item Stamped)) → item_or hit (Found below) ≡ Found (option_or hit below)
item_or_is None below = refl
item_or_is (Some item) below = refl

first_length : (held : Held) (runs : List Run) (lists : List (List LawCell)) → AreRuns held runs lists → length_of_first runs ≡ laws.first_len lists
first_length held [] [] h = refl
first_length held [] (cells ∷ lists) h = absurd h
first_length held (run ∷ runs) [] h = absurd h
first_length held (run ∷ runs) (cells ∷ lists) h = h.0.length_is

-- the search of runs that are told is the laws' search of their lists
found_is_find : (held : Held) (key : List ℕ) (start : ℕ) (runs : List Run) (lists : List (List LawCell)) → AreRuns held runs lists →
    found_in_runs held key start runs ≡ Found (laws.find key_cmp key start lists)
found_is_find held key start [] [] h = refl
found_is_find held key start [] (cells ∷ lists) h = absurd h
found_is_find held key start (run ∷ runs) [] h = absurd h
found_is_find held key start (run ∷ runs) (cells ∷ lists) h =
    let seat : laws.Seat Stamped = laws.seek key_cmp key start cells (laws.first_len lists) in
    let next : laws.Seat Stamped → Outcome (Option (Item Stamped)) = λ x. item_or x.hit (found_in_runs held key x.link runs) in
    ap (λ n. and_then (found_in held run n start key) next) (first_length held runs lists h.1)
    ∙ ap (λ o. and_then o next) (found_is_seek held run (laws.first_len lists) key start cells h.0)
    ∙ ap (item_or seat.hit) (found_is_find held key seat.link runs lists h.1)
    ∙ item_or_is seat.hit (laws.find key_cmp key seat.link lists)

begins_near : (key : List ℕ) (lists : List (List LawCell)) → BeginsNear key lists → Begins nat_list_cmp_total key 0 lists
begins_near key [] b = tt
begins_near key (cells ∷ lists) b = (omega arith, omega arith)

module _ (held : Held) (key : List ℕ) (runs : List Run) (result : Result (Option CellItem) ReadFault) where
  -- an answer, where the runs are told
  pub answers_told : Answers (found_in_runs held key 0 runs) (option_map as_item) result → (lists : List (List LawCell)) → AreRuns held runs lists →
      Answers (Found (laws.find key_cmp key 0 lists)) (option_map as_item) result
  answers_told h lists r = let E : Outcome (Option (Item Stamped)) → Type 0 = λ x. Answers x (option_map as_item) result in subst E (found_is_find held key 0 runs lists r) h

  -- and where they are sampled
  pub answers_right : Answers (found_in_runs held key 0 runs) (option_map as_item) result → (lists : List (List LawCell)) → AreRuns held runs lists → laws.AreSampled key_cmp lists →
      BeginsNear key lists → Answers (Found (answer key_cmp key lists)) (option_map as_item) result
  answers_right h lists r a b =
      let E : Option (Item Stamped) → Type 0 = λ x. Answers (Found x) (option_map as_item) result in
      subst E (finds_answer nat_list_cmp_total key 0 lists a (begins_near key lists b)) (answers_told h lists r)

-- ---- one run of the list

-- an accepted answer is what is told, where that is told
answer_is : {A T : Type 0} (whole : Outcome A) (view : T → A) (t : T) → Answers whole view (Ok t) → (whole ≡ Open) ⊎ (whole ≡ Found (view t))
answer_is Open view t h = inl refl
answer_is (Found a) view t h = inr (ap Found (sym h))
answer_is (BadAt n) view t h = absurd h

module _ (held : Held) (key : List ℕ) (start : ℕ) (run : Run) (runs : List Run) where
  -- what follows from the search of the first run
  abbrev next_of : laws.Seat Stamped → Outcome (Option (Item Stamped))
  next_of seat = item_or seat.hit (found_in_runs held key seat.link runs)

  -- no item in the first run: the search goes on in those below
  pub misses : (seat : Seat) → Answers (found_in held run (length_of_first runs) start key) as_seat (Ok seat) → seat.hit ≡ None →
      GoesOn (found_in_runs held key start (run ∷ runs)) (found_in_runs held key seat.link runs)
  misses seat h e = elim (answer_is (found_in held run (length_of_first runs) start key) as_seat seat h) [
    | inl f ↦ inl (ap (λ o. and_then o next_of) f)
    | inr f ↦ inr (ap (λ o. and_then o next_of) f ∙ ap (λ x. item_or (option_map as_item x) (found_in_runs held key seat.link runs)) e)
  ]

  -- an item in the first run is the answer
  pub hits : (seat : Seat) → Answers (found_in held run (length_of_first runs) start key) as_seat (Ok seat) → seat.hit ≢ None →
      Answers (found_in_runs held key start (run ∷ runs)) (option_map as_item) (Ok seat.hit)
  hits seat h d =
      let E : Outcome (Option (Item Stamped)) → Type 0 = λ x. Answers x (option_map as_item) (Ok seat.hit) in
      elim (answer_is (found_in held run (length_of_first runs) start key) as_seat seat h) [
        | inl f ↦ subst E (sym (ap (λ o. and_then o next_of) f)) tt
        | inr f ↦ subst E (sym (ap (λ o. and_then o next_of) f)) (by_hit seat.hit d)
      ]
    where
      by_hit : (hit : Option CellItem) → hit ≢ None → Answers (item_or (option_map as_item hit) (found_in_runs held key seat.link runs)) (option_map as_item) (Ok hit)
      by_hit None d = absurd (d refl)
      by_hit (Some item) d = refl

  -- a refusal in the first run is one of them all
  pub refuses : (fault : ReadFault) → Answers (found_in held run (length_of_first runs) start key) as_seat (Err fault) →
      Answers (found_in_runs held key start (run ∷ runs)) (option_map as_item) (Err fault)
  refuses Device h = device_answers (found_in_runs held key start (run ∷ runs)) (option_map as_item)
  refuses (BadCell number) h = by_outcome (found_in held run (length_of_first runs) start key) h
    where
      by_outcome : (whole : Outcome (laws.Seat Stamped)) → Answers whole as_seat (Err (BadCell number)) → Answers (and_then whole next_of) (option_map as_item) (Err (BadCell number))
      by_outcome Open h = tt
      by_outcome (Found seat) h = absurd h
      by_outcome (BadAt n) h = h

-- ---- links are whole eights in linked runs

linked_eights : (n : ℕ) (cells : List LawCell) (next_len i : ℕ) → IsLinked n cells → laws.link_at cells next_len i % 8 ≡ 0
linked_eights n [] next_len i h = omega arith
linked_eights n (Entry k item y l ∷ cells) next_len zero h = let e : l ≡ 8 * n = h.0 in omega arith
linked_eights n (Look k l ∷ cells) next_len zero h = let e : l ≡ 8 * n = h.0 in omega arith
linked_eights n (Entry k item y l ∷ cells) next_len (suc i) h = linked_eights n cells next_len i h.1
linked_eights n (Look k l ∷ cells) next_len (suc i) h = linked_eights (suc n) cells next_len i h.1

-- the run of a number, told and linked
record LinkedRun (held : Held) (run : Run) : Type 0 where
  cells : List LawCell
  is_run : IsRun held run cells
  linked : IsLinked 0 cells

linked_run : (held : Held) (runs : List Run) (lists : List (List LawCell)) (i : ℕ) (d : Run) → AreRuns held runs lists → laws.AreSampled key_cmp lists → i < length runs → LinkedRun held (get_or runs i d)
linked_run held [] lists i d h a l = absurd (omega arith)
linked_run held (run ∷ runs) [] i d h a l = absurd h
linked_run held (run ∷ runs) (cells ∷ lists) zero d h a l = record { cells = cells; is_run = h.0; linked = a.0.linked }
linked_run held (run ∷ runs) (cells ∷ lists) (suc i) d h a l = linked_run held runs lists i d h.1 a.2 (omega arith)

-- so the link that the search of such a run finds is a whole eight
link_is_eight : (held : Held) (run : Run) (next_len start : ℕ) (key : List ℕ) (seat : Seat) → LinkedRun held run → Answers (found_in held run next_len start key) as_seat (Ok seat) → seat.link % 8 ≡ 0
link_is_eight held run next_len start key seat r h =
    let E : Outcome (laws.Seat Stamped) → Type 0 = λ x. Answers x as_seat (Ok seat) in
    let e : as_seat seat ≡ laws.seek key_cmp key start r.cells next_len = subst E (found_is_seek held run next_len key start r.cells r.is_run) h in
    let l : seat.link ≡ laws.link_at r.cells next_len (laws.stop key_cmp key start r.cells) = ap (λ (x : laws.Seat Stamped). x.link) e in
    let z = linked_eights 0 r.cells next_len (laws.stop key_cmp key start r.cells) r.linked in
    omega arith

one_turn : (start : ℕ) → start % 8 ≡ 0 → turns_from start ≡ 1
one_turn start e = rw e refl

-- ---- whether there is an item

pub hit_none : {A : Type 0} (hit : Option A) (b : Bool) → b ≡ is_some hit → b ≡ false → hit ≡ None
hit_none None b e f = refl
hit_none (Some a) b e f = cc

pub hit_some : {A : Type 0} (hit : Option A) (b : Bool) → b ≡ is_some hit → b ≡ true → hit ≢ None
hit_some None b e f = cc
hit_some (Some a) b e f = λ g. cc

-- ---- the search on its way

joined : {A : Type 0} {whole middle rest : Outcome A} → GoesOn whole middle → GoesOn middle rest → GoesOn whole rest
joined (inl e) g = inl e
joined (inr e) (inl f) = inl (e ∙ f)
joined (inr e) (inr f) = inr (e ∙ f)

-- the search stands before the run of a number: what is left decides it, and so many runs were paid for
pub record Finding (runs : List Run) (key : List ℕ) (old now : State) (before after start i : ℕ) : Type 0 where
  pub held_is : now.held ≡ old.held
  pub rest : GoesOn (found_in_runs old.held key 0 runs) (found_in_runs old.held key start (drop i runs))
  pub costs : Costs old.spent now.spent before after (8 * i) (2 * i)
  pub few : (lists : List (List LawCell)) → AreRuns old.held runs lists → laws.AreSampled key_cmp lists → (start % 8 ≡ 0) × (now.spent.turned ≤ old.spent.turned + i)
  pub others : (buffer : Buffer) → buffer ≢ Search → now.spent.lasts buffer ≡ old.spent.lasts buffer

-- it begins
pub finding_begins : (runs : List Run) (key : List ℕ) (state : State) (steps : ℕ) → Finding runs key state state steps steps 0 0
finding_begins runs key state steps = record {
  held_is = refl;
  rest = inr refl;
  costs = costs_within (costs_none state.spent steps) (omega arith) (omega arith);
  few = λ lists r a. (refl, omega arith);
  others = λ buffer d. refl;
}

-- the search of the same list
pub finds_same : {runs list : List Run} {key : List ℕ} {old new : State} {before after : ℕ} {result : Result (Option CellItem) ReadFault} → runs ≡ list →
    Finds runs key old new before after result → Finds list key old new before after result
finds_same {key = key} {old} {new} {before} {after} {result} e f = let E : List Run → Type 0 = λ xs. Finds xs key old new before after result in subst E e f

-- the runs from a number on
left_from : (runs : List Run) (i : ℕ) (d : Run) → i < length runs → drop i runs ≡ get_or runs i d ∷ drop (i + 1) runs
left_from runs i d l = let e : suc i ≡ i + 1 = omega arith in drop-cons runs i d l ∙ ap (λ n. get_or runs i d ∷ drop n runs) e

-- a search of a run, of the cells that stood at first
seeks_first : (old : State) {mid new : State} {run : Run} {next_len start : ℕ} {key : List ℕ} {before after : ℕ} {result : Result Seat ReadFault} → mid.held ≡ old.held →
    Seeks run next_len start key mid new before after result → Seeks run next_len start key (record { held = old.held; spent = mid.spent }) new before after result
seeks_first old {mid} {new} {run} {next_len} {start} {key} {before} {after} {result} e s =
    let E : Held → Type 0 = λ h. Seeks run next_len start key (record { held = h; spent = mid.spent }) new before after result in subst E e s

-- at most two blocks each
two_at_most : (start : ℕ) → turns_from start ≤ 2
two_at_most start = by_eight (start % 8 == 0)
  where
    by_eight : (b : Bool) → (if b then 1 else 2) ≤ 2
    by_eight true = omega arith
    by_eight false = omega arith

module _ {runs : List Run} {key : List ℕ} {old mid new : State} {before between after start i : ℕ} where
  -- what a search of one more run costs
  paid : {run : Run} {next_len : ℕ} {result : Result Seat ReadFault} → Finding runs key old mid before between start i → Seeks run next_len start key mid new between after result →
      Costs old.spent new.spent before after (8 * (i + 1)) (2 * (i + 1))
  paid f s = let t = two_at_most start in costs_within (costs_then f.costs s.costs) (omega arith) (omega arith)

  -- and which blocks it turns to
  few_turns : {run : Run} {next_len : ℕ} {result : Result Seat ReadFault} → Finding runs key old mid before between start i → Seeks run next_len start key mid new between after result →
      (lists : List (List LawCell)) → AreRuns old.held runs lists → laws.AreSampled key_cmp lists → new.spent.turned ≤ old.spent.turned + (i + 1)
  few_turns f s lists r a =
      let k = f.few lists r a in
      let m : mid.spent.turned ≤ old.spent.turned + i = k.1 in
      let t : new.spent.turned ≤ mid.spent.turned + 1 = subst (λ n. new.spent.turned ≤ mid.spent.turned + n) (one_turn start k.0) s.costs.turned_rises in
      omega arith

  module _ (d : Run) (next_len : ℕ) (f : Finding runs key old mid before between start i) (l : i < length runs) (e : next_len ≡ length_of_first (drop (i + 1) runs)) where
    -- what the search of the run of this number answers, by the runs that are left
    exact_here : {result : Result Seat ReadFault} → Seeks (get_or runs i d) next_len start key mid new between after result →
        Answers (found_in old.held (get_or runs i d) (length_of_first (drop (i + 1) runs)) start key) as_seat result
    exact_here {result} s = subst (λ n. Answers (found_in old.held (get_or runs i d) n start key) as_seat result) e (seeks_first old f.held_is s).exact

    -- the search goes on below a run that has no item of the key
    pub finding_goes_on : (seat : Seat) → new.held ≡ mid.held → Seeks (get_or runs i d) next_len start key mid new between after (Ok seat) → seat.hit ≡ None →
        Finding runs key old new before after seat.link (i + 1)
    finding_goes_on seat stays s none =
        let on : GoesOn (found_in_runs old.held key start (get_or runs i d ∷ drop (i + 1) runs)) (found_in_runs old.held key seat.link (drop (i + 1) runs)) =
        misses old.held key start (get_or runs i d) (drop (i + 1) runs) seat (exact_here s) none in
        record {
          held_is = stays ∙ f.held_is;
          rest = joined f.rest (subst (λ x. GoesOn (found_in_runs old.held key start x) (found_in_runs old.held key seat.link (drop (i + 1) runs))) (sym (left_from runs i d l)) on);
          costs = paid f s;
          few = λ lists r a. (
            link_is_eight old.held (get_or runs i d) next_len start key seat (linked_run old.held runs lists i d r a l) (seeks_first old f.held_is s).exact,
            few_turns f s lists r a,
          );
          others = λ buffer b. s.others_stay buffer b ∙ f.others buffer b;
        }

    -- the answer of the run, where it is that of them all
    ends_here : {answer : Result Seat ReadFault} {result : Result (Option CellItem) ReadFault} → Seeks (get_or runs i d) next_len start key mid new between after answer →
        Answers (found_in_runs old.held key start (get_or runs i d ∷ drop (i + 1) runs)) (option_map as_item) result → IfErr result (FindCause old.held runs old.spent.faults new.spent.faults) →
        Finds runs key old new before after result
    ends_here {answer} {result} s exact cause =
        let whole : Answers (found_in_runs old.held key 0 runs) (option_map as_item) result =
        answers_whole (found_in_runs old.held key 0 runs) (found_in_runs old.held key start (drop i runs)) (option_map as_item) result f.rest
        (subst (λ x. Answers (found_in_runs old.held key start x) (option_map as_item) result) (sym (left_from runs i d l)) exact) in
        record {
          exact = whole;
          told = answers_told old.held key runs result whole;
          right = answers_right old.held key runs result whole;
          cause = cause;
          costs = costs_within (paid f s) (omega arith) (omega arith);
          turns = λ lists r a. (let t = few_turns f s lists r a in omega arith);
          others_stay = λ buffer b. s.others_stay buffer b ∙ f.others buffer b;
        }

    -- an item of the key in a run is the answer
    pub finds_hit : (seat : Seat) → Seeks (get_or runs i d) next_len start key mid new between after (Ok seat) → seat.hit ≢ None → Finds runs key old new before after (Ok seat.hit)
    finds_hit seat s some = ends_here s (hits old.held key start (get_or runs i d) (drop (i + 1) runs) seat (exact_here s) some) tt

    -- a refusal in a run is one of them all
    pub finds_refused : (fault : ReadFault) (result : Result (Option CellItem) ReadFault) → mid.spent.faults ≡ old.spent.faults →
        Seeks (get_or runs i d) next_len start key mid new between after (Err fault) → result ≡ Err fault → Finds runs key old new before after result
    finds_refused fault result calm s is =
        let E : Result (Option CellItem) ReadFault → Type 0 = λ x. Finds runs key old new before after x in
        subst E (sym is) (ends_here s (refuses old.held key start (get_or runs i d) (drop (i + 1) runs) fault (exact_here s))
        (cause_of_run fault (seeks_first old f.held_is s).cause))
      where
        cause_of_run : (fault : ReadFault) → SeekCause old.held (get_or runs i d) start mid.spent.faults new.spent.faults fault → FindCause old.held runs old.spent.faults new.spent.faults fault
        cause_of_run Device k = subst (λ n. Rose n new.spent.faults) calm k
        cause_of_run (BadCell number) k = record { run = get_or runs i d; listed = Contains-get_or runs i d l; index = k.index; within = omega (arith, k.within); bad = k.bad }

-- no run has an item of the key
pub finds_none : {runs : List Run} {key : List ℕ} {old now : State} {before after start i : ℕ} → Finding runs key old now before after start i → i ≡ length runs →
    Finds runs key old now before after (Ok None)
finds_none {runs} {key} {old} {now} {start = start} {i} f e =
    let none : drop i runs ≡ [] = drop_all runs i (omega arith) in
    let whole : Answers (found_in_runs old.held key 0 runs) (option_map as_item) (Ok None) =
    answers_whole (found_in_runs old.held key 0 runs) (found_in_runs old.held key start (drop i runs)) (option_map as_item) (Ok None) f.rest
    (subst (λ x. Answers (found_in_runs old.held key start x) (option_map as_item) (Ok None)) (sym none) refl) in
    record {
      exact = whole;
      told = answers_told old.held key runs (Ok None) whole;
      right = answers_right old.held key runs (Ok None) whole;
      cause = tt;
      costs = costs_within f.costs (omega arith) (omega arith);
      turns = λ lists r a. (let t = (f.few lists r a).1 in omega arith);
      others_stay = f.others;
    }
  where
    drop_all : (runs : List Run) (i : ℕ) → length runs ≤ i → drop i runs ≡ []
    drop_all [] zero h = refl
    drop_all [] (suc i) h = refl
    drop_all (run ∷ runs) zero h = absurd (omega arith)
    drop_all (run ∷ runs) (suc i) h = drop_all runs i (omega arith)
