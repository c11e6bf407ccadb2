-- The search of a run, place by place.
use Rattle.std.proofs.Common.{◌≡◌, ◌≢◌, ◌⊎◌, inl, inr, ℕ, zero, suc, ◌+◌, ◌-◌, ◌*◌, ◌/◌, ◌%◌, ◌==◌, ◌≤◌, ◌<◌, min, true, false, cond, if◌then◌else◌, List, [], ◌∷◌, length, drop, Option, None, Some, Result, Ok, Err, refl, sym, ap, subst, ◌∙◌, arith, Bool, lit<}
use Rattle.std.specs.Ordering.{is_lt}
use Rattle.std.specs.Option.{option_map, option_map_or}
use Rattle.std.specs.List.{slice_get}
use Rattle.std.proofs.lemmas.Option.{slice_get_past}
use Rattle.std.proofs.lemmas.Bool.{eqb-true}
use Rattle.std.specs.Cmp.Lexicographic.{nat_list_cmp_total}
use Rattle.cola_outside.specs.Faults.{Rose}
use Rattle.cola_runs.specs.Cells.{key_of, IsWellFormed}
use Rattle.cola_runs.specs.Search as laws
use Rattle.cola_runs.proofs.Order.{by_bool}
use Rattle.cola_runs.proofs.Searches.{stops_at_place, hit_at_place}
use Rattle.cola_cell.specs.declared.cell.Cell.{Cell}
use Rattle.cola_cell.specs.declared.cell.Run.{Run}
use Rattle.cola_cell.specs.declared.fault.ReadFault.{ReadFault}
use Rattle.cola_cell.specs.declared.fault.ReadFault.TheVariants.{Device, BadCell}
use Rattle.cola_cell.specs.Places.{number_of, Block, block_of}
use Rattle.cola_cell.specs.Cell as parts
use Rattle.cola_cell.specs.Held.{Held, Spot, Untold, Bad, Told, Tells, LawCell, Stamped, as_cell, span}
use Rattle.cola_cell.specs.Spent.{Buffer, Search, Spent, ReadAnswers}
use Rattle.cola_cell.specs.State.{State}
use Rattle.cola_cell.specs.Reads.{Reads}
use Rattle.cola_cell.specs.Listed.{Stands, IsRun}
use Rattle.cola_cell.specs.Costs.{Costs}
use Rattle.cola_cell.proofs.CostsLemmas.{costs_none, costs_read_then, costs_within}
use Rattle.cola_cell.proofs.RunLemmas.{told_same}
use Rattle.cola_look.specs.declared.seeking.Seat.{Seat}
use Rattle.cola_cell.specs.Order.{key_cmp}
use Rattle.cola_look.specs.Outcome.{Outcome, Found, BadAt, Open, Answers}
use Rattle.cola_look.specs.Seek.{first_of, last_of, is_passed, first_stop, seat_at, found_at, found_end, found_from, found_in, seat_of_key, as_seat, SeekCause, turns_from}
use Rattle.cola_look.specs.Seeks.{Seeks}
use Rattle.cola_look.specs.Turns.{groups, turns_left}
use Rattle.cola_look.proofs.KeyLemmas.{key_same}
use Rattle.cola_look.proofs.TurnLemmas.{turn_once, read_turned, read_within, eight_in_block}

-- ---- what is told of a run decides the search

shifted : (i : ℕ) (o : Option ℕ) → option_map (λ k. suc i + k) o ≡ option_map (λ k. i + k) (option_map suc o)
shifted i None = refl
shifted i (Some k) = let e : suc i + k ≡ i + suc k = omega arith in ap Some e

-- the search stops where the laws' search of the list does
stop_is : (spots : ℕ → Spot) (key : List ℕ) (i n most : ℕ) (cells : List LawCell) → Stands spots i cells → n ≡ min most (length cells) →
    first_stop spots key i n ≡ option_map (λ k. i + k) (laws.place_within key_cmp key most cells)
stop_is spots key i zero most [] h e = refl
stop_is spots key i (suc n) most [] h e = absurd (omega arith)
stop_is spots key i zero zero (c ∷ cells) h e = refl
stop_is spots key i (suc n) zero (c ∷ cells) h e = absurd (omega arith)
stop_is spots key i zero (suc most) (c ∷ cells) h e = absurd (omega arith)
stop_is spots key i (suc n) (suc most) (c ∷ cells) h e =
    let rest : first_stop spots key (suc i) n ≡ option_map (λ k. suc i + k) (laws.place_within key_cmp key most cells) = stop_is spots key (suc i) n most cells h.1 (omega arith) in
    ap (λ spot. cond (is_passed key spot) (first_stop spots key (suc i) n) (Some i)) h.0
    ∙ by_bool (λ b. cond b (first_stop spots key (suc i) n) (Some i) ≡ option_map (λ k. i + k) (cond b (option_map suc (laws.place_within key_cmp key most cells)) (Some 0)))
    (rest ∙ shifted i (laws.place_within key_cmp key most cells)) (let z : i ≡ i + 0 = omega arith in ap Some z) (is_lt (key_cmp (key_of c) key))

suc_within : (len k : ℕ) (o : Option ℕ) → ((j : ℕ) → o ≡ Some j → j < len) → option_map suc o ≡ Some k → k < suc len
suc_within len k None h e = cc
suc_within len k (Some j) h e = let a : j < len = h j refl in let b : suc j ≡ k = cc in omega arith

placed : (key : List ℕ) (n : ℕ) (cells : List LawCell) (k : ℕ) → laws.place_within key_cmp key n cells ≡ Some k → k < length cells
placed key n [] k e = cc
placed key zero (c ∷ cells) k e = cc
placed key (suc n) (c ∷ cells) k e =
    by_bool (λ b. cond b (option_map suc (laws.place_within key_cmp key n cells)) (Some 0) ≡ Some k → k < suc (length cells))
    (λ f. suc_within (length cells) k (laws.place_within key_cmp key n cells) (λ j g. placed key n cells j g) f)
    (λ f. let z : 0 ≡ k = cc in omega arith) (is_lt (key_cmp (key_of c) key)) e

-- a cell of the list at its place
record CellAt (spots : ℕ → Spot) (cells : List LawCell) (i k : ℕ) : Type 0 where
  cell : LawCell
  told : spots (i + k) ≡ Told cell
  listed : slice_get cells k ≡ Some cell

cell_at : (spots : ℕ → Spot) (i : ℕ) (cells : List LawCell) (k : ℕ) → Stands spots i cells → k < length cells → CellAt spots cells i k
cell_at spots i [] k h l = absurd (omega arith)
cell_at spots i (c ∷ cells) zero h l = record { cell = c; told = (let e : i ≡ i + 0 = omega arith in subst (λ n. spots n ≡ Told c) e h.0); listed = refl }
cell_at spots i (c ∷ cells) (suc k) h l =
    let r : CellAt spots cells (suc i) k = cell_at spots (suc i) cells k h.1 (omega arith) in
    record { cell = r.cell; told = (let e : suc i + k ≡ i + suc k = omega arith in subst (λ n. spots n ≡ Told r.cell) e r.told); listed = r.listed }

stands_from : (spots : ℕ → Spot) (i k : ℕ) (cells : List LawCell) → k ≤ length cells → Stands spots i cells → Stands spots (i + k) (drop k cells)
stands_from spots i zero cells l h = (let e : i ≡ i + 0 = omega arith in subst (λ n. Stands spots n cells) e h)
stands_from spots i (suc k) [] l h = absurd (omega arith)
stands_from spots i (suc k) (c ∷ cells) l h =
    let e : suc i + k ≡ i + suc k = omega arith in subst (λ n. Stands spots n (drop k cells)) e (stands_from spots (suc i) k cells (omega arith) h.1)

length_from : (k : ℕ) (cells : List LawCell) → length (drop k cells) ≡ length cells - k
length_from zero cells = omega arith
length_from (suc k) [] = omega arith
length_from (suc k) (c ∷ cells) = let e = length_from k cells in omega arith

module _ (held : Held) (run : Run) (next_len : ℕ) (key : List ℕ) where
  -- by what the laws' search of so many cells stops at
  found_by : (i first n : ℕ) (cells : List LawCell) (o : Option ℕ) → IsRun held run cells → laws.place_within key_cmp key 8 (drop i cells) ≡ o →
      ((k : ℕ) → o ≡ Some k → (first ≡ i) × (i + k < length cells)) → first_stop (held.spots run.level run.slot) key first n ≡ option_map (λ k. first + k) o →
      found_from held run next_len key first n ≡ Found (laws.seek key_cmp key i cells next_len)
  found_by i first n cells None r e within f =
      ap (λ x. option_map_or (λ j. found_at key run j (held.spots run.level run.slot j)) x (found_end run next_len)) f
      ∙ rw (e, slice_get_past cells (length cells) (omega arith), r.length_is) refl
  found_by i first n cells (Some k) r e within f =
      let w = within k refl in
      let at : CellAt (held.spots run.level run.slot) cells 0 (i + k) = cell_at (held.spots run.level run.slot) 0 cells (i + k) r.stands w.1 in
      let told : held.spots run.level run.slot (first + k) ≡ Told at.cell = (let z : 0 + (i + k) ≡ first + k = (let q = w.0 in omega arith) in subst (λ n. held.spots run.level run.slot n ≡ Told at.cell) z at.told) in
      let same : first + k ≡ i + k = (let q = w.0 in omega arith) in
      ap (λ x. option_map_or (λ j. found_at key run j (held.spots run.level run.slot j)) x (found_end run next_len)) f
      ∙ ap (found_at key run (first + k)) told
      ∙ rw (e, at.listed, same) refl

  -- the search of a run that is told is the laws' search of its list
  pub found_is_seek : (start : ℕ) (cells : List LawCell) → IsRun held run cells → found_in held run next_len start key ≡ Found (laws.seek key_cmp key start cells next_len)
  found_is_seek start cells r =
      let len : run.len ≡ length cells = r.length_is in
      let rest : length (drop start cells) ≡ length cells - start = length_from start cells in
      let many : last_of start run.len - first_of start run.len ≡ min 8 (length (drop start cells)) = omega arith in
      let cases : (start ≤ length cells) ⊎ (length cells < start) = grind arith in
      let within : (k : ℕ) → laws.place_within key_cmp key 8 (drop start cells) ≡ Some k → (first_of start run.len ≡ start) × (start + k < length cells) =
      (λ k e. let a : k < length (drop start cells) = placed key 8 (drop start cells) k e in (omega arith, omega arith)) in
      let stands : Stands (held.spots run.level run.slot) (first_of start run.len) (drop start cells) = elim cases [
        | inl h ↦ let e : 0 + start ≡ first_of start run.len = omega arith in subst (λ n. Stands (held.spots run.level run.slot) n (drop start cells)) e (stands_from (held.spots run.level run.slot) 0 start cells h r.stands)
        | inr h ↦ none_stand (held.spots run.level run.slot) (first_of start run.len) (drop start cells) (omega arith)
      ] in
      found_by start (first_of start run.len) (last_of start run.len - first_of start run.len) cells (laws.place_within key_cmp key 8 (drop start cells)) r refl within
      (stop_is (held.spots run.level run.slot) key (first_of start run.len) (last_of start run.len - first_of start run.len) 8 (drop start cells) stands many)
    where
      none_stand : (spots : ℕ → Spot) (i : ℕ) (cells : List LawCell) → length cells ≡ 0 → Stands spots i cells
      none_stand spots i [] e = tt
      none_stand spots i (c ∷ cells) e = absurd (omega arith)

-- a search that begins near enough is at the key's place
seek_is_right : (key : List ℕ) (start next_len : ℕ) (cells : List LawCell) → IsWellFormed key_cmp cells → start ≤ laws.place key_cmp key cells → laws.place key_cmp key cells ≤ start + 7 →
    laws.seek key_cmp key start cells next_len ≡ seat_of_key key cells next_len
seek_is_right key start next_len cells w a b =
    rw (stops_at_place key_cmp key start cells a b, hit_at_place nat_list_cmp_total key cells w.rising) refl

module _ (held : Held) (run : Run) (next_len start : ℕ) (key : List ℕ) (result : Result Seat ReadFault) where
  -- an answer, where the run is told
  pub answers_told : Answers (found_in held run next_len start key) as_seat result → (cells : List LawCell) → IsRun held run cells →
      Answers (Found (laws.seek key_cmp key start cells next_len)) as_seat result
  answers_told h cells r = let E : Outcome (laws.Seat Stamped) → Type 0 = λ x. Answers x as_seat result in subst E (found_is_seek held run next_len key start cells r) h

  -- and where it is well formed and the search begins near enough
  pub answers_right : Answers (found_in held run next_len start key) as_seat result → (cells : List LawCell) → IsRun held run cells → IsWellFormed key_cmp cells →
      start ≤ laws.place key_cmp key cells → laws.place key_cmp key cells ≤ start + 7 → Answers (Found (seat_of_key key cells next_len)) as_seat result
  answers_right h cells r w a b =
      let E : laws.Seat Stamped → Type 0 = λ x. Answers (Found x) as_seat result in subst E (seek_is_right key start next_len cells w a b) (answers_told h cells r)

-- ---- one cell of the window

-- what is left to search decides the whole search, unless a place before was not told
abbrev pub GoesOn : {A : Type 0} → Outcome A → Outcome A → Type 0
GoesOn whole rest = (whole ≡ Open) ⊎ (whole ≡ rest)

pub joined : {A : Type 0} {whole middle rest : Outcome A} → GoesOn whole middle → GoesOn middle rest → GoesOn whole rest
joined (inl e) g = inl e
joined (inr e) (inl f) = inl (e ∙ f)
joined (inr e) (inr f) = inr (e ∙ f)

pub answers_whole : {A T : Type 0} (whole rest : Outcome A) (view : T → A) (result : Result T ReadFault) → GoesOn whole rest → Answers rest view result → Answers whole view result
answers_whole {A} whole rest view result (inl e) h = let E : Outcome A → Type 0 = λ x. Answers x view result in subst E (sym e) tt
answers_whole {A} whole rest view result (inr e) h = let E : Outcome A → Type 0 = λ x. Answers x view result in subst E (sym e) h

pub device_answers : {A T : Type 0} (whole : Outcome A) (view : T → A) → Answers whole view (Err Device)
device_answers (Found a) view = tt
device_answers (BadAt n) view = tt
device_answers Open view = tt

module _ (held : Held) (run : Run) (next_len : ℕ) (key : List ℕ) (i n : ℕ) where
  -- the search of the places from here on, by what is told here
  abbrev by_spot : Spot → Outcome (laws.Seat Stamped)
  by_spot spot = option_map_or (λ j. found_at key run j (held.spots run.level run.slot j)) (cond (is_passed key spot) (first_stop (held.spots run.level run.slot) key (suc i) n) (Some i)) (found_end run next_len)

  pass_by : (spot : Spot) (c : LawCell) → held.spots run.level run.slot i ≡ spot → Tells spot (Told c) → is_lt (key_cmp (key_of c) key) ≡ true →
      GoesOn (by_spot spot) (found_from held run next_len key (suc i) n)
  pass_by Untold c e h l = inl (ap (found_at key run i) e)
  pass_by Bad c e h l = cc
  pass_by (Told d) c e h l = inr (let same : d ≡ c = told_same d c h in
      let below : is_lt (key_cmp (key_of d) key) ≡ true = ap (λ x. is_lt (key_cmp (key_of x) key)) same ∙ l in
      ap (λ b. option_map_or (λ j. found_at key run j (held.spots run.level run.slot j)) (cond b (first_stop (held.spots run.level run.slot) key (suc i) n) (Some i)) (found_end run next_len)) below)

  stop_by : (spot : Spot) (c : LawCell) (seat : Seat) → held.spots run.level run.slot i ≡ spot → Tells spot (Told c) → is_lt (key_cmp (key_of c) key) ≡ false →
      as_seat seat ≡ seat_at key i c → Answers (by_spot spot) as_seat (Ok seat)
  stop_by Untold c seat e h l s = subst (λ (x : Outcome (laws.Seat Stamped)). Answers x as_seat (Ok seat)) (sym (ap (found_at key run i) e)) tt
  stop_by Bad c seat e h l s = cc
  stop_by (Told d) c seat e h l s =
      let same : d ≡ c = told_same d c h in
      let above : is_lt (key_cmp (key_of d) key) ≡ false = ap (λ x. is_lt (key_cmp (key_of x) key)) same ∙ l in
      let found : by_spot (Told d) ≡ Found (seat_at key i c) =
      ap (λ b. option_map_or (λ j. found_at key run j (held.spots run.level run.slot j)) (cond b (first_stop (held.spots run.level run.slot) key (suc i) n) (Some i)) (found_end run next_len)) above
      ∙ ap (found_at key run i) e ∙ ap (λ x. Found (seat_at key i x)) same in
      subst (λ (x : Outcome (laws.Seat Stamped)). Answers x as_seat (Ok seat)) (sym found) s

  bad_by : (spot : Spot) (number : ℕ) → held.spots run.level run.slot i ≡ spot → Tells spot Bad → number ≡ number_of run.level run.slot i →
      Answers (by_spot spot) as_seat (Err (BadCell number))
  bad_by Untold number e h f = subst (λ (x : Outcome (laws.Seat Stamped)). Answers x as_seat (Err (BadCell number))) (sym (ap (found_at key run i) e)) tt
  bad_by Bad number e h f = subst (λ (x : Outcome (laws.Seat Stamped)). Answers x as_seat (Err (BadCell number))) (sym (ap (found_at key run i) e)) f
  bad_by (Told d) number e h f = cc

  -- a cell below the key is passed
  pub passes : (c : Cell) → Tells (held.spots run.level run.slot i) (Told (as_cell c)) → is_lt (key_cmp (parts.key_of c) key) ≡ true →
      GoesOn (found_from held run next_len key i (suc n)) (found_from held run next_len key (suc i) n)
  passes c h l = pass_by (held.spots run.level run.slot i) (as_cell c) refl h (ap (λ k. is_lt (key_cmp k key)) (key_same c) ∙ l)

  -- at any other the search stops
  pub stops : (c : Cell) (seat : Seat) → Tells (held.spots run.level run.slot i) (Told (as_cell c)) → is_lt (key_cmp (parts.key_of c) key) ≡ false →
      as_seat seat ≡ seat_at key i (as_cell c) → Answers (found_from held run next_len key i (suc n)) as_seat (Ok seat)
  stops c seat h l s = stop_by (held.spots run.level run.slot i) (as_cell c) seat refl h (ap (λ k. is_lt (key_cmp k key)) (key_same c) ∙ l) s

  -- and a refusal is the device's or names the cell here
  pub refuses : (before now : ℕ) (fault : ReadFault) → ReadAnswers held before now run.level run.slot i (Err fault) →
      Answers (found_from held run next_len key i (suc n)) as_seat (Err fault)
  refuses before now Device h = device_answers (found_from held run next_len key i (suc n)) as_seat
  refuses before now (BadCell number) h = bad_by (held.spots run.level run.slot i) number refl h.told h.number_is

-- the cause of a refused search
pub search_cause : (held : Held) (run : Run) (start i before between now : ℕ) (fault : ReadFault) → start ≤ i → i < last_of start run.len → between ≡ before →
    ReadAnswers held between now run.level run.slot i (Err fault) → SeekCause held run start before now fault
search_cause held run start i before between now Device a b e h = subst (λ n. Rose n now) e h
search_cause held run start i before between now (BadCell number) a b e h = record { index = i; from = a; within = b; bad = h }

-- ---- what a search spends

-- the aligned eights of a window
pub eights_within : (start len : ℕ) → groups 8 (first_of start len) (last_of start len) ≤ turns_from start
eights_within start len = by_eight (start % 8 == 0) refl
  where
    by_eight : (b : Bool) → (start % 8 == 0) ≡ b → groups 8 (first_of start len) (last_of start len) ≤ (if b then 1 else 2)
    by_eight true e = let z : start % 8 ≡ 0 = eqb-true (start % 8) 0 e in omega arith
    by_eight false e = omega arith

pub costs_turned : {a b : Spent} {s t ticks turns more : ℕ} → Costs a b s t ticks turns → b.turned ≤ a.turned + more → Costs a b s t ticks more
costs_turned h m = record {
  steps_stay = h.steps_stay;
  steps_rise = h.steps_rise;
  ticked_is = h.ticked_is;
  turned_stays = h.turned_stays;
  turned_rises = m;
  written_is = h.written_is;
  faults_stay = h.faults_stay;
}

-- ---- the search on its way

-- the search stands before a place of its window: what is left decides it, a tick was made for each place before, and of the blocks of its eights it may turn to those that are left
pub record Seeking (run : Run) (next_len start : ℕ) (key : List ℕ) (old now : State) (before after first last i : ℕ) : Type 0 where
  pub held_is : now.held ≡ old.held
  pub rest : GoesOn (found_in old.held run next_len start key) (found_from old.held run next_len key i (last - i))
  pub costs : Costs old.spent now.spent before after (i - first) (i - first)
  pub turned : now.spent.turned + turns_left (now.spent.lasts Search) (block_of (span old.held) run.level run.slot i) 8 i last ≤ old.spent.turned + groups 8 first last
  pub each : now.spent.turned + before ≤ old.spent.turned + after
  pub others : (buffer : Buffer) → buffer ≢ Search → now.spent.lasts buffer ≡ old.spent.lasts buffer

-- it begins
pub seeking_begins : (run : Run) (next_len start : ℕ) (key : List ℕ) (state : State) (steps : ℕ) →
    Seeking run next_len start key state state steps steps (first_of start run.len) (last_of start run.len) (first_of start run.len)
seeking_begins run next_len start key state steps = record {
  held_is = refl;
  rest = inr refl;
  costs = costs_within (costs_none state.spent steps) (omega arith) (omega arith);
  turned = omega arith;
  each = omega arith;
  others = λ buffer d. refl;
}

-- a read, of the cells that stood at first
pub read_first : (old : State) {mid new : State} {level slot index : ℕ} {result : Result Cell ReadFault} → mid.held ≡ old.held → Reads mid new Search level slot index result →
    Reads (record { held = old.held; spent = mid.spent }) new Search level slot index result
read_first old {mid} {new} {level} {slot} {index} {result} e r =
    let E : Held → Type 0 = λ h. Reads (record { held = h; spent = mid.spent }) new Search level slot index result in subst E e r

-- the blocks that a search may still turn to, from a place of its window on
abbrev pub turns_at : Held → Run → (last : ℕ) → State → ℕ → ℕ
turns_at held run last now i = turns_left (now.spent.lasts Search) (block_of (span held) run.level run.slot i) 8 i last

module _ {run : Run} {next_len start : ℕ} {key : List ℕ} {old mid new : State} {before between after first last i : ℕ} where
  -- and goes on behind a cell below the key
  pub seeking_goes_on : (c : Cell) → Seeking run next_len start key old mid before between first last i → first ≤ i → i < last →
      Reads mid new Search run.level run.slot i (Ok c) → is_lt (key_cmp (parts.key_of c) key) ≡ true → after ≡ between + 1 →
      Seeking run next_len start key old new before after first last (i + 1)
  seeking_goes_on c s a b read l e =
      let r = read_first old s.held_is read in
      record {
        held_is = read.cells_stay ∙ s.held_is;
        rest = (let many : last - i ≡ suc (last - (i + 1)) = omega arith in let z : suc i ≡ i + 1 = omega arith in
            joined s.rest (subst (λ m. GoesOn (found_from old.held run next_len key i m) (found_from old.held run next_len key (i + 1) (last - (i + 1)))) (sym many)
            (subst (λ j. GoesOn (found_from old.held run next_len key i (suc (last - (i + 1)))) (found_from old.held run next_len key j (last - (i + 1)))) z
            (passes old.held run next_len key i (last - (i + 1)) c r.answer.told l))));
        costs = costs_within (costs_read_then s.costs read e) (omega arith) (omega arith);
        turned = (let z : suc i ≡ i + 1 = omega arith in
            let t : new.spent.turned + turns_at old.held run last new (suc i) ≤ mid.spent.turned + turns_at old.held run last mid i =
            turn_once mid.spent.turned new.spent.turned (mid.spent.lasts Search) (new.spent.lasts Search) (block_of (span old.held) run.level run.slot i)
            (block_of (span old.held) run.level run.slot (suc i)) 8 i last (lit< tt) b
            (λ f. ap (block_at run.level run.slot) (eight_in_block old.held.fixed.doublings (suc i) i f)) (read_turned r) in
            le_then (subst (λ j. new.spent.turned + turns_at old.held run last new j ≤ mid.spent.turned + turns_at old.held run last mid i) z t) s.turned);
        each = (let t = r.turned_rises in let u = s.each in omega arith);
        others = λ buffer d. r.others_stay buffer d ∙ s.others buffer d;
      }
    where
      block_at : ℕ → ℕ → ℕ → Block
      block_at level slot n = record { level = level; slot = slot; number = n }

      le_then : {a b c : ℕ} → a ≤ b → b ≤ c → a ≤ c
      le_then h k = omega arith

-- what it spent in all, where its last read is made here
pub seeking_costs : {run : Run} {next_len start : ℕ} {key : List ℕ} {old mid new : State} {before between after i : ℕ} {result : Result Cell ReadFault} →
    Seeking run next_len start key old mid before between (first_of start run.len) (last_of start run.len) i → first_of start run.len ≤ i → i < last_of start run.len →
    Reads mid new Search run.level run.slot i result → after ≡ between + 1 → Costs old.spent new.spent before after 8 (turns_from start)
seeking_costs {run} {start = start} {old = old} {mid} {new} {i = i} s a b read e =
    let left = turns_at old.held run (last_of start run.len) mid i in
    let t : new.spent.turned ≤ mid.spent.turned + left =
    read_within (block_of (span old.held) run.level run.slot i) 8 i (last_of start run.len) (lit< tt) b (read_first old s.held_is read) refl in
    costs_turned (costs_within {more = 8} {others = 8} (costs_read_then s.costs read e) (omega arith) (omega arith))
    (three new.spent.turned (mid.spent.turned + left) old.spent.turned
    (groups 8 (first_of start run.len) (last_of start run.len)) (turns_from start) t s.turned (eights_within start run.len))
  where
    three : (a b c d e : ℕ) → a ≤ b → b ≤ c + d → d ≤ e → a ≤ c + e
    three a b c d e h k l = omega arith

-- and where it passed all its places
pub seeking_ends : {run : Run} {next_len start : ℕ} {key : List ℕ} {old now : State} {before after i : ℕ} →
    Seeking run next_len start key old now before after (first_of start run.len) (last_of start run.len) i → i ≤ last_of start run.len →
    Costs old.spent now.spent before after 8 (turns_from start)
seeking_ends {run} {start = start} {old = old} {now} {i = i} s a =
    costs_turned (costs_within {more = 8} {others = 8} s.costs (omega arith) (omega arith))
    (two now.spent.turned (turns_at old.held run (last_of start run.len) now i) old.spent.turned
    (groups 8 (first_of start run.len) (last_of start run.len)) (turns_from start) s.turned (eights_within start run.len))
  where
    two : (a b c d e : ℕ) → a + b ≤ c + d → d ≤ e → a ≤ c + e
    two a b c d e h k = omega arith

-- ---- what the search answers in all

module _ {run : Run} {next_len start : ℕ} {key : List ℕ} {old mid new : State} {before between after i : ℕ} where
  -- its last read was refused
  pub seeks_refused : (fault : ReadFault) (result : Result Seat ReadFault) →
      Seeking run next_len start key old mid before between (first_of start run.len) (last_of start run.len) i →
      first_of start run.len ≤ i → i < last_of start run.len → mid.spent.faults ≡ old.spent.faults → Reads mid new Search run.level run.slot i (Err fault) →
      after ≡ between + 1 → result ≡ Err fault → Seeks run next_len start key old new before after result
  seeks_refused fault result s a b calm read e f =
      let r = read_first old s.held_is read in
      let E : Result Seat ReadFault → Type 0 = λ x. Seeks run next_len start key old new before after x in
      let many : last_of start run.len - i ≡ suc (last_of start run.len - suc i) = omega arith in
      let left : ℕ → Type 0 = λ n. Answers (found_from old.held run next_len key i n) as_seat (Err fault) in
      let exact : Answers (found_in old.held run next_len start key) as_seat (Err fault) =
      answers_whole (found_in old.held run next_len start key) (found_from old.held run next_len key i (last_of start run.len - i)) as_seat (Err fault) s.rest
      (subst left (sym many) (refuses old.held run next_len key i (last_of start run.len - suc i) mid.spent.faults new.spent.faults fault r.answer)) in
      subst E (sym f) (record {
        exact = exact;
        told = answers_told old.held run next_len start key (Err fault) exact;
        right = answers_right old.held run next_len start key (Err fault) exact;
        cause = search_cause old.held run start i old.spent.faults mid.spent.faults new.spent.faults fault (omega arith) b calm r.answer;
        costs = seeking_costs s a b read e;
        within = tt;
        each_turn = (let t = r.turned_rises in let u = s.each in omega arith);
        others_stay = λ buffer d. r.others_stay buffer d ∙ s.others buffer d;
      })

  -- it stopped at a cell
  pub seeks_found : (c : Cell) (seat : Seat) → Seeking run next_len start key old mid before between (first_of start run.len) (last_of start run.len) i →
      first_of start run.len ≤ i → i < last_of start run.len → Reads mid new Search run.level run.slot i (Ok c) → after ≡ between + 1 →
      is_lt (key_cmp (parts.key_of c) key) ≡ false → as_seat seat ≡ seat_at key i (as_cell c) → Seeks run next_len start key old new before after (Ok seat)
  seeks_found c seat s a b read e l f =
      let r = read_first old s.held_is read in
      let many : last_of start run.len - i ≡ suc (last_of start run.len - suc i) = omega arith in
      let left : ℕ → Type 0 = λ n. Answers (found_from old.held run next_len key i n) as_seat (Ok seat) in
      let exact : Answers (found_in old.held run next_len start key) as_seat (Ok seat) =
      answers_whole (found_in old.held run next_len start key) (found_from old.held run next_len key i (last_of start run.len - i)) as_seat (Ok seat) s.rest
      (subst left (sym many) (stops old.held run next_len key i (last_of start run.len - suc i) c seat r.answer.told l f)) in
      record {
        exact = exact;
        told = answers_told old.held run next_len start key (Ok seat) exact;
        right = answers_right old.held run next_len start key (Ok seat) exact;
        cause = tt;
        costs = seeking_costs s a b read e;
        within = (let at : seat.pos ≡ i = ap (λ (x : laws.Seat Stamped). x.pos) f in omega arith);
        each_turn = (let t = r.turned_rises in let u = s.each in omega arith);
        others_stay = λ buffer d. r.others_stay buffer d ∙ s.others buffer d;
      }

-- it passed all its places
pub seeks_end : {run : Run} {next_len start : ℕ} {key : List ℕ} {old now : State} {before after i : ℕ} (seat : Seat) →
    Seeking run next_len start key old now before after (first_of start run.len) (last_of start run.len) i → i ≡ last_of start run.len →
    as_seat seat ≡ record { pos = run.len; hit = None; link = 8 * (next_len / 8) } → Seeks run next_len start key old now before after (Ok seat)
seeks_end {run} {next_len} {start} {key} {old} {i = i} seat s e f =
    let none : last_of start run.len - i ≡ 0 = omega arith in
    let left : ℕ → Type 0 = λ n. Answers (found_from old.held run next_len key i n) as_seat (Ok seat) in
    let exact : Answers (found_in old.held run next_len start key) as_seat (Ok seat) =
    answers_whole (found_in old.held run next_len start key) (found_from old.held run next_len key i (last_of start run.len - i)) as_seat (Ok seat) s.rest (subst left (sym none) f) in
    record {
      exact = exact;
      told = answers_told old.held run next_len start key (Ok seat) exact;
      right = answers_right old.held run next_len start key (Ok seat) exact;
      cause = tt;
      costs = seeking_ends s (omega arith);
      within = (let at : seat.pos ≡ run.len = ap (λ (x : laws.Seat Stamped). x.pos) f in omega arith);
      each_turn = s.each;
      others_stay = s.others;
    }
