-- A cursor where it begins: at the places of its lower end.
use Rattle.std.proofs.Common.{◌≡◌, ℕ, suc, ◌+◌, ◌*◌, ◌^◌, ◌≤◌, true, false, cond, List, [], ◌∷◌, map, length, take, drop, Option, Result, Err, refl, sym, ap, subst, ◌∙◌, arith, All, Less, Equal, Greater, Ordering, pow_mono, pow-suc}
use Rattle.std.specs.Ordering.{is_lt}
use Rattle.std.specs.Cmp.{alike_right}
use Rattle.std.specs.Cmp.Lexicographic.{nat_list_cmp_total}
use Rattle.std.specs.List.{AllByRecursion}
use Rattle.std.specs.List.Sorted.{IsStrictlySortedBy}
use Rattle.cola_runs.specs.Cells as laws
use Rattle.cola_runs.specs.Search.{place, link_at, first_len}
use Rattle.std.proofs.lemmas.List.Elements.{All-head, All-tail}
use Rattle.cola_cell.specs.declared.cell.Run.{Run}
use Rattle.cola_cell.specs.declared.fault.ReadFault.{ReadFault}
use Rattle.cola_cell.specs.Costs.{Costs}
use Rattle.cola_cell.specs.Held.{Held, LawCell}
use Rattle.cola_cell.specs.Order.{key_cmp}
use Rattle.cola_cell.specs.State.{State}
use Rattle.cola_look.specs.Outcome.{Answers}
use Rattle.cola_look.specs.Runs.{HasRun, AreRuns}
use Rattle.cola_look.specs.Stops.{StopsAtPlaces}
use Rattle.cola_look.proofs.RunLists.{stops_at_places, sampled_rise}
use Rattle.cola_pairs.specs.Live.{live, between, below_end, rests_from}
use Rattle.cola_pairs.proofs.Order.{all_change}
use Rattle.cola_pairs.proofs.LivePairs.{live_from, rising_onward, none_below}
use Rattle.cola_cursor.specs.declared.line.Line.{Line}
use Rattle.cola_cursor.specs.declared.cursor.Cursor.{Cursor}
use Rattle.cola_cursor.specs.Giving.{SeekGives}
use Rattle.cola_cursor.specs.Lines.{LineFits, Reading}
use Rattle.cola_cursor.specs.Standing.{runs_of, rests, befores, AreSearched, AreApart, StandsAlong, AheadAlong}
use Rattle.cola_cursor.specs.Seeking.{LevelsRise, places_from, places_of, places_told, range_ticks, cells_of, RunsCause}
use Rattle.cola_runs.proofs.Order.{by_bool}
use Rattle.cola_cursor.proofs.Searched.{refusal_seen}

-- the search stops at the places of the key
places_are : (key : List ℕ) (start : ℕ) (lists : List (List LawCell)) → StopsAtPlaces key_cmp key start lists → places_from key start lists ≡ map (place key_cmp key) lists
places_are key start [] h = refl
places_are key start (cells ∷ lists) h =
    ap (λ n. n ∷ places_from key (link_at cells (first_len lists) n) lists) h.0
    ∙ ap (λ z. place key_cmp key cells ∷ z) (places_are key (link_at cells (first_len lists) (place key_cmp key cells)) lists h.1)

begins_near : (key : List ℕ) (lists : List (List LawCell)) → AreSearched key lists → StopsAtPlaces key_cmp key 0 lists
begins_near key [] h = tt
begins_near key (cells ∷ lists) h = let n = h.near in stops_at_places nat_list_cmp_total key 0 cells lists h.sampled (omega arith) (omega arith)

pub at_places : (key : List ℕ) (lines : List Line) (lists : List (List LawCell)) → AreSearched key lists → map (λ (x : Line). x.place) lines ≡ places_from key 0 lists →
    map (λ (x : Line). x.place) lines ≡ map (place key_cmp key) lists
at_places key lines lists h e = e ∙ places_are key 0 lists (begins_near key lists h)

first_same : (a b : ℕ) (xs ys : List ℕ) → a ∷ xs ≡ b ∷ ys → a ≡ b
first_same a b xs ys e = cc

rest_same : (a b : ℕ) (xs ys : List ℕ) → a ∷ xs ≡ b ∷ ys → xs ≡ ys
rest_same a b xs ys e = cc

no_places : (a : ℕ) (xs : List ℕ) → [] ≡ a ∷ xs → ⊥
no_places a xs e = cc

rests_places : (key : List ℕ) (lines : List Line) (lists : List (List LawCell)) → map (λ (x : Line). x.place) lines ≡ map (place key_cmp key) lists → rests false lines lists ≡ rests_from key_cmp key lists
rests_places key [] [] e = refl
rests_places key [] (cells ∷ lists) e = absurd (no_places (place key_cmp key cells) (map (place key_cmp key) lists) e)
rests_places key (line ∷ lines) [] e = refl
rests_places key (line ∷ lines) (cells ∷ lists) e =
    ap (λ n. drop n cells ∷ rests false lines lists) (first_same line.place (place key_cmp key cells) _ _ e)
    ∙ ap (λ z. drop (place key_cmp key cells) cells ∷ z) (rests_places key lines lists (rest_same line.place (place key_cmp key cells) _ _ e))

-- ---- keys on both sides of a place

is_less : (r : Ordering) → is_lt r ≡ true → r ≡ Less
is_less Less e = refl
is_less Equal e = cc
is_less Greater e = cc

before_place : (key : List ℕ) (cells : List LawCell) → AllByRecursion (λ c. key_cmp (laws.key_of c) key ≡ Less) (take (place key_cmp key cells) cells)
before_place key [] = tt
before_place key (c ∷ cells) =
    by_bool (λ b. is_lt (key_cmp (laws.key_of c) key) ≡ b → AllByRecursion (λ d. key_cmp (laws.key_of d) key ≡ Less) (take (cond b (suc (place key_cmp key cells)) 0) (c ∷ cells)))
    (λ e. (is_less _ e, before_place key cells)) (λ e. tt) (is_lt (key_cmp (laws.key_of c) key)) refl

after_place : (key : List ℕ) (cells : List LawCell) → laws.IsRising key_cmp cells → AllByRecursion (λ d. is_lt (key_cmp (laws.key_of d) key) ≡ false) (drop (place key_cmp key cells) cells)
unfolding IsStrictlySortedBy
after_place key [] h = tt
after_place key (c ∷ cells) h =
    by_bool (λ b. is_lt (key_cmp (laws.key_of c) key) ≡ b → AllByRecursion (λ d. is_lt (key_cmp (laws.key_of d) key) ≡ false) (drop (cond b (suc (place key_cmp key cells)) 0) (c ∷ cells)))
    (λ e. after_place key cells h.1) (λ e. none_below nat_list_cmp_total key c cells e (rising_onward nat_list_cmp_total (c ∷ cells) h)) (is_lt (key_cmp (laws.key_of c) key)) refl

across : (key a b : List ℕ) → key_cmp a key ≡ Less → is_lt (key_cmp b key) ≡ false → key_cmp a b ≡ Less
across key a b e f = go (key_cmp key b) refl
  where
    go : (r : Ordering) → key_cmp key b ≡ r → key_cmp a b ≡ Less
    go Less g = nat_list_cmp_total.trans a key b e g
    go Equal g = sym (alike_right nat_list_cmp_total key b a g) ∙ e
    go Greater g = let h = sym (ap is_lt (nat_list_cmp_total.antisymm b key ∙ ap Rattle.std.specs.Ordering.ordering_reverse g)) ∙ f in absurd (cc)

befores_below : (key : List ℕ) (lines : List Line) (lists : List (List LawCell)) → map (λ (x : Line). x.place) lines ≡ map (place key_cmp key) lists →
    AllByRecursion (AllByRecursion (λ c. key_cmp (laws.key_of c) key ≡ Less)) (befores false lines lists)
befores_below key [] lists e = tt
befores_below key (line ∷ lines) [] e = tt
befores_below key (line ∷ lines) (cells ∷ lists) e = (
  subst (λ n. AllByRecursion (λ c. key_cmp (laws.key_of c) key ≡ Less) (take n cells)) (sym (first_same line.place (place key_cmp key cells) _ _ e)) (before_place key cells),
  befores_below key lines lists (rest_same line.place (place key_cmp key cells) _ _ e),
)

rests_above : (key : List ℕ) (lists : List (List LawCell)) → AllByRecursion (laws.IsRising key_cmp) lists → AllByRecursion (AllByRecursion (λ d. is_lt (key_cmp (laws.key_of d) key) ≡ false)) (rests_from key_cmp key lists)
rests_above key [] h = tt
rests_above key (cells ∷ lists) h = (after_place key cells h.0, rests_above key lists h.1)

pub apart_at_places : (key : List ℕ) (lines : List Line) (lists : List (List LawCell)) → AllByRecursion (laws.IsRising key_cmp) lists → map (λ (x : Line). x.place) lines ≡ map (place key_cmp key) lists →
    AreApart false (befores false lines lists) (rests false lines lists)
apart_at_places key lines lists h e =
    let above : AllByRecursion (AllByRecursion (λ d. is_lt (key_cmp (laws.key_of d) key) ≡ false)) (rests false lines lists) =
    subst (λ (z : List (List LawCell)). AllByRecursion (AllByRecursion (λ d. is_lt (key_cmp (laws.key_of d) key) ≡ false)) z) (sym (rests_places key lines lists e)) (rests_above key lists h) in
    all_change (λ cells. all_change (λ c b. all_change (λ others. all_change (λ d a. across key (laws.key_of c) (laws.key_of d) b a) others) (rests false lines lists) above) cells) (befores false lines lists) (befores_below key lines lists e)

-- ---- the cursor

pub same_runs : (held : Held) {runs others : List Run} (lists : List (List LawCell)) → runs ≡ others → AreRuns held runs lists → AreRuns held others lists
same_runs held lists e r = subst (λ (x : List Run). AreRuns held x lists) e r

-- where a cursor begins at a key, its places keep the keys apart
pub begun_apart : (key : List ℕ) (cursor : Cursor) (lists : List (List LawCell)) → AreSearched key lists → map (λ (x : Line). x.place) cursor.lines.items ≡ places_from key 0 lists →
    AreApart false (befores false cursor.lines.items lists) (rests false cursor.lines.items lists)
begun_apart key cursor lists a p = apart_at_places key cursor.lines.items lists (sampled_rise key_cmp lists a.sampled) (at_places key cursor.lines.items lists a p)

-- where a cursor stands that begins at a key, in lines that stand in its runs
pub begun_stands : (held : Held) (key : List ℕ) (runs : List Run) (cursor : Cursor) → AllByRecursion (LineFits false held) cursor.lines.items → runs_of cursor.lines.items ≡ runs →
    ((lists : List (List LawCell)) → AreRuns held runs lists → map (λ (x : Line). x.place) cursor.lines.items ≡ places_from key 0 lists) → StandsAlong false held cursor
begun_stands held key runs cursor f e p = record { fit = f; apart = λ lists r a. begun_apart key cursor lists (a key) (p lists (same_runs held lists e r)) }

-- and the pairs that are ahead of it
pub begun_ahead : (held : Held) (key : List ℕ) (runs : List Run) (cursor : Cursor) → runs_of cursor.lines.items ≡ runs → (lists : List (List LawCell)) → AreRuns held runs lists → AreSearched key lists →
    map (λ (x : Line). x.place) cursor.lines.items ≡ places_from key 0 lists → AheadAlong false held cursor (live key_cmp (between key_cmp key cursor.end) lists)
begun_ahead held key runs cursor e lists r a p = record {
  lists = lists;
  told = same_runs held lists (sym e) r;
  rising = sampled_rise key_cmp lists a.sampled;
  apart = begun_apart key cursor lists a p;
  pairs_are = live_from nat_list_cmp_total key cursor.end lists (sampled_rise key_cmp lists a.sampled)
      ∙ ap (live key_cmp (below_end key_cmp cursor.end)) (sym (rests_places key cursor.lines.items lists (at_places key cursor.lines.items lists a p)));
}

-- ---- what it costs

pub few_runs : (held : Held) (least : ℕ) (runs : List Run) → AllByRecursion (HasRun held) runs → LevelsRise least runs → least ≤ held.fixed.levels → least + length runs ≤ held.fixed.levels
few_runs held least [] h l m = omega arith
few_runs held least (run ∷ runs) h l m =
    let i = h.0.level_in in
    let r = few_runs held (suc run.level) runs h.1 l.1 (omega arith) in
    let a = l.0 in
    omega arith

pub few_cells : (held : Held) (least : ℕ) (runs : List Run) → AllByRecursion (HasRun held) runs → LevelsRise least runs → least ≤ held.fixed.levels → cells_of runs + 2 ^ (least + 2) ≤ 2 ^ (held.fixed.levels + 2)
few_cells held least [] h l m = let p : 2 ^ (least + 2) ≤ 2 ^ (held.fixed.levels + 2) = pow_mono (omega arith) in omega arith
few_cells held least (run ∷ runs) h l m =
    let i = h.0.level_in in
    let w = h.0.within in
    let r = few_cells held (suc run.level) runs h.1 l.1 (omega arith) in
    let a : least + 2 ≤ run.level + 2 = (let x = l.0 in omega arith) in
    let p : 2 ^ (least + 2) ≤ 2 ^ (run.level + 2) = pow_mono a in
    let z : suc run.level + 2 ≡ suc (run.level + 2) = omega arith in
    let s : 2 ^ (suc run.level + 2) ≡ 2 ^ (run.level + 2) * 2 = ap (λ n. 2 ^ n) z ∙ pow-suc 2 (run.level + 2) in
    omega arith

pub within_range : (held : Held) (runs : List Run) (left before after : ℕ) → AllByRecursion (HasRun held) runs → LevelsRise 0 runs → after + left ≤ before + 8 * length runs + cells_of runs → after + left ≤ before + range_ticks held.fixed.levels
within_range held runs left before after h l e =
    let n = few_runs held 0 runs h l (omega arith) in
    let m = few_cells held 0 runs h l (omega arith) in
    omega arith

-- the runs of a list, one by one
pub all_by_recursion : {X : Type 0} (P : X → Type 0) (xs : List X) → All P xs → AllByRecursion P xs
all_by_recursion P [] h = tt
all_by_recursion P (x ∷ xs) h = (All-head P x xs h, all_by_recursion P xs (All-tail P x xs h))

-- what a refused beginning gives
pub seek_refused : {runs : List Run} {low : List ℕ} {high : Option (List ℕ)} {old new : State} {before after : ℕ} (result : Result Cursor ReadFault) (fault : ReadFault) → result ≡ Err fault →
    Reading old new before after → RunsCause old.held runs old.spent.faults new.spent.faults fault → after + 0 ≤ before + range_ticks old.held.fixed.levels →
    Answers (places_told old.held low 0 runs) places_of (Err fault) → Costs old.spent new.spent before after (8 * length runs) (2 * length runs) →
    SeekGives runs low high old new before after result
seek_refused {runs} {low} {high} {old} {new} {before} {after} result fault is reading cause left exact costs =
    let seen : Answers (places_told old.held low 0 runs) (λ (cursor : Cursor). places_of cursor.lines) (Err fault) = refusal_seen (places_told old.held low 0 runs) places_of (λ (cursor : Cursor). places_of cursor.lines) fault exact in
    let E : Result Cursor ReadFault → Type 0 = λ x. SeekGives runs low high old new before after x in
    subst E (sym is) (record { ahead = λ lists r a. tt; places = λ lists r. tt; exact = seen; begins = tt; stands = tt; costs = costs; left = left; reading = reading; cause = cause })
