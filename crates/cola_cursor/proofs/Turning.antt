-- A cursor that falls from the places of a rising one.
use Rattle.std.proofs.Common.{◌≡◌, ℕ, zero, suc, ◌+◌, ◌-◌, ◌*◌, ◌≤◌, ◌&&◌, Bool, true, false, List, [], ◌∷◌, ◌++◌, map, length, take, drop, reverse, Option, None, Some, Result, IfOk, Ok, Err, refl, sym, ap, subst, ◌∙◌, arith, Less, length-drop}
use Rattle.std.proofs.lemmas.List.{reverse-append, take-append-drop, length-reverse}
use Rattle.std.specs.List.{AllByRecursion}
use Rattle.std.specs.Cmp.Lexicographic.{nat_list_cmp_total}
use Rattle.cola_runs.specs.Cells as laws
use Rattle.cola_runs.specs.Search.{place}
use Rattle.cola_cell.specs.declared.cell.Run.{Run}
use Rattle.cola_cell.specs.Costs.{Costs}
use Rattle.cola_cell.specs.Held.{Held, LawCell}
use Rattle.cola_cell.proofs.CostsLemmas.{costs_none, costs_within}
use Rattle.cola_cell.specs.Order.{key_cmp}
use Rattle.cola_look.specs.Outcome.{Answers}
use Rattle.cola_look.specs.Runs.{HasRun, AreRuns}
use Rattle.cola_look.proofs.RunLists.{sampled_rise}
use Rattle.cola_pairs.specs.Live.{live, below_end}
use Rattle.cola_pairs.proofs.Order.{all_change}
use Rattle.cola_reverse.specs.Falling.{fronts_below, from_low, within_bounds}
use Rattle.cola_reverse.proofs.Turned.{all_reverse, live_reverse}
use Rattle.cola_reverse.proofs.Falls.{live_below_places, rising_fronts}
use Rattle.cola_reverse.proofs.Over.{over}
use Rattle.std.proofs.Math.Path.{fun_ext}
use Rattle.std.specs.declared.ops.Bound.TheVariants.{Included, Excluded, Unbounded}
use Rattle.cola_cursor.specs.declared.line.Line.{Line}
use Rattle.cola_cursor.specs.declared.cursor.Cursor.{Cursor}
use Rattle.cola_cursor.specs.Lines.{LineFits, all_left, ahead_of, Reading}
use Rattle.cola_cursor.specs.Seeking.{LevelsRise, places_from, places_of, places_told, aheads_of, range_ticks, cells_of, RunsCause}
use Rattle.cola_cursor.specs.Standing.{runs_of, rests, befores, AreSearched, AreApart, StandsAlong, AheadAlong, Ahead}
use Rattle.cola_cursor.specs.Turning.{turned_line, end_line, over_key, TurnedGives, SeekBackGives, EndGives}
use Rattle.cola_cell.specs.State.{State}
use Rattle.cola_cell.specs.declared.fault.ReadFault.{ReadFault}
use Rattle.cola_look.proofs.KeyLemmas.{keys_alike}
use Rattle.cola_cursor.proofs.Readings.{reading_none}
use Rattle.cola_cursor.proofs.Searched.{refusal_seen}
use Rattle.cola_cursor.proofs.Places.{at_places, begun_apart, same_runs, few_runs, few_cells}

-- ---- lists from an index, from the other end

module _ {X : Type 0} where
  drop_front : (n : ℕ) (xs ys : List X) → length xs ≡ n → drop n (xs ++ ys) ≡ ys
  drop_front zero [] ys e = refl
  drop_front zero (x ∷ xs) ys e = absurd (omega arith)
  drop_front (suc n) [] ys e = absurd (omega arith)
  drop_front (suc n) (x ∷ xs) ys e = drop_front n xs ys (omega arith)

  take_front : (n : ℕ) (xs ys : List X) → length xs ≡ n → take n (xs ++ ys) ≡ xs
  take_front zero [] ys e = refl
  take_front zero (x ∷ xs) ys e = absurd (omega arith)
  take_front (suc n) [] ys e = absurd (omega arith)
  take_front (suc n) (x ∷ xs) ys e = ap (λ z. x ∷ z) (take_front n xs ys (omega arith))

  both_ends : (p : ℕ) (xs : List X) → reverse xs ≡ reverse (drop p xs) ++ reverse (take p xs)
  both_ends p xs = ap reverse (sym (take-append-drop p xs)) ∙ reverse-append (take p xs) (drop p xs)

  long : (n p : ℕ) (xs : List X) → n ≡ length xs → length (reverse (drop p xs)) ≡ n - p
  long n p xs e = length-reverse (drop p xs) ∙ length-drop p xs ∙ ap (λ m. m - p) (sym e)

  pub drop_back : (n p : ℕ) (xs : List X) → n ≡ length xs → drop (n - p) (reverse xs) ≡ reverse (take p xs)
  drop_back n p xs e = ap (drop (n - p)) (both_ends p xs) ∙ drop_front (n - p) (reverse (drop p xs)) (reverse (take p xs)) (long n p xs e)

  pub take_back : (n p : ℕ) (xs : List X) → n ≡ length xs → take (n - p) (reverse xs) ≡ reverse (drop p xs)
  take_back n p xs e = ap (take (n - p)) (both_ends p xs) ∙ take_front (n - p) (reverse (drop p xs)) (reverse (take p xs)) (long n p xs e)

-- ---- the lines

module _ (held : Held) where
  pub rests_back : (lines : List Line) (lists : List (List LawCell)) → AreRuns held (runs_of lines) lists → rests true (map turned_line lines) lists ≡ map reverse (befores false lines lists)
  rests_back [] lists r = refl
  rests_back (line ∷ lines) [] r = refl
  rests_back (line ∷ lines) (cells ∷ lists) r =
      ap (λ z. z ∷ rests true (map turned_line lines) lists) (drop_back line.run.len line.place cells r.0.length_is)
      ∙ ap (λ z. reverse (take line.place cells) ∷ z) (rests_back lines lists r.1)

  pub befores_back : (lines : List Line) (lists : List (List LawCell)) → AreRuns held (runs_of lines) lists → befores true (map turned_line lines) lists ≡ map reverse (rests false lines lists)
  befores_back [] lists r = refl
  befores_back (line ∷ lines) [] r = refl
  befores_back (line ∷ lines) (cells ∷ lists) r =
      ap (λ z. z ∷ befores true (map turned_line lines) lists) (take_back line.run.len line.place cells r.0.length_is)
      ∙ ap (λ z. reverse (drop line.place cells) ∷ z) (befores_back lines lists r.1)

  pub fit_back : (lines : List Line) → AllByRecursion (LineFits false held) lines → AllByRecursion (LineFits true held) (map turned_line lines)
  fit_back [] h = tt
  fit_back (line ∷ lines) h = (record { run = h.0.run; place_in = omega arith; head = tt }, fit_back lines h.1)

pub runs_back : (lines : List Line) → runs_of (map turned_line lines) ≡ runs_of lines
runs_back [] = refl
runs_back (line ∷ lines) = ap (λ z. line.run ∷ z) (runs_back lines)

-- ---- what is apart stays so from the other side

module _ {X : Type 0} where
  all_all : (P : X → X → Type 0) (xs ys : List X) → AllByRecursion (λ x. AllByRecursion (λ y. P x y) ys) xs → AllByRecursion (λ y. AllByRecursion (λ x. P x y) xs) ys
  all_all P xs [] h = tt
  all_all P xs (y ∷ ys) h = (heads xs h, all_all P xs ys (tails xs h))
    where
      heads : (xs : List X) → AllByRecursion (λ x. AllByRecursion (λ y. P x y) (y ∷ ys)) xs → AllByRecursion (λ x. P x y) xs
      heads [] h = tt
      heads (x ∷ xs) h = (h.0.0, heads xs h.1)

      tails : (xs : List X) → AllByRecursion (λ x. AllByRecursion (λ y. P x y) (y ∷ ys)) xs → AllByRecursion (λ x. AllByRecursion (λ y. P x y) ys) xs
      tails [] h = tt
      tails (x ∷ xs) h = (h.0.1, tails xs h.1)

all_all_back : {X : Type 0} (P : X → Type 0) (xss : List (List X)) → AllByRecursion (AllByRecursion P) xss → AllByRecursion (AllByRecursion P) (map reverse xss)
all_all_back P [] h = tt
all_all_back P (xs ∷ xss) h = (all_reverse P xs h.0, all_all_back P xss h.1)

-- one cell below all of some lists
Below : LawCell → List (List LawCell) → Type 0
Below c R = AllByRecursion (AllByRecursion (λ d. key_cmp (laws.key_of c) (laws.key_of d) ≡ Less)) R

-- for a cell of the rests: it is above all of the befores
module _ where
  one_rest : (B : List (List LawCell)) (d : LawCell) (S : List LawCell) → ((c : LawCell) → AllByRecursion (λ x. key_cmp (laws.key_of c) (laws.key_of x) ≡ Less) (d ∷ S) → key_cmp (laws.key_of c) (laws.key_of d) ≡ Less)
  one_rest B d S c h = h.0

pub apart_sides : (B R : List (List LawCell)) → AreApart false B R → AllByRecursion (AllByRecursion (λ d. AllByRecursion (AllByRecursion (λ c. key_cmp (laws.key_of c) (laws.key_of d) ≡ Less)) B)) R
apart_sides B [] h = tt
apart_sides B (cells ∷ R) h = (cell cells (firsts B h), apart_sides B R (others B h))
  where
    firsts : (B : List (List LawCell)) → AreApart false B (cells ∷ R) → AllByRecursion (AllByRecursion (λ c. AllByRecursion (λ d. key_cmp (laws.key_of c) (laws.key_of d) ≡ Less) cells)) B
    firsts B h = all_change (λ run. all_change (λ c q. q.0) run) B h

    others : (B : List (List LawCell)) → AreApart false B (cells ∷ R) → AreApart false B R
    others B h = all_change (λ run. all_change (λ c q. q.1) run) B h

    cell : (ds : List LawCell) → AllByRecursion (AllByRecursion (λ c. AllByRecursion (λ d. key_cmp (laws.key_of c) (laws.key_of d) ≡ Less) ds)) B → AllByRecursion (λ d. AllByRecursion (AllByRecursion (λ c. key_cmp (laws.key_of c) (laws.key_of d) ≡ Less)) B) ds
    cell [] h = tt
    cell (d ∷ ds) h = (all_change (λ run. all_change (λ c q. q.0) run) B h, cell ds (all_change (λ run. all_change (λ c q. q.1) run) B h))

pub apart_back : (B R : List (List LawCell)) → AreApart false B R → AreApart true (map reverse R) (map reverse B)
apart_back B R h =
    all_all_back (λ d. AllByRecursion (AllByRecursion (λ c. key_cmp (laws.key_of c) (laws.key_of d) ≡ Less)) (map reverse B)) R
    (all_change (λ run. all_change (λ d q. all_all_back (λ c. key_cmp (laws.key_of c) (laws.key_of d) ≡ Less) B q) run) R (apart_sides B R h))

module _ (held : Held) (lines : List Line) (lists : List (List LawCell)) (told : AreRuns held (runs_of lines) lists) where
  pub turned_apart : AreApart false (befores false lines lists) (rests false lines lists) → AreApart true (befores true (map turned_line lines) lists) (rests true (map turned_line lines) lists)
  turned_apart a =
      subst (λ x. AreApart true x (rests true (map turned_line lines) lists)) (sym (befores_back held lines lists told))
      (subst (λ x. AreApart true (map reverse (rests false lines lists)) x) (sym (rests_back held lines lists told)) (apart_back (befores false lines lists) (rests false lines lists) a))

-- a cursor that turns where it stands stands there the other way
pub turned_stands : (held : Held) (old new : Cursor) → new.lines.items ≡ map turned_line old.lines.items → StandsAlong false held old → StandsAlong true held new
turned_stands held old new e s = record {
  fit = subst (AllByRecursion (LineFits true held)) (sym e) (fit_back held old.lines.items s.fit);
  apart = λ lists r a.
      let told : AreRuns held (runs_of old.lines.items) lists = same_runs held lists (ap runs_of e ∙ runs_back old.lines.items) r in
      subst (λ x. AreApart true (befores true x lists) (rests true x lists)) (sym e) (turned_apart held old.lines.items lists told (s.apart lists told a));
}

-- ---- where it begins below a key

befores_places : (key : List ℕ) (lines : List Line) (lists : List (List LawCell)) → length lines ≡ length lists → map (λ (x : Line). x.place) lines ≡ map (place key_cmp key) lists → befores false lines lists ≡ fronts_below key_cmp (Some key) lists
befores_places key [] [] l e = refl
befores_places key [] (cells ∷ lists) l e = absurd (omega arith)
befores_places key (line ∷ lines) [] l e = absurd (omega arith)
befores_places key (line ∷ lines) (cells ∷ lists) l e =
    let a : line.place ≡ place key_cmp key cells = cc in
    let b : map (λ (x : Line). x.place) lines ≡ map (place key_cmp key) lists = cc in
    ap (λ n. take n cells ∷ befores false lines lists) a ∙ ap (λ z. take (place key_cmp key cells) cells ∷ z) (befores_places key lines lists (omega arith) b)

as_many : (held : Held) (lines : List Line) (lists : List (List LawCell)) → AreRuns held (runs_of lines) lists → length lines ≡ length lists
as_many held [] [] r = refl
as_many held [] (cells ∷ lists) r = absurd r
as_many held (line ∷ lines) [] r = absurd r
as_many held (line ∷ lines) (cells ∷ lists) r = ap suc (as_many held lines lists r.1)

-- the pairs that are ahead of a falling cursor that begins below a key: those of the interval, from the last on
pub back_ahead : (held : Held) (low : Option (List ℕ)) (key : List ℕ) (runs : List Run) (old new : Cursor) → runs_of old.lines.items ≡ runs → new.lines.items ≡ map turned_line old.lines.items → new.end ≡ low →
    (lists : List (List LawCell)) → AreRuns held runs lists → AreSearched key lists → map (λ (x : Line). x.place) old.lines.items ≡ places_from key 0 lists →
    AheadAlong true held new (reverse (live key_cmp (λ k. from_low key_cmp low k && below_end key_cmp (Some key) k) lists))
back_ahead held low key runs old new e t n lists r a p =
    let told = same_runs held lists (sym e) r in
    let lines : List Line = old.lines.items in
    let rising = sampled_rise key_cmp lists a.sampled in
    let fronts : befores false lines lists ≡ fronts_below key_cmp (Some key) lists = befores_places key lines lists (as_many held lines lists told) (at_places key lines lists a p) in
    record {
      lists = lists;
      told = same_runs held lists (sym (ap runs_of t ∙ runs_back lines)) told;
      rising = rising;
      apart = subst (λ x. AreApart true (befores true x lists) (rests true x lists)) (sym t) (turned_apart held lines lists told (begun_apart key old lists a p));
      pairs_are =
          ap reverse (live_below_places nat_list_cmp_total low (Some key) lists rising)
          ∙ sym (live_reverse nat_list_cmp_total keys_alike (from_low key_cmp low) (fronts_below key_cmp (Some key) lists) (rising_fronts nat_list_cmp_total (Some key) lists rising))
          ∙ ap (λ x. live (λ c d. key_cmp d c) (from_low key_cmp low) (map reverse x)) (sym fronts)
          ∙ ap (live (λ c d. key_cmp d c) (from_low key_cmp low)) (sym (rests_back held lines lists told))
          ∙ ap (λ x. live (λ c d. key_cmp d c) (from_low key_cmp low) (rests true x lists)) (sym t)
          ∙ ap (λ x. live (λ c d. key_cmp d c) (Rattle.cola_cursor.specs.Way.within_end true x) (rests true new.lines.items lists)) (sym n);
    }

-- the cells ahead of a line that turned are those before its place
ahead_back : (held : Held) (lines : List Line) → AllByRecursion (LineFits false held) lines → map ahead_of (map turned_line lines) ≡ map (λ (x : Line). x.place) lines
ahead_back held [] h = refl
ahead_back held (line ∷ lines) h =
    let p = h.0.place_in in
    let e : line.run.len - (line.run.len - line.place) ≡ line.place = omega arith in
    ap (λ n. n ∷ map ahead_of (map turned_line lines)) e ∙ ap (λ ns. line.place ∷ ns) (ahead_back held lines h.1)

pub places_back : (held : Held) (lines news : List Line) (places : List ℕ) → AllByRecursion (LineFits false held) lines → news ≡ map turned_line lines → map (λ (x : Line). x.place) lines ≡ places → map ahead_of news ≡ places
places_back held lines news places h t p = ap (map ahead_of) t ∙ ahead_back held lines h ∙ p

-- ---- what it costs

back_cells : (held : Held) (lines : List Line) → AllByRecursion (LineFits false held) lines → all_left (map turned_line lines) ≤ cells_of (runs_of lines)
back_cells held [] h = omega arith
back_cells held (line ∷ lines) h = let r = back_cells held lines h.1 in let p = h.0.place_in in omega arith

pub back_within : (held : Held) (runs : List Run) (lines news : List Line) (before after : ℕ) → AllByRecursion (HasRun held) runs → LevelsRise 0 runs → AllByRecursion (LineFits false held) lines → runs_of lines ≡ runs → news ≡ map turned_line lines →
    after ≤ before + 8 * length runs → after + all_left news ≤ before + range_ticks held.fixed.levels
back_within held runs lines news before after h l f e t s =
    let n = few_runs held 0 runs h l (omega arith) in
    let m = few_cells held 0 runs h l (omega arith) in
    let a = back_cells held lines f in
    let b : cells_of (runs_of lines) ≡ cells_of runs = ap cells_of e in
    let c : all_left news ≡ all_left (map turned_line lines) = ap all_left t in
    omega arith

pub places_in : (held : Held) (lines : List Line) → AllByRecursion (LineFits false held) lines → AllByRecursion (λ line. line.place ≤ line.run.len) lines
places_in held [] h = tt
places_in held (line ∷ lines) h = (h.0.place_in, places_in held lines h.1)

-- what a refused beginning gives
pub back_refused : {runs : List Run} {low : Option (List ℕ)} {key : List ℕ} {old new : State} {before after : ℕ} (result : Result Cursor ReadFault) (fault : ReadFault) → result ≡ Err fault →
    Reading old new before after → RunsCause old.held runs old.spent.faults new.spent.faults fault → after + 0 ≤ before + range_ticks old.held.fixed.levels →
    Answers (places_told old.held key 0 runs) places_of (Err fault) → Costs old.spent new.spent before after (8 * length runs) (2 * length runs) →
    TurnedGives runs low key old new before after result
back_refused {runs} {low} {key} {old} {new} {before} {after} result fault is reading cause left exact costs =
    let seen : Answers (places_told old.held key 0 runs) (λ (cursor : Cursor). aheads_of cursor.lines) (Err fault) = refusal_seen (places_told old.held key 0 runs) places_of (λ (cursor : Cursor). aheads_of cursor.lines) fault exact in
    let E : Result Cursor ReadFault → Type 0 = λ x. TurnedGives runs low key old new before after x in
    subst E (sym is) (record { ahead = λ lists r a. tt; places = λ lists r. tt; exact = seen; begins = tt; stands = tt; costs = costs; left = left; reading = reading; cause = cause })

-- ---- where it begins at the end

pub runs_end : (runs : List Run) → runs_of (map end_line runs) ≡ runs
runs_end [] = refl
runs_end (run ∷ runs) = ap (λ z. run ∷ z) (runs_end runs)

fit_end : (held : Held) (runs : List Run) → AllByRecursion (HasRun held) runs → AllByRecursion (LineFits true held) (map end_line runs)
fit_end held [] h = tt
fit_end held (run ∷ runs) h = (record { run = h.0; place_in = omega arith; head = tt }, fit_end held runs h.1)

rests_end : (held : Held) (runs : List Run) (lists : List (List LawCell)) → AreRuns held runs lists → rests true (map end_line runs) lists ≡ map reverse lists
rests_end held [] [] r = refl
rests_end held [] (cells ∷ lists) r = absurd r
rests_end held (run ∷ runs) [] r = refl
rests_end held (run ∷ runs) (cells ∷ lists) r = ap (λ z. reverse cells ∷ z) (rests_end held runs lists r.1)

apart_end : (runs : List Run) (lists R : List (List LawCell)) → AreApart true (befores true (map end_line runs) lists) R
apart_end [] lists R = tt
apart_end (run ∷ runs) [] R = tt
apart_end (run ∷ runs) (cells ∷ lists) R = (tt, apart_end runs lists R)

left_end : (runs : List Run) → all_left (map end_line runs) ≤ cells_of runs
left_end [] = omega arith
left_end (run ∷ runs) = let r = left_end runs in omega arith

fronts_all : (lists : List (List LawCell)) → fronts_below key_cmp None lists ≡ lists
fronts_all [] = refl
fronts_all (cells ∷ lists) = ap (λ z. cells ∷ z) (fronts_all lists)

ahead_end : (held : Held) (runs : List Run) (lists : List (List LawCell)) → AreRuns held runs lists → map ahead_of (map end_line runs) ≡ map length lists
ahead_end held [] [] r = refl
ahead_end held [] (cells ∷ lists) r = absurd r
ahead_end held (run ∷ runs) [] r = absurd r
ahead_end held (run ∷ runs) (cells ∷ lists) r =
    let e : run.len - 0 ≡ length cells = (let n = r.0.length_is in omega arith) in
    ap (λ n. n ∷ map ahead_of (map end_line runs)) e ∙ ap (λ ns. length cells ∷ ns) (ahead_end held runs lists r.1)

lengths_end : (runs : List Run) → map ahead_of (map end_line runs) ≡ map (λ (run : Run). run.len) runs
lengths_end [] = refl
lengths_end (run ∷ runs) =
    let e : run.len - 0 ≡ run.len = omega arith in
    ap (λ n. n ∷ map ahead_of (map end_line runs)) e ∙ ap (λ ns. run.len ∷ ns) (lengths_end runs)

and_all : (b : Bool) → (b && true) ≡ b
and_all true = refl
and_all false = refl

pub end_gives : (held : Held) (runs : List Run) (low : Option (List ℕ)) (cursor : Cursor) → AllByRecursion (HasRun held) runs → LevelsRise 0 runs → cursor.lines.items ≡ map end_line runs → cursor.end ≡ low → cursor.falls ≡ true → EndGives held runs low cursor
end_gives held runs low cursor h l t n f = record {
  ahead = λ lists r a. subst (λ (b : Bool). AheadAlong b held cursor (reverse (live key_cmp (within_bounds key_cmp low Unbounded) lists))) (sym f) (record {
    lists = lists;
    told = same_runs held lists (sym (ap runs_of t ∙ runs_end runs)) r;
    rising = a;
    apart = subst (λ x. AreApart true (befores true x lists) (rests true x lists)) (sym t) (apart_end runs lists (rests true (map end_line runs) lists));
    pairs_are =
        ap reverse (live_below_places nat_list_cmp_total low None lists a ∙ ap (live key_cmp (from_low key_cmp low)) (fronts_all lists))
        ∙ sym (live_reverse nat_list_cmp_total keys_alike (from_low key_cmp low) lists a)
        ∙ ap (live (λ c d. key_cmp d c) (from_low key_cmp low)) (sym (rests_end held runs lists r))
        ∙ ap (λ x. live (λ c d. key_cmp d c) (from_low key_cmp low) (rests true x lists)) (sym t)
        ∙ ap (λ x. live (λ c d. key_cmp d c) (Rattle.cola_cursor.specs.Way.within_end true x) (rests true cursor.lines.items lists)) (sym n);
  });
  places = λ lists r. ap (map ahead_of) t ∙ ahead_end held runs lists r;
  exact = ap (map ahead_of) t ∙ lengths_end runs;
  begins = (ap runs_of t ∙ runs_end runs, n, f);
  stands = subst (λ (b : Bool). StandsAlong b held cursor) (sym f) (record {
    fit = subst (AllByRecursion (LineFits true held)) (sym t) (fit_end held runs h);
    apart = λ lists r a. subst (λ x. AreApart true (befores true x lists) (rests true x lists)) (sym t) (apart_end runs lists (rests true (map end_line runs) lists));
  });
  left = (
      let m = few_cells held 0 runs h l (omega arith) in
      let e = ap all_left t in
      let g = left_end runs in
      omega arith);
}

-- ---- the three beginnings

-- the pairs up to a bound are those below the least string above it
up_to_over : (low : Option (List ℕ)) (high : List ℕ) (lists : List (List LawCell)) →
    live key_cmp (λ k. from_low key_cmp low k && below_end key_cmp (Some (over_key high)) k) lists ≡ live key_cmp (within_bounds key_cmp low (Included high)) lists
up_to_over low high lists =
    ap (λ (f : List ℕ → Bool). live key_cmp f lists) (fun_ext (λ (k : List ℕ). ap (λ b. from_low key_cmp low k && b) (over k high)))

module _ {runs : List Run} {low : Option (List ℕ)} {high : List ℕ} {old new : State} {before after : ℕ} where
  pub back_over : (result : Result Cursor ReadFault) → TurnedGives runs low (over_key high) old new before after result → SeekBackGives runs low (Included high) old new before after result
  back_over result h = record {
    ahead = λ lists r a. seen result lists (h.ahead lists r a);
    places = h.places;
    exact = h.exact;
    begins = h.begins;
    stands = h.stands;
    costs = h.costs;
    left = h.left;
    unread = λ e. cc;
    reading = h.reading;
    cause = h.cause;
  }
    where
      seen : (result : Result Cursor ReadFault) (lists : List (List LawCell)) →
          IfOk result (λ cursor. Ahead old.held cursor (reverse (live key_cmp (λ k. from_low key_cmp low k && below_end key_cmp (Some (over_key high)) k) lists))) →
          IfOk result (λ cursor. Ahead old.held cursor (reverse (live key_cmp (within_bounds key_cmp low (Included high)) lists)))
      seen (Ok cursor) lists h = subst (λ x. Ahead old.held cursor (reverse x)) (up_to_over low high lists) h
      seen (Err fault) lists h = tt

  pub back_below : (result : Result Cursor ReadFault) → TurnedGives runs low high old new before after result → SeekBackGives runs low (Excluded high) old new before after result
  back_below result h = record {
    ahead = h.ahead;
    places = h.places;
    exact = h.exact;
    begins = h.begins;
    stands = h.stands;
    costs = h.costs;
    left = h.left;
    unread = λ e. cc;
    reading = h.reading;
    cause = h.cause;
  }

pub back_at_end : {runs : List Run} {low : Option (List ℕ)} (state : State) (steps : ℕ) (cursor : Cursor) → EndGives state.held runs low cursor → SeekBackGives runs low Unbounded state state steps steps (Ok cursor)
back_at_end state steps cursor h = record {
  ahead = h.ahead;
  places = h.places;
  exact = h.exact;
  begins = h.begins;
  stands = h.stands;
  costs = costs_within (costs_none state.spent steps) (omega arith) (omega arith);
  left = (let l = h.left in omega arith);
  unread = λ e. (refl, refl, refl);
  reading = reading_none state steps;
  cause = tt;
}
