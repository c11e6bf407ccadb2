-- A step of a cursor: what it keeps, and what it does to the rests of told runs.
use Rattle.std.proofs.Common.{◌≡◌, inl, inr, ℕ, zero, suc, ◌+◌, ◌≤◌, ◌<◌, true, false, cond, List, [], ◌∷◌, length, take, drop, Option, None, Some, option_map, refl, sym, ap, subst, ◌∙◌, arith, length-drop, Less, Bool}
use Rattle.std.specs.Option.{option_or}
use Rattle.std.specs.Ordering.{is_lt, is_eq}
use Rattle.std.specs.List.{AllByRecursion}
use Rattle.cola_runs.specs.Cells as laws
use Rattle.cola_cell.specs.declared.cell.Cell.{Cell}
use Rattle.cola_cell.specs.declared.cell.Item.{Item}
use Rattle.cola_cell.specs.declared.cell.Run.{Run}
use Rattle.cola_cell.specs.Cell.{key_of}
use Rattle.cola_cell.specs.Held.{Held, LawCell, as_cell, as_item}
use Rattle.cola_cell.specs.Spent.{IsBad}
use Rattle.cola_cell.specs.Order.{key_cmp}
use Rattle.cola_look.specs.Runs.{AreRuns}
use Rattle.cola_pairs.specs.Live.{live, with_answer}
use Rattle.cola_pairs.specs.Walk.{AtHead, pass_key, pass_keys, passed_item, first_passed, KeysOnward, HeadsFrom, HeadsOut}
use Rattle.cola_pairs.proofs.Order.{all_change}
use Rattle.cola_pairs.proofs.Onward.{all_left_keep, live_step, first_is_answer, passed_above}
use Rattle.cola_cursor.specs.Way.{way_cmp, within_end, way, at}
use Rattle.cola_cursor.specs.declared.line.Line.{Line}
use Rattle.cola_cursor.specs.Lines.{LineFits, IsReady, HasBadAhead, all_ahead}
use Rattle.cola_cursor.specs.Passing.{PassAll}
use Rattle.cola_cursor.specs.Results.{FetchAll, HasBadLine}
use Rattle.cola_cursor.specs.Standing.{runs_of, rests, befores, AreApart}
use Rattle.cola_look.proofs.KeyLemmas.{key_same, same_key}
use Rattle.cola_cursor.proofs.Keys.{way_total, way_alike, way_first, way_passes, way_onward}
use Rattle.cola_cursor.proofs.Fronts.{ready_front}
use Rattle.cola_runs.proofs.Order.{by_bool}
use Rattle.cola_cursor.proofs.Least.{HeadPast, HeadFrom, AnyHas, past_within}

module _ (falls : Bool) where
  -- ---- a bad cell ahead

  bad_ahead : (held : Held) (old new : Line) (number : ℕ) → new.run ≡ old.run → old.place ≤ new.place → HasBadAhead falls held new number → HasBadAhead falls held old number
  bad_ahead held old new number run goes b =
      let e : new.run.len ≡ old.run.len = ap (λ (r : Run). r.len) run in
      let f = b.from in let w = b.within in
      record {
        index = b.index;
        from = omega arith;
        within = omega arith;
        bad = subst (λ (r : Run). IsBad held r.level r.slot (at falls r.len b.index) number) run b.bad;
      }

  -- ---- lines with their next cells read

  pub fetch_runs : (held : Held) (olds news : List Line) → FetchAll falls held olds news → runs_of news ≡ runs_of olds
  fetch_runs held [] [] h = refl
  fetch_runs held [] (n ∷ news) h = absurd h
  fetch_runs held (o ∷ olds) [] h = absurd h
  fetch_runs held (o ∷ olds) (n ∷ news) h = let e = h.0.run_is in let f = fetch_runs held olds news h.1 in cc

  pub fetch_fit : (held : Held) (olds news : List Line) → FetchAll falls held olds news → AllByRecursion (LineFits falls held) news
  fetch_fit held [] [] h = tt
  fetch_fit held [] (n ∷ news) h = absurd h
  fetch_fit held (o ∷ olds) [] h = absurd h
  fetch_fit held (o ∷ olds) (n ∷ news) h = (h.0.fits, fetch_fit held olds news h.1)

  pub fetch_ready : (held : Held) (olds news : List Line) → FetchAll falls held olds news → AllByRecursion IsReady news
  fetch_ready held [] [] h = tt
  fetch_ready held [] (n ∷ news) h = absurd h
  fetch_ready held (o ∷ olds) [] h = absurd h
  fetch_ready held (o ∷ olds) (n ∷ news) h = (h.0.ready, fetch_ready held olds news h.1)

  pub fetch_bad : (held : Held) (olds news : List Line) (number : ℕ) → FetchAll falls held olds news → HasBadLine falls held number news → HasBadLine falls held number olds
  fetch_bad held [] [] number h b = b
  fetch_bad held [] (n ∷ news) number h b = absurd h
  fetch_bad held (o ∷ olds) [] number h b = absurd h
  fetch_bad held (o ∷ olds) (n ∷ news) number h (inl b) = inl (bad_ahead held o n number h.0.run_is (let e = h.0.place_is in omega arith) b)
  fetch_bad held (o ∷ olds) (n ∷ news) number h (inr b) = inr (fetch_bad held olds news number h.1 b)

  pub fetch_rests : (held : Held) (olds news : List Line) (lists : List (List LawCell)) → FetchAll falls held olds news → rests falls news lists ≡ rests falls olds lists
  fetch_rests held [] [] lists h = refl
  fetch_rests held [] (n ∷ news) lists h = absurd h
  fetch_rests held (o ∷ olds) [] lists h = absurd h
  fetch_rests held (o ∷ olds) (n ∷ news) [] h = refl
  fetch_rests held (o ∷ olds) (n ∷ news) (cells ∷ lists) h =
      ap (λ p. drop p (way falls cells) ∷ rests falls news lists) h.0.place_is ∙ ap (λ r. drop o.place (way falls cells) ∷ r) (fetch_rests held olds news lists h.1)

  pub fetch_befores : (held : Held) (olds news : List Line) (lists : List (List LawCell)) → FetchAll falls held olds news → befores falls news lists ≡ befores falls olds lists
  fetch_befores held [] [] lists h = refl
  fetch_befores held [] (n ∷ news) lists h = absurd h
  fetch_befores held (o ∷ olds) [] lists h = absurd h
  fetch_befores held (o ∷ olds) (n ∷ news) [] h = refl
  fetch_befores held (o ∷ olds) (n ∷ news) (cells ∷ lists) h =
      ap (λ p. take p (way falls cells) ∷ befores falls news lists) h.0.place_is ∙ ap (λ r. take o.place (way falls cells) ∷ r) (fetch_befores held olds news lists h.1)

  -- ---- lines that passed a key

  module _ (held : Held) (key : List ℕ) where
    pub pass_runs : (olds news : List Line) (item : Option Item) → PassAll falls held key olds news item → runs_of news ≡ runs_of olds
    pass_runs [] [] item h = refl
    pass_runs [] (n ∷ news) item h = absurd h
    pass_runs (o ∷ olds) [] item h = absurd h
    pass_runs (o ∷ olds) (n ∷ news) item h = let e = h.2.run_is in let f = pass_runs olds news h.1 h.3 in cc

    pub pass_fit : (olds news : List Line) (item : Option Item) → PassAll falls held key olds news item → AllByRecursion (LineFits falls held) news
    pass_fit [] [] item h = tt
    pass_fit [] (n ∷ news) item h = absurd h
    pass_fit (o ∷ olds) [] item h = absurd h
    pass_fit (o ∷ olds) (n ∷ news) item h = (h.2.fits, pass_fit olds news h.1 h.3)

    pub pass_ready : (olds news : List Line) (item : Option Item) → PassAll falls held key olds news item → AllByRecursion IsReady news
    pass_ready [] [] item h = tt
    pass_ready [] (n ∷ news) item h = absurd h
    pass_ready (o ∷ olds) [] item h = absurd h
    pass_ready (o ∷ olds) (n ∷ news) item h = (h.2.ready, pass_ready olds news h.1 h.3)

    pub pass_bad : (olds news : List Line) (item : Option Item) (number : ℕ) → PassAll falls held key olds news item → HasBadLine falls held number news → HasBadLine falls held number olds
    pass_bad [] [] item number h b = b
    pass_bad [] (n ∷ news) item number h b = absurd h
    pass_bad (o ∷ olds) [] item number h b = absurd h
    pass_bad (o ∷ olds) (n ∷ news) item number h (inl b) = inl (bad_ahead held o n number h.2.run_is h.2.goes b)
    pass_bad (o ∷ olds) (n ∷ news) item number h (inr b) = inr (pass_bad olds news h.1 number h.3 b)

    pass_same : (olds news : List Line) (item : Option Item) → PassAll falls held key olds news item → all_ahead news ≤ all_ahead olds
    pass_same [] [] item h = omega arith
    pass_same [] (n ∷ news) item h = absurd h
    pass_same (o ∷ olds) [] item h = absurd h
    pass_same (o ∷ olds) (n ∷ news) item h =
        let r = pass_same olds news h.1 h.3 in
        let e : n.run.len ≡ o.run.len = ap (λ (x : Run). x.len) h.2.run_is in
        let g = h.2.goes in
        omega arith

    -- a step over a key that a head has passes a cell
    pub pass_less : (olds news : List Line) (item : Option Item) → PassAll falls held key olds news item → AnyHas falls key olds → all_ahead news < all_ahead olds
    pass_less [] [] item h a = absurd a
    pass_less [] (n ∷ news) item h a = absurd h
    pass_less (o ∷ olds) [] item h a = absurd h
    pass_less (o ∷ olds) (n ∷ news) item h (inl a) =
        let r = pass_same olds news h.1 h.3 in
        let e : n.run.len ≡ o.run.len = ap (λ (x : Run). x.len) h.2.run_is in
        let g = h.2.moves a in
        let f = h.2.fits.place_in in
        omega arith
    pass_less (o ∷ olds) (n ∷ news) item h (inr a) =
        let r = pass_less olds news h.1 h.3 a in
        let e : n.run.len ≡ o.run.len = ap (λ (x : Run). x.len) h.2.run_is in
        let g = h.2.goes in
        omega arith

    pub pass_rests : (olds news : List Line) (item : Option Item) (lists : List (List LawCell)) → PassAll falls held key olds news item → AreRuns held (runs_of olds) lists →
        rests falls news lists ≡ pass_keys key_cmp key (rests falls olds lists)
    pass_rests [] [] item lists h r = refl
    pass_rests [] (n ∷ news) item lists h r = absurd h
    pass_rests (o ∷ olds) [] item lists h r = absurd h
    pass_rests (o ∷ olds) (n ∷ news) item [] h r = absurd r
    pass_rests (o ∷ olds) (n ∷ news) item (cells ∷ lists) h r =
        ap (λ x. x ∷ rests falls news lists) (h.2.told cells r.0) ∙ ap (λ x. pass_key key_cmp key (drop o.place (way falls cells)) ∷ x) (pass_rests olds news h.1 lists h.3 r.1)

    or_mapped : {X Y : Type 0} (f : X → Y) (a b : Option X) → option_map f (option_or a b) ≡ option_or (option_map f a) (option_map f b)
    or_mapped f None b = refl
    or_mapped f (Some x) b = refl

    pub pass_item : (olds news : List Line) (item : Option Item) (lists : List (List LawCell)) → PassAll falls held key olds news item → AreRuns held (runs_of olds) lists →
        option_map as_item item ≡ first_passed key_cmp key (rests falls olds lists)
    pass_item [] [] item [] h r = ap (option_map as_item) h
    pass_item [] [] item (cells ∷ lists) h r = absurd r
    pass_item [] (n ∷ news) item lists h r = absurd h
    pass_item (o ∷ olds) [] item lists h r = absurd h
    pass_item (o ∷ olds) (n ∷ news) item [] h r = absurd r
    pass_item (o ∷ olds) (n ∷ news) item (cells ∷ lists) h r =
        ap (option_map as_item) h.4 ∙ or_mapped as_item h.0 h.1
        ∙ ap (λ x. option_or x (option_map as_item h.1)) (h.2.item_is cells r.0)
        ∙ ap (option_or (passed_item key_cmp key (drop o.place (way falls cells)))) (pass_item olds news h.1 lists h.3 r.1)

  -- ---- the fronts of told runs

  module _ (held : Held) (end : Option (List ℕ)) where
    pub heads_from : (k : List ℕ) (lines : List Line) (lists : List (List LawCell)) → AllByRecursion (LineFits falls held) lines → AllByRecursion IsReady lines → AreRuns held (runs_of lines) lists →
        within_end falls end k ≡ true → AllByRecursion (λ line. HeadFrom falls end k line.head) lines → HeadsFrom (way_cmp falls) k (rests falls lines lists)
    heads_from k [] lists f y r b h = tt
    heads_from k (line ∷ lines) [] f y r b h = absurd r
    heads_from k (line ∷ lines) (cells ∷ lists) f y r b h =
        let fr = ready_front falls held line f.0 y.0 cells r.0 in
        (head line.head h.0 fr.0 fr.1, heads_from k lines lists f.1 y.1 r.1 b h.1)
      where
        head : (x : Option Cell) → HeadFrom falls end k x → (x ≡ None → drop line.place (way falls cells) ≡ []) → ((c : Cell) → x ≡ Some c → drop line.place (way falls cells) ≡ as_cell c ∷ drop (line.place + 1) (way falls cells)) →
            AtHead (λ q. is_lt (way_cmp falls q k) ≡ false) (drop line.place (way falls cells))
        head None h n s = subst (AtHead (λ q. is_lt (way_cmp falls q k) ≡ false)) (sym (n refl)) tt
        head (Some c) (inl h) n s = subst (AtHead (λ q. is_lt (way_cmp falls q k) ≡ false)) (sym (s c refl)) (ap (λ q. is_lt (way_cmp falls q k)) (key_same c) ∙ past_within falls end (key_of c) k h b)
        head (Some c) (inr h) n s = subst (AtHead (λ q. is_lt (way_cmp falls q k) ≡ false)) (sym (s c refl)) (ap (λ q. is_lt (way_cmp falls q k)) (key_same c) ∙ h)

    pub heads_past : (lines : List Line) (lists : List (List LawCell)) → AllByRecursion (LineFits falls held) lines → AllByRecursion IsReady lines → AreRuns held (runs_of lines) lists →
        AllByRecursion (λ line. HeadPast falls end line.head) lines → HeadsOut (within_end falls end) (rests falls lines lists)
    heads_past [] lists f y r h = tt
    heads_past (line ∷ lines) [] f y r h = absurd r
    heads_past (line ∷ lines) (cells ∷ lists) f y r h =
        let fr = ready_front falls held line f.0 y.0 cells r.0 in
        (head line.head h.0 fr.0 fr.1, heads_past lines lists f.1 y.1 r.1 h.1)
      where
        head : (x : Option Cell) → HeadPast falls end x → (x ≡ None → drop line.place (way falls cells) ≡ []) → ((c : Cell) → x ≡ Some c → drop line.place (way falls cells) ≡ as_cell c ∷ drop (line.place + 1) (way falls cells)) →
            AtHead (λ q. within_end falls end q ≡ false) (drop line.place (way falls cells))
        head None h n s = subst (AtHead (λ q. within_end falls end q ≡ false)) (sym (n refl)) tt
        head (Some c) h n s = subst (AtHead (λ q. within_end falls end q ≡ false)) (sym (s c refl)) (ap (within_end falls end) (key_same c) ∙ h)

  onward_drop : (n : ℕ) (cells : List LawCell) → KeysOnward (way_cmp falls) cells → KeysOnward (way_cmp falls) (drop n cells)
  onward_drop zero cells h = h
  onward_drop (suc n) [] h = h
  onward_drop (suc n) (c ∷ cells) h = onward_drop n cells h.1

  pub onward_rests : (lines : List Line) (lists : List (List LawCell)) → AllByRecursion (laws.IsRising key_cmp) lists → AllByRecursion (KeysOnward (way_cmp falls)) (rests falls lines lists)
  onward_rests [] lists h = tt
  onward_rests (line ∷ lines) [] h = tt
  onward_rests (line ∷ lines) (cells ∷ lists) h = (onward_drop line.place (way falls cells) (way_onward falls cells h.0), onward_rests lines lists h.1)

  -- what a step leaves of the live pairs
  pub step_lives : (held : Held) (end : Option (List ℕ)) (k : List ℕ) (olds news : List Line) (item : Option Item) (lists : List (List LawCell)) → PassAll falls held k olds news item → AreRuns held (runs_of olds) lists →
      AllByRecursion (laws.IsRising key_cmp) lists → within_end falls end k ≡ true → HeadsFrom (way_cmp falls) k (rests falls olds lists) →
      live (way_cmp falls) (within_end falls end) (rests falls olds lists) ≡ with_answer k (option_map as_item item) (live (way_cmp falls) (within_end falls end) (rests falls news lists))
  step_lives held end k olds news item lists h r rise b heads =
      live_step (way_total falls) (way_alike falls) (within_end falls end) k (rests falls olds lists) (onward_rests olds lists rise) heads b
      ∙ ap (λ a. with_answer k a (live (way_cmp falls) (within_end falls end) (pass_keys (way_cmp falls) k (rests falls olds lists))))
      (sym (pass_item held k olds news item lists h r ∙ sym (way_first falls k (rests falls olds lists)) ∙ first_is_answer (way_total falls) k (rests falls olds lists) (onward_rests olds lists rise) heads))
      ∙ ap (λ x. with_answer k (option_map as_item item) (live (way_cmp falls) (within_end falls end) x)) (way_passes falls k (rests falls olds lists) ∙ sym (pass_rests held k olds news item lists h r))

  -- ---- keys before the places, and those at or after them

  module _ (k : List ℕ) where
    fronts : (P : LawCell → Type 0) (m : ℕ) (cells : List LawCell) → drop m cells ≡ pass_key key_cmp k cells → ((c : LawCell) → laws.key_of c ≡ k → P c) → AllByRecursion P (take m cells)
    fronts P zero [] e f = tt
    fronts P zero (c ∷ cells) e f = tt
    fronts P (suc m) [] e f = tt
    fronts P (suc m) (c ∷ cells) e f =
        by_bool (λ b. is_eq (key_cmp k (laws.key_of c)) ≡ b → drop m cells ≡ cond b (pass_key key_cmp k cells) (c ∷ cells) → AllByRecursion P (c ∷ take m cells))
        (λ t g. (f c (sym (same_key k (laws.key_of c) t)), fronts P m cells g f))
        (λ t g. let l = ap length g in let d = length-drop m cells in absurd (omega arith))
        (is_eq (key_cmp k (laws.key_of c))) refl e

    taken_passed : (P : LawCell → Type 0) (n m : ℕ) (cells : List LawCell) → n ≤ m → drop m cells ≡ pass_key key_cmp k (drop n cells) → AllByRecursion P (take n cells) → ((c : LawCell) → laws.key_of c ≡ k → P c) →
        AllByRecursion P (take m cells)
    taken_passed P zero m cells l e h f = fronts P m cells e f
    taken_passed P (suc n) zero cells l e h f = absurd (omega arith)
    taken_passed P (suc n) (suc m) [] l e h f = tt
    taken_passed P (suc n) (suc m) (c ∷ cells) l e h f = (h.0, taken_passed P n m cells (omega arith) e h.1 f)

    above_way : (lists : List (List LawCell)) → AllByRecursion (KeysOnward (way_cmp falls)) lists → HeadsFrom (way_cmp falls) k lists → AllByRecursion (AllByRecursion (λ d. way_cmp falls k (laws.key_of d) ≡ Less)) (pass_keys (way_cmp falls) k lists)
    above_way [] h p = tt
    above_way (cells ∷ lists) h p = (passed_above (way_total falls) k cells h.0 p.0, above_way lists h.1 p.1)

    all_above : (lists : List (List LawCell)) → AllByRecursion (KeysOnward (way_cmp falls)) lists → HeadsFrom (way_cmp falls) k lists → AllByRecursion (AllByRecursion (λ d. way_cmp falls k (laws.key_of d) ≡ Less)) (pass_keys key_cmp k lists)
    all_above lists h p = subst (AllByRecursion (AllByRecursion (λ d. way_cmp falls k (laws.key_of d) ≡ Less))) (way_passes falls k lists) (above_way lists h p)

    -- the cells before a list of places, by those before the places that a step left and by those with its key
    befores_passed : (held : Held) (P : LawCell → Type 0) (olds news : List Line) (item : Option Item) (lists : List (List LawCell)) → PassAll falls held k olds news item → AreRuns held (runs_of olds) lists →
        AllByRecursion (AllByRecursion P) (befores falls olds lists) → ((c : LawCell) → laws.key_of c ≡ k → P c) → AllByRecursion (AllByRecursion P) (befores falls news lists)
    befores_passed held P [] [] item lists h r a f = tt
    befores_passed held P [] (n ∷ news) item lists h r a f = absurd h
    befores_passed held P (o ∷ olds) [] item lists h r a f = absurd h
    befores_passed held P (o ∷ olds) (n ∷ news) item [] h r a f = absurd r
    befores_passed held P (o ∷ olds) (n ∷ news) item (cells ∷ lists) h r a f =
        (taken_passed P o.place n.place (way falls cells) h.2.goes (h.2.told cells r.0) a.0 f, befores_passed held P olds news h.1 lists h.3 r.1 a.1 f)

    -- a step keeps the places apart
    pub step_apart : (held : Held) (olds news : List Line) (item : Option Item) (lists : List (List LawCell)) → PassAll falls held k olds news item → AreRuns held (runs_of olds) lists →
        AllByRecursion (laws.IsRising key_cmp) lists → HeadsFrom (way_cmp falls) k (rests falls olds lists) → AreApart falls (befores falls olds lists) (rests falls olds lists) → AreApart falls (befores falls news lists) (rests falls news lists)
    step_apart held olds news item lists h r rise heads a =
        let Q : List (List LawCell) → LawCell → Type 0 = λ R c. AllByRecursion (AllByRecursion (λ d. way_cmp falls (laws.key_of c) (laws.key_of d) ≡ Less)) R in
        let R : List (List LawCell) = pass_keys key_cmp k (rests falls olds lists) in
        let same = pass_rests held k olds news item lists h r in
        let above = all_above (rests falls olds lists) (onward_rests olds lists rise) heads in
        let before : AllByRecursion (AllByRecursion (Q R)) (befores falls olds lists) =
        all_change (λ cells. all_change (λ c q. all_left_keep key_cmp (AllByRecursion (λ d. way_cmp falls (laws.key_of c) (laws.key_of d) ≡ Less)) (λ x xs p. p.1) k (rests falls olds lists) q) cells) (befores falls olds lists) a in
        subst (λ S. AllByRecursion (AllByRecursion (Q S)) (befores falls news lists)) (sym same)
        (befores_passed held (Q R) olds news item lists h r before (λ c e. subst (λ x. AllByRecursion (AllByRecursion (λ d. way_cmp falls x (laws.key_of d) ≡ Less)) R) (sym e) above))
