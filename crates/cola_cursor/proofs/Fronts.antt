-- The cells at the front of a line.
use Rattle.std.proofs.Common.{◌≡◌, ◌⊎◌, inl, inr, ℕ, suc, ◌+◌, ◌≤◌, ◌<◌, true, false, cond, List, [], ◌∷◌, length, drop, get_or, Option, None, Some, IsTrue, option_map, is_some, refl, sym, ap, subst, ◌∙◌, arith, Bool}
use Rattle.std.specs.Option.{option_or}
use Rattle.std.specs.Ordering.{is_eq}
use Rattle.std.proofs.Math.Seq.{drop-cons}
use Rattle.std.proofs.lemmas.List.{drop_all}
use Rattle.cola_runs.specs.Cells as laws
use Rattle.cola_cell.specs.declared.cell.Cell.{Cell}
use Rattle.cola_cell.specs.declared.cell.Cell.TheVariants as cell
use Rattle.cola_cell.specs.declared.cell.Item.{Item}
use Rattle.cola_cell.specs.declared.cell.Run.{Run}
use Rattle.cola_cell.specs.Cell.{key_of}
use Rattle.cola_cell.specs.Held.{Held, Told, Tells, LawCell, as_cell, as_item}
use Rattle.cola_cell.specs.Listed.{IsRun}
use Rattle.cola_cell.proofs.RunLemmas.{run_tells, given_is_told}
use Rattle.cola_cell.specs.Order.{key_cmp}
use Rattle.cola_look.specs.Runs.{HasRun}
use Rattle.cola_pairs.specs.Walk.{pass_key, passed_item}
use Rattle.cola_cursor.specs.declared.line.Line.{Line}
use Rattle.cola_cursor.specs.Lines.{HeadFits, HeadIsRead, LineFits, IsReady}
use Rattle.cola_cursor.specs.Passing.{has_key, PassedAt, FoundItem, Passes}
use Rattle.cola_cursor.specs.Results.{Fetches, item_of, is_value}
use Rattle.cola_look.proofs.KeyLemmas.{key_same, same_key}
use Rattle.cola_cursor.proofs.Keys.{way_length, way_get, at_within}
use Rattle.cola_cursor.specs.Way.{way, at, spot_at}

module _ (falls : Bool) where
  -- a line on its way past the cells of a key, by what is left of them
  pub record Passing (held : Held) (key : List ℕ) (old new : Line) (item : Option Item) : Type 0 where
    pub run_is : new.run ≡ old.run
    pub goes : old.place ≤ new.place
    pub moves : IsTrue (has_key key old.head) → (old.place < new.place) ⊎ IsTrue (has_key key new.head)
    pub fits : LineFits falls held new
    pub ready : IsReady new
    pub cells : (j : ℕ) → old.place ≤ j → j < new.place → PassedAt falls held old key j (is_some item)
    pub found : (i : Item) → item ≡ Some i → FoundItem falls held old key new.place i
    pub told : (cells : List LawCell) → IsRun held old.run cells → pass_key key_cmp key (drop new.place (way falls cells)) ≡ pass_key key_cmp key (drop old.place (way falls cells))
    pub item_is : (cells : List LawCell) → IsRun held old.run cells →
        option_or (option_map as_item item) (passed_item key_cmp key (drop new.place (way falls cells))) ≡ passed_item key_cmp key (drop old.place (way falls cells))

  pub passing_begins : (held : Held) (key : List ℕ) (line : Line) → LineFits falls held line → IsReady line → Passing held key line line None
  passing_begins held key line f r = record {
    run_is = refl;
    goes = omega arith;
    moves = λ h. inr h;
    fits = f;
    ready = r;
    cells = λ j a b. absurd (omega arith);
    found = λ i e. cc;
    told = λ cells h. refl;
    item_is = λ cells h. refl;
  }

  -- the cell at the place of a told run
  front_is : (held : Held) (run : Run) (place : ℕ) (c : LawCell) (cells : List LawCell) → place < run.len → Tells (spot_at falls held run place) (Told c) → IsRun held run cells →
      drop place (way falls cells) ≡ c ∷ drop (place + 1) (way falls cells)
  front_is held run place c cells l t h =
      let d : LawCell = laws.Look [] 0 in
      let e = h.length_is in
      let n : length (way falls cells) ≡ length cells = way_length falls cells in
      let here = given_is_told (spot_at falls held run place) (get_or cells (at falls run.len place) d) c (run_tells held run cells (at falls run.len place) d h (at_within falls run.len place l)) t in
      let f : suc place ≡ place + 1 = omega arith in
      drop-cons (way falls cells) place d (omega arith)
      ∙ ap (λ x. x ∷ drop (suc place) (way falls cells)) (way_get falls cells place d (omega arith) ∙ ap (λ m. get_or cells (at falls m place) d) (sym e) ∙ here)
      ∙ ap (λ m. c ∷ drop m (way falls cells)) f

  -- a head with the key, as a cell
  record HeadCell (held : Held) (key : List ℕ) (line : Line) : Type 0 where
    cell : Cell
    is : line.head ≡ Some cell
    within : line.place < line.run.len
    told : Tells (spot_at falls held line.run line.place) (Told (as_cell cell))
    tied : is_eq (key_cmp key (key_of cell)) ≡ true

  head_cell : (held : Held) (key : List ℕ) (line : Line) → LineFits falls held line → has_key key line.head ≡ true → HeadCell held key line
  head_cell held key line f e = go line.head refl f.head e
    where
      go : (head : Option Cell) → line.head ≡ head → HeadFits falls held line.run line.place head → has_key key head ≡ true → HeadCell held key line
      go None is h e = cc
      go (Some cell) is h e = record { cell = cell; is = is; within = h.0; told = h.1; tied = e }

  front_passed : (key : List ℕ) (c : Cell) (cells : List LawCell) → is_eq (key_cmp key (key_of c)) ≡ true → pass_key key_cmp key (as_cell c ∷ cells) ≡ pass_key key_cmp key cells
  front_passed key (cell.Item k i y l) cells e = ap (λ b. cond b (pass_key key_cmp key cells) (laws.Entry k (as_item i) y l ∷ cells)) e
  front_passed key (cell.Look k l) cells e = ap (λ b. cond b (pass_key key_cmp key cells) (laws.Look k l ∷ cells)) e

  front_item : (key : List ℕ) (c : Cell) (cells : List LawCell) (item : Option Item) → is_eq (key_cmp key (key_of c)) ≡ true →
      option_or (option_map as_item item) (passed_item key_cmp key (as_cell c ∷ cells)) ≡ option_or (option_map as_item (option_or item (item_of (Some c)))) (passed_item key_cmp key cells)
  front_item key (cell.Item k i y l) cells None e = ap (λ b. cond b (Some (as_item i)) None) e
  front_item key (cell.Item k i y l) cells (Some j) e = refl
  front_item key (cell.Look k l) cells None e = ap (λ b. cond b (passed_item key_cmp key cells) None) e
  front_item key (cell.Look k l) cells (Some j) e = refl

  front_looks : (c : Cell) (item : Option Item) → is_some (option_or item (item_of (Some c))) ≡ false → IsTrue (laws.is_look (as_cell c))
  front_looks (cell.Item k i y l) None e = cc
  front_looks (cell.Item k i y l) (Some j) e = cc
  front_looks (cell.Look k l) item e = refl

  none_before : (item more : Option Item) → is_some (option_or item more) ≡ false → is_some item ≡ false
  none_before None more e = refl
  none_before (Some i) more e = e

  -- the item that was found first, or the one at the front
  found_is : (c : Cell) (item : Option Item) (i : Item) → option_or item (item_of (Some c)) ≡ Some i → (item ≡ Some i) ⊎ (item_of (Some c) ≡ Some i)
  found_is c None i e = inr e
  found_is c (Some j) i e = inl e

  front_found : (held : Held) (old : Line) (key : List ℕ) (place after : ℕ) (c : Cell) (i : Item) → old.place ≤ place → after ≡ place + 1 → is_eq (key_cmp key (key_of c)) ≡ true →
      Tells (spot_at falls held old.run place) (Told (as_cell c)) → item_of (Some c) ≡ Some i → FoundItem falls held old key after i
  front_found held old key place after (cell.Item k x y l) i a b e t f =
      let g : k ≡ key = sym (same_key key k e) in
      let h : x ≡ i = cc in
      record {
        index = place;
        from = a;
        before = omega arith;
        young = y;
        link = l;
        told = subst (λ (z : Item). Tells (spot_at falls held old.run place) (Told (laws.Entry key (as_item z) y l))) h
            (subst (λ (z : List ℕ). Tells (spot_at falls held old.run place) (Told (laws.Entry z (as_item x) y l))) g t);
      }
  front_found held old key place after (cell.Look k l) i a b e t f = cc

  -- the line behind its front cell stands in its run
  pub behind_fits : {held : Held} (key : List ℕ) {line behind : Line} → LineFits falls held line → has_key key line.head ≡ true → behind.run ≡ line.run → behind.place ≡ line.place + 1 → behind.head ≡ None → LineFits falls held behind
  behind_fits {held} key {line} {behind} f has run place head =
      let h = (head_cell held key line f has).within in
      record {
        run = subst (λ (r : Run). HasRun held r) (sym run) f.run;
        place_in = subst (λ (r : Run). behind.place ≤ r.len) (sym run) (omega arith);
        head = subst (λ (x : Option Cell). HeadFits falls held behind.run behind.place x) (sym head) tt;
      }

  pub has_room : {held : Held} (key : List ℕ) {line : Line} → LineFits falls held line → has_key key line.head ≡ true → line.place < line.run.len
  has_room {held} key {line} f has = (head_cell held key line f has).within

  module _ {held : Held} {key : List ℕ} {old line behind new : Line} {item : Option Item} (p : Passing held key old line item) (has : has_key key line.head ≡ true)
      (run : behind.run ≡ line.run) (place : behind.place ≡ line.place + 1) where
    pub passing_goes_on : Fetches falls held behind new → Passing held key old new (option_or item (item_of line.head))
    passing_goes_on f =
        let h = head_cell held key line p.fits has in
        let at : new.place ≡ line.place + 1 = f.place_is ∙ place in
        let in_old : Tells (spot_at falls held old.run line.place) (Told (as_cell h.cell)) = subst (λ (r : Run). Tells (spot_at falls held r line.place) (Told (as_cell h.cell))) p.run_is h.told in
        let front : (cells : List LawCell) → IsRun held old.run cells → drop line.place (way falls cells) ≡ as_cell h.cell ∷ drop (line.place + 1) (way falls cells) =
        λ cells r. front_is held old.run line.place (as_cell h.cell) cells (subst (λ (x : Run). line.place < x.len) p.run_is h.within) in_old r in
        let items : option_or item (item_of (Some h.cell)) ≡ option_or item (item_of line.head) = ap (λ x. option_or item (item_of x)) (sym h.is) in
        record {
          run_is = f.run_is ∙ run ∙ p.run_is;
          goes = let g = p.goes in omega arith;
          moves = λ t. inl (let g = p.goes in omega arith);
          fits = f.fits;
          ready = f.ready;
          cells = λ j a b. cell_at j a (let c : (j < line.place) ⊎ (j ≡ line.place) = grind arith in c) h.cell h.is h.tied in_old;
          found = λ i e. item_at i {c = h.cell} (found_is h.cell item i (items ∙ e)) h.is h.tied in_old at;
          told = λ cells r. ap (λ n. pass_key key_cmp key (drop n (way falls cells))) at ∙ sym (front_passed key h.cell (drop (line.place + 1) (way falls cells)) h.tied) ∙ ap (pass_key key_cmp key) (sym (front cells r)) ∙ p.told cells r;
          item_is = λ cells r.
              ap (λ x. option_or (option_map as_item x) (passed_item key_cmp key (drop new.place (way falls cells)))) (sym items)
              ∙ ap (λ n. option_or (option_map as_item (option_or item (item_of (Some h.cell)))) (passed_item key_cmp key (drop n (way falls cells)))) at
              ∙ sym (front_item key h.cell (drop (line.place + 1) (way falls cells)) item h.tied)
              ∙ ap (λ x. option_or (option_map as_item item) (passed_item key_cmp key x)) (sym (front cells r)) ∙ p.item_is cells r;
        }
      where
        cell_at : (j : ℕ) → old.place ≤ j → (j < line.place) ⊎ (j ≡ line.place) → (c : Cell) → line.head ≡ Some c → is_eq (key_cmp key (key_of c)) ≡ true →
            Tells (spot_at falls held old.run line.place) (Told (as_cell c)) → PassedAt falls held old key j (is_some (option_or item (item_of line.head)))
        cell_at j a (inl b) c is t told =
            let q = p.cells j a b in
            record { cell = q.cell; told = q.told; key_is = q.key_is; looks = λ e. q.looks (none_before item (item_of line.head) e) }
        cell_at j a (inr b) c is t told =
            record {
              cell = as_cell c;
              told = subst (λ n. Tells (spot_at falls held old.run n) (Told (as_cell c))) (sym b) told;
              key_is = key_same c ∙ sym (same_key key (key_of c) t);
              looks = λ e. front_looks c item (ap (λ x. is_some (option_or item (item_of x))) (sym is) ∙ e);
            }

        item_at : (i : Item) → {c : Cell} → (item ≡ Some i) ⊎ (item_of (Some c) ≡ Some i) → line.head ≡ Some c → is_eq (key_cmp key (key_of c)) ≡ true →
            Tells (spot_at falls held old.run line.place) (Told (as_cell c)) → new.place ≡ line.place + 1 → FoundItem falls held old key new.place i
        item_at i {c} (inl e) is t told at =
            let q = p.found i e in
            let b = q.before in
            record { index = q.index; from = q.from; before = omega arith; young = q.young; link = q.link; told = q.told }
        item_at i {c} (inr e) is t told at = front_found held old key line.place new.place c i p.goes at t told e

  -- the same where no cell of the key is left at the front
  -- at a front cell of another key all are passed
  pass_stops : (key : List ℕ) (head : Option Cell) (cells : List LawCell) → has_key key head ≡ false → (head ≡ None → cells ≡ []) → ((c : Cell) → head ≡ Some c → (rest : List LawCell) × (cells ≡ as_cell c ∷ rest)) →
      (pass_key key_cmp key cells ≡ cells) × (passed_item key_cmp key cells ≡ None)
  pass_stops key None cells e n s = let f = n refl in rw f (refl, refl)
  pass_stops key (Some (cell.Item k i y l)) cells e n s = let f = s (cell.Item k i y l) refl in rw f.1 (rw e (refl, refl))
  pass_stops key (Some (cell.Look k l)) cells e n s = let f = s (cell.Look k l) refl in rw f.1 (rw e (refl, refl))

  -- what a told line that is ready has at its front
  pub ready_front : (held : Held) (line : Line) → LineFits falls held line → IsReady line → (cells : List LawCell) → IsRun held line.run cells →
      (line.head ≡ None → drop line.place (way falls cells) ≡ []) × ((c : Cell) → line.head ≡ Some c → drop line.place (way falls cells) ≡ as_cell c ∷ drop (line.place + 1) (way falls cells))
  ready_front held line f r cells h = go line.head refl f.head r
    where
      go : (head : Option Cell) → line.head ≡ head → HeadFits falls held line.run line.place head → HeadIsRead line.place line.run.len head →
          (line.head ≡ None → drop line.place (way falls cells) ≡ []) × ((c : Cell) → line.head ≡ Some c → drop line.place (way falls cells) ≡ as_cell c ∷ drop (line.place + 1) (way falls cells))
      go None is t e = (λ n. drop_all line.place (way falls cells) (let l = h.length_is in let m = way_length falls cells in omega arith), λ c i. cc)
      go (Some d) is t e = (λ n. cc, λ c i. let s : d ≡ c = cc in subst (λ (x : Cell). drop line.place (way falls cells) ≡ as_cell x ∷ drop (line.place + 1) (way falls cells)) s (front_is held line.run line.place (as_cell d) cells t.0 t.1 h))

  pub or_none : {X : Type 0} (a : Option X) → option_or a None ≡ a
  or_none None = refl
  or_none (Some x) = refl

  pub passing_ends : {held : Held} {key : List ℕ} {old new : Line} {item : Option Item} → Passing held key old new item → has_key key new.head ≡ false → Passes falls held key old new item
  passing_ends {held} {key} {old} {new} {item} p e =
      let stops : (cells : List LawCell) → IsRun held old.run cells → (pass_key key_cmp key (drop new.place (way falls cells)) ≡ drop new.place (way falls cells)) × (passed_item key_cmp key (drop new.place (way falls cells)) ≡ None) =
      λ cells r.
      let fr = ready_front held new p.fits p.ready cells (subst (λ (x : Run). IsRun held x cells) (sym p.run_is) r) in
      pass_stops key new.head (drop new.place (way falls cells)) e fr.0 (λ c i. (drop (new.place + 1) (way falls cells), fr.1 c i)) in
      record {
        run_is = p.run_is;
        goes = p.goes;
        moves = λ t. moved (p.moves t);
        fits = p.fits;
        ready = p.ready;
        cells = p.cells;
        found = p.found;
        told = λ cells r. sym (stops cells r).0 ∙ p.told cells r;
        item_is = λ cells r. sym (or_none (option_map as_item item)) ∙ ap (option_or (option_map as_item item)) (sym (stops cells r).1) ∙ p.item_is cells r;
      }
    where
      moved : (old.place < new.place) ⊎ IsTrue (has_key key new.head) → old.place < new.place
      moved (inl h) = h
      moved (inr h) = let f : true ≡ false = sym h ∙ e in cc

-- a value at the front stays the first item that is found
pub value_stays : (old line : Line) (item joined : Option Item) → joined ≡ option_or item (item_of line.head) → is_value (item_of old.head) ≡ true → (is_value item ≡ true) ⊎ ((item ≡ None) × (line ≡ old)) → is_value joined ≡ true
value_stays old line None joined j v (inl e) = cc
value_stays old line None joined j v (inr e) = ap is_value (j ∙ ap (λ (x : Line). item_of x.head) e.1) ∙ v
value_stays old line (Some i) joined j v (inl e) = ap is_value j ∙ e
value_stays old line (Some i) joined j v (inr e) = let f = e.0 in cc

-- and it is found where the key of the front was passed
pub value_found : (old line : Line) (item : Option Item) (key : List ℕ) → has_key key line.head ≡ false → has_key key old.head ≡ true → (is_value item ≡ true) ⊎ ((item ≡ None) × (line ≡ old)) → is_value item ≡ true
value_found old line item key n h (inl e) = e
value_found old line item key n h (inr e) = let f = sym h ∙ sym (ap (λ (x : Line). has_key key x.head) e.1) ∙ n in cc
