-- The cells at the front of a walk, and what a run says of a key as a walk passes them.
use Rattle.std.proofs.Common.{ℕ, arith, ◌≡◌, ◌⊎◌, inl, inr, suc, ◌+◌, ◌≤◌, ◌<◌, true, false, cond, List, [], ◌∷◌, length, drop, get_or, Option, None, Some, IsTrue, refl, sym, ap, subst, ◌∙◌, is_eq, drop-cons}
use Rattle.cola_check.proofs.Common.{drop_all, Seen, pass_key, Spent, costs_then, costs_within, Cell, Run, key_of, Held, Told, Tells, LawCell, Stamped, as_cell, as_item, key_cmp, run_tells, given_is_told, run_cells, length-cells}
use Rattle.cola_check.proofs.Common.{Value, Turns, HeadFits, HeadIsRead, WalkFits, IsReady, rest, has_key, found_of, found_or, as_seen, passed_seen, heads_of, unread, ahead, Fetches, Passes, Found, Walk, IsRunTold, Said, said_of}
use Rattle.cola_check.proofs.Common.{said_or, Hears}
use Rattle.cola_runs.proofs.AtKey.{over}
use Rattle.cola_cell.proofs.ToldRuns.{told_is}
use Rattle.cola_check.specs.declared.walk.Found.TheVariants.{Nothing, Old, Young}
use Rattle.cola_runs.specs.Cells as laws
use Rattle.cola_runs.specs.Seen as seen
use Rattle.cola_cell.specs.declared.cell.Cell.TheVariants as cell
use Rattle.cola_check.specs.declared.walk.Found.TheVariants as found

-- ---- what calls that read spend, one after another

pub turns_then : {a b c : Spent} {s t u : ℕ} → Turns a b s t → Turns b c t u → Turns a c s u
turns_then {a} {b} {c} {s} {t} {u} h k =
    costs_within (costs_then h k) (omega (arith, k.steps_stay, h.steps_stay)) (omega (arith, k.steps_stay, h.steps_stay))

-- ---- the cells at the front

-- the cell at a place of a told run
front_is : (held : Held) (run : Run) (at : ℕ) (c : LawCell) → at < run.len → Tells (held.spots run.level run.slot at) (Told c) → IsRunTold held run →
    drop at (run_cells held run) ≡ c ∷ drop (at + 1) (run_cells held run)
front_is held run at c l t h =
    let d : LawCell = laws.Look [] 0 in
    let cells : List LawCell = run_cells held run in
    let e : length cells ≡ run.len = length-cells (held.spots run.level run.slot) 0 run.len in
    let is = given_is_told (held.spots run.level run.slot at) (get_or cells at d) c (run_tells held run cells at d (told_is held run h) l) t in
    let f : suc at ≡ at + 1 = omega arith in
    drop-cons cells at d (omega arith) ∙ ap (λ x. x ∷ drop (suc at) cells) is ∙ ap (λ n. c ∷ drop n cells) f

-- what is left of a told run, by the head: nothing, or the head and what lies behind it
abbrev pub FrontIs : Held → Walk → Option Cell → Type 0
FrontIs held walk None = rest held walk ≡ []
FrontIs held walk (Some c) = rest held walk ≡ as_cell c ∷ drop (walk.at + 1) (run_cells held walk.run)

pub ready_front : (held : Held) (walk : Walk) → WalkFits held walk → IsReady walk → IsRunTold held walk.run → FrontIs held walk walk.head
ready_front held walk f r t = go walk.head f.head r
  where
    go : (head : Option Cell) → HeadFits held walk.run walk.at head → HeadIsRead walk.at walk.run.len head → FrontIs held walk head
    go None h e = drop_all walk.at (run_cells held walk.run) (let l = length-cells (held.spots walk.run.level walk.run.slot) 0 walk.run.len in omega arith)
    go (Some c) h e = front_is held walk.run walk.at (as_cell c) h.0 h.1 t

-- ---- one cell of the key at the front

front_passed : (key : List ℕ) (c : Cell) (cells : List LawCell) → is_eq (key_cmp key (key_of c)) ≡ true → pass_key key_cmp key (as_cell c ∷ cells) ≡ pass_key key_cmp key cells
front_passed key (cell.Item k i y l) cells e = ap (λ b. cond b (pass_key key_cmp key cells) (laws.Entry k (as_item i) y l ∷ cells)) e
front_passed key (cell.Look k l) cells e = ap (λ b. cond b (pass_key key_cmp key cells) (laws.Look k l ∷ cells)) e

over_found : (a b : Found) (s : Seen Stamped) → over (as_seen a) (over (as_seen b) s) ≡ over (as_seen (found_or a b)) s
over_found Nothing b s = refl
over_found _ b s = refl

front_seen : (key : List ℕ) (c : Cell) (cells : List LawCell) → is_eq (key_cmp key (key_of c)) ≡ true → passed_seen key (as_cell c ∷ cells) ≡ over (as_seen (found_of (Some c))) (passed_seen key cells)
front_seen key (cell.Item k i true l) cells e = ap (λ b. cond b (seen.Young (as_item i)) seen.Nothing) e
front_seen key (cell.Item k i false l) cells e = ap (λ b. cond b (seen.Old (as_item i)) seen.Nothing) e
front_seen key (cell.Look k l) cells e = ap (λ b. cond b (passed_seen key cells) seen.Nothing) e

-- ---- a walk on its way past the cells of a key, by what is left of them

pub record Passing (held : Held) (key : List ℕ) (old new : Walk) (found : Found) : Type 0 where
  pub run_is : new.run ≡ old.run
  pub reader_is : new.reader ≡ old.reader
  pub goes : old.at ≤ new.at
  pub moves : IsTrue (has_key key old.head) → (old.at < new.at) ⊎ IsTrue (has_key key new.head)
  pub fits : WalkFits held new
  pub ready : IsReady new
  pub rest_is : IsRunTold held old.run → pass_key key_cmp key (rest held new) ≡ pass_key key_cmp key (rest held old)
  pub found_is : IsRunTold held old.run → over (as_seen found) (passed_seen key (rest held new)) ≡ passed_seen key (rest held old)

pub passing_begins : (held : Held) (key : List ℕ) (walk : Walk) → WalkFits held walk → IsReady walk → Passing held key walk walk Nothing
passing_begins held key walk f r = record {
  run_is = refl;
  reader_is = refl;
  goes = omega arith;
  moves = λ h. inr h;
  fits = f;
  ready = r;
  rest_is = λ h. refl;
  found_is = λ h. refl;
}

-- a head with the key, as a cell
record HeadCell (held : Held) (key : List ℕ) (walk : Walk) : Type 0 where
  cell : Cell
  is : walk.head ≡ Some cell
  within : walk.at < walk.run.len
  tied : is_eq (key_cmp key (key_of cell)) ≡ true

head_cell : (held : Held) (key : List ℕ) (walk : Walk) → WalkFits held walk → has_key key walk.head ≡ true → HeadCell held key walk
head_cell held key walk f e = go walk.head refl f.head e
  where
    go : (head : Option Cell) → walk.head ≡ head → HeadFits held walk.run walk.at head → has_key key head ≡ true → HeadCell held key walk
    go None is h e = cc
    go (Some cell) is h e = record { cell = cell; is = is; within = h.0; tied = e }

pub has_room : {held : Held} (key : List ℕ) {walk : Walk} → WalkFits held walk → has_key key walk.head ≡ true → walk.at < walk.run.len
has_room {held} key {walk} f has = (head_cell held key walk f has).within

at_most_one : (head : Option Cell) → heads_of head ≤ 1
at_most_one None = omega arith
at_most_one (Some c) = omega arith

-- a walk that passes a cell has as much to read
pub unread_behind : (walk behind : Walk) → behind.run ≡ walk.run → behind.at ≡ walk.at + 1 → behind.head ≡ None → unread behind ≤ unread walk
unread_behind walk behind run at head =
    let a : behind.run.len ≡ walk.run.len = ap (λ (r : Run). r.len) run in
    let b = ap heads_of head in
    let c = at_most_one walk.head in
    omega arith

-- the same run further on
rest_on : (held : Held) (old new : Walk) (n : ℕ) → new.run ≡ old.run → new.at ≡ n → rest held new ≡ drop n (run_cells held old.run)
rest_on held old new n r a = ap (λ m. drop m (run_cells held new.run)) a ∙ ap (λ (x : Run). drop n (run_cells held x)) r

module _ {held : Held} {key : List ℕ} {old walk behind new : Walk} {found : Found} (p : Passing held key old walk found) (has : has_key key walk.head ≡ true)
    (run : behind.run ≡ walk.run) (reader : behind.reader ≡ walk.reader) (at : behind.at ≡ walk.at + 1) where
  pub passing_goes_on : Fetches held behind new → Passing held key old new (found_or found (found_of walk.head))
  passing_goes_on f =
      let h = head_cell held key walk p.fits has in
      let place : new.at ≡ walk.at + 1 = f.at_is ∙ at in
      let front : IsRunTold held old.run → rest held walk ≡ as_cell h.cell ∷ rest held new =
      λ t. subst (FrontIs held walk) h.is (ready_front held walk p.fits p.ready (subst (IsRunTold held) (sym p.run_is) t))
      ∙ ap (λ cells. as_cell h.cell ∷ cells) (sym (rest_on held walk new (walk.at + 1) (f.run_is ∙ run) place)) in
      record {
        run_is = f.run_is ∙ run ∙ p.run_is;
        reader_is = f.reader_is ∙ reader ∙ p.reader_is;
        goes = let g = p.goes in omega arith;
        moves = λ t. inl (let g = p.goes in omega arith);
        fits = f.fits;
        ready = f.ready;
        rest_is = λ t. sym (front_passed key h.cell (rest held new) h.tied) ∙ ap (pass_key key_cmp key) (sym (front t)) ∙ p.rest_is t;
        found_is = λ t.
            ap (λ x. over (as_seen (found_or found (found_of x))) (passed_seen key (rest held new))) h.is
            ∙ sym (over_found found (found_of (Some h.cell)) (passed_seen key (rest held new)))
            ∙ ap (over (as_seen found)) (sym (front_seen key h.cell (rest held new) h.tied))
            ∙ ap (λ cells. over (as_seen found) (passed_seen key cells)) (sym (front t)) ∙ p.found_is t;
      }

-- ---- no cell of the key at the front

over_nothing : (s : Seen Stamped) → over s seen.Nothing ≡ s
over_nothing seen.Nothing = refl
over_nothing _ = refl

pass_stops : (key : List ℕ) (c : Cell) (cells : List LawCell) → is_eq (key_cmp key (key_of c)) ≡ false →
    (pass_key key_cmp key (as_cell c ∷ cells) ≡ as_cell c ∷ cells) × (passed_seen key (as_cell c ∷ cells) ≡ seen.Nothing)
pass_stops key (cell.Item k i y l) cells e = rw e (refl, refl)
pass_stops key (cell.Look k l) cells e = rw e (refl, refl)

stops : (held : Held) (key : List ℕ) (walk : Walk) → has_key key walk.head ≡ false → FrontIs held walk walk.head →
    (pass_key key_cmp key (rest held walk) ≡ rest held walk) × (passed_seen key (rest held walk) ≡ seen.Nothing)
stops held key walk e f = go walk.head e f
  where
    go : (head : Option Cell) → has_key key head ≡ false → FrontIs held walk head → (pass_key key_cmp key (rest held walk) ≡ rest held walk) × (passed_seen key (rest held walk) ≡ seen.Nothing)
    go None e f = subst (λ cells. (pass_key key_cmp key cells ≡ cells) × (passed_seen key cells ≡ seen.Nothing)) (sym f) (refl, refl)
    go (Some c) e f = subst (λ cells. (pass_key key_cmp key cells ≡ cells) × (passed_seen key cells ≡ seen.Nothing)) (sym f) (pass_stops key c (drop (walk.at + 1) (run_cells held walk.run)) e)

pub passing_ends : {held : Held} {key : List ℕ} {old new : Walk} {found : Found} → Passing held key old new found → has_key key new.head ≡ false → Passes held key old new found
passing_ends {held} {key} {old} {new} {found} p e =
    let s : IsRunTold held old.run → (pass_key key_cmp key (rest held new) ≡ rest held new) × (passed_seen key (rest held new) ≡ seen.Nothing) =
    λ t. stops held key new e (ready_front held new p.fits p.ready (subst (IsRunTold held) (sym p.run_is) t)) in
    record {
      run_is = p.run_is;
      reader_is = p.reader_is;
      goes = p.goes;
      moves = λ t. moved (p.moves t);
      fits = p.fits;
      ready = p.ready;
      rest_is = λ t. sym (s t).0 ∙ p.rest_is t;
      found_is = λ t. sym (over_nothing (as_seen found)) ∙ ap (over (as_seen found)) (sym (s t).1) ∙ p.found_is t;
    }
  where
    moved : (old.at < new.at) ⊎ IsTrue (has_key key new.head) → old.at < new.at
    moved (inl h) = h
    moved (inr h) = let f : true ≡ false = sym h ∙ e in cc

-- a walk whose head has another key stays where it is
pub stands_still : {held : Held} {key : List ℕ} {walk : Walk} → WalkFits held walk → IsReady walk → has_key key walk.head ≡ false → Passes held key walk walk Nothing
stands_still {held} {key} {walk} f r e = passing_ends (passing_begins held key walk f r) e

-- ---- how much is left to pass

-- a walk that passes a key has no more to pass
pub ahead_stays : {held : Held} {key : List ℕ} {old new : Walk} {found : Found} → Passes held key old new found → ahead new ≤ ahead old
ahead_stays {old = old} {new = new} p =
    let e : new.run.len ≡ old.run.len = ap (λ (x : Run). x.len) p.run_is in
    omega (arith, p.goes)

-- and less where its head has the key
pub ahead_falls : {held : Held} {key : List ℕ} {old new : Walk} {found : Found} → Passes held key old new found → IsTrue (has_key key old.head) → ahead new < ahead old
ahead_falls {old = old} {new = new} p h =
    let e : new.run.len ≡ old.run.len = ap (λ (x : Run). x.len) p.run_is in
    let g = p.moves h in
    omega (arith, p.fits.at_in)

-- ---- what the run says

said_joins : (a b : Found) → said_or (said_of a) (said_of b) ≡ said_of (found_or a b)
said_joins (found.Old (Value value stamp)) b = refl
said_joins (found.Young (Value value stamp)) b = refl
said_joins _ b = refl

-- a walk on its way past the cells of a key, and what these say
pub record Hearing (held : Held) (key : List ℕ) (old new : Walk) (said : Said) : Type 0 where
  pub found : Found
  pub passing : Passing held key old new found
  pub said_is : said ≡ said_of found

pub hearing_goes_on : {held : Held} {key : List ℕ} {old walk behind new : Walk} {said next : Said} (h : Hearing held key old walk said) → has_key key walk.head ≡ true → behind.run ≡ walk.run → behind.reader ≡ walk.reader → behind.at ≡ walk.at + 1 →
    next ≡ said_or said (said_of (found_of walk.head)) → Fetches held behind new → Hearing held key old new next
hearing_goes_on {walk = walk} h has run reader at next f = record {
  found = found_or h.found (found_of walk.head);
  passing = passing_goes_on h.passing has run reader at f;
  said_is = next ∙ ap (λ s. said_or s (said_of (found_of walk.head))) h.said_is ∙ said_joins h.found (found_of walk.head);
}

pub hearing_ends : {held : Held} {key : List ℕ} {old new : Walk} {said : Said} → Hearing held key old new said → has_key key new.head ≡ false → Hears held key old new said
hearing_ends h e = record { found = h.found; passes = passing_ends h.passing e; said_is = h.said_is }
