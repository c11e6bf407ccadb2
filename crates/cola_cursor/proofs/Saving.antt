-- Lines that were changed, and put back.
use Rattle.std.proofs.Common.{◌≡◌, ℕ, ◌≤◌, ◌<◌, ◌==◌, Bool, true, false, ◌||◌, List, [], ◌∷◌, ◌++◌, length, set, get_or, Option, Result, Err, refl, sym, ap, subst, ◌∙◌, arith, length-append, eqb-true, length-set, set-set}
use Rattle.std.proofs.lemmas.Bool.{eqb-false}
use Rattle.std.proofs.lemmas.List.{set_comm, set-get_or}
use Rattle.std.proofs.lemmas.Map.Steps.{length-le_from_distinct_below}
use Rattle.std.specs.List.{AllByRecursion, IsDistinct, list_any}
use Rattle.cola_cursor.specs.declared.line.Line.{Line}
use Rattle.cola_cursor.specs.declared.saved.Saved.{Saved}
use Rattle.cola_cursor.specs.Saving.{numbers, is_saved, SavedOnce, Saves, restored, cursor_at, lines_left}
use Rattle.cola_cell.specs.declared.fault.ReadFault.{ReadFault}
use Rattle.cola_runs.proofs.Order.{by_bool}

-- ---- what is put back

restored_push : (saved : List Saved) (one : Saved) (lines : List Line) → restored (saved ++ one ∷ []) lines ≡ restored saved (set lines one.number one.line)
restored_push [] one lines = refl
restored_push (s ∷ saved) one lines = ap (λ x. set x s.number s.line) (restored_push saved one lines)

-- a line that is put back hides what stood there
restored_set : (saved : List Saved) (lines : List Line) (i : ℕ) (x line : Line) → set (restored saved (set lines i x)) i line ≡ set (restored saved lines) i line
restored_set [] lines i x line = set-set lines i x line
restored_set (s ∷ saved) lines i x line =
    by_bool (λ b. (s.number == i) ≡ b → set (set (restored saved (set lines i x)) s.number s.line) i line ≡ set (set (restored saved lines) s.number s.line) i line)
    (λ e. let n = eqb-true s.number i e in
    ap (λ k. set (set (restored saved (set lines i x)) k s.line) i line) n ∙ set-set (restored saved (set lines i x)) i s.line line ∙ restored_set saved lines i x line
    ∙ sym (set-set (restored saved lines) i s.line line) ∙ ap (λ k. set (set (restored saved lines) k s.line) i line) (sym n))
    (λ e. let n = eqb-false s.number i e in
    set_comm (restored saved (set lines i x)) s.number i s.line line n ∙ ap (λ y. set y s.number s.line) (restored_set saved lines i x line)
    ∙ sym (set_comm (restored saved lines) s.number i s.line line n))
    (s.number == i) refl

restored_hides : (saved : List Saved) (lines : List Line) (i : ℕ) (x : Line) → is_saved i saved ≡ true → restored saved (set lines i x) ≡ restored saved lines
restored_hides [] lines i x h = cc
restored_hides (s ∷ saved) lines i x h =
    by_bool (λ b. (i == s.number) ≡ b → (b || is_saved i saved) ≡ true → set (restored saved (set lines i x)) s.number s.line ≡ set (restored saved lines) s.number s.line)
    (λ e f. subst (λ k. set (restored saved (set lines i x)) k s.line ≡ set (restored saved lines) k s.line) (eqb-true i s.number e) (restored_set saved lines i x s.line))
    (λ e f. ap (λ y. set y s.number s.line) (restored_hides saved lines i x f))
    (i == s.number) refl h

-- ---- each number once

other : (m n : ℕ) → (n == m) ≡ false → (m == n) ≡ false
other m n e = by_bool (λ b. (m == n) ≡ b → b ≡ false) (λ f. absurd (eqb-false n m e (sym (eqb-true m n f)))) (λ f. refl) (m == n) refl

not_either : (a b : Bool) → (a || b) ≡ false → (a ≡ false) × (b ≡ false)
not_either true b e = cc
not_either false b e = (refl, e)

all_push : (P : ℕ → Type 0) (saved : List Saved) (one : Saved) → AllByRecursion P (numbers saved) → P one.number → AllByRecursion P (numbers (saved ++ one ∷ []))
all_push P [] one h p = (p, tt)
all_push P (s ∷ saved) one h p = (h.0, all_push P saved one h.1 p)

distinct_push : (saved : List Saved) (one : Saved) → is_saved one.number saved ≡ false → IsDistinct ◌==◌ (numbers saved) → IsDistinct ◌==◌ (numbers (saved ++ one ∷ []))
unfolding IsDistinct
distinct_push [] one h d = (tt, tt)
distinct_push (s ∷ saved) one h d =
    let k = not_either (one.number == s.number) (is_saved one.number saved) h in
    (all_push (λ n. (s.number == n) ≡ false) saved one d.0 (other s.number one.number k.0), distinct_push saved one k.1 d.1)

all_front : (P : ℕ → Type 0) (saved : List Saved) (one : Saved) → AllByRecursion P (numbers (saved ++ one ∷ [])) → AllByRecursion P (numbers saved) × P one.number
all_front P [] one h = (tt, h.0)
all_front P (s ∷ saved) one h = let r = all_front P saved one h.1 in ((h.0, r.0), r.1)

distinct_front : (saved : List Saved) (one : Saved) → IsDistinct ◌==◌ (numbers (saved ++ one ∷ [])) → IsDistinct ◌==◌ (numbers saved)
unfolding IsDistinct
distinct_front [] one d = tt
distinct_front (s ∷ saved) one d = ((all_front (λ n. (s.number == n) ≡ false) saved one d.0).0, distinct_front saved one d.1)

once_push : (count : ℕ) (saved : List Saved) (one : Saved) → is_saved one.number saved ≡ false → one.number < count → SavedOnce count saved → SavedOnce count (saved ++ one ∷ [])
once_push count saved one h l o = record { distinct = distinct_push saved one h o.distinct; within = all_push (λ n. n < count) saved one o.within l }

-- ---- how many there are

below : (xs : List ℕ) (count q : ℕ) → AllByRecursion (λ n. n < count) xs → list_any (λ n. q == n) xs ≡ true → q < count
below [] count q h e = cc
below (x ∷ xs) count q h e =
    by_bool (λ b. (q == x) ≡ b → (b || list_any (λ n. q == n) xs) ≡ true → q < count)
    (λ f g. subst (λ n. n < count) (sym (eqb-true q x f)) h.0) (λ f g. below xs count q h.1 g) (q == x) refl e

many : (saved : List Saved) → length (numbers saved) ≡ length saved
many [] = refl
many (s ∷ saved) = let r = many saved in omega arith

once_few : (count : ℕ) (saved : List Saved) → SavedOnce count saved → length saved ≤ count
once_few count saved o =
    let m = many saved in
    let l = length-le_from_distinct_below (numbers saved) count o.distinct (λ q h. below (numbers saved) count q o.within h) in
    omega arith

-- a line that is not saved yet has room
pub saved_room : (count : ℕ) (saved : List Saved) (one : Saved) → is_saved one.number saved ≡ false → one.number < count → SavedOnce count saved → length saved < count
saved_room count saved one h l o =
    let f = once_few count (saved ++ one ∷ []) (once_push count saved one h l o) in
    let e = length-append saved (one ∷ []) in
    omega arith

-- ---- a change

same_count : {count many : ℕ} {saved : List Saved} → count ≡ many → SavedOnce many saved → SavedOnce count saved
same_count {saved = saved} e o = subst (λ n. SavedOnce n saved) (sym e) o

-- one more saved line
pub saves_more : (lines : List Line) (saved now : List Saved) (i : ℕ) (old d : Line) → old ≡ get_or lines i d → now ≡ saved ++ record { number = i; line = old } ∷ [] → is_saved i saved ≡ false →
    i < length lines → SavedOnce (length lines) saved → Saves lines lines saved now
saves_more lines saved now i old d is e h l o =
    let one : Saved = record { number = i; line = old } in
    subst (λ s. Saves lines lines saved s) (sym e) (record {
      count = refl;
      once = once_push (length lines) saved one h l o;
      restores = restored_push saved one lines ∙ ap (restored saved) (ap (set lines i) is ∙ set-get_or lines i d);
    })

-- a change of a line that is saved
pub saves_set : {olds lines : List Line} {before saved : List Saved} (i : ℕ) (line : Line) → Saves olds lines before saved → is_saved i saved ≡ true → Saves olds (set lines i line) before saved
saves_set {olds} {lines} {before} {saved} i line s h = record {
  count = length-set lines i line ∙ s.count;
  once = same_count (length-set lines i line) s.once;
  restores = restored_hides saved lines i line h ∙ s.restores;
}

-- no change, and one after another
pub saves_none : {lines : List Line} {saved : List Saved} → SavedOnce (length lines) saved → Saves lines lines saved saved
saves_none o = record { count = refl; once = o; restores = refl }

pub saves_then : {olds mids news : List Line} {before between now : List Saved} → Saves olds mids before between → Saves mids news between now → Saves olds news before now
saves_then h k = record { count = k.count ∙ h.count; once = k.once; restores = k.restores ∙ h.restores }

-- ---- a line that is put back

pub last_within : (count : ℕ) (saved rest : List Saved) (one : Saved) → saved ≡ rest ++ one ∷ [] → SavedOnce count saved → one.number < count
last_within count saved rest one e o = (all_front (λ n. n < count) rest one (subst (λ s. SavedOnce count s) e o).within).1

pub once_rest : (lines : List Line) (saved rest : List Saved) (one : Saved) → saved ≡ rest ++ one ∷ [] → SavedOnce (length lines) saved → SavedOnce (length (set lines one.number one.line)) rest
once_rest lines saved rest one e o =
    let p = subst (λ s. SavedOnce (length lines) s) e o in
    same_count (length-set lines one.number one.line) (record { distinct = distinct_front rest one p.distinct; within = (all_front (λ n. n < length lines) rest one p.within).0 })

pub restored_rest : (lines : List Line) (saved rest : List Saved) (one : Saved) → saved ≡ rest ++ one ∷ [] → restored rest (set lines one.number one.line) ≡ restored saved lines
restored_rest lines saved rest one e = sym (restored_push rest one lines) ∙ ap (λ s. restored s lines) (sym e)

-- ---- where nothing is saved at first

pub once_none : {count : ℕ} {saved : List Saved} → saved ≡ [] → SavedOnce count saved
unfolding IsDistinct
once_none {count} e = subst (λ s. SavedOnce count s) (sym e) (record { distinct = tt; within = tt })

pub saves_from : {olds news : List Line} {before now : List Saved} → before ≡ [] → Saves olds news before now → Saves olds news [] now
saves_from {olds} {news} {now = now} e h = subst (λ s. Saves olds news s now) e h

-- a refusal leaves the cursor as it was
pub same_cursor : {T : Type 0} {olds news : List Line} {saved : List Saved} (end : Option (List ℕ)) (falls : Bool) (result : Result T ReadFault) (fault : ReadFault) → result ≡ Err fault → Saves olds news [] saved →
    cursor_at (lines_left result saved news) end falls ≡ cursor_at olds end falls
same_cursor {news = news} {saved} end falls result fault is h = ap (λ r. cursor_at (lines_left r saved news) end falls) is ∙ ap (λ lines. cursor_at lines end falls) h.restores
