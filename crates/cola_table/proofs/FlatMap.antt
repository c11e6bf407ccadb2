-- The map of sorted entries: what it answers, and what an edit of the entries makes of it.
use Rattle.std.proofs.Common.{◌≡◌, ℕ, suc, All, ◌<◌, ◌≤◌, Bool, true, false, cond, not, IsTrue, T, List, [], ◌∷◌, length, get_or, set, take, drop, Option, Some, None, refl, ap, sym, subst, ◌∙◌, arith}
use Rattle.std.proofs.lemmas.Bool.{and_from, le-leb, lt-leb}
use Rattle.std.specs.Ordering.{is_eq, eq_by_cmp, ordering_reverse}
use Rattle.std.specs.declared.cmp.Ordering.{Ordering}
use Rattle.std.specs.declared.cmp.Ordering.TheVariants.{Less, Equal, Greater}
use Rattle.std.specs.Cmp.{IsTotalOrder, alike_right, tied_itself}
use Rattle.std.specs.Cmp.Lexicographic.{nat_list_cmp_total}
use Rattle.std.specs.List.{insert, remove}
use Rattle.std.specs.FinMap as finite
use Rattle.std.specs.FinMap.{FinMap, find, put, is_sorted, IsAntisymmetric, nat_cmp-IsAntisymmetric, slice_cmp-IsAntisymmetric, same_entries_map, entries-from_sorted, get-from_sorted, entries-insert, get-remove, same_map, len-entries, empty_of_len}
use Rattle.std.specs.FinMap.Entries.{where_key, is_sorted-put, is_sorted-where_key, find-where_key}
use Rattle.std.proofs.lemmas.List.{length-set}
use Rattle.std.proofs.lemmas.List.Edits.{length-insert, length-remove}
use Rattle.std.proofs.lemmas.List.Elements.{All-append, All-set, All-cons, All-take, All-drop}
use Rattle.cola_cell.specs.declared.format.Format.TheVariants.{One}
use Rattle.cola_spec.specs.Map.{Stored, EntryFits, New, Old, Full, key_cmp, empty_map, put_outcome, after_put, after_delete, value_of}
use Rattle.cola_shapes.specs.Shapes.{shape_of}
use Rattle.cola_table.specs.Flat.{AreFlat, map_of, HasKeyAt, LacksKey}
use Rattle.cola_table.proofs.Places.{find-place, put-present, put-absent, without-present}

-- the order of keys tells all keys apart
pub key_cmp-total : IsTotalOrder key_cmp
key_cmp-total = nat_list_cmp_total

pub key_cmp-tells : IsAntisymmetric key_cmp
key_cmp-tells = slice_cmp-IsAntisymmetric nat_cmp-IsAntisymmetric

-- a test that answered true, in the form of the finite maps
rises : (b : Bool) → IsTrue b → T b
rises b h = subst T (sym h) tt

truth : (b : Bool) → T b → IsTrue b
truth true h = refl
truth false h = absurd h

-- the two ways to ask whether a comparison ties
turned : {A : Type 0} (r : Ordering) (x : Option A) → cond (not (is_eq (ordering_reverse r))) x None ≡ cond (is_eq r) None x
turned Less x = refl
turned Equal x = refl
turned Greater x = refl

abbrev Entry : Type 0
Entry = List ℕ × Stored

-- no entry: the empty map
pub map_of_none : map_of [] ≡ empty_map
unfolding empty_map
map_of_none =
    let same : (map_of []).entries ≡ finite.empty = empty_of_len _ (len-entries _ ∙ ap length (entries-from_sorted key_cmp [] tt)) in
    ap (λ (m : FinMap key_cmp Stored). record { entries = m; last = 0 }) same

module _ (list : List Entry) (rising : IsTrue (is_sorted key_cmp list)) where
  pub entries_map_of : finite.entries (map_of list).entries ≡ list
  entries_map_of = entries-from_sorted key_cmp list (rises _ rising)

  pub count_map_of : finite.len (map_of list).entries ≡ length list
  count_map_of = len-entries _ ∙ ap length entries_map_of

  pub get_map_of : (key : List ℕ) → finite.get (map_of list).entries key ≡ find key_cmp key list
  get_map_of key = get-from_sorted key_cmp list key (rises _ rising)

  -- putting into the list is inserting into the map
  pub insert_map_of : (key : List ℕ) (s : Stored) → finite.insert (map_of list).entries key s ≡ (map_of (put key_cmp key s list)).entries
  insert_map_of key s = same_entries_map _ _ (
      entries-insert key_cmp-total _ key s
      ∙ ap (put key_cmp key s) entries_map_of
      ∙ sym (entries-from_sorted key_cmp _ (is_sorted-put key_cmp key_cmp-total key s list (rises _ rising))))

  pub rising-put : (key : List ℕ) (s : Stored) → IsTrue (is_sorted key_cmp (put key_cmp key s list))
  rising-put key s = truth _ (is_sorted-put key_cmp key_cmp-total key s list (rises _ rising))

  -- the entries with other keys
  pub others : List ℕ → List Entry
  others key = where_key key_cmp (λ y. not (eq_by_cmp key_cmp key y)) list

  rising_others : (key : List ℕ) → IsTrue (is_sorted key_cmp (others key))
  unfolding others
  rising_others key = truth _ (is_sorted-where_key key_cmp _ list (rises _ rising))

  -- the key of an entry compares as equal
  pub same_key : (key : List ℕ) (at : ℕ) (d : Entry) → HasKeyAt list key at → key_cmp (get_or list at d).0 key ≡ Equal
  same_key key at d has = rw (has.has_key d) (tied_itself key_cmp-total key)

  -- a key that an entry has is found there
  pub find_at : (key : List ℕ) (at : ℕ) (d : Entry) → HasKeyAt list key at → find key_cmp key list ≡ Some (get_or list at d).1
  find_at key at d has =
      rw has.is_place (find-place key_cmp key_cmp-total key list d (rw has.is_place at has.in_range) (rw has.is_place at (same_key key at d has)))

  -- a put writes over an entry with the key
  pub put_at : (key : List ℕ) (s : Stored) (at : ℕ) → HasKeyAt list key at → put key_cmp key s list ≡ set list at (key, s)
  put_at key s at has =
      let d : Entry = (key, s) in
      put-present key_cmp key_cmp-total key s list d (rw has.is_place at has.in_range) (rw has.is_place at (same_key key at d has))
      ∙ rw (← has.is_place) (ap (λ (k : List ℕ). set list at (k, s)) (has.has_key d))

  -- without the key: without that entry
  pub others_at : (key : List ℕ) (at : ℕ) → HasKeyAt list key at → others key ≡ remove list at
  unfolding others
  others_at key at has =
      let d : Entry = (key, record { value = []; stamp = 0 }) in
      without-present key_cmp key_cmp-total key list d rising (rw has.is_place at has.in_range) (rw has.is_place at (same_key key at d has))
      ∙ rw (← has.is_place) refl

  -- what is found without a key: nothing at that key, and else what was found
  pub find_others : (key q : List ℕ) → find key_cmp q (others key) ≡ cond (eq_by_cmp key_cmp q key) None (find key_cmp q list)
  unfolding others
  find_others key q =
      find-where_key key_cmp (λ y. not (eq_by_cmp key_cmp key y)) q (λ x tied. ap (λ (r : Ordering). not (is_eq r)) (sym (alike_right key_cmp-total q x key tied))) list
      ∙ rw (key_cmp-total.antisymm key q) (turned (key_cmp q key) _)

  -- to take that entry out is to take the key out of the map
  pub remove_map_of : (key : List ℕ) (at : ℕ) → HasKeyAt list key at → finite.remove (map_of list).entries key ≡ (map_of (remove list at)).entries
  remove_map_of key at has = same_map key_cmp-total key_cmp-tells _ _ (λ q.
      let left : others key ≡ remove list at = others_at key at has in
      get-remove key_cmp-total _ key q
      ∙ ap (cond (eq_by_cmp key_cmp q key) None) (get_map_of q)
      ∙ sym (find_others key q)
      ∙ rw left (sym (get-from_sorted key_cmp (remove list at) q (rises _ (rw left at (rising_others key))))))

  -- without a key that is absent, the map is the same
  pub remove_absent : (key : List ℕ) → find key_cmp key list ≡ None → finite.remove (map_of list).entries key ≡ (map_of list).entries
  remove_absent key absent = same_map key_cmp-total key_cmp-tells _ _ (λ q.
      get-remove key_cmp-total _ key q
      ∙ elim (key_cmp q key) as (λ r. key_cmp q key ≡ r → cond (is_eq r) None (finite.get (map_of list).entries q) ≡ finite.get (map_of list).entries q) [
        | Less ↦ λ p. refl
        | Equal ↦ λ p. sym (get_map_of q ∙ ap (λ (k : List ℕ). find key_cmp k list) (key_cmp-tells q key p) ∙ absent)
        | Greater ↦ λ p. refl
      ] refl)

-- what each entry of such a table is
abbrev Fitting : ℕ → Entry → Type 0
Fitting limit = EntryFits (shape_of One limit) 0

-- the key and the value of an entry that a table in memory may hold
pub fits_flat : (limit : ℕ) (key value : List ℕ) → 1 ≤ length key → length key ≤ 24 → length value ≤ 32 → EntryFits (shape_of One limit) 0 (key, record { value = value; stamp = 0 })
fits_flat limit key value some key_fits value_fits = record {
  key_fits = and_from _ _ (le-leb 1 (length key) some) (le-leb (length key) 24 key_fits);
  value_fits = le-leb (length value) 32 value_fits;
  given = omega arith;
}

module _ (limit : ℕ) (list : List Entry) (flat : AreFlat limit list) where
  -- writing over an entry keeps the entries as they may be
  pub flat-set : (key : List ℕ) (s : Stored) (at : ℕ) → HasKeyAt list key at → EntryFits (shape_of One limit) 0 (key, s) → AreFlat limit (set list at (key, s))
  flat-set key s at has fits = record {
    rising = rw (put_at list flat.rising key s at has) at (rising-put list flat.rising key s);
    within = omega (arith, length-set list at (key, s), flat.within);
    fitting = All-set (Fitting limit) list at (key, s) fits flat.fitting;
  }

  -- so does a new entry at its place, where there is room
  pub flat-insert : (key : List ℕ) (s : Stored) (at : ℕ) → LacksKey list key at → length list < limit → EntryFits (shape_of One limit) 0 (key, s) → AreFlat limit (insert list at (key, s))
  flat-insert key s at lacks room fits = record {
    rising = rw (put-absent key_cmp key_cmp-total key s list lacks.absent, ← lacks.is_place) at (rising-put list flat.rising key s);
    within = omega (arith, length-insert list at (key, s) lacks.in_range);
    fitting = All-append (Fitting limit) (take at list) ((key, s) ∷ drop at list) (All-take (Fitting limit) at list flat.fitting) (All-cons (Fitting limit) (key, s) (drop at list) fits (All-drop (Fitting limit) at list flat.fitting));
  }

  -- and so does taking an entry out
  pub flat-remove : (key : List ℕ) (at : ℕ) → HasKeyAt list key at → AreFlat limit (remove list at)
  flat-remove key at has = record {
    rising = rw (others_at list flat.rising key at has) at (rising_others list flat.rising key);
    within = omega (arith, length-remove list at has.in_range, flat.within);
    fitting = All-append (Fitting limit) (take at list) (drop (suc at) list) (All-take (Fitting limit) at list flat.fitting) (All-drop (Fitting limit) (suc at) list flat.fitting);
  }

  -- a put at a key that an entry has
  pub outcome_old : (key : List ℕ) (at : ℕ) (d : Entry) → HasKeyAt list key at → put_outcome (shape_of One limit) (map_of list) key ≡ Old (get_or list at d).1.value
  outcome_old key at d has = rw (get_map_of list flat.rising key, find_at list flat.rising key at d has) refl

  pub after_old : (key value : List ℕ) (at : ℕ) → HasKeyAt list key at → map_of (set list at (key, record { value = value; stamp = 0 })) ≡ after_put (shape_of One limit) (map_of list) key value
  after_old key value at has =
      let s : Stored = record { value = value; stamp = 0 } in
      rw (outcome_old key at (key, s) has, insert_map_of list flat.rising key s, put_at list flat.rising key s at has) refl

  -- a put at a key that no entry has, where there is room
  pub outcome_new : (key : List ℕ) (at : ℕ) → LacksKey list key at → length list < limit → put_outcome (shape_of One limit) (map_of list) key ≡ New
  outcome_new key at lacks room = rw (get_map_of list flat.rising key, lacks.absent, count_map_of list flat.rising, lt-leb limit (length list) room) refl

  pub after_new : (key value : List ℕ) (at : ℕ) → LacksKey list key at → length list < limit → map_of (insert list at (key, record { value = value; stamp = 0 })) ≡ after_put (shape_of One limit) (map_of list) key value
  after_new key value at lacks room =
      let s : Stored = record { value = value; stamp = 0 } in
      rw (outcome_new key at lacks room, insert_map_of list flat.rising key s, put-absent key_cmp key_cmp-total key s list lacks.absent, ← lacks.is_place) refl

  -- and where there is none
  pub outcome_full : (key : List ℕ) (at : ℕ) → LacksKey list key at → limit ≤ length list → put_outcome (shape_of One limit) (map_of list) key ≡ Full
  outcome_full key at lacks full = rw (get_map_of list flat.rising key, lacks.absent, count_map_of list flat.rising, le-leb limit (length list) full) refl

  -- the value of a key
  pub value_at : (key : List ℕ) (at : ℕ) (d : Entry) → HasKeyAt list key at → value_of (map_of list) key ≡ Some (get_or list at d).1.value
  value_at key at d has = rw (get_map_of list flat.rising key, find_at list flat.rising key at d has) refl

  pub value_none : (key : List ℕ) (at : ℕ) → LacksKey list key at → value_of (map_of list) key ≡ None
  value_none key at lacks = rw (get_map_of list flat.rising key, lacks.absent) refl

  -- a delete
  pub after_gone : (key : List ℕ) (at : ℕ) → HasKeyAt list key at → map_of (remove list at) ≡ after_delete (map_of list) key
  after_gone key at has = ap (λ (m : FinMap key_cmp Stored). record { entries = m; last = 0 }) (sym (remove_map_of list flat.rising key at has))

  pub after_none : (key : List ℕ) (at : ℕ) → LacksKey list key at → map_of list ≡ after_delete (map_of list) key
  after_none key at lacks = ap (λ (m : FinMap key_cmp Stored). record { entries = m; last = 0 }) (sym (remove_absent list flat.rising key lacks.absent))

  -- each stamp is 0
  pub no_stamps : All (λ entry. entry.1.stamp ≡ 0) list
  no_stamps k d lt = let given : (get_or list k d).1.stamp ≤ 0 = (flat.fitting k d lt).given in omega arith
