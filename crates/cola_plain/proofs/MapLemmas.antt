-- Entries as a list, and as the map that they stand for.
use Rattle.std.proofs.Common.{ℕ, zero, suc, ◌≡◌, ◌≢◌, ◌<◌, ◌+◌, ◌-◌, ◌^◌, ◌&&◌, min, not, nat_le, filter, Bool, true, false, cond, refl, sym, ◌∙◌, ap, List, [], ◌∷◌, ◌++◌, length, get_or, take, drop, map, Option, Some, arith, set, add-one, append_assoc, drop-cons, bytes_eq}
use Rattle.std.proofs.lemmas.List.{take_more, map-append, drop_all}
use Rattle.std.specs.declared.cmp.Ordering.TheVariants.{Less, Equal, Greater}
use Rattle.std.proofs.lemmas.Slice.Eq.{bytes_eq-Decides}
use Rattle.std.specs.Ordering.{eq_by_cmp}
use Rattle.std.specs.FinMap as finite
use Rattle.std.specs.FinMap.Entries.{by_order, find, put, where_key}
use Rattle.cola_plain.specs.declared.map.Entry.{Entry}
use Rattle.cola_plain.specs.declared.map.Map.{Map}
use Rattle.cola_spec.specs.Map as spec
use Rattle.cola_spec.specs.Map.{key_cmp, Stored, value_of, stamp_of, count, is_worn, last_stamp, with_value, after_delete, pair_of, pairs_between, is_from, is_before}
use Rattle.cola_plain.specs.declared.shape.Shape.{Shape}
use Rattle.cola_plain.specs.declared.map.Row.{Row}
use Rattle.cola_plain.specs.Command.{shape_of}
use Rattle.std.proofs.lemmas.Bool.{leb-false}
use Rattle.std.proofs.lemmas.List.Elements.{filter-append}
use Rattle.cola_spec.proofs.MapLaws.{tied_key, other_key}
use Rattle.cola_spec.proofs.Entries.{found, counted, same_key, entries_insert, entries_remove}
use Rattle.std.proofs.lemmas.List.{length-map}
use Rattle.cola_plain.specs.Map.{stored_with, kept_in, listed, pair_with, GoesAt, IsAt, Stands}

next_entry : (es : List Entry) (i : ℕ) (e : Entry) → i < length es → e ≡ get_or es i e → drop i es ≡ e ∷ drop (i + 1) es
next_entry es i e within is = rw (add-one, drop-cons es i e within) (ap (λ x. x ∷ drop (suc i) es) (sym is))

pub found_here : (key : List ℕ) (es : List Entry) (i : ℕ) (e : Entry) → i < length es → e ≡ get_or es i e → e.key.items ≡ key → find key_cmp key (listed (drop i es)) ≡ Some (stored_with e).1
found_here key es i e within is same =
    ap (λ rest. find key_cmp key (listed rest)) (next_entry es i e within is)
    ∙ ap (λ b. cond b (Some (stored_with e).1) (find key_cmp key (listed (drop (i + 1) es)))) (ap (eq_by_cmp key_cmp key) same ∙ tied_key key)

pub found_later : (key : List ℕ) (es : List Entry) (i : ℕ) (e : Entry) → i < length es → e ≡ get_or es i e → e.key.items ≢ key → find key_cmp key (listed (drop i es)) ≡ find key_cmp key (listed (drop (i + 1) es))
found_later key es i e within is other =
    ap (λ rest. find key_cmp key (listed rest)) (next_entry es i e within is)
    ∙ ap (λ b. cond b (Some (stored_with e).1) (find key_cmp key (listed (drop (i + 1) es)))) (other_key key e.key.items (λ same. other (sym same)))

pub stands_get : (plain : Map) (m : spec.Map) (key : List ℕ) → Stands plain m → finite.get m.entries key ≡ find key_cmp key (listed plain.entries.items)
stands_get plain m key stands = found m.entries key ∙ ap (find key_cmp key) stands.same_entries

pub stands_count : (plain : Map) (m : spec.Map) → Stands plain m → count m ≡ length plain.entries.items
stands_count plain m stands = counted m.entries ∙ ap length stands.same_entries ∙ length-map plain.entries.items stored_with

pub same_bytes : (a b : List ℕ) → true ≡ bytes_eq a b → a ≡ b
same_bytes a b is = (bytes_eq-Decides a b).0 (sym is)

pub other_bytes : (a b : List ℕ) → false ≡ bytes_eq a b → a ≢ b
other_bytes a b is same = let same_test : bytes_eq a b ≡ true = (bytes_eq-Decides a b).1 same in let never : false ≡ true = is ∙ same_test in cc

-- a put goes on behind the first entries
abbrev pub IsPast : List ℕ → Stored → List Entry → ℕ → Type 0
IsPast key new es i = put key_cmp key new (listed es) ≡ listed (take i es) ++ put key_cmp key new (listed (drop i es))

pub placed_here : (key : List ℕ) (new : Stored) (es : List Entry) (i : ℕ) (e : Entry) → i < length es → e ≡ get_or es i e → Equal ≡ key_cmp key e.key.items → IsPast key new es i → IsAt key new es i
placed_here key new es i e within is tie past =
    let rest = listed (drop (suc i) es) in
    record {
      within = within;
      replaced = past
          ∙ ap (λ tail. listed (take i es) ++ put key_cmp key new (listed tail)) (drop-cons es i e within ∙ ap (λ x. x ∷ drop (suc i) es) (sym is))
          ∙ ap (λ o. listed (take i es) ++ by_order o ((key, new) ∷ stored_with e ∷ rest) ((e.key.items, new) ∷ rest) (stored_with e ∷ put key_cmp key new rest)) (sym tie)
          ∙ ap (λ k. listed (take i es) ++ (k, new) ∷ rest) (sym (same_key key e.key.items (sym tie)));
    }

pub placed_before : (key : List ℕ) (new : Stored) (es : List Entry) (i : ℕ) (e : Entry) → i < length es → e ≡ get_or es i e → Less ≡ key_cmp key e.key.items → IsPast key new es i → GoesAt key new es i
placed_before key new es i e within is less past =
    let rest = listed (drop (suc i) es) in
    let split = drop-cons es i e within ∙ ap (λ x. x ∷ drop (suc i) es) (sym is) in
    record {
      within = omega arith;
      inserted = past
          ∙ ap (λ tail. listed (take i es) ++ put key_cmp key new (listed tail)) split
          ∙ ap (λ o. listed (take i es) ++ by_order o ((key, new) ∷ stored_with e ∷ rest) ((e.key.items, new) ∷ rest) (stored_with e ∷ put key_cmp key new rest)) (sym less)
          ∙ ap (λ tail. listed (take i es) ++ (key, new) ∷ listed tail) (sym split);
    }

pub placed_later : (key : List ℕ) (new : Stored) (es : List Entry) (i : ℕ) (e : Entry) → i < length es → e ≡ get_or es i e → Greater ≡ key_cmp key e.key.items → IsPast key new es i → IsPast key new es (i + 1)
placed_later key new es i e within is greater past =
    let rest = listed (drop (i + 1) es) in
    past
    ∙ ap (λ tail. listed (take i es) ++ put key_cmp key new (listed tail)) (next_entry es i e within is)
    ∙ ap (λ o. listed (take i es) ++ by_order o ((key, new) ∷ stored_with e ∷ rest) ((e.key.items, new) ∷ rest) (stored_with e ∷ put key_cmp key new rest)) (sym greater)
    ∙ sym (append_assoc (listed (take i es)) (stored_with e ∷ []) (put key_cmp key new rest))
    ∙ ap (λ front. front ++ put key_cmp key new rest) (sym (map-append stored_with (take i es) (e ∷ [])))
    ∙ ap (λ front. listed front ++ put key_cmp key new rest) (ap (λ x. take i es ++ x ∷ []) is ∙ sym (take_more es i e within))

pub placed_last : (key : List ℕ) (new : Stored) (es : List Entry) → IsPast key new es (length es) → GoesAt key new es (length es)
placed_last key new es past = record {
  within = omega arith;
  inserted = past ∙ ap (λ tail. listed (take (length es) es) ++ put key_cmp key new (listed tail)) (drop_all (length es) es (omega arith)) ∙ ap (λ tail. listed (take (length es) es) ++ (key, new) ∷ listed tail) (sym (drop_all (length es) es (omega arith)));
}

pub set_listed : (es : List Entry) (i : ℕ) (e : Entry) → i < length es → listed (set es i e) ≡ listed (take i es) ++ stored_with e ∷ listed (drop (suc i) es)
set_listed [] i e within = absurd (omega arith)
set_listed (x ∷ es) zero e within = refl
set_listed (x ∷ es) (suc i) e within = ap (λ rest. stored_with x ∷ rest) (set_listed es i e (omega arith))

pub insert_listed : (es : List Entry) (i : ℕ) (e : Entry) → listed (take i es ++ e ∷ drop i es) ≡ listed (take i es) ++ stored_with e ∷ listed (drop i es)
insert_listed es i e = map-append stored_with (take i es) (e ∷ drop i es)

-- A put that is accepted

stamp_fits : (stamped : Bool) (last : ℕ) → (stamped && nat_le last_stamp last) ≡ false → cond stamped (min (last + 1) (2 ^ 64 - 1)) 0 ≡ cond stamped (last + 1) 0
stamp_fits true last fresh = let small = leb-false last_stamp last fresh in omega arith
stamp_fits false last fresh = refl

last_fits : (stamped : Bool) (last : ℕ) → (stamped && nat_le last_stamp last) ≡ false → cond stamped (min (last + 1) (2 ^ 64 - 1)) last ≡ cond stamped (last + 1) last
last_fits true last fresh = let small = leb-false last_stamp last fresh in omega arith
last_fits false last fresh = refl

pub stands_with_value : (plain next : Map) (shape : Shape) (m : spec.Map) (key value : List ℕ) (e : Entry) → Stands plain m → is_worn (shape_of shape) m ≡ false
    → next.last ≡ cond shape.stamped (min (plain.last + 1) (2 ^ 64 - 1)) plain.last → e.stamp ≡ cond shape.stamped (min (plain.last + 1) (2 ^ 64 - 1)) 0 → e.key.items ≡ key → e.value.items ≡ value
    → listed next.entries.items ≡ put key_cmp e.key.items (kept_in e) (listed plain.entries.items) → Stands next (with_value (shape_of shape) m key value)
stands_with_value plain next shape m key value e stands fresh last stamp same_key same_value stored =
    let fresh_plain : (shape.stamped && nat_le last_stamp plain.last) ≡ false = ap (λ l. shape.stamped && nat_le last_stamp l) (sym stands.same_last) ∙ fresh in
    let same_stamp : e.stamp ≡ cond shape.stamped (m.last + 1) 0 = stamp ∙ stamp_fits shape.stamped plain.last fresh_plain ∙ ap (λ l. cond shape.stamped (l + 1) 0) (sym stands.same_last) in
    let kept : kept_in e ≡ record { value = value; stamp = cond shape.stamped (m.last + 1) 0 } = (λ i. record { value = same_value i; stamp = same_stamp i }) in
    record {
      same_entries = entries_insert m.entries key (record { value = value; stamp = cond shape.stamped (m.last + 1) 0 })
          ∙ ap (put key_cmp key (record { value = value; stamp = cond shape.stamped (m.last + 1) 0 })) stands.same_entries
          ∙ ap (λ new. put key_cmp key new (listed plain.entries.items)) (sym kept)
          ∙ ap (λ k. put key_cmp k (kept_in e) (listed plain.entries.items)) (sym same_key)
          ∙ sym stored;
      same_last = ap (λ l. cond shape.stamped (l + 1) l) stands.same_last ∙ sym (last_fits shape.stamped plain.last fresh_plain) ∙ sym last;
    }

-- Lists that are filtered entry by entry

kept_on : {Y : Type 0} (p : Y → Bool) (shown : List Entry → List Y) (f : Entry → Y) → ((xs : List Entry) (e : Entry) → shown (xs ++ e ∷ []) ≡ shown xs ++ f e ∷ []) → (es : List Entry) (i : ℕ) (e : Entry)
    → i < length es → e ≡ get_or es i e → filter p (shown (take (i + 1) es)) ≡ filter p (shown (take i es)) ++ cond (p (f e)) (f e ∷ []) []
kept_on p shown f adds es i e within is =
    ap (λ xs. filter p (shown xs)) (take_more es i e within ∙ ap (λ x. take i es ++ x ∷ []) (sym is)) ∙ ap (filter p) (adds (take i es) e) ∙ filter-append p (shown (take i es)) (f e ∷ [])

append_none : {Y : Type 0} (xs : List Y) → xs ++ [] ≡ xs
append_none [] = refl
append_none (x ∷ xs) = ap (λ rest. x ∷ rest) (append_none xs)

-- the entries but that of a key
abbrev pub others_of : List ℕ → List Entry → List (List ℕ × Stored)
others_of key es = where_key key_cmp (λ x. not (eq_by_cmp key_cmp key x)) (listed es)

pub other_kept_on : (key : List ℕ) (es : List Entry) (i : ℕ) (e : Entry) → i < length es → e ≡ get_or es i e → e.key.items ≢ key → others_of key (take (i + 1) es) ≡ others_of key (take i es) ++ stored_with e ∷ []
other_kept_on key es i e within is other =
    kept_on (λ (x : List ℕ × Stored). not (eq_by_cmp key_cmp key x.0)) listed stored_with (λ xs x. map-append stored_with xs (x ∷ [])) es i e within is
    ∙ ap (λ b. others_of key (take i es) ++ cond (not b) (stored_with e ∷ []) []) (other_key key e.key.items (λ same. other (sym same)))

pub same_left_out : (key : List ℕ) (es : List Entry) (i : ℕ) (e : Entry) → i < length es → e ≡ get_or es i e → e.key.items ≡ key → others_of key (take (i + 1) es) ≡ others_of key (take i es)
same_left_out key es i e within is same =
    kept_on (λ (x : List ℕ × Stored). not (eq_by_cmp key_cmp key x.0)) listed stored_with (λ xs x. map-append stored_with xs (x ∷ [])) es i e within is
    ∙ ap (λ b. others_of key (take i es) ++ cond (not b) (stored_with e ∷ []) []) (ap (eq_by_cmp key_cmp key) same ∙ tied_key key) ∙ append_none (others_of key (take i es))

-- the pairs of entries in an interval
abbrev pub rows_of : List ℕ → Option (List ℕ) → List Entry → List (List ℕ × List ℕ)
rows_of low high es = filter (λ pair. is_from low pair.0 && is_before high pair.0) (map pair_of (listed es))

row_added : (xs : List Entry) (e : Entry) → map pair_of (listed (xs ++ e ∷ [])) ≡ map pair_of (listed xs) ++ pair_of (stored_with e) ∷ []
row_added xs e = ap (map pair_of) (map-append stored_with xs (e ∷ [])) ∙ map-append pair_of (listed xs) (stored_with e ∷ [])

pub row_kept_on : (low : List ℕ) (high : Option (List ℕ)) (es : List Entry) (i : ℕ) (e : Entry) (b : Bool) → i < length es → e ≡ get_or es i e → (is_from low e.key.items && is_before high e.key.items) ≡ b
    → rows_of low high (take (i + 1) es) ≡ rows_of low high (take i es) ++ cond b (pair_of (stored_with e) ∷ []) []
row_kept_on low high es i e b within is test =
    kept_on (λ (pair : List ℕ × List ℕ). is_from low pair.0 && is_before high pair.0) (λ xs. map pair_of (listed xs)) (λ x. pair_of (stored_with x)) row_added es i e within is
    ∙ ap (λ t. rows_of low high (take i es) ++ cond t (pair_of (stored_with e) ∷ []) []) test

pub row_left_out : (low : List ℕ) (high : Option (List ℕ)) (es : List Entry) (i : ℕ) (e : Entry) → i < length es → e ≡ get_or es i e → (is_from low e.key.items && is_before high e.key.items) ≡ false
    → rows_of low high (take (i + 1) es) ≡ rows_of low high (take i es)
row_left_out low high es i e within is test = row_kept_on low high es i e false within is test ∙ append_none (rows_of low high (take i es))

pub rows_taken : (n : ℕ) (rows : List Row) → map pair_with (take n rows) ≡ take n (map pair_with rows)
rows_taken zero rows = refl
rows_taken (suc n) [] = refl
rows_taken (suc n) (row ∷ rows) = ap (λ rest. pair_with row ∷ rest) (rows_taken n rows)

pub stands_without : (plain : Map) (m : spec.Map) (key : List ℕ) (next : Map) → Stands plain m → listed next.entries.items ≡ others_of key plain.entries.items → next.last ≡ plain.last → Stands next (after_delete m key)
stands_without plain m key next stands kept last = record {
  same_entries = entries_remove m.entries key ∙ ap (where_key key_cmp (λ x. not (eq_by_cmp key_cmp key x))) stands.same_entries ∙ sym kept;
  same_last = stands.same_last ∙ sym last;
}

pub stands_rows : (plain : Map) (m : spec.Map) (low : List ℕ) (high : Option (List ℕ)) → Stands plain m → pairs_between m low high ≡ rows_of low high plain.entries.items
stands_rows plain m low high stands = ap (λ es. filter (λ (pair : List ℕ × List ℕ). is_from low pair.0 && is_before high pair.0) (map pair_of es)) stands.same_entries
