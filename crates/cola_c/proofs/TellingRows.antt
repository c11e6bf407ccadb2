-- What a cursor's calls tell, and the number of keys.
use Rattle.std.proofs.Common.{◌≡◌, ◌∙◌, inl, inr, ◌⊎◌, ◌<◌, ◌≤◌, ◌-◌, ℕ, ℤ, pos, min, Bool, true, false, if◌then◌else◌, ◌&&◌, nat_lt, nat_le, nat_eq, List, length, drop, filter, Some, Result, Ok, Err, refl, sym, ap, subst, arith}
use Rattle.std.proofs.lemmas.Bool.Decides.{nat_tests}
use Rattle.std.proofs.lemmas.List.{length-drop}
use Rattle.std.specs.Result.{result_unwrap_or}
use Rattle.cola_spec.specs.Map.{Map, pairs, pairs_between, is_from, is_before}
use Rattle.cola_kv.specs.declared.error.Error.{Error}
use Rattle.cola_kv.specs.declared.error.Error.TheVariants as error
use Rattle.cola_handle.specs.declared.answer.Answer.TheVariants.{Done, Absent, Length}
use Rattle.cola_handle.specs.declared.cursor.Cursor.{Cursor}
use Rattle.cola_handle.specs.declared.cursor.Row.{Row}
use Rattle.cola_handle.specs.declared.session.Session.{Session}
use Rattle.cola_handle.specs.Cursors.{Refused, IsSet, gave, ahead, are_short, end_at, from_of, until_of}
use Rattle.cola_handle.specs.Numbers.{number, refused}
use Rattle.cola_handle.specs.Open.{HoldsMap}
use Rattle.cola_c.specs.Exports.{Nexts}
use Rattle.cola_c.specs.Plain.{GivesRows, PlainNext, PlainSeek, NextsAreTold, SeeksAreTold, CountsAreTold}

-- on a store that holds a map the next rows are refused by lengths alone
by-length : (m : Map) (Holds : Map → Type 0) (e : Error) → Refused m Holds e → (e ≡ error.KeyLength) × Holds m
by-length m Holds error.KeyLength refused = (refl, refused)
by-length m Holds error.ValueLength refused = absurd refused
by-length m Holds error.Keys refused = absurd refused
by-length m Holds error.Block refused = absurd refused
by-length m Holds error.NotEmpty refused = absurd refused
by-length m Holds error.NotStore refused = absurd refused
by-length m Holds error.Small refused = absurd refused
by-length m Holds error.NotClosed refused = absurd refused
by-length m Holds (error.BadCell cell) refused = absurd refused
by-length m Holds error.OutOfMemory refused = absurd refused
by-length m Holds error.Full refused = absurd refused
by-length m Holds error.Worn refused = absurd refused
by-length m Holds (error.Overfull level) refused = absurd refused
by-length m Holds error.Device refused = absurd refused

pick : (b : Bool) → pos (number (if b then Absent else Done)) ≡ (if b then pos 1 else pos 0)
pick true = refl
pick false = refl

-- what is behind the rows that were given stays, so there are as many rows as before
as-many : (given : ℕ) (rows filled : List Row) → given ≤ length rows → given ≤ length filled → drop given filled ≡ drop given rows → length filled ≡ length rows
as-many given rows filled few some same =
    let a : length (drop given filled) ≡ length filled - given = length-drop given filled in
    let b : length (drop given rows) ≡ length rows - given = length-drop given rows in
    let c : length (drop given filled) ≡ length (drop given rows) = ap length same in
    omega (arith, a, b, c, few, some)

module _ (old new : Session) (m : Map) (held : HoldsMap old m) (before after : Cursor) (rows filled : List Row) (code : ℤ) where
  rows-given : (given : ℕ) → code ≡ pos (number (gave (length rows) (Ok given))) → Nexts old before rows new after filled (Ok given) → GivesRows m before after rows filled code given
  rows-given given is nexts =
      let says = nexts.answer m held in
      let size : length filled ≡ length rows = as-many given rows filled nexts.writes.few (omega (arith, says.0.number)) nexts.writes.others in record {
        many = says.0.number ∙ ap (λ n. min n (length (ahead m before))) size;
        code_is = is ∙ pick (nat_lt 0 (length rows) && nat_eq given 0);
        pairs_are = says.0.pairs_are;
        others = nexts.writes.others;
        rest = says.1;
      }

  next-refused : (given given' : ℕ) (e : Error) → e ≡ error.KeyLength → code ≡ pos (number (refused e)) → Nexts old before rows new after filled (Err e) → given' ≡ given → PlainNext m before after rows filled code given given'
  next-refused given given' error.KeyLength is said nexts kept = inr (nexts.length.0, said, nexts.refused, nexts.gave_some, kept)
  next-refused given given' error.ValueLength is said nexts kept = absurd (nexts.answer m held)
  next-refused given given' error.Keys is said nexts kept = absurd (nexts.answer m held)
  next-refused given given' error.Block is said nexts kept = absurd (nexts.answer m held)
  next-refused given given' error.NotEmpty is said nexts kept = absurd (nexts.answer m held)
  next-refused given given' error.NotStore is said nexts kept = absurd (nexts.answer m held)
  next-refused given given' error.Small is said nexts kept = absurd (nexts.answer m held)
  next-refused given given' error.NotClosed is said nexts kept = absurd (nexts.answer m held)
  next-refused given given' (error.BadCell cell) is said nexts kept = absurd (nexts.answer m held)
  next-refused given given' error.OutOfMemory is said nexts kept = absurd (nexts.answer m held)
  next-refused given given' error.Full is said nexts kept = absurd (nexts.answer m held)
  next-refused given given' error.Worn is said nexts kept = absurd (nexts.answer m held)
  next-refused given given' (error.Overfull level) is said nexts kept = absurd (nexts.answer m held)
  next-refused given given' error.Device is said nexts kept = absurd (nexts.answer m held)

  next-told : (given given' : ℕ) (next : Result ℕ Error) → code ≡ pos (number (gave (length rows) next)) → Nexts old before rows new after filled next → given' ≡ result_unwrap_or next given → PlainNext m before after rows filled code given given' × HoldsMap new m
  next-told given given' (Ok n) is nexts to = (
    inl (nexts.length, subst (λ (g : ℕ). GivesRows m before after rows filled code g) (sym to) (rows-given n is nexts)),
    (nexts.answer m held).2,
  )
  next-told given given' (Err e) is nexts to =
      let r = by-length m (HoldsMap new) e (nexts.answer m held) in (next-refused given given' e r.0 is nexts to, r.1)

pub nexts-told : NextsAreTold
nexts-told old m before after rows filled handle code given given' held told =
    let r = next-told old told.new m held before after rows filled code given given' told.answer told.number_is told.says.0 told.says.1 in
    (r.0, (told.new, told.is_open, r.1))

-- the pairs that are ahead, by the parts of a cursor
abbrev ahead-by : Map → (behind : Bool) (from : List ℕ) (bounded : Bool) (until : List ℕ) → List (List ℕ × List ℕ)
ahead-by m behind from bounded until =
    filter (λ pair. (if behind then is_before (Some pair.0) from else is_from from pair.0) && is_before (end_at bounded until) pair.0) (pairs m)

-- a cursor that was set gives the pairs of its interval
set-ahead : (low high : List ℕ) (bounded : Bool) (cursor : Cursor) (m : Map) → IsSet low high bounded cursor → ahead m cursor ≡ pairs_between m low (end_at bounded high)
set-ahead low high bounded cursor m is =
    ap (λ (b : Bool). ahead-by m b (from_of cursor) cursor.bounded (until_of cursor)) is.not_behind
    ∙ (ap (λ (f : List ℕ). ahead-by m false f cursor.bounded (until_of cursor)) is.from_is
    ∙ (ap (λ (b : Bool). ahead-by m false low b (until_of cursor)) is.bounded_is
    ∙ ap (λ (u : List ℕ). ahead-by m false low bounded u) is.until_is))

both : (a b : ℕ) → (nat_le a 40 && nat_le b 40) ≡ true → (a ≤ 40) × (b ≤ 40)
both a b are = grind (arith, nat_tests)

either : (a b : ℕ) → (nat_le a 40 && nat_le b 40) ≡ false → (40 < a) ⊎ (40 < b)
either a b are = grind (arith, nat_tests)

seek-told : (low high : List ℕ) (bounded : Bool) (before after : Cursor) (code : ℤ) (short : Bool) → are_short low high ≡ short →
    (are_short low high ≡ true → (code ≡ pos (number Done)) × IsSet low high bounded after) →
    (are_short low high ≡ false → (code ≡ pos (number Length)) × (after ≡ before)) → PlainSeek low high bounded before after code
seek-told low high bounded before after code true short set long =
    let few = both (length low) (length high) short in inl (few.0, few.1, (set short).0, λ m. set-ahead low high bounded after m (set short).1)
seek-told low high bounded before after code false short set long = inr (either (length low) (length high) short, (long short).0, (long short).1)

pub seeks-told : SeeksAreTold
seeks-told low high bounded before after code set long = seek-told low high bounded before after code (are_short low high) refl set long

pub counts-told : CountsAreTold
counts-told old m after code keys held still done counted = (done, counted m held, (old, still, held))
