-- What the calls by C say of rows by falling keys.
use Rattle.std.specs.Prelude.{◌≡◌, ◌<◌, ◌↔◌, ◌⊎◌, ◌&&◌, ℕ, ℤ, pos, true, false, min, nat_lt, nat_eq, if◌then◌else◌, List, [], ◌++◌, length, take, drop, reverse, map, Result, IfOk, IfErr, OnErr}
use Rattle.std.specs.Result.{result_unwrap_or}
use Rattle.cola_spec.specs.Bounds.{range_bound}
use Rattle.cola_spec.specs.Map.{Map}
use Rattle.cola_kv.specs.declared.error.Error.{Error}
use Rattle.cola_handle.specs.declared.answer.Answer.TheVariants.{Absent}
use Rattle.cola_handle.specs.declared.cursor.Cursor.{Cursor}
use Rattle.cola_handle.specs.declared.cursor.Row.{Row}
use Rattle.cola_handle.specs.declared.handle.Cola.{Cola}
use Rattle.cola_handle.specs.declared.session.Session.{Session}
use Rattle.cola_handle.specs.Behind.{PrevSays, Turns, behind}
use Rattle.cola_handle.specs.Cursors.{ByLength, Writes, GaveSome, is_good, ahead, gave, row_pair}
use Rattle.cola_handle.specs.Falling.{RangeBackSays}
use Rattle.cola_handle.specs.Numbers.{number}
use Rattle.cola_handle.specs.Open.{HoldsMap, levels_of, Stays, SameFirst}
use Rattle.cola_handle.specs.Walking.{Reads}
use Rattle.cola_c.specs.Exports.{Answered}
use Rattle.cola_c.specs.Plain.{Keeps}

module _ (old : Session) (before : Cursor) (rows : List Row) where
  -- the rows before a cursor
  pub record Prevs (new : Session) (after : Cursor) (filled : List Row) (result : Result ℕ Error) : Type 0 where
    pub answer : (m : Map) → HoldsMap old m → PrevSays m before after filled (HoldsMap new) result
    pub given : RangeBackSays old new before filled result
    pub length : ByLength (is_good before) (new ≡ old) result
    pub writes : IfOk result (Writes rows filled)
    pub gave_some : IfErr result (GaveSome rows filled)
    pub turns : IfOk result (Turns before after filled)
    pub refused : OnErr result (after ≡ before)
    pub good : is_good before ≡ true → is_good after ≡ true
    pub reads : Reads old new (range_bound (levels_of old))
    pub stays : Stays old new
    pub lent_stays : SameFirst old new

  -- the rows before a cursor are answered on an open handle, and it is told how many were given
  abbrev pub AnswersPrev : (handle : Cola) → ℤ → (after : Cursor) → (filled : List Row) → (given given' : ℕ) → Type 0
  AnswersPrev handle code after filled given given' =
      Answered handle code (gave (length rows)) (λ new prev. Prevs new after filled prev × (given' ≡ result_unwrap_or prev given))

  -- where the session holds a map and the cursor is good, absent is answered exactly where rows were asked for and no pair is behind
  abbrev pub IsAbsentAtStart : ℤ → Type 0
  IsAbsentAtStart code = (m : Map) → HoldsMap old m → is_good before ≡ true →
      (code ≡ pos (number Absent)) ↔ ((0 < length rows) × (behind m before ≡ []))

-- In plain terms, of a session that held a map: 0, or 1 where rows were asked for and none was given; as many rows as there are of both have the first pairs before the cursor, by falling keys, which are ahead of it then; 7 where a length of the cursor is more than its list has, and all stays
abbrev pub PlainPrev : Map → (handle : Cola) → ℤ → (before after : Cursor) → (rows filled : List Row) → (given given' : ℕ) → Type 0
PlainPrev m handle code before after rows filled given given' =
    ((is_good before ≡ true) × (code ≡ pos (if nat_lt 0 (length rows) && nat_eq given' 0 then 1 else 0))
    × (given' ≡ min (length filled) (length (behind m before))) × (map row_pair (take given' filled) ≡ take given' (behind m before))
    × (behind m after ≡ drop given' (behind m before)) × (ahead m after ≡ reverse (take given' (behind m before)) ++ ahead m before) × Keeps handle m)
    ⊎ ((is_good before ≡ false) × (code ≡ pos 7) × (filled ≡ rows) × (after ≡ before) × (given' ≡ given) × Keeps handle m)

-- Law: this holds of what `cola_core_prev` answers on a session that held a map
abbrev pub PrevsAreTold : Type 0
PrevsAreTold = (old : Session) (m : Map) (before after : Cursor) (rows filled : List Row) (handle : Cola) (code : ℤ) (given given' : ℕ) → HoldsMap old m →
    AnswersPrev old before rows handle code after filled given given' → PlainPrev m handle code before after rows filled given given'
