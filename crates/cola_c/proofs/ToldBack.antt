-- What a call for the rows before a cursor tells of a session that held a map.
use Rattle.std.proofs.Common.{◌≡◌, ◌∙◌, ◌&&◌, inl, inr, ℕ, ℤ, pos, true, false, Bool, cond, List, length, Some, Result, Ok, Err, refl, sym, ap, subst}
use Rattle.std.specs.Prelude.{nat_lt, nat_eq}
use Rattle.std.specs.Result.{result_unwrap_or}
use Rattle.cola_spec.specs.Map.{Map}
use Rattle.cola_kv.specs.declared.error.Error.{Error}
use Rattle.cola_kv.specs.declared.error.Error.TheVariants as error
use Rattle.cola_handle.specs.declared.answer.Answer.TheVariants.{Done, Absent}
use Rattle.cola_handle.specs.declared.cursor.Cursor.{Cursor}
use Rattle.cola_handle.specs.declared.cursor.Row.{Row}
use Rattle.cola_handle.specs.declared.handle.Cola.{Cola}
use Rattle.cola_handle.specs.declared.session.Session.{Session}
use Rattle.cola_handle.specs.Cursors.{gave}
use Rattle.cola_handle.specs.Numbers.{number}
use Rattle.cola_handle.specs.Open.{HoldsMap}
use Rattle.cola_c.specs.Walks.{Prevs, PlainPrev, PrevsAreTold}

number-given : (b : Bool) → number (cond b Absent Done) ≡ cond b 1 0
number-given true = refl
number-given false = refl

module _ (old new : Session) (m : Map) (before after : Cursor) (rows filled : List Row) (handle : Cola) (code : ℤ) (given given' : ℕ) (held : HoldsMap old m) (open_still : handle.owned.session ≡ Some new) where
  prev-told : (result : Result ℕ Error) → code ≡ pos (number (gave (length rows) result)) → Prevs old before rows new after filled result → given' ≡ result_unwrap_or result given → PlainPrev m handle code before after rows filled given given'
  prev-told (Ok count) is p g =
      let a = p.answer m held in
      subst (λ (n : ℕ). PlainPrev m handle code before after rows filled given n) (sym g)
      (inl (p.length, is ∙ ap pos (number-given (nat_lt 0 (length rows) && nat_eq count 0)), a.0.first.number, a.0.first.pairs_are, a.0.left, a.0.back, (new, open_still, a.1)))
  prev-told (Err error.KeyLength) is p g = inr (p.length.0, is, p.gave_some, p.refused, g, (new, open_still, p.answer m held))
  prev-told (Err error.ValueLength) is p g = absurd (p.answer m held)
  prev-told (Err error.Keys) is p g = absurd (p.answer m held)
  prev-told (Err error.Block) is p g = absurd (p.answer m held)
  prev-told (Err error.NotEmpty) is p g = absurd (p.answer m held)
  prev-told (Err error.NotStore) is p g = absurd (p.answer m held)
  prev-told (Err error.Small) is p g = absurd (p.answer m held)
  prev-told (Err error.NotClosed) is p g = absurd (p.answer m held)
  prev-told (Err (error.BadCell cell)) is p g = absurd (p.answer m held)
  prev-told (Err error.OutOfMemory) is p g = absurd (p.answer m held)
  prev-told (Err error.Full) is p g = absurd (p.answer m held)
  prev-told (Err error.Worn) is p g = absurd (p.answer m held)
  prev-told (Err (error.Overfull level)) is p g = absurd (p.answer m held)
  prev-told (Err error.Device) is p g = absurd (p.answer m held)

pub prevs-told : PrevsAreTold
prevs-told old m before after rows filled handle code given given' held told =
    prev-told old told.new m before after rows filled handle code given given' held told.is_open told.answer told.number_is told.says.0 told.says.1
