-- When the rows before a cursor are answered by absent.
use Rattle.std.proofs.Common.{◌≡◌, ◌∙◌, ◌↔◌, ◌<◌, sym, ap, ℕ, ℤ, pos, min, true, List, [], length, Ok, Err}
use Rattle.std.specs.Prelude.{Result}
use Rattle.std.proofs.lemmas.List.{nil_from_length}
use Rattle.cola_spec.specs.Map.{Map}
use Rattle.cola_kv.specs.declared.error.Error.{Error}
use Rattle.cola_kv.specs.declared.error.Error.TheVariants as error
use Rattle.cola_handle.specs.declared.cursor.Cursor.{Cursor}
use Rattle.cola_handle.specs.declared.cursor.Row.{Row}
use Rattle.cola_handle.specs.declared.session.Session.{Session}
use Rattle.cola_handle.specs.Behind.{behind}
use Rattle.cola_handle.specs.Cursors.{gave, is_good}
use Rattle.cola_handle.specs.Numbers.{number}
use Rattle.cola_handle.specs.Open.{HoldsMap}
use Rattle.cola_c.specs.Walks.{Prevs}
use Rattle.cola_c.proofs.Ended.{none_given, absent_given, same_number}

-- a good cursor on a session that holds a map: absent exactly where rows were asked for and none is behind
pub started : (m : Map) (old new : Session) (before after : Cursor) (rows filled : List Row) (next : Result ℕ Error) (code : ℤ) → code ≡ pos (number (gave (length rows) next)) → length filled ≡ length rows → HoldsMap old m → is_good before ≡ true → Prevs old before rows new after filled next
    → (code ≡ pos 1) ↔ ((0 < length rows) × (behind m before ≡ []))
started m old new before after rows filled (Ok given) code is size held good prevs =
    let many : given ≡ min (length rows) (length (behind m before)) = (prevs.answer m held).0.first.number ∙ ap (λ n. min n (length (behind m before))) size in (
      λ absent.
          let none = none_given (length rows) given (length (behind m before)) many (same_number _ _ (sym is ∙ absent)) in
          (none.0, nil_from_length (behind m before) none.1),
      λ none. is ∙ ap pos (absent_given (length rows) given (length (behind m before)) many none.0 (ap length none.1)),
    )
started m old new before after rows filled (Err error.KeyLength) code is size held good prevs = absurd (cc (prevs.length.0, good))
started m old new before after rows filled (Err error.ValueLength) code is size held good prevs = absurd (prevs.answer m held)
started m old new before after rows filled (Err error.Keys) code is size held good prevs = absurd (prevs.answer m held)
started m old new before after rows filled (Err error.Block) code is size held good prevs = absurd (prevs.answer m held)
started m old new before after rows filled (Err error.NotEmpty) code is size held good prevs = absurd (prevs.answer m held)
started m old new before after rows filled (Err error.NotStore) code is size held good prevs = absurd (prevs.answer m held)
started m old new before after rows filled (Err error.Small) code is size held good prevs = absurd (prevs.answer m held)
started m old new before after rows filled (Err error.NotClosed) code is size held good prevs = absurd (prevs.answer m held)
started m old new before after rows filled (Err (error.BadCell cell)) code is size held good prevs = absurd (prevs.answer m held)
started m old new before after rows filled (Err error.OutOfMemory) code is size held good prevs = absurd (prevs.answer m held)
started m old new before after rows filled (Err error.Full) code is size held good prevs = absurd (prevs.answer m held)
started m old new before after rows filled (Err error.Worn) code is size held good prevs = absurd (prevs.answer m held)
started m old new before after rows filled (Err (error.Overfull level)) code is size held good prevs = absurd (prevs.answer m held)
started m old new before after rows filled (Err error.Device) code is size held good prevs = absurd (prevs.answer m held)
