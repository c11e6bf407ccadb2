-- When the next rows are answered by absent.
use Rattle.std.proofs.Common.{◌≡◌, ◌∙◌, ◌↔◌, ◌<◌, sym, ap, ℕ, ℤ, pos, min, true, List, [], length, Ok, Err, arith}
use Rattle.std.specs.Prelude.{Result}
use Rattle.std.proofs.lemmas.List.{nil_from_length}
use Rattle.std.proofs.lemmas.Bool.Decides.{nat_tests}
use Rattle.cola_spec.specs.Map.{Map}
use Rattle.cola_kv.specs.declared.error.Error.{Error}
use Rattle.cola_kv.specs.declared.error.Error.TheVariants as error
use Rattle.cola_handle.specs.declared.cursor.Cursor.{Cursor}
use Rattle.cola_handle.specs.declared.cursor.Row.{Row}
use Rattle.cola_handle.specs.declared.session.Session.{Session}
use Rattle.cola_handle.specs.Cursors.{gave, ahead, is_good}
use Rattle.cola_handle.specs.Numbers.{number}
use Rattle.cola_handle.specs.Open.{HoldsMap}
use Rattle.cola_c.specs.Exports.{Nexts}

pub none_given : (wanted given many : ℕ) → given ≡ min wanted many → number (gave wanted (Ok given)) ≡ 1 → (0 < wanted) × (many ≡ 0)
none_given wanted given many is absent = grind (arith, nat_tests)

pub absent_given : (wanted given many : ℕ) → given ≡ min wanted many → 0 < wanted → many ≡ 0 → number (gave wanted (Ok given)) ≡ 1
absent_given wanted given many is some none = grind (arith, nat_tests)

pub same_number : (a b : ℕ) → pos a ≡ pos b → a ≡ b
same_number a b same = cc

-- a good cursor on a session that holds a map: absent exactly where rows were asked for and none is ahead
pub ended : (m : Map) (old new : Session) (before after : Cursor) (rows filled : List Row) (next : Result ℕ Error) (code : ℤ) → code ≡ pos (number (gave (length rows) next)) → length filled ≡ length rows → HoldsMap old m → is_good before ≡ true → Nexts old before rows new after filled next
    → (code ≡ pos 1) ↔ ((0 < length rows) × (ahead m before ≡ []))
ended m old new before after rows filled (Ok given) code is size held good nexts =
    let many : given ≡ min (length rows) (length (ahead m before)) = (nexts.answer m held).0.number ∙ ap (λ n. min n (length (ahead m before))) size in (
      λ absent.
          let none = none_given (length rows) given (length (ahead m before)) many (same_number _ _ (sym is ∙ absent)) in
          (none.0, nil_from_length (ahead m before) none.1),
      λ none. is ∙ ap pos (absent_given (length rows) given (length (ahead m before)) many none.0 (ap length none.1)),
    )
ended m old new before after rows filled (Err error.KeyLength) code is size held good nexts = absurd (cc (nexts.length.0, good))
ended m old new before after rows filled (Err error.ValueLength) code is size held good nexts = absurd (nexts.answer m held)
ended m old new before after rows filled (Err error.Keys) code is size held good nexts = absurd (nexts.answer m held)
ended m old new before after rows filled (Err error.Block) code is size held good nexts = absurd (nexts.answer m held)
ended m old new before after rows filled (Err error.NotEmpty) code is size held good nexts = absurd (nexts.answer m held)
ended m old new before after rows filled (Err error.NotStore) code is size held good nexts = absurd (nexts.answer m held)
ended m old new before after rows filled (Err error.Small) code is size held good nexts = absurd (nexts.answer m held)
ended m old new before after rows filled (Err error.NotClosed) code is size held good nexts = absurd (nexts.answer m held)
ended m old new before after rows filled (Err (error.BadCell cell)) code is size held good nexts = absurd (nexts.answer m held)
ended m old new before after rows filled (Err error.OutOfMemory) code is size held good nexts = absurd (nexts.answer m held)
ended m old new before after rows filled (Err error.Full) code is size held good nexts = absurd (nexts.answer m held)
ended m old new before after rows filled (Err error.Worn) code is size held good nexts = absurd (nexts.answer m held)
ended m old new before after rows filled (Err (error.Overfull level)) code is size held good nexts = absurd (nexts.answer m held)
ended m old new before after rows filled (Err error.Device) code is size held good nexts = absurd (nexts.answer m held)
