-- Falling walks over an open store: the pairs of a map in falling order, how such a walk begins, and the pair of the greatest key.
use Rattle.std.specs.Prelude.{◌≡◌, ℕ, ◌+◌, ◌*◌, ◌≤◌, true, List, length, map, None, Option, Result, Ok, Err, IfOk, IfErr, IsOk}
use Rattle.std.specs.List.{last_or}
use Rattle.std.specs.declared.ops.Bound.{Bound}
use Rattle.std.specs.declared.ops.Bound.TheVariants.{Unbounded}
use Rattle.cola_cell.specs.declared.fault.ReadFault.{ReadFault}
use Rattle.cola_cell.specs.Held.{LawCell}
use Rattle.cola_cell.specs.Order.{key_cmp}
use Rattle.cola_cursor.specs.declared.cursor.Cursor.{Cursor}
use Rattle.cola_cursor.specs.Lines.{ahead_of}
use Rattle.cola_cursor.specs.Seeking.{aheads_of, range_ticks, left_sought}
use Rattle.cola_cursor.specs.Turning.{places_to, places_told_to}
use Rattle.cola_device.specs.declared.counts.Counts.{Counts}
use Rattle.cola_look.specs.Outcome.{Answers}
use Rattle.cola_look.specs.Runs.{AreRuns}
use Rattle.cola_reverse.specs.Falling.{falling_pairs}
use Rattle.cola_spec.specs.Map.{Map, pairs}
use Rattle.cola_table.specs.Answers.{OnlyDeviceRead}
use Rattle.cola_store.specs.Calls.{Same}
use Rattle.cola_store.specs.Store.{Stored, held_of, spent_of, levels_of, runs_of}
use Rattle.cola_store.specs.Walks.{RangeCause, TurnsBy, Goes, left_of, left_after}

-- the pairs whose keys lie from `low` on, where there is one, and up to `high`, by falling keys
abbrev pub pairs_back : Map → Option (List ℕ) → Bound (List ℕ) → List (List ℕ × List ℕ)
pairs_back m low high = falling_pairs key_cmp low high (pairs m)

-- the pair of the greatest key, where there is a key
abbrev pub last_pair : Map → Option (List ℕ × List ℕ)
last_pair m = last_or None (pairs m)

-- a falling range gives a walk with the pairs of the interval ahead, by falling keys, and leaves the map
abbrev pub RangeBackAnswers : {W : Type 0} → Map → Option (List ℕ) → Bound (List ℕ) → (Map → Type 0) → (W → List (List ℕ × List ℕ) → Type 0) → Result W ReadFault → Type 0
RangeBackAnswers m low high Holds Ahead (Ok walk) = Ahead walk (pairs_back m low high) × Holds m
RangeBackAnswers m low high Holds Ahead (Err refusal) = OnlyDeviceRead refusal × Holds m

-- the pair of the greatest key is answered, and the map stays
abbrev pub LastAnswers : Map → (Map → Type 0) → Result (Option (List ℕ × List ℕ)) ReadFault → Type 0
LastAnswers m Holds (Ok pair) = (pair ≡ last_pair m) × Holds m
LastAnswers m Holds (Err refusal) = OnlyDeviceRead refusal × Holds m

module _ {D : Type 0} (bytes : D → Option (List ℕ)) (counts : D → Counts) where
  -- a falling range with these ends gives a walk that falls, and has in each visible run the cells ahead that stand up to the bound, or is refused with its cause
  pub record BeginsBack (old : Stored D) (low : Option (List ℕ)) (high : Bound (List ℕ)) (result : Result Cursor ReadFault) (new : Stored D) : Type 0 where
    pub ends : IfOk result (λ walk. walk.end ≡ low)
    pub way : IfOk result (λ walk. walk.falls ≡ true)
    pub places : (lists : List (List LawCell)) → AreRuns (held_of bytes old) (runs_of old) lists →
        IfOk result (λ walk. map ahead_of walk.lines.items ≡ places_to high lists)
    -- on all files the same as far as the cells are told: a bad cell that a search needs is answered
    pub exact : Answers (places_told_to (held_of bytes old) high (runs_of old)) (λ (walk : Cursor). aheads_of walk.lines) result
    pub few : (spent_of counts new).turned ≤ (spent_of counts old).turned + 2 * length (runs_of old)
    -- from the end nothing is read
    pub unread : high ≡ Unbounded → IsOk result × (spent_of counts new ≡ spent_of counts old)
    pub cause : IfErr result (RangeCause bytes counts old new)
    pub turns : TurnsBy bytes counts old new (left_sought result) (range_ticks (levels_of old))
    pub same : Same bytes counts old new
    pub account_is : new.account ≡ old.account

  -- the greatest key was asked for: a walk that falls was begun at the end, which reads nothing, and asked once; each tick is a cell that the walk read
  pub record AsksLast (old : Stored D) (result : Result (Option (List ℕ × List ℕ)) ReadFault) (new : Stored D) (ticks ticks_now : ℕ) : Type 0 where
    pub mid : Stored D
    pub walk : Cursor
    pub after : Cursor
    pub begins : BeginsBack old None Unbounded (Ok walk) mid
    pub goes : Goes bytes counts mid walk result new after
    pub reads : ticks_now + left_after after result ≤ ticks + left_of walk
