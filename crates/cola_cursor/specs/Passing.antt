-- What is passed of lines.
use Rattle.std.specs.Prelude.{◌≡◌, ℕ, ◌≤◌, ◌<◌, Bool, false, List, [], ◌∷◌, drop, Option, None, Some, option_map, IsTrue, is_some}
use Rattle.std.specs.List.{AllByRecursion}
use Rattle.std.specs.Ordering.{is_eq}
use Rattle.std.specs.Option.{option_or}
use Rattle.cola_runs.specs.Cells as laws
use Rattle.cola_cell.specs.declared.cell.Cell.{Cell}
use Rattle.cola_cell.specs.declared.cell.Item.{Item}
use Rattle.cola_cell.specs.Cell.{key_of}
use Rattle.cola_cell.specs.Held.{Held, Told, Tells, LawCell, as_item}
use Rattle.cola_cell.specs.Listed.{IsRun}
use Rattle.cola_cell.specs.Order.{key_cmp}
use Rattle.cola_pairs.specs.Walk.{pass_key, passed_item}
use Rattle.cola_cursor.specs.declared.line.Line.{Line}
use Rattle.cola_cursor.specs.Lines.{LineFits, IsReady}
use Rattle.cola_cursor.specs.Way.{way, spot_at}

-- the head has this key
abbrev pub has_key : List ℕ → Option Cell → Bool
has_key key None = false
has_key key (Some cell) = is_eq (key_cmp key (key_of cell))

-- none of the heads has this key
abbrev pub NoneHas : List ℕ → List Line → Type 0
NoneHas key = AllByRecursion (λ line. has_key key line.head ≡ false)

module _ (falls : Bool) where
  -- a cell with this key at a place of a line's run, which is an item where one was found
  pub record PassedAt (held : Held) (line : Line) (key : List ℕ) (j : ℕ) (found : Bool) : Type 0 where
    pub cell : LawCell
    pub told : Tells (spot_at falls held line.run j) (Told cell)
    pub key_is : laws.key_of cell ≡ key
    pub looks : found ≡ false → IsTrue (laws.is_look cell)

  -- an item with this key that was passed, from one place of a line's run to another
  pub record FoundItem (held : Held) (line : Line) (key : List ℕ) (place : ℕ) (item : Item) : Type 0 where
    pub index : ℕ
    pub from : line.place ≤ index
    pub before : index < place
    pub young : Bool
    pub link : ℕ
    pub told : Tells (spot_at falls held line.run index)
        (Told (laws.Entry key (as_item item) young link))

  -- a line that passed the cells of a key at its front: where it stands then, and the first item among them, if there is one
  pub record Passes (held : Held) (key : List ℕ) (old new : Line) (item : Option Item) : Type 0 where
    pub run_is : new.run ≡ old.run
    pub goes : old.place ≤ new.place
    pub moves : IsTrue (has_key key old.head) → old.place < new.place
    pub fits : LineFits falls held new
    pub ready : IsReady new
    pub cells : (j : ℕ) → old.place ≤ j → j < new.place → PassedAt held old key j (is_some item)
    pub found : (i : Item) → item ≡ Some i → FoundItem held old key new.place i
    pub told : (cells : List LawCell) → IsRun held old.run cells →
        drop new.place (way falls cells) ≡ pass_key key_cmp key (drop old.place (way falls cells))
    pub item_is : (cells : List LawCell) → IsRun held old.run cells →
        option_map as_item item ≡ passed_item key_cmp key (drop old.place (way falls cells))

  -- lines that passed the cells of a key at their fronts, one by one, and the item of the first of them that has one
  abbrev pub PassAll : Held → List ℕ → List Line → List Line → Option Item → Type 0
  PassAll held key [] [] item = item ≡ None
  PassAll held key [] (new ∷ news) item = ⊥
  PassAll held key (old ∷ olds) [] item = ⊥
  PassAll held key (old ∷ olds) (new ∷ news) item =
      (first : Option Item) × (rest : Option Item) × Passes held key old new first × PassAll held key olds news rest × (item ≡ option_or first rest)
