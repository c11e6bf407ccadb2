-- Marks in lent bytes: a byte for each page, or no marks at all.
use Rattle.std.specs.Prelude.{ℕ, ◌+◌, ◌-◌, ◌*◌, ◌^◌, ◌<◌, ◌≤◌, List, [], length, Option, Some, None}
use denote.RawPtr.{Ptr}
use Rattle.cola_mapped.specs.declared.lent.Lent.{Lent}
use Rattle.cola_mapped.specs.Region.{bytes_in}
use Rattle.cola_marks.specs.Pages.{marked, SameUnmarked, MarksStay}

-- where bytes lie, and how many there are
abbrev pub Place : Type 0
Place = Ptr × ℕ

-- the marks, none where no bytes were lent
abbrev pub marks_in : Option Lent → List ℕ
marks_in None = []
marks_in (Some lent) = bytes_in lent.bytes

-- where they lie
abbrev pub place_in : Option Lent → Option Place
place_in None = None
place_in (Some lent) = Some (lent.at, lent.len)

-- of bytes that had these marks, and of which at most so many blocks were written since, each page that has no mark now is as it was,
-- each mark stays, and a block has marked at most 17 pages
pub record AreMarked (first_marks first : List ℕ) (blocks : ℕ) (marks now : List ℕ) : Type 0 where
  pub unmarked : SameUnmarked marks first now
  pub stay : MarksStay first_marks marks
  pub few : 0 < length first → blocks < 2 ^ 64 - 1 → marked marks ≤ marked first_marks + 17 * blocks

-- how many blocks a refused opening writes at most: the mark of use, and, where there was no memory behind it, a closing of 23 levels
abbrev pub refused_blocks : ℕ
refused_blocks = 26
