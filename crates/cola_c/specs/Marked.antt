-- What an opening and a closing of a store whose pages are marked say of the marks.
use Rattle.std.specs.Prelude.{◌≡◌, ℕ, ◌+◌, ◌-◌, ◌*◌, ◌^◌, ◌<◌, ◌≤◌, Option, Some, IfSome, IsSome}
use Rattle.cola_mapped.specs.declared.lent.Lent.{Lent}
use Rattle.cola_mapped.specs.declared.region.Region.{Region}
use Rattle.cola_mapped.specs.Region.{bytes_in}
use Rattle.cola_marks.specs.Pages.{marked}
use Rattle.cola_store.specs.Transfers.{IsCounting, blocks_of, cells_in_blocks}
use Rattle.cola_kv.specs.Kv as kv
use Rattle.cola_handle.specs.declared.answer.Answer.{Answer}
use Rattle.cola_handle.specs.declared.session.Session.{Session}
use Rattle.cola_handle.specs.Marks.{AreMarked, refused_blocks, marks_in, place_in}
use Rattle.cola_handle.specs.Open.{lent_device, levels_of, WereLent, first_of, first_marks_of, closing_blocks, place_of, marks_place_of, SameFirst}
use Rattle.cola_c.specs.Exports.{Opens, IsRefused}

module _ (before marks : Region) where
  -- an opening as without marks, with these marks: they are the session's, and so are the bytes as they were
  pub record OpensMarked (new : Session) : Type 0 where
    pub lent : Option Lent
    pub marks_are : marks_in lent ≡ bytes_in marks.bytes
    pub place_is : place_in lent ≡ Some (marks.at, marks.len)
    pub opens : Opens before lent new
    pub were_lent : WereLent new (bytes_in before.bytes) (bytes_in marks.bytes)
    pub marks_place : marks_place_of new ≡ Some (marks.at, marks.len)

  -- a refused opening: the bytes and the marks are given back
  pub record IsMarkedRefused (now marks_now : Region) (why : Answer) : Type 0 where
    pub refused : IsRefused before now why
    pub marked : AreMarked (bytes_in marks.bytes) (bytes_in before.bytes) refused_blocks (bytes_in marks_now.bytes) (bytes_in now.bytes)
    pub lent : IsSome marks_now.bytes
    pub at_stays : marks_now.at ≡ marks.at
    pub len_stays : marks_now.len ≡ marks.len

-- a closing gives the marks back: each page of the bytes with no mark is as it was when the store was opened, and few have one
pub record GivesMarks (old : Session) (region marks : Region) : Type 0 where
  pub marked : AreMarked (first_marks_of old) (first_of old) (closing_blocks old) (bytes_in marks.bytes) (bytes_in region.bytes)
  pub place : IfSome (marks_place_of old) (λ place. (marks.at, marks.len) ≡ place)

-- Law: what was lent to a session is the same behind each call of its store, and its bytes lie where they did
abbrev pub LentStays : Type 0
LentStays = (old new : Session) → kv.Stays lent_device old.kv new.kv → SameFirst old new × (place_of new ≡ place_of old)

-- how many blocks a session writes at most, from its opening to its closing: 4 cells for each step and level, in whole blocks, each block
-- of its file once, and for the header three, and one for each level
abbrev pub session_blocks : Session → ℕ
session_blocks session = cells_in_blocks 4 session.kv.store + blocks_of session.kv.store + (levels_of session + 3)

-- Law: behind a session the pages with a mark are at most those that had one before, and 17 for each block that it writes
abbrev pub FewPagesAreMarked : Session → Type 0
FewPagesAreMarked last =
    (before marks now marks_now : Region) (first : Session) → OpensMarked before marks first → kv.Stays lent_device first.kv last.kv →
    IsCounting last.kv.store → GivesMarks last now marks_now → session_blocks last < 2 ^ 64 - 1 →
    marked (bytes_in marks_now.bytes) ≤ marked (bytes_in marks.bytes) + 17 * session_blocks last
