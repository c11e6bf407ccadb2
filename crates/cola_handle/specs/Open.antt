-- An open store in lent bytes: the map that it holds, its sizes, where its bytes lie, what was lent, and what no call changes.
use Rattle.std.specs.Prelude.{◌≡◌, ℕ, ◌+◌, List, Option, Some}
use denote.RawPtr.{Ptr}
use Rattle.cola_device.specs.declared.counts.Counts.{Counts}
use Rattle.cola_device.specs.declared.device.Device as device
use Rattle.cola_spec.specs.Map.{Shape, Map}
use Rattle.cola_store.specs.Store.{terms_of}
use Rattle.cola_kv.specs.Kv as kv
use Rattle.cola_mapped.specs.declared.lent.Lent.{Lent}
use Rattle.cola_mapped.specs.Mapped.{Mapped, unused}
use Rattle.cola_mapped.specs.contracts.device.MappedDevice as mapped_type
use Rattle.cola_mapped.specs.contracts.device.MappedDeviceDevice.TheImpl as mapped
use Rattle.cola_marks.specs.Marked as marked
use Rattle.cola_marks.specs.Marked.{Marked, new_marked}
use Rattle.cola_marks.specs.contracts.marked.MarkedDeviceDevice.TheImpl as marking
use Rattle.cola_handle.specs.contracts.marks.LentMarks as marks_type
use Rattle.cola_handle.specs.contracts.marks.LentMarksMarks.TheImpl as marks
use Rattle.cola_handle.specs.declared.session.Session.{Session}
use Rattle.cola_handle.specs.Marks.{Place, marks_in, place_in}

-- lent bytes, and the marks of their pages
abbrev pub LentDevice : Type 0
LentDevice = Marked Mapped (Option Lent)

-- a device over lent bytes tells them
abbrev pub bytes_of : LentDevice → Option (List ℕ)
bytes_of it = Some it.device.bytes

-- what it counts
abbrev pub counts_of : LentDevice → Counts
counts_of = marked.counts_of mapped.ghosts marks.ghosts

-- what a device over lent bytes is to a store
abbrev pub lent_device : device.Ghosts LentDevice
lent_device = marking.ghosts mapped_type.the_row marks_type.the_row mapped.ghosts marking.no_dict marks.ghosts marking.no_dict

-- bytes that were lent with these marks, of which none is used yet
abbrev pub lent_with : Ptr → ℕ → List ℕ → Option Lent → LentDevice
lent_with at len bytes lent = new_marked mapped.ghosts marks.ghosts (unused at len bytes) lent

-- it holds this map
abbrev pub HoldsMap : Session → Map → Type 0
HoldsMap session m = kv.Holds lent_device session.kv m

-- the maps that it may hold: how many keys, how long keys and values may be, and whether puts give stamps
abbrev pub shape_of : Session → Shape
shape_of session = kv.shape_of session.kv

-- how many levels it has: 4 to 23
abbrev pub levels_of : Session → ℕ
levels_of session = kv.levels_of session.kv

-- what was lent to it
abbrev pub lent_of : Session → LentDevice
lent_of session = kv.device_of session.kv

-- its device
abbrev pub device_of : Session → Mapped
device_of session = (lent_of session).device

-- where its bytes lie, and how many there are
abbrev pub place_of : Session → Place
place_of session = ((device_of session).at, (device_of session).len)

-- where its marks lie, and how many there are
abbrev pub marks_place_of : Session → Option Place
marks_place_of session = place_in (lent_of session).marks

-- the bytes, and the marks, as they were when it was opened
abbrev pub first_of : Session → List ℕ
first_of session = (lent_of session).first.bytes

abbrev pub first_marks_of : Session → List ℕ
first_marks_of session = marks_in (lent_of session).first_marks

-- how many blocks were written since then once it is closed: those that its device counts, two, and one for each level at most
abbrev pub closing_blocks : Session → ℕ
closing_blocks session = kv.writes_of lent_device session.kv + (levels_of session + 2)

-- these bytes and these marks were lent to it
pub record WereLent (session : Session) (bytes marks : List ℕ) : Type 0 where
  pub bytes_are : first_of session ≡ bytes
  pub marks_are : first_marks_of session ≡ marks

-- what no call changes: its sizes, and where its bytes lie
pub record Stays (old new : Session) : Type 0 where
  pub terms_are : terms_of new.kv.store ≡ terms_of old.kv.store
  pub place_is : place_of new ≡ place_of old

-- nor what was lent to it as it was opened, and where the marks lie
pub record SameFirst (old new : Session) : Type 0 where
  pub bytes_are : first_of new ≡ first_of old
  pub marks_are : first_marks_of new ≡ first_marks_of old
  pub place_is : marks_place_of new ≡ marks_place_of old
