-- How the store in lent bytes is opened and closed.
use Rattle.std.specs.Prelude.{◌≡◌, ℕ, ◌+◌, List, Option}
use Rattle.cola_layout.specs.declared.header.Header.{Header}
use Rattle.cola_opening.specs.Judged.{IsSmall, IsNoStore, IsInUse}
use Rattle.cola_spec.specs.Map.{Map}
use Rattle.cola_image.specs.Standing.{FileStandsFor}
use Rattle.cola_mapped.specs.Region.{bytes_in}
use Rattle.cola_store.specs.Open.{WasClosed, HasBadCell}
use Rattle.cola_store.specs.Sessions.{IsStoreClosed}
use Rattle.cola_table.specs.Terms.{Terms}
use Rattle.cola_handle.specs.declared.answer.Answer.{Answer}
use Rattle.cola_handle.specs.declared.answer.Answer.TheVariants.{NotStore, Small, NotClosed, BadCell, Memory}
use Rattle.cola_handle.specs.declared.session.Session.{Session}
use Rattle.cola_handle.specs.Open.{LentDevice, lent_device}

-- the bytes of a region stand for this map
abbrev pub StandsFor : Option (List ℕ) → Map → Type 0
StandsFor bytes m = FileStandsFor (bytes_in bytes) m

-- these are the bytes of a store that was closed
abbrev pub IsClosedStore : List ℕ → Type 0
IsClosedStore bytes = (header : Header) × WasClosed header bytes

-- these are the bytes of a store that was closed, with the format, the keys and the levels of these terms
pub record HasTerms (terms : Terms) (bytes : List ℕ) : Type 0 where
  pub header : Header
  pub was : WasClosed header bytes
  pub terms_are : terms ≡ record { format = header.geometry.format; limit = header.geometry.keys; depth = header.geometry.bottom + 1 }

-- why the store in these bytes was not opened
abbrev pub OpenCause : List ℕ → Answer → Type 0
OpenCause bytes NotStore = IsNoStore bytes
OpenCause bytes Small = IsSmall bytes
OpenCause bytes NotClosed = IsInUse bytes
OpenCause bytes BadCell = (header : Header) × ((number : ℕ) × HasBadCell header number bytes)
OpenCause bytes Memory = IsClosedStore bytes
OpenCause bytes _ = ⊥

-- these are the bytes of the same closed store: its terms are the same, and the map that it stands for
pub record IsSameStore (before now : List ℕ) : Type 0 where
  pub terms_stay : (terms : Terms) → HasTerms terms before → HasTerms terms now
  pub map_stays : (m : Map) → FileStandsFor before m → FileStandsFor now m

-- what a refused opening leaves of the bytes: all of them, or where there was no memory the same store
abbrev pub AreLeft : (before now : List ℕ) → Answer → Type 0
AreLeft before now Memory = IsSameStore before now
AreLeft before now _ = now ≡ before

-- these are the bytes that the closing of a store leaves, whether it holds a map or not: they have its header and its cells
pub record HasClosed (old : Session) (bytes : List ℕ) : Type 0 where
  pub device : LentDevice
  pub closes : IsStoreClosed lent_device old.kv.store device
  pub bytes_are : bytes ≡ device.device.bytes
