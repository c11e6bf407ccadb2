-- How many bytes the store takes that lies in a file, by the file's length and its first bytes, or why none is opened there.
use Rattle.std.specs.Prelude.{◌≡◌, ℕ, List, length, take, Result, Ok, Err}
use Rattle.cola_layout.specs.declared.header.Header.{Header}
use Rattle.cola_opening.specs.Judged.{file_size, IsSmall, IsNoStore, IsInUse}
use Rattle.cola_store.specs.Open.{WasClosed}
use Rattle.cola_handle.specs.declared.answer.Answer.{Answer}
use Rattle.cola_handle.specs.declared.answer.Answer.TheVariants.{NotStore, Small, NotClosed}

-- a file of this length begins with these bytes, which are its first 512 at least, or all of a shorter one
pub record Begins (head : List ℕ) (size : ℕ) (file : List ℕ) : Type 0 where
  pub size_is : length file ≡ size
  pub head_is : take 512 file ≡ take 512 head

-- a file has a closed store, which takes so many of its bytes
pub record HasStored (file : List ℕ) (stored : ℕ) : Type 0 where
  pub header : Header
  pub was : WasClosed header file
  pub stored_is : stored ≡ file_size header.geometry.format header.geometry.bottom

-- what is answered of a file: how many bytes its closed store takes, or the refusal of an opening that its first bytes tell
abbrev pub StoredSays : List ℕ → Result ℕ Answer → Type 0
StoredSays file (Ok stored) = HasStored file stored
StoredSays file (Err NotStore) = IsNoStore file
StoredSays file (Err Small) = IsSmall file
StoredSays file (Err NotClosed) = IsInUse file
StoredSays file (Err _) = ⊥
