-- The statuses that the program ends with, by their numbers.
use Rattle.std.specs.Prelude.{ℕ, ◌≡◌, List, [], ◌∷◌}
use Rattle.cola_status.specs.declared.status.Status.{Status}
use Rattle.cola_status.specs.declared.status.Status.TheVariants.{Done, OutOfMemory, WrongWords, SourceFailed, SinkFailed, DeviceFailed, NotStore, NotClosed, NotEmpty, Spent, BadCell, NoRoom, AlreadyWide, Broken, BadLine, TooFewKeys, FilesDiffer, FirstLost, SecondLost}

-- the number of each
abbrev pub number_of : Status → ℕ
number_of Done = 0
number_of OutOfMemory = 1
number_of WrongWords = 2
number_of SourceFailed = 3
number_of SinkFailed = 4
number_of DeviceFailed = 5
number_of NotStore = 6
number_of NotClosed = 7
number_of NotEmpty = 8
number_of Spent = 9
number_of BadCell = 10
number_of NoRoom = 11
number_of AlreadyWide = 12
number_of Broken = 13
number_of BadLine = 14
number_of TooFewKeys = 15
number_of FilesDiffer = 16
number_of FirstLost = 17
number_of SecondLost = 18

-- all of them
abbrev pub all_statuses : List Status
all_statuses = Done ∷ OutOfMemory ∷ WrongWords ∷ SourceFailed ∷ SinkFailed ∷ DeviceFailed ∷ NotStore ∷ NotClosed ∷ NotEmpty ∷ Spent ∷ BadCell ∷ NoRoom ∷ AlreadyWide ∷ Broken ∷ BadLine ∷ TooFewKeys ∷ FilesDiffer ∷ FirstLost ∷ SecondLost ∷ []

-- a number is that of a status
pub record IsStatus (n : ℕ) : Type 0 where
  pub which : Status
  pub is : n ≡ number_of which
