-- Lists of bytes that are keys and values, and how one fills its room.
use Rattle.std.specs.Prelude.{◌≡◌, ℕ, ◌-◌, ◌≤◌, List, ◌++◌, length, replicate}

-- a key has 1 to 40 bytes
abbrev pub IsKey : List ℕ → Type 0
IsKey bytes = (1 ≤ length bytes) × (length bytes ≤ 40)

-- a value has 0 to 72 bytes
abbrev pub IsValue : List ℕ → Type 0
IsValue bytes = length bytes ≤ 72

-- a list, then zero bytes to the end of its room
abbrev pub padded : ℕ → List ℕ → List ℕ
padded room bytes = bytes ++ replicate (room - length bytes) 0

-- the list of n bytes fills the room: it stands at the room's start, and zeros behind it
pub record Fills (room : List ℕ) (n : ℕ) (list : List ℕ) : Type 0 where
  pub long : length list ≡ n
  pub within : length list ≤ length room
  pub is : room ≡ padded (length room) list
