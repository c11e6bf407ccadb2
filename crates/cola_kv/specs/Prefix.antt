-- The keys that begin with a prefix: which they are, where they end, and how a range over them begins.
use Rattle.std.specs.Prelude.{◌≡◌, ◌&&◌, ◌+◌, ◌<◌, ℕ, true, false, Bool, nat_eq, nat_lt, if◌then◌else◌, List, [], ◌∷◌, length, filter, All, Option, Some, None, Result, Err, IfOk, IfErr, ⊤}
use Rattle.cola_outside.specs.Faults.{Rose}
use Rattle.cola_cursor.specs.declared.cursor.Cursor.{Cursor}
use Rattle.cola_device.specs.declared.device.Device as device
use Rattle.cola_spec.specs.Map.{Map, Shape, pairs}
use Rattle.cola_kv.specs.declared.error.Error.{Error}
use Rattle.cola_kv.specs.declared.error.Error.TheVariants.{KeyLength, BadCell, Device}
use Rattle.cola_kv.specs.declared.kv.Kv.{Kv}
use Rattle.cola_kv.specs.Kv.{Holds, shape_of, faults_of}
use Rattle.cola_kv.specs.Ranged.{Ahead, Begins}

-- the first bytes of a key are these
abbrev pub begins_with : (prefix key : List ℕ) → Bool
begins_with [] key = true
begins_with (byte ∷ prefix) [] = false
begins_with (byte ∷ prefix) (first ∷ key) = nat_eq byte first && begins_with prefix key

-- a byte in front of the end of what follows it; where that has none, the byte that is one higher, where a byte is
abbrev pub end_behind : ℕ → Option (List ℕ) → Option (List ℕ)
end_behind byte (Some end) = Some (byte ∷ end)
end_behind byte None = if nat_lt byte 255 then Some ((byte + 1) ∷ []) else None

-- the least string of bytes above all that begin so: the prefix without the bytes of 255 at its end, the last byte one higher; none where no other byte is there
abbrev pub prefix_end : List ℕ → Option (List ℕ)
prefix_end [] = None
prefix_end (byte ∷ prefix) = end_behind byte (prefix_end prefix)

-- the least key from a prefix on: the prefix, and a zero byte where it is empty
abbrev pub first_from : List ℕ → List ℕ
first_from [] = 0 ∷ []
first_from (byte ∷ prefix) = byte ∷ prefix

-- the pairs of a map whose keys begin so, by rising keys
abbrev pub pairs_with : Map → (prefix : List ℕ) → List (List ℕ × List ℕ)
pairs_with m prefix = filter (λ pair. begins_with prefix pair.0) (pairs m)

-- each key of a map is one of bytes
abbrev pub KeysAreBytes : Map → Type 0
KeysAreBytes m = All (λ pair. All (λ byte. byte < 256) pair.0) (pairs m)

-- why such a range is refused: the prefix is longer than keys are, the device failed, or a cell is damaged
abbrev pub PrefixCause : Shape → List ℕ → (before now : ℕ) → Error → Type 0
PrefixCause shape prefix before now KeyLength = shape.key_limit < length prefix
PrefixCause shape prefix before now Device = Rose before now
PrefixCause shape prefix before now (BadCell cell) = now ≡ before
PrefixCause shape prefix before now _ = ⊥

-- the same on a store that holds a map: no cell is damaged
abbrev pub IsPrefixRefusal : Shape → List ℕ → Error → Type 0
IsPrefixRefusal shape prefix KeyLength = shape.key_limit < length prefix
IsPrefixRefusal shape prefix Device = ⊤
IsPrefixRefusal shape prefix _ = ⊥

-- a range over the keys that begin so was begun, as one from the prefix on and below its end: on a store that holds a map of bytes exactly the map's pairs with such keys are ahead
pub record BeginsPrefix {D : Type 0} (d : device.Ghosts D) (old new : Kv D d) (prefix : List ℕ) (result : Result Cursor Error) : Type 0 where
  pub begins : Begins d old new (first_from prefix) (prefix_end prefix) result
  pub ahead : (m : Map) → Holds d old m → KeysAreBytes m → IfOk result (λ walk. Ahead d new walk (pairs_with m prefix))
  pub refusal : (m : Map) → Holds d old m → IfErr result (IsPrefixRefusal (shape_of old) prefix)
  pub long_prefix : (shape_of old).key_limit < length prefix → (result ≡ Err KeyLength) × (new ≡ old)
  pub cause : IfErr result (PrefixCause (shape_of old) prefix (faults_of d old) (faults_of d new))
