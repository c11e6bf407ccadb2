-- What the seek of a prefix tells, in plain terms.
use Rattle.std.specs.Prelude.{◌≡◌, ◌⊎◌, ◌≤◌, ◌<◌, ℕ, ℤ, pos, true, false, nat_le, List, length}
use Rattle.cola_spec.specs.Map.{Map}
use Rattle.cola_kv.specs.Prefix.{KeysAreBytes, pairs_with}
use Rattle.cola_handle.specs.declared.answer.Answer.TheVariants.{Done, Length}
use Rattle.cola_handle.specs.declared.cursor.Cursor.{Cursor}
use Rattle.cola_handle.specs.Cursors.{ahead}
use Rattle.cola_handle.specs.Numbers.{number}

-- 0, and of every map of bytes exactly the pairs whose keys begin so are ahead; 7 where the prefix has more than 40 bytes, and the cursor stays
abbrev pub PlainSeekPrefix : (prefix : List ℕ) → (before after : Cursor) → ℤ → Type 0
PlainSeekPrefix prefix before after code =
    ((length prefix ≤ 40) × (code ≡ pos 0) × ((m : Map) → KeysAreBytes m → ahead m after ≡ pairs_with m prefix))
    ⊎ ((40 < length prefix) × (code ≡ pos 7) × (after ≡ before))

-- Law: this holds of what `cola_core_seek_prefix` answers
abbrev pub SeeksOfPrefixesAreTold : Type 0
SeeksOfPrefixesAreTold = (prefix : List ℕ) (before after : Cursor) (code : ℤ) →
    (nat_le (length prefix) 40 ≡ true → code ≡ pos (number Done)) →
    ((m : Map) → KeysAreBytes m → nat_le (length prefix) 40 ≡ true → ahead m after ≡ pairs_with m prefix) →
    (nat_le (length prefix) 40 ≡ false → (code ≡ pos (number Length)) × (after ≡ before)) → PlainSeekPrefix prefix before after code
