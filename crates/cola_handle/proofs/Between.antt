-- A cursor that was set between the ends of a prefix.
use Rattle.std.proofs.Common.{◌≡◌, ◌∙◌, ℕ, ◌≤◌, Bool, true, false, cond, ◌&&◌, List, [], length, get_or, Option, Some, None, Result, Ok, Err, sym, ap, arith}
use Rattle.std.specs.Prelude.{IfOk}
use Rattle.std.proofs.lemmas.Bool.{le-leb}
use Rattle.cola_spec.specs.Map.{Map, pairs, is_from, is_before}
use Rattle.cola_kv.specs.declared.error.Error.{Error}
use Rattle.cola_kv.specs.Prefix.{KeysAreBytes, begins_with, pairs_with, prefix_end}
use Rattle.cola_kv.proofs.Beginning.{interval}
use Rattle.cola_kv.proofs.Prefixed.{all-same, and-true}
use Rattle.cola_handle.specs.declared.cursor.Cursor.{Cursor}
use Rattle.cola_handle.specs.Cursors.{from_of, until_of, end_at, end_of, is_ahead, ahead, are_short, IsSet, SeekSays}
use Rattle.cola_handle.specs.Prefixed.{IsSetPrefix, SeekPrefixSays}

short-ends : (low high : List ℕ) → length low ≤ 40 → length high ≤ 40 → are_short low high ≡ true
short-ends low high low_few high_few = and-true _ _ (le-leb (length low) 40 low_few) (le-leb (length high) 40 high_few)

not-both : (b : Bool) → b ≡ true → b ≡ false → ⊥
not-both true p q = cc
not-both false p q = cc

set-between : (prefix high : List ℕ) (bounded : Bool) (cursor : Cursor) → end_at bounded high ≡ prefix_end prefix → IsSet prefix high bounded cursor → IsSetPrefix prefix cursor
set-between prefix high bounded cursor end set = record {
  good = set.good;
  from_is = set.from_is;
  end_is = ap (λ (b : Bool). end_at b (until_of cursor)) set.bounded_is ∙ ap (end_at bounded) set.until_is ∙ end;
  not_behind = set.not_behind;
}

set-ends : (prefix high : List ℕ) (bounded : Bool) (result : Result Cursor Error) → length prefix ≤ 40 → length high ≤ 40 → end_at bounded high ≡ prefix_end prefix → SeekSays prefix high bounded result → SeekPrefixSays prefix result
set-ends prefix high bounded (Ok cursor) few high_few end says = (le-leb (length prefix) 40 few, set-between prefix high bounded cursor end says.1)
set-ends prefix high bounded (Err why) few high_few end says = absurd (not-both (are_short prefix high) (short-ends prefix high few high_few) says.1)

-- a cursor that was set below the end of the prefix, or with no end
pub set-below : (prefix high end : List ℕ) (result : Result Cursor Error) → SeekSays prefix high true result → length prefix ≤ 40 → length high ≤ 40 → high ≡ end → Some end ≡ prefix_end prefix → SeekPrefixSays prefix result
set-below prefix high end result says few high_few same is = set-ends prefix high true result few high_few (ap Some same ∙ is) says

pub set-onward : (prefix : List ℕ) (result : Result Cursor Error) → SeekSays prefix [] false result → length prefix ≤ 40 → None ≡ prefix_end prefix → SeekPrefixSays prefix result
set-onward prefix result says few is = set-ends prefix [] false result few (omega arith) is says

-- the pairs whose keys begin so are ahead of it
ahead-set : (m : Map) (prefix : List ℕ) (cursor : Cursor) → KeysAreBytes m → IsSetPrefix prefix cursor → ahead m cursor ≡ pairs_with m prefix
ahead-set m prefix cursor bytes set =
    all-same (λ pair. is_ahead cursor pair.0) (λ pair. begins_with prefix pair.0) (pairs m) (λ k d within.
    let key : List ℕ = (get_or (pairs m) k d).0 in
    ap (λ (b : Bool). (cond b (is_before (Some key) (from_of cursor)) (is_from (from_of cursor) key)) && is_before (end_of cursor) key) set.not_behind
    ∙ ap (λ (from : List ℕ). is_from from key && is_before (end_of cursor) key) set.from_is
    ∙ ap (λ (end : Option (List ℕ)). is_from prefix key && is_before end key) set.end_is
    ∙ sym (interval prefix key (bytes k d within)))

pub ahead-prefix : (m : Map) (prefix : List ℕ) (result : Result Cursor Error) → KeysAreBytes m → SeekPrefixSays prefix result → IfOk result (λ cursor. ahead m cursor ≡ pairs_with m prefix)
ahead-prefix m prefix (Ok cursor) bytes says = ahead-set m prefix cursor bytes says.1
ahead-prefix m prefix (Err why) bytes says = tt
