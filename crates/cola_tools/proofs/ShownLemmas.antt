-- What a device over bytes that are only read tells of each call.
use Rattle.std.proofs.Common.{◌≡◌, ◌∙◌, ℕ, ◌+◌, ◌≤◌, true, false, List, length, Result, Ok, Err, sym, ap, true≢false, rules}
use Rattle.std.specs.Prelude.{is_err, Option, Some, None, IfSome}
use Rattle.std.specs.Borrow.{Bor}
use Rattle.cola_device.specs.Bytes.{part, WroteSome}
use Rattle.cola_device.specs.Counts.{Called}
use Rattle.cola_device.proofs.BytesLemmas.{length-part, splice-part}
use Rattle.cola_tools.specs.Shown.{Showing, counts_of, after_other, after_read, after_write}

pub called_other : {T E : Type 0} (result : Result T E) (before now : Showing) → is_err result ≡ false → now ≡ after_other before → Called (counts_of before) (counts_of now) 0 0 1 result
called_other (Ok value) before now calm is = rw is (search rules)
called_other (Err fault) before now calm is = absurd (true≢false calm)

pub called_read : {T E : Type 0} (result : Result T E) (before now : Showing) → is_err result ≡ false → now ≡ after_read before → Called (counts_of before) (counts_of now) 1 0 0 result
called_read (Ok value) before now calm is = rw is (search rules)
called_read (Err fault) before now calm is = absurd (true≢false calm)

pub called_write : {T E : Type 0} (result : Result T E) (before now : Showing) → is_err result ≡ true → now ≡ after_write before → Called (counts_of before) (counts_of now) 0 1 0 result
called_write (Ok value) before now failed is = absurd (true≢false (sym failed))
called_write (Err fault) before now failed is = rw is (search rules)

-- a refused write leaves the bytes
pub wrote_none : {T E : Type 0} (result : Result T E) (at : ℕ) (from bytes now : List ℕ) → is_err result ≡ true → at + length from ≤ length bytes → now ≡ bytes → WroteSome result at from bytes now
wrote_none (Ok value) at from bytes now failed inside same = absurd (true≢false (sym failed))
wrote_none (Err fault) at from bytes now failed inside same = record {
  left = part bytes at (length from);
  as_many = length-part bytes at (length from) inside;
  others_stay = same ∙ sym (splice-part bytes at (length from) inside);
  exact = tt;
}

-- what is lent of the bytes is the part of as many
pub lent : (result : Option (Bor (List ℕ))) (bytes : List ℕ) (at count : ℕ) → IfSome result (λ shown. shown.now ≡ part bytes at count) → IfSome result (λ shown. length shown.now ≡ count) → IfSome result (λ shown. shown.now ≡ part bytes at (length shown.now))
lent None bytes at count is many = tt
lent (Some shown) bytes at count is many = is ∙ ap (part bytes at) (sym many)
