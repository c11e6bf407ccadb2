-- A call that counts its fault, and itself, by one keeps the word of the trait.
use Rattle.std.proofs.Common.{◌≡◌, Result, Ok, Err, rules}
use Rattle.std.specs.Prelude.{is_err}
use Rattle.cola_device.specs.declared.counts.Counts.{Counts}
use Rattle.cola_device.specs.Counts.{Called, count_fault, count_read, count_write, count_other}

pub Called-count_other : {T E : Type 0} (result : Result T E) (before now : Counts) → now ≡ count_other (count_fault (is_err result) before) → Called before now 0 0 1 result
Called-count_other (Ok value) before now is = rw is (search rules)
Called-count_other (Err fault) before now is = rw is (search rules)

pub Called-count_read : {T E : Type 0} (result : Result T E) (before now : Counts) → now ≡ count_read (count_fault (is_err result) before) → Called before now 1 0 0 result
Called-count_read (Ok value) before now is = rw is (search rules)
Called-count_read (Err fault) before now is = rw is (search rules)

pub Called-count_write : {T E : Type 0} (result : Result T E) (before now : Counts) → now ≡ count_write (count_fault (is_err result) before) → Called before now 0 1 0 result
Called-count_write (Ok value) before now is = rw is (search rules)
Called-count_write (Err fault) before now is = rw is (search rules)
