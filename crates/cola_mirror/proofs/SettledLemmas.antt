-- The sides of a mirror that settled.
use Rattle.std.proofs.Common.{◌≡◌, Bool, true, false, Result, Ok, Err, refl, sym, ap, ◌∙◌}
use Rattle.std.specs.Prelude.{is_err, IsErr}
use Rattle.std.specs.Result.{result_or}
use Rattle.std.proofs.lemmas.Bool.{false≢true}
use Rattle.cola_device.specs.declared.device.Device as device
use Rattle.cola_device.specs.declared.device.DeviceFault.{DeviceFault}
use Rattle.cola_device.specs.Settling.{IsSettled}
use Rattle.cola_device.proofs.SettlingLemmas.{settled-by}
use Rattle.cola_mirror.specs.declared.sides.Sides.{Sides}
use Rattle.cola_mirror.specs.declared.sides.Sides.TheVariants.{Both, First, Second}
use Rattle.cola_mirror.specs.Sides.{has_first, has_second, after_settle}
use Rattle.cola_mirror.specs.Mirror.{Pair, bytes_of, Settles, IfCalled, IsSettling}
use Rattle.cola_mirror.specs.Settled.{SidesSettled}

-- a side that is in use behind a settle that was carried out is one that settled
first-called : (sides : Sides) (first second : Result (Unit {0}) DeviceFault) → Ok tt ≡ result_or first second → (has_second sides ≡ false → IsErr second) → has_first (after_settle sides (is_err first) (is_err second)) ≡ true → (has_first sides ≡ true) × (is_err first ≡ false)
first-called Both (Ok value) second done lost used = (refl, refl)
first-called Both (Err fault) (Ok value) done lost used = cc
first-called Both (Err fault) (Err other) done lost used = cc
first-called First (Ok value) second done lost used = (refl, refl)
first-called First (Err fault) (Ok value) done lost used = absurd (false≢true (lost refl))
first-called First (Err fault) (Err other) done lost used = cc
first-called Second first second done lost used = cc

second-called : (sides : Sides) (first second : Result (Unit {0}) DeviceFault) → Ok tt ≡ result_or first second → (has_first sides ≡ false → IsErr first) → has_second (after_settle sides (is_err first) (is_err second)) ≡ true → (has_second sides ≡ true) × (is_err second ≡ false)
second-called Both (Ok value) (Ok other) done lost used = (refl, refl)
second-called Both (Ok value) (Err fault) done lost used = cc
second-called Both (Err fault) (Ok value) done lost used = (refl, refl)
second-called Both (Err fault) (Err other) done lost used = cc
second-called First first second done lost used = cc
second-called Second (Ok value) second done lost used = absurd (false≢true (lost refl))
second-called Second (Err fault) (Ok value) done lost used = (refl, refl)
second-called Second (Err fault) (Err other) done lost used = cc

module _ {D : Type 0} (d : device.Ghosts D) where
  uncalled : (called : Bool) (before : D) (answer : Result (Unit {0}) DeviceFault) (now : D) → IfCalled called (Settles d) before answer now → called ≡ false → IsErr answer
  uncalled true before answer now is none = cc
  uncalled false before answer now is none = is.1

  settled-so : (called : Bool) (before : D) (answer : Result (Unit {0}) DeviceFault) (now : D) → IfCalled called (Settles d) before answer now → called ≡ true → is_err answer ≡ false → IsSettled d now × (d.bytes now ≡ d.bytes before)
  settled-so true before (Ok value) now is used done = (settled-by d (Ok value) before now is.settled is.bytes_stay, is.bytes_stay)
  settled-so true before (Err fault) now is used done = cc
  settled-so false before answer now is used done = cc

module _ {D E : Type 0} (d : device.Ghosts D) (e : device.Ghosts E) (before after now : Pair D E) where
  pub sides-settled : IsSettling d e before (Ok tt) after → bytes_of d e now ≡ bytes_of d e before → SidesSettled d e (bytes_of d e now)
  sides-settled settled stay =
      let call = settled.sides in
      let sound = settled.sound in
      record {
        after = after;
        first = λ used.
            let is = first-called before.sides call.first call.second call.answer (uncalled e (has_second before.sides) before.second call.second after.second call.second_is) (ap (λ (sides : Sides). has_first sides) (sym call.sides_are) ∙ used) in
            let so = settled-so d (has_first before.sides) before.first call.first after.first call.first_is is.0 is.1 in
            (so.0, so.1 ∙ (sound.first_bytes is.0 ∙ sym stay));
        second = λ used.
            let is = second-called before.sides call.first call.second call.answer (uncalled d (has_first before.sides) before.first call.first after.first call.first_is) (ap (λ (sides : Sides). has_second sides) (sym call.sides_are) ∙ used) in
            let so = settled-so e (has_second before.sides) before.second call.second after.second call.second_is is.0 is.1 in
            (so.0, so.1 ∙ (sound.second_bytes is.0 ∙ sym stay));
      }
