-- One call of a mirror, of the calls of its sides.
use Rattle.std.proofs.Common.{◌≡◌, ℕ, Bool, true, false, List, Result, Ok, Err, refl, sym, ap, subst, ◌∙◌}
use Rattle.std.specs.Prelude.{is_err}
use Rattle.cola_device.specs.declared.counts.Counts.{Counts}
use Rattle.cola_device.specs.declared.device.Device as device
use Rattle.cola_device.specs.declared.device.DeviceFault.{DeviceFault}
use Rattle.cola_device.specs.Counts.{count_fault, count_read, count_write, count_other}
use Rattle.cola_mirror.specs.declared.sides.Sides.{Sides}
use Rattle.cola_mirror.specs.declared.sides.Sides.TheVariants.{Both, First, Second}
use Rattle.cola_mirror.specs.Sides.{has_first, asks_second}
use Rattle.cola_mirror.specs.Mirror.{Reads, IfCalled}

-- a call is counted, and then its fault
fault-read : (refused : Bool) (before : Counts) → count_fault refused (count_read before) ≡ count_read (count_fault refused before)
fault-read true before = refl
fault-read false before = refl

fault-write : (refused : Bool) (before : Counts) → count_fault refused (count_write before) ≡ count_write (count_fault refused before)
fault-write true before = refl
fault-write false before = refl

fault-other : (refused : Bool) (before : Counts) → count_fault refused (count_other before) ≡ count_other (count_fault refused before)
fault-other true before = refl
fault-other false before = refl

counted-by : {T : Type 0} (count : Counts → Counts) (swap : (refused : Bool) (before : Counts) → count_fault refused (count before) ≡ count (count_fault refused before)) (answer result : Result T DeviceFault) (before mid now : Counts) →
    result ≡ answer → mid ≡ count before → now ≡ count_fault (is_err answer) mid → now ≡ count (count_fault (is_err result) before)
counted-by count swap answer result before mid now same counted is =
    is
    ∙ (ap (λ (counts : Counts). count_fault (is_err answer) counts) counted
    ∙ (swap (is_err answer) before
    ∙ ap (λ (r : Result _ DeviceFault). count (count_fault (is_err r) before)) (sym same)))

pub counted-read : {T : Type 0} (answer result : Result T DeviceFault) (before mid now : Counts) → result ≡ answer → mid ≡ count_read before → now ≡ count_fault (is_err answer) mid → now ≡ count_read (count_fault (is_err result) before)
counted-read answer result before mid now = counted-by count_read fault-read answer result before mid now

pub counted-write : {T : Type 0} (answer result : Result T DeviceFault) (before mid now : Counts) → result ≡ answer → mid ≡ count_write before → now ≡ count_fault (is_err answer) mid → now ≡ count_write (count_fault (is_err result) before)
counted-write answer result before mid now = counted-by count_write fault-write answer result before mid now

pub counted-other : {T : Type 0} (answer result : Result T DeviceFault) (before mid now : Counts) → result ≡ answer → mid ≡ count_other before → now ≡ count_fault (is_err answer) mid → now ≡ count_other (count_fault (is_err result) before)
counted-other answer result before mid now = counted-by count_other fault-other answer result before mid now

-- the sides that are left, by whether each side failed
pub left-by : (left : Sides → Bool → Bool → Sides) (sides now : Sides) (a b first second : Bool) → now ≡ left sides a b → a ≡ first → b ≡ second → now ≡ left sides first second
left-by left sides now a b first second is one two = is ∙ (ap (λ (failed : Bool). left sides failed b) one ∙ ap (λ (failed : Bool). left sides first failed) two)

-- whether the second side is asked, by whether the first failed
pub asked-by : (sides : Sides) (asked a failed : Bool) → asked ≡ asks_second sides a → a ≡ failed → asked ≡ asks_second sides failed
asked-by sides asked a failed is same = is ∙ ap (λ (b : Bool). asks_second sides b) same

-- what was read of the first side is what was read, unless the second was read behind it
pub read-first : {D : Type 0} (d : device.Ghosts D) (at : ℕ) (early late : List ℕ) (sides : Sides) (before : D) (answer : Result (Unit {0}) DeviceFault) (now : D) → (asks_second sides (is_err answer) ≡ false → late ≡ early) → IfCalled (has_first sides) (Reads d at early) before answer now →
    IfCalled (has_first sides) (Reads d at late) before answer now
read-first d at early late Both before (Ok value) now same called = subst (λ (found : List ℕ). Reads d at found before (Ok value) now) (sym (same refl)) called
read-first d at early late Both before (Err fault) now same called = record { given = tt; bytes_stay = called.bytes_stay; kept = called.kept; counts = called.counts }
read-first d at early late First before answer now same called = subst (λ (found : List ℕ). Reads d at found before answer now) (sym (same refl)) called
read-first d at early late Second before answer now same called = called
