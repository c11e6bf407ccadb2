-- The cells of a level lie between its first cell and that of the next.
use Rattle.std.proofs.Common.{◌≡◌, ℕ, ◌+◌, ◌-◌, ◌*◌, ◌^◌, ◌<◌, ◌≤◌, Bool, true, false, cond, inl, inr, arith}
use Rattle.cola_cell.specs.Places.{number_of}
use Rattle.cola_clock.specs.Clock.{period, is_odd, visible_slot}
use Rattle.cola_clock.proofs.Wrap.{slot-of_parity}
use Rattle.cola_layout.specs.declared.header.Header.{Header}
use Rattle.cola_layout.specs.Fields.{fields_of}
use Rattle.cola_layout.specs.Marks.{marks_of}
use Rattle.cola_layout.proofs.Levels.{fits-here}
use Rattle.cola_layout.proofs.Places.{place-from, place-below}
use Rattle.cola_layout.proofs.Powers.{next_power}
use Rattle.cola_wide.specs.Runs.{IsAmong, IsOfLevel}

two-slots : (b : Bool) (v : ℕ) → v ≡ cond b 1 0 → v < 2
two-slots true v e = omega (arith, e)
two-slots false v e = omega (arith, e)

-- a visible run stands in one of two slots
pub slot-in : (t j : ℕ) → visible_slot t j < 2
slot-in t j = two-slots (is_odd (period t j)) (visible_slot t j) (slot-of_parity t j)

among-from : (level slot count number : ℕ) → IsAmong number (number_of level slot 0) count → number_of level 0 0 ≤ number
among-from level slot count number among =
    let half : 2 ^ (level + 3) ≡ 2 ^ (level + 2) + 2 ^ (level + 2) = next_power (level + 2) (level + 3) (omega arith) in
    omega (arith, half, among.0, place-from level slot 0)

among-below : (level slot count number : ℕ) → slot < 2 → count ≤ 2 ^ (level + 2) → IsAmong number (number_of level slot 0) count → number < 2 * number_of level 0 0
among-below level slot count number few fits among =
    let half : 2 ^ (level + 3) ≡ 2 ^ (level + 2) + 2 ^ (level + 2) = next_power (level + 2) (level + 3) (omega arith) in
    let whole : 2 ^ (level + 4) ≡ 2 ^ (level + 3) + 2 ^ (level + 3) = next_power (level + 3) (level + 4) (omega arith) in
    let below : number_of level slot (number - number_of level slot 0) < 2 ^ (level + 4) = place-below level slot (number - number_of level slot 0) (omega (arith, few)) (omega (arith, among.0, among.1, fits)) in
    omega (arith, half, whole, below, among.0)

pub level-from : (header : Header) (level number : ℕ) → IsOfLevel (fields_of header) level number → number_of level 0 0 ≤ number
level-from header level number (inl among) = among-from level (visible_slot header.clock level) (marks_of header.levels.items level).visible number among
level-from header level number (inr among) = among-from level (1 - visible_slot header.clock level) (marks_of header.levels.items level).shadow number among

pub level-below : (header : Header) (level number : ℕ) → level ≤ header.geometry.bottom → IsOfLevel (fields_of header) level number → number < 2 * number_of level 0 0
level-below header level number within (inl among) =
    let fits = fits-here header.clock header.levels.items header.marks_fit level (omega (arith, within, header.one_each)) in
    among-below level (visible_slot header.clock level) (marks_of header.levels.items level).visible number (slot-in header.clock level) fits.visible_fits among
level-below header level number within (inr among) =
    let fits = fits-here header.clock header.levels.items header.marks_fit level (omega (arith, within, header.one_each)) in
    among-below level (1 - visible_slot header.clock level) (marks_of header.levels.items level).shadow number (omega arith) fits.shadow_fits among
