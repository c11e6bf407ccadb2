-- A worked file that stands for no map: its header is a spelling, and its cells are told, but level 0 is too full.
use Rattle.std.proofs.Common.{◌≡◌, ℕ, zero, suc, ◌+◌, ◌*◌, ◌^◌, ◌≤◌, min, List, length, take, refl, subst, arith}
use Rattle.cola_cell.specs.Format.{width}
use Rattle.cola_cell.specs.Held.{Spot}
use Rattle.cola_clock.specs.Clock.{period, is_odd, elapsed, window_step, visible_slot}
use Rattle.cola_clock.specs.Marks.{Marks, AreLevelMarks, sample_end}
use Rattle.cola_laws.specs.Plain.{IsSoundChain}
use Rattle.cola_laws.specs.Slots.{levels_of}
use Rattle.cola_layout.specs.Header.{Fields, IsSpelling, head_bytes, marks_bytes}
use Rattle.cola_layout.specs.Marks.{all_numbers}
use Rattle.cola_layout.proofs.Refusing.{spelling-one}
use Rattle.cola_spec.specs.Map.{Map, key_cmp}
use Rattle.cola_cell.specs.ToldCells.{AreTold}
use Rattle.cola_layout.specs.Cells.{file_spots, slot_cells}
use Rattle.cola_image.specs.Standing.{found_in, AreRunsTold, HeaderStandsFor, FileStandsFor}
use Rattle.cola_image.specs.Worked.{crowded_file, crowded_header}

-- a visible run and nothing else
abbrev showing : ℕ → Marks
showing n = record { visible = n; shadow = 0; own = 0; incoming = 0; sampled = 0 }

-- such marks fit at any clock at which no step is due, or at which there are no cells to merge
resting : (t j above n : ℕ) (below : List Marks) → n ≤ 2 ^ (j + 2) → min (n + above + sample_end (is_odd (period t j)) below) (0 + 28 * window_step t j) ≡ 0 →
    AreLevelMarks 0 t j above (showing n) below
resting t j above n below fits nothing = record {
  visible_fits = fits;
  shadow_fits = omega arith;
  first = λ e. record { empty = refl; at_rest = record { own_rests = refl; incoming_rests = refl; sampled_rests = refl } };
  before = λ e. record { empty = refl; at_rest = record { own_rests = refl; incoming_rests = refl; sampled_rests = refl } };
  inside = λ some e. record {
    own_within = omega arith;
    incoming_within = omega arith;
    sampled_within = omega arith;
    enough = omega (arith, nothing);
    sampled_done = omega arith;
    done_consumed = omega arith;
  };
  after = λ e. record { own_rests = refl; incoming_rests = refl; sampled_rests = refl };
}

pub crowded-spelled : IsSpelling crowded_header (take 512 crowded_file)
unfolding head_bytes marks_bytes window_step elapsed is_odd period
crowded-spelled = record {
  text = refl;
  sound = record {
    keys_in_range = record { some = omega arith; few = omega arith };
    bottom_fits = record { three = omega arith; holds = omega arith; least = λ h. absurd (omega (arith, h)) };
    block_fits = record { group = omega arith; fits = omega arith };
    count_fits = omega arith;
    clock_fits = omega arith;
    last_fits = omega arith;
    one_each = refl;
    marks_fit = (resting 0 0 0 4 _ (omega arith) refl, (resting 0 1 4 0 _ (omega arith) refl, (resting 0 2 0 0 _ (omega arith) refl, (resting 0 3 0 0 _ (omega arith) refl, tt))));
  };
}

-- it has all its cells
pub crowded-whole : width crowded_header.format * 2 ^ (crowded_header.bottom + 4) ≤ length crowded_file
crowded-whole = let long : length crowded_file ≡ 8192 = refl in omega (arith, long)

-- no cell
none-told : (spots : ℕ → Spot) → AreTold spots 0
none-told spots i h = absurd (omega (arith, h))

crowded-told-top : AreTold (file_spots crowded_header.format crowded_file 0 0) 4
crowded-told-top zero h = refl
crowded-told-top (suc zero) h = refl
crowded-told-top (suc (suc zero)) h = refl
crowded-told-top (suc (suc (suc zero))) h = refl
crowded-told-top (suc (suc (suc (suc i)))) h = absurd (omega (arith, h))

pub crowded-told : AreRunsTold (file_spots crowded_header.format crowded_file) crowded_header.clock 0 (all_numbers crowded_header.levels)
unfolding visible_slot period
crowded-told = (crowded-told-top, none-told _, (none-told _, none-told _, (none-told _, none-told _, (none-told _, none-told _, tt))))

-- a full level 0 at clock 0 has more items than it may
crowded-unsound : (m : Map) → ¬ IsSoundChain key_cmp 32 0 (found_in m) (levels_of (slot_cells (file_spots crowded_header.format crowded_file)) 0 0 (all_numbers crowded_header.levels))
unfolding visible_slot period is_odd
crowded-unsound m s = let many : 4 ≤ 2 = s.sound.visible.0.few_items in omega (arith, many)

pub crowded-none : (m : Map) → ¬ FileStandsFor crowded_file m
crowded-none m stands =
    let here : HeaderStandsFor crowded_header crowded_file m =
    subst (λ (header : Fields). HeaderStandsFor header crowded_file m) (spelling-one stands.0 crowded_header (take 512 crowded_file) stands.1.spelled crowded-spelled) stands.1 in
    crowded-unsound m here.levels.sound
