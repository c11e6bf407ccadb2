-- The runs that a header speaks of, and a file as it is found by its header and an object of its cells.
use Rattle.std.specs.Prelude.{ℕ, ◌-◌, ◌==◌, if◌then◌else◌}
use Rattle.cola_cell.specs.declared.cell.Run.{Run}
use Rattle.cola_cell.specs.Held.{Held}
use Rattle.cola_clock.specs.Clock.{visible_slot}
use Rattle.cola_clock.specs.Marks.{Marks, marks_at}
use Rattle.cola_layout.specs.declared.header.Header.{Header}
use Rattle.cola_layout.specs.Marks.{all_numbers}
use Rattle.cola_verdict.specs.Tests.{Tested}

-- a file with this header, whose cells this object tells, as it is tested
abbrev pub tested_by : Header → Held → Tested
tested_by header held = record {
  most = header.geometry.keys;
  count = header.count;
  clock = header.clock;
  last = header.last;
  marks = all_numbers header.levels.items;
  spots = held.spots;
}

-- the numbers of the marks of a level
abbrev pub numbers_at : Header → ℕ → Marks
numbers_at header level = marks_at (all_numbers header.levels.items) level

-- the visible run of a level
abbrev pub visible_of : Header → ℕ → Run
visible_of header level = record { level = level; slot = visible_slot header.clock level; len = (numbers_at header level).visible }

-- the shadow of a level, in the other slot
abbrev pub shadow_of : Header → ℕ → Run
shadow_of header level = record { level = level; slot = 1 - visible_slot header.clock level; len = (numbers_at header level).shadow }

-- the run in a slot of a level: its visible run or its shadow
abbrev pub run_in : Header → ℕ → ℕ → Run
run_in header level slot = record {
  level = level;
  slot = slot;
  len = (if slot == visible_slot header.clock level then (numbers_at header level).visible else (numbers_at header level).shadow);
}
