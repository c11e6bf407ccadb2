-- Windows of cells: what stands in them, and what a merge of them takes and makes.
use Rattle.std.specs.Prelude.{◌≡◌, ◌≢◌, ℕ, zero, suc, ◌+◌, ◌-◌, ◌*◌, ◌≤◌, ◌<◌, nat_le, Bool, true, false, if◌then◌else◌, List, [], ◌∷◌, ◌++◌, length, take, drop, Option, None, Some, slice_get, ⊤}
use Rattle.std.specs.Option.{option_map}
use Rattle.std.specs.Ordering.{is_gt}
use Rattle.cola_runs.specs.Steps as laws
use Rattle.cola_runs.specs.Steps.{Action, Take, Ended, Build, emitted, item_or_look, least, rule, steps}
use Rattle.cola_runs.specs.Cells as cells
use Rattle.cola_runs.specs.Weave.{Part}
use Rattle.cola_cell.specs.declared.cell.Cell.{Cell}
use Rattle.cola_cell.specs.declared.cell.Cell.TheVariants as cell
use Rattle.cola_cell.specs.declared.cell.Reader.{Reader}
use Rattle.cola_cell.specs.declared.cell.Reader.TheVariants.{Own, Incoming, Sample}
use Rattle.cola_cell.specs.declared.format.Format.{Format}
use Rattle.cola_cell.specs.declared.packed.Pass.{Pass}
use Rattle.cola_cell.specs.declared.packed.Pass.TheVariants as pass
use Rattle.cola_window.specs.declared.windows.Does.{Does}
use Rattle.cola_window.specs.declared.windows.Does.TheVariants.{Skips, Emits, Looks}
use Rattle.cola_cell.specs.Cell.{key_of}
use Rattle.cola_cell.specs.Format.{width}
use Rattle.cola_cell.specs.Decoded.{standing}
use Rattle.cola_cell.specs.Held.{LawCell, Stamped, as_cell}
use Rattle.cola_cell.specs.Order.{key_cmp}
use Rattle.cola_cell.specs.Packed.{passed, MayPass}
use Rattle.cola_cell.specs.Spelling.{IsSpelling, part}
use Rattle.cola_window.specs.declared.windows.Rules.{Rules}
use Rattle.cola_window.specs.declared.windows.Act.{Act}
use Rattle.cola_cell.specs.declared.windows.Window.{Window}
use Rattle.cola_window.specs.declared.windows.Lasts.{Lasts}
use Rattle.cola_window.specs.declared.windows.Left.{Left}
use Rattle.cola_window.specs.declared.windows.Taken.{Taken}

-- the part that the rules make, as the laws of runs have it
abbrev pub part_of : Rules → Part
part_of rules = record { only_young = rules.only_young; marks_young = rules.marks_young; drops_tombstones = rules.drops_tombstones }

-- the cell at the front of a window, where it has room for one
abbrev pub front_cell : Format → List ℕ → Option Cell
front_cell format window = if nat_le (width format) (length window) then Some (standing format (take (width format) window)) else None

-- bytes are the spelling of the cell that stands in them
abbrev pub Spells : Format → List ℕ → Type 0
Spells format bytes = IsSpelling format (standing format bytes) bytes

-- what stands at the front of a window is known: a cell, or that the source ends there
pub record Known (format : Format) (is_last : Bool) (window : List ℕ) : Type 0 where
  pub spells : width format ≤ length window → Spells format (take (width format) window)
  pub ended : length window < width format → is_last ≡ true

-- ---- what a step does

-- whether the key of a cell is above that of a front
abbrev pub above_front : Cell → Option Cell → Bool
above_front c None = false
above_front c (Some next) = is_gt (key_cmp (key_of c) (key_of next))

abbrev pub as_head : Reader → laws.Head
as_head Own = laws.Own
as_head Incoming = laws.Incoming
as_head Sample = laws.Sample

-- the cell of a reader among three
abbrev pub pick : Reader → Option Cell → Option Cell → Option Cell → Option Cell
pick Own x y z = x
pick Incoming x y z = y
pick Sample x y z = z

-- what is emitted of the cell of a front
abbrev pub emitted_of : Option Pass → Option Cell → Option Cell
emitted_of None head = None
emitted_of (Some pass) None = None
emitted_of (Some pass) (Some c) = Some (passed pass c)

-- as what the cell of a front is passed on, if it is
abbrev pub pass_of : Rules → ℕ → Reader → Does → Option Pass
pass_of rules link head Skips = None
pass_of rules link head Emits = Some (pass.Item (laws.flag_of (part_of rules) (as_head head)) link)
pass_of rules link head Looks = Some (pass.Look link)

abbrev pub act_pass : Rules → ℕ → Act → Option Pass
act_pass rules link act = pass_of rules link act.head act.does

-- the action that a step is; none where no source cell is left
abbrev pub as_action : Rules → ℕ → Option Cell → Option Cell → Option Cell → Option Act → Action (List ℕ) Stamped
as_action rules link x y z None = Ended
as_action rules link x y z (Some act) = Take (as_head act.head) (option_map as_cell (emitted_of (act_pass rules link act) (pick act.head x y z)))

-- what the rules ask for by three fronts
abbrev pub asked : Rules → ℕ → Option Cell → Option Cell → Option Cell → Action (List ℕ) Stamped
asked rules link x y z = rule key_cmp (part_of rules) link (option_map as_cell x) (option_map as_cell y) (option_map key_of z)

-- what is passed on is there, and an item where it is passed on as one
abbrev pub Suits : Option Pass → Option Cell → Type 0
Suits pass None = ⊥
Suits None (Some c) = ⊤
Suits (Some pass) (Some c) = MayPass pass c

abbrev pub ActSuits : Rules → ℕ → Option Cell → Option Cell → Option Cell → Option Act → Type 0
ActSuits rules link x y z None = ⊤
ActSuits rules link x y z (Some act) = Suits (act_pass rules link act) (pick act.head x y z)

-- this is so of each three fronts of which this cell is the reader's, and this one the sample's
abbrev pub IfPicked : Reader → Cell → Option Cell → (Option Cell → Option Cell → Option Cell → Type 0) → Type 0
IfPicked head c sample P = (x y z : Option Cell) → pick head x y z ≡ Some c → z ≡ sample → P x y z

-- what is passed on of a cell at this front is what the rules emit of it
abbrev pub PassesOn : Rules → ℕ → Reader → Cell → Does → Type 0
PassesOn rules link head c does =
    option_map as_cell (emitted_of (pass_of rules link head does) (Some c)) ≡ emitted (part_of rules) link (as_head head) (as_cell c)

-- a lookahead cell of the key of the sample's front is emitted, with this link
abbrev pub ActsLook : Rules → ℕ → Option Act → Type 0
ActsLook rules link act = (x y : Option Cell) (next : Cell) →
    as_action rules link x y (Some next) act ≡ Take laws.Sample (Some (as_cell (cell.Look (key_of next) link)))

-- the item at a front goes first, or a lookahead cell of the sample's key
abbrev pub ActsItemOrLook : Rules → ℕ → Reader → Cell → Option Cell → Option Act → Type 0
ActsItemOrLook rules link head c sample act = IfPicked head c sample (λ x y z. as_action rules link x y z act
    ≡ item_or_look key_cmp (part_of rules) link (as_head head) (as_cell c) (option_map key_of sample))

-- the rule that fits where no front is passed over
abbrev pub ActsLeast : Rules → ℕ → Option Cell → Option Cell → Option Cell → Option Act → Type 0
ActsLeast rules link x y z act = as_action rules link x y z act
    ≡ least key_cmp (part_of rules) link (option_map as_cell x) (option_map as_cell y) (option_map key_of z)

-- the window of a reader
abbrev pub window_of : Reader → List ℕ → List ℕ → List ℕ → List ℕ
window_of Own a b c = a
window_of Incoming a b c = b
window_of Sample a b c = c

-- whether no cell of the source of a reader lies behind its window
abbrev pub last_of : Reader → Lasts → Bool
last_of Own lasts = lasts.own
last_of Incoming lasts = lasts.incoming
last_of Sample lasts = lasts.sample

-- the window of the second reader where the first one's front was consumed
abbrev pub moved : Format → Reader → Reader → List ℕ → List ℕ
moved format Own Own window = drop (width format) window
moved format Own Incoming window = window
moved format Own Sample window = window
moved format Incoming Own window = window
moved format Incoming Incoming window = drop (width format) window
moved format Incoming Sample window = window
moved format Sample Own window = window
moved format Sample Incoming window = window
moved format Sample Sample window = drop (8 * width format) window

-- the cell, if there is one, is spelled at the place in the room
abbrev pub Puts : Format → ℕ → Option Cell → List ℕ → Type 0
Puts format at None room = ⊤
Puts format at (Some c) room = IsSpelling format c (take (width format) (drop at room))

-- one more, or as many
abbrev pub more : Bool → ℕ → ℕ
more true n = n + 1
more false n = n

-- what was taken with one cell more of this reader
abbrev pub taken_with : Reader → Bool → Taken → Taken
taken_with Own b t = record { own = t.own + 1; incoming = t.incoming; sample = t.sample; pushed = more b t.pushed }
taken_with Incoming b t = record { own = t.own; incoming = t.incoming + 1; sample = t.sample; pushed = more b t.pushed }
taken_with Sample b t = record { own = t.own; incoming = t.incoming; sample = t.sample + 1; pushed = more b t.pushed }

-- ---- whole windows

-- as many cells as were emitted, in the room where they were put
abbrev pub cells_in : Format → ℕ → List ℕ → List LawCell
cells_in format zero room = []
cells_in format (suc n) room = cells_in format n room ++ (as_cell (standing format (take (width format) (drop (n * width format) room))) ∷ [])

-- a list goes on from an index as a window shows, each cell so many bytes behind the one before: where bytes spell a cell, that cell
-- is the list's, and where the source ends the list does
pub record Shows {X : Type 0} (read : Cell → X) (format : Format) (step : ℕ) (is_last : Bool) (window : List ℕ) (list : List X) (at : ℕ) : Type 0 where
  pub cells : (n : ℕ) → width format ≤ length (drop (n * step) window) → Spells format (take (width format) (drop (n * step) window)) →
      slice_get list (at + n) ≡ Some (read (standing format (take (width format) (drop (n * step) window))))
  pub ends : (n : ℕ) → length (drop (n * step) window) < width format → is_last ≡ true → slice_get list (at + n) ≡ None

-- the keys of a sample
abbrev pub key_read : Cell → List ℕ
key_read c = key_of c

-- how many source cells were consumed
abbrev pub consumed : Taken → ℕ
consumed taken = taken.own + taken.incoming + taken.sample

-- a build behind what was taken, with what stands in the room
abbrev pub behind : Format → Build (List ℕ) Stamped → Taken → List ℕ → Build (List ℕ) Stamped
behind format p taken room = record {
  own = p.own + taken.own;
  incoming = p.incoming + taken.incoming;
  sampled = p.sampled + taken.sample;
  done = p.done ++ cells_in format taken.pushed room;
}

-- three windows, by their bytes
pub record Bytes : Type 0 where
  pub own : List ℕ
  pub incoming : List ℕ
  pub sample : List ℕ

-- the bytes of what is left, and of three windows
abbrev pub bytes_of : Left → Bytes
bytes_of left = record { own = left.own.now; incoming = left.incoming.now; sample = left.sample.now }

abbrev pub bytes_in : Window → Window → Window → Bytes
bytes_in own incoming sample = record { own = own.bytes.now; incoming = incoming.bytes.now; sample = sample.bytes.now }

-- whether no cell of each source lies behind its window
abbrev pub lasts_in : Window → Window → Window → Lasts
lasts_in own incoming sample = record { own = own.is_last; incoming = incoming.is_last; sample = sample.is_last }

-- what was taken is so many steps of the list machine, over any lists that go on as the windows show
abbrev pub Merges : Format → Rules → ℕ → Bytes → Lasts → List ℕ → Taken → Type 0
Merges format rules base windows lasts room taken =
    (own incoming : List LawCell) (keys : List (List ℕ)) (p : Build (List ℕ) Stamped) →
    Shows as_cell format (width format) lasts.own windows.own own p.own →
    Shows as_cell format (width format) lasts.incoming windows.incoming incoming p.incoming →
    Shows key_read format (8 * width format) lasts.sample windows.sample keys p.sampled →
    base ≡ 8 * p.sampled →
    steps key_cmp (part_of rules) own incoming keys (consumed taken) p ≡ behind format p taken room

-- what a merge of windows takes and emits
pub record Merged (format : Format) (rules : Rules) (base : ℕ) (windows : Bytes) (lasts : Lasts) (room : List ℕ) (taken : Taken) : Type 0 where
  -- no more cells were consumed than stand in the windows
  pub own_within : taken.own * width format ≤ length windows.own
  pub incoming_within : taken.incoming * width format ≤ length windows.incoming
  pub sample_within : taken.sample * (8 * width format) ≤ length windows.sample + 7 * width format
  -- at most one cell was emitted for each, and one for each of the sample; they are spelled one behind the other
  pub emits : taken.pushed ≤ consumed taken
  pub samples : taken.sample ≤ taken.pushed
  pub fits : taken.pushed * width format ≤ length room
  pub spelled : (k : ℕ) → k < taken.pushed → Spells format (take (width format) (drop (k * width format) room))
  -- it is so many steps of the list machine
  pub merges : Merges format rules base windows lasts room taken
