-- The rules of a merge over the heads that are held.
use Rattle.std.specs.Prelude.{◌≡◌, ℕ, ◌*◌, List, Option, None, Some, ⊤}
use Rattle.std.specs.Option.{option_map}
use Rattle.cola_runs.specs.Steps as laws
use Rattle.cola_runs.specs.Steps.{Action, Take, Ended, emitted, item_or_look, least, rule}
use Rattle.cola_cell.specs.declared.cell.Cell.{Cell}
use Rattle.cola_cell.specs.declared.cell.Cell.TheVariants as cell
use Rattle.cola_cell.specs.declared.cell.Reader.{Reader}
use Rattle.cola_cell.specs.declared.cell.Reader.TheVariants.{Own, Incoming, Sample}
use Rattle.cola_cell.specs.declared.format.Format.{Format}
use Rattle.cola_cell.specs.Format.{CellFits}
use Rattle.cola_cell.specs.Cell.{key_of}
use Rattle.cola_cell.specs.declared.packed.Pass.{Pass}
use Rattle.cola_cell.specs.Packed.{passed, MayPass}
use Rattle.cola_cell.specs.Held.{Stamped, as_cell}
use Rattle.cola_merge.specs.declared.aims.Aim.{Aim}
use Rattle.cola_merge.specs.declared.rules.Choice.{Choice}
use Rattle.cola_merge.specs.Fetched.{Head}
use Rattle.cola_merge.specs.declared.merging.Merger.{Merger}
use Rattle.cola_cell.specs.Order.{key_cmp}
use Rattle.cola_merge.specs.Feeds.{part_of}
use Rattle.cola_merge.specs.Heads.{head_of}

-- the head that a reader reads
abbrev pub as_head : Reader → laws.Head
as_head Own = laws.Own
as_head Incoming = laws.Incoming
as_head Sample = laws.Sample

-- a cell fits the format, where there is one
abbrev pub HeadFits : Format → Option Cell → Type 0
HeadFits format None = ⊤
HeadFits format (Some c) = CellFits format c

-- what a step emits of the cell of its head
abbrev pub emitted_of : Option Pass → Option Cell → Option Cell
emitted_of None head = None
emitted_of (Some pass) None = None
emitted_of (Some pass) (Some c) = Some (passed pass c)

-- what is passed on is there, and an item where it is passed on as one
abbrev pub Suits : Option Pass → Option Cell → Type 0
Suits None head = ⊤
Suits (Some pass) None = ⊥
Suits (Some pass) (Some c) = MayPass pass c

-- the cell that a choice emits
abbrev pub choice_cell : Merger → Choice → Option Cell
choice_cell m choice = emitted_of choice.pass (head_of m choice.head).cell

-- the action that a choice is; none where no head is left
abbrev pub as_action : Merger → Option Choice → Action (List ℕ) Stamped
as_action m None = Ended
as_action m (Some choice) = Take (as_head choice.head) (option_map as_cell (choice_cell m choice))

-- what a choice passes on can be passed on so
abbrev pub ChoiceSuits : Merger → Option Choice → Type 0
ChoiceSuits m None = ⊤
ChoiceSuits m (Some choice) = Suits choice.pass (head_of m choice.head).cell

-- the action that the rules ask for by the heads that are held
abbrev pub next_action : Aim → Merger → Action (List ℕ) Stamped
next_action aim m = rule key_cmp (part_of aim) (8 * m.sample.at) (option_map as_cell m.own.cell) (option_map as_cell m.incoming.cell) (option_map key_of m.sample.cell)

-- the action emits a cell
abbrev pub Emits : Action (List ℕ) Stamped → Type 0
Emits (Take head None) = ⊥
Emits (Take head (Some c)) = ⊤
Emits Ended = ⊥

-- ---- what the rules choose

-- what is passed on of a cell at this head is what the rules emit of it
abbrev pub PassesOn : Aim → ℕ → Reader → Cell → Option Pass → Type 0
PassesOn aim link head c pass =
    option_map as_cell (emitted_of pass (Some c)) ≡ emitted (part_of aim) link (as_head head) (as_cell c)

-- a lookahead cell of the key of the sample's head is emitted, with this link
abbrev pub ChoosesLook : ℕ → Option Choice → Type 0
ChoosesLook link choice = (m : Merger) (next : Cell) → m.sample.cell ≡ Some next →
    as_action m choice ≡ Take (as_head Sample) (Some (as_cell (cell.Look (key_of next) link)))

-- this is so of each merger that holds this cell at this head, and this head of the sample
abbrev pub IfHeld : Reader → Cell → Head → (Merger → Type 0) → Type 0
IfHeld head c sample P = (m : Merger) → (head_of m head).cell ≡ Some c → m.sample ≡ sample → P m

-- the item at a head goes first, or a lookahead cell of the sample's key
abbrev pub ChoosesItemOrLook : Aim → ℕ → Reader → Cell → Head → Option Choice → Type 0
ChoosesItemOrLook aim link head c sample choice = IfHeld head c sample (λ m. as_action m choice
    ≡ item_or_look key_cmp (part_of aim) link (as_head head) (as_cell c) (option_map key_of sample.cell))

-- the rule that fits where no head is passed over
abbrev pub ChoosesLeast : Aim → ℕ → Merger → Option Choice → Type 0
ChoosesLeast aim link m choice = as_action m choice
    ≡ least key_cmp (part_of aim) link
    (option_map as_cell m.own.cell) (option_map as_cell m.incoming.cell) (option_map key_of m.sample.cell)

-- the first of the five rules that fits
abbrev pub ChoosesRule : Aim → ℕ → Merger → Option Choice → Type 0
ChoosesRule aim link m choice = as_action m choice
    ≡ rule key_cmp (part_of aim) link
    (option_map as_cell m.own.cell) (option_map as_cell m.incoming.cell) (option_map key_of m.sample.cell)
