-- The five rules of a merge, as one step over three cursors.
use Rattle.std.specs.Prelude.{◌≡◌, ◌++◌, ℕ, zero, suc, ◌+◌, ◌-◌, ◌*◌, ◌≤◌, min, Bool, true, false, not, cond, List, [], length, drop, slice_get}
use Rattle.std.specs.declared.cmp.Ordering.{Ordering}
use Rattle.std.specs.Ordering.{is_gt, match_ordering}
use Rattle.std.specs.declared.option.Option.{Option}
use Rattle.std.specs.declared.option.Option.TheVariants.{None, Some}
use Rattle.std.specs.Option.{option_to_list, option_map}
use Rattle.cola_runs.specs.Cells.{Cell, Entry, Look, key_of}
use Rattle.cola_runs.specs.Weave.{Part, is_wanted, kept, IsCut}

-- the heads of the three sources of a build: of the own run, of the incoming run, and of the sample of the run below
pub data Head : Type 0 where
  Own : Head
  Incoming : Head
  Sample : Head

-- what one step of a merge does: it consumes this head and emits the cell, if there is one; or nothing, where no head is left
pub data Action (K V : Type 0) : Type 0 where
  Take : Head → Option (Cell K V) → Action K V
  Ended : Action K V

-- the young flag of an item emitted for this head
abbrev pub flag_of : Part → Head → Bool
flag_of part Own = false
flag_of part Incoming = part.marks_young
flag_of part Sample = false

module _ {K V : Type 0} where
  -- the own head is passed over: it is a lookahead cell, or an item that is not wanted
  abbrev pub skips_own : Part → Option (Cell K V) → Bool
  skips_own part None = false
  skips_own part (Some (Entry k i y l)) = not (is_wanted part y)
  skips_own part (Some (Look k l)) = true

  -- the incoming head is passed over: it is a lookahead cell
  abbrev pub skips_incoming : Option (Cell K V) → Bool
  skips_incoming None = false
  skips_incoming (Some (Entry k i y l)) = false
  skips_incoming (Some (Look k l)) = true

  -- the cell that is emitted for a head: its item with the flag of the head and the link; none for a tombstone that is left out
  abbrev pub emitted : Part → ℕ → Head → Cell K V → Option (Cell K V)
  emitted part link head (Entry k i y l) = option_map (λ j. Entry k j (flag_of part head) link) (kept part i)
  emitted part link head (Look k l) = None

module _ {K V : Type 0} (cmp : K → K → Ordering) where
  -- the item of a head against the head of the sample: the item goes first where its key is at most the sample's key
  abbrev pub item_or_look : Part → ℕ → Head → Cell K V → Option K → Action K V
  item_or_look part link head c None = Take head (emitted part link head c)
  item_or_look part link head c (Some k) = cond (is_gt (cmp (key_of c) k)) (Take Sample (Some (Look k link))) (Take head (emitted part link head c))

  -- the rule that fits where neither head is passed over: of two equal keys the own item is
  -- dropped, else the smaller key goes first
  abbrev pub least : Part → ℕ → Option (Cell K V) → Option (Cell K V) → Option K → Action K V
  least part link None None None = Ended
  least part link None None (Some k) = Take Sample (Some (Look k link))
  least part link (Some c) None key = item_or_look part link Own c key
  least part link None (Some d) key = item_or_look part link Incoming d key
  least part link (Some c) (Some d) key =
      match_ordering (cmp (key_of c) (key_of d)) (item_or_look part link Own c key) (Take Own None) (item_or_look part link Incoming d key)

  -- the first of the five rules that fits the three heads, where emitted cells get this link
  abbrev pub rule : Part → ℕ → Option (Cell K V) → Option (Cell K V) → Option K → Action K V
  rule part link own incoming key =
      cond (skips_own part own) (Take Own None) (cond (skips_incoming incoming) (Take Incoming None) (least part link own incoming key))

-- how far a build has come: how many cells of each source it has consumed, and the cells that it has emitted
pub record Build (K V : Type 0) : Type 0 where
  pub own : ℕ
  pub incoming : ℕ
  pub sampled : ℕ
  pub done : List (Cell K V)

module _ {K V : Type 0} where
  -- a build that has not begun
  abbrev pub begun : Build K V
  begun = record { own = 0; incoming = 0; sampled = 0; done = [] }

  -- this head consumed, and these cells emitted
  abbrev pub consumed_from : Head → List (Cell K V) → Build K V → Build K V
  consumed_from Own cells p = record { own = suc p.own; incoming = p.incoming; sampled = p.sampled; done = p.done ++ cells }
  consumed_from Incoming cells p = record { own = p.own; incoming = suc p.incoming; sampled = p.sampled; done = p.done ++ cells }
  consumed_from Sample cells p = record { own = p.own; incoming = p.incoming; sampled = suc p.sampled; done = p.done ++ cells }

  -- the build after an action
  abbrev pub after : Action K V → Build K V → Build K V
  after (Take head cell) p = consumed_from head (option_to_list cell) p
  after Ended p = p

  -- how many source cells were consumed
  abbrev pub consumed : Build K V → ℕ
  consumed p = p.own + p.incoming + p.sampled

  -- how many source cells are left
  abbrev pub cells_left : List (Cell K V) → List (Cell K V) → List K → Build K V → ℕ
  cells_left own incoming keys p = (length own - p.own) + (length incoming - p.incoming) + (length keys - p.sampled)

module _ {K V : Type 0} (cmp : K → K → Ordering) (part : Part) (own incoming : List (Cell K V)) (keys : List K) where
  -- one step: the heads are the cells at the cursors, and the link is 8 times the sample cursor before the step
  unfoldable pub step : Build K V → Build K V
  step p = after (rule cmp part (8 * p.sampled) (slice_get own p.own) (slice_get incoming p.incoming) (slice_get keys p.sampled)) p

  -- n steps; a step of a build that has ended changes nothing
  abbrev pub steps : ℕ → Build K V → Build K V
  steps zero p = p
  steps (suc n) p = steps n (step p)

  -- a build under way: no cursor is past its source, and the cut
  pub record IsUnderWay (p : Build K V) : Type 0 where
    pub own_within : p.own ≤ length own
    pub incoming_within : p.incoming ≤ length incoming
    pub sampled_within : p.sampled ≤ length keys
    pub cut : IsCut cmp part own incoming keys (drop p.own own) (drop p.incoming incoming) (drop p.sampled keys) p.done

  -- n steps lead from one build to the other: it is under way, and has consumed n more source cells, or all
  -- that were left; it emitted at most one cell for each, behind what was emitted before, and no cursor fell
  pub record IsAdvanced (n : ℕ) (before after : Build K V) : Type 0 where
    pub under_way : IsUnderWay after
    pub consumes : consumed after ≡ consumed before + min n (cells_left own incoming keys before)
    pub leaves : cells_left own incoming keys after ≡ cells_left own incoming keys before - n
    pub emits : length after.done + consumed before ≤ length before.done + consumed after
    pub extends : (more : List (Cell K V)) × (after.done ≡ before.done ++ more)
    pub own_rises : before.own ≤ after.own
    pub incoming_rises : before.incoming ≤ after.incoming
    pub sampled_rises : before.sampled ≤ after.sampled
