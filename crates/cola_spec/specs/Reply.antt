-- The replies to the lines of a session, and their texts.
use Rattle.std.specs.Prelude.{ℕ, Bool, if◌then◌else◌, List, [], ◌∷◌, ◌++◌, length, Option, Some, None, codes, decimal}
use Rattle.std.specs.List.{flat_map}
use Rattle.cola_spec.specs.Map.{PutOutcome, New, Old, Full, Worn, Other}

-- why a table could not answer: the device failed, a cell's bytes are no spelling, or a level's next run is full
pub data Failure : Type 0 where
  Fault : Failure
  Damaged : ℕ → Failure
  Overfull : ℕ → Failure

-- why a store was not opened again
pub data Refusal : Type 0 where
  NotStore : Refusal
  NotClosed : Refusal
  Small : Refusal
  Memory : Refusal

-- the reply to a line
pub data Reply : Type 0 where
  Put : PutOutcome → Reply
  Deleted : Option (List ℕ) → Reply
  Got : Option (List ℕ) → Reply
  Stamped : Option ℕ → Reply
  Rows : List (List ℕ × List ℕ) → Reply
  Cut : List (List ℕ × List ℕ) → Failure → Reply
  Counted : ℕ → Reply
  Failed : Failure → Reply
  Closed : Reply
  Opened : ℕ → Reply
  Refused : Refusal → Reply
  Already : Reply
  Shut : Reply
  Bad : Reply

-- a text with its line feed
abbrev pub line : List ℕ → List ℕ
line text = text ++ 10 ∷ []

-- the number of cell accesses behind a reply, where costs are asked for
abbrev pub cost_suffix : Bool → ℕ → List ℕ
cost_suffix cost ticks = if cost then codes " # " ++ decimal ticks else []

abbrev pub outcome_text : PutOutcome → List ℕ
outcome_text New = codes "new"
outcome_text (Old value) = codes "old " ++ value
outcome_text Full = codes "full"
outcome_text Worn = codes "worn"
outcome_text (Other stamp) = codes "other " ++ decimal stamp

-- whether the cost of the call stands behind what a put answers
abbrev pub outcome_suffix : Bool → ℕ → PutOutcome → List ℕ
outcome_suffix cost ticks New = cost_suffix cost ticks
outcome_suffix cost ticks (Old value) = cost_suffix cost ticks
outcome_suffix cost ticks Full = []
outcome_suffix cost ticks Worn = []
outcome_suffix cost ticks (Other stamp) = cost_suffix cost ticks

-- a word and a value, or `none`
abbrev pub value_text : List ℕ → Option (List ℕ) → List ℕ
value_text word None = codes "none"
value_text word (Some value) = word ++ value

abbrev pub stamp_text : Option ℕ → List ℕ
stamp_text None = codes "none"
stamp_text (Some stamp) = codes "at " ++ decimal stamp

abbrev pub failure_text : Failure → List ℕ
failure_text Fault = codes "fault"
failure_text (Damaged cell) = codes "damaged " ++ decimal cell
failure_text (Overfull level) = codes "overfull " ++ decimal level

abbrev pub refusal_text : Refusal → List ℕ
refusal_text NotStore = codes "notstore"
refusal_text NotClosed = codes "notclosed"
refusal_text Small = codes "small"
refusal_text Memory = codes "memory"

-- a pair as a line
abbrev pub row_text : List ℕ × List ℕ → List ℕ
row_text pair = line (codes "row " ++ pair.0 ++ 32 ∷ pair.1)

abbrev pub rows_text : List (List ℕ × List ℕ) → List ℕ
rows_text rows = flat_map row_text rows

-- the text of a reply, with its line feeds
abbrev pub reply_text : Bool → ℕ → Reply → List ℕ
reply_text cost ticks (Put outcome) = line (outcome_text outcome ++ outcome_suffix cost ticks outcome)
reply_text cost ticks (Deleted value) = line (value_text (codes "gone ") value ++ cost_suffix cost ticks)
reply_text cost ticks (Got value) = line (value_text (codes "val ") value ++ cost_suffix cost ticks)
reply_text cost ticks (Stamped stamp) = line (stamp_text stamp ++ cost_suffix cost ticks)
reply_text cost ticks (Rows rows) = rows_text rows ++ line (codes "end " ++ decimal (length rows))
reply_text cost ticks (Cut rows failure) = rows_text rows ++ line (failure_text failure)
reply_text cost ticks (Counted keys) = line (codes "count " ++ decimal keys)
reply_text cost ticks (Failed failure) = line (failure_text failure)
reply_text cost ticks Closed = line (codes "closed")
reply_text cost ticks (Opened keys) = line (codes "open " ++ decimal keys)
reply_text cost ticks (Refused refusal) = line (refusal_text refusal)
reply_text cost ticks Already = line (codes "already")
reply_text cost ticks Shut = line (codes "shut")
reply_text cost ticks Bad = line (codes "bad")
