-- What the calls by C on a load tell of its rows.
use Rattle.std.proofs.Common.{◌≡◌, ◌∙◌, inl, inr, ℕ, ℤ, pos, List, Some, Result, Ok, Err, sym, subst}
use Rattle.cola_mapped.specs.declared.region.Region.{Region}
use Rattle.cola_mapped.specs.Region.{bytes_in}
use Rattle.cola_tools.specs.declared.fault.ToolFault.{ToolFault}
use Rattle.cola_tools.specs.declared.fault.ToolFault.TheVariants.{Small, NotStore, NotClosed, Memory, Options, NotEmpty, BadCell, Fewer, Length, Full, Order}
use Rattle.cola_tools.specs.Loading.{Pair, Loads, Holds, IsUnbegun, Rows, geometry_of}
use Rattle.cola_tools.proofs.Loaded.{numbered-long}
use Rattle.cola_tools.proofs.LoadLaws.{stand-for}
use Rattle.cola_c.specs.declared.load_handle.LoadHandle.{LoadHandle}
use Rattle.cola_c.specs.Loads.{LoadsBegin, LoadRefusalsAreTold, PlainLoadRefusal, RowsAreLoaded, PlainRow, LoadsEnd, row_number}
use Rattle.cola_c.specs.Tools.{fault_number}

pub loads-begin : LoadsBegin
loads-begin keys block version before new begins = (begins.begun.none, (begins.was_zero, (geometry_of new, (begins.sizes, begins.enough))))

refusal-told : (keys block version : ℕ) (before : List ℕ) (code : ℤ) (why : ToolFault) → code ≡ pos (fault_number why) → IsUnbegun keys block version before why → PlainLoadRefusal keys block version before code
refusal-told keys block version before code Options is cause = inl (is, cause)
refusal-told keys block version before code Small is cause = inr (inl (is, cause))
refusal-told keys block version before code NotEmpty is cause = inr (inr (inl (is, cause)))
refusal-told keys block version before code Memory is cause = inr (inr (inr (is, cause)))
refusal-told keys block version before code NotStore is cause = absurd cause
refusal-told keys block version before code NotClosed is cause = absurd cause
refusal-told keys block version before code BadCell is cause = absurd cause
refusal-told keys block version before code Fewer is cause = absurd cause
refusal-told keys block version before code Length is cause = absurd cause
refusal-told keys block version before code Full is cause = absurd cause
refusal-told keys block version before code Order is cause = absurd cause

pub load-refusals : LoadRefusalsAreTold
load-refusals keys block version before now code refused =
    (refusal-told keys block version (bytes_in before.bytes) code refused.why refused.number_is refused.cause, refused.bytes_stay)

module _ (old new : Loads) (rows : List Pair) (key value : List ℕ) (after : LoadHandle) (code : ℤ) (holds : Holds old rows) (is-open : after.owned.load ≡ Some new) where
  stays : new ≡ old → Holds new rows
  stays same = subst (λ (load : Loads). Holds load rows) (sym same) holds

  row-told : (answer : Result Unit ToolFault) → code ≡ pos (row_number answer) → Rows old new key value answer → PlainRow old rows key value after code
  row-told (Ok answer) is says = inl (is, (says.0.is_row, (says.0.above, (new, (is-open, says.1.holds rows holds)))))
  row-told (Err Length) is says = inr (inl (is, (says.0, (new, (is-open, stays says.1)))))
  row-told (Err Order) is says = inr (inr (inl (is, (says.0.1, (new, (is-open, stays says.1))))))
  row-told (Err Full) is says =
      inr (inr (inr (is, (sym (numbered-long (geometry_of old).format 1 rows) ∙ (sym holds.held.many ∙ says.0.2), (new, (is-open, stays says.1))))))
  row-told (Err Small) is says = absurd says.0
  row-told (Err NotStore) is says = absurd says.0
  row-told (Err NotClosed) is says = absurd says.0
  row-told (Err Memory) is says = absurd says.0
  row-told (Err Options) is says = absurd says.0
  row-told (Err NotEmpty) is says = absurd says.0
  row-told (Err BadCell) is says = absurd says.0
  row-told (Err Fewer) is says = absurd says.0

pub rows-are-loaded : RowsAreLoaded
rows-are-loaded old rows key value after code holds told = row-told old told.new rows key value after code holds told.is_open told.answer told.number_is told.says

pub loads-end : LoadsEnd
loads-end old rows region many holds ended is =
    (stand-for old rows (bytes_in region.bytes) holds ended.made, is ∙ (holds.held.many ∙ numbered-long (geometry_of old).format 1 rows))
