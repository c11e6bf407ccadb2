-- Why a merge of windows takes no more steps.
use Rattle.std.specs.Prelude.{◌≡◌, ◌⊎◌, ℕ, ◌+◌, ◌*◌, ◌≤◌, ◌<◌, Bool, false, List, length, take, drop}
use Rattle.cola_cell.specs.declared.format.Format.{Format}
use Rattle.cola_cell.specs.Format.{width}
use Rattle.cola_cell.specs.Spelling.{IsNoSpelling}
use Rattle.cola_window.specs.declared.windows.Lasts.{Lasts}
use Rattle.cola_window.specs.declared.windows.Taken.{Taken}
use Rattle.cola_window.specs.Windows.{Known, Bytes, consumed}

-- what stands at the front of a window is not known: bytes that spell no cell, or too few of a source that goes on
pub record IsUnknown (format : Format) (is_last : Bool) (window : List ℕ) : Type 0 where
  pub bad : width format ≤ length window → IsNoSpelling format (take (width format) window)
  pub goes_on : length window < width format → is_last ≡ false

-- the fronts of three windows are known
pub record AreKnown (format : Format) (lasts : Lasts) (left : Bytes) : Type 0 where
  pub own : Known format lasts.own left.own
  pub incoming : Known format lasts.incoming left.incoming
  pub sample : Known format lasts.sample left.sample

-- the front of one of three windows is not known
abbrev pub IsOneUnknown : Format → Lasts → Bytes → Type 0
IsOneUnknown format lasts left = IsUnknown format lasts.own left.own
    ⊎ (IsUnknown format lasts.incoming left.incoming ⊎ IsUnknown format lasts.sample left.sample)

-- no window has a cell
pub record AreUsedUp (format : Format) (left : Bytes) : Type 0 where
  pub own : length left.own < width format
  pub incoming : length left.incoming < width format
  pub sample : length left.sample < width format

-- what of three windows lies behind what was taken
abbrev pub left_of : Format → Bytes → Taken → Bytes
left_of format windows taken = record {
  own = drop (taken.own * width format) windows.own;
  incoming = drop (taken.incoming * width format) windows.incoming;
  sample = drop (taken.sample * (8 * width format)) windows.sample;
}

-- no more steps are taken: the quota is taken, the room has no place for a cell more, a front is not known, or no cell is left
abbrev pub MergeStops : Format → Bytes → Lasts → List ℕ → Taken → ℕ → Type 0
MergeStops format windows lasts room taken quota = (consumed taken ≡ quota) ⊎ ((length room < taken.pushed * width format + width format)
    ⊎ (IsOneUnknown format lasts (left_of format windows taken) ⊎ AreUsedUp format (left_of format windows taken)))

-- a step can be taken: each front is known, one is a cell, the room has a place and the quota is not 0
pub record CanStep (format : Format) (windows : Bytes) (lasts : Lasts) (room : List ℕ) (quota : ℕ) : Type 0 where
  pub known : AreKnown format lasts windows
  pub some : (width format ≤ length windows.own) ⊎ ((width format ≤ length windows.incoming) ⊎ (width format ≤ length windows.sample))
  pub place : width format ≤ length room
  pub asked : 0 < quota
