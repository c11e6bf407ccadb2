-- Why a call of a cursor on an object was refused, where it was.
use Rattle.std.specs.Prelude.{List, Result, IfErr, Bool}
use Rattle.cola_cell.specs.declared.cell.Run.{Run}
use Rattle.cola_cell.specs.declared.fault.ReadFault.{ReadFault}
use Rattle.cola_cell.specs.declared.source.CellSource as source
use Rattle.cola_cursor.specs.declared.line.Line.{Line}
use Rattle.cola_cursor.specs.Lines.{LineCause}
use Rattle.cola_cursor.specs.Results.{LinesCause}
use Rattle.cola_cursor.specs.Seeking.{RunsCause}

module _ (falls : Bool) where
  module _ {T W : Type 0} (w : source.Ghosts W) (before now : W) where
    -- a refused call on a line: the count of faults rose, or a cell ahead of the line is bad
    abbrev pub HasLineCause : Line → Result T ReadFault → Type 0
    HasLineCause line result =
        IfErr result (LineCause falls (w.state before).held line (w.state before).spent.faults (w.state now).spent.faults)

    -- a refused call on lines: the count of faults rose, or a cell ahead of one is bad
    abbrev pub HasLinesCause : List Line → Result T ReadFault → Type 0
    HasLinesCause lines result =
        IfErr result (LinesCause falls (w.state before).held lines (w.state before).spent.faults (w.state now).spent.faults)

    -- a refused search of runs: the count of faults rose, or a cell of one is bad
    abbrev pub HasRunsCause : List Run → Result T ReadFault → Type 0
    HasRunsCause runs result =
        IfErr result (RunsCause (w.state before).held runs (w.state before).spent.faults (w.state now).spent.faults)
