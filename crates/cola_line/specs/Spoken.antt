-- A command of the code as a command of the session machine, and what it needs of a table.
use Rattle.std.specs.Prelude.{◌≡◌}
use Rattle.cola_cell.specs.declared.format.Format.{Format}
use Rattle.cola_cell.specs.declared.format.Format.TheVariants.{Two}
use Rattle.cola_cell.specs.Format.{KeyFits, ValueFits}
use Rattle.cola_line.specs.declared.command.Command.{Command}
use Rattle.cola_line.specs.declared.command.Command.TheVariants.{Put, PutIf, Del, Get, Stamp, Range, Scan, Count, Close, Reopen}
use Rattle.cola_spec.specs.Command as spec

-- the command as the session machine sees it
abbrev pub spoken : Command → spec.Command
spoken (Put key value) = spec.Put key value
spoken (PutIf key seen value) = spec.PutIf key seen value
spoken (Del key) = spec.Del key
spoken (Get key) = spec.Get key
spoken (Stamp key) = spec.Stamp key
spoken (Range low high) = spec.Range low high
spoken (Scan low most) = spec.Scan low most
spoken Count = spec.Count
spoken Close = spec.Close
spoken Reopen = spec.Reopen

-- the keys and values of a write fit the format, and what speaks of stamps is of format Two
abbrev pub CommandFits : Format → Command → Type 0
CommandFits format (Put key value) = KeyFits format key × ValueFits format value
CommandFits format (PutIf key seen value) = (format ≡ Two) × KeyFits format key × ValueFits format value
CommandFits format (Del key) = Unit {0}
CommandFits format (Get key) = Unit {0}
CommandFits format (Stamp key) = format ≡ Two
CommandFits format (Range low high) = Unit {0}
CommandFits format (Scan low most) = Unit {0}
CommandFits format Count = Unit {0}
CommandFits format Close = Unit {0}
CommandFits format Reopen = Unit {0}

-- a command that the table answers: all but those that close and open the store
abbrev pub IsOfTable : Command → Type 0
IsOfTable Close = ⊥
IsOfTable Reopen = ⊥
IsOfTable _ = Unit {0}

-- a command whose reply is one line that a table gives
abbrev pub IsOfOneLine : Command → Type 0
IsOfOneLine (Put key value) = Unit {0}
IsOfOneLine (PutIf key seen value) = Unit {0}
IsOfOneLine (Del key) = Unit {0}
IsOfOneLine (Get key) = Unit {0}
IsOfOneLine (Stamp key) = Unit {0}
IsOfOneLine Count = Unit {0}
IsOfOneLine _ = ⊥
