-- An object whose readers are named anew, each by the one before it.
use Rattle.cola_cell.specs.declared.cell.Reader.{Reader}
use Rattle.cola_cell.specs.declared.cell.Reader.TheVariants.{Own, Incoming, Sample}
use Rattle.cola_cell.specs.Spent.{Buffer, Search, By}
use Rattle.cola_cell.specs.State.{State}

-- the reader that reads in the place of another
abbrev pub other_reader : Reader → Reader
other_reader Own = Incoming
other_reader Incoming = Sample
other_reader Sample = Own

-- the buffer in the place of another: that of searches stays
abbrev pub other_buffer : Buffer → Buffer
other_buffer Search = Search
other_buffer (By reader level) = By (other_reader reader) level

-- the state of an object, by the other buffers
abbrev pub by_others : State → State
by_others object = record {
  held = object.held;
  spent = record object.spent { lasts = λ buffer. object.spent.lasts (other_buffer buffer) };
}
