-- An open store as a table.
use Rattle.cola_cursor.specs.declared.cursor.Cursor.{Cursor}
use Rattle.cola_device.specs.declared.device.Device as device
use Rattle.cola_run.specs.Store.{Kept}
use Rattle.cola_table.specs.declared.table.Table as table
use Rattle.cola_store.specs.Calls.{AnswersTurn}
use Rattle.cola_store.specs.Store.{Stored, Holds, faults_of, kept_by, terms_of}
use Rattle.cola_store.specs.Walks.{Stands, Ahead, Begins, Goes, left_of, cells_ahead}

-- its meanings of the calls of a table
abbrev pub store_table : {D : Type 0} → (d : device.Ghosts D) → table.Ghosts (Stored D) Cursor
store_table d = record {
  Kept = Kept d.Kept;
  kept = kept_by d;
  terms = terms_of;
  faults = faults_of d.counts;
  holds = Holds d.bytes;
  answers = AnswersTurn d.bytes d.counts;
  begins = Begins d.bytes d.counts;
  goes = Goes d.bytes d.counts;
  stands = Stands d.bytes;
  ahead = Ahead d.bytes;
  left = left_of;
  most = cells_ahead;
}
