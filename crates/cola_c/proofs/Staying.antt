-- What was lent to a session stays over the calls of its store.
use Rattle.std.proofs.Common.{ap}
use Rattle.std.specs.Prelude.{Option}
use Rattle.cola_mapped.specs.Mapped.{Mapped}
use Rattle.cola_mapped.specs.declared.lent.Lent.{Lent}
use Rattle.cola_marks.specs.Marked.{Settings}
use Rattle.cola_handle.specs.Marks.{Place, marks_in}
use Rattle.cola_c.specs.Marked.{LentStays}

pub lent_stays : LentStays
lent_stays old new stays = (
  record {
    bytes_are = ap (λ (k : Settings Mapped (Option Lent) Place (Option Place)). k.first.bytes) stays.kept;
    marks_are = ap (λ (k : Settings Mapped (Option Lent) Place (Option Place)). marks_in k.first_marks) stays.kept;
    place_is = ap (λ (k : Settings Mapped (Option Lent) Place (Option Place)). k.marks) stays.kept;
  },
  ap (λ (k : Settings Mapped (Option Lent) Place (Option Place)). k.device) stays.kept,
)
