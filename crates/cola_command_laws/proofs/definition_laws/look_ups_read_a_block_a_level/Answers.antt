use Rattle.std.proofs.Common.{Option, ap, subst}
use Rattle.cola_store.specs.Calls.{got, stamp_got}
use Rattle.cola_store.specs.Store.{Stored}
use Rattle.cola_store.specs.Table.{store_table}
use Rattle.cola_command.specs.declared.place.Place.{Place}
use Rattle.cola_command.specs.File.{table_in}
use Rattle.cola_session.specs.Home.{Asked}
use Rattle.cola_command.specs.Turns.{file_home}
use Rattle.cola_spec.specs.Command.{Get, Stamp}
use Rattle.cola_table.specs.Replies.{turn_of}
use Rattle.cola_command_laws.proofs.Looks.{look-few}
use Rattle.cola_command_laws.proofs.definition_laws.look_ups_read_a_block_a_level.Goals as goal

pub returns-clause-get : goal.returns-clause-get
returns-clause-get g c = λ sizes line result key answer ticks old new store is leads.
    let given = subst (λ (x : Option (Stored g.row.D.Denot)). Asked (store_table g.D.Device) (file_home g.D.Device) g.K.Sink x (Get key) result old.home old.sink (turn_of (Get key) answer ticks) new.home new.sink) (ap (λ (p : Place g.row.D.Denot g.D.Device). table_in p) is) leads.cause in
    look-few g.D.Device sizes old.home.place new.home.place store given.0 key got answer old.state is given.1.1 leads.stands.at given.1.0.0

pub returns-clause-stamp : goal.returns-clause-stamp
returns-clause-stamp g c = λ sizes line result key answer ticks old new store is leads.
    let given = subst (λ (x : Option (Stored g.row.D.Denot)). Asked (store_table g.D.Device) (file_home g.D.Device) g.K.Sink x (Stamp key) result old.home old.sink (turn_of (Stamp key) answer ticks) new.home new.sink) (ap (λ (p : Place g.row.D.Denot g.D.Device). table_in p) is) leads.cause in
    look-few g.D.Device sizes old.home.place new.home.place store given.0 key stamp_got answer old.state is given.1.1 leads.stands.at given.1.0.0
