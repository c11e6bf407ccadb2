use Rattle.std.proofs.Common.{◌≡◌, Option, Some, None, Result, ap, subst}
use Rattle.cola_device.specs.declared.device.Device as device
use Rattle.cola_io.specs.declared.sink.Sink as sink
use Rattle.cola_io.specs.declared.sink.SinkFault.{SinkFault}
use Rattle.cola_spec.specs.Command.{Command, Get, Del, Put, Range}
use Rattle.cola_spec.specs.Machine.{Turn}
use Rattle.cola_store.specs.Store.{Stored}
use Rattle.cola_store.specs.Table.{store_table}
use Rattle.cola_table.specs.Replies.{turn_of}
use Rattle.cola_command.specs.declared.file.Session.{Session}
use Rattle.cola_command.specs.declared.place.Place.{Place}
use Rattle.cola_command.specs.File.{table_in}
use Rattle.cola_session.specs.Home.{Asked, Point}
use Rattle.cola_command.specs.Turns.{file_home}
use Rattle.cola_command_laws.proofs.definition_laws.lines_have_causes.Goals as goal

-- what the table of an open place was asked
asked-in : {K D : Type 0} (d : device.Ghosts D) (k : sink.Ghosts K) (command : Command) (result : Result (Unit {0}) SinkFault) (old new : Point (Session D d) K) (turn : Turn) (table : Option (Stored D)) → table_in old.home.place ≡ table
    → Asked (store_table d) (file_home d) k (table_in old.home.place) command result old.home old.sink turn new.home new.sink → Asked (store_table d) (file_home d) k table command result old.home old.sink turn new.home new.sink
asked-in {K} {D} d k command result old new turn table is asked = subst (λ (x : Option (Stored D)). Asked (store_table d) (file_home d) k x command result old.home old.sink turn new.home new.sink) is asked

pub returns-clause-answered : goal.returns-clause-answered
returns-clause-answered g c = λ line result key answer ticks old new store is leads.
    asked-in g.D.Device g.K.Sink (Get key) result old new (turn_of (Get key) answer ticks) (Some store) (ap (λ (p : Place g.row.D.Denot g.D.Device). table_in p) is) leads.cause

pub returns-clause-deleted : goal.returns-clause-deleted
returns-clause-deleted g c = λ line result key answer ticks old new store is leads.
    asked-in g.D.Device g.K.Sink (Del key) result old new (turn_of (Del key) answer ticks) (Some store) (ap (λ (p : Place g.row.D.Denot g.D.Device). table_in p) is) leads.cause

pub returns-clause-put : goal.returns-clause-put
returns-clause-put g c = λ line result key value answer ticks old new store is leads.
    asked-in g.D.Device g.K.Sink (Put key value) result old new (turn_of (Put key value) answer ticks) (Some store) (ap (λ (p : Place g.row.D.Denot g.D.Device). table_in p) is) leads.cause

pub returns-clause-ranged : goal.returns-clause-ranged
returns-clause-ranged g c = λ line result low high answer ticks old new store is leads.
    asked-in g.D.Device g.K.Sink (Range low high) result old new (turn_of (Range low high) answer ticks) (Some store) (ap (λ (p : Place g.row.D.Denot g.D.Device). table_in p) is) leads.cause

pub returns-clause-shut : goal.returns-clause-shut
returns-clause-shut g c = λ line result key answer ticks old new none leads. asked-in g.D.Device g.K.Sink (Get key) result old new (turn_of (Get key) answer ticks) None none leads.cause

pub returns-clause-terms : goal.returns-clause-terms
returns-clause-terms g c = λ line result turns old new leads. (leads.keeps.cache_is, (leads.keeps.cost_is, leads.keeps.format_is))
