use Rattle.std.proofs.Common.{◌≡◌, ◌≤◌, ℕ, false, Result, Ok, Err, refl, ap, sym, subst}
use Rattle.cola_laws.specs.Chain.{updated}
use Rattle.cola_laws.specs.Plain.{next_clock}
use Rattle.cola_cell.specs.declared.fault.StepFault.{StepFault}
use Rattle.cola_cell.specs.Format.{stamp_limit}
use Rattle.cola_cell.specs.Held.{as_item}
use Rattle.cola_cell.specs.Order.{key_cmp}
use Rattle.cola_spec.specs.Map as map
use Rattle.cola_spec.specs.Map.{Map, IsMap}
use Rattle.cola_table.specs.Answers.{OnlyDevice, StepFaults}
use Rattle.cola_image.specs.Standing.{found_in}
use Rattle.cola_mutation.specs.Standing.{KeepsVisible}
use Rattle.cola_run.specs.Store as run
use Rattle.cola_chain.specs.Contents as chain
use Rattle.cola_store.specs.declared.account.Account.{Account}
use Rattle.cola_store.specs.Store.{Stored, Holds, faults_of, map_shape, geometry_of}
use Rattle.cola_store.specs.Calls as calls
use Rattle.cola_store.specs.Walks.{WalksStay}
use Rattle.cola_store.proofs.Storing.{holds-after, refused-right, step-faults, stored-after, stored-still, walks-refused}
use Rattle.cola_store.proofs.store.Store.write.Goals as goal

pub invariant_of-self : goal.invariant_of-self
invariant_of-self g c =
    let s : Stored g.row.D.Denot = record { chain = c.self.inside.chain; count = c.self.inside.count; last = c.self.inside.last; account = c.self.inside.account } in
    stored-after g.D.Device.bytes g.D.Device.counts g.D.Device.kept s c.step.new.self c.self.invariant c.in-Ok.ensures.kept tt c.args.count c.args.last c.in-Ok.ensures.steps.many c.in-Ok.ensures.steps.fixed
    (subst (λ (x : Stored g.row.D.Denot). c.args.count ≤ (geometry_of x).keys) (sym c.self.view_is) c.requires.count_fits) (subst (λ (x : Stored g.row.D.Denot). c.args.last ≤ stamp_limit (geometry_of x).format) (sym c.self.view_is) c.requires.last_fits)
    c.in-Ok.ensures.steps.costs.written_stays c.in-Ok.ensures.steps.counts c.in-Ok.ensures.steps.paid

pub invariant_of-self-in-Err : goal.invariant_of-self-in-Err
invariant_of-self-in-Err g c =
    let s : Stored g.row.D.Denot = record { chain = c.self.inside.chain; count = c.self.inside.count; last = c.self.inside.last; account = c.self.inside.account } in
    stored-still g.D.Device.bytes g.D.Device.counts g.D.Device.kept s c.step.new.self c.self.invariant c.in-Err.ensures.kept c.in-Err.ensures.steps.many c.in-Err.ensures.steps.fixed

pub returns-in-Ok-clause-steps : goal.returns-in-Ok-clause-steps
returns-in-Ok-clause-steps g c =
    let now : Stored g.row.D.Denot = record { chain = c.step.new.self; count = c.args.count; last = c.args.last; account = c.self.inside.account } in
    let done : Result (Unit {0}) StepFault = Ok tt in
    subst (λ (x : Stored g.row.D.Denot). calls.Steps g.D.Device.bytes g.D.Device.counts x now c.args.key.now c.args.item.now c.args.count c.args.last done) c.self.view_is
    (record {
      by = record {
        clock_is = subst (λ (k : ℕ). c.step.new.self.clock ≡ next_clock k c.self.inside.chain.clock) c.self.invariant.many c.in-Ok.ensures.steps.clock;
        changes = c.in-Ok.ensures.steps.changes;
        takes = c.in-Ok.ensures.steps.takes;
        count_is = refl;
        last_is = refl;
        account_is = refl;
      };
      geometry_is = ap (λ (k : run.Kept _). k.geometry) c.in-Ok.ensures.kept;
      counts_step = c.in-Ok.ensures.steps.counts;
      turned_stays = c.in-Ok.ensures.steps.costs.turned_stays;
      written_stays = c.in-Ok.ensures.steps.costs.written_stays;
    })

pub returns-in-Ok-clause-right : goal.returns-in-Ok-clause-right
returns-in-Ok-clause-right g c =
    let s : Stored g.row.D.Denot = record { chain = c.self.inside.chain; count = c.self.inside.count; last = c.self.inside.last; account = c.self.inside.account } in
    let now : Stored g.row.D.Denot = record { chain = c.step.new.self; count = c.args.count; last = c.args.last; account = c.self.inside.account } in
    subst (λ (x : Stored g.row.D.Denot). (m after : Map) → Holds g.D.Device.bytes x m → IsMap (map_shape x) after → found_in after ≡ updated key_cmp c.args.key.now (as_item c.args.item.now) (found_in m) →
    c.args.count ≡ map.count after → c.args.last ≡ after.last → Holds g.D.Device.bytes now after) c.self.view_is
    (λ m after holds is_map found number last.
    holds-after g.D.Device.bytes g.D.Device.counts g.D.Device.kept s c.step.new.self c.self.invariant c.in-Ok.ensures.kept c.self.inside.account c.args.key.now c.args.item.now c.args.count c.args.last m after holds is_map found number last c.in-Ok.ensures.steps.changes)

pub returns-in-Err-clause-steps : goal.returns-in-Err-clause-steps
returns-in-Err-clause-steps g c =
    let account : Account = record { searches = c.self.inside.account.searches; opened = c.self.inside.account.opened; calm = false } in
    let now : Stored g.row.D.Denot = record { chain = c.step.new.self; count = c.self.inside.count; last = c.self.inside.last; account = account } in
    let refused : Result (Unit {0}) StepFault = Err c.in-Err.fault in
    subst (λ (x : Stored g.row.D.Denot). calls.Steps g.D.Device.bytes g.D.Device.counts x now c.args.key.now c.args.item.now c.args.count c.args.last refused) c.self.view_is
    (record {
      by = record {
        before = c.args.steps.now;
        steps = c.step.new.steps;
        cause = c.in-Err.ensures.steps.cause;
        clock_is = c.in-Err.ensures.steps.clock;
        progress = c.in-Err.ensures.steps.progress;
        visible = subst (λ (k : ℕ). KeepsVisible c.self.inside.chain.clock k (chain.held_of g.D.Device.bytes c.self.inside.chain) (chain.held_of g.D.Device.bytes c.step.new.self)) c.self.invariant.many c.in-Err.ensures.steps.visible;
        count_is = refl;
        last_is = refl;
        account_is = refl;
      };
      geometry_is = ap (λ (k : run.Kept _). k.geometry) c.in-Err.ensures.kept;
      counts_step = c.in-Err.ensures.steps.counts;
      turned_stays = c.in-Err.ensures.steps.costs.turned_stays;
      written_stays = c.in-Err.ensures.steps.costs.written_stays;
    })

pub returns-in-Err-clause-faults : goal.returns-in-Err-clause-faults
returns-in-Err-clause-faults g c =
    subst (λ (x : Stored g.row.D.Denot). StepFaults {A = Unit {0}} (Err c.in-Err.fault) (faults_of g.D.Device.counts x) (chain.spent_of g.D.Device.counts c.step.new.self).faults) c.self.view_is
    (step-faults (Unit {0}) c.in-Err.fault c.in-Err.ensures.steps.cause c.in-Err.ensures.steps.calm)

pub returns-in-Err-clause-right : goal.returns-in-Err-clause-right
returns-in-Err-clause-right g c =
    let s : Stored g.row.D.Denot = record { chain = c.self.inside.chain; count = c.self.inside.count; last = c.self.inside.last; account = c.self.inside.account } in
    let account : Account = record { searches = c.self.inside.account.searches; opened = c.self.inside.account.opened; calm = false } in
    let now : Stored g.row.D.Denot = record { chain = c.step.new.self; count = c.self.inside.count; last = c.self.inside.last; account = account } in
    subst (λ (x : Stored g.row.D.Denot). (m after : Map) → Holds g.D.Device.bytes x m → IsMap (map_shape x) after → found_in after ≡ updated key_cmp c.args.key.now (as_item c.args.item.now) (found_in m) →
    c.args.count ≡ map.count after → c.args.last ≡ after.last → OnlyDevice c.in-Err.fault × Holds g.D.Device.bytes now m) c.self.view_is
    (λ m after holds is_map found number last.
    refused-right g.D.Device.bytes g.D.Device.counts g.D.Device.kept s c.step.new.self c.self.invariant c.in-Err.ensures.kept account c.in-Err.fault m holds c.in-Err.ensures.steps.clock c.in-Err.ensures.steps.keeps c.in-Err.ensures.steps.only)

pub returns-in-Err-clause-walks : goal.returns-in-Err-clause-walks
returns-in-Err-clause-walks g c =
    let s : Stored g.row.D.Denot = record { chain = c.self.inside.chain; count = c.self.inside.count; last = c.self.inside.last; account = c.self.inside.account } in
    let account : Account = record { searches = c.self.inside.account.searches; opened = c.self.inside.account.opened; calm = false } in
    let now : Stored g.row.D.Denot = record { chain = c.step.new.self; count = c.self.inside.count; last = c.self.inside.last; account = account } in
    subst (λ (x : Stored g.row.D.Denot). WalksStay g.D.Device.bytes x now) c.self.view_is
    (walks-refused g.D.Device.bytes s c.step.new.self c.in-Err.ensures.steps.clock c.in-Err.ensures.steps.progress c.in-Err.ensures.steps.fixed c.in-Err.ensures.steps.visible account)
