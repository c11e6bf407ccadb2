-- What a get and a stamp read of a file that stands for a map.
use Rattle.std.proofs.Common.{◌≡◌, ℕ, ◌+◌, ◌≤◌, List, Option, Result, ap, subst, arith}
use Rattle.cola_cell.specs.declared.cell.Item.{Item}
use Rattle.cola_cell.specs.declared.fault.ReadFault.{ReadFault}
use Rattle.cola_device.specs.declared.device.Device as device
use Rattle.cola_spec.specs.Machine as machine
use Rattle.cola_spec.specs.Machine.{State}
use Rattle.cola_spec.specs.Reply.{Reply}
use Rattle.cola_store.specs.Store.{Stored, spent_of, levels_of}
use Rattle.cola_store.specs.Calls.{OnlySearches}
use Rattle.cola_command.specs.declared.place.Place.{Place}
use Rattle.cola_command.specs.declared.place.Place.TheVariants as place
use Rattle.cola_command.specs.File.{Sizes, device_of, IsAt}

module _ {D : Type 0} (d : device.Ghosts D) where
  open-few : (sizes : Sizes) (store after : Stored D) (key : List ℕ) (says : Result (Option Item) ReadFault → Reply) (answer : Reply) (state : State) → IsAt d sizes (place.Open store) state → OnlySearches d.bytes d.counts store after key says answer
      → (spent_of d.counts after).turned ≤ (spent_of d.counts store).turned + (sizes.bottom + 1)
  open-few sizes store after key says answer (machine.Open m) (same, holds) asked =
      let few = (asked.searches.on_map m holds).turned_rises in
      let levels : levels_of store ≡ sizes.bottom + 1 = ap (λ (s : Sizes). s.bottom + 1) same in
      omega (arith, few, levels)
  open-few sizes store after key says answer (machine.Closing m) at asked = absurd at
  open-few sizes store after key says answer (machine.Closed m byte) at asked = absurd at

  -- a look-up of an open store that is at a state
  pub look-few : (sizes : Sizes) (old new : Place D d) (store after : Stored D) (key : List ℕ) (says : Result (Option Item) ReadFault → Reply) (answer : Reply) (state : State) → old ≡ place.Open store → new ≡ place.Open after → IsAt d sizes old state
      → OnlySearches d.bytes d.counts store after key says answer → (d.counts (device_of new)).reads ≤ (d.counts (device_of old)).reads + (sizes.bottom + 1)
  look-few sizes old new store after key says answer state was is at asked =
      let few = open-few sizes store after key says answer state (subst (λ (p : Place D d). IsAt d sizes p state) was at) asked in
      let before : (d.counts (device_of old)).reads ≡ (spent_of d.counts store).turned = ap (λ (p : Place D d). (d.counts (device_of p)).reads) was in
      let then : (d.counts (device_of new)).reads ≡ (spent_of d.counts after).turned = ap (λ (p : Place D d). (d.counts (device_of p)).reads) is in
      omega (arith, few, before, then)
