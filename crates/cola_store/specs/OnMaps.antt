-- What the puts and deletes of a store say: how each goes on from its search, and on a store that holds a map which map it holds then.
use Rattle.std.specs.Prelude.{◌≡◌, ℕ, ◌+◌, ◌%◌, ◌^◌, ◌≤◌, List, Option, Some, Result, Ok, MatchResult}
use Rattle.cola_laws.specs.Chain.{updated}
use Rattle.cola_cell.specs.declared.cell.Item.{Item}
use Rattle.cola_cell.specs.declared.fault.StepFault.{StepFault}
use Rattle.cola_cell.specs.Held.{as_item}
use Rattle.cola_cell.specs.Order.{key_cmp}
use Rattle.cola_device.specs.declared.device.Device as device
use Rattle.cola_spec.specs.Map as map
use Rattle.cola_spec.specs.Map.{Map, IsMap, value_of}
use Rattle.cola_image.specs.Standing.{found_in}
use Rattle.cola_table.specs.declared.Put.{Put}
use Rattle.cola_table.specs.declared.PutIf.{PutIf}
use Rattle.cola_table.specs.declared.PutFault.{PutFault}
use Rattle.cola_table.specs.Answers.{PutAnswers, PutIfAnswers, DeleteAnswers, OnlyDevice}
use Rattle.cola_table.specs.Replies.{put_reply, put_if_reply, delete_reply}
use Rattle.cola_store.specs.Store.{Stored, Holds, map_shape}
use Rattle.cola_store.specs.Calls.{FindsIn, PutFollows, PutIfFollows, DeleteFollows, Removes, SearchesFirst, with_ticks}

-- how many ticks were made between two counts of an object's, each modulo 2^64: those of the steps, which the object counts too, where they are at most 2^20
abbrev pub AreTicksBetween : (before now ticks : ℕ) → Type 0
AreTicksBetween before now ticks = (old new first last : ℕ) → before ≡ old % 2 ^ 64 → now ≡ new % 2 ^ 64 →
    (new + first) % 2 ^ 64 ≡ (old + last) % 2 ^ 64 → first ≤ last → last ≤ first + 2 ^ 20 → last ≡ first + ticks

module _ {D : Type 0} (d : device.Ghosts D) (old new : Stored D) (key : List ℕ) where
  -- Steps

  -- a step by which the key gets an item, with the count and the last number of the map that has it then: the store holds that map, and one that was refused holds the map that it held
  abbrev pub WritesOnMap : Item → (count last : ℕ) → Result (Unit {0}) StepFault → Type 0
  WritesOnMap item count last result = (m after : Map) → Holds d.bytes old m → IsMap (map_shape old) after →
      found_in after ≡ updated key_cmp key (as_item item) (found_in m) →
      count ≡ map.count after → last ≡ after.last →
      MatchResult result (λ _. Holds d.bytes new after) (λ fault. OnlyDevice fault × Holds d.bytes new m)

  -- Puts

  -- a put searches first, and then is refused or made
  abbrev pub PutSearches : List ℕ → Result Put PutFault → Type 0
  PutSearches value result = SearchesFirst d.bytes d.counts old new key
      (λ mid search. PutFollows d.bytes d.counts mid new key value search (put_reply (with_ticks result)))

  -- a put whose search found this is refused or made
  abbrev pub PutConcludes : List ℕ → Option Item → Result Put PutFault → Type 0
  PutConcludes value found result =
      PutFollows d.bytes d.counts old new key value (Ok found) (put_reply (with_ticks result))

  -- a put on a store that holds a map is answered as the map answers it, and leaves the map that this has then
  abbrev pub PutsOnMap : List ℕ → Result Put PutFault → Type 0
  PutsOnMap value result = (m : Map) → Holds d.bytes old m →
      PutAnswers (map_shape old) m key value (Holds d.bytes new) (with_ticks result)

  -- the same of a put whose search found what the map has of the key
  abbrev pub PutsFoundOnMap : List ℕ → Option Item → Result Put PutFault → Type 0
  PutsFoundOnMap value found result = (m : Map) → Holds d.bytes old m → FindsIn m key (Ok found) →
      PutAnswers (map_shape old) m key value (Holds d.bytes new) (with_ticks result)

  -- Puts that depend on the stamp seen

  -- such a put searches first, and then is refused or made
  abbrev pub PutIfSearches : ℕ → List ℕ → Result PutIf PutFault → Type 0
  PutIfSearches seen value result = SearchesFirst d.bytes d.counts old new key
      (λ mid search. PutIfFollows d.bytes d.counts mid new key seen value search (put_if_reply (with_ticks result)))

  -- such a put whose search found this is refused or made
  abbrev pub PutIfConcludes : ℕ → List ℕ → Option Item → Result PutIf PutFault → Type 0
  PutIfConcludes seen value found result =
      PutIfFollows d.bytes d.counts old new key seen value (Ok found) (put_if_reply (with_ticks result))

  -- such a put on a store that holds a map is answered as the map answers it, and leaves the map that this has then
  abbrev pub PutsIfOnMap : ℕ → List ℕ → Result PutIf PutFault → Type 0
  PutsIfOnMap seen value result = (m : Map) → Holds d.bytes old m →
      PutIfAnswers (map_shape old) m key seen value (Holds d.bytes new) (with_ticks result)

  -- the same of such a put whose search found what the map has of the key
  abbrev pub PutsIfFoundOnMap : ℕ → List ℕ → Option Item → Result PutIf PutFault → Type 0
  PutsIfFoundOnMap seen value found result = (m : Map) → Holds d.bytes old m → FindsIn m key (Ok found) →
      PutIfAnswers (map_shape old) m key seen value (Holds d.bytes new) (with_ticks result)

  -- Deletes

  -- a delete searches first, and then answers none or is made
  abbrev pub DeleteSearches : Result (Option (List ℕ)) StepFault → Type 0
  DeleteSearches result = SearchesFirst d.bytes d.counts old new key
      (λ mid search. DeleteFollows d.bytes d.counts mid new key search (delete_reply (with_ticks result)))

  -- a delete whose search found this answers none or is made
  abbrev pub DeleteConcludes : Option Item → Result (Option (List ℕ)) StepFault → Type 0
  DeleteConcludes found result =
      DeleteFollows d.bytes d.counts old new key (Ok found) (delete_reply (with_ticks result))

  -- a delete whose key has this value is made
  abbrev pub DeleteRemoves : List ℕ → Result (Option (List ℕ)) StepFault → Type 0
  DeleteRemoves value result =
      Removes d.bytes d.counts old new key (Some value) (delete_reply (with_ticks result))

  -- a delete on a store that holds a map answers the value that the map has, and leaves the map without the key
  abbrev pub DeletesOnMap : Result (Option (List ℕ)) StepFault → Type 0
  DeletesOnMap result = (m : Map) → Holds d.bytes old m →
      DeleteAnswers m key (Holds d.bytes new) (with_ticks result)

  -- the same of a delete whose search found what the map has of the key
  abbrev pub DeletesFoundOnMap : Option Item → Result (Option (List ℕ)) StepFault → Type 0
  DeletesFoundOnMap found result = (m : Map) → Holds d.bytes old m → FindsIn m key (Ok found) →
      DeleteAnswers m key (Holds d.bytes new) (with_ticks result)

  -- the same of a delete whose key has this value in the map
  abbrev pub RemovesOnMap : List ℕ → Result (Option (List ℕ)) StepFault → Type 0
  RemovesOnMap value result = (m : Map) → Holds d.bytes old m → value_of m key ≡ Some value →
      DeleteAnswers m key (Holds d.bytes new) (with_ticks result)
