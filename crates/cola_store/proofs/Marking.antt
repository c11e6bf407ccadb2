-- What opening the file of a store answers, and what it leaves of its bytes, its map and its counts.
use Rattle.std.proofs.Common.{◌≡◌, ◌∙◌, ℕ, suc, ◌+◌, ◌≤◌, true, List, [], ◌∷◌, ◌++◌, length, take, Option, Some, None, Result, Ok, ap, subst, arith, inl, inr, Err, sym}
use Rattle.std.proofs.lemmas.List.{drop-drop, length-map}
use Rattle.std.specs.Prelude.{IfSome}
use Rattle.cola_outside.specs.Told.{Both}
use Rattle.cola_outside.specs.Faults.{Rose}
use Rattle.cola_cell.specs.declared.sink.Shadow.{Shadow}
use Rattle.cola_cell.specs.Held.{Held, Spots, Fixed}
use Rattle.cola_cell.specs.declared.fault.ReadFault.{ReadFault}
use Rattle.cola_device.specs.Bytes.{splice, Wrote, HasRange}
use Rattle.cola_device.specs.declared.device.DeviceFault.{DeviceFault}
use Rattle.cola_device.specs.declared.device.Device as device
use Rattle.cola_device.specs.Counts.{Called}
use Rattle.cola_layout.specs.declared.header.Header.{Header}
use Rattle.cola_layout.specs.Fields.{fields_of}
use Rattle.cola_layout.specs.Header.{Fields, IsSpelling}
use Rattle.cola_layout.specs.Marks.{all_numbers, numbers_of}
use Rattle.cola_layout.proofs.Refusing.{spelling-one}
use Rattle.cola_layout.specs.declared.geometry.Geometry.{Geometry}
use Rattle.cola_opening.specs.Counted.{Spends}
use Rattle.cola_opening.specs.Judged.{IsSeen}
use Rattle.cola_opening.proofs.Spending.{called-spends, spends-then}
use Rattle.cola_spec.specs.Map.{Map}
use Rattle.cola_layout.specs.Cells.{file_spots}
use Rattle.cola_image.specs.Standing.{HeaderStandsFor, FileStandsFor, with_state}
use Rattle.cola_image.proofs.StandingLemmas.{stand-alike}
use Rattle.cola_run.specs.Saving.{AreFileSpots, header_shadow, AreFrontRunsSpelled, IsLowestBad, LoadSpends}
use Rattle.cola_run.specs.Cells.{file_bytes}
use Rattle.cola_run.specs.Store.{Store, held_of, new_store}
use Rattle.cola_chain.proofs.Headers.{alike-places}
use Rattle.cola_store.specs.Runs.{StoreStandsFor}
use Rattle.cola_store.specs.declared.fault.OpenFault.{OpenFault}
use Rattle.cola_store.specs.declared.fault.OpenFault.TheVariants.{NotStore, NotClosed, Small, Device, OutOfMemory, BadCell}
use Rattle.cola_store.specs.Open.{WasClosed, IsReady, HasBadCell, IsOpened, Opens, IsMarked, LoadsAndMarks, FindsClosed}

splice-state : (state : ℕ) (bytes : List ℕ) → splice bytes 14 (state ∷ []) ≡ with_state state bytes
splice-state state bytes = ap (λ (xs : List ℕ). take 14 bytes ++ (state ∷ xs)) (drop-drop 1 14 bytes)

-- the state byte was written
pub marked : {T : Type 0} (E : Type 0) (value : T) (before now : Option (List ℕ)) → Wrote {T = T} {E = E} (Ok value) 14 (1 ∷ []) before now → Both before now (λ old new. new ≡ with_state 1 old)
marked E value None None wrote = tt
marked E value None (Some now) wrote = absurd wrote
marked E value (Some before) None wrote = absurd wrote
marked E value (Some before) (Some now) wrote = wrote.others_stay ∙ ap (splice before 14) wrote.exact ∙ splice-state 1 before

none-is-one : ◌≡◌ {A = ℕ} 0 1 → ⊥
none-is-one e = omega (arith, e)

two-is-one : (n : ℕ) → suc (suc n) ≡ 1 → ⊥
two-is-one n e = omega (arith, e)

one-state : (left before now : List ℕ) → length left ≡ 1 → now ≡ splice before 14 left → (state : ℕ) × (now ≡ with_state state before)
one-state [] before now many is = absurd (none-is-one many)
one-state (state ∷ []) before now many is = (state, is ∙ splice-state state before)
one-state (state ∷ other ∷ more) before now many is = absurd (two-is-one (length more) many)

-- it was to be written
pub left-state : {T E : Type 0} (result : Result T E) (before now : Option (List ℕ)) → Wrote result 14 (1 ∷ []) before now → Both before now (λ old new. (state : ℕ) × (new ≡ with_state state old))
left-state result None None wrote = tt
left-state result None (Some now) wrote = absurd wrote
left-state result (Some before) None wrote = absurd wrote
left-state result (Some before) (Some now) wrote = one-state wrote.left before now wrote.as_many wrote.others_stay

-- a store with the cells of a file and the shadows of its header stands for the map that the file stands for
pub stands : (header : Header) (held : Held) (bytes : List ℕ) (m : Map) → IsSpelling (fields_of header) (take 512 bytes) → AreFileSpots header.geometry held.spots bytes →
    ((level : ℕ) → level ≤ header.geometry.bottom → held.shadows level ≡ header_shadow header level) → FileStandsFor bytes m → StoreStandsFor header held m
stands header held bytes m spelled spots shadows (other, file) =
    let mine : HeaderStandsFor (fields_of header) bytes m =
    subst (λ (f : Fields). HeaderStandsFor f bytes m) (spelling-one other (fields_of header) (take 512 bytes) file.spelled spelled) file in
    let many : length (all_numbers header.levels.items) ≡ header.geometry.bottom + 1 = length-map header.levels.items numbers_of ∙ header.one_each in
    record {
      counted = mine.counted;
      numbered = mine.numbered;
      is_map = mine.is_map;
      levels = stand-alike header.geometry.keys header.clock (all_numbers header.levels.items) (file_spots header.geometry.format bytes) held.spots m
          (alike-places (header.geometry.bottom + 1) (file_spots header.geometry.format bytes) held.spots header.clock 0 0 (all_numbers header.levels.items) header.marks_fit (omega (arith, many)) spots) mine.levels;
      shadows = record { slots = λ level within. ap (λ (s : Shadow). s.slot) (shadows level within); lens = λ level within. ap (λ (s : Shadow). s.len) (shadows level within) };
    }

-- spots that are alike are those of the same file
alike-spots : (geometry : Geometry) (told : Option (List ℕ)) (spots others : Spots) → ((level slot index : ℕ) → others level slot index ≡ spots level slot index) → IfSome told (AreFileSpots geometry spots) → IfSome told (AreFileSpots geometry others)
alike-spots geometry None spots others same are = tt
alike-spots geometry (Some bytes) spots others same are = λ level slot index place. same level slot index ∙ are level slot index place

module _ {D : Type 0} (d : device.Ghosts D) (header : Header) (before mid now : Store D) where
  reads-are : header.geometry ≡ before.geometry → header.geometry.bottom + 3 ≡ before.geometry.bottom + 3
  reads-are same = ap (λ (g : Geometry). g.bottom + 3) same

  pub load-spends : (result : Result (Unit {0}) ReadFault) → header.geometry ≡ before.geometry → LoadSpends (d.counts before.buffers.cache.device) (d.counts mid.buffers.cache.device) (before.geometry.bottom + 3) result
      → Spends (d.counts before.buffers.cache.device) (d.counts mid.buffers.cache.device) (header.geometry.bottom + 3) 0 0
  load-spends result same spends =
      let e = reads-are same in
      record {
        faults_stay = spends.faults_stay;
        reads_stay = spends.reads_stay;
        reads_rise = omega (arith, e, spends.reads_rise);
        writes_stay = omega (arith, spends.writes_is);
        writes_rise = omega (arith, spends.writes_is);
        others_stay = omega (arith, spends.others_are);
        others_rise = omega (arith, spends.others_are);
      }

  pub both-spend : (result : Result (Unit {0}) ReadFault) (marking : Result (Unit {0}) DeviceFault) → header.geometry ≡ before.geometry → LoadSpends (d.counts before.buffers.cache.device) (d.counts mid.buffers.cache.device) (before.geometry.bottom + 3) result
      → Called (d.counts mid.buffers.cache.device) (d.counts now.buffers.cache.device) 0 1 1 marking
      → Spends (d.counts before.buffers.cache.device) (d.counts now.buffers.cache.device) (header.geometry.bottom + 3) 1 1
  both-spend result marking same spends called = spends-then (load-spends result same spends) (called-spends called) (omega arith) (omega arith) (omega arith)

  pub marked-spots : IfSome (d.bytes before.buffers.cache.device) (AreFileSpots header.geometry (held_of d.bytes mid).spots)
      → ((level slot index : ℕ) → (held_of d.bytes now).spots level slot index ≡ (held_of d.bytes mid).spots level slot index)
      → IfSome (d.bytes before.buffers.cache.device) (AreFileSpots header.geometry (held_of d.bytes now).spots)
  marked-spots are same = alike-spots header.geometry (d.bytes before.buffers.cache.device) (held_of d.bytes mid).spots (held_of d.bytes now).spots same are

-- what a header is of a file that is told, and what its cells stand for
ready : (header : Header) (told : Option (List ℕ)) → IfSome told (WasClosed header) → IfSome told (λ bytes. AreFrontRunsSpelled header (file_spots header.geometry.format bytes)) → IfSome told (IsReady header)
ready header None was spelled = tt
ready header (Some bytes) was spelled = record { was = was; spelled = spelled }

bad : (header : Header) (number : ℕ) (told : Option (List ℕ)) → IfSome told (WasClosed header) → IfSome told (λ bytes. IsLowestBad header (file_spots header.geometry.format bytes) number) → IfSome told (HasBadCell header number)
bad header number None was is = tt
bad header number (Some bytes) was is = record { was = was; bad = is }

stand : (header : Header) (held : Held) (told : Option (List ℕ)) → IfSome told (WasClosed header) → IfSome told (AreFileSpots header.geometry held.spots) → ((level : ℕ) → level ≤ header.geometry.bottom → held.shadows level ≡ header_shadow header level)
    → IfSome told (λ bytes. (m : Map) → FileStandsFor bytes m → StoreStandsFor header held m)
stand header held None was spots shadows = tt
stand header held (Some bytes) was spots shadows = λ m file. stands header held bytes m was.has.spelled spots shadows file

module _ {D : Type 0} (d : device.Ghosts D) (cache : ℕ) (before first : D) (header : Header) (found : IsSeen d before (WasClosed header) 1 1 first) where
  pub opens : (store : Store D) → header.closed ≡ true → IsMarked d header (new_store first (d.counts first) header.geometry cache) store → IsOpened d before cache store header
  opens store closed m =
      let told : Option (List ℕ) = d.bytes before in
      let spots : IfSome told (AreFileSpots header.geometry (held_of d.bytes store).spots) = subst (λ (t : Option (List ℕ)). IfSome t (AreFileSpots header.geometry (held_of d.bytes store).spots)) found.bytes_stay m.spots in
      let reads = ap (λ (f : Fixed). f.made.reads) m.made in
      let faults = ap (λ (f : Fixed). f.made.faults) m.made in
      record {
        was = ready header told found.why_is (subst (λ (t : Option (List ℕ)). IfSome t (λ bytes. AreFrontRunsSpelled header (file_spots header.geometry.format bytes))) found.bytes_stay m.spelled);
        closed = closed;
        marked = subst (λ (t : Option (List ℕ)). Both t (d.bytes store.buffers.cache.device) (λ old new. new ≡ with_state 1 old)) found.bytes_stay m.marked;
        settled = m.settled;
        geometry = m.geometry;
        loaded = record { spots = spots; shadows = m.shadows };
        stands = stand header (held_of d.bytes store) told found.why_is spots m.shadows;
        blocks = m.blocks;
        made = record { reads_stay = omega (arith, reads, found.spends.reads_stay); reads_rise = omega (arith, reads, found.spends.reads_rise); no_fault = faults ∙ found.no_fault };
        no_ticks = m.ticks;
        spends = spends-then found.spends m.spends (omega arith) (omega arith) (omega arith);
        no_fault = m.no_fault ∙ found.no_fault;
      }

  more : (now : D) (writes others : ℕ) → Spends (d.counts first) (d.counts now) (header.geometry.bottom + 3) writes others → Spends (d.counts before) (d.counts now) (header.geometry.bottom + 4) writes (1 + others)
  more now writes others spends = spends-then found.spends spends (omega arith) (omega arith) (omega arith)

  pub refuses : (store : Store D) (fault : OpenFault) → LoadsAndMarks d header (new_store first (d.counts first) header.geometry cache) store (Err fault) → Opens d before cache (Err (store.buffers.cache.device, fault))
  refuses store NotStore is = absurd is
  refuses store NotClosed is = absurd is
  refuses store Small is = absurd is
  refuses store OutOfMemory is = absurd is
  refuses store Device (rose, inl reading) = record {
    cause = subst (λ (n : ℕ). Rose n (d.counts store.buffers.cache.device).faults) found.no_fault rose;
    at = inr (inl (record { header = header; was = found.why_is; bytes_stay = reading.bytes_stay ∙ found.bytes_stay; spends = more store.buffers.cache.device 0 0 reading.spends }));
  }
  refuses store Device (rose, inr marking) = record {
    cause = subst (λ (n : ℕ). Rose n (d.counts store.buffers.cache.device).faults) found.no_fault rose;
    at = inr (inr (record {
      header = header;
      was = ready header (d.bytes before) found.why_is (subst (λ (t : Option (List ℕ)). IfSome t (λ bytes. AreFrontRunsSpelled header (file_spots header.geometry.format bytes))) found.bytes_stay marking.spelled);
      left = subst (λ (t : Option (List ℕ)). Both t (d.bytes store.buffers.cache.device) (λ old new. (state : ℕ) × (new ≡ with_state state old))) found.bytes_stay marking.left;
      spends = more store.buffers.cache.device 1 1 marking.spends;
    }));
  }
  refuses store (BadCell number) is = (
    header,
    record {
      why_is = bad header number (d.bytes before) found.why_is (subst (λ (t : Option (List ℕ)). IfSome t (λ bytes. IsLowestBad header (file_spots header.geometry.format bytes) number)) found.bytes_stay is.why_is);
      bytes_stay = is.bytes_stay ∙ found.bytes_stay;
      spends = more store.buffers.cache.device 0 0 is.spends;
      no_fault = is.no_fault ∙ found.no_fault;
    },
  )

-- where the header was not found
pub not-found : {D : Type 0} (d : device.Ghosts D) (cache : ℕ) (before now : D) (fault : OpenFault) → FindsClosed d before now (Err fault) → Opens d before cache (Err (now, fault))
not-found d cache before now NotStore is = is
not-found d cache before now NotClosed is = is
not-found d cache before now Small is = is
not-found d cache before now Device (rose, at) = record { cause = rose; at = inl at }
not-found d cache before now OutOfMemory is = absurd is
not-found d cache before now (BadCell number) is = absurd is

pub inside : (header : Header) (told : Option (List ℕ)) → IfSome told (WasClosed header) → HasRange told 0 (file_bytes header.geometry)
inside header None was = tt
inside header (Some bytes) was = omega (arith, was.has.whole)

some-header : (header : Header) (told : Option (List ℕ)) → IfSome told (WasClosed header) → IfSome told (λ bytes. (other : Header) × WasClosed other bytes)
some-header header None was = tt
some-header header (Some bytes) was = (header, was)

-- where memory is wanting
pub no-memory : {D : Type 0} (d : device.Ghosts D) (before now left : D) (header : Header) → left ≡ now → IsSeen d before (WasClosed header) 1 1 now → IsSeen d before (λ bytes. (other : Header) × WasClosed other bytes) 1 1 left
no-memory {D} d before now left header same found =
    subst (λ (x : D). IsSeen d before (λ bytes. (other : Header) × WasClosed other bytes) 1 1 x) (sym same)
    (record { why_is = some-header header (d.bytes before) found.why_is; bytes_stay = found.bytes_stay; spends = found.spends; no_fault = found.no_fault })
