-- What closing a store leaves of its file, and what a refusal keeps.
use Rattle.std.proofs.Common.{◌≡◌, ◌≢◌, ◌⊎◌, ◌∙◌, inl, inr, ℕ, suc, ◌+◌, ◌-◌, ◌*◌, ◌<◌, ◌≤◌, List, [], ◌∷◌, ◌++◌, length, take, get_or, replicate, true, Option, Some, None, Result, refl, sym, ap, subst, arith}
use Rattle.std.specs.Prelude.{IfSome}
use Rattle.std.proofs.lemmas.List.{take-take, take_at}
use Rattle.cola_device.specs.declared.device.DeviceFault.{DeviceFault}
use Rattle.cola_device.specs.declared.device.Device as device
use Rattle.cola_device.specs.Counts.{Called}
use Rattle.cola_cell.specs.declared.format.Format.{Format}
use Rattle.cola_cell.specs.declared.format.Format.TheVariants.{One, Two}
use Rattle.cola_cell.specs.declared.sink.Shadow.{Shadow}
use Rattle.cola_cell.specs.Format.{width}
use Rattle.cola_cell.specs.Held.{Held, Spots}
use Rattle.cola_cell.specs.Places.{IsPlace}
use Rattle.cola_clock.specs.Clock.{visible_slot}
use Rattle.cola_clock.specs.Marks.{AreAllMarks}
use Rattle.cola_layout.specs.declared.geometry.Geometry.{Geometry}
use Rattle.cola_layout.specs.declared.header.Header.{Header}
use Rattle.cola_layout.specs.declared.marks.Marks.{Marks}
use Rattle.cola_layout.specs.Fields.{fields_of}
use Rattle.cola_layout.specs.Header.{IsSpelling}
use Rattle.cola_layout.specs.Marks.{all_numbers, no_marks}
use Rattle.cola_opening.specs.Counted.{Spends}
use Rattle.cola_opening.specs.Judged.{file_size}
use Rattle.cola_opening.proofs.Spending.{called-spends, spends-more}
use Rattle.cola_spec.specs.Map.{Map}
use Rattle.cola_layout.specs.Cells.{file_spots}
use Rattle.cola_image.specs.Standing.{AreRunsAlike}
use Rattle.cola_image.proofs.StandingLemmas.{stand-alike}
use Rattle.cola_run.specs.Store.{Store, IsStore}
use Rattle.cola_run.specs.Saving.{SameReads, IsFlushed}
use Rattle.cola_store.specs.Runs.{StoreStandsFor}
use Rattle.cola_store.specs.Close.{IsFileOf, closing_writes}
use Rattle.cola_chain.proofs.Headers.{slot-in}

-- a run is another than the shadow beside it
apart : (visible slot : ℕ) → slot ≡ 1 - visible → visible ≢ slot
apart visible slot is same = omega (arith, is, same)

-- cells that are alike where the store reads them are alike in each run
alike-read : (levels : ℕ) (spots others : Spots) (shadows : ℕ → Shadow) (t j above : ℕ) (items : List Marks) → AreAllMarks 0 t j above (all_numbers items) → j + length items ≤ levels →
    ((k : ℕ) → k < length items → (shadows (j + k)).slot ≡ 1 - visible_slot t (j + k)) → ((k : ℕ) → k < length items → (shadows (j + k)).len ≡ (get_or items k no_marks).shadow) →
    ((l s i : ℕ) → IsPlace levels l s i → (s ≢ (shadows l).slot) ⊎ (i < (shadows l).len) → others l s i ≡ spots l s i) → AreRunsAlike spots others t j (all_numbers items)
alike-read levels spots others shadows t j above [] marks within slots lens same = tt
alike-read levels spots others shadows t j above (m ∷ below) marks within slots lens same =
    let e : j + 0 ≡ j = omega arith in
    let slot : (shadows j).slot ≡ 1 - visible_slot t j = subst (λ (n : ℕ). (shadows n).slot ≡ 1 - visible_slot t n) e (slots 0 (omega arith)) in
    let len : (shadows j).len ≡ m.shadow = subst (λ (n : ℕ). (shadows n).len ≡ m.shadow) e (lens 0 (omega arith)) in (
      λ i h. same j (visible_slot t j) i (record { level_in = omega (arith, within); slot_in = slot-in t j; index_in = omega (arith, h, marks.0.visible_fits) }) (inl (apart (visible_slot t j) (shadows j).slot slot)),
      λ i h. same j (1 - visible_slot t j) i (record { level_in = omega (arith, within); slot_in = omega arith; index_in = omega (arith, h, marks.0.shadow_fits) }) (inr (omega (arith, h, len))),
      alike-read levels spots others shadows t (suc j) m.visible below marks.1 (omega (arith, within))
          (λ k h. let f : j + suc k ≡ suc j + k = omega arith in subst (λ (n : ℕ). (shadows n).slot ≡ 1 - visible_slot t n) f (slots (suc k) (omega (arith, h))))
          (λ k h. let f : j + suc k ≡ suc j + k = omega arith in subst (λ (n : ℕ). (shadows n).len ≡ (get_or below k no_marks).shadow) f (lens (suc k) (omega (arith, h))))
          same,
    )

module _ (header : Header) (old : Held) (m : Map) (stand : StoreStandsFor header old m) (others : Spots) where
  alike : ((l s i : ℕ) → IsPlace (header.geometry.bottom + 1) l s i → (s ≢ (old.shadows l).slot) ⊎ (i < (old.shadows l).len) → others l s i ≡ old.spots l s i) → AreRunsAlike old.spots others header.clock 0 (all_numbers header.levels.items)
  alike same =
      let many = header.one_each in
      alike-read (header.geometry.bottom + 1) old.spots others old.shadows header.clock 0 0 header.levels.items header.marks_fit (omega (arith, many))
      (λ k h. let e : k ≡ 0 + k = omega arith in subst (λ (n : ℕ). (old.shadows n).slot ≡ 1 - visible_slot header.clock n) e (stand.shadows.slots k (omega (arith, h, many)))) (λ k h. let e : k ≡ 0 + k = omega arith in subst (λ (n : ℕ). (old.shadows n).len ≡ (get_or header.levels.items k no_marks).shadow) e (stand.shadows.lens k (omega (arith, h, many)))) same

-- a store that reads as before stands for the same map
pub stands-still : (header : Header) (old new : Held) → SameReads old new → (m : Map) → StoreStandsFor header old m → StoreStandsFor header new m
stands-still header old new reads m stand = record {
  counted = stand.counted;
  numbered = stand.numbered;
  is_map = stand.is_map;
  levels = stand-alike header.geometry.keys header.clock (all_numbers header.levels.items) old.spots new.spots m (alike header old m stand new.spots (λ l s i place read. reads.spots_stay l s i read)) stand.levels;
  shadows = record { slots = λ l h. reads.slots_stay l ∙ stand.shadows.slots l h; lens = λ l h. reads.lens_stay l ∙ stand.shadows.lens l h };
}

wide : (format : Format) → 512 ≤ 8 * width format
wide One = omega arith
wide Two = omega arith

-- the first bytes of a file that was written with this header
first-bytes : (format : Format) (text bytes : List ℕ) → length text ≡ 512 → take (8 * width format) bytes ≡ text ++ replicate (8 * width format - 512) 0 → take 512 bytes ≡ text
first-bytes One text bytes long is = is ∙ append-none text
  where
    append-none : (xs : List ℕ) → xs ++ replicate 0 0 ≡ xs
    append-none [] = refl
    append-none (x ∷ xs) = ap (λ (ys : List ℕ). x ∷ ys) (append-none xs)
first-bytes Two text bytes long is = sym (take-take 512 1024 bytes (omega arith)) ∙ (ap (take 512) is ∙ take_at text (replicate 512 0) 512 long)

file-is : (header : Header) (old new : Held) (text bytes : List ℕ) → SameReads old new → IsSpelling (fields_of header) text → length text ≡ 512 → header.closed ≡ true → file_size header.geometry.format header.geometry.bottom ≤ length bytes
    → IsFlushed header.geometry text new.spots bytes → IsFileOf header old bytes
file-is header old new text bytes reads spelled long closed whole flushed =
    let first : take 512 bytes ≡ text = first-bytes header.geometry.format text bytes long flushed.header_is in
    let says : IsSpelling (fields_of header) (take 512 bytes) = subst (λ (xs : List ℕ). IsSpelling (fields_of header) xs) (sym first) spelled in
    let cells : (l s i : ℕ) → IsPlace (header.geometry.bottom + 1) l s i → (s ≢ (old.shadows l).slot) ⊎ (i < (old.shadows l).len) → file_spots header.geometry.format bytes l s i ≡ old.spots l s i =
    (λ l s i place read. sym (flushed.cells_are l s i place) ∙ reads.spots_stay l s i read) in
    record {
      has = record { spelled = says; whole = whole };
      cells = cells;
      stands = λ m stand. record {
        spelled = says;
        closed = closed;
        whole = whole;
        counted = stand.counted;
        numbered = stand.numbered;
        is_map = stand.is_map;
        levels = stand-alike header.geometry.keys header.clock (all_numbers header.levels.items) old.spots (file_spots header.geometry.format bytes) m (alike header old m stand (file_spots header.geometry.format bytes) cells) stand.levels;
      };
    }

pub told-file : (header : Header) (geometry : Geometry) (old new : Held) (text : List ℕ) (told : Option (List ℕ)) → header.geometry ≡ geometry → SameReads old new → IsSpelling (fields_of header) text → length text ≡ 512 → header.closed ≡ true
    → IfSome told (λ bytes. file_size geometry.format geometry.bottom ≤ length bytes) → IfSome told (IsFlushed geometry text new.spots) → IfSome told (IsFileOf header old)
told-file header geometry old new text None same reads spelled long closed whole flushed = tt
told-file header geometry old new text (Some bytes) same reads spelled long closed whole flushed =
    file-is header old new text bytes reads spelled long closed (subst (λ (g : Geometry). file_size g.format g.bottom ≤ length bytes) (sym same) whole)
    (subst (λ (g : Geometry). IsFlushed g text new.spots bytes) (sym same) flushed)

-- the device of a store has its whole file
pub whole-file : {D : Type 0} (told : Option (List ℕ)) (store : Store D) → IsStore told store → IfSome told (λ bytes. file_size store.geometry.format store.geometry.bottom ≤ length bytes)
whole-file None store sound = tt
whole-file (Some bytes) store sound = sound.cells.backed.long

pub closing-spends : {D : Type 0} (d : device.Ghosts D) (header : Header) (before now : Store D) (result : Result (Unit {0}) DeviceFault) → header.geometry ≡ before.geometry
    → Called (d.counts before.buffers.cache.device) (d.counts now.buffers.cache.device) 0 (before.geometry.bottom + 3) 2 result → Spends (d.counts before.buffers.cache.device) (d.counts now.buffers.cache.device) 0 (closing_writes header) 2
closing-spends d header before now result same called =
    let e = ap (λ (g : Geometry). g.bottom + 3) same in
    spends-more (called-spends called) (omega arith) (omega (arith, e)) (omega arith)
