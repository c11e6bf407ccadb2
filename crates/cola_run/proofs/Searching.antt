-- That searches of the runs of a store meet the trait.
use Rattle.std.proofs.Common.{◌≡◌, ◌≢◌, inl, inr, ℕ, ◌+◌, ◌-◌, ◌%◌, ◌^◌, ◌<◌, ◌≤◌, Bool, true, false, List, [], None, Option, Result, Ok, Err, refl, sym, subst, ◌∙◌, arith}
use Rattle.std.specs.Result.{result_unwrap_or}
use Rattle.std.proofs.lemmas.Bool.{cases_lt, true≢false}
use Rattle.cola_cell.specs.declared.cell.Cell.{Cell}
use Rattle.cola_cell.specs.declared.cell.Cell.TheVariants as cell
use Rattle.cola_cell.specs.declared.fault.ReadFault.{ReadFault}
use Rattle.cola_cell.specs.declared.fault.ReadFault.TheVariants.{Device, BadCell}
use Rattle.cola_cell.specs.declared.format.Format.{Format}
use Rattle.cola_cell.specs.declared.windows.Reach.{Reach}
use Rattle.cola_cell.specs.Decoded.{standing}
use Rattle.cola_cell.specs.Held.{Spot, Tells}
use Rattle.cola_cell.specs.Places.{IsPlace, number_of}
use Rattle.cola_cell.specs.Reads.{Reads}
use Rattle.cola_cell.specs.Spelling.{IsNoSpelling, IsSpelling}
use Rattle.cola_cell.specs.Spent.{Search, Ticks, ReadAnswers}
use Rattle.cola_cell.specs.Windows.{AreSpelled, IsRunIn, Scans, cell_bytes_at}
use Rattle.cola_cell.proofs.DecodedLemmas.{spot_told, spot_bad, standing-is}
use Rattle.cola_cache.specs.Blocks.{Blocks}
use Rattle.cola_device.specs.declared.counts.Counts.{Counts}
use Rattle.cola_front.specs.Front.{FrontCells}
use Rattle.cola_layout.specs.declared.geometry.Geometry.{Geometry}
use Rattle.cola_run.specs.Cells.{IsOnDevice}
use Rattle.cola_run.specs.Store.{Store, IsStore, held_of, state_of}
use Rattle.cola_run.specs.Weaving.{HasWindow, ScansBelow, ScansThere, SearchTurns, as_read, is_at_hand}
use Rattle.cola_run.proofs.Reading.{reads-memory, reads-turned}
use Rattle.cola_run.proofs.Shown.{found_shown, first_shown}

-- the first cell of a window, by its bytes
first_bytes : (f : Format) (bytes : List ℕ) → ((AreSpelled f 1 bytes → ⊥) → IsNoSpelling f (cell_bytes_at f 0 bytes))
first_bytes f bytes none = λ cell s.
    let b = cell_bytes_at f 0 bytes in
    let there : IsSpelling f (standing f b) b = subst (λ (c : Cell). IsSpelling f c b) (sym (standing-is f cell b s)) s in
    none (λ k h. let z : 0 ≡ k = omega (arith, h) in subst (λ (n : ℕ). IsSpelling f (standing f (cell_bytes_at f n bytes)) (cell_bytes_at f n bytes)) z there)

-- a search of cells that can be looked at does not meet the device's fault
pub not-device : {S P : Type 0} (sought : S → S → P → Format → List ℕ → ℕ → Type 0) (lends : Bool) (told : Option (List ℕ)) (geometry : Geometry) (front : FrontCells) (reach : Reach)
    (before after : S) (probe : P) (cell : Cell) (result : Result ℕ ReadFault) → ScansThere sought lends told geometry front reach before after probe result → as_read cell result ≢ Err Device
not-device sought lends told geometry front reach before after probe cell (Ok ticks) s = λ d. cc
not-device sought lends told geometry front reach before after probe cell (Err Device) s = absurd s
not-device sought lends told geometry front reach before after probe cell (Err (BadCell number)) s = λ d. cc

module _ {D S P : Type 0} (bytes : D → Option (List ℕ)) (counts : D → Counts) (store : Store D) (now : Blocks D) (lends : Bool) (reach : Reach)
    (sought : S → S → P → Format → List ℕ → ℕ → Type 0) (before after : S) (probe : P)
    (sound : IsStore (bytes store.buffers.cache.device) store) (run : IsRunIn (held_of bytes store) reach) (hand : is_at_hand store.geometry store.shadows reach ≡ true)
    (told_stays : bytes now.cache.device ≡ bytes store.buffers.cache.device) where
  -- what a read of the first cell answers, whatever the count of faults is
  abbrev Says : Result Cell ReadFault → Type 0
  Says answer = (faults later : ℕ) → ReadAnswers (held_of bytes store) faults later reach.run.level reach.run.slot reach.from answer

  abbrev Has : Type 0
  Has = HasWindow lends store.geometry store.buffers.lasts None reach

  -- it reads the first cell
  reads-first : (answer : Result Cell ReadFault) (ticked : ℕ) → Ticks store.ticked ticked 1 → SearchTurns counts lends store.geometry store.buffers now reach answer →
      (Has → (now ≡ store.buffers) × (answer ≢ Err Device)) → (answer ≢ Err Device → Says answer) →
      Reads (state_of bytes counts store) (state_of bytes counts (record store { buffers = now; ticked = ticked })) Search reach.run.level reach.run.slot reach.from answer
  reads-first answer ticked ticks turns calm says = elim (cases_lt (reach.run.level + 2) store.geometry.block_exp) [
    | inl low ↦ in-memory (λ _ high _. absurd (omega (arith, low, high)))
    | inr high ↦ by-lends high lends refl
  ]
    where
      in-memory : Has → Reads (state_of bytes counts store) (state_of bytes counts (record store { buffers = now; ticked = ticked })) Search reach.run.level reach.run.slot reach.from answer
      in-memory has =
          let still = calm has in
          let faults = (counts store.buffers.cache.device).faults in
          subst (λ (b : Blocks D). Reads (state_of bytes counts store) (state_of bytes counts (record store { buffers = b; ticked = ticked })) Search reach.run.level reach.run.slot reach.from answer) (sym still.0)
          (reads-memory (state_of bytes counts store) ticked Search reach.run.level reach.run.slot reach.from answer ticks (says still.1 faults faults))

      on-device : (high : store.geometry.block_exp ≤ reach.run.level + 2) (e : lends ≡ false) (r : Result Cell ReadFault) → answer ≡ r →
          ReadAnswers (held_of bytes store) (counts store.buffers.cache.device).faults (counts now.cache.device).faults reach.run.level reach.run.slot reach.from r
      on-device high e (Ok cell) same = subst Says same (says (λ d. let x : Ok cell ≡ Err Device = sym same ∙ d in cc)) (counts store.buffers.cache.device).faults (counts now.cache.device).faults
      on-device high e (Err (BadCell number)) same = subst Says same (says (λ d. let x : Err (BadCell number) ≡ Err Device = sym same ∙ d in cc)) (counts store.buffers.cache.device).faults (counts now.cache.device).faults
      on-device high e (Err Device) same =
          (subst (λ (x : Result Cell ReadFault). SearchTurns counts lends store.geometry store.buffers now reach x) same turns high e).cause

      by-lends : store.geometry.block_exp ≤ reach.run.level + 2 → (b : Bool) → lends ≡ b →
          Reads (state_of bytes counts store) (state_of bytes counts (record store { buffers = now; ticked = ticked })) Search reach.run.level reach.run.slot reach.from answer
      by-lends high true e = in-memory (λ _ _ d. absurd (true≢false (sym e ∙ d)))
      by-lends high false e =
          let level = run.level_in in
          let some = run.some in
          let within = run.within in
          let place : IsPlace (store.geometry.bottom + 1) reach.run.level reach.run.slot reach.from = record { level_in = level; slot_in = run.slot_in; index_in = omega (arith, some, within) } in
          let device : IsOnDevice store.geometry reach.run.level = record { within = omega (arith, level); whole = high } in
          reads-turned bytes counts store now ticked None reach.run.level reach.run.slot reach.from answer sound.cells.shape.block sound.buffers_many place device
          (on-device high e answer refl) (turns high e) told_stays ticks

  -- what the bytes of the first cell say
  says-given : {ticks : ℕ} (ran : ScansBelow sought lends (bytes store.buffers.cache.device) store.geometry store.front reach before after probe ticks) → 0 < ticks →
      Says (Ok (standing store.geometry.format (cell_bytes_at store.geometry.format 0 ran.bytes)))
  says-given ran some = λ faults later.
      let f = store.geometry.format in
      let first = cell_bytes_at f 0 ran.bytes in
      let s = ran.spelled 0 some in
      record {
        told = subst (λ (x : Spot). Tells ((held_of bytes store).spots reach.run.level reach.run.slot reach.from) x) (spot_told f (standing f first) first s)
            (first_shown bytes store lends reach ran.bytes ran.is_last sound ran.found run hand);
        fits = s.fits;
      }

  says-bad : (number : ℕ) → ScansBelow sought lends (bytes store.buffers.cache.device) store.geometry store.front reach before after probe 0 →
      number ≡ number_of reach.run.level reach.run.slot reach.from → Says (Err (BadCell number))
  says-bad number ran e = λ faults later.
      let f = store.geometry.format in
      let none = first_bytes f ran.bytes (λ h. let l = ran.first h in omega (arith, l)) in
      record {
        told = subst (λ (x : Spot). Tells ((held_of bytes store).spots reach.run.level reach.run.slot reach.from) x) (spot_bad f (cell_bytes_at f 0 ran.bytes) none)
            (first_shown bytes store lends reach ran.bytes ran.is_last sound ran.found run hand);
        number_is = e;
      }

  -- the search in all, by what it answers
  pub scans-all : (answer : Result ℕ ReadFault) (ticks from to : ℕ) → ticks ≡ result_unwrap_or answer 1 →
      (answer ≢ Err Device → ScansThere sought lends (bytes store.buffers.cache.device) store.geometry store.front reach before after probe answer) →
      ((cell : Cell) → SearchTurns counts lends store.geometry store.buffers now reach (as_read cell answer)) → (Has → (now ≡ store.buffers) × (answer ≢ Err Device)) → to ≡ from + ticks →
      Scans sought (state_of bytes counts store) (state_of bytes counts (record store { buffers = now; ticked = (store.ticked + ticks) % 2 ^ 64 })) reach before after probe from to answer
  scans-all (Ok accessed) ticks from to e there turns calm steps =
      let ran = there (λ d. cc) in
      let cell = standing store.geometry.format (cell_bytes_at store.geometry.format 0 ran.0.bytes) in
      inr (record {
        bytes = ran.0.bytes;
        is_last = ran.0.is_last;
        shown = found_shown bytes store lends reach ran.0.bytes ran.0.is_last sound ran.0.found (λ _. run) hand;
        sought_is = ran.0.sought_is;
        mid = state_of bytes counts (record store { buffers = now; ticked = store.ticked + 1 });
        first = reads-first (Ok cell) (store.ticked + 1) (omega arith) (turns cell) (λ has. ((calm has).0, λ d. cc)) (λ _. says-given ran.0 ran.1);
        held_is = refl;
        more = accessed - 1;
        ticks_are = omega (arith, ran.1);
        others = record {
          steps_are = omega (arith, ran.1, e, steps);
          ticked_are = omega (arith, ran.1, e);
          faults_are = refl;
          turned_is = refl;
          written_is = refl;
          lasts_are = λ _. refl;
        };
      })
  scans-all (Err Device) ticks from to e there turns calm steps =
      (reads-first (Err Device) ((store.ticked + ticks) % 2 ^ 64) (omega (arith, e)) (turns (cell.Look [] 0)) (λ has. absurd ((calm has).1 refl)) (λ d. absurd (d refl)), omega (arith, e, steps))
  scans-all (Err (BadCell number)) ticks from to e there turns calm steps =
      let ran = there (λ d. cc) in
      (reads-first (Err (BadCell number)) ((store.ticked + ticks) % 2 ^ 64) (omega (arith, e)) (turns (cell.Look [] 0)) (λ has. ((calm has).0, λ d. cc)) (λ _. says-bad number ran.0 ran.1), omega (arith, e, steps))
