-- The answer of a test by that of its cells, and by that of their load.
use Rattle.std.proofs.Common.{◌≡◌, ℕ, zero, suc, ◌+◌, ◌*◌, ◌^◌, ◌<◌, ◌≤◌, arith, subst, ap, ◌≢◌, inl, inr, min, ◌==◌, true, false, if◌then◌else◌, List, Option, None, Some, Result, Ok, Err, OnOk, is_some, refl, sym, ◌∙◌, IfSome}
use Rattle.std.proofs.Common.{true≢false}
use Rattle.cola_check.proofs.Common.{IfSome_then, Rose, number_of, slot_size, Cell, ReadFault, Held, Bad, IsTelling, is_untold, ReadCalm, State, IsTold, visible_slot, exponent-le, next_power, place-from, place-below, Geometry}
use Rattle.cola_check.proofs.Common.{Header, fields_of, number-at, Verdict, Broken, Tested, tested_of, IsOfRun, IsLowestBad, run_len, IsVerdict, test_ticks, IsLevelOf, IsSure, Judges, TestsAnswer, test_blocks, IsReadBy}
use Rattle.cola_check.proofs.Common.{ReadsCells, TestsMade, Checks, test_reads, run_ticks, Tests, CheckFault, tested_by}
use Rattle.cola_cell.specs.Decoded.{decoded}
use Rattle.cola_cell.specs.Flat.{spot_of}
use Rattle.cola_clock.specs.Marks.{Marks as LevelMarks}
use Rattle.cola_layout.specs.Cells.{cell_bytes, file_spots}
use Rattle.cola_opening.proofs.Spending.{spends-then}
use Rattle.cola_opening.specs.Judged.{IsSeen, IsClosedWith, IsClosedFile}
use Rattle.cola_verdict.specs.declared.verdict.Flaw.TheVariants.{Cell as CellFlaw}
use Rattle.cola_verdict.proofs.Alike.{same-verdicts}
use Rattle.cola_check.specs.declared.fault.CheckFault.TheVariants.{Device}
use Rattle.cola_check.proofs.BadRuns.{level-in, level-low, run-fits}
use Rattle.cola_device.specs.declared.device.Device as device
use Rattle.cola_cell.specs.declared.fault.ReadFault.TheVariants as read
use Rattle.cola_run.specs.Saving as run

-- ---- the level of a cell by its number: the two slots of level l have the numbers from 2 ^ (l + 3) on and below 2 ^ (l + 4)

most : (l s i : ℕ) → s < 2 → i < slot_size l → number_of l s i < 2 ^ suc (l + 3)
most l s i h k = subst (λ (n : ℕ). number_of l s i < 2 ^ n) (let e : l + 4 ≡ suc (l + 3) = omega arith in e) (place-below l s i (omega (arith, h)) k)

-- a level that is not behind the number's, and not before it
pub not-behind : (n level l s i : ℕ) → n ≡ number_of l s i → s < 2 → i < slot_size l → (0 < level → 2 ^ (level + 3) ≤ n) → level ≤ l
not-behind n zero l s i e h k reached = omega arith
not-behind n (suc level) l s i e h k reached =
    let up : number_of l s i < 2 ^ suc (l + 3) = most l s i h k in
    let low : 2 ^ (suc level + 3) ≤ n = reached (omega arith) in
    let le : suc level + 3 ≤ l + 3 = exponent-le (suc level + 3) (l + 3) (omega (arith, up, low, e)) in
    omega (arith, le)

pub not-before : (n level l s i : ℕ) → n ≡ number_of l s i → s < 2 → n < 2 ^ (level + 4) → l ≤ level
not-before n level l s i e h below =
    let low : 2 ^ (l + 3) ≤ number_of l s i = place-from l s i in
    let is : level + 4 ≡ suc (level + 3) = omega arith in
    let up : n < 2 ^ suc (level + 3) = subst (λ (k : ℕ). n < 2 ^ k) is below in
    let le : l + 3 ≤ level + 3 = exponent-le (l + 3) (level + 3) (omega (arith, up, low, e)) in
    omega (arith, le)

-- a lower number is not of a later level
pub not-later : (l s i level slot index : ℕ) → s < 2 → slot < 2 → index < slot_size level → number_of l s i < number_of level slot index → l ≤ level
not-later l s i level slot index h k within below =
    let low : 2 ^ (l + 3) ≤ number_of l s i = place-from l s i in
    let up : number_of level slot index < 2 ^ suc (level + 3) = most level slot index k within in
    let le : l + 3 ≤ level + 3 = exponent-le (l + 3) (level + 3) (omega (arith, low, up, below)) in
    omega (arith, le)

-- ---- the ticks of all tests

-- one for each cell of the runs, and those of the tests behind that
pub all-ticks : (cells b : ℕ) → cells ≤ 2 ^ (b + 4) → cells + run_ticks b ≤ test_ticks b
all-ticks cells b few =
    let d : 2 ^ (b + 2) ≡ 2 ^ (b + 1) + 2 ^ (b + 1) = next_power (b + 1) (b + 2) (omega arith) in
    let e : 2 ^ (b + 3) ≡ 2 ^ (b + 2) + 2 ^ (b + 2) = next_power (b + 2) (b + 3) (omega arith) in
    let f : 2 ^ (b + 4) ≡ 2 ^ (b + 3) + 2 ^ (b + 3) = next_power (b + 3) (b + 4) (omega arith) in
    omega (arith, d, e, f, few)

-- five for each of the cells, by the lowest level's period
pub eighty : (b : ℕ) → test_ticks b ≡ 80 * 2 ^ b
eighty b =
    let z : 2 ^ (b + 0) ≡ 2 ^ b = ap (λ (n : ℕ). 2 ^ n) (let e : b + 0 ≡ b = omega arith in e) in
    let c : 2 ^ (b + 1) ≡ 2 ^ (b + 0) + 2 ^ (b + 0) = next_power (b + 0) (b + 1) (omega arith) in
    let d : 2 ^ (b + 2) ≡ 2 ^ (b + 1) + 2 ^ (b + 1) = next_power (b + 1) (b + 2) (omega arith) in
    let e : 2 ^ (b + 3) ≡ 2 ^ (b + 2) + 2 ^ (b + 2) = next_power (b + 2) (b + 3) (omega arith) in
    let f : 2 ^ (b + 4) ≡ 2 ^ (b + 3) + 2 ^ (b + 3) = next_power (b + 3) (b + 4) (omega arith) in
    omega (arith, z, c, d, e, f)

-- ---- a cell of a file is told or bad

told-or-bad : (found : Option Cell) → spot_of found ≢ Bad → IsTold (spot_of found)
told-or-bad None spelled = absurd (spelled refl)
told-or-bad (Some cell) spelled = refl

-- ---- the lowest bad cell of the front is that of all runs

block-fits : (b n : ℕ) → b ≤ min 9 (n + 2) → b ≤ n + 2
block-fits b n h = omega (arith, h)

module _ (header : Header) (bytes : List ℕ) where
  abbrev pub file : Tested
  file = tested_of (fields_of header) bytes

  same-len : (level slot : ℕ) → run.run_len header level slot ≡ run_len file level slot
  same-len level slot =
      ap (λ (m : LevelMarks). if slot == visible_slot header.clock level then m.visible else m.shadow) (sym (number-at header.levels.items level))

  pub lowest-of-all : (level number : ℕ) → IsLevelOf number level → run.IsLowestBad header (file_spots header.geometry.format bytes) number → IsLowestBad file level number
  lowest-of-all level number of bad =
      let front : bad.level + 2 < header.geometry.block_exp = bad.run.front in
      let block : header.geometry.block_exp ≤ header.geometry.bottom + 2 = block-fits header.geometry.block_exp header.geometry.bottom header.geometry.block_fits.fits in
      let low : bad.level ≤ header.geometry.bottom = omega (arith, front, block) in
      let shallow : header.geometry.bottom ≤ 22 = header.geometry.shallow in
      let within : bad.index < run_len file bad.level bad.slot = subst (λ (n : ℕ). bad.index < n) (same-len bad.level bad.slot) bad.run.within in
      let fits : run_len file bad.level bad.slot ≤ slot_size bad.level = run-fits header bad.level bad.slot low in
      let before : (l s i : ℕ) → IsOfRun file l s i → number_of l s i < number → l + 2 < header.geometry.block_exp =
      λ l s i place below. let le : l ≤ bad.level = not-later l s i bad.level bad.slot bad.index place.slot_in bad.run.slot_in (omega (arith, within, fits)) (subst (λ (n : ℕ). number_of l s i < n) bad.at below) in omega (arith, le, front) in
      let level-is : level ≡ bad.level = of bad.level bad.slot bad.index (omega (arith, low, shallow)) bad.run.slot_in (omega (arith, within, fits)) bad.at in
      subst (λ (l : ℕ). IsLowestBad file l number) (sym level-is) (record {
        slot = bad.slot;
        index = bad.index;
        place = record { level_in = level-in header bad.level low; slot_in = bad.run.slot_in; within = within };
        bad = bad.bad;
        number_is = bad.at;
        lowest = λ l s i place below. told-or-bad (decoded header.geometry.format (cell_bytes header.geometry.format bytes (number_of l s i)))
            (bad.lowest l s i (record { front = before l s i place below; slot_in = place.slot_in; within = subst (λ (n : ℕ). i < n) (sym (same-len l s)) place.within }) below);
      })

-- ---- the answer

module _ {D : Type 0} (d : device.Ghosts D) (header : Header) (before now : D) where
  -- a verdict on the cells that an object tells is one on those of the file
  of-file : (held : Held) (told : Option (List ℕ)) (verdict : Verdict) → IfSome told (λ bytes. IsTelling held × run.AreFileSpots header.geometry held.spots bytes)
      → (IsTelling held → IsVerdict (tested_by header held) verdict) → IfSome told (λ bytes. IsVerdict (tested_of (fields_of header) bytes) verdict)
  of-file held None verdict are is = tt
  of-file held (Some bytes) verdict are is =
      (same-verdicts (tested_by header held) (file_spots header.geometry.format bytes)
      (λ l s i place.
      let low : l ≤ header.geometry.bottom = level-low header l place.level_in in
      let fits : run_len (tested_by header held) l s ≤ slot_size l = run-fits header l s low in
      sym (are.1 l s i (record { level_in = omega (arith, low); slot_in = place.slot_in; index_in = omega (arith, place.within, fits) })))
      verdict).0 (is are.0)

  -- a cell that is bad at a second reading stands in a file whose bytes are not told
  not-sure : (held : Held) (told : Option (List ℕ)) (level number : ℕ) → IfSome told (λ bytes. IsTelling held × run.AreFileSpots header.geometry held.spots bytes) → (IsTelling held → ⊥) → IsSure told (Broken CellFlaw level number) → ⊥
  not-sure held None level number are untold (inl some) = true≢false (sym some)
  not-sure held (Some bytes) level number are untold (inl some) = untold are.0
  not-sure held told level number are untold (inr other) = other level number refl

  -- the answer of a test, by that of its cells
  pub by-cells : (old new : State) (answer : Result Verdict ReadFault) (result : Result Verdict CheckFault) → IfSome (d.bytes before) (λ bytes. IsTelling old.held × run.AreFileSpots header.geometry old.held.spots bytes) →
      (loaded : ℕ) → loaded ≤ (d.counts before).reads + (header.geometry.bottom + 3) → OnOk answer ((d.counts now).reads ≤ loaded + test_blocks (fields_of header)) →
      old.spent.faults ≡ (d.counts before).faults → new.spent.faults ≡ (d.counts now).faults → Tests header old new answer → ReadCalm old.spent.faults new.spent.faults answer →
      Judges answer result → TestsAnswer d header before now result
  by-cells old new (Ok verdict) result are loaded load blocks first last tests calm judges =
      subst (TestsAnswer d header before now) (sym judges) (record { verdict_is = of-file old.held (d.bytes before) verdict are tests; few_reads = λ sure. omega (arith, load, blocks); no_fault = sym last ∙ calm ∙ first })
  by-cells old new (Err (read.BadCell number)) result are loaded load blocks first last tests calm judges =
      subst (TestsAnswer d header before now) (sym judges.1.0)
      (record { verdict_is = of-file old.held (d.bytes before) (Broken CellFlaw judges.0 number) are (λ tells. absurd (tests tells)); few_reads = λ sure. absurd (not-sure old.held (d.bytes before) judges.0 number are tests sure); no_fault = sym last ∙ calm ∙ first })
  by-cells old new (Err read.Device) result are loaded load blocks first last tests calm judges =
      subst (TestsAnswer d header before now) (sym judges) (subst (λ (n : ℕ). Rose n (d.counts now).faults) first (subst (Rose old.spent.faults) last tests))

  in-front : (told : Option (List ℕ)) (level number : ℕ) → IsLevelOf number level → IfSome told (λ bytes. run.IsLowestBad header (file_spots header.geometry.format bytes) number) →
      IfSome told (λ bytes. IsVerdict (tested_of (fields_of header) bytes) (Broken CellFlaw level number))
  in-front told level number of bad = IfSome_then told bad (λ bytes b. (tt, lowest-of-all header bytes level number of b))

  -- the same, by that of a load that was refused
  pub by-load : (fault : ReadFault) (result : Result Verdict CheckFault) →
      (d.counts now).reads ≤ (d.counts before).reads + (header.geometry.bottom + 3) →
      run.LoadAnswers header (d.bytes before) (d.counts before).faults (d.counts now).faults (Err fault) → ReadCalm {T = Unit {0}} (d.counts before).faults (d.counts now).faults (Err fault) →
      Judges (Err fault) result → TestsAnswer d header before now result
  by-load (read.BadCell number) result load bad calm judges =
      subst (TestsAnswer d header before now) (sym judges.1.0) (record { verdict_is = in-front (d.bytes before) judges.0 number judges.1.1 bad; few_reads = λ sure. omega (arith, load); no_fault = calm })
  by-load read.Device result load rose calm judges = subst (TestsAnswer d header before now) (sym judges) rose

-- where bytes are told, every place of their object is
pub tells-all : (held : Held) (geometry : Geometry) (told : Option (List ℕ)) → (is_some told ≡ true → (l s i : ℕ) → is_untold (held.spots l s i) ≡ false) → IfSome told (run.AreFileSpots geometry held.spots)
    → IfSome told (λ bytes. IsTelling held × run.AreFileSpots geometry held.spots bytes)
tells-all held geometry None tells are = tt
tells-all held geometry (Some bytes) tells are = ((λ l s i place. tells refl l s i), are)

-- ---- the answer by what was seen of the file

both : {X : Type 0} (told : Option X) {P Q R : X → Type 0} → IfSome told P → IfSome told Q → ((x : X) → P x → Q x → R x) → IfSome told R
both None p q f = tt
both (Some x) p q f = f x p q

module _ {D : Type 0} (d : device.Ghosts D) (header : Header) (before mid now : D) (from to : ℕ) where
  is-read : IsSeen d before (IsClosedWith (fields_of header)) 1 1 mid → ReadsCells d header mid now from to → IsReadBy d before now from to (fields_of header)
  is-read seen reads = record {
    steps_stay = reads.steps_stay;
    few_ticks = reads.few_ticks;
    spends = spends-then seen.spends reads.spends (let l : 1 + ((header.geometry.bottom + 3) + test_ticks header.geometry.bottom) ≤ test_reads header.geometry.bottom = omega arith in l) (omega arith) (omega arith);
  }

  tested : (result : Result Verdict CheckFault) → IsSeen d before (IsClosedWith (fields_of header)) 1 1 mid → TestsAnswer d header mid now result → ReadsCells d header mid now from to → Checks d before now from to result
  tested (Ok verdict) seen answer reads =
      record {
        header = fields_of header;
        is = both (d.bytes before) seen.why_is
            (subst (λ (told : Option (List ℕ)). IfSome told (λ bytes. IsVerdict (tested_of (fields_of header) bytes) verdict)) seen.bytes_stay answer.verdict_is)
            (λ bytes was is. record { was = was; verdict_is = is });
        reading = is-read seen reads;
        few_reads = λ sure.
            let here = answer.few_reads (subst (λ (told : Option (List ℕ)). IsSure told verdict) (sym seen.bytes_stay) sure) in
            omega (arith, here, seen.spends.reads_rise);
        no_fault = answer.no_fault ∙ seen.no_fault;
      }
  tested (Err Device) seen rose reads =
      inr (record { header = fields_of header; was = seen.why_is; cause = subst (λ (n : ℕ). Rose n (d.counts now).faults) seen.no_fault rose; reading = is-read seen reads })
  tested _ seen none reads = absurd none

  pub checks : (result : Result Verdict CheckFault) → IsSeen d before (IsClosedWith (fields_of header)) 1 1 mid → TestsMade d header mid now from to result → Checks d before now from to result
  checks result seen (inl made) = tested result seen made.0 made.1
  checks result seen (inr none) =
      subst (λ (x : Result Verdict CheckFault). Checks d before now from to x) (sym none.0)
      (record {
        seen = subst (λ (x : D). IsSeen d before IsClosedFile 1 1 x) (sym none.1)
            (record { why_is = IfSome_then (d.bytes before) seen.why_is (λ bytes was. (fields_of header, was)); bytes_stay = seen.bytes_stay; spends = seen.spends; no_fault = seen.no_fault });
        no_ticks = none.2;
      })
