-- What the calls of a device in blocks say of the cells that are read and written by them.
use Rattle.std.proofs.Common.{◌≡◌, ℕ, ◌+◌, ◌*◌, ◌/◌, ◌%◌, ◌^◌, ◌<◌, ◌≤◌, false, List, length, set, Option, None, Some, IfSome, Result, Ok, Err, refl, sym, ap, subst, ◌∙◌, arith}
use Rattle.cola_cell.specs.declared.format.Format.{Format}
use Rattle.cola_cell.specs.declared.cell.Cell.{Cell}
use Rattle.cola_cell.specs.declared.fault.ReadFault.{ReadFault}
use Rattle.cola_cell.specs.declared.sink.Shadow.{Shadow}
use Rattle.cola_cell.specs.declared.fault.PushFault.{PushFault}
use Rattle.cola_cell.specs.declared.fault.PushFault.TheVariants as push
use Rattle.cola_cell.specs.Decoded.{decoded}
use Rattle.cola_cell.specs.Shadows.{after_push}
use Rattle.cola_layout.specs.declared.geometry.Geometry.{Geometry}
use Rattle.cola_cell.specs.Flat.{found, shadow_at}
use Rattle.cola_cell.specs.Format.{width, CellFits}
use Rattle.cola_cell.specs.Spent.{ReadCalm}
use Rattle.cola_cell.proofs.DecodedLemmas.{decoded_fits}
use Rattle.cola_device.specs.Bytes.{part, Gives}
use Rattle.cola_device.specs.declared.counts.Counts.{Counts}
use Rattle.cola_device.specs.Counts.{Called}
use Rattle.cola_layout.proofs.Powers.{power-le}
use Rattle.cola_front.specs.Front.{cell_bytes}
use Rattle.cola_cache.specs.Blocks.{Blocks, Stays, last_in}
use Rattle.cola_run.specs.Cells.{block_cells}
use Rattle.cola_run.specs.Parts.{Finds, OneShadow, fills, TailPushed, MetFault, IsLengthened}
use Rattle.cola_run.specs.Turns.{HasReadCause, turned_last, Turns}
use Rattle.cola_run.proofs.Bytes.{block-cell}

-- a cell that bytes spell fits
pub spelled-fits : (f : Format) (bytes : List ℕ) → IfSome (decoded f bytes) (CellFits f)
spelled-fits f bytes = by-case (decoded f bytes) refl
  where
    by-case : (c : Option Cell) → decoded f bytes ≡ c → IfSome c (CellFits f)
    by-case None e = tt
    by-case (Some cell) e = decoded_fits f bytes cell e

finds-cell : (told : Option (List ℕ)) (f : Format) (number : ℕ) (c : Option Cell) → IfSome c (CellFits f) → IfSome told (λ bytes. decoded f (cell_bytes f bytes number) ≡ c) → Finds told f number (found number c)
finds-cell told f number None fits is = (refl, is)
finds-cell told f number (Some cell) fits is = (fits, is)

-- a cell of a block is one of the device
copy-cell : (told : Option (List ℕ)) (f : Format) (block number : ℕ) (copy : List ℕ) → 0 < block → length copy ≡ width f * block → Gives told (number / block * (width f * block)) copy
    → IfSome told (λ bytes. decoded f (cell_bytes f bytes number) ≡ decoded f (cell_bytes f copy (number % block)))
copy-cell None f block number copy some many given = tt
copy-cell (Some bytes) f block number copy some many given =
    ap (λ (xs : List ℕ). decoded f xs)
    (sym (ap (λ (xs : List ℕ). cell_bytes f xs (number % block)) (given ∙ ap (λ (n : ℕ). part bytes (number / block * (width f * block)) n) many) ∙ block-cell f bytes block number some))

-- what is read of a block is what the device's bytes spell
pub finds-block : (told : Option (List ℕ)) (f : Format) (block number : ℕ) (copy : List ℕ) (c : Option Cell) (result : Result Cell ReadFault) → 0 < block → length copy ≡ width f * block
    → Gives told (number / block * (width f * block)) copy → c ≡ decoded f (cell_bytes f copy (number % block)) → result ≡ found number c → Finds told f number result
finds-block told f block number copy c result some many given is answer =
    subst (λ (r : Result Cell ReadFault). Finds told f number r) (sym answer)
    (finds-cell told f number c (subst (λ (x : Option Cell). IfSome x (CellFits f)) (sym is) (spelled-fits f (cell_bytes f copy (number % block))))
    (subst (λ (x : Option Cell). IfSome told (λ bytes. decoded f (cell_bytes f bytes number) ≡ x)) (sym is) (copy-cell told f block number copy some many given)))

-- and what is read of the bytes of one cell
pub finds-one : (told : Option (List ℕ)) (f : Format) (number w : ℕ) (bytes : List ℕ) (c : Option Cell) → w ≡ width f → length bytes ≡ w
    → Gives told (number * w) bytes → c ≡ decoded f (cell_bytes f bytes 0) → Finds told f number (found number c)
finds-one told f number w bytes c size many given is =
    finds-block told f 1 number bytes c (found number c) (omega arith) (many ∙ size ∙ (let e : width f ≡ width f * 1 = omega arith in e))
    (subst (λ (n : ℕ). Gives told n bytes) (ap (λ (n : ℕ). number * n) size ∙ ap (λ (n : ℕ). n * width f) (let e : number ≡ number / 1 = omega arith in e) ∙ ap (λ (n : ℕ). number / 1 * n) (let e : width f ≡ width f * 1 = omega arith in e)) given)
    (is ∙ ap (λ (n : ℕ). decoded f (cell_bytes f bytes n)) (let e : 0 ≡ number % 1 = omega arith in e)) refl

-- what was found is not the device's fault, and the block was turned to
found-all : (before now block number : ℕ) (c : Option Cell) → now ≡ before → ReadCalm before now (found number c) × HasReadCause before now (found number c) × (turned_last block (found number c) ≡ Some block)
found-all before now block number None e = (e, tt, refl)
found-all before now block number (Some cell) e = (e, tt, refl)

-- a read after its buffer was turned to the block
pub turns-found : {D E : Type 0} (counts : D → Counts) (before now : Blocks D) (buffer block number : ℕ) (c : Option Cell) (result : Result Cell ReadFault) (value : Unit {0})
    → Called {E = E} (counts before.cache.device) (counts now.cache.device) 1 0 0 (Ok value) → now.lasts ≡ set before.lasts buffer (Some block)
    → (last_in before.lasts buffer ≡ Some block → now ≡ before) → Stays before now → result ≡ found number c → Turns counts before now buffer block result
turns-found counts before now buffer block number c result value called lasts same stays answer =
    subst (λ (r : Result Cell ReadFault). Turns counts before now buffer block r) (sym answer)
    (let f = found-all (counts before.cache.device).faults (counts now.cache.device).faults block number c called.none_hidden in
    record {
      faults_stay = called.faults_stay;
      calm = f.0;
      cause = f.1;
      reads_stay = called.reads_stay;
      reads_rise = called.reads_rise;
      writes_is = (let low = called.writes_stay in let high = called.writes_rise in omega (arith, low, high));
      others_are = (let low = called.others_stay in let high = called.others_rise in omega (arith, low, high));
      lasts_are = lasts ∙ ap (λ (x : Option ℕ). set before.lasts buffer x) (sym f.2);
      same = same;
      stays = stays;
    })

-- a shadow that changed twice
pub one-again : (first second third : List Shadow) (level : ℕ) (shadow last : Shadow) → OneShadow first second level shadow → OneShadow second third level last → OneShadow first third level last
one-again first second third level shadow last a b = record {
  many = b.many ∙ a.many;
  is = b.is;
  others = λ other apart. b.others other apart ∙ a.others other apart;
}

-- a level has at most so many cells in a slot
pub slot-most : (level len : ℕ) → level ≤ 22 → len < 2 ^ (level + 2) → len < 2 ^ 24
slot-most level len low h = let more : 2 ^ (level + 2) ≤ 2 ^ 24 = power-le (level + 2) 24 (omega (arith, low)) in omega (arith, h, more)

-- a shadow that was to be lengthened, by what the steps of that leave
pub lengthened-by : (g : Geometry) (told now : Option (List ℕ)) (shadows shadows_now : List Shadow) (tails : List ℕ) (level : ℕ) (shadow : Shadow) {T : Type 0} (result : Result T PushFault)
    → shadow ≡ shadow_at shadows level → OneShadow shadows shadows_now level (after_push (block_cells g) shadow result)
    → TailPushed (fills g shadow.len) result g tails level shadow.slot shadow.len told now → MetFault result
    → IsLengthened g (record { told = told; shadows = shadows; tails = tails }) (record { told = now; shadows = shadows_now; tails = tails }) level result
lengthened-by g told now shadows shadows_now tails level shadow result is one device fault = record {
  shadow = subst (λ (x : Shadow). OneShadow shadows shadows_now level (after_push (block_cells g) x result)) is one;
  device = subst (λ (x : Shadow). TailPushed (fills g x.len) result g tails level x.slot x.len told now) is device;
  fault = fault;
}

-- the shadow after a push that met the device's fault
pub refused-after : (span : ℕ) (shadow : Shadow) (fault : PushFault) → MetFault {T = Unit {0}} (Err fault) → record shadow { saved = false } ≡ after_push {A = Unit {0}} span shadow (Err fault)
refused-after span shadow push.Device met = refl
refused-after span shadow (push.Overfull level) met = absurd met
