-- The steps of an upgrade, one after the other.
use Rattle.std.proofs.Common.{◌≡◌, ℕ, ◌+◌, ◌*◌, ◌≤◌, inl, inr, List, length, Option, Result, Ok, Err, refl, subst, ◌∙◌, arith}
use Rattle.std.specs.Prelude.{IfSome, IfErr, OnOk}
use Rattle.cola_outside.specs.Faults.{Rose}
use Rattle.cola_device.specs.declared.device.Device as device
use Rattle.cola_device.specs.Bytes.{splice, Wrote}
use Rattle.cola_device.specs.Counts.{Called}
use Rattle.cola_device.specs.Settling.{IsSettled}
use Rattle.cola_device.proofs.BytesLemmas.{length-splice}
use Rattle.cola_layout.specs.Header.{Fields}
use Rattle.cola_opening.specs.Counted.{Spends}
use Rattle.cola_opening.proofs.Spending.{spends-none, spends-then, spends-more, called-spends}
use Rattle.cola_wide.specs.declared.fault.UpgradeFault.{UpgradeFault}
use Rattle.cola_wide.specs.declared.fault.UpgradeFault.TheVariants.{Small, NotStore, Already, NotClosed, OutOfMemory, NotEmpty, Device, BadCell}
use Rattle.cola_wide.specs.Copied.{cells_of, block_cells, IsBlockOf, AreSpelled, AreCopied, IsLowestBad, IsBegun, IsFilled}
use Rattle.cola_wide.specs.Upgrade.{IsFound, FailedReading, LoadsBlock, BlocksAreCopied, FailedCopying, FailedLast, CopiesBlocks, CopiesAll}
use Rattle.cola_wide.proofs.Told.{some-then, some-both, some-any}
use Rattle.cola_wide.proofs.Blocks.{spelled-join, bad-later}
use Rattle.cola_wide.proofs.Writes.{spelled-first, first-size, first-behind, first-whole}

-- ---- what the device that is read has

pub rose-after : (a b c : ℕ) → b ≡ a → Rose b c → Rose a c
rose-after a b c same rose = subst (λ (n : ℕ). Rose n c) same rose

module _ {D : Type 0} (d : device.Ghosts D) where
  pub found-map : (before now : D) (why other : List ℕ → Type 0) (reads others : ℕ) → ((bytes : List ℕ) → why bytes → other bytes) → IsFound d before now why reads others → IsFound d before now other reads others
  found-map before now why other reads others f found = record { why_is = some-then why other (d.bytes before) f found.why_is; counts = found.counts; no_fault = found.no_fault }

  pub found-more : (before now : D) (why : List ℕ → Type 0) (q total others : ℕ) → q ≤ total → IsFound d before now why q others → IsFound d before now why total others
  found-more before now why q total others within found = record { why_is = found.why_is; counts = spends-more found.counts within (omega arith) (omega arith); no_fault = found.no_fault }

  -- behind steps that met no fault, others that make reads alone
  module _ (from mid now : D) (why : List ℕ → Type 0) (q r total others : ℕ) (within : q + r ≤ total) (first : IsFound d from mid why q others) (stay : d.bytes mid ≡ d.bytes from) where
    pub counts-then : Spends (d.counts mid) (d.counts now) r 0 0 → Spends (d.counts from) (d.counts now) total 0 others
    counts-then next = spends-then first.counts next within (omega arith) (omega arith)

    pub found-then : (more : List ℕ → Type 0) → IsFound d mid now more r 0 → IsFound d from now more total others
    found-then more next = record {
      why_is = subst (λ (t : Option (List ℕ)). IfSome t more) stay next.why_is;
      counts = counts-then next.counts;
      no_fault = next.no_fault ∙ first.no_fault;
    }

    -- and what both say
    pub found-both : (more all : List ℕ → Type 0) → ((bytes : List ℕ) → why bytes → more bytes → all bytes) → IsFound d mid now more r 0 → IsFound d from now all total others
    found-both more all f next = record {
      why_is = some-both why more all (d.bytes from) f first.why_is (subst (λ (t : Option (List ℕ)). IfSome t more) stay next.why_is);
      counts = counts-then next.counts;
      no_fault = next.no_fault ∙ first.no_fault;
    }

    pub failed-then : FailedReading d mid now r 0 → FailedReading d from now total others
    failed-then next = record {
      cause = rose-after (d.counts from).faults (d.counts mid).faults (d.counts now).faults first.no_fault next.cause;
      counts = counts-then next.counts;
    }

module _ {D E : Type 0} (d : device.Ghosts D) (e : device.Ghosts E) (header : Fields) where
  -- ---- one block

  -- a block that could not be loaded, where the copy was begun
  pub block-not_loaded : (from now : D) (to : E) (first high : ℕ) (wide : List ℕ) (fault : UpgradeFault) → IfSome (e.bytes to) (IsBegun header) → LoadsBlock d from now header first wide (Err fault) →
      CopiesBlocks d e header from now to to first high 1 (Err fault)
  block-not_loaded from now to first high wide Small begun load = absurd load
  block-not_loaded from now to first high wide NotStore begun load = absurd load
  block-not_loaded from now to first high wide Already begun load = absurd load
  block-not_loaded from now to first high wide NotClosed begun load = absurd load
  block-not_loaded from now to first high wide OutOfMemory begun load = absurd load
  block-not_loaded from now to first high wide NotEmpty begun load = absurd load
  block-not_loaded from now to first high wide Device begun load = record { cause = inl load.cause; begun = begun; reads_are = load.counts; writes_are = spends-none }
  block-not_loaded from now to first high wide (BadCell number) begun load = record { source = load; begun = begun; writes_are = spends-none; no_fault = refl }

  -- ---- blocks in turn

  -- none yet
  pub blocks-none : (from : D) (to : E) (high : ℕ) → high ≤ block_cells header → IfSome (e.bytes to) (IsBegun header) → BlocksAreCopied d e header from from to to (block_cells header) high 0
  blocks-none from to high order begun = record {
    source = record {
      why_is = some-any (AreSpelled header (block_cells header) high) (d.bytes from) (λ old n low below. absurd (omega (arith, order, low, below)));
      counts = spends-none;
      no_fault = refl;
    };
    copied = some-any (λ old. IfSome (e.bytes to) (AreCopied header (block_cells header) high old)) (d.bytes from)
        (λ old. some-any (AreCopied header (block_cells header) high old) (e.bytes to) (λ new n low below. absurd (omega (arith, order, low, below))));
    begun = begun;
    counts = spends-none;
    no_fault = refl;
  }

  module _ (from mid now : D) (to other last : E) (low middle high q r total : ℕ) (within : q + r ≤ total) (stay : d.bytes mid ≡ d.bytes from) (before : BlocksAreCopied d e header from mid to other low middle q) where
    pub blocks-then : BlocksAreCopied d e header mid now other last middle high r → BlocksAreCopied d e header from now to last low high total
    blocks-then next = record {
      source = found-both d from mid now (AreSpelled header low middle) q r total 0 within before.source stay (AreSpelled header middle high) (AreSpelled header low high) (λ old x y. spelled-join header old low middle high x y) next.source;
      copied = subst (λ (t : Option (List ℕ)). IfSome t (λ old. IfSome (e.bytes last) (AreCopied header (block_cells header) high old))) stay next.copied;
      begun = next.begun;
      counts = spends-then before.counts next.counts (omega arith) within (omega arith);
      no_fault = next.no_fault ∙ before.no_fault;
    }

    pub blocks-fail : (end : ℕ) (fault : UpgradeFault) → low ≤ middle → CopiesBlocks d e header mid now other last middle high r (Err fault) → CopiesBlocks d e header from now to last low end total (Err fault)
    blocks-fail end Small order next = absurd next
    blocks-fail end NotStore order next = absurd next
    blocks-fail end Already order next = absurd next
    blocks-fail end NotClosed order next = absurd next
    blocks-fail end OutOfMemory order next = absurd next
    blocks-fail end NotEmpty order next = absurd next
    blocks-fail end Device order next = record {
      cause = elim next.cause [
        | inl mine ↦ inl (rose-after (d.counts from).faults (d.counts mid).faults (d.counts now).faults before.source.no_fault mine)
        | inr others ↦ inr (rose-after (e.counts to).faults (e.counts other).faults (e.counts last).faults before.no_fault others)
      ];
      begun = next.begun;
      reads_are = spends-then before.source.counts next.reads_are within (omega arith) (omega arith);
      writes_are = spends-then before.counts next.writes_are (omega arith) within (omega arith);
    }
    blocks-fail end (BadCell number) order next = record {
      source = found-both d from mid now (AreSpelled header low middle) q r total 0 within before.source stay (IsLowestBad header middle number) (IsLowestBad header low number) (λ old x y. bad-later header old low middle number order x y) next.source;
      begun = next.begun;
      writes_are = spends-then before.counts next.writes_are (omega arith) within (omega arith);
      no_fault = next.no_fault ∙ before.no_fault;
    }

  -- ---- all blocks

  -- copying blocks was refused, behind a first block that is spelled
  pub blocks-refused : (from mid now : D) (to last : E) (high q reads writes : ℕ) (head : List ℕ) (fault : UpgradeFault) → 1 + q ≤ reads → q ≤ writes → d.bytes mid ≡ d.bytes from → IsFound d from mid (AreSpelled header 0 (block_cells header)) 1 0 →
      CopiesBlocks d e header mid now to last (block_cells header) high q (Err fault) → CopiesAll d e header from now to last head reads 0 writes 0 (Err fault)
  blocks-refused from mid now to last high q reads writes head Small within some stay first next = absurd next
  blocks-refused from mid now to last high q reads writes head NotStore within some stay first next = absurd next
  blocks-refused from mid now to last high q reads writes head Already within some stay first next = absurd next
  blocks-refused from mid now to last high q reads writes head NotClosed within some stay first next = absurd next
  blocks-refused from mid now to last high q reads writes head OutOfMemory within some stay first next = absurd next
  blocks-refused from mid now to last high q reads writes head NotEmpty within some stay first next = absurd next
  blocks-refused from mid now to last high q reads writes head Device within some stay first next = inl (record {
    cause = elim next.cause [
      | inl mine ↦ inl (rose-after (d.counts from).faults (d.counts mid).faults (d.counts now).faults first.no_fault mine)
      | inr others ↦ inr others
    ];
    begun = next.begun;
    reads_are = spends-then first.counts next.reads_are within (omega arith) (omega arith);
    writes_are = spends-more next.writes_are (omega arith) some (omega arith);
  })
  blocks-refused from mid now to last high q reads writes head (BadCell number) within some stay first next = record {
    source = found-both d from mid now (AreSpelled header 0 (block_cells header)) 1 q reads 0 within first stay (IsLowestBad header (block_cells header) number) (IsLowestBad header 0 number) (λ old x y. bad-later header old 0 (block_cells header) number (omega arith) x y) next.source;
    begun = next.begun;
    writes_are = spends-more next.writes_are (omega arith) some (omega arith);
    no_fault = next.no_fault;
  }

  -- the first block was not loaded
  pub first-not_loaded : (from now : D) (to : E) (head wide : List ℕ) (reads writes : ℕ) (fault : UpgradeFault) → 1 ≤ reads → IfSome (e.bytes to) (IsBegun header) → LoadsBlock d from now header 0 wide (Err fault) →
      CopiesAll d e header from now to to head reads 0 writes 0 (Err fault)
  first-not_loaded from now to head wide reads writes Small within begun load = absurd load
  first-not_loaded from now to head wide reads writes NotStore within begun load = absurd load
  first-not_loaded from now to head wide reads writes Already within begun load = absurd load
  first-not_loaded from now to head wide reads writes NotClosed within begun load = absurd load
  first-not_loaded from now to head wide reads writes OutOfMemory within begun load = absurd load
  first-not_loaded from now to head wide reads writes NotEmpty within begun load = absurd load
  first-not_loaded from now to head wide reads writes Device within begun load =
      inl (record { cause = inl load.cause; begun = begun; reads_are = spends-more load.counts within (omega arith) (omega arith); writes_are = spends-none })
  first-not_loaded from now to head wide reads writes (BadCell number) within begun load =
      record { source = found-more d from now (IsLowestBad header 0 number) 1 reads 0 within load; begun = begun; writes_are = spends-none; no_fault = refl }

  -- copying all, behind steps that met no fault
  module _ (from mid now : D) (to other last : E) (why : List ℕ → Type 0) (head : List ℕ) (q r reads asks w v writes others : ℕ) (within : q + r ≤ reads) (few : w + v ≤ writes) (first : IsFound d from mid why q asks)
      (stay : d.bytes mid ≡ d.bytes from) (counted : Spends (e.counts to) (e.counts other) 0 w others) (calm : (e.counts other).faults ≡ (e.counts to).faults) where
    counts-behind : (more all : ℕ) → others + more ≤ all → Spends (e.counts other) (e.counts last) 0 v more → Spends (e.counts to) (e.counts last) 0 writes all
    counts-behind more all in_all next = spends-then counted next (omega arith) few in_all

    failed-copying : FailedCopying d e header mid now other last r 0 v 0 → FailedCopying d e header from now to last reads asks writes others
    failed-copying next = record {
      cause = elim next.cause [
        | inl mine ↦ inl (rose-after (d.counts from).faults (d.counts mid).faults (d.counts now).faults first.no_fault mine)
        | inr yours ↦ inr (rose-after (e.counts to).faults (e.counts other).faults (e.counts last).faults calm yours)
      ];
      begun = next.begun;
      reads_are = counts-then d from mid now why q r reads asks within first stay next.reads_are;
      writes_are = counts-behind 0 others (omega arith) next.writes_are;
    }

    failed-last : FailedLast d e header mid now other last r 0 v 1 → FailedLast d e header from now to last reads asks writes (others + 1)
    failed-last next = record {
      cause = rose-after (e.counts to).faults (e.counts other).faults (e.counts last).faults calm next.cause;
      source = found-then d from mid now why q r reads asks within first stay (AreSpelled header 0 (cells_of header)) next.source;
      size = next.size;
      copied = subst (λ (t : Option (List ℕ)). IfSome t (λ old. IfSome (e.bytes last) (AreCopied header (block_cells header) (cells_of header) old))) stay next.copied;
      writes_are = counts-behind 1 (others + 1) (omega arith) next.writes_are;
    }

    pub all-later : (result : Result (Unit {0}) UpgradeFault) → CopiesAll d e header mid now other last head r 0 v 0 result → CopiesAll d e header from now to last head reads asks writes others result
    all-later (Ok value) next = record {
      source = found-then d from mid now why q r reads asks within first stay (AreSpelled header 0 (cells_of header)) next.source;
      size = next.size;
      filled = subst (λ (t : Option (List ℕ)). IfSome t (λ old. IfSome (e.bytes last) (IsFilled header head old))) stay next.filled;
      settled = next.settled;
      writes_are = counts-behind 1 (others + 1) (omega arith) next.writes_are;
      no_fault = next.no_fault ∙ calm;
    }
    all-later (Err Small) next = absurd next
    all-later (Err NotStore) next = absurd next
    all-later (Err Already) next = absurd next
    all-later (Err NotClosed) next = absurd next
    all-later (Err OutOfMemory) next = absurd next
    all-later (Err NotEmpty) next = absurd next
    all-later (Err Device) next = elim next [
      | inl copying ↦ inl (failed-copying copying)
      | inr written ↦ inr (failed-last written)
    ]
    all-later (Err (BadCell number)) next = record {
      source = found-then d from mid now why q r reads asks within first stay (IsLowestBad header 0 number) next.source;
      begun = next.begun;
      writes_are = counts-behind 0 others (omega arith) next.writes_are;
      no_fault = next.no_fault ∙ calm;
    }

  -- ---- the first block, written last

  module _ (from now : D) (to last : E) (head wide : List ℕ) (long : length wide ≡ 128 * block_cells header) (many : length head ≡ 512) (some : 8 ≤ block_cells header) (within : block_cells header ≤ cells_of header)
      (begun : IfSome (e.bytes to) (IsBegun header)) (spelled : IfSome (d.bytes from) (AreSpelled header (block_cells header) (cells_of header)))
      (copied : IfSome (d.bytes from) (λ old. IfSome (e.bytes to) (AreCopied header (block_cells header) (cells_of header) old))) (loaded : IsFound d from now (λ old. IsBlockOf header 0 old wide) 1 0) where
    size : length (splice wide 0 head) ≡ 128 * block_cells header
    size = length-splice wide 0 head (omega (arith, long, many, some)) ∙ long

    all-spelled : IsFound d from now (AreSpelled header 0 (cells_of header)) 1 0
    all-spelled = record {
      why_is = some-both (AreSpelled header (block_cells header) (cells_of header)) (λ old. IsBlockOf header 0 old wide) (AreSpelled header 0 (cells_of header)) (d.bytes from)
          (λ old behind block. spelled-join header old 0 (block_cells header) (cells_of header) (spelled-first header old wide block) behind) spelled loaded.why_is;
      counts = loaded.counts;
      no_fault = loaded.no_fault;
    }

    first-written : (result : Result (Unit {0}) UpgradeFault) → Wrote result 0 (splice wide 0 head) (e.bytes to) (e.bytes last) → OnOk result (IsSettled e last) → Called (e.counts to) (e.counts last) 0 1 1 result → IfErr result (λ fault. fault ≡ Device) →
        CopiesAll d e header from now to last head 1 0 1 0 result
    first-written (Ok value) wrote settled called fault = record {
      source = all-spelled;
      size = first-size header (splice wide 0 head) size within (e.bytes to) (e.bytes last) begun {T = Unit {0}} {E = UpgradeFault} (Ok value) wrote;
      filled = first-whole UpgradeFault value header head wide (d.bytes from) (e.bytes to) (e.bytes last) many some long wrote copied loaded.why_is;
      settled = settled;
      writes_are = called-spends called;
      no_fault = called.none_hidden;
    }
    first-written (Err Small) wrote settled called fault = cc
    first-written (Err NotStore) wrote settled called fault = cc
    first-written (Err Already) wrote settled called fault = cc
    first-written (Err NotClosed) wrote settled called fault = cc
    first-written (Err OutOfMemory) wrote settled called fault = cc
    first-written (Err NotEmpty) wrote settled called fault = cc
    first-written (Err Device) wrote settled called fault = inr (record {
      cause = called.cause;
      source = all-spelled;
      size = first-size header (splice wide 0 head) size within (e.bytes to) (e.bytes last) begun {T = Unit {0}} {E = UpgradeFault} (Err Device) wrote;
      copied = first-behind header (splice wide 0 head) size within (e.bytes to) (e.bytes last) begun {T = Unit {0}} {E = UpgradeFault} (Err Device) (d.bytes from) wrote copied;
      writes_are = called-spends called;
    })
    first-written (Err (BadCell number)) wrote settled called fault = cc

    pub first-copied : (left : List ℕ) (result : Result (Unit {0}) UpgradeFault) → left ≡ splice wide 0 head → Wrote result 0 left (e.bytes to) (e.bytes last) → OnOk result (IsSettled e last) → Called (e.counts to) (e.counts last) 0 1 1 result → IfErr result (λ fault. fault ≡ Device) →
        CopiesAll d e header from now to last head 1 0 1 0 result
    first-copied left result is wrote settled called fault = first-written result (subst (λ (xs : List ℕ). Wrote result 0 xs (e.bytes to) (e.bytes last)) is wrote) settled called fault
