-- A rebuild, put together of its steps.
use Rattle.std.proofs.Common.{◌≡◌, ◌⊎◌, ℕ, ◌+◌, ◌-◌, ◌≤◌, inl, inr, Bool, true, false, not, max, List, ◌++◌, length, take, drop, Option, Some, None, Result, Ok, Err, refl, sym, ap, subst, ◌∙◌, arith, length-drop, take_all}
use Rattle.std.specs.Prelude.{IfSome, IsSomeAnd}
use Rattle.std.proofs.lemmas.List.{take-append-drop}
use Rattle.cola_outside.specs.Told.{Both}
use Rattle.cola_device.specs.declared.device.Device as device
use Rattle.cola_device.specs.declared.device.DeviceFault.{DeviceFault}
use Rattle.cola_device.specs.Bytes.{part, splice, HasRange, WroteSome, Wrote}
use Rattle.cola_device.specs.Counts.{Called}
use Rattle.cola_device.specs.Settling.{IsSettled}
use Rattle.cola_device.proofs.BytesLemmas.{length-splice, part-splice, drop-splice_end}
use Rattle.cola_layout.specs.Fields.{fields_of}
use Rattle.cola_layout.specs.Header.{Fields}
use Rattle.cola_layout.proofs.Refusing.{spelling-one}
use Rattle.cola_opening.specs.declared.reading.FoundHeader.{FoundHeader}
use Rattle.cola_opening.specs.Judged.{file_size, IsSmall, IsSpelled, IsFoundIn, IsSeen, IsClosedFile}
use Rattle.cola_opening.proofs.Sizes.{header_fits}
use Rattle.cola_opening.proofs.Spending.{called-spends, spends-then}
use Rattle.cola_mirror.specs.declared.fault.RebuildFault.TheVariants.{Device}
use Rattle.cola_mirror.specs.Differ.{pieces_of, IfBoth}
use Rattle.cola_mirror.specs.Rebuild.{IsSameBelow, first_bytes, ready_calls, IsBegun, OnlyMoves, IsMoved, Moves, IsReady, Rebuilds, OnlyCopied, CanBeRebuilt}
use Rattle.cola_mirror.proofs.ComparedLemmas.{rose-after}

-- ---- the header that was found

pub found-long : (found : FoundHeader) (head : List ℕ) → IsSpelled found head → 512 ≤ found.size
found-long found head is = omega (arith, is.whole, header_fits found.header.geometry.format found.header.geometry.bottom is.spelled.sound.bottom_fits.three)

found-in_range : (found : FoundHeader) (head : List ℕ) (told : Option (List ℕ)) → IfSome told (IsFoundIn found head) → HasRange told 0 found.size
found-in_range found head None is = tt
found-in_range found head (Some bytes) is = omega (arith, is.size_is)

-- a file whose header was found has its bytes
pub found-range : (found : FoundHeader) (head : List ℕ) (told now : Option (List ℕ)) → now ≡ told → IfSome told (IsFoundIn found head) → HasRange now 0 found.size
found-range found head told now stay is = subst (λ (t : Option (List ℕ)). HasRange t 0 found.size) (sym stay) (found-in_range found head told is)

closed-of : (closed : Bool) → not closed ≡ false → closed ≡ true
closed-of true e = refl
closed-of false e = cc

pub found-closed : (found : FoundHeader) (head : List ℕ) (told : Option (List ℕ)) → not found.header.closed ≡ false → IfSome told (IsFoundIn found head) → IfSome told IsClosedFile
found-closed found head None closed is = tt
found-closed found head (Some bytes) closed is = (fields_of found.header, record { has = is.has; closed = closed-of found.header.closed closed })

-- ---- what excludes what

told-apart : (told : Option (List ℕ)) (P Q : List ℕ → Type 0) → ((bytes : List ℕ) → P bytes → Q bytes → ⊥) → IsSomeAnd told P → IfSome told Q → ⊥
told-apart None P Q apart p q = p
told-apart (Some bytes) P Q apart p q = apart bytes p q

closed-not_small : (bytes : List ℕ) → IsClosedFile bytes → IsSmall bytes → ⊥
closed-not_small bytes file (inl short) = omega (arith, short, file.1.has.whole, header_fits file.0.format file.0.bottom file.1.has.spelled.sound.bottom_fits.three)
closed-not_small bytes file (inr (other, (spelled, few))) =
    let whole : file_size other.format other.bottom ≤ length bytes = subst (λ (f : Fields). file_size f.format f.bottom ≤ length bytes) (spelling-one file.0 other (take 512 bytes) file.1.has.spelled spelled) file.1.has.whole in
    omega (arith, few, whole)

module _ {D E : Type 0} (d : device.Ghosts D) (e : device.Ghosts E) (from now : D) (to last : E) where
  pub not-small : CanBeRebuilt d e from now to last → IfSome (d.bytes from) IsSmall → ⊥
  not-small can small = told-apart (d.bytes from) (λ bytes. IsClosedFile bytes × IsSomeAnd (e.bytes to) (λ old. (length old ≡ 0) ⊎ (length old ≡ length bytes))) IsSmall (λ bytes p q. closed-not_small bytes p.0 q) can.file small

  pub not-in_use : (found : FoundHeader) (head : List ℕ) → CanBeRebuilt d e from now to last → not found.header.closed ≡ true → IfSome (d.bytes from) (IsFoundIn found head) → ⊥
  not-in_use found head can in_use is =
      told-apart (d.bytes from) (λ bytes. IsClosedFile bytes × IsSomeAnd (e.bytes to) (λ old. (length old ≡ 0) ⊎ (length old ≡ length bytes))) (IsFoundIn found head)
      (λ bytes p q. let same : fields_of found.header ≡ p.0.0 = spelling-one (fields_of found.header) p.0.0 (take 512 bytes) q.has.spelled p.0.1.has.spelled in
      let closed : found.header.closed ≡ true = ap (λ (f : Fields). f.closed) same ∙ p.0.1.closed in let no : not true ≡ true = subst (λ b. not b ≡ true) closed in_use in cc) can.file is

-- ---- bytes

-- all bytes behind the first 512
part-behind : (size : ℕ) (bytes : List ℕ) → length bytes ≡ size → part bytes 512 (size - 512) ≡ drop 512 bytes
part-behind size bytes long = take_all (size - 512) (drop 512 bytes) (omega (arith, long, length-drop 512 bytes))

written-behind : {T F : Type 0} (result : Result T F) (size : ℕ) (head old y z : List ℕ) → 512 ≤ size → length head ≡ 512 → length y ≡ size → size ≡ length old → part y 512 (size - 512) ≡ part old 512 (size - 512) → WroteSome result 0 head y z →
    (length z ≡ length old) × (drop 512 z ≡ drop 512 old)
written-behind result size head old y z long many y_long old_long moved wrote =
    let left_long : length wrote.left ≡ 512 = wrote.as_many ∙ many in
    let at_end : 0 + length wrote.left ≡ 512 = omega (arith, left_long) in
    let behind : drop 512 (splice y 0 wrote.left) ≡ drop 512 y = subst (λ (n : ℕ). drop n (splice y 0 wrote.left) ≡ drop n y) at_end (drop-splice_end y 0 wrote.left (omega arith)) in (
      ap (λ (zs : List ℕ). length zs) wrote.others_stay ∙ (length-splice y 0 wrote.left (omega (arith, left_long, y_long, long)) ∙ (y_long ∙ old_long)),
      ap (λ (zs : List ℕ). drop 512 zs) wrote.others_stay ∙ (behind ∙ (sym (part-behind size y y_long) ∙ (moved ∙ part-behind size old (sym old_long)))),
    )

written-whole : {T : Type 0} (F : Type 0) (value : T) (size : ℕ) (head old y z : List ℕ) → 512 ≤ size → length head ≡ 512 → head ≡ take 512 old → length y ≡ size → size ≡ length old → part y 512 (size - 512) ≡ part old 512 (size - 512) →
    WroteSome {T = T} {E = F} (Ok value) 0 head y z → z ≡ old
written-whole {T = T} F value size head old y z long many head_is y_long old_long moved wrote =
    let is : z ≡ splice y 0 head = wrote.others_stay ∙ ap (λ (zs : List ℕ). splice y 0 zs) wrote.exact in
    let front : take 512 (splice y 0 head) ≡ head = subst (λ (n : ℕ). part (splice y 0 head) 0 n ≡ head) many (part-splice y 0 head (omega arith)) in
    let behind : drop 512 z ≡ drop 512 old = (written-behind {T = T} {F = F} (Ok value) size head old y z long many y_long old_long moved wrote).1 in
    sym (take-append-drop 512 z)
    ∙ (ap (λ (zs : List ℕ). zs ++ drop 512 z) (ap (λ (zs : List ℕ). take 512 zs) is ∙ (front ∙ head_is))
    ∙ (ap (λ (zs : List ℕ). take 512 old ++ zs) behind
    ∙ take-append-drop 512 old))

-- ---- told bytes

-- what is known of the file
abbrev pub IsFile : ℕ → List ℕ → List ℕ → Type 0
IsFile size head bytes = (size ≡ length bytes) × (head ≡ take 512 bytes)

pub file-of : (found : FoundHeader) (head : List ℕ) (told : Option (List ℕ)) → IfSome told (IsFoundIn found head) → IfSome told (IsFile found.size head)
file-of found head None is = tt
file-of found head (Some bytes) is = (is.size_is, is.head_is)

begun-long : (size : ℕ) (x w y : Option (List ℕ)) → Both x w (IsBegun size) → Both w y (IsSameBelow 512) → IfSome y (λ new. length new ≡ size)
begun-long size None None None p q = tt
begun-long size None None (Some y) p q = absurd q
begun-long size None (Some w) y p q = absurd p
begun-long size (Some x) None y p q = absurd p
begun-long size (Some x) (Some w) None p q = absurd q
begun-long size (Some x) (Some w) (Some y) p q = q.many ∙ p.many

begun-head : (size : ℕ) (x w y : Option (List ℕ)) → Both x w (IsBegun size) → Both w y (IsSameBelow 512) → Both x y (λ old new. take 512 new ≡ first_bytes old)
begun-head size None None None p q = tt
begun-head size None None (Some y) p q = absurd q
begun-head size None (Some w) y p q = absurd p
begun-head size (Some x) None y p q = absurd p
begun-head size (Some x) (Some w) None p q = absurd q
begun-head size (Some x) (Some w) (Some y) p q = q.same ∙ p.head

pub begun-range : (size : ℕ) (x w : Option (List ℕ)) → Both x w (IsBegun size) → HasRange w 0 size
begun-range size None None p = tt
begun-range size None (Some w) p = absurd p
begun-range size (Some x) None p = tt
begun-range size (Some x) (Some w) p = omega (arith, p.many)

head-room : (size : ℕ) (told : Option (List ℕ)) → 512 ≤ size → IfSome told (λ new. length new ≡ size) → HasRange told 0 512
head-room size None long is = tt
head-room size (Some new) long is = omega (arith, is, long)

last-told : {T F : Type 0} (result : Result T F) (size : ℕ) (head : List ℕ) (told y z : Option (List ℕ)) → 512 ≤ size → length head ≡ 512 → IfSome told (IsFile size head) → IfSome y (λ new. length new ≡ size) →
    IfBoth told y (λ old new. part new 512 (size - 512) ≡ part old 512 (size - 512)) → Wrote result 0 head y z → IfBoth told z (λ bytes new. (length new ≡ length bytes) × (drop 512 new ≡ drop 512 bytes))
last-told result size head None y z long many file y_long moved wrote = tt
last-told result size head (Some old) y None long many file y_long moved wrote = tt
last-told result size head (Some old) None (Some z) long many file y_long moved wrote = absurd wrote
last-told result size head (Some old) (Some y) (Some z) long many file y_long moved wrote = written-behind result size head old y z long many y_long file.0 moved wrote

whole-told : {T : Type 0} (F : Type 0) (value : T) (size : ℕ) (head : List ℕ) (told y z : Option (List ℕ)) → 512 ≤ size → length head ≡ 512 → IfSome told (IsFile size head) → IfSome y (λ new. length new ≡ size) →
    IfBoth told y (λ old new. part new 512 (size - 512) ≡ part old 512 (size - 512)) → Wrote {T = T} {E = F} (Ok value) 0 head y z → IfBoth told z (λ bytes new. new ≡ bytes)
whole-told F value size head None y z long many file y_long moved wrote = tt
whole-told F value size head (Some old) y None long many file y_long moved wrote = tt
whole-told F value size head (Some old) None (Some z) long many file y_long moved wrote = absurd wrote
whole-told F value size head (Some old) (Some y) (Some z) long many file y_long moved wrote = written-whole F value size head old y z long many file.1 y_long file.0 moved wrote

many-told : (size : ℕ) (head : List ℕ) (told y : Option (List ℕ)) → IfSome told (IsFile size head) → IfSome y (λ new. length new ≡ size) → IfBoth told y (λ bytes new. length new ≡ length bytes)
many-told size head None y file y_long = tt
many-told size head (Some old) None file y_long = tt
many-told size head (Some old) (Some y) file y_long = y_long ∙ file.0

had-told : (size : ℕ) (head : List ℕ) (told x : Option (List ℕ)) → IfSome told (IsFile size head) → IfSome x (λ old. (length old ≡ 0) ⊎ (length old ≡ size)) → IfBoth told x (λ bytes old. (length old ≡ 0) ⊎ (length old ≡ length bytes))
had-told size head None x file was = tt
had-told size head (Some old) None file was = tt
had-told size head (Some old) (Some x) file was = elim was [ inl none ↦ inl none | inr same ↦ inr (same ∙ file.0) ]

few-told : (size : ℕ) (head : List ℕ) (told : Option (List ℕ)) → 512 ≤ size → IfSome told (IsFile size head) → IfSome told (λ bytes. pieces_of size ≤ pieces_of (max 512 (length bytes)))
few-told size head None long file = tt
few-told size head (Some old) long file = let e : size ≡ max 512 (length old) = omega (arith, file.0, long) in subst (λ (n : ℕ). pieces_of size ≤ pieces_of n) e (omega arith)

-- ---- the rebuild

module _ {D E : Type 0} (d : device.Ghosts D) (e : device.Ghosts E) (from mid now : D) (to other last : E) (found : FoundHeader) (head : List ℕ) (many : length head ≡ 512) (closed : not found.header.closed ≡ false)
    (seen : IsSeen d from (IsFoundIn found head) 1 1 mid) (spelled : IsSpelled found head) (keeps : d.kept mid ≡ d.kept from) (ready : IsReady e found.size to other)
    (below : Both (e.bytes other) (e.bytes last) (IsSameBelow 512)) (only : OnlyMoves d e mid now other last (pieces_of found.size - 1)) where
  long : 512 ≤ found.size
  long = found-long found head spelled

  file : IfSome (d.bytes from) (IsFile found.size head)
  file = file-of found head (d.bytes from) seen.why_is

  was : IfSome (d.bytes from) IsClosedFile
  was = found-closed found head (d.bytes from) closed seen.why_is

  had : IfBoth (d.bytes from) (e.bytes to) (λ bytes old. (length old ≡ 0) ⊎ (length old ≡ length bytes))
  had = had-told found.size head (d.bytes from) (e.bytes to) file ready.was

  pub copying-failed : (fault : DeviceFault) → Moves d e mid now other last 512 (found.size - 512) (Err fault) → Rebuilds d e from now to last (Err Device)
  copying-failed fault moves = inr (inr (inl (record {
    was = was;
    had = had;
    cause = elim moves [
      | inl mine ↦ inl (rose-after (d.counts from).faults (d.counts mid).faults (d.counts now).faults seen.no_fault mine)
      | inr others ↦ inr (rose-after (e.counts to).faults (e.counts other).faults (e.counts last).faults ready.no_fault others)
    ];
    many = many-told found.size head (d.bytes from) (e.bytes last) file (begun-long found.size (e.bytes to) (e.bytes other) (e.bytes last) ready.begun below);
    head = begun-head found.size (e.bytes to) (e.bytes other) (e.bytes last) ready.begun below;
    few_others = (let first = ready.spends.others_rise in let none = only.other_spends.others_rise in omega (arith, first, none));
  })))

  pub copied-so_far : OnlyCopied d e from now to last
  copied-so_far = record {
    pieces = pieces_of found.size;
    few = few-told found.size head (d.bytes from) long file;
    bytes_stay = only.bytes_stay ∙ seen.bytes_stay;
    kept = only.kept ∙ keeps;
    spends = spends-then seen.spends only.spends (omega (arith, long)) (omega arith) (omega arith);
    other_kept = only.other_kept ∙ ready.kept;
    other_spends = spends-then ready.spends only.other_spends (omega arith) (omega arith) (omega arith);
  }

  pub room : HasRange (e.bytes last) 0 512
  room = head-room found.size (e.bytes last) long (begun-long found.size (e.bytes to) (e.bytes other) (e.bytes last) ready.begun below)

  module _ (end : E) (moved : IsMoved d e mid now other last 512 (found.size - 512)) (result : Result (Unit {0}) DeviceFault) (wrote : Wrote result 0 head (e.bytes last) (e.bytes end)) (called : Called (e.counts last) (e.counts end) 0 1 1 result) (last_kept : e.kept end ≡ e.kept last) where
    same : IfBoth (d.bytes from) (e.bytes last) (λ old new. part new 512 (found.size - 512) ≡ part old 512 (found.size - 512))
    same = subst (λ (t : Option (List ℕ)). IfBoth t (e.bytes last) (λ old new. part new 512 (found.size - 512) ≡ part old 512 (found.size - 512))) seen.bytes_stay moved.same

    pub copied-all : OnlyCopied d e from now to end
    copied-all = record {
      pieces = pieces_of found.size;
      few = few-told found.size head (d.bytes from) long file;
      bytes_stay = only.bytes_stay ∙ seen.bytes_stay;
      kept = only.kept ∙ keeps;
      spends = spends-then seen.spends only.spends (omega (arith, long)) (omega arith) (omega arith);
      other_kept = last_kept ∙ (only.other_kept ∙ ready.kept);
      other_spends = spends-then (spends-then ready.spends only.other_spends (let e : 0 + 0 ≤ 0 = omega arith in e) (let e : 0 + (pieces_of found.size - 1) ≤ pieces_of found.size - 1 = omega arith in e) (let e : ready_calls (e.bytes to) + 0 ≤ ready_calls (e.bytes to) = omega arith in e)) (called-spends called) (omega arith) (omega (arith, long)) (omega arith);
    }

  pub last-failed : (end : E) (fault : DeviceFault) → IsMoved d e mid now other last 512 (found.size - 512) → Wrote {T = Unit {0}} {E = DeviceFault} (Err fault) 0 head (e.bytes last) (e.bytes end) → Called {T = Unit {0}} {E = DeviceFault} (e.counts last) (e.counts end) 0 1 1 (Err fault) →
      Rebuilds d e from now to end (Err Device)
  last-failed end fault moved wrote called = inr (inr (inr (record {
    was = was;
    had = had;
    cause = rose-after (e.counts to).faults (e.counts last).faults (e.counts end).faults (moved.other_no_fault ∙ ready.no_fault) called.cause;
    no_fault = moved.no_fault ∙ seen.no_fault;
    behind = last-told {T = Unit {0}} {F = DeviceFault} (Err fault) found.size head (d.bytes from) (e.bytes last) (e.bytes end) long many file (begun-long found.size (e.bytes to) (e.bytes other) (e.bytes last) ready.begun below)
        (subst (λ (t : Option (List ℕ)). IfBoth t (e.bytes last) (λ old new. part new 512 (found.size - 512) ≡ part old 512 (found.size - 512))) seen.bytes_stay moved.same) wrote;
  })))

  pub all-done : (end : E) (value : Unit {0}) → IsMoved d e mid now other last 512 (found.size - 512) → Wrote {T = Unit {0}} {E = DeviceFault} (Ok value) 0 head (e.bytes last) (e.bytes end) → IsSettled e end →
      Called {T = Unit {0}} {E = DeviceFault} (e.counts last) (e.counts end) 0 1 1 (Ok value) → Rebuilds d e from now to end (Ok tt)
  all-done end value moved wrote settled called = record {
    was = was;
    had = had;
    same = whole-told DeviceFault value found.size head (d.bytes from) (e.bytes last) (e.bytes end) long many file (begun-long found.size (e.bytes to) (e.bytes other) (e.bytes last) ready.begun below)
        (subst (λ (t : Option (List ℕ)). IfBoth t (e.bytes last) (λ old new. part new 512 (found.size - 512) ≡ part old 512 (found.size - 512))) seen.bytes_stay moved.same) wrote;
    settled = settled;
    no_fault = moved.no_fault ∙ seen.no_fault;
    other_no_fault = called.none_hidden ∙ (moved.other_no_fault ∙ ready.no_fault);
  }
