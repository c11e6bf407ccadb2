-- An upgrade, put together of its steps.
use Rattle.std.proofs.Common.{◌≡◌, ℕ, ◌+◌, ◌*◌, ◌<◌, ◌≤◌, inl, inr, true, false, List, length, take, replicate, Option, Some, None, Result, Ok, Err, refl, sym, ap, subst, ◌∙◌, arith}
use Rattle.std.specs.Prelude.{IfSome, IsSomeAnd}
use Rattle.std.proofs.lemmas.List.{length-replicate, take-replicate}
use Rattle.cola_cell.specs.declared.format.Format.{Format}
use Rattle.cola_cell.specs.declared.format.Format.TheVariants.{One, Two}
use Rattle.cola_device.specs.declared.counts.Counts.{Counts}
use Rattle.cola_device.specs.declared.device.Device as device
use Rattle.cola_device.specs.Bytes.{HasRange}
use Rattle.cola_layout.specs.declared.header.Header.{Header}
use Rattle.cola_layout.specs.Fields.{fields_of}
use Rattle.cola_layout.specs.Header.{Fields, IsSpelling}
use Rattle.cola_layout.proofs.Refusing.{spelling-one}
use Rattle.cola_opening.specs.Counted.{Spends}
use Rattle.cola_opening.specs.Judged.{file_size, IsSmall, IsNoStore}
use Rattle.cola_opening.proofs.Sizes.{header_fits}
use Rattle.cola_spec.specs.Map.{Map}
use Rattle.cola_image.specs.Standing.{HeaderStandsFor}
use Rattle.cola_wide.specs.declared.fault.UpgradeFault.{UpgradeFault}
use Rattle.cola_wide.specs.declared.fault.UpgradeFault.TheVariants.{Small, NotStore, Already, NotClosed, OutOfMemory, NotEmpty, Device, BadCell}
use Rattle.cola_wide.specs.Copied.{cells_of, block_count, wide_size, with_version, IsLowestBad, IsBegun, IsFilled, IsCopyOf}
use Rattle.cola_cell.specs.Format.{width}
use Rattle.cola_wide.specs.Upgrade.{IsClosedFile, IsWide, IsInUse, IsFound, FindsClosed, LaysOut, IsLaidOut, HadBytes, reading_others, laying_others, writing_others, FailedCopying, FailedLast, CopiesAll, WasBegun, IsWhole, Upgrades, CanBeUpgraded, IsDoneForMemory}
use Rattle.cola_wide.proofs.Told.{some-then, some-both}
use Rattle.cola_wide.proofs.Header.{copy-of, stands-not_bad}
use Rattle.cola_wide.proofs.Writes.{span-some, span-within}
use Rattle.cola_wide.proofs.Steps.{found-map, all-later}

-- ---- refusals

module _ {D E : Type 0} (d : device.Ghosts D) (e : device.Ghosts E) (from mid : D) (to : E) where
  pub not-found : (head : List ℕ) (fault : UpgradeFault) → FindsClosed d from mid head (Err fault) → Upgrades d e from mid to to (Err fault)
  not-found head Small found = record { source = found; untouched = refl }
  not-found head NotStore found = record { source = found; untouched = refl }
  not-found head Already found = record { source = found; untouched = refl }
  not-found head NotClosed found = record { source = found; untouched = refl }
  not-found head OutOfMemory found = absurd found
  not-found head NotEmpty found = absurd found
  not-found head Device found = inl (record { source = found; untouched = refl })
  not-found head (BadCell number) found = absurd found

  module _ (header : Header) (head : List ℕ) (found : IsFound d from mid (λ bytes. IsClosedFile (fields_of header) bytes × (head ≡ take 512 bytes)) 1 reading_others) where
    closed : IsFound d from mid (IsClosedFile (fields_of header)) 1 reading_others
    closed = found-map d from mid (λ bytes. IsClosedFile (fields_of header) bytes × (head ≡ take 512 bytes)) (IsClosedFile (fields_of header)) 1 reading_others (λ bytes both. both.0) found

    pub no-memory : Upgrades d e from mid to to (Err OutOfMemory)
    no-memory = (header, record { source = closed; untouched = refl })

    pub not-laid : (other : E) (size : ℕ) (fault : UpgradeFault) → size ≡ wide_size (fields_of header) → LaysOut e size to other (Err fault) → Upgrades d e from mid to other (Err fault)
    not-laid other size Small is laid = absurd laid
    not-laid other size NotStore is laid = absurd laid
    not-laid other size Already is laid = absurd laid
    not-laid other size NotClosed is laid = absurd laid
    not-laid other size OutOfMemory is laid = absurd laid
    not-laid other size NotEmpty is laid = (header, record { source = closed; had = subst (λ (n : ℕ). HadBytes e n to other) is laid })
    not-laid other size Device is laid = inr (header, inl (record { source = closed; failed = subst (λ (n : ℕ). LaysOut e n to other (Err Device)) is laid }))
    not-laid other size (BadCell number) is laid = absurd laid

    -- ---- the copying

    module _ (now : D) (other last : E) (two : List ℕ) (stay : d.bytes mid ≡ d.bytes from) (laid : IsLaidOut e (wide_size (fields_of header)) to other) (one : header.geometry.format ≡ One) (version : two ≡ with_version 2 head) where
      was : IfSome (d.bytes from) (IsClosedFile (fields_of header))
      was = closed.why_is

      begun-by : (copy : Type 0) → copy → WasBegun d e from now to last (fields_of header) copy
      begun-by copy is = record { was = was; was_empty = laid.was_empty; copy_is = is }

      copies : (old : List ℕ) → IsClosedFile (fields_of header) old × (head ≡ take 512 old) → IfSome (e.bytes last) (λ new. length new ≡ wide_size (fields_of header)) → IfSome (e.bytes last) (IsFilled (fields_of header) two old) →
          IfSome (e.bytes last) (IsCopyOf (fields_of header) old)
      copies old both size filled =
          some-both (λ new. length new ≡ wide_size (fields_of header)) (IsFilled (fields_of header) two old) (IsCopyOf (fields_of header) old) (e.bytes last)
          (λ new long whole. copy-of (fields_of header) two old new one both.0.has.spelled (version ∙ ap (λ (xs : List ℕ). with_version 2 xs) both.1) long whole) size filled

      put-together : (result : Result (Unit {0}) UpgradeFault) → CopiesAll d e (fields_of header) from now to last two (block_count (fields_of header) + 2) reading_others (block_count (fields_of header)) laying_others result → Upgrades d e from now to last result
      put-together (Ok value) all = (
        header,
        begun-by (IsWhole d e from now to last (fields_of header)) (record {
          source = all.source;
          size = all.size;
          copy = some-both (λ bytes. IsClosedFile (fields_of header) bytes × (head ≡ take 512 bytes)) (λ old. IfSome (e.bytes last) (IsFilled (fields_of header) two old)) (λ old. IfSome (e.bytes last) (IsCopyOf (fields_of header) old)) (d.bytes from)
              (λ old both filled. copies old both all.size filled) found.why_is all.filled;
          settled = all.settled;
          writes_are = all.writes_are;
          no_fault = all.no_fault;
        }),
      )
      put-together (Err Small) all = absurd all
      put-together (Err NotStore) all = absurd all
      put-together (Err Already) all = absurd all
      put-together (Err NotClosed) all = absurd all
      put-together (Err OutOfMemory) all = absurd all
      put-together (Err NotEmpty) all = absurd all
      put-together (Err Device) all = inr (
        header,
        inr (elim all [
          | inl copying ↦ inl (begun-by (FailedCopying d e (fields_of header) from now to last (block_count (fields_of header) + 2) reading_others (block_count (fields_of header)) laying_others) copying)
          | inr written ↦ inr (begun-by (FailedLast d e (fields_of header) from now to last (block_count (fields_of header) + 2) reading_others (block_count (fields_of header)) writing_others) written)
        ]),
      )
      put-together (Err (BadCell number)) all = (header, begun-by _ all)

      pub upgraded : (result : Result (Unit {0}) UpgradeFault) → CopiesAll d e (fields_of header) mid now other last two (block_count (fields_of header) + 1) 0 (block_count (fields_of header)) 0 result → Upgrades d e from now to last result
      upgraded result all =
          put-together result
          (all-later d e (fields_of header) from mid now to other last (IsClosedFile (fields_of header)) two 1 (block_count (fields_of header) + 1) (block_count (fields_of header) + 2) reading_others 0 (block_count (fields_of header)) (block_count (fields_of header)) laying_others
          (omega arith) (omega arith) closed stay laid.counts laid.no_fault result all)

-- ---- what an upgrade may answer where all is well

-- a device that makes no write has as many as before
none-written : {before now : Counts} {reads others : ℕ} → Spends before now reads 0 others → now.writes ≡ before.writes
none-written spends = omega (arith, spends.writes_stay, spends.writes_rise)

-- the device that is read is not written
pub no-write : {D E : Type 0} (d : device.Ghosts D) (e : device.Ghosts E) (from now : D) (to last : E) (result : Result (Unit {0}) UpgradeFault) → Upgrades d e from now to last result → (d.counts now).writes ≡ (d.counts from).writes
no-write d e from now to last (Ok value) is = none-written is.1.copy_is.source.counts
no-write d e from now to last (Err Small) is = none-written is.source.counts
no-write d e from now to last (Err NotStore) is = none-written is.source.counts
no-write d e from now to last (Err Already) is = none-written is.source.counts
no-write d e from now to last (Err NotClosed) is = none-written is.source.counts
no-write d e from now to last (Err OutOfMemory) is = none-written is.1.source.counts
no-write d e from now to last (Err NotEmpty) is = none-written is.1.source.counts
no-write d e from now to last (Err Device) is = elim is [
  | inl first ↦ none-written first.source.counts
  | inr later ↦ elim later.1 [
    | inl layout ↦ none-written layout.source.counts
    | inr copying ↦ elim copying [ inl before ↦ none-written before.copy_is.reads_are | inr written ↦ none-written written.copy_is.source.counts ]
  ]
]
no-write d e from now to last (Err (BadCell number)) is = none-written is.1.copy_is.source.counts

-- a file that stands for a map in format One
abbrev StandsInOne : Map → List ℕ → Type 0
StandsInOne m bytes = (header : Fields) × (HeaderStandsFor header bytes m × (header.format ≡ One))

told-apart : (told : Option (List ℕ)) (P Q : List ℕ → Type 0) → ((bytes : List ℕ) → P bytes → Q bytes → ⊥) → IsSomeAnd told P → IfSome told Q → ⊥
told-apart None P Q apart p q = p
told-apart (Some bytes) P Q apart p q = apart bytes p q

same-header : (bytes : List ℕ) (m : Map) (other : Fields) → (s : StandsInOne m bytes) → IsSpelling other (take 512 bytes) → other ≡ s.0
same-header bytes m other s spelled = spelling-one other s.0 (take 512 bytes) spelled s.1.0.spelled

not-small : (m : Map) (bytes : List ℕ) → StandsInOne m bytes → IsSmall bytes → ⊥
not-small m bytes s (inl short) =
    omega (arith, short, s.1.0.whole, header_fits s.0.format s.0.bottom s.1.0.spelled.sound.bottom_fits.three)
not-small m bytes s (inr (header, (spelled, few))) =
    let small : length bytes < file_size s.0.format s.0.bottom = subst (λ (f : Fields). length bytes < file_size f.format f.bottom) (same-header bytes m header s spelled) few in
    omega (arith, small, s.1.0.whole)

not-none : (m : Map) (bytes : List ℕ) → StandsInOne m bytes → IsNoStore bytes → ⊥
not-none m bytes s none = none.none s.0 s.1.0.spelled

one-two : One ≡ Two → ⊥
one-two e = cc

true-false : true ≡ false → ⊥
true-false e = cc

not-wide : (m : Map) (bytes : List ℕ) → StandsInOne m bytes → IsWide bytes → ⊥
not-wide m bytes s (header, (has, two)) = one-two (sym s.1.1 ∙ ap (λ (f : Fields). f.format) (sym (same-header bytes m header s has.spelled)) ∙ two)

not-in_use : (m : Map) (bytes : List ℕ) → StandsInOne m bytes → IsInUse bytes → ⊥
not-in_use m bytes s (header, (has, (one, open_state))) = true-false (sym s.1.0.closed ∙ ap (λ (f : Fields). f.closed) (sym (same-header bytes m header s has.spelled)) ∙ open_state)

not-bad_cell : (m : Map) (header : Fields) (number : ℕ) (bytes : List ℕ) → StandsInOne m bytes → IsClosedFile header bytes → IsLowestBad header 0 number bytes → ⊥
not-bad_cell m header number bytes s was bad =
    stands-not_bad header bytes m number was.narrow (subst (λ (f : Fields). HeaderStandsFor f bytes m) (sym (same-header bytes m header s was.has.spelled)) s.1.0) bad.bad

told-three : (told : Option (List ℕ)) (P Q R : List ℕ → Type 0) → ((bytes : List ℕ) → P bytes → Q bytes → R bytes → ⊥) → IsSomeAnd told P → IfSome told Q → IfSome told R → ⊥
told-three None P Q R apart p q r = p
told-three (Some bytes) P Q R apart p q r = apart bytes p q r

pub done : {D E : Type 0} (d : device.Ghosts D) (e : device.Ghosts E) (from now : D) (to last : E) (result : Result (Unit {0}) UpgradeFault) (m : Map) → Upgrades d e from now to last result → CanBeUpgraded d e from now to last m → IsDoneForMemory result
done d e from now to last (Ok value) m is can = tt
done d e from now to last (Err Small) m is can = told-apart (d.bytes from) (StandsInOne m) IsSmall (not-small m) can.stands is.source.why_is
done d e from now to last (Err NotStore) m is can = told-apart (d.bytes from) (StandsInOne m) IsNoStore (not-none m) can.stands is.source.why_is
done d e from now to last (Err Already) m is can = told-apart (d.bytes from) (StandsInOne m) IsWide (not-wide m) can.stands is.source.why_is
done d e from now to last (Err NotClosed) m is can = told-apart (d.bytes from) (StandsInOne m) IsInUse (not-in_use m) can.stands is.source.why_is
done d e from now to last (Err OutOfMemory) m is can = tt
done d e from now to last (Err NotEmpty) m is can = told-apart (e.bytes to) (λ bytes. length bytes ≡ 0) (λ bytes. 0 < length bytes) (λ bytes none some. omega (arith, none, some)) can.empty is.1.had.some
done d e from now to last (Err Device) m is can = elim is [
  | inl first ↦ can.calm first.source.cause
  | inr later ↦ elim later.1 [
    | inl layout ↦ can.other_calm layout.failed.cause
    | inr copying ↦ elim copying [
      | inl before ↦ elim before.copy_is.cause [ inl mine ↦ can.calm mine | inr others ↦ can.other_calm others ]
      | inr written ↦ can.other_calm written.copy_is.cause
    ]
  ]
]
done d e from now to last (Err (BadCell number)) m is can =
    told-three (d.bytes from) (StandsInOne m) (IsClosedFile (fields_of is.0)) (IsLowestBad (fields_of is.0) 0 number) (λ bytes s was bad. not-bad_cell m (fields_of is.0) number bytes s was bad) can.stands is.1.was is.1.copy_is.source.why_is

-- ---- what the copying asks

pub closed-range : (header : Fields) (head : List ℕ) (told mid : Option (List ℕ)) → header.format ≡ One → mid ≡ told → IfSome told (λ bytes. IsClosedFile header bytes × (head ≡ take 512 bytes)) → HasRange mid 0 (64 * cells_of header)
closed-range header head told mid one stay found =
    subst (λ (t : Option (List ℕ)). HasRange t 0 (64 * cells_of header)) (sym stay)
    (some-then (λ bytes. IsClosedFile header bytes × (head ≡ take 512 bytes)) (λ bytes. 0 + 64 * cells_of header ≤ length bytes) told
    (λ bytes both. let size : 64 * cells_of header ≤ length bytes = subst (λ (f : Format). width f * cells_of header ≤ length bytes) one both.0.has.whole in omega (arith, size)) found)

pub begun-laid : (header : Header) (told : Option (List ℕ)) → IfSome told (λ new. new ≡ replicate (wide_size (fields_of header)) 0) → IfSome told (IsBegun (fields_of header))
begun-laid header told zero =
    let long : 512 ≤ wide_size (fields_of header) = omega (arith, span-some header, span-within header) in
    some-then (λ new. new ≡ replicate (wide_size (fields_of header)) 0) (IsBegun (fields_of header)) told
    (λ new is. record {
      size = ap (λ (xs : List ℕ). length xs) is ∙ length-replicate (wide_size (fields_of header)) 0;
      no_header = ap (λ (xs : List ℕ). take 512 xs) is ∙ take-replicate 512 (wide_size (fields_of header)) 0 long;
    }) zero
