-- What growing a file answers, by what copying its pairs answered, and what follows from it.
use Rattle.std.proofs.Common.{◌≡◌, inr, ℕ, ◌+◌, ◌≤◌, true, List, Option, Result, Ok, Err, subst, arith, ◌⊎◌, inl, ◌<◌, false, [], length, take, Some, refl, sym, ap, ◌∙◌, None, unwrap_or}
use Rattle.std.specs.Prelude.{option_map, IfSome, IsSomeAnd}
use Rattle.cola_device.specs.declared.device.Device as device
use Rattle.cola_layout.specs.declared.geometry.Geometry.{Geometry}
use Rattle.cola_layout.specs.declared.header.Header.{Header}
use Rattle.cola_layout.specs.Fields.{fields_of}
use Rattle.cola_opening.specs.Judged.{IsSeen, IsClosedWith, file_size, IsSmall, IsNoStore, IsInUse}
use Rattle.cola_opening.proofs.Spending.{spends-then}
use Rattle.cola_run.specs.Store.{beside, Beside}
use Rattle.cola_load.specs.declared.fault.GrowFault.{GrowFault}
use Rattle.cola_load.specs.declared.fault.GrowFault.TheVariants.{Small, NotStore, NotClosed, Fewer, OutOfMemory, BadCell, NotEmpty, Disorder, Device}
use Rattle.cola_load.specs.Growing.{BothCalm}
use Rattle.cola_load.specs.Grow as grow
use Rattle.cola_load.specs.Grow.{IsFor, Copies, IsSpent, HasCopied, Grows, grow_reads, HasKeys, IsForNone, IsLeftHeadless, HasStopped, Uncalled, NotBegun, Headless, NotFinished, MayHaveHeader, IsCountOrFull, IsFileOf}
use Rattle.std.specs.FinMap as finite
use Rattle.std.proofs.lemmas.List.{length-map}
use Rattle.cola_cell.specs.Format.{stamp_limit}
use Rattle.cola_image.specs.Standing.{HeaderStandsFor}
use Rattle.cola_layout.specs.Header.{Fields}
use Rattle.cola_layout.proofs.Refusing.{spelling-one}
use Rattle.cola_opening.proofs.Sizes.{header_fits}
use Rattle.cola_outside.specs.Faults.{Rose}
use Rattle.cola_spec.specs.Map.{Map, count}
use Rattle.cola_shapes.specs.Shapes.{shape_of}
use Rattle.cola_load.specs.Filled.{Row, AreRows, IsFilled, rows_of, row_of_entry, map_of, filled_header}
use Rattle.cola_load.proofs.FilledLevels.{filled-stands}
use Rattle.cola_load.proofs.FilledMaps.{map-again}
use Rattle.cola_outside.specs.Told.{Both}
use Rattle.cola_load.specs.GrowLaws.{IsCopiedWithin, CopySays, Copied, GrowSays}
use Rattle.cola_run.proofs.Spots.{both-so}

module _ {D E : Type 0} (d : device.Ghosts D) (e : device.Ghosts E) (from mid now : D) (to to_now : E) (ticks ticks_now keys block_exp : ℕ) where
  of-copied : (result : Result ℕ GrowFault) → HasCopied d e from now to to_now ticks ticks_now keys block_exp result → Grows d e from now to to_now ticks ticks_now keys block_exp result
  of-copied (Err Small) h = absurd h.copies
  of-copied (Err NotStore) h = absurd h.copies
  of-copied (Err NotClosed) h = absurd h.copies
  of-copied (Err (Fewer count)) h = absurd h.copies
  of-copied (Err Device) h = inr h
  of-copied result h = h

  pub grown : (header : Header) (geometry : Geometry) (result : Result ℕ GrowFault) → IsSeen d from (IsClosedWith (fields_of header)) 1 1 mid → header.closed ≡ true → header.count ≤ keys →
      IsFor keys block_exp header.geometry.format geometry → Copies e header geometry (d.bytes mid) to to_now result →
      BothCalm (d.counts mid).faults (d.counts now).faults (e.counts to).faults (e.counts to_now).faults result → IsSpent d e mid now to to_now ticks ticks_now 0 header.geometry.bottom geometry result →
      option_map (beside header.geometry) (d.bytes now) ≡ option_map (beside header.geometry) (d.bytes mid) →
      Grows d e from now to to_now ticks ticks_now keys block_exp result
  grown header geometry result seen closed few is_for copies faults spent beside_stays =
      of-copied result (record {
        header = header;
        geometry = geometry;
        was = seen.why_is;
        closed = closed;
        few = few;
        is_for = is_for;
        copies = subst (λ (told : Option (List ℕ)). Copies e header geometry told to to_now result) seen.bytes_stay copies;
        faults = subst (λ (n : ℕ). BothCalm n (d.counts now).faults (e.counts to).faults (e.counts to_now).faults result) seen.no_fault faults;
        beside_stays = subst (λ (told : Option (List ℕ)). option_map (beside header.geometry) (d.bytes now) ≡ option_map (beside header.geometry) told) seen.bytes_stay beside_stays;
        spent = record {
          steps_stay = spent.steps_stay;
          few_ticks = spent.few_ticks;
          spends = spends-then seen.spends spent.spends (let l : 1 + (0 + grow_reads header.geometry.bottom) ≤ 1 + grow_reads header.geometry.bottom = omega arith in l) (omega arith) (omega arith);
          other_spends = spent.other_spends;
        };
      })

-- ---- what follows from the answer of growing a file

told : (t : Option (List ℕ)) (bytes : List ℕ) (P : List ℕ → Type 0) → t ≡ Some bytes → IfSome t P → P bytes
told t bytes P is p = subst (λ (o : Option (List ℕ)). IfSome o P) is p

rows-many : (m : Map) → length (rows_of m) ≡ count m
rows-many m = length-map (finite.entries m.entries) row_of_entry ∙ sym (finite.len-entries m.entries)

-- ---- the file that stands for a map is none that is refused

module _ (header : Fields) (bytes : List ℕ) (m : Map) (stands : HeaderStandsFor header bytes m) where
  same-header : (other : Fields) → IsClosedWith other bytes → header ≡ other
  same-header other closed = spelling-one header other (take 512 bytes) stands.spelled closed.has.spelled

  not-small : IsSmall bytes → ⊥
  not-small (inl short) =
      omega (arith, short, stands.whole, header_fits header.format header.bottom stands.spelled.sound.bottom_fits.three)
  not-small (inr (other, (spelled, few))) =
      let whole : file_size other.format other.bottom ≤ length bytes = subst (λ (f : Fields). file_size f.format f.bottom ≤ length bytes) (spelling-one header other (take 512 bytes) stands.spelled spelled) stands.whole in
      omega (arith, few, whole)

  not-in_use : IsInUse bytes → ⊥
  not-in_use is =
      let no : true ≡ false = sym stands.closed ∙ (ap (λ (f : Fields). f.closed) (spelling-one header is.0 (take 512 bytes) stands.spelled is.1.0.spelled) ∙ is.1.1) in cc

  not-fewer : (keys fewer : ℕ) → count m ≤ keys → keys < fewer → HasKeys fewer bytes → ⊥
  not-fewer keys fewer few more has =
      let is : header.count ≡ fewer = ap (λ (f : Fields). f.count) (same-header has.0 has.1.0) ∙ has.1.1 in
      omega (arith, stands.counted, is, few, more)

  module _ {D E : Type 0} (d : device.Ghosts D) (e : device.Ghosts E) (from from_now : D) (to to_now : E) (ticks ticks_now keys block_exp : ℕ) (from-is : d.bytes from ≡ Some bytes) where
    stands-here : (result : Result ℕ GrowFault) (h : HasCopied d e from from_now to to_now ticks ticks_now keys block_exp result) → HeaderStandsFor (fields_of h.header) bytes m
    stands-here result h =
        subst (λ (f : Fields). HeaderStandsFor f bytes m) (same-header (fields_of h.header) (told (d.bytes from) bytes (IsClosedWith (fields_of h.header)) from-is h.was)) stands

    the-rows : (answer : ℕ) (h : HasCopied d e from from_now to to_now ticks ticks_now keys block_exp (Ok answer)) → h.copies.0 ≡ rows_of m
    the-rows answer h =
        told (d.bytes from) bytes (λ bytes. (m : Map) → HeaderStandsFor (fields_of h.header) bytes m → h.copies.0 ≡ rows_of m) from-is h.copies.1.map_is m (stands-here (Ok answer) h)

    the-count : (answer : ℕ) → HasCopied d e from from_now to to_now ticks ticks_now keys block_exp (Ok answer) → answer ≡ count m
    the-count answer h = h.copies.1.count_is ∙ (ap (λ (rows : List Row). length rows) (the-rows answer h) ∙ rows-many m)

    pub grown-stands : (answer : ℕ) (new : List ℕ) → e.bytes to_now ≡ Some new → HasCopied d e from from_now to to_now ticks ticks_now keys block_exp (Ok answer) →
        IsFileOf keys block_exp header.format m new × (answer ≡ count m)
    grown-stands answer new new-is h =
        let here = stands-here (Ok answer) h in
        let rows = h.copies.0 in
        let same : h.header.geometry.format ≡ header.format = ap (λ (f : Fields). f.format) (sym (same-header (fields_of h.header) (told (d.bytes from) bytes (IsClosedWith (fields_of h.header)) from-is h.was))) in
        let limit : h.header.last ≤ stamp_limit h.geometry.format = subst (λ f. h.header.last ≤ stamp_limit f) (sym h.is_for.format_is) h.header.last_fits in
        let are : AreRows (shape_of h.geometry.format h.geometry.keys) h.header.last rows = told (e.bytes to_now) new (λ bytes. AreRows (shape_of h.geometry.format h.geometry.keys) h.header.last rows) new-is h.copies.1.are_rows in
        let filled : IsFilled h.geometry h.header.last rows new = told (e.bytes to_now) new (λ bytes. IsFilled h.geometry h.header.last rows bytes) new-is h.copies.1.filled in
        let many : length rows ≡ count m = ap (λ (rs : List Row). length rs) (the-rows answer h) ∙ rows-many m in
        let map-is : map_of h.header.last rows ≡ m = ap (λ (n : ℕ). map_of n rows) here.numbered ∙ (ap (λ (rs : List Row). map_of m.last rs) (the-rows answer h) ∙ map-again m) in (
          record {
            geometry = h.geometry;
            is_for = record { keys_are = h.is_for.keys_are; block_is = h.is_for.block_is; format_is = h.is_for.format_is ∙ same };
            stands =
                subst (λ (x : Map). HeaderStandsFor (filled_header h.geometry m.last (count m)) new x) map-is
                (subst (λ (n : ℕ). HeaderStandsFor (filled_header h.geometry n (count m)) new (map_of h.header.last rows)) here.numbered
                (subst (λ (n : ℕ). HeaderStandsFor (filled_header h.geometry h.header.last n) new (map_of h.header.last rows)) many (filled-stands h.geometry h.header.last rows new limit are filled)));
          },
          the-count answer h,
        )

    module _ (few : count m ≤ keys) (to-is : e.bytes to ≡ Some []) (calm : ¬ Rose (d.counts from).faults (d.counts from_now).faults) (other-calm : ¬ Rose (e.counts to).faults (e.counts to_now).faults) where
      pub completes : (result : Result ℕ GrowFault) → Grows d e from from_now to to_now ticks ticks_now keys block_exp result → IsCountOrFull (count m) result
      completes (Ok answer) h = the-count answer h
      completes (Err Small) h = not-small (told (d.bytes from) bytes IsSmall from-is h.seen.why_is)
      completes (Err NotStore) h = (told (d.bytes from) bytes IsNoStore from-is h.seen.why_is).none header stands.spelled
      completes (Err NotClosed) h = not-in_use (told (d.bytes from) bytes IsInUse from-is h.seen.why_is)
      completes (Err (Fewer fewer)) h = not-fewer keys fewer few h.1 (told (d.bytes from) bytes (HasKeys fewer) from-is h.0.seen.why_is)
      completes (Err OutOfMemory) h = tt
      completes (Err (BadCell number)) h = told (d.bytes from) bytes (IsForNone h.header) from-is h.copies.no_map m (stands-here (Err (BadCell number)) h)
      completes (Err NotEmpty) h = let some : 0 < length {A = ℕ} [] = told (e.bytes to) [] (λ bytes. 0 < length bytes) to-is h.copies.was in omega (arith, some)
      completes (Err (Disorder number)) h = told (d.bytes from) bytes (IsForNone h.header) from-is h.copies.no_map m (stands-here (Err (Disorder number)) h)
      completes (Err Device) (inl h) = calm h.failed.cause
      completes (Err Device) (inr h) = elim h.faults [
        | inl rose ↦ calm rose
        | inr rose ↦ other-calm rose
      ]

-- ---- what a refusal leaves

some-both : {A : Type 0} (t : Option A) (P Q : A → Type 0) → IfSome t P → IfSome t Q → IfSome t (λ x. P x × Q x)
some-both None P Q p q = tt
some-both (Some x) P Q p q = (p, q)

beside-same : (geometry : Geometry) (old now : Option (List ℕ)) → option_map (beside geometry) now ≡ option_map (beside geometry) old → Both old now (λ x y. beside geometry y ≡ beside geometry x)
beside-same geometry None None e = tt
beside-same geometry None (Some y) e = cc
beside-same geometry (Some x) None e = cc
beside-same geometry (Some x) (Some y) e = ap (λ (o : Option Beside). unwrap_or o (beside geometry x)) e

module _ {D E : Type 0} (d : device.Ghosts D) (e : device.Ghosts E) (from from_now : D) (to to_now : E) (ticks ticks_now keys block_exp : ℕ) where
  abbrev Leaves : GrowFault → Type 0
  Leaves fault = (e.bytes to_now ≡ e.bytes to) ⊎ (IsLeftHeadless e to to_now ⊎ MayHaveHeader e to to_now keys block_exp fault)

  -- a fault of the new file's own device may leave a header
  may-have : (header : Header) (geometry : Geometry) → IsFor keys block_exp header.geometry.format geometry → Rose (e.counts to).faults (e.counts to_now).faults →
      grow.IsNotLaidOut e to to_now geometry header.last ⊎ ((rows : List Row) × grow.IsNotWhole e to to_now geometry header.last rows) → Leaves Device
  may-have header geometry is_for cause left =
      inr (inr (record { fault_is = refl; cause = cause; format = header.geometry.format; geometry = geometry; is_for = is_for; last = header.last; left = left }))

  stopped : (header : Header) (geometry : Geometry) (told : Option (List ℕ)) → IsFor keys block_exp header.geometry.format geometry → HasStopped e header geometry told to to_now → Leaves Device
  stopped header geometry told is_for (Uncalled is) = inl (ap e.bytes is)
  stopped header geometry told is_for (NotBegun n) = elim n.failed.left [
    | inl same ↦ inl same
    | inr partly ↦ may-have header geometry is_for n.failed.cause (inl (record { partly = partly; spends = n.spends }))
  ]
  stopped header geometry told is_for (Headless none) = inr (inl none)
  stopped header geometry told is_for (NotFinished rows failed) = may-have header geometry is_for failed.cause (inr (rows, record { was_empty = failed.was_empty; left = failed.left }))

  pub headless-left : (fault : GrowFault) → Grows d e from from_now to to_now ticks ticks_now keys block_exp (Err fault) → Leaves fault
  headless-left (Fewer count) h = inl (ap e.bytes h.0.untouched)
  headless-left OutOfMemory h = inl h.copies.bytes_stay
  headless-left (BadCell number) h = elim h.copies.left [
    | inl same ↦ inl (ap e.bytes same)
    | inr none ↦ inr (inl none)
  ]
  headless-left NotEmpty h = inl h.copies.bytes_stay
  headless-left (Disorder number) h = inr (inl h.copies.left)
  headless-left Device (inl h) = inl (ap e.bytes h.untouched)
  headless-left Device (inr h) = stopped h.header h.geometry (d.bytes from) h.is_for h.copies
  headless-left fault h = inl (ap e.bytes h.untouched)

  -- ---- what growing a file answers, in plain terms

  abbrev Has : Result ℕ GrowFault → Type 0
  Has result = HasCopied d e from from_now to to_now ticks ticks_now keys block_exp result

  abbrev Says : (result : Result ℕ GrowFault) → Has result → Type 0
  Says result h = CopySays d e from from_now to to_now ticks ticks_now keys block_exp h.header h.geometry result

  within : (result : Result ℕ GrowFault) (h : Has result) → IsCopiedWithin d e from from_now to to_now ticks ticks_now keys block_exp h.header h.geometry h.spent.other_spends.rows
  within result h = (
    both-so (d.bytes from) (d.bytes from_now) _ _ (λ x y same. (ap (λ (b : Beside). b.size) same, (ap (λ (b : Beside). b.front) same, ap (λ (b : Beside). b.behind) same)))
        (beside-same h.header.geometry (d.bytes from) (d.bytes from_now) h.beside_stays),
    (h.spent.steps_stay, (h.spent.few_ticks, (h.spent.spends, (let few = h.spent.other_spends.few in let are = h.is_for.keys_are in omega (arith, few, are), h.spent.other_spends.spends)))),
  )

  copied : (result : Result ℕ GrowFault) (h : Has result) → Says result h → Copied d e from from_now to to_now ticks ticks_now keys block_exp result
  copied result h says =
      (h.header, (h.geometry, (h.spent.other_spends.rows, ((h.was, (h.closed, (h.few, (h.is_for.keys_are, (h.is_for.block_is, h.is_for.format_is))))), (within result h, (h.spent.other_spends.rows_are, says))))))

  stop-says : (h : Has (Err Device)) → HasStopped e h.header h.geometry (d.bytes from) to to_now → Says (Err Device) h
  stop-says h (Uncalled is) = (h.faults, inl (ap (λ (x : E). e.bytes x) is))
  stop-says h (NotBegun n) = (
    h.faults,
    elim n.failed.left [
      | inl stay ↦ inl stay
      | inr partly ↦ inr (inr (n.failed.cause, (partly.was_empty, inl (partly.at_most, n.spends))))
    ],
  )
  stop-says h (Headless n) = (h.faults, inr (inl (n.was_empty, (n.no_header, n.few_others))))
  stop-says h (NotFinished rows f) = (h.faults, inr (inr (f.cause, (f.was_empty, inr (rows, ((f.map_is, (f.given, f.pairs_are)), f.left))))))

  pub says : (result : Result ℕ GrowFault) → Grows d e from from_now to to_now ticks ticks_now keys block_exp result → GrowSays d e from from_now to to_now ticks ticks_now keys block_exp result
  says (Ok count) h =
      let g = h.copies.1 in
      copied (Ok count) h (h.faults, (h.copies.0, (g.count_is, (g.was_empty, ((g.map_is, (g.given, g.pairs_are)), (some-both (e.bytes to_now) _ _ g.are_rows g.filled, g.settled))))))
  says (Err (Fewer count)) h = (h.1, (h.0.seen, (h.0.untouched, h.0.no_ticks)))
  says (Err OutOfMemory) h = copied (Err OutOfMemory) h (h.faults, ((h.copies.bytes_stay, h.copies.spends), h.copies.left))
  says (Err (BadCell number)) h = copied (Err (BadCell number)) h (
    h.faults,
    (
      elim h.copies.left [
        | inl same ↦ inl same
        | inr n ↦ inr (n.was_empty, (n.no_header, n.few_others))
      ],
      (h.copies.bad, h.copies.no_map),
    ),
  )
  says (Err NotEmpty) h = copied (Err NotEmpty) h (h.faults, ((h.copies.bytes_stay, h.copies.spends), h.copies.was))
  says (Err (Disorder number)) h =
      let c = h.copies in
      copied (Err (Disorder number)) h (h.faults, ((c.left.was_empty, (c.left.no_header, c.left.few_others)), (c.rows, (c.row, (c.number_is, (c.breaks, (c.given, (c.pairs_are, c.no_map))))))))
  says (Err Device) (inl f) = inl (f.failed, (f.untouched, f.no_ticks))
  says (Err Device) (inr h) = inr (copied (Err Device) h (stop-says h h.copies))
  says (Err fault) h = (h.seen, (h.untouched, h.no_ticks))

-- ---- a new file that had a byte

none-empty : (told : Option (List ℕ)) → IsSomeAnd told (λ bytes. 0 < length bytes) → IfSome told (λ bytes. length bytes ≡ 0) → ⊥
none-empty None some none = some
none-empty (Some bytes) some none = omega (arith, some, none)

module _ {D E : Type 0} (d : device.Ghosts D) (e : device.Ghosts E) (from from_now : D) (to to_now : E) (ticks ticks_now keys block_exp : ℕ) (some : IsSomeAnd (e.bytes to) (λ bytes. 0 < length bytes)) where
  not-empty : IfSome (e.bytes to) (λ bytes. length bytes ≡ 0) → e.bytes to_now ≡ e.bytes to
  not-empty none = absurd (none-empty (e.bytes to) some none)

  by-left : (fault : GrowFault) → (e.bytes to_now ≡ e.bytes to) ⊎ (IsLeftHeadless e to to_now ⊎ MayHaveHeader e to to_now keys block_exp fault) → e.bytes to_now ≡ e.bytes to
  by-left fault (inl same) = same
  by-left fault (inr (inl none)) = not-empty none.was_empty
  by-left fault (inr (inr has)) = elim has.left [
    | inl laid ↦ not-empty laid.partly.was_empty
    | inr wrote ↦ not-empty wrote.1.was_empty
  ]

  pub stays : (result : Result ℕ GrowFault) → Grows d e from from_now to to_now ticks ticks_now keys block_exp result → e.bytes to_now ≡ e.bytes to
  stays (Ok count) h = not-empty h.copies.1.was_empty
  stays (Err fault) h = by-left fault (headless-left d e from from_now to to_now ticks ticks_now keys block_exp fault h)
