-- A load: how it begins, a row that is pushed behind those before it, and what is left at its end, the blocks that are not full and the front.
use Rattle.std.proofs.Common.{◌≡◌, ℕ, ◌^◌, ◌≤◌, List, [], length, take, replicate, Option, None, Some, Ok, Err, refl, sym, ap, subst, ◌∙◌, arith, ◌+◌, ◌*◌, ◌<◌, nat_le, ◌&&◌, true, ◌∷◌, ◌++◌, All, map, length-append, ◌≢◌, ◌⊎◌, inl, inr, ◌-◌, ◌/◌, ◌%◌, drop, Result, append_assoc}
use Rattle.std.proofs.lemmas.List.{length-replicate, map-append, take-take, take_at, drop_at, drop-append-le, length-drop}
use Rattle.std.proofs.lemmas.Option.{IfSome_then}
use Rattle.std.proofs.Math.Nat.{zero-div}
use Rattle.std.specs.Prelude.{IfSome, IsTrue, OnOk}
use Rattle.cola_device.specs.Bytes.{LaidOut, part, splice, HasRange, Wrote, WroteSome}
use Rattle.cola_device.proofs.BytesLemmas.{part-replicate, length-splice, part-splice_above, drop-splice_end}
use Rattle.cola_layout.specs.declared.geometry.Geometry.{Geometry}
use Rattle.cola_run.proofs.Spots.{both-second, both-same, both-so, both-two, both-with}
use Rattle.cola_run.specs.Cells.{file_bytes, block_bytes, block_cells, block_number, tails_bytes}
use Rattle.std.proofs.lemmas.List.Elements.{All-nil, All-push}
use Rattle.cola_spec.specs.Map.{EntryFits, Stored, Shape, key_cmp}
use Rattle.cola_shapes.specs.Shapes.{shape_of}
use Rattle.cola_load.specs.Filled.{run_len, Row, AreRows, entry_of, filled_cell, filled_header, IsFilled}
use Rattle.cola_load.specs.Loading.{Loading, HoldsRows, HasCells, SameRows, PutsRow, Pushes, StaysInFront, IsAbove, last_key, IsLoading, IsHeadless, HasSaved, Finishes, FrontWaited, FrontWaits, standing_cell}
use Rattle.std.specs.FinMap.Entries.{below_all, is_sorted}
use Rattle.std.specs.Ordering.{is_lt}
use Rattle.std.specs.Cmp.Lexicographic.{nat_list_cmp_total}
use Rattle.std.proofs.lemmas.Bool.{and_parts, and_from, le-leb, cases_lt, cases_eq}
use Rattle.cola_runs.proofs.Deciding.{is_less}
use Rattle.cola_outside.specs.Told.{Both}
use Rattle.cola_cell.specs.Format.{KeyFits, ValueFits, key_limit, value_limit, width}
use Rattle.cola_run.proofs.Heads.{block-least, head-long}
use Rattle.std.proofs.lemmas.Nat.{pow_pos}
use Rattle.cola_cell.specs.declared.format.Format.{Format}
use Rattle.cola_cell.specs.Decoded.{decoded}
use Rattle.cola_cell.specs.Places.{number_of, slot_size}
use Rattle.cola_device.specs.declared.counts.Counts.{Counts}
use Rattle.cola_device.specs.declared.device.Device as device
use Rattle.cola_device.specs.declared.device.DeviceFault.{DeviceFault}
use Rattle.cola_device.specs.Counts.{Called}
use Rattle.cola_front.specs.Front.{IsFront, InOrder, block_size, cell_at, cell_bytes, stored_all, second_block, image}
use Rattle.cola_front.proofs.Writes.{image_is, headed_many, large}
use Rattle.cola_layout.specs.Header.{Fields, IsSpelling}
use Rattle.cola_device.proofs.ToldLemmas.{length-WroteSome}
use Rattle.cola_layout.proofs.Places.{device-behind, place-behind, slot-blocks}
use Rattle.cola_layout.proofs.Powers.{next_power}
use Rattle.cola_run.specs.Parts.{tail_of, WroteTail}
use Rattle.cola_run.specs.Saving.{SameLevels}
use Rattle.cola_run.proofs.Bytes.{room-of, room-sum}
use Rattle.cola_run.proofs.Flushes.{image-many, written-loaded}
use Rattle.cola_run.proofs.Numbers.{first-place}
use Rattle.cola_run.proofs.Steps.{tail_many, tail-cell, written-there, written-stays}
use Rattle.cola_load.proofs.Rowing.{run-fits}
use Rattle.cola_load.proofs.Placing.{front-number, both-given, both-both, same-range, same-level, on-level, in-slot, stands-front, stands-tail, stands-block, front-written}

-- a loader without a row over zero bytes
pub holds-none : (loading : Loading) (bytes : List ℕ) → loading.rows ≡ 0 → loading.key ≡ None → 512 ≤ file_bytes loading.geometry → bytes ≡ replicate (file_bytes loading.geometry) 0 → HoldsRows loading bytes []
holds-none loading bytes rows key long is = record {
  are_rows = record { rising = refl; few = omega arith; fitting = All-nil (EntryFits (shape_of loading.geometry.format loading.geometry.keys) loading.last) };
  many = rows;
  key_is = key;
  size = ap (λ (xs : List ℕ). length xs) is ∙ length-replicate (file_bytes loading.geometry) 0;
  no_header = ap (λ (xs : List ℕ). take 512 xs) is ∙ part-replicate (file_bytes loading.geometry) 0 0 512 (omega (arith, long));
  cells = λ height index low within. absurd (let z : run_len loading.rows height ≡ 0 = ap (λ (n : ℕ). run_len n height) rows ∙ zero-div (8 ^ height) in omega (arith, z, within));
}

pub held-of : {T : Type 0} (E : Type 0) (value : T) (loading : Loading) (size : ℕ) (a b : Option (List ℕ)) → loading.rows ≡ 0 → loading.key ≡ None → size ≡ file_bytes loading.geometry → 512 ≤ size
    → LaidOut {T = T} {E = E} (Ok value) size a b → IfSome b (λ bytes. HoldsRows loading bytes [])
held-of E value loading size a b rows key is long laid = both-second a b (λ old new. new ≡ replicate size 0) (λ bytes. HoldsRows loading bytes []) (λ x y zeros.
    holds-none loading y rows key (omega (arith, is, long)) (subst (λ (n : ℕ). y ≡ replicate n 0) is zeros)) laid

-- ---- a row that was pushed behind those before it

abbrev Entry : Type 0
Entry = List ℕ × Stored

below-behind : (key : List ℕ) (rows : List Row) (last : Row) → IsTrue (below_all key_cmp key (map entry_of rows)) → IsTrue (is_lt (key_cmp key last.key)) → IsTrue (below_all key_cmp key (map entry_of (rows ++ last ∷ [])))
below-behind key [] last below less = and_from (is_lt (key_cmp key last.key)) true less refl
below-behind key (row ∷ rows) last below less =
    let parts = and_parts (is_lt (key_cmp key row.key)) (below_all key_cmp key (map entry_of rows)) below in
    and_from (is_lt (key_cmp key row.key)) (below_all key_cmp key (map entry_of (rows ++ last ∷ []))) parts.0 (below-behind key rows last parts.1 less)

-- a key above the last is above the first, and comes behind all
sorted-behind : (row : Row) (rows : List Row) (last : Row) → IsTrue (is_sorted key_cmp (map entry_of (row ∷ rows))) → IsAbove (last_key (row ∷ rows)) last.key →
    IsTrue (is_lt (key_cmp row.key last.key)) × IsTrue (is_sorted key_cmp (map entry_of (row ∷ rows ++ last ∷ [])))
sorted-behind row [] last sorted above = (above, and_from (is_lt (key_cmp row.key last.key) && true) true (and_from (is_lt (key_cmp row.key last.key)) true above refl) refl)
sorted-behind row (next ∷ rows) last sorted above =
    let parts = and_parts (below_all key_cmp row.key (map entry_of (next ∷ rows))) (is_sorted key_cmp (map entry_of (next ∷ rows))) sorted in
    let below = (and_parts (is_lt (key_cmp row.key next.key)) (below_all key_cmp row.key (map entry_of rows)) parts.0).0 in
    let behind = sorted-behind next rows last parts.1 above in
    let less : IsTrue (is_lt (key_cmp row.key last.key)) = ap is_lt (nat_list_cmp_total.trans row.key next.key last.key (is_less _ below) (is_less _ behind.0)) in
    (less, and_from (below_all key_cmp row.key (map entry_of ((next ∷ rows) ++ last ∷ []))) _ (below-behind row.key (next ∷ rows) last parts.0 less) behind.1)

pub last-is : (rows : List Row) (row : Row) → last_key (rows ++ row ∷ []) ≡ Some row.key
last-is [] row = refl
last-is (one ∷ []) row = refl
last-is (one ∷ next ∷ rows) row = last-is (next ∷ rows) row

-- the rows with one more
pub rows-more : (shape : Shape) (last : ℕ) (rows : List Row) (row : Row) → AreRows shape last rows → length rows < shape.limit → EntryFits shape last (entry_of row) → IsAbove (last_key rows) row.key → AreRows shape last (rows ++ row ∷ [])
rows-more shape last rows row are few fits above = record {
  rising = elim rows as (λ rs. IsTrue (is_sorted key_cmp (map entry_of rs)) → IsAbove (last_key rs) row.key → IsTrue (is_sorted key_cmp (map entry_of (rs ++ row ∷ [])))) [
    | [] ↦ λ sorted above. refl
    | first ∷ rest ↦ λ sorted above. (sorted-behind first rest row sorted above).1
  ] are.rising above;
  few = (let e = length-append rows (row ∷ []) in omega (arith, e, few));
  fitting = subst (λ (es : List Entry). All (EntryFits shape last) es) (sym (map-append entry_of rows (row ∷ []))) (All-push (EntryFits shape last) (map entry_of rows) (entry_of row) are.fitting fits);
}

-- two calls behind the front
pub stays-two : (geometry : Geometry) (x y z : List ℕ) → StaysInFront geometry x y → StaysInFront geometry y z → StaysInFront geometry x z
stays-two geometry x y z first second = record { size_stays = second.size_stays ∙ first.size_stays; front_stays = second.front_stays ∙ first.front_stays }

-- bytes that begin as those of a file without a header have none
headless-as : (n : ℕ) (x y : List ℕ) → 512 ≤ n → take n y ≡ take n x → IsHeadless x → IsHeadless y
headless-as n x y long same none = sym (take-take 512 n y long) ∙ ap (λ (xs : List ℕ). take 512 xs) same ∙ take-take 512 n x long ∙ none

-- the first two blocks of a file without a header stay
pub headless-then : (geometry : Geometry) (x y : List ℕ) → StaysInFront geometry x y → IsHeadless x → IsHeadless y
headless-then geometry x y stays none = headless-as (2 * block_bytes geometry) x y (let least = block-least geometry geometry.block_fits in omega (arith, least)) stays.front_stays none

-- a loader that holds them
module _ (old mid : Loading) (row : Row) (few : old.rows < old.geometry.keys) (some : 1 ≤ length row.key) (key : KeyFits old.geometry.format row.key) (value : ValueFits old.geometry.format row.value)
    (stamp : row.stamp ≤ old.last) (above : IsAbove old.key row.key) (same : SameRows old mid) where
  abbrev pushed : Loading
  pushed = record mid { rows = mid.rows + 1; key = Some row.key }

  fits : EntryFits (shape_of old.geometry.format old.geometry.keys) old.last (entry_of row)
  fits = record {
    key_fits = and_from (nat_le 1 (length row.key)) (nat_le (length row.key) (key_limit old.geometry.format)) (le-leb 1 (length row.key) some) (le-leb (length row.key) (key_limit old.geometry.format) key);
    value_fits = le-leb (length row.value) (value_limit old.geometry.format) value;
    given = stamp;
  }

  pub holds-more : (rows : List Row) (x y : List ℕ) → HoldsRows old x rows → HasCells mid (run_len (old.rows + 1)) (rows ++ row ∷ []) y → StaysInFront old.geometry x y → HoldsRows pushed y (rows ++ row ∷ [])
  holds-more rows x y held cells front =
      let g : Geometry = old.geometry in
      record {
        are_rows = subst (λ (z : Geometry). AreRows (shape_of z.format z.keys) mid.last (rows ++ row ∷ [])) (sym same.geometry)
            (subst (λ (n : ℕ). AreRows (shape_of g.format g.keys) n (rows ++ row ∷ [])) (sym same.last)
            (rows-more (shape_of g.format g.keys) old.last rows row held.are_rows (omega (arith, few, held.many)) fits (subst (λ (k : Option (List ℕ)). IsAbove k row.key) held.key_is above)));
        many = ap (λ (n : ℕ). n + 1) (same.rows ∙ held.many) ∙ sym (length-append rows (row ∷ []));
        key_is = sym (last-is rows row);
        size = front.size_stays ∙ held.size ∙ ap (λ (z : Geometry). file_bytes z) (sym same.geometry);
        no_header = headless-then g x y front held.no_header;
        cells = subst (λ (n : ℕ). HasCells pushed (run_len (n + 1)) (rows ++ row ∷ []) y) (sym same.rows) cells;
      }

  pub pushes-by : {T S : Type 0} (E F : Type 0) (done : T) (value_is : S) (a b : Option (List ℕ))
      → Both a b (PutsRow {T = T} {E = E} (Ok done) old mid row) → Both a b (StaysInFront old.geometry) → Both a b (Pushes {T = S} {E = F} (Ok value_is) old pushed row)
  pushes-by E F done value_is a b puts front = both-both a b puts front (λ x y put stay rows held. holds-more rows x y held (put rows (sym held.many) held.cells) stay)

-- ---- what is left of a load: the blocks that are not full, and the front

-- the length of a level's run fits
pub len-fits : (loading : Loading) (level : ℕ) → level ≤ loading.geometry.bottom → loading.rows ≤ loading.geometry.keys → run_len loading.rows (loading.geometry.bottom - level) ≤ slot_size level
len-fits loading level low few =
    run-fits loading.rows (loading.geometry.bottom - level) level loading.geometry.bottom (omega (arith, low)) (omega (arith, few, loading.geometry.bottom_fits.holds))

module _ (loading : Loading) (level : ℕ) (high : loading.geometry.block_exp ≤ level + 2) (low : level ≤ loading.geometry.bottom) (few : loading.rows ≤ loading.geometry.keys) where
  abbrev h : Geometry
  h = loading.geometry

  abbrev n : ℕ
  n = run_len loading.rows (h.bottom - level)

  -- the cells of a level are saved, and all others stay
  saved-next : (before old now : List ℕ) → HasSaved loading level before old → StaysInFront h old now
      → ((i : ℕ) → i < n → decoded h.format (cell_bytes h.format now (number_of level 0 i)) ≡ standing_cell loading before n level i)
      → ((l i : ℕ) → h.block_exp ≤ l + 2 → l ≤ h.bottom → i < slot_size l → l ≢ level → cell_bytes h.format now (number_of l 0 i) ≡ cell_bytes h.format old (number_of l 0 i)) → HasSaved loading (level + 1) before now
  saved-next before old now was front here-saved others = record {
    stays = stays-two h before old now was.stays front;
    saved = λ l i high_l below low_l within. elim (cases_eq l level) [
      | inl here ↦
          ap (λ (x : ℕ). decoded h.format (cell_bytes h.format now (number_of x 0 i))) here
          ∙ here-saved i (subst (λ (x : ℕ). i < run_len loading.rows (h.bottom - x)) here within)
          ∙ ap (λ (x : ℕ). standing_cell loading before (run_len loading.rows (h.bottom - x)) x i) (sym here)
      | inr apart ↦
          ap (λ (xs : List ℕ). decoded h.format xs) (others l i high_l low_l (omega (arith, within, len-fits loading l low_l few)) apart)
          ∙ was.saved l i high_l (omega (arith, below, apart)) low_l within
    ];
    rest = λ l i high_l above low_l within. others l i high_l low_l within (λ e. omega (arith, e, above)) ∙ was.rest l i high_l (omega (arith, above)) low_l within;
  }

  -- a level whose blocks are full has nothing left
  pub save-full : (before old : List ℕ) → n % block_cells h ≡ 0 → HasSaved loading level before old → HasSaved loading (level + 1) before old
  save-full before old full was = saved-next before old old was (record { size_stays = refl; front_stays = refl }) (λ i at.
      let behind : i / block_cells h ≢ n / block_cells h = λ e. omega (arith, first-place (block_cells h) i n (pow_pos h.block_exp) e full, at) in
      ap (λ (xs : List ℕ). decoded h.format xs) (was.rest level i high (omega arith) low (omega (arith, at, len-fits loading level low few)))
      ∙ sym (stands-block loading before n level i high behind)) (λ l i high_l low_l inside apart. refl)

  -- a block that is not full was written
  pub save-part : (before old now : List ℕ) → n < slot_size level → file_bytes h ≤ length old
      → length loading.tails ≡ tails_bytes h → StaysInFront h old now
      → now ≡ splice old (block_number h level 0 n * block_bytes h) (tail_of h loading.tails level) → HasSaved loading level before old → HasSaved loading (level + 1) before now
  save-part before old now within_n long many front stays was =
      let tail = tail_many h loading.tails level h.block_fits (on-level h level high low) many in
      let place = in-slot h.bottom level n low within_n in
      let others : (l i : ℕ) → h.block_exp ≤ l + 2 → l ≤ h.bottom → i < slot_size l → (l ≢ level) ⊎ (0 ≢ 0) ⊎ (i / block_cells h ≢ n / block_cells h) →
      cell_bytes h.format now (number_of l 0 i) ≡ cell_bytes h.format old (number_of l 0 i) =
      λ l i high_l low_l inside apart. ap (λ (xs : List ℕ). cell_bytes h.format xs (number_of l 0 i)) stays
      ∙ written-stays h h.block_fits level 0 n high place old (tail_of h loading.tails level) long tail l 0 i high_l (in-slot h.bottom l i low_l inside) apart in
      saved-next before old now was front (λ i at. elim (cases_eq (i / block_cells h) (n / block_cells h)) [
        | inl same ↦
            ap (λ (xs : List ℕ). decoded h.format xs)
            (ap (λ (xs : List ℕ). cell_bytes h.format xs (number_of level 0 i)) stays
            ∙ written-there h h.block_fits level 0 n high place old (tail_of h loading.tails level) long tail i same ∙ tail-cell h loading.tails level i)
            ∙ sym (stands-tail loading before n level i high same)
        | inr other ↦
            ap (λ (xs : List ℕ). decoded h.format xs) (others level i high low (omega (arith, at, within_n)) (inr (inr other)) ∙ was.rest level i high (omega arith) low (omega (arith, at, within_n)))
            ∙ sym (stands-block loading before n level i high other)
      ]) (λ l i high_l low_l inside apart. others l i high_l low_l inside (inl apart))

  -- the same where bytes are told
  pub saves-written : {T E : Type 0} (result : Result T E) (a b : Option (List ℕ)) → n < slot_size level → length loading.tails ≡ tails_bytes h
      → HasRange a 0 (file_bytes h) → WroteTail result h loading.tails level 0 n a b → Both a b (λ old new. (before : List ℕ) → HasSaved loading level before old → OnOk result (HasSaved loading (level + 1) before new))
  saves-written (Err fault) a b within_n many inside wrote = both-so a b _ _ (λ x y w before was. tt) wrote
  saves-written {T} {E} (Ok value) a b within_n many inside wrote = both-given a b inside wrote (λ x y long w before was.
      let answer : Result T E = Ok value in
      save-part before x y within_n (omega (arith, long)) many (front-written h loading.tails level n low high within_n many answer (Some x) (Some y) long w)
      (w.others_stay ∙ ap (λ (left : List ℕ). splice x (block_number h level 0 n * block_bytes h) left) w.exact) was)

-- the tail of a level is written, where its run has a part of a block
module _ {loading self : Loading} {len cells : ℕ} (level : ℕ) (is : loading ≡ self) (front : self.geometry.block_exp ≤ level + 2) (within : level ≤ self.geometry.bottom) (sound : IsLoading loading)
    (len-is : len ≡ run_len loading.rows (loading.geometry.bottom - level)) (cells-are : cells ≡ block_cells loading.geometry) where
  high-level : loading.geometry.block_exp ≤ level + 2
  high-level = subst (λ (z : Loading). z.geometry.block_exp ≤ level + 2) (sym is) front

  low-level : level ≤ loading.geometry.bottom
  low-level = same-level level is within

  same-part : len % cells ≡ run_len loading.rows (loading.geometry.bottom - level) % block_cells loading.geometry
  same-part = λ i. len-is i % cells-are i

  pub tail-kept : (told : Option (List ℕ)) → len % cells ≡ 0 → Both told told (λ old new. (before : List ℕ) → HasSaved self level before old → HasSaved self (level + 1) before new)
  tail-kept told full = subst (λ (z : Loading). Both told told (λ old new. (before : List ℕ) → HasSaved z level before old → HasSaved z (level + 1) before new)) is
      (both-same told _ (λ x before was. save-full loading level high-level low-level sound.few before x (sym same-part ∙ full) was))

  module _ (part : len % cells ≡ 0 → ⊥) where
    -- a run that has a part of a block is shorter than its slot
    fits-slot : run_len loading.rows (loading.geometry.bottom - level) < slot_size level
    fits-slot = elim (cases_eq (run_len loading.rows (loading.geometry.bottom - level)) (slot_size level)) [
      | inl full ↦ absurd (part (same-part ∙ ap (λ (x : ℕ). x % block_cells loading.geometry) full ∙ (slot-blocks loading.geometry.block_exp level 0 high-level).1))
      | inr apart ↦ omega (arith, len-fits loading level low-level sound.few, apart)
    ]

    pub tail-index : len < slot_size level
    tail-index = subst (λ (x : ℕ). x < slot_size level) (sym len-is) fits-slot

    module _ {T E : Type 0} (result : Result T E) (a b : Option (List ℕ)) (inside : HasRange a 0 (file_bytes self.geometry)) (wrote : WroteTail result loading.geometry loading.tails level 0 len a b) where
      pub tail-saves : Both a b (λ old new. (before : List ℕ) → HasSaved self level before old → OnOk result (HasSaved self (level + 1) before new))
      tail-saves = subst (λ (z : Loading). Both a b (λ old new. (before : List ℕ) → HasSaved z level before old → OnOk result (HasSaved z (level + 1) before new))) is
          (saves-written loading level high-level low-level sound.few result a b fits-slot sound.tails_many (same-range a is inside)
          (subst (λ (x : ℕ). WroteTail result loading.geometry loading.tails level 0 x a b) len-is wrote))

      pub tail-front : Both a b (StaysInFront self.geometry)
      tail-front = subst (λ (z : Loading). Both a b (StaysInFront z.geometry)) is
          (front-written loading.geometry loading.tails level len low-level high-level tail-index sound.tails_many result a b (same-range a is inside) wrote)

-- ---- the header and the front

front-size : (loading : Loading) → IsLoading loading → block_size loading.front ≡ block_bytes loading.geometry
front-size loading sound = ap (λ (f : Format). width f * loading.front.block) sound.format ∙ ap (λ (b : ℕ). width loading.geometry.format * b) sound.block

-- the front has room in the file
pub front-room : {loading self : Loading} (told : Option (List ℕ)) → loading ≡ self → IsLoading loading → HasRange told 0 (file_bytes self.geometry) → HasRange told 0 (2 * block_size loading.front)
front-room {loading} told is sound inside = IfSome_then told (same-range told is inside) (λ x long. omega (arith, front-size loading sound, head-long loading.geometry loading.geometry.block_fits, long))

-- bytes over which the front was stored
module _ (loading : Loading) (header old : List ℕ) (is : IsFront loading.front) (sound : IsLoading loading) (head : length header ≡ 512) (long : file_bytes loading.geometry ≤ length old) where
  abbrev k : Geometry
  k = loading.geometry

  abbrev new : List ℕ
  new = splice old 0 (image loading.front header)

  pub whole-image : length (image loading.front header) ≡ 2 * block_bytes k
  whole-image = let m = image-many loading.front header is head in let e = front-size loading sound in omega (arith, m, e)

  room : 2 * block_bytes k ≤ length old
  room = let l = head-long k k.block_fits in omega (arith, l, long)

  pub stored-many : length new ≡ length old
  stored-many = length-splice old 0 (image loading.front header) (let w = whole-image in let r = room in omega (arith, w, r))

  pub stored-front : (level index : ℕ) → level + 2 < k.block_exp → index < slot_size level
      → decoded k.format (cell_bytes k.format new (number_of level 0 index)) ≡ cell_at loading.front (number_of level 0 index)
  stored-front level index low within =
      let e = front-size loading sound in
      subst (λ (f : Format). decoded f (cell_bytes f new (number_of level 0 index)) ≡ cell_at loading.front (number_of level 0 index)) sound.format
      (sym (written-loaded loading.front header old is head (omega (arith, e, room)) (number_of level 0 index) (place-behind level 0 index) (omega (arith, front-number k.block_exp level index within low, sound.block))))

  pub stored-behind : (level index : ℕ) → k.block_exp ≤ level + 2 → cell_bytes k.format new (number_of level 0 index) ≡ cell_bytes k.format old (number_of level 0 index)
  stored-behind level index high =
      let far : 2 ^ k.block_exp + 2 ^ k.block_exp ≤ number_of level 0 index = omega (arith, device-behind k.block_exp level 0 index high, next_power k.block_exp (k.block_exp + 1) (omega arith)) in
      let more = room-of k.format (2 ^ k.block_exp + 2 ^ k.block_exp) (number_of level 0 index) far in
      let w = whole-image in
      part-splice_above old 0 (image loading.front header) (width k.format * number_of level 0 index) (width k.format) (omega arith) (omega (arith, more, room-sum k.format (2 ^ k.block_exp) (2 ^ k.block_exp), w))

  -- where the cells behind it were saved, the file is filled
  pub stored-filled : (rows : List Row) (before : List ℕ) → IsSpelling (filled_header k loading.last loading.rows) header → HasSaved loading (k.bottom + 1) before old → HoldsRows loading before rows
      → IsFilled k loading.last rows new
  stored-filled rows before spelled was held = record {
    header = subst (λ (m : ℕ). IsSpelling (filled_header k loading.last m) (take 512 new)) held.many
        (subst (IsSpelling (filled_header k loading.last loading.rows)) (sym (ap (λ (xs : List ℕ). take 512 xs) (append_assoc header _ _) ∙ take_at header _ 512 head)) spelled);
    cells = λ level index low within.
        let height : ℕ = k.bottom - level in
        let inside : index < run_len loading.rows height = subst (λ (m : ℕ). index < run_len m height) (sym held.many) within in
        let back : k.bottom - height ≡ level = omega (arith, low) in
        let there : standing_cell loading before (run_len loading.rows height) level index ≡ Some (filled_cell rows height index) =
        ap (λ (l : ℕ). standing_cell loading before (run_len loading.rows height) l index) (sym back) ∙ held.cells height index (omega arith) inside in
        elim (cases_lt (level + 2) k.block_exp) [
          | inl front ↦
              stored-front level index front (omega (arith, inside, len-fits loading level low sound.few))
              ∙ sym (stands-front loading before (run_len loading.rows height) level index front) ∙ there
          | inr high ↦
              ap (λ (xs : List ℕ). decoded k.format xs) (stored-behind level index high)
              ∙ was.saved level index high (omega (arith, low)) low inside ∙ there
        ];
    whole = stored-many ∙ was.stays.size_stays ∙ held.size;
  }

  -- a refused store that wrote the second block left all behind the first as an accepted one does
  pub stored-second : (left : List ℕ) → length left ≡ length (image loading.front header)
      → part (splice old 0 left) (block_size loading.front) (block_size loading.front) ≡ second_block loading.front → drop (block_bytes k) (splice old 0 left) ≡ drop (block_bytes k) new
  stored-second left many second =
      let n : ℕ = block_size loading.front in
      let pair = image-many loading.front header is head in
      let own : length (drop n left) ≡ n = length-drop n left ∙ (omega (arith, many, pair)) in
      let behind : drop n (splice old 0 left) ≡ drop n left ++ drop (length left) old = drop-append-le n left (drop (length left) old) (omega (arith, many, pair)) in
      let there : drop n left ≡ second_block loading.front =
      sym (ap (λ (xs : List ℕ). take n xs) behind ∙ take_at (drop n left) (drop (length left) old) n own) ∙ second in
      let image-there : drop n (image loading.front header) ≡ second_block loading.front =
      ap (λ (xs : List ℕ). drop n xs) (sym (image_is loading.front is header head))
      ∙ drop_at (header ++ drop 512 (stored_all loading.front.format (take loading.front.block loading.front.cells))) (second_block loading.front) n (headed_many loading.front is header head) in
      let whole : drop n new ≡ drop n (image loading.front header) ++ drop (length (image loading.front header)) old =
      drop-append-le n (image loading.front header) (drop (length (image loading.front header)) old) (omega (arith, pair)) in
      subst (λ (m : ℕ). drop m (splice old 0 left) ≡ drop m new) (front-size loading sound)
      (behind ∙ ap (λ (xs : List ℕ). xs ++ drop (length left) old) (there ∙ sym image-there)
      ∙ ap (λ (m : ℕ). drop n (image loading.front header) ++ drop m old) many ∙ sym whole)

-- the end of a load behind its blocks
abbrev pub Ends : {T E : Type 0} → Result T E → Loading → List ℕ → List ℕ → Type 0
Ends result loading old new = (before : List ℕ) → HasSaved loading (loading.geometry.bottom + 1) before old → Finishes result loading before new

-- a store of the front, where bytes are told
module _ {loading self : Loading} (header : List ℕ) (a : Option (List ℕ)) {b now : Option (List ℕ)} (is : loading ≡ self) (front : IsFront loading.front) (sound : IsLoading loading) (head : length header ≡ 512)
    (inside : HasRange a 0 (file_bytes self.geometry)) (stays : now ≡ b) where
  inside-file : HasRange a 0 (file_bytes loading.geometry)
  inside-file = same-range a is inside

  moved : (P : Loading → List ℕ → List ℕ → Type 0) → Both a b (P loading) → Both a now (P self)
  moved P told = subst (λ (z : Option (List ℕ)). Both a z (P self)) (sym stays) (subst (λ (z : Loading). Both a b (P z)) is told)

  -- it keeps the size
  pub stored-size : {T E : Type 0} (result : Result T E) → Wrote result 0 (image loading.front header) a b → Both a now (λ old new. length new ≡ length old)
  stored-size result wrote = moved (λ z old new. length new ≡ length old) (both-given a b inside-file wrote (λ x y long w.
      length-WroteSome w (omega (arith, whole-image loading header x front sound head (omega (arith, long)), head-long loading.geometry loading.geometry.block_fits, long))))

  -- and all behind the front
  pub stored-levels : {T E : Type 0} (result : Result T E) → Wrote result 0 (image loading.front header) a b → Both a now (SameLevels self.geometry)
  stored-levels result wrote = moved (λ z. SameLevels z.geometry) (both-given a b inside-file wrote (λ x y long w.
      let many : 0 + length w.left ≡ 2 * block_bytes loading.geometry = let e = w.as_many in omega (arith, e, whole-image loading header x front sound head (omega (arith, long))) in
      ap (λ (z : List ℕ). drop (2 * block_bytes loading.geometry) z) w.others_stay
      ∙ subst (λ (n : ℕ). drop n (splice x 0 w.left) ≡ drop n x) many (drop-splice_end x 0 w.left (omega arith))))

  module _ {fields : Fields} (spells : IsSpelling fields header) (fields-are : fields ≡ filled_header loading.geometry loading.last loading.rows) where
    spelled : IsSpelling (filled_header loading.geometry loading.last loading.rows) header
    spelled = subst (λ (f : Fields). IsSpelling f header) fields-are spells

    stored-whole : {T : Type 0} (E : Type 0) (value : T) → Wrote {T = T} {E = E} (Ok value) 0 (image loading.front header) a b
        → Both a b (λ old new. (before : List ℕ) → HasSaved loading (loading.geometry.bottom + 1) before old → (rows : List Row) → HoldsRows loading before rows → IsFilled loading.geometry loading.last rows new)
    stored-whole E value wrote = both-given a b inside-file wrote (λ x y long w before was rows held.
        subst (λ (z : List ℕ). IsFilled loading.geometry loading.last rows z) (sym (w.others_stay ∙ ap (λ (left : List ℕ). splice x 0 left) w.exact))
        (stored-filled loading header x front sound head (omega (arith, long)) rows before spelled was held))

    -- the front that was stored, and settled or did not
    pub finishes-by : {T R F : Type 0} (E : Type 0) (value : T) (result : Result R F) → Wrote {T = T} {E = E} (Ok value) 0 (image loading.front header) a b → Both a now (Ends result self)
    finishes-by {T} {R} {F} E value (Ok done) wrote = moved (Ends {T = R} {E = F} (Ok done)) (stored-whole E value wrote)
    finishes-by {T} {R} {F} E value (Err why) wrote = moved (Ends {T = R} {E = F} (Err why)) (both-so a b _ _ (λ x y filled before was rows held.
        inr (record { whole = y; filled = filled before was rows held; many = refl; behind = refl })) (stored-whole E value wrote))

    -- the front that was refused: its first block is as it was, or its second one is written
    pub refused-by : {E F : Type 0} (T R : Type 0) (fault : E) (why : F) → Wrote {T = T} {E = E} (Err fault) 0 (image loading.front header) a b → Both a b (InOrder {T = T} {E = E} (Err fault) loading.front)
        → Both a now (Ends {T = R} {E = F} (Err why) self)
    refused-by {E} {F} T R fault why wrote order = moved (Ends {T = R} {E = F} (Err why)) (both-both a b (both-with a b _ _ inside-file wrote) order (λ x y written either before was rows held.
        let w : WroteSome {T = T} {E = E} (Err fault) 0 (image loading.front header) x y = written.1 in
        let long : file_bytes loading.geometry ≤ length x = omega (arith, written.0) in
        elim either [
          | inl same ↦ inl (headless-as (block_size loading.front) x y (large loading.front front header head) same (headless-then loading.geometry before x was.stays held.no_header))
          | inr second ↦ inr (record {
            whole = splice x 0 (image loading.front header);
            filled = stored-filled loading header x front sound head long rows before spelled was held;
            many =
                let l = head-long loading.geometry loading.geometry.block_fits in
                length-WroteSome w (omega (arith, whole-image loading header x front sound head long, l, long)) ∙ sym (stored-many loading header x front sound head long);
            behind =
                ap (λ (z : List ℕ). drop (block_bytes loading.geometry) z) w.others_stay
                ∙ stored-second loading header x front sound head long w.left w.as_many
                (subst (λ (z : List ℕ). part z (block_size loading.front) (block_size loading.front) ≡ second_block loading.front) w.others_stay second);
          })
        ]))

-- where the front waited, it waits
pub waits-by : {T E : Type 0} {D : Type 0} (d : device.Ghosts D) (geometry : Geometry) (before now : D) (result : Result T E) → FrontWaited d geometry before now → FrontWaits d geometry before now result
waits-by d geometry before now (Ok value) waited = waited
waits-by d geometry before now (Err fault) waited = inr waited

-- ---- the loop over the levels on the device

-- the levels on the device up to one were written
pub record IsSaving {D K : Type 0} (bytes : D → Option (List ℕ)) (counts : D → Counts) (kept : D → K) (loading : Loading) (before now : D) (level : ℕ) : Type 0 where
  pub saved : Both (bytes before) (bytes now) (HasSaved loading level)
  pub kept_stays : kept now ≡ kept before
  pub called : Called {T = Unit {0}} {E = DeviceFault} (counts before) (counts now) 0 (level + 2 - loading.geometry.block_exp) 0 (Ok (tt {0}))

-- what a call leaves behind which a device settled
pub settled-so : {P Q : List ℕ → List ℕ → Type 0} (a b settled : Option (List ℕ)) → settled ≡ b → Both a b P → ((x y : List ℕ) → P x y → Q x y) → Both a settled Q
settled-so {P} {Q} a b settled same p f = subst (λ (z : Option (List ℕ)). Both a z Q) (sym same) (both-so a b P Q f p)

-- what two calls leave between which a device settled
pub settled-two : {P Q R : List ℕ → List ℕ → Type 0} (a b settled c : Option (List ℕ)) → settled ≡ b → Both a b P → Both settled c Q → ((x y z : List ℕ) → P x y → Q y z → R x z) → Both a c R
settled-two {Q} a b settled c same p q f = both-two a b c _ _ _ f p (subst (λ (z : Option (List ℕ)). Both z c Q) same q)
