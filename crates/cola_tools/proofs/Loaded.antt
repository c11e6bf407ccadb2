-- What a load over lent bytes answers and leaves, by what its loader answered.
use Rattle.std.proofs.Common.{◌≡◌, ◌∙◌, ℕ, ◌+◌, ◌≤◌, ◌<◌, true, false, List, [], ◌∷◌, ◌++◌, length, slice_index, refl, sym, ap, subst, arith}
use Rattle.std.specs.Prelude.{Option, suc}
use Rattle.std.proofs.lemmas.List.{get_or-replicate}
use denote.RawPtr.{Ptr}
use Rattle.cola_outside.specs.Faults.{Rose}
use Rattle.cola_cell.specs.declared.format.Format.{Format}
use Rattle.cola_cell.specs.declared.format.Format.TheVariants.{One, Two}
use Rattle.cola_cell.specs.Format.{stamp_limit}
use Rattle.cola_layout.specs.declared.geometry.Geometry.{Geometry}
use Rattle.cola_layout.specs.Geometry.{AreKeys}
use Rattle.cola_run.specs.Cells.{file_bytes}
use Rattle.cola_shapes.specs.Shapes.{shape_of}
use Rattle.cola_load.specs.Filled.{Row, AreRows, IsFilled}
use Rattle.cola_load.specs.Loading.{Loading, HoldsRows, StaysInFront}
use Rattle.cola_load.proofs.Saving.{headless-then}
use Rattle.cola_tools.specs.New.{New, IsNew, Place, file_of, place_of}
use Rattle.cola_tools.specs.Growing.{AreZero}
use Rattle.cola_tools.specs.Loading.{Pair, Loads, IsLoad, Holds, HasBegun, HasSizes, IsBegun, Ends, numbered, stamp_at, last_of, geometry_of, place_in}
use Rattle.cola_tools.proofs.NewFiles.{not-refused, was-refused, file-in, file-long, spoiled-long}

-- the last stamp is one of the format
pub last-fits : (format : Format) (keys : ℕ) → AreKeys keys → stamp_at format keys ≤ stamp_limit format
last-fits One keys are = omega arith
last-fits Two keys are = omega (arith, are.few)

-- ---- a beginning

-- bytes of which one is not zero
pub each-zero : (bytes : List ℕ) → AreZero bytes → (k : ℕ) → k < length bytes → slice_index bytes k ≡ 0
each-zero bytes zero k within = ap (λ (xs : List ℕ). slice_index xs k) zero ∙ get_or-replicate (length bytes) k 0 0 within

-- by the numbers that were asked for
pub is-begun : (keys block_exp version : ℕ) (before : List ℕ) (geometry : Geometry) (place : Place) (load : Loads) → HasSizes keys block_exp version geometry
    → file_bytes geometry ≤ length before → AreZero before → HasBegun geometry place load → IsBegun keys block_exp version before place load
is-begun keys block_exp version before geometry place load sizes enough zero begun = record {
  sizes = subst (λ (g : Geometry). HasSizes keys block_exp version g) (sym begun.geometry_is) sizes;
  enough = subst (λ (g : Geometry). file_bytes g ≤ length before) (sym begun.geometry_is) enough;
  was_zero = zero;
  begun = record {
    geometry_is = refl;
    none = begun.none;
    no_rows = begun.no_rows;
    place_is = begun.place_is;
    no_reads = begun.no_reads;
    no_writes = begun.no_writes;
  };
}

pub same-place : (at at' : Ptr) (len len' : ℕ) (bytes bytes' : List ℕ) → at ≡ at' → len ≡ len' → bytes ≡ bytes' → place_in at len bytes ≡ place_in at' len' bytes'
same-place at at' len len' bytes bytes' place long same =
    ap (λ (p : Ptr). place_in p len bytes) place ∙ (ap (λ (n : ℕ). place_in at' n bytes) long ∙ ap (λ (b : List ℕ). place_in at' len' b) same)

-- ---- a device whose file is laid out, before and after a call that leaves the file as long as it was

module _ (old now : New) (was : IsNew old) (is : IsNew now) (laid : old.refused ≡ false) (long : length (file_of now) ≡ length (file_of old)) where
  -- no such call fails
  pub never-fails : place_of now ≡ place_of old → Rose old.faults now.faults → ⊥
  never-fails placed rose =
      let spoiled : now.refused ≡ true = was-refused now is (subst (λ (n : ℕ). Rose n now.faults) (was.no_fault laid) rose) in
      omega (arith, long, file-long old was laid, spoiled-long now is spoiled, was.inside, ap (λ (place : Place). place.many) placed)

  -- one that is carried out leaves the file laid out
  pub stays-laid : now.faults ≡ old.faults → now.refused ≡ false
  stays-laid calm = not-refused now is (calm ∙ was.no_fault laid)

  pub size-stays : now.faults ≡ old.faults → now.size ≡ old.size
  size-stays calm = sym (file-long now is (stays-laid calm)) ∙ (long ∙ file-long old was laid)

-- ---- rows

pub numbered-long : (format : Format) (number : ℕ) (rows : List Pair) → length (numbered format number rows) ≡ length rows
numbered-long format number [] = refl
numbered-long format number (pair ∷ rows) = ap suc (numbered-long format (number + 1) rows)

pub numbered-more : (format : Format) (number : ℕ) (rows : List Pair) (key value : List ℕ)
    → numbered format number (rows ++ (key, value) ∷ []) ≡ numbered format number rows ++ record { key = key; value = value; stamp = stamp_at format (number + length rows) } ∷ []
numbered-more format number [] key value = ap (λ (n : ℕ). record { key = key; value = value; stamp = stamp_at format n } ∷ []) (omega arith)
numbered-more format number (pair ∷ rows) key value =
    let row : Row = record { key = pair.0; value = pair.1; stamp = stamp_at format number } in
    ap (λ (rest : List Row). row ∷ rest) (numbered-more format (number + 1) rows key value
    ∙ ap (λ (n : ℕ). numbered format (number + 1) rows ++ record { key = key; value = value; stamp = stamp_at format n } ∷ []) (omega arith))

-- a row was pushed behind the rows that were held
pub one-more : (old now : Loads) (key value : List ℕ) (stamp : ℕ) → stamp ≡ stamp_at (geometry_of old).format (old.loader.rows + 1)
    → geometry_of now ≡ geometry_of old → now.loader.last ≡ old.loader.last
    → ((rows : List Row) → HoldsRows old.loader (file_of old.device) rows → HoldsRows now.loader (file_of now.device) (rows ++ record { key = key; value = value; stamp = stamp } ∷ []))
    → (rows : List Pair) → Holds old rows → Holds now (rows ++ (key, value) ∷ [])
one-more old now key value stamp stamp-is geometry-is last-is pushes rows holds =
    let format : Format = (geometry_of old).format in
    let many : old.loader.rows ≡ length rows = holds.held.many ∙ numbered-long format 1 rows in
    let number : stamp ≡ stamp_at format (1 + length rows) = stamp-is ∙ ap (stamp_at format) (omega (arith, many)) in
    let more : numbered format 1 rows ++ record { key = key; value = value; stamp = stamp } ∷ [] ≡ numbered (geometry_of now).format 1 (rows ++ (key, value) ∷ []) =
    ap (λ (n : ℕ). numbered format 1 rows ++ record { key = key; value = value; stamp = n } ∷ []) number
    ∙ (sym (numbered-more format 1 rows key value) ∙ ap (λ (g : Geometry). numbered g.format 1 (rows ++ (key, value) ∷ [])) (sym geometry-is)) in
    record {
      last_is = last-is ∙ (holds.last_is ∙ ap last_of (sym geometry-is));
      held = subst (λ (rs : List Row). HoldsRows now.loader (file_of now.device) rs) more (pushes (numbered format 1 rows) holds.held);
    }

-- what a load is behind a row
pub goes-on : (loader loader' : Loading) (device device' : New) (geometry : Geometry) (rows : ℕ) (key key' : Option (List ℕ)) → IsLoad loader device geometry rows key → IsNew device → IsNew device'
    → device'.faults ≡ device.faults → StaysInFront loader.geometry (file_of device) (file_of device') → loader'.geometry ≡ loader.geometry → loader'.last ≡ loader.last
    → loader'.rows ≡ loader.rows + 1 → loader'.key ≡ key' → rows < geometry.keys → IsLoad loader' device' geometry (rows + 1) key'
goes-on loader loader' device device' geometry rows key key' is was sound calm stays geometry-is last-is rows-are key-is room = record {
  geometry_is = geometry-is ∙ is.geometry_is;
  last_is = last-is ∙ is.last_is;
  rows_are = rows-are ∙ ap (λ (n : ℕ). n + 1) is.rows_are;
  key_is = key-is;
  few = omega (arith, room);
  laid = stays-laid device device' was sound is.laid stays.size_stays calm;
  size_is = size-stays device device' was sound is.laid stays.size_stays calm ∙ is.size_is;
  no_header = headless-then loader.geometry (file_of device) (file_of device') stays is.no_header;
}

-- ---- an end

-- the store of the rows stands in the bytes
pub ends : (old : Loads) (now : New) → IsNew now → now.refused ≡ false → ((rows : List Row) → HoldsRows old.loader (file_of old.device) rows → IsFilled (geometry_of old) old.loader.last rows (file_of now)) → Ends old now.bytes
ends old now sound laid finishes rows holds =
    let g : Geometry = geometry_of old in
    let last : ℕ = old.loader.last in
    let filled : IsFilled g last (numbered g.format 1 rows) (file_of now) = finishes (numbered g.format 1 rows) holds.held in
    record {
      file = file_of now;
      in_bytes = file-in now sound laid (file_bytes g) filled.whole;
      are_rows = subst (λ (n : ℕ). AreRows (shape_of g.format g.keys) n (numbered g.format 1 rows)) holds.last_is holds.held.are_rows;
      filled = subst (λ (n : ℕ). IsFilled g n (numbered g.format 1 rows) (file_of now)) holds.last_is filled;
    }
