-- Lines that are loaded one after another: what there is behind each.
use Rattle.std.proofs.Common.{◌≡◌, inl, inr, ℕ, ◌+◌, ◌-◌, ◌≤◌, ◌<◌, List, [], ◌∷◌, ◌++◌, length, Option, Some, None, Result, Ok, IfSome, refl, sym, ap, ◌∙◌, subst, append-nil, arith, false, true, Bool, IsTrue, nat_le, if◌then◌else◌, length-append}
use Rattle.std.specs.declared.cmp.Ordering.{Ordering}
use Rattle.std.specs.declared.cmp.Ordering.TheVariants.{Less, Equal, Greater}
use Rattle.std.specs.Ordering.{is_le, is_lt}
use Rattle.std.proofs.lemmas.Bool.{leb-false}
use Rattle.std.proofs.lemmas.List.{map-append, length-map}
use Rattle.cola_outside.specs.Told.{Both}
use Rattle.cola_cell.specs.declared.format.Format.{Format}
use Rattle.cola_device.specs.declared.device.Device as device
use Rattle.cola_device.specs.declared.device.DeviceFault.{DeviceFault}
use Rattle.cola_device.specs.Bytes.{HasRange}
use Rattle.cola_io.specs.declared.source.Source as source
use Rattle.cola_io.specs.declared.sink.Sink as sink
use Rattle.cola_io.specs.Reading.{Reading}
use Rattle.cola_io.specs.Reads.{Read, bytes_read}
use Rattle.cola_io.specs.Law.{all_ended_lines}
use Rattle.cola_layout.specs.declared.geometry.Geometry.{Geometry}
use Rattle.cola_spec.specs.Lines.{Line}
use Rattle.cola_run.proofs.Spots.{both-with, both-second}
use Rattle.cola_run.specs.Cells.{file_bytes}
use Rattle.cola_session.specs.Ends.{ReadToEnd}
use Rattle.cola_session.specs.Reading.{AreFirstLines}
use Rattle.cola_session.proofs.ReadingOn.{ReadSoFar}
use Rattle.cola_spec.specs.Map.{Shape, key_cmp}
use Rattle.cola_spec.proofs.OrderLaws.{turned}
use Rattle.cola_shapes.specs.Shapes.{shape_of}
use Rattle.cola_load.specs.declared.said.Said.{Said}
use Rattle.cola_load.specs.declared.said.Said.TheVariants as saying
use Rattle.cola_load.specs.declared.answer.Word.{Word}
use Rattle.cola_load.specs.declared.answer.RowLine.{RowLine}
use Rattle.cola_load.specs.declared.answer.RowLine.TheVariants as answer
use Rattle.cola_load.specs.Said.{said}
use Rattle.cola_load.specs.Filled.{Row}
use Rattle.cola_load.specs.Rows.{Standing, standing, rows_said, rows_of, row_of, last_key, is_not_above, word_at, word_of, word_behind}
use Rattle.cola_load.specs.Judged.{Judging, Judged, settled, answer_of, given, word_next, start}
use Rattle.cola_load.specs.Loading.{Loading, HoldsRows, Pushes, StaysInFront, IsAbove, full_blocks}
use Rattle.cola_filling.specs.Lines.{IsFresh, AreLoaded}
use Rattle.cola_filling.specs.Loads.{HaveNoWord, HasNoHeader, loaded_rows, unstamped}
use Rattle.cola_load.proofs.Copying as headless
use Rattle.cola_load.proofs.Blocks.{blocks-rise}
use Rattle.cola_opening.specs.Counted.{Spends}
use Rattle.cola_opening.proofs.Spending.{spends-none, spends-then, called-spends}
use Rattle.cola_device.specs.Counts.{Called}
use Rattle.cola_load.proofs.Chains.{behind, standing_more, rows_more, last_more}
use Rattle.cola_load.proofs.FirstWords.{all_without_word, next_word}

-- a word that comes of what it is told
none_then : (found : Option Word) (old : Judging) (says : Said) (new : Judging) → new ≡ settled found old says → new.word ≡ None → found ≡ None
none_then None old says new is none = refl
none_then (Some word) old says new is none = let some : new.word ≡ Some word = ap (λ s. s.word) is in cc

some_then : (found : Option Word) (old : Judging) (says : Said) (new : Judging) (word : Word) → new ≡ settled found old says → new.word ≡ Some word → found ≡ Some word
some_then None old says new word is some = let none : new.word ≡ None = ap (λ s. s.word) is in cc
some_then (Some found) old says new word is some = let same : new.word ≡ Some found = ap (λ s. s.word) is in cc

given-row : (says : Said) (key value : List ℕ) → answer.Row key value ≡ given says → row_of says ≡ (key, value) ∷ []
given-row saying.Nothing key value is = cc
given-row (saying.Row k v) key value is = cc
given-row (saying.End n) key value is = cc
given-row saying.Other key value is = cc

given-none : (says : Said) (answered : RowLine) → answered ≡ given says → ((key value : List ℕ) → answered ≡ answer.Row key value → ⊥) → row_of says ≡ []
given-none saying.Nothing answered is other = refl
given-none (saying.Row k v) answered is other = absurd (other k v is)
given-none (saying.End n) answered is other = refl
given-none saying.Other answered is other = refl

abbrev pub one_row : List ℕ → List ℕ → Row
one_row key value = record { key = key; value = value; stamp = 0 }

unstamped-more : (rows more : List (List ℕ × List ℕ)) → unstamped (rows ++ more) ≡ unstamped rows ++ unstamped more
unstamped-more rows more = map-append (λ row. one_row row.0 row.1) rows more

-- what there is behind lines that were told: no word, the state that they give, a loader with their rows, and the writes of its blocks
pub record LoadedSoFar {D : Type 0} (d : device.Ghosts D) (geometry : Geometry) (told : List Line) (state : Judging) (loading : Loading) (before now : D) : Type 0 where
  pub state_is : state ≡ behind geometry.keys geometry.format told
  pub no_word : HaveNoWord (shape_of geometry.format geometry.keys) told
  pub geometry_is : loading.geometry ≡ geometry
  pub last_is : loading.last ≡ 0
  pub rows_are : loading.rows ≡ state.before.rows
  pub key_is : loading.key ≡ state.before.last
  pub holds : IfSome (d.bytes now) (λ bytes. HoldsRows loading bytes (unstamped (rows_said (shape_of geometry.format geometry.keys) told)))
  pub few : loading.rows ≤ geometry.keys
  pub spends : Spends (d.counts before) (d.counts now) 0 (full_blocks geometry loading.rows) 0
  pub no_fault : (d.counts now).faults ≡ (d.counts before).faults

module _ (keys : ℕ) (format : Format) (told : List Line) (line : Line) (old new : Judging) (answered : RowLine) (old_is : old ≡ behind keys format told) (no_word : HaveNoWord (shape_of format keys) told) (judged : Judged old line answered new) where
  abbrev sh : Shape
  sh = shape_of format keys

  abbrev says : Said
  says = said sh line

  said-same : said (shape_of old.format old.keys) line ≡ says
  said-same = ap (λ (s : Judging). said (shape_of s.format s.keys) line) old_is

  word-same : word_next old line ≡ word_behind sh told line
  word-same = ap (λ (s : Judging). word_next s line) old_is

  -- the word of all these lines is the one that was found
  pub word-now : word_of sh (told ++ line ∷ []) ≡ word_next old line
  word-now = next_word sh [] told line no_word ∙ sym word-same

  pub found-word : (word : Word) → new.word ≡ Some word → word_of sh (told ++ line ∷ []) ≡ Some word
  found-word word some = word-now ∙ some_then (word_next old line) old (said (shape_of old.format old.keys) line) new word judged.after some

  module _ (none : new.word ≡ None) where
    no-word-next : word_next old line ≡ None
    no-word-next = none_then (word_next old line) old (said (shape_of old.format old.keys) line) new judged.after none

    pub none-now : HaveNoWord sh (told ++ line ∷ [])
    none-now = word-now ∙ no-word-next

    pub state-now : new ≡ behind keys format (told ++ line ∷ [])
    state-now =
        judged.after ∙ ap (λ w. settled w old (said (shape_of old.format old.keys) line)) no-word-next
        ∙ ap (λ (s : Judging). settled None s (said (shape_of s.format s.keys) line)) old_is
        ∙ ap (λ (s : Standing). record { keys = keys; format = format; before = s; word = None }) (sym (standing_more sh told line))

    answer-now : answered ≡ given says
    answer-now = judged.answered ∙ ap (λ w. answer_of w (said (shape_of old.format old.keys) line)) no-word-next ∙ ap given said-same

    pub row-more : (key value : List ℕ) → answered ≡ answer.Row key value → rows_said sh (told ++ line ∷ []) ≡ rows_said sh told ++ (key, value) ∷ []
    row-more key value is = rows_more sh told line ∙ ap (λ r. rows_said sh told ++ r) (given-row says key value (sym is ∙ answer-now))

    pub no-row-more : ((key value : List ℕ) → answered ≡ answer.Row key value → ⊥) → rows_said sh (told ++ line ∷ []) ≡ rows_said sh told
    no-row-more other = rows_more sh told line ∙ ap (λ r. rows_said sh told ++ r) (given-none says answered answer-now other) ∙ append-nil (rows_said sh told)

-- the rows of lines without a word are all that they say
pub rows-all : (shape : Shape) (lines : List Line) → HaveNoWord shape lines → rows_of shape lines ≡ rows_said shape lines
rows-all shape lines none = ap (rows_said shape) (all_without_word shape [] lines none)

-- ---- one more line

not_le : (o : Ordering) → is_le o ≡ false → o ≡ Greater
not_le Less h = cc
not_le Equal h = cc
not_le Greater h = refl

is-above : (last : Option (List ℕ)) (key : List ℕ) → is_not_above last key ≡ false → IsAbove last key
is-above None key higher = tt
is-above (Some last) key higher = subst (λ (o : Ordering). IsTrue (is_lt o)) (sym ((turned key last).0 (not_le (key_cmp key last) higher))) refl

no_test : (a b c : Bool) (x y z : Word) → (if a then Some x else if b then Some y else if c then Some z else None) ≡ None → (b ≡ false) × (c ≡ false)
no_test true b c x y z none = cc
no_test false true c x y z none = cc
no_test false false true x y z none = cc
no_test false false false x y z none = (refl, refl)

row-said : (says : Said) (key value : List ℕ) → answer.Row key value ≡ given says → says ≡ saying.Row key value
row-said saying.Nothing key value is = cc
row-said (saying.Row k v) key value is = cc
row-said (saying.End n) key value is = cc
row-said saying.Other key value is = cc

pub some-option : {A : Type 0} (told : Option A) (P Q : A → Type 0) → ((x : A) → P x → Q x) → IfSome told P → IfSome told Q
some-option None P Q step some = tt
some-option (Some x) P Q step some = step x some

module _ {D : Type 0} (d : device.Ghosts D) (geometry : Geometry) where
  abbrev limits : Shape
  limits = shape_of geometry.format geometry.keys

  -- before the first line
  pub none-loaded : (loading : Loading) (now : D) → IsFresh (d.bytes now) loading → geometry ≡ loading.geometry → LoadedSoFar d geometry [] (start geometry.keys geometry.format) loading now now
  none-loaded loading now fresh is = record {
    state_is = refl;
    no_word = refl;
    geometry_is = sym is;
    last_is = fresh.no_last;
    rows_are = fresh.no_rows;
    key_is = fresh.no_key;
    holds = fresh.holds;
    few = (let none = fresh.no_rows in omega (arith, none));
    spends = spends-none;
    no_fault = refl;
  }

  module _ (told : List Line) (line : Line) (old new : Judging) (loading : Loading) (before mid : D) (answered : RowLine) (so_far : LoadedSoFar d geometry told old loading before mid) (judged : Judged old line answered new) (none : new.word ≡ None) where
    -- a line that gives no row
    pub line-loaded : ((key value : List ℕ) → answered ≡ answer.Row key value → ⊥) → LoadedSoFar d geometry (told ++ line ∷ []) new loading before mid
    line-loaded other =
        let state = state-now geometry.keys geometry.format told line old new answered so_far.state_is so_far.no_word judged none in
        let rows = no-row-more geometry.keys geometry.format told line old new answered so_far.state_is so_far.no_word judged none other in
        record {
          state_is = state;
          no_word = none-now geometry.keys geometry.format told line old new answered so_far.state_is so_far.no_word judged none;
          geometry_is = so_far.geometry_is;
          last_is = so_far.last_is;
          rows_are = so_far.rows_are ∙ ap (λ (s : Judging). s.before.rows) so_far.state_is ∙ sym (ap (λ (s : Judging). s.before.rows) state ∙ ap length rows);
          key_is = so_far.key_is ∙ ap (λ (s : Judging). s.before.last) so_far.state_is ∙ sym (ap (λ (s : Judging). s.before.last) state ∙ ap last_key rows);
          holds = subst (λ r. IfSome (d.bytes mid) (λ bytes. HoldsRows loading bytes (unstamped r))) (sym rows) so_far.holds;
          few = so_far.few;
          spends = so_far.spends;
          no_fault = so_far.no_fault;
        }

    module _ (key value : List ℕ) (is : answered ≡ answer.Row key value) where
      says-row : said limits line ≡ saying.Row key value
      says-row = row-said (said limits line) key value (sym is ∙ answer-now geometry.keys geometry.format told line old new answered so_far.state_is so_far.no_word judged none)

      tests : (is_not_above (standing limits told).last key ≡ false) × (nat_le geometry.keys (standing limits told).rows ≡ false)
      tests =
          let word : word_at geometry.keys (standing limits told) (saying.Row key value) ≡ None =
          ap (word_at geometry.keys (standing limits told)) (sym says-row) ∙ sym (next_word limits [] told line so_far.no_word)
          ∙ none-now geometry.keys geometry.format told line old new answered so_far.state_is so_far.no_word judged none in
          no_test _ _ _ _ _ _ word

      -- may be pushed
      pub has-room : loading.rows < loading.geometry.keys
      has-room =
          let rows : loading.rows ≡ (standing limits told).rows = so_far.rows_are ∙ ap (λ (s : Judging). s.before.rows) so_far.state_is in
          let keys : loading.geometry.keys ≡ geometry.keys = ap (λ (g : Geometry). g.keys) so_far.geometry_is in
          omega (arith, leb-false geometry.keys (standing limits told).rows tests.1, rows, keys)

      pub is-higher : IsAbove loading.key key
      is-higher = subst (λ k. IsAbove k key) (sym (so_far.key_is ∙ ap (λ (s : Judging). s.before.last) so_far.state_is)) (is-above (standing limits told).last key tests.0)

      -- a push of it makes the writes of one row more
      pub row-spends : {T E : Type 0} {result : Result T E} (now : D) → Called (d.counts mid) (d.counts now) 0 (full_blocks loading.geometry (loading.rows + 1) - full_blocks loading.geometry loading.rows) 0 result
          → Spends (d.counts before) (d.counts now) 0 (full_blocks geometry (loading.rows + 1)) 0
      row-spends now called =
          let more = blocks-rise loading.geometry loading.rows (loading.rows + 1) (omega arith) in
          let same : full_blocks geometry loading.rows ≡ full_blocks loading.geometry loading.rows = ap (λ (g : Geometry). full_blocks g loading.rows) (sym so_far.geometry_is) in
          let next : full_blocks geometry (loading.rows + 1) ≡ full_blocks loading.geometry (loading.rows + 1) = ap (λ (g : Geometry). full_blocks g (loading.rows + 1)) (sym so_far.geometry_is) in
          spends-then so_far.spends (called-spends called) (omega arith) (omega (arith, more, same, next)) (omega arith)

      pub one-more : loading.rows + 1 ≤ geometry.keys
      one-more =
          let keys : loading.geometry.keys ≡ geometry.keys = ap (λ (g : Geometry). g.keys) so_far.geometry_is in
          omega (arith, has-room, keys)

      -- and where it was pushed, it is loaded
      pub row-loaded : (after : Loading) (now : D) → Both (d.bytes mid) (d.bytes now) (Pushes {T = Unit {0}} {E = DeviceFault} (Ok tt) loading after (one_row key value)) → after.geometry ≡ loading.geometry → after.last ≡ loading.last
          → after.rows ≡ loading.rows + 1 → after.key ≡ Some key → Spends (d.counts before) (d.counts now) 0 (full_blocks geometry (loading.rows + 1)) 0 → (d.counts now).faults ≡ (d.counts mid).faults → LoadedSoFar d geometry (told ++ line ∷ []) new after before now
      row-loaded after now pushes same_geometry same_last more_rows new_key spent faults =
          let state = state-now geometry.keys geometry.format told line old new answered so_far.state_is so_far.no_word judged none in
          let rows = row-more geometry.keys geometry.format told line old new answered so_far.state_is so_far.no_word judged none key value is in
          let alike = so_far.rows_are ∙ ap (λ (s : Judging). s.before.rows) so_far.state_is in
          record {
            state_is = state;
            no_word = none-now geometry.keys geometry.format told line old new answered so_far.state_is so_far.no_word judged none;
            geometry_is = same_geometry ∙ so_far.geometry_is;
            last_is = same_last ∙ so_far.last_is;
            rows_are =
                more_rows ∙ ap (λ n. n + 1) alike ∙ sym (length-append (rows_said limits told) ((key, value) ∷ [])) ∙ sym (ap (λ (s : Judging). s.before.rows) state ∙ ap length rows);
            key_is = new_key ∙ sym (ap (λ (s : Judging). s.before.last) state ∙ ap last_key rows ∙ last_more (rows_said limits told) (key, value));
            holds =
                subst (λ r. IfSome (d.bytes now) (λ bytes. HoldsRows after bytes r))
                (sym (ap unstamped rows ∙ unstamped-more (rows_said limits told) ((key, value) ∷ [])))
                (both-second (d.bytes mid) (d.bytes now) _ (λ bytes. HoldsRows after bytes (unstamped (rows_said limits told) ++ one_row key value ∷ [])) (λ x y both. both.1 (unstamped (rows_said limits told)) both.0)
                (both-with (d.bytes mid) (d.bytes now) (λ bytes. HoldsRows loading bytes (unstamped (rows_said limits told))) _ so_far.holds pushes));
            few = subst (λ (n : ℕ). n ≤ geometry.keys) (sym more_rows) one-more;
            spends = subst (λ (n : ℕ). Spends (d.counts before) (d.counts now) 0 (full_blocks geometry n) 0) (sym more_rows) spent;
            no_fault = faults ∙ so_far.no_fault;
          }

-- ---- how the lines end

-- the first lines of what was read
pub first-told : {S : Type 0} (g : source.Ghosts S) (source source' : S) (reader : Reading) (reads : List Read) (told : List Line) → ReadSoFar g source source' reader reads told → AreFirstLines told reads
first-told g source source' reader reads told now = by-end reader.ended refl
  where
    by-end : (ended : Bool) → reader.ended ≡ ended → AreFirstLines told reads
    by-end true e = inr (sym now.ended ∙ e, now.has_read.all_told e)
    by-end false e = inl (all_ended_lines (reader.pending ++ []), sym (now.has_read.going_ended e []) ∙ ap all_ended_lines (append-nil (bytes_read reads)))

module _ {D : Type 0} (d : device.Ghosts D) (geometry : Geometry) (told : List Line) (state : Judging) (loading : Loading) (before now : D) (so_far : LoadedSoFar d geometry told state loading before now) where
  abbrev shape-is : Shape
  shape-is = shape_of geometry.format geometry.keys

  rows-same : unstamped (rows_said shape-is told) ≡ loaded_rows shape-is told
  rows-same = ap unstamped (sym (rows-all shape-is told so_far.no_word))

  pub holds-loaded : IfSome (d.bytes now) (λ bytes. HoldsRows loading bytes (loaded_rows shape-is told))
  holds-loaded = subst (λ r. IfSome (d.bytes now) (λ bytes. HoldsRows loading bytes r)) rows-same so_far.holds

  pub many-loaded : loading.rows ≡ length (loaded_rows shape-is told)
  many-loaded =
      so_far.rows_are ∙ ap (λ (s : Judging). s.before.rows) so_far.state_is ∙ sym (length-map (rows_said shape-is told) (λ row. one_row row.0 row.1)) ∙ ap length rows-same

  pub no-header : HasNoHeader (d.bytes now)
  no-header = headless.no-header loading (d.bytes now) (unstamped (rows_said shape-is told)) so_far.holds

  -- nor after a write that failed
  pub no-header-then : (later : D) → Both (d.bytes now) (d.bytes later) (StaysInFront loading.geometry) → HasNoHeader (d.bytes later)
  no-header-then later stays = headless.no-header-then loading (d.bytes now) (d.bytes later) (unstamped (rows_said shape-is told)) so_far.holds stays

  -- the device has the file
  pub has-file : HasRange (d.bytes now) 0 (file_bytes loading.geometry)
  has-file = some-option (d.bytes now) (λ bytes. HoldsRows loading bytes (unstamped (rows_said shape-is told))) (λ bytes. 0 + file_bytes loading.geometry ≤ length bytes) (λ bytes held. omega (arith, held.size)) so_far.holds

  -- all lines are told
  pub all-are-loaded : {S K : Type 0} (g : source.Ghosts S) (h : sink.Ghosts K) (old : Loading) → geometry ≡ old.geometry → old.last ≡ 0 → (source source' : S) (sink sink' : K) → sink' ≡ sink
      → ((C : List Line → Type 0) → C told → ReadToEnd g h source source' sink sink C) → AreLoaded g h d old loading source source' sink sink' before now
  all-are-loaded g h old same none source source' sink sink' stays ends = record {
    rows = loaded_rows (shape_of old.geometry.format old.geometry.keys) told;
    read =
        ends (λ lines. HaveNoWord (shape_of old.geometry.format old.geometry.keys) lines × (loaded_rows (shape_of old.geometry.format old.geometry.keys) told ≡ loaded_rows (shape_of old.geometry.format old.geometry.keys) lines))
        (subst (λ (G : Geometry). HaveNoWord (shape_of G.format G.keys) told) same so_far.no_word, refl);
    holds = subst (λ (G : Geometry). IfSome (d.bytes now) (λ bytes. HoldsRows loading bytes (loaded_rows (shape_of G.format G.keys) told))) same holds-loaded;
    many = subst (λ (G : Geometry). loading.rows ≡ length (loaded_rows (shape_of G.format G.keys) told)) same many-loaded;
    geometry_stays = so_far.geometry_is ∙ same;
    last_stays = so_far.last_is ∙ sym none;
    sink_stays = stays;
    few_writes =
        subst (λ (G : Geometry). (d.counts now).writes ≤ (d.counts before).writes + full_blocks G (length (loaded_rows (shape_of G.format G.keys) told))) same
        (subst (λ n. (d.counts now).writes ≤ (d.counts before).writes + full_blocks geometry n) many-loaded so_far.spends.writes_rise);
    no_fault = so_far.no_fault;
  }
