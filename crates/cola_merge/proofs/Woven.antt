-- Steps over windows are steps of the merge.
use Rattle.std.proofs.Common.{◌≡◌, ◌≢◌, inl, inr, ℕ, zero, suc, ◌+◌, ◌-◌, ◌*◌, ◌/◌, ◌%◌, ◌<◌, ◌≤◌, ◌==◌, Bool, true, false, if◌then◌else◌, List, [], ◌∷◌, ◌++◌, length, take, drop, Option, Some, None, IsSome, map, refl, ap, sym, subst, ◌∙◌, arith}
use Rattle.std.proofs.lemmas.Bool.{eqb-true, false_from_ne_true, true≢false}
use Rattle.std.proofs.lemmas.Bool.Decides.{eqb_tells, leb_tells}
use Rattle.std.proofs.lemmas.List.{length-drop, take_all}
use Rattle.std.proofs.lemmas.Option.{slice_get-map}
use Rattle.std.specs.Option.{option_map}
use Rattle.std.specs.Prelude.{IfSome, is_some}
use Rattle.cola_runs.specs.Cells as laws
use Rattle.cola_cell.specs.Decoded.{decoded, spot_of_bytes, stands, standing}
use Rattle.cola_cell.specs.Flat.{spot_of}
use Rattle.cola_cell.proofs.DecodedLemmas.{decoded_fits, spot_told}
use Rattle.cola_merge.specs.Heads.{held_at, IsHeldCell, IsFetched, fetched_of, head_of, consumed, IsHead, IsReady, held_head, missing, fetched, AreFeedsTold, build_of}
use Rattle.cola_merge.specs.Weaving.{gone_cell, gone, Passes, PassesOver, IsIncoming, with_incoming, one_at, held_heads, rules_of, IsReachOf, IsIncomingReachOf, IsSampleReachOf}
use Rattle.cola_merge.proofs.Taking.{took_none}
use Rattle.std.proofs.lemmas.Nat.{le-div, mod-mul-add}
use Rattle.std.proofs.Math.Nat.{div-mul-le_self, mod-add-div', lt_of_mul-lt-mul_right}
use Rattle.cola_cell.specs.declared.format.Format.TheVariants.{One, Two}
use Rattle.cola_cell.specs.Held.{Tells, Held, Spot, Told, LawCell, as_cell, span, IsTelling}
use Rattle.cola_cell.specs.Places.{Block}
use Rattle.cola_cell.proofs.CellLists.{past-cells, cells-more}
use Rattle.cola_cell.proofs.RunLemmas.{put_is_told}
use Rattle.cola_merge.specs.declared.aims.Feed.{Feed}
use Rattle.cola_merge.specs.declared.aims.Feed.TheVariants as feed
use Rattle.cola_merge.specs.Feeds.{feed_len, read_len, feed_spots, IsFeedTold, IsApart, part_of, feed_cells, feed_keys}
use Rattle.cola_merge.specs.Blocks.{Lasts, is_last, feed_left}
use Rattle.cola_merge.proofs.Groups.{div-mono}
use Rattle.cola_merge.proofs.Kept.{third, left-stays, ready-stays}
use Rattle.cola_merge.proofs.Sums.{spends_ticks}
use Rattle.cola_merge.proofs.Pushing.{span_pos, grows_by, shadow_more, told_more}
use Rattle.cola_merge.proofs.Ruling.{told_get, key_of-as_cell, not_below}
use Rattle.cola_merge.proofs.Reading.{heads_of, ready_by, heads_with, three_of}
use Rattle.cola_merge.proofs.Stepping.{feed_left-next}
use Rattle.cola_cell.specs.Spelling.{IsSpelling}
use Rattle.cola_cell.specs.Windows.{Views, IsShown, grown, Grown, OnlyTicks, Wove, cell_bytes_at}
use Rattle.cola_cell.specs.declared.cell.Cell.{Cell}
use Rattle.cola_cell.specs.declared.format.Format.{Format}
use Rattle.cola_cell.specs.declared.sink.Shadow.{Shadow}
use Rattle.cola_cell.specs.State.{State}
use Rattle.cola_cell.specs.ToldCells.{cell_at, cells, shadow_cells, IsShadowTold}
use Rattle.cola_cell.specs.Format.{width, CellFits}
use Rattle.cola_cell.specs.Order.{key_cmp}
use Rattle.cola_cell.specs.Spent.{Buffer}
use Rattle.cola_cell.specs.declared.cell.Reader.{Reader}
use Rattle.cola_cell.specs.declared.cell.Reader.TheVariants.{Own, Incoming, Sample}
use Rattle.cola_runs.specs.Steps.{steps}
use Rattle.cola_window.specs.Windows as windows
use Rattle.cola_window.specs.Windows.{cells_in, Shows, key_read, behind}
use Rattle.cola_merge.specs.declared.aims.Aim.{Aim}
use Rattle.cola_merge.specs.declared.merging.Merger.{Merger}
use Rattle.cola_merge.specs.declared.weaving.Share.{Share}
use Rattle.cola_merge.specs.Fetched.{Head}
use Rattle.cola_merge.specs.States.{Grows, Spends, Took, IsSavedByBlocks, state, KeepsBlocks, TurnsWithin}
use Rattle.cola_cell.specs.declared.windows.Reach.{Reach}

-- a shadow that takes the cells of a room grows
pub grown_grows : {old new : Held} {level count : ℕ} {room : List ℕ} → Grown old new level room count → Grows old new level
grown_grows {count = count} g =
    let fits = g.fits in
    grows_by count g.around (ap (λ (x : Shadow). x.slot) g.shadow_is) (ap (λ (x : Shadow). x.len) g.shadow_is) (λ _. fits) (λ l s i d. g.others_stay l s i (third (λ k. inl k) d))

-- cells of places as a room spells them
cells_spelled : (format : Format) (f : ℕ → Spot) (i n : ℕ) (room : List ℕ) → ((k : ℕ) → k < n → f (i + k) ≡ Told (as_cell (standing format (cell_bytes_at format k room)))) →
    cells f i n ≡ cells_in format n room
cells_spelled format f i zero room h = refl
cells_spelled format f i (suc n) room h =
    cells-more f i n
    ∙ ap (λ (r : List LawCell). r ++ (cell_at (f (i + n)) ∷ [])) (cells_spelled format f i n room (λ j l. h j (omega (arith, l))))
    ∙ ap (λ (s : Spot). cells_in format n room ++ (cell_at s ∷ [])) (h n (omega arith))

-- ticks alone are spent
pub only_spends : {old new : State} {from to count : ℕ} → OnlyTicks old new from to count → Spends old.spent new.spent from to
only_spends {count = count} o =
    let t = o.turned_is in
    let w = o.written_is in
    let f = o.faults_are in
    spends_ticks count o.steps_are o.ticked_are (omega (arith, t)) (omega (arith, w)) (omega (arith, t, w)) (omega (arith, f))

-- a shadow that fills no block
in_block : (n c k : ℕ) → 0 < k → n % k + c < k → (n + c) % k ≡ n % k + c
in_block n c k p h =
    let e : n % k + n / k * k ≡ n = mod-add-div' n k in
    ap (λ (x : ℕ). x % k) (let z : n + c ≡ n / k * k + (n % k + c) = omega (arith, e) in z) ∙ mod-mul-add (n / k) k (n % k + c) h

grown_saved : (c : ℕ) (x : Shadow) (k : ℕ) → 0 < k → c ≢ 0 → x.len % k + c < k → (grown c x).saved ≡ ((x.len + c) % k == 0)
grown_saved c x k p d h = elim (eqb_tells ((x.len + c) % k) 0) [
  | inl e ↦ let f : (x.len + c) % k ≡ 0 = e.1 in let z : (x.len + c) % k ≡ x.len % k + c = in_block x.len c k p h in absurd (d (omega (arith, f, z)))
  | inr e ↦ ap (λ (b : Bool). if b then x.saved else false) (false_from_ne_true (c == 0) (λ y. d (eqb-true c 0 y))) ∙ sym e.0
]

-- a feed has no more blocks left behind more of its cells
left_falls : (d : ℕ) (lasts : Lasts) (reader : Reader) (f : Feed) (at n : ℕ) → at + n ≤ feed_len f → feed_left d lasts reader f (at + n) ≤ feed_left d lasts reader f at
left_falls d lasts reader f at zero h = let e : at + 0 ≡ at = omega arith in rw e (omega arith)
left_falls d lasts reader f at (suc n) h =
    let l = left_falls d lasts reader f at n (omega (arith, h)) in
    let k = feed_left-next d lasts reader f (at + n) (omega (arith, h)) in
    let e : at + suc n ≡ at + n + 1 = omega arith in rw e (omega (arith, l, k))

-- ---- what windows show

width_some : (format : Format) → 0 < width format
width_some One = omega arith
width_some Two = omega arith

-- a place of a window where a cell begins
place_fits : (w n many : ℕ) (bytes : List ℕ) → length bytes ≡ many * w → w ≤ length (drop (n * w) bytes) → 0 < w → n < many
place_fits w n many bytes e h p =
    let d : length (drop (n * w) bytes) ≡ length bytes - n * w = length-drop (n * w) bytes in
    lt_of_mul-lt-mul_right w {m = n} {n = many} (omega (arith, d, e, h, p))

place_ends : (w n many : ℕ) (bytes : List ℕ) → length bytes ≡ many * w → length (drop (n * w) bytes) < w → many ≤ n
place_ends w n many bytes e h =
    let d : length (drop (n * w) bytes) ≡ length bytes - n * w = length-drop (n * w) bytes in
    let f : (n + 1) * w ≡ n * w + w = grind arith in
    let z : many < n + 1 = lt_of_mul-lt-mul_right w {m = many} {n = n + 1} (omega (arith, d, e, h, f)) in omega (arith, z)

-- the next cells of a feed are cells of a run from a place on, so many from one to the next, and these are so many bytes
record IsReached (held : Held) (f : Feed) (apart step at : ℕ) (reach : Reach) : Type 0 where
  step_is : step ≡ apart * width held.fixed.format
  stands : (n : ℕ) → reach.from + apart * n < reach.run.len →
      (at + n < feed_len f) × (held.spots reach.run.level reach.run.slot (reach.from + apart * n) ≡ feed_spots held f (at + n))
  past : (n : ℕ) → reach.run.len ≤ reach.from + apart * n → feed_len f ≤ at + n
  holds : read_len f < feed_len f → feed_len f ≤ at

-- no cell is left
none_reached : {held : Held} {f : Feed} {apart step at : ℕ} {reach : Reach} → step ≡ apart * width held.fixed.format → feed_len f ≤ at →
    reach ≡ record { run = record { level = 0; slot = 0; len = 0 }; from = 0 } → IsReached held f apart step at reach
none_reached s l e = rw e (record { step_is = s; stands = λ n h. absurd (omega (arith, h)); past = λ n h. omega (arith, l); holds = λ _. l })

reached : (held : Held) (f : Feed) (at : ℕ) (reach : Reach) → IsReachOf f at reach → IsReached held f 1 (width held.fixed.format) at reach
reached held (feed.Run run) at reach e = rw e (record {
  step_is = omega arith;
  stands = λ n h. (omega (arith, h), ap (held.spots run.level run.slot) (let z : at + 1 * n ≡ at + n = omega arith in z));
  past = λ n h. omega (arith, h);
  holds = λ l. absurd (omega (arith, l));
})
reached held feed.Nothing at reach e = none_reached (omega arith) (omega arith) e
reached held _ at reach e = absurd e

sample_reached : (held : Held) (f : Feed) (at : ℕ) (reach : Reach) → IsSampleReachOf f at reach → IsReached held f 8 (8 * width held.fixed.format) at reach
sample_reached held (feed.Sampled run) at reach e = rw e (record {
  step_is = refl;
  stands = λ n h. (
    (let y = le-div (at + n + 1) run.len 8 (omega arith) (omega (arith, h)) in omega (arith, y)),
    ap (held.spots run.level run.slot) (let z : 8 * at + 7 + 8 * n ≡ 8 * (at + n) + 7 = omega arith in z),
  );
  past = λ n h. let d : run.len / 8 * 8 ≤ run.len = div-mul-le_self run.len 8 in omega (arith, d, h);
  holds = λ l. absurd (omega (arith, l));
})
sample_reached held feed.Nothing at reach e = none_reached refl (omega arith) e
sample_reached held _ at reach e = absurd e

-- a window by which a head goes on, so many bytes from one cell to the next: its cells are those of the feed, it ends where the feed does, and one cell that no
-- access is needed for is held
record Serves (held : Held) (f : Feed) (step : ℕ) (head : Head) (bytes : List ℕ) (last : Bool) : Type 0 where
  found : (n : ℕ) → width held.fixed.format ≤ length (drop (n * step) bytes) →
      (head.at + n < feed_len f) × Tells (feed_spots held f (head.at + n)) (spot_of_bytes held.fixed.format (take (width held.fixed.format) (drop (n * step) bytes)))
  ends : (n : ℕ) → length (drop (n * step) bytes) < width held.fixed.format → last ≡ true → feed_len f ≤ head.at + n
  holds : read_len f < feed_len f → IsFetched f head

-- the window of a run
run_serves : {held : Held} {f : Feed} {apart step : ℕ} {reach : Reach} {bytes : List ℕ} {last : Bool} (head : Head) → IsReached held f apart step head.at reach → IsShown held reach bytes last →
    Serves held f step head bytes last
run_serves {held} {f} {apart} {step} {reach} {bytes} {last} head g s = record {
  found = λ n fits.
      let below : apart * n < s.many = place_fits (width held.fixed.format) (apart * n) s.many bytes s.size (rw (far n) at fits) (width_some held.fixed.format) in
      let within = s.within in
      let there = g.stands n (omega (arith, below, within)) in
      (there.0, rw (far n) (rw there.1 at (s.shows (apart * n) below)));
  ends = λ n short is. let past = place_ends (width held.fixed.format) (apart * n) s.many bytes s.size (rw (far n) at short) in let ends = s.ends is in g.past n (omega (arith, past, ends));
  holds = λ l m. let k = g.holds l in absurd (omega (arith, k, m));
}
  where
    far : (n : ℕ) → n * step ≡ apart * n * width held.fixed.format
    far n = ap (λ (x : ℕ). n * x) g.step_is ∙ (let z : n * (apart * width held.fixed.format) ≡ apart * n * width held.fixed.format = grind arith in z)

-- the one cell that a head holds, spelled
one_serves : (held : Held) (c d : Cell) (bytes : List ℕ) → IsHeldCell held (feed.One c) 0 (Some d) → IsSpelling held.fixed.format d bytes →
    Serves held (feed.One c) (width held.fixed.format) (held_at 0 d) bytes true
one_serves held c d bytes h s =
    let w = width held.fixed.format in
    let one : length bytes ≡ 1 * w = omega (arith, s.size) in
    record {
      found = λ n fits.
          let l : n < 1 = place_fits w n 1 bytes one fits (width_some held.fixed.format) in
          let begin : n * w ≡ 0 = ap (λ (x : ℕ). x * w) (let e : n ≡ 0 = omega (arith, l) in e) ∙ (let e : 0 * w ≡ 0 = grind arith in e) in
          let here : take w (drop (n * w) bytes) ≡ bytes = ap (λ (x : ℕ). take w (drop x bytes)) begin ∙ take_all w bytes (omega (arith, s.size)) in
          (omega (arith, l), h.1 ∙ sym (ap (spot_of_bytes held.fixed.format) here ∙ spot_told held.fixed.format d bytes s));
      ends = λ n short _. let l = place_ends w n 1 bytes one short in omega (arith, l);
      holds = λ _ _. refl;
    }

-- the window of what comes in
incoming_serves : (held : Held) (f : Feed) (at : ℕ) (cell : Option Cell) {reach : Reach} (views : Views) {bytes : List ℕ} {last : Bool} → IsHeldCell held f at cell →
    (is_some (one_at f at) ≡ true → IsSome cell) → IsIncomingReachOf f at reach → IsShown held reach views.incoming views.incoming_last →
    IsIncoming (if is_some (one_at f at) then cell else None) held.fixed.format views bytes last → Serves held f (width held.fixed.format) (record { at = at; cell = cell }) bytes last
incoming_serves held (feed.One c) zero None views h some e s i = absurd (true≢false (sym (some refl)))
incoming_serves held (feed.One c) zero (Some d) views {bytes} h some e s i = rw i.1 (one_serves held c d bytes h i.0)
incoming_serves held (feed.One c) (suc k) cell views h some e s i = run_serves {apart = 1} _ (none_reached (omega arith) (omega arith) e) (rw (i.0, i.1) s)
incoming_serves held f at cell {reach} views h some e s i = run_serves _ (reached held f at reach e) (rw (i.0, i.1) s)

-- the one cell fits the format
pub one_fits : (held : Held) (f : Feed) (at : ℕ) (has_one : Bool) (cell : Option Cell) → IsHeldCell held f at cell → IfSome (if has_one then cell else None) (CellFits held.fixed.format)
one_fits held f at true (Some c) h = h.2
one_fits held f at true None h = tt
one_fits held f at false cell h = tt

-- ---- a head that goes on

-- what holds of none, and of the cell that the first bytes spell, holds of what stands there
stands_so : (format : Format) (bytes : List ℕ) (P : Option Cell → Type 0) → P None → (width format ≤ length bytes → (c : Cell) → decoded format (take (width format) bytes) ≡ Some c → P (Some c)) → P (stands format bytes)
stands_so format bytes P none some = elim (leb_tells (width format) (length bytes)) [
  | inl e ↦ subst (λ (b : Bool). P (if b then decoded format (take (width format) bytes) else None)) (sym e.0) (by (decoded format (take (width format) bytes)) refl e.1)
  | inr e ↦ subst (λ (b : Bool). P (if b then decoded format (take (width format) bytes) else None)) (sym e.0) none
]
  where
    by : (x : Option Cell) → decoded format (take (width format) bytes) ≡ x → width format ≤ length bytes → P x
    by None is fits = none
    by (Some c) is fits = some fits c is

-- a cell that is held stays where the head goes on by none
gone_so : (format : Format) (count : ℕ) (bytes : List ℕ) (cell : Option Cell) (P : ℕ → Option Cell → Type 0) → P 0 cell → ((count ≡ 0 → cell ≡ None) → P count (stands format bytes)) →
    P count (gone_cell format count bytes cell)
gone_so format zero bytes (Some c) P kept new = kept
gone_so format zero bytes None P kept new = new (λ _. refl)
gone_so format (suc n) bytes cell P kept new = new (λ e. absurd (omega (arith, e)))

-- a head that went on by so many cells
record HasGone (held : Held) (f : Feed) (head next : Head) (n : ℕ) : Type 0 where
  at_is : next.at ≡ head.at + n
  is_head : IsHead held f next
  fetched : fetched_of f next + held_head head.cell ≡ fetched_of f head + n + held_head next.cell

-- a head that holds the one cell of its feed, unless that is consumed
one_held : (held : Held) (f : Feed) (at : ℕ) (cell : Option Cell) → feed_len f ≤ 1 → at ≤ feed_len f → IsHeldCell held f at cell → (at < feed_len f → IsSome cell) → at + held_head cell ≡ feed_len f
one_held held f at None l w h some = let k = not_below at (feed_len f) (λ m. true≢false (sym (some m))) in omega (arith, w, k)
one_held held f at (Some c) l w h some = omega (arith, l, h.0)

-- so many of one cell were consumed as are held no more
one_counted : {held : Held} (f : Feed) (head next : Head) (n : ℕ) → feed_len f ≤ 1 → IsHead held f head → IsHead held f next → next.at ≡ head.at + n → IsFetched f head →
    (n ≡ 0 → IsSome head.cell → IsSome next.cell) → held_head head.cell ≡ n + held_head next.cell
one_counted {held} f head next n l h k e some kept =
    let a = one_held held f head.at head.cell l h.within h.cell some in
    let b = one_held held f next.at next.cell l k.within k.cell (λ m. kept (omega (arith, l, e, m)) (some (omega (arith, e, m)))) in omega (arith, a, b, e)

-- so many more cells were read of the object, but for one that was held, and with one that is held then
counted : {held : Held} (f : Feed) (head next : Head) (n : ℕ) → IsHead held f head → IsHead held f next → next.at ≡ head.at + n → (read_len f < feed_len f → IsFetched f head) →
    (n ≡ 0 → IsSome head.cell → IsSome next.cell) → fetched_of f next + held_head head.cell ≡ fetched_of f head + n + held_head next.cell
counted (feed.One c) head next n h k e some kept = let a = one_counted (feed.One c) head next n (omega arith) h k e (some (omega arith)) kept in omega (arith, a)
counted feed.Nothing head next n h k e some kept = let a = one_counted feed.Nothing head next n (omega arith) h k e (λ l. absurd (omega (arith, l))) kept in omega (arith, a)
counted f head next n h k e some kept = omega (arith, e)

module _ {held : Held} {f : Feed} {step : ℕ} {head : Head} {bytes : List ℕ} {last : Bool} (s : Serves held f step head bytes last) where
  abbrev bytes_at : ℕ → List ℕ
  bytes_at n = take (width held.fixed.format) (drop (n * step) bytes)

  -- the window shows the cells of the feed
  shows : IsFeedTold held f → Shows as_cell held.fixed.format step last bytes (feed_cells held f) head.at
  shows told = record {
    cells = λ n fits spelled.
        let k = s.found n fits in
        told_get held f (head.at + n) (as_cell (standing held.fixed.format (bytes_at n))) k.0 told
        (subst (Tells (feed_spots held f (head.at + n))) (spot_told held.fixed.format (standing held.fixed.format (bytes_at n)) (bytes_at n) spelled) k.1);
    ends = λ n short is. past-cells (feed_spots held f) 0 (feed_len f) (head.at + n) (s.ends n short is);
  }

  -- a cursor that went on in the window stays in its feed
  within : (n : ℕ) → head.at ≤ feed_len f → n * step + width held.fixed.format ≤ length bytes + step → head.at + n ≤ feed_len f
  within zero h l = omega (arith, h)
  within (suc n) h l =
      let a : suc n * step ≡ n * step + step = grind arith in
      let d : length (drop (n * step) bytes) ≡ length bytes - n * step = length-drop (n * step) bytes in
      let e = (s.found n (omega (arith, a, d, l))).0 in omega (arith, e)

  has_gone : (next : Head) (n : ℕ) → IsHead held f head → next ≡ gone held.fixed.format step n bytes head → n * step + width held.fixed.format ≤ length bytes + step → HasGone held f head next n
  has_gone next n h e l =
      let p = gone_so held.fixed.format n (drop (n * step) bytes) head.cell (λ m x. IsHeldCell held f (head.at + m) x × (m ≡ 0 → IsSome head.cell → IsSome x))
      (subst (λ (m : ℕ). IsHeldCell held f m head.cell) (let z : head.at ≡ head.at + 0 = omega arith in z) h.cell, λ _ i. i)
      (λ none. (
        stands_so held.fixed.format (drop (n * step) bytes) (IsHeldCell held f (head.at + n)) tt (λ fits c is.
            let k = s.found n fits in (k.0, subst (λ (x : Option Cell). Tells (feed_spots held f (head.at + n)) (spot_of x)) is k.1, decoded_fits held.fixed.format (bytes_at n) c is)),
        λ z i. absurd (true≢false (sym i ∙ ap is_some (none z))),
      )) in
      let k : IsHead held f next = rw e (record { within = within n h.within l; cell = p.0 }) in
      let a : next.at ≡ head.at + n = ap (λ (x : Head). x.at) e in
      record { at_is = a; is_head = k; fetched = counted f head next n h k a s.holds (rw e p.1) }

left_moves : {held : Held} {f : Feed} {next : Head} (head : Head) (n d level slot : ℕ) (before now : Lasts) (reader : Reader) → IsApart level slot f →
    ((buffer : Buffer) → KeepsBlocks level slot buffer before now) → next.at ≡ head.at + n → IsHead held f next → feed_left d now reader f next.at ≤ feed_left d before reader f head.at
left_moves {f = f} head n d level slot before now reader apart keeps e h =
    let a = left_falls d now reader f head.at n (omega (arith, e, h.within)) in
    let b = left-stays d level slot before now reader f apart keeps head.at in
    let c = ap (feed_left d now reader f) e in
    omega (arith, a, b, c)

-- the keys of the cells that a window shows
shows_keys : {format : Format} {step at : ℕ} {last : Bool} {bytes : List ℕ} {list : List LawCell} → Shows as_cell format step last bytes list at → Shows key_read format step last bytes (map laws.key_of list) at
shows_keys {format} {step} {at} {last} {bytes} {list} s = record {
  cells = λ n fits spelled.
      slice_get-map laws.key_of list (at + n) ∙ ap (λ (x : Option LawCell). option_map laws.key_of x) (s.cells n fits spelled)
      ∙ ap Some (sym (key_of-as_cell (standing format (take (width format) (drop (n * step) bytes)))));
  ends = λ n short is. slice_get-map laws.key_of list (at + n) ∙ ap (λ (x : Option LawCell). option_map laws.key_of x) (s.ends n short is);
}

-- nothing happened
pub took_same : {aim : Aim} (old new : State) (m n : Merger) (from to count : ℕ) → IsReady old.held aim m → new ≡ old → n ≡ m → to ≡ from → count ≡ 0 → Took aim (state old m from) (state new n to) count
took_same {aim} old new m n from to count r e f g h =
    rw (e, f, g, h) (took_none (state old m from) r)

-- ---- a pass over windows

module _ {aim : Aim} (old new : State) (m n : Merger) (from to count : ℕ) (job : Share) (own incoming sample : Reach) (r : IsReady old.held aim m) (slot_in : (old.held.shadows aim.level).slot < 2)
    (w : Wove Passes old new aim.level own incoming sample m n job from to count) (rules : job.rules ≡ rules_of aim)
    (one : job.has_one ≡ is_some (one_at aim.incoming m.incoming.at)) (holds : job.has_one ≡ true → IsSome m.incoming.cell)
    (o : IsReachOf aim.own m.own.at own) (i : IsIncomingReachOf aim.incoming m.incoming.at incoming) (k : IsSampleReachOf aim.sample m.sample.at sample) where
  abbrev q : Passes m n job old.held.fixed.format w.views w.room w.passed
  q = w.wove_is

  abbrev p : PassesOver m n job old.held.fixed.format (with_incoming q.bytes q.last w.views) w.room w.passed
  p = q.over

  abbrev len : ℕ
  len = (old.held.shadows aim.level).len

  grows : Grows old.held new.held aim.level
  grows = grown_grows w.grown_is

  len_is : (new.held.shadows aim.level).len ≡ len + p.taken.pushed
  len_is = ap (λ (x : Shadow). x.len) w.grown_is.shadow_is ∙ ap (λ (x : ℕ). len + x) p.cells_are

  own_serves : Serves old.held aim.own (width old.held.fixed.format) m.own w.views.own w.views.own_last
  own_serves = run_serves m.own (reached old.held aim.own m.own.at own o) w.own_shown

  comes : Serves old.held aim.incoming (width old.held.fixed.format) m.incoming q.bytes q.last
  comes = incoming_serves old.held aim.incoming m.incoming.at m.incoming.cell w.views r.incoming.cell (λ e. holds (one ∙ e)) i w.incoming_shown
      (subst (λ (b : Bool). IsIncoming (if b then m.incoming.cell else None) old.held.fixed.format w.views q.bytes q.last) one q.incoming)

  sample_serves : Serves old.held aim.sample (8 * width old.held.fixed.format) m.sample w.views.sample w.views.sample_last
  sample_serves = run_serves m.sample (sample_reached old.held aim.sample m.sample.at sample k) w.sample_shown

  own_gone : HasGone old.held aim.own m.own n.own p.taken.own
  own_gone = has_gone own_serves n.own p.taken.own r.own p.own_is (omega (arith, p.merged.own_within))

  incoming_gone : HasGone old.held aim.incoming m.incoming n.incoming p.taken.incoming
  incoming_gone = has_gone comes n.incoming p.taken.incoming r.incoming p.incoming_is (omega (arith, p.merged.incoming_within))

  sample_gone : HasGone old.held aim.sample m.sample n.sample p.taken.sample
  sample_gone = has_gone sample_serves n.sample p.taken.sample r.sample p.sample_is (omega (arith, p.merged.sample_within))

  count_is : count ≡ p.taken.own + p.taken.incoming + p.taken.sample
  count_is = w.steps_is ∙ p.steps_are

  consumed_is : consumed n ≡ consumed m + count
  consumed_is = omega (arith, own_gone.at_is, incoming_gone.at_is, sample_gone.at_is, count_is)

  ticks_are : to + held_heads m ≡ from + count + p.taken.pushed + held_heads n
  ticks_are = let a = w.only_ticks.steps_are in let b = p.ticks_are in omega (arith, a, b, count_is)

  emits : p.taken.pushed ≤ count
  emits = let a = p.merged.emits in omega (arith, a, count_is)

  -- no head more is missing than there are steps
  ticks_most : to + missing n ≤ from + missing m + 2 * count
  ticks_most =
      let a = three_of m in
      let b = three_of n in
      omega (arith, a, b, ticks_are, emits)

  rises : (reader : Reader) → (head_of m reader).at ≤ (head_of n reader).at
  rises Own = omega (arith, own_gone.at_is)
  rises Incoming = omega (arith, incoming_gone.at_is)
  rises Sample = omega (arith, sample_gone.at_is)

  end_told : IsTelling old.held → (j : ℕ) → j < p.taken.pushed →
      new.held.spots aim.level (old.held.shadows aim.level).slot (len + j) ≡ Told (as_cell (standing old.held.fixed.format (cell_bytes_at old.held.fixed.format j w.room)))
  end_told tells j l =
      let c = p.cells_are in
      w.grown_is.cells_are j (omega (arith, l, c))
      ∙ put_is_told (old.held.spots aim.level (old.held.shadows aim.level).slot (len + j)) (as_cell (standing old.held.fixed.format (cell_bytes_at old.held.fixed.format j w.room)))
      (let f = w.grown_is.fits in tells aim.level (old.held.shadows aim.level).slot (len + j) (record { level_in = r.level_in; slot_in = slot_in; index_in = omega (arith, l, c, f) }))

  done : IsTelling old.held → shadow_cells new.held aim.level ≡ shadow_cells old.held aim.level ++ cells_in old.held.fixed.format p.taken.pushed w.room
  done tells =
      shadow_more p.taken.pushed grows len_is
      ∙ ap (λ (r : List LawCell). shadow_cells old.held aim.level ++ r)
      (cells_spelled old.held.fixed.format (new.held.spots aim.level (old.held.shadows aim.level).slot) len p.taken.pushed w.room (end_told tells))

  builds : IsTelling old.held → AreFeedsTold old.held aim → build_of new.held aim n
      ≡ steps key_cmp (part_of aim) (feed_cells old.held aim.own) (feed_cells old.held aim.incoming) (feed_keys old.held aim.sample) count (build_of old.held aim m)
  builds tells told =
      let merged = p.merged.merges (feed_cells old.held aim.own) (feed_cells old.held aim.incoming) (feed_keys old.held aim.sample) (build_of old.held aim m)
      (shows own_serves told.own) (shows comes told.incoming) (shows_keys (shows sample_serves told.sample)) refl in
      let ruled : windows.part_of job.rules ≡ part_of aim = ap windows.part_of rules in
      let a = own_gone.at_is in let b = incoming_gone.at_is in let c = sample_gone.at_is in let d = done tells in let e = count_is in cc

  ready : IsReady new.held aim n
  ready = ready-stays grows (ready_by r (heads_with Sample (heads_with Incoming (heads_with Own (heads_of r) own_gone.is_head) incoming_gone.is_head) sample_gone.is_head))

  told : IsTelling old.held → IsShadowTold old.held aim.level → IsShadowTold new.held aim.level
  told tells = told_more p.taken.pushed grows len_is (λ j l. rw (end_told tells j l))

  fetched_is : fetched aim n + held_heads m ≡ fetched aim m + count + held_heads n
  fetched_is = omega (arith, own_gone.fetched, incoming_gone.fetched, sample_gone.fetched, count_is)

  keeps : (buffer : Buffer) → KeepsBlocks aim.level aim.slot buffer old.spent.lasts new.spent.lasts
  keeps buffer l q j d = ap (λ (x : Option Block). is_last x l q j) (w.only_ticks.lasts_are buffer)

  left : TurnsWithin aim (state old m from) (state new n to)
  left =
      let a = left_moves m.own p.taken.own old.held.fixed.doublings aim.level aim.slot old.spent.lasts new.spent.lasts Own r.own_apart keeps own_gone.at_is own_gone.is_head in
      let b = left_moves m.incoming p.taken.incoming old.held.fixed.doublings aim.level aim.slot old.spent.lasts new.spent.lasts Incoming r.incoming_apart keeps incoming_gone.at_is incoming_gone.is_head in
      let c = left_moves m.sample p.taken.sample old.held.fixed.doublings aim.level aim.slot old.spent.lasts new.spent.lasts Sample r.sample_apart keeps sample_gone.at_is sample_gone.is_head in
      let u = w.only_ticks.turned_is in
      omega (arith, a, b, c, u)

  saved : IsSavedByBlocks old.held new.held aim.level
  saved = record {
    still = λ e.
        let l = p.cells_are in
        let z : w.passed.cells ≡ 0 = omega (arith, e, len_is, l) in let y : len + 0 ≡ len = omega arith in rw (w.grown_is.shadow_is, z, y);
    grew = λ h.
        let l = p.cells_are in
        let some : w.passed.cells ≢ 0 = λ z. absurd (let y : w.passed.cells ≡ 0 = z in omega (arith, h, len_is, l, y)) in
        ap (λ (x : Shadow). x.saved) w.grown_is.shadow_is
        ∙ grown_saved w.passed.cells (old.held.shadows aim.level) (span old.held) (span_pos old.held.fixed.doublings) some (w.grown_is.in_block some)
        ∙ ap (λ (x : ℕ). x % span old.held == 0) (let z : len + w.passed.cells ≡ (new.held.shadows aim.level).len = omega (arith, len_is, l) in z);
  }

  written : new.spent.written + len / span old.held ≤ old.spent.written + (new.held.shadows aim.level).len / span old.held
  written =
      let u = w.only_ticks.written_is in
      let d = div-mono len (new.held.shadows aim.level).len (span old.held) (span_pos old.held.fixed.doublings) grows.len_rises in
      omega (arith, u, d)

  pub wove_took : Took aim (state old m from) (state new n to) count
  wove_took = record {
    goes = record {
      ready = ready;
      grows = grows;
      consumes = consumed_is;
      rises = rises;
      emits = omega (arith, consumed_is, len_is, emits);
      samples = let a = p.merged.samples in omega (arith, a, len_is, sample_gone.at_is);
      builds = builds;
      told = told;
      spends = only_spends w.only_ticks;
      lasts = λ buffer b. keeps buffer;
    };
    ticks = ticks_most;
    reads = omega (arith, fetched_is, ticks_are, len_is);
    turned = left;
    written = written;
    saved = saved;
    calm = w.only_ticks.faults_are;
  }
