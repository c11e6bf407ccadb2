-- What a store leaves on a device.
use Rattle.std.proofs.Common.{◌≡◌, ℕ, ◌+◌, ◌*◌, ◌≤◌, List, ◌++◌, length, take, drop, Option, None, Some, Result, Ok, Err, sym, ap, subst, ◌∙◌, inl, inr, arith, append_assoc, length-append}
use Rattle.std.specs.Prelude.{OnOk}
use Rattle.std.proofs.lemmas.List.{take_all, length-drop, length-take-le, take-append-drop, drop-append-le}
use Rattle.cola_outside.specs.Told.{Both}
use Rattle.cola_cell.specs.declared.format.Format.{Format}
use Rattle.cola_cell.specs.declared.format.Format.TheVariants.{One, Two}
use Rattle.cola_cell.specs.Format.{width}
use Rattle.cola_device.specs.declared.counts.Counts.{Counts}
use Rattle.cola_device.specs.Bytes.{part, splice, HasRange, WroteSome, Wrote}
use Rattle.cola_device.specs.Counts.{Called}
use Rattle.cola_device.proofs.BytesLemmas.{length-splice, part-splice, part-splice_below, part-splice_above, splice-append, splice-part, splice_comm, length-part}
use Rattle.cola_front.specs.Front.{FrontCells, IsFront, InOrder, stored_all, block_size, second_block, image}
use Rattle.cola_front.proofs.FrontLemmas.{stored_all_many, stored_all_append, back_dropped, back_taken}

-- two calls, one behind the other
pub called_two : {T E : Type 0} (value : Unit {0}) (result : Result T E) (before middle now : Counts) (reads writes others more_reads more_writes more_others : ℕ)
    → Called {T = Unit {0}} {E = E} before middle reads writes others (Ok value) → Called middle now more_reads more_writes more_others result
    → Called before now (reads + more_reads) (writes + more_writes) (others + more_others) result
called_two value (Ok done) before middle now reads writes others more_reads more_writes more_others a b =
    record {
      faults_stay = (let x = a.faults_stay in let y = b.faults_stay in omega (arith, x, y));
      cause = tt;
      none_hidden = b.none_hidden ∙ a.none_hidden;
      reads_stay = (let x = a.reads_stay in let y = b.reads_stay in omega (arith, x, y));
      reads_rise = (let x = a.reads_rise in let y = b.reads_rise in omega (arith, x, y));
      writes_stay = (let x = a.writes_stay in let y = b.writes_stay in omega (arith, x, y));
      writes_rise = (let x = a.writes_rise in let y = b.writes_rise in omega (arith, x, y));
      others_stay = (let x = a.others_stay in let y = b.others_stay in omega (arith, x, y));
      others_rise = (let x = a.others_rise in let y = b.others_rise in omega (arith, x, y));
    }
called_two value (Err fault) before middle now reads writes others more_reads more_writes more_others a b =
    record {
      faults_stay = (let x = a.faults_stay in let y = b.faults_stay in omega (arith, x, y));
      cause = (let x = a.none_hidden in let y = b.cause in omega (arith, x, y));
      none_hidden = tt;
      reads_stay = (let x = a.reads_stay in let y = b.reads_stay in omega (arith, x, y));
      reads_rise = (let x = a.reads_rise in let y = b.reads_rise in omega (arith, x, y));
      writes_stay = (let x = a.writes_stay in let y = b.writes_stay in omega (arith, x, y));
      writes_rise = (let x = a.writes_rise in let y = b.writes_rise in omega (arith, x, y));
      others_stay = (let x = a.others_stay in let y = b.others_stay in omega (arith, x, y));
      others_rise = (let x = a.others_rise in let y = b.others_rise in omega (arith, x, y));
    }

-- a call that was allowed more
pub called_fewer : {T E F : Type 0} (fault : E) (before now : Counts) (reads writes others more_reads more_writes more_others : ℕ)
    → Called {T = T} before now reads writes others (Err fault) → Called {T = F} before now (reads + more_reads) (writes + more_writes) (others + more_others) (Err fault)
called_fewer fault before now reads writes others more_reads more_writes more_others a =
    record {
      faults_stay = a.faults_stay;
      cause = a.cause;
      none_hidden = tt;
      reads_stay = a.reads_stay;
      reads_rise = (let x = a.reads_rise in omega (arith, x));
      writes_stay = a.writes_stay;
      writes_rise = (let x = a.writes_rise in omega (arith, x));
      others_stay = a.others_stay;
      others_rise = (let x = a.others_rise in omega (arith, x));
    }

-- all places from the second block on
pub second_taken : (front : FrontCells) → IsFront front → stored_all front.format (take front.block (drop front.block front.cells)) ≡ second_block front
second_taken front is =
    ap (stored_all front.format) (take_all front.block (drop front.block front.cells) (let long = length-drop front.block front.cells in let many = is.many in omega (arith, long, many)))

-- the bytes of a front's two blocks
module _ (front : FrontCells) (is : IsFront front) (header : List ℕ) (head : length header ≡ 512) where
  abbrev pub first_block : List ℕ
  first_block = stored_all front.format (take front.block front.cells)

  abbrev pub headed : List ℕ
  headed = header ++ drop 512 first_block

  half : front.block ≤ length front.cells
  half = let many = is.many in omega (arith, many)

  first_many : length first_block ≡ block_size front
  first_many =
      stored_all_many front.format (take front.block front.cells) (back_taken front.format front.cells front.block is.comes_back)
      ∙ ap (λ (n : ℕ). width front.format * n) (length-take-le front.block front.cells half)

  rest_many : length (drop front.block front.cells) ≡ front.block
  rest_many = length-drop front.block front.cells ∙ (let many = is.many in omega (arith, many))

  pub second_many : length (second_block front) ≡ block_size front
  second_many =
      stored_all_many front.format (drop front.block front.cells) (back_dropped front.format front.cells front.block is.comes_back)
      ∙ ap (λ (n : ℕ). width front.format * n) rest_many

  large-of : (format : Format) → 8 ≤ front.block → 512 ≤ width format * front.block
  large-of One some = omega (arith, some)
  large-of Two some = omega (arith, some)

  pub large : 512 ≤ block_size front
  large = large-of front.format is.some

  pub headed_many : length headed ≡ block_size front
  headed_many = length-append header (drop 512 first_block) ∙ (let rest = length-drop 512 first_block in omega (arith, rest, head, first_many, large))

  -- the image is block 0, then block 1
  pub image_is : headed ++ second_block front ≡ image front header
  image_is =
      append_assoc header (drop 512 first_block) (second_block front)
      ∙ ap (λ (xs : List ℕ). header ++ xs)
      (sym (drop-append-le 512 first_block (second_block front) (omega (arith, first_many, large)))
      ∙ ap (drop 512) (sym (stored_all_append front.format (take front.block front.cells) (drop front.block front.cells)) ∙ ap (stored_all front.format) (take-append-drop front.block front.cells)))

  -- bytes of the two blocks, written from the second on
  two_splices : (bytes first second : List ℕ) → length first ≡ block_size front → length second ≡ block_size front → 2 * block_size front ≤ length bytes
      → splice (splice bytes (block_size front) second) 0 first ≡ splice bytes 0 (first ++ second)
  two_splices bytes first second a b holds =
      sym (splice-append bytes 0 first second (omega arith)
      ∙ (ap (λ (n : ℕ). splice (splice bytes 0 first) n second) (let e : 0 + length first ≡ block_size front = omega (arith, a) in e)
      ∙ splice_comm bytes 0 first (block_size front) second (omega (arith, b, holds)) (omega (arith, a))))

  -- where block 1 was refused
  pub second_refused : {T E F : Type 0} (fault : E) (before now : List ℕ) → 2 * block_size front ≤ length before → WroteSome {T = T} (Err fault) (block_size front) (second_block front) before now
      → WroteSome {T = F} (Err fault) 0 (image front header) before now
  second_refused fault before now holds w =
      let as_many = w.as_many in
      let kept : List ℕ = part before 0 (block_size front) in
      let many : length kept ≡ block_size front = length-part before 0 (block_size front) (omega (arith, holds)) in
      record {
        left = kept ++ w.left;
        as_many = length-append kept w.left ∙ (let whole = ap length image_is in let sum = length-append headed (second_block front) in omega (arith, whole, sum, many, as_many, headed_many, second_many));
        others_stay =
            w.others_stay
            ∙ (sym (ap (λ (xs : List ℕ). splice xs (block_size front) w.left) (splice-part before 0 (block_size front) (omega (arith, holds))))
            ∙ (ap (λ (n : ℕ). splice (splice before 0 kept) n w.left) (let e : block_size front ≡ 0 + length kept = omega (arith, many) in e)
            ∙ sym (splice-append before 0 kept w.left (omega arith))));
        exact = tt;
      }

  pub second_refused_order : {T E : Type 0} (F : Type 0) (fault : E) (before now : List ℕ) → 2 * block_size front ≤ length before → WroteSome {T = T} (Err fault) (block_size front) (second_block front) before now
      → InOrder {T = F} (Err fault) front before now
  second_refused_order F fault before now holds w =
      inl (ap (λ (xs : List ℕ). part xs 0 (block_size front)) w.others_stay ∙ part-splice_below before (block_size front) w.left 0 (block_size front) (omega (arith, holds)) (omega arith))

  -- block 1 was written, and block 0 was tried
  pub second_is : (value : Unit {0}) {E : Type 0} (before middle : List ℕ) → WroteSome {E = E} (Ok value) (block_size front) (second_block front) before middle → middle ≡ splice before (block_size front) (second_block front)
  second_is value before middle w = w.others_stay ∙ ap (splice before (block_size front)) w.exact

  exact_left : {T E : Type 0} (result : Result T E) (left : List ℕ) → OnOk result (left ≡ headed) → OnOk result (left ++ second_block front ≡ image front header)
  exact_left (Ok value) left is = ap (λ (xs : List ℕ). xs ++ second_block front) is ∙ image_is
  exact_left (Err fault) left is = tt

  pub first_tried : (value : Unit {0}) {T E : Type 0} (result : Result T E) (before middle now : List ℕ) → 2 * block_size front ≤ length before
      → WroteSome {E = E} (Ok value) (block_size front) (second_block front) before middle → WroteSome result 0 headed middle now → WroteSome result 0 (image front header) before now
  first_tried value result before middle now holds w v =
      let as_many = v.as_many in
      record {
        left = v.left ++ second_block front;
        as_many = length-append v.left (second_block front) ∙ (let whole = ap length image_is in let sum = length-append headed (second_block front) in omega (arith, whole, sum, as_many));
        others_stay =
            v.others_stay
            ∙ (ap (λ (xs : List ℕ). splice xs 0 v.left) (second_is value before middle w)
            ∙ two_splices before v.left (second_block front) (as_many ∙ headed_many) second_many holds);
        exact = exact_left result v.left v.exact;
      }

  pub first_tried_order : (value : Unit {0}) {T E : Type 0} (result : Result T E) (before middle now : List ℕ) → 2 * block_size front ≤ length before
      → WroteSome {E = E} (Ok value) (block_size front) (second_block front) before middle → WroteSome result 0 headed middle now → InOrder result front before now
  first_tried_order value (Ok done) before middle now holds w v = tt
  first_tried_order value (Err fault) before middle now holds w v =
      let as_many = v.as_many in
      let size : length middle ≡ length before = ap length (second_is value before middle w) ∙ length-splice before (block_size front) (second_block front) (omega (arith, second_many, holds)) in
      inr (ap (λ (xs : List ℕ). part xs (block_size front) (block_size front)) v.others_stay
      ∙ (part-splice_above middle 0 v.left (block_size front) (block_size front) (omega (arith, as_many, headed_many, size, holds)) (omega (arith, as_many, headed_many))
      ∙ (ap (λ (xs : List ℕ). part xs (block_size front) (block_size front)) (second_is value before middle w)
      ∙ (ap (λ (n : ℕ). part (splice before (block_size front) (second_block front)) (block_size front) n) (sym second_many)
      ∙ part-splice before (block_size front) (second_block front) (omega (arith, holds))))))

  -- the same where a device may tell its bytes
  pub told_refused : {E : Type 0} (T F : Type 0) (fault : E) (before now : Option (List ℕ)) → HasRange before 0 (2 * block_size front)
      → Wrote {T = T} (Err fault) (block_size front) (second_block front) before now
      → Wrote {T = F} (Err fault) 0 (image front header) before now × Both before now (InOrder {T = F} (Err fault) front)
  told_refused T F fault None None holds w = (tt, tt)
  told_refused T F fault None (Some now) holds w = absurd w
  told_refused T F fault (Some before) None holds w = absurd w
  told_refused T F fault (Some before) (Some now) holds w = (second_refused fault before now (omega (arith, holds)) w, second_refused_order F fault before now (omega (arith, holds)) w)

  pub told_tried : (value : Unit {0}) {T E : Type 0} (result : Result T E) (before middle now : Option (List ℕ)) → HasRange before 0 (2 * block_size front)
      → Wrote {E = E} (Ok value) (block_size front) (second_block front) before middle → Wrote result 0 headed middle now
      → Wrote result 0 (image front header) before now × Both before now (InOrder result front)
  told_tried value result None None None holds w v = (tt, tt)
  told_tried value result None None (Some now) holds w v = absurd v
  told_tried value result None (Some middle) now holds w v = absurd w
  told_tried value result (Some before) None now holds w v = absurd w
  told_tried value result (Some before) (Some middle) None holds w v = absurd v
  told_tried value result (Some before) (Some middle) (Some now) holds w v =
      (first_tried value result before middle now (omega (arith, holds)) w v, first_tried_order value result before middle now (omega (arith, holds)) w v)

  -- the same of the bytes that the calls were given
  pub store_refused : (E : Type 0) (fault : E) (size : ℕ) (second : List ℕ) (before now : Option (List ℕ)) → size ≡ block_size front → second ≡ second_block front
      → HasRange before 0 (2 * block_size front) → Wrote {T = Unit {0}} (Err fault) size second before now
      → Wrote {T = Unit {0}} (Err fault) 0 (image front header) before now × Both before now (InOrder {T = Unit {0}} (Err fault) front)
  store_refused E fault size second before now long are holds w =
      told_refused (Unit {0}) (Unit {0}) fault before now holds
      (subst (λ (n : ℕ). Wrote {T = Unit {0}} {E = E} (Err fault) n (second_block front) before now) long (subst (λ (xs : List ℕ). Wrote {T = Unit {0}} {E = E} (Err fault) size xs before now) are w))

  pub store_tried : (E : Type 0) (value : Unit {0}) (result : Result (Unit {0}) E) (size : ℕ) (second first : List ℕ) (before middle now : Option (List ℕ)) → size ≡ block_size front
      → second ≡ second_block front → first ≡ headed → HasRange before 0 (2 * block_size front) → Wrote {E = E} (Ok value) size second before middle → Wrote result 0 first middle now
      → Wrote result 0 (image front header) before now × Both before now (InOrder result front)
  store_tried E value result size second first before middle now long are lead holds w v =
      told_tried value result before middle now holds
      (subst (λ (n : ℕ). Wrote {T = Unit {0}} {E = E} (Ok value) n (second_block front) before middle) long (subst (λ (xs : List ℕ). Wrote {T = Unit {0}} {E = E} (Ok value) size xs before middle) are w))
      (subst (λ (xs : List ℕ). Wrote {T = Unit {0}} {E = E} result 0 xs middle now) lead v)
