-- Laws of the parts of a list, and of a list with new bytes at a place.
use Rattle.std.proofs.Common.{◌≡◌, ℕ, ◌+◌, ◌-◌, ◌<◌, ◌≤◌, List, ◌++◌, length, take, drop, get_or, replicate, refl, sym, ◌∙◌, ap, arith, rules, add_assoc, append_assoc, length-append, length-take, length-drop}
use Rattle.std.proofs.lemmas.List.{places, ext_get_or, length-take-le, take-append-drop, take-append-le, drop-append-le, take_at, drop_at, take-take, drop-drop, drop-take, take-replicate, drop-replicate}
use Rattle.cola_device.specs.Bytes.{part, splice}

pub length-part : (bytes : List ℕ) (at count : ℕ) → at + count ≤ length bytes → length (part bytes at count) ≡ count
length-part bytes at count inside = simp (length-take, length-drop) (omega arith)

pub length-splice : (bytes : List ℕ) (at : ℕ) (new : List ℕ) → at + length new ≤ length bytes → length (splice bytes at new) ≡ length bytes
length-splice bytes at new inside = simp (length-append, length-take, length-drop) (omega arith)

-- a byte in the place of the new ones
pub get_or-splice_inside : (bytes : List ℕ) (at : ℕ) (new : List ℕ) (index d : ℕ) → at ≤ length bytes → index < length new → get_or (splice bytes at new) (at + index) d ≡ get_or new index d
get_or-splice_inside bytes at new index d inside below = search (rules, places)

-- the same, by its index in the whole
pub get_or-splice_at : (bytes : List ℕ) (at : ℕ) (new : List ℕ) (index d : ℕ) → at ≤ length bytes → at ≤ index → index < at + length new → get_or (splice bytes at new) index d ≡ get_or new (index - at) d
get_or-splice_at bytes at new index d inside above below =
    ap (λ n. get_or (splice bytes at new) n d) (omega arith)
    ∙ get_or-splice_inside bytes at new (index - at) d inside (omega arith)

-- a byte before them
pub get_or-splice_below : (bytes : List ℕ) (at : ℕ) (new : List ℕ) (index d : ℕ) → at ≤ length bytes → index < at → get_or (splice bytes at new) index d ≡ get_or bytes index d
get_or-splice_below bytes at new index d inside below = search (rules, places)

-- a byte after them
pub get_or-splice_above : (bytes : List ℕ) (at : ℕ) (new : List ℕ) (index d : ℕ) → at + length new ≤ length bytes → at + length new ≤ index → get_or (splice bytes at new) index d ≡ get_or bytes index d
get_or-splice_above bytes at new index d inside above = search (rules, places)

-- the bytes from the place of the new ones on
pub drop-splice : (bytes : List ℕ) (at : ℕ) (new : List ℕ) → at ≤ length bytes → drop at (splice bytes at new) ≡ new ++ drop (length new) (drop at bytes)
drop-splice bytes at new inside =
    drop_at (take at bytes) (new ++ drop (length new) (drop at bytes)) at (length-take-le at bytes inside)

-- those after the new ones
pub drop-splice_end : (bytes : List ℕ) (at : ℕ) (new : List ℕ) → at ≤ length bytes → drop (at + length new) (splice bytes at new) ≡ drop (at + length new) bytes
drop-splice_end bytes at new inside =
    sym (drop-drop (length new) at (splice bytes at new))
    ∙ (ap (drop (length new)) (drop-splice bytes at new inside)
    ∙ (drop_at new (drop (length new) (drop at bytes)) (length new) refl
    ∙ drop-drop (length new) at bytes))

-- what was put there is found there
pub part-splice : (bytes : List ℕ) (at : ℕ) (new : List ℕ) → at ≤ length bytes → part (splice bytes at new) at (length new) ≡ new
part-splice bytes at new inside =
    ap (take (length new)) (drop-splice bytes at new inside)
    ∙ take_at new (drop (length new) (drop at bytes)) (length new) refl

-- a part of the new ones
pub part-splice_inside : (bytes : List ℕ) (at : ℕ) (new : List ℕ) (from count : ℕ) → at ≤ length bytes → from + count ≤ length new → part (splice bytes at new) (at + from) count ≡ part new from count
part-splice_inside bytes at new from count inside below =
    let rest : List ℕ = drop (length new) (drop at bytes) in
    ap (take count) (sym (drop-drop from at (splice bytes at new)))
    ∙ (ap (λ xs. take count (drop from xs)) (drop-splice bytes at new inside)
    ∙ (ap (take count) (drop-append-le from new rest (omega arith))
    ∙ take-append-le count (drop from new) rest (simp length-drop (omega arith))))

-- a part before them
pub part-splice_below : (bytes : List ℕ) (at : ℕ) (new : List ℕ) (from count : ℕ) → at ≤ length bytes → from + count ≤ at → part (splice bytes at new) from count ≡ part bytes from count
part-splice_below bytes at new from count inside below =
    let rest : List ℕ = new ++ drop (length new) (drop at bytes) in
    let cut : drop from (take at bytes) ≡ take (at - from) (drop from bytes) =
    rw (← drop-take from (at - from) bytes) (ap (λ n. drop from (take n bytes)) (omega arith)) in
    ap (take count) (drop-append-le from (take at bytes) rest (simp length-take (omega arith)))
    ∙ (take-append-le count (drop from (take at bytes)) rest (simp (length-drop, length-take) (omega arith))
    ∙ (ap (take count) cut ∙ take-take count (at - from) (drop from bytes) (omega arith)))

-- a part after them
pub part-splice_above : (bytes : List ℕ) (at : ℕ) (new : List ℕ) (from count : ℕ) → at ≤ length bytes → at + length new ≤ from → part (splice bytes at new) from count ≡ part bytes from count
part-splice_above bytes at new from count inside above =
    let more : ℕ = from - (at + length new) in
    let whole : from ≡ at + length new + more = omega arith in
    ap (take count)
    (ap (λ n. drop n (splice bytes at new)) whole
    ∙ (sym (drop-drop more (at + length new) (splice bytes at new))
    ∙ (ap (drop more) (drop-splice_end bytes at new inside)
    ∙ (drop-drop more (at + length new) bytes ∙ ap (λ n. drop n bytes) (sym whole)))))

-- bytes put where they are already
pub splice-part : (bytes : List ℕ) (at count : ℕ) → at + count ≤ length bytes → splice bytes at (part bytes at count) ≡ bytes
splice-part bytes at count inside =
    ap (λ n. take at bytes ++ (part bytes at count ++ drop n (drop at bytes))) (length-part bytes at count inside)
    ∙ (ap (λ xs. take at bytes ++ xs) (take-append-drop count (drop at bytes)) ∙ take-append-drop at bytes)

-- as many bytes put over those
pub splice-splice : (bytes : List ℕ) (at : ℕ) (first second : List ℕ) → at ≤ length bytes → length first ≡ length second → splice (splice bytes at first) at second ≡ splice bytes at second
splice-splice bytes at first second inside same =
    let rest : List ℕ = drop (length first) (drop at bytes) in
    let front : take at (splice bytes at first) ≡ take at bytes =
    take_at (take at bytes) (first ++ rest) at (length-take-le at bytes inside) in
    let back : drop (length second) (drop at (splice bytes at first)) ≡ drop (length second) (drop at bytes) =
    ap (drop (length second)) (drop-splice bytes at first inside)
    ∙ (drop_at first rest (length second) same ∙ ap (λ n. drop n (drop at bytes)) same) in
    ap (λ xs. xs ++ (second ++ drop (length second) (drop at (splice bytes at first)))) front
    ∙ ap (λ xs. take at bytes ++ (second ++ xs)) back

-- two pieces, one behind the other
pub splice-append : (bytes : List ℕ) (at : ℕ) (first second : List ℕ) → at ≤ length bytes → splice bytes at (first ++ second) ≡ splice (splice bytes at first) (at + length first) second
splice-append bytes at first second inside =
    let rest : List ℕ = drop (length first) (drop at bytes) in
    let last : ℕ = length first + length second in
    let front : take (at + length first) (splice bytes at first) ≡ take at bytes ++ first =
    ap (take (at + length first)) (sym (append_assoc (take at bytes) first rest))
    ∙ take_at (take at bytes ++ first) rest (at + length first)
    (length-append (take at bytes) first ∙ ap (λ n. n + length first) (length-take-le at bytes inside)) in
    let back : drop (length second) (drop (at + length first) (splice bytes at first)) ≡ drop last (drop at bytes) =
    ap (drop (length second)) (drop-splice_end bytes at first inside)
    ∙ (drop-drop (length second) (at + length first) bytes
    ∙ (ap (λ n. drop n bytes) (add_assoc at (length first) (length second))
    ∙ sym (drop-drop last at bytes))) in
    let left : splice bytes at (first ++ second) ≡ take at bytes ++ (first ++ (second ++ drop last (drop at bytes))) =
    ap (λ n. take at bytes ++ (first ++ second ++ drop n (drop at bytes))) (length-append first second)
    ∙ ap (λ xs. take at bytes ++ xs) (append_assoc first second (drop last (drop at bytes))) in
    let right : splice (splice bytes at first) (at + length first) second ≡ take at bytes ++ (first ++ (second ++ drop last (drop at bytes))) =
    ap (λ xs. xs ++ (second ++ drop (length second) (drop (at + length first) (splice bytes at first)))) front
    ∙ (ap (λ xs. take at bytes ++ first ++ (second ++ xs)) back
    ∙ append_assoc (take at bytes) first (second ++ drop last (drop at bytes))) in
    left ∙ sym right

-- a part of a part
pub part-part : (bytes : List ℕ) (at count from fewer : ℕ) → from + fewer ≤ count → part (part bytes at count) from fewer ≡ part bytes (at + from) fewer
part-part bytes at count from fewer inside =
    let whole : count ≡ from + (count - from) = omega arith in
    ap (λ n. take fewer (drop from (take n (drop at bytes)))) whole
    ∙ (ap (take fewer) (drop-take from (count - from) (drop at bytes))
    ∙ (take-take fewer (count - from) (drop from (drop at bytes)) (omega arith)
    ∙ ap (take fewer) (drop-drop from at bytes)))

-- two parts, one behind the other
pub part-append : (bytes : List ℕ) (at count more : ℕ) → part bytes at count ++ part bytes (at + count) more ≡ part bytes at (count + more)
part-append bytes at count more =
    let xs : List ℕ = drop at bytes in
    ap (λ ys. take count xs ++ take more ys) (sym (drop-drop count at bytes))
    ∙ (ap (λ ys. take count xs ++ ys) (sym (drop-take count more xs))
    ∙ (ap (λ ys. ys ++ drop count (take (count + more) xs)) (sym (take-take count (count + more) xs (omega arith)))
    ∙ take-append-drop count (take (count + more) xs)))

-- a part of equal bytes
pub part-replicate : (size byte at count : ℕ) → at + count ≤ size → part (replicate size byte) at count ≡ replicate count byte
part-replicate size byte at count inside =
    ap (take count) (drop-replicate at size byte) ∙ take-replicate count (size - at) byte (omega arith)

-- places that do not meet, in either order
pub splice_comm : (bytes : List ℕ) (at : ℕ) (first : List ℕ) (later : ℕ) (second : List ℕ) → later + length second ≤ length bytes → at + length first ≤ later → splice (splice bytes at first) later second ≡ splice (splice bytes later second) at first
splice_comm bytes at first later second inside apart =
    ext_get_or 0 (splice (splice bytes at first) later second) (splice (splice bytes later second) at first)
    (grind (arith, length-splice))
    (λ k below. grind (arith, length-splice, get_or-splice_below, get_or-splice_above, get_or-splice_at))
