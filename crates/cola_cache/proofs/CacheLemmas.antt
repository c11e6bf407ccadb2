-- Frames keep the bytes of the device through reads and writes.
use Rattle.std.proofs.Common.{⊎_elim, ◌^◌, ◌≡◌, ℕ, ◌+◌, ◌-◌, ◌*◌, ◌/◌, ◌%◌, ◌<◌, ◌≤◌, ◌≢◌, true, false, ◌==◌, List, [], ◌∷◌, length, take, drop, Option, Some, None, Result, Ok, Err, refl, sym, ◌∙◌, ap, subst, arith, length-take, length-drop, take-append-drop, get_or}
use Rattle.std.specs.Prelude.{⊤, OnOk}
use Rattle.std.proofs.lemmas.Bool.{cases_eq, cases_lt, cases_order}
use Rattle.std.proofs.lemmas.List.{ext_get_or, get_or-take, get_or-drop}
use Rattle.std.proofs.Math.Seq.{take-length}
use Rattle.std.proofs.Math.Nat.{mul-le-mul_right, div-add-mod', pow-le-pow_right}
use Rattle.std.proofs.lemmas.Bool.Decides.{nat_tests}
use Rattle.cola_device.specs.Bytes.{part, splice, HasRange, Gives, Wrote}
use Rattle.cola_device.proofs.BytesLemmas.{length-part, length-splice, get_or-splice_at, get_or-splice_below, get_or-splice_above, part-splice, part-splice_below, part-splice_above}
use Rattle.cola_device.proofs.ToldLemmas.{Gives-Wrote_below, Gives-Wrote_above}
use Rattle.cola_cache.specs.Order.{Frames, Holds, is_within}
use Rattle.cola_cache.proofs.OrderLemmas.{by-test}
use Rattle.cola_cache.specs.Cache.{Agree, IsBlock, IsWritten, blocks_touched}

-- frames lie apart, and so do blocks
pub apart : (first second size : ℕ) → first < second → first * size + size ≤ second * size
apart first second size less =
    let more : (first + 1) * size ≤ second * size = mul-le-mul_right size (omega arith) in
    let is : (first + 1) * size ≡ first * size + size = grind arith in omega arith

-- what is put into a part of one frame leaves another as it is
pub part-apart : (copies new : List ℕ) (frame other size into : ℕ) → other ≢ frame → into + length new ≤ size → frame * size + size ≤ length copies → part (splice copies (frame * size + into) new) (other * size) size ≡ part copies (other * size) size
part-apart copies new frame other size into differ fits room = ⊎_elim (λ is. absurd (differ is)) (λ apart_is. ⊎_elim
    (λ (less : other < frame). part-splice_below copies (frame * size + into) new (other * size) size (omega arith) (omega (arith, apart other frame size less)))
    (λ (more : frame < other). part-splice_above copies (frame * size + into) new (other * size) size (omega arith) (omega (arith, apart frame other size more))) apart_is) (cases_order other frame)

-- and so does what is put into the whole of one
part-other : (copies new : List ℕ) (frame other size : ℕ) → other ≢ frame → length new ≡ size → frame * size + size ≤ length copies → part (splice copies (frame * size) new) (other * size) size ≡ part copies (other * size) size
part-other copies new frame other size differ as_many room =
    let begin : frame * size + 0 ≡ frame * size = omega arith in
    subst (λ (at : ℕ). part (splice copies at new) (other * size) size ≡ part copies (other * size) size) begin (part-apart copies new frame other size 0 differ (omega (arith, as_many)) room)

-- what is put into one place has the bytes of the block that stands there now, and the others have theirs still
pub agree-put : (told : Option (List ℕ)) (copies new : List ℕ) (size place : ℕ) (Was Now : ℕ → ℕ → Type 0) → ((other block : ℕ) → Was other block → Gives told (block * size) (part copies (other * size) size)) → length new ≡ size → place * size + size ≤ length copies →
    ((block : ℕ) → Now place block → Gives told (block * size) new) → ((other block : ℕ) → Now other block → other ≢ place → Was other block) → (other block : ℕ) → Now other block → Gives told (block * size) (part (splice copies (place * size) new) (other * size) size)
agree-put told copies new size place Was Now agree as_many room here others other block now = ⊎_elim
    (λ (same : other ≡ place).
    let found : part (splice copies (place * size) new) (other * size) size ≡ new =
    ap (λ number. part (splice copies (place * size) new) (number * size) size) same ∙ (ap (part (splice copies (place * size) new) (place * size)) (sym as_many) ∙ part-splice copies (place * size) new (omega arith)) in
    subst (λ bytes. Gives told (block * size) bytes) (sym found) (here block (subst (λ number. Now number block) same now)))
    (λ (differ : other ≢ place). subst (λ bytes. Gives told (block * size) bytes) (sym (part-other copies new place other size differ as_many room)) (agree other block (others other block now differ)))
    (cases_eq other place)

-- where the range ends
pub range-end : (size at count : ℕ) → 0 < size → 0 < count → at + count ≤ (at / size + blocks_touched size at count) * size
range-end size at count some any =
    let left : ℕ = at % size + count - 1 in
    let none : (count == 0) ≡ false = grind (arith, nat_tests, any) in
    let touched : blocks_touched size at count ≡ left / size + 1 = rw none refl in
    let whole : (at / size + (left / size + 1)) * size ≡ at / size * size + left / size * size + size = grind arith in
    let less : left % size < size = omega arith in
    subst (λ n. at + count ≤ (at / size + n) * size) (sym touched) (omega (arith, div-add-mod' at size, div-add-mod' left size, whole))

pub get_or-part : (bytes : List ℕ) (start size index d : ℕ) → index < size → get_or (part bytes start size) index d ≡ get_or bytes (start + index) d
get_or-part bytes start size index d below = get_or-take size (drop start bytes) index d below ∙ get_or-drop start bytes index d

over-at : (bytes new : List ℕ) (at start size into gone count k : ℕ) → at + length new ≤ length bytes → at + gone ≡ start + into → into + count ≤ size → gone + count ≤ length new → (0 < into → gone ≡ 0) → (into + count < size → gone + count ≡ length new) → length (part new gone count) ≡ count → length (part bytes start size) ≡ size → k < size → get_or (part (splice bytes at new) start size) k 0 ≡ get_or (splice (part bytes start size) into (part new gone count)) k 0
over-at bytes new at start size into gone count k inside place fits some head tail piece whole less = ⊎_elim
    (λ (early : k < into).
    let first : gone ≡ 0 = head (omega arith) in
    get_or-part (splice bytes at new) start size k 0 less
    ∙ (get_or-splice_below bytes at new (start + k) 0 (omega arith) (omega arith)
    ∙ sym (get_or-splice_below (part bytes start size) into (part new gone count) k 0 (omega arith) early ∙ get_or-part bytes start size k 0 less)))
    (λ (late : into ≤ k). ⊎_elim
    (λ (early : k < into + count).
    get_or-part (splice bytes at new) start size k 0 less
    ∙ (get_or-splice_at bytes at new (start + k) 0 (omega arith) (omega arith) (omega arith)
    ∙ (ap (λ n. get_or new n 0) (omega arith)
    ∙ sym (get_or-splice_at (part bytes start size) into (part new gone count) k 0 (omega arith) late (omega arith) ∙ get_or-part new gone count (k - into) 0 (omega arith)))))
    (λ (after : into + count ≤ k).
    let last : gone + count ≡ length new = tail (omega arith) in
    get_or-part (splice bytes at new) start size k 0 less
    ∙ (get_or-splice_above bytes at new (start + k) 0 inside (omega arith)
    ∙ sym (get_or-splice_above (part bytes start size) into (part new gone count) k 0 (omega arith) (omega arith) ∙ get_or-part bytes start size k 0 less)))
    (cases_lt k (into + count)))
    (cases_lt k into)

-- a part of which a piece was written over: the piece, in its place
pub part-over : (bytes new : List ℕ) (at start size into gone count : ℕ) → at + length new ≤ length bytes → start + size ≤ length bytes → at + gone ≡ start + into → into + count ≤ size → gone + count ≤ length new → (0 < into → gone ≡ 0) → (into + count < size → gone + count ≡ length new) → part (splice bytes at new) start size ≡ splice (part bytes start size) into (part new gone count)
part-over bytes new at start size into gone count inside room place fits some head tail =
    let piece : length (part new gone count) ≡ count = length-part new gone count some in
    let whole : length (part bytes start size) ≡ size = length-part bytes start size room in
    let stays : length (splice bytes at new) ≡ length bytes = length-splice bytes at new inside in
    let left : length (part (splice bytes at new) start size) ≡ size = length-part (splice bytes at new) start size (omega arith) in
    let right : length (splice (part bytes start size) into (part new gone count)) ≡ size = length-splice (part bytes start size) into (part new gone count) (omega arith) ∙ whole in
    ext_get_or 0 (part (splice bytes at new) start size) (splice (part bytes start size) into (part new gone count)) (left ∙ sym right)
    (λ k below. let less : k < size = omega arith in over-at bytes new at start size into gone count k inside place fits some head tail piece whole less)

pub length-take_le : (count : ℕ) (bytes : List ℕ) → length (take count bytes) ≤ count
length-take_le count bytes = simp length-take (omega arith)

past : (held first end : ℕ) → first ≤ held → is_within first end held ≡ false → end ≤ held
past held first end after out = grind (arith, nat_tests)

nothing : (bytes : List ℕ) → length bytes ≡ 0 → bytes ≡ []
nothing [] none = refl
nothing (byte ∷ bytes) none = absurd (omega arith)

-- a write of no bytes leaves all as it is
gives-empty : {T E : Type 0} (result : Result T E) (told now : Option (List ℕ)) (at place : ℕ) (found : List ℕ) → Wrote result at [] told now → Gives told place found → Gives now place found
gives-empty result None None at place found wrote given = tt
gives-empty result None (Some now) at place found wrote given = absurd wrote
gives-empty result (Some told) None at place found wrote given = tt
gives-empty result (Some told) (Some now) at place found wrote given =
    let same : now ≡ told = wrote.others_stay ∙ (ap (splice told at) (nothing wrote.left wrote.as_many) ∙ take-append-drop at told) in
    given ∙ ap (λ bytes. part bytes place (length found)) (sym same)

gives-outside : {T E : Type 0} (result : Result T E) (told now : Option (List ℕ)) (new : List ℕ) (size at held : ℕ) (found : List ℕ) → 0 < size → Wrote result at new told now → HasRange told at (length new) → length found ≤ size → is_within (at / size) (at / size + blocks_touched size at (length new)) held ≡ false → Gives told (held * size) found → Gives now (held * size) found
gives-outside result told now [] size at held found some wrote inside short out given = gives-empty result told now at (held * size) found wrote given
gives-outside result told now (byte ∷ bytes) size at held found some wrote inside short out given = ⊎_elim
    (λ (early : held < at / size).
    let ends : held * size + length found ≤ at = omega (arith, apart held (at / size) size early, div-add-mod' at size) in
    Gives-Wrote_below result at (byte ∷ bytes) told now (held * size) found wrote inside ends given)
    (λ (more : at / size ≤ held).
    let late : at / size + blocks_touched size at (length (byte ∷ bytes)) ≤ held = past held (at / size) (at / size + blocks_touched size at (length (byte ∷ bytes))) more out in
    let begins : at + length (byte ∷ bytes) ≤ held * size = omega (arith, range-end size at (length (byte ∷ bytes)) some (omega arith), mul-le-mul_right size late) in
    Gives-Wrote_above result at (byte ∷ bytes) told now (held * size) found wrote inside begins given)
    (cases_lt held (at / size))

-- after a refused write the blocks outside its range are the device's still
pub agree-failed : {T E : Type 0} (result : Result T E) (told now : Option (List ℕ)) (before after : Frames) (copies new : List ℕ) (size at : ℕ) → 0 < size → Wrote result at new told now → HasRange told at (length new) → Agree told before copies size → ((other held : ℕ) → Holds after other held → Holds before other held × (is_within (at / size) (at / size + blocks_touched size at (length new)) held ≡ false)) → Agree now after copies size
agree-failed result told now before after copies new size at some wrote inside agree kept = λ other held holds.
    let was = kept other held holds in
    gives-outside result told now new size at held (part copies (other * size) size) some wrote inside (length-take_le size (drop (other * size) copies)) was.1 (agree other held was.0)

pub power : (exponent : ℕ) → 3 ≤ exponent → exponent ≤ 10 → (512 ≤ 64 * 2 ^ exponent) × (64 * 2 ^ exponent ≤ 65536)
power exponent least most =
    let low : 2 ^ 3 ≤ 2 ^ exponent = pow-le-pow_right {n = 2} (omega arith) least in
    let high : 2 ^ exponent ≤ 2 ^ 10 = pow-le-pow_right {n = 2} (omega arith) most in (omega arith, omega arith)

reaches : (bytes : List ℕ) (start size : ℕ) → 0 < size → length (part bytes start size) ≡ size → start + size ≤ length bytes
reaches bytes start size some is = let e = simp (length-take, length-drop) at is in omega (arith, e)

take_all_bytes : (bytes : List ℕ) (count : ℕ) → length bytes ≡ count → part bytes 0 count ≡ bytes
take_all_bytes bytes count is = ap (λ n. take n bytes) (sym is) ∙ take-length bytes

-- the frame of a block that was written over, in part or whole, has what the device has
pub renewed : (told now : Option (List ℕ)) (new copies : List ℕ) (at start size spot into gone count : ℕ) → IsWritten at new told now → HasRange told at (length new) → spot + size ≤ length copies → 0 < size → at + gone ≡ start + into → into + count ≤ size → gone + count ≤ length new → (0 < into → gone ≡ 0) → (into + count < size → gone + count ≡ length new) → Gives told start (part copies spot size) → Gives now start (part (splice copies (spot + into) (part new gone count)) spot size)
renewed None None new copies at start size spot into gone count written inside room some place fits enough head tail given = tt
renewed None (Some now) new copies at start size spot into gone count written inside room some place fits enough head tail given = absurd written
renewed (Some told) None new copies at start size spot into gone count written inside room some place fits enough head tail given = tt
renewed (Some told) (Some now) new copies at start size spot into gone count written inside room some place fits enough head tail given =
    let piece : List ℕ = part new gone count in
    let as_many : length (part new gone count) ≡ count = length-part new gone count enough in
    let whole : length (part copies spot size) ≡ size = length-part copies spot size room in
    let held : part copies spot size ≡ part told start size = given ∙ ap (part told start) whole in
    let long : start + size ≤ length told = reaches told start size some (sym (ap length held) ∙ whole) in
    let copied : part (splice copies (spot + into) (part new gone count)) spot size ≡ splice (part copies spot size) into (part (part new gone count) 0 count) =
    part-over copies (part new gone count) (spot + into) spot size into 0 count (omega arith) room (omega arith) fits (omega arith) (λ _. refl) (λ _. omega (arith, as_many)) in
    let all : part (part new gone count) 0 count ≡ part new gone count = take_all_bytes (part new gone count) count as_many in
    let device : part now start size ≡ splice (part told start size) into (part new gone count) =
    ap (λ bytes. part bytes start size) written ∙ part-over told new at start size into gone count inside long place fits enough head tail in
    let result : part (splice copies (spot + into) (part new gone count)) spot size ≡ part now start size =
    copied ∙ (ap (splice (part copies spot size) into) all ∙ (ap (λ bytes. splice bytes into (part new gone count)) held ∙ sym device)) in
    let stays : length (splice copies (spot + into) (part new gone count)) ≡ length copies = length-splice copies (spot + into) (part new gone count) (omega arith) in
    let size_is : length (part (splice copies (spot + into) (part new gone count)) spot size) ≡ size = length-part (splice copies (spot + into) (part new gone count)) spot size (omega arith) in
    result ∙ sym (ap (part now start) size_is)

-- a range is one block alone
pub one-block : (size at count first second : ℕ) → 0 < size → IsBlock size at count first → IsBlock size at count second → first ≡ second
one-block size at count first second some one other = ⊎_elim (λ is. is) (λ differ. ⊎_elim
    (λ (less : first < second). absurd (omega (arith, apart first second size less, one.0, other.0)))
    (λ (less : second < first). absurd (omega (arith, apart second first size less, one.0, other.0))) differ) (cases_order first second)

-- what is carried out was written
pub written-ok : {T E : Type 0} (result : Result T E) (told now : Option (List ℕ)) (at : ℕ) (new : List ℕ) → Wrote result at new told now → OnOk result (IsWritten at new told now)
written-ok (Err fault) told now at new wrote = tt
written-ok (Ok value) None None at new wrote = tt
written-ok (Ok value) None (Some now) at new wrote = absurd wrote
written-ok (Ok value) (Some told) None at new wrote = absurd wrote
written-ok (Ok value) (Some told) (Some now) at new wrote = wrote.others_stay ∙ ap (splice told at) wrote.exact

wrote-is : (told now : Option (List ℕ)) (at : ℕ) (new : List ℕ) → IsWritten at new told now → Wrote {T = ⊤} {E = ⊤} (Ok tt) at new told now
wrote-is None None at new written = tt
wrote-is None (Some now) at new written = absurd written
wrote-is (Some told) None at new written = absurd written
wrote-is (Some told) (Some now) at new written = record { left = new; as_many = refl; others_stay = written; exact = refl }

within-is : (first end block : ℕ) → is_within first end block ≡ true → (first ≤ block) × (block < end)
within-is first end block is = (grind (arith, nat_tests), grind (arith, nat_tests))

within-not : (first end block : ℕ) → is_within first end block ≡ false → block < end → block < first
within-not first end block is less = grind (arith, nat_tests)

-- of the blocks from `first` on so many are renewed: a frame of one of them has what the device has, and another what it had
abbrev pub IsRenewed : Option (List ℕ) → Option (List ℕ) → ℕ → ℕ → ℕ → ℕ → List ℕ → Type 0
IsRenewed told now first end size block bytes =
    (first ≤ block → block < end → Gives now (block * size) bytes) × ((block < end → block < first) → Gives told (block * size) bytes)

-- one block more is renewed
pub renewed-more : (told now : Option (List ℕ)) (before after : List ℕ) (first step size block : ℕ) → IsRenewed told now first (first + step) size block before → (block ≡ first + step → Gives told (block * size) before → Gives now (block * size) after) → (block ≢ first + step → after ≡ before) → IsRenewed told now first (first + (step + 1)) size block after
renewed-more told now before after first step size block was here others = ⊎_elim
    (λ (same : block ≡ first + step). ((λ low high. here same (was.1 (λ less. absurd (omega arith)))), (λ out. absurd (let less : block < first = out (omega arith) in omega arith))))
    (λ (differ : block ≢ first + step).
    let stays : before ≡ after = sym (others differ) in (
      λ low high. subst (λ bytes. Gives now (block * size) bytes) stays (was.0 low (omega (arith, differ))),
      λ out. subst (λ bytes. Gives told (block * size) bytes) stays (was.1 (λ less. out (omega arith))),
    ))
    (cases_eq block (first + step))

-- once all that the range touches are renewed, each frame has what the device has
pub renewed-all : (told now : Option (List ℕ)) (new copies : List ℕ) (size at end frame block : ℕ) → 0 < size → end ≡ at / size + blocks_touched size at (length new) → IsWritten at new told now → HasRange told at (length new) → IsRenewed told now (at / size) end size block (part copies (frame * size) size) → Gives now (block * size) (part copies (frame * size) size)
renewed-all told now new copies size at end frame block some last written inside was = by-test (λ _. Gives now (block * size) (part copies (frame * size) size)) (is_within (at / size) end block)
    (λ is. let within = within-is (at / size) end block is in was.0 within.0 within.1)
    (λ is. gives-outside {T = ⊤} {E = ⊤} (Ok tt) told now new size at block (part copies (frame * size) size) some (wrote-is told now at new written) inside (length-take_le size (drop (frame * size) copies))
    (subst (λ e. is_within (at / size) e block ≡ false) last is) (was.1 (within-not (at / size) end block is)))

-- what a slice from a place on gives
pub slice-is : (bytes : List ℕ) (at count : ℕ) → take (at + count - at) (drop at bytes) ≡ part bytes at count
slice-is bytes at count = ap (λ (n : ℕ). take n (drop at bytes)) (omega arith)

-- where a piece of a range stands in its block
pub begins-at : (at size step into gone : ℕ) → at % size + gone ≡ step * size + into → at + gone ≡ (at / size + step) * size + into
begins-at at size step into gone place =
    let whole : (at / size + step) * size ≡ at / size * size + step * size = grind arith in
    omega (arith, div-add-mod' at size, whole)
