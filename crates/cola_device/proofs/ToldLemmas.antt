-- Laws of what a device tells after a call, by what the call says.
use Rattle.std.proofs.Common.{◌≡◌, ℕ, ◌+◌, ◌≤◌, List, length, replicate, Option, Some, None, Result, Ok, Err, refl, sym, ◌∙◌, ap, arith}
use Rattle.std.specs.Prelude.{is_some, true, OnOk}
use Rattle.std.proofs.lemmas.List.{length-replicate}
use Rattle.cola_outside.specs.Told.{Both}
use Rattle.cola_device.specs.Bytes.{part, splice, HasSize, HasRange, Gives, LaidOut, WroteSome, Wrote}
use Rattle.cola_device.proofs.BytesLemmas.{length-splice, part-splice, part-splice_below, part-splice_above, part-replicate}

-- told stays told, and untold stays untold
pub is_some-Both : (before now : Option (List ℕ)) (relation : List ℕ → List ℕ → Type 0) → Both before now relation → is_some now ≡ is_some before
is_some-Both None None relation both = refl
is_some-Both None (Some bytes) relation both = absurd both
is_some-Both (Some bytes) None relation both = absurd both
is_some-Both (Some first) (Some second) relation both = refl

-- a write keeps the size
pub length-WroteSome : {T E : Type 0} {result : Result T E} {at : ℕ} {from before now : List ℕ} → WroteSome result at from before now → at + length from ≤ length before → length now ≡ length before
length-WroteSome {at} {from} {before} wrote inside =
    let fits : at + length wrote.left ≤ length before = omega (arith, wrote.as_many) in
    ap length wrote.others_stay ∙ length-splice before at wrote.left fits

pub HasSize-Wrote : {T E : Type 0} (result : Result T E) (at : ℕ) (from : List ℕ) (before now : Option (List ℕ)) (size : ℕ) → Wrote result at from before now → HasRange before at (length from) → HasSize before size → HasSize now size
HasSize-Wrote result at from None None size wrote inside had = tt
HasSize-Wrote result at from None (Some now) size wrote inside had = absurd wrote
HasSize-Wrote result at from (Some before) None size wrote inside had = tt
HasSize-Wrote result at from (Some before) (Some now) size wrote inside had = had ∙ sym (length-WroteSome wrote inside)

pub HasRange-Wrote : {T E : Type 0} (result : Result T E) (at : ℕ) (from : List ℕ) (before now : Option (List ℕ)) (place count : ℕ) → Wrote result at from before now → HasRange before at (length from) → HasRange before place count → HasRange now place count
HasRange-Wrote result at from None None place count wrote inside had = tt
HasRange-Wrote result at from None (Some now) place count wrote inside had = absurd wrote
HasRange-Wrote result at from (Some before) None place count wrote inside had = tt
HasRange-Wrote result at from (Some before) (Some now) place count wrote inside had = omega (arith, length-WroteSome wrote inside)

-- what was written is found
pub Gives-Wrote : {T E : Type 0} (result : Result T E) (at : ℕ) (from : List ℕ) (before now : Option (List ℕ)) → Wrote result at from before now → HasRange before at (length from) → OnOk result (Gives now at from)
Gives-Wrote (Err fault) at from before now wrote inside = tt
Gives-Wrote (Ok value) at from None None wrote inside = tt
Gives-Wrote (Ok value) at from None (Some now) wrote inside = absurd wrote
Gives-Wrote (Ok value) at from (Some before) None wrote inside = tt
Gives-Wrote (Ok value) at from (Some before) (Some now) wrote inside =
    let is : now ≡ splice before at from = wrote.others_stay ∙ ap (splice before at) wrote.exact in
    sym (ap (λ bytes. part bytes at (length from)) is ∙ part-splice before at from (omega arith))

-- what stands before the range that was written is found there still
pub Gives-Wrote_below : {T E : Type 0} (result : Result T E) (at : ℕ) (from : List ℕ) (before now : Option (List ℕ)) (place : ℕ) (found : List ℕ) → Wrote result at from before now → HasRange before at (length from) → place + length found ≤ at → Gives before place found → Gives now place found
Gives-Wrote_below result at from None None place found wrote inside apart given = tt
Gives-Wrote_below result at from None (Some now) place found wrote inside apart given = absurd wrote
Gives-Wrote_below result at from (Some before) None place found wrote inside apart given = tt
Gives-Wrote_below result at from (Some before) (Some now) place found wrote inside apart given =
    given
    ∙ sym (ap (λ bytes. part bytes place (length found)) wrote.others_stay
    ∙ part-splice_below before at wrote.left place (length found) (omega arith) apart)

-- and what stands after it
pub Gives-Wrote_above : {T E : Type 0} (result : Result T E) (at : ℕ) (from : List ℕ) (before now : Option (List ℕ)) (place : ℕ) (found : List ℕ) → Wrote result at from before now → HasRange before at (length from) → at + length from ≤ place → Gives before place found → Gives now place found
Gives-Wrote_above result at from None None place found wrote inside apart given = tt
Gives-Wrote_above result at from None (Some now) place found wrote inside apart given = absurd wrote
Gives-Wrote_above result at from (Some before) None place found wrote inside apart given = tt
Gives-Wrote_above result at from (Some before) (Some now) place found wrote inside apart given =
    let as_many : length wrote.left ≡ length from = wrote.as_many in
    given
    ∙ sym (ap (λ bytes. part bytes place (length found)) wrote.others_stay
    ∙ part-splice_above before at wrote.left place (length found) (omega arith) (omega arith))

-- where bytes are told, one place gives one answer
pub Gives_unique : (told : Option (List ℕ)) (at : ℕ) (first second : List ℕ) → is_some told ≡ true → length first ≡ length second → Gives told at first → Gives told at second → first ≡ second
Gives_unique None at first second tells same left right = cc
Gives_unique (Some bytes) at first second tells same left right = left ∙ (ap (part bytes at) same ∙ sym right)

-- after a layout there are so many bytes, all zero
pub HasSize-LaidOut : {T E : Type 0} (result : Result T E) (size : ℕ) (before now : Option (List ℕ)) → LaidOut result size before now → OnOk result (HasSize now size)
HasSize-LaidOut (Err fault) size before now laid = tt
HasSize-LaidOut (Ok value) size None None laid = tt
HasSize-LaidOut (Ok value) size None (Some now) laid = absurd laid
HasSize-LaidOut (Ok value) size (Some before) None laid = tt
HasSize-LaidOut (Ok value) size (Some before) (Some now) laid = sym (ap length laid ∙ length-replicate size 0)

pub HasRange-LaidOut : {T E : Type 0} (result : Result T E) (size : ℕ) (before now : Option (List ℕ)) (place count : ℕ) → LaidOut result size before now → place + count ≤ size → OnOk result (HasRange now place count)
HasRange-LaidOut (Err fault) size before now place count laid inside = tt
HasRange-LaidOut (Ok value) size None None place count laid inside = tt
HasRange-LaidOut (Ok value) size None (Some now) place count laid inside = absurd laid
HasRange-LaidOut (Ok value) size (Some before) None place count laid inside = tt
HasRange-LaidOut (Ok value) size (Some before) (Some now) place count laid inside =
    omega (arith, ap length laid ∙ length-replicate size 0)

pub Gives-LaidOut : {T E : Type 0} (result : Result T E) (size : ℕ) (before now : Option (List ℕ)) (place count : ℕ) → LaidOut result size before now → place + count ≤ size → OnOk result (Gives now place (replicate count 0))
Gives-LaidOut (Err fault) size before now place count laid inside = tt
Gives-LaidOut (Ok value) size None None place count laid inside = tt
Gives-LaidOut (Ok value) size None (Some now) place count laid inside = absurd laid
Gives-LaidOut (Ok value) size (Some before) None place count laid inside = tt
Gives-LaidOut (Ok value) size (Some before) (Some now) place count laid inside =
    sym (ap (λ bytes. part bytes place (length {A = ℕ} (replicate count 0))) laid
    ∙ (ap (part (replicate size 0) place) (length-replicate count 0)
    ∙ part-replicate size 0 place count inside))
