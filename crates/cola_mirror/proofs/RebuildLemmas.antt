-- The steps of a rebuild.
use Rattle.std.proofs.Common.{◌≡◌, ℕ, ◌+◌, ◌≤◌, inl, inr, ◌⊎◌, List, [], ◌∷◌, ◌++◌, length, take, drop, Option, Some, None, Result, Ok, Err, refl, sym, ap, subst, ◌∙◌, arith}
use Rattle.std.specs.Prelude.{IfSome}
use Rattle.std.proofs.lemmas.List.{length-replicate, take-replicate, take-take, drop-take}
use Rattle.cola_outside.specs.Told.{Both}
use Rattle.cola_device.specs.declared.device.Device as device
use Rattle.cola_device.specs.declared.device.DeviceFault.{DeviceFault}
use Rattle.cola_device.specs.Bytes.{part, HasSize, HasRange, LaidOut}
use Rattle.cola_device.proofs.BytesLemmas.{part-append}
use Rattle.cola_opening.proofs.Spending.{spends-none, spends-then}
use Rattle.cola_mirror.specs.Differ.{IfBoth}
use Rattle.cola_mirror.specs.Rebuild.{ready_calls, IsSameBelow, IsBegun, OnlyMoves, IsMoved, Moves}
use Rattle.cola_mirror.proofs.ComparedLemmas.{both-any, rose-after}

-- ---- a device that is ready

pub ready-laid : {T : Type 0} (E : Type 0) (value : T) (size : ℕ) (before now : Option (List ℕ)) → 512 ≤ size → HasSize before 0 → LaidOut {T = T} {E = E} (Ok value) size before now → Both before now (IsBegun size)
ready-laid E value size None None long none laid = tt
ready-laid E value size None (Some new) long none laid = absurd laid
ready-laid E value size (Some bytes) None long none laid = absurd laid
ready-laid E value size (Some []) (Some new) long none laid = record { many = ap length laid ∙ length-replicate size 0; head = ap (take 512) laid ∙ take-replicate 512 size 0 long }
ready-laid E value size (Some (byte ∷ bytes)) (Some new) long none laid = absurd (omega (arith, none))

pub ready-was : (size : ℕ) (before : Option (List ℕ)) → HasSize before 0 → IfSome before (λ bytes. (length bytes ≡ 0) ⊎ (length bytes ≡ size))
ready-was size None none = tt
ready-was size (Some bytes) none = inl (sym none)

-- it is called once at least, and twice where it was empty
pub one-ready : (told : Option (List ℕ)) → 1 ≤ ready_calls told
one-ready None = omega arith
one-ready (Some []) = omega arith
one-ready (Some (byte ∷ bytes)) = omega arith

pub two-ready : (told : Option (List ℕ)) → HasSize told 0 → 2 ≤ ready_calls told
two-ready None none = omega arith
two-ready (Some []) none = omega arith
two-ready (Some (byte ∷ bytes)) none = absurd (omega (arith, none))

-- ---- bytes that are copied

pub below-none : (place : ℕ) (told : Option (List ℕ)) → Both told told (IsSameBelow place)
below-none place None = tt
below-none place (Some bytes) = record { many = refl; same = refl }

-- the same up to a place, and so up to an earlier one
below-less : (low place : ℕ) (y z : List ℕ) → low ≤ place → take place z ≡ take place y → take low z ≡ take low y
below-less low place y z early same = sym (take-take low place z early) ∙ (ap (λ (zs : List ℕ). take low zs) same ∙ take-take low place y early)

pub below-then : (low place : ℕ) (x y z : Option (List ℕ)) → low ≤ place → Both x y (IsSameBelow low) → Both y z (IsSameBelow place) → Both x z (IsSameBelow low)
below-then low place None None None early p q = tt
below-then low place None None (Some z) early p q = absurd q
below-then low place None (Some y) z early p q = absurd p
below-then low place (Some x) None z early p q = absurd p
below-then low place (Some x) (Some y) None early p q = absurd q
below-then low place (Some x) (Some y) (Some z) early p q = record { many = q.many ∙ p.many; same = below-less low place y z early q.same ∙ p.same }

pub range-below : (place size : ℕ) (x y : Option (List ℕ)) → Both x y (IsSameBelow place) → HasRange x 0 size → HasRange y 0 size
range-below place size None None p has = tt
range-below place size None (Some y) p has = absurd p
range-below place size (Some x) None p has = tt
range-below place size (Some x) (Some y) p has = omega (arith, p.many, has)

-- a piece, and one more behind it
part-before : (at a : ℕ) (y z : List ℕ) → take (at + a) z ≡ take (at + a) y → part z at a ≡ part y at a
part-before at a y z same = sym (drop-take at a z) ∙ (ap (λ (zs : List ℕ). drop at zs) same ∙ drop-take at a y)

piece-joined : (at a c : ℕ) (old y z : List ℕ) → part y at a ≡ part old at a → take (at + a) z ≡ take (at + a) y → part z (at + a) c ≡ part old (at + a) c → part z at (a + c) ≡ part old at (a + c)
piece-joined at a c old y z one same two =
    sym (part-append z at a c)
    ∙ (ap (λ (xs : List ℕ). xs ++ part z (at + a) c) (part-before at a y z same ∙ one)
    ∙ (ap (λ (xs : List ℕ). part old at a ++ xs) two
    ∙ part-append old at a c))

piece-told : (at a c : ℕ) (told y z : Option (List ℕ)) → IfBoth told y (λ old new. part new at a ≡ part old at a) → Both y z (IsSameBelow (at + a)) → IfBoth told z (λ old new. part new (at + a) c ≡ part old (at + a) c) →
    IfBoth told z (λ old new. part new at (a + c) ≡ part old at (a + c))
piece-told at a c None y z one same two = tt
piece-told at a c (Some old) y None one same two = tt
piece-told at a c (Some old) None (Some z) one same two = absurd same
piece-told at a c (Some old) (Some y) (Some z) one same two = piece-joined at a c old y z one same.same two

module _ {D E : Type 0} (d : device.Ghosts D) (e : device.Ghosts E) where
  pub only-none : (from : D) (to : E) (pieces : ℕ) → OnlyMoves d e from from to to pieces
  only-none from to pieces = record { bytes_stay = refl; kept = refl; spends = spends-none; other_kept = refl; other_spends = spends-none }

  pub only-then : (from mid now : D) (to other last : E) (q r pieces : ℕ) → q + r ≤ pieces → OnlyMoves d e from mid to other q → OnlyMoves d e mid now other last r → OnlyMoves d e from now to last pieces
  only-then from mid now to other last q r pieces few x y = record {
    bytes_stay = y.bytes_stay ∙ x.bytes_stay;
    kept = y.kept ∙ x.kept;
    spends = spends-then x.spends y.spends few (omega arith) (omega arith);
    other_kept = y.other_kept ∙ x.other_kept;
    other_spends = spends-then x.other_spends y.other_spends (omega arith) few (omega arith);
  }

  pub moved-none : (from : D) (to : E) (at : ℕ) → IsMoved d e from from to to at 0
  moved-none from to at = record { same = both-any (λ old new. part new at 0 ≡ part old at 0) (d.bytes from) (e.bytes to) (λ old new. refl); no_fault = refl; other_no_fault = refl }

  pub moved-then : (from mid now : D) (to other last : E) (at a c : ℕ) (result : Result (Unit {0}) DeviceFault) → d.bytes mid ≡ d.bytes from → IsMoved d e from mid to other at a → Both (e.bytes other) (e.bytes last) (IsSameBelow (at + a)) →
      Moves d e mid now other last (at + a) c result → Moves d e from now to last at (a + c) result
  moved-then from mid now to other last at a c (Ok value) stay moved below here = record {
    same = piece-told at a c (d.bytes from) (e.bytes other) (e.bytes last) moved.same below (subst (λ (t : Option (List ℕ)). IfBoth t (e.bytes last) (λ old new. part new (at + a) c ≡ part old (at + a) c)) stay here.same);
    no_fault = here.no_fault ∙ moved.no_fault;
    other_no_fault = here.other_no_fault ∙ moved.other_no_fault;
  }
  moved-then from mid now to other last at a c (Err fault) stay moved below here = elim here [
    | inl mine ↦ inl (rose-after (d.counts from).faults (d.counts mid).faults (d.counts now).faults moved.no_fault mine)
    | inr others ↦ inr (rose-after (e.counts to).faults (e.counts other).faults (e.counts last).faults moved.other_no_fault others)
  ]
