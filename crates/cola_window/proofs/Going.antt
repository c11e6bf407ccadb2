-- One step of a merge of windows.
use Rattle.std.proofs.Common.{◌≡◌, ℕ, zero, suc, ◌+◌, ◌-◌, ◌*◌, ◌≤◌, ◌<◌, inl, inr, nat_le, Bool, true, false, List, [], ◌∷◌, ◌++◌, length, take, drop, Option, Some, None, is_some, refl, ap, sym, subst, ◌∙◌, arith}
use Rattle.std.proofs.lemmas.Bool.Decides.{leb_tells}
use Rattle.cola_cell.specs.declared.cell.Cell.{Cell}
use Rattle.cola_cell.specs.declared.cell.Reader.{Reader}
use Rattle.cola_cell.specs.declared.cell.Reader.TheVariants.{Own, Incoming, Sample}
use Rattle.cola_cell.specs.declared.format.Format.{Format}
use Rattle.cola_cell.specs.declared.packed.Pass.{Pass}
use Rattle.cola_cell.specs.Format.{width}
use Rattle.cola_cell.specs.Decoded.{standing}
use Rattle.cola_cell.specs.Packed.{passed, MayPass}
use Rattle.cola_cell.specs.Spelling.{IsSpelling}
use Rattle.cola_window.specs.declared.windows.Lasts.{Lasts}
use Rattle.cola_window.specs.declared.windows.Taken.{Taken}
use Rattle.cola_window.specs.Windows.{Known, Spells, front_cell, Suits, pick, window_of, last_of, moved, taken_with, more, consumed, Puts, emitted_of}
use Rattle.cola_window.proofs.Fronts.{front_is, no_front}

-- ---- what is picked

pub picks : (f : Format) (head : Reader) (a b c : List ℕ) → pick head (front_cell f a) (front_cell f b) (front_cell f c) ≡ front_cell f (window_of head a b c)
picks f Own a b c = refl
picks f Incoming a b c = refl
picks f Sample a b c = refl

no_suit : (p : Option Pass) → Suits p None → ⊥
no_suit None s = s
no_suit (Some pass) s = s

pub suits_front : (f : Format) (p : Option Pass) (w : List ℕ) → Suits p (front_cell f w) → (width f ≤ length w) × Suits p (Some (standing f (take (width f) w)))
suits_front f p w s = elim (leb_tells (width f) (length w)) [
  | inl e ↦ (e.1, subst (Suits p) (front_is f w (nat_le (width f) (length w)) refl e.0) s)
  | inr e ↦ absurd (no_suit p (subst (Suits p) (no_front f w (nat_le (width f) (length w)) refl e.0) s))
]

pub suits_picked : (f : Format) (p : Option Pass) (head : Reader) (a b c : List ℕ) → Suits p (pick head (front_cell f a) (front_cell f b) (front_cell f c)) →
    (width f ≤ length (window_of head a b c)) × Suits p (Some (standing f (take (width f) (window_of head a b c))))
suits_picked f p head a b c s = suits_front f p (window_of head a b c) (subst (Suits p) (picks f head a b c) s)

pub spelled_picked : (f : Format) (head : Reader) (a b c : List ℕ) → (width f ≤ length a → Spells f (take (width f) a)) → (width f ≤ length b → Spells f (take (width f) b)) → (width f ≤ length c → Spells f (take (width f) c)) →
    width f ≤ length (window_of head a b c) → Spells f (take (width f) (window_of head a b c))
spelled_picked f Own a b c x y z h = x h
spelled_picked f Incoming a b c x y z h = y h
spelled_picked f Sample a b c x y z h = z h

-- the front of a picked window, as a cell
pub picked_cell : (f : Format) (head : Reader) (a b c : List ℕ) → width f ≤ length (window_of head a b c) → pick head (front_cell f a) (front_cell f b) (front_cell f c) ≡ Some (standing f (take (width f) (window_of head a b c)))
picked_cell f head a b c h = elim (leb_tells (width f) (length (window_of head a b c))) [
  | inl e ↦ picks f head a b c ∙ front_is f (window_of head a b c) (nat_le (width f) (length (window_of head a b c))) refl e.0
  | inr e ↦ absurd (omega (arith, h, e.1))
]

-- ---- what is known behind a front

pub known_after : (f : Format) (head which : Reader) (lasts : Lasts) (a b c x y z : List ℕ) → x ≡ moved f head Own a → y ≡ moved f head Incoming b → z ≡ moved f head Sample c →
    Known f (last_of head lasts) (window_of head x y z) → Known f (last_of which lasts) (window_of which a b c) → Known f (last_of which lasts) (window_of which x y z)
known_after f Own Own lasts a b c x y z e g h k l = k
known_after f Own Incoming lasts a b c x y z e g h k l = subst (Known f lasts.incoming) (sym g) l
known_after f Own Sample lasts a b c x y z e g h k l = subst (Known f lasts.sample) (sym h) l
known_after f Incoming Own lasts a b c x y z e g h k l = subst (Known f lasts.own) (sym e) l
known_after f Incoming Incoming lasts a b c x y z e g h k l = k
known_after f Incoming Sample lasts a b c x y z e g h k l = subst (Known f lasts.sample) (sym h) l
known_after f Sample Own lasts a b c x y z e g h k l = subst (Known f lasts.own) (sym e) l
known_after f Sample Incoming lasts a b c x y z e g h k l = subst (Known f lasts.incoming) (sym g) l
known_after f Sample Sample lasts a b c x y z e g h k l = k

-- ---- counts

pub one_consumed : (head : Reader) (b : Bool) (t : Taken) → consumed (taken_with head b t) ≡ consumed t + 1
one_consumed Own b t = omega arith
one_consumed Incoming b t = omega arith
one_consumed Sample b t = omega arith

pub more-le : (b : Bool) (n : ℕ) → more b n ≤ n + 1
more-le true n = omega arith
more-le false n = omega arith

pub pushed_with : (head : Reader) (b : Bool) (t : Taken) → (taken_with head b t).pushed ≡ more b t.pushed
pushed_with Own b t = refl
pushed_with Incoming b t = refl
pushed_with Sample b t = refl
