-- What follows of bytes that may be told.
use Rattle.std.proofs.Common.{ℕ, ◌+◌, ◌≤◌, List, Option, Some, None, arith}
use Rattle.std.specs.Prelude.{IfSome}
use Rattle.cola_outside.specs.Told.{Both}
use Rattle.cola_device.specs.Bytes.{HasRange}

pub some-then : {A : Type 0} (P Q : A → Type 0) (told : Option A) → ((x : A) → P x → Q x) → IfSome told P → IfSome told Q
some-then P Q None f p = tt
some-then P Q (Some x) f p = f x p

pub some-both : {A : Type 0} (P Q R : A → Type 0) (told : Option A) → ((x : A) → P x → Q x → R x) → IfSome told P → IfSome told Q → IfSome told R
some-both P Q R None f p q = tt
some-both P Q R (Some x) f p q = f x p q

-- what holds of bytes in any case
pub some-any : {A : Type 0} (P : A → Type 0) (told : Option A) → ((x : A) → P x) → IfSome told P
some-any P None f = tt
some-any P (Some x) f = f x

-- of the bytes after a call, by those before it
pub both-then : {A : Type 0} (R : A → A → Type 0) (P Q : A → Type 0) (before now : Option A) → ((x y : A) → R x y → P x → Q y) → Both before now R → IfSome before P → IfSome now Q
both-then R P Q None None f r p = tt
both-then R P Q None (Some y) f r p = absurd r
both-then R P Q (Some x) None f r p = tt
both-then R P Q (Some x) (Some y) f r p = f x y r p

-- a range that lies within another
pub range-in : (told : Option (List ℕ)) (at count size : ℕ) → at + count ≤ size → HasRange told 0 size → HasRange told at count
range-in None at count size within has = tt
range-in (Some bytes) at count size within has = omega (arith, within, has)
