-- Bytes taken and appended, one after another.
use Rattle.std.proofs.Common.{◌≡◌, List, ℕ, ◌+◌, ◌-◌, [], ◌++◌, length, take, drop, Option, Some, None, ap, sym, ◌∙◌, append_assoc, append-nil, refl, arith, min, length-drop, length-take}
use Rattle.std.proofs.Math.Seq.{take-add}
use Rattle.std.proofs.lemmas.List.{take_all, take_at, take-append-drop, drop-drop, drop_min}
use Rattle.cola_io.specs.Streams.{Taken, Appended}

-- nothing was taken
pub Taken-none : (x : Option (List ℕ)) → Taken [] x x
Taken-none None = tt
Taken-none (Some xs) = refl

-- bytes were taken, and then others
pub Taken-then : (a b : List ℕ) (x y z : Option (List ℕ)) → Taken a x y → Taken b y z → Taken (a ++ b) x z
Taken-then a b None None None p q = tt
Taken-then a b None None (Some zs) p q = q
Taken-then a b None (Some ys) z p q = absurd p
Taken-then a b (Some xs) None z p q = absurd p
Taken-then a b (Some xs) (Some ys) None p q = q
Taken-then a b (Some xs) (Some ys) (Some zs) p q = p ∙ ap (λ t. a ++ t) q ∙ sym (append_assoc a b zs)

-- nothing was appended
pub Appended-none : (x : Option (List ℕ)) → Appended [] x x
Appended-none None = tt
Appended-none (Some xs) = sym (append-nil xs)

-- bytes were appended, and then others
pub Appended-then : (a b : List ℕ) (x y z : Option (List ℕ)) → Appended a x y → Appended b y z → Appended (a ++ b) x z
Appended-then a b None None None p q = tt
Appended-then a b None None (Some zs) p q = q
Appended-then a b None (Some ys) z p q = absurd p
Appended-then a b (Some xs) None z p q = absurd p
Appended-then a b (Some xs) (Some ys) None p q = q
Appended-then a b (Some xs) (Some ys) (Some zs) p q = q ∙ ap (λ t. t ++ b) p ∙ append_assoc xs a b

-- the front of the bytes was appended, and then the front of what is behind it
pub Appended-front : (done count : ℕ) (bytes : List ℕ) (x y z : Option (List ℕ)) → Appended (take done bytes) x y
    → Appended (take count (take (length bytes - done) (drop done bytes))) y z → Appended (take (done + count) bytes) x z
Appended-front done count bytes x y z p q =
    let rest : take (length bytes - done) (drop done bytes) ≡ drop done bytes = take_all _ _ (omega (arith, length-drop done bytes)) in
    rw (take-add done count bytes) (Appended-then _ _ x y z p (rw rest at q))

-- the bytes left from `at` on are those that were copied, and those behind them
pub left_behind : (at start count room : ℕ) (bytes now copied rest : List ℕ) → now ≡ bytes → start ≡ min at (length now)
    → count ≡ min room (length now - start) → copied ≡ take (start + count - start) (drop start now)
    → drop at bytes ≡ take count (copied ++ rest) ++ drop (start + count) now
left_behind at start count room bytes now copied rest same from many copy =
    let begun : drop at bytes ≡ drop start now = ap (drop at) (sym same) ∙ sym (drop_min at now) ∙ ap (λ n. drop n now) (sym from) in
    let number : start + count - start ≡ count = omega arith in
    let piece : copied ≡ take count (drop start now) = copy ∙ ap (λ n. take n (drop start now)) number in
    let size : length copied ≡ count = rw piece (simp (length-take, length-drop) (omega arith)) in
    let front : take count (copied ++ rest) ≡ copied = take_at copied rest count size in
    let whole : take count (drop start now) ++ drop count (drop start now) ≡ drop start now = take-append-drop count (drop start now) in
    let behind : drop count (drop start now) ≡ drop (start + count) now = drop-drop count start now in
    cc
