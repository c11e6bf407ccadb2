-- The live pairs of runs from the least key on are all of them.
use Rattle.std.proofs.Common.{◌≡◌, ℕ, zero, suc, true, cond, ◌&&◌, List, [], ◌∷◌, ◌++◌, filter, Option, None, Some, Less, refl, sym, ap, ◌∙◌, arith}
use Rattle.std.specs.List.{AllByRecursion}
use Rattle.std.specs.Option.{IfSome}
use Rattle.std.specs.Ordering.{is_le, nat_cmp, ordering_then}
use Rattle.std.specs.Cmp.{nat_cmp_is}
use Rattle.std.specs.Cmp.Lexicographic.{slice_cmp}
use Rattle.std.proofs.lemmas.List.Elements.{filter-append}
use Rattle.cola_cell.specs.Bytes.{IsKey}
use Rattle.cola_cell.specs.Held.{LawCell}
use Rattle.cola_cell.specs.Order.{key_cmp}
use Rattle.cola_pairs.specs.Live.{items, entries, placed, values, live, between}
use Rattle.cola_runs.specs.Cells.{Entry, Look}
use Rattle.cola_plain_files.specs.Levels.{HaveKeys}
use Rattle.cola_verdict.specs.Tests.{live_pairs}

pub least_from : (o : Option (List ℕ)) (k : List ℕ) → o ≡ Some k → IfSome o (λ key. key ≡ 0 ∷ []) → k ≡ 0 ∷ []
least_from None k e h = cc
least_from (Some x) k e h = let f : x ≡ k = cc in sym f ∙ h

first_less : (n : ℕ) → nat_cmp 0 (suc n) ≡ Less
first_less n = sym (nat_cmp_is 0 (suc n) Less (omega arith))

-- no key is below that of one zero byte
from_least : (k : List ℕ) → IsKey k → is_le (key_cmp (0 ∷ []) k) ≡ true
from_least [] h = absurd (omega (arith, h))
from_least (zero ∷ []) h = refl
from_least (zero ∷ (x ∷ k)) h = refl
from_least (suc n ∷ k) h = ap (λ o. is_le (ordering_then o (slice_cmp nat_cmp [] k))) (first_less n)

from_all : (k : List ℕ) → IsKey k → between key_cmp (0 ∷ []) None k ≡ true
from_all k h = ap (λ b. b && true) (from_least k h)

items_all : (run : List LawCell) → HaveKeys run → filter (λ e. between key_cmp (0 ∷ []) None e.0) (items run) ≡ filter (λ e. true) (items run)
items_all [] h = refl
items_all (Look k l ∷ cells) h = items_all cells h.1
items_all (Entry k i y l ∷ cells) h =
    ap (λ b. cond b ((k, i) ∷ filter (λ e. between key_cmp (0 ∷ []) None e.0) (items cells)) (filter (λ e. between key_cmp (0 ∷ []) None e.0) (items cells))) (from_all k h.0)
    ∙ ap (λ es. (k, i) ∷ es) (items_all cells h.1)

entries_all : (runs : List (List LawCell)) → AllByRecursion HaveKeys runs → filter (λ e. between key_cmp (0 ∷ []) None e.0) (entries runs) ≡ filter (λ e. true) (entries runs)
entries_all [] h = refl
entries_all (run ∷ runs) h =
    filter-append (λ e. between key_cmp (0 ∷ []) None e.0) (items run) (entries runs)
    ∙ ap (λ es. es ++ filter (λ e. between key_cmp (0 ∷ []) None e.0) (entries runs)) (items_all run h.0)
    ∙ ap (λ es. filter (λ e. true) (items run) ++ es) (entries_all runs h.1)
    ∙ sym (filter-append (λ e. true) (items run) (entries runs))

pub all_live : (runs : List (List LawCell)) → AllByRecursion HaveKeys runs → live key_cmp (between key_cmp (0 ∷ []) None) runs ≡ live_pairs runs
unfolding live
all_live runs h = ap (λ es. values (placed key_cmp es)) (entries_all runs h)
