-- Which block is listed for which frame.
use Rattle.std.proofs.Common.{◌≡◌, ℕ, zero, suc, ◌<◌, ◌≢◌, true, false, cond, nat_eq, [], ◌∷◌, ◌++◌, length, set, replicate, Option, Some, None, refl, sym, ◌∙◌, ap, arith, get_or-set_same, get_or-set_other}
use Rattle.std.specs.Prelude.{IfSome, unwrap_or}
use Rattle.std.specs.Map.{lookup}
use Rattle.std.proofs.lemmas.Bool.Decides.{nat_tests}
use Rattle.std.proofs.lemmas.Option.{IfSome_then}
use Rattle.cola_cache.specs.Order.{Frames, blocks_of, Holds, IsAbsent, IsOrder, AreBelow, unheld}
use Rattle.cola_cache.specs.Index.{Blocks, block_in, IsIndexOf}
use Rattle.cola_cache.proofs.ChainLemmas.{same-all}
use Rattle.cola_cache.proofs.OrderLemmas.{others, absent-lookups, below-lookup, holds-unique, lookup-others, lookup-free, free-removed, by-test}

-- what is listed for a frame is what it holds
pub listed-holds : (found : Option (Option ℕ)) (block : ℕ) → unwrap_or found None ≡ Some block → found ≡ Some (Some block)
listed-holds None block is = absurd (cc)
listed-holds (Some held) block is = ap (λ (h : Option ℕ). Some h) is

none-unheld : (count frame : ℕ) → unwrap_or (lookup (nat_eq frame) (unheld count)) None ≡ None
none-unheld zero frame = refl
none-unheld (suc count) frame = by-test (λ test. unwrap_or (cond test (Some None) (lookup (nat_eq frame) (unheld count))) None ≡ None) (nat_eq frame count) (λ _. refl) (λ _. none-unheld count frame)

pub index-unheld : (count : ℕ) → IsIndexOf (replicate count None) (unheld count)
index-unheld count = λ frame. same-all {A = Option ℕ} count frame None ∙ sym (none-unheld count frame)

-- a frame that takes a block, or comes to the front with what it holds
pub index-placed : (frame : ℕ) (held : Option ℕ) (before after : Blocks) (frames : Frames) → IsIndexOf before frames → block_in after frame ≡ held → ((other : ℕ) → other ≢ frame → block_in after other ≡ block_in before other) → IsIndexOf after ((frame, held) ∷ others frame frames)
index-placed frame held before after frames index here others_stay = λ other. by-test (λ test. block_in after other ≡ unwrap_or (cond test (Some held) (lookup (nat_eq other) (others frame frames))) None) (nat_eq other frame) (λ is. let same : other ≡ frame = grind (arith, nat_tests, is) in ap (block_in after) same ∙ here) (λ is. let apart : other ≢ frame = grind (arith, nat_tests, is) in rw (lookup-others frame other frames apart) (others_stay other apart ∙ index other))

-- a frame that takes a block
pub index-held : (frame : ℕ) (held : Option ℕ) (before after : Blocks) (frames : Frames) → IsIndexOf before frames → frame < length before → after ≡ set before frame held → IsIndexOf after ((frame, held) ∷ others frame frames)
index-held frame held before after frames index inside is =
    rw is (index-placed frame held before (set before frame held) frames index (get_or-set_same before frame held None inside) (λ other apart. get_or-set_other before frame other held None apart))

none-last : (other frame : ℕ) (entries : Frames) → unwrap_or (lookup (nat_eq other) (entries ++ (frame, None) ∷ [])) None ≡ unwrap_or (lookup (nat_eq other) entries) None
none-last other frame [] = elim (nat_eq other frame) as (λ test. unwrap_or {T = Option ℕ} (cond test (Some None) None) None ≡ None) [ true ↦ refl | false ↦ refl ]
none-last other frame (entry ∷ entries) = by-test (λ test. unwrap_or (cond test (Some entry.1) (lookup (nat_eq other) (entries ++ (frame, None) ∷ []))) None ≡ unwrap_or (cond test (Some entry.1) (lookup (nat_eq other) entries)) None) (nat_eq other entry.0) (λ _. refl) (λ _. none-last other frame entries)

-- a frame that gave its block up, and went last
pub index-emptied : (frame : ℕ) (before after : Blocks) (frames : Frames) → IsOrder frames → IsIndexOf before frames → frame < length before → after ≡ set before frame None → IsIndexOf after (others frame frames ++ (frame, None) ∷ [])
index-emptied frame before after frames order index inside is = rw is (λ other. by-test (λ _. block_in (set before frame None) other ≡ unwrap_or (lookup (nat_eq other) (others frame frames)) None) (nat_eq other frame)
    (λ test.
    let same : other ≡ frame = grind (arith, nat_tests, test) in
    let free : lookup (nat_eq other) (others frame frames) ≡ None = ap (λ number. lookup (nat_eq number) (others frame frames)) same ∙ lookup-free frame (others frame frames) (free-removed frame frames order) in
    rw free (ap (block_in (set before frame None)) same ∙ get_or-set_same before frame None None inside))
    (λ test. let apart : other ≢ frame = grind (arith, nat_tests, test) in rw (lookup-others frame other frames apart) (get_or-set_other before frame other None None apart ∙ index other))
    ∙ sym (none-last other frame (others frame frames)))

-- the frame that is listed for a block holds it
pub found-holds : (block : ℕ) (found : Option ℕ) (blocks : Blocks) (frames : Frames) (count : ℕ) → IsIndexOf blocks frames → AreBelow count frames → length frames ≡ count → IfSome found (λ frame. block_in blocks frame ≡ Some block) → IfSome found (λ frame. Holds frames frame block × (frame < length frames))
found-holds block found blocks frames count index below many is = IfSome_then found is (λ frame here.
    let holds : Holds frames frame block = listed-holds (lookup (nat_eq frame) frames) block (sym (index frame) ∙ here) in
    let less : frame < count = below-lookup frame count (Some block) frames below holds in (holds, omega (arith, less, many)))

-- and no other does
pub found-one : (block : ℕ) (found : Option ℕ) (blocks : Blocks) (frames : Frames) → IsOrder frames → IsIndexOf blocks frames → IfSome found (λ frame. block_in blocks frame ≡ Some block) → IfSome found (λ frame. (other : ℕ) → Holds frames other block → other ≡ frame)
found-one block found blocks frames order index is = IfSome_then found is (λ frame here other holds. holds-unique frame other block frames order (listed-holds (lookup (nat_eq frame) frames) block (sym (index frame) ∙ here)) holds)

-- a block that is listed for no frame is absent
pub missing-absent : (block : ℕ) (blocks : Blocks) (frames : Frames) → IsOrder frames → IsIndexOf blocks frames → ((frame : ℕ) → block_in blocks frame ≡ Some block → ⊥) → IsAbsent block (blocks_of frames)
missing-absent block blocks frames order index none = absent-lookups block frames order (λ frame holds. none frame (index frame ∙ ap (λ (found : Option (Option ℕ)). unwrap_or found None) holds))
