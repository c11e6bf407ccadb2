-- What moves and replacements do to frames in the order of their last use.
use Rattle.std.proofs.Common.{⊎_elim, ◌≡◌, ℕ, zero, suc, ◌+◌, ◌-◌, ◌<◌, ◌≤◌, ◌≢◌, Bool, true, false, cond, nat_eq, List, [], ◌∷◌, ◌++◌, length, take, Option, Some, None, Result, Ok, Err, refl, sym, ◌∙◌, ap, subst, arith, add-one, take_all}
use Rattle.std.specs.Prelude.{slice_get, IsSome, IfSome, IsOk, OnOk, option_map}
use Rattle.std.specs.Map.{lookup, lookup_entry, remove_entry}
use Rattle.std.proofs.lemmas.Bool.{cases_eq}
use Rattle.std.proofs.lemmas.Bool.Decides.{nat_tests}
use Rattle.lru.specs.LruCache.{LruCache, last_entry, put_entries, demoted, lru_cache}
use Rattle.cola_cache.specs.Cache.{used}
use Rattle.cola_cache.specs.Order.{Frames, with_block, blocks_of, Holds, is_within, outside, without, IsAbsent, IsFree, Precedes, IsOrder, AreBelow, unheld}

-- what holds where a test is true, and where it is false
pub by-test : (P : Bool → Type 0) (test : Bool) → (test ≡ true → P true) → (test ≡ false → P false) → P test
by-test P true here there = here refl
by-test P false here there = there refl

-- the other entries
abbrev pub others : ℕ → Frames → Frames
others frame = remove_entry (nat_eq frame)

pub free-others : (frame other : ℕ) (entries : Frames) → IsFree other entries → IsFree other (others frame entries)
free-others frame other [] free = tt
free-others frame other (entry ∷ entries) free = by-test (λ test. IsFree other (cond test entries (entry ∷ others frame entries))) (nat_eq frame entry.0) (λ _. free.1) (λ _. (free.0, free-others frame other entries free.1))

pub absent-others : (frame block : ℕ) (entries : Frames) → IsAbsent block (blocks_of entries) → IsAbsent block (blocks_of (others frame entries))
absent-others frame block [] absent = tt
absent-others frame block ((number, None) ∷ entries) absent = by-test (λ test. IsAbsent block (blocks_of (cond test entries ((number, None) ∷ others frame entries)))) (nat_eq frame number) (λ _. absent) (λ _. absent-others frame block entries absent)
absent-others frame block ((number, Some other) ∷ entries) absent = by-test (λ test. IsAbsent block (blocks_of (cond test entries ((number, Some other) ∷ others frame entries)))) (nat_eq frame number) (λ _. absent.1) (λ _. (absent.0, absent-others frame block entries absent.1))

pub none-others : (frame : ℕ) (entries : Frames) → blocks_of entries ≡ [] → blocks_of (others frame entries) ≡ []
none-others frame [] none = none
none-others frame ((number, None) ∷ entries) none = by-test (λ test. blocks_of (cond test entries ((number, None) ∷ others frame entries)) ≡ []) (nat_eq frame number) (λ _. none) (λ _. none-others frame entries none)
none-others frame ((number, Some other) ∷ entries) none = cc

pub precedes-others : (frame : ℕ) (held : Option ℕ) (entries : Frames) → Precedes held entries → Precedes held (others frame entries)
precedes-others frame None entries none = none-others frame entries none
precedes-others frame (Some block) entries absent = absent-others frame block entries absent

pub order-others : (frame : ℕ) (entries : Frames) → IsOrder entries → IsOrder (others frame entries)
order-others frame [] order = tt
order-others frame (entry ∷ entries) order = by-test (λ test. IsOrder (cond test entries (entry ∷ others frame entries))) (nat_eq frame entry.0) (λ _. order.1.1) (λ _. (free-others frame entry.0 entries order.0, (precedes-others frame entry.1 entries order.1.0, order-others frame entries order.1.1)))

pub below-others : (frame count : ℕ) (entries : Frames) → AreBelow count entries → AreBelow count (others frame entries)
below-others frame count [] below = tt
below-others frame count (entry ∷ entries) below = by-test (λ test. AreBelow count (cond test entries (entry ∷ others frame entries))) (nat_eq frame entry.0) (λ _. below.1) (λ _. (below.0, below-others frame count entries below.1))

-- a frame that is free is not looked up
pub lookup-free : (frame : ℕ) (entries : Frames) → IsFree frame entries → lookup (nat_eq frame) entries ≡ None
lookup-free frame [] free = refl
lookup-free frame (entry ∷ entries) free = let below : lookup (nat_eq frame) entries ≡ None = lookup-free frame entries free.1 in grind (arith, nat_tests, below, free.0)

pub entry-free : (frame : ℕ) (entries : Frames) → IsFree frame entries → lookup_entry (nat_eq frame) entries ≡ None
entry-free frame [] free = refl
entry-free frame (entry ∷ entries) free = let below : lookup_entry (nat_eq frame) entries ≡ None = entry-free frame entries free.1 in grind (arith, nat_tests, below, free.0)

pub free-removed : (frame : ℕ) (entries : Frames) → IsOrder entries → IsFree frame (others frame entries)
free-removed frame [] order = tt
free-removed frame (entry ∷ entries) order = by-test (λ test. IsFree frame (cond test entries (entry ∷ others frame entries))) (nat_eq frame entry.0) (λ is. let same : entry.0 ≡ frame = grind (arith, nat_tests, is) in subst (λ number. IsFree number entries) same order.0) (λ is. (grind (arith, nat_tests, is), free-removed frame entries order.1.1))

pub lookup-others : (frame other : ℕ) (entries : Frames) → other ≢ frame → lookup (nat_eq other) (others frame entries) ≡ lookup (nat_eq other) entries
lookup-others frame other [] apart = refl
lookup-others frame other (entry ∷ entries) apart = let below : lookup (nat_eq other) (others frame entries) ≡ lookup (nat_eq other) entries = lookup-others frame other entries apart in by-test (λ test. lookup (nat_eq other) (cond test entries (entry ∷ others frame entries)) ≡ lookup (nat_eq other) (entry ∷ entries)) (nat_eq frame entry.0) (λ is. grind (arith, nat_tests, is)) (λ is. ap (cond (nat_eq other entry.0) (Some entry.1)) below)

pub length-others : (frame : ℕ) (entries : Frames) (held : Option ℕ) → lookup (nat_eq frame) entries ≡ Some held → length (others frame entries) + 1 ≡ length entries
length-others frame [] held found = cc
length-others frame (entry ∷ entries) held found = by-test (λ test. cond test (Some entry.1) (lookup (nat_eq frame) entries) ≡ Some held → length (cond test entries (entry ∷ others frame entries)) + 1 ≡ length (entry ∷ entries)) (nat_eq frame entry.0) (λ _ _. omega arith) (λ _ below. let less : length (others frame entries) + 1 ≡ length entries = length-others frame entries held below in omega arith) found

pub entry-found : (frame : ℕ) (entries : Frames) (held : Option ℕ) → lookup (nat_eq frame) entries ≡ Some held → lookup_entry (nat_eq frame) entries ≡ Some (frame, held)
entry-found frame [] held found = cc
entry-found frame (entry ∷ entries) held found = by-test (λ test. cond test (Some entry.1) (lookup (nat_eq frame) entries) ≡ Some held → cond test (Some entry) (lookup_entry (nat_eq frame) entries) ≡ Some (frame, held)) (nat_eq frame entry.0) (λ is same. let number : entry.0 ≡ frame = grind (arith, nat_tests, is) in let value : entry.1 ≡ held = cc in ap (λ (e : ℕ × Option ℕ). Some e) (λ i. (number i, value i))) (λ is below. entry-found frame entries held below) found

-- a block that is outside is absent
pub absent-without : (block : ℕ) (blocks : List ℕ) → IsAbsent block (without block blocks)
absent-without block [] = tt
absent-without block (other ∷ others) = by-test (λ test. IsAbsent block (cond test (without block others) (other ∷ without block others))) (is_within block (block + 1) other) (λ _. absent-without block others) (λ is. (grind (arith, nat_tests, is), absent-without block others))

pub without-absent : (block : ℕ) (blocks : List ℕ) → IsAbsent block blocks → without block blocks ≡ blocks
without-absent block [] absent = refl
without-absent block (other ∷ others) absent = let below : without block others ≡ others = without-absent block others absent.1 in let no : is_within block (block + 1) other ≡ false = grind (arith, nat_tests, absent.0) in ap (λ test. cond test (without block others) (other ∷ without block others)) no ∙ ap (λ xs. other ∷ xs) below

-- an absent block is held by no frame
pub holds-absent : (block frame : ℕ) (entries : Frames) → IsAbsent block (blocks_of entries) → Holds entries frame block → ⊥
holds-absent block frame [] absent holds = cc
holds-absent block frame ((number, None) ∷ entries) absent holds = by-test (λ test. cond test (Some None) (lookup (nat_eq frame) entries) ≡ Some (Some block) → ⊥) (nat_eq frame number) (λ _ same. cc) (λ _ below. holds-absent block frame entries absent below) holds
holds-absent block frame ((number, Some other) ∷ entries) absent holds = by-test (λ test. cond test (Some (Some other)) (lookup (nat_eq frame) entries) ≡ Some (Some block) → ⊥) (nat_eq frame number) (λ _ same. absent.0 (cc)) (λ _ below. holds-absent block frame entries absent.1 below) holds

-- a block that no frame holds is absent
pub absent-lookups : (block : ℕ) (entries : Frames) → IsOrder entries → ((frame : ℕ) → Holds entries frame block → ⊥) → IsAbsent block (blocks_of entries)
absent-lookups block [] order none = tt
absent-lookups block (entry ∷ entries) order none =
    let rest : IsAbsent block (blocks_of entries) = absent-lookups block entries order.1.1 (λ frame holds. by-test (λ test. ⊥) (nat_eq frame entry.0) (λ is. let same : entry.0 ≡ frame = grind (arith, nat_tests, is) in let free : IsFree frame entries = subst (λ number. IsFree number entries) same order.0 in let missing : lookup (nat_eq frame) entries ≡ None = lookup-free frame entries free in cc) (λ is. none frame (ap (λ test. cond test (Some entry.1) (lookup (nat_eq frame) entries)) is ∙ holds))) in
    let here : nat_eq entry.0 entry.0 ≡ true = grind (arith, nat_tests) in
    let first : entry.1 ≡ Some block → ⊥ = λ is. none entry.0 (ap (λ test. cond test (Some entry.1) (lookup (nat_eq entry.0) entries)) here ∙ ap (λ (h : Option ℕ). Some h) is) in
    (elim entry.1 as (λ held. (held ≡ Some block → ⊥) → IsAbsent block (with_block held (blocks_of entries))) [
      | None ↦ λ _. rest
      | Some other ↦ λ apart. ((λ same. apart (ap (λ (b : ℕ). Some b) same)), rest)
    ]) first

-- the block of a frame is held there alone
pub blocks-others : (frame block : ℕ) (entries : Frames) → IsOrder entries → Holds entries frame block → blocks_of (others frame entries) ≡ without block (blocks_of entries)
blocks-others frame block [] order holds = cc
blocks-others frame block ((number, None) ∷ entries) order holds = by-test (λ test. cond test (Some None) (lookup (nat_eq frame) entries) ≡ Some (Some block) → blocks_of (cond test entries ((number, None) ∷ others frame entries)) ≡ without block (blocks_of entries)) (nat_eq frame number) (λ _ same. cc) (λ _ below. blocks-others frame block entries order.1.1 below) holds
blocks-others frame block ((number, Some other) ∷ entries) order holds = (elim (nat_eq frame number) as (λ test. cond test (Some (Some other)) (lookup (nat_eq frame) entries) ≡ Some (Some block) → blocks_of (cond test entries ((number, Some other) ∷ others frame entries)) ≡ without block (other ∷ blocks_of entries)) [
  | true ↦ λ same. let is : other ≡ block = cc in let yes : is_within block (block + 1) other ≡ true = grind (arith, nat_tests, is) in
      sym (ap (λ test. cond test (without block (blocks_of entries)) (other ∷ without block (blocks_of entries))) yes ∙ without-absent block (blocks_of entries) (subst (λ b. IsAbsent b (blocks_of entries)) is order.1.0))
  | false ↦ λ below. let apart : other ≢ block = λ is. holds-absent block frame entries (subst (λ b. IsAbsent b (blocks_of entries)) is order.1.0) below in let no : is_within block (block + 1) other ≡ false = grind (arith, nat_tests, apart) in
      ap (λ xs. other ∷ xs) (blocks-others frame block entries order.1.1 below) ∙ sym (ap (λ test. cond test (without block (blocks_of entries)) (other ∷ without block (blocks_of entries))) no)
]) holds

pub absent-released : (frame block : ℕ) (entries : Frames) → IsOrder entries → Holds entries frame block → IsAbsent block (blocks_of (others frame entries))
absent-released frame block entries order holds = subst (IsAbsent block) (sym (blocks-others frame block entries order holds)) (absent-without block (blocks_of entries))

-- a frame that holds none goes last
free-last : (frame other : ℕ) (entries : Frames) → frame ≢ other → IsFree other entries → IsFree other (entries ++ (frame, None) ∷ [])
free-last frame other [] apart free = (apart, tt)
free-last frame other (entry ∷ entries) apart free = (free.0, free-last frame other entries apart free.1)

pub blocks-last : (frame : ℕ) (entries : Frames) → blocks_of (entries ++ (frame, None) ∷ []) ≡ blocks_of entries
blocks-last frame [] = refl
blocks-last frame (entry ∷ entries) = ap (with_block entry.1) (blocks-last frame entries)

precedes-last : (frame : ℕ) (held : Option ℕ) (entries : Frames) → Precedes held entries → Precedes held (entries ++ (frame, None) ∷ [])
precedes-last frame None entries none = blocks-last frame entries ∙ none
precedes-last frame (Some block) entries absent = subst (IsAbsent block) (sym (blocks-last frame entries)) absent

pub order-last : (frame : ℕ) (entries : Frames) → IsOrder entries → IsFree frame entries → IsOrder (entries ++ (frame, None) ∷ [])
order-last frame [] order free = (tt, (refl, tt))
order-last frame (entry ∷ entries) order free =
    (free-last frame entry.0 entries (λ is. free.0 (sym is)) order.0, (precedes-last frame entry.1 entries order.1.0, order-last frame entries order.1.1 free.1))

pub below-last : (frame count : ℕ) (entries : Frames) → AreBelow count entries → frame < count → AreBelow count (entries ++ (frame, None) ∷ [])
below-last frame count [] below less = (less, tt)
below-last frame count (entry ∷ entries) below less = (below.0, below-last frame count entries below.1 less)

abbrev none_held : Option ℕ
none_held = None

-- what is held stays held, but for the frame that goes last
pub holds-last : (frame other block : ℕ) (entries : Frames) → Holds (entries ++ (frame, None) ∷ []) other block → Holds entries other block
holds-last frame other block [] holds = by-test (λ test. cond test (Some none_held) None ≡ Some (Some block) → Holds [] other block) (nat_eq other frame) (λ _ same. cc) (λ _ same. same) holds
holds-last frame other block (entry ∷ entries) holds = by-test (λ test. cond test (Some entry.1) (lookup (nat_eq other) (entries ++ (frame, None) ∷ [])) ≡ Some (Some block) → cond test (Some entry.1) (lookup (nat_eq other) entries) ≡ Some (Some block)) (nat_eq other entry.0) (λ _ same. same) (λ _ below. holds-last frame other block entries below) holds

other-number : (frame number : ℕ) (held : Option ℕ) (entries : Frames) → IsFree number entries → lookup (nat_eq frame) entries ≡ Some held → nat_eq frame number ≡ false
other-number frame number held entries free found = by-test (λ test. test ≡ false) (nat_eq frame number) (λ is. let same : number ≡ frame = grind (arith, nat_tests, is) in let missing : lookup (nat_eq frame) entries ≡ None = lookup-free frame entries (subst (λ n. IsFree n entries) same free) in cc) (λ is. refl)

take-nil : (count : ℕ) → take {A = ℕ} count [] ≡ []
take-nil zero = refl
take-nil (suc count) = refl

take-with : (held : Option ℕ) (count : ℕ) (entries : Frames) → Precedes held entries → with_block held (take count (blocks_of entries)) ≡ take (count + 1) (with_block held (blocks_of entries))
take-with None count entries none = ap (take count) none ∙ (take-nil count ∙ sym (ap (take (count + 1)) none ∙ take-nil (count + 1)))
take-with (Some block) count entries absent = rw add-one refl

-- the last frame is given up
abbrev none_found : Option (Option ℕ)
none_found = None

-- the last of the rest is the last of all
last-tail : (entry next : ℕ × Option ℕ) (entries : Frames) → last_entry (entry ∷ next ∷ entries) ≡ last_entry (next ∷ entries)
last-tail entry next entries =
    let left : length (entry ∷ next ∷ entries) - 1 ≡ suc (length entries) = omega arith in
    let right : length (next ∷ entries) - 1 ≡ length entries = omega arith in
    ap (slice_get (entry ∷ next ∷ entries)) left ∙ sym (ap (slice_get (next ∷ entries)) right)

pub evicted : (frame : ℕ) (held : Option ℕ) (entries : Frames) → IsOrder entries → last_entry entries ≡ Some (frame, held) → (lookup (nat_eq frame) entries ≡ Some held) × (blocks_of (others frame entries) ≡ take (length entries - 1) (blocks_of entries))
evicted frame held [] order last = absurd (cc)
evicted frame held (entry ∷ []) order last =
    let same : entry ≡ (frame, held) = cc in
    let here : nat_eq frame entry.0 ≡ true = grind (arith, nat_tests, ap (λ (e : ℕ × Option ℕ). e.0) same) in
    (ap (λ test. cond test (Some entry.1) none_found) here ∙ ap (λ (e : ℕ × Option ℕ). Some e.1) same, ap (λ test. blocks_of (cond test [] (entry ∷ []))) here)
evicted frame held (entry ∷ next ∷ entries) order last =
    let below = evicted frame held (next ∷ entries) order.1.1 (sym (last-tail entry next entries) ∙ last) in
    let apart : nat_eq frame entry.0 ≡ false = other-number frame entry.0 held (next ∷ entries) order.0 below.0 in
    let more : length (next ∷ entries) - 1 + 1 ≡ length (entry ∷ next ∷ entries) - 1 = omega arith in (
      ap (λ test. cond test (Some entry.1) (lookup (nat_eq frame) (next ∷ entries))) apart ∙ below.0,
      ap (λ test. blocks_of (cond test (next ∷ entries) (entry ∷ others frame (next ∷ entries)))) apart
          ∙ (ap (with_block entry.1) below.1 ∙ (take-with entry.1 (length (next ∷ entries) - 1) (next ∷ entries) order.1.0
          ∙ ap (λ (n : ℕ). take n (with_block entry.1 (blocks_of (next ∷ entries)))) more)),
    )

pub below-lookup : (frame count : ℕ) (held : Option ℕ) (entries : Frames) → AreBelow count entries → lookup (nat_eq frame) entries ≡ Some held → frame < count
below-lookup frame count held [] below found = cc
below-lookup frame count held (entry ∷ entries) below found = by-test (λ test. cond test (Some entry.1) (lookup (nat_eq frame) entries) ≡ Some held → frame < count) (nat_eq frame entry.0) (λ is _. let same : entry.0 ≡ frame = grind (arith, nat_tests, is) in subst (λ number. number < count) same below.0) (λ is rest. below-lookup frame count held entries below.1 rest) found

-- at most so many blocks are held as there are frames
pub length-blocks : (entries : Frames) → length (blocks_of entries) ≤ length entries
length-blocks [] = omega arith
length-blocks ((number, None) ∷ entries) = let below : length (blocks_of entries) ≤ length entries = length-blocks entries in omega arith
length-blocks ((number, Some block) ∷ entries) = let below : length (blocks_of entries) ≤ length entries = length-blocks entries in omega arith

pub absent-outside : (block first end : ℕ) (blocks : List ℕ) → IsAbsent block blocks → IsAbsent block (outside first end blocks)
absent-outside block first end [] absent = tt
absent-outside block first end (other ∷ others) absent = by-test (λ test. IsAbsent block (cond test (outside first end others) (other ∷ outside first end others))) (is_within first end other) (λ _. absent-outside block first end others absent.1) (λ _. (absent.0, absent-outside block first end others absent.1))

-- a range with the block behind it
pub outside-more : (first end : ℕ) (blocks : List ℕ) → first ≤ end → without end (outside first end blocks) ≡ outside first (end + 1) blocks
outside-more first end [] inside = refl
outside-more first end (block ∷ blocks) inside = let below : without end (outside first end blocks) ≡ outside first (end + 1) blocks = outside-more first end blocks inside in grind (arith, nat_tests, below)

pub outside-none : (first : ℕ) (blocks : List ℕ) → outside first first blocks ≡ blocks
outside-none first [] = refl
outside-none first (block ∷ blocks) = let below : outside first first blocks ≡ blocks = outside-none first blocks in grind (arith, nat_tests, below)

pub length-unheld : (count : ℕ) → length (unheld count) ≡ count
length-unheld zero = refl
length-unheld (suc count) = ap suc (length-unheld count)

pub blocks-unheld : (count : ℕ) → blocks_of (unheld count) ≡ []
blocks-unheld zero = refl
blocks-unheld (suc count) = blocks-unheld count

-- no frame holds a block
pub lookup-unheld : (count frame block : ℕ) → Holds (unheld count) frame block → ⊥
lookup-unheld count frame block holds = holds-absent block frame (unheld count) (rw (blocks-unheld count) tt) holds

pub free-unheld : (count frame : ℕ) → count ≤ frame → IsFree frame (unheld count)
free-unheld zero frame above = tt
free-unheld (suc count) frame above = (omega arith, free-unheld count frame (omega arith))

pub order-unheld : (count : ℕ) → IsOrder (unheld count)
order-unheld zero = tt
order-unheld (suc count) = (free-unheld count count (omega arith), (blocks-unheld count, order-unheld count))

pub below-unheld : (count most : ℕ) → count ≤ most → AreBelow most (unheld count)
below-unheld zero most inside = tt
below-unheld (suc count) most inside = (omega arith, below-unheld count most (omega arith))

-- a frame that is not there goes to the front
pub put-unheld : (count most : ℕ) → count < most → put_entries nat_eq (lru_cache (unheld count) most) count None ≡ unheld (suc count)
put-unheld count most room =
    rw (entry-free count (unheld count) (free-unheld count count (omega arith)))
    (ap (λ (es : Frames). (count, None) ∷ es) (take_all (most - 1) (unheld count) (omega (arith, length-unheld count))))

-- what stands where something does
some-is : {X : Type 0} (found : Option X) → IsSome found → (x : X) × (found ≡ Some x)
some-is None some = cc
some-is (Some x) some = (x, refl)

pub placed : {T E : Type 0} (before after : LruCache ℕ (Option ℕ)) (frame : ℕ) (held : Option ℕ) (result : Result T E) → IsSome (lookup (nat_eq frame) before.entries) → (IsSome (lookup (nat_eq frame) before.entries) → IsOk result) → OnOk result (after ≡ lru_cache (put_entries nat_eq before frame held) before.cap) → after ≡ lru_cache ((frame, held) ∷ others frame before.entries) before.cap
placed before after frame held (Err fault) there succeeds entries = let ok = succeeds there in cc
placed before after frame held (Ok value) there succeeds entries =
    let was = some-is (lookup (nat_eq frame) before.entries) there in
    entries ∙ ap (λ (es : Frames). lru_cache es before.cap) (rw (entry-found frame before.entries was.0 was.1))

-- a frame that is there, at the front with another block or none
pub below-placed : (frame count : ℕ) (before held : Option ℕ) (entries : Frames) → lookup (nat_eq frame) entries ≡ Some before → AreBelow count entries → AreBelow count ((frame, held) ∷ others frame entries)
below-placed frame count before held entries there below = (below-lookup frame count before entries below there, below-others frame count entries below)

pub length-placed : (frame : ℕ) (before held : Option ℕ) (entries : Frames) → lookup (nat_eq frame) entries ≡ Some before → length ((frame, held) ∷ others frame entries) ≡ length entries
length-placed frame before held entries there = let less : length (others frame entries) + 1 ≡ length entries = length-others frame entries before there in omega arith

pub holds-placed : (frame other block : ℕ) (held : Option ℕ) (entries : Frames) → Holds ((frame, held) ∷ others frame entries) other block → other ≢ frame → Holds entries other block
holds-placed frame other block held entries holds apart =
    let no : nat_eq other frame ≡ false = grind (arith, nat_tests, apart) in
    sym (lookup-others frame other entries apart) ∙ (sym (ap (λ test. cond test (Some held) (lookup (nat_eq other) (others frame entries))) no) ∙ holds)

pub holds-front : (frame block : ℕ) (held : Option ℕ) (entries : Frames) → Holds ((frame, held) ∷ entries) frame block → held ≡ Some block
holds-front frame block held entries holds =
    let here : nat_eq frame frame ≡ true = grind (arith, nat_tests) in
    let same : Some held ≡ Some (Some block) = sym (ap (λ test. cond test (Some held) (lookup (nat_eq frame) entries)) here) ∙ holds in cc

pub order-placed : (frame block : ℕ) (entries : Frames) → IsOrder entries → IsAbsent block (blocks_of (others frame entries)) → IsOrder ((frame, Some block) ∷ others frame entries)
order-placed frame block entries order absent = (free-removed frame entries order, (absent, order-others frame entries order))

pub blocks-touched : (frame block : ℕ) (entries : Frames) → IsOrder entries → Holds entries frame block → blocks_of ((frame, Some block) ∷ others frame entries) ≡ used (length entries) block (blocks_of entries)
blocks-touched frame block entries order holds =
    let now : Frames = (frame, Some block) ∷ others frame entries in
    let is : blocks_of now ≡ block ∷ without block (blocks_of entries) = ap (λ (bs : List ℕ). block ∷ bs) (blocks-others frame block entries order holds) in
    let short : length (block ∷ without block (blocks_of entries)) ≤ length entries = omega (arith, ap length is, length-blocks now, length-placed frame (Some block) (Some block) entries holds) in
    is ∙ sym (take_all (length entries) (block ∷ without block (blocks_of entries)) short)

pub holds-touched : (frame block other held : ℕ) (entries : Frames) → Holds entries frame block → Holds ((frame, Some block) ∷ others frame entries) other held → Holds entries other held
holds-touched frame block other held entries was holds = ⊎_elim
    (λ (same : frame ≡ other).
    let front : Some block ≡ Some held = holds-front frame held (Some block) (others frame entries) (subst (λ number. Holds ((frame, Some block) ∷ others frame entries) number held) (sym same) holds) in
    subst (λ number. Holds entries number held) same (was ∙ ap (λ (h : Option ℕ). Some h) front))
    (λ (differ : frame ≢ other). holds-placed frame other held (Some block) entries holds (λ is. differ (sym is)))
    (cases_eq frame other)

-- the last frame, with a block that none held
pub last-is : (entries : Frames) (frame : ℕ) → option_map (λ (entry : ℕ × Option ℕ). entry.0) (last_entry entries) ≡ Some frame → (held : Option ℕ) × (last_entry entries ≡ Some (frame, held))
last-is entries frame is = (elim (last_entry entries) as (λ (last : Option (ℕ × Option ℕ)). option_map (λ (entry : ℕ × Option ℕ). entry.0) last ≡ Some frame → (held : Option ℕ) × (last ≡ Some (frame, held))) [
  | None ↦ λ no. absurd (cc)
  | Some entry ↦ λ same. let number : entry.0 ≡ frame = cc in (entry.1, ap (λ (n : ℕ). Some (n, entry.1)) number)
]) is

pub blocks-admitted : (frame block : ℕ) (held : Option ℕ) (entries : Frames) → IsOrder entries → IsAbsent block (blocks_of entries) → last_entry entries ≡ Some (frame, held) → 0 < length entries → blocks_of ((frame, Some block) ∷ others frame entries) ≡ used (length entries) block (blocks_of entries)
blocks-admitted frame block held entries order absent last some =
    let more : length entries ≡ suc (length entries - 1) = omega arith in
    ap (λ (bs : List ℕ). block ∷ bs) (evicted frame held entries order last).1
    ∙ (ap (λ (bs : List ℕ). take (suc (length entries - 1)) (block ∷ bs)) (sym (without-absent block (blocks_of entries) absent))
    ∙ ap (λ (n : ℕ). take n (block ∷ without block (blocks_of entries))) (sym more))

-- a frame that gave its block up, and went last
pub demoted-placed : (frame : ℕ) (held : Option ℕ) (entries : Frames) → demoted (nat_eq frame) ((frame, held) ∷ entries) ≡ entries ++ (frame, held) ∷ []
demoted-placed frame held entries =
    let here : nat_eq frame frame ≡ true = grind (arith, nat_tests) in rw here refl

pub holds-emptied : (frame block other held : ℕ) (entries : Frames) → IsOrder entries → Holds entries frame block → Holds (others frame entries ++ (frame, None) ∷ []) other held → Holds entries other held × (held ≢ block)
holds-emptied frame block other held entries order was holds =
    let rest : Holds (others frame entries) other held = holds-last frame other held (others frame entries) holds in
    let apart : other ≢ frame = λ same. let missing : lookup (nat_eq frame) (others frame entries) ≡ None = lookup-free frame (others frame entries) (free-removed frame entries order) in
    let here : Holds (others frame entries) frame held = subst (λ number. Holds (others frame entries) number held) same rest in (cc) in
    (sym (lookup-others frame other entries apart) ∙ rest, λ same. holds-absent block other (others frame entries) (absent-released frame block entries order was) (subst (λ b. Holds (others frame entries) other b) same rest))

pub length-last : (frame : ℕ) (entries : Frames) → length (entries ++ (frame, None) ∷ []) ≡ length entries + 1
length-last frame [] = refl
length-last frame (entry ∷ entries) = let more : length (entries ++ (frame, None) ∷ []) ≡ length entries + 1 = length-last frame entries in omega arith

no-blocks : (blocks : List ℕ) → ((block : ℕ) → IsAbsent block blocks) → blocks ≡ []
no-blocks [] absent = refl
no-blocks (block ∷ blocks) absent = absurd ((absent block).0 refl)

-- where no frame holds a block, none is held
pub none-held : (entries : Frames) → IsOrder entries → ((frame block : ℕ) → Holds entries frame block → ⊥) → blocks_of entries ≡ []
none-held entries order none = no-blocks (blocks_of entries) (λ block. absent-lookups block entries order (λ frame holds. none frame block holds))

pub within-none : (first block : ℕ) → is_within first first block ≡ false
within-none first block = grind (arith, nat_tests)

pub within-more : (first end block : ℕ) → is_within first end block ≡ false → block ≢ end → is_within first (end + 1) block ≡ false
within-more first end block out apart = grind (arith, nat_tests)

-- a block is held by one frame
pub holds-unique : (first second block : ℕ) (entries : Frames) → IsOrder entries → Holds entries first block → Holds entries second block → second ≡ first
holds-unique first second block entries order one other = ⊎_elim (λ is. is)
    (λ (differ : second ≢ first). absurd (holds-absent block second (others first entries) (absent-released first block entries order one) (lookup-others first second entries differ ∙ other)))
    (cases_eq second first)

-- one block fewer is held without the frame of a block
pub length-released : (frame block : ℕ) (entries : Frames) → Holds entries frame block → length (blocks_of (others frame entries)) + 1 ≡ length (blocks_of entries)
length-released frame block [] holds = cc
length-released frame block ((number, None) ∷ entries) holds = by-test (λ test. cond test (Some None) (lookup (nat_eq frame) entries) ≡ Some (Some block) → length (blocks_of (cond test entries ((number, None) ∷ others frame entries))) + 1 ≡ length (blocks_of entries)) (nat_eq frame number) (λ _ same. cc) (λ _ below. length-released frame block entries below) holds
length-released frame block ((number, Some other) ∷ entries) holds = by-test (λ test. cond test (Some (Some other)) (lookup (nat_eq frame) entries) ≡ Some (Some block) → length (blocks_of (cond test entries ((number, Some other) ∷ others frame entries))) + 1 ≡ length (other ∷ blocks_of entries)) (nat_eq frame number) (λ _ same. omega arith) (λ _ below. let less : length (blocks_of (others frame entries)) + 1 ≡ length (blocks_of entries) = length-released frame block entries below in omega arith) holds

pub length-touched : (frame block : ℕ) (entries : Frames) → Holds entries frame block → length (blocks_of ((frame, Some block) ∷ others frame entries)) ≡ length (blocks_of entries)
length-touched frame block entries holds = let less : length (blocks_of (others frame entries)) + 1 ≡ length (blocks_of entries) = length-released frame block entries holds in omega arith

-- one block more is held where there is room for one that was not
pub length-used : (count block : ℕ) (blocks : List ℕ) → IsAbsent block blocks → length blocks < count → length (used count block blocks) ≡ length blocks + 1
length-used count block blocks absent room =
    let all : take count (block ∷ blocks) ≡ block ∷ blocks = take_all count (block ∷ blocks) (omega arith) in
    let more : length (block ∷ blocks) ≡ length blocks + 1 = omega arith in
    ap (λ (bs : List ℕ). length (take count (block ∷ bs))) (without-absent block blocks absent) ∙ (ap (λ (bs : List ℕ). length bs) all ∙ more)

-- with no frame there is no room, and no block
pub none-room : (count block : ℕ) (blocks : List ℕ) → length blocks ≤ count → (0 < count → ⊥) → (IsAbsent block blocks → length blocks < count) → ⊥
none-room count block [] few none room = none (omega (arith, room tt))
none-room count block (other ∷ others) few none room = none (omega arith)

-- a frame that goes last holds no block
pub lookup-last : (frame : ℕ) (entries : Frames) → IsFree frame entries → lookup (nat_eq frame) (entries ++ (frame, None) ∷ []) ≡ Some None
lookup-last frame [] free = let here : nat_eq frame frame ≡ true = grind (arith, nat_tests) in ap (λ test. cond test (Some none_held) None) here
lookup-last frame (entry ∷ entries) free =
    let no : nat_eq frame entry.0 ≡ false = grind (arith, nat_tests, free.0) in
    ap (λ test. cond test (Some entry.1) (lookup (nat_eq frame) (entries ++ (frame, None) ∷ []))) no ∙ lookup-last frame entries free.1

no-block : (held : Option ℕ) (blocks : List ℕ) → ((block : ℕ) → held ≡ Some block → ⊥) → blocks ≡ with_block held blocks
no-block None blocks none = refl
no-block (Some block) blocks none = absurd (none block refl)

-- without a frame that holds no block as many are held
pub blocks-free : (frame : ℕ) (entries : Frames) → ((block : ℕ) → Holds entries frame block → ⊥) → blocks_of (others frame entries) ≡ blocks_of entries
blocks-free frame [] none = refl
blocks-free frame ((number, held) ∷ entries) none = by-test (λ test. ((block : ℕ) → cond test (Some held) (lookup (nat_eq frame) entries) ≡ Some (Some block) → ⊥) → blocks_of (cond test entries ((number, held) ∷ others frame entries)) ≡ with_block held (blocks_of entries)) (nat_eq frame number) (λ _ here. no-block held (blocks_of entries) (λ block is. here block (ap (λ (h : Option ℕ). Some h) is))) (λ _ below. ap (with_block held) (blocks-free frame entries below)) none

-- a frame that is there, and holds no block
pub free-is : (found : Option (Option ℕ)) → IsSome found → ((block : ℕ) → found ≡ Some (Some block) → ⊥) → found ≡ Some None
free-is None some none = absurd (cc)
free-is (Some None) some none = refl
free-is (Some (Some block)) some none = absurd (none block refl)

-- it holds none
pub free-holds : (frame : ℕ) (entries : Frames) → lookup (nat_eq frame) entries ≡ Some None → (block : ℕ) → Holds entries frame block → ⊥
free-holds frame entries free block holds = cc

-- a block that is absent beside another one is absent
pub absent-back : (block other : ℕ) (blocks : List ℕ) → other ≢ block → IsAbsent other (without block blocks) → IsAbsent other blocks
absent-back block other [] differ absent = tt
absent-back block other (first ∷ blocks) differ absent = by-test (λ test. IsAbsent other (cond test (without block blocks) (first ∷ without block blocks)) → IsAbsent other (first ∷ blocks)) (is_within block (block + 1) first) (λ is rest. let here : first ≡ block = grind (arith, nat_tests, is) in ((λ same. differ (sym same ∙ here)), absent-back block other blocks differ rest)) (λ is rest. (rest.0, absent-back block other blocks differ rest.1)) absent

-- a frame that goes to the front makes no block absent
pub absent-touched : (frame block other : ℕ) (entries : Frames) → IsOrder entries → Holds entries frame block → IsAbsent other (blocks_of ((frame, Some block) ∷ others frame entries)) → IsAbsent other (blocks_of entries)
absent-touched frame block other entries order holds absent =
    absent-back block other (blocks_of entries) (λ same. absent.0 (sym same)) (subst (IsAbsent other) (blocks-others frame block entries order holds) absent.1)

-- and a block that is admitted makes that of the last frame absent alone
pub absent-admitted : (entries : Frames) (frame block other : ℕ) (found : Option ℕ) → IsOrder entries → option_map (λ (entry : ℕ × Option ℕ). entry.0) (last_entry entries) ≡ Some frame → 0 < length entries → IsAbsent block (blocks_of entries) →
    IfSome found (λ held. Holds entries frame held) → (found ≡ None → (held : ℕ) → Holds entries frame held → ⊥) → found ≢ Some other → IsAbsent other (used (length entries) block (blocks_of entries)) → IsAbsent other (blocks_of entries)
absent-admitted entries frame block other found order is some absent holds none differ now =
    let last = last-is entries frame is in
    let rest : IsAbsent other (block ∷ blocks_of (others frame entries)) = subst (IsAbsent other) (sym (blocks-admitted frame block last.0 entries order absent last.1 some)) now in
    (elim found as (λ (f : Option ℕ). IfSome f (λ held. Holds entries frame held) → (f ≡ None → (held : ℕ) → Holds entries frame held → ⊥) → f ≢ Some other → IsAbsent other (blocks_of entries)) [
      | None ↦ λ _ free _. subst (IsAbsent other) (blocks-free frame entries (free refl)) rest.1
      | Some held ↦ λ holds _ apart. absent-back held other (blocks_of entries) (λ same. apart (ap (λ (b : ℕ). Some b) (sym same))) (subst (IsAbsent other) (blocks-others frame held entries order holds) rest.1)
    ]) holds none differ
