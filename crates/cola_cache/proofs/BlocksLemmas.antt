-- Blocks that are held, copies that agree and reads that are few, through reads and writes.
use Rattle.std.proofs.Common.{◌≡◌, ◌≢◌, ⊎_elim, ℕ, zero, suc, ◌+◌, ◌-◌, ◌*◌, ◌/◌, ◌%◌, ◌^◌, ◌≤◌, ◌<◌, ◌==◌, Bool, true, false, cond, if◌then◌else◌, List, [], ◌∷◌, length, take, drop, set, map, Option, Some, None, Result, Ok, Err, refl, sym, ◌∙◌, ap, subst, arith}
use Rattle.std.specs.Prelude.{OnOk, OnErr}
use Rattle.std.proofs.Math.Nat.{div-eq_of_lt}
use Rattle.std.proofs.lemmas.Nat.{div-mul-add, div-add-mod'}
use Rattle.std.proofs.lemmas.Bool.{eqb-false, cases_eq, cases_order}
use Rattle.std.proofs.lemmas.Bool.Decides.{nat_tests}
use Rattle.std.proofs.lemmas.List.{get_or-set_same, get_or-set_other, length-map, length-set}
use Rattle.cola_outside.specs.Faults.{Rose, HasCause}
use Rattle.cola_device.specs.declared.counts.Counts.{Counts}
use Rattle.cola_device.specs.Bytes.{part, HasRange, Gives, Wrote}
use Rattle.cola_device.specs.Counts.{Called}
use Rattle.cola_device.proofs.BytesLemmas.{length-splice, length-part}
use Rattle.cola_device.proofs.ToldLemmas.{Gives-Wrote_below, Gives-Wrote_above}
use Rattle.cola_cache.specs.Order.{IsAbsent, is_within, outside, without}
use Rattle.cola_cache.specs.Cache.{Cache, used, untouched, blocks_touched}
use Rattle.cola_cache.proofs.OrderLemmas.{absent-without, without-absent, absent-outside, absent-back, by-test}
use Rattle.cola_cache.proofs.CacheLemmas.{apart, agree-put, slice-is, length-take_le}
use borrow.Rule.Slice.PartMut.{put_mid}
use Rattle.cola_cache.specs.Blocks.{Made, last_in, forgotten, AreBlocks, HeldWritten, Since, IsSound, IsOwn, AreCopies, AreShared, IsInFile, to_copy}

-- blocks without some are blocks
pub outside-blocks : (first end many : ℕ) (held : List ℕ) → AreBlocks many held → AreBlocks many (outside first end held)
outside-blocks first end many [] are = tt
outside-blocks first end many (block ∷ blocks) are = by-test (λ test. AreBlocks many (cond test (outside first end blocks) (block ∷ outside first end blocks))) (is_within first end block) (λ _. outside-blocks first end many blocks are.1.1) (λ _. (are.0, (absent-outside block first end blocks are.1.0, outside-blocks first end many blocks are.1.1)))

absent-take : (count block : ℕ) (held : List ℕ) → IsAbsent block held → IsAbsent block (take count held)
absent-take zero block held absent = tt
absent-take (suc count) block [] absent = tt
absent-take (suc count) block (other ∷ others) absent = (absent.0, absent-take count block others absent.1)

take-blocks : (count many : ℕ) (held : List ℕ) → AreBlocks many held → AreBlocks many (take count held)
take-blocks zero many held are = tt
take-blocks (suc count) many [] are = tt
take-blocks (suc count) many (block ∷ blocks) are = (are.0, (absent-take count block blocks are.1.0, take-blocks count many blocks are.1.1))

-- a block that goes to the front is one more
pub used-blocks : (blocks block many : ℕ) (held : List ℕ) → block < many → AreBlocks many held → AreBlocks many (used blocks block held)
used-blocks blocks block many held less are =
    take-blocks blocks many (block ∷ without block held) (less, (absent-without block held, outside-blocks block (block + 1) many held are))

-- one block fewer
fewer : (last : ℕ) (held : List ℕ) → AreBlocks (suc last) held → AreBlocks last (without last held) × (length held ≤ length (without last held) + 1)
fewer last [] are = (tt, omega arith)
fewer last (block ∷ blocks) are = by-test (λ test. AreBlocks last (cond test (without last blocks) (block ∷ without last blocks)) × (length (block ∷ blocks) ≤ length (cond test (without last blocks) (block ∷ without last blocks)) + 1)) (is_within last (last + 1) block)
    (λ is.
    let same : block ≡ last = grind (arith, nat_tests) in
    let none = ap (λ (bs : List ℕ). length bs) (without-absent last blocks (subst (λ b. IsAbsent b blocks) same are.1.0)) in ((fewer last blocks are.1.1).0, omega (arith, none)))
    (λ is.
    let below : block < last = grind (arith, nat_tests, are.0) in
    let rest = fewer last blocks are.1.1 in ((below, (absent-outside block last (last + 1) blocks are.1.0, rest.0)), omega (arith, rest.1)))

-- there are no more blocks than the file has
pub few-blocks : (many : ℕ) (held : List ℕ) → AreBlocks many held → length held ≤ many
few-blocks zero [] are = omega arith
few-blocks zero (block ∷ blocks) are = let less : block < 0 = are.0 in absurd (omega (arith, less))
few-blocks (suc last) held are =
    let one = fewer last held are in
    let rest : length (without last held) ≤ last = few-blocks last (without last held) one.0 in
    omega (arith, one.1, rest)

-- a fault since is a fault too many
quiet : (made before after : ℕ) → made ≤ before → before ≤ after → Rose before after → after ≡ made → after + 1 < 2 ^ 64 → ⊥
quiet made before after low high rose same last = omega (arith, low, high, rose, same, last)

few-after : {T E : Type 0} (many blocks : ℕ) (held now : List ℕ) (made : Made) (before after : Counts) (result : Result T E) → Since many blocks held made before → before.faults ≤ after.faults → HasCause result before.faults after.faults → OnOk result (after.faults ≡ before.faults) →
    (many ≤ blocks → OnOk result (after.reads + length held ≤ before.reads + length now)) → many ≤ blocks → after.faults ≡ made.faults → after.faults + 1 < 2 ^ 64 → after.reads ≤ made.reads + length now
few-after many blocks held now made before after (Ok value) since stay cause hidden rise room none last =
    let old = since.few room (sym hidden ∙ none) (omega (arith, hidden, last)) in omega (arith, old, rise room)
few-after many blocks held now made before after (Err fault) since stay cause hidden rise room none last = absurd (quiet made.faults before.faults after.faults since.faults_stay stay cause none last)

-- after a call that raised the reads by no more than the number of the blocks that are held
since-called : {T E : Type 0} (many blocks reads writes others : ℕ) (held now : List ℕ) (made : Made) (before after : Counts) (result : Result T E) → Since many blocks held made before → Called before after reads writes others result → AreBlocks many now →
    (many ≤ blocks → OnOk result (after.reads + length held ≤ before.reads + length now)) → Since many blocks now made after
since-called many blocks reads writes others held now made before after result since called are rise = record {
  held_are = are;
  reads_stay = omega (arith, since.reads_stay, called.reads_stay);
  faults_stay = omega (arith, since.faults_stay, called.faults_stay);
  few = few-after many blocks held now made before after result since called.faults_stay called.cause called.none_hidden rise;
}

-- after a call that read nothing
pub since-unread : {T E : Type 0} (many blocks writes others : ℕ) (held now : List ℕ) (made : Made) (before after : Counts) (result : Result T E) → Since many blocks held made before → Called before after 0 writes others result →
    AreBlocks many now → OnOk result (now ≡ held) → Since many blocks now made after
since-unread many blocks writes others held now made before after (Ok value) since called are same =
    since-called many blocks 0 writes others held now made before after (Ok value) since called are (λ room. let as_many : length now ≡ length held = ap (λ (bs : List ℕ). length bs) same in omega (arith, as_many, called.reads_rise))
since-unread many blocks writes others held now made before after (Err fault) since called are same = since-called many blocks 0 writes others held now made before after (Err fault) since called are (λ room. tt)

-- after a block of the file was read, or not
pub since-read : {T E : Type 0} (many blocks block : ℕ) (held now : List ℕ) (made : Made) (before after : Counts) (result : Result T E) → block < many → Since many blocks held made before → Called before after 1 0 0 result →
    OnOk result (now ≡ used blocks block held) → OnErr result (now ≡ held) →
    ((IsAbsent block held → length held < blocks) → OnOk result (after.reads + length held ≤ before.reads + length now)) → Since many blocks now made after
since-read many blocks block held now made before after (Ok value) less since called ok err rise =
    since-called many blocks 1 0 0 held now made before after (Ok value) since called (subst (λ bs. AreBlocks many bs) (sym ok) (used-blocks blocks block many held less since.held_are))
    (λ room. rise (λ absent. let more : length (block ∷ held) ≤ many = few-blocks many (block ∷ held) (less, (absent, since.held_are)) in omega (arith, more, room)))
since-read many blocks block held now made before after (Err fault) less since called ok err rise =
    since-called many blocks 1 0 0 held now made before after (Err fault) since called (subst (λ bs. AreBlocks many bs) (sym err) since.held_are) (λ room. tt)

-- after a block of the file that is held came to the front
pub since-touched : (many blocks block : ℕ) (held now : List ℕ) (made : Made) (counts : Counts) → now ≡ used blocks block held → length now ≡ length held → block < many → Since many blocks held made counts → Since many blocks now made counts
since-touched many blocks block held now made counts is as_many less since = record {
  held_are = subst (λ bs. AreBlocks many bs) (sym is) (used-blocks blocks block many held less since.held_are);
  reads_stay = since.reads_stay;
  faults_stay = since.faults_stay;
  few = λ room none last. let old = since.few room none last in omega (arith, old, as_many);
}

-- the copies after bytes were put into that of one buffer
pub copies-put : (told now : Option (List ℕ)) (copies new : List ℕ) (lasts lasts_now shares shares_now : List (Option ℕ)) (buffer size : ℕ) → now ≡ told → buffer < length lasts → length lasts_now ≡ length lasts → length shares_now ≡ length shares →
    length new ≡ length (take (buffer * size + size - buffer * size) (drop (buffer * size) copies)) → ((block : ℕ) → IsOwn lasts_now shares_now buffer block → Gives told (block * size) new) → ((other block : ℕ) → IsOwn lasts_now shares_now other block → other ≢ buffer → IsOwn lasts shares other block) →
    AreCopies told copies lasts shares size → AreCopies now (put_mid (buffer * size) (buffer * size + size - buffer * size) copies new) lasts_now shares_now size
copies-put told now copies new lasts lasts_now shares shares_now buffer size bytes within many many_shares same here others are =
    let room : buffer * size + size ≤ length copies = omega (arith, apart buffer (length lasts) size within, are.as_many) in
    let as_many : length new ≡ size = same ∙ (ap (λ (bytes : List ℕ). length bytes) (slice-is copies (buffer * size) size) ∙ length-part copies (buffer * size) size room) in
    let long : buffer * size + size - buffer * size ≡ length new = omega (arith, as_many) in
    rw (bytes, long) (record {
      as_many = length-splice copies (buffer * size) new (omega (arith, room, as_many)) ∙ (are.as_many ∙ ap (λ (n : ℕ). n * size) (sym many));
      shares_too = many_shares ∙ (are.shares_too ∙ sym many);
      agree = agree-put told copies new size buffer (IsOwn lasts shares) (IsOwn lasts_now shares_now) are.agree as_many room here others;
    })

own-other : (lasts shares : List (Option ℕ)) (buffer other block : ℕ) (last share : Option ℕ) → other ≢ buffer → IsOwn (set lasts buffer last) (set shares buffer share) other block → IsOwn lasts shares other block
own-other lasts shares buffer other block last share differ own = (sym (get_or-set_other lasts buffer other last None differ) ∙ own.0, sym (get_or-set_other shares buffer other share None differ) ∙ own.1)

-- after a block was read into the copy of one buffer, which holds it then, or none
pub copies-turned : (told now : Option (List ℕ)) (copies new : List ℕ) (lasts shares : List (Option ℕ)) (buffer size : ℕ) (last : Option ℕ) → now ≡ told → buffer < length lasts → length new ≡ length (take (buffer * size + size - buffer * size) (drop (buffer * size) copies)) → ((block : ℕ) → last ≡ Some block → Gives told (block * size) new) →
    AreCopies told copies lasts shares size → AreCopies now (put_mid (buffer * size) (buffer * size + size - buffer * size) copies new) (set lasts buffer last) (set shares buffer None) size
copies-turned told now copies new lasts shares buffer size last bytes within same here =
    copies-put told now copies new lasts (set lasts buffer last) shares (set shares buffer None) buffer size bytes within (length-set lasts buffer last) (length-set shares buffer None) same
    (λ block own. here block (sym (get_or-set_same lasts buffer last None within) ∙ own.0)) (λ other block own differ. own-other lasts shares buffer other block last None differ own)

-- after one buffer copied the block that it borrows
pub copies-late : (told : Option (List ℕ)) (copies new : List ℕ) (lasts shares : List (Option ℕ)) (buffer block size : ℕ) → buffer < length lasts → length new ≡ length (take (buffer * size + size - buffer * size) (drop (buffer * size) copies)) → last_in lasts buffer ≡ Some block → Gives told (block * size) new →
    AreCopies told copies lasts shares size → AreCopies told (put_mid (buffer * size) (buffer * size + size - buffer * size) copies new) lasts (set shares buffer None) size
copies-late told copies new lasts shares buffer block size within same is given =
    copies-put told told copies new lasts lasts shares (set shares buffer None) buffer size refl within refl (length-set shares buffer None) same
    (λ held own. let this : held ≡ block = (let both : Some held ≡ Some block = sym own.0 ∙ is in cc) in rw this given) (λ other held own differ. (own.0, sym (get_or-set_other shares buffer other None None differ) ∙ own.1))

-- what a copy has of all bytes it has of those that are to be copied
pub copied : (lends : Bool) (told : Option (List ℕ)) (at : ℕ) (bytes : List ℕ) → Gives told at bytes → Gives (to_copy lends told) at bytes
copied true told at bytes given = tt
copied false told at bytes given = given

-- and a copy has of all bytes what it has of those, where none are lent
pub own-given : (lends : Bool) (told : Option (List ℕ)) (at : ℕ) (bytes : List ℕ) → lends ≡ false → Gives (to_copy lends told) at bytes → Gives told at bytes
own-given true told at bytes none given = absurd (cc)
own-given false told at bytes none given = given

-- where bytes are lent, no copy is to have any
pub copies-lent : (lends : Bool) (told : Option (List ℕ)) (copies : List ℕ) (lasts shares : List (Option ℕ)) (buffer : ℕ) (last : Option ℕ) (size : ℕ) → lends ≡ true → AreCopies (to_copy lends told) copies lasts shares size → AreCopies (to_copy lends told) copies (set lasts buffer last) (set shares buffer None) size
copies-lent true told copies lasts shares buffer last size lent are = record {
  as_many = are.as_many ∙ ap (λ (n : ℕ). n * size) (sym (length-set lasts buffer last));
  shares_too = length-set shares buffer None ∙ (are.shares_too ∙ sym (length-set lasts buffer last));
  agree = λ other block own. tt;
}
copies-lent false told copies lasts shares buffer last size lent are = absurd (cc)

-- a cache that keeps no block holds none after a read
pub used-none : (blocks block : ℕ) (held : List ℕ) → blocks ≡ 0 → held ≡ [] → held ≡ used blocks block held
used-none blocks block held none empty = rw none empty

-- what a write left of all bytes it left of those that are to be copied
pub wrote-copied : {T E : Type 0} (lends : Bool) (result : Result T E) (told now : Option (List ℕ)) (at : ℕ) (from : List ℕ) → Wrote result at from told now → Wrote result at from (to_copy lends told) (to_copy lends now)
wrote-copied true result told now at from wrote = tt
wrote-copied false result told now at from wrote = wrote

pub range-copied : (lends : Bool) (told : Option (List ℕ)) (at count : ℕ) → HasRange told at count → HasRange (to_copy lends told) at count
range-copied true told at count inside = tt
range-copied false told at count inside = inside

-- after one buffer borrows its block
pub copies-borrowed : (told : Option (List ℕ)) (copies : List ℕ) (lasts shares : List (Option ℕ)) (buffer frame size : ℕ) (last : Option ℕ) → buffer < length lasts → AreCopies told copies lasts shares size → AreCopies told copies (set lasts buffer last) (set shares buffer (Some frame)) size
copies-borrowed told copies lasts shares buffer frame size last within are = record {
  as_many = are.as_many ∙ ap (λ (n : ℕ). n * size) (sym (length-set lasts buffer last));
  shares_too = length-set shares buffer (Some frame) ∙ (are.shares_too ∙ sym (length-set lasts buffer last));
  agree = λ other block own. are.agree other block (own-other lasts shares buffer other block last (Some frame) (λ same.
      let none : last_in (set shares buffer (Some frame)) buffer ≡ None = subst (λ b. last_in (set shares buffer (Some frame)) b ≡ None) same own.1 in
      let some : last_in (set shares buffer (Some frame)) buffer ≡ Some frame = get_or-set_same shares buffer (Some frame) None (omega (arith, within, are.shares_too)) in cc) own);
}

-- what is borrowed after one buffer took another block
pub shared-turned : (held : List ℕ) (lasts shares : List (Option ℕ)) (buffer : ℕ) (last share : Option ℕ) → buffer < length lasts → length shares ≡ length lasts → ((block : ℕ) → last ≡ Some block → share ≢ None → IsAbsent block held → ⊥) → AreShared held lasts shares → AreShared held (set lasts buffer last) (set shares buffer share)
shared-turned held lasts shares buffer last share within many here are other block is borrowed absent = ⊎_elim
    (λ (same : other ≡ buffer). here block (sym (get_or-set_same lasts buffer last None within) ∙ subst (λ b. last_in (set lasts buffer last) b ≡ Some block) same is)
    (λ none. borrowed (ap (λ b. last_in (set shares buffer share) b) same ∙ (get_or-set_same shares buffer share None (omega (arith, within, many)) ∙ none))) absent)
    (λ (differ : other ≢ buffer). are other block (sym (get_or-set_other lasts buffer other last None differ) ∙ is) (λ none. borrowed (get_or-set_other shares buffer other share None differ ∙ none)) absent)
    (cases_eq other buffer)

-- what is borrowed where some buffers borrow no longer
pub shared-fewer : (held : List ℕ) (lasts shares now : List (Option ℕ)) → ((other : ℕ) → last_in shares other ≡ None → last_in now other ≡ None) → AreShared held lasts shares → AreShared held lasts now
shared-fewer held lasts shares now fewer are buffer block is borrowed absent = are buffer block is (λ none. borrowed (fewer buffer none)) absent

-- and where no buffer borrows the block that is given up
pub shared-after : (held now : List ℕ) (lasts shares : List (Option ℕ)) (leaving : Option ℕ) → ((other : ℕ) → leaving ≢ Some other → IsAbsent other now → IsAbsent other held) → ((buffer block : ℕ) → leaving ≡ Some block → last_in lasts buffer ≡ Some block → last_in shares buffer ≡ None) → AreShared held lasts shares → AreShared now lasts shares
shared-after held now lasts shares leaving stay copied are buffer block is borrowed absent =
    are buffer block is borrowed (stay block (λ same. borrowed (copied buffer block same is)) absent)

pub map_forgotten : (block : ℕ) (lasts : List (Option ℕ)) (buffer : ℕ) → last_in (map (forgotten block) lasts) buffer ≡ forgotten block (last_in lasts buffer)
map_forgotten block [] buffer = refl
map_forgotten block (last ∷ lasts) zero = refl
map_forgotten block (last ∷ lasts) (suc buffer) = map_forgotten block lasts buffer

forgotten-by : (written block : ℕ) (last : Option ℕ) → forgotten written last ≡ Some block → (block ≢ written) × (last ≡ Some block)
forgotten-by written block None is = cc
forgotten-by written block (Some other) is = by-test (λ test. (if test then None else Some other) ≡ Some block → (block ≢ written) × (Some other ≡ Some block)) (other == written) (λ yes same. cc) (λ no same. let value : other ≡ block = cc in (subst (λ b. b ≢ written) value (eqb-false other written no), same)) is

-- a block that is still held after a write is another one, and was held before
pub held-still : (written : ℕ) (lasts : List (Option ℕ)) (buffer block : ℕ) → last_in (map (forgotten written) lasts) buffer ≡ Some block → (block ≢ written) × (last_in lasts buffer ≡ Some block)
held-still written lasts buffer block is = forgotten-by written block (last_in lasts buffer) (sym (map_forgotten written lasts buffer) ∙ is)

-- another block stays through a write inside one block
gives-still : {T E : Type 0} (result : Result T E) (told now : Option (List ℕ)) (written at size block : ℕ) (from bytes : List ℕ) → Wrote result at from told now → HasRange told at (length from) → written * size ≤ at → at + length from ≤ written * size + size →
    block ≢ written → length bytes ≤ size → Gives told (block * size) bytes → Gives now (block * size) bytes
gives-still result told now written at size block from bytes wrote inside begins ends differ short given = ⊎_elim (λ is. absurd (differ is)) (λ apart_is. ⊎_elim
    (λ (less : block < written). Gives-Wrote_below result at from told now (block * size) bytes wrote inside (omega (arith, apart block written size less, begins, short)) given)
    (λ (more : written < block). Gives-Wrote_above result at from told now (block * size) bytes wrote inside (omega (arith, apart written block size more, ends)) given) apart_is) (cases_order block written)

-- the copies after a write inside one block
pub copies-written : {T E : Type 0} (result : Result T E) (told now : Option (List ℕ)) (written at size : ℕ) (from copies : List ℕ) (lasts shares : List (Option ℕ)) → Wrote result at from told now → HasRange told at (length from) → written * size ≤ at → at + length from ≤ written * size + size →
    AreCopies told copies lasts shares size → AreCopies now copies (map (forgotten written) lasts) shares size
copies-written result told now written at size from copies lasts shares wrote inside begins ends are = record {
  as_many = are.as_many ∙ ap (λ (n : ℕ). n * size) (sym (length-map lasts (forgotten written)));
  shares_too = are.shares_too ∙ sym (length-map lasts (forgotten written));
  agree = λ buffer block own.
      let was = held-still written lasts buffer block own.0 in
      gives-still result told now written at size block from (part copies (buffer * size) size) wrote inside begins ends was.0 (length-take_le size (drop (buffer * size) copies)) (are.agree buffer block (was.1, own.1));
}

-- and what is borrowed then
pub shared-written : {D T E : Type 0} (result : Result T E) (written : ℕ) (before now : Cache D) (lasts shares : List (Option ℕ)) → HeldWritten result written before now → AreShared before.held lasts shares → AreShared now.held (map (forgotten written) lasts) shares
shared-written (Ok value) written before now lasts shares held are buffer block is borrowed absent =
    are buffer block (held-still written lasts buffer block is).1 borrowed (subst (IsAbsent block) held absent)
shared-written (Err fault) written before now lasts shares held are buffer block is borrowed absent =
    let was = held-still written lasts buffer block is in are buffer block was.1 borrowed (absent-back written block before.held was.0 (subst (IsAbsent block) held absent))

-- what was written lies within the file, where the device tells
pub write-inside : (told : Option (List ℕ)) (block many size at count : ℕ) → block < many → HasRange told 0 (many * size) → block * size ≤ at → at + count ≤ block * size + size → HasRange told at count
write-inside None block many size at count less inside begins ends = tt
write-inside (Some bytes) block many size at count less inside begins ends = omega (arith, apart block many size less, inside, begins, ends)

-- each block of the file lies in it
pub in-file : (told : Option (List ℕ)) (block many size : ℕ) → block < many → HasRange told 0 (many * size) → many * size < 2 ^ 64 → IsInFile told block size
in-file told block many size less inside small = record {
  fits = omega (arith, apart block many size less, small);
  inside = write-inside told block many size (block * size) size less inside (omega arith) (omega arith);
}

lasts-set : (lasts : List (Option ℕ)) (buffer many : ℕ) (new : Option ℕ) → buffer < length lasts → ((block : ℕ) → new ≡ Some block → block < many) → ((other last : ℕ) → last_in lasts other ≡ Some last → last < many) → (other last : ℕ) → last_in (set lasts buffer new) other ≡ Some last → last < many
lasts-set lasts buffer many new within here are other last is = ⊎_elim
    (λ (same : other ≡ buffer). here last (sym (get_or-set_same lasts buffer new None within) ∙ subst (λ b. last_in (set lasts buffer new) b ≡ Some last) same is))
    (λ (differ : other ≢ buffer). are other last (sym (get_or-set_other lasts buffer other new None differ) ∙ is)) (cases_eq other buffer)

-- what is held after a buffer was turned to a block of the file, or was not, is a block of the file
pub lasts-turned : {T E : Type 0} (result : Result T E) (lasts now : List (Option ℕ)) (buffer block many : ℕ) → buffer < length lasts → block < many → OnOk result (now ≡ set lasts buffer (Some block)) → OnErr result (now ≡ set lasts buffer None) →
    ((other last : ℕ) → last_in lasts other ≡ Some last → last < many) → (other last : ℕ) → last_in now other ≡ Some last → last < many
lasts-turned (Ok value) lasts now buffer block many within less ok err are = rw ok (lasts-set lasts buffer many (Some block) within (λ other is. let same : other ≡ block = cc in omega (arith, same, less)) are)
lasts-turned (Err fault) lasts now buffer block many within less ok err are = rw err (lasts-set lasts buffer many None within (λ other is. absurd (cc)) are)

-- and after a block was written
pub lasts-written : (lasts : List (Option ℕ)) (written many : ℕ) → ((other last : ℕ) → last_in lasts other ≡ Some last → last < many) → (other last : ℕ) → last_in (map (forgotten written) lasts) other ≡ Some last → last < many
lasts-written lasts written many are other last is = are other last (held-still written lasts other last is).1

-- what is true of each stays true of it, by what is told, held and counted now
pub sound-after : {D : Type 0} (told now : Option (List ℕ)) (before after : Counts) (cache device : Cache D) (lasts held : List (Option ℕ)) (many : ℕ) (made : Made) → IsSound told before (record { cache = cache; lasts = lasts; many = many; made = made }) →
    HasRange now 0 (many * cache.size) → device.blocks ≡ cache.blocks → device.size ≡ cache.size → ((other last : ℕ) → last_in held other ≡ Some last → last < many) →
    Since many device.blocks device.held made after → IsSound now after (record { cache = device; lasts = held; many = many; made = made })
sound-after told now before after cache device lasts held many made sound inside blocks size are since = record {
  inside = subst (λ (n : ℕ). HasRange now 0 (many * n)) (sym size) inside;
  fits = subst (λ (n : ℕ). many * n < 2 ^ 64) (sym size) sound.fits;
  least = subst (λ (n : ℕ). 512 ≤ n) (sym size) sound.least;
  most = subst (λ (n : ℕ). n ≤ 65536) (sym size) sound.most;
  lasts_are = are;
  since = since;
}

-- what the cache holds after a write, carried out or not, are blocks of the file
pub held-written : {T E : Type 0} (result : Result T E) (many size at count : ℕ) (held now : List ℕ) → OnOk result (now ≡ held) → OnErr result (now ≡ untouched size at count held) → AreBlocks many held → AreBlocks many now
held-written (Ok value) many size at count held now ok err are = subst (λ bs. AreBlocks many bs) (sym ok) are
held-written (Err fault) many size at count held now ok err are =
    subst (λ bs. AreBlocks many bs) (sym err) (outside-blocks (at / size) (at / size + blocks_touched size at count) many held are)

-- a range inside one block touches that block alone
touches-one : (size block at count : ℕ) (held : List ℕ) → 0 < count → block * size ≤ at → at + count ≤ block * size + size → untouched size at count held ≡ without block held
touches-one size block at count held some begins ends =
    let into : ℕ = at - block * size in
    let place : at ≡ block * size + into = omega (arith, begins) in
    let first : at / size ≡ block = ap (λ (n : ℕ). n / size) place ∙ div-mul-add block size into (omega (arith, some, begins, ends)) in
    let whole : at / size * size ≡ block * size = ap (λ (n : ℕ). n * size) first in
    let rest : at % size + count - 1 < size = omega (arith, div-add-mod' at size, whole, some, begins, ends) in
    let none : (count == 0) ≡ false = grind (arith, nat_tests, some) in
    let touched : blocks_touched size at count ≡ (at % size + count - 1) / size + 1 = rw none refl in
    let one : blocks_touched size at count ≡ 1 = touched ∙ ap (λ (n : ℕ). n + 1) (div-eq_of_lt rest) in
    ap (λ (n : ℕ). outside n (n + blocks_touched size at count) held) first ∙ ap (λ (n : ℕ). outside block (block + n) held) one

-- what the cache holds after a write inside one block
pub held-after : {D T E : Type 0} (result : Result T E) (block at count : ℕ) (before now : Cache D) → 0 < count → block * before.size ≤ at → at + count ≤ block * before.size + before.size →
    OnOk result (now.held ≡ before.held) → OnErr result (now.held ≡ untouched before.size at count before.held) → HeldWritten result block before now
held-after (Ok value) block at count before now some begins ends ok err = ok
held-after (Err fault) block at count before now some begins ends ok err = err ∙ touches-one before.size block at count before.held some begins ends
