use Rattle.std.proofs.Common.{◌≡◌, ◌∙◌, ℕ, zero, suc, ◌*◌, ◌<◌, ◌≤◌, List, [], ◌∷◌, Option, Result, Ok, Err, length, arith, subst, refl, sym, ap}
use Rattle.std.specs.Prelude.{OnOk}
use Rattle.std.proofs.lemmas.List.{take_at}
use Rattle.cola_device.specs.Bytes.{HasRange}
use Rattle.cola_cache.specs.Order.{Frames, IsAbsent, blocks_of}
use Rattle.cola_cache.specs.Cache.{Agree, Cache, IsBlock, used}
use Rattle.cola_cache.proofs.OrderLemmas.{none-room}
use Rattle.cola_cache.proofs.CacheLemmas.{one-block}
use Rattle.cola_cache.proofs.cached.CachedDevice.read.Goals as goal

-- what frames hold agrees with what is told, by equal copies of equal size
agrees : (frames : Frames) (told told' : Option (List ℕ)) (copies copies' : List ℕ) (size size' : ℕ) → told' ≡ told → copies' ≡ copies → size' ≡ size
    → Agree told frames copies size → Agree told' frames copies' size'
agrees frames told told' copies copies' size size' e f h k = rw (e, f, h) k

-- what holds whatever the result is
on-ok : {T E : Type 0} (result : Result T E) (P : Type 0) → P → OnOk result P
on-ok (Ok value) P p = p
on-ok (Err fault) P p = tt

-- where there is no frame, none is used, and each block is absent
none-used : (count block : ℕ) (blocks : List ℕ) → (0 < count → ⊥) → length blocks ≤ count → blocks ≡ used count block blocks
none-used zero block [] none few = refl
none-used zero block (other ∷ others) none few = absurd (omega (arith, few))
none-used (suc count) block blocks none few = absurd (none (omega arith))

none-held : (count block : ℕ) (blocks : List ℕ) → (0 < count → ⊥) → length blocks ≤ count → IsAbsent block blocks
none-held count block [] none few = tt
none-held count block (other ∷ others) none few = absurd (none (omega (arith, few)))

pub one_block-requires : goal.one_block-requires
one_block-requires g c = c.self.invariant.2

pub read_block-requires-clause-some : goal.read_block-requires-clause-some
read_block-requires-clause-some g c = subst (λ (n : ℕ). 0 < n) c.count.ensures.is c.in-Some.ensures.some.1

pub read_block-requires-clause-whole : goal.read_block-requires-clause-whole
read_block-requires-clause-whole g c = c.in-Some.ensures.some.0.0 ∙ ap (λ (n : ℕ). c.in-Some.block * n) (sym c.in-Some.ensures.some.0.1)

pub read_block-requires-clause-size : goal.read_block-requires-clause-size
read_block-requires-clause-size g c = c.requires.block

pub read_block-requires-clause-room : goal.read_block-requires-clause-room
read_block-requires-clause-room g c =
    ap (λ (bytes : List ℕ). length bytes) c.deref_mut.ensures.value ∙ c.self.invariant.1 ∙ ap (λ (n : ℕ). length c.self.inside.order * n) (sym c.in-Some.ensures.some.0.1)

pub read_block-requires-clause-agree : goal.read_block-requires-clause-agree
read_block-requires-clause-agree g c =
    agrees c.self.inside.order (g.D.Device.bytes c.self.inside.device) (g.D.Device.bytes c.self.inside.device) c.self.inside.copies.items.items c.deref_mut.result.now c.self.inside.size (length c.args.into.now)
    refl c.deref_mut.ensures.value c.in-Some.ensures.some.0.1 c.self.invariant.0

pub read_block-requires-clause-inside : goal.read_block-requires-clause-inside
read_block-requires-clause-inside g c =
    subst (λ (cache : Cache g.row.D.Denot). HasRange (g.D.Device.bytes cache.device) c.args.at (length c.args.into.now)) (sym c.self.view_is) c.requires.inside

pub invariant_of-self : goal.invariant_of-self
invariant_of-self g c =
    let new = c.read_block.new in
    let copies = take_at new.copies _ c.self.inside.copies.items.len (c.read_block.ensures.room ∙ c.deref_mut.ensures.len) in (
      agrees new.order (g.D.Device.bytes new.device) (g.D.Device.bytes new.device) new.copies _ (length c.args.into.now) c.self.inside.size refl copies (sym c.in-Some.ensures.some.0.1) c.read_block.ensures.agree,
      ap (λ (bytes : List ℕ). length bytes) copies ∙ c.read_block.ensures.room ∙ ap (λ (bytes : List ℕ). length bytes) c.deref_mut.ensures.value ∙ c.self.invariant.1
          ∙ ap (λ (n : ℕ). n * c.self.inside.size) (sym c.read_block.ensures.count),
      c.self.invariant.2,
      c.self.invariant.3,
    )

pub invariant_of-self-in-None : goal.invariant_of-self-in-None
invariant_of-self-in-None g c = (
  agrees c.self.inside.order (g.D.Device.bytes c.self.inside.device) (g.D.Device.bytes c.read.new.self) c.self.inside.copies.items.items c.self.inside.copies.items.items c.self.inside.size c.self.inside.size
      c.read.ensures.bytes_stay refl refl c.self.invariant.0,
  c.self.invariant.1,
  c.self.invariant.2,
  c.self.invariant.3,
)

pub returns-in-Some-clause-given : goal.returns-in-Some-clause-given
returns-in-Some-clause-given g c = rw (← c.self.view_is) c.read_block.ensures.given

pub returns-in-Some-clause-bytes_stay : goal.returns-in-Some-clause-bytes_stay
returns-in-Some-clause-bytes_stay g c = rw (← c.self.view_is) c.read_block.ensures.bytes_stay

pub returns-in-Some-clause-kept : goal.returns-in-Some-clause-kept
returns-in-Some-clause-kept g c = rw (← c.self.view_is) c.read_block.ensures.kept

pub returns-in-Some-clause-counts : goal.returns-in-Some-clause-counts
returns-in-Some-clause-counts g c = rw (← c.self.view_is) c.read_block.ensures.counts

pub returns-in-Some-clause-settings : goal.returns-in-Some-clause-settings
returns-in-Some-clause-settings g c = rw (← c.self.view_is) (c.read_block.ensures.count, refl)

pub returns-in-Some-clause-err : goal.returns-in-Some-clause-err
returns-in-Some-clause-err g c = rw (← c.self.view_is) c.read_block.ensures.err

pub returns-in-None-clause-given : goal.returns-in-None-clause-given
returns-in-None-clause-given g c = rw (← c.self.view_is) c.read.ensures.given

pub returns-in-None-clause-bytes_stay : goal.returns-in-None-clause-bytes_stay
returns-in-None-clause-bytes_stay g c = rw (← c.self.view_is) c.read.ensures.bytes_stay

pub returns-in-None-clause-kept : goal.returns-in-None-clause-kept
returns-in-None-clause-kept g c = rw (← c.self.view_is) c.read.ensures.kept

pub returns-in-None-clause-counts : goal.returns-in-None-clause-counts
returns-in-None-clause-counts g c = rw (← c.self.view_is) c.read.ensures.counts

pub returns-in-None-clause-block : goal.returns-in-None-clause-block
returns-in-None-clause-block g c = λ block is.
    let this : IsBlock c.self.inside.size c.args.at (length c.args.into.now) block = rw (← c.self.view_is) at is in
    let none : 0 < length c.self.inside.order → ⊥ = λ some. c.in-None.ensures.none refl (subst (λ (n : ℕ). 0 < n) (sym c.count.ensures.is) some) block this in
    rw (← c.self.view_is) (on-ok c.read.result _ (none-used (length c.self.inside.order) block (blocks_of c.self.inside.order) none c.count.ensures.few))

pub returns-in-None-clause-hit : goal.returns-in-None-clause-hit
returns-in-None-clause-hit g c = λ block is present.
    let this : IsBlock c.self.inside.size c.args.at (length c.args.into.now) block = rw (← c.self.view_is) at is in
    let none : 0 < length c.self.inside.order → ⊥ = λ some. c.in-None.ensures.none refl (subst (λ (n : ℕ). 0 < n) (sym c.count.ensures.is) some) block this in
    absurd (present (rw (← c.self.view_is) (none-held (length c.self.inside.order) block (blocks_of c.self.inside.order) none c.count.ensures.few)))

pub returns-in-Some-clause-block : goal.returns-in-Some-clause-block
returns-in-Some-clause-block g c = λ block is.
    let found : c.in-Some.block ≡ block = one-block c.self.inside.size c.args.at (length c.args.into.now) c.in-Some.block block (omega (arith, c.self.invariant.2)) c.in-Some.ensures.some.0 (rw (← c.self.view_is) at is) in
    subst (λ (b : ℕ). OnOk c.read_block.result (blocks_of c.read_block.new.order ≡ used c.args.self.now.blocks b c.args.self.now.held)) found (rw (← c.self.view_is) c.read_block.ensures.ok)

pub returns-in-Some-clause-other : goal.returns-in-Some-clause-other
returns-in-Some-clause-other g c = λ none. absurd (none c.in-Some.block (rw (← c.self.view_is) c.in-Some.ensures.some.0))

pub returns-in-Some-clause-hit : goal.returns-in-Some-clause-hit
returns-in-Some-clause-hit g c = λ block is present.
    let found : c.in-Some.block ≡ block = one-block c.self.inside.size c.args.at (length c.args.into.now) c.in-Some.block block (omega (arith, c.self.invariant.2)) c.in-Some.ensures.some.0 (rw (← c.self.view_is) at is) in
    rw (← c.self.view_is) (c.read_block.ensures.hit (λ absent. present (subst (λ (b : ℕ). IsAbsent b c.args.self.now.held) found (rw (← c.self.view_is) absent))))

pub returns-in-Some-clause-reads : goal.returns-in-Some-clause-reads
returns-in-Some-clause-reads g c = λ block is room.
    let found : c.in-Some.block ≡ block = one-block c.self.inside.size c.args.at (length c.args.into.now) c.in-Some.block block (omega (arith, c.self.invariant.2)) c.in-Some.ensures.some.0 (rw (← c.self.view_is) at is) in
    rw (← c.self.view_is) (c.read_block.ensures.reads (λ absent. rw (← c.self.view_is) at (room (subst (λ (b : ℕ). IsAbsent b c.args.self.now.held) found (rw (← c.self.view_is) absent)))))

pub returns-in-None-clause-reads : goal.returns-in-None-clause-reads
returns-in-None-clause-reads g c = λ block is room.
    let this : IsBlock c.self.inside.size c.args.at (length c.args.into.now) block = rw (← c.self.view_is) at is in
    let free : IsAbsent block (blocks_of c.self.inside.order) → length (blocks_of c.self.inside.order) < length c.self.inside.order = rw (← c.self.view_is) at room in
    let none : 0 < length c.self.inside.order → ⊥ = λ some. c.in-None.ensures.none refl (omega (arith, some, c.count.ensures.is)) block this in
    absurd (none-room (length c.self.inside.order) block (blocks_of c.self.inside.order) c.count.ensures.few none free)
