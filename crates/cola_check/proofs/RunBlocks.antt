-- The blocks that passes over runs turn to.
use Rattle.std.proofs.Common.{◌≡◌, ℕ, suc, ◌+◌, ◌-◌, ◌*◌, ◌/◌, ◌^◌, ◌<◌, ◌≤◌, Bool, true, false, nat_lt, if◌then◌else◌, Option, None, Some, Result, Ok, OnOk, refl, sym, ap, subst, ◌∙◌, arith, ◌≢◌, inr, zero, List, [], ◌∷◌, ◌++◌}
use Rattle.std.proofs.Common.{length, take, get_or, IfErr, ltb-true, pow_pos}
use Rattle.cola_check.proofs.Common.{le-div, Cell, Reader, Own, Incoming, Run, ReadFault, Held, span, slot_size, Block, block_of, By, Buffer, Reads, State, Header, div-mono, sampled_block, read_left, run_left-next, Feed, Aim}
use Rattle.cola_check.proofs.Common.{Merger, Pulls, feed_of, IsOther, IsBeside, state, by_bool, on_ok_weaker, IfErr-weaker, cells_above, blocks_from, GoesOn, sample_from, SampleReadsOn, TurnsTo, run_blocks, run_blocks_or}
use Rattle.cola_check.proofs.Common.{level_blocks, blocks_above, all_blocks, run_in, Beside, Walk, ReadApart, BesideReadsOn, BesideBegan, walk_blocks, unbegun, ReadsOn, LevelRuns, LevelWalks, shadow_run, Each, BeginsLevel}
use Rattle.cola_check.proofs.Common.{PassesLevel, StandsAt, StandFrom, blocks_at, blocks_of, ReadsAt, ReadFrom, level_left, all_left, LevelReadsOn, AllReadOn, LevelBegan, PassCause, AtLevel, IsAway, IsSpread, FollowsBlocks}
use Rattle.cola_check.proofs.Common.{ComparesBlocks, merge_blocks, feed_blocks, aim_blocks, by_others}
use Rattle.std.proofs.Math.Nat.{div-mul-le_self, div-div-eq-div-mul}
use Rattle.cola_cell.specs.declared.cell.Reader.TheVariants.{Sample}
use Rattle.cola_merge.specs.Blocks.{is_last, groups, run_left, Lasts, feed_left}
use Rattle.cola_check.proofs.BadRuns.{some-cells}
use Rattle.cola_check.proofs.Levels.{taken_next, cause_later, sum_append}
use Rattle.cola_merge.specs.declared.aims.Feed.TheVariants as feed

-- ---- runs that are read in order

pub span-pos : (held : Held) → 0 < span held
span-pos held = let p = pow_pos held.fixed.doublings in omega (arith, p)

-- a read of the cell at an index takes as many blocks as it turns to
read-here : {old new : State} (reader : Reader) (run : Run) (cell : Cell) (at : ℕ) → Reads old new (By reader run.level) run.level run.slot at (Ok cell) → at < run.len → GoesOn old new reader run at at
read-here {old} {new} reader run cell at r h =
    let s : ℕ = span old.held in
    subst (λ (o : Held). new.spent.turned + blocks_from (record new { held = o }) reader run at ≤ old.spent.turned + blocks_from old reader run at) (sym r.cells_stay)
    (read_left s (old.spent.lasts (By reader run.level)) (new.spent.lasts (By reader run.level)) run s run.len at old.spent.turned new.spent.turned h r.turned_rises (λ e. (r.in_small e).turned_is)
    (λ b. let i = r.in_last b in (i.turned_is, i.last_is)) r.moves)

-- and goes on to the next one
pub read-goes : {old new : State} (reader : Reader) (run : Run) (cell : Cell) (at : ℕ) → Reads old new (By reader run.level) run.level run.slot at (Ok cell) → at < run.len → GoesOn old new reader run at (at + 1)
read-goes {old} {new} reader run cell at r h =
    let here : GoesOn old new reader run at at = read-here reader run cell at r h in
    let next = run_left-next (span new.held) (new.spent.lasts (By reader run.level)) run (span new.held) run.len at (span-pos new.held) h in
    omega (arith, here, next)

groups-most : (size at len : ℕ) → 0 < size → groups size at len ≤ len / size + 1
groups-most size at len p =
    let l = div-mono (len - 1) len size p (omega arith) in
    by_bool (λ b. (if b then (len - 1) / size - at / size + 1 else 0) ≤ len / size + 1) (omega (arith, l)) (omega arith) (nat_lt at len)

left-most : (s : ℕ) (last : Option Block) (run : Run) (size len at : ℕ) → 0 < size → run_left s last run size len at ≤ len / size + 1
left-most s last run size len at p =
    let m = groups-most size at len p in
    by_bool (λ b. (if b then 0 else groups size at len - (if is_last last run.level run.slot (at / size) then 1 else 0)) ≤ len / size + 1) (omega arith) (omega (arith, m)) (nat_lt (slot_size run.level) s)

-- a number where a test holds, which does not
pub none-by : (b : Bool) (g : ℕ) → (b ≡ true → ⊥) → (if b then g else 0) ≡ 0
none-by true g h = absurd (h refl)
none-by false g h = refl

groups-none : (size at len : ℕ) → len ≤ at → groups size at len ≡ 0
groups-none size at len h = none-by (nat_lt at len) ((len - 1) / size - at / size + 1) (λ e. let l : at < len = ltb-true at len e in omega (arith, l, h))

left-none : (s : ℕ) (last : Option Block) (run : Run) (size len at : ℕ) → len ≤ at → run_left s last run size len at ≡ 0
left-none s last run size len at h =
    let e = groups-none size at len h in
    by_bool (λ b. (if b then 0 else groups size at len - (if is_last last run.level run.slot (at / size) then 1 else 0)) ≡ 0) refl (omega (arith, e)) (nat_lt (slot_size run.level) s)

-- whatever was read last, and from whichever cell on, a run has no more blocks left than it fills
pub run-most : (object : State) (reader : Reader) (run : Run) (at : ℕ) → blocks_from object reader run at + 1 ≤ run_blocks object.held run
run-most object reader run at =
    let s : ℕ = span object.held in
    let m = left-most s (object.spent.lasts (By reader run.level)) run s run.len at (span-pos object.held) in
    omega (arith, m)

-- ---- the sample of a run, every eighth of its cells

-- whatever was read last, and from whichever key on, a sample has no more blocks left than its run fills
pub every-eighth : (object : State) (reader : Reader) (run : Run) (at : ℕ) →
    run_left (span object.held) (object.spent.lasts (By reader run.level)) run (2 ^ object.held.fixed.doublings) (run.len / 8) at ≤ run_blocks object.held run
every-eighth object reader run at =
    let d : ℕ = object.held.fixed.doublings in
    let m = left-most (span object.held) (object.spent.lasts (By reader run.level)) run (2 ^ d) (run.len / 8) at (pow_pos d) in
    let e : run.len / 8 / 2 ^ d ≡ run.len / (8 * 2 ^ d) = div-div-eq-div-mul run.len 8 (2 ^ d) in
    omega (arith, m, e)

pub sample-most : (object : State) (run : Option Run) (at : ℕ) → sample_from object run at ≤ run_blocks_or object.held run
sample-most object None at = omega arith
sample-most object (Some run) at = every-eighth object Sample run at

pub sample-reads : {old new : State} (run : Run) (cell : Cell) (at : ℕ) → Reads old new (By Sample run.level) run.level run.slot (8 * at + 7) (Ok cell) → at < run.len / 8 → SampleReadsOn old new (Some run) at (at + 1)
sample-reads {old} {new} run cell at r h =
    let d : ℕ = old.held.fixed.doublings in
    let s : ℕ = span old.held in
    let before : Option Block = old.spent.lasts (By Sample run.level) in
    let last : Option Block = new.spent.lasts (By Sample run.level) in
    let same : (8 * at + 7) / s ≡ at / 2 ^ d = sampled_block at d in
    let block : Some (block_of s run.level run.slot (8 * at + 7)) ≡ Some (record { level = run.level; slot = run.slot; number = at / 2 ^ d }) =
    ap (λ (n : ℕ). Some (record { level = run.level; slot = run.slot; number = n })) same in
    let here : new.spent.turned + run_left s last run (2 ^ d) (run.len / 8) at ≤ old.spent.turned + run_left s before run (2 ^ d) (run.len / 8) at =
    read_left s before last run (2 ^ d) (run.len / 8) at old.spent.turned new.spent.turned h r.turned_rises (λ e. (r.in_small e).turned_is)
    (λ b. let i = r.in_last (b ∙ sym block) in (i.turned_is, i.last_is)) (λ m. r.moves m ∙ block) in
    let next = run_left-next s last run (2 ^ d) (run.len / 8) at (pow_pos d) h in
    record {
      blocks = subst (λ (o : Held). new.spent.turned + sample_from (record new { held = o }) (Some run) (at + 1) ≤ old.spent.turned + sample_from old (Some run) at) (sym r.cells_stay) (omega (arith, here, next));
      own_stays = λ level. r.others_stay (By Own level) (λ e. cc);
    }

-- behind its last key nothing is left
pub sample-past : (object : State) (run : Run) (at : ℕ) → run.len / 8 ≤ at → SampleReadsOn object object (Some run) at (at + 1)
sample-past object run at h =
    let s : ℕ = span object.held in
    let d : ℕ = object.held.fixed.doublings in
    let e = left-none s (object.spent.lasts (By Sample run.level)) run (2 ^ d) (run.len / 8) at h in
    let f = left-none s (object.spent.lasts (By Sample run.level)) run (2 ^ d) (run.len / 8) (at + 1) (omega (arith, h)) in
    record { blocks = omega (arith, e, f); own_stays = λ level. refl }

-- a way from the first cell on, and one more block
pub goes-few : (old between : State) (reader : Reader) (run : Run) (at now : ℕ) → GoesOn old between reader run 0 at → now ≤ between.spent.turned + 1 → now ≤ old.spent.turned + run_blocks old.held run
goes-few old between reader run at now g h =
    let m = run-most old reader run 0 in
    omega (arith, g, h, m)

-- a reader has the same blocks left where the cells stay and its buffer has the block that it had
pub from-stays : (old new : State) (reader : Reader) (run : Run) (at : ℕ) → new.held ≡ old.held → new.spent.lasts (By reader run.level) ≡ old.spent.lasts (By reader run.level) →
    blocks_from new reader run at ≡ blocks_from old reader run at
from-stays old new reader run at stays e =
    ap (λ (o : Held). run_left (span o) (new.spent.lasts (By reader run.level)) run (span o) run.len at) stays
    ∙ ap (λ (last : Option Block). run_left (span old.held) last run (span old.held) run.len at) e

-- ---- a run, and the sample of the run below it

-- the blocks turned to, and those left of a run and of the sample of the run below it
abbrev pub both_left : State → Run → Option Run → ℕ → ℕ → ℕ
both_left object run below at looks = object.spent.turned + blocks_from object Own run at + sample_from object below looks

-- a cell of the run is read
pub own-read : {old new : State} (run : Run) (below : Option Run) (cell : Cell) (at looks : ℕ) → Reads old new (By Own run.level) run.level run.slot at (Ok cell) → at < run.len →
    both_left new run below (at + 1) looks ≤ both_left old run below at looks
own-read {old} {new} run below cell at looks r h =
    let goes = read-goes Own run cell at r h in
    let same = kept below in
    omega (arith, goes, same)
  where
    kept : (some : Option Run) → sample_from new some looks ≡ sample_from old some looks
    kept None = refl
    kept (Some next) = ap (λ (o : Held). run_left (span o) (new.spent.lasts (By Sample next.level)) next (2 ^ o.fixed.doublings) (next.len / 8) looks) r.cells_stay
        ∙ ap (λ (last : Option Block). run_left (span old.held) last next (2 ^ old.held.fixed.doublings) (next.len / 8) looks) (r.others_stay (By Sample next.level) (λ e. cc))

-- a key of the sample may be read
pub sample-read : {old new : State} (run : Run) (below : Option Run) (at from to more : ℕ) → new.held ≡ old.held → to ≡ from + more → SampleReadsOn old new below from (from + more) →
    both_left new run below at to ≤ both_left old run below at from
sample-read {old} {new} run below at from to more stays e r =
    let goes : new.spent.turned + sample_from new below to ≤ old.spent.turned + sample_from old below from = subst (λ (n : ℕ). new.spent.turned + sample_from new below n ≤ old.spent.turned + sample_from old below from) (sym e) r.blocks in
    let same = from-stays old new Own run at stays (r.own_stays run.level) in
    omega (arith, goes, same)

-- ---- sums over levels

div-sum : (x y s : ℕ) → 0 < s → x / s + y / s ≤ (x + y) / s
div-sum x y s p =
    let a : x / s * s ≤ x = div-mul-le_self x s in
    let b : y / s * s ≤ y = div-mul-le_self y s in
    let d : (x / s + y / s) * s ≡ x / s * s + y / s * s = grind arith in
    le-div (x / s + y / s) (x + y) s p (omega (arith, a, b, d))

sum-more : (x y z u w l : ℕ) → x + u ≤ w → y + z ≤ u → x + 4 * l + (y + 2 + (z + 2)) ≤ w + 4 * suc l
sum-more x y z u w l h k = omega (arith, h, k)

sum-less : (x y l b : ℕ) → x ≤ y → l ≤ b → x + 4 * suc l ≤ y + 4 * (b + 1)
sum-less x y l b h k = omega (arith, h, k)

module _ (header : Header) (held : Held) where
  -- one level more
  pub level-more : (level : ℕ) → blocks_above header held level + level_blocks header held level ≤ blocks_above header held (suc level)
  level-more level =
      let s : ℕ = span held in
      let one : ℕ = (run_in header level 0).len in
      let two : ℕ = (run_in header level 1).len in
      let above : ℕ = cells_above header level in
      sum-more (above / s) (one / s) (two / s) ((one + two) / s) ((above + (one + two)) / s) level (div-sum above (one + two) s (span-pos held)) (div-sum one two s (span-pos held))

  -- some levels have no more than all
  pub some-blocks : (level : ℕ) → level ≤ header.geometry.bottom → blocks_above header held (suc level) ≤ all_blocks header held
  some-blocks level low =
      let s : ℕ = span held in
      let most : ℕ = cells_above header (header.geometry.bottom + 1) in
      sum-less (cells_above header (suc level) / s) (most / s) level header.geometry.bottom (div-mono (cells_above header (suc level)) most s (span-pos held) (some-cells header level low)) low

-- the blocks of some levels, and then of one more
pub blocks-then : (header : Header) {held object : Held} (level old mid new : ℕ) → held ≡ object → mid ≤ old + blocks_above header object level → new ≤ mid + level_blocks header held level →
    new ≤ old + blocks_above header object (level + 1)
blocks-then header {held} {object} level old mid new e h k =
    let l : new ≤ mid + level_blocks header object level = subst (λ (x : Held). new ≤ mid + level_blocks header x level) e k in
    let more = level-more header object level in
    subst (λ (n : ℕ). new ≤ old + blocks_above header object n) (let e : suc level ≡ level + 1 = omega arith in e) (omega (arith, h, l, more))

-- and no more than those of all
pub blocks-within : (header : Header) {held object : Held} (level old mid new : ℕ) → level ≤ header.geometry.bottom → held ≡ object → mid ≤ old + blocks_above header object level →
    new ≤ mid + level_blocks header held level → new ≤ old + all_blocks header object
blocks-within header {held} {object} level old mid new low e h k =
    let l : new ≤ mid + level_blocks header object level = subst (λ (x : Held). new ≤ mid + level_blocks header x level) e k in
    let more = level-more header object level in
    let some = some-blocks header object level low in
    omega (arith, h, l, more, some)

-- ---- calls

-- a call turns to no more than one that turns to fewer blocks
pub turns-within : {T : Type 0} (old new : State) (few many : ℕ) (result : Result T ReadFault) → few ≤ many → OnOk result (TurnsTo old new few) → OnOk result (TurnsTo old new many)
turns-within old new few many result h = on_ok_weaker result (λ k. omega (arith, h, k))

-- one behind another, where the first keeps the cells
pub turns-then : {T : Type 0} (old between new : State) (few : ℕ) (more : Held → ℕ) (most : ℕ) (result : Result T ReadFault) → between.held ≡ old.held → TurnsTo old between few → few + more old.held ≤ most →
    OnOk result (TurnsTo between new (more between.held)) → OnOk result (TurnsTo old new most)
turns-then old between new few more most result stays h l = let e = ap more stays in on_ok_weaker result (λ k. omega (arith, h, l, k, e))

-- ---- one walk

-- behind a cell it has no more
walk-behind : (object : State) (walk behind : Walk) → behind.run ≡ walk.run → behind.reader ≡ walk.reader → behind.at ≡ walk.at + 1 → walk.at < walk.run.len → walk_blocks object behind ≤ walk_blocks object walk
walk-behind object walk behind run reader at h =
    let s : ℕ = span object.held in
    let next = run_left-next s (object.spent.lasts (By walk.reader walk.run.level)) walk.run s walk.run.len walk.at (span-pos object.held) h in
    let same : walk_blocks object behind ≡ blocks_from object walk.reader walk.run (walk.at + 1) =
    ap (λ (r : Run). blocks_from object behind.reader r behind.at) run ∙ ap (λ (r : Reader). blocks_from object r walk.run behind.at) reader ∙ ap (λ (n : ℕ). blocks_from object walk.reader walk.run n) at in
    omega (arith, next, same)

-- it passes a cell and reads the next one
pub reads-then : {old between new : State} {first walk behind last : Walk} → ReadsOn old between first walk → walk.run ≡ first.run → walk.reader ≡ first.reader →
    behind.run ≡ walk.run → behind.reader ≡ walk.reader → behind.at ≡ walk.at + 1 → walk.at < walk.run.len → ReadsOn between new behind last → ReadsOn old new first last
reads-then {between = between} {first = first} {walk = walk} {behind = behind} h run reader further by at within k = record {
  blocks =
      let z = walk-behind between walk behind further by at within in
      omega (arith, h.blocks, k.blocks, z);
  others_stay = λ other n.
      let e : By behind.reader behind.run.level ≡ By first.reader first.run.level = ap (λ (r : Reader). By r behind.run.level) (by ∙ reader) ∙ ap (λ (r : Run). By first.reader r.level) (further ∙ run) in
      k.others_stay other (λ same. n (same ∙ e)) ∙ h.others_stay other n;
}

-- a walk by another reader keeps its blocks
pub others-keep : {old new : State} {first last : Walk} → new.held ≡ old.held → ReadsOn old new first last → (walk : Walk) → walk.reader ≢ first.reader → walk_blocks new walk ≡ walk_blocks old walk
others-keep {old} {new} {first} stays h walk n = from-stays old new walk.reader walk.run walk.at stays (h.others_stay (By walk.reader walk.run.level) (λ e. n (let f : walk.reader ≡ first.reader = cc in f)))

-- a walk that has not begun has no more blocks than its run fills
pub unbegun-most : (object : State) (run : Run) (reader : Reader) → walk_blocks object (unbegun run reader) ≤ run_blocks object.held run
unbegun-most object run reader = let m = run-most object reader run 0 in omega (arith, m)

pub apart : {x y : Reader} (r s : Reader) → x ≡ r → y ≡ s → r ≢ s → x ≢ y
apart r s e f n same = n (sym e ∙ same ∙ f)

-- ---- three walks side by side

module _ {old one two new : State} (first : one.held ≡ old.held) (second : two.held ≡ one.held) (third : new.held ≡ two.held) where
  pub beside-began : {above own shadow : Run} (walks : Beside) → walks.above.reader ≡ Incoming → walks.own.reader ≡ Own → walks.shadow.reader ≡ Sample →
      ReadsOn old one (unbegun above Incoming) walks.above → ReadsOn one two (unbegun own Own) walks.own → ReadsOn two new (unbegun shadow Sample) walks.shadow → BesideBegan old new above own shadow walks
  beside-began {above} {own} {shadow} walks x y z h k l = record {
    apart = record { above = x; own = y; shadow = z };
    blocks =
        let p = others-keep second k walks.above (apart Incoming Own x refl (λ e. cc)) in
        let q = others-keep third l walks.above (apart Incoming Sample x refl (λ e. cc)) in
        let r = others-keep third l walks.own (apart Own Sample y refl (λ e. cc)) in
        let s = unbegun-most old above Incoming in
        let t = subst (λ (o : Held). walk_blocks one (unbegun own Own) ≤ run_blocks o own) first (unbegun-most one own Own) in
        let u = subst (λ (o : Held). walk_blocks two (unbegun shadow Sample) ≤ run_blocks o shadow) (second ∙ first) (unbegun-most two shadow Sample) in
        omega (arith, h.blocks, k.blocks, l.blocks, p, q, r, s, t, u);
  }

  pub beside-reads : (walks now : Beside) → ReadApart walks → now.above.reader ≡ walks.above.reader → now.own.reader ≡ walks.own.reader →
      ReadsOn old one walks.above now.above → ReadsOn one two walks.own now.own → ReadsOn two new walks.shadow now.shadow → BesideReadsOn old new walks now
  beside-reads walks now r above own h k l =
      let o = others-keep first h walks.own (apart Own Incoming r.own r.above (λ e. cc)) in
      let s = others-keep first h walks.shadow (apart Sample Incoming r.shadow r.above (λ e. cc)) in
      let t = others-keep second k walks.shadow (apart Sample Own r.shadow r.own (λ e. cc)) in
      let p = others-keep second k now.above (apart Incoming Own (above ∙ r.above) r.own (λ e. cc)) in
      let q = others-keep third l now.above (apart Incoming Sample (above ∙ r.above) r.shadow (λ e. cc)) in
      let u = others-keep third l now.own (apart Own Sample (own ∙ r.own) r.shadow (λ e. cc)) in
      record { blocks = omega (arith, h.blocks, k.blocks, l.blocks, o, s, t, p, q, u) }

-- walks that passed read by the readers that they had
pub apart-stays : {old new : Beside} → new.above.reader ≡ old.above.reader → new.own.reader ≡ old.own.reader → new.shadow.reader ≡ old.shadow.reader → ReadApart old → ReadApart new
apart-stays x y z r = record { above = x ∙ r.above; own = y ∙ r.own; shadow = z ∙ r.shadow }

-- ---- the two walks of a level

-- a read at this level leaves the buffers of another
elsewhere : {old new : State} {walk now : Walk} (n : ℕ) → walk.run.level ≡ n → ReadsOn old new walk now → (reader : Reader) (level : ℕ) → level ≢ n → new.spent.lasts (By reader level) ≡ old.spent.lasts (By reader level)
elsewhere {walk = walk} n at h reader level away = h.others_stay (By reader level) (λ e. away (let same : level ≡ walk.run.level = cc in same ∙ at))

module _ {old one new : State} (first : one.held ≡ old.held) (second : new.held ≡ one.held) (n : ℕ) where
  pub level-began : (level : LevelRuns) (walks : LevelWalks) → StandsAt n level → walks.visible.walk.reader ≡ Own →
      ReadsOn old one (unbegun level.visible Own) walks.visible.walk → ReadsOn one new (unbegun (shadow_run level) Incoming) walks.shadow.walk → LevelBegan old new n level walks
  level-began level walks at by h k = record {
    blocks =
        let p = others-keep second k walks.visible.walk (apart Own Incoming by refl (λ e. cc)) in
        let q = unbegun-most old level.visible Own in
        let r = subst (λ (o : Held). walk_blocks one (unbegun (shadow_run level) Incoming) ≤ run_blocks o (shadow_run level)) first (unbegun-most one (shadow_run level) Incoming) in
        omega (arith, h.blocks, k.blocks, p, q, r);
    others_stay = λ reader other away. elsewhere n at.shadow k reader other away ∙ elsewhere n at.visible h reader other away;
  }

  level-reads : (walks now : LevelWalks) → ReadsAt n walks → now.visible.walk.reader ≡ walks.visible.walk.reader → ReadsOn old one walks.visible.walk now.visible.walk →
      ReadsOn one new walks.shadow.walk now.shadow.walk → LevelReadsOn old new n walks now
  level-reads walks now at by h k = record {
    blocks =
        let p = others-keep first h walks.shadow.walk (apart Incoming Own at.shadow_by at.visible_by (λ e. cc)) in
        let q = others-keep second k now.visible.walk (apart Own Incoming (by ∙ at.visible_by) at.shadow_by (λ e. cc)) in
        omega (arith, h.blocks, k.blocks, p, q);
    others_stay = λ reader level away. elsewhere n at.shadow_at k reader level away ∙ elsewhere n at.visible_at h reader level away;
  }

pub levels-read : {T : Type 0} {old one : State} (new : State) (walks now : LevelWalks) (result : Result T ReadFault) → one.held ≡ old.held → new.held ≡ one.held → now.visible.walk.reader ≡ walks.visible.walk.reader →
    ReadsOn old one walks.visible.walk now.visible.walk → OnOk result (ReadsOn one new walks.shadow.walk now.shadow.walk) → OnOk result ((n : ℕ) → ReadsAt n walks → LevelReadsOn old new n walks now)
levels-read new walks now result first second by r = on_ok_weaker result (λ s n at. level-reads first second n walks now at by r s)

-- why the second of two passes was refused
pub second-cause : {T : Type 0} (held object : Held) (first second : Run) (before between now : ℕ) (result : Result T ReadFault) → held ≡ object → between ≡ before → IfErr result (PassCause held (second ∷ []) between now) →
    IfErr result (PassCause object (first ∷ second ∷ []) before now)
second-cause held object first second before between now result e c = IfErr-weaker result _ _ (λ fault. cause_later held object (second ∷ []) (first ∷ second ∷ []) before between now fault e c (λ n b. inr b))

-- a level that passed a key stands where it stood
pub reads-at_stays : {held : Held} {k : List ℕ} {n : ℕ} {old new : LevelWalks} → ReadsAt n old → PassesLevel held k old new → ReadsAt n new
reads-at_stays at p = record {
  visible_by = p.visible.passes.reader_is ∙ at.visible_by;
  visible_at = ap (λ (r : Run). r.level) p.visible.passes.run_is ∙ at.visible_at;
  shadow_by = p.shadow.passes.reader_is ∙ at.shadow_by;
  shadow_at = ap (λ (r : Run). r.level) p.shadow.passes.run_is ∙ at.shadow_at;
}

pub read-from_stays : (held : Held) (k : List ℕ) (n : ℕ) (olds news : List LevelWalks) → ReadFrom n olds → Each (PassesLevel held k) olds news → ReadFrom n news
read-from_stays held k n [] [] at p = tt
read-from_stays held k n (x ∷ olds) (y ∷ news) at p = (reads-at_stays at.0 p.0, read-from_stays held k (suc n) olds news at.1 p.1)
read-from_stays held k n _ _ at p = absurd p

-- ---- the walks of levels

-- a level has the same blocks left where the cells stay and its buffers have the blocks that they had
level-stays : (old new : State) (n : ℕ) (level : LevelWalks) → new.held ≡ old.held → ReadsAt n level → ((reader : Reader) → new.spent.lasts (By reader n) ≡ old.spent.lasts (By reader n)) → level_left new level ≡ level_left old level
level-stays old new n level stays at h =
    let v = level.visible.walk in
    let s = level.shadow.walk in
    let x = from-stays old new v.reader v.run v.at stays (subst (λ (l : ℕ). new.spent.lasts (By v.reader l) ≡ old.spent.lasts (By v.reader l)) (sym at.visible_at) (h v.reader)) in
    let y = from-stays old new s.reader s.run s.at stays (subst (λ (l : ℕ). new.spent.lasts (By s.reader l) ≡ old.spent.lasts (By s.reader l)) (sym at.shadow_at) (h s.reader)) in
    omega (arith, x, y)

-- and so have levels
left-stays : (old new : State) (n : ℕ) (levels : List LevelWalks) → new.held ≡ old.held → ReadFrom n levels →
    ((reader : Reader) (level : ℕ) → n ≤ level → level < n + length levels → new.spent.lasts (By reader level) ≡ old.spent.lasts (By reader level)) → all_left new levels ≡ all_left old levels
left-stays old new n [] stays at h = refl
left-stays old new n (x ∷ levels) stays at h =
    let y = level-stays old new n x stays at.0 (λ reader. h reader n (omega arith) (omega arith)) in
    let z = left-stays old new (suc n) levels stays at.1 (λ reader level low high. h reader level (omega (arith, low)) (omega (arith, high))) in
    omega (arith, y, z)

module _ (old one new : State) (first : one.held ≡ old.held) (second : new.held ≡ one.held) where
  all-reads : (n : ℕ) (walk now : LevelWalks) (walks nows : List LevelWalks) → ReadsAt n now → ReadFrom (suc n) walks → LevelReadsOn old one n walk now → AllReadOn one new (suc n) walks nows →
      AllReadOn old new n (walk ∷ walks) (now ∷ nows)
  all-reads n walk now walks nows at from h k = record {
    blocks =
        let i = h.blocks in
        let j = k.blocks in
        let p = left-stays old one (suc n) walks first from (λ reader level low high. h.others_stay reader level (omega (arith, low))) in
        let q = level-stays one new n now second at (λ reader. k.others_stay reader n (omega arith)) in
        omega (arith, i, j, p, q);
    others_stay = λ reader level low. k.others_stay reader level (omega (arith, low)) ∙ h.others_stay reader level (omega (arith, low));
  }

  pub alls-read : {T : Type 0} {held : Held} (k : List ℕ) (levels : List LevelWalks) (walk now : LevelWalks) (walks nows : List LevelWalks) (result : Result T ReadFault) → levels ≡ walk ∷ walks →
      PassesLevel held k walk now → ((n : ℕ) → ReadsAt n walk → LevelReadsOn old one n walk now) → OnOk result ((n : ℕ) → ReadFrom n walks → AllReadOn one new n walks nows) →
      OnOk result ((n : ℕ) → ReadFrom n levels → AllReadOn old new n levels (now ∷ nows))
  alls-read k levels walk now walks nows result is p r = on_ok_weaker result (λ s n from.
      let at = subst (ReadFrom n) is from in
      subst (λ (ls : List LevelWalks). AllReadOn old new n ls (now ∷ nows)) (sym is) (all-reads n walk now walks nows (reads-at_stays at.0 p) at.1 (r n at.0) (s (suc n) at.1)))

-- ---- walks that begin

pub read-from : (held : Held) (n : ℕ) (levels : List LevelRuns) (walks : List LevelWalks) → StandFrom n levels → Each (BeginsLevel held) levels walks → ReadFrom n walks
read-from held n [] [] at h = tt
read-from held n (l ∷ levels) (w ∷ walks) at h = (
  record {
    visible_by = h.0.visible.reader_is;
    visible_at = ap (λ (r : Run). r.level) h.0.visible.run_is ∙ at.0.visible;
    shadow_by = h.0.shadow.reader_is;
    shadow_at = ap (λ (r : Run). r.level) h.0.shadow.run_is ∙ at.0.shadow;
  },
  read-from held (suc n) levels walks at.1 h.1,
)
read-from held n _ _ at h = absurd h

stand-taken : (n i : ℕ) (levels : List LevelRuns) → StandFrom n levels → StandFrom n (take i levels)
stand-taken n (suc i) (l ∷ levels) at = (at.0, stand-taken (suc n) i levels at.1)
stand-taken n _ _ at = tt

pub stands-at : (n i : ℕ) (levels : List LevelRuns) (level : LevelRuns) → i < length levels → level ≡ get_or levels i level → StandFrom n levels → StandsAt (n + i) level
stands-at n i [] level l is at = absurd (omega (arith, l))
stands-at n zero (x ∷ levels) level l is at = subst (λ (m : ℕ). StandsAt m level) (let e : n ≡ n + 0 = omega arith in e) (subst (StandsAt n) (sym is) at.0)
stands-at n (suc i) (x ∷ levels) level l is at = subst (λ (m : ℕ). StandsAt m level) (let e : suc n + i ≡ n + suc i = omega arith in e) (stands-at (suc n) i levels level (omega (arith, l)) is at.1)

pub blocks-taken : (held : Held) (i : ℕ) (levels : List LevelRuns) → blocks_of held (take i levels) ≤ blocks_of held levels
blocks-taken held (suc i) (l ∷ levels) = let r = blocks-taken held i levels in omega (arith, r)
blocks-taken held _ _ = omega arith

-- one level more that was begun
pub began-one : (old between new : State) (levels : List LevelRuns) (begun now : List LevelWalks) (i : ℕ) (level : LevelRuns) (walks : LevelWalks) → between.held ≡ old.held → new.held ≡ between.held →
    StandFrom 0 levels → i < length levels → level ≡ get_or levels i level → length begun ≡ i → Each (BeginsLevel old.held) (take i levels) begun → now ≡ begun ++ walks ∷ [] → LevelBegan between new i level walks →
    between.spent.turned + all_left between begun ≤ old.spent.turned + blocks_of old.held (take i levels) → new.spent.turned + all_left new now ≤ old.spent.turned + blocks_of old.held (take (i + 1) levels)
began-one old between new levels begun now i level walks first second at l is many begins push h k =
    let w = subst (λ (o : Held). new.spent.turned + level_left new walks ≤ between.spent.turned + blocks_at o level) first h.blocks in
    let p = left-stays between new 0 begun second (read-from old.held 0 (take i levels) begun (stand-taken 0 i levels at) begins) (λ reader other low high. h.others_stay reader other (let z : other ≢ i = omega (arith, high, many) in z)) in
    let q = sum_append (all_left new) (level_left new) refl (λ y ys. refl) begun walks in
    let r = sum_append (blocks_of old.held) (blocks_at old.held) refl (λ y ys. refl) (take i levels) level in
    let s = ap (all_left new) push in
    let t = ap (blocks_of old.held) (taken_next levels i level l is) in
    omega (arith, w, p, q, r, s, t, k)

-- ---- feeds and buffers

at-level : (f : Feed) {P Q : ℕ → Type 0} → ((level : ℕ) → P level → Q level) → AtLevel f P → AtLevel f Q
at-level (feed.Run run) g p = g run.level p
at-level (feed.Sampled run) g p = g run.level p
at-level _ g p = tt

any-level : (f : Feed) {P : ℕ → Type 0} → ((level : ℕ) → P level) → AtLevel f P
any-level (feed.Run run) g = g run.level
any-level (feed.Sampled run) g = g run.level
any-level _ g = tt

-- where no cell of one feed's level is read of another, none of the other's is read of the first
away-both : (f g : Feed) → AtLevel f (λ level. IsAway level g) → AtLevel g (λ level. IsAway level f)
away-both (feed.Run run) g h = at-level g (λ other n e. n (sym e)) h
away-both (feed.Sampled run) g h = at-level g (λ other n e. n (sym e)) h
away-both _ g h = any-level g (λ level. tt)

other-reader : (r s : Reader) (f : Feed) (level : ℕ) → r ≢ s → IsOther s f (By r level)
other-reader r s (feed.Run run) level n = λ e. n (let same : r ≡ s = cc in same)
other-reader r s (feed.Sampled run) level n = λ e. n (let same : r ≡ s = cc in same)
other-reader r s _ level n = tt

other-level : (r s : Reader) (f : Feed) (level : ℕ) → IsAway level f → IsOther s f (By r level)
other-level r s (feed.Run run) level n = λ e. n (let same : level ≡ run.level = cc in same)
other-level r s (feed.Sampled run) level n = λ e. n (let same : level ≡ run.level = cc in same)
other-level r s _ level n = tt

-- a reader's buffer for a level that its feed is not read of is none of the merge's
beside : (aim : Aim) (reader : Reader) (level : ℕ) → IsAway level (feed_of aim reader) → IsBeside aim (By reader level)
beside aim Own level n = record { own = other-level Own Own aim.own level n; incoming = other-reader Own Incoming aim.incoming level (λ e. cc); sample = other-reader Own Sample aim.sample level (λ e. cc) }
beside aim Incoming level n = record { own = other-reader Incoming Own aim.own level (λ e. cc); incoming = other-level Incoming Incoming aim.incoming level n; sample = other-reader Incoming Sample aim.sample level (λ e. cc) }
beside aim Sample level n = record { own = other-reader Sample Own aim.own level (λ e. cc); incoming = other-reader Sample Incoming aim.incoming level (λ e. cc); sample = other-level Sample Sample aim.sample level n }

-- a feed has the same blocks left where its buffer has the block that it had
feed-stays : (d : ℕ) (x y : Lasts) (reader : Reader) (f : Feed) (at : ℕ) → AtLevel f (λ level. y (By reader level) ≡ x (By reader level)) → feed_left d y reader f at ≡ feed_left d x reader f at
feed-stays d x y reader (feed.Run run) at e = ap (λ (last : Option Block). run_left (8 * 2 ^ d) last run (8 * 2 ^ d) run.len at) e
feed-stays d x y reader (feed.Sampled run) at e = ap (λ (last : Option Block). run_left (8 * 2 ^ d) last run (2 ^ d) (run.len / 8) at) e
feed-stays d x y reader _ at e = refl

-- a merge has the same blocks left where the cells stay and its buffers have the blocks that they had
merge-stays : (aim : Aim) (old new : State) (m : Merger) → new.held ≡ old.held → AtLevel aim.own (λ level. new.spent.lasts (By Own level) ≡ old.spent.lasts (By Own level)) →
    AtLevel aim.incoming (λ level. new.spent.lasts (By Incoming level) ≡ old.spent.lasts (By Incoming level)) → AtLevel aim.sample (λ level. new.spent.lasts (By Sample level) ≡ old.spent.lasts (By Sample level)) →
    merge_blocks new aim m ≡ merge_blocks old aim m
merge-stays aim old new m stays own incoming sample =
    let d : ℕ = old.held.fixed.doublings in
    let w = ap (λ (o : Held). merge_blocks (record new { held = o }) aim m) stays in
    let x = feed-stays d old.spent.lasts new.spent.lasts Own aim.own m.own.at own in
    let y = feed-stays d old.spent.lasts new.spent.lasts Incoming aim.incoming m.incoming.at incoming in
    let z = feed-stays d old.spent.lasts new.spent.lasts Sample aim.sample m.sample.at sample in
    omega (arith, w, x, y, z)

-- a merge went on: the object turned to no more blocks than lie between, and no buffer changed but the merge's
pub record MergeReadsOn (aim : Aim) (old new : State) (m n : Merger) : Type 0 where
  pub stays : new.held ≡ old.held
  pub blocks : new.spent.turned + merge_blocks new aim n ≤ old.spent.turned + merge_blocks old aim m
  pub others_stay : (buffer : Buffer) → IsBeside aim buffer → new.spent.lasts buffer ≡ old.spent.lasts buffer

pub merge-reads : {aim : Aim} (old new : State) (m n : Merger) (i j : ℕ) (given : Option Cell) → Pulls aim (state old m i) (state new n j) (Ok given) → MergeReadsOn aim old new m n
merge-reads {aim} old new m n i j given p = record {
  stays = p.cells_stay;
  blocks = subst (λ (o : Held). new.spent.turned + merge_blocks (record new { held = o }) aim n ≤ old.spent.turned + merge_blocks old aim m) (sym p.cells_stay) p.turned;
  others_stay = p.lasts;
}

-- ---- two merges of one aim, the second by the other readers

-- while the first goes on, the second has the same blocks left
second-stays : {aim : Aim} (spread : IsSpread aim) {old new : State} {m n : Merger} (second : Merger) → MergeReadsOn aim old new m n → merge_blocks (by_others new) aim second ≡ merge_blocks (by_others old) aim second
second-stays {aim} spread {old} {new} second h =
    merge-stays aim (by_others old) (by_others new) second h.stays
    (at-level aim.own (λ level n. h.others_stay (By Incoming level) (beside aim Incoming level n)) spread.own_incoming)
    (at-level aim.incoming (λ level n. h.others_stay (By Sample level) (beside aim Sample level n)) spread.incoming_sample)
    (at-level aim.sample (λ level n. h.others_stay (By Own level) (beside aim Own level n)) spread.sample_own)

-- and the first, while the second goes on
first-stays : {aim : Aim} (spread : IsSpread aim) (old new : State) {m n : Merger} (first : Merger) → MergeReadsOn aim (by_others old) (by_others new) m n → merge_blocks new aim first ≡ merge_blocks old aim first
first-stays {aim} spread old new first h =
    merge-stays aim old new first h.stays
    (at-level aim.own (λ level n. h.others_stay (By Sample level) (beside aim Sample level n)) (away-both aim.sample aim.own spread.sample_own))
    (at-level aim.incoming (λ level n. h.others_stay (By Own level) (beside aim Own level n)) (away-both aim.own aim.incoming spread.own_incoming))
    (at-level aim.sample (λ level n. h.others_stay (By Incoming level) (beside aim Incoming level n)) (away-both aim.incoming aim.sample spread.incoming_sample))

-- both went on, and turned to no more blocks than lie between
pub record BothReadOn (aim : Aim) (old new : State) (first second now other : Merger) : Type 0 where
  pub blocks : new.spent.turned + merge_blocks new aim now + merge_blocks (by_others new) aim other ≤ old.spent.turned + merge_blocks old aim first + merge_blocks (by_others old) aim second

pub both-none : (aim : Aim) (object : State) (first second : Merger) → BothReadOn aim object object first second first second
both-none aim object first second = record { blocks = omega arith }

-- the first went on, or the first and then the second
module _ {aim : Aim} {old between : State} (one : State) {first second now next other : Merger} {j k : ℕ} {given : Option Cell} (spread : IsSpread aim) (h : BothReadOn aim old between first second now other)
    (p : Pulls aim (state between now j) (state one next k) (Ok given)) where
  first-on : BothReadOn aim old one first second next other
  first-on =
      let r = merge-reads between one now next j k given p in
      let y = second-stays spread other r in
      record { blocks = omega (arith, h.blocks, r.blocks, y) }

  pub both-on : (two : State) (last : Merger) (l : ℕ) (given : Option Cell) → Pulls aim (state (by_others one) other k) (state (by_others two) last l) (Ok given) → BothReadOn aim old two first second next last
  both-on two last l given q =
      let r = merge-reads (by_others one) (by_others two) other last k l given q in
      let y = first-stays spread one two next r in
      record { blocks = omega (arith, first-on.blocks, r.blocks, y) }

pub both-end : {aim : Aim} {old new : State} {first second now other : Merger} → BothReadOn aim old new first second now other → ComparesBlocks old new aim first second
both-end h = let w = h.blocks in omega (arith, w)

-- ---- a merge beside a run

-- both went on, the run by the reader of incoming cells
pub record AlongReadsOn (aim : Aim) (run : Run) (old new : State) (m n : Merger) (at : ℕ) : Type 0 where
  pub blocks : new.spent.turned + merge_blocks new aim n + blocks_from new Incoming run at ≤ old.spent.turned + merge_blocks old aim m + run_blocks old.held run

pub along-none : (aim : Aim) (run : Run) (object : State) (m : Merger) → AlongReadsOn aim run object object m m 0
along-none aim run object m = let l = run-most object Incoming run 0 in record { blocks = omega (arith, l) }

-- the merge went on, or the merge and then the run
module _ {aim : Aim} {run : Run} {old between : State} (one : State) {m n o : Merger} {j k at : ℕ} {given : Option Cell} (away : IsAway run.level aim.incoming) (h : AlongReadsOn aim run old between m n at)
    (p : Pulls aim (state between n j) (state one o k) (Ok given)) where
  pub merge-along : AlongReadsOn aim run old one m o at
  merge-along =
      let r = merge-reads between one n o j k given p in
      let y = from-stays between one Incoming run at r.stays (r.others_stay (By Incoming run.level) (beside aim Incoming run.level away)) in
      record { blocks = omega (arith, h.blocks, r.blocks, y) }

  pub run-along : {new : State} (cell : Cell) → Reads one new (By Incoming run.level) run.level run.slot at (Ok cell) → at < run.len → AlongReadsOn aim run old new m o (at + 1)
  run-along {new} cell r l =
      let x = read-goes Incoming run cell at r l in
      let y = merge-stays aim one new o r.cells_stay
      (any-level aim.own (λ level. r.others_stay (By Own level) (λ e. cc)))
      (at-level aim.incoming (λ level n. r.others_stay (By Incoming level) (λ e. n (let same : run.level ≡ level = cc in same))) away)
      (any-level aim.sample (λ level. r.others_stay (By Sample level) (λ e. cc))) in
      record { blocks = omega (arith, merge-along.blocks, x, y) }

pub along-ends : {aim : Aim} {run : Run} {old new : State} {m n : Merger} {at : ℕ} → AlongReadsOn aim run old new m n at → FollowsBlocks old new aim run m n
along-ends h = let w = h.blocks in omega (arith, w)

-- ---- a whole merge

feed-most : (object : State) (reader : Reader) (f : Feed) (at : ℕ) → feed_left object.held.fixed.doublings object.spent.lasts reader f at ≤ feed_blocks object.held f
feed-most object reader (feed.Run run) at = let l = run-most object reader run at in omega (arith, l)
feed-most object reader (feed.Sampled run) at = every-eighth object reader run at
feed-most object reader _ at = omega arith

-- whatever was read last, and from whichever cursors on, a merge has no more blocks left than its feeds fill
merge-most : (object : State) (aim : Aim) (m : Merger) → merge_blocks object aim m ≤ aim_blocks object.held aim
merge-most object aim m =
    let x = feed-most object Own aim.own m.own.at in
    let y = feed-most object Incoming aim.incoming m.incoming.at in
    let z = feed-most object Sample aim.sample m.sample.at in
    omega (arith, x, y, z)

-- ---- the test of a cut

module _ (old one : State) (aim : Aim) (run : Run) (m n : Merger) (follows : FollowsBlocks old one aim run m n) where
  -- the merge has not given the cells of the run
  pub cut-differs : TurnsTo old one (2 * aim_blocks old.held aim + run_blocks old.held run)
  cut-differs = let l = merge-most old aim m in omega (arith, follows, l)

  -- it has, and was compared with a second
  pub cut-compared : one.held ≡ old.held → (new : State) (second : Merger) (result : Result Bool ReadFault) → IsSpread aim → OnOk result (IsSpread aim → ComparesBlocks one new aim n second) →
      OnOk result (TurnsTo old new (2 * aim_blocks old.held aim + run_blocks old.held run))
  cut-compared stays new second result spread =
      let l = merge-most old aim m in
      let o = subst (λ (o : Held). merge_blocks (by_others one) aim second ≤ aim_blocks o aim) stays (merge-most (by_others one) aim second) in
      on_ok_weaker result (λ k. let h = k spread in omega (arith, follows, h, l, o))
