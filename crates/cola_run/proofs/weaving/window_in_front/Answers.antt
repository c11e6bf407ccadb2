-- The cells of a run of the front lie in it.
use Rattle.std.proofs.Common.{◌≡◌, ◌+◌, ◌-◌, ◌^◌, ℕ, ap, sym, ◌∙◌, refl, arith}
use Rattle.cola_front.specs.Front.{cell_at}
use Rattle.cola_layout.proofs.Places.{front-below}
use Rattle.cola_layout.proofs.Powers.{next_power}
use Rattle.cola_run.proofs.weaving.window_in_front.Goals as goal

pub window-bytes-requires-clause-within : goal.window-bytes-requires-clause-within
window-bytes-requires-clause-within c =
    let b = c.args.geometry.now.block_exp in
    let run = c.args.reach.run in
    let there = c.requires.there in
    let slot = there.slot_in in
    let twice : 2 ^ (b + 1) ≡ 2 ^ b + 2 ^ b = next_power b (b + 1) (omega arith) in
    let block = c.requires.block in
    let number = c.place.ensures.value in
    omega (arith, front-below b run.level run.slot (run.len - 1) (omega (arith, slot)) (omega (arith, there.within, c.requires.some)) c.requires.level, twice, block, number, c.requires.some)

pub returns : goal.returns
returns c = record {
  size = c.window-bytes.ensures.size;
  shows = λ n h. ap (λ (p : ℕ). cell_at c.args.front.now (p + n)) (sym c.place.ensures.value) ∙ c.window-bytes.ensures.shown n h;
  last = refl;
}
