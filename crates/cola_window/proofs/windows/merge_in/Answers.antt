use Rattle.std.proofs.Common.{◌≡◌, ℕ, ◌+◌, ◌*◌, ◌≤◌, inl, inr, List, length, take, drop, Option, Some, None, refl, sym, subst, ap, ◌∙◌, arith}
use Rattle.cola_cell.specs.Format.{width}
use Rattle.cola_window.specs.declared.windows.Taken.{Taken}
use Rattle.cola_window.specs.Windows.{consumed, act_pass, bytes_of, Merged, Puts, emitted_of, pick, front_cell, taken_with}
use Rattle.cola_window.proofs.Going.{suits_picked, one_consumed}
use Rattle.cola_window.proofs.Merging.{Fronts, fronts_next, merged_next, merged_none, fronts_none, lefts_none}
use Rattle.cola_window.proofs.Stopping.{stops_unknown, stops_used_up, stops_behind}
use Rattle.cola_window.proofs.windows.merge_in.Goals as goal

pub loop-init : goal.loop-init
loop-init g c = record {
  fronts = fronts_none c.args.format (bytes_of c.args.windows) c.args.lasts (c.are_known.ensures.known c.if-not-are_known.false).own (c.are_known.ensures.known c.if-not-are_known.false).incoming (c.are_known.ensures.known c.if-not-are_known.false).sample;
  count = refl;
  merged = merged_none c.args.format c.args.rules c.args.base (bytes_of c.args.windows) c.args.lasts c.args.room.now;
}

pub loop-preserved : goal.loop-preserved
loop-preserved g c =
    let link : ℕ = c.args.base + 8 * c.loop.taken.sample in
    let at : c.loop.taken.pushed * c.width.result ≡ c.loop.taken.pushed * width c.args.format = ap (λ (n : ℕ). c.loop.taken.pushed * n) c.width.ensures in
    let fronts = fronts_next c.args.format (bytes_of c.args.windows) c.args.lasts c.loop.taken c.loop.left.own.now c.loop.left.incoming.now c.loop.left.sample.now
    c.behind-left.result.own.now c.behind-left.result.incoming.now c.behind-left.result.sample.now c.in-Some.act.head c.emit_front-is_emitted.result c.loop.invariant.fronts
    c.behind-left.ensures.own c.behind-left.ensures.incoming c.behind-left.ensures.sample (c.is_next_known.ensures.known c.if-not-is_next_known.false) in
    let merged = merged_next c.args.format c.args.rules c.args.base (bytes_of c.args.windows) c.args.lasts c.loop.left.own.now c.loop.left.incoming.now c.loop.left.sample.now c.loop.taken c.loop.invariant.fronts
    c.in-Some.act c.emit_front-is_emitted.result c.emit_front-is_emitted.new.room c.loop.room (c.in-Some.ensures.act link) (c.in-Some.ensures.suits link) c.emit_front-is_emitted.ensures.there
    (subst (λ (n : ℕ). take n c.emit_front-is_emitted.new.room ≡ take n c.loop.room) at c.emit_front-is_emitted.ensures.front)
    (subst (λ (n : ℕ). Puts c.args.format n (emitted_of (act_pass c.args.rules link c.in-Some.act) (pick c.in-Some.act.head (front_cell c.args.format c.loop.left.own.now) (front_cell c.args.format c.loop.left.incoming.now) (front_cell c.args.format c.loop.left.sample.now))) c.emit_front-is_emitted.new.room) at c.emit_front-is_emitted.ensures.puts)
    c.emit_front-is_emitted.ensures.size (c.has_place.ensures.place c.if-not-has_place.false) c.loop.invariant.merged in
    record {
      fronts = subst (λ (t : Taken). Fronts c.args.format (bytes_of c.args.windows) c.args.lasts t c.behind-left.result.own.now c.behind-left.result.incoming.now c.behind-left.result.sample.now) (sym c.counted-taken.ensures) fronts;
      count = ap consumed c.counted-taken.ensures ∙ one_consumed c.in-Some.act.head c.emit_front-is_emitted.result c.loop.taken ∙ ap (λ (n : ℕ). n + 1) c.loop.invariant.count;
      merged = subst (λ (t : Taken). Merged c.args.format c.args.rules c.args.base (bytes_of c.args.windows) c.args.lasts c.emit_front-is_emitted.new.room t) (sym c.counted-taken.ensures) merged;
    }

pub returns-then-not-is_next_known-clause-merged : goal.returns-then-not-is_next_known-clause-merged
returns-then-not-is_next_known-clause-merged g c =
    let link : ℕ = c.args.base + 8 * c.loop.taken.sample in
    let at : c.loop.taken.pushed * c.width.result ≡ c.loop.taken.pushed * width c.args.format = ap (λ (n : ℕ). c.loop.taken.pushed * n) c.width.ensures in
    let merged = merged_next c.args.format c.args.rules c.args.base (bytes_of c.args.windows) c.args.lasts c.loop.left.own.now c.loop.left.incoming.now c.loop.left.sample.now c.loop.taken c.loop.invariant.fronts
    c.in-Some.act c.emit_front-is_emitted.result c.emit_front-is_emitted.new.room c.loop.room (c.in-Some.ensures.act link) (c.in-Some.ensures.suits link) c.emit_front-is_emitted.ensures.there
    (subst (λ (n : ℕ). take n c.emit_front-is_emitted.new.room ≡ take n c.loop.room) at c.emit_front-is_emitted.ensures.front)
    (subst (λ (n : ℕ). Puts c.args.format n (emitted_of (act_pass c.args.rules link c.in-Some.act) (pick c.in-Some.act.head (front_cell c.args.format c.loop.left.own.now) (front_cell c.args.format c.loop.left.incoming.now) (front_cell c.args.format c.loop.left.sample.now))) c.emit_front-is_emitted.new.room) at c.emit_front-is_emitted.ensures.puts)
    c.emit_front-is_emitted.ensures.size (c.has_place.ensures.place c.if-not-has_place.false) c.loop.invariant.merged in
    subst (λ (t : Taken). Merged c.args.format c.args.rules c.args.base (bytes_of c.args.windows) c.args.lasts c.emit_front-is_emitted.new.room t) (sym c.counted-taken.ensures) merged

pub emit_front-is_emitted-requires-clause-suits : goal.emit_front-is_emitted-requires-clause-suits
emit_front-is_emitted-requires-clause-suits g c = c.in-Some.ensures.suits (c.args.base + 8 * c.loop.taken.sample)

pub behind-left-requires : goal.behind-left-requires
behind-left-requires g c =
    (suits_picked c.args.format (act_pass c.args.rules (c.args.base + 8 * c.loop.taken.sample) c.in-Some.act) c.in-Some.act.head c.loop.left.own.now c.loop.left.incoming.now c.loop.left.sample.now
    (c.in-Some.ensures.suits (c.args.base + 8 * c.loop.taken.sample))).0

pub returns-then-not-is_next_known-clause-few : goal.returns-then-not-is_next_known-clause-few
returns-then-not-is_next_known-clause-few g c =
    let e = ap consumed c.counted-taken.ensures ∙ one_consumed c.in-Some.act.head c.emit_front-is_emitted.result c.loop.taken ∙ ap (λ (n : ℕ). n + 1) c.loop.invariant.count in
    let l = c.loop-test.true in
    omega (arith, e, l)

-- ---- why no more steps are taken

pub returns-then-not-are_known-clause-stops : goal.returns-then-not-are_known-clause-stops
returns-then-not-are_known-clause-stops g c =
    stops_unknown c.args.format (bytes_of c.args.windows) c.args.lasts c.args.room.now (record { own = 0; incoming = 0; sample = 0; pushed = 0 }) c.args.quota
    c.args.windows.own.now c.args.windows.incoming.now c.args.windows.sample.now (lefts_none c.args.format (bytes_of c.args.windows)) (c.are_known.ensures.unknown c.if-not-are_known.true)

pub returns-then-not-has_place-clause-stops : goal.returns-then-not-has_place-clause-stops
returns-then-not-has_place-clause-stops g c = inr (inl (c.has_place.ensures.full c.if-not-has_place.true))

pub returns-in_default-clause-stops : goal.returns-in_default-clause-stops
returns-in_default-clause-stops g c =
    let link : ℕ = c.args.base + 8 * c.loop.taken.sample in
    stops_used_up c.args.format c.args.rules link (bytes_of c.args.windows) c.args.lasts c.loop.room c.loop.taken c.args.quota
    c.loop.left.own.now c.loop.left.incoming.now c.loop.left.sample.now c.loop.invariant.fronts (c.in_default.ensures.act link)

pub returns-then-not-is_next_known-clause-stops : goal.returns-then-not-is_next_known-clause-stops
returns-then-not-is_next_known-clause-stops g c =
    stops_behind c.args.format (bytes_of c.args.windows) c.args.lasts c.emit_front-is_emitted.new.room c.loop.taken c.counted-taken.result c.args.quota
    c.loop.left.own.now c.loop.left.incoming.now c.loop.left.sample.now c.behind-left.result.own.now c.behind-left.result.incoming.now c.behind-left.result.sample.now
    c.in-Some.act.head c.emit_front-is_emitted.result c.loop.invariant.fronts
    c.behind-left.ensures.own c.behind-left.ensures.incoming c.behind-left.ensures.sample (c.is_next_known.ensures.unknown c.if-not-is_next_known.true) c.counted-taken.ensures

pub returns-clause-stops : goal.returns-clause-stops
returns-clause-stops g c = inl (c.loop.invariant.count ∙ (let z : c.loop.counter ≡ c.args.quota = omega (arith, c.loop-test.false, c.loop.auto.counter-end) in z))
