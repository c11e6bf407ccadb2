-- What the work of a level spends, and what it writes of its shadow.
use Rattle.std.proofs.Common.{◌≡◌, ◌⊎◌, inl, inr, ℕ, ◌+◌, ◌*◌, ◌/◌, ◌%◌, ◌^◌, ◌<◌, ◌≤◌, ◌||◌, nat_lt, Bool, true, false, Ok, refl, ap, sym, subst, ◌∙◌, arith}
use Rattle.std.proofs.lemmas.Bool.{leb-true, le-leb, eq-eqb, true≢false, ltb-true}
use Rattle.std.proofs.lemmas.Nat.{div_below}
use Rattle.cola_cell.specs.declared.sink.Shadow.{Shadow}
use Rattle.cola_cell.specs.Held.{Held, Fixed, span}
use Rattle.cola_cell.specs.Places.{slot_size}
use Rattle.cola_cell.specs.Spent.{Spent}
use Rattle.cola_cell.specs.State.{State}
use Rattle.cola_cell.specs.Shadows.{IsKept, Finishes, FinishSpends}
use Rattle.cola_merge.specs.declared.aims.Aim.{Aim}
use Rattle.cola_merge.specs.declared.merging.Merger.{Merger}
use Rattle.cola_merge.specs.Feeds.{feed_len}
use Rattle.cola_merge.specs.Heads.{consumed, IsReady, IsUsedUp}
use Rattle.cola_merge.specs.States.{IsSavedByBlocks, MergeState, len_of, WritesWithin, Spends, Grows}
use Rattle.cola_transfers.specs.Blocks.{IsWrittenDown}
use Rattle.cola_level.specs.Standing.{is_kept}
use Rattle.cola_level.specs.Built.{object_of}
use Rattle.cola_level.specs.Work.{sources, is_ended, SpendsFor, WritesDown}
use Rattle.cola_level.proofs.Finishing.{len_same}

-- ---- the end of a merge

all_met : (a b c x y z : ℕ) → x ≤ a → y ≤ b → z ≤ c → a + b + c ≤ x + y + z → (a ≤ x) × (b ≤ y) × (c ≤ z)
all_met a b c x y z h k l m = (omega (arith, h, k, l, m), omega (arith, h, k, l, m), omega (arith, h, k, l, m))

sum_met : (a b c x y z : ℕ) → a ≤ x → b ≤ y → c ≤ z → a + b + c ≤ x + y + z
sum_met a b c x y z h k l = omega (arith, h, k, l)

-- the test of the end tells that each source cell is consumed
pub ended_used : {held : Held} {aim : Aim} {n : Merger} → IsReady held aim n → is_ended aim n ≡ true → IsUsedUp aim n
ended_used {held} {aim} {n} r e =
    let k = all_met (feed_len aim.own) (feed_len aim.incoming) (feed_len aim.sample) n.own.at n.incoming.at n.sample.at r.own.within r.incoming.within r.sample.within (leb-true (sources aim) (consumed n) e) in
    record { own = k.0; incoming = k.1; sample = k.2 }

pub used_ended : {aim : Aim} {n : Merger} → IsUsedUp aim n → is_ended aim n ≡ true
used_ended {aim} {n} u =
    le-leb (sources aim) (consumed n) (sum_met (feed_len aim.own) (feed_len aim.incoming) (feed_len aim.sample) n.own.at n.incoming.at n.sample.at u.own u.incoming u.sample)

-- ---- what is spent

pub spends_for : {old new : Spent} {before after : ℕ} → Spends old new before after → after ≤ before + 59 → SpendsFor old new before after
spends_for s h = record {
  steps_stay = s.steps_stay;
  steps_rise = h;
  ticked_is = s.ticked_is;
  turned_stays = s.turned_stays;
  written_stays = s.written_stays;
  transfers = (let k = s.transfers in omega (arith, k));
  faults_stay = s.faults_stay;
}

pub spends_more : {level : ℕ} {old : Spent} {new last : State} {before after : ℕ} → Spends old new.spent before after → after ≤ before + 59 → FinishSpends new last level → SpendsFor old last.spent before after
spends_more {old = old} {new = new} {last = last} {before = before} {after = after} s h f = record {
  steps_stay = s.steps_stay;
  steps_rise = h;
  ticked_is = ticks old.ticked new.spent.ticked last.spent.ticked before after s.ticked_is f.writes.ticks_made;
  turned_stays = (let a = s.turned_stays in let b = f.writes.turned_is in omega (arith, a, b));
  written_stays = (let a = s.written_stays in let b = f.writes.written_stays in omega (arith, a, b));
  transfers = (let a = s.transfers in let b = f.writes.turned_is in let c = f.writes.written_rises in omega (arith, a, b, c));
  faults_stay = (let a = s.faults_stay in let b = f.writes.faults_stay in omega (arith, a, b));
}
  where
    ticks : (a b c m n : ℕ) → (b + m) % 2 ^ 64 ≡ (a + n) % 2 ^ 64 → c % 2 ^ 64 ≡ (b + 0) % 2 ^ 64 → (c + m) % 2 ^ 64 ≡ (a + n) % 2 ^ 64
    ticks a b c m n e f = omega (arith, e, f)

-- ---- kept shadows

or_cases : (a b : Bool) → (a || b) ≡ true → (a ≡ true) ⊎ (b ≡ true)
or_cases true b e = inl refl
or_cases false b e = inr e

or_left : (a b : Bool) → a ≡ true → (a || b) ≡ true
or_left true b e = refl
or_left false b e = absurd (true≢false (sym e))

or_right : (a b : Bool) → b ≡ true → (a || b) ≡ true
or_right true b e = refl
or_right false b e = e

pub saved_kept : (held : Held) (level : ℕ) → (held.shadows level).saved ≡ true → is_kept held level ≡ true
saved_kept held level e = or_left (held.shadows level).saved (nat_lt (slot_size level) (span held)) e

pub kept_is : (held : Held) (level : ℕ) → is_kept held level ≡ true → IsKept held level
kept_is held level e = record {
  is = elim (or_cases (held.shadows level).saved (nat_lt (slot_size level) (span held)) e) [
    | inl s ↦ inl s
    | inr l ↦ inr (ltb-true (slot_size level) (span held) l)
  ];
}

-- a shadow that stays as it was is kept as it was
pub kept_same : (old new : Held) (level : ℕ) → new.fixed ≡ old.fixed → new.shadows level ≡ old.shadows level → is_kept new level ≡ is_kept old level
kept_same old new level e f =
    ap (λ (x : Fixed). (new.shadows level).saved || nat_lt (slot_size level) (8 * 2 ^ x.doublings)) e
    ∙ ap (λ (x : Shadow). x.saved || nat_lt (slot_size level) (8 * 2 ^ old.fixed.doublings)) f

-- ---- what is written

small : (slot span old new before after : ℕ) → slot < span → new ≤ slot → after + old / span ≤ before + new / span → after ≤ before
small slot span old new before after h l w =
    let z : new / span < 1 = div_below new span 1 (omega (arith, h)) (omega (arith, h, l)) in omega (arith, z, w)

module _ (aim : Aim) (s t : MergeState) (grows : Grows s.held t.held aim.level) (by_blocks : IsSavedByBlocks s.held t.held aim.level)
    (written : WritesWithin aim s t) where
  still_kept : len_of aim t ≡ len_of aim s → is_kept s.held aim.level ≡ true → is_kept t.held aim.level ≡ true
  still_kept e k = kept_same s.held t.held aim.level grows.around.fixed_is (by_blocks.still e) ∙ k

  whole_kept : len_of aim s < len_of aim t → len_of aim t % span s.held ≡ 0 → is_kept t.held aim.level ≡ true
  whole_kept l z = saved_kept t.held aim.level (by_blocks.grew l ∙ eq-eqb (len_of aim t % span s.held) 0 z)

  -- steps that left source cells, and no finish
  pub written_down : (IsUsedUp aim t.merger → ⊥) → IsReady t.held aim t.merger → len_of aim t ≤ slot_size aim.level → WritesDown (object_of s) (object_of t) aim t.merger
  written_down left ready within = record {
    grows = grows.len_rises;
    small = λ h. small (slot_size aim.level) (span s.held) (len_of aim s) (len_of aim t) s.spent.written t.spent.written h within written;
    fills = λ e. written;
    finishes = omega (arith, written);
    still_kept = λ e k. written;
    whole = λ l z. written;
    kept_at_end = λ e. absurd (left (ended_used ready e));
    kept_whole = whole_kept;
    kept_still = still_kept;
  }

  module _ {A : Type 0} (new : State) (a : A) (f : Finishes {A = A} (object_of t) new aim.level (Ok a)) (w : FinishSpends (object_of t) new aim.level) where
    nothing : IsKept t.held aim.level → new.spent.written + len_of aim s / span s.held ≤ s.spent.written + len_of aim t / span s.held
    nothing k = let e = (w.only_needed k).written_is in omega (arith, e, written)

    small_kept : slot_size aim.level < span s.held → IsKept t.held aim.level
    small_kept h = record { is = inr (subst (λ (x : Fixed). slot_size aim.level < 8 * 2 ^ x.doublings) (sym grows.around.fixed_is) h) }

    saved_now : (new.held.shadows aim.level).saved ≡ true
    saved_now = ap (λ (x : Shadow). x.saved) f.shadow_is

    len_now : (new.held.shadows aim.level).len ≡ len_of aim t
    len_now = len_same (object_of t) new aim.level (Ok a) f

    -- steps that left no source cell, and the finish
    at_end : IsUsedUp aim t.merger → len_of aim t ≤ slot_size aim.level →
        IsWrittenDown (slot_size aim.level) (span s.held) (len_of aim s) (len_of aim t) (is_ended aim t.merger) (is_kept s.held aim.level) (is_kept new.held aim.level) s.spent.written new.spent.written
    at_end used within = record {
      grows = grows.len_rises;
      small = λ h. small (slot_size aim.level) (span s.held) (len_of aim s) (len_of aim t) s.spent.written new.spent.written h within (nothing (small_kept h));
      fills = λ e. absurd (true≢false (sym (used_ended used) ∙ e));
      finishes = (let r = w.writes.written_rises in omega (arith, written, r));
      still_kept = λ e k. nothing (kept_is t.held aim.level (still_kept e k));
      whole = λ l z. nothing (kept_is t.held aim.level (whole_kept l z));
      kept_at_end = λ e. saved_kept new.held aim.level saved_now;
      kept_whole = λ l z. saved_kept new.held aim.level saved_now;
      kept_still = λ e k. saved_kept new.held aim.level saved_now;
    }

    pub written_at_end : IsUsedUp aim t.merger → (new.held.shadows aim.level).len ≤ slot_size aim.level → WritesDown (object_of s) new aim t.merger
    written_at_end used within =
        subst (λ (x : ℕ). IsWrittenDown (slot_size aim.level) (span s.held) (len_of aim s) x (is_ended aim t.merger) (is_kept s.held aim.level) (is_kept new.held aim.level) s.spent.written new.spent.written) (sym len_now)
        (at_end used (let e = len_now in omega (arith, e, within)))
