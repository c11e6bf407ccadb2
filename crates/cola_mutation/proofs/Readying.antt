-- Merges that may be called, since they have not begun.
use Rattle.std.proofs.Common.{◌≡◌, inl, inr, ℕ, suc, ◌+◌, ◌-◌, ◌<◌, ◌≤◌, Bool, true, false, cond, List, [], ◌∷◌, length, refl, ap, sym, subst, ◌∙◌, arith}
use Rattle.std.specs.Prelude.{⊤, slice_index_or}
use Rattle.cola_clock.specs.Clock.{period, is_odd, visible_slot}
use Rattle.cola_clock.specs.Marks.{Marks, AreAllMarks}
use Rattle.cola_clock.proofs.Wrap.{slot-of_parity}
use Rattle.cola_cell.specs.declared.cell.Cell.{Cell}
use Rattle.cola_cell.specs.Format.{CellFits}
use Rattle.cola_cell.specs.Held.{Held, Fixed}
use Rattle.cola_cell.specs.Places.{slot_size}
use Rattle.cola_merge.specs.declared.aims.Feed.{Feed}
use Rattle.cola_merge.specs.Feeds.{IsFeed}
use Rattle.cola_merge.specs.Heads.{fresh, fresh_head, IsHead, IsReady}
use Rattle.cola_level.specs.declared.level.Level.{Level}
use Rattle.cola_level.specs.Marks.{marks_of, all_marks_of}
use Rattle.cola_level.specs.Aims.{aim_at, top_at, sample_of}
use Rattle.cola_mutation.specs.Levels.{IsChain}
use Rattle.cola_mutation.specs.Standing.{first_marks}
use Rattle.cola_mutation.specs.Work.{Keeps, IsQuiet, HaveTurned}
use Rattle.cola_mutation.proofs.Advancing.{visible_apart}

parity_below : (b : Bool) (v : ℕ) → v ≡ cond b 1 0 → v < 2
parity_below true v e = omega (arith, e)
parity_below false v e = omega (arith, e)

pub slot_below : (t j : ℕ) → visible_slot t j < 2
slot_below t j = parity_below (is_odd (period t j)) (visible_slot t j) (slot-of_parity t j)

choice_below : (b : Bool) (v : ℕ) → v < 2 → cond b (1 - v) v < 2
choice_below true v h = omega (arith, h)
choice_below false v h = h

fresh_ready : (held : Held) (feed : Feed) → IsHead held feed fresh_head
fresh_ready held feed = record { within = omega arith; cell = tt }

choice_within : (b : Bool) (x y n : ℕ) → x ≤ n → y ≤ n → cond b x y ≤ n
choice_within true x y n p q = p
choice_within false x y n p q = q

-- the first of the levels behind one has runs within their slots
pub FirstFits : ℕ → ℕ → List Marks → Type 0
FirstFits levels j [] = ⊤
FirstFits levels j (next ∷ under) = (suc j < levels) × (next.visible ≤ slot_size (suc j)) × (next.shadow ≤ slot_size (suc j))

sample_feed : (fixed : Fixed) (t j : ℕ) (below : List Marks) → FirstFits fixed.levels j below → IsFeed fixed (sample_of t j below)
unfolding FirstFits
sample_feed fixed t j [] h = tt
sample_feed fixed t j (next ∷ under) h = record {
  level_in = h.0;
  slot_in = choice_below (is_odd (period t j)) (visible_slot t (suc j)) (slot_below t (suc j));
  within = choice_within (is_odd (period t j)) next.shadow next.visible (slot_size (suc j)) h.2 h.1;
}

sample_apart : (t j slot : ℕ) (below : List Marks) → Rattle.cola_merge.specs.Feeds.IsApart j slot (sample_of t j below)
sample_apart t j slot [] = tt
sample_apart t j slot (next ∷ under) = inl (λ e. let x : suc j ≡ j = e in omega (arith, x))

pub ready_fresh : {held : Held} (t i own above : ℕ) (below : List Marks) → suc i < held.fixed.levels → (held.shadows (suc i)).slot ≡ 1 - visible_slot t (suc i) → own ≤ slot_size (suc i) → above ≤ slot_size i →
    FirstFits held.fixed.levels (suc i) below → IsReady held (aim_at t i own above below) fresh
ready_fresh {held} t i own above below level slot fits above_fits first = record {
  level_in = level;
  slot_is = sym slot;
  own_feed = record { level_in = level; slot_in = slot_below t (suc i); within = fits };
  incoming_feed = record { level_in = omega (arith, level); slot_in = slot_below t i; within = above_fits };
  sample_feed = sample_feed held.fixed t (suc i) below first;
  own_apart = inr (λ e. visible_apart t (suc i) (1 - visible_slot t (suc i)) refl e);
  incoming_apart = inl (λ e. let x : i ≡ suc i = e in omega (arith, x));
  sample_apart = sample_apart t (suc i) (1 - visible_slot t (suc i)) below;
  own = fresh_ready held _;
  incoming = fresh_ready held _;
  sample = fresh_ready held _;
}

pub ready_top : {held : Held} (t own : ℕ) (c : Cell) (below : List Marks) → 0 < held.fixed.levels → (held.shadows 0).slot ≡ 1 - visible_slot t 0 → own ≤ slot_size 0 → CellFits held.fixed.format c →
    FirstFits held.fixed.levels 0 below → IsReady held (top_at t own c below) fresh
ready_top {held} t own c below level slot fits cell first = record {
  level_in = level;
  slot_is = sym slot;
  own_feed = record { level_in = level; slot_in = slot_below t 0; within = fits };
  incoming_feed = cell;
  sample_feed = sample_feed held.fixed t 0 below first;
  own_apart = inr (λ e. visible_apart t 0 (1 - visible_slot t 0) refl e);
  incoming_apart = tt;
  sample_apart = sample_apart t 0 (1 - visible_slot t 0) below;
  own = fresh_ready held _;
  incoming = fresh_ready held _;
  sample = fresh_ready held _;
}

-- the rules on marks say it of the first of the levels behind one
pub first_fits : (ahead t j above levels : ℕ) (below : List Marks) → j + length below < levels → AreAllMarks ahead t (suc j) above below → FirstFits levels j below
unfolding FirstFits
first_fits ahead t j above levels [] h marks = tt
first_fits ahead t j above levels (next ∷ under) h marks = (omega (arith, h), marks.0.visible_fits, marks.0.shadow_fits)

length_turned : (t i : ℕ) (ls ms : List Level) → HaveTurned t i ls ms → length (all_marks_of ms) ≡ length ls
length_turned t i [] [] h = refl
length_turned t i [] (m ∷ ms) h = absurd h
length_turned t i (l ∷ ls) [] h = absurd h
length_turned t i (l ∷ ls) (m ∷ ms) h = ap suc (length_turned t (suc i) ls ms h.1)

pub top_quiet : (t : ℕ) → IsQuiet t 0 0
top_quiet t = inl (omega arith)

-- level 0 may be built after the turns of the others
pub ready_after : {A : Type 0} {held mid : Held} (r : A) (ahead t : ℕ) (c : Cell) (top : Level) (below worked : List Level) → IsChain held t (top ∷ below) → CellFits held.fixed.format c →
    Keeps (IsQuiet t 0) held mid → HaveTurned t 0 below worked → AreAllMarks ahead t 1 top.visible (all_marks_of worked) → IsReady mid (top_at t top.visible c (all_marks_of worked)) fresh
ready_after {A} {held} {mid} r ahead t c top below worked chain fits keeps turned marks =
    let counted = chain.counted in
    let many = length_turned t 0 below worked turned in
    let levels : held.fixed.levels ≡ mid.fixed.levels = ap (λ (f : Fixed). f.levels) (sym keeps.fixed_is) in
    ready_top t top.visible c (all_marks_of worked) (omega (arith, counted, levels)) (keeps.slots_stay 0 ∙ chain.fit.0.slot_is) chain.marks.0.visible_fits
    (subst (λ (f : Fixed). CellFits f.format c) (sym keeps.fixed_is) fits)
    (first_fits ahead t 0 top.visible mid.fixed.levels (all_marks_of worked) (omega (arith, counted, levels, many)) marks)

-- the first of them is that at index 0
pub ready_first : {held : Held} (t own : ℕ) (c : Cell) (ms : List Level) (d : Level) → 0 < length ms → IsReady held (top_at t own c (all_marks_of ms)) fresh →
    IsReady held (top_at t own c (marks_of (slice_index_or ms 0 d) ∷ [])) fresh
ready_first t own c [] d h r = absurd (omega (arith, h))
ready_first t own c (m ∷ ms) d h r = r

pub first_at : (P : Marks → Type 0) (ms : List Level) (d : Level) → 0 < length ms → P (marks_of (slice_index_or ms 0 d)) → P (first_marks ms)
first_at P [] d h p = absurd (omega (arith, h))
first_at P (m ∷ ms) d h p = p

pub length_levels : (t i : ℕ) (ls ms : List Level) → HaveTurned t i ls ms → length ms ≡ length ls
length_levels t i [] [] h = refl
length_levels t i [] (m ∷ ms) h = absurd h
length_levels t i (l ∷ ls) [] h = absurd h
length_levels t i (l ∷ ls) (m ∷ ms) h = ap suc (length_levels t (suc i) ls ms h.1)
