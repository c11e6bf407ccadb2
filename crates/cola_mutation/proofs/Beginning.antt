-- Levels that are read back from their marks.
use Rattle.std.proofs.Common.{◌≡◌, ℕ, suc, ◌+◌, ◌^◌, ◌<◌, ◌≤◌, Bool, true, false, List, [], ◌∷◌, length, refl, ap, sym, subst, ◌∙◌, arith}
use Rattle.cola_clock.specs.Clock.{period, is_odd, works, is_over}
use Rattle.cola_clock.specs.Marks.{Marks, AreCursorsAtRest, AreMarksInside, AreLevelMarks, AreAllMarks, AreChainMarks, sample_end}
use Rattle.cola_clock.proofs.Laws.{before_else}
use Rattle.cola_cell.specs.Held.{Held}
use Rattle.cola_cell.specs.Places.{slot_size}
use Rattle.cola_merge.specs.Heads.{head_at, fresh, IsReady}
use Rattle.cola_level.specs.Marks.{all_marks_of, level_with}
use Rattle.cola_level.specs.Aims.{aim_at}
use Rattle.cola_level.proofs.Sources.{sample_len}
use Rattle.cola_mutation.specs.Levels.{Fits, AreFit, IsChain, levels_with, ArePlaced}
use Rattle.cola_mutation.proofs.Readying.{first_fits, ready_fresh}

pub marks_back : (ms : List Marks) → all_marks_of (levels_with ms) ≡ ms
marks_back [] = refl
marks_back (m ∷ ms) = ap (λ (xs : List Marks). m ∷ xs) (marks_back ms)

length_with : (ms : List Marks) → length (levels_with ms) ≡ length ms
length_with [] = refl
length_with (m ∷ ms) = ap suc (length_with ms)

-- cursors at 0
fresh_with : (m : Marks) → AreCursorsAtRest m → (level_with m).merger ≡ fresh
fresh_with m r =
    ap (λ (n : ℕ). record { own = head_at n; incoming = head_at m.incoming; sample = head_at m.sampled }) r.own_rests
    ∙ ap (λ (n : ℕ). record { own = head_at 0; incoming = head_at n; sample = head_at m.sampled }) r.incoming_rests
    ∙ ap (λ (n : ℕ). record { own = head_at 0; incoming = head_at 0; sample = head_at n }) r.sampled_rests

at_rest : (t i above : ℕ) (m : Marks) (below : List Marks) (over : Bool) → is_over t (suc i) ≡ over → works t (suc i) ≡ false → AreLevelMarks 0 t (suc i) above m below → AreCursorsAtRest m
at_rest t i above m below true o w marks = marks.after o
at_rest t i above m below false o w marks = (marks.before (before_else t i w o)).at_rest

ready_with : {held : Held} (t i above : ℕ) (m : Marks) (below : List Marks) (due : ℕ) → AreMarksInside due above (sample_end (is_odd (period t (suc i))) below) m → IsReady held (aim_at t i m.visible above below) fresh →
    IsReady held (aim_at t i m.visible above below) (level_with m).merger
ready_with t i above m below due inside r = record {
  level_in = r.level_in;
  slot_is = r.slot_is;
  own_feed = r.own_feed;
  incoming_feed = r.incoming_feed;
  sample_feed = r.sample_feed;
  own_apart = r.own_apart;
  incoming_apart = r.incoming_apart;
  sample_apart = r.sample_apart;
  own = record { within = inside.own_within; cell = tt };
  incoming = record { within = inside.incoming_within; cell = tt };
  sample = record { within = subst (λ (n : ℕ). m.sampled ≤ n) (sym (sample_len t (suc i) below)) inside.sampled_within; cell = tt };
}

all_fit_new : (held : Held) (t i above : ℕ) (ms : List Marks) → AreAllMarks 0 t (suc i) above ms → ArePlaced held t (suc i) ms → above ≤ slot_size i → i + length ms < held.fixed.levels → AreFit held t i above (levels_with ms)
all_fit_new held t i above [] marks placed fits levels = tt
all_fit_new held t i above (m ∷ ms) marks placed fits levels = (
  subst (λ (below : List Marks). Fits held t i above (level_with m) below) (sym (marks_back ms)) (record {
    level_in = omega (arith, levels);
    shadow_is = sym placed.0;
    slot_is = placed.1;
    ready = λ w. ready_with t i above m ms _ (marks.0.inside (omega arith) w)
        (ready_fresh t i m.visible above ms (omega (arith, levels)) placed.1 marks.0.visible_fits fits (first_fits 0 t (suc i) m.visible held.fixed.levels ms (omega (arith, levels)) marks.1));
    rests = λ w. fresh_with m (at_rest t i above m ms (is_over t (suc i)) refl w marks.0);
  }),
  all_fit_new held t (suc i) m.visible ms marks.1 placed.2 marks.0.visible_fits (omega (arith, levels)),
)

pub new_chain : (held : Held) (t : ℕ) (ms : List Marks) → 2 ≤ length ms → length ms ≡ held.fixed.levels → t < 2 ^ length ms → AreChainMarks t ms → ArePlaced held t 0 ms → IsChain held t (levels_with ms)
new_chain held t [] many counted clock marks placed = absurd (omega (arith, many))
new_chain held t (m ∷ ms) many counted clock marks placed =
    let o = length_with ms in
    let idle = marks.0.first refl in
    record {
      many = omega (arith, many, o);
      counted = omega (arith, counted, o);
      clock_in = subst (λ (n : ℕ). t < 2 ^ suc n) (sym o) clock;
      fit = (
        record { empty = placed.0 ∙ idle.empty; slot_is = placed.1; merger = fresh_with m idle.at_rest },
        all_fit_new held t 0 m.visible ms marks.1 placed.2 marks.0.visible_fits (omega (arith, counted)),
      );
      marks = subst (λ (xs : List Marks). AreChainMarks t (m ∷ xs)) (sym (marks_back ms)) marks;
    }
