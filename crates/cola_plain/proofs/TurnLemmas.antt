-- Turns that are counted one after another.
use Rattle.std.proofs.Common.{ℕ, suc, ◌≡◌, ◌≤◌, ◌<◌, ◌+◌, ◌-◌, ◌^◌, sym, ◌∙◌, ap, List, ◌∷◌, length, get_or, drop, arith, add-one, drop-cons}
use Rattle.std.proofs.lemmas.List.{drop_all}
use Rattle.cola_spec.specs.Machine.{Kind, PlainStep, FaultedStep, ShortStep, faulted_one, faulted_steps, kind_of, ticks_of}
use Rattle.cola_plain.specs.declared.turn.Turn.{Turn}
use Rattle.cola_plain.specs.Reply.{reply_with}
use Rattle.cola_plain.specs.Turns.{turns_with}
use Rattle.cola_plain.proofs.BoundLemmas.{in_word}

next_turn : (ts : List Turn) (i : ℕ) (t : Turn) → i < length ts → t ≡ get_or ts i t → drop i ts ≡ t ∷ drop (i + 1) ts
next_turn ts i t within is = rw (add-one, drop-cons ts i t within) (ap (λ x. x ∷ drop (suc i) ts) (sym is))

pub at_most_one : (kind : Kind) → faulted_one kind ≤ 1
at_most_one PlainStep = omega arith
at_most_one FaultedStep = omega arith
at_most_one ShortStep = omega arith

moved : (a b c all : ℕ) → a + (b + c) ≡ all → (a + b) + c ≡ all
moved a b c all is = omega arith

-- the faulted steps so far, and those of the turns left, are all
pub steps_go_on : (ts : List Turn) (i : ℕ) (t : Turn) (steps : ℕ) → i < length ts → t ≡ get_or ts i t → steps + faulted_steps (turns_with (drop i ts)) ≡ faulted_steps (turns_with ts)
    → (steps + faulted_one (kind_of (reply_with t.answer))) + faulted_steps (turns_with (drop (i + 1) ts)) ≡ faulted_steps (turns_with ts)
steps_go_on ts i t steps within is so_far =
    moved steps (faulted_one (kind_of (reply_with t.answer))) (faulted_steps (turns_with (drop (i + 1) ts))) (faulted_steps (turns_with ts))
    (ap (λ rest. steps + faulted_steps (turns_with rest)) (sym (next_turn ts i t within is)) ∙ so_far)

nothing_added : (a b all : ℕ) → b ≡ 0 → a + b ≡ all → a ≡ all
nothing_added a b all none is = omega arith

pub steps_end : (ts : List Turn) (steps : ℕ) → steps + faulted_steps (turns_with (drop (length ts) ts)) ≡ faulted_steps (turns_with ts) → steps ≡ faulted_steps (turns_with ts)
steps_end ts steps so_far =
    nothing_added steps (faulted_steps (turns_with (drop (length ts) ts))) (faulted_steps (turns_with ts)) (ap (λ rest. faulted_steps (turns_with rest)) (drop_all (length ts) ts (omega arith))) so_far

moved_in_word : (a b c all : ℕ) → in_word (a + (b + c)) ≡ in_word all → in_word (in_word (a + b) + c) ≡ in_word all
moved_in_word a b c all is = omega arith

-- the cell accesses so far, and those of the turns left, are all, up to what 64 bits hold
pub ticks_go_on : (ts : List Turn) (i : ℕ) (t : Turn) (ticks : ℕ) → i < length ts → t ≡ get_or ts i t → in_word (ticks + ticks_of (turns_with (drop i ts))) ≡ in_word (ticks_of (turns_with ts))
    → in_word (in_word (ticks + t.ticks) + ticks_of (turns_with (drop (i + 1) ts))) ≡ in_word (ticks_of (turns_with ts))
ticks_go_on ts i t ticks within is so_far =
    moved_in_word ticks t.ticks (ticks_of (turns_with (drop (i + 1) ts))) (ticks_of (turns_with ts))
    (ap (λ rest. in_word (ticks + ticks_of (turns_with rest))) (sym (next_turn ts i t within is)) ∙ so_far)

nothing_added_in_word : (a b all : ℕ) → a ≤ 2 ^ 64 - 1 → b ≡ 0 → in_word (a + b) ≡ in_word all → a ≡ in_word all
nothing_added_in_word a b all small none is = omega arith

pub ticks_end : (ts : List Turn) (ticks : ℕ) → ticks ≤ 2 ^ 64 - 1 → in_word (ticks + ticks_of (turns_with (drop (length ts) ts))) ≡ in_word (ticks_of (turns_with ts)) → ticks ≡ in_word (ticks_of (turns_with ts))
ticks_end ts ticks small so_far =
    nothing_added_in_word ticks (ticks_of (turns_with (drop (length ts) ts))) (ticks_of (turns_with ts)) small (ap (λ rest. ticks_of (turns_with rest)) (drop_all (length ts) ts (omega arith))) so_far
