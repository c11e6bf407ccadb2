-- What follows from the clauses of a session over a file.
use Rattle.std.proofs.Common.{◌≡◌, ◌⊎◌, inl, inr, ℕ, zero, suc, ◌+◌, ◌≤◌, ◌<◌, Bool, true, false, ◌&&◌, if◌then◌else◌, List, [], ◌∷◌, ◌++◌, All, Option, Some, None, refl, ap, arith}
use Rattle.std.specs.List.{slice_index_or}
use Rattle.std.proofs.lemmas.Bool.{false≢true}
use Rattle.std.proofs.lemmas.List.Sums.{sum_by-cons}
use Rattle.cola_outside.specs.Faults.{Rose}
use Rattle.cola_spec.specs.Command.{Command, Put, PutIf, Del, Get, Stamp, Range, Scan, Count, Close, Reopen}
use Rattle.cola_spec.specs.Reply as reply
use Rattle.cola_spec.specs.Reply.{Reply}
use Rattle.cola_spec.specs.Machine.{Turn, Kind, PlainStep, FaultedStep, ShortStep, kind_of, faulted_one, faulted_steps, ticks_of}
use Rattle.cola_spec.specs.Bounds.{request_bound}
use Rattle.cola_spec.specs.Kinds.{requests_bound}
use Rattle.cola_spec.specs.Told.{is_costed, printed_cost}
use Rattle.cola_session.specs.Home.{FaultsOver, cut_by, cut_by_request, cut_after}
use Rattle.cola_session.specs.Ends.{Ill}
use Rattle.cola_command.specs.Headline.{EndsBy, asked, last_close}
use Rattle.cola_command_laws.specs.HeadlineLaws.{NoneFaulted, AreWithin, printed_sum, unprinted_bound}
use Rattle.cola_command.proofs.Carrying.{faulted-append}
use Rattle.cola_command.proofs.Rising.{by-count, faults-rise}

-- Faults

none-one : (kind : Kind) → faulted_one kind ≡ 0 → kind ≡ FaultedStep → ⊥
none-one PlainStep zero-is same = cc
none-one FaultedStep zero-is same = omega (arith, zero-is)
none-one ShortStep zero-is same = cc

none-steps : (turns : List Turn) → faulted_steps turns ≡ 0 → NoneFaulted turns
none-steps [] zero-is k d below = absurd (omega (arith, below))
none-steps (turn ∷ turns) zero-is zero d below = none-one (kind_of turn.answer) (omega (arith, zero-is))
none-steps (turn ∷ turns) zero-is (suc k) d below = none-steps turns (omega (arith, zero-is)) k d (omega (arith, below))

pub none-faulted : (turns : List Turn) (before now : ℕ) → FaultsOver turns before now → (Rose before now → ⊥) → NoneFaulted turns
none-faulted turns before now over calm = none-steps turns (by-count (faulted_steps turns) before now (faults-rise turns before now over) calm)

-- Bounds

module _ (levels : ℕ) where
  all-first : (turn : Turn) (turns : List Turn) → AreWithin levels (turn ∷ turns) → turn.ticks ≤ request_bound levels turn.request
  all-first turn turns within = within 0 turn (omega arith)

  all-rest : (turn : Turn) (turns : List Turn) → AreWithin levels (turn ∷ turns) → AreWithin levels turns
  all-rest turn turns within k d below = within (suc k) d (omega (arith, below))

  pub ticks-within : (turns : List Turn) → AreWithin levels turns → ticks_of turns ≤ requests_bound levels (asked turns)
  ticks-within [] within = omega arith
  ticks-within (turn ∷ turns) within = let first = all-first turn turns within in let rest = ticks-within turns (all-rest turn turns within) in omega (arith, first, rest)

  printed-least : (shown : Bool) (ticks : ℕ) → (if shown then ticks else 0) ≤ ticks
  printed-least true ticks = omega arith
  printed-least false ticks = omega arith

  pub printed-within : (cost : Bool) (turns : List Turn) → AreWithin levels turns → All (λ (turn : Turn). printed_cost cost turn ≤ request_bound levels turn.request) turns
  printed-within cost turns within k d below =
      let turn = slice_index_or turns k d in
      let least = printed-least (cost && is_costed turn.answer) turn.ticks in
      let bound = within k d below in
      omega (arith, least, bound)

  pub printed-at-most : (cost : Bool) (turns : List Turn) → printed_sum cost turns ≤ ticks_of turns
  printed-at-most cost [] = omega arith
  printed-at-most cost (turn ∷ turns) = let least = printed-least (cost && is_costed turn.answer) turn.ticks in let rest = printed-at-most cost turns in let whole : printed_sum cost (turn ∷ turns) ≡ printed_cost cost turn + printed_sum cost turns = sum_by-cons (printed_cost cost) turn turns in omega (arith, least, rest, whole)

  shown-or-bound : (shown : Bool) (ticks bound : ℕ) → ticks ≤ bound → ticks ≤ (if shown then ticks else 0) + (if shown then 0 else bound)
  shown-or-bound true ticks bound within = omega arith
  shown-or-bound false ticks bound within = omega (arith, within)

  pub printed-at-least : (cost : Bool) (turns : List Turn) → AreWithin levels turns → ticks_of turns ≤ printed_sum cost turns + unprinted_bound cost levels turns
  printed-at-least cost [] within = omega arith
  printed-at-least cost (turn ∷ turns) within =
      let first = shown-or-bound (cost && is_costed turn.answer) turn.ticks (request_bound levels turn.request) (all-first turn turns within) in
      let rest = printed-at-least cost turns (all-rest turn turns within) in
      let whole : printed_sum cost (turn ∷ turns) ≡ printed_cost cost turn + printed_sum cost turns = sum_by-cons (printed_cost cost) turn turns in
      let bounds : unprinted_bound cost levels (turn ∷ turns) ≡ (if cost && is_costed turn.answer then 0 else request_bound levels turn.request) + unprinted_bound cost levels turns = sum_by-cons (λ (one : Turn). if cost && is_costed one.answer then 0 else request_bound levels one.request) turn turns in
      omega (arith, first, rest, whole, bounds)

-- Openings that met a fault

cut-where : (answer : Reply) (cut : Bool) → cut_by answer cut ≡ true → (cut ≡ true) ⊎ (kind_of answer ≡ FaultedStep)
cut-where (reply.Put outcome) cut is = inl is
cut-where (reply.Deleted value) cut is = inl is
cut-where (reply.Got value) cut is = inl is
cut-where (reply.Stamped stamp) cut is = inl is
cut-where (reply.Rows rows) cut is = inl is
cut-where (reply.Cut rows failure) cut is = inl is
cut-where (reply.Counted keys) cut is = inl is
cut-where (reply.Failed reply.Fault) cut is = inr refl
cut-where (reply.Failed (reply.Damaged cell)) cut is = inl is
cut-where (reply.Failed (reply.Overfull level)) cut is = inl is
cut-where reply.Closed cut is = inl is
cut-where (reply.Opened keys) cut is = absurd (false≢true is)
cut-where (reply.Refused refusal) cut is = inl is
cut-where reply.Already cut is = inl is
cut-where reply.Shut cut is = inl is
cut-where reply.Bad cut is = inl is

cut-by-turn : (request : Option Command) (answer : Reply) (cut : Bool) → cut_by_request request answer cut ≡ true → (cut ≡ true) ⊎ (kind_of answer ≡ FaultedStep)
cut-by-turn None answer cut is = inl is
cut-by-turn (Some (Put key value)) answer cut is = inl is
cut-by-turn (Some (PutIf key seen value)) answer cut is = inl is
cut-by-turn (Some (Del key)) answer cut is = inl is
cut-by-turn (Some (Get key)) answer cut is = inl is
cut-by-turn (Some (Stamp key)) answer cut is = inl is
cut-by-turn (Some (Range low high)) answer cut is = inl is
cut-by-turn (Some (Scan low most)) answer cut is = inl is
cut-by-turn (Some Count) answer cut is = inl is
cut-by-turn (Some Close) answer cut is = inl is
cut-by-turn (Some Reopen) answer cut is = cut-where answer cut is

cut-counts : (turns : List Turn) (cut : Bool) → cut_after turns cut ≡ true → (cut ≡ true) ⊎ (0 < faulted_steps turns)
cut-counts [] cut is = inl is
cut-counts (turn ∷ turns) cut is = by-rest (cut-counts turns (cut_by_request turn.request turn.answer cut) is)
  where
    by-rest : (cut_by_request turn.request turn.answer cut ≡ true) ⊎ (0 < faulted_steps turns) → (cut ≡ true) ⊎ (0 < faulted_steps (turn ∷ turns))
    by-rest (inr some) = inr (omega (arith, some))
    by-rest (inl now) = by-turn (cut-by-turn turn.request turn.answer cut now)
      where
        by-turn : (cut ≡ true) ⊎ (kind_of turn.answer ≡ FaultedStep) → (cut ≡ true) ⊎ (0 < faulted_steps (turn ∷ turns))
        by-turn (inl before) = inl before
        by-turn (inr kind) = let one : faulted_one (kind_of turn.answer) ≡ 1 = ap faulted_one kind in inr (omega (arith, one))

pub ill-counts : (turns : List Turn) (answer : Reply) → EndsBy Ill turns answer → 0 < faulted_steps (turns ++ last_close answer ∷ [])
ill-counts turns answer (inl kind) = let one : faulted_one (kind_of answer) ≡ 1 = ap faulted_one kind in let whole = faulted-append turns (last_close answer ∷ []) in omega (arith, one, whole)
ill-counts turns answer (inr cut) = by-cut (cut-counts turns false cut)
  where
    by-cut : (false ≡ true) ⊎ (0 < faulted_steps turns) → 0 < faulted_steps (turns ++ last_close answer ∷ [])
    by-cut (inl never) = absurd (false≢true never)
    by-cut (inr some) = let whole = faulted-append turns (last_close answer ∷ []) in omega (arith, some, whole)
