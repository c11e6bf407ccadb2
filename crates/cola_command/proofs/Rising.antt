-- How often the count of faults rose over turns.
use Rattle.std.proofs.Common.{◌≡◌, ℕ, zero, suc, ◌+◌, List, [], ◌∷◌, refl, arith}
use Rattle.cola_outside.specs.Faults.{Rose, RoseBy}
use Rattle.cola_spec.specs.Machine.{Turn, Kind, PlainStep, FaultedStep, ShortStep, kind_of, faulted_one, faulted_steps}
use Rattle.cola_line.specs.Replied.{KindFaults}
use Rattle.cola_session.specs.Home.{FaultsOver}

one-rise : (kind : Kind) (more a b c : ℕ) → KindFaults kind a b → RoseBy more b c → RoseBy (faulted_one kind + more) a c
one-rise PlainStep more a b c one rest = omega (arith, one, rest)
one-rise FaultedStep more a b c one rest = omega (arith, one, rest)
one-rise ShortStep more a b c one rest = omega (arith, one, rest)

pub faults-rise : (turns : List Turn) (before now : ℕ) → FaultsOver turns before now → RoseBy (faulted_steps turns) before now
faults-rise [] before now same = omega (arith, same)
faults-rise (turn ∷ turns) before now (between, (one, rest)) = one-rise (kind_of turn.answer) (faulted_steps turns) before between now one (faults-rise turns between now rest)

pub by-count : (steps before now : ℕ) → RoseBy steps before now → (Rose before now → ⊥) → steps ≡ 0
by-count zero before now rose calm = refl
by-count (suc steps) before now rose calm = absurd (calm (omega (arith, rose)))
