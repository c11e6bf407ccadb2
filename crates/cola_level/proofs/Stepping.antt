-- What the steps of one mutation say to the work of a level.
use Rattle.std.proofs.Common.{ℕ, ◌+◌, ◌≤◌, min, Result, Ok, Err, OnOk, IfErr, arith}
use Rattle.cola_cell.specs.declared.fault.StepFault.{StepFault}
use Rattle.cola_cell.specs.declared.fault.StepFault.TheVariants.{Device, BadCell, Overfull}
use Rattle.cola_cell.specs.Held.{Held}
use Rattle.cola_merge.specs.declared.aims.Aim.{Aim}
use Rattle.cola_merge.specs.declared.aims.Progress.{Progress}
use Rattle.cola_merge.specs.declared.aims.Progress.TheVariants.{Done, More}
use Rattle.cola_merge.specs.declared.merging.Merger.{Merger}
use Rattle.cola_merge.specs.Feeds.{feed_len}
use Rattle.cola_merge.specs.Heads.{consumed}
use Rattle.cola_merge.specs.States.{MergeState, StepCause}
use Rattle.cola_merge.specs.Advance as merge
use Rattle.cola_merge.specs.Advance.{Consumes, Gone, IsWhole, HasStepCause, IsDeviceFault}
use Rattle.cola_level.specs.Work.{Takes, GoesFurther, GoesOn, IsWholeAtEnd, IsCalm, IsDevice}
use Rattle.cola_level.specs.Built.{Moves, TellsEnd}

all_taken : (a b c x y z n : ℕ) → a ≤ x → b ≤ y → c ≤ z → min (a + b + c) n ≤ x + y + z
all_taken a b c x y z n h k l = omega (arith, h, k, l)

module _ (aim : Aim) (m n : Merger) where
  pub takes_of : (result : Result Progress StepFault) → Consumes aim m n 28 result → Takes aim m n result
  takes_of (Ok More) c = let e = c.0 in record { enough = omega (arith, e); rises = omega (arith, e); at_most = omega (arith, e) }
  takes_of (Ok Done) c = record {
    enough = all_taken (feed_len aim.own) (feed_len aim.incoming) (feed_len aim.sample) n.own.at n.incoming.at n.sample.at (consumed m + 28) c.2.own c.2.incoming c.2.sample;
    rises = c.0;
    at_most = c.1;
  }
  takes_of (Err fault) c = let h = c.0 in let k = c.1 in record { enough = omega (arith, h); rises = h; at_most = omega (arith, k) }

  pub ends_of : (result : Result Progress StepFault) → Consumes aim m n 28 result → TellsEnd aim n result
  ends_of (Ok More) c = c.1
  ends_of (Ok Done) c = c.2
  ends_of (Err fault) c = tt

  module _ (old new : Held) where
    further_of : (result : Result Progress StepFault) → merge.GoesFurther old new aim m n 28 result → GoesFurther old new aim m n result
    further_of (Ok progress) g = g
    further_of (Err fault) g = (g.0, (let h = g.1 in omega (arith, h)), g.2)

    pub goes_on_of : (result : Result Progress StepFault) → Gone old new aim m n 28 result → GoesOn old new aim m n result
    goes_on_of result g = record { going = g.going; own_stays = g.own_stays; incoming_stays = g.incoming_stays; keys_stay = g.keys_stay; further = further_of result g.further }

    pub whole_of : (result : Result Progress StepFault) → Consumes aim m n 28 result → IsWhole old new aim result → OnOk result (IsWholeAtEnd old new aim n)
    whole_of (Ok More) c w = λ u. absurd (c.1 u)
    whole_of (Ok Done) c w = λ u. w
    whole_of (Err fault) c w = tt

pub cause_of : (aim : Aim) (before : ℕ) (t : MergeState) (result : Result Progress StepFault) → HasStepCause aim before t result → IfErr result (StepCause aim before t)
cause_of aim before t (Ok progress) c = tt
cause_of aim before t (Err fault) c = c

pub calm_of : (before now : ℕ) (result : Result Progress StepFault) → merge.IsCalm before now result → IsCalm before now result
calm_of before now (Ok progress) c = c
calm_of before now (Err fault) c = c

pub only_of : (result : Result Progress StepFault) → IsDeviceFault result → IfErr result IsDevice
only_of (Ok progress) d = tt
only_of (Err Device) d = tt
only_of (Err (BadCell number)) d = absurd d
only_of (Err (Overfull level)) d = absurd d

-- what was refused, under another type of answers
pub refused_as : {A B : Type 0} {aim : Aim} {s t : MergeState} {fault : StepFault} → Moves {A = A} aim s t (Err fault) → Moves {A = B} aim s t (Err fault)
refused_as m = record {
  ready = m.ready;
  grows = m.grows;
  lasts = m.lasts;
  takes = record { enough = m.takes.enough; rises = m.takes.rises; at_most = m.takes.at_most };
  rises = m.rises;
  emits = m.emits;
  samples = m.samples;
  builds = m.builds;
  told = m.told;
  cut = λ going. let g = m.cut going in record { going = g.going; own_stays = g.own_stays; incoming_stays = g.incoming_stays; keys_stay = g.keys_stay; further = g.further };
  whole = m.whole;
  cause = m.cause;
  calm = m.calm;
  only = m.only;
  turned = m.turned;
}

-- what was accepted, with another answer
pub accepted_as : {A B : Type 0} {aim : Aim} {s t : MergeState} {a : A} {b : B} → Moves {A = A} aim s t (Ok a) → Moves {A = B} aim s t (Ok b)
accepted_as m = record {
  ready = m.ready;
  grows = m.grows;
  lasts = m.lasts;
  takes = record { enough = m.takes.enough; rises = m.takes.rises; at_most = m.takes.at_most };
  rises = m.rises;
  emits = m.emits;
  samples = m.samples;
  builds = m.builds;
  told = m.told;
  cut = λ going. let g = m.cut going in record { going = g.going; own_stays = g.own_stays; incoming_stays = g.incoming_stays; keys_stay = g.keys_stay; further = g.further };
  whole = m.whole;
  cause = m.cause;
  calm = m.calm;
  only = m.only;
  turned = m.turned;
}
