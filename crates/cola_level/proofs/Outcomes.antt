-- The work on a merge, by what its steps and its finish answered.
use Rattle.std.proofs.Common.{◌≡◌, Result, Ok, Err, ap, sym, subst}
use Rattle.cola_cell.specs.declared.fault.PushFault.{PushFault}
use Rattle.cola_cell.specs.declared.fault.StepFault.{StepFault}
use Rattle.cola_cell.specs.declared.sink.Shadow.{Shadow}
use Rattle.cola_cell.specs.Fault.{step_of_push}
use Rattle.cola_cell.specs.State.{State}
use Rattle.cola_cell.specs.Shadows.{Finishes, FinishSpends}
use Rattle.cola_merge.specs.declared.aims.Aim.{Aim}
use Rattle.cola_merge.specs.declared.aims.Progress.{Progress}
use Rattle.cola_merge.specs.declared.aims.Progress.TheVariants.{Done, More}
use Rattle.cola_merge.specs.States.{MergeState, state}
use Rattle.cola_level.specs.Built.{object_of, Stepped, Built}
use Rattle.cola_level.proofs.Stepping.{refused_as, accepted_as}
use Rattle.cola_level.proofs.Finishing.{finished}
use Rattle.cola_level.proofs.Writing.{spends_for, spends_more, written_down, written_at_end}

as_progress : (aim : Aim) (s t : MergeState) (progress other : Progress) → progress ≡ other → Stepped aim s t (Ok progress) → Stepped aim s t (Ok other)
as_progress aim s t progress other e k = subst (λ (x : Progress). Stepped aim s t (Ok x)) e k

module _ {A : Type 0} (aim : Aim) (s t : MergeState) where
  -- the steps were refused
  pub refused : (result : Result A StepFault) (fault : StepFault) → result ≡ Err fault → Stepped aim s t (Err fault) → Built aim s t result
  refused result fault e k =
      subst (λ (x : Result A StepFault). Built aim s t x) (sym e)
      (record { moves = refused_as k.moves; spends = spends_for k.spends k.ticks; saved = tt; written = tt })

  -- source cells are left
  pub left : (progress : Progress) (a : A) → progress ≡ More → Stepped aim s t (Ok progress) → Built aim s t (Ok a)
  left progress a e k = more (as_progress aim s t progress More e k)
    where
      more : Stepped aim s t (Ok More) → Built aim s t (Ok a)
      more k = record {
        moves = accepted_as k.moves;
        spends = spends_for k.spends k.ticks;
        saved = λ u. absurd (k.ends u);
        written = λ within. written_down aim s t k.moves.grows k.saved k.written k.ends k.moves.ready within;
      }

  module _ (new : State) (progress : Progress) (is_done : progress ≡ Done) (stepped : Stepped aim s t (Ok progress)) (w : FinishSpends (object_of t) new aim.level) where
    -- the finish was refused
    pub unfinished : (result : Result A StepFault) (fault : PushFault) → result ≡ Err (step_of_push fault) → Finishes {A = A} (object_of t) new aim.level (Err fault) →
        Built aim s (state new t.merger t.steps) result
    unfinished result fault e f =
        let done : Stepped aim s t (Ok Done) = as_progress aim s t progress Done is_done stepped in
        subst (λ (x : Result A StepFault). Built aim s (state new t.merger t.steps) x) (sym e)
        (record { moves = finished aim s t new (Err fault) f w done.moves; spends = spends_more done.spends done.ticks w; saved = tt; written = tt })

    -- and accepted
    pub ended : (a : A) → Finishes (object_of t) new aim.level (Ok a) → Built aim s (state new t.merger t.steps) (Ok a)
    ended a f =
        let done : Stepped aim s t (Ok Done) = as_progress aim s t progress Done is_done stepped in
        record {
          moves = finished aim s t new (Ok a) f w done.moves;
          spends = spends_more done.spends done.ticks w;
          saved = λ u. ap (λ (x : Shadow). x.saved) f.shadow_is;
          written = λ within. written_at_end aim s t done.moves.grows done.saved done.written new a f w done.ends within;
        }
