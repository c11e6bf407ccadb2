use Rattle.std.proofs.Common.{◌≡◌, ◌⊎◌, inl, inr, ℕ, ◌≤◌, false, List, [], ◌∷◌, ◌++◌, length, None, subst, arith}
use Rattle.std.specs.Prelude.{true, ◌^◌, ◌<◌}
use Rattle.cola_io.specs.Counted.{after_fault}
use Rattle.cola_io.specs.Law.{all_lines}
use Rattle.cola_io.specs.Reads.{Read, bytes_read, met_end, was_refused}
use Rattle.cola_io.specs.declared.source.Source as source
use Rattle.cola_io.specs.declared.sink.Sink as sink
use Rattle.cola_spec.specs.Lines.{Line}
use Rattle.cola_store.specs.declared.fault.OpenFault.{OpenFault}
use Rattle.cola_store.specs.declared.fault.OpenFault.TheVariants as fault
use Rattle.cola_session.specs.Ends.{Ending, Ill, SessionEnds, NotBegun, Status0, Status3, Status4, Status5, Status9}
use Rattle.cola_workload.specs.Refused.{refusal_status}
use Rattle.cola_session.specs.Reading.{ReadFor, AreFirstLines}
use Rattle.cola_command_laws.proofs.definition_laws.file_sessions_end.Goals as goal

not-four : (why : OpenFault) → 4 ≡ refusal_status why → ⊥
not-four fault.NotStore is = omega (arith, is)
not-four fault.NotClosed is = omega (arith, is)
not-four fault.Small is = omega (arith, is)
not-four fault.Device is = omega (arith, is)
not-four fault.OutOfMemory is = omega (arith, is)
not-four (fault.BadCell cell) is = omega (arith, is)

module _ {S K : Type 0} (g : source.Ghosts S) (h : sink.Ghosts K) (source source' : S) (sink sink' : K) (R : ℕ → Type 0) (B : Ending → List Line → Type 0) (F : List Line → Line → Type 0) where
  four : (R 4 → ⊥) → SessionEnds g h source source' sink sink' R B F 4
      → (reads : List Read) × ((before : List Line) × ((last : Line) × (AreFirstLines (before ++ last ∷ []) reads × (ReadFor g before source reads source' × ((was_refused reads ≡ false) × ((length (bytes_read reads) ≤ 2 ^ 40)
      × (F before last × ((g.faults source' ≡ g.faults source) × (h.faults sink' ≡ after_fault (h.faults sink))))))))))
  four never (NotBegun r) = absurd (never r)
  four never (Status0 is r) = absurd (omega (arith, is))
  four never (Status3 is r) = absurd (omega (arith, is))
  four never (Status4 is r) = (r.reads, (r.before, (r.last, (r.first, (r.read, (r.unrefused, (r.at_most, (r.carried, (r.source_faults, r.sink_faults)))))))))
  four never (Status5 is r) = absurd (omega (arith, is))
  four never (Status9 is r) = absurd (omega (arith, is))

  five : SessionEnds g h source source' sink sink' R B F 5
      → R 5 ⊎ ((reads : List Read) × (ReadFor g (all_lines (bytes_read reads)) source reads source' × ((met_end reads ≡ true) × ((length (bytes_read reads) < 2 ^ 40) × (B Ill (all_lines (bytes_read reads)) × ((g.faults source' ≡ g.faults source) × (h.faults sink' ≡ h.faults sink)))))))
  five (NotBegun r) = inl r
  five (Status0 is r) = absurd (omega (arith, is))
  five (Status3 is r) = absurd (omega (arith, is))
  five (Status4 is r) = absurd (omega (arith, is))
  five (Status5 is r) = inr (
    r.reads,
    (subst (λ (l : List Line). ReadFor g l source r.reads source') r.all r.read, (r.met_the_end, (r.fewer, (subst (λ (l : List Line). B Ill l) r.all r.carried, (r.source_faults, r.sink_faults))))),
  )
  five (Status9 is r) = absurd (omega (arith, is))

pub returns-clause-status_4 : goal.returns-clause-status_4
returns-clause-status_4 g c = λ cache steps steps' cost source source' sink sink' device device'. four g.S.Source g.K.Sink source source' sink sink' _ _ _ (λ r. not-four r.why r.status_is)

pub returns-clause-status_5 : goal.returns-clause-status_5
returns-clause-status_5 g c = λ cache steps steps' cost source source' sink sink' device device'. five g.S.Source g.K.Sink source source' sink sink' _ _ _

pub returns-clause-front : goal.returns-clause-front
returns-clause-front g c = λ cache steps steps' cost sink sink' device device' before last all. let some = all None tt in (some.turns, (some.answer, (some.carried, some.wrote)))

pub returns-clause-well : goal.returns-clause-well
returns-clause-well g c = λ cache steps steps' cost sink sink' device device' lines all. let one = all None tt in (one.turns, (one.answer, (one.carried, (one.wrote, one.ends))))

pub returns-clause-ill : goal.returns-clause-ill
returns-clause-ill g c = λ cache steps steps' cost sink sink' device device' lines all. let one = all None tt in (one.turns, (one.answer, (one.carried, (one.wrote, one.ends))))
