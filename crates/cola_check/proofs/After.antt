-- Tests after others.
use Rattle.std.proofs.Common.{◌≡◌, ℕ, List, [], ◌∷◌, ◌++◌, Option, None, Result, Ok, Err, IfOk, IfErr, subst}
use Rattle.cola_check.proofs.Common.{Rose, ReadFault, Device, BadCell, Held, IsTelling, State, Header, Flaw, Verdict, AreCellsTold, all_append, FindsCell, tested_by, FindsFlaw, FindsVerdict, TestCause, Tests}
use Rattle.cola_verdict.specs.declared.verdict.Flaw.TheVariants.{Cell}
use Rattle.cola_verdict.specs.Verdict.{Passes}

-- where some tests found nothing, the verdict by the tests behind them is that by these and those
pub goes-on : (header : Header) (old mid : Held) (before these : List Flaw) (found : Option Verdict) (result : Result Verdict ReadFault) → mid ≡ old → found ≡ None →
    FindsFlaw (tested_by header old) before these found → IfOk result (FindsVerdict (tested_by header mid) (before ++ these)) → IfOk result (FindsVerdict (tested_by header old) before)
goes-on header old mid before these found (Err fault) same none finds verdict = tt
goes-on header old mid before these found (Ok v) same none finds verdict = λ passed.
    let first : FindsFlaw (tested_by header old) before these None = subst (FindsFlaw (tested_by header old) before these) none finds in
    let last : FindsVerdict (tested_by header old) (before ++ these) v = subst (λ (h : Held). FindsVerdict (tested_by header h) (before ++ these) v) same verdict in
    last (all_append (Passes (tested_by header old)) before these passed (first passed))

-- the answer of all tests, where no cell of the runs is bad
pub of-runs : (header : Header) (old mid new : State) (found : Option (ℕ × ℕ)) (result : Result Verdict ReadFault) → mid.held ≡ old.held → mid.spent.faults ≡ old.spent.faults → found ≡ None →
    FindsCell header old.held found → IfOk result (FindsVerdict (tested_by header mid.held) (Cell ∷ [])) → IfErr result (TestCause header mid.held mid.spent.faults new.spent.faults) → Tests header old new result
of-runs header old mid new found (Ok v) same calm none cells verdict cause = λ tells.
    let told : IsTelling old.held → AreCellsTold (tested_by header old.held) = subst (FindsCell header old.held) none cells in
    let last : FindsVerdict (tested_by header old.held) (Cell ∷ []) v = subst (λ (h : Held). FindsVerdict (tested_by header h) (Cell ∷ []) v) same verdict in
    last (told tells, tt)
of-runs header old mid new found (Err Device) same calm none cells verdict cause = subst (λ (n : ℕ). Rose n new.spent.faults) calm cause
of-runs header old mid new found (Err (BadCell number)) same calm none cells verdict cause = λ tells.
    let told : IsTelling old.held → AreCellsTold (tested_by header old.held) = subst (FindsCell header old.held) none cells in
    let refused : AreCellsTold (tested_by header old.held) → ⊥ = subst (λ (h : Held). AreCellsTold (tested_by header h) → ⊥) same cause in
    refused (told tells)
