-- Calls that only look at an object, one after another.
use Rattle.std.proofs.Common.{◌≡◌, ℕ, Result, Ok, Err, refl, sym, ap, subst, ◌∙◌}
use Rattle.std.specs.Bool.{⊤}
use Rattle.std.specs.Result.{IsErrAnd}
use Rattle.cola_cell.specs.declared.cell.Cell.{Cell}
use Rattle.cola_cell.specs.declared.fault.ReadFault.{ReadFault}
use Rattle.cola_cell.specs.declared.fault.ReadFault.TheVariants.{Device, BadCell}
use Rattle.cola_cell.specs.declared.source.CellSource.{Ghosts}
use Rattle.cola_cell.specs.Looks.{OnlyLooks}
use Rattle.cola_cell.specs.Reads.{Reads}
use Rattle.cola_cell.specs.Spent.{Buffer, ReadCalm}

-- an exit by `?`
pub err_is : {T E : Type 0} (result : Result T E) (fault : E) → IsErrAnd result (λ e. e ≡ fault) → result ≡ Err fault
err_is (Ok x) fault h = absurd h
err_is (Err e) fault h = ap Err h

-- accepted calls that only look
abbrev pub Looked : {W : Type 0} → Ghosts W → W → W → Type 0
Looked w before now = OnlyLooks w before now {A = ⊤} (Ok tt)

-- no call
pub looked_none : {W : Type 0} {w : Ghosts W} {now : W} → Looked w now now
looked_none = record { cells_stay = refl; kept = refl; calm = refl }

-- an accepted call, with another answer
pub looks_as : {W A B : Type 0} {w : Ghosts W} {before now : W} {a : A} {b : B} → OnlyLooks w before now (Ok a) → OnlyLooks w before now (Ok b)
looks_as h = record { cells_stay = h.cells_stay; kept = h.kept; calm = h.calm }

-- an accepted call after accepted ones
pub looks_then : {W A B : Type 0} {w : Ghosts W} {before mid now : W} {a : A} {b : B} → Looked w before mid → OnlyLooks w mid now (Ok a) → OnlyLooks w before now (Ok b)
looks_then h k = record { cells_stay = k.cells_stay ∙ h.cells_stay; kept = k.kept ∙ h.kept; calm = k.calm ∙ h.calm }

-- a refused call after accepted ones
pub looks_refused : {W A B : Type 0} {w : Ghosts W} {before mid now : W} (fault : ReadFault) (result : Result B ReadFault) →
    Looked w before mid → OnlyLooks w mid now {A = A} (Err fault) → result ≡ Err fault → OnlyLooks w before now result
looks_refused {A = A} {B} {w} {before} {mid} {now} fault result h k e =
    let E : Result B ReadFault → Type 0 = λ x. OnlyLooks w before now x in
    subst E (sym e) (record { cells_stay = k.cells_stay ∙ h.cells_stay; kept = k.kept ∙ h.kept; calm = calm_later fault k.calm })
  where
    calm_later : (fault : ReadFault) → ReadCalm {T = A} (w.state mid).spent.faults (w.state now).spent.faults (Err fault) →
        ReadCalm {T = B} (w.state before).spent.faults (w.state now).spent.faults (Err fault)
    calm_later Device calm = tt
    calm_later (BadCell number) calm = calm ∙ h.calm

-- a read
pub looks_read : {W : Type 0} {w : Ghosts W} {before now : W} {buffer : Buffer} {level slot index : ℕ} {result : Result Cell ReadFault} →
    w.kept now ≡ w.kept before → Reads (w.state before) (w.state now) buffer level slot index result → OnlyLooks w before now result
looks_read e r = record { cells_stay = r.cells_stay; kept = e; calm = r.calm }
