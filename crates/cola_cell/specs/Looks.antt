-- What a call leaves that only looks at an object.
use Rattle.std.specs.Prelude.{◌≡◌, Result}
use Rattle.cola_cell.specs.declared.fault.ReadFault.{ReadFault}
use Rattle.cola_cell.specs.declared.source.CellSource.{Ghosts}
use Rattle.cola_cell.specs.Spent.{ReadCalm}

module _ {W : Type 0} (w : Ghosts W) (before now : W) where
  -- a call that only looks: the cells stay and what the object has beside its state, and no fault is counted unless the answer is the device's
  pub record OnlyLooks {A : Type 0} (result : Result A ReadFault) : Type 0 where
    pub cells_stay : (w.state now).held ≡ (w.state before).held
    pub kept : w.kept now ≡ w.kept before
    pub calm : ReadCalm (w.state before).spent.faults (w.state now).spent.faults result
