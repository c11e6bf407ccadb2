use Rattle.std.proofs.Common.{◌≡◌, ◌⊎◌, inl, inr, Result, Ok, Err, sym, subst}
use Rattle.cola_device.specs.declared.device.Device as device
use Rattle.cola_store.specs.Close.{IsClosed, StillOwes}
use Rattle.cola_store.specs.Sessions.{ClosesStore, IsStoreClosed, IsStoreOwed}
use Rattle.cola_store.specs.Store.{Stored}
use Rattle.cola_store.specs.declared.closing.Closing.{Closing}
use Rattle.cola_workload.specs.Workload.{ClosesAgain, device_after}
use Rattle.cola_workload.proofs.laws.stores_are_closed_anyhow.Goals as goal

module _ {D : Type 0} (d : device.Ghosts D) (now : D) where
  first : (store : Stored D) (attempt : Result D (Closing D d)) → ClosesStore d store attempt → now ≡ device_after d attempt →
      IsStoreClosed d store now ⊎ ((closing : Closing D d) × (IsStoreOwed d store closing × (now ≡ closing.runs.buffers.cache.device)))
  first store (Ok device) closes is = inl (subst (λ (x : D). IsStoreClosed d store x) (sym is) closes)
  first store (Err closing) closes is = inr (closing, (closes, is))

  again : (closing : Closing D d) (attempt : Result D (Closing D d)) → ClosesAgain d closing attempt → now ≡ device_after d attempt →
      IsClosed d closing.header closing.runs now ⊎ ((still : Closing D d) × (StillOwes d closing.header closing.runs still.runs still.header × (now ≡ still.runs.buffers.cache.device)))
  again closing (Ok device) closes is = inl (subst (λ (x : D). IsClosed d closing.header closing.runs x) (sym is) closes)
  again closing (Err still) closes is = inr (still, (closes, is))

pub returns-clause-once : goal.returns-clause-once
returns-clause-once g c = λ store now once. first g.D.Device now store once.attempt once.closes once.device_is

pub returns-clause-late : goal.returns-clause-late
returns-clause-late g c = λ store now late. (late.closing, (late.refused, again g.D.Device now late.closing late.attempt late.closes late.device_is))
