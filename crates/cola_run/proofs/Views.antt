-- The store that the fields of a run store are, and what a call on its shadows leaves of it.
use Rattle.std.proofs.Common.{◌≡◌, sym, subst}
use Rattle.cola_run.specs.declared.run_store.RunStore.TheInside.{Inside}
use Rattle.cola_run.specs.Store.{Store}

-- the store of these fields
abbrev pub store_of : {D : Type 0} → Inside D → Store D
store_of i = record { buffers = i.buffers; geometry = i.geometry; front = i.front; shadows = i.shadows.items.items; tails = i.tails; ticked = i.ticked }

-- what is so of a part as it was lent and as it was left is so of that part before and now
pub lent-back : {A B : Type 0} (P : A → B → Type 0) {old lent : A} {now left : B} → lent ≡ old → now ≡ left → P lent left → P old now
lent-back {A = A} {B = B} P {old = old} {left = left} e f p = subst (λ (y : B). P old y) (sym f) (subst (λ (x : A). P x left) e p)
