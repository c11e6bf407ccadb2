-- What a rebuild answers, in plain terms.
use Rattle.std.proofs.Common.{◌≡◌, ◌⊎◌, inl, inr, ℕ, List, length, Option, Some, Result, Ok, Err, ap, subst}
use Rattle.std.specs.Prelude.{◌≢◌, IfSome}
use Rattle.cola_device.specs.declared.device.Device as device
use Rattle.cola_mirror.specs.declared.fault.RebuildFault.{RebuildFault}
use Rattle.cola_mirror.specs.declared.fault.RebuildFault.TheVariants.{Small, NotStore, NotClosed, Other, Device}
use Rattle.cola_mirror.specs.Differ.{IfBoth}
use Rattle.cola_mirror.specs.Rebuild.{Rebuilds, HadRoom}
use Rattle.cola_mirror.specs.RebuildLaws.{RebuildSays}

module _ {D E : Type 0} (d : device.Ghosts D) (e : device.Ghosts E) (from from_now : D) (to to_now : E) where
  pub says : (result : Result (Unit {0}) RebuildFault) → Rebuilds d e from from_now to to_now result → RebuildSays d e from from_now to to_now result
  says (Ok x) h = ((h.was, h.had), (h.no_fault, (h.other_no_fault, (h.same, h.settled))))
  says (Err Small) h = (h.source, h.untouched)
  says (Err NotStore) h = (h.source, h.untouched)
  says (Err NotClosed) h = (h.source, h.untouched)
  says (Err (Other many)) h = (h.source, (h.no_fault, (h.many_is, (h.some, (h.bytes_stay, h.spends)))))
  says (Err Device) (inl f) = inl (f.source, f.untouched)
  says (Err Device) (inr (inl f)) = inr (inl (f.source, (f.cause, (f.spends, f.left))))
  says (Err Device) (inr (inr (inl f))) = inr (inr (inl ((f.was, f.had), (f.cause, (f.many, (f.head, f.few_others))))))
  says (Err Device) (inr (inr (inr f))) = inr (inr (inr ((f.was, f.had), (f.no_fault, (f.cause, f.behind)))))

  module _ (bytes old : List ℕ) (is : d.bytes from ≡ Some bytes) (old-is : e.bytes to ≡ Some old) (some : length old ≢ 0) (other : length old ≢ length bytes) where
    stays : to_now ≡ to → e.bytes to_now ≡ e.bytes to
    stays same = ap (λ (x : E). e.bytes x) same

    neither : (length old ≡ 0) ⊎ (length old ≡ length bytes) → ⊥
    neither (inl none) = some none
    neither (inr many) = other many

    no-room : HadRoom d e from from_now to to_now → e.bytes to_now ≡ e.bytes to
    no-room had = absurd (neither (subst (λ (o : Option (List ℕ)). IfBoth (Some bytes) o (λ bytes old. (length old ≡ 0) ⊎ (length old ≡ length bytes))) old-is
        (subst (λ (o : Option (List ℕ)). IfBoth o (e.bytes to) (λ bytes old. (length old ≡ 0) ⊎ (length old ≡ length bytes))) is had)))

    not-empty : IfSome (e.bytes to) (λ old. length old ≡ 0) → e.bytes to_now ≡ e.bytes to
    not-empty none = absurd (some (subst (λ (o : Option (List ℕ)). IfSome o (λ old. length old ≡ 0)) old-is none))

    pub keeps : (result : Result (Unit {0}) RebuildFault) → Rebuilds d e from from_now to to_now result → e.bytes to_now ≡ e.bytes to
    keeps (Ok x) h = no-room h.had
    keeps (Err Small) h = stays h.untouched
    keeps (Err NotStore) h = stays h.untouched
    keeps (Err NotClosed) h = stays h.untouched
    keeps (Err (Other many)) h = h.bytes_stay
    keeps (Err Device) (inl f) = stays f.untouched
    keeps (Err Device) (inr (inl f)) = elim f.left [
      | inl same ↦ same
      | inr part ↦ not-empty part.0
    ]
    keeps (Err Device) (inr (inr (inl f))) = no-room f.had
    keeps (Err Device) (inr (inr (inr f))) = no-room f.had
