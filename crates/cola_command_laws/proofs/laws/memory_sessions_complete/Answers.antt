use Rattle.std.proofs.Common.{◌≡◌, ◌⊎◌, inl, inr, ℕ}
use Rattle.cola_io.specs.declared.source.Source as source
use Rattle.cola_io.specs.declared.sink.Sink as sink
use Rattle.cola_session.specs.Ends.{NothingFails, ReadToEnd, Untouched}
use Rattle.cola_session.specs.Memory.{MemoryEnds, Replied}
use Rattle.cola_command_laws.proofs.Completing.{met-end}
use Rattle.cola_command_laws.proofs.laws.memory_sessions_complete.Goals as goal

completes : {S K : Type 0} (g : source.Ghosts S) (h : sink.Ghosts K) (keys status steps steps' : ℕ) (source source' : S) (sink sink' : K) → MemoryEnds g h keys source source' sink sink' steps steps' status → NothingFails g h source source' sink sink' → (status ≡ 0) ⊎ (status ≡ 1)
completes g h keys status steps steps' source source' sink sink' ends sound = by-end (met-end g h source source' sink sink' _ _ _ status ends sound)
  where
    by-end : ((status ≡ 1) × Untouched source source' sink sink' steps steps') ⊎ (((status ≡ 0) × ReadToEnd g h source source' sink sink' (Replied h keys sink sink' steps steps')) ⊎ ((status ≡ 5) × ReadToEnd g h source source' sink sink' (λ lines. ⊥)))
        → (status ≡ 0) ⊎ (status ≡ 1)
    by-end (inl refused) = inr refused.0
    by-end (inr (inl (is, all))) = inl is
    by-end (inr (inr (is, ill))) = absurd ill.carried

pub returns : goal.returns
returns g c = completes g.S.Source g.K.Sink
