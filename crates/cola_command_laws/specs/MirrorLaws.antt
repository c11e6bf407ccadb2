-- Words of the laws of sessions over two files.
use Rattle.std.specs.Prelude.{ℕ, ◌≡◌, ◌⊎◌, Bool, true, Err, IsSomeAnd}
use Rattle.cola_outside.specs.Faults.{Rose}
use Rattle.cola_device.specs.declared.device.Device as device
use Rattle.cola_device.specs.declared.device.DeviceFault.{DeviceFault}
use Rattle.cola_io.specs.declared.source.Source as source
use Rattle.cola_io.specs.declared.sink.Sink as sink
use Rattle.cola_spec.specs.Map.{Map}
use Rattle.cola_image.specs.Standing.{FileStandsFor}
use Rattle.cola_mirror.specs.Mirror.{bytes_of}
use Rattle.cola_mirror.specs.Device.{mirror_device, new_pair}
use Rattle.cola_session.specs.Ends.{ReadToEnd, NothingFails}
use Rattle.cola_command_laws.specs.HeadlineLaws.{AnsweredPlainly}
use Rattle.cola_command.specs.Mirrored.{IsCompared, IsMirrored}

module _ {S K D : Type 0} (g : source.Ghosts S) (h : sink.Ghosts K) (d : device.Ghosts D) (cache : ℕ) (cost : Bool) (source source' : S) (sink sink' : K) (device device' second second' : D) (steps steps' : ℕ) where
  -- the session over a mirror ended with 0, and those of the two files that are in use have the bytes that it left
  pub record LeftOn (first_used second_used : Bool) (status : ℕ) : Type 0 where
    pub mirrored : IsMirrored g h d cache cost source source' sink sink' device device' second second' steps steps' status
    pub of_lines_is : mirrored.of_lines ≡ 0
    pub first_has : first_used ≡ true → d.bytes device' ≡ bytes_of d d mirrored.last
    pub second_has : second_used ≡ true → d.bytes second' ≡ bytes_of d d mirrored.last

  -- both files have the same bytes, which stand for a map; fewer bytes were read than may be taken; and the count of faults of the source, of the sink and of one of the two devices did not rise
  pub record OneAnswers (m : Map) : Type 0 where
    pub stands : IsSomeAnd (d.bytes device) (λ bytes. FileStandsFor bytes m)
    pub same : d.bytes second ≡ d.bytes device
    pub nothing : NothingFails g h source source' sink sink'
    pub one_answers : (Rose (d.counts device).faults (d.counts device').faults → ⊥) ⊎ (Rose (d.counts second).faults (d.counts second').faults → ⊥)

  -- how a session over two files ends then: all lines are answered plainly; or there was no memory for the store; or the other device failed as they were compared, and nothing was touched
  pub data MirrorCompletes (m : Map) (status : ℕ) : Type 0 where
    GoesOn : (mirrored : IsMirrored g h d cache cost source source' sink sink' device device' second second' steps steps' status) → (status ≡ 0) ⊎ ((status ≡ 17) ⊎ (status ≡ 18))
        → ReadToEnd g h source source' sink sink' (AnsweredPlainly h (mirror_device d d) cost m sink sink' (new_pair d d mirrored.first mirrored.other) mirrored.last) → MirrorCompletes m status
    WithoutMemory : IsMirrored g h d cache cost source source' sink sink' device device' second second' steps steps' status → status ≡ 1 → MirrorCompletes m status
    Stopped : status ≡ 5 → (fault : DeviceFault) → IsCompared g h d cache cost source source' sink sink' device device' second second' steps steps' (Err fault) → MirrorCompletes m status
