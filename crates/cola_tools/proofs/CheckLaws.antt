-- What a test says of maps.
use Rattle.std.proofs.Common.{◌≡◌, ◌∙◌, inl, inr, ℕ, ◌≤◌, List, length, take, Result, Ok, Err, refl, sym, ap, subst, arith}
use Rattle.std.proofs.lemmas.Bool.{false≢true}
use Rattle.cola_image.specs.Standing.{FileStandsFor, HeaderStandsFor}
use Rattle.cola_image.proofs.StandingLemmas.{one-map}
use Rattle.cola_layout.specs.Header.{Fields}
use Rattle.cola_layout.proofs.Refusing.{spelling-one}
use Rattle.cola_opening.specs.Judged.{file_size, HasHeader, IsSmall, IsInUse}
use Rattle.cola_opening.proofs.Sizes.{header_fits}
use Rattle.cola_spec.specs.Map.{Map, count}
use Rattle.cola_verdict.specs.declared.verdict.Flaw.{Flaw}
use Rattle.cola_verdict.specs.declared.verdict.Verdict.{Verdict}
use Rattle.cola_verdict.specs.declared.verdict.Verdict.TheVariants.{Sound, Broken}
use Rattle.cola_verdict.proofs.Broken.{broken-stands_not}
use Rattle.cola_verdict.proofs.Standing.{passing-stands}
use Rattle.cola_tools.specs.declared.fault.ToolFault.{ToolFault}
use Rattle.cola_tools.specs.declared.fault.ToolFault.TheVariants.{Small, NotStore, NotClosed, Memory, Options, NotEmpty, BadCell, Fewer, Length, Full, Order}
use Rattle.cola_tools.specs.Checking.{Checks, IsCountOrMemory}

-- bytes that stand for a map have a header and all its cells
pub has-header : (header : Fields) (bytes : List ℕ) (m : Map) → HeaderStandsFor header bytes m → HasHeader header bytes
has-header header bytes m stands = record { spelled = stands.spelled; whole = stands.whole }

-- they are not too few
pub not-small : (header : Fields) (bytes : List ℕ) → HasHeader header bytes → IsSmall bytes → ⊥
not-small header bytes has (inl short) = omega (arith, short, has.whole, header_fits header.format header.bottom has.spelled.sound.bottom_fits.three)
not-small header bytes has (inr (other, (spelled, few))) =
    let whole : file_size other.format other.bottom ≤ length bytes = subst (λ (f : Fields). file_size f.format f.bottom ≤ length bytes) (spelling-one header other (take 512 bytes) has.spelled spelled) has.whole in
    omega (arith, few, whole)

-- nor are they in use
pub not-used : (header : Fields) (bytes : List ℕ) (m : Map) → HeaderStandsFor header bytes m → IsInUse bytes → ⊥
not-used header bytes m stands used =
    let same : used.0 ≡ header = spelling-one used.0 header (take 512 bytes) used.1.0.spelled stands.spelled in
    false≢true (sym used.1.1 ∙ (ap (λ (f : Fields). f.closed) same ∙ stands.closed))

pub sound : (bytes : List ℕ) (from to keys : ℕ) → Checks bytes from to (Ok (Sound keys)) → (m : Map) × (FileStandsFor bytes m × (count m ≡ keys))
sound bytes from to keys judged =
    let was = judged.judged.was in
    let found = passing-stands judged.header bytes keys was.has.spelled was.closed was.has.whole judged.judged.verdict_is in
    (found.0, ((judged.header, found.1), found.2))

pub broken : (bytes : List ℕ) (from to : ℕ) (flaw : Flaw) (level cell : ℕ) (m : Map) → Checks bytes from to (Ok (Broken flaw level cell)) → ¬ FileStandsFor bytes m
broken bytes from to flaw level cell m judged stands = broken-stands_not judged.header bytes flaw level cell judged.judged.was.has.spelled judged.judged.verdict_is m stands

pub complete : (bytes : List ℕ) (from to : ℕ) (result : Result Verdict ToolFault) (m : Map) → FileStandsFor bytes m → Checks bytes from to result → IsCountOrMemory (count m) result
complete bytes from to (Ok (Sound keys)) m stands judged =
    let found = sound bytes from to keys judged in
    ap Sound (sym found.1.1 ∙ ap count (one-map bytes found.0 m found.1.0 stands))
complete bytes from to (Ok (Broken flaw level cell)) m stands judged = absurd (broken bytes from to flaw level cell m judged stands)
complete bytes from to (Err NotStore) m stands judged = absurd (judged.0.none stands.0 stands.1.spelled)
complete bytes from to (Err Small) m stands judged = absurd (not-small stands.0 bytes (has-header stands.0 bytes m stands.1) judged.0)
complete bytes from to (Err NotClosed) m stands judged = absurd (not-used stands.0 bytes m stands.1 judged.0)
complete bytes from to (Err Memory) m stands judged = refl
complete bytes from to (Err Options) m stands judged = absurd judged
complete bytes from to (Err NotEmpty) m stands judged = absurd judged
complete bytes from to (Err BadCell) m stands judged = absurd judged
complete bytes from to (Err Fewer) m stands judged = absurd judged
complete bytes from to (Err Length) m stands judged = absurd judged
complete bytes from to (Err Full) m stands judged = absurd judged
complete bytes from to (Err Order) m stands judged = absurd judged
