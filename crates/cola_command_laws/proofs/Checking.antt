-- What the test of a file says of it, where its bytes are told.
use Rattle.std.proofs.Common.{◌≡◌, ◌∙◌, ◌⊎◌, inl, inr, ℕ, ◌≤◌, List, ◌++◌, length, take, Option, Some, sym, ap, subst, arith}
use Rattle.std.proofs.lemmas.Bool.{false≢true}
use Rattle.std.specs.Prelude.{IfSome, codes, decimal}
use Rattle.cola_outside.specs.Faults.{Rose}
use Rattle.cola_check.specs.declared.fault.CheckFault.TheVariants.{NotStore, NotClosed, Small, Device, OutOfMemory}
use Rattle.cola_check.specs.Check.{HasVerdict}
use Rattle.cola_device.specs.declared.device.Device as device
use Rattle.cola_image.specs.Standing.{FileStandsFor, HeaderStandsFor}
use Rattle.cola_io.specs.Counted.{after_fault}
use Rattle.cola_io.specs.Streams.{Appended}
use Rattle.cola_io.specs.declared.sink.Sink as sink
use Rattle.cola_layout.specs.Header.{Fields}
use Rattle.cola_layout.proofs.Refusing.{spelling-one}
use Rattle.cola_opening.specs.Judged.{file_size, HasHeader, IsSmall, IsNoStore, IsInUse}
use Rattle.cola_opening.proofs.Sizes.{header_fits}
use Rattle.cola_report.specs.Line.LineEnds.{WroteLine, WroteFront}
use Rattle.cola_spec.specs.Map.{Map, count}
use Rattle.cola_spec.specs.Reply.{line}
use Rattle.cola_verdict.specs.declared.verdict.Flaw.{Flaw}
use Rattle.cola_verdict.specs.declared.verdict.Verdict.{Verdict}
use Rattle.cola_verdict.specs.declared.verdict.Verdict.TheVariants.{Sound, Broken}
use Rattle.cola_verdict.proofs.Broken.{broken-stands_not}
use Rattle.cola_verdict.proofs.Standing.{passing-stands}
use Rattle.cola_command.specs.Checked.{CheckEnds}
use Rattle.cola_command.specs.Checked.CheckEnds.{Judged, NotJudged}

-- what is said of bytes that are told
said : (P : List ℕ → Type 0) (told : Option (List ℕ)) (bytes : List ℕ) → told ≡ Some bytes → IfSome told P → P bytes
said P told bytes e h = subst (λ (o : Option (List ℕ)). IfSome o P) e h

-- a file that stands for a map has a header and all its cells
has-header : (header : Fields) (bytes : List ℕ) (m : Map) → HeaderStandsFor header bytes m → HasHeader header bytes
has-header header bytes m stands = record { spelled = stands.spelled; whole = stands.whole }

-- such a file is not too small
not-small : (header : Fields) (bytes : List ℕ) → HasHeader header bytes → IsSmall bytes → ⊥
not-small header bytes has (inl short) = omega (arith, short, has.whole, header_fits header.format header.bottom has.spelled.sound.bottom_fits.three)
not-small header bytes has (inr (other, (spelled, few))) =
    let whole : file_size other.format other.bottom ≤ length bytes = subst (λ (f : Fields). file_size f.format f.bottom ≤ length bytes) (spelling-one header other (take 512 bytes) has.spelled spelled) has.whole in
    omega (arith, few, whole)

-- a sound file stands for a map with so many keys
sound-stands : (header : Fields) (keys : ℕ) (bytes : List ℕ) → HasVerdict header (Sound keys) bytes → (m : Map) × (FileStandsFor bytes m × (count m ≡ keys))
sound-stands header keys bytes has =
    let found = passing-stands header bytes keys has.was.has.spelled has.was.closed has.was.has.whole has.verdict_is in
    (found.0, ((header, found.1), found.2))

-- a file with a flaw stands for none
broken-stands : (header : Fields) (why : Flaw) (level cell : ℕ) (bytes : List ℕ) (m : Map) → HasVerdict header (Broken why level cell) bytes → FileStandsFor bytes m → ⊥
broken-stands header why level cell bytes m has stands = broken-stands_not header bytes why level cell has.was.has.spelled has.verdict_is m stands

module _ {K D : Type 0} (h : sink.Ghosts K) (d : device.Ghosts D) (device device' : D) (sink sink' : K) (steps steps' : ℕ) where
  pub sound : (bytes : List ℕ) → CheckEnds h d device device' sink sink' steps steps' 0 → d.bytes device ≡ Some bytes →
      (m : Map) × (FileStandsFor bytes m × Appended (line (codes "sound " ++ decimal (count m))) (h.written sink) (h.written sink'))
  sound bytes (Judged (Sound keys) tested (WroteLine is wrote counted)) e =
      let found = sound-stands tested.header keys bytes (said (HasVerdict tested.header (Sound keys)) (d.bytes device) bytes e tested.is) in
      (found.0, (found.1.0, subst (λ (n : ℕ). Appended (line (codes "sound " ++ decimal n)) (h.written sink) (h.written sink')) (sym found.1.1) wrote))
  sound bytes (Judged (Sound keys) tested (WroteFront is n wrote counted)) e = absurd (omega (arith, is))
  sound bytes (Judged (Broken why level cell) tested (WroteLine is wrote counted)) e = absurd (omega (arith, is))
  sound bytes (Judged (Broken why level cell) tested (WroteFront is n wrote counted)) e = absurd (omega (arith, is))
  sound bytes (NotJudged NotStore is tested stays) e = absurd (omega (arith, is))
  sound bytes (NotJudged NotClosed is tested stays) e = absurd (omega (arith, is))
  sound bytes (NotJudged Small is tested stays) e = absurd (omega (arith, is))
  sound bytes (NotJudged Device is tested stays) e = absurd (omega (arith, is))
  sound bytes (NotJudged OutOfMemory is tested stays) e = absurd (omega (arith, is))

  pub broken : (bytes : List ℕ) (m : Map) → CheckEnds h d device device' sink sink' steps steps' 13 → d.bytes device ≡ Some bytes → FileStandsFor bytes m → ⊥
  broken bytes m (Judged (Sound keys) tested (WroteLine is wrote counted)) e stands = omega (arith, is)
  broken bytes m (Judged (Sound keys) tested (WroteFront is n wrote counted)) e stands = omega (arith, is)
  broken bytes m (Judged (Broken why level cell) tested (WroteLine is wrote counted)) e stands = broken-stands tested.header why level cell bytes m (said (HasVerdict tested.header (Broken why level cell)) (d.bytes device) bytes e tested.is) stands
  broken bytes m (Judged (Broken why level cell) tested (WroteFront is n wrote counted)) e stands = omega (arith, is)
  broken bytes m (NotJudged NotStore is tested stays) e stands = omega (arith, is)
  broken bytes m (NotJudged NotClosed is tested stays) e stands = omega (arith, is)
  broken bytes m (NotJudged Small is tested stays) e stands = omega (arith, is)
  broken bytes m (NotJudged Device is tested stays) e stands = omega (arith, is)
  broken bytes m (NotJudged OutOfMemory is tested stays) e stands = omega (arith, is)

  rose-after : (before now : ℕ) → now ≡ after_fault before → Rose before now
  rose-after before now e = omega (arith, e)

  pub complete : (status : ℕ) (bytes : List ℕ) (m : Map) → CheckEnds h d device device' sink sink' steps steps' status → d.bytes device ≡ Some bytes → FileStandsFor bytes m →
      (Rose (d.counts device).faults (d.counts device').faults → ⊥) → (Rose (h.faults sink) (h.faults sink') → ⊥) → (status ≡ 0) ⊎ (status ≡ 1)
  complete status bytes m (Judged (Sound keys) tested (WroteLine is wrote counted)) e stands calm written = inl is
  complete status bytes m (Judged verdict tested (WroteFront is n wrote counted)) e stands calm written = absurd (written (rose-after (h.faults sink) (h.faults sink') counted))
  complete status bytes m (Judged (Broken why level cell) tested (WroteLine is wrote counted)) e stands calm written = absurd (broken-stands tested.header why level cell bytes m (said (HasVerdict tested.header (Broken why level cell)) (d.bytes device) bytes e tested.is) stands)
  complete status bytes m (NotJudged NotStore is refused stays) e stands calm written = absurd ((said IsNoStore (d.bytes device) bytes e refused.seen.why_is).none stands.0 stands.1.spelled)
  complete status bytes m (NotJudged Small is refused stays) e stands calm written = absurd (not-small stands.0 bytes (has-header stands.0 bytes m stands.1) (said IsSmall (d.bytes device) bytes e refused.seen.why_is))
  complete status bytes m (NotJudged NotClosed is refused stays) e stands calm written =
      let in_use = said IsInUse (d.bytes device) bytes e refused.seen.why_is in
      let same : in_use.0 ≡ stands.0 = spelling-one in_use.0 stands.0 (take 512 bytes) in_use.1.0.spelled stands.1.spelled in
      absurd (false≢true (sym in_use.1.1 ∙ ap (λ (f : Fields). f.closed) same ∙ stands.1.closed))
  complete status bytes m (NotJudged Device is (inl failed) stays) e stands calm written = absurd (calm failed.failed.cause)
  complete status bytes m (NotJudged Device is (inr failed) stays) e stands calm written = absurd (calm failed.cause)
  complete status bytes m (NotJudged OutOfMemory is refused stays) e stands calm written = inr is
