-- A file with a flaw stands for no map.
use Rattle.std.proofs.Common.{◌≡◌, ℕ, List, take, subst}
use Rattle.cola_image.specs.Standing.{HeaderStandsFor, FileStandsFor}
use Rattle.cola_layout.specs.Header.{Fields, IsSpelling}
use Rattle.cola_layout.proofs.Refusing.{spelling-one}
use Rattle.cola_spec.specs.Map.{Map, count}
use Rattle.cola_verdict.specs.Tests.{tested_of}
use Rattle.cola_verdict.specs.Verdict.{IsVerdict}
use Rattle.cola_verdict.specs.declared.verdict.Flaw.{Flaw}
use Rattle.cola_verdict.specs.declared.verdict.Verdict.TheVariants.{Broken}
use Rattle.cola_verdict.proofs.Standing.{standing-passes}
use Rattle.cola_verdict.proofs.Unique.{sound-unbroken}

pub broken-stands_not : (header : Fields) (bytes : List ℕ) (flaw : Flaw) (level number : ℕ) → IsSpelling header (take 512 bytes) →
    IsVerdict (tested_of header bytes) (Broken flaw level number) → (m : Map) → FileStandsFor bytes m → ⊥
broken-stands_not header bytes flaw level number spelled verdict m stands =
    let same : stands.0 ≡ header = spelling-one stands.0 header (take 512 bytes) stands.1.spelled spelled in
    let here : HeaderStandsFor header bytes m = subst (λ (h : Fields). HeaderStandsFor h bytes m) same stands.1 in
    sound-unbroken (tested_of header bytes) (count m) flaw level number (standing-passes header bytes m here) verdict
