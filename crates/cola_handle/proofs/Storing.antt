-- A file of fewer bytes than a header has.
use Rattle.std.proofs.Common.{◌≡◌, ◌∙◌, ℕ, ◌<◌, inl, List, take, length, sym, ap, arith}
use Rattle.std.proofs.lemmas.List.{length-take}
use Rattle.cola_opening.specs.Judged.{IsSmall}
use Rattle.cola_handle.specs.Stored.{Begins}

pub short-file : {head : List ℕ} {size : ℕ} {file : List ℕ} → Begins head size file → size < 512 → IsSmall file
short-file begins few = inl (omega (arith, begins.size_is, few))

-- fewer first bytes than a header has are all of the file
pub short-head : {head : List ℕ} {size : ℕ} {file : List ℕ} → Begins head size file → length head < 512 → IsSmall file
short-head {head = head} {file = file} begins few =
    let same : length (take 512 file) ≡ length (take 512 head) = ap length begins.head_is in
    inl (omega (arith, same, few, length-take 512 file, length-take 512 head))
