-- The cell at the beginning of bytes.
use Rattle.std.proofs.Common.{◌≡◌, inl, inr, ℕ, ◌<◌, ◌≤◌, Bool, true, false, if◌then◌else◌, List, length, take, Option, Some, None, ap, sym, ◌∙◌, arith}
use Rattle.std.specs.Prelude.{MatchBool, leb}
use Rattle.std.proofs.lemmas.Bool.Decides.{leb_tells}
use Rattle.cola_cell.specs.declared.cell.Cell.{Cell}
use Rattle.cola_cell.specs.declared.format.Format.{Format}
use Rattle.cola_cell.specs.Decoded.{decoded, stands}
use Rattle.cola_cell.specs.Format.{width}
use Rattle.cola_cell.specs.Spelling.{IsSpelling, IsNoSpelling}
use Rattle.cola_cell.proofs.DecodedLemmas.{decoding_is}

-- bytes that are too few
pub stands_short : (format : Format) (bytes : List ℕ) → length bytes < width format → None ≡ stands format bytes
stands_short format bytes h = elim (leb_tells (width format) (length bytes)) [
  | inl e ↦ let l : width format ≤ length bytes = e.1 in absurd (omega (arith, h, l))
  | inr e ↦ ap (λ (b : Bool). if b then decoded format (take (width format) bytes) else None) (sym e.0)
]

-- an answer of decoding
pub stands_read : (format : Format) (bytes : List ℕ) (t : Bool) (c : Cell) → width format ≤ length bytes → MatchBool t (IsSpelling format c (take (width format) bytes)) (IsNoSpelling format (take (width format) bytes)) →
    (if t then Some c else None) ≡ stands format bytes
stands_read format bytes t c h m = elim (leb_tells (width format) (length bytes)) [
  | inl e ↦ by t m ∙ ap (λ (b : Bool). if b then decoded format (take (width format) bytes) else None) (sym e.0)
  | inr e ↦ let l : length bytes < width format = e.1 in absurd (omega (arith, h, l))
]
  where
    by : (y : Bool) → MatchBool y (IsSpelling format c (take (width format) bytes)) (IsNoSpelling format (take (width format) bytes)) → (if y then Some c else None) ≡ decoded format (take (width format) bytes)
    by true s = decoding_is format (take (width format) bytes) (Some c) s
    by false s = decoding_is format (take (width format) bytes) None s

pub not_least : (a b : ℕ) → b < a → leb a b ≡ false
not_least a b h = elim (leb_tells a b) [ inl e ↦ let l : a ≤ b = e.1 in absurd (omega (arith, h, l)) | inr e ↦ e.0 ]
