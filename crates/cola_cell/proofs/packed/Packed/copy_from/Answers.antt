use Rattle.std.specs.Prelude.{◌≡◌, ℕ, List, take}
use Rattle.std.proofs.Common.{◌∙◌, ap, sym, subst}
use Rattle.cola_cell.specs.Decoded.{standing}
use Rattle.cola_cell.specs.Format.{width}
use Rattle.cola_cell.specs.Spelling.{IsSpelling}
use Rattle.cola_cell.specs.declared.format.Format.{Format}
use Rattle.cola_cell.proofs.Packs.{made-is, made-spells}
use Rattle.cola_cell.proofs.packed.Packed.copy_from.Goals as goal

-- the bytes that were copied spell the other cell
spelled : (format : Format) (many : ℕ) (bytes new : List ℕ) → IsSpelling format (standing format (take (width format) bytes)) (take (width format) bytes)
    → new ≡ take many bytes → many ≡ width format → IsSpelling format (standing format (take (width format) bytes)) new
spelled format many bytes new s is wide =
    subst (IsSpelling format (standing format (take (width format) bytes))) (sym (is ∙ ap (λ (n : ℕ). take n bytes) wide)) s

pub invariant_of-self : goal.invariant_of-self
invariant_of-self c = made-spells c.other.inside.format (standing c.other.inside.format (take (width c.other.inside.format) c.other.inside.bytes)) c.copy_in.new.into _
    (spelled c.other.inside.format c.width-width.result c.other.inside.bytes c.copy_in.new.into c.other.invariant c.copy_in.ensures c.width-width.ensures)

pub returns : goal.returns
returns c = made-is c.other.inside.format (standing c.other.inside.format (take (width c.other.inside.format) c.other.inside.bytes)) c.copy_in.new.into _
    (spelled c.other.inside.format c.width-width.result c.other.inside.bytes c.copy_in.new.into c.other.invariant c.copy_in.ensures c.width-width.ensures) ∙ c.other.view_is
