use Rattle.std.proofs.Common.{◌≡◌, List, ℕ, ap, sym, subst, ◌∙◌}
use Rattle.cola_cell.specs.declared.format.Format.{Format}
use Rattle.cola_cell.specs.declared.format.Format.TheVariants.{One, Two}
use Rattle.cola_cell.specs.Decoded.{decoded}
use Rattle.cola_cell.proofs.DecodedLemmas.{decoding_is}
use Rattle.cola_plain_files.proofs.cells.cell_of.Goals as goal

pub returns-in-One : goal.returns-in-One
returns-in-One c =
    subst (λ (f : Format). c.decode.result ≡ decoded f c.args.bytes.now) (sym c.in-One.is)
    (decoding_is One c.copy_from_slice.new.self c.decode.result c.decode.ensures ∙ ap (λ (bytes : List ℕ). decoded One bytes) c.copy_from_slice.ensures.after)

pub returns-in-Two : goal.returns-in-Two
returns-in-Two c =
    subst (λ (f : Format). c.decode_wide.result ≡ decoded f c.args.bytes.now) (sym c.in-Two.is)
    (decoding_is Two c.copy_from_slice-in-Two.new.self c.decode_wide.result c.decode_wide.ensures ∙ ap (λ (bytes : List ℕ). decoded Two bytes) c.copy_from_slice-in-Two.ensures.after)
