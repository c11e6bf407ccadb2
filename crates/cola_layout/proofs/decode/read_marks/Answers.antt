use Rattle.std.proofs.Common.{◌≡◌, ℕ, ◌+◌, drop, sym, ◌∙◌, ap}
use Rattle.std.proofs.lemmas.List.{drop-drop}
use Rattle.byteorder.specs.Endian.{little_number}
use Rattle.cola_layout.specs.Read.{marks_in}
use Rattle.cola_layout.proofs.Readings.{marks-same}
use Rattle.cola_layout.proofs.decode.read_marks.Goals as goal

pub returns : goal.returns
unfolding marks_in
returns c =
    let behind : (k : ℕ) → little_number 4 (drop (c.args.at + k) c.args.bytes.now) ≡ little_number 4 (drop k (drop c.args.at c.args.bytes.now)) =
    λ k. ap (little_number 4) (sym (drop-drop k c.args.at c.args.bytes.now)) in
    marks-same _ (marks_in (drop c.args.at c.args.bytes.now)) c.u32_at.ensures
    (c.u32_at-2.ensures ∙ behind 4) (c.u32_at-3.ensures ∙ behind 8) (c.u32_at-4.ensures ∙ behind 12) (c.u32_at-5.ensures ∙ behind 16)
