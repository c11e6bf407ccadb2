use Rattle.std.proofs.Common.{◌∙◌, sym, ap, cond}
use Rattle.std.proofs.lemmas.Bool.{eq-eqb, ne_eqb}
use Rattle.cola_layout.specs.Marks.{numbers_of}
use Rattle.cola_plain_files.specs.File.{file_of}
use Rattle.cola_plain_files.proofs.File.{file_says, run_len-is}
use Rattle.cola_plain_files.proofs.verdict.file.run_len.Goals as goal

pub returns-then-slot-slot_of-clause-value : goal.returns-then-slot-slot_of-clause-value
returns-then-slot-slot_of-clause-value c = λ bytes.
    ap (λ b. cond b c.marks_of-marks.result.visible c.marks_of-marks.result.shadow) (sym (eq-eqb c.args.slot c.slot_of.result c.if-slot-slot_of.true))
    ∙ sym (run_len-is (file_of c.args.header.now bytes) c.args.header.now bytes c.args.level c.args.slot c.slot_of.result (numbers_of c.marks_of-marks.result) (file_says c.args.header.now bytes) c.marks_of-marks.ensures.value c.slot_of.ensures.value)

pub returns-else-slot-slot_of-clause-value : goal.returns-else-slot-slot_of-clause-value
returns-else-slot-slot_of-clause-value c = λ bytes.
    ap (λ b. cond b c.marks_of-marks.result.visible c.marks_of-marks.result.shadow) (sym (ne_eqb c.args.slot c.slot_of.result c.if-slot-slot_of.false))
    ∙ sym (run_len-is (file_of c.args.header.now bytes) c.args.header.now bytes c.args.level c.args.slot c.slot_of.result (numbers_of c.marks_of-marks.result) (file_says c.args.header.now bytes) c.marks_of-marks.ensures.value c.slot_of.ensures.value)
