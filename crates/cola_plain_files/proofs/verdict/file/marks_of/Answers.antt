use Rattle.std.proofs.Common.{◌≤◌, ◌^◌, ◌+◌, sym, subst, List, slice_index_or}
use Rattle.cola_clock.specs.Marks.{Marks as LevelMarks}
use Rattle.cola_layout.specs.declared.marks.Marks.{Marks}
use Rattle.cola_layout.specs.Marks.{no_marks}
use Rattle.cola_layout.proofs.Levels.{number-at}
use Rattle.cola_plain_files.proofs.File.{runs_fit}
use Rattle.cola_plain_files.proofs.verdict.file.marks_of.Goals as goal

pub returns-clause-visible : goal.returns-clause-visible
returns-clause-visible c =
    subst (λ (levels : List Marks). (slice_index_or levels c.args.level no_marks).visible ≤ 2 ^ (c.args.level + 2)) (sym c.deref.ensures.0)
    (subst (λ (m : LevelMarks). m.visible ≤ 2 ^ (c.args.level + 2)) (number-at c.args.header.now.levels.items c.args.level) (runs_fit c.args.header.now c.args.level c.requires).visible)

pub returns-clause-shadow : goal.returns-clause-shadow
returns-clause-shadow c =
    subst (λ (levels : List Marks). (slice_index_or levels c.args.level no_marks).shadow ≤ 2 ^ (c.args.level + 2)) (sym c.deref.ensures.0)
    (subst (λ (m : LevelMarks). m.shadow ≤ 2 ^ (c.args.level + 2)) (number-at c.args.header.now.levels.items c.args.level) (runs_fit c.args.header.now c.args.level c.requires).shadow)
