use Rattle.std.proofs.Common.{option_copied, map, ap, refl, ◌∙◌}
use Rattle.cola_look.specs.Runs.{HasRun}
use Rattle.cola_cursor.specs.Turning.{end_line}
use Rattle.cola_cursor.proofs.Places.{all_by_recursion}
use Rattle.cola_cursor.proofs.Turning.{end_gives}
use Rattle.cola_cursor.proofs.cursor.turned_at_end.Goals as goal

pub returns : goal.returns
returns g c =
    let held = (g.W.CellSource.state c.args.work.now).held in
    end_gives held c.args.runs.now.items (option_copied c.args.lo) _ (all_by_recursion (HasRun held) c.args.runs.now.items c.requires.runs) c.requires.levels
    (c.end_lines.ensures ∙ ap (map end_line) c.as_slice.ensures.value) c.copied-end.ensures refl
