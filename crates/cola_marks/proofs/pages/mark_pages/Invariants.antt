use Rattle.std.proofs.Common.{◌≡◌, ◌+◌, ◌-◌, ◌≤◌, max}
use Rattle.cola_marks.specs.Pages.{marked, MarksPages}
use Rattle.cola_marks.proofs.pages.mark_pages.Given as goal

abbrev pub invariant-loop-page : goal.invariant-loop-page
invariant-loop-page g l = record {
  marks : MarksPages l.first l.page (g.M.Marks.marks l.initial.marks) (g.M.Marks.marks l.marks);
  few : marked (g.M.Marks.marks l.marks) ≤ marked (g.M.Marks.marks l.initial.marks) + (l.page - l.first);
  kept : g.M.Marks.kept l.marks ≡ g.M.Marks.kept l.initial.marks;
  reach : l.page ≤ max l.first l.last;
}
