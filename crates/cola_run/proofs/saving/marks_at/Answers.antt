use Rattle.std.proofs.Common.{◌≡◌, ◌<◌, ◌≤◌, List, length, get_or, ap, sym, subst, arith}
use Rattle.cola_cell.specs.Places.{slot_size}
use Rattle.cola_layout.specs.declared.marks.Marks.{Marks}
use Rattle.cola_layout.specs.Marks.{marks_of, no_marks}
use Rattle.cola_layout.proofs.Levels.{fits-here}
use Rattle.cola_run.proofs.saving.marks_at.Goals as goal

pub returns : goal.returns
returns c =
    let h = c.args.header.now in
    let level = c.args.level in
    let within : level < length h.levels.items = omega (arith, h.one_each, c.requires) in
    let fits = fits-here h.clock h.levels.items h.marks_fit level within in
    let is : get_or c.deref.result.now level no_marks ≡ marks_of h.levels.items level = ap (λ (xs : List Marks). get_or xs level no_marks) c.deref.ensures.0 in
    record {
      value = is;
      visible = subst (λ (m : Marks). m.visible ≤ slot_size level) (sym is) fits.visible_fits;
      shadow = subst (λ (m : Marks). m.shadow ≤ slot_size level) (sym is) fits.shadow_fits;
    }
