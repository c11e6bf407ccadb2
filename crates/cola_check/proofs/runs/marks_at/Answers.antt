use Rattle.std.proofs.Common.{◌≡◌, ◌<◌, ◌≤◌, ◌+◌, List, length, get_or, ap, sym, subst, ◌∙◌, arith}
use Rattle.cola_check.proofs.Common.{slot_size, Marks, marks_of, no_marks, numbers_of, fits-here, number-at}
use Rattle.cola_check.proofs.runs.marks_at.Goals as goal

pub returns : goal.returns
returns c =
    let h = c.args.header.now in
    let level = c.args.level in
    let one : length h.levels.items ≡ h.geometry.bottom + 1 = h.one_each in
    let low : level ≤ h.geometry.bottom = c.requires in
    let within : level < length h.levels.items = omega (arith, one, low) in
    let fits = fits-here h.clock h.levels.items h.marks_fit level within in
    let is : get_or c.deref.result.now level no_marks ≡ marks_of h.levels.items level = ap (λ (xs : List Marks). get_or xs level no_marks) c.deref.ensures.0 in
    record {
      value = ap numbers_of is ∙ sym (number-at h.levels.items level);
      visible = subst (λ (m : Marks). m.visible ≤ slot_size level) (sym is) fits.visible_fits;
      shadow = subst (λ (m : Marks). m.shadow ≤ slot_size level) (sym is) fits.shadow_fits;
    }
