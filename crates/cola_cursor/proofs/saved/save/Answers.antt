use Rattle.std.proofs.Common.{◌≡◌, false, sym, ap, ◌∙◌, arith, length, ◌<◌}
use Rattle.cola_cursor.specs.declared.saved.Saved.{Saved}
use Rattle.cola_cursor.specs.Saving.{is_saved}
use Rattle.cola_cursor.proofs.Saving.{saved_room, saves_more}
use Rattle.cola_cursor.proofs.saved.save.Goals as goal

pub push-requires : goal.push-requires
push-requires c =
    let one : Saved = record { number = c.args.number; line = c.copy-line.result } in
    let no : is_saved c.args.number c.args.saved.now.items ≡ false = sym (ap (is_saved c.args.number) c.as_slice.ensures.value) ∙ sym c.is_saved.ensures ∙ c.if-not-is_saved.true in
    let room : length c.args.saved.now.items < length c.args.lines.now = saved_room (length c.args.lines.now) c.args.saved.now.items one no c.requires.within c.requires.once in
    let few = c.requires.few in
    (omega arith, omega (arith, room, few))

pub returns-then-not-is_saved-clause-saves : goal.returns-then-not-is_saved-clause-saves
returns-then-not-is_saved-clause-saves c =
    let no = sym (ap (is_saved c.args.number) c.as_slice.ensures.value) ∙ sym c.is_saved.ensures ∙ c.if-not-is_saved.true in
    saves_more c.args.lines.now c.args.saved.now.items c.push.new.self.items c.args.number c.copy-line.result c.index-lines-number.result (c.copy-line.ensures ∙ c.index-lines-number.is) c.push.ensures.items no c.requires.within c.requires.once
