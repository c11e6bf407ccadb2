use Rattle.std.proofs.Common.{sym, ◌∙◌}
use Rattle.cola_cell.proofs.Packs.{keys-ordered, room-size, whole-words, tied, decided}
use Rattle.cola_cell.proofs.packed.cmp_keys_in.Goals as goal

pub words_cmp-requires-clause-words : goal.words_cmp-requires-clause-words
words_cmp-requires-clause-words c =
    whole-words c.args.format _ (room-size c.args.format c.args.left.now c.key_at-from.result c.value_at-to.result c.key_at-from.ensures c.value_at-to.ensures c.requires.left)

pub words_cmp-requires-clause-same : goal.words_cmp-requires-clause-same
words_cmp-requires-clause-same c =
    room-size c.args.format c.args.left.now c.key_at-from.result c.value_at-to.result c.key_at-from.ensures c.value_at-to.ensures c.requires.left
    ∙ sym (room-size c.args.format c.args.right.now c.key_at-from.result c.value_at-to.result c.key_at-from.ensures c.value_at-to.ensures c.requires.right)

pub returns-in-Equal : goal.returns-in-Equal
returns-in-Equal c =
    let ordered = keys-ordered c.args.format c.args.left.now c.args.right.now c.key_at-from.result c.value_at-to.result c.key_at-from.ensures c.value_at-to.ensures c.requires.left c.requires.right in
    c.cmp.ensures ∙ sym (ordered ∙ tied _ _ (sym c.words_cmp.ensures ∙ c.in-Equal.is))

pub returns-in_default : goal.returns-in_default
returns-in_default c =
    let ordered = keys-ordered c.args.format c.args.left.now c.args.right.now c.key_at-from.result c.value_at-to.result c.key_at-from.ensures c.value_at-to.ensures c.requires.left c.requires.right in
    c.words_cmp.ensures ∙ sym (ordered ∙ decided _ _ (λ e. c.in_default.not-Equal (c.words_cmp.ensures ∙ e)))
