use Rattle.std.proofs.Common.{◌≡◌, rules, sym, subst}
use Rattle.cola_words.proofs.Limits.{suit_store, sizes_suit, sizes_refused}
use Rattle.cola_words.proofs.sizes.block_exp_for.Goals as goal

pub returns-in-Ok-of-clause-value : goal.returns-in-Ok-of-clause-value
returns-in-Ok-of-clause-value c =
    let geometry = c.in-Ok-of.field-0 in
    let same : c.in-Ok.block_exp ≡ c.args.block = search rules in
    rw (← same, ← c.in-Ok-of.ensures.block, ← c.in-Ok-of.ensures.keys)
    (sizes_suit geometry.keys geometry.block_exp geometry.bottom geometry.keys_in_range geometry.bottom_fits geometry.block_fits)

pub returns-in-Ok-of-clause-suit : goal.returns-in-Ok-of-clause-suit
returns-in-Ok-of-clause-suit c =
    let geometry = c.in-Ok-of.field-0 in
    let same : c.in-Ok.block_exp ≡ c.args.block = search rules in
    rw (← c.in-Ok-of.ensures.block, ← c.in-Ok-of.ensures.keys)
    (suit_store geometry.keys geometry.block_exp geometry.bottom geometry.keys_in_range geometry.bottom_fits geometry.block_fits)

pub returns-in-Err-clause-value : goal.returns-in-Err-clause-value
returns-in-Err-clause-value c =
    let same : c.in-Ok.block_exp ≡ c.args.block = search rules in
    rw (← same) (sizes_refused c.args.keys c.in-Ok.block_exp c.in-Err.field-0 c.in-Err.ensures.refused)
