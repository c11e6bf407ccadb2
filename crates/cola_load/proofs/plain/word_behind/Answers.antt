use Rattle.std.proofs.Common.{length, sym, ◌∙◌}
use Rattle.cola_load.specs.Rows.{last_key, word_at}
use Rattle.cola_load.proofs.Chains.{many-lines}
use Rattle.cola_load.proofs.plain.word_behind.Goals as goal

pub returns : goal.returns
returns c =
    let keys = c.args.keys in
    let rows = c.as_slice.ensures.value ∙ c.in_ok-rows.ensures keys in
    c.word_at.ensures
    ∙ (λ i. word_at keys
    (record { lines = sym (many-lines c.args.before.now) i; rows = length (rows i); last = last_key (rows i); ended = c.has_end-ended.ensures keys i })
    (c.said_by-says.ensures.means keys i))
