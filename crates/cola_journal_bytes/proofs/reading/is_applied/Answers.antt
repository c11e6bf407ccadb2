use Rattle.std.proofs.Common.{◌≡◌, List, ℕ, Some, sym, subst}
use Rattle.cola_journal_bytes.specs.Format.{pieces_in}
use Rattle.cola_journal_bytes.proofs.AppliedLemmas.{whole_is, none_is}
use Rattle.cola_journal_bytes.proofs.reading.is_applied.Goals as goal

pub returns-in-None : goal.returns-in-None
returns-in-None c = none_is c.args.bytes.now (sym c.in-None.ensures.whole)

pub returns-in-Some : goal.returns-in-Some
returns-in-Some c =
    whole_is c.args.bytes.now c.begins_with_header.result (sym c.in-Some.ensures.whole)
    (λ count read is. c.begins_with_header.ensures count read (subst (λ (l : List ℕ). pieces_in count l ≡ Some read) (sym c.in-Some.ensures.body) is))
