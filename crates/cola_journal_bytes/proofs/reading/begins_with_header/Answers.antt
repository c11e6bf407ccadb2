use Rattle.std.proofs.Common.{sym, ◌∙◌, refl}
use Rattle.cola_journal_bytes.proofs.AppliedLemmas.{header_none, header_some}
use Rattle.cola_journal_bytes.proofs.reading.begins_with_header.Goals as goal

pub returns-in-None : goal.returns-in-None
returns-in-None c count read is = sym (header_none count c.args.pieces.now read (c.in-None.ensures.none refl) is)

pub returns-in-Some : goal.returns-in-Some
returns-in-Some c count read is = c.is_header.ensures ∙ sym (header_some count c.args.pieces.now read _ c.in-Some.ensures.some is)
