use Rattle.cola_journal_bytes.proofs.ReadLemmas.{read_is_written}
use Rattle.cola_journal_bytes.proofs.laws.what_is_read_was_written.Goals as goal

pub returns : goal.returns
returns c = read_is_written
