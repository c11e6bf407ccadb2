use Rattle.cola_journal_bytes.proofs.JournalLemmas.{read_written}
use Rattle.cola_journal_bytes.proofs.laws.written_pieces_are_read.Goals as goal

pub returns : goal.returns
returns c = read_written
