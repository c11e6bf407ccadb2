use Rattle.cola_c.proofs.Saved.{pages_are_the_store, journal_is_read}
use Rattle.cola_c.proofs.SavedRuns.{kept, saved}
use Rattle.cola_c.proofs.checkpoint_laws.closed_stores_are_kept.Goals as goal

pub returns-clause-pages : goal.returns-clause-pages
returns-clause-pages c = pages_are_the_store

pub returns-clause-journal : goal.returns-clause-journal
returns-clause-journal c = journal_is_read c.written_pieces_are_read.ensures

pub returns-clause-kept : goal.returns-clause-kept
returns-clause-kept c = λ marks before now start past events it.
    kept c.checkpoints_are_kept.ensures.safe c.checkpoints_are_kept.ensures.turns start pages_are_the_store marks before now past events
    (journal_is_read c.written_pieces_are_read.ensures) it

pub returns-clause-saved : goal.returns-clause-saved
returns-clause-saved c = λ marks before now start past events it.
    saved c.checkpoints_are_kept.ensures.safe c.checkpoints_are_kept.ensures.turns start pages_are_the_store (journal_is_read c.written_pieces_are_read.ensures) marks before now past events it
