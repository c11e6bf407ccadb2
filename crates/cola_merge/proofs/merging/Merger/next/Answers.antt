-- The heads that are read, and what the rules ask for by them.
use Rattle.cola_cell.specs.declared.cell.Reader.TheVariants.{Own, Incoming, Sample}
use Rattle.cola_merge.specs.Heads.{with_head}
use Rattle.cola_merge.proofs.Reading.{fetch_looked, fetch_unread, err_is}
use Rattle.cola_merge.proofs.Ruling.{small_cursor}
use Rattle.cola_merge.proofs.Taking.{and_read, and_unread}
use Rattle.cola_merge.proofs.merging.Merger.next.Goals as goal

pub returns-in_err-fetch-clause-next : goal.returns-in_err-fetch-clause-next
returns-in_err-fetch-clause-next g c =
    rw (err_is c.from_residual.result c.in_err-fetch.field-0.0 c.from_residual.ensures.1)
    (fetch_unread c.args.self.now c.args.steps.now c.fetch.new.steps Own c.fetch.new.self c.in_err-fetch.field-0.0 c.requires.heads c.in_err-fetch.ensures.fetch)

pub returns-in_err-fetch-2-clause-next : goal.returns-in_err-fetch-2-clause-next
returns-in_err-fetch-2-clause-next g c =
    let m = c.args.self.now in
    let one = fetch_looked m c.args.steps.now c.fetch.new.steps Own c.fetch.new.self c.requires.heads tt c.in_ok-fetch.ensures.fetch in
    rw (err_is c.from_residual-in_err-fetch-2.result c.in_err-fetch-2.field-0.0 c.from_residual-in_err-fetch-2.ensures.1)
    (and_unread (with_head m Own c.fetch.new.self) one Incoming c.fetch-2.new.self c.in_err-fetch-2.field-0.0 c.in_err-fetch-2.ensures.fetch)

pub returns-in_err-fetch-3-clause-next : goal.returns-in_err-fetch-3-clause-next
returns-in_err-fetch-3-clause-next g c =
    let m = c.args.self.now in
    let one = fetch_looked m c.args.steps.now c.fetch.new.steps Own c.fetch.new.self c.requires.heads tt c.in_ok-fetch.ensures.fetch in
    let two = and_read (with_head m Own c.fetch.new.self) one Incoming c.fetch-2.new.self tt c.in_ok-fetch-2.ensures.fetch in
    rw (err_is c.from_residual-in_err-fetch-3.result c.in_err-fetch-3.field-0.0 c.from_residual-in_err-fetch-3.ensures.1)
    (and_unread (with_head (with_head m Own c.fetch.new.self) Incoming c.fetch-2.new.self) two Sample c.fetch-3.new.self c.in_err-fetch-3.field-0.0 c.in_err-fetch-3.ensures.fetch)

pub choice-requires : goal.choice-requires
choice-requires g c =
    let held = (g.W.CellSource.state c.args.work.now).held in
    record { small = small_cursor held.fixed c.args.aim.now.sample c.fetch-3.new.self.at c.requires.levels c.requires.heads.sample_feed c.in_ok-fetch-3.ensures.fetch.head.within }

pub returns-clause-next : goal.returns-clause-next
returns-clause-next g c =
    let m = c.args.self.now in
    let one = fetch_looked m c.args.steps.now c.fetch.new.steps Own c.fetch.new.self c.requires.heads tt c.in_ok-fetch.ensures.fetch in
    let two = and_read (with_head m Own c.fetch.new.self) one Incoming c.fetch-2.new.self tt c.in_ok-fetch-2.ensures.fetch in
    record {
      looked = and_read (with_head (with_head m Own c.fetch.new.self) Incoming c.fetch-2.new.self) two Sample c.fetch-3.new.self tt c.in_ok-fetch-3.ensures.fetch;
      fetched = record { own = c.in_ok-fetch.ensures.fetch.fetches.0; incoming = c.in_ok-fetch-2.ensures.fetch.fetches.0; sample = c.in_ok-fetch-3.ensures.fetch.fetches.0 };
      asked = c.choice.ensures.choice;
      suits = c.choice.ensures.suits;
    }
