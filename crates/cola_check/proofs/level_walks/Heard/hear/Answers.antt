use Rattle.std.proofs.Common.{◌≡◌, ◌≤◌, sym, subst, ◌∙◌, arith}
use Rattle.cola_check.proofs.Common.{Held, looks_then, said_of, said_or, unread, found_of, Fetches}
use Rattle.cola_check.proofs.Fronts.{unread_behind, has_room, hearing_goes_on, hearing_ends, turns_then}
use Rattle.cola_check.proofs.RunBlocks.{reads-then}
use Rattle.cola_check.proofs.level_walks.Heard.hear.Goals as goal

pub loop-self-preserved : goal.loop-self-preserved
loop-self-preserved g c =
    let i = c.loop-self.invariant in
    let has = sym c.has_key.ensures ∙ c.loop-self-test.true in
    let walk = c.loop-self.self.walk in
    let F : Held → Type 0 = λ h. Fetches h c.advance.new.self c.fetch.new.self in
    let said : c.or-said.result ≡ said_or c.loop-self.said (said_of (found_of walk.head)) = cc (c.or-said.ensures, c.front.ensures) in
    let behind : unread c.advance.new.self ≤ unread walk = unread_behind walk c.advance.new.self c.advance.ensures.run c.advance.ensures.at c.advance.ensures.head in
    let passing = i.hearing.passing in
    record {
      looks = looks_then i.looks c.in_ok-fetch.ensures.looks;
      turns = turns_then i.turns c.in_ok-fetch.ensures.reads.turns;
      unread = let l = i.unread in omega (arith, c.in_ok-fetch.ensures.reads.unread);
      blocks = reads-then i.blocks passing.run_is passing.reader_is c.advance.ensures.run c.advance.ensures.reader c.advance.ensures.at (has_room c.args.key.now passing.fits has) c.in_ok-fetch.ensures.blocks;
      hearing = hearing_goes_on i.hearing has c.advance.ensures.run c.advance.ensures.reader c.advance.ensures.at said (subst F i.looks.cells_stay c.in_ok-fetch.ensures.fetches);
    }

pub returns-clause-hears : goal.returns-clause-hears
returns-clause-hears g c = hearing_ends c.loop-self.invariant.hearing (sym c.has_key.ensures ∙ c.loop-self-test.false)
