use Rattle.std.proofs.Common.{◌≡◌, ◌≤◌, sym, subst, ◌∙◌, arith}
use Rattle.cola_check.proofs.Common.{Held, looks_then, Found, unread, found_or, found_of, Fetches}
use Rattle.cola_check.proofs.Fronts.{Passing, passing_goes_on, passing_ends, unread_behind, has_room, turns_then}
use Rattle.cola_check.proofs.RunBlocks.{reads-then}
use Rattle.cola_check.proofs.walk.Walk.pass.Goals as goal

pub loop-self-preserved : goal.loop-self-preserved
loop-self-preserved g c =
    let i = c.loop-self.invariant in
    let has = sym c.has_key.ensures ∙ c.loop-self-test.true in
    let F : Held → Type 0 = λ h. Fetches h c.advance.new.self c.fetch.new.self in
    let P : Found → Type 0 = λ x. Passing (g.W.CellSource.state c.args.work.now).held c.args.key.now c.args.self.now c.fetch.new.self x in
    let found : found_or c.loop-self.found (found_of c.loop-self.self.head) ≡ c.or-found.result = cc (c.or-found.ensures, c.found.ensures) in
    let behind : unread c.advance.new.self ≤ unread c.loop-self.self = unread_behind c.loop-self.self c.advance.new.self c.advance.ensures.run c.advance.ensures.at c.advance.ensures.head in
    record {
      looks = looks_then i.looks c.in_ok-fetch.ensures.looks;
      turns = turns_then i.turns c.in_ok-fetch.ensures.reads.turns;
      unread = let l = i.unread in omega (arith, c.in_ok-fetch.ensures.reads.unread);
      blocks = reads-then i.blocks i.passing.run_is i.passing.reader_is c.advance.ensures.run c.advance.ensures.reader c.advance.ensures.at (has_room c.args.key.now i.passing.fits has) c.in_ok-fetch.ensures.blocks;
      passing = subst P found
          (passing_goes_on i.passing has c.advance.ensures.run c.advance.ensures.reader c.advance.ensures.at (subst F i.looks.cells_stay c.in_ok-fetch.ensures.fetches));
    }

pub returns-clause-passes : goal.returns-clause-passes
returns-clause-passes g c = passing_ends c.loop-self.invariant.passing (sym c.has_key.ensures ∙ c.loop-self-test.false)
