use Rattle.std.proofs.Common.{◌≡◌, ◌==◌, Some, None, sym, ◌∙◌, subst, refl, rules}
use Rattle.std.proofs.lemmas.Bool.{and_parts, eqb-true}
use Rattle.cola_cache.specs.Blocks.{to_copy}
use Rattle.cola_cache.specs.Order.{IsAbsent}
use Rattle.cola_cache.proofs.BlocksLemmas.{copies-borrowed, copies-lent, shared-turned, since-touched, used-none}
use Rattle.cola_cache.proofs.buffers.turn.Goals as goal

pub returns-in-Some-clause-turned : goal.returns-in-Some-clause-turned
returns-in-Some-clause-turned g c = record {
  ok = refl;
  err = tt;
  copies = rw c.touch.ensures.device (copies-borrowed (to_copy g.D.Device.lends (g.D.Device.bytes c.args.device.now.device)) c.args.copies.now c.args.lasts.now c.args.shares.now c.args.buffer c.in-Some.frame c.args.size (Some c.args.block) c.requires.there c.requires.copies_are);
  shared = shared-turned c.touch.new.self.held c.args.lasts.now c.args.shares.now c.args.buffer (Some c.args.block) (Some c.in-Some.frame) c.requires.there c.requires.copies_are.shares_too
      (λ block is some absent. let same : block ≡ c.args.block = cc in c.in-Some.ensures.some (subst (λ b. IsAbsent b c.args.device.now.held) same (c.touch.ensures.stay block absent)))
      (λ other block is borrowed absent. c.requires.shared other block is borrowed (c.touch.ensures.stay block absent));
  read = search rules;
  since = λ many made less since. rw (c.touch.ensures.settings.0, c.touch.ensures.device)
      (since-touched many c.args.device.now.blocks c.args.block c.args.device.now.held c.touch.new.self.held made (g.D.Device.counts c.args.device.now.device) c.touch.ensures.held c.touch.ensures.as_many less since);
}

pub returns-then-is_lent-clause-turned : goal.returns-then-is_lent-clause-turned
returns-then-is_lent-clause-turned g c =
    let lent = and_parts g.D.Device.lends (c.args.device.now.blocks == 0) (sym c.is_lent.ensures.is ∙ c.if-is_lent.true) in record {
      ok = refl;
      err = tt;
      copies = copies-lent g.D.Device.lends (g.D.Device.bytes c.args.device.now.device) c.args.copies.now c.args.lasts.now c.args.shares.now c.args.buffer (Some c.args.block) c.args.size lent.0 c.requires.copies_are;
      shared = shared-turned c.args.device.now.held c.args.lasts.now c.args.shares.now c.args.buffer (Some c.args.block) None c.requires.there c.requires.copies_are.shares_too (λ block is some absent. some refl) c.requires.shared;
      read = record {
        held = used-none c.args.device.now.blocks c.args.block c.args.device.now.held (eqb-true c.args.device.now.blocks 0 lent.1) (c.is_lent.ensures.held c.if-is_lent.true);
        hit = λ present. (refl, refl);
        bytes_stay = refl;
        kept = refl;
        counts = search rules;
        blocks = refl;
        size = refl;
      };
      since = λ many made less since. since;
    }
