use Rattle.std.proofs.Common.{◌≡◌, ◌<◌, ◌-◌, [], ◌∷◌, ◌++◌, take, length, Some, None, false, nat_eq, min, refl, ap, sym, ◌∙◌, subst, arith, append-nil}
use Rattle.std.proofs.lemmas.Bool.{eqb-true, false≢true}
use Rattle.std.proofs.lemmas.List.{take_all}
use Rattle.cola_io.specs.Buffered.{HasNoFeed}
use Rattle.cola_io.specs.Streams.{Taken}
use Rattle.cola_io.specs.Reads.{bytes_read}
use Rattle.cola_io.proofs.StreamLemmas.{Taken-none, Taken-then}
use Rattle.cola_io.proofs.Going.{Going, Gathered, going_first, going_found, found_going, going_gathered, gathered_last, gathered_budget, gathered_fault, gathered_fill}
use Rattle.cola_io.proofs.Asking.{Asking, asking_first, asking_read, asks_done, asks_refused, finished_no_fault, last_no_fault}
use Rattle.cola_io.proofs.line_reader.LineReader.next_line.Goals as goal

pub loop-next-init : goal.loop-next-init
loop-next-init g c = record {
  reads = [];
  was_read = refl;
  taken = Taken-none _;
  at_end = λ e. absurd (false≢true e);
  asking = asking_first c.args.self.now c.self.inside.ended (ap (λ r. r.ended) c.self.view_is);
  going = going_first c.args.self.now c.self.inside.buffer c.forget.new.self c.self.inside.ended c.self.inside.allowed c.self.view_is c.self.invariant.0 c.self.invariant.1 c.forget.ensures;
  no_line = ap (λ b. b.line) c.forget.ensures;
  faults = refl;
}

pub invariant_of-self : goal.invariant_of-self
invariant_of-self g c =
    let inside = c.loop-next.self-inside in
    let cut = c.in-Some.ensures.found in
    let going : inside.ended ≡ false = found_going _ _ inside.ended inside.allowed inside.buffer c.take_line.new.self c.in-Some.next c.loop-next.invariant.going cut in
    (subst HasNoFeed (sym cut.nothing_begun) no_bytes, λ e. absurd (false≢true (sym going ∙ e)))
  where
    no_bytes : HasNoFeed []
    no_bytes = λ k d h. absurd (omega (arith, h))

pub returns-in-Some-clause-lines : goal.returns-in-Some-clause-lines
returns-in-Some-clause-lines g c =
    let inside = c.loop-next.self-inside in
    let kept = c.loop-next.invariant in
    let cut = c.in-Some.ensures.found in
    record {
      reads = kept.reads;
      was_read = kept.was_read;
      took = kept.taken;
      at_end = kept.at_end;
      asks = asks_done c.args.self.now kept.reads inside.ended c.in-Some.next _ kept.asking refl (finished_no_fault cut.raw c.in-Some.next _ cut.finished);
      line = going_found _ _ inside.ended inside.allowed inside.buffer c.take_line.new.self c.in-Some.next kept.going cut;
    }

pub returns-then-self-clause-lines : goal.returns-then-self-clause-lines
returns-then-self-clause-lines g c =
    let inside = c.loop-next.self-inside in
    let kept = c.loop-next.invariant in
    let gathered = going_gathered _ _ inside.ended inside.allowed inside.buffer c.take_line.new.self kept.going c.in_default.ensures.none c.in_default.ensures.kept in
    record {
      reads = kept.reads;
      was_read = kept.was_read;
      took = kept.taken;
      at_end = kept.at_end;
      asks = asks_done c.args.self.now kept.reads inside.ended c.take_last.result _ kept.asking refl (last_no_fault c.take_line.new.self.begun c.take_last.result _ c.take_last.ensures.finished);
      line = gathered_last _ _ _ inside.ended inside.allowed c.take_last.new.self c.take_last.result gathered c.if-self.true c.take_last.ensures.finished c.take_last.ensures.begun c.take_last.ensures.rest;
    }

pub invariant_of-self-then-self-eq0 : goal.invariant_of-self-then-self-eq0
invariant_of-self-then-self-eq0 g c =
    let inside = c.loop-next.self-inside in
    let gathered = going_gathered _ _ inside.ended inside.allowed inside.buffer c.take_line.new.self c.loop-next.invariant.going c.in_default.ensures.none c.in_default.ensures.kept in
    (gathered.begun_no_feed, λ e. absurd (false≢true (sym c.if-self.false ∙ e)))

pub returns-then-self-eq0-clause-lines : goal.returns-then-self-eq0-clause-lines
returns-then-self-eq0-clause-lines g c =
    let inside = c.loop-next.self-inside in
    let kept = c.loop-next.invariant in
    let now = c.in_default.ensures.kept in
    let gathered = going_gathered _ _ inside.ended inside.allowed inside.buffer c.take_line.new.self kept.going c.in_default.ensures.none now in
    record {
      reads = kept.reads;
      was_read = kept.was_read;
      took = kept.taken;
      at_end = kept.at_end;
      asks = asks_done c.args.self.now kept.reads inside.ended _ _ kept.asking refl refl;
      line = gathered_budget _ _ _ _ inside.ended inside.allowed _ gathered c.if-self.false (ap (λ b. b.line) now) (ap (λ b. b.rest) now) c.if-self-eq0.true;
    }

pub loop-next-preserved : goal.loop-next-preserved
loop-next-preserved g c =
    let inside = c.loop-next.self-inside in
    let kept = c.loop-next.invariant in
    let old = c.args.self.now in
    let now = c.in_default.ensures.kept in
    let gathered = going_gathered _ _ inside.ended inside.allowed inside.buffer c.take_line.new.self kept.going c.in_default.ensures.none now in
    let some : 0 < inside.allowed = omega (arith, c.if-self-eq0.false) in
    let filled = c.in-Ok.ensures.kept in
    let rest = c.fill.new.self.rest in
    let amount : length rest ≡ c.in-Ok.count = c.in-Ok.ensures.bytes.0 in
    let whole : take c.in-Ok.count rest ≡ rest = take_all _ _ (omega (arith, amount)) in
    record {
      reads = (record { asked = min 512 inside.allowed; gave = Some rest }) ∷ kept.reads;
      was_read = (c.loop-next.source, kept.was_read, subst (λ t. g.S.Source.reads c.loop-next.source (min 512 inside.allowed) (Some t) c.fill.new.source) whole c.in-Ok.ensures.once);
      taken = Taken-then _ _ _ _ _ kept.taken c.in-Ok.ensures.taken;
      at_end = λ e. c.in-Ok.ensures.end (sym amount ∙ eqb-true (length rest) 0 e);
      asking = asking_read old kept.reads c.take_line.new.self.begun rest inside.allowed _ c.in-Ok.count (subst (Asking old kept.reads) c.if-self.false kept.asking)
          (subst (λ b. Gathered old (bytes_read kept.reads) c.take_line.new.self.begun b inside.allowed) c.if-self.false gathered) some refl amount;
      going =
          subst (λ t. Going old (bytes_read kept.reads ++ rest) t rest (nat_eq c.in-Ok.count 0) (inside.allowed - c.in-Ok.count)) (sym (ap (λ b. b.begun) filled))
          (gathered_fill _ _ _ rest inside.ended inside.allowed c.in-Ok.count gathered c.if-self.false some amount c.in-Ok.ensures.bytes.1);
      no_line = ap (λ b. b.line) filled ∙ ap (λ b. b.line) now;
      faults = c.in-Ok.ensures.faults_counted ∙ kept.faults;
    }

pub invariant_of-self-in-Err : goal.invariant_of-self-in-Err
invariant_of-self-in-Err g c =
    let inside = c.loop-next.self-inside in
    let gathered = going_gathered _ _ inside.ended inside.allowed inside.buffer c.take_line.new.self c.loop-next.invariant.going c.in_default.ensures.none c.in_default.ensures.kept in
    (subst HasNoFeed (sym (ap (λ b. b.begun) c.in-Err.ensures.kept)) gathered.begun_no_feed, λ e. absurd (false≢true (sym c.if-self.false ∙ e)))

pub returns-in-Err-clause-lines : goal.returns-in-Err-clause-lines
returns-in-Err-clause-lines g c =
    let inside = c.loop-next.self-inside in
    let kept = c.loop-next.invariant in
    let old = c.args.self.now in
    let now = c.in_default.ensures.kept in
    let gathered = going_gathered _ _ inside.ended inside.allowed inside.buffer c.take_line.new.self kept.going c.in_default.ensures.none now in
    let some : 0 < inside.allowed = omega (arith, c.if-self-eq0.false) in
    let failed = c.in-Err.ensures.kept in
    let same : bytes_read kept.reads ++ [] ≡ bytes_read kept.reads = append-nil (bytes_read kept.reads) in
    record {
      reads = (record { asked = min 512 inside.allowed; gave = None }) ∷ kept.reads;
      was_read = (c.loop-next.source, kept.was_read, c.in-Err.ensures.once);
      took = subst (λ t. Taken t (g.S.Source.left c.args.source.now) (g.S.Source.left c.fill.new.source)) (sym same)
          (subst (Taken (bytes_read kept.reads) (g.S.Source.left c.args.source.now)) (sym c.in-Err.ensures.err.1) kept.taken);
      at_end = λ e. absurd (false≢true e);
      asks = asks_refused old kept.reads c.take_line.new.self.begun inside.allowed _ _ (subst (Asking old kept.reads) c.if-self.false kept.asking)
          (subst (λ b. Gathered old (bytes_read kept.reads) c.take_line.new.self.begun b inside.allowed) c.if-self.false gathered) some refl c.if-self.false;
      line = gathered_fault _ _ _ _ inside.ended inside.allowed _
          (subst (λ t. Gathered old t c.fill.new.self.begun inside.ended inside.allowed) (sym same) (subst (λ t. Gathered old (bytes_read kept.reads) t inside.ended inside.allowed) (sym (ap (λ b. b.begun) failed)) gathered))
          c.if-self.false (ap (λ b. b.line) failed ∙ ap (λ b. b.line) now) c.in-Err.ensures.err.0 some;
    }
