use Rattle.std.proofs.Common.{◌≡◌, ◌∙◌, ap, sym, drop, take, Some}
use Rattle.std.specs.List.{position}
use Rattle.std.proofs.lemmas.List.{drop-drop}
use Rattle.std.proofs.lemmas.List.Quantifiers.{position-Some}
use Rattle.cola_spec.specs.Lines.{is_line_feed}
use Rattle.cola_io.specs.Buffered.{line_held, part_held}
use Rattle.cola_io.proofs.BufferLemmas.{cut_off, unseen, room_for_feed}
use Rattle.cola_io.proofs.buffer.Buffer.take_line.Goals as goal
use Rattle.cola_io.proofs.buffer.Buffer.take_line.Goals.{In-Some}

-- the first line feed among the bytes that were not looked at
found : (c : In-Some) → position is_line_feed c.args.self.now.rest ≡ Some c.in-Some.at
found c =
    let inside = c.self.inside in
    ap (position is_line_feed) (sym (ap (λ b. b.rest) c.self.view_is) ∙ sym (unseen inside.chunk inside.from inside.to c.self.invariant.0)) ∙ sym c.in-Some.ensures.found

pub invariant_of-self : goal.invariant_of-self
invariant_of-self c =
    let inside = c.self-in-Some.inside in
    let feed = position-Some is_line_feed c.args.self.now.rest c.in-Some.at 0 (found ((goal.at.invariant_of-self c).In-Some)) in
    (room_for_feed inside.chunk c.args.self.now.rest inside.from inside.to c.in-Some.at (ap (λ b. b.rest) (c.self-in-Some.view_is ∙ c.gather.ensures)) feed.0, c.self-in-Some.invariant.1, c.self-in-Some.invariant.2)

pub returns-in-Some-clause-found : goal.returns-in-Some-clause-found
returns-in-Some-clause-found c =
    let inside = c.self-in-Some.inside in
    cut_off c.args.self.now
    (record { line = line_held inside.held inside.bytes.items; begun = part_held inside.held inside.bytes.items; rest = drop inside.from (take inside.to inside.chunk) })
    c.finish.new.self c.finish.result c.in-Some.at c.requires.no_feed (found ((goal.at.returns-in-Some-clause-found c).In-Some))
    (ap (λ b. b.begun) (c.self-in-Some.view_is ∙ c.gather.ensures)) (ap (λ b. b.rest) (c.self-in-Some.view_is ∙ c.gather.ensures)) c.finish.ensures.finished
    c.finish.ensures.begun (c.finish.ensures.rest ∙ sym (drop-drop 1 inside.from (take inside.to inside.chunk)))
