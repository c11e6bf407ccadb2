use Rattle.std.proofs.Common.{ℕ, List, ap, ◌∙◌}
use Rattle.cola_front.specs.Front.{places_in, stored_all, second_block}
use Rattle.cola_front.proofs.Places.{second_stored}
use Rattle.cola_front.proofs.Stored.{sound_of}
use Rattle.cola_front.proofs.front.Front.put_second.Goals as goal

pub returns-clause-put : goal.returns-clause-put
returns-clause-put c =
    let i = c.self.inside in
    c.put_cells.ensures.put
    ∙ (ap (λ (xs : List ℕ). stored_all i.format (places_in i.format xs i.block i.block)) c.deref.ensures.value
    ∙ (ap (stored_all i.format) (second_stored i.format i.block i.bytes.items.items)
    ∙ ap second_block c.self.view_is))

pub returns-clause-sound : goal.returns-clause-sound
returns-clause-sound c = let i = c.self.inside in sound_of i.format i.block i.bytes.items.items c.args.self.now c.self.view_is c.self.invariant
