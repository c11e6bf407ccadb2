use Rattle.std.proofs.Common.{◌*◌, ℕ, List, ap, ◌∙◌}
use Rattle.cola_cell.specs.Format.{width}
use Rattle.cola_device.specs.Bytes.{part}
use Rattle.cola_front.proofs.Stored.{sound_of, window_shown}
use Rattle.cola_front.proofs.front.Front.window.Goals as goal

pub returns-clause-shown : goal.returns-clause-shown
returns-clause-shown c = λ n below.
    let i = c.self.inside in
    window_shown i.format i.block i.bytes.items.items c.args.self.now c.self.view_is c.cells_in.result.now c.args.place c.args.count n
    (c.cells_in.ensures ∙ ap (λ (xs : List ℕ). part xs (width i.format * c.args.place) (width i.format * c.args.count)) c.deref.ensures.value) c.requires.behind_header c.requires.within below

pub returns-clause-sound : goal.returns-clause-sound
returns-clause-sound c = let i = c.self.inside in sound_of i.format i.block i.bytes.items.items c.args.self.now c.self.view_is c.self.invariant
