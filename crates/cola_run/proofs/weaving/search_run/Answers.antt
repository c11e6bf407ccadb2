-- Behind a turn the window is that of the block that the buffer of searches holds, and the turn is that of a read of the first cell.
use Rattle.std.proofs.Common.{Bool, false, List, ℕ, Option, Result, Err, refl, sym, subst, arith}
use Rattle.cola_cell.specs.declared.fault.ReadFault.{ReadFault}
use Rattle.cola_cell.specs.declared.fault.ReadFault.TheVariants.{Device}
use Rattle.cola_run.specs.Weaving.{IsBelow, ScansThere, as_read}
use Rattle.cola_run.proofs.Searching.{not-device}
use Rattle.cola_run.proofs.weaving.search_run.Goals as goal

scans : (g : _) (c : goal.After-search_in-in-Ok g) → ScansThere g.S.WindowSearch.sought g.D.Device.lends (g.D.Device.bytes c.args.buffers.now.cache.device) c.args.geometry.now c.args.front.now c.args.reach
    c.args.search.now c.search_in-in-Ok.new.search c.args.probe.now c.search_in-in-Ok.result
scans g c =
    let geometry = c.args.geometry.now in
    let told = g.D.Device.bytes c.args.buffers.now.cache.device in
    let window = c.window_held-window.result in
    let below : IsBelow g.D.Device.lends told geometry c.args.reach window.bytes.now window.is_last =
    subst (λ (b : Bool). IsBelow b told geometry c.args.reach window.bytes.now window.is_last) (sym (c.in_default.ensures.none refl))
    (subst (λ (t : Option (List ℕ)). IsBelow false t geometry c.args.reach window.bytes.now window.is_last) c.turn_for_search.ensures.keeps.bytes_stay c.window_held-window.ensures) in
    c.search_in-in-Ok.ensures g.D.Device.lends told c.args.front.now (record { below = λ _. below; in_front = λ low. absurd (omega (arith, low, c.in_default.ensures.whole refl)) })

pub returns-in-Ok-clause-runs : goal.returns-in-Ok-clause-runs
returns-in-Ok-clause-runs g c = λ _. scans g c

pub returns-in-Ok-clause-calm : goal.returns-in-Ok-clause-calm
returns-in-Ok-clause-calm g c = λ has.
    let still = c.turn_for_search.ensures.calm (has c.requires.some (c.in_default.ensures.whole refl) (c.in_default.ensures.none refl)) in (
      still.0,
      λ e. subst (λ (r : Result ℕ ReadFault). ScansThere g.S.WindowSearch.sought g.D.Device.lends (g.D.Device.bytes c.args.buffers.now.cache.device) c.args.geometry.now c.args.front.now c.args.reach
          c.args.search.now c.search_in-in-Ok.new.search c.args.probe.now r) e (scans g c),
    )

pub returns-in-Ok-clause-turns : goal.returns-in-Ok-clause-turns
returns-in-Ok-clause-turns g c = λ cell.
    c.in-Ok.ensures.turns (as_read cell c.search_in-in-Ok.result)
    (not-device g.S.WindowSearch.sought g.D.Device.lends (g.D.Device.bytes c.args.buffers.now.cache.device) c.args.geometry.now c.args.front.now c.args.reach
    c.args.search.now c.search_in-in-Ok.new.search c.args.probe.now cell c.search_in-in-Ok.result (scans g c))

pub returns-in-Err-clause-turns : goal.returns-in-Err-clause-turns
returns-in-Err-clause-turns g c = λ cell. c.in-Err.ensures.turns (Err Device) refl
