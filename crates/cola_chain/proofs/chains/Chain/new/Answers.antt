use Rattle.std.proofs.Common.{◌≡◌, true, List, length, sym, ap, subst, ◌∙◌, arith}
use Rattle.std.specs.Prelude.{IfSome}
use Rattle.arrayvec.specs.declared.array_vec.ArrayVec.{ArrayVec}
use Rattle.cola_layout.specs.declared.marks.Marks.{Marks}
use Rattle.cola_layout.specs.Marks.{all_numbers}
use Rattle.cola_level.specs.declared.level.Level.{Level}
use Rattle.cola_level.specs.Marks.{all_marks_of}
use Rattle.cola_mutation.specs.Levels.{IsChain, levels_with}
use Rattle.cola_mutation.proofs.Beginning.{marks_back}
use Rattle.cola_run.specs.Store as run
use Rattle.cola_chain.specs.Account.{ArePaid, sums_of}
use Rattle.cola_chain.specs.Files.{StandsForFile}
use Rattle.cola_chain.proofs.Account.{paid-begins}
use Rattle.cola_chain.proofs.Beginning.{chain-begins, all-saved, stands-begin}
use Rattle.cola_chain.proofs.chains.Chain.new.Goals as goal

levels-are : (g : _) (c : goal.After-with g) → c.with.result.value.items ≡ levels_with (all_numbers c.args.header.now.levels.items)
levels-are g c = ap (λ (a : ArrayVec Level 23 Unit). a.items) c.with.ensures ∙ c.levels_of.ensures ∙ ap (λ (ms : List Marks). levels_with (all_numbers ms)) c.as_slice.ensures.value

chain : (g : _) (c : goal.After-with g) → IsChain (run.held_of g.D.Device.bytes c.args.runs) c.args.header.now.clock c.with.result.value.items
chain g c = subst (λ (ls : List Level). IsChain (run.held_of g.D.Device.bytes c.args.runs) c.args.header.now.clock ls) (sym (levels-are g c)) (chain-begins g.D.Device.bytes c.args.header.now c.args.runs _ c.requires.geometry c.requires.loaded)

paid : (g : _) (c : goal.After-with g) →
    ArePaid (run.held_of g.D.Device.bytes c.args.runs).fixed.doublings 0 c.args.header.now.clock c.with.result.value.items (sums_of (run.held_of g.D.Device.bytes c.args.runs) (run.spent_of g.D.Device.counts c.args.runs) 0 0)
paid g c =
    let e = ap (λ (ls : List Level). length ls) (levels-are g c) in
    paid-begins (run.held_of g.D.Device.bytes c.args.runs) (run.spent_of g.D.Device.counts c.args.runs) c.args.header.now.clock c.with.result.value.items (chain g c)
    (λ l h. all-saved g.D.Device.bytes c.args.header.now c.args.runs _ c.requires.geometry c.requires.loaded l (omega (arith, e, h)))

pub invariant_of-result : goal.invariant_of-result
invariant_of-result g c = record { stands = chain g c; paid = λ counted. record { paid = paid g c } }

pub returns-clause-marks : goal.returns-clause-marks
returns-clause-marks g c = ap (λ (ls : List Level). all_marks_of ls) (levels-are g c) ∙ marks_back (all_numbers c.args.header.now.levels.items)

pub returns-clause-paid : goal.returns-clause-paid
returns-clause-paid g c = record { paid = paid g c }

pub returns-clause-stands : goal.returns-clause-stands
returns-clause-stands g c =
    subst (λ (ls : List Level). IfSome (g.D.Device.bytes (run.device_of c.args.runs))
    (StandsForFile g.D.Device.bytes (record { store = c.args.runs; levels = ls; clock = c.args.header.now.clock; accepted = 0; reads = 0; writes = 0; counted = true }) c.args.header.now)) (sym (levels-are g c))
    (stands-begin g.D.Device.bytes c.args.header.now c.args.runs _ c.requires.geometry c.requires.loaded)
