use Rattle.std.proofs.Common.{◌≡◌, ◌∙◌, inl, inr, ℕ, List, Option, Ok, Err, sym, ap, subst}
use Rattle.cola_outside.specs.Faults.{Rose}
use Rattle.cola_outside.specs.Told.{Both}
use Rattle.cola_cell.specs.declared.fault.ReadFault.{ReadFault}
use Rattle.cola_cell.specs.Spent.{ReadCalm}
use Rattle.cola_cell.specs.declared.sink.Shadow.{Shadow}
use Rattle.cola_device.specs.declared.device.DeviceFault.{DeviceFault}
use Rattle.cola_image.specs.Standing.{with_state}
use Rattle.cola_run.specs.Store.{Kept}
use Rattle.cola_run.specs.Saving.{LoadAnswers}
use Rattle.cola_store.proofs.Marking.{marked, left-state, load-spends, both-spend, marked-spots}
use Rattle.cola_store.proofs.opening.load_and_mark.Goals as goal

pub load-requires : goal.load-requires
load-requires g c = c.requires

pub returns-in-Ok-mark_in_use-clause-loaded : goal.returns-in-Ok-mark_in_use-clause-loaded
returns-in-Ok-mark_in_use-clause-loaded g c =
    let d = g.D.Device in
    let told = d.bytes in
    let before = c.args.runs.now in
    let mid = c.load.new.self in
    let now = c.mark_in_use.new.self in
    record {
      spelled = c.in-Ok.ensures.answer;
      marked = subst (λ (t : Option (List ℕ)). Both t (told now.buffers.cache.device) (λ old new. new ≡ with_state 1 old)) c.load.ensures.bytes_stay
          (marked DeviceFault c.in-Ok-mark_in_use.field-0 (told mid.buffers.cache.device) (told now.buffers.cache.device) c.in-Ok-mark_in_use.ensures.wrote);
      settled = c.in-Ok-mark_in_use.ensures.settled;
      geometry = c.mark_in_use.ensures.geometry ∙ ap (λ (k : Kept _). k.geometry) c.load.ensures.kept ∙ sym c.requires;
      spots = marked-spots d c.args.header.now before mid now c.in-Ok.ensures.loaded.spots c.mark_in_use.ensures.cells_stay;
      shadows = λ level within. ap (λ (f : ℕ → Shadow). f level) c.mark_in_use.ensures.shadows ∙ c.in-Ok.ensures.loaded.shadows level within;
      blocks = c.mark_in_use.ensures.cache ∙ ap (λ (k : Kept _). k.cache) c.load.ensures.kept;
      made = c.mark_in_use.ensures.fixed ∙ c.load.ensures.fixed;
      ticks = c.mark_in_use.ensures.ticked ∙ c.load.ensures.ticked;
      spends = both-spend d c.args.header.now before mid now (Ok c.in-Ok.field-0) (Ok c.in-Ok-mark_in_use.field-0) c.requires c.in-Ok.ensures.spends c.in-Ok-mark_in_use.ensures.counts;
      no_fault = c.in-Ok-mark_in_use.ensures.counts.none_hidden ∙ c.in-Ok.ensures.spends.calm;
    }

pub returns-in-Ok-mark_in_use-clause-kept : goal.returns-in-Ok-mark_in_use-clause-kept
returns-in-Ok-mark_in_use-clause-kept g c = c.mark_in_use.ensures.kept ∙ ap (λ (k : Kept _). k.device) c.load.ensures.kept

pub returns-in-Err-clause-loaded : goal.returns-in-Err-clause-loaded
returns-in-Err-clause-loaded g c =
    let d = g.D.Device in
    let told = d.bytes in
    let before = c.args.runs.now in
    let mid = c.load.new.self in
    let now = c.mark_in_use.new.self in (
      subst (λ (n : ℕ). Rose n (d.counts now.buffers.cache.device).faults) c.in-Ok.ensures.spends.calm c.in-Err.ensures.counts.cause,
      inr (record {
        spelled = c.in-Ok.ensures.answer;
        left = subst (λ (t : Option (List ℕ)). Both t (told now.buffers.cache.device) (λ old new. (state : ℕ) × (new ≡ with_state state old))) c.load.ensures.bytes_stay
            (left-state {T = Unit {0}} {E = DeviceFault} (Err c.in-Err.field-0) (told mid.buffers.cache.device) (told now.buffers.cache.device) c.in-Err.ensures.wrote);
        spends = both-spend d c.args.header.now before mid now (Ok c.in-Ok.field-0) (Err c.in-Err.field-0) c.requires c.in-Ok.ensures.spends c.in-Err.ensures.counts;
      }),
    )

pub returns-in-Err-clause-kept : goal.returns-in-Err-clause-kept
returns-in-Err-clause-kept g c = c.mark_in_use.ensures.kept ∙ ap (λ (k : Kept _). k.device) c.load.ensures.kept

pub returns-in-Err-Device-clause-loaded : goal.returns-in-Err-Device-clause-loaded
returns-in-Err-Device-clause-loaded g c =
    let d = g.D.Device in
    let before = c.args.runs.now.buffers.cache.device in
    let now = c.load.new.self.buffers.cache.device in
    let answer = subst (λ (f : ReadFault). LoadAnswers c.args.header.now (d.bytes before) (d.counts before).faults (d.counts now).faults (Err f)) c.in-Err-Device.field-0-is c.in-Err-Device.ensures.answer in (
      answer,
      inl (record {
        bytes_stay = c.load.ensures.bytes_stay;
        spends = load-spends d c.args.header.now c.args.runs.now c.load.new.self c.load.new.self (Err c.in-Err-Device.field-0) c.requires c.in-Err-Device.ensures.spends;
      }),
    )

pub returns-in-Err-Device-clause-kept : goal.returns-in-Err-Device-clause-kept
returns-in-Err-Device-clause-kept g c = ap (λ (k : Kept _). k.device) c.load.ensures.kept

pub returns-in-Err-BadCell-clause-loaded : goal.returns-in-Err-BadCell-clause-loaded
returns-in-Err-BadCell-clause-loaded g c =
    let d = g.D.Device in
    let before = c.args.runs.now.buffers.cache.device in
    let now = c.load.new.self.buffers.cache.device in
    let answer = subst (λ (f : ReadFault). LoadAnswers c.args.header.now (d.bytes before) (d.counts before).faults (d.counts now).faults (Err f)) c.in-Err-BadCell.field-0-is c.in-Err-BadCell.ensures.answer in
    let calm = subst (λ (f : ReadFault). ReadCalm {T = Unit {0}} (d.counts before).faults (d.counts now).faults (Err f)) c.in-Err-BadCell.field-0-is c.in-Err-BadCell.ensures.spends.calm in
    record {
      why_is = answer;
      bytes_stay = c.load.ensures.bytes_stay;
      spends = load-spends d c.args.header.now c.args.runs.now c.load.new.self c.load.new.self (Err c.in-Err-BadCell.field-0) c.requires c.in-Err-BadCell.ensures.spends;
      no_fault = calm;
    }

pub returns-in-Err-BadCell-clause-kept : goal.returns-in-Err-BadCell-clause-kept
returns-in-Err-BadCell-clause-kept g c = ap (λ (k : Kept _). k.device) c.load.ensures.kept
