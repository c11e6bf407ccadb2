use Rattle.std.proofs.Common.{◌≡◌, false, List, ◌∷◌, [], ◌++◌, map, get_or, Result, Ok, Err, refl, sym, ap, subst, ◌∙◌, arith}
use Rattle.std.proofs.lemmas.List.{take_more, map-append}
use Rattle.std.specs.List.{AllByRecursion}
use Rattle.arrayvec.specs.declared.array_vec.ArrayVec.{ArrayVec}
use Rattle.cola_cell.specs.declared.cell.Run.{Run}
use Rattle.cola_cell.specs.declared.fault.ReadFault.{ReadFault}
use Rattle.cola_cell.specs.Held.{Held, LawCell}
use Rattle.cola_cell.specs.Listed.{IsRun}
use Rattle.cola_cell.specs.Order.{key_cmp}
use Rattle.cola_cell.proofs.CostsLemmas.{costs_then, costs_within}
use Rattle.cola_look.specs.Outcome.{Found, Answers}
use Rattle.cola_look.specs.Runs.{HasRun}
use Rattle.cola_look.specs.Seek.{as_seat, found_in}
use Rattle.cola_look.specs.declared.seeking.Seat.{Seat}
use Rattle.cola_cursor.specs.Turning.{sought, line_at}
use Rattle.cola_runs.specs.Search as laws
use Rattle.cola_look.proofs.Looking.{err_is, looks_as, looks_then, looks_refused}
use Rattle.cola_cursor.specs.declared.line.Line.{Line}
use Rattle.cola_cursor.specs.Lines.{LineFits}
use Rattle.cola_cursor.specs.Standing.{runs_of}
use Rattle.cola_cursor.specs.Seeking.{RunsCause, places_of, places_told}
use Rattle.cola_cursor.proofs.Lists.{refused, length_push, all_at}
use Rattle.cola_cursor.proofs.Readings.{reading_then}
use Rattle.cola_cursor.proofs.Beginning.{reading_of, line_fits, all_append, places_next, places_whole, left_more, bad_run}
use Rattle.cola_cursor.proofs.Searched.{told_next, told_refused, told_whole, two_at_most}
use Rattle.cola_cursor.proofs.starts.seek_lines.Goals as goal

pub loop-i-preserved : goal.loop-i-preserved
loop-i-preserved g c =
    let i = c.loop-i.invariant in
    let held : Held = (g.W.CellSource.state c.args.work.now).held in
    let runs = c.args.runs.now in
    let n = c.loop-i.i in
    let d : Run = record { level = 0; slot = 0; len = 0 } in
    let line : Line = line_at (get_or runs n d) c.in_ok-stop.stop.place in
    let seat : Seat = record { pos = c.in_ok-stop.stop.place; hit = c.in_ok-stop.ensures.stops.hit; link = c.in_ok-stop.stop.link } in
    let key = sought c.args.over c.args.key.now in
    let ens = c.in_ok-stop.ensures.stops.seeks in
    let T : Held → Type 0 = λ h. (cells : List LawCell) → IsRun h (get_or runs n d) cells → Answers (Found (laws.seek key_cmp key c.loop-i.start cells c.length_at-next_len.result)) as_seat (Ok seat) in
    let told : T held = subst T i.looks.cells_stay ens.told in
    let X : Held → Type 0 = λ h. Answers (found_in h (get_or runs n d) c.length_at-next_len.result c.loop-i.start key) as_seat (Ok seat) in
    let exact : X held = subst X i.looks.cells_stay ens.exact in
    let pushed : c.push.new.self.items ≡ c.loop-i.lines.items ++ line ∷ [] = c.push.ensures.items ∙ ap (λ x. c.loop-i.lines.items ++ x ∷ []) c.at.ensures in
    let A : List Line → Type 0 = λ x. AllByRecursion (LineFits false held) x in
    record {
      looks = looks_then i.looks c.in_ok-stop.ensures.looks;
      reading = reading_then i.reading (reading_of false ens);
      left = left_more false runs n d c.loop-i.lines.items c.push.new.self.items line c.args.steps.now c.loop-i.steps c.stop_in.new.steps c.loop-i-test.true pushed refl ens.costs.steps_rise i.left;
      costs = costs_within (costs_then i.costs ens.costs) (omega arith) (let t = two_at_most c.loop-i.start in omega arith);
      told = told_next held key c.loop-i.start runs d n c.length_at-next_len.result _ (map (λ x. x.place) c.loop-i.lines.items) i.told seat (map (λ x. x.place) c.push.new.self.items) c.loop-i-test.true c.length_at-next_len.ensures exact
          (ap (map (λ (x : Line). x.place)) pushed ∙ map-append (λ (x : Line). x.place) c.loop-i.lines.items (line ∷ []));
      count = length_push false c.loop-i.lines.items c.push.new.self.items line n pushed i.count;
      begins = ap runs_of pushed ∙ map-append (λ (x : Line). x.run) c.loop-i.lines.items (line ∷ []) ∙ ap (λ z. z ++ get_or runs n d ∷ []) i.begins ∙ sym (take_more runs n d c.loop-i-test.true);
      fit = subst A (sym pushed) (all_append false (LineFits false held) c.loop-i.lines.items line i.fit (line_fits false held line (all_at false (HasRun held) runs n d c.loop-i-test.true c.requires.runs) ens.within refl));
      places = λ lists r. places_next false held runs lists n d key c.loop-i.start seat c.length_at-next_len.result (map (λ x. x.place) c.loop-i.lines.items) (map (λ x. x.place) c.push.new.self.items) _ r c.loop-i-test.true c.length_at-next_len.ensures told
          (ap (map (λ (x : Line). x.place)) pushed ∙ map-append (λ (x : Line). x.place) c.loop-i.lines.items (line ∷ [])) (i.places lists r);
    }

pub returns-in_err-stop-clause-cause : goal.returns-in_err-stop-clause-cause
returns-in_err-stop-clause-cause g c =
    refused false c.from_residual.result c.in_err-stop.field-0.0 (RunsCause (g.W.CellSource.state c.args.work.now).held c.args.runs.now (g.W.CellSource.state c.args.work.now).spent.faults (g.W.CellSource.state c.stop_in.new.work).spent.faults) c.from_residual.ensures.1
    (bad_run false (g.W.CellSource.state c.loop-i.work).held (g.W.CellSource.state c.args.work.now).held c.args.runs.now c.loop-i.i (record { level = 0; slot = 0; len = 0 }) c.loop-i.start (g.W.CellSource.state c.args.work.now).spent.faults (g.W.CellSource.state c.loop-i.work).spent.faults (g.W.CellSource.state c.stop_in.new.work).spent.faults c.in_err-stop.field-0.0
    c.loop-i.invariant.looks.cells_stay c.loop-i.invariant.looks.calm c.loop-i-test.true c.in_err-stop.ensures.stops.seeks.cause)

pub returns-clause-places : goal.returns-clause-places
returns-clause-places g c = λ lists r. places_whole false (g.W.CellSource.state c.args.work.now).held c.args.runs.now lists c.loop-i.i (sought c.args.over c.args.key.now) c.loop-i.start (map (λ x. x.place) c.loop-i.lines.items) _ r (omega arith) (c.loop-i.invariant.places lists r)

pub returns-in_err-stop-clause-looks : goal.returns-in_err-stop-clause-looks
returns-in_err-stop-clause-looks g c =
    looks_refused c.in_err-stop.field-0.0 c.from_residual.result c.loop-i.invariant.looks c.in_err-stop.ensures.looks (err_is c.from_residual.result c.in_err-stop.field-0.0 c.from_residual.ensures.1)

pub returns-clause-looks : goal.returns-clause-looks
returns-clause-looks g c = looks_as c.loop-i.invariant.looks

pub returns-clause-exact : goal.returns-clause-exact
returns-clause-exact g c =
    told_whole (g.W.CellSource.state c.args.work.now).held (sought c.args.over c.args.key.now) c.loop-i.start c.args.runs.now (record { level = 0; slot = 0; len = 0 }) c.loop-i.i 0 _ (map (λ x. x.place) c.loop-i.lines.items) c.loop-i.invariant.told
    places_of c.loop-i.lines (omega arith) refl

pub returns-clause-costs : goal.returns-clause-costs
returns-clause-costs g c = costs_within c.loop-i.invariant.costs (omega arith) (omega arith)

pub returns-in_err-stop-clause-exact : goal.returns-in_err-stop-clause-exact
returns-in_err-stop-clause-exact g c =
    let held : Held = (g.W.CellSource.state c.args.work.now).held in
    let key = sought c.args.over c.args.key.now in
    let run : Run = get_or c.args.runs.now c.loop-i.i (record { level = 0; slot = 0; len = 0 }) in
    let fault = c.in_err-stop.field-0.0 in
    let X : Held → Type 0 = λ h. Answers (found_in h run c.length_at-next_len.result c.loop-i.start key) as_seat (Err fault) in
    let E : Result (ArrayVec Line 23 Unit) ReadFault → Type 0 = λ x. Answers (places_told held key 0 c.args.runs.now) places_of x in
    subst E (sym (err_is c.from_residual.result fault c.from_residual.ensures.1))
    (told_refused held key c.loop-i.start c.args.runs.now (record { level = 0; slot = 0; len = 0 }) c.loop-i.i c.length_at-next_len.result _ (map (λ x. x.place) c.loop-i.lines.items) c.loop-i.invariant.told
    places_of fault c.loop-i-test.true c.length_at-next_len.ensures (subst X c.loop-i.invariant.looks.cells_stay c.in_err-stop.ensures.stops.seeks.exact))

pub returns-in_err-stop-clause-costs : goal.returns-in_err-stop-clause-costs
returns-in_err-stop-clause-costs g c =
    costs_within (costs_then c.loop-i.invariant.costs c.in_err-stop.ensures.stops.seeks.costs) (let l = c.loop-i-test.true in omega arith) (let l = c.loop-i-test.true in let t = two_at_most c.loop-i.start in omega arith)
