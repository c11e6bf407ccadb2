use Rattle.std.proofs.Common.{ℕ, Ok, Err, ap, sym, subst, ◌∙◌}
use Rattle.cola_cell.specs.Bytes.{IsKey}
use Rattle.cola_cell.specs.declared.cell.Item.TheVariants.{Value}
use Rattle.cola_spec.specs.Map.{Map, put_outcome}
use Rattle.cola_spec.specs.Reply as reply
use Rattle.cola_table.specs.Answers.{OnlyDevice, put_answer}
use Rattle.cola_table.specs.Replies.{put_refused}
use Rattle.cola_table.specs.Terms.{shape}
use Rattle.cola_store.specs.Store.{Holds, terms_of}
use Rattle.cola_store.specs.Calls.{Steps, count_with, put_of, stamped_found, value_found, decided}
use Rattle.cola_store.proofs.Putting.{outcome-is, after-is, written, device-refuses, concluded, made}
use Rattle.cola_store.proofs.store.Store.put_found.Goals as goal

pub returns-in-Ok-clause-answer : goal.returns-in-Ok-clause-answer
returns-in-Ok-clause-answer g c = λ m h is.
    let s = c.args.self.now in
    let q = s.chain.store.geometry in
    let x = stamped_found c.args.found.now in
    let key = c.args.key.now in
    let new = c.args.value.now in
    let free = sym c.refusal.ensures ∙ c.in-None.is in (
      ap put_answer (c.put_of.ensures ∙ ap put_of c.value_of.ensures) ∙ outcome-is q.format q.keys m key new s.count s.last x h.is_map h.counted h.numbered is free,
      subst (λ (k : Map). Holds g.D.Device.bytes c.write.new.self k) (sym (after-is q.format q.keys m key new s.count s.last x h.is_map h.counted h.numbered is free))
          (written q.format q.keys m key new s.count s.last x h.is_map h.counted h.numbered is free (Holds g.D.Device.bytes c.write.new.self) c.next_number-number.result c.count_after-after.result
          (subst IsKey c.bytes.ensures.value c.bytes.ensures.limits) c.requires.key_fits c.requires.value_fits c.next_number-number.ensures.value c.count_after-after.ensures.value (λ after. c.in-Ok.ensures.right m after h)),
    )

pub returns-in-Err-clause-answer : goal.returns-in-Err-clause-answer
returns-in-Err-clause-answer g c = λ m h is.
    let s = c.args.self.now in
    let q = s.chain.store.geometry in
    let x = stamped_found c.args.found.now in
    let key = c.args.key.now in
    let new = c.args.value.now in
    let right = written q.format q.keys m key new s.count s.last x h.is_map h.counted h.numbered is (sym c.refusal.ensures ∙ c.in-None.is) (λ after. OnlyDevice c.in-Err.fault × Holds g.D.Device.bytes c.write.new.self m)
    c.next_number-number.result c.count_after-after.result (subst IsKey c.bytes.ensures.value c.bytes.ensures.limits) c.requires.key_fits c.requires.value_fits c.next_number-number.ensures.value c.count_after-after.ensures.value
    (λ after. c.in-Err.ensures.right m after h) in
    (device-refuses (put_outcome (shape (terms_of s)) m key) c.in-Err.fault c.put_fault.result c.put_fault.ensures.value right.0, right.1)

pub returns-in-Ok-clause-concludes : goal.returns-in-Ok-clause-concludes
returns-in-Ok-clause-concludes g c =
    let x = stamped_found c.args.found.now in
    let s = shape (terms_of c.args.self.now) in
    let is = made s c.args.self.now.count c.args.self.now.last x (sym c.refusal.ensures ∙ c.in-None.is) in
    concluded g.D.Device.bytes g.D.Device.counts (decided s c.args.self.now.count c.args.self.now.last x) (value_found c.args.found.now) c.args.self.now c.write.new.self c.args.key.now c.args.value.now x (reply.Put (put_answer c.put_of.result)) is
    (record {
      step = Ok tt;
      steps = subst (λ (n : ℕ). Steps g.D.Device.bytes g.D.Device.counts {A = Unit {0}} c.args.self.now c.write.new.self c.args.key.now (Value c.args.value.now n) (count_with c.args.self.now.count x) n (Ok tt)) c.next_number-number.ensures.value
          (subst (λ (n : ℕ). Steps g.D.Device.bytes g.D.Device.counts {A = Unit {0}} c.args.self.now c.write.new.self c.args.key.now (Value c.args.value.now c.next_number-number.result) n c.next_number-number.result (Ok tt)) c.count_after-after.ensures.value c.in-Ok.ensures.steps);
      answer_is = ap reply.Put (ap put_answer (c.put_of.ensures ∙ ap put_of c.value_of.ensures) ∙ sym is);
    })

pub returns-in-Err-clause-concludes : goal.returns-in-Err-clause-concludes
returns-in-Err-clause-concludes g c =
    let x = stamped_found c.args.found.now in
    let s = shape (terms_of c.args.self.now) in
    concluded g.D.Device.bytes g.D.Device.counts (decided s c.args.self.now.count c.args.self.now.last x) (value_found c.args.found.now) c.args.self.now c.write.new.self c.args.key.now c.args.value.now x (put_refused c.put_fault.result)
    (made s c.args.self.now.count c.args.self.now.last x (sym c.refusal.ensures ∙ c.in-None.is))
    (record {
      step = Err c.in-Err.fault;
      steps = subst (λ (n : ℕ). Steps g.D.Device.bytes g.D.Device.counts {A = Unit {0}} c.args.self.now c.write.new.self c.args.key.now (Value c.args.value.now n) (count_with c.args.self.now.count x) n (Err c.in-Err.fault)) c.next_number-number.ensures.value
          (subst (λ (n : ℕ). Steps g.D.Device.bytes g.D.Device.counts {A = Unit {0}} c.args.self.now c.write.new.self c.args.key.now (Value c.args.value.now c.next_number-number.result) n c.next_number-number.result (Err c.in-Err.fault)) c.count_after-after.ensures.value c.in-Err.ensures.steps);
      answer_is = c.put_fault.ensures.told;
    })
