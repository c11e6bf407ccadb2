use Rattle.std.proofs.Common.{◌≡◌, ◌∙◌, ◌+◌, ◌≤◌, ℕ, false, List, length, refl, sym, ap, subst, arith}
use Rattle.cola_device.specs.Bytes.{splice}
use Rattle.cola_mapped.specs.Region.{bytes_in}
use Rattle.cola_tools.specs.New.{New, file_of}
use Rattle.cola_tools.specs.contracts.new_device.NewDevice.{the_view}
use Rattle.cola_tools.proofs.NewLemmas.{keeps, wrote}
use Rattle.cola_tools.proofs.ShownLemmas.{wrote_none}
use Rattle.cola_tools.proofs.new_device.NewDeviceDevice.write.Goals as goal

pub invariant_of-self-in-Ok : goal.invariant_of-self-in-Ok
invariant_of-self-in-Ok c =
    let before : New = the_view c.self-2.inside in
    let laid : before.refused ≡ false = ap (λ (d : New). d.refused) (c.self-2.view_is ∙ c.in-Ok.ensures.after) ∙ sym c.in-Ok.ensures.fails in
    let same : file_of before ≡ file_of c.args.self.now = ap file_of (c.self-2.view_is ∙ c.in-Ok.ensures.after) ∙ ap file_of c.self.view_is in
    let inside : c.args.at + length c.args.from.now ≤ length (file_of before) = subst (λ (xs : List ℕ). c.args.at + length c.args.from.now ≤ length xs) (sym same) c.requires.inside in
    keeps before _ c.args.at c.args.from.now c.self-2.invariant laid inside (ap bytes_in c.write.ensures.wrote) refl refl refl
    (λ none. omega (arith, c.saturating_add-self-inside.ensures, sym (ap (λ (d : New). d.writes) (c.self-2.view_is ∙ c.in-Ok.ensures.after)) ∙ none))

pub returns-in-Ok-clause-wrote : goal.returns-in-Ok-clause-wrote
returns-in-Ok-clause-wrote c =
    let before : New = the_view c.self-2.inside in
    let laid : before.refused ≡ false = ap (λ (d : New). d.refused) (c.self-2.view_is ∙ c.in-Ok.ensures.after) ∙ sym c.in-Ok.ensures.fails in
    let same : file_of before ≡ file_of c.args.self.now = ap file_of (c.self-2.view_is ∙ c.in-Ok.ensures.after) ∙ ap file_of c.self.view_is in
    let inside : c.args.at + length c.args.from.now ≤ length (file_of before) = subst (λ (xs : List ℕ). c.args.at + length c.args.from.now ≤ length xs) (sym same) c.requires.inside in
    let after : New = record {
      at = c.write.new.self.at;
      len = c.write.new.self.len;
      bytes = bytes_in c.write.new.self.bytes;
      size = c.self-2.inside.size;
      refused = c.self-2.inside.refused;
      faults = c.self-2.inside.faults;
      reads = c.self-2.inside.reads;
      writes = c.self-2.inside.writes;
      others = c.self-2.inside.others;
    } in
    record {
      left = c.args.from.now;
      as_many = refl;
      others_stay = wrote before after c.args.at c.args.from.now c.self-2.invariant laid inside (ap bytes_in c.write.ensures.wrote) refl refl
          ∙ ap (λ (xs : List ℕ). splice xs c.args.at c.args.from.now) same;
      exact = refl;
    }

pub returns-in-Err-clause-wrote : goal.returns-in-Err-clause-wrote
returns-in-Err-clause-wrote c =
    wrote_none _ c.args.at c.args.from.now (file_of c.args.self.now) (file_of c.begin.new.self) refl c.requires.inside (ap file_of c.in-Err.ensures.after ∙ ap file_of c.self.view_is)
