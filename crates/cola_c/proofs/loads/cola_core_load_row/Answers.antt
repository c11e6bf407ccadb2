use Rattle.std.proofs.Common.{rules, ◌≡◌, ◌∙◌, subst}
use Rattle.cola_tools.specs.Loading.{Loads, Rows}
use Rattle.cola_c.proofs.LoadInside.{load-inside}
use Rattle.cola_c.proofs.loads.cola_core_load_row.Goals as goal

pub returns-clause-answered : goal.returns-clause-answered
returns-clause-answered c = λ load is.
    let old : c.deref_mut.result.now ≡ load = c.deref_mut.ensures.value ∙ load-inside _ load _ is c.in-Some.ensures.taken in
    record {
      new = c.row-answer.new.self;
      answer = c.row-answer.result;
      is_open = c.put.ensures;
      number_is = search (rules, c.row_code.ensures);
      says = subst (λ (o : Loads). Rows o c.row-answer.new.self c.args.key.now c.args.value.now c.row-answer.result) old c.row-answer.ensures;
    }
