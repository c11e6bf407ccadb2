use Rattle.std.proofs.Common.{rules, ◌≡◌, ◌∙◌, sym, ap, subst}
use Rattle.std.proofs.lemmas.Option.{same_Some}
use Rattle.cola_mapped.specs.declared.region.Region.{Region}
use Rattle.cola_mapped.specs.Region.{bytes_in}
use Rattle.cola_tools.specs.Loading.{Loads, IsUnbegun}
use Rattle.cola_c.specs.Loads.{BeginsLoad}
use Rattle.cola_c.proofs.loads.cola_core_load_begin.Goals as goal

pub returns-in-Ok-clause-begun : goal.returns-in-Ok-clause-begun
returns-in-Ok-clause-begun c = λ none load now.
    let is : c.replace-bytes.result ≡ c.args.region.now = c.replace-bytes.ensures.value in
    let then : c.in-Ok.begun.value ≡ load = same_Some _ _ (sym c.put.ensures ∙ now) in (
      search (rules, c.code-in-Ok.ensures),
      subst (λ (r : Region). BeginsLoad c.args.keys c.args.block c.args.version r load) is
          (subst (λ (l : Loads). BeginsLoad c.args.keys c.args.block c.args.version c.replace-bytes.result l) then c.in-Ok.ensures.begun),
    )

pub returns-in-Ok-clause-taken : goal.returns-in-Ok-clause-taken
returns-in-Ok-clause-taken c = λ none load now. ap (λ (r : Region). r.bytes) c.replace-bytes.ensures.after ∙ c.none.ensures

pub returns-in-Err-clause-refused : goal.returns-in-Err-clause-refused
returns-in-Err-clause-refused c = λ none closed.
    let is : c.replace-bytes.result ≡ c.args.region.now = c.replace-bytes.ensures.value in record {
      why = c.in-Err.fault;
      number_is = search (rules, c.fault_code.ensures);
      cause = subst (λ (r : Region). IsUnbegun c.args.keys c.args.block c.args.version (bytes_in r.bytes) c.in-Err.fault) is c.in-Err.ensures.cause;
      bytes_stay = c.in-Err.ensures.left ∙ ap (λ (r : Region). r.bytes) is;
      at_stays = c.in-Err.ensures.at ∙ ap (λ (r : Region). r.at) is;
      len_stays = c.in-Err.ensures.len ∙ ap (λ (r : Region). r.len) is;
    }
