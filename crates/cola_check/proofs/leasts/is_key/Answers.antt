use Rattle.std.proofs.Common.{◌≡◌, Some, sym, ap, ◌∙◌, is_eq}
use Rattle.cola_check.proofs.Common.{key_cmp, same_Some}
use Rattle.cola_look.proofs.KeyLemmas.{same_key}
use Rattle.cola_check.proofs.LeastKeys.{itself_equal}
use Rattle.cola_check.proofs.leasts.is_key.Goals as goal

pub returns-in-Some : goal.returns-in-Some
returns-in-Some c =
    let least = c.in-Some.least in
    let key = c.args.key.now in
    let is : c.is_eq.result ≡ is_eq (key_cmp least key) = c.is_eq.ensures ∙ ap is_eq c.cmp.ensures in (
      λ t. c.in-Some.is ∙ ap Some (same_key least key (sym is ∙ t)),
      λ e. is ∙ ap (λ k. is_eq (key_cmp k key)) (same_Some least key (sym c.in-Some.is ∙ e)) ∙ itself_equal key,
    )
