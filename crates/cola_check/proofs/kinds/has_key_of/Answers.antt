use Rattle.std.proofs.Common.{◌≡◌, sym, ap, ◌∙◌, is_eq}
use Rattle.cola_check.proofs.Common.{key_of, key_cmp}
use Rattle.cola_look.proofs.KeyLemmas.{key_same, same_key}
use Rattle.cola_check.proofs.LeastKeys.{itself_equal}
use Rattle.cola_check.proofs.kinds.has_key_of.Goals as goal

pub returns : goal.returns
returns c =
    let cell = c.args.cell.now in
    let other = c.args.other.now in
    let is : c.is_eq.result ≡ is_eq (key_cmp (key_of cell) (key_of other)) = c.is_eq.ensures ∙ ap is_eq c.cmp_keys.ensures in (
      λ t. key_same cell ∙ same_key (key_of cell) (key_of other) (sym is ∙ t) ∙ sym (key_same other),
      λ e. is ∙ ap (λ k. is_eq (key_cmp k (key_of other))) (sym (key_same cell) ∙ e ∙ key_same other) ∙ itself_equal (key_of other),
    )
