use Rattle.std.proofs.Common.{◌≡◌, ℕ, List, Option, Some, option_map, option_copied, ap, ◌∙◌, sym}
use Rattle.std.specs.Ordering.{is_le}
use Rattle.cola_load.specs.Rows.{is_not_above, last_key}
use Rattle.cola_load.proofs.Chains.{last-got}
use Rattle.cola_load.proofs.plain.is_not_above.Goals as goal

pub returns-in-Some : goal.returns-in-Some
returns-in-Some c =
    let last : last_key c.args.rows.now ≡ Some c.in-Some.last.now.0 =
    last-got c.args.rows.now ∙ ap (λ (found : Option (List ℕ × List ℕ)). option_map (λ (row : List ℕ × List ℕ). row.0) found) (sym c.last.ensures.value ∙ ap option_copied c.in-Some.is) in
    c.is_le.ensures ∙ ap is_le c.cmp.ensures ∙ sym (ap (λ (key : Option (List ℕ)). is_not_above key c.args.key.now) last)
