use Rattle.std.proofs.Common.{option_map, ◌∙◌, sym, ap}
use Rattle.cola_plain.proofs.MapLemmas.{stands_get}
use Rattle.cola_plain.proofs.map.Map.get.Goals as goal

pub returns-in_ok-from_slice-in-Some : goal.returns-in_ok-from_slice-in-Some
returns-in_ok-from_slice-in-Some c m stands =
    let e = ap (option_map (λ s. s.value)) (c.in-Some.ensures ∙ sym (stands_get c.args.self.now m c.args.key.now stands)) in
    let f = c.in_ok-from_slice-in-Some.ensures.items in
    cc

pub returns-in-None : goal.returns-in-None
returns-in-None c m stands = ap (option_map (λ s. s.value)) (c.in-None.ensures ∙ sym (stands_get c.args.self.now m c.args.key.now stands))
