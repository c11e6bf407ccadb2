use Rattle.std.proofs.Common.{option_map, ◌∙◌, sym, ap}
use Rattle.cola_plain.proofs.MapLemmas.{stands_get}
use Rattle.cola_plain.proofs.map.Map.stamp.Goals as goal

pub returns-in-Some : goal.returns-in-Some
returns-in-Some c m stands = ap (option_map (λ s. s.stamp)) (c.in-Some.ensures ∙ sym (stands_get c.args.self.now m c.args.key.now stands))

pub returns-in-None : goal.returns-in-None
returns-in-None c m stands = ap (option_map (λ s. s.stamp)) (c.in-None.ensures ∙ sym (stands_get c.args.self.now m c.args.key.now stands))
