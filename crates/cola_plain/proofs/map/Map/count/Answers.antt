use Rattle.std.proofs.Common.{arith}
use Rattle.cola_plain.proofs.MapLemmas.{stands_count}
use Rattle.cola_plain.proofs.map.Map.count.Goals as goal

pub returns : goal.returns
returns c m stands = let all = stands_count c.args.self.now m stands in omega (arith, c.args.self.now.entries.ok.0)
