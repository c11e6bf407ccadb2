use Rattle.std.proofs.Common.{◌≡◌, ap, arith}
use Rattle.cola_runs.proofs.Searches.{place_in}
use Rattle.cola_cell.specs.Places.{slot_size}
use Rattle.cola_cell.specs.Order.{key_cmp}
use Rattle.cola_look.proofs.laws.level_zero_is_near.Goals as goal

pub returns : goal.returns
returns c = λ held run cells key h e r.
    let four : slot_size run.level ≡ 4 = ap slot_size e in
    omega (arith, place_in key_cmp key cells, h.within, r.length_is, four)
