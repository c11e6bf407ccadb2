use Rattle.std.proofs.Common.{◌≡◌, sym, subst}
use Rattle.cola_mapped.specs.Region.{bytes_in}
use Rattle.cola_tools.specs.Loading.{Loads, IsBegun, geometry_of, place_in}
use Rattle.cola_c.proofs.LoadInside.{given-back}
use Rattle.cola_c.proofs.loads.begin_on_heap.Goals as goal

pub returns-in-Ok-new-clause-begun : goal.returns-in-Ok-new-clause-begun
returns-in-Ok-new-clause-begun c =
    let region = c.args.region in
    subst (λ (load : Loads). IsBegun c.args.keys c.args.block c.args.version (bytes_in region.bytes) (place_in region.at region.len (bytes_in region.bytes)) load) (sym c.in-Ok-new.ensures.ok) c.in-Ok.ensures.begun

pub returns-in-Err-new-clause-cause : goal.returns-in-Err-new-clause-cause
returns-in-Err-new-clause-cause c =
    let begun = c.in-Ok.ensures.begun in
    ((geometry_of c.in-Ok.load, (begun.sizes, begun.enough)), begun.was_zero)

pub returns-in-Err-new-clause-left : goal.returns-in-Err-new-clause-left
returns-in-Err-new-clause-left c =
    (given-back c.args.keys c.args.block c.args.version c.args.region c.give_up.result c.in-Ok.load c.in-Err-new.refused.value c.in-Err-new.ensures.value_returned c.in-Ok.ensures.begun
    c.requires c.give_up.ensures.back c.give_up.ensures.unwritten c.give_up.ensures.place).0

pub returns-in-Err-new-clause-at : goal.returns-in-Err-new-clause-at
returns-in-Err-new-clause-at c =
    (given-back c.args.keys c.args.block c.args.version c.args.region c.give_up.result c.in-Ok.load c.in-Err-new.refused.value c.in-Err-new.ensures.value_returned c.in-Ok.ensures.begun
    c.requires c.give_up.ensures.back c.give_up.ensures.unwritten c.give_up.ensures.place).1.0

pub returns-in-Err-new-clause-len : goal.returns-in-Err-new-clause-len
returns-in-Err-new-clause-len c =
    (given-back c.args.keys c.args.block c.args.version c.args.region c.give_up.result c.in-Ok.load c.in-Err-new.refused.value c.in-Err-new.ensures.value_returned c.in-Ok.ensures.begun
    c.requires c.give_up.ensures.back c.give_up.ensures.unwritten c.give_up.ensures.place).1.1
