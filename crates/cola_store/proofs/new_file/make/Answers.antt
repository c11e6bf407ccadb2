use Rattle.std.proofs.Common.{◌≡◌, ◌∙◌, rules}
use Rattle.cola_store.proofs.Filled.{told_new_file, size_0_is_empty}
use Rattle.cola_store.proofs.new_file.make.Goals as goal

pub returns-in-Ok-fill-clause-created : goal.returns-in-Ok-fill-clause-created
returns-in-Ok-fill-clause-created g c =
    let told = g.D.Device.bytes in
    let geometry = c.args.geometry in
    let header = c.first_bytes-header in
    let none : c.in-Ok-eq0.field-0 ≡ 0 = search rules in
    record {
      bottom = geometry.bottom;
      suits = record { keys_in_range = geometry.keys_in_range; bottom_is = geometry.bottom_fits; block_fits = geometry.block_fits };
      was_empty = size_0_is_empty (told c.args.device.now) c.in-Ok-eq0.field-0 none c.in-Ok-eq0.ensures.value;
      file =
          told_new_file geometry.format geometry.keys geometry.block_exp geometry.bottom c.size_of-size.result header.result (told c.fill.new.device)
          c.size_of-size.ensures.value header.ensures.size header.ensures.spelled c.size_of-size.ensures.header c.in-Ok-fill.ensures.filled;
      settled = c.in-Ok-fill.ensures.settled;
      no_fault = c.in-Ok-fill.ensures.counts.none_hidden ∙ c.in-Ok-eq0.ensures.counts.none_hidden;
    }
