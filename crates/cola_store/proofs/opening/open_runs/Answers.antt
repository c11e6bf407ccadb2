use Rattle.std.proofs.Common.{◌∙◌, ℕ, List, Option, Err, sym, ap, subst}
use Rattle.cola_device.specs.Bytes.{HasRange}
use Rattle.cola_run.specs.Cells.{file_bytes}
use Rattle.cola_run.specs.Store.{Store}
use Rattle.cola_store.specs.Open.{Opens, IsMarked, LoadsAndMarks}
use Rattle.cola_store.proofs.Marking.{not-found, inside, no-memory, opens, refuses}
use Rattle.cola_store.proofs.opening.open_runs.Goals as goal

pub returns-in-Err-clause-opened : goal.returns-in-Err-clause-opened
returns-in-Err-clause-opened g c = not-found g.D.Device c.args.cache c.args.device c.read_closed.new.device c.in-Err.fault c.in-Err.ensures.found

pub returns-in-Err-clause-kept : goal.returns-in-Err-clause-kept
returns-in-Err-clause-kept g c = c.read_closed.ensures.kept

pub take_memory-requires-clause-cache : goal.take_memory-requires-clause-cache
take_memory-requires-clause-cache g c = c.requires

pub take_memory-requires-clause-inside : goal.take_memory-requires-clause-inside
take_memory-requires-clause-inside g c =
    let found = c.in-Ok.ensures.found in
    subst (λ (t : Option (List ℕ)). HasRange t 0 (file_bytes c.in-Ok.header.geometry)) (sym found.0.bytes_stay) (inside c.in-Ok.header (g.D.Device.bytes c.args.device) found.0.why_is)

pub returns-in-Err-take_memory-clause-opened : goal.returns-in-Err-take_memory-clause-opened
returns-in-Err-take_memory-clause-opened g c =
    no-memory g.D.Device c.args.device c.read_closed.new.device c.in-Err-take_memory.device c.in-Ok.header c.in-Err-take_memory.ensures.back c.in-Ok.ensures.found.0

pub returns-in-Err-take_memory-clause-kept : goal.returns-in-Err-take_memory-clause-kept
returns-in-Err-take_memory-clause-kept g c = ap g.D.Device.kept c.in-Err-take_memory.ensures.back ∙ c.read_closed.ensures.kept

pub load_and_mark-requires : goal.load_and_mark-requires
load_and_mark-requires g c = sym (ap (λ (s : Store _). s.geometry) c.in-Ok-take_memory.ensures.made)

pub returns-in-Ok-load_and_mark-clause-opened : goal.returns-in-Ok-load_and_mark-clause-opened
returns-in-Ok-load_and_mark-clause-opened g c =
    let d = g.D.Device in
    let header = c.in-Ok.header in
    let found = c.in-Ok.ensures.found in
    let store = c.load_and_mark.new.runs in
    opens d c.args.cache c.args.device c.read_closed.new.device header found.0 store found.1 (subst (λ (s : Store _). IsMarked d header s store) c.in-Ok-take_memory.ensures.made c.in-Ok-load_and_mark.ensures.loaded)

pub returns-in-Ok-load_and_mark-clause-kept : goal.returns-in-Ok-load_and_mark-clause-kept
returns-in-Ok-load_and_mark-clause-kept g c =
    c.load_and_mark.ensures.kept ∙ ap (λ (s : Store _). g.D.Device.kept s.buffers.cache.device) c.in-Ok-take_memory.ensures.made ∙ c.read_closed.ensures.kept

pub returns-in-Err-load_and_mark-clause-opened : goal.returns-in-Err-load_and_mark-clause-opened
returns-in-Err-load_and_mark-clause-opened g c =
    let d = g.D.Device in
    let header = c.in-Ok.header in
    let found = c.in-Ok.ensures.found in
    let store = c.load_and_mark.new.runs in
    let fault = c.in-Err-load_and_mark.fault in
    subst (λ x. Opens d c.args.device c.args.cache (Err (x, fault))) (sym c.into_device.ensures)
    (refuses d c.args.cache c.args.device c.read_closed.new.device header found.0 store fault (subst (λ (s : Store _). LoadsAndMarks d header s store (Err fault)) c.in-Ok-take_memory.ensures.made c.in-Err-load_and_mark.ensures.loaded))

pub returns-in-Err-load_and_mark-clause-kept : goal.returns-in-Err-load_and_mark-clause-kept
returns-in-Err-load_and_mark-clause-kept g c =
    ap g.D.Device.kept c.into_device.ensures ∙ c.load_and_mark.ensures.kept ∙ ap (λ (s : Store _). g.D.Device.kept s.buffers.cache.device) c.in-Ok-take_memory.ensures.made ∙ c.read_closed.ensures.kept
