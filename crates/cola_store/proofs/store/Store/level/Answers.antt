use Rattle.std.proofs.Common.{◌≡◌, ◌+◌, ◌∙◌, sym, ap, arith, List, length}
use Rattle.cola_layout.specs.declared.geometry.Geometry.{Geometry}
use Rattle.cola_layout.specs.declared.marks.Marks.{Marks}
use Rattle.cola_layout.specs.Marks.{all_numbers}
use Rattle.cola_level.specs.Marks.{all_marks_of}
use Rattle.cola_chain.specs.Contents.{Contents}
use Rattle.cola_store.proofs.Filling.{told-at, room-told, past-levels}
use Rattle.cola_store.proofs.store.Store.level.Goals as goal

pub returns-then-number-levels : goal.returns-then-number-levels
returns-then-number-levels g c = past-levels c.args.number c.args.number _ (omega (arith, c.chain-chain.ensures.sound.many, c.levels.ensures, c.if-number-levels.true))

pub returns : goal.returns
returns g c =
    let marks : List Marks = c.as_slice.result.now in
    let many : length marks ≡ c.header-header.result.geometry.bottom + 1 = ap length c.as_slice.ensures.value ∙ c.header-header.result.one_each in
    let shallow = c.header-header.result.geometry.shallow in
    let is : c.levels.result ≡ c.header-header.result.geometry.bottom + 1 =
    c.levels.ensures ∙ sym (ap (λ (q : Geometry). q.bottom + 1) (c.header-header.ensures.geometry ∙ ap (λ (k : Contents g.row.D.Denot). k.store.geometry) c.chain-chain.ensures.value)) in
    told-at c.args.number marks c.args.self.now.chain.levels
    (ap all_numbers c.as_slice.ensures.value ∙ c.header-header.ensures.marks ∙ ap (λ (k : Contents g.row.D.Denot). all_marks_of k.levels) c.chain-chain.ensures.value)
    (omega (arith, many, is, c.if-number-levels.false)) c.from.result c.from-2.result _ c.from.ensures c.from-2.ensures (room-told c.args.number (omega (arith, is, shallow, c.if-number-levels.false)))
