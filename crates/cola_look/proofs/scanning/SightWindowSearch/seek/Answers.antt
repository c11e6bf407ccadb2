-- It stopped at a cell, whose item it took if that has the key, or at none.
use Rattle.std.proofs.Common.{◌≡◌, ◌+◌, List, true, false, refl, sym, ap, subst, ◌∙◌, arith}
use Rattle.std.specs.declared.cmp.Ordering.TheVariants.{Equal, Greater}
use Rattle.cola_cell.specs.Cell.{link_of}
use Rattle.cola_cell.specs.Decoded.{standing}
use Rattle.cola_cell.specs.Packed.{is_look, item_of}
use Rattle.cola_window.specs.declared.seeking.Stop.{Stop}
use Rattle.cola_window.specs.Seeking.{nth, SeekStops, StopsAt}
use Rattle.cola_look.specs.declared.scanning.Sight.{Sight}
use Rattle.cola_look.proofs.Sights.{sees_at, sees_behind, left_behind, spelled_at, spelled_below, some_behind, no_item}
use Rattle.cola_look.proofs.scanning.SightWindowSearch.seek.Goals.{then-not-is_look_in, else-not-is_look_in}
use Rattle.cola_look.proofs.scanning.SightWindowSearch.seek.Goals as goal

pub returns-after-not-is_look_in : goal.returns-after-not-is_look_in
returns-after-not-is_look_in c =
    let f = c.args.format in
    let n = c.seek_window-passed.result.0 in
    let e = c.nth_cell-cell.ensures in
    let sight = c.if-not-is_look_in.self in
    let stop : StopsAt f c.args.probe.now c.args.bytes.now c.args.self.now.most n Equal = subst (λ (x : Stop). SeekStops f c.args.probe.now c.args.bytes.now c.args.self.now.most n x) c.in-Equal.is c.seek_window-passed.ensures.stops in
    let link = c.link_in-self.ensures ∙ ap (λ (x : List _). link_of (standing f x)) e in
    let looks = c.is_look_in.ensures ∙ ap (λ (x : List _). is_look (standing f x)) e in
    let sees : sight.hit ≡ item_of (standing f (nth f c.args.bytes.now n)) → sight.passed ≡ n → sight.stops ≡ true → sight.link ≡ c.link_in-self.result → _ =
    λ hit passed stops is_link. sees_at c.args.self.now sight c.args.probe.now f c.args.bytes.now n (n + 1) Equal true c.seek_window-passed.ensures.below stop refl refl passed stops hit (is_link ∙ link) refl in
    record {
      sought = elim c.if-not-is_look_in.branch [
        | then-not-is_look_in w ↦ sees (ap (λ (s : Sight). s.hit) w.self-is ∙ w.item_in-self.ensures ∙ ap (λ (x : List _). item_of (standing f x)) e)
            (ap (λ (s : Sight). s.passed) w.self-is) (ap (λ (s : Sight). s.stops) w.self-is) (ap (λ (s : Sight). s.link) w.self-is)
        | else-not-is_look_in w ↦ sees (ap (λ (s : Sight). s.hit) w.self-is ∙ c.requires.can.1 ∙ sym (no_item (standing f (nth f c.args.bytes.now n)) (sym looks ∙ w.if-not-is_look_in.false)))
            (ap (λ (s : Sight). s.passed) w.self-is) (ap (λ (s : Sight). s.stops) w.self-is) (ap (λ (s : Sight). s.link) w.self-is)
      ];
      spelled = spelled_at f c.args.probe.now c.args.bytes.now c.args.self.now.most n Equal c.seek_window-passed.ensures.below stop;
      first = λ _. omega arith;
    }

pub returns-in-Above : goal.returns-in-Above
returns-in-Above c =
    let f = c.args.format in
    let n = c.seek_window-passed.result.0 in
    let stop : StopsAt f c.args.probe.now c.args.bytes.now c.args.self.now.most n Greater = subst (λ (x : Stop). SeekStops f c.args.probe.now c.args.bytes.now c.args.self.now.most n x) c.in-Above.is c.seek_window-passed.ensures.stops in
    record {
      sought = sees_at c.args.self.now _ c.args.probe.now f c.args.bytes.now n (n + 1) Greater false c.seek_window-passed.ensures.below stop refl refl refl refl
          c.requires.can.1 (c.link_in-self-in-Above.ensures ∙ ap (λ (x : List _). link_of (standing f x)) c.nth_cell.ensures) refl;
      spelled = spelled_at f c.args.probe.now c.args.bytes.now c.args.self.now.most n Greater c.seek_window-passed.ensures.below stop;
      first = λ _. omega arith;
    }

pub returns-in-Bad : goal.returns-in-Bad
returns-in-Bad c =
    let f = c.args.format in
    let n = c.seek_window-passed.result.0 in
    let left = left_behind f c.args.probe.now c.args.bytes.now c.args.self.now.most n c.seek_window-passed.result.1 c.in-Bad.is c.seek_window-passed.ensures.stops in
    record {
      sought = sees_behind c.args.self.now _ c.args.probe.now f c.args.bytes.now n n c.seek_window-passed.ensures.few c.seek_window-passed.ensures.below
          left refl refl c.requires.can.1 refl;
      spelled = spelled_below f c.args.probe.now c.args.bytes.now n c.seek_window-passed.ensures.below;
      first = some_behind f c.args.bytes.now c.args.self.now.most n c.requires.can.0 left;
    }
