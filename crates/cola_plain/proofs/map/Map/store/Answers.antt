use Rattle.std.proofs.Common.{◌∙◌, sym, ap, arith, suc, ◌∷◌, ◌++◌, take, drop}
use Rattle.std.specs.FinMap.Entries.{put}
use Rattle.cola_spec.specs.Map.{key_cmp}
use Rattle.cola_plain.specs.Map.{kept_in, listed}
use Rattle.cola_plain.proofs.MapLemmas.{set_listed}
use Rattle.cola_plain.proofs.map.Map.store.Goals as goal

pub index_mut-requires : goal.index_mut-requires
index_mut-requires c = let at = c.in-Ok.ensures (kept_in c.args.entry) in omega (arith, at.within, c.args.self.now.entries.ok.0)

pub insert-requires : goal.insert-requires
insert-requires c = let at = c.in-Err.ensures (kept_in c.args.entry) in omega (arith, at.within, c.args.self.now.entries.ok.0)

pub returns-in-Ok-clause-stored : goal.returns-in-Ok-clause-stored
returns-in-Ok-clause-stored c =
    let at = c.in-Ok.ensures (kept_in c.args.entry) in
    let es = c.args.self.now.entries.items in
    set_listed es c.in-Ok.i c.args.entry at.within
    ∙ ap (λ k. listed (take c.in-Ok.i es) ++ (k, kept_in c.args.entry) ∷ listed (drop (suc c.in-Ok.i) es)) (sym c.deref.ensures.value)
    ∙ sym at.replaced
    ∙ ap (λ k. put key_cmp k (kept_in c.args.entry) (listed es)) c.deref.ensures.value
