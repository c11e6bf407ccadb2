use Rattle.std.proofs.Common.{◌≡◌, ℕ, List, false, sym, ap, subst}
use Rattle.cola_mapped.specs.Region.{bytes_in}
use Rattle.cola_tools.specs.Loading.{Loads, Ends}
use Rattle.cola_tools.proofs.Loaded.{never-fails, stays-laid, ends}
use Rattle.cola_tools.proofs.loading.Load.end.Goals as goal

pub unreachable-requires : goal.unreachable-requires
unreachable-requires c =
    never-fails c.self.inside.device c.finish-ended.new.device c.is_sound.ensures c.is_sound-2.ensures c.self.invariant.laid c.finish-ended.ensures.size_stays c.finish-ended.ensures.kept c.in-Err.ensures.counts.cause

pub returns-clause-made : goal.returns-clause-made
returns-clause-made c =
    let old : Loads = record { loader = c.self.inside.loader; device = c.self.inside.device } in
    let laid : c.finish-ended.new.device.refused ≡ false =
    stays-laid c.self.inside.device c.finish-ended.new.device c.is_sound.ensures c.is_sound-2.ensures c.self.invariant.laid c.finish-ended.ensures.size_stays c.in-Ok.ensures.counts.none_hidden in
    subst (λ (load : Loads). Ends load (bytes_in c.into_region.result.bytes)) c.self.view_is
    (subst (λ (bytes : List ℕ). Ends old bytes) (sym (ap bytes_in c.into_region.ensures.bytes)) (ends old c.finish-ended.new.device c.is_sound-2.ensures laid c.in-Ok.ensures.finishes))
