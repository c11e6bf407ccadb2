-- `into_region` hands back what was lent.
use Rattle.std.proofs.Common.{List, [], ◌∷◌, ◌++◌, refl}
use mir.Syntax.{Fn}
use mir.Val.{Val}
use base.Logic.{SProp}
use base.Fml.{ftrue}
use prog.Wp.{WpFn}
use contract.Running.{tables}
use types.Kit.{‵, raw, ◌⊛◌, prop, ◌$◌, ◌∵◌, !, qed, by, move, drop, split, rewrite, regoal, fsplit, fjoin}
use types.Part.{whole, sub, agg}
use types.Run.{stop, fld, of_opd, no_more, and_then, returns, enter}
use types.ByLocal.{alloc_all, pass_all, free_all, look_at, get, get_in, sets}
use denote.Exit.{yes}
use denote.RattleType.{owns}
use denote.Signature.{plain, types_at}
use denote.Steps.{nothing}
use denote.Triple.Entry.{alive}
use denote.Triple.Walked.{Stays, stay_dropped, walk_of, Goes-dropped}
use Rattle.std.proofs.raw_atomic.Walks.{proved_at, leaves}
use Rattle.cola_mapped.proofs.RegionSteps.{words, words_told, ptr_typed, words_typed, as_before}
use Rattle.cola_mapped.specs.contracts.region.Region as region
use Rattle.cola_mapped.specs.contracts.lent.Lent as lent
use Rattle.cola_mapped.specs.contracts.lent.Lent.into_region.{ended, clauses}
use Rattle.cola_mapped.specs.contracts.lent.Lent.into_region.Key.{name as #self}
use Rattle.cola_mapped.proofs.lent.Lent.into_region.Statement.{statement}
use Rattle.cola_mapped.proofs.lent.Lent.into_region.Code as code

abbrev stayed : Stays ended.signature.params ended.kept
stayed = (stay_dropped (plain (λ _. lent.the_row)) yes, tt)

pub into_region_spec : {M : Type 1} → statement M
into_region_spec 𝓤 𝓛 𝓜 𝓡 wired =
    let H = 𝓛.H in let 𝓣 = tables 𝓤 H 𝓜 𝓡 𝓡.env in let c = clauses 𝓛 𝓜.mem 𝓡.returns in let fn : Fn = code.function in
    proved_at 𝓛 ended stayed c 𝓜 𝓡 (Goes-dropped 𝓛 0 (plain (λ _. lent.the_row)) yes (λ κs x f. refl), tt) #self fn (code.unfolded 𝓤 H 𝓜 𝓡 wired) (λ y are.
    let x = y.0.3.0 in let vs = y.0.4.0 in let Post : Val → SProp 𝓤 = (walk_of 𝓛 ended stayed c).post y in let told = words_told x.at x.len vs are.0.0 in
    qed 𝓛 ((raw (alive 𝓛 ended.signature y.0.0 y.0.1) ⊛ ‵ (owns (types_at ended.signature.params y.0.0) y.0.3 y.0.4)) ∷ ‵ ftrue ∷ []) ∵
    move ! (1 ∷ []) $ drop ! $ split ! $ move ! (1 ∷ []) $ fsplit ! $ move ! (1 ∷ []) $ drop ! $
    rewrite ! 0 (λ (us : List Val). ‵ (lent.the_row.own_val x us)) told.0 refl $ regoal ! (λ (us : List Val). prop (WpFn 𝓤 H 𝓣.C 𝓣.Λ fn us Post)) (λ i. told.0 i ++ []) refl $
    enter ! 𝓣.C 𝓣.Λ fn (words x.at x.len ∷ []) Post $
    alloc_all ! (λ l. pass_all ! refl (words_typed x.at x.len told.1, tt) $
    sets ! (of_opd ! (get_in ! (fld ! refl (stop !)) (sub ! 0 refl (whole !)))) refl (ptr_typed x.at) $
    sets ! (of_opd ! (get_in ! (fld ! refl (stop !)) (sub ! 1 refl (whole !)))) refl (tt, record { fits = told.1 }) $
    sets ! (agg ! (and_then ! (get ! refl) (and_then ! (get ! refl) (no_more !)))) refl (words_typed x.at x.len told.1) $
    returns ! (look_at ! 0 refl) $ free_all ! refl $
    let r : region.the_row.Denot = record { at = x.at; len = x.len; bytes = x.bytes } in
    nothing ! $ nothing ! $ fjoin ! $ as_before ! x.at x.len x.bytes $ move ! (3 ∷ 1 ∷ 2 ∷ 0 ∷ []) $
    by ! (leaves 𝓛 ended stayed c y (words x.at x.len) r (tt, tt) (tt, tt))))
