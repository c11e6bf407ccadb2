-- What was lent is taken apart and made. Assumes `Logic`.
use Rattle.std.proofs.Common.{◌≡◌, ℕ, ◌^◌, ◌<◌, List, [], ◌∷◌, ◌++◌, refl, ap, ◌∙◌, w64}
use Rattle.std.specs.Prelude.{Option, Some}
use seplogic.Ra.Ura.{Ura}
use base.Fraction.{full_share}
use base.Logic.{never, id⊢}
use mir.Val.{Val, vint, vptr, vstruct, of_list}
use types.Logic.{Logic}
use types.Kit.{Item, Goal, Seq, Step, step, ‵, ◌$◌, drop, fsplit, fjoin, fpick, fpack, rewrite, feq_i, feq_l, flt_i, flt_l}
use denote.RattleType.{RattleType, Valss}
use denote.Memory.{part_at}
use denote.Array.{Array}
use denote.Builtin.{u8}
use denote.RawPtr.{Ptr, block_ptr, in_a_block, lies_at}
use denote.Steps.{nothing}
use denote.Struct.Struct.{within}
use denote.Struct.Owning.{shape}
use Rattle.cola_mapped.specs.Region.{region_at}
use Rattle.cola_mapped.proofs.RegionSteps.{words}
use Rattle.cola_mapped.specs.contracts.lent.Lent as lent

abbrev pub Row : RattleType
Row = lent.the_row

module _ {M : Type 1} {𝓤 : Ura M} {𝓛 : Logic 𝓤} {K : Type 0} {Γ : List (Item 𝓤)} {G : Goal 𝓤 𝓛.H} where
  pub lent_had : K → (d : Row.Denot) (vs : List Val) (xs : List ℕ) → d.bytes ≡ Some xs
      → ((b o : ℕ) → d.at ≡ block_ptr b o → vs ≡ words (block_ptr b o) d.len ∷ [] → d.len < 2 ^ 64 → d.len < 2 ^ 63 → Seq K 𝓛 (‵ (part_at (Array u8 d.len) full_share xs b o) ∷ Γ) G)
      → Seq K 𝓛 (‵ (Row.own_val d vs) ∷ Γ) G
  lent_had t d vs xs full k =
      fsplit t $ fpick t (λ vss. fsplit t $ feq_l t (λ all. fsplit t $ feq_l t (λ e₀. fsplit t $ fsplit t $ feq_l t (λ e₁. flt_l t (λ fn. drop t $
      rewrite t 0 (λ (s : Option (List ℕ)). ‵ (region_at d.at d.len s)) full refl $ fsplit t $ flt_l t (λ low.
      in_a_block t d.at (λ p. lies_at (Array u8 d.len) full_share p xs) (id⊢ 𝓤 (never 𝓤)) (λ b o e.
      k b o e (all ∙ ((λ i. vstruct (of_list (e₀ i ++ (e₁ i ++ []))) ∷ []) ∙ ap (λ (p : Ptr). words p d.len ∷ []) e)) fn low)))))))

  pub lent_made : K → (b o n : ℕ) (xs : List ℕ) → n < 2 ^ 64 → n < 2 ^ 63
      → Step K 𝓛 (‵ (Row.own_val (record { at = block_ptr b o; len = n; bytes = Some xs }) (words (block_ptr b o) n ∷ [])) ∷ Γ) G (‵ (part_at (Array u8 n) full_share xs b o) ∷ Γ) G
  lent_made t b o n xs fn low = step (λ s. let v : Val = words (block_ptr b o) n in
      flt_i t n (2 ^ 63) low $ fjoin t $
      nothing t $ flt_i t n (2 ^ 64) fn $ feq_i t (List Val) (vint w64 n ∷ []) (vint w64 n ∷ []) refl $ fjoin t $ fjoin t $
      feq_i t (List Val) (vptr b o ∷ []) (vptr b o ∷ []) refl $ fjoin t $ feq_i t (List Val) (v ∷ []) (v ∷ []) refl $ fjoin t $
      fpack t (Valss (shape lent.the_type).fields) (within (shape lent.the_type) (block_ptr b o, (n, tt)) (v ∷ [])) (vptr b o ∷ [], (vint w64 n ∷ [], tt)) $ fjoin t $ s)
