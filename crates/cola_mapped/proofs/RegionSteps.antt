-- What a region owns is told and made. Assumes `Logic`.
use Rattle.std.proofs.Common.{◌≡◌, ℕ, ◌^◌, ◌<◌, List, [], ◌∷◌, ◌++◌, refl, ◌∙◌, lit<, w64}
use Rattle.std.specs.Prelude.{Option, None}
use seplogic.Ra.Ura.{Ura}
use base.Fml.{Fml}
use base.Logic.{emp}
use mir.Syntax.{ty_int, ty_ptr, ty_struct, tcons, tnil}
use mir.Val.{Val, vint, vstruct, vcons, vnil, of_list}
use types.Logic.{Logic}
use contract.Monad.{fact, fact_i}
use types.Kit.{Item, Goal, Step, step, ‵, raw, ◌⊛◌, ◌$◌, use0, join, fjoin, fpack, feq_i, flt_i}
use denote.RattleType.{RattleType, Valss}
use denote.Builtin.{usize}
use denote.RawPtr.{Ptr, RawPtr, block_ptr, null_ptr, ptr_val}
use denote.Shadow.{shadow}
use denote.Steps.{nothing}
use denote.Struct.Struct.{Struct, within}
use denote.Struct.Owning.{shape}
use Rattle.core.proofs.cell.Inside.{Good}
use Rattle.cola_mapped.specs.contracts.region.Region as region

abbrev pub Row : RattleType
Row = region.the_row

-- the words of a region: its pointer and its length
abbrev pub words : Ptr → ℕ → Val
words p n = vstruct (vcons (ptr_val p) (vcons (vint w64 n) vnil))

-- what both rows own of their words
abbrev pub own_words : Ptr → ℕ → List Val → Fml
own_words p n = (Struct (record { name = []; args = []; types = []; fields = RawPtr ∷ usize ∷ [] })).own_val (p, (n, tt))

-- what is owned of the words tells them
pub words_told : (p : Ptr) (n : ℕ) (vs : List Val) → shadow (own_words p n vs) → (vs ≡ words p n ∷ []) × (n < 2 ^ 64)
words_told p n vs s = (s.1.0 ∙ (λ i. vstruct (of_list (s.1.1.0 i ++ (s.1.1.1.0.0 i ++ []))) ∷ []), s.1.1.1.0.1)

pub ptr_typed : (p : Ptr) → Good ty_ptr (ptr_val p)
ptr_typed (block_ptr b o) = (tt, tt)
ptr_typed null_ptr = (tt, record { fits = lit< tt })

pub words_typed : (p : Ptr) (n : ℕ) → n < 2 ^ 64 → Good (ty_struct [] (tcons ty_ptr (tcons (ty_int w64) tnil))) (words p n)
words_typed (block_ptr b o) n f = (tt, (tt, (record { fits = f }, tt)))
words_typed null_ptr n f = (tt, (record { fits = lit< tt }, (record { fits = f }, tt)))

module _ {M : Type 1} {𝓤 : Ura M} {𝓛 : Logic 𝓤} {K : Type 0} {Γ : List (Item 𝓤)} {G : Goal 𝓤 𝓛.H} where
  pub region_empty : K → Step K 𝓛 (‵ (Row.own_val (record { at = null_ptr; len = 0; bytes = None }) (words null_ptr 0 ∷ [])) ∷ Γ) G Γ G
  region_empty t = step (λ s. let v : Val = words null_ptr 0 in
      nothing t $ nothing t $ flt_i t 0 (2 ^ 64) (lit< tt) $ feq_i t (List Val) (vint w64 0 ∷ []) (vint w64 0 ∷ []) refl $ fjoin t $ fjoin t $
      feq_i t (List Val) (ptr_val null_ptr ∷ []) (ptr_val null_ptr ∷ []) refl $ fjoin t $ feq_i t (List Val) (v ∷ []) (v ∷ []) refl $ fjoin t $
      fpack t (Valss (shape region.the_type).fields) (within (shape region.the_type) (null_ptr, (0, tt)) (v ∷ [])) (ptr_val null_ptr ∷ [], (vint w64 0 ∷ [], tt)) $ fjoin t $ s)

  -- a region that is handed over keeps its fields
  pub as_before : K → (p : Ptr) (n : ℕ) (bytes : Option (List ℕ)) → Step K 𝓛 ((raw (fact 𝓤 (p ≡ p)) ⊛ raw (fact 𝓤 (n ≡ n)) ⊛ raw (fact 𝓤 (bytes ≡ bytes))) ∷ Γ) G Γ G
  as_before t p n bytes = step (λ s. use0 𝓛 (raw (fact 𝓤 (bytes ≡ bytes))) (fact_i 𝓤 (bytes ≡ bytes) (emp 𝓤) refl) $ use0 𝓛 (raw (fact 𝓤 (n ≡ n))) (fact_i 𝓤 (n ≡ n) (emp 𝓤) refl) $ join t $
      use0 𝓛 (raw (fact 𝓤 (p ≡ p))) (fact_i 𝓤 (p ≡ p) (emp 𝓤) refl) $ join t $ s)
