-- The machine values of the handle of a load. Assumes `Logic`.
use Rattle.std.proofs.Common.{◌≡◌, ℕ, List, [], ◌∷◌, ◌++◌, refl, subst, true≢false}
use mathlib.Core.Bool.{true}
use mathlib.Core.Path.{sym}
use seplogic.Ra.Ura.{Ura}
use mir.Raw.{raw as bare}
use mir.Val.{Val, vptr, vstruct, of_list}
use base.Logic.{never, fst∗}
use types.Logic.{Logic, sem}
use types.Kit.{Item, Goal, Seq, Step, step, ‵, ◌$◌, drop, fsplit, fjoin, fpick, fpack, rewrite, feq_i, feq_l}
use denote.RattleType.{RattleType, Valss}
use denote.Builtin.{RawPtr}
use denote.Memory.{lone}
use denote.RawPtr.{Ptr, block_ptr, null_ptr, in_a_block}
use denote.RawPtr.{ptr_val as pointer}
use denote.Steps.{nothing}
use denote.Struct.Struct.{within}
use denote.Struct.Owning.{shape}
use Rattle.std_alloc.specs.Box.Ownership.{box_owns}
use Rattle.std.specs.Prelude.{Option, Some, None, is_some}
use Rattle.cola_handle.specs.Handle.{given_back}
use Rattle.cola_handle.proofs.Values.{owned_val}
use Rattle.cola_tools.specs.contracts.loading.Load as load
use Rattle.cola_c.specs.LoadHandle.{load_at}
use Rattle.cola_c.specs.contracts.load_handle.OwnedLoad as owned

abbrev pub S : RattleType
S = load.the_row

pub taken : (o : Option S.Denot) → is_some o ≡ true → (x : S.Denot) × (o ≡ Some x)
taken None e = absurd (true≢false (sym e))
taken (Some x) e = (x, refl)

module _ {M : Type 1} {𝓤 : Ura M} {𝓛 : Logic 𝓤} {K : Type 0} {Γ : List (Item 𝓤)} {G : Goal 𝓤 𝓛.H} where
  -- what a full one owns is made, and taken out
  pub owned_in : K → (b o : ℕ) (x : S.Denot)
      → Step K 𝓛 (‵ (owned.the_row.own_val (record { at = block_ptr b o; load = Some x }) (owned_val (block_ptr b o) ∷ [])) ∷ Γ) G (‵ (box_owns given_back S (block_ptr b o) x) ∷ Γ) G
  owned_in t b o x = step (λ s. let v : Val = owned_val (block_ptr b o) in
      nothing t $ feq_i t (List Val) (vptr b o ∷ []) (vptr b o ∷ []) refl $ fjoin t $ feq_i t (List Val) (v ∷ []) (v ∷ []) refl $ fjoin t $
      fpack t (Valss (RawPtr ∷ [])) (within (shape owned.the_type) (block_ptr b o, tt) (v ∷ [])) (vptr b o ∷ [], tt) $ fjoin t $ s)

  pub owned_out : K → (d : owned.the_row.Denot) (vs : List Val) (x : S.Denot) → d.load ≡ Some x
      → ((b o : ℕ) → d.at ≡ block_ptr b o → vs ≡ owned_val (block_ptr b o) ∷ [] → Seq K 𝓛 (‵ (box_owns given_back S (block_ptr b o) x) ∷ Γ) G)
      → Seq K 𝓛 (‵ (owned.the_row.own_val d vs) ∷ Γ) G
  owned_out t d vs x full k =
      fsplit t $ fpick t (λ vss. fsplit t $ feq_l t (λ ev. fsplit t $ feq_l t (λ ep. drop t $
      rewrite t 0 (λ (s : Option S.Denot). ‵ (load_at d.at s)) full refl $
      in_a_block t d.at (λ p. box_owns given_back S p x) (fst∗ 𝓤 (never 𝓤) (sem 𝓛 (given_back (bare (lone S.mir)) null_ptr))) (λ b o e. k b o e
      (subst (λ (p : Ptr). vs ≡ owned_val p ∷ []) e (subst (λ (ps : List Val). vs ≡ vstruct (of_list (ps ++ [])) ∷ []) ep ev))))))

  pub owned_empty : K → Step K 𝓛 (‵ (owned.the_row.own_val (record { at = null_ptr; load = None }) (owned_val null_ptr ∷ [])) ∷ Γ) G Γ G
  owned_empty t = step (λ s. let v : Val = owned_val null_ptr in
      nothing t $ nothing t $ feq_i t (List Val) (pointer null_ptr ∷ []) (pointer null_ptr ∷ []) refl $ fjoin t $ feq_i t (List Val) (v ∷ []) (v ∷ []) refl $ fjoin t $
      fpack t (Valss (RawPtr ∷ [])) (within (shape owned.the_type) (null_ptr, tt) (v ∷ [])) (pointer null_ptr ∷ [], tt) $ fjoin t $ s)
