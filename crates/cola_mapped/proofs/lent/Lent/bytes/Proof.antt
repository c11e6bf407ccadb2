-- `bytes` lends what the region owns. A walk of its MIR by hand.
use Rattle.std.proofs.Common.{◌≡◌, ℕ, ◌*◌, ◌^◌, ◌<◌, List, [], ◌∷◌, length, refl, sym, subst, ◌∙◌, arith}
use Rattle.std.specs.Prelude.{Some, IsSome}
use seplogic.Ra.Ura.{Ura}
use base.Fraction.{full_share}
use mir.Syntax.{Body, named, seq, assign, place, rv_opd, copy, return}
use mir.Val.{Val, vptr}
use base.Logic.{SProp, ent, sep}
use base.Fml.{Lft, GName, Share, Fml, ftrue, feq, fsep, flft}
use prog.Memory.{Memory}
use prog.Routine.{Routine}
use prog.Wp.{Env, Calls, Loops, WpFn}
use types.Logic.{Logic, sem}
use contract.Monad.{Fun}
use contract.Running.{tables}
use types.Kit.{‵, raw, ◌⊛◌, some, later, at_ret, group, ◌$◌, ◌∵◌, !, qed, by, move, keep, use1, drop, split, join, pick, await, rewrite, suffices, frame, fsplit, fsplit3, fjoin, fpack, feq_i, feq_l, done}
use types.Part.{whole, sub, look_in, agg}
use types.Run.{stop, fld, load, of_opd, first, blocks, exec, returns, enter, and_then, no_more}
use types.ByLocal.{alloc_all, pass_all, free_all, look_at, get, through, sets, sets_last, env}
use types.SemTy.{cells}
use denote.Exit.{no}
use denote.RattleType.{owns}
use denote.Memory.{part_at, part_of, cell_at, mem}
use denote.Array.{Array}
use denote.Builtin.{u8}
use denote.RawPtr.{Ptr, block_ptr}
use denote.RawPtr.Bytes.{bytes_apart, bytes_whole}
use denote.Ref.{MutRef, mut_vals, mut_Tells}
use denote.Index.{row, whole_in, whole_out}
use denote.Slice.{MutSlice, slice_val}
use denote.Signature.{plain, mut_ref_to}
use denote.Follow.{follows}
use denote.FollowSlice.{Elements, lends_Elements}
use denote.Steps.{nothing, opens}
use denote.Triple.Clauses.{Clauses}
use denote.Triple.Entry.{on_entry}
use denote.Triple.Walked.{says, needs, Stays, stay_dropped, walk_of, ends_at, Goes-spent_ref}
use Rattle.std.proofs.raw_atomic.Walks.{proved}
use Rattle.cola_mapped.proofs.RegionLemmas.{some_of}
use Rattle.cola_mapped.proofs.RegionSteps.{words}
use Rattle.cola_mapped.proofs.LentSteps.{Row, lent_had, lent_made}
use Rattle.cola_mapped.specs.Lending.{with_bytes}
use Rattle.cola_mapped.specs.contracts.lent.Lent.bytes as f
use Rattle.cola_mapped.specs.contracts.lent.Lent.bytes.Key.{name as #self}
use Rattle.cola_mapped.proofs.lent.Lent.bytes.Statement.{statement}
use Rattle.cola_mapped.proofs.lent.Lent.bytes.Code as code

abbrev stayed : Stays (f.ended).signature.params (f.ended).kept
stayed = (stay_dropped (mut_ref_to (0 ∷ []) tt (plain (λ _. Row))) no, tt)

-- the MIR after the `unsafe` block: its value goes to the result
abbrev after_block : Body
after_block = seq (assign (place 0 []) (rv_opd (copy (place 2 [])))) return

module _ {M : Type 1} {𝓤 : Ura M} (𝓛 : Logic 𝓤) (at_mem : Memory → SProp 𝓤) (run : Routine → Fun 𝓤) (κ : Lft) (q : Share) (rb ro : ℕ) (γ : GName) (h : Row.Denot) where
  open 𝓛 use {H, A}

  abbrev clauses : Clauses 𝓤 f.ended
  clauses = f.clauses 𝓛 at_mem run

  abbrev bound : (walk_of 𝓛 f.ended stayed clauses).Ghost
  bound = (((κ, tt), (q, tt), tt, (record { ref_ptr = (rb, ro); ghost_name = γ; now = h }, tt), (vptr rb ro ∷ [], tt)), tt)

  abbrev Post : Val → SProp 𝓤
  Post = (walk_of 𝓛 f.ended stayed clauses).post bound

  module _ (xs : List ℕ) (full : h.bytes ≡ Some xs) (b o : ℕ) (at_b : h.at ≡ block_ptr b o) where
    abbrev Rest : Fml
    Rest = cell_at full_share Row.mir (words (block_ptr b o) h.len ∷ []) rb ro

    -- the region is made again of any bytes, as many as there were
    back : length xs ≡ h.len → h.len < 2 ^ 64 → h.len < 2 ^ 63 → (ws : List ℕ) → length ws ≡ length xs
        → ent 𝓤 (sep 𝓤 (sem 𝓛 (cells (mem u8) ws b o)) (sem 𝓛 Rest)) (sem 𝓛 ((mem Row).own_at (with_bytes h ws) rb ro))
    unfolding part_of
    back same fn low ws e =
        qed 𝓛 (‵ (cells (mem u8) ws b o) ∷ ‵ Rest ∷ []) ∵ use1 𝓛 (‵ (row u8 full_share ws b o)) (whole_out 𝓛 u8 ws b o) $
        feq_i ! ℕ (length ws) h.len (e ∙ same) $ fjoin ! $ use1 𝓛 (‵ (part_at (Array u8 h.len) full_share ws b o)) (bytes_whole 𝓛 full_share h.len ws b o) $
        lent_made ! b o h.len ws fn low $
        rewrite ! 0 (λ (p : Ptr). ‵ (Row.own_val (record { at = p; len = h.len; bytes = Some ws }) (words (block_ptr b o) h.len ∷ []))) (sym at_b) refl $ move ! (1 ∷ 0 ∷ []) $ fjoin ! $
        fpack ! (List Val) (λ us. fsep (cell_at full_share Row.mir us rb ro) (Row.own_val (with_bytes h ws) us)) (words (block_ptr b o) h.len ∷ []) $ done !

    exits : length xs ≡ h.len → (γ' : GName)
        → ent 𝓤 (sep 𝓤 (sem 𝓛 ((MutSlice (named 0) κ u8).own_val (record { ref_ptr = (b, o); ghost_name = γ'; now = xs }) (slice_val (b, o) (length xs) ∷ []))) (sep 𝓤 (A.lft κ q) (sem 𝓛 (follows Row (Array u8 0) γ γ' (with_bytes h))))) (Post (slice_val (b, o) h.len))
    exits same γ' =
        qed 𝓛 (‵ ((MutSlice (named 0) κ u8).own_val (record { ref_ptr = (b, o); ghost_name = γ'; now = xs }) (slice_val (b, o) (length xs) ∷ [])) ∷ ‵ (flft κ q) ∷ ‵ (follows Row (Array u8 0) γ γ' (with_bytes h)) ∷ []) ∵
        rewrite ! 0 (λ (j : ℕ). ‵ ((MutSlice (named 0) κ u8).own_val (record { ref_ptr = (b, o); ghost_name = γ'; now = xs }) (slice_val (b, o) j ∷ []))) same refl $
        suffices ! _ (ends_at 𝓛 f.ended stayed clauses bound (slice_val (b, o) h.len) (record { ref_ptr = (b, o); ghost_name = γ'; now = xs }) (tt, tt) (tt, tt)) $
        nothing ! $ nothing ! $ fjoin ! $ join ! $ nothing ! $ move ! (2 ∷ 0 ∷ []) $ join ! $ join ! $ frame ! $ says ! full $ done !

  walk : (C : Calls 𝓤 H) (Λ : Loops 𝓤 H) → IsSome h.bytes → ent 𝓤 (on_entry 𝓛 f.signature (κ, tt) (q, tt) (record { ref_ptr = (rb, ro); ghost_name = γ; now = h }, tt) (vptr rb ro ∷ [], tt)) (WpFn 𝓤 H C Λ code.function (vptr rb ro ∷ []) Post)
  walk C Λ is_full =
      let got : (xs : List ℕ) × (h.bytes ≡ Some xs) = some_of h.bytes is_full in let xs : List ℕ = got.0 in let full : h.bytes ≡ Some xs = got.1 in
      qed 𝓛 ((‵ (flft κ q) ⊛ ‵ ftrue) ∷ ‵ (owns (MutRef (named 0) κ Row ∷ []) (record { ref_ptr = (rb, ro); ghost_name = γ; now = h }, tt) (vptr rb ro ∷ [], tt)) ∷ []) ∵
      enter ! C Λ code.function (vptr rb ro ∷ []) _ $
      alloc_all ! (λ l. pass_all ! refl ((tt, tt), tt) $
      let En : Env 𝓤 H = env (code.function).locals l in
      move ! (1 ∷ []) $ fsplit ! $ fsplit3 ! $ drop ! $ move ! (3 ∷ []) $ split ! $ move ! (2 ∷ 3 ∷ 0 ∷ []) $
      opens ! tt Row {h = h} rb ro (λ vs. move ! (1 ∷ []) $ lent_had ! h vs xs full (λ b o at_b is fn low.
      rewrite ! 1 (λ (ws : List Val). ‵ (cell_at full_share Row.mir ws rb ro)) is refl $
      use1 𝓛 (‵ (fsep (feq ℕ (length xs) h.len) (row u8 full_share xs b o))) (bytes_apart 𝓛 full_share h.len xs b o) $ fsplit ! $ feq_l ! (λ same.
      -- [the bytes; the words; the open borrow; obs; auth]
      first ! $ blocks ! $
      sets ! (of_opd ! (load ! (through ! refl (fld ! refl (stop !))) (look_in ! 1 (sub ! 0 refl (whole !))))) refl (tt, tt) $
      sets ! (of_opd ! (load ! (through ! refl (fld ! refl (stop !))) (look_in ! 1 (sub ! 1 refl (whole !))))) refl (tt, record { fits = fn }) $
      sets_last ! (agg ! (and_then ! (get ! refl) (and_then ! (get ! refl) (no_more !)))) refl (tt, (tt, (record { fits = fn }, tt))) $
      exec ! C Λ En after_block (at_ret En Post) $
      sets ! (of_opd ! (get ! refl)) refl (tt, (tt, (record { fits = fn }, tt))) $
      use1 𝓛 (‵ (cells (mem u8) xs b o)) (whole_in 𝓛 u8 xs b o) $ move ! (2 ∷ 3 ∷ 4 ∷ 0 ∷ 1 ∷ []) $ group ! 5 $
      let roomy : length xs < 2 ^ 64 = subst (λ (n : ℕ). n < 2 ^ 64) (sym same) fn in
      let few : length xs < 2 ^ 63 = subst (λ (n : ℕ). n < 2 ^ 63) (sym same) low in
      let fitting : length xs * 1 < 2 ^ 63 = omega arith in
      use1 𝓛 (later (some (λ (γ' : GName). raw (Elements 𝓛 Row u8 (with_bytes h) (named 0) κ q rb ro b o γ xs (roomy, fitting) (sem 𝓛 (Rest xs full b o at_b)) (back xs full b o at_b same fn low) γ'))))
      (lends_Elements 𝓛 Row u8 (with_bytes h) (named 0) κ q rb ro b o γ xs (roomy, fitting) (sem 𝓛 (Rest xs full b o at_b)) (back xs full b o at_b same fn low) (Row.coded.code h) (Row.coded.code h)) $ await ! tt $ pick ! (λ γ'.
      returns ! (look_at ! 0 refl) $ free_all ! refl $
      keep ! (0 ∷ []) $ by ! (exits xs full b o at_b same γ'))))))

pub bytes_spec : {M : Type 1} → statement M
bytes_spec 𝓤 𝓛 𝓜 𝓡 wired =
    let 𝓣 = tables 𝓤 𝓛.H 𝓜 𝓡 𝓡.env in
    proved 𝓛 f.ended stayed (f.clauses 𝓛 𝓜.mem 𝓡.returns) 𝓜 𝓡 (Goes-spent_ref 𝓛 1 (0 ∷ []) tt (plain (λ _. Row)), tt) #self code.function (code.unfolded 𝓤 𝓛.H 𝓜 𝓡 wired)
    (λ κs. (mut_vals, tt)) (λ κs. (mut_Tells (named 0) κs.0 Row, tt))
    (λ κs qs bounds a g are. needs 𝓤 (IsSome a.0.now.bytes) _ (walk 𝓛 𝓜.mem 𝓡.returns κs.0 qs.0 a.0.ref_ptr.0 a.0.ref_ptr.1 a.0.ghost_name a.0.now 𝓣.C 𝓣.Λ))
