-- `shown` reads the pointer and the length through a `&`, and gives the bytes that the region lends. A walk of its MIR by hand.
use Rattle.std.proofs.Common.{◌≡◌, ℕ, ◌+◌, ◌*◌, ◌^◌, ◌<◌, List, [], ◌∷◌, length, refl, sym, ap, subst, arith, w64, Bor}
use Rattle.std.specs.Prelude.{Option, Some, IsSome}
use seplogic.Ra.Ura.{Ura}
use mir.Syntax.{Body, named, seq, assign, place, rv_opd, copy, return}
use mir.Val.{Val, vptr}
use base.Logic.{SProp, ent, sep}
use base.Fml.{Lft, Share, Fml, ftrue, flft, fhide}
use prog.Memory.{Memory}
use prog.Routine.{Routine}
use prog.Wp.{Env, Calls, Loops, WpFn}
use types.Logic.{Logic, sem}
use contract.Monad.{Fun, fact}
use contract.Running.{tables}
use types.Kit.{‵, raw, ◌⊛◌, at_ret, ◌$◌, ◌∵◌, !, qed, by, move, keep, use1, drop, split, join, rewrite, suffices, frame, fsplit, fjoin, feq_i, feq_l, flt_i, flt_l, done}
use types.Part.{agg}
use types.Run.{stop, fld, look, load, of_opd, first, blocks, exec, returns, enter, and_then, no_more}
use types.ByLocal.{alloc_all, pass_all, free_all, look_at, get, through, sets, sets_last, env}
use denote.Exit.{yes}
use denote.RattleType.{RattleType, RowLaws, owns}
use denote.Memory.{hidden_shr}
use denote.Builtin.{u8, usize, RefOf}
use denote.Opens.{shr_dup, hide, unhide}
use denote.Plain.{uint_row_laws}
use denote.RawPtr.{RawPtr, InBlock, block_of, count_of, ptr_row_laws}
use denote.Ref.{ShrRef, shr_vals, shr_Tells}
use denote.Signature.{plain}
use denote.Slice.{slice_val, elements_shared}
use denote.Steps.{nothing, heard}
use denote.Struct.Struct.{Struct, Struct-row_laws}
use denote.Struct.Owning.{shape, to}
use denote.Struct.Lending.{in_block_says, lent_out}
use denote.Triple.Clauses.{Clauses}
use denote.Triple.Entry.{on_entry}
use denote.Triple.Walked.{says, needs, Stays, stay_dropped, walk_of, ends_at, Goes-dropped}
use Rattle.std.proofs.Words.{word_in, word_out, pointer_in, pointer_out}
use Rattle.std.proofs.raw_atomic.Walks.{proved}
use Rattle.cola_mapped.proofs.RegionLemmas.{some_of}
use Rattle.cola_mapped.proofs.LentSteps.{Row}
use Rattle.cola_mapped.specs.Region.{region_lent}
use Rattle.cola_mapped.specs.contracts.lent.Lent as lent
use Rattle.cola_mapped.specs.contracts.lent.Lent.shown as f
use Rattle.cola_mapped.specs.contracts.lent.Lent.shown.Key.{name as #self}
use Rattle.cola_mapped.proofs.lent.Lent.shown.Statement.{statement}
use Rattle.cola_mapped.proofs.lent.Lent.shown.Code as code

abbrev stayed : Stays (f.ended).signature.params (f.ended).kept
stayed = (stay_dropped (RefOf (0 ∷ []) tt (plain (λ _. Row)) (λ _. tt)) yes, tt)

-- the MIR after the `unsafe` block: its value goes to the result
abbrev after_block : Body
after_block = seq (assign (place 0 []) (rv_opd (copy (place 2 [])))) return

-- the struct of the data fields alone
abbrev Words : RattleType
Words = Struct (shape lent.the_type)

words_laws : RowLaws Words
words_laws = Struct-row_laws (shape lent.the_type) (ptr_row_laws, (uint_row_laws w64, tt))

module _ {M : Type 1} {𝓤 : Ura M} (𝓛 : Logic 𝓤) (at_mem : Memory → SProp 𝓤) (run : Routine → Fun 𝓤) (κ : Lft) (q : Share) (rb ro : ℕ) (d : Row.Denot) where
  open 𝓛 use {H, A}

  abbrev clauses : Clauses 𝓤 f.ended
  clauses = f.clauses 𝓛 at_mem run

  abbrev self : Bor Row.Denot
  self = record { ref_ptr = (rb, ro); now = d }

  abbrev bound : (walk_of 𝓛 f.ended stayed clauses).Ghost
  bound = (((κ, tt), (q, tt), tt, (self, tt), (vptr rb ro ∷ [], tt)), tt)

  abbrev Post : Val → SProp 𝓤
  Post = (walk_of 𝓛 f.ended stayed clauses).post bound

  abbrev at : ℕ × ℕ
  at = (block_of d.at, count_of d.at)

  abbrev fields : Words.Denot
  fields = to lent.the_type d

  abbrev S : Fml
  S = hidden_shr Words κ fields rb ro

  shows_at : ent 𝓤 (sem 𝓛 S) (sep 𝓤 (sem 𝓛 (hidden_shr RawPtr κ d.at rb (ro + 0))) (sem 𝓛 S))
  shows_at = qed 𝓛 (‵ S ∷ []) ∵ shr_dup ! Words words_laws fields rb ro κ $ unhide ! $ fsplit ! $ fsplit ! $ hide ! $ keep ! (0 ∷ 3 ∷ []) $ done !

  shows_len : ent 𝓤 (sem 𝓛 S) (sep 𝓤 (sem 𝓛 (hidden_shr usize κ d.len rb (ro + 8))) (sem 𝓛 S))
  shows_len = qed 𝓛 (‵ S ∷ []) ∵ shr_dup ! Words words_laws fields rb ro κ $ unhide ! $ fsplit ! $ fsplit ! $ drop ! $ fsplit ! $ hide ! $ keep ! (0 ∷ 3 ∷ []) $ done !

  module _ (xs : List ℕ) (full : d.bytes ≡ Some xs) where
    exits : length xs ≡ d.len → d.len < 2 ^ 64 → d.len < 2 ^ 63 → ent 𝓤 (sep 𝓤 (A.lft κ q) (sem 𝓛 (fhide (elements_shared u8 xs at.0 at.1 κ)))) (Post (slice_val at d.len))
    exits same fn low =
        let roomy : length xs < 2 ^ 64 = subst (λ (n : ℕ). n < 2 ^ 64) (sym same) fn in
        let few : length xs < 2 ^ 63 = subst (λ (n : ℕ). n < 2 ^ 63) (sym same) low in
        let fitting : length xs * 1 < 2 ^ 63 = omega arith in
        qed 𝓛 (‵ (flft κ q) ∷ ‵ (fhide (elements_shared u8 xs at.0 at.1 κ)) ∷ []) ∵
        suffices ! _ (ends_at 𝓛 f.ended stayed clauses bound (slice_val at d.len) (record { ref_ptr = at; now = xs }) (tt, tt) (tt, tt)) $ says ! full $
        nothing ! $ move ! (1 ∷ 0 ∷ []) $ join ! $ frame ! $
        flt_i ! (length xs * 1) (2 ^ 63) fitting $ flt_i ! (length xs) (2 ^ 64) roomy $ fjoin ! $
        feq_i ! (List Val) (slice_val at d.len ∷ []) (slice_val at (length xs) ∷ []) (ap (λ (n : ℕ). slice_val at n ∷ []) (sym same)) $ fjoin ! $ fjoin ! $
        nothing ! $ nothing ! $ fjoin ! $ done !

  walk : (C : Calls 𝓤 H) (Λ : Loops 𝓤 H) → IsSome d.bytes → ent 𝓤 (on_entry 𝓛 f.signature (κ, tt) (q, tt) (self, tt) (vptr rb ro ∷ [], tt)) (WpFn 𝓤 H C Λ code.function (vptr rb ro ∷ []) Post)
  walk C Λ is_full =
      let got : (xs : List ℕ) × (d.bytes ≡ Some xs) = some_of d.bytes is_full in let xs : List ℕ = got.0 in let full : d.bytes ≡ Some xs = got.1 in
      qed 𝓛 ((‵ (flft κ q) ⊛ ‵ ftrue) ∷ ‵ (owns (ShrRef (named 0) κ Row ∷ []) (self, tt) (vptr rb ro ∷ [], tt)) ∷ []) ∵
      enter ! C Λ code.function (vptr rb ro ∷ []) _ $
      alloc_all ! (λ l. pass_all ! refl ((tt, tt), tt) $
      let En : Env 𝓤 H = env (code.function).locals l in
      move ! (1 ∷ []) $ fsplit ! $ fsplit ! $ drop ! $
      use1 𝓛 (‵ S ⊛ ‵ (fhide (lent.the_lent d d.at κ))) (lent_out 𝓛 lent.struct lent.the_codes lent.the_heap lent.the_lent κ d rb ro) $ split ! $ move ! (1 ∷ []) $ unhide ! $
      rewrite ! 0 (λ (s : Option (List ℕ)). ‵ (region_lent d.at d.len s κ)) full refl $ fsplit ! $ flt_l ! (λ low. fsplit ! $
      use1 𝓛 (raw (fact 𝓤 (InBlock d.at))) (in_block_says 𝓛 d.at) $ heard ! (InBlock d.at) (λ inb. fsplit ! $ feq_l ! (λ same. hide ! $
      -- [the bytes; the words; nothing; the token]
      move ! (3 ∷ []) $ split ! $ move ! (3 ∷ 0 ∷ []) $
      first ! $ blocks ! $
      pointer_in ! tt d.at inb rb (ro + 0) shows_at (λ q₀.
      sets ! (of_opd ! (load ! (through ! refl (fld ! refl (stop !))) (look ! 1 refl))) refl (tt, tt) $
      pointer_out ! tt d.at inb rb (ro + 0) $ move ! (1 ∷ 0 ∷ []) $
      word_in ! tt d.len rb (ro + 8) shows_len (λ q₁ fn.
      sets ! (of_opd ! (load ! (through ! refl (fld ! refl (stop !))) (look ! 1 refl))) refl (tt, record { fits = fn }) $
      word_out ! tt d.len rb (ro + 8) fn $
      sets_last ! (agg ! (and_then ! (get ! refl) (and_then ! (get ! refl) (no_more !)))) refl (tt, (tt, (record { fits = fn }, tt))) $
      exec ! C Λ En after_block (at_ret En Post) $
      sets ! (of_opd ! (get ! refl)) refl (tt, (tt, (record { fits = fn }, tt))) $
      returns ! (look_at ! 0 refl) $ free_all ! refl $
      keep ! (0 ∷ 3 ∷ []) $ by ! (exits xs full same fn low)))))))

pub shown_spec : {M : Type 1} → statement M
shown_spec 𝓤 𝓛 𝓜 𝓡 wired =
    let 𝓣 = tables 𝓤 𝓛.H 𝓜 𝓡 𝓡.env in
    proved 𝓛 f.ended stayed (f.clauses 𝓛 𝓜.mem 𝓡.returns) 𝓜 𝓡 (Goes-dropped 𝓛 1 (RefOf (0 ∷ []) tt (plain (λ _. Row)) (λ _. tt)) yes (λ κs x w. refl), tt) #self code.function (code.unfolded 𝓤 𝓛.H 𝓜 𝓡 wired)
    (λ κs. (shr_vals, tt)) (λ κs. (shr_Tells (named 0) κs.0 Row, tt))
    (λ κs qs bounds a g are. needs 𝓤 (IsSome a.0.now.bytes) _ (walk 𝓛 𝓜.mem 𝓡.returns κs.0 qs.0 a.0.ref_ptr.0 a.0.ref_ptr.1 a.0.now 𝓣.C 𝓣.Λ))
