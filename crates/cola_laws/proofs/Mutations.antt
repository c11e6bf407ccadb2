-- One mutation keeps a sound chain sound, for the map with its one key changed; a refused one keeps it for the same map.
use Rattle.std.proofs.Common.{◌≡◌, ℕ, suc, ◌+◌, ◌*◌, ◌^◌, ◌≤◌, Bool, true, false, cond, List, [], ◌∷◌, length, refl, sym, ap, ◌∙◌, subst, arith, Option, Some}
use Rattle.std.proofs.lemmas.Bool.{false≢true}
use Rattle.std.specs.declared.cmp.Ordering.{Ordering}
use Rattle.std.specs.Ordering.{is_eq}
use Rattle.std.specs.Cmp.{IsTotalOrder}
use Rattle.cola_clock.specs.Clock.{period, is_odd, is_over, works, window_step, flips}
use Rattle.cola_clock.proofs.Laws.{over-not_works, before-not_works, flips-zero}
use Rattle.cola_runs.specs.Cells.{Item, Cell}
use Rattle.cola_runs.specs.Seen.{Nothing, Old, holds, seen, answer, value_of}
use Rattle.cola_runs.specs.Weave.{Part, weave}
use Rattle.cola_runs.specs.Steps.{Build, consumed}
use Rattle.cola_laws.proofs.Windows.{working-less}
use Rattle.cola_laws.specs.Chain.{Level, part_of, build_of, visibles, shadows, next_runs, first_keys, value_at, updated}
use Rattle.cola_laws.specs.Sound.{Keeps, AreFew, IsFinished, AreKept, IsIdle, IsAtRest, IsWorking, IsPaced, ArePaced, HasAtMost, IsSoundFrom, IsSound}
use Rattle.cola_laws.specs.Mutation.{new_run, turned, level_after, levels_after, IsAdvanced, AreAdvanced, IsBuilt}
use Rattle.cola_laws.proofs.Values.{over_value, value_or}
use Rattle.cola_laws.specs.Alike.{AreAlike}
use Rattle.cola_laws.proofs.Alike.{alike-part, alike-next_runs, alike-visibles, alike-visible, alike-kept}
use Rattle.cola_laws.proofs.After.{level_after-turns, visibles-flip}
use Rattle.cola_laws.proofs.Live.{few-of_map}
use Rattle.cola_laws.proofs.Next.{weave-answer, weave-finished, fit-rising}
use Rattle.cola_laws.proofs.Clocked.{next-paced, next-visible, next-kept}

-- ---- the steps

module _ {K V : Type 0} (cmp : K → K → Ordering) (ahead : ℕ) where
  -- steps move no visible run and no finished shadow
  pub advanced-alike : (t j : ℕ) (above : List (Cell K V)) (ls ms : List (Level K V)) → AreAdvanced cmp ahead t (suc j) above ls ms → AreAlike t t (suc j) ls ms
  advanced-alike t j above [] [] h = tt
  advanced-alike t j above [] (m ∷ ms) h = absurd h
  advanced-alike t j above (l ∷ ls) [] h = absurd h
  advanced-alike t j above (l ∷ ls) (m ∷ ms) h = (
    record {
      parity = refl;
      visible = sym h.0.visible;
      over = refl;
      shadow = λ over. ap (λ (x : Level K V). x.shadow) (sym (h.0.rests (over-not_works t j over)));
    },
    advanced-alike t (suc j) l.visible ls ms h.1,
  )

  -- so what the level above them merges stays
  pub advanced-next_runs : (t j : ℕ) (above : List (Cell K V)) (ls ms : List (Level K V)) → AreAdvanced cmp ahead t (suc j) above ls ms → next_runs t j ls ≡ next_runs t j ms
  advanced-next_runs t j above ls ms h = alike-next_runs t t j ls ms refl (advanced-alike t j above ls ms h)

  pub advanced-part : (t j : ℕ) (odd : Bool) (above : List (Cell K V)) (ls ms : List (Level K V)) → AreAdvanced cmp ahead t (suc j) above ls ms → part_of odd ls ≡ part_of odd ms
  advanced-part t j odd above ls ms h = alike-part t t (suc j) odd odd ls ms refl (advanced-alike t j above ls ms h)

  pub advanced-visibles : (t j : ℕ) (above : List (Cell K V)) (ls ms : List (Level K V)) → AreAdvanced cmp ahead t (suc j) above ls ms → visibles ls ≡ visibles ms
  advanced-visibles t j above ls ms h = alike-visibles t t (suc j) ls ms (advanced-alike t j above ls ms h)

  advanced-working : (t j : ℕ) (above : List (Cell K V)) (l m : Level K V) (ls ms : List (Level K V)) → works t (suc j) ≡ true →
      IsPaced cmp 0 t (suc j) above l ls → IsAdvanced cmp ahead t (suc j) above l ls m → AreAlike t t (suc (suc j)) ls ms →
      IsWorking cmp (part_of (is_odd (period t (suc j))) ms) m.visible above (first_keys (next_runs t (suc j) ms)) (28 * window_step t (suc j) + ahead) (build_of m)
  advanced-working t j above l m ls ms work p h alike =
      let was = p.inside work in
      let is = h.moves work in
      let enough : IsWorking cmp (part_of (is_odd (period t (suc j))) ls) l.visible above (first_keys (next_runs t (suc j) ls)) (28 * window_step t (suc j) + ahead) (build_of m) =
      record { under_way = is.under_way; enough = let a = was.enough in let b = is.enough in omega arith; sampled_done = is.sampled_done; done_consumed = is.done_consumed } in
      subst (λ (x : Part). IsWorking cmp x m.visible above (first_keys (next_runs t (suc j) ms)) (28 * window_step t (suc j) + ahead) (build_of m)) (alike-part t t (suc (suc j)) _ _ ls ms refl alike)
      (subst (λ (x : List (Cell K V)). IsWorking cmp (part_of (is_odd (period t (suc j))) ls) x above (first_keys (next_runs t (suc j) ms)) (28 * window_step t (suc j) + ahead) (build_of m)) (sym h.visible)
      (subst (λ (xs : List (List (Cell K V))). IsWorking cmp (part_of (is_odd (period t (suc j))) ls) l.visible above (first_keys xs) (28 * window_step t (suc j) + ahead) (build_of m)) (alike-next_runs t t (suc j) ls ms refl alike) enough))

  advanced-paced : (t j : ℕ) (above above' : List (Cell K V)) (ls ms : List (Level K V)) → above ≡ above' → ArePaced cmp 0 t (suc j) above ls → AreAdvanced cmp ahead t (suc j) above ls ms →
      ArePaced cmp ahead t (suc j) above' ms
  advanced-paced t j above above' [] [] e p h = tt
  advanced-paced t j above above' [] (m ∷ ms) e p h = absurd h
  advanced-paced t j above above' (l ∷ ls) [] e p h = absurd h
  advanced-paced t j above above' (l ∷ ls) (m ∷ ms) e p h = (
    record {
      before = λ before. subst (λ (x : Level K V). IsIdle x) (sym (h.0.rests (before-not_works t j before))) (p.0.before before);
      inside = λ work. subst (λ (x : List (Cell K V)). IsWorking cmp (part_of (is_odd (period t (suc j))) ms) m.visible x (first_keys (next_runs t (suc j) ms)) (28 * window_step t (suc j) + ahead) (build_of m)) e
          (advanced-working t j above l m ls ms work p.0 h.0 (advanced-alike t (suc j) l.visible ls ms h.1));
      after = λ over. subst (λ (x : Level K V). IsAtRest x) (sym (h.0.rests (over-not_works t j over))) (p.0.after over);
    },
    advanced-paced t (suc j) l.visible m.visible ls ms (sym h.0.visible) p.1 h.1,
  )

module _ {K V : Type 0} (cmp : K → K → Ordering) where
  -- a level that is so many steps further is fewer steps further too
  pub fewer-advanced : (ahead fewer t j : ℕ) (above : List (Cell K V)) (l m : Level K V) (ls : List (Level K V)) → fewer ≤ ahead → IsAdvanced cmp ahead t j above l ls m → IsAdvanced cmp fewer t j above l ls m
  fewer-advanced ahead fewer t j above l m ls h a = record {
    visible = a.visible;
    moves = λ work. working-less cmp _ l.visible above _ (consumed (build_of l) + ahead) (consumed (build_of l) + fewer) (build_of m) (omega arith) (a.moves work);
    rests = a.rests;
  }

  pub all-fewer : (ahead fewer t j : ℕ) (above : List (Cell K V)) (ls ms : List (Level K V)) → fewer ≤ ahead → AreAdvanced cmp ahead t j above ls ms → AreAdvanced cmp fewer t j above ls ms
  all-fewer ahead fewer t j above [] [] h a = tt
  all-fewer ahead fewer t j above [] (m ∷ ms) h a = absurd a
  all-fewer ahead fewer t j above (l ∷ ls) [] h a = absurd a
  all-fewer ahead fewer t j above (l ∷ ls) (m ∷ ms) h a = (fewer-advanced ahead fewer t j above l m ls h a.0, all-fewer ahead fewer t (suc j) l.visible ls ms h a.1)

  still-working : (part : Part) (own above : List (Cell K V)) (keys : List K) (least : ℕ) (build : Build K V) → IsWorking cmp part own above keys least build → IsWorking cmp part own above keys (consumed build + 0) build
  still-working part own above keys least build w = record { under_way = w.under_way; enough = omega arith; sampled_done = w.sampled_done; done_consumed = w.done_consumed }

  -- levels that take no step are none ahead
  pub none-advanced : (ahead t j : ℕ) (above : List (Cell K V)) (ls : List (Level K V)) → ArePaced cmp ahead t j above ls → AreAdvanced cmp 0 t j above ls ls
  none-advanced ahead t j above [] p = tt
  none-advanced ahead t j above (l ∷ ls) p =
      (record { visible = refl; moves = λ work. still-working _ l.visible above _ _ (build_of l) (p.0.inside work); rests = λ rests. refl }, none-advanced ahead t (suc j) l.visible ls p.1)

-- level 0 has no window that could be over
top-not_over : (t : ℕ) → is_over t 0 ≡ true → ⊥
unfolding is_over
top-not_over t h = cc

module _ {K V : Type 0} (cmp : K → K → Ordering) (most ahead : ℕ) where
  -- a sound chain stays sound while its levels take steps, and is then so far ahead of the clock
  pub advance : (t : ℕ) (map : K → Option V) (top built : Level K V) (ls ms : List (Level K V)) → IsSoundFrom cmp most 0 t map top ls → built.visible ≡ top.visible →
      AreAdvanced cmp ahead t 1 top.visible ls ms → IsSoundFrom cmp most ahead t map built ms
  advance t map top built ls ms s e h =
      let below : AreAlike t t 1 ls ms = advanced-alike cmp ahead t 0 top.visible ls ms h in
      let alike : AreAlike t t 0 (top ∷ ls) (built ∷ ms) =
      (record { parity = refl; visible = sym e; over = refl; shadow = λ over. absurd (top-not_over t over) }, below) in
      let same : visibles (top ∷ ls) ≡ visibles (built ∷ ms) = alike-visibles t t 0 (top ∷ ls) (built ∷ ms) alike in
      record {
        visible = alike-visible cmp most t t 0 (top ∷ ls) (built ∷ ms) alike s.visible;
        stands = λ q. ap (λ (xs : List (List (Cell K V))). value_at cmp xs q) (sym same) ∙ s.stands q;
        paced = advanced-paced cmp ahead t 0 top.visible built.visible ls ms (sym e) s.paced h;
        kept = alike-kept cmp most t t 1 top.visible built.visible ls ms (sym e) below s.kept;
        few = subst (λ (xs : List (List (Cell K V))). AreFew cmp most xs) same s.few;
      }

-- ---- the flips

new-seen : {V : Type 0} (b : Bool) (item : Item V) (w : Option V) → over_value (holds (cond b (Old item) Nothing)) w ≡ cond b (value_of (Some item)) w
new-seen true item w = refl
new-seen false item w = refl

new-keeps : {V : Type 0} (b : Bool) (item : Item V) → Keeps (cond b (Old item) Nothing) (cond b (Old item) Nothing)
new-keeps true item = refl
new-keeps false item = refl

module _ {K V : Type 0} {cmp : K → K → Ordering} (o : IsTotalOrder cmp) (most : ℕ) where
  -- where all steps of the mutation at clock t are done, the levels at the next clock are sound for the new map
  pub flipped-sound : (t : ℕ) (map : K → Option V) (k : K) (item : Item V) (top : Level K V) (ls : List (Level K V)) → IsSoundFrom cmp most 28 t map top ls → IsAtRest top →
      top.shadow ≡ weave cmp (part_of (is_odd (period t 0)) ls) top.visible (new_run k item) (first_keys (next_runs t 0 ls)) →
      most ≤ 2 ^ (length ls + 2) → HasAtMost cmp most (updated cmp k item map) →
      IsSound cmp most (suc t) (updated cmp k item map) (level_after t 0 top) (levels_after t 1 ls)
  flipped-sound t map k item top ls s rest whole room few =
      let flip : flips t 0 ≡ true = flips-zero t in
      let answers : (q : K) → value_at cmp (shadows t 0 (top ∷ ls)) q ≡ updated cmp k item map q = λ q.
      sym (weave-answer o most q t 0 (new_run k item) top ls (fit-rising cmp most _ 0 top.visible (visibles ls) _ s.visible.0) whole s.kept)
      ∙ value_or (holds (seen cmp q (new_run k item))) (answer cmp q (visibles (top ∷ ls)))
      ∙ ap (λ (w : Option V). over_value (holds (seen cmp q (new_run k item))) w) (s.stands q)
      ∙ new-seen (is_eq (cmp q k)) item (map q) in
      let live : AreFew cmp most (shadows t 0 (top ∷ ls)) = few-of_map cmp most (updated cmp k item map) (λ q. answer cmp q (shadows t 0 (top ∷ ls))) answers few in
      let fin : IsFinished cmp most (is_odd (period t 0)) 0 (new_run k item) top.visible top.shadow ls (next_runs t 0 ls) =
      weave-finished o most t 0 (new_run k item) (new_run k item) top ls whole (λ q. new-keeps (is_eq (cmp q k)) item) (omega arith) s.visible s.kept live in
      let runs : visibles (levels_after t 0 (top ∷ ls)) ≡ shadows t 0 (top ∷ ls) = visibles-flip t 0 (top ∷ ls) flip in
      let e : 0 + suc (length ls) + 1 ≡ length ls + 2 = omega arith in
      let turn : level_after t 0 top ≡ turned top = level_after-turns t 0 top flip in
      record {
        sound = record {
          visible = next-visible cmp most t 0 (new_run k item) top ls (λ f. fin) s.visible s.kept;
          stands = λ q. ap (λ (xs : List (List (Cell K V))). value_at cmp xs q) runs ∙ answers q;
          paced = next-paced cmp t 0 top.visible (level_after t 0 top).visible ls (λ stay. absurd (false≢true (sym stay ∙ flip))) s.paced;
          kept = subst (λ (x : Level K V). AreKept cmp most (suc t) 1 x.visible (levels_after t 1 ls)) (sym turn)
              (next-kept o most t 0 top.visible top.shadow ls (λ stay. absurd (false≢true (sym stay ∙ flip))) (λ f. fin.keeps) s.visible s.few
              (subst (λ (x : ℕ). most ≤ 2 ^ x) (sym e) room) s.paced s.kept);
          few = subst (λ (xs : List (List (Cell K V))). AreFew cmp most xs) (sym runs) live;
        };
        idle = subst (λ (x : Level K V). IsIdle x) (sym turn)
            (record { empty = refl; own_rests = rest.own_rests; incoming_rests = rest.incoming_rests; sampled_rests = rest.sampled_rests });
      }

  pub advanced-length : (ahead t j : ℕ) (above : List (Cell K V)) (ls ms : List (Level K V)) → AreAdvanced cmp ahead t j above ls ms → length ls ≡ length ms
  advanced-length ahead t j above [] [] h = refl
  advanced-length ahead t j above [] (m ∷ ms) h = absurd h
  advanced-length ahead t j above (l ∷ ls) [] h = absurd h
  advanced-length ahead t j above (l ∷ ls) (m ∷ ms) h = ap suc (advanced-length ahead t (suc j) l.visible ls ms h.1)

  -- one mutation: the steps of the working levels, level 0 built whole, the flips
  pub mutation : (t : ℕ) (map : K → Option V) (k : K) (item : Item V) (top built : Level K V) (ls ms : List (Level K V)) → IsSound cmp most t map top ls →
      IsBuilt cmp t k item top ls built → AreAdvanced cmp 28 t 1 top.visible ls ms → most ≤ 2 ^ (length ls + 2) → HasAtMost cmp most (updated cmp k item map) →
      IsSound cmp most (suc t) (updated cmp k item map) (level_after t 0 built) (levels_after t 1 ms)
  mutation t map k item top built ls ms s b h room few =
      let below : AreAlike t t 1 ls ms = advanced-alike cmp 28 t 0 top.visible ls ms h in
      let whole : built.shadow ≡ weave cmp (part_of (is_odd (period t 0)) ms) built.visible (new_run k item) (first_keys (next_runs t 0 ms)) =
      b.shadow
      ∙ ap (λ (x : Part). weave cmp x top.visible (new_run k item) (first_keys (next_runs t 0 ls))) (alike-part t t 1 _ _ ls ms refl below)
      ∙ ap (λ (x : List (Cell K V)). weave cmp (part_of (is_odd (period t 0)) ms) x (new_run k item) (first_keys (next_runs t 0 ls))) (sym b.visible)
      ∙ ap (λ (xs : List (List (Cell K V))). weave cmp (part_of (is_odd (period t 0)) ms) built.visible (new_run k item) (first_keys xs)) (alike-next_runs t t 0 ls ms refl below) in
      flipped-sound t map k item built ms (advance cmp most 28 t map top built ls ms s.sound b.visible h)
      b.at_rest
      whole (subst (λ (x : ℕ). most ≤ 2 ^ (x + 2)) (advanced-length 28 t 1 top.visible ls ms h) room) few

module _ {K V : Type 0} (cmp : K → K → Ordering) (most : ℕ) where
  -- a refused mutation: some levels have taken steps, level 0 is idle again
  pub refusal : (t : ℕ) (map : K → Option V) (top kept_top : Level K V) (ls ms : List (Level K V)) → IsSound cmp most t map top ls → kept_top.visible ≡ top.visible → IsIdle kept_top →
      AreAdvanced cmp 0 t 1 top.visible ls ms → IsSound cmp most t map kept_top ms
  refusal t map top kept_top ls ms s e idle h = record { sound = advance cmp most 0 t map top kept_top ls ms s.sound e h; idle = idle }
