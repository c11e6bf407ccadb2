-- What the code above the laws asks of a sound chain.
use Rattle.std.proofs.Common.{◌≡◌, inl, inr, ℕ, suc, ◌+◌, ◌*◌, ◌^◌, ◌≤◌, Bool, true, false, cond, refl, not, List, [], ◌∷◌, length, sym, ◌∙◌, arith, Option}
use Rattle.std.specs.Option.{IsSome}
use Rattle.std.specs.declared.cmp.Ordering.{Ordering}
use Rattle.std.specs.declared.cmp.Ordering.TheVariants.{Less}
use Rattle.std.specs.Cmp.{IsTotalOrder, alike_right}
use Rattle.std.specs.List.{AllByRecursion}
use Rattle.std.specs.List.Sorted.{IsStrictlySortedBy}
use Rattle.cola_clock.specs.Clock.{period, is_odd, works, window_step}
use Rattle.cola_clock.proofs.Laws.{flips-over}
use Rattle.cola_runs.specs.Cells.{Cell, sample}
use Rattle.cola_runs.specs.Seen.{holds, seen, answer}
use Rattle.cola_runs.specs.Search.{AreSampled}
use Rattle.cola_runs.proofs.Order.{all_change}
use Rattle.cola_laws.specs.Chain.{Level, part_of, build_of, visibles, shadows, next_runs, first_keys, value_at}
use Rattle.cola_laws.specs.Sound.{IsPaced, IsSettled, AreVisible, IsFinished, AreKept, HaveShadows, IsAmong, HasAtMost, IsSoundFrom}
use Rattle.std.proofs.lemmas.Bool.{false≢true}
use Rattle.cola_runs.specs.Steps.{IsAdvanced as IsStepped}
use Rattle.cola_laws.specs.Mutation.{IsAdvanced, IsWorkable}
use Rattle.cola_laws.proofs.Workable.{stepped-working}
use Rattle.cola_laws.proofs.Values.{value_or}
use Rattle.cola_laws.proofs.Shadows.{shadows-answer}
use Rattle.cola_laws.proofs.Live.{map-of_few}
use Rattle.cola_laws.proofs.Lengths.{room-below, fit-length, next-length}
use Rattle.cola_laws.proofs.Next.{kept-carried}

keys-nothing : (K V : Type 0) (odd : Bool) → first_keys {K = K} {V = V} (cond odd [] []) ≡ []
keys-nothing K V true = refl
keys-nothing K V false = refl

-- nothing is sampled at the bottom
pub sampled-nothing : (K V : Type 0) (t j : ℕ) → first_keys (next_runs {K = K} {V = V} t j []) ≡ []
sampled-nothing K V t j = keys-nothing K V (is_odd (period t j))

module _ {K V : Type 0} where
  keys-choice : (odd : Bool) (shadow visible : List (Cell K V)) (flipping staying : List (List (Cell K V))) →
      first_keys (cond odd (shadow ∷ flipping) (visible ∷ staying)) ≡ sample (cond odd shadow visible)
  keys-choice true shadow visible flipping staying = refl
  keys-choice false shadow visible flipping staying = refl

  -- what a build above the bottom samples: the shadow of the level below in an odd period, its visible run in an even one
  pub sampled-run : (t j : ℕ) (m : Level K V) (ms : List (Level K V)) → first_keys (next_runs t j (m ∷ ms)) ≡ sample (cond (is_odd (period t j)) m.shadow m.visible)
  sampled-run t j m ms = keys-choice (is_odd (period t j)) m.shadow m.visible _ _

module _ {K V : Type 0} (cmp : K → K → Ordering) (most : ℕ) where
  -- a finished shadow with its next runs answers as the run above it and the visible runs from its level on do, for a key
  -- of which the run above has no young item
  pub finished-answers : (t j : ℕ) (above : List (Cell K V)) (l : Level K V) (ls : List (Level K V)) →
      IsFinished cmp most (is_odd (period t j)) j above l.visible l.shadow ls (next_runs t j ls) → AreKept cmp most t (suc j) l.visible ls →
      (q : K) → IsSettled (seen cmp q above) → value_at cmp (shadows t j (l ∷ ls)) q ≡ value_at cmp (above ∷ visibles (l ∷ ls)) q
  finished-answers t j above l ls fin kept q settled =
      shadows-answer cmp q t j (seen cmp q above) l ls settled (fin.carried q) (kept-carried cmp most q t (suc j) l.visible ls kept)
      ∙ sym (value_or (holds (seen cmp q above)) (answer cmp q (visibles (l ∷ ls))))

  -- visible runs are searched by their links: each is well formed, with the sample of the next
  pub visible-sampled : (t j : ℕ) (runs : List (List (Cell K V))) → AreVisible cmp most t j runs → AreSampled cmp runs
  visible-sampled t j [] v = tt
  visible-sampled t j (run ∷ []) v = (v.0.formed, tt, tt)
  visible-sampled t j (run ∷ next ∷ runs) v = (v.0.formed, v.0.samples, visible-sampled t (suc j) (next ∷ runs) v.1)

  pub flipping-finished : (t j : ℕ) (above : List (Cell K V)) (ls : List (Level K V)) → AreKept cmp most t (suc j) above ls → HaveShadows cmp most t (suc j) above ls
  flipping-finished t j above [] kept = tt
  flipping-finished t j above (l ∷ ls) kept = ((λ flip. kept.0.over (flips-over t j flip)), flipping-finished t (suc j) l.visible ls kept.1)

  -- a map that a chain is sound for has at most as many keys as the store is for
  pub sound-map : (ahead t : ℕ) (map : K → Option V) (top : Level K V) (ls : List (Level K V)) → IsSoundFrom cmp most ahead t map top ls → HasAtMost cmp most map
  sound-map ahead t map top ls s = map-of_few cmp most map (λ q. answer cmp q (visibles (top ∷ ls))) s.stands s.few

  -- a finished shadow fits its slot
  pub finished-length : (t j : ℕ) (above : List (Cell K V)) (l : Level K V) (ls : List (Level K V)) → AreVisible cmp most t (suc j) (visibles ls) → AreKept cmp most t (suc j) l.visible ls →
      IsFinished cmp most (is_odd (period t j)) j above l.visible l.shadow ls (next_runs t j ls) → most ≤ 2 ^ (j + suc (length ls) + 1) → length l.shadow ≤ 2 ^ (j + 2)
  finished-length t j above l ls v kept fin room =
      fit-length cmp most (not (is_odd (period t j))) j l.shadow ls (first_keys (next_runs t j ls)) fin.fit
      (next-length cmp most t j l.visible ls v kept (room-below most j (length ls) room)) room

all_both : {X : Type 0} (P Q : X → Type 0) (xs : List X) → AllByRecursion P xs → AllByRecursion Q xs → AllByRecursion (λ x. P x × Q x) xs
all_both P Q [] h k = tt
all_both P Q (x ∷ xs) h k = ((h.0, k.0), all_both P Q xs h.1 k.1)

-- ---- a map all of whose keys are among a rising list of keys has at most as many as those

module _ {K : Type 0} {cmp : K → K → Ordering} (o : IsTotalOrder cmp) where
  less-among : (h k : K) (held : List K) → AllByRecursion (λ q. cmp h q ≡ Less) held → IsAmong cmp k held → cmp h k ≡ Less
  less-among h k [] a m = absurd m
  less-among h k (x ∷ held) a m = elim m [ inl e ↦ sym (alike_right o x k h e) ∙ a.0 | inr r ↦ less-among h k held a.1 r ]

  drop-first : (h k : K) (held : List K) → cmp h k ≡ Less → IsAmong cmp k (h ∷ held) → IsAmong cmp k held
  drop-first h k held less m = elim m [ inl e ↦ cc | inr r ↦ r ]

  pub few-among : (keys held : List K) → IsStrictlySortedBy cmp keys → IsStrictlySortedBy cmp held → AllByRecursion (λ k. IsAmong cmp k held) keys → length keys ≤ length held
  unfolding IsStrictlySortedBy
  few-among [] held s t m = omega arith
  few-among (k ∷ keys) [] s t m = absurd m.0
  few-among (k ∷ keys) (h ∷ held) s t m =
      elim m.0 [
        | inl e ↦
            let rest : AllByRecursion (λ q. IsAmong cmp q held) keys = all_change (λ q p. drop-first h q held (o.congr h k q e ∙ p.0) p.1) keys (all_both (λ q. cmp k q ≡ Less) (λ q. IsAmong cmp q (h ∷ held)) keys s.0 m.1) in
            let n = few-among keys held s.1 t.1 rest in omega arith
        | inr r ↦
            let less : cmp h k ≡ Less = less-among h k held t.0 r in
            let rest : AllByRecursion (λ q. IsAmong cmp q held) keys = all_change (λ q p. drop-first h q held (o.trans h k q less p.0) p.1) keys (all_both (λ q. cmp k q ≡ Less) (λ q. IsAmong cmp q (h ∷ held)) keys s.0 m.1) in
            let n = few-among (k ∷ keys) held s t.1 (r, rest) in omega arith
      ]

  pub few-keys : {V : Type 0} (held : List K) (map : K → Option V) → IsStrictlySortedBy cmp held → ((k : K) → IsSome (map k) → IsAmong cmp k held) → HasAtMost cmp (length held) map
  few-keys held map s h keys sorted some = few-among keys held sorted s (all_change (λ k p. h k p) keys some)

-- ---- one level's steps

module _ {K V : Type 0} {cmp : K → K → Ordering} (o : IsTotalOrder cmp) where
  -- a level that works, and whose build goes on by so many steps of the merge, is advanced by so many
  pub works-advanced : (count t j : ℕ) (above : List (Cell K V)) (l m : Level K V) (ls : List (Level K V)) → works t j ≡ true → IsPaced cmp 0 t j above l ls →
      IsWorkable cmp (part_of (is_odd (period t j)) ls) j l.visible above (first_keys (next_runs t j ls)) → m.visible ≡ l.visible →
      IsStepped cmp (part_of (is_odd (period t j)) ls) l.visible above (first_keys (next_runs t j ls)) count (build_of l) (build_of m) → IsAdvanced cmp count t j above l ls m
  works-advanced count t j above l m ls work p w e s = record {
    visible = e;
    moves = λ again. stepped-working o (part_of (is_odd (period t j)) ls) l.visible above (first_keys (next_runs t j ls)) (28 * window_step t j + 0) count (build_of l) (build_of m)
        w.buildable.own_rising w.buildable.incoming_rising w.buildable.keys_rising (p.inside work) s;
    rests = λ rests. absurd (false≢true (sym rests ∙ work));
  }

-- a level that does not work and stays as it is is advanced by any number
pub rests-advanced : {K V : Type 0} (cmp : K → K → Ordering) (count t j : ℕ) (above : List (Cell K V)) (l : Level K V) (ls : List (Level K V)) → works t j ≡ false → IsAdvanced cmp count t j above l ls l
rests-advanced cmp count t j above l ls rests = record { visible = refl; moves = λ work. absurd (false≢true (sym rests ∙ work)); rests = λ again. refl }
