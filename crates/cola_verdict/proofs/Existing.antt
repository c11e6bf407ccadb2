-- No file of bytes is without a verdict.
use Rattle.std.proofs.Common.{◌≡◌, inl, inr, ◌⊎◌, ℕ, zero, suc, ◌+◌, ◌-◌, ◌<◌, ◌≤◌, List, [], ◌∷◌, length, take, refl, sym, ap, subst, arith, Option, Some, None}
use Rattle.std.proofs.lemmas.Bool.{cases_order}
use Rattle.std.specs.List.Sorted.{IsStrictlySortedBy}
use Rattle.cola_cell.specs.declared.cell.Cell.{Cell as FormatCell}
use Rattle.cola_cell.specs.Decoded.{decoded}
use Rattle.cola_cell.specs.Flat.{spot_of}
use Rattle.cola_cell.specs.Held.{LawCell, Bad}
use Rattle.cola_cell.specs.Places.{number_of}
use Rattle.cola_clock.specs.Clock.{visible_slot}
use Rattle.cola_layout.specs.Cells.{cell_bytes}
use Rattle.cola_laws.specs.Chain.{visibles}
use Rattle.cola_layout.specs.Header.{Fields}
use Rattle.cola_cell.specs.ToldCells.{IsTold}
use Rattle.cola_verdict.specs.Tests.{Tested, tested_of, IsOfRun, IsInOrder, EndsOrder, IsFirst, IsLast, EachLevel, OrderAt, SampleAt, LengthAt, ShadowAt, LiveAt, levels_in, level_at, live_pairs, visible_cell, shadow_cell}
use Rattle.cola_verdict.specs.Verdict.{Passes, IsVerdict}
use Rattle.cola_verdict.specs.declared.verdict.Flaw.TheVariants.{Cell, Order, Sample, Length, Shadow, Live, Count, Stamp}
use Rattle.cola_verdict.specs.declared.verdict.Verdict.{Verdict}
use Rattle.cola_verdict.specs.declared.verdict.Verdict.TheVariants.{Sound, Broken}

-- ---- the first and the last number that fails

module _ (passes : ℕ → Type 0) where
  one-more : (m : ℕ) → ((j : ℕ) → j < m → passes j) → passes m → (j : ℕ) → j < suc m → passes j
  one-more m below here j l =
      elim (cases_order j m) [
        | inl same ↦ subst passes (sym same) here
        | inr apart ↦ elim apart [ inl less ↦ below j less | inr more ↦ absurd (omega (arith, l, more)) ]
      ]

  -- where no number below n is the first that fails, it is not so that one of the first m fails
  none-first : (n m : ℕ) → m ≤ n → ((j : ℕ) → j < n → (passes j → ⊥) → ((i : ℕ) → i < j → passes i) → ⊥) → (((j : ℕ) → j < m → passes j) → ⊥) → ⊥
  none-first n zero le none not = not (λ j l. absurd (omega (arith, l)))
  none-first n (suc m) le none not =
      none-first n m (omega (arith, le)) none (λ below. none m (omega (arith, le)) (λ here. not (one-more m below here)) below)

  one-before : (n k : ℕ) → suc k ≤ n → ((i : ℕ) → n ≤ i + k → i < n → passes i) → passes (n - suc k) → (i : ℕ) → n ≤ i + suc k → i < n → passes i
  one-before n k le behind here i h l =
      elim (cases_order i (n - suc k)) [
        | inl same ↦ subst passes (sym same) here
        | inr apart ↦ elim apart [ inl less ↦ absurd (omega (arith, h, le, less)) | inr more ↦ behind i (omega (arith, more, le)) l ]
      ]

  -- where no number below n is the last that fails, it is not so that one of the last k fails
  none-last : (n k : ℕ) → k ≤ n → ((j : ℕ) → j < n → (passes j → ⊥) → ((i : ℕ) → j < i → i < n → passes i) → ⊥) →
      (((i : ℕ) → n ≤ i + k → i < n → passes i) → ⊥) → ⊥
  none-last n zero le none not = not (λ i h l. absurd (omega (arith, h, l)))
  none-last n (suc k) le none not =
      none-last n k (omega (arith, le)) none
      (λ behind.
      none (n - suc k) (omega (arith, le)) (λ here. not (one-before n k le behind here)) (λ i more l. behind i (omega (arith, more, le)) l))

-- ---- a run that is not in order has an end of its order

take-whole : (run : List LawCell) → take (length run) run ≡ run
take-whole [] = refl
take-whole (c ∷ run) = ap (λ (cells : List LawCell). c ∷ cells) (take-whole run)

no-cells : IsInOrder []
unfolding IsStrictlySortedBy
no-cells = record { rising = tt; linked = tt }

module _ (run : List LawCell) where
  before-first : (k : ℕ) → ((i : ℕ) → i < k → IsInOrder (take (suc i) run)) → IsInOrder (take k run)
  before-first zero h = no-cells
  before-first (suc k) h = h k (omega arith)

  some-end : (IsInOrder run → ⊥) → ((index : ℕ) → EndsOrder run index → ⊥) → ⊥
  some-end broken none =
      let none-here = λ (j : ℕ) (l : j < length run) (fails : IsInOrder (take (suc j) run) → ⊥) (before : (i : ℕ) → i < j → IsInOrder (take (suc i) run)).
      none j (record { within = l; before = before-first j before; broken = fails }) in
      none-first (λ i. IsInOrder (take (suc i) run)) (length run) (length run) (omega arith) none-here
      (λ all. broken (subst (λ (cells : List LawCell). IsInOrder cells) (take-whole run) (before-first (length run) all)))

-- ---- a file without a verdict

module _ (file : Tested) (told : (l s i : ℕ) → (file.spots l s i ≡ Bad) ⊎ IsTold (file.spots l s i)) (none : (v : Verdict) → IsVerdict file v → ⊥) where
  cells-below : (n l s i : ℕ) → IsOfRun file l s i → number_of l s i < n → IsTold (file.spots l s i)
  cells-below zero l s i place below = absurd (omega (arith, below))
  cells-below (suc n) l s i place below =
      elim (told l s i) [
        | inr is ↦ is
        | inl bad ↦
            absurd (none (Broken Cell l (number_of l s i)) (
              tt,
              record {
                slot = s;
                index = i;
                place = place;
                bad = bad;
                number_is = refl;
                lowest = λ l' s' i' place' less. cells-below n l' s' i' place' (omega (arith, below, less));
              },
            ))
      ]

  told-cells : Passes file Cell
  told-cells l s i place = cells-below (suc (number_of l s i)) l s i place (omega arith)

  each-first : (passes : ℕ → Type 0) → ((j : ℕ) → IsFirst file passes j → ⊥) → (EachLevel file passes → ⊥) → ⊥
  each-first passes never not =
      none-first passes (length file.marks) (length file.marks) (omega arith) (λ j l fails before. never j (record { within = l; fails = fails; before = before })) not

  each-last : (passes : ℕ → Type 0) → ((j : ℕ) → IsLast file passes j → ⊥) → (EachLevel file passes → ⊥) → ⊥
  each-last passes never not =
      none-last passes (length file.marks) (length file.marks) (omega arith) (λ j l fails behind. never j (record { within = l; fails = fails; behind = behind }))
      (λ all. not (λ j l. all j (omega arith) l))

  order-fails : (Passes file Order → ⊥) → ⊥
  order-fails =
      each-first (OrderAt file)
      (λ j first. some-end (level_at (levels_in file) j).visible first.fails
      (λ index ends. none (Broken Order j (number_of j (visible_slot file.clock j) index)) (
        (told-cells, tt),
        record { first = first; index = index; ends = ends; number_is = refl },
      )))

  pub no-verdict : ⊥
  no-verdict =
      order-fails (λ order.
      each-first (SampleAt file) (λ j first. none (Broken Sample j (visible_cell file j)) ((told-cells, (order, tt)), (first, refl))) (λ samples.
      each-first (LengthAt file) (λ j first. none (Broken Length j (visible_cell file j)) ((told-cells, (order, (samples, tt))), (first, refl))) (λ few.
      each-last (ShadowAt file) (λ j last. none (Broken Shadow j (shadow_cell file j)) ((told-cells, (order, (samples, (few, tt)))), (last, refl))) (λ shadows.
      each-first (LiveAt file) (λ j first. none (Broken Live j (visible_cell file j)) ((told-cells, (order, (samples, (few, (shadows, tt))))), (first, refl))) (λ live.
      let uncounted = λ (not : Passes file Count → ⊥). none (Broken Count 0 0) ((told-cells, (order, (samples, (few, (shadows, (live, tt)))))), (not, refl, refl)) in
      uncounted (λ counted.
      let unstamped = λ (not : Passes file Stamp → ⊥). none (Broken Stamp 0 0) ((told-cells, (order, (samples, (few, (shadows, (live, (counted, tt))))))), (not, refl, refl)) in
      unstamped (λ given.
      none (Sound (length (live_pairs (visibles (levels_in file))))) ((told-cells, (order, (samples, (few, (shadows, (live, (counted, (given, tt)))))))), refl))))))))

-- ---- the bytes of a file tell of each place

bad-or-told : (found : Option FormatCell) → (spot_of found ≡ Bad) ⊎ IsTold (spot_of found)
bad-or-told None = inl refl
bad-or-told (Some c) = inr refl

pub some-verdict : (header : Fields) (bytes : List ℕ) → ((v : Verdict) → IsVerdict (tested_of header bytes) v → ⊥) → ⊥
some-verdict header bytes = no-verdict (tested_of header bytes) (λ l s i. bad-or-told (decoded header.format (cell_bytes header.format bytes (number_of l s i))))
