-- The tests of levels as those of a file.
use Rattle.std.proofs.Common.{◌≡◌, ◌↔◌, ℕ, zero, suc, ◌+◌, ◌≤◌, List, [], ◌∷◌, length, refl, sym, ap, subst, arith}
use Rattle.std.specs.List.{AllByRecursion}
use Rattle.cola_cell.specs.Held.{LawCell, Stamped}
use Rattle.cola_clock.specs.Marks.{Marks}
use Rattle.cola_layout.specs.Cells.{slot_cells}
use Rattle.cola_laws.specs.Slots.{levels_of}
use Rattle.cola_layout.specs.declared.header.Header.{Header}
use Rattle.cola_plain_files.specs.declared.verdict.verdicts.LevelTest.{LevelTest}
use Rattle.cola_plain_files.specs.declared.verdict.verdicts.LevelTest.TheVariants.{Order, Sample, Length, Shadow, Live}
use Rattle.cola_plain_files.specs.File.{file_of}
use Rattle.cola_plain_files.specs.Tests.{PassesAt, EachPasses, IsFirstToFail, IsLastToFail}
use Rattle.cola_verdict.specs.declared.verdict.Flaw.TheVariants as flaw
use Rattle.cola_verdict.specs.declared.verdict.Verdict.TheVariants.{Sound, Broken}
use Rattle.cola_laws.specs.Chain.{visibles}
use Rattle.cola_verdict.specs.Verdict.{IsVerdict}
use Rattle.cola_plain_files.specs.Verdict.{TestAt, PassLevels}
use Rattle.cola_verdict.specs.Tests.{Tested, FileLevel, levels_in, EachLevel, IsFirst, IsLast, IsCounted, AreStamped, live_pairs}
use Rattle.cola_plain_files.proofs.File.{file_says}

levels-length : (cells : ℕ → ℕ → ℕ → List LawCell) (t j : ℕ) (ms : List Marks) → length (levels_of cells t j ms) ≡ length ms
levels-length cells t j [] = refl
levels-length cells t j (m ∷ ms) = ap suc (levels-length cells t (suc j) ms)

passes_to : (test : LevelTest) (file : Tested) (j : ℕ) → PassesAt test file.most file.clock (levels_in file) j → TestAt file test j
passes_to Order file j p = p
passes_to Sample file j p = p
passes_to Length file j p = p
passes_to Shadow file zero p = p
passes_to Shadow file (suc j) p = p
passes_to Live file j p = p

passes_from : (test : LevelTest) (file : Tested) (j : ℕ) → TestAt file test j → PassesAt test file.most file.clock (levels_in file) j
passes_from Order file j p = p
passes_from Sample file j p = p
passes_from Length file j p = p
passes_from Shadow file zero p = p
passes_from Shadow file (suc j) p = p
passes_from Live file j p = p

module _ (file : Tested) (test : LevelTest) where
  many : length (levels_in file) ≡ length file.marks
  many = levels-length (slot_cells file.spots) file.clock 0 file.marks

  each_own : EachPasses test file.most file.clock (levels_in file) → EachLevel file (TestAt file test)
  each_own h j lt = passes_to test file j (h j (omega (arith, lt, many)))

  first_own : (j : ℕ) → IsFirstToFail test file.most file.clock (levels_in file) j → IsFirst file (TestAt file test) j
  first_own j h = record {
    within = omega (arith, h.within, many);
    fails = λ p. h.fails (passes_from test file j p);
    before = λ i lt. passes_to test file i (h.before i lt);
  }

  last_own : (j : ℕ) → IsLastToFail test file.most file.clock (levels_in file) j → IsLast file (TestAt file test) j
  last_own j h = record {
    within = omega (arith, h.within, many);
    fails = λ p. h.fails (passes_from test file j p);
    behind = λ i lt in_. passes_to test file i (h.behind i lt (omega (arith, in_, many)));
  }

module _ (h : Header) (bytes : List ℕ) (test : LevelTest) (ls : List FileLevel) (same : ls ≡ levels_in (file_of h bytes)) where
  -- a fact of the levels at the header's numbers is one of the file's
  moved : (P : ℕ → ℕ → List FileLevel → Type 0) → P h.geometry.keys h.clock ls → P (file_of h bytes).most (file_of h bytes).clock (levels_in (file_of h bytes))
  moved P p =
      subst (λ (n : ℕ). P n (file_of h bytes).clock (levels_in (file_of h bytes))) (sym (file_says h bytes).most)
      (subst (λ (n : ℕ). P h.geometry.keys n (levels_in (file_of h bytes))) (sym (file_says h bytes).clock) (subst (P h.geometry.keys h.clock) same p))

  pub each_of : EachPasses test h.geometry.keys h.clock ls → EachLevel (file_of h bytes) (TestAt (file_of h bytes) test)
  each_of p = each_own (file_of h bytes) test (moved (EachPasses test) p)

  pub first_of : (j : ℕ) → IsFirstToFail test h.geometry.keys h.clock ls j → IsFirst (file_of h bytes) (TestAt (file_of h bytes) test) j
  first_of j p = first_own (file_of h bytes) test j (moved (λ most t levels. IsFirstToFail test most t levels j) p)

  pub last_of : (j : ℕ) → IsLastToFail test h.geometry.keys h.clock ls j → IsLast (file_of h bytes) (TestAt (file_of h bytes) test) j
  last_of j p = last_own (file_of h bytes) test j (moved (λ most t levels. IsLastToFail test most t levels j) p)

-- the number of a cell behind the first of a slot
pub after_first : (base first index : ℕ) → first ≡ base + 0 → first + index ≡ base + index
after_first base first index e = omega (arith, e)

-- ---- the verdict of a file whose levels pass their tests

module _ (file : Tested) (p : PassLevels file) where
  pub sound_of : (n : ℕ) → IsCounted file → AreStamped file → n ≡ length (live_pairs (visibles (levels_in file))) → IsVerdict file (Sound n)
  sound_of n c s e = ((p.0, (p.1.0, (p.1.1.0, (p.1.1.1.0, (p.1.1.1.1.0, (p.1.1.1.1.1.0, (c, (s, tt)))))))), e)

  pub count_broken : (IsCounted file → ⊥) → IsVerdict file (Broken flaw.Count 0 0)
  count_broken n = (p, (n, refl, refl))

  pub stamp_broken : IsCounted file → (AreStamped file → ⊥) → IsVerdict file (Broken flaw.Stamp 0 0)
  stamp_broken c n = ((p.0, (p.1.0, (p.1.1.0, (p.1.1.1.0, (p.1.1.1.1.0, (p.1.1.1.1.1.0, (c, tt))))))), (n, refl, refl))

-- the same pairs under the same last number
pub stamped_same : (m n : ℕ) (xs ys : List (List ℕ × Stamped)) → m ≡ n → xs ≡ ys → (AllByRecursion (λ pair. pair.1.stamp ≤ m) xs ↔ AllByRecursion (λ pair. pair.1.stamp ≤ n) ys)
stamped_same m n xs ys e f = (
  λ h. subst (λ (k : ℕ). AllByRecursion (λ pair. pair.1.stamp ≤ k) ys) e (subst (AllByRecursion (λ pair. pair.1.stamp ≤ m)) f h),
  λ h. subst (AllByRecursion (λ pair. pair.1.stamp ≤ m)) (sym f) (subst (λ (k : ℕ). AllByRecursion (λ pair. pair.1.stamp ≤ k) ys) (sym e) h),
)
