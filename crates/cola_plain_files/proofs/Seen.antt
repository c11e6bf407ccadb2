-- What runs have of keys, key by key.
use Rattle.std.proofs.Common.{◌≡◌, ◌⊎◌, inl, inr, ℕ, Bool, true, false, cond, List, [], ◌∷◌, Ordering, Less, Equal, Greater, refl, sym, subst, ◌∙◌}
use Rattle.std.specs.List.{AllByRecursion}
use Rattle.std.specs.Ordering.{is_eq}
use Rattle.std.specs.FinMap.{slice_cmp-IsAntisymmetric, nat_cmp-IsAntisymmetric}
use Rattle.cola_cell.specs.Held.{LawCell, Stamped}
use Rattle.cola_cell.specs.Order.{key_cmp}
use Rattle.cola_runs.specs.Cells.{Entry, Look, key_of}
use Rattle.cola_runs.specs.Seen.{Seen, Nothing, Old, Young, seen, flagged}
use Rattle.cola_runs.specs.Weave.{Part}
use Rattle.cola_plain_files.specs.declared.verdict.seen.PlainSeen.{PlainSeen}
use Rattle.cola_plain_files.specs.declared.verdict.seen.PlainSeen.TheVariants as plain
use Rattle.cola_plain_files.specs.Levels.{as_seen, IsCarriedAt, CarriesKey}

flagged_some : (y : Bool) (i : _) → flagged {V = Stamped} y i ≡ Nothing → ⊥
flagged_some true i e = cc
flagged_some false i e = cc

-- a cell that has nothing of a key leaves it to the rest
pub seen_none : (q : List ℕ) (c : LawCell) (cells : List LawCell) → seen key_cmp q (c ∷ []) ≡ Nothing → seen key_cmp q (c ∷ cells) ≡ seen key_cmp q cells
seen_none q (Look k l) cells e = refl
seen_none q (Entry k i y l) cells e = by_test (is_eq (key_cmp q k)) e
  where
    by_test : (b : Bool) → cond b (flagged y i) Nothing ≡ Nothing → cond b (flagged y i) (seen key_cmp q cells) ≡ seen key_cmp q cells
    by_test true f = absurd (flagged_some y i f)
    by_test false f = refl

decides : (q : List ℕ) (c : LawCell) (cells : List LawCell) → (seen key_cmp q (c ∷ []) ≡ Nothing → ⊥) → seen key_cmp q (c ∷ []) ≡ seen key_cmp q (c ∷ cells)
decides q (Look k l) cells n = absurd (n refl)
decides q (Entry k i y l) cells n = by_test (is_eq (key_cmp q k)) n
  where
    by_test : (b : Bool) → (cond b (flagged y i) Nothing ≡ Nothing → ⊥) → cond b (flagged y i) Nothing ≡ cond b (flagged y i) (seen key_cmp q cells)
    by_test true f = refl
    by_test false f = absurd (f refl)

-- one that has something of it decides
pub seen_some : (q : List ℕ) (c : LawCell) (cells : List LawCell) (found : PlainSeen) → (found ≡ plain.Nothing → ⊥) → as_seen found ≡ seen key_cmp q (c ∷ []) →
    as_seen found ≡ seen key_cmp q (c ∷ cells)
seen_some q c cells plain.Nothing n e = absurd (n refl)
seen_some q c cells (plain.Old item) n e = e ∙ decides q c cells (λ f. let g = e ∙ f in cc)
seen_some q c cells (plain.Young item) n e = e ∙ decides q c cells (λ f. let g = e ∙ f in cc)

-- keys that tie are the same
same_key : (x y : List ℕ) → is_eq (key_cmp x y) ≡ true → x ≡ y
same_key x y e = slice_cmp-IsAntisymmetric nat_cmp-IsAntisymmetric x y (equal (key_cmp x y) e)
  where
    equal : (r : Ordering) → is_eq r ≡ true → r ≡ Equal
    equal Less f = cc
    equal Equal f = refl
    equal Greater f = cc

-- what holds of the keys of all cells of a run holds of a key, or the run has nothing of it
known_or_nothing : (P : List ℕ → Type 0) (q : List ℕ) (cells : List LawCell) → AllByRecursion (λ c. P (key_of c)) cells → (seen key_cmp q cells ≡ Nothing) ⊎ P q
known_or_nothing P q [] all = inl refl
known_or_nothing P q (Look k l ∷ cells) all = known_or_nothing P q cells all.1
known_or_nothing P q (Entry k i y l ∷ cells) all = by_test (known_or_nothing P q cells all.1) (is_eq (key_cmp q k)) refl
  where
    by_test : (seen key_cmp q cells ≡ Nothing) ⊎ P q → (b : Bool) → is_eq (key_cmp q k) ≡ b → (cond b (flagged y i) (seen key_cmp q cells) ≡ Nothing) ⊎ P q
    by_test rest true e = inr (subst P (sym (same_key q k e)) all.0)
    by_test rest false e = rest

-- of a key of which no run has anything nothing is asked
nothing_carried : (part : Part) (keeps_all : Bool) (above own shadow : Seen Stamped) → above ≡ Nothing → own ≡ Nothing → shadow ≡ Nothing → IsCarriedAt part keeps_all above own shadow
nothing_carried part keeps_all Nothing Nothing Nothing a o s = record { carried = refl; keeps = λ _. refl }
nothing_carried part keeps_all Nothing Nothing (Old i) a o s = absurd (cc)
nothing_carried part keeps_all Nothing Nothing (Young i) a o s = absurd (cc)
nothing_carried part keeps_all Nothing (Old i) shadow a o s = absurd (cc)
nothing_carried part keeps_all Nothing (Young i) shadow a o s = absurd (cc)
nothing_carried part keeps_all (Old i) own shadow a o s = absurd (cc)
nothing_carried part keeps_all (Young i) own shadow a o s = absurd (cc)

module _ (part : Part) (keeps_all : Bool) (above own shadow : List LawCell) where
  -- a shadow that has what it must of each key of the three runs has it of each key
  pub carries_each : AllByRecursion (λ c. CarriesKey part keeps_all above own shadow (key_of c)) above → AllByRecursion (λ c. CarriesKey part keeps_all above own shadow (key_of c)) own →
      AllByRecursion (λ c. CarriesKey part keeps_all above own shadow (key_of c)) shadow → (q : List ℕ) → CarriesKey part keeps_all above own shadow q
  carries_each a o s q = elim (known_or_nothing (CarriesKey part keeps_all above own shadow) q above a) [
    | inr p ↦ p
    | inl x ↦ elim (known_or_nothing (CarriesKey part keeps_all above own shadow) q own o) [
      | inr p ↦ p
      | inl y ↦ elim (known_or_nothing (CarriesKey part keeps_all above own shadow) q shadow s) [
        | inr p ↦ p
        | inl z ↦ nothing_carried part keeps_all _ _ _ x y z
      ]
    ]
  ]

-- what holds of each key holds of the keys of cells
pub all_keys : (P : List ℕ → Type 0) (cells : List LawCell) → ((q : List ℕ) → P q) → AllByRecursion (λ c. P (key_of c)) cells
all_keys P [] h = tt
all_keys P (c ∷ cells) h = (h (key_of c), all_keys P cells h)
