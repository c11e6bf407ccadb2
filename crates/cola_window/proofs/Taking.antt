-- What the rules take is there.
use Rattle.std.proofs.Common.{◌≡◌, ℕ, Bool, true, false, cond, Option, Some, None, IsSome, refl, sym}
use Rattle.std.specs.declared.cmp.Ordering.{Ordering}
use Rattle.std.specs.declared.cmp.Ordering.TheVariants.{Less, Equal, Greater}
use Rattle.std.specs.Ordering.{is_gt, match_ordering}
use Rattle.std.proofs.lemmas.Bool.{true≢false}
use Rattle.cola_runs.specs.Cells as laws
use Rattle.cola_runs.specs.Weave.{Part}
use Rattle.cola_runs.specs.Steps as runs
use Rattle.cola_runs.specs.Steps.{Action, Take, Ended, emitted, item_or_look, least, rule, skips_own, skips_incoming}

-- ---- what a rule takes is there

module _ {K V : Type 0} where
  -- the head that is taken is there, and a lookahead cell is emitted for the sample's; where none is taken there is none
  abbrev pub IsTaken : Option (laws.Cell K V) → Option (laws.Cell K V) → Option K → Action K V → Type 0
  IsTaken own incoming key (Take runs.Own c) = IsSome own
  IsTaken own incoming key (Take runs.Incoming c) = IsSome incoming
  IsTaken own incoming key (Take runs.Sample c) = IsSome key × IsSome c
  IsTaken own incoming key Ended = (own ≡ None) × (incoming ≡ None) × (key ≡ None)

  by_cond : (P : Action K V → Type 0) (b : Bool) (x y : Action K V) → (b ≡ true → P x) → P y → P (cond b x y)
  by_cond P true x y h k = h refl
  by_cond P false x y h k = k

  by_order : (P : Action K V → Type 0) (r : Ordering) (x y z : Action K V) → P x → P y → P z → P (match_ordering r x y z)
  by_order P Less x y z h k l = h
  by_order P Equal x y z h k l = k
  by_order P Greater x y z h k l = l

  skipped_own : (part : Part) (own : Option (laws.Cell K V)) → skips_own part own ≡ true → IsSome own
  skipped_own part None e = absurd (true≢false (sym e))
  skipped_own part (Some c) e = refl

  skipped_incoming : (incoming : Option (laws.Cell K V)) → skips_incoming incoming ≡ true → IsSome incoming
  skipped_incoming None e = absurd (true≢false (sym e))
  skipped_incoming (Some c) e = refl

module _ {K V : Type 0} (cmp : K → K → Ordering) (part : Part) (link : ℕ) where
  item_taken : (own incoming : Option (laws.Cell K V)) (key : Option K) (head : runs.Head) (c : laws.Cell K V) → ((e : Option (laws.Cell K V)) → IsTaken own incoming key (Take head e)) →
      IsTaken own incoming key (item_or_look cmp part link head c key)
  item_taken own incoming None head c h = h (emitted part link head c)
  item_taken own incoming (Some k) head c h =
      by_cond (IsTaken own incoming (Some k)) (is_gt (cmp (laws.key_of c) k)) (Take runs.Sample (Some (laws.Look k link))) (Take head (emitted part link head c)) (λ _. (refl, refl)) (h (emitted part link head c))

  least_taken : (own incoming : Option (laws.Cell K V)) (key : Option K) → IsTaken own incoming key (least cmp part link own incoming key)
  least_taken None None None = (refl, refl, refl)
  least_taken None None (Some k) = (refl, refl)
  least_taken (Some c) None key = item_taken (Some c) None key runs.Own c (λ e. refl)
  least_taken None (Some d) key = item_taken None (Some d) key runs.Incoming d (λ e. refl)
  least_taken (Some c) (Some d) key =
      by_order (IsTaken (Some c) (Some d) key) (cmp (laws.key_of c) (laws.key_of d)) (item_or_look cmp part link runs.Own c key) (Take runs.Own None) (item_or_look cmp part link runs.Incoming d key)
      (item_taken (Some c) (Some d) key runs.Own c (λ e. refl)) refl (item_taken (Some c) (Some d) key runs.Incoming d (λ e. refl))

  pub rule_taken : (own incoming : Option (laws.Cell K V)) (key : Option K) → IsTaken own incoming key (rule cmp part link own incoming key)
  rule_taken own incoming key =
      by_cond (IsTaken own incoming key) (skips_own part own) (Take runs.Own None) (cond (skips_incoming incoming) (Take runs.Incoming None) (least cmp part link own incoming key)) (skipped_own part own)
      (by_cond (IsTaken own incoming key) (skips_incoming incoming) (Take runs.Incoming None) (least cmp part link own incoming key) (skipped_incoming incoming) (least_taken own incoming key))
