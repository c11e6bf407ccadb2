-- What one mutation leaves, by its answer, over lists of levels.
use Rattle.std.proofs.Common.{◌≡◌, ℕ, suc, ◌-◌, ◌/◌, ◌%◌, ◌^◌, ◌<◌, ◌≤◌, List, [], ◌∷◌, length, Ok, Err, refl, ap, sym, subst, ◌∙◌, arith}
use Rattle.std.proofs.Math.Pow.{pow_mono}
use Rattle.cola_clock.specs.Clock.{visible_slot}
use Rattle.cola_cell.specs.declared.cell.Item.{Item}
use Rattle.cola_cell.specs.declared.fault.StepFault.{StepFault}
use Rattle.cola_cell.specs.Held.{Held}
use Rattle.cola_cell.specs.Shadows.{Restarts}
use Rattle.cola_cell.specs.Spent.{Spent}
use Rattle.cola_cell.specs.State.{State}
use Rattle.cola_merge.specs.States.{StepCalm}
use Rattle.cola_level.specs.declared.level.Level.{Level}
use Rattle.cola_mutation.specs.Levels.{IsChain}
use Rattle.cola_mutation.specs.Work.{WorkState, state_of, Costs, with_shadow}
use Rattle.cola_mutation.specs.Ends.{all_ended, Restarted}
use Rattle.cola_mutation.specs.Standing.{PreparesAll, new_cell, IsRefused}
use Rattle.cola_mutation.specs.Steps.{step_ticks, Mutates}
use Rattle.cola_mutation.proofs.Readying.{length_levels}
use Rattle.cola_mutation.proofs.Following.{length_ended}
use Rattle.cola_mutation.proofs.Accepting.{Accepted, accepted_of, next_chain}
use Rattle.cola_mutation.proofs.Succeeding.{stands_next}
use Rattle.cola_mutation.proofs.Trading.{trades_next, costs_all}
use Rattle.cola_mutation.proofs.Refusing.{Refused, refused_of, top_stays, same_chain, stands_still, device_only, costs_refused, keeps_all, visible_stays}

-- ---- accepted

-- the state in which the call ends: no tick is made after the levels are built
abbrev now : WorkState → State → WorkState
now u v = state_of v u.steps

module _ (s u : WorkState) (v : State) (t : ℕ) (key : List ℕ) (item : Item) where
  steps_with : (top next : Level) (below under : List Level) → IsChain s.held t (top ∷ below) → Accepted t (new_cell key item) s u top (with_shadow top (u.held.shadows 0).len) below (next ∷ under) →
      Restarted t 0 (suc (length (next ∷ under))) u.held v.held → v.spent ≡ u.spent →
      Mutates t key item s (now u v) (top ∷ below) (all_ended t 0 (with_shadow top (u.held.shadows 0).len ∷ next ∷ under)) (Ok (suc t % 2 ^ suc (length below)))
  steps_with top next below under chain a r e =
      let many = length_levels t 0 below (next ∷ under) a.turns.turned in
      let costs : Costs s (now u v) (step_ticks (suc (length below))) (suc (length below) / 2) = costs_all s.spent a.mid.spent u.spent v.spent s.steps a.mid.steps u.steps t below a.turns.costs a.builds.costs e in
      record {
        chain = next_chain s u v.held t (new_cell key item) top below (next ∷ under) chain a r;
        fixed = r.fixed_is ∙ a.builds.grows.around.fixed_is ∙ a.turns.keeps.fixed_is;
        counted = let o = length_ended t 0 (with_shadow top (u.held.shadows 0).len ∷ next ∷ under) in omega (arith, o, many);
        clock = refl;
        progress = tt;
        visible = tt;
        changes = λ most m is few. stands_next s u v.held most t key item top next below under m chain is.stands is.room few a r;
        keeps = tt;
        takes = record { worked = next ∷ under; mid = a.mid.held; built = u.held; turns = a.turns.took; whole = a.builds.took; restarted = r; after_is = refl };
        only = λ most m is. tt;
        cause = tt;
        calm = ap (λ (x : Spent). x.faults) e ∙ a.builds.calm ∙ a.turns.calm;
        costs = costs;
        transfers = omega (arith, costs.steps_stay, costs.steps_rise, costs.transfers);
        trades = trades_next s u (now u v) t (new_cell key item) top next below under chain a r e;
      }

  pub steps_on : (ls ms : List Level) → IsChain s.held t ls → PreparesAll {A = Unit {0}} t (new_cell key item) s u ls ms (Ok tt) → Restarted t 0 (length ms) u.held v.held → v.spent ≡ u.spent →
      Mutates t key item s (now u v) ls (all_ended t 0 ms) (Ok (suc t % 2 ^ length ls))
  steps_on [] ms chain p r e = absurd p
  steps_on (top ∷ below) [] chain p r e = absurd p
  steps_on (top ∷ below) (built ∷ []) chain p r e =
      let a = accepted_of t (new_cell key item) s u top built below [] p in
      let many = length_levels t 0 below [] a.turns.turned in
      let more = chain.many in
      absurd (omega (arith, many, more))
  steps_on (top ∷ below) (built ∷ next ∷ under) chain p r e =
      let a = accepted_of t (new_cell key item) s u top built below (next ∷ under) p in
      subst (λ (b : Level). Mutates t key item s (now u v) (top ∷ below) (all_ended t 0 (b ∷ next ∷ under)) (Ok (suc t % 2 ^ suc (length below)))) (sym a.builds.accepted)
      (steps_with top next below under chain (subst (λ (b : Level). Accepted t (new_cell key item) s u top b below (next ∷ under)) a.builds.accepted a) r e)

-- ---- refused

module _ (s u : WorkState) (v : State) (t : ℕ) (key : List ℕ) (item : Item) (fault : StepFault) where
  stays_with : (top next : Level) (below under : List Level) → IsChain s.held t (top ∷ below) → Refused t (new_cell key item) s u top below (next ∷ under) fault → Restarts u.held v.held 0 (1 - visible_slot t 0) →
      v.spent ≡ u.spent → Mutates t key item s (now u v) (top ∷ below) (top ∷ next ∷ under) (Err fault)
  stays_with top next below under chain a r e =
      let costs : Costs s (now u v) (step_ticks (suc (length below))) (suc (length below) / 2) = costs_refused s.spent u.spent v.spent s.steps u.steps t below a.costs e in
      record {
        chain = same_chain s u v.held t (new_cell key item) top below (next ∷ under) fault chain a r;
        fixed = (keeps_all s u v.held t (new_cell key item) top below (next ∷ under) fault chain a r).fixed_is ∙ a.turns.keeps.fixed_is;
        counted = ap suc (length_levels t 0 below (next ∷ under) a.turns.turned);
        clock = tt;
        progress = (refl, a.turns.turned);
        visible = λ level index h. visible_stays s u v.held t (new_cell key item) top below (next ∷ under) fault chain a r level index h;
        changes = tt;
        keeps = λ most m is. stands_still s u v.held t (new_cell key item) top below (next ∷ under) fault most m chain is.stands is.room a r;
        takes = tt;
        only = λ most m is. device_only s u most t key item top next below under m fault chain is.stands is.room a;
        cause = record {
          at = u.held;
          restarts = r;
          refused = subst (λ (x : Spent). IsRefused t (new_cell key item) s (record { held = u.held; spent = x; steps = u.steps }) (top ∷ below) (top ∷ next ∷ under) fault) (sym e) a.refused;
        };
        calm = subst (λ (x : Spent). StepCalm s.spent.faults x.faults fault) (sym e) a.calm;
        costs = costs;
        transfers = omega (arith, costs.steps_stay, costs.steps_rise, costs.transfers);
        trades = tt;
      }

  pub stays_back : (ls ms : List Level) → IsChain s.held t ls → PreparesAll {A = Unit {0}} t (new_cell key item) s u ls ms (Err fault) → Restarts u.held v.held 0 (1 - visible_slot t 0) → v.spent ≡ u.spent →
      Mutates t key item s (now u v) ls ms (Err fault)
  stays_back [] ms chain p r e = absurd p
  stays_back (top ∷ below) [] chain p r e = absurd p
  stays_back (top ∷ below) (built ∷ []) chain p r e =
      let a = refused_of t (new_cell key item) s u top built below [] fault p in
      let many = length_levels t 0 below [] a.turns.turned in
      let more = chain.many in
      absurd (omega (arith, many, more))
  stays_back (top ∷ below) (built ∷ next ∷ under) chain p r e =
      subst (λ (b : Level). Mutates t key item s (now u v) (top ∷ below) (b ∷ next ∷ under) (Err fault)) (sym (top_stays t (new_cell key item) s u top built below (next ∷ under) fault p))
      (stays_with top next below under chain (refused_of t (new_cell key item) s u top built below (next ∷ under) fault p) r e)

-- ---- the clock

pub clock_fits : {held : Held} {t : ℕ} {ls : List Level} → IsChain held t ls → held.fixed.levels ≤ 23 → t < 2 ^ 23
clock_fits {held} {t} {ls} chain le =
    let few : length ls ≤ 23 = let e = chain.counted in omega (arith, e, le) in
    let p : 2 ^ length ls ≤ 2 ^ 23 = pow_mono few in
    let h = chain.clock_in in
    omega (arith, h, p)
