-- A refused mutation leaves a chain at its clock, for the same map.
use Rattle.std.proofs.Common.{◌≡◌, ◌⊎◌, inl, inr, ℕ, zero, suc, ◌+◌, ◌-◌, ◌*◌, ◌/◌, ◌^◌, ◌<◌, ◌≤◌, List, [], ◌∷◌, length, Option, Result, Ok, Err, IfErr, refl, ap, sym, subst, ◌∙◌, arith}
use Rattle.cola_clock.specs.Clock.{visible_slot}
use Rattle.cola_clock.specs.Marks.{AreMarksIdle}
use Rattle.cola_clock.proofs.MarkLaws.{marks-fewer}
use Rattle.cola_laws.specs.Chain.{Level as LawLevel}
use Rattle.cola_laws.specs.Sound.{IsSound}
use Rattle.cola_laws.specs.Mutation.{AreAdvanced}
use Rattle.cola_laws.proofs.Mutations.{refusal, all-fewer}
use Rattle.cola_cell.specs.declared.cell.Cell.{Cell}
use Rattle.cola_cell.specs.declared.cell.Item.{Item}
use Rattle.cola_cell.specs.declared.fault.StepFault.{StepFault}
use Rattle.cola_cell.specs.declared.sink.Shadow.{Shadow}
use Rattle.cola_cell.specs.Held.{Held, Fixed, Spot, Stamped}
use Rattle.cola_cell.specs.Order.{key_cmp}
use Rattle.cola_cell.specs.Places.{slot_size}
use Rattle.cola_cell.specs.Spent.{Spent}
use Rattle.cola_cell.specs.Shadows.{Restarts}
use Rattle.cola_cell.specs.ToldCells.{IsTold}
use Rattle.cola_image.specs.Standing.{AreRunsAlike}
use Rattle.cola_image.proofs.CellsLemmas.{levels-alike, runs-told}
use Rattle.cola_merge.specs.States.{Grows, StepCalm}
use Rattle.cola_merge.specs.Heads.{fresh}
use Rattle.cola_merge.specs.Advance.{IsGoing, whole_run}
use Rattle.cola_merge.proofs.Kept.{grows_none}
use Rattle.cola_level.specs.Aims.{top_at}
use Rattle.cola_level.specs.declared.level.Level.{Level}
use Rattle.cola_level.specs.Marks.{marks_of, all_marks_of}
use Rattle.cola_level.specs.Standing.{slot_cells, visible_cells, stood, all_stood}
use Rattle.cola_level.specs.Work.{taken, IsDevice}
use Rattle.cola_mutation.specs.Levels.{IsChain}
use Rattle.cola_mutation.specs.Work.{WorkState, with_merger, Keeps, SpendsWithin, many_working, IsOneRefused, TakeTurns, AllAdvance, build_aim}
use Rattle.cola_mutation.specs.Standing.{StandsFor, first_marks, ThenBuilds, Prepares, new_cell, IsBuildRefused}
use Rattle.cola_mutation.proofs.Keeping.{keeps_then, keeps_restart}
use Rattle.cola_mutation.proofs.AddingUp.{spends_then, spends_more, cause_later, calm_then}
use Rattle.cola_mutation.proofs.Advancing.{cells_stay, visible_apart, telling_stays}
use Rattle.cola_mutation.proofs.Readying.{top_quiet, length_levels}
use Rattle.cola_mutation.proofs.Lasting.{alike_kept, nothing_told, slots_of}
use Rattle.cola_mutation.proofs.Meaning.{can_all_turn, sound_after, can_build}
use Rattle.cola_mutation.proofs.Accepting.{IsBelow, keeps_top, all_fit_top, half_work}
use Rattle.cola_mutation.proofs.Succeeding.{over_rests, over_above}

-- ---- what was refused

-- the turns of the levels, of which one may have been refused, and what was left of the build of level 0
pub record Refused (t : ℕ) (c : Cell) (s u : WorkState) (top : Level) (below worked : List Level) (fault : StepFault) : Type 0 where
  pub mid : WorkState
  pub first : Result (Unit {0}) StepFault
  pub turns : TakeTurns t 0 top.visible s mid below worked first
  pub grows : Grows mid.held u.held 0
  pub refused : IsOneRefused t 0 top.visible s.spent.faults s.held u below worked fault ⊎ IsBuildRefused t c s u top below worked fault
  pub calm : StepCalm s.spent.faults u.spent.faults fault
  pub costs : SpendsWithin s.spent u.spent s.steps u.steps (59 * many_working t 0 below + 9) (many_working t 0 below + 0)
  pub only : IfErr first IsDevice → IsGoing mid.held (top_at t top.visible c (first_marks worked ∷ [])) fresh → length (whole_run mid.held (top_at t top.visible c (first_marks worked ∷ []))) ≤ slot_size 0 → IsDevice fault

same_fault : (a b : StepFault) → ◌≡◌ {A = Result (Unit {0}) StepFault} (Err a) (Err b) → b ≡ a
same_fault a b e = cc

refused_by : (t : ℕ) (c : Cell) (s mid u : WorkState) (top built : Level) (below worked : List Level) (fault : StepFault) (first : Result (Unit {0}) StepFault) → TakeTurns t 0 top.visible s mid below worked first →
    ThenBuilds t c mid u top built worked first (Err fault) → Refused t c s u top below worked fault
refused_by t c s mid u top built below worked fault (Ok tt) turns builds =
    let r : Result (Unit {0}) StepFault = Err fault in
    record {
      mid = mid;
      first = Ok tt;
      turns = turns;
      grows = builds.grows;
      refused = inr (record {
        begun = mid.held;
        turns = turns.took;
        refused = record {
          empty = builds.refused.empty;
          grows = builds.refused.grows;
          merger = builds.refused.merger;
          ready = builds.refused.ready;
          emits = builds.refused.emits;
          samples = builds.refused.samples;
          builds = builds.refused.builds;
          cause = cause_later (build_aim t c top (first_marks worked)) s.spent.faults mid.spent.faults (with_merger u builds.refused.merger) fault turns.costs.faults_stay builds.refused.cause;
        };
      });
      calm = calm_then s.spent.faults mid.spent.faults u.spent.faults r turns.calm builds.calm;
      costs = spends_then turns.costs builds.costs;
      only = λ _ going fits. builds.only going fits;
    }
refused_by t c s mid u top built below worked fault (Err f) turns builds =
    let e : f ≡ fault = same_fault fault f builds.2 in
    subst (λ (w : WorkState). Refused t c s w top below worked fault) (sym builds.0) (record {
      mid = mid;
      first = Err f;
      turns = turns;
      grows = grows_none mid.held 0;
      refused = inl (subst (λ (x : StepFault). IsOneRefused t 0 top.visible s.spent.faults s.held mid below worked x) e turns.refused);
      calm = subst (λ (x : StepFault). StepCalm s.spent.faults mid.spent.faults x) e turns.calm;
      costs = spends_more (omega arith) (omega arith) turns.costs;
      only = λ device _ _. subst (λ (x : StepFault). IsDevice x) e device;
    })

pub refused_of : (t : ℕ) (c : Cell) (s u : WorkState) (top built : Level) (below worked : List Level) (fault : StepFault) → Prepares {A = Unit {0}} t c s u top built below worked (Err fault) → Refused t c s u top below worked fault
refused_of t c s u top built below worked fault p = refused_by t c s p.mid u top built below worked fault p.first p.turns p.builds

top_by : (t : ℕ) (c : Cell) (mid u : WorkState) (top built : Level) (worked : List Level) (fault : StepFault) (first : Result (Unit {0}) StepFault) → ThenBuilds t c mid u top built worked first (Err fault) → built ≡ top
top_by t c mid u top built worked fault (Ok tt) builds = builds.same
top_by t c mid u top built worked fault (Err f) builds = builds.1

pub top_stays : (t : ℕ) (c : Cell) (s u : WorkState) (top built : Level) (below worked : List Level) (fault : StepFault) → Prepares {A = Unit {0}} t c s u top built below worked (Err fault) → built ≡ top
top_stays t c s u top built below worked fault p = top_by t c p.mid u top built worked fault p.first p.builds

-- ---- level 0's shadow is emptied

module _ (s u : WorkState) (v : Held) (t : ℕ) (c : Cell) (top : Level) (below worked : List Level) (fault : StepFault) where
  abbrev Given : Type 0
  Given = Refused t c s u top below worked fault

  abbrev Emptied : Type 0
  Emptied = Restarts u.held v 0 (1 - visible_slot t 0)

  slot_mid : IsChain s.held t (top ∷ below) → (a : Given) → (a.mid.held.shadows 0).slot ≡ 1 - visible_slot t 0
  slot_mid chain a = a.turns.keeps.slots_stay 0 ∙ chain.fit.0.slot_is

  pub keeps_all : IsChain s.held t (top ∷ below) → (a : Given) → Emptied → Keeps IsBelow a.mid.held v
  keeps_all chain a r = keeps_then (λ l d. d) (λ l d. d) (keeps_top a.grows) (keeps_restart 0 (1 - visible_slot t 0) (λ l d. d) r (sym (a.grows.slot_is ∙ slot_mid chain a)))

  pub same_chain : IsChain s.held t (top ∷ below) → (a : Given) → Emptied → IsChain v t (top ∷ worked)
  same_chain chain a r =
      let many = length_levels t 0 below worked a.turns.turned in
      let keeps = keeps_all chain a r in
      let levels : v.fixed.levels ≡ s.held.fixed.levels = ap (λ (f : Fixed). f.levels) (keeps.fixed_is ∙ a.turns.keeps.fixed_is) in
      let marks = a.turns.marked chain.marks.1 in
      record {
        many = let m = chain.many in omega (arith, m, many);
        counted = let m = chain.counted in omega (arith, m, many, levels);
        clock_in = subst (λ (n : ℕ). t < 2 ^ suc n) (sym many) chain.clock_in;
        fit = (
          record { empty = ap (λ (x : Shadow). x.len) r.shadow_is; slot_is = ap (λ (x : Shadow). x.slot) r.shadow_is; merger = chain.fit.0.merger },
          all_fit_top t 0 top.visible worked keeps (slot_mid chain a) a.turns.fit,
        );
        marks = (
          record {
            visible_fits = chain.marks.0.visible_fits;
            shadow_fits = chain.marks.0.shadow_fits;
            first = chain.marks.0.first;
            before = chain.marks.0.before;
            inside = λ some w. absurd (omega (arith, some));
            after = chain.marks.0.after;
          },
          marks-fewer (taken a.first) 0 t 1 top.visible (all_marks_of worked) (omega arith) marks,
        );
      }

  idle_top : IsChain s.held t (top ∷ below) → AreMarksIdle (marks_of top)
  idle_top chain = chain.marks.0.first refl

  -- the visible run of level 0
  top_alike : IsChain s.held t (top ∷ below) → (a : Given) → Emptied → (k : ℕ) → v.spots 0 (visible_slot t 0) k ≡ s.held.spots 0 (visible_slot t 0) k
  top_alike chain a r k =
      (keeps_all chain a r).spots_stay 0 (visible_slot t 0) k (inr (visible_apart t 0 (a.mid.held.shadows 0).slot (slot_mid chain a)))
      ∙ a.turns.keeps.spots_stay 0 (visible_slot t 0) k (inl (top_quiet t))

  pub visible_stays : IsChain s.held t (top ∷ below) → (a : Given) → Emptied → (l k : ℕ) → l < suc (length below) → v.spots l (visible_slot t l) k ≡ s.held.spots l (visible_slot t l) k
  visible_stays chain a r zero k h = top_alike chain a r k
  visible_stays chain a r (suc l) k h =
      (keeps_all chain a r).spots_stay (suc l) (visible_slot t (suc l)) k (inl (λ e. let x : suc l ≡ 0 = e in omega (arith, x)))
      ∙ a.turns.keeps.spots_stay (suc l) (visible_slot t (suc l)) k
      (inr (visible_apart t (suc l) (s.held.shadows (suc l)).slot (slots_of s.held t 0 top.visible below chain.fit.1 (suc l) (omega arith) (omega (arith, h)))))

  below_alike : IsChain s.held t (top ∷ below) → (a : Given) → Emptied → AreRunsAlike a.mid.held.spots v.spots t 1 (all_marks_of worked)
  below_alike chain a r = alike_kept t 1 (all_marks_of worked) (keeps_all chain a r) (λ l h e. let x : l ≡ 0 = e in omega (arith, x, h))

  module _ (most : ℕ) (m : List ℕ → Option Stamped) where
    all_advance : StandsFor s.held most t (top ∷ below) m → most ≤ 2 ^ (suc (length below) + 1) → (a : Given) → AllAdvance s.held a.mid.held t 0 top.visible (all_marks_of below) (all_marks_of worked) a.first
    all_advance stand room a = a.turns.advance (can_all_turn s.held most t top below m stand room)

    sound_refused : IsChain s.held t (top ∷ below) → StandsFor s.held most t (top ∷ below) m → most ≤ 2 ^ (suc (length below) + 1) → (a : Given) → Emptied →
        IsSound key_cmp most t m (stood v t 0 (marks_of top)) (all_stood v t 1 (all_marks_of worked))
    sound_refused chain stand room a r =
        let adv = all_advance stand room a in
        let idle = idle_top chain in
        let visible : visible_cells v t 0 top.visible ≡ visible_cells s.held t 0 top.visible =
        cells_stay 0 (visible_slot t 0) top.visible (keeps_all chain a r) (inr (visible_apart t 0 (a.mid.held.shadows 0).slot (slot_mid chain a)))
        ∙ cells_stay 0 (visible_slot t 0) top.visible a.turns.keeps (inl (top_quiet t)) in
        let alike : all_stood v t 1 (all_marks_of worked) ≡ all_stood a.mid.held t 1 (all_marks_of worked) = levels-alike a.mid.held.spots v.spots t 1 (all_marks_of worked) (below_alike chain a r) in
        refusal key_cmp most t m (stood s.held t 0 (marks_of top)) (stood v t 0 (marks_of top)) (all_stood s.held t 1 (all_marks_of below)) (all_stood v t 1 (all_marks_of worked)) stand.sound visible
        (record {
          empty = ap (λ (n : ℕ). slot_cells v 0 (1 - visible_slot t 0) n) idle.empty;
          own_rests = idle.at_rest.own_rests;
          incoming_rests = idle.at_rest.incoming_rests;
          sampled_rests = idle.at_rest.sampled_rests;
        })
        (subst (λ (ls : List (LawLevel (List ℕ) Stamped)). AreAdvanced key_cmp 0 t 1 (visible_cells s.held t 0 top.visible) (all_stood s.held t 1 (all_marks_of below)) ls) (sym alike)
        (all-fewer key_cmp (taken a.first) 0 t 1 (visible_cells s.held t 0 top.visible) (all_stood s.held t 1 (all_marks_of below)) (all_stood a.mid.held t 1 (all_marks_of worked)) (omega arith) adv.advanced))

    pub stands_still : IsChain s.held t (top ∷ below) → StandsFor s.held most t (top ∷ below) m → most ≤ 2 ^ (suc (length below) + 1) → (a : Given) → Emptied → StandsFor v most t (top ∷ worked) m
    stands_still chain stand room a r =
        let adv = all_advance stand room a in
        let many = length_levels t 0 below worked a.turns.turned in
        let keeps = keeps_all chain a r in
        record {
          tells = telling_stays keeps (telling_stays a.turns.keeps stand.tells);
          told = (
            λ n h. subst (λ (x : Spot). IsTold x) (sym (top_alike chain a r n)) (stand.told.0 n h),
            nothing_told (v.spots 0 (1 - visible_slot t 0)) top.shadow (idle_top chain).empty,
            runs-told a.mid.held.spots v.spots t 1 (all_marks_of worked) (below_alike chain a r) adv.told,
          );
          saved = λ l h o.
              let above = over_above t l o in
              ap (λ (x : Shadow). x.saved) (keeps.shadows_stay l (λ e. let x : l ≡ 0 = e in omega (arith, x, above)))
              ∙ ap (λ (x : Shadow). x.saved) (a.turns.keeps.shadows_stay l (inr (over_rests t l o)))
              ∙ stand.saved l (omega (arith, h, many)) o;
          sound = sound_refused chain stand room a r;
        }

-- only the device refuses
pub device_only : (s u : WorkState) (most t : ℕ) (key : List ℕ) (item : Item) (top next : Level) (below under : List Level) (m : List ℕ → Option Stamped) (fault : StepFault) → IsChain s.held t (top ∷ below) →
    StandsFor s.held most t (top ∷ below) m → most ≤ 2 ^ (suc (length below) + 1) → Refused t (new_cell key item) s u top below (next ∷ under) fault → IsDevice fault
device_only s u most t key item top next below under m fault chain stand room a =
    let adv = a.turns.advance (can_all_turn s.held most t top below m stand room) in
    let b = can_build a.mid.held most (taken a.first) t key item top next under m (telling_stays a.turns.keeps stand.tells)
    (ap (λ (x : Shadow). x.len) (a.turns.keeps.shadows_stay 0 (top_quiet t)) ∙ chain.fit.0.empty)
    (λ n h. subst (λ (x : Spot). IsTold x) (sym (a.turns.keeps.spots_stay 0 (visible_slot t 0) n (inl (top_quiet t)))) (stand.told.0 n h))
    adv.told (sound_after s.held a.mid.held most (taken a.first) t top below (next ∷ under) m stand a.turns.keeps adv.advanced)
    (subst (λ (n : ℕ). most ≤ 2 ^ (suc n + 1)) (sym (length_levels t 0 below (next ∷ under) a.turns.turned)) room) in
    a.only adv.only b.going b.fits

-- ---- what it cost

pub costs_refused : {X : Type 0} (s u v : Spent) (i k t : ℕ) (below : List X) → SpendsWithin s u i k (59 * many_working t 0 below + 9) (many_working t 0 below + 0) → v ≡ u →
    SpendsWithin s v i k (9 + 59 * (suc (length below) / 2)) (suc (length below) / 2)
costs_refused s u v i k t below g e =
    let half = half_work t below in
    subst (λ (x : Spent). SpendsWithin s x i k (9 + 59 * (suc (length below) / 2)) (suc (length below) / 2)) (sym e)
    (spends_more (let lo : 59 * many_working t 0 below + 9 ≤ 9 + 59 * (suc (length below) / 2) = omega (arith, half) in lo) (let lo : many_working t 0 below + 0 ≤ suc (length below) / 2 = omega (arith, half) in lo) g)
