-- What the cause of a refused mutation says of the object afterwards.
use Rattle.std.proofs.Common.{◌≡◌, ◌≢◌, ◌⊎◌, inl, inr, ℕ, suc, ◌+◌, ◌-◌, ◌*◌, ◌<◌, List, [], ◌∷◌, length, Option, Some, None, ap, sym, subst, ◌∙◌, arith}
use Rattle.std.specs.Option.{option_map}
use Rattle.cola_outside.specs.Faults.{Rose}
use Rattle.cola_clock.specs.Clock.{visible_slot}
use Rattle.cola_runs.specs.Steps.{rule}
use Rattle.cola_cell.specs.declared.cell.Cell.{Cell}
use Rattle.cola_cell.specs.declared.cell.Item.{Item}
use Rattle.cola_cell.specs.declared.cell.Reader.{Reader}
use Rattle.cola_cell.specs.declared.cell.Reader.TheVariants.{Own, Incoming, Sample}
use Rattle.cola_cell.specs.declared.fault.StepFault.{StepFault}
use Rattle.cola_cell.specs.declared.fault.StepFault.TheVariants.{Device, BadCell, Overfull}
use Rattle.cola_cell.specs.declared.sink.Shadow.{Shadow}
use Rattle.cola_cell.specs.Cell.{key_of}
use Rattle.cola_cell.specs.Costs.{HasBad}
use Rattle.cola_cell.specs.Held.{Held, Fixed, Spot, Bad, Tells, as_cell}
use Rattle.cola_cell.specs.Order.{key_cmp}
use Rattle.cola_cell.specs.Places.{slot_size, IsPlace}
use Rattle.cola_cell.specs.Shadows.{IsKept, Restarts}
use Rattle.cola_merge.specs.declared.aims.Feed.{Feed}
use Rattle.cola_merge.specs.declared.aims.Feed.TheVariants as feed
use Rattle.cola_merge.specs.declared.aims.Aim.{Aim}
use Rattle.cola_merge.specs.declared.merging.Merger.{Merger}
use Rattle.cola_merge.specs.Feeds.{IsFeed, IsBadAt, feed_of, part_of}
use Rattle.cola_merge.specs.Heads.{IsHead, IsReady}
use Rattle.cola_merge.specs.Rules.{Emits}
use Rattle.cola_merge.specs.States.{StepCause}
use Rattle.cola_level.specs.declared.level.Level.{Level}
use Rattle.cola_level.specs.Aims.{aim_at}
use Rattle.cola_level.specs.Marks.{all_marks_of}
use Rattle.cola_level.specs.Work.{sources}
use Rattle.cola_mutation.specs.Work.{WorkState, with_merger, IsOneRefused, build_aim}
use Rattle.cola_mutation.specs.Standing.{first_marks, new_cell, IsBuildRefused, IsRefused, HasRefusal, IsFullLevel}
use Rattle.cola_mutation.proofs.Building.{small_slot}
use Rattle.cola_mutation.proofs.Keeping.{aim_level}

-- a slot of level 0 is smaller than a block, so its cells stay
top_kept : (held : Held) → IsKept held 0
top_kept held = record { is = inr (small_slot held.fixed.doublings) }

bad_feed : (held : Held) (f : Feed) (at number : ℕ) → IsFeed held.fixed f → IsBadAt held f at number → HasBad held number
bad_feed held (feed.Run run) at number ok bad = record {
  level = run.level;
  slot = run.slot;
  index = at;
  place = record { level_in = ok.level_in; slot_in = ok.slot_in; index_in = let h = bad.0 in let w = ok.within in omega (arith, h, w) };
  bad = bad.1;
}
bad_feed held (feed.Sampled run) at number ok bad = record {
  level = run.level;
  slot = run.slot;
  index = 8 * at + 7;
  place = record { level_in = ok.level_in; slot_in = ok.slot_in; index_in = let h = bad.0 in let w = ok.within in omega (arith, h, w) };
  bad = bad.1;
}
bad_feed held (feed.One c) at number ok bad = absurd bad
bad_feed held feed.Nothing at number ok bad = absurd bad

feed_ok : {held : Held} {aim : Aim} {m : Merger} (reader : Reader) → IsReady held aim m → IsFeed held.fixed (feed_of aim reader)
feed_ok Own r = r.own_feed
feed_ok Incoming r = r.incoming_feed
feed_ok Sample r = r.sample_feed

bad_later : {a b : Held} (slot number : ℕ) → Restarts a b 0 slot → HasBad a number → HasBad b number
bad_later {a} {b} slot number r h = record {
  level = h.level;
  slot = h.slot;
  index = h.index;
  place = subst (λ (f : Fixed). IsPlace f.levels h.level h.slot h.index) (sym r.around.fixed_is) h.place;
  bad = record {
    told = subst (λ (x : Spot). Tells x Bad) (sym (r.kept_stay (top_kept a) h.level h.slot h.index)) h.bad.told;
    number_is = h.bad.number_is;
  };
}

-- ---- some merge that could be called as it stood

record SomeRefused (u : WorkState) (before : ℕ) (fault : StepFault) : Type 0 where
  aim : Aim
  merger : Merger
  ready : IsReady u.held aim merger
  cause : StepCause aim before (with_merger u merger) fault

one_refused : (t i above before : ℕ) (begun : Held) (u : WorkState) (ls ms : List Level) (fault : StepFault) → IsOneRefused t i above before begun u ls ms fault → SomeRefused u before fault
one_refused t i above before begun u [] ms fault h = absurd h
one_refused t i above before begun u (l ∷ ls) [] fault h = absurd h
one_refused t i above before begun u (l ∷ ls) (m ∷ ms) fault (inl (h, same)) = record { aim = aim_at t i m.visible above (all_marks_of ls); merger = m.merger; ready = h.ready; cause = h.cause }
one_refused t i above before begun u (l ∷ ls) (m ∷ ms) fault (inr (mid, took, h)) = one_refused t (suc i) m.visible before mid u ls ms fault h

some_refused : (t : ℕ) (c : Cell) (s u : WorkState) (ls ms : List Level) (fault : StepFault) → IsRefused t c s u ls ms fault → SomeRefused u s.spent.faults fault
some_refused t c s u [] ms fault h = absurd h
some_refused t c s u (top ∷ below) [] fault h = absurd h
some_refused t c s u (top ∷ below) (built ∷ worked) fault (inl h) = one_refused t 0 top.visible s.spent.faults s.held u below worked fault h
some_refused t c s u (top ∷ below) (built ∷ worked) fault (inr h) = record { aim = build_aim t c top (first_marks worked); merger = h.refused.merger; ready = h.refused.ready; cause = h.refused.cause }

module _ (t : ℕ) (key : List ℕ) (item : Item) (s u : WorkState) where
  refused_at : (ls ms : List Level) (fault : StepFault) → (h : HasRefusal t key item s u ls ms fault) → SomeRefused (record u { held = h.at }) s.spent.faults fault
  refused_at ls ms fault h = some_refused t (new_cell key item) s (record u { held = h.at }) ls ms fault h.refused

  pub device_rose : (ls ms : List Level) → HasRefusal t key item s u ls ms Device → Rose s.spent.faults u.spent.faults
  device_rose ls ms h = (refused_at ls ms Device h).cause

  pub bad_cell : (ls ms : List Level) (number : ℕ) → HasRefusal t key item s u ls ms (BadCell number) → HasBad u.held number
  bad_cell ls ms number h =
      let r = refused_at ls ms (BadCell number) h in
      bad_later (1 - visible_slot t 0) number h.restarts (bad_feed h.at (feed_of r.aim r.cause.reader) _ number (feed_ok r.cause.reader r.ready) r.cause.bad)

-- ---- a shadow that fills its slot

pub record IsFullAt (t i count : ℕ) (held : Held) (level : ℕ) : Type 0 where
  pub above : i < level
  pub full : IsFullLevel t (suc (i + count)) held level

one_full : (t i above before : ℕ) (begun : Held) (u : WorkState) (ls ms : List Level) (level : ℕ) → IsOneRefused t i above before begun u ls ms (Overfull level) → IsFullAt t i (length ls) u.held level
one_full t i above before begun u [] ms level h = absurd h
one_full t i above before begun u (l ∷ ls) [] level h = absurd h
one_full t i above before begun u (l ∷ ls) (m ∷ ms) level (inl (h, same)) =
    subst (λ (n : ℕ). IsFullAt t i (suc (length ls)) u.held n) (sym (h.cause.level_is ∙ aim_level t i m.visible above (all_marks_of ls))) (record {
      above = omega arith;
      full = record {
        level_in = omega arith;
        works = h.works;
        full = subst (λ (n : ℕ). (u.held.shadows n).len ≡ slot_size n) (aim_level t i m.visible above (all_marks_of ls)) h.cause.full;
      };
    })
one_full t i above before begun u (l ∷ ls) (m ∷ ms) level (inr (mid, took, h)) =
    let rest = one_full t (suc i) m.visible before mid u ls ms level h in
    record { above = omega (arith, rest.above); full = record { level_in = let e = rest.full.level_in in omega (arith, e); works = rest.full.works; full = rest.full.full } }

full_level : (t : ℕ) (c : Cell) (s u : WorkState) (ls ms : List Level) (level : ℕ) → IsRefused t c s u ls ms (Overfull level) → level ≢ 0 → IsFullLevel t (length ls) u.held level
full_level t c s u [] ms level h d = absurd h
full_level t c s u (top ∷ below) [] level h d = absurd h
full_level t c s u (top ∷ below) (built ∷ worked) level (inl h) d =
    let full = (one_full t 0 top.visible s.spent.faults s.held u below worked level h).full in
    record { level_in = let e = full.level_in in omega (arith, e); works = full.works; full = full.full }
full_level t c s u (top ∷ below) (built ∷ worked) level (inr h) d = absurd (d h.refused.cause.level_is)

-- a head is left where a cell is to be emitted
head_left : {held : Held} (aim : Aim) (i j k : ℕ) (a b c : Option Cell) → IsHead held aim.own (record { at = i; cell = a }) → IsHead held aim.incoming (record { at = j; cell = b }) → IsHead held aim.sample (record { at = k; cell = c }) →
    Emits (rule key_cmp (part_of aim) (8 * k) (option_map as_cell a) (option_map as_cell b) (option_map key_of c)) → i + j + k < sources aim
head_left aim i j k (Some x) b c own incoming sample e = let h = own.cell.0 in omega (arith, h, incoming.within, sample.within)
head_left aim i j k None (Some y) c own incoming sample e = let h = incoming.cell.0 in omega (arith, h, own.within, sample.within)
head_left aim i j k None None (Some z) own incoming sample e = let h = sample.cell.0 in omega (arith, h, own.within, incoming.within)
head_left aim i j k None None None own incoming sample e = absurd e

module _ (t : ℕ) (key : List ℕ) (item : Item) (s u : WorkState) where
  pub full_slot : (ls ms : List Level) (level : ℕ) → HasRefusal t key item s u ls ms (Overfull level) → level ≢ 0 → IsFullLevel t (length ls) u.held level
  full_slot ls ms level h d =
      let full = full_level t (new_cell key item) s (record u { held = h.at }) ls ms level h.refused d in
      record { level_in = full.level_in; works = full.works; full = ap (λ (x : Shadow). x.len) (h.restarts.around.shadows_stay level d) ∙ full.full }

  top_full : (top : Level) (below worked : List Level) (at : Held) →
      IsOneRefused t 0 top.visible s.spent.faults s.held (record u { held = at }) below worked (Overfull 0) ⊎ IsBuildRefused t (new_cell key item) s (record u { held = at }) top below worked (Overfull 0) →
      slot_size 0 < sources (build_aim t (new_cell key item) top (first_marks worked))
  top_full top below worked at (inl h) = let e = (one_full t 0 top.visible s.spent.faults s.held (record u { held = at }) below worked 0 h).above in absurd (omega (arith, e))
  top_full top below worked at (inr h) =
      let m = h.refused.merger in
      let left = head_left (build_aim t (new_cell key item) top (first_marks worked)) m.own.at m.incoming.at m.sample.at m.own.cell m.incoming.cell m.sample.cell h.refused.ready.own h.refused.ready.incoming h.refused.ready.sample h.refused.cause.emits in
      let few = h.refused.emits in
      let full : (at.shadows 0).len ≡ slot_size 0 = h.refused.cause.full in
      omega (arith, left, few, full)

  pub full_top : (top built : Level) (below worked : List Level) → HasRefusal t key item s u (top ∷ below) (built ∷ worked) (Overfull 0) → slot_size 0 < sources (build_aim t (new_cell key item) top (first_marks worked))
  full_top top built below worked h = top_full top below worked h.at h.refused
