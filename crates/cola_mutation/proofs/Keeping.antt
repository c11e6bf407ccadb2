-- What the work of some levels leaves of the others.
use Rattle.std.proofs.Common.{◌≡◌, ◌≢◌, ◌⊎◌, inl, inr, ℕ, suc, ◌+◌, ◌*◌, ◌<◌, Bool, true, false, List, [], ◌∷◌, Option, Some, None, refl, ap, sym, subst, ◌∙◌, arith}
use Rattle.std.proofs.lemmas.Bool.{true≢false}
use Rattle.std.proofs.lemmas.Bool.Decides.{eqb_tells}
use Rattle.cola_clock.specs.Clock.{works, visible_slot}
use Rattle.cola_clock.specs.Marks.{Marks}
use Rattle.cola_clock.proofs.Laws.{adjacent-rest}
use Rattle.cola_cell.specs.declared.cell.Cell.{Cell}
use Rattle.cola_cell.specs.declared.sink.Shadow.{Shadow}
use Rattle.cola_cell.specs.Format.{CellFits}
use Rattle.cola_cell.specs.Held.{Held, Fixed, Spot, Told, Tells, as_cell}
use Rattle.cola_cell.specs.Shadows.{StaysAround, Restarts}
use Rattle.cola_merge.specs.declared.aims.Feed.{Feed}
use Rattle.cola_merge.specs.declared.aims.Aim.{Aim}
use Rattle.cola_merge.specs.declared.heads.Head.{Head}
use Rattle.cola_merge.specs.declared.merging.Merger.{Merger}
use Rattle.cola_merge.specs.Feeds.{feed_spots, IsFeed}
use Rattle.cola_merge.specs.Heads.{IsHeldCell, IsHead, IsReady}
use Rattle.cola_merge.specs.States.{Grows}
use Rattle.cola_transfers.specs.Chain.{sampled_slot}
use Rattle.cola_level.specs.declared.level.Level.{Level}
use Rattle.cola_level.specs.Marks.{all_marks_of}
use Rattle.cola_level.specs.Aims.{aim_at}
use Rattle.cola_mutation.specs.Levels.{Fits, AreFit}
use Rattle.cola_mutation.specs.Work.{Keeps, IsBeside, IsQuiet}

-- ---- that it adds up

pub keeps_same : (Q : ℕ → Type 0) (held : Held) → Keeps Q held held
keeps_same Q held = record { fixed_is = refl; telling_is = λ l s k. refl; slots_stay = λ l. refl; shadows_stay = λ l q. refl; spots_stay = λ l s k q. refl }

quiet_to : {R P : ℕ → Type 0} → ((l : ℕ) → R l → P l) → (l s x y : ℕ) → y ≡ x → R l ⊎ (s ≢ x) → P l ⊎ (s ≢ y)
quiet_to p l s x y e (inl r) = inl (p l r)
quiet_to p l s x y e (inr d) = inr (λ f. d (f ∙ e))

pub keeps_then : {P Q R : ℕ → Type 0} {a b c : Held} → ((l : ℕ) → R l → P l) → ((l : ℕ) → R l → Q l) → Keeps P a b → Keeps Q b c → Keeps R a c
keeps_then {P} {Q} {R} {a} {b} {c} p q g h = record {
  fixed_is = h.fixed_is ∙ g.fixed_is;
  telling_is = λ l s k. h.telling_is l s k ∙ g.telling_is l s k;
  slots_stay = λ l. h.slots_stay l ∙ g.slots_stay l;
  shadows_stay = λ l r. h.shadows_stay l (q l r) ∙ g.shadows_stay l (p l r);
  spots_stay = λ l s k d.
      h.spots_stay l s k (quiet_to q l s (a.shadows l).slot (b.shadows l).slot (g.slots_stay l) d)
      ∙ g.spots_stay l s k (quiet_to p l s (a.shadows l).slot (a.shadows l).slot refl d);
}

pub keeps_weaker : {P R : ℕ → Type 0} {a b : Held} → ((l : ℕ) → R l → P l) → Keeps P a b → Keeps R a b
keeps_weaker {P} {R} {a} {b} p g = keeps_then p (λ l r. r) g (keeps_same R b)

-- a level that works is not beside itself
pub apart_of : (t i l : ℕ) → works t (suc i) ≡ true → IsBeside t i l → l ≢ suc i
apart_of t i l w (inl d) = d
apart_of t i l w (inr f) = λ e. true≢false (sym w ∙ ap (λ (x : ℕ). works t x) (sym e) ∙ f)

-- an object of which one level's shadow changed, in its slot
near_one : {P : Type 0} (a : Held) (level l s : ℕ) → (P → l ≢ level) → P ⊎ (s ≢ (a.shadows l).slot) → (l ≢ level) ⊎ (s ≢ (a.shadows level).slot)
near_one a level l s apart (inl q) = inl (apart q)
near_one a level l s apart (inr d) = elim (eqb_tells l level) [
  | inl e ↦ inr (λ f. d (f ∙ ap (λ (x : ℕ). (a.shadows x).slot) (sym e.1)))
  | inr e ↦ inl e.1
]

pub keeps_one : {Q : ℕ → Type 0} {a b : Held} (level : ℕ) → ((l : ℕ) → Q l → l ≢ level) → StaysAround a b level → (b.shadows level).slot ≡ (a.shadows level).slot →
    ((l s k : ℕ) → (l ≢ level) ⊎ (s ≢ (a.shadows level).slot) → b.spots l s k ≡ a.spots l s k) → Keeps Q a b
keeps_one {Q} {a} {b} level apart around same stay = record {
  fixed_is = around.fixed_is;
  telling_is = around.telling_is;
  slots_stay = λ l. elim (eqb_tells l level) [
    | inl e ↦ subst (λ (x : ℕ). (b.shadows x).slot ≡ (a.shadows x).slot) (sym e.1) same
    | inr e ↦ ap (λ (x : Shadow). x.slot) (around.shadows_stay l e.1)
  ];
  shadows_stay = λ l q. around.shadows_stay l (apart l q);
  spots_stay = λ l s k d. stay l s k (near_one a level l s (apart l) d);
}

or_behind : {A B C : Type 0} → A ⊎ B → A ⊎ B ⊎ C
or_behind (inl a) = inl a
or_behind (inr b) = inr (inl b)

-- a shadow that grew
pub keeps_grows : {Q : ℕ → Type 0} {a b : Held} (level : ℕ) → ((l : ℕ) → Q l → l ≢ level) → Grows a b level → Keeps Q a b
keeps_grows level apart g = keeps_one level apart g.around g.slot_is (λ l s k d. g.others_stay l s k (or_behind d))

-- a shadow that was emptied
pub keeps_restart : {Q : ℕ → Type 0} {a b : Held} (level slot : ℕ) → ((l : ℕ) → Q l → l ≢ level) → Restarts a b level slot → slot ≡ (a.shadows level).slot → Keeps Q a b
keeps_restart level slot apart r e = keeps_one level apart r.around (ap (λ (s : Shadow). s.slot) r.shadow_is ∙ e) (λ l s k d. r.others_stay l s k (or_behind d))

pub quiet_beside : (t i l : ℕ) → IsQuiet t i l → IsBeside t i l
quiet_beside t i l (inl h) = inl (λ e. let f : l ≡ suc i = e in omega (arith, f, h))
quiet_beside t i l (inr f) = inr f

pub quiet_below : (t i l : ℕ) → IsQuiet t i l → IsQuiet t (suc i) l
quiet_below t i l (inl h) = inl (omega (arith, h))
quiet_below t i l (inr f) = inr f

-- ---- a merge that may be called

cell_stays : (a b : Held) (f : Feed) (at : ℕ) → b.fixed ≡ a.fixed → ((k : ℕ) → feed_spots b f k ≡ feed_spots a f k) → (c : Option Cell) → IsHeldCell a f at c → IsHeldCell b f at c
cell_stays a b f at x e None h = tt
cell_stays a b f at x e (Some c) h = (
  h.0,
  subst (λ (s : Spot). Tells s (Told (as_cell c))) (sym (e at)) h.1,
  subst (λ (y : Fixed). CellFits y.format c) (sym x) h.2,
)

head_stays : (a b : Held) (f : Feed) (head : Head) → b.fixed ≡ a.fixed → ((k : ℕ) → feed_spots b f k ≡ feed_spots a f k) → IsHead a f head → IsHead b f head
head_stays a b f head x e h = record { within = h.within; cell = cell_stays a b f head.at x e head.cell h.cell }

-- the three feeds read what they read
pub record FeedsStay (a b : Held) (aim : Aim) : Type 0 where
  pub own : (k : ℕ) → feed_spots b aim.own k ≡ feed_spots a aim.own k
  pub incoming : (k : ℕ) → feed_spots b aim.incoming k ≡ feed_spots a aim.incoming k
  pub sample : (k : ℕ) → feed_spots b aim.sample k ≡ feed_spots a aim.sample k

pub ready_stays : {a b : Held} {aim : Aim} {m : Merger} → b.fixed ≡ a.fixed → (b.shadows aim.level).slot ≡ (a.shadows aim.level).slot → FeedsStay a b aim → IsReady a aim m → IsReady b aim m
ready_stays {a} {b} {aim} {m} x e f r = record {
  level_in = subst (λ (y : Fixed). aim.level < y.levels) (sym x) r.level_in;
  slot_is = r.slot_is ∙ sym e;
  own_feed = subst (λ (y : Fixed). IsFeed y aim.own) (sym x) r.own_feed;
  incoming_feed = subst (λ (y : Fixed). IsFeed y aim.incoming) (sym x) r.incoming_feed;
  sample_feed = subst (λ (y : Fixed). IsFeed y aim.sample) (sym x) r.sample_feed;
  own_apart = r.own_apart;
  incoming_apart = r.incoming_apart;
  sample_apart = r.sample_apart;
  own = head_stays a b aim.own m.own x f.own r.own;
  incoming = head_stays a b aim.incoming m.incoming x f.incoming r.incoming;
  sample = head_stays a b aim.sample m.sample x f.sample r.sample;
}

-- a level that works reads its own level, the one above it and the one below it
pub feeds_stay : {Q : ℕ → Type 0} {a b : Held} (t i own above : ℕ) (below : List Marks) → Keeps Q a b → Q (suc i) → Q i ⊎ (visible_slot t i ≢ (a.shadows i).slot) → Q (suc (suc i)) → FeedsStay a b (aim_at t i own above below)
feeds_stay t i own above [] k q r s = record {
  own = λ n. k.spots_stay (suc i) (visible_slot t (suc i)) n (inl q);
  incoming = λ n. k.spots_stay i (visible_slot t i) n r;
  sample = λ n. refl;
}
feeds_stay {Q} {a} {b} t i own above (next ∷ under) k q r s = record {
  own = λ n. k.spots_stay (suc i) (visible_slot t (suc i)) n (inl q);
  incoming = λ n. k.spots_stay i (visible_slot t i) n r;
  sample = λ n. k.spots_stay (suc (suc i)) (sampled_slot t (suc i)) (8 * n + 7) (inl s);
}

pub aim_level : (t i own above : ℕ) (below : List Marks) → (aim_at t i own above below).level ≡ suc i
aim_level t i own above [] = refl
aim_level t i own above (next ∷ under) = refl

pub fits_stay : {Q : ℕ → Type 0} {a b : Held} (t i above : ℕ) (l : Level) (below : List Marks) → Keeps Q a b → Q (suc i) → (works t (suc i) ≡ true → (Q i ⊎ (visible_slot t i ≢ (a.shadows i).slot)) × Q (suc (suc i))) →
    Fits a t i above l below → Fits b t i above l below
fits_stay {Q} {a} {b} t i above l below k q near f = record {
  level_in = subst (λ (y : Fixed). suc i < y.levels) (sym k.fixed_is) f.level_in;
  shadow_is = f.shadow_is ∙ ap (λ (s : Shadow). s.len) (sym (k.shadows_stay (suc i) q));
  slot_is = k.slots_stay (suc i) ∙ f.slot_is;
  ready = λ w. ready_stays k.fixed_is (k.slots_stay (aim_at t i l.visible above below).level) (feeds_stay t i l.visible above below k q (near w).0 (near w).1) (f.ready w);
  rests = f.rests;
}

not_true : (b : Bool) → (b ≡ true → ⊥) → b ≡ false
not_true true h = absurd (h refl)
not_true false h = refl

-- the levels behind one that had its turn
rest_quiet : (t i k : ℕ) → i < k → works t (suc k) ≡ true → IsBeside t i k
rest_quiet t i k h w = elim (eqb_tells k (suc i)) [
  | inl e ↦ inr (not_both e.1)
  | inr e ↦ inl e.1
] where
  not_both : k ≡ suc i → works t k ≡ false
  not_both e = not_true (works t k) (λ v. true≢false (sym w ∙ ap (λ (x : ℕ). works t (suc x)) e ∙ adjacent-rest t i (ap (λ (x : ℕ). works t x) (sym e) ∙ v)))

pub all_fit_stay : {a b : Held} (t i k above : ℕ) (ls : List Level) → i < k → Keeps (IsBeside t i) a b → AreFit a t k above ls → AreFit b t k above ls
all_fit_stay t i k above [] h g f = tt
all_fit_stay {a} {b} t i k above (l ∷ ls) h g f = (
  fits_stay t k above l (all_marks_of ls) g (inl (λ e. let x : suc k ≡ suc i = e in omega (arith, x, h)))
      (λ w. (inl (rest_quiet t i k h w), inl (λ e. let x : suc (suc k) ≡ suc i = e in omega (arith, x, h)))) f.0,
  all_fit_stay t i (suc k) l.visible ls (omega (arith, h)) g f.1,
)
