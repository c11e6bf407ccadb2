-- What a growing shadow and the reads beside it leave as it was.
use Rattle.std.proofs.Common.{◌≡◌, ◌≢◌, ◌⊎◌, inl, inr, ℕ, ◌+◌, ◌*◌, ◌/◌, ◌^◌, Option, Some, None, refl, ap, sym, subst, ◌∙◌, arith}
use Rattle.cola_cell.specs.declared.cell.Reader.{Reader}
use Rattle.cola_cell.specs.declared.cell.Cell.{Cell}
use Rattle.cola_cell.specs.Places.{Block}
use Rattle.cola_cell.specs.Held.{Held, Spot, Told}
use Rattle.cola_cell.specs.Spent.{Buffer, By}
use Rattle.cola_cell.specs.Shadows.{Forgets}
use Rattle.cola_merge.specs.declared.aims.Feed.{Feed}
use Rattle.cola_merge.specs.declared.aims.Feed.TheVariants as feed
use Rattle.cola_merge.specs.declared.aims.Aim.{Aim}
use Rattle.cola_merge.specs.Fetched.{Head}
use Rattle.cola_merge.specs.declared.merging.Merger.{Merger}
use Rattle.cola_cell.specs.ToldCells.{cell_at}
use Rattle.cola_merge.specs.Feeds.{feed_len, feed_spots, feed_cells, IsFeedTold, IsApart}
use Rattle.cola_merge.specs.Heads.{IsHeldCell, IsHead, IsReady, AreFeedsTold}
use Rattle.cola_merge.specs.Blocks.{Lasts, is_last, run_left, feed_left}
use Rattle.cola_merge.specs.States.{Grows, IsOther, KeepsBlocks}
use Rattle.cola_cell.proofs.CellLists.{cells-same}
use Rattle.cola_merge.proofs.Groups.{is_last-other, run_left-same}

-- ---- a shadow that grew

pub grows_none : (held : Held) (level : ℕ) → Grows held held level
grows_none held level = record {
  around = record { fixed_is = refl; shadows_stay = λ l d. refl; telling_is = λ l s i. refl };
  slot_is = refl;
  len_rises = omega arith;
  len_fits = λ h. h;
  others_stay = λ l s i d. refl;
}

-- the third of three, carried over
pub third : {A B C D : Type 0} → (C → D) → A ⊎ (B ⊎ C) → A ⊎ (B ⊎ D)
third h (inl a) = inl a
third h (inr (inl b)) = inr (inl b)
third h (inr (inr c)) = inr (inr (h c))

pub grows_then : {a b c : Held} {level : ℕ} → Grows a b level → Grows b c level → Grows a c level
grows_then {a} {b} {c} {level} g h = record {
  around = record {
    fixed_is = h.around.fixed_is ∙ g.around.fixed_is;
    shadows_stay = λ l d. h.around.shadows_stay l d ∙ g.around.shadows_stay l d;
    telling_is = λ l s i. h.around.telling_is l s i ∙ g.around.telling_is l s i;
  };
  slot_is = h.slot_is ∙ g.slot_is;
  len_rises = omega (arith, g.len_rises, h.len_rises);
  len_fits = λ k. h.len_fits (g.len_fits k);
  others_stay = λ l s i d.
      h.others_stay l s i (rw g.slot_is (third (λ k. omega (arith, k, g.len_rises)) d))
      ∙ g.others_stay l s i d;
}

-- ---- the feeds beside it

away : (level slot other l s : ℕ) → slot ≡ other → (l ≢ level) ⊎ (s ≢ slot) → {P : Type 0} → (l ≢ level) ⊎ (s ≢ other) ⊎ P
away level slot other l s e (inl d) = inl d
away level slot other l s e (inr d) = inr (inl (λ f. d (f ∙ sym e)))

module _ {old new : Held} {level : ℕ} (g : Grows old new level) (slot : ℕ) (e : slot ≡ (old.shadows level).slot) where
  pub feed_spots-stay : (f : Feed) → IsApart level slot f → (i : ℕ) → feed_spots new f i ≡ feed_spots old f i
  feed_spots-stay (feed.Run run) d i = g.others_stay run.level run.slot i (away level slot (old.shadows level).slot run.level run.slot e d)
  feed_spots-stay (feed.Sampled run) d i = g.others_stay run.level run.slot (8 * i + 7) (away level slot (old.shadows level).slot run.level run.slot e d)
  feed_spots-stay _ d i = refl

  pub feed_cells-stay : (f : Feed) → IsApart level slot f → feed_cells new f ≡ feed_cells old f
  feed_cells-stay f d = cells-same (feed_spots new f) (feed_spots old f) 0 (feed_len f) (λ k _. feed_spots-stay f d k)

  feed_told-stay : (f : Feed) → IsApart level slot f → IsFeedTold old f → IsFeedTold new f
  feed_told-stay f d t i h = subst (λ (x : Spot). x ≡ Told (cell_at x)) (sym (feed_spots-stay f d i)) (t i h)

  cell-stays : (f : Feed) → IsApart level slot f → (at : ℕ) (c : Option Cell) → IsHeldCell old f at c → IsHeldCell new f at c
  cell-stays f d at None h = tt
  cell-stays f d at (Some c) h = (h.0, rw (feed_spots-stay f d at) h.1, rw g.around.fixed_is h.2)

  head-stays : (f : Feed) → IsApart level slot f → (head : Head) → IsHead old f head → IsHead new f head
  head-stays f d head h = record { within = h.within; cell = cell-stays f d head.at head.cell h.cell }

pub feeds_told-stay : {old new : Held} {aim : Aim} {m : Merger} → Grows old new aim.level → IsReady old aim m → AreFeedsTold old aim → AreFeedsTold new aim
feeds_told-stay {old} {new} {aim} g r t = record {
  own = feed_told-stay g aim.slot r.slot_is aim.own r.own_apart t.own;
  incoming = feed_told-stay g aim.slot r.slot_is aim.incoming r.incoming_apart t.incoming;
  sample = feed_told-stay g aim.slot r.slot_is aim.sample r.sample_apart t.sample;
}

pub ready-stays : {old new : Held} {aim : Aim} {m : Merger} → Grows old new aim.level → IsReady old aim m → IsReady new aim m
ready-stays {old} {new} {aim} {m} g r =
    let e = g.around.fixed_is in
    record {
      level_in = rw e r.level_in;
      slot_is = r.slot_is ∙ sym g.slot_is;
      own_feed = rw e r.own_feed;
      incoming_feed = rw e r.incoming_feed;
      sample_feed = rw e r.sample_feed;
      own_apart = r.own_apart;
      incoming_apart = r.incoming_apart;
      sample_apart = r.sample_apart;
      own = head-stays g aim.slot r.slot_is aim.own r.own_apart m.own r.own;
      incoming = head-stays g aim.slot r.slot_is aim.incoming r.incoming_apart m.incoming r.incoming;
      sample = head-stays g aim.slot r.slot_is aim.sample r.sample_apart m.sample r.sample;
    }

-- ---- the buffers

-- a written block is forgotten, and none of another slot
pub forgets_keeps : (block : Block) (before now : Option Block) → Forgets block before now → (l s k : ℕ) → (l ≢ block.level) ⊎ (s ≢ block.slot) → is_last now l s k ≡ is_last before l s k
forgets_keeps block before now (inl e) l s k d = ap (λ (x : Option Block). is_last x l s k) e
forgets_keeps block before now (inr e) l s k d =
    ap (λ (x : Option Block). is_last x l s k) e.1
    ∙ sym (ap (λ (x : Option Block). is_last x l s k) e.0 ∙ is_last-other block l s k d)

pub left-stays : (doublings level slot : ℕ) (before now : Lasts) (reader : Reader) (f : Feed) → IsApart level slot f →
    ((buffer : Buffer) → KeepsBlocks level slot buffer before now) → (at : ℕ) → feed_left doublings now reader f at ≡ feed_left doublings before reader f at
left-stays doublings level slot before now reader (feed.Run run) d k at =
    run_left-same _ (before (By reader run.level)) (now (By reader run.level)) run _ run.len at (k (By reader run.level) run.level run.slot _ d)
left-stays doublings level slot before now reader (feed.Sampled run) d k at =
    run_left-same _ (before (By reader run.level)) (now (By reader run.level)) run _ _ at (k (By reader run.level) run.level run.slot _ d)
left-stays doublings level slot before now reader _ d k at = refl

is_other : (reader other : Reader) → other ≢ reader → (f : Feed) (level : ℕ) → IsOther reader f (By other level)
is_other reader other d (feed.One c) level = tt
is_other reader other d feed.Nothing level = tt
is_other reader other d _ level = λ e. d cc

-- what one reader reads leaves the blocks of the others
pub left-beside : (doublings : ℕ) (before now : Lasts) (reader other : Reader) → other ≢ reader → (f g : Feed) → ((buffer : Buffer) → IsOther reader f buffer → now buffer ≡ before buffer) →
    (at : ℕ) → feed_left doublings now other g at ≡ feed_left doublings before other g at
left-beside doublings before now reader other d f (feed.Run run) k at = ap (λ (x : Option Block). run_left (8 * 2 ^ doublings) x run (8 * 2 ^ doublings) run.len at) (k (By other run.level) (is_other reader other d f run.level))
left-beside doublings before now reader other d f (feed.Sampled run) k at = ap (λ (x : Option Block). run_left (8 * 2 ^ doublings) x run (2 ^ doublings) (run.len / 8) at) (k (By other run.level) (is_other reader other d f run.level))
left-beside doublings before now reader other d f _ k at = refl
