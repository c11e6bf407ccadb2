-- What a search of a window saw, by why it stopped.
use Rattle.std.proofs.Common.{◌≡◌, ◌⊎◌, inl, inr, ℕ, zero, suc, ◌+◌, ◌*◌, ◌≤◌, ◌<◌, length, length-take, drop, Bool, true, false, if◌then◌else◌, List, Option, None, refl, sym, ap, subst, ◌∙◌, arith}
use Rattle.std.specs.declared.cmp.Ordering.{Ordering}
use Rattle.std.specs.Ordering.{is_lt, is_eq}
use Rattle.std.proofs.lemmas.Bool.{true≢false}
use Rattle.cola_cell.specs.declared.cell.Cell.{Cell}
use Rattle.cola_cell.specs.declared.cell.Cell.TheVariants as cell
use Rattle.cola_cell.specs.declared.cell.Item.{Item}
use Rattle.cola_cell.specs.declared.format.Format.{Format}
use Rattle.cola_cell.specs.Cell.{key_of, link_of}
use Rattle.cola_cell.specs.Decoded.{standing}
use Rattle.cola_cell.specs.Held.{as_cell}
use Rattle.cola_cell.specs.Order.{key_cmp}
use Rattle.cola_cell.specs.Packed.{is_look, item_of}
use Rattle.cola_cell.specs.Spelling.{IsNoSpelling}
use Rattle.cola_cell.specs.Format.{width}
use Rattle.cola_cell.specs.Windows.{AreSpelled}
use Rattle.cola_window.specs.declared.seeking.Stop.{Stop}
use Rattle.cola_window.specs.declared.seeking.Stop.TheVariants as stop
use Rattle.cola_window.specs.Seeking.{nth, HasCell, AllBelow, StopsAt, SeekStops}
use Rattle.cola_window.specs.Windows.{Spells}
use Rattle.cola_look.specs.declared.scanning.Sight.{Sight}
use Rattle.cola_look.specs.Scanning.{Sees, StopsThere}
use Rattle.cola_look.specs.Seek.{seat_at, as_seat}
use Rattle.cola_look.proofs.Seats.{seat_of_hit, seat_of_miss}

-- the seat at a cell, by whether its key is the key sought
pub seat_by : (key : List ℕ) (pos : ℕ) (c : Cell) (hit : Option Item) (link : ℕ) (b : Bool) → is_eq (key_cmp (key_of c) key) ≡ b → hit ≡ (if b then item_of c else None) → link ≡ link_of c →
    as_seat (record { pos = pos; hit = hit; link = link }) ≡ seat_at key pos (as_cell c)
seat_by key pos c hit link true e h l = seat_of_hit key pos c hit link e h l
seat_by key pos c hit link false e h l = seat_of_miss key pos c hit link e h l

-- a lookahead cell has no item
pub no_item : (c : Cell) → is_look c ≡ true → item_of c ≡ None
no_item (cell.Item k item young l) e = absurd (true≢false (sym e))
no_item (cell.Look k l) e = refl

-- it stopped at a cell
pub sees_at : (before sight : Sight) (key : List ℕ) (format : Format) (bytes : List ℕ) (n ticks : ℕ) (order : Ordering) (b : Bool) → AllBelow format key bytes n → StopsAt format key bytes before.most n order →
    is_lt order ≡ false → is_eq order ≡ b → sight.passed ≡ n → sight.stops ≡ true → sight.hit ≡ (if b then item_of (standing format (nth format bytes n)) else None) →
    sight.link ≡ link_of (standing format (nth format bytes n)) → ticks ≡ n + 1 → Sees before sight key format bytes ticks
sees_at before sight key format bytes n ticks order b below at not_below is_b passed stopped hit link e =
    let c = standing format (nth format bytes n) in
    let w = at.within in
    let o = at.ordered.order_is in
    let there : StopsThere before.most key format bytes (record { most = sight.most; passed = n; stops = sight.stops; hit = sight.hit; link = sight.link }) = record {
      within = w;
      has = at.has;
      spells = at.ordered.spells;
      not_below = ap is_lt o ∙ not_below;
      seat = λ pos. seat_by key pos c sight.hit sight.link b (ap is_eq o ∙ is_b) hit link;
    } in
    record {
      few = omega (arith, passed, w);
      below = subst (λ (k : ℕ). AllBelow format key bytes k) (sym passed) below;
      stops = λ _. subst (λ (k : ℕ). StopsThere before.most key format bytes (record { most = sight.most; passed = k; stops = sight.stops; hit = sight.hit; link = sight.link })) (sym passed) there;
      goes_on = λ h. absurd (true≢false (sym stopped ∙ h));
      ticks_are = e ∙ ap (λ (k : ℕ). k + 1) (sym passed) ∙ ap (λ (x : Bool). if x then sight.passed + 1 else sight.passed) (sym stopped);
      misses = λ h. absurd (true≢false (sym stopped ∙ h));
    }

-- it stopped at none
pub sees_behind : (before sight : Sight) (key : List ℕ) (format : Format) (bytes : List ℕ) (n ticks : ℕ) → n ≤ before.most → AllBelow format key bytes n →
    (n ≡ before.most) ⊎ (HasCell format bytes n → IsNoSpelling format (nth format bytes n)) → sight.passed ≡ n → sight.stops ≡ false → sight.hit ≡ None → ticks ≡ n →
    Sees before sight key format bytes ticks
sees_behind before sight key format bytes n ticks few below left passed stopped none e = record {
  few = omega (arith, passed, few);
  below = subst (λ (k : ℕ). AllBelow format key bytes k) (sym passed) below;
  stops = λ h. absurd (true≢false (sym h ∙ stopped));
  goes_on = λ _. subst (λ (k : ℕ). (k ≡ before.most) ⊎ (HasCell format bytes k → IsNoSpelling format (nth format bytes k))) (sym passed) left;
  ticks_are = e ∙ sym passed ∙ ap (λ (x : Bool). if x then sight.passed + 1 else sight.passed) (sym stopped);
  misses = λ _. none;
}

-- and why: as many were passed as it may, or no cell is spelled there
pub left_behind : (format : Format) (key bytes : List ℕ) (most n : ℕ) (why : Stop) → (why ≡ stop.Bad) ⊎ (why ≡ stop.End) → SeekStops format key bytes most n why →
    (n ≡ most) ⊎ (HasCell format bytes n → IsNoSpelling format (nth format bytes n))
left_behind format key bytes most n why (inl e) h = let b = subst (λ (x : Stop). SeekStops format key bytes most n x) e h in inr (λ _. b.1)
left_behind format key bytes most n why (inr e) h = ended (subst (λ (x : Stop). SeekStops format key bytes most n x) e h)
  where
    ended : (n ≡ most) ⊎ (length (drop (n * width format) bytes) < width format) → (n ≡ most) ⊎ (HasCell format bytes n → IsNoSpelling format (nth format bytes n))
    ended (inl all) = inl all
    ended (inr short) = inr (λ has. absurd (let there : width format ≤ length (drop (n * width format) bytes) = has in omega (arith, there, short)))

-- ---- that what it accessed are cells, and one at least where the first is one

pub spelled_below : (format : Format) (key bytes : List ℕ) (n : ℕ) → AllBelow format key bytes n → AreSpelled format n bytes
spelled_below format key bytes n below k h = (below k h).1.spells

pub spelled_at : (format : Format) (key bytes : List ℕ) (most n : ℕ) (order : Ordering) → AllBelow format key bytes n → StopsAt format key bytes most n order →
    AreSpelled format (n + 1) bytes
spelled_at format key bytes most n order below at k h =
    let cases : (k < n) ⊎ (n ≡ k) = grind arith in
    elim cases [
      | inl l ↦ (below k l).1.spells
      | inr e ↦ subst (λ (m : ℕ). Spells format (nth format bytes m)) e at.ordered.spells
    ]

pub some_behind : (format : Format) (bytes : List ℕ) (most n : ℕ) → 0 < most → (n ≡ most) ⊎ (HasCell format bytes n → IsNoSpelling format (nth format bytes n)) →
    AreSpelled format 1 bytes → 0 < n
some_behind format bytes most (suc n) some left first = omega arith
some_behind format bytes most zero some (inl all) first = absurd (omega (arith, all, some))
some_behind format bytes most zero some (inr bad) first =
    let cell = first 0 (omega arith) in
    let size = cell.size in
    let long = length-take (width format) (drop (0 * width format) bytes) in
    let has : HasCell format bytes 0 = omega (arith, size, long) in
    absurd (bad has (standing format (nth format bytes 0)) cell)
