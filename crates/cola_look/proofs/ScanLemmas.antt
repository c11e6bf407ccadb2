-- A search of a window is the search of its run, as far as it goes.
use Rattle.std.proofs.Common.{◌≡◌, ◌≢◌, inl, inr, ℕ, zero, suc, ◌+◌, ◌-◌, ◌*◌, ◌≤◌, ◌<◌, Bool, true, false, not, if◌then◌else◌, List, length, drop, Option, None, Result, Ok, lit<, refl, sym, ap, subst, ◌∙◌, arith}
use Rattle.std.specs.Ordering.{is_lt, is_eq}
use Rattle.std.proofs.lemmas.Bool.{true≢false}
use Rattle.std.proofs.lemmas.List.{length-drop}
use Rattle.cola_cell.specs.declared.cell.Cell.{Cell}
use Rattle.cola_cell.specs.declared.cell.Run.{Run}
use Rattle.cola_cell.specs.declared.fault.ReadFault.{ReadFault}
use Rattle.cola_cell.specs.declared.format.Format.{Format}
use Rattle.cola_cell.specs.declared.format.Format.TheVariants.{One, Two}
use Rattle.cola_cell.specs.declared.source.CellSource.{Ghosts}
use Rattle.cola_cell.specs.declared.windows.Reach.{Reach}
use Rattle.cola_cell.specs.Cell.{key_of, link_of}
use Rattle.cola_cell.specs.Decoded.{standing}
use Rattle.cola_cell.specs.Format.{width}
use Rattle.cola_cell.specs.Held.{Held, Told, Tells, Spot, as_cell, span}
use Rattle.cola_cell.specs.Order.{key_cmp}
use Rattle.cola_cell.specs.Packed.{item_of}
use Rattle.cola_cell.specs.Costs.{Costs}
use Rattle.cola_cell.specs.Places.{Block, block_of}
use Rattle.cola_cell.proofs.CostsLemmas.{costs_then, costs_read_then, costs_within}
use Rattle.cola_cell.specs.Spent.{Buffer, Search}
use Rattle.cola_cell.specs.Reads.{Reads}
use Rattle.cola_cell.specs.State.{State}
use Rattle.cola_cell.specs.Windows.{IsShown, OnlyTicks, Scanned, Scans}
use Rattle.cola_cell.proofs.DecodedLemmas.{spot_told}
use Rattle.cola_window.specs.Seeking.{nth, HasCell, AllBelow}
use Rattle.cola_window.specs.Windows.{Spells}
use Rattle.cola_look.specs.declared.scanning.Sight.{Sight}
use Rattle.cola_look.specs.declared.seeking.Seat.{Seat}
use Rattle.cola_look.specs.Outcome.{Answers}
use Rattle.cola_look.specs.Scanning.{Sees, LooksOn, reach_of}
use Rattle.cola_look.specs.Seek.{first_of, last_of, found_from, found_in, seat_at, seat_of, as_seat, turns_from}
use Rattle.cola_look.specs.Turns.{groups, turns_left}
use Rattle.cola_look.proofs.TurnLemmas.{eight_in_block, turns_on, read_within}
use Rattle.cola_look.specs.Seeks.{Seeks}
use Rattle.cola_look.proofs.Looking.{Looked}
use Rattle.cola_look.proofs.Sights.{seat_by}
use Rattle.cola_look.proofs.SeekLemmas.{GoesOn, Seeking, joined, passes, stops, answers_whole, answers_told, answers_right, costs_turned, eights_within, read_first, turns_at, seeking_goes_on, seeks_found}

-- a cell of a window is one of those that it shows
has_many : (f : Format) (bytes : List ℕ) (many n : ℕ) → length bytes ≡ many * width f → HasCell f bytes n → n < many
has_many One bytes many n e h =
    let d : length (drop (n * 64) bytes) ≡ length bytes - n * 64 = length-drop (n * 64) bytes in
    let l : 64 ≤ length (drop (n * 64) bytes) = h in
    let s : length bytes ≡ many * 64 = e in
    omega (arith, d, l, s)
has_many Two bytes many n e h =
    let d : length (drop (n * 128) bytes) ≡ length bytes - n * 128 = length-drop (n * 128) bytes in
    let l : 128 ≤ length (drop (n * 128) bytes) = h in
    let s : length bytes ≡ many * 128 = e in
    omega (arith, d, l, s)

module _ {held : Held} {run : Run} (i : ℕ) {bytes : List ℕ} {is_last : Bool} (shown : IsShown held (reach_of run i) bytes is_last) where
  -- what is told of the place of a cell of the window is the cell that the bytes spell
  told_there : (n : ℕ) → HasCell held.fixed.format bytes n → Spells held.fixed.format (nth held.fixed.format bytes n) →
      Tells (held.spots run.level run.slot (i + n)) (Told (as_cell (standing held.fixed.format (nth held.fixed.format bytes n))))
  told_there n h s =
      subst (λ (x : Spot). Tells (held.spots run.level run.slot (i + n)) x) (spot_told held.fixed.format (standing held.fixed.format (nth held.fixed.format bytes n)) (nth held.fixed.format bytes n) s)
      (shown.shows n (has_many held.fixed.format bytes shown.many n shown.size h))

  module _ (next_len : ℕ) (key : List ℕ) (last : ℕ) where
    -- what lies behind the cells that it passed decides the search
    rest_behind : (n : ℕ) → n ≤ last - i → AllBelow held.fixed.format key bytes n → GoesOn (found_from held run next_len key i (last - i)) (found_from held run next_len key (i + n) (last - (i + n)))
    rest_behind zero l below =
        let z : i ≡ i + 0 = omega arith in
        inr (ap (λ (j : ℕ). found_from held run next_len key j (last - j)) z)
    rest_behind (suc n) l below =
        let b = below n (omega arith) in
        let many : last - (i + n) ≡ suc (last - (i + suc n)) = omega (arith, l) in
        let next : suc (i + n) ≡ i + suc n = omega arith in
        let step : GoesOn (found_from held run next_len key (i + n) (suc (last - (i + suc n)))) (found_from held run next_len key (suc (i + n)) (last - (i + suc n))) =
        passes held run next_len key (i + n) (last - (i + suc n)) (standing held.fixed.format (nth held.fixed.format bytes n)) (told_there n b.0 b.1.spells) (ap is_lt b.1.order_is) in
        joined (rest_behind n (omega (arith, l)) (λ k h. below k (omega (arith, h))))
        (subst (λ (m : ℕ). GoesOn (found_from held run next_len key (i + n) m) (found_from held run next_len key (i + suc n) (last - (i + suc n)))) (sym many)
        (subst (λ (j : ℕ). GoesOn (found_from held run next_len key (i + n) (suc (last - (i + suc n)))) (found_from held run next_len key j (last - (i + suc n)))) next step))

-- what a search of a window costs
scan_costs : {old new : State} {from to count : ℕ} → OnlyTicks old new from to count → Costs old.spent new.spent from to count 0
scan_costs o =
    let steps = o.steps_are in
    let ticked = o.ticked_are in
    let turned = o.turned_is in
    let faults = o.faults_are in
    record {
      steps_stay = omega (arith, steps);
      steps_rise = omega (arith, steps);
      ticked_is = omega (arith, steps, ticked);
      turned_stays = omega (arith, turned);
      turned_rises = omega (arith, turned);
      written_is = o.written_is;
      faults_stay = omega (arith, faults);
    }

-- of a window of what stands as it did at first
scanned_first : (old : State) {mid new : State} {reach : Reach} {blank sight : Sight} {key : List ℕ} {between after ticks : ℕ} → mid.held ≡ old.held →
    Scanned Sees mid new reach blank sight key between after ticks → Scanned Sees (record { held = old.held; spent = mid.spent }) new reach blank sight key between after ticks
scanned_first old {mid} {new} {reach} {blank} {sight} {key} {between} {after} {ticks} e s =
    subst (λ (h : Held). Scanned Sees (record { held = h; spent = mid.spent }) new reach blank sight key between after ticks) e s

module _ {run : Run} {next_len start : ℕ} {key : List ℕ} {old mid new : State} {before between after i : ℕ} {blank sight : Sight} {ticks : ℕ}
    (s : Seeking run next_len start key old mid before between (first_of start run.len) (last_of start run.len) i) (low : first_of start run.len ≤ i) (high : i < last_of start run.len)
    (scanned : Scanned Sees mid new (reach_of run i) blank sight key between after ticks) (most : blank.most ≡ last_of start run.len - i) where
  abbrev last : ℕ
  last = last_of start run.len

  -- the same, of the cells that stood at first
  there : Scanned Sees (record { held = old.held; spent = mid.spent }) new (reach_of run i) blank sight key between after ticks
  there = scanned_first old s.held_is scanned

  few : sight.passed ≤ last - i
  few = let f = scanned.sought_is.few in omega (arith, f, most)

  rest : GoesOn (found_in old.held run next_len start key) (found_from old.held run next_len key (i + sight.passed) (last - (i + sight.passed)))
  rest = joined s.rest (rest_behind i there.shown next_len key last sight.passed few there.sought_is.below)

  held_is : new.held ≡ old.held
  held_is = scanned.held_is ∙ scanned.first.cells_stay ∙ s.held_is

  -- the ticks by whether it stopped
  ticks_by : (b : Bool) → sight.stops ≡ b → suc scanned.more ≡ (if b then sight.passed + 1 else sight.passed)
  ticks_by b e = sym scanned.ticks_are ∙ scanned.sought_is.ticks_are ∙ ap (λ (x : Bool). if x then sight.passed + 1 else sight.passed) e

  -- what all its cells cost
  spent : Costs old.spent new.spent before after (i - first_of start run.len + 1 + scanned.more) (i - first_of start run.len + 1 + 0)
  spent = costs_then (costs_read_then s.costs scanned.first refl) (scan_costs scanned.others)

  each : new.spent.turned + before ≤ old.spent.turned + after
  each =
      let e = s.each in
      let rises = scanned.first.turned_rises in
      let turned = scanned.others.turned_is in
      let steps = scanned.others.steps_are in
      omega (arith, e, rises, turned, steps)

  others : (buffer : Buffer) → buffer ≢ Search → new.spent.lasts buffer ≡ old.spent.lasts buffer
  others buffer d = scanned.others.lasts_are buffer ∙ scanned.first.others_stay buffer d ∙ s.others buffer d

  -- a search that stopped at no cell of a window stands behind those that it passed: the first was read, and the others lie beside it
  seeking_scanned : sight.stops ≡ false → Seeking run next_len start key old new before after (first_of start run.len) last (i + sight.passed)
  seeking_scanned none =
      let many : suc scanned.more ≡ sight.passed = ticks_by false none in
      let below = scanned.sought_is.below 0 (omega (arith, many)) in
      let one = seeking_goes_on (standing mid.held.fixed.format (nth mid.held.fixed.format scanned.bytes 0)) s low high scanned.first (ap is_lt below.1.order_is) refl in
      let turned = scanned.others.turned_is in
      let left : turns_left (new.spent.lasts Search) (block_of (span old.held) run.level run.slot (i + sight.passed)) 8 (i + sight.passed) last
      ≤ turns_left (scanned.mid.spent.lasts Search) (block_of (span old.held) run.level run.slot (i + 1)) 8 (i + 1) last =
      subst (λ (x : Option Block). turns_left x (block_of (span old.held) run.level run.slot (i + sight.passed)) 8 (i + sight.passed) last
      ≤ turns_left (scanned.mid.spent.lasts Search) (block_of (span old.held) run.level run.slot (i + 1)) 8 (i + 1) last)
      (sym (scanned.others.lasts_are Search))
      (turns_on (scanned.mid.spent.lasts Search) (block_of (span old.held) run.level run.slot (i + 1)) (block_of (span old.held) run.level run.slot (i + sight.passed)) 8 (i + 1) (i + sight.passed) last (lit< tt) (omega (arith, many))
      (λ f. ap (λ (n : ℕ). record { level = run.level; slot = run.slot; number = n }) (eight_in_block old.held.fixed.doublings (i + sight.passed) (i + 1) f))) in
      let all = one.turned in
      record {
        held_is = held_is;
        rest = rest;
        costs = costs_within spent (omega (arith, low, many)) (omega (arith, low, many));
        turned = omega (arith, turned, left, all);
        each = each;
        others = others;
      }

  -- where it stopped at a cell, that is the answer
  seeks_scanned : sight.stops ≡ true → (seat : Seat) → seat ≡ seat_of sight (i + sight.passed) → Seeks run next_len start key old new before after (Ok seat)
  seeks_scanned stopped seat is =
      let at = there.sought_is.stops stopped in
      let inside : i + sight.passed < last = let w = at.within in omega (arith, w, most) in
      let many : last - (i + sight.passed) ≡ suc (last - suc (i + sight.passed)) = omega (arith, inside) in
      let c = standing old.held.fixed.format (nth old.held.fixed.format there.bytes sight.passed) in
      let left : Answers (found_from old.held run next_len key (i + sight.passed) (suc (last - suc (i + sight.passed)))) as_seat (Ok seat) =
      stops old.held run next_len key (i + sight.passed) (last - suc (i + sight.passed)) c seat (told_there i there.shown sight.passed at.has at.spells) at.not_below (ap as_seat is ∙ at.seat (i + sight.passed)) in
      let exact : Answers (found_in old.held run next_len start key) as_seat (Ok seat) =
      answers_whole (found_in old.held run next_len start key) (found_from old.held run next_len key (i + sight.passed) (last - (i + sight.passed))) as_seat (Ok seat) rest
      (subst (λ (n : ℕ). Answers (found_from old.held run next_len key (i + sight.passed) n) as_seat (Ok seat)) (sym many) left) in
      let ticks_are : suc scanned.more ≡ sight.passed + 1 = ticks_by true stopped in
      let pos : seat.pos ≡ i + sight.passed = ap (λ (x : Seat). x.pos) is in
      let turned = scanned.others.turned_is in
      let read : scanned.mid.spent.turned ≤ mid.spent.turned + turns_at old.held run last mid i =
      read_within (block_of (span old.held) run.level run.slot i) 8 i last (lit< tt) high (read_first old s.held_is scanned.first) refl in
      record {
        exact = exact;
        told = answers_told old.held run next_len start key (Ok seat) exact;
        right = answers_right old.held run next_len start key (Ok seat) exact;
        cause = tt;
        costs = costs_turned (costs_within {more = 8} {others = 8} spent (omega (arith, inside, ticks_are)) (omega (arith, inside)))
            (sum_within new.spent.turned scanned.mid.spent.turned mid.spent.turned (turns_at old.held run last mid i) old.spent.turned (groups 8 (first_of start run.len) last) (turns_from start)
            turned read s.turned (eights_within start run.len));
        within = omega (arith, pos, inside);
        each_turn = each;
        others_stay = others;
      }
    where
      sum_within : (a b c d e f g : ℕ) → a ≡ b → b ≤ c + d → c + d ≤ e + f → f ≤ g → a ≤ e + g
      sum_within a b c d e f g h k l m = omega (arith, h, k, l, m)

-- how many cells a search passed of one that it read
alone_few : (passed : ℕ) (stops : Bool) → passed ≡ (if stops then 0 else 1) → passed ≤ 1
alone_few passed true e = omega (arith, e)
alone_few passed false e = omega (arith, e)

module _ {run : Run} {next_len start last : ℕ} {key : List ℕ} {old mid new : State} {before between after i : ℕ} {sight : Sight}
    (s : Seeking run next_len start key old mid before between (first_of start run.len) (last_of start run.len) i) (low : first_of start run.len ≤ i) (last_is : last ≡ last_of start run.len) (below : i < last)
    (seen : LooksOn mid new run i (last - i) key between after (Ok sight)) where
  high : i < last_of start run.len
  high = omega (arith, last_is, below)

  many : (most : ℕ) → most ≡ last - i → most ≡ last_of start run.len - i
  many most e = e ∙ ap (λ (n : ℕ). n - i) last_is

  -- a search that has not stopped
  pub seeking_on : sight.stops ≡ false → Seeking run next_len start key old new before after (first_of start run.len) (last_of start run.len) (i + sight.passed)
  seeking_on goes_on = elim seen [
    | inl window ↦ seeking_scanned s low high window.scanned (many window.blank.most window.most_is) goes_on
    | inr alone ↦
        let passed : 1 ≡ sight.passed = sym (alone.passed_is ∙ ap (λ (x : Bool). if x then 0 else 1) goes_on) in
        subst (λ (n : ℕ). Seeking run next_len start key old new before after (first_of start run.len) (last_of start run.len) (i + n)) passed
        (seeking_goes_on alone.cell s low high alone.read (alone.order_is ∙ ap not goes_on) alone.one_tick)
  ]

  -- one that stopped
  pub seeks_on : sight.stops ≡ true → (seat : Seat) → seat ≡ seat_of sight (i + sight.passed) → Seeks run next_len start key old new before after (Ok seat)
  seeks_on stopped seat is = elim seen [
    | inl window ↦ seeks_scanned s low high window.scanned (many window.blank.most window.most_is) stopped seat is
    | inr alone ↦
        let none : sight.passed ≡ 0 = alone.passed_is ∙ ap (λ (x : Bool). if x then 0 else 1) stopped in
        let here : i + sight.passed ≡ i = omega (arith, none) in
        seeks_found alone.cell seat s low high alone.read alone.one_tick (alone.order_is ∙ ap not stopped)
        (ap as_seat is ∙ alone.seat stopped (i + sight.passed) ∙ ap (λ (n : ℕ). seat_at key n (as_cell alone.cell)) here)
  ]

  -- and has no item
  pub misses_on : sight.stops ≡ false → sight.hit ≡ None
  misses_on goes_on = elim seen [
    | inl window ↦ window.scanned.sought_is.misses goes_on
    | inr alone ↦ alone.misses goes_on
  ]

  -- what it passed lies before the last cell that a search may read
  pub passed_within : i + sight.passed ≤ last_of start run.len
  passed_within = elim seen [
    | inl window ↦ let few = window.scanned.sought_is.few in let m = many window.blank.most window.most_is in omega (arith, few, m, high)
    | inr alone ↦ let few = alone_few sight.passed sight.stops alone.passed_is in omega (arith, few, high)
  ]

-- ---- a cell that was read alone

module _ {old new : State} {run : Run} {i from to : ℕ} {key : List ℕ} (cell : Cell) (sight : Sight) (most : ℕ) (read : Reads old new Search run.level run.slot i (Ok cell)) (tick : to ≡ from + 1) where
  -- it is not, and the search stops there
  pub stops_alone : (b : Bool) → is_lt (key_cmp (key_of cell) key) ≡ false → is_eq (key_cmp (key_of cell) key) ≡ b → sight.passed ≡ 0 → sight.stops ≡ true →
      sight.hit ≡ (if b then item_of cell else None) → sight.link ≡ link_of cell → LooksOn old new run i most key from to (Ok sight)
  stops_alone b above is_b passed stopped hit link = inr (record {
    cell = cell;
    read = read;
    one_tick = tick;
    passed_is = passed ∙ ap (λ (x : Bool). if x then 0 else 1) (sym stopped);
    order_is = above ∙ ap not (sym stopped);
    seat = λ _ pos. seat_by key pos cell sight.hit sight.link b is_b hit link;
    misses = λ h. absurd (true≢false (sym stopped ∙ h));
  })

-- ---- where it was asked of the object

module _ {old mid : State} {run : Run} {i from between n : ℕ} {key : List ℕ} {blank sight : Sight} (most : ℕ)
    (scans : Scans Sees old mid (reach_of run i) blank sight key from between (Ok n)) where
  -- of a search that ran over nothing all that follows is told from the beginning
  pub looks_after : n ≡ 0 → (new : State) (to : ℕ) (result : Result Sight ReadFault) → LooksOn mid new run i most key between to result → LooksOn old new run i most key from to result
  looks_after none new to result looks = elim scans [
    | inl still ↦
        subst (λ (x : State). LooksOn x new run i most key from to result) still.state_is
        (subst (λ (x : ℕ). LooksOn mid new run i most key x to result) still.steps_are looks)
    | inr scanned ↦ let more = scanned.ticks_are in absurd (omega (arith, none, more))
  ]

-- and it only looked
pub looked_at : {W : Type 0} {w : Ghosts W} {before now : W} {run : Run} {index most : ℕ} {key : List ℕ} {sight : Sight} {from to : ℕ} →
    w.kept now ≡ w.kept before → LooksOn (w.state before) (w.state now) run index most key from to (Ok sight) → Looked w before now
looked_at e seen = elim seen [
  | inl window ↦ record {
    cells_stay = window.scanned.held_is ∙ window.scanned.first.cells_stay;
    kept = e;
    calm = window.scanned.others.faults_are ∙ window.scanned.first.calm;
  }
  | inr alone ↦ record { cells_stay = alone.read.cells_stay; kept = e; calm = alone.read.calm }
]
