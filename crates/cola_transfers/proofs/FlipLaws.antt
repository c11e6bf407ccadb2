-- The clock's next step: a level goes on with what it had left, or its window begins and the credit pays for it.
use Rattle.std.proofs.Common.{◌≡◌, inl, inr, ℕ, suc, ◌+◌, ◌-◌, ◌*◌, ◌/◌, ◌%◌, ◌^◌, ◌<◌, ◌≤◌, Bool, true, false, not, ◌&&◌, cond, leb, zero-le, List, [], ◌∷◌, length, refl, sym, ◌∙◌, ap, subst, arith}
use Rattle.std.proofs.lemmas.Bool.{cases_Bool, false≢true}
use Rattle.std.proofs.lemmas.Nat.{pow_pos, pow-add, mul-le}
use Rattle.std.proofs.Math.Nat.{mul-add, le_trans, mul_left_comm, two-pow-succ}
use Rattle.cola_clock.specs.Clock.{period, is_odd, works, is_over, flips, ends, visible_slot}
use Rattle.cola_clock.specs.Marks.{Marks, consumed, sample_end, merge_steps, marks_after, all_marks_after, AreLevelMarks, AreAllMarks}
use Rattle.cola_clock.proofs.Laws.{window-keeps_above, window-keeps_self, window-keeps_below, ends-over, works-not_over, before_else, over-next, is_odd-next_stay}
use Rattle.cola_clock.proofs.Wrap.{slot-stays}
use Rattle.cola_transfers.specs.Credit.{credit, credits, begins}
use Rattle.cola_transfers.specs.Blocks.{slot_cells, block_cells, source_left, unwritten}
use Rattle.cola_transfers.specs.Chain.{Readers, sampled_slot, sample_left, merge_left, reads_left, has_ended, shadow_left, writes_left, IsTidy, AreTidy}
use Rattle.cola_transfers.proofs.BlockLaws.{block_pos, slot_parts, source_few, unwritten_few}
use Rattle.cola_transfers.proofs.CreditLaws.{credit-next, credits-nil, credits-cons}
use Rattle.cola_transfers.proofs.WorkLaws.{three}

-- ---- the account of one level, over plain numbers: w and now say whether it works at the clock and at the next one
level_account : (span rate p x next c d : ℕ) (w now : Bool) → d + 1 ≡ c + cond (now && not w) p 0 → (w ≡ true → now ≡ true → next ≤ x) → (w ≡ false → now ≡ true → span * next ≤ rate * p) →
    span * cond now next 0 + rate * c ≤ span * cond w x 0 + rate * (d + 1)
level_account span rate p x next c d w false e on new =
    let product : rate * (d + 1) ≡ rate * c = ap (λ (k : ℕ). rate * k) (e ∙ omega arith) in
    omega arith
level_account span rate p x next c d true true e on new =
    let product : rate * (d + 1) ≡ rate * c = ap (λ (k : ℕ). rate * k) (e ∙ omega arith) in
    let fewer : span * next ≤ span * x = mul-le span next span x (omega arith) (on refl refl) in
    omega arith
level_account span rate p x next c d false true e on new =
    let product : rate * (d + 1) ≡ rate * (c + p) = ap (λ (k : ℕ). rate * k) e in
    let sum : rate * (c + p) ≡ rate * c + rate * p = mul-add rate c p in
    let paid : span * next ≤ rate * p = new refl refl in
    omega arith

-- and of the levels behind it
add_account : (span rate x next y rest c d cs ds n : ℕ) → span * next + rate * c ≤ span * x + rate * (d + 1) → span * rest + rate * cs ≤ span * y + rate * (ds + n) →
    span * (next + rest) + rate * (c + cs) ≤ span * (x + y) + rate * ((d + ds) + suc n)
add_account span rate x next y rest c d cs ds n h k =
    let one : span * (next + rest) ≡ span * next + span * rest = mul-add span next rest in
    let two : rate * (c + cs) ≡ rate * c + rate * cs = mul-add rate c cs in
    let three_ : span * (x + y) ≡ span * x + span * y = mul-add span x y in
    let four : rate * ((d + ds) + suc n) ≡ rate * (d + 1) + rate * (ds + n) = ap (λ (k : ℕ). rate * k) (omega arith) ∙ mul-add rate (d + 1) (ds + n) in
    omega arith

-- ---- a level that works at the next clock

-- in the same window nothing flips that it reads
goes_on : (t i : ℕ) → works t (suc i) ≡ true → works (suc t) (suc i) ≡ true → ends t (suc i) ≡ false
goes_on t i work next =
    elim (cases_Bool (ends t (suc i))) [
      | inl end ↦ absurd (false≢true (sym (works-not_over (suc t) i next) ∙ ends-over t i end))
      | inr open_yet ↦ open_yet
    ]

marks-stay : (t j : ℕ) (m : Marks) → flips t j ≡ false → ends t j ≡ false → marks_after t j m ≡ m
marks-stay t j m flip end = rw (flip, end) refl

-- a level's marks after a mutation, whether it flips, leaves its window or stays
after_visible : (t j : ℕ) (m : Marks) → flips t j ≡ false → (marks_after t j m).visible ≡ m.visible
after_visible t j m flip = rw flip (elim (ends t j) as (λ e. (cond e (record { visible = m.visible; shadow = m.shadow; own = 0; incoming = 0; sampled = 0 }) m).visible ≡ m.visible) [ true ↦ refl | false ↦ refl ])

after_shadow : (t j : ℕ) (m : Marks) → flips t j ≡ false → (marks_after t j m).shadow ≡ m.shadow
after_shadow t j m flip = rw flip (elim (ends t j) as (λ e. (cond e (record { visible = m.visible; shadow = m.shadow; own = 0; incoming = 0; sampled = 0 }) m).shadow ≡ m.shadow) [ true ↦ refl | false ↦ refl ])

after_end : (odd : Bool) (t j : ℕ) (below : List Marks) → flips t j ≡ false → sample_end odd (all_marks_after t j below) ≡ sample_end odd below
after_end odd t j [] flip = refl
after_end true t j (m ∷ below) flip = ap (λ (n : ℕ). n / 8) (after_shadow t j m flip)
after_end false t j (m ∷ below) flip = ap (λ (n : ℕ). n / 8) (after_visible t j m flip)

pub source_same : (d j s u e f cursor : ℕ) (readers : Readers) → s ≡ u → e ≡ f →
    source_left (slot_cells j) (block_cells d) (2 ^ d) (readers.sample j s) e cursor ≡ source_left (slot_cells j) (block_cells d) (2 ^ d) (readers.sample j u) f cursor
source_same d j s u e f cursor readers p q = rw (p, q) refl

pub slot_sampled : (t u j : ℕ) → is_odd (period u j) ≡ is_odd (period t j) → visible_slot u (suc j) ≡ visible_slot t (suc j) → sampled_slot u j ≡ sampled_slot t j
slot_sampled t u j odd slot = rw (odd, slot) refl

pub end_same : (t u j : ℕ) (below under : List Marks) → is_odd (period u j) ≡ is_odd (period t j) → ((odd : Bool) → sample_end odd under ≡ sample_end odd below) →
    sample_end (is_odd (period u j)) under ≡ sample_end (is_odd (period t j)) below
end_same t u j below under odd ends_same = rw odd (ends_same (is_odd (period t j)))

-- at two clocks that a level's merge cannot tell apart it has as much left
pub merge_same : (d t u i above : ℕ) (readers : Readers) (m : Marks) (below under : List Marks) →
    visible_slot u (suc i) ≡ visible_slot t (suc i) → visible_slot u i ≡ visible_slot t i →
    sample_left d readers u (suc i) under m.sampled ≡ sample_left d readers t (suc i) below m.sampled →
    merge_left d readers u i above m under ≡ merge_left d readers t i above m below
merge_same d t u i above readers m below under own incoming sample =
    three _ _ _ _ _ _
    (ap (λ (s : ℕ). source_left (slot_cells (suc i)) (block_cells d) (block_cells d) (readers.own (suc i) s) m.visible m.own) own)
    (ap (λ (s : ℕ). source_left (slot_cells i) (block_cells d) (block_cells d) (readers.incoming i s) above m.incoming) incoming)
    sample

-- the sample of the levels behind, in one window
window_sample : (d t i : ℕ) (readers : Readers) (below : List Marks) (cursor : ℕ) → works t (suc i) ≡ true →
    sample_left d readers (suc t) (suc i) (all_marks_after t (suc (suc i)) below) cursor ≡ sample_left d readers t (suc i) below cursor
window_sample d t i readers [] cursor work = refl
window_sample d t i readers (m ∷ below) cursor work =
    let odd : is_odd (period (suc t) (suc i)) ≡ is_odd (period t (suc i)) = is_odd-next_stay t (suc i) (window-keeps_self t i work) in
    source_same d (suc (suc i)) _ _ _ _ cursor readers
    (slot_sampled t (suc t) (suc i) odd (slot-stays t (suc (suc i)) (window-keeps_below t i work)))
    (end_same t (suc t) (suc i) (m ∷ below) (all_marks_after t (suc (suc i)) (m ∷ below)) odd (λ b. after_end b t (suc (suc i)) (m ∷ below) (window-keeps_below t i work)))

window_left : (d t i above above_next : ℕ) (readers : Readers) (m : Marks) (below : List Marks) → (flips t i ≡ false → above_next ≡ above) → works t (suc i) ≡ true → works (suc t) (suc i) ≡ true →
    merge_left d readers (suc t) i above_next (marks_after t (suc i) m) (all_marks_after t (suc (suc i)) below) ≡ merge_left d readers t i above m below
window_left d t i above above_next readers m below keeps work next =
    let open_yet : ends t (suc i) ≡ false = goes_on t i work next in
    let self : flips t (suc i) ≡ false = window-keeps_self t i work in
    let over : flips t i ≡ false = window-keeps_above t i work open_yet in
    ap (λ (x : Marks). merge_left d readers (suc t) i above_next x (all_marks_after t (suc (suc i)) below)) (marks-stay t (suc i) m self open_yet)
    ∙ ap (λ (x : ℕ). merge_left d readers (suc t) i x m (all_marks_after t (suc (suc i)) below)) (keeps over)
    ∙ merge_same d t (suc t) i above readers m below (all_marks_after t (suc (suc i)) below) (slot-stays t (suc i) self) (slot-stays t i over) (window_sample d t i readers below m.sampled work)

window_ended : (t i above above_next : ℕ) (m : Marks) (below : List Marks) → (flips t i ≡ false → above_next ≡ above) → works t (suc i) ≡ true → works (suc t) (suc i) ≡ true →
    has_ended (suc t) i above_next (marks_after t (suc i) m) (all_marks_after t (suc (suc i)) below) ≡ has_ended t i above m below
window_ended t i above above_next m below keeps work next =
    let open_yet : ends t (suc i) ≡ false = goes_on t i work next in
    let self : flips t (suc i) ≡ false = window-keeps_self t i work in
    let over : flips t i ≡ false = window-keeps_above t i work open_yet in
    let odd : is_odd (period (suc t) (suc i)) ≡ is_odd (period t (suc i)) = is_odd-next_stay t (suc i) self in
    ap (λ (x : Marks). has_ended (suc t) i above_next x (all_marks_after t (suc (suc i)) below)) (marks-stay t (suc i) m self open_yet)
    ∙ ap (λ (x : ℕ). has_ended (suc t) i x m (all_marks_after t (suc (suc i)) below)) (keeps over)
    ∙ ap (λ (x : ℕ). leb (m.visible + above + x) (consumed m)) (end_same t (suc t) (suc i) below (all_marks_after t (suc (suc i)) below) odd (λ b. after_end b t (suc (suc i)) below (window-keeps_below t i work)))

-- ---- a window that begins

-- a level that rests and works next: its window was still to come, or it flips
rests_idle : (t i above : ℕ) (m : Marks) (below : List Marks) → works t (suc i) ≡ false → works (suc t) (suc i) ≡ true → flips t (suc i) ≡ false →
    AreLevelMarks merge_steps t (suc i) above m below → m.shadow ≡ 0
rests_idle t i above m below rest next stay marks =
    elim (cases_Bool (is_over t (suc i))) [
      | inl over ↦ absurd (false≢true (sym (works-not_over (suc t) i next) ∙ over-next t i over stay))
      | inr open_yet ↦ (marks.before (before_else t i rest open_yet)).empty
    ]

-- the visible run of a level fits its slot after a mutation too
after_fits : (t i above : ℕ) (m : Marks) (below : List Marks) → AreLevelMarks merge_steps t (suc i) above m below → (marks_after t (suc i) m).visible ≤ slot_cells (suc i)
after_fits t i above m below marks =
    elim (flips t (suc i)) as (λ f. (cond f (record { visible = m.shadow; shadow = 0; own = m.own; incoming = m.incoming; sampled = m.sampled })
    (cond (ends t (suc i)) (record { visible = m.visible; shadow = m.shadow; own = 0; incoming = 0; sampled = 0 }) m)).visible ≤ slot_cells (suc i)) [
      | true ↦ marks.shadow_fits
      | false ↦ elim (ends t (suc i)) as (λ e. (cond e (record { visible = m.visible; shadow = m.shadow; own = 0; incoming = 0; sampled = 0 }) m).visible ≤ slot_cells (suc i)) [ true ↦ marks.visible_fits | false ↦ marks.visible_fits ]
    ]

after_shadow_fits : (t i above : ℕ) (m : Marks) (below : List Marks) → AreLevelMarks merge_steps t (suc i) above m below → (marks_after t (suc i) m).shadow ≤ slot_cells (suc i)
after_shadow_fits t i above m below marks =
    elim (flips t (suc i)) as (λ f. (cond f (record { visible = m.shadow; shadow = 0; own = m.own; incoming = m.incoming; sampled = m.sampled })
    (cond (ends t (suc i)) (record { visible = m.visible; shadow = m.shadow; own = 0; incoming = 0; sampled = 0 }) m)).shadow ≤ slot_cells (suc i)) [
      | true ↦ zero-le
      | false ↦ elim (ends t (suc i)) as (λ e. (cond e (record { visible = m.visible; shadow = m.shadow; own = 0; incoming = 0; sampled = 0 }) m).shadow ≤ slot_cells (suc i)) [ true ↦ marks.shadow_fits | false ↦ marks.shadow_fits ]
    ]

-- every eighth cell of a run that fits its slot
eighth : (n slot : ℕ) → n ≤ 8 * slot → n / 8 ≤ slot
eighth n slot h = omega arith

slot_doubles : (j : ℕ) → slot_cells (suc j) ≡ slot_cells j + slot_cells j
slot_doubles j =
    let place : suc j + 2 ≡ suc (j + 2) = omega arith in
    ap (λ (k : ℕ). 2 ^ k) place ∙ two-pow-succ (j + 2)

pub slot_power : (j : ℕ) → slot_cells j ≡ 4 * 2 ^ j
slot_power j = pow-add 2 j 2 ∙ omega arith

-- a sample has one key for each eight cells of the slot
end_few : (odd : Bool) (j : ℕ) (m : Marks) (below : List Marks) → m.visible ≤ slot_cells (suc j) → m.shadow ≤ slot_cells (suc j) → sample_end odd (m ∷ below) ≤ 2 ^ j
end_few odd j m below visible shadow =
    let size : slot_cells (suc j) ≡ 4 * 2 ^ suc j = slot_power (suc j) in
    let twice : 2 ^ suc j ≡ 2 ^ j + 2 ^ j = two-pow-succ j in
    elim odd as (λ b. sample_end b (m ∷ below) ≤ 2 ^ j) [ true ↦ eighth m.shadow (2 ^ j) (omega arith) | false ↦ eighth m.visible (2 ^ j) (omega arith) ]

-- the cells of the blocks of a run that fits its slot
run_few : (d j end cursor : ℕ) (is_held : ℕ → Bool) → end ≤ slot_cells j → block_cells d * source_left (slot_cells j) (block_cells d) (block_cells d) is_held end cursor ≤ slot_cells j
run_few d j end cursor is_held fits =
    source_few (slot_cells j) (block_cells d) (block_cells d) (2 ^ (j + 2 - (d + 3))) end cursor is_held (block_pos d)
    (λ room. (slot_parts j d room, subst (λ (x : ℕ). end ≤ x) (slot_parts j d room) fits))

eight_times : (m x y : ℕ) → 8 * y ≡ m * (8 * x) → y ≡ m * x
eight_times m x y e = let turned : m * (8 * x) ≡ 8 * (m * x) = mul_left_comm m 8 x in omega arith

keys_few : (d j end cursor : ℕ) (is_held : ℕ → Bool) → end ≤ 2 ^ j → block_cells d * source_left (slot_cells (suc j)) (block_cells d) (2 ^ d) is_held end cursor ≤ slot_cells (suc j)
keys_few d j end cursor is_held fits =
    source_few (slot_cells (suc j)) (block_cells d) (2 ^ d) (2 ^ (suc j + 2 - (d + 3))) end cursor is_held (pow_pos d)
    (λ room.
    let size : slot_cells (suc j) ≡ 4 * 2 ^ suc j = slot_power (suc j) in
    let twice : 2 ^ suc j ≡ 2 ^ j + 2 ^ j = two-pow-succ j in
    let eight : 8 * 2 ^ j ≡ slot_cells (suc j) = omega arith in
    let parts : 2 ^ j ≡ 2 ^ (suc j + 2 - (d + 3)) * 2 ^ d = eight_times _ (2 ^ d) (2 ^ j) (eight ∙ slot_parts (suc j) d room) in
    (slot_parts (suc j) d room, subst (λ (x : ℕ). end ≤ x) parts fits))

-- runs that fit their slots, of the first of these levels
abbrev pub IsFirstFitting : ℕ → List Marks → Type 0
IsFirstFitting j [] = Unit {0}
IsFirstFitting j (m ∷ below) = (m.visible ≤ slot_cells j) × (m.shadow ≤ slot_cells j)

-- a level samples at most one key for each mutation of its period
pub first_end : (odd : Bool) (j : ℕ) (below : List Marks) → IsFirstFitting (suc j) below → sample_end odd below ≤ 2 ^ j
first_end odd j [] fits = omega arith
first_end odd j (m ∷ below) fits = end_few odd j m below fits.0 fits.1

-- the cells of the blocks of a sample
pub sample_few : (d t j cursor : ℕ) (readers : Readers) (below : List Marks) → IsFirstFitting (suc j) below → block_cells d * sample_left d readers t j below cursor ≤ slot_cells (suc j)
sample_few d t j cursor readers [] fits = omega arith
sample_few d t j cursor readers (m ∷ below) fits =
    keys_few d j (sample_end (is_odd (period t j)) (m ∷ below)) cursor (readers.sample (suc j) (sampled_slot t j)) (end_few (is_odd (period t j)) j m below fits.0 fits.1)

after_first : (t i ahead : ℕ) (below : List Marks) → AreAllMarks merge_steps t (suc i) ahead below → IsFirstFitting (suc i) (all_marks_after t (suc i) below)
after_first t i ahead [] marks = tt
after_first t i ahead (m ∷ below) marks = (after_fits t i ahead m below marks.0, after_shadow_fits t i ahead m below marks.0)

pub all_first : (steps t i ahead : ℕ) (below : List Marks) → AreAllMarks steps t (suc i) ahead below → IsFirstFitting (suc i) below
all_first steps t i ahead [] marks = tt
all_first steps t i ahead (m ∷ below) marks = (marks.0.visible_fits, marks.0.shadow_fits)

three_times : (span a b c x y z : ℕ) → span * a ≤ x → span * b ≤ y → span * c ≤ z → span * (a + b + c) ≤ x + y + z
three_times span a b c x y z p q r =
    let one : span * (a + b + c) ≡ span * (a + b) + span * c = mul-add span (a + b) c in
    let two : span * (a + b) ≡ span * a + span * b = mul-add span a b in
    omega arith

fourteen : (i : ℕ) → slot_cells (suc i) + slot_cells i + slot_cells (suc (suc i)) ≤ 14 * 2 ^ suc i
fourteen i =
    let one : slot_cells i ≡ 4 * 2 ^ i = slot_power i in
    let two : slot_cells (suc i) ≡ slot_cells i + slot_cells i = slot_doubles i in
    let four : slot_cells (suc (suc i)) ≡ slot_cells (suc i) + slot_cells (suc i) = slot_doubles (suc i) in
    let twice : 2 ^ suc i ≡ 2 ^ i + 2 ^ i = two-pow-succ i in
    omega arith

pub le_of : {a b : ℕ} → a ≡ b → a ≤ b
le_of e = omega arith

next_credit : (t i : ℕ) → credit (suc t) (suc i) + 1 ≡ credit t (suc i) + cond (works (suc t) (suc i) && not (works t (suc i))) (2 ^ suc i) 0
unfolding begins
next_credit t i = credit-next t i

none_whole : (d : ℕ) → 0 % block_cells d ≡ 0
none_whole d = let positive : 0 < block_cells d = block_pos d in omega arith

-- in one window a level may still write what it might
window_shadow : (d t i above above_next : ℕ) (m : Marks) (below : List Marks) → (flips t i ≡ false → above_next ≡ above) → works t (suc i) ≡ true → works (suc t) (suc i) ≡ true →
    shadow_left d (suc t) i above_next (marks_after t (suc i) m) (all_marks_after t (suc (suc i)) below) ≡ shadow_left d t i above m below
window_shadow d t i above above_next m below keeps work next =
    ap (λ (x : Bool). unwritten (slot_cells (suc i)) (block_cells d) (marks_after t (suc i) m).shadow x) (window_ended t i above above_next m below keeps work next)
    ∙ ap (λ (x : ℕ). unwritten (slot_cells (suc i)) (block_cells d) x (has_ended t i above m below)) (after_shadow t (suc i) m (window-keeps_self t i work))

-- a merge has at most 14 cells left for each mutation of its level's period, wherever its cursors stand
pub merge_few : (d u i above : ℕ) (readers : Readers) (m : Marks) (below : List Marks) → m.visible ≤ slot_cells (suc i) → above ≤ slot_cells i → IsFirstFitting (suc (suc i)) below →
    block_cells d * merge_left d readers u i above m below ≤ 14 * 2 ^ suc i
merge_few d u i above readers m below own incoming sampled =
    le_trans (three_times (block_cells d) _ _ _ (slot_cells (suc i)) (slot_cells i) (slot_cells (suc (suc i)))
    (run_few d (suc i) m.visible m.own (readers.own (suc i) (visible_slot u (suc i))) own)
    (run_few d i above m.incoming (readers.incoming i (visible_slot u i)) incoming)
    (sample_few d u (suc i) m.sampled readers below sampled))
    (fourteen i)

-- and at most 4 to write
pub shadow_few : (d u i above : ℕ) (m : Marks) (below : List Marks) → block_cells d * shadow_left d u i above m below ≤ 4 * 2 ^ suc i
shadow_few d u i above m below =
    le_trans (unwritten_few (slot_cells (suc i)) (block_cells d) m.shadow (has_ended u i above m below)) (le_of (slot_power (suc i)))

-- what the levels have still to read at the next clock
pub flip-reads : (d t i above above_next : ℕ) (readers : Readers) (levels : List Marks) → (flips t i ≡ false → above_next ≡ above) → above_next ≤ slot_cells i → AreAllMarks merge_steps t (suc i) above levels →
    block_cells d * reads_left d readers (suc t) i above_next (all_marks_after t (suc i) levels) + 14 * credits t i (length levels)
    ≤ block_cells d * reads_left d readers t i above levels + 14 * (credits (suc t) i (length levels) + length levels)
flip-reads d t i above above_next readers [] keeps fits marks = rw (credits-nil t i) (omega arith)
flip-reads d t i above above_next readers (m ∷ below) keeps fits marks =
    rw (credits-cons t i (length below), credits-cons (suc t) i (length below))
    (add_account (block_cells d) 14 _ _ _ _ (credit t (suc i)) (credit (suc t) (suc i)) (credits t (suc i) (length below)) (credits (suc t) (suc i) (length below)) (length below)
    (level_account (block_cells d) 14 (2 ^ suc i) _ _ (credit t (suc i)) (credit (suc t) (suc i)) (works t (suc i)) (works (suc t) (suc i)) (next_credit t i)
    (λ work next. le_of (window_left d t i above above_next readers m below keeps work next))
    (λ rest next. merge_few d (suc t) i above_next readers (marks_after t (suc i) m) (all_marks_after t (suc (suc i)) below) (after_fits t i above m below marks.0) fits (after_first t (suc i) m.visible below marks.1)))
    (flip-reads d t (suc i) m.visible (marks_after t (suc i) m).visible readers below (after_visible t (suc i) m) (after_fits t i above m below marks.0) marks.1))

-- and to write
pub flip-writes : (d t i above above_next : ℕ) (levels : List Marks) → (flips t i ≡ false → above_next ≡ above) → AreAllMarks merge_steps t (suc i) above levels →
    block_cells d * writes_left d (suc t) i above_next (all_marks_after t (suc i) levels) + 4 * credits t i (length levels)
    ≤ block_cells d * writes_left d t i above levels + 4 * (credits (suc t) i (length levels) + length levels)
flip-writes d t i above above_next [] keeps marks = rw (credits-nil t i) (omega arith)
flip-writes d t i above above_next (m ∷ below) keeps marks =
    rw (credits-cons t i (length below), credits-cons (suc t) i (length below))
    (add_account (block_cells d) 4 _ _ _ _ (credit t (suc i)) (credit (suc t) (suc i)) (credits t (suc i) (length below)) (credits (suc t) (suc i) (length below)) (length below)
    (level_account (block_cells d) 4 (2 ^ suc i) _ _ (credit t (suc i)) (credit (suc t) (suc i)) (works t (suc i)) (works (suc t) (suc i)) (next_credit t i)
    (λ work next. le_of (window_shadow d t i above above_next m below keeps work next))
    (λ rest next. shadow_few d (suc t) i above_next (marks_after t (suc i) m) (all_marks_after t (suc (suc i)) below)))
    (flip-writes d t (suc i) m.visible (marks_after t (suc i) m).visible below (after_visible t (suc i) m) marks.1))

-- and the shadows stay tidy
tidy_next : (d t i above above_next : ℕ) (old new : ℕ → Bool) (m : Marks) (below : List Marks) → (flips t i ≡ false → above_next ≡ above) →
    AreLevelMarks merge_steps t (suc i) above m below → (flips t (suc i) ≡ true → new (suc i) ≡ true) → (flips t (suc i) ≡ false → new (suc i) ≡ old (suc i)) →
    IsTidy d old t i above m below → IsTidy d new (suc t) i above_next (marks_after t (suc i) m) (all_marks_after t (suc (suc i)) below)
tidy_next d t i above above_next old new m below keeps marks flipped others tidy =
    elim (cases_Bool (flips t (suc i))) [
      | inl flip ↦ record { whole = λ none. flipped flip; ended = λ work over. flipped flip }
      | inr stay ↦
          let same : new (suc i) ≡ old (suc i) = others stay in
          record {
            whole = λ none. same ∙ tidy.whole (ap (λ (x : ℕ). x % block_cells d) (sym (after_shadow t (suc i) m stay)) ∙ none);
            ended = λ next over. same ∙ elim (cases_Bool (works t (suc i))) [
              | inl work ↦ tidy.ended work (sym (window_ended t i above above_next m below keeps work next) ∙ over)
              | inr rest ↦ tidy.whole (ap (λ (x : ℕ). x % block_cells d) (rests_idle t i above m below rest next stay marks) ∙ none_whole d)
            ];
          }
    ]

pub flip-tidy : (d t i above above_next : ℕ) (old new : ℕ → Bool) (levels : List Marks) → (flips t i ≡ false → above_next ≡ above) → AreAllMarks merge_steps t (suc i) above levels →
    ((l : ℕ) → l ≤ i + length levels → flips t l ≡ true → new l ≡ true) → ((l : ℕ) → l ≤ i + length levels → flips t l ≡ false → new l ≡ old l) →
    AreTidy d old t i above levels → AreTidy d new (suc t) i above_next (all_marks_after t (suc i) levels)
flip-tidy d t i above above_next old new [] keeps marks flipped others tidy = tt
flip-tidy d t i above above_next old new (m ∷ below) keeps marks flipped others tidy = (
  tidy_next d t i above above_next old new m below keeps marks.0 (flipped (suc i) (omega arith)) (others (suc i) (omega arith)) tidy.0,
  flip-tidy d t (suc i) m.visible (marks_after t (suc i) m).visible old new below (after_visible t (suc i) m) marks.1 (λ l in_store. flipped l (omega arith)) (λ l in_store. others l (omega arith)) tidy.1,
)
