-- What holds of a device that marks its pages, behind each call.
use Rattle.std.proofs.Common.{◌≡◌, ◌≢◌, ⊎_elim, ℕ, ◌+◌, ◌-◌, ◌*◌, ◌^◌, ◌<◌, ◌≤◌, List, length, Option, Some, None, Result, refl, sym, ◌∙◌, ap, subst, arith}
use Rattle.std.specs.Prelude.{slice_index}
use Rattle.std.specs.Option.{IsSomeAnd}
use Rattle.cola_outside.specs.Told.{Both}
use Rattle.cola_device.specs.declared.counts.Counts.{Counts}
use Rattle.cola_device.specs.declared.device.Device as device
use Rattle.cola_device.specs.Bytes.{IsEmpty, HasRange, LaidOut, WroteSome, Wrote}
use Rattle.cola_device.specs.Counts.{one_more, Called}
use Rattle.cola_device.proofs.BytesLemmas.{length-splice}
use Rattle.cola_marks.specs.declared.marks.Marks as marks
use Rattle.cola_marks.specs.Pages.{page_of, IsTouched, pages_touched, marked, SameUnmarked, MarksTouched, AllMarked, MarksStay}
use Rattle.cola_marks.specs.Marked.{Marked, SameSize, new_marked, IsSound}
use Rattle.cola_marks.proofs.PageLemmas.{page_stays, touched_or}

-- of what is told at three times
pub both_on : (x y z : Option (List ℕ)) (R S T : List ℕ → List ℕ → Type 0) → Both x y R → Both y z S → ((a b c : List ℕ) → x ≡ Some a → y ≡ Some b → z ≡ Some c → R a b → S b c → T a c) → Both x z T
both_on None None None R S T first second on = tt
both_on None None (Some c) R S T first second on = second
both_on None (Some b) z R S T first second on = absurd first
both_on (Some a) None z R S T first second on = absurd first
both_on (Some a) (Some b) None R S T first second on = second
both_on (Some a) (Some b) (Some c) R S T first second on = on a b c refl refl refl first second

pub both_same : (x : Option (List ℕ)) (R : List ℕ → List ℕ → Type 0) → ((a : List ℕ) → R a a) → Both x x R
both_same None R same = tt
both_same (Some a) R same = same a

-- a mark that is 1 is set
one_is_set : (mark : ℕ) → mark ≡ 1 → mark ≢ 0
one_is_set mark is = λ zero. omega (arith, is, zero)

-- the pages of a write are marked: the others keep their bytes
pub unmarked_written : {T E : Type 0} (result : Result T E) (at : ℕ) (from : List ℕ) (before now a b c : List ℕ) → MarksTouched at (length from) before now → at + length from ≤ length b → SameUnmarked before a b → WroteSome result at from b c →
    SameUnmarked now a c
unmarked_written result at from before now a b c marks inside same wrote page there clear =
    let there_before : page < length before = omega (arith, there, marks.many) in
    let none : IsTouched at (length from) page → ⊥ = λ touched. one_is_set (slice_index now page) (marks.touched page there_before touched) clear in
    ap (λ (bytes : List ℕ). page_of bytes page) wrote.others_stay
    ∙ page_stays b wrote.left at (length from) page inside wrote.as_many none
    ∙ same page there_before (sym (marks.others page none) ∙ clear)

-- a mark stays
pub stay_touched : (at count : ℕ) (first before now : List ℕ) → MarksStay first before → MarksTouched at count before now → MarksStay first now
stay_touched at count first before now stay marks =
    record {
      many = marks.many ∙ stay.many;
      stay = λ page there was is. ⊎_elim
          (λ touched. one_is_set (slice_index now page) (marks.touched page (omega (arith, there, stay.many)) touched) is)
          (λ none. stay.stay page there was (sym (marks.others page none) ∙ is))
          (touched_or at count page);
    }

pub stay_all : (first before now : List ℕ) → MarksStay first before → AllMarked before now → MarksStay first now
stay_all first before now stay marks =
    record {
      many = marks.many ∙ stay.many;
      stay = λ page there was is. one_is_set (slice_index now page) (marks.all page (omega (arith, there, stay.many))) is;
    }

-- where every page is marked, nothing is said of any
pub unmarked_all : (before now a c : List ℕ) → AllMarked before now → SameUnmarked now a c
unmarked_all before now a c marks page there clear = absurd (one_is_set (slice_index now page) (marks.all page (omega (arith, there, marks.many))) clear)

pub size_written : {T E : Type 0} (result : Result T E) (at : ℕ) (from a b c : List ℕ) → at + length from ≤ length b → SameSize a b → WroteSome result at from b c → SameSize a c
size_written result at from a b c inside same wrote some =
    ap length wrote.others_stay ∙ length-splice b at wrote.left (omega (arith, inside, wrote.as_many)) ∙ same some

-- counts of a device with another count of writes
pub called_below : {T E : Type 0} (result : Result T E) (before now : Counts) (reads writes others more was is : ℕ) → Called before now reads writes others result → was ≤ is → is ≤ was + more →
    Called (record before { writes = was }) (record now { writes = is }) reads more others result
called_below result before now reads writes others more was is called rise few =
    record {
      faults_stay = called.faults_stay;
      cause = called.cause;
      none_hidden = called.none_hidden;
      reads_stay = called.reads_stay;
      reads_rise = called.reads_rise;
      writes_stay = rise;
      writes_rise = few;
      others_stay = called.others_stay;
      others_rise = called.others_rise;
    }

-- a write is told with its range
range_of : (x : Option (List ℕ)) (b : List ℕ) (at count : ℕ) → x ≡ Some b → HasRange x at count → at + count ≤ length b
range_of x b at count is inside = subst (λ (told : Option (List ℕ)). HasRange told at count) is inside

empty_of : (x : Option (List ℕ)) (b : List ℕ) → x ≡ Some b → IsEmpty x → length b ≡ 0
empty_of x b is none = subst (λ (told : Option (List ℕ)). IsEmpty told) is none

module _ {D M : Type 0} (d : device.Ghosts D) (m : marks.Ghosts M) where
  pub sound_new : (it : D) (marks : M) → IsSound d m (new_marked d m it marks)
  sound_new it marks =
      record {
        unmarked = both_same (d.bytes it) (SameUnmarked (m.marks marks)) (λ bytes page there clear. refl);
        stay = record { many = refl; stay = λ page there was. was };
        size = both_same (d.bytes it) SameSize (λ bytes some. refl);
        writes_stay = omega arith;
        few = λ some below. omega arith;
      }

  -- a call that changes no bytes
  pub sound_same : (it : Marked D M) (now : D) → IsSound d m it → d.bytes now ≡ d.bytes it.device → IsSound d m (record it { device = now })
  sound_same it now sound stay =
      record {
        unmarked = subst (λ (told : Option (List ℕ)). Both (d.bytes it.first) told (SameUnmarked (m.marks it.marks))) (sym stay) sound.unmarked;
        stay = sound.stay;
        size = subst (λ (told : Option (List ℕ)). Both (d.bytes it.first) told SameSize) (sym stay) sound.size;
        writes_stay = sound.writes_stay;
        few = sound.few;
      }

  pub sound_written : {T E : Type 0} (result : Result T E) (it : Marked D M) (now : D) (marks : M) (at : ℕ) (from : List ℕ) → IsSound d m it → length from ≤ 65536 → HasRange (d.bytes it.device) at (length from) → Wrote result at from (d.bytes it.device) (d.bytes now) → MarksTouched at (length from) (m.marks it.marks) (m.marks marks) →
      marked (m.marks marks) ≤ marked (m.marks it.marks) + pages_touched at (length from) → pages_touched at (length from) ≤ 17 → IsSound d m (record it { device = now; marks = marks; writes = one_more it.writes })
  sound_written result it now marks at from sound block inside wrote touched few most =
      record {
        unmarked = both_on (d.bytes it.first) (d.bytes it.device) (d.bytes now) (SameUnmarked (m.marks it.marks)) (WroteSome result at from) (SameUnmarked (m.marks marks)) sound.unmarked wrote
            (λ a b c a_is b_is c_is same some. unmarked_written result at from (m.marks it.marks) (m.marks marks) a b c touched (range_of (d.bytes it.device) b at (length from) b_is inside) same some);
        stay = stay_touched at (length from) (m.marks it.first_marks) (m.marks it.marks) (m.marks marks) sound.stay touched;
        size = both_on (d.bytes it.first) (d.bytes it.device) (d.bytes now) SameSize (WroteSome result at from) SameSize sound.size wrote
            (λ a b c a_is b_is c_is same some. size_written result at from a b c (range_of (d.bytes it.device) b at (length from) b_is inside) same some);
        writes_stay = omega (arith, sound.writes_stay);
        few = λ some below. few_more it.writes (d.counts it.first).writes (marked (m.marks it.first_marks)) (marked (m.marks it.marks)) (marked (m.marks marks)) (pages_touched at (length from)) sound.writes_stay (sound.few some) few most below;
      }
    where
      few_more : (writes first at_first before now pages : ℕ) → first ≤ writes → (writes < 2 ^ 64 - 1 → before ≤ at_first + 17 * (writes - first)) → now ≤ before + pages → pages ≤ 17 → one_more writes < 2 ^ 64 - 1 → now ≤ at_first + 17 * (one_more writes - first)
      few_more writes first at_first before now pages rise was few most below =
          let low : writes < 2 ^ 64 - 1 = omega (arith, below) in
          let is : one_more writes ≡ writes + 1 = omega (arith, below) in
          omega (arith, was low, few, most, is, rise)

  pub sound_laid : {T E : Type 0} (result : Result T E) (it : Marked D M) (now : D) (marks : M) (size : ℕ) → IsSound d m it → IsEmpty (d.bytes it.device) → LaidOut result size (d.bytes it.device) (d.bytes now) → AllMarked (m.marks it.marks) (m.marks marks) → IsSound d m (record it { device = now; marks = marks })
  sound_laid result it now marks size sound empty laid all =
      record {
        unmarked = both_on (d.bytes it.first) (d.bytes it.device) (d.bytes now) (SameUnmarked (m.marks it.marks)) _ (SameUnmarked (m.marks marks)) sound.unmarked laid
            (λ a b c a_is b_is c_is same some. unmarked_all (m.marks it.marks) (m.marks marks) a c all);
        stay = stay_all (m.marks it.first_marks) (m.marks it.marks) (m.marks marks) sound.stay all;
        size = both_on (d.bytes it.first) (d.bytes it.device) (d.bytes now) SameSize _ SameSize sound.size laid
            (λ a b c a_is b_is c_is same some more. absurd (let none = empty_of (d.bytes it.device) b b_is empty in let as_many = same more in omega (arith, none, as_many, more)));
        writes_stay = sound.writes_stay;
        few = λ some. absurd (none_given (d.bytes it.first) (d.bytes it.device) sound.size empty some);
      }
    where
      none_given : (x y : Option (List ℕ)) → Both x y SameSize → IsEmpty y → IsSomeAnd x (λ bytes. 0 < length bytes) → ⊥
      none_given None y both none some = absurd some
      none_given (Some a) None both none some = absurd both
      none_given (Some a) (Some b) both none some = let as_many = both some in omega (arith, none, as_many, some)
