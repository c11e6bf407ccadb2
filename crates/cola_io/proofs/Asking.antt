-- The reads that a call of `next_line` makes while it goes on, and in the end.
use Rattle.std.proofs.Common.{◌≡◌, ℕ, ◌<◌, ◌||◌, Bool, true, false, nat_eq, min, List, [], ◌∷◌, ◌++◌, length, Option, Some, None, refl, ap, sym, ◌∙◌, arith}
use Rattle.std.proofs.lemmas.Bool.{false≢true}
use Rattle.cola_io.specs.Reading.{Reading}
use Rattle.cola_io.specs.Buffered.{HasNoFeed}
use Rattle.cola_io.specs.Finished.{Finished, LastFinished}
use Rattle.cola_io.specs.Reads.{Read, bytes_read, GaveSome, AreDue, was_refused, met_end}
use Rattle.cola_io.specs.NextLine.{is_settled}
use Rattle.cola_io.specs.Calling.{Asks, is_fault}
use Rattle.cola_io.specs.declared.next.Next.{Next}
use Rattle.cola_io.specs.declared.next.Next.TheVariants.{Line, TooLong, End, Fault, Budget}
use Rattle.cola_io.proofs.Going.{Gathered, not_settled}

-- the reads so far
pub record Asking (old : Reading) (reads : List Read) (ended : Bool) : Type 0 where
  pub none : is_settled old ≡ true → reads ≡ []
  pub due : AreDue (λ bytes. HasNoFeed (old.pending ++ bytes)) old.allowed reads
  pub ended_is : ended ≡ (old.ended || met_end reads)
  pub unrefused : was_refused reads ≡ false
  pub gave_some : ended ≡ false → GaveSome reads

or_false : (b : Bool) → b ≡ (b || false)
or_false true = refl
or_false false = refl

-- a call begins with none
pub asking_first : (old : Reading) (ended : Bool) → ended ≡ old.ended → Asking old [] ended
asking_first old ended same = record { none = λ _. refl; due = tt; ended_is = same ∙ or_false old.ended; unrefused = refl; gave_some = λ _. tt }

-- where the call goes on, no end was seen before it
was_going : (old : Reading) (reads : List Read) → Asking old reads false → old.ended ≡ false
was_going old reads so_far = left_false old.ended (met_end reads) (sym so_far.ended_is)
  where
    left_false : (a b : Bool) → (a || b) ≡ false → a ≡ false
    left_false true b e = e
    left_false false b e = refl

-- the next read is due
due_next : (old : Reading) (reads : List Read) (begun : List ℕ) (allowed : ℕ) (read : Read) → Asking old reads false → Gathered old (bytes_read reads) begun false allowed → 0 < allowed → read.asked ≡ min 512 allowed
    → AreDue (λ bytes. HasNoFeed (old.pending ++ bytes)) old.allowed (read ∷ reads)
due_next old reads begun allowed read so_far gathered some asked = (
  record {
    gave_some = so_far.gave_some refl;
    wanted = gathered.no_feed;
    allowed = omega (arith, some, gathered.counted);
    asked = asked ∙ ap (min 512) (omega (arith, gathered.counted));
  },
  so_far.due,
)

-- a read gave some bytes, or met the end
pub asking_read : (old : Reading) (reads : List Read) (begun more : List ℕ) (allowed asked count : ℕ) → Asking old reads false → Gathered old (bytes_read reads) begun false allowed → 0 < allowed → asked ≡ min 512 allowed → length more ≡ count
    → Asking old ((record { asked = asked; gave = Some more }) ∷ reads) (nat_eq count 0)
asking_read old reads begun more allowed asked count so_far gathered some is amount = record {
  none = λ e. absurd (not_settled old (bytes_read reads) begun false allowed gathered refl some e);
  due = due_next old reads begun allowed _ so_far gathered some is;
  ended_is = ap (λ n. nat_eq n 0) (sym amount) ∙ ap (λ b. b || nat_eq (length more) 0) (sym (was_going old reads so_far));
  unrefused = refl;
  gave_some = λ e. (some_bytes more count amount e, so_far.gave_some refl);
}
  where
    some_bytes : (more : List ℕ) (count : ℕ) → length more ≡ count → nat_eq count 0 ≡ false → 0 < length more
    some_bytes [] count e h = absurd (false≢true (sym h ∙ ap (λ n. nat_eq n 0) (sym e)))
    some_bytes (x ∷ more) count e h = omega arith

-- the call ends with an answer that is no fault
pub asks_done : (old : Reading) (reads : List Read) (ended : Bool) (answer : Next) (new : Reading) → Asking old reads ended → new.ended ≡ ended → is_fault answer ≡ false → Asks old reads answer new
asks_done old reads ended answer new so_far same no_fault = record { none = so_far.none; due = so_far.due; ended = same ∙ so_far.ended_is; refused = so_far.unrefused ∙ sym no_fault }

-- the read was refused
pub asks_refused : (old : Reading) (reads : List Read) (begun : List ℕ) (allowed asked : ℕ) (new : Reading) → Asking old reads false → Gathered old (bytes_read reads) begun false allowed → 0 < allowed → asked ≡ min 512 allowed → new.ended ≡ false
    → Asks old ((record { asked = asked; gave = None }) ∷ reads) Fault new
asks_refused old reads begun allowed asked new so_far gathered some is going = record {
  none = λ e. absurd (not_settled old (bytes_read reads) begun false allowed gathered refl some e);
  due = due_next old reads begun allowed _ so_far gathered some is;
  ended = going ∙ ap (λ b. b || false) (sym (was_going old reads so_far));
  refused = refl;
}

-- a line, or the end, is no fault
pub finished_no_fault : (raw : List ℕ) (answer : Next) (line : Option (List ℕ)) → Finished raw answer line → is_fault answer ≡ false
finished_no_fault raw Line line done = refl
finished_no_fault raw TooLong line done = refl
finished_no_fault raw End line done = absurd done
finished_no_fault raw Fault line done = absurd done
finished_no_fault raw Budget line done = absurd done

pub last_no_fault : (begun : List ℕ) (answer : Next) (line : Option (List ℕ)) → LastFinished begun answer line → is_fault answer ≡ false
last_no_fault [] answer line done = ap is_fault done.0
last_no_fault (byte ∷ begun) answer line done = finished_no_fault (byte ∷ begun) answer line done
