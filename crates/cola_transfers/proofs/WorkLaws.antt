-- The work of the levels adds up: what a chain has read and what it has still to read come to no more than before.
use Rattle.std.proofs.Common.{◌≡◌, inl, inr, ℕ, suc, ◌+◌, ◌/◌, ◌<◌, ◌≤◌, Bool, true, false, cond, List, [], ◌∷◌, refl, sym, ◌∙◌, ap, subst, arith}
use Rattle.std.proofs.lemmas.Bool.{cases_Bool}
use Rattle.cola_clock.specs.Clock.{works, visible_slot}
use Rattle.cola_clock.specs.Marks.{Marks, sample_end}
use Rattle.cola_clock.proofs.Laws.{adjacent-rest}
use Rattle.cola_transfers.specs.Blocks.{source_left}
use Rattle.cola_transfers.specs.Chain.{Readers, sampled_slot, Transfers, sample_left, merge_left, reads_left, StaysBeside, IsLevelWorked, IsLevelAtRest, IsLevelsTurn, AreLevelsWorked}

-- two readers' blocks agree on what level i + 1 reads
pub record AgreeAt (i : ℕ) (a b : Readers) : Type 0 where
  pub own : (s n : ℕ) → a.own (suc i) s n ≡ b.own (suc i) s n
  pub incoming : (s n : ℕ) → a.incoming i s n ≡ b.incoming i s n
  pub sample : (s n : ℕ) → a.sample (suc (suc i)) s n ≡ b.sample (suc (suc i)) s n

-- the turn of a level by whether it works
pub turn_of : (d t i above : ℕ) (m n : Marks) (below : List Marks) (old new : Transfers) (b : Bool) → works t (suc i) ≡ b →
    IsLevelsTurn d t i above m n below old new (works t (suc i)) → IsLevelsTurn d t i above m n below old new b
turn_of d t i above m n below old new b e h = subst (λ (x : Bool). IsLevelsTurn d t i above m n below old new x) e h

-- blocks left of a source depend on whether its reader holds one block
pub same_source : (slot span size end cursor : ℕ) (f g : ℕ → Bool) → ((n : ℕ) → f n ≡ g n) → source_left slot span size f end cursor ≡ source_left slot span size g end cursor
same_source slot span size end cursor f g h = rw (h (cursor / size)) refl

pub same_sample : (d t i : ℕ) (a b : Readers) (below : List Marks) (cursor : ℕ) → AgreeAt i a b → sample_left d a t (suc i) below cursor ≡ sample_left d b t (suc i) below cursor
same_sample d t i a b [] cursor h = refl
same_sample d t i a b (m ∷ below) cursor h = same_source _ _ _ _ cursor _ _ (λ n. h.sample (sampled_slot t (suc i)) n)

pub three : (a b c x y z : ℕ) → a ≡ x → b ≡ y → c ≡ z → a + b + c ≡ x + y + z
three a b c x y z p q r = cc

pub same_merge : (d t i above : ℕ) (a b : Readers) (m : Marks) (below : List Marks) → AgreeAt i a b → merge_left d a t i above m below ≡ merge_left d b t i above m below
same_merge d t i above a b m below h =
    three _ _ _ _ _ _
    (same_source _ _ _ _ m.own _ _ (λ n. h.own (visible_slot t (suc i)) n))
    (same_source _ _ _ _ m.incoming _ _ (λ n. h.incoming (visible_slot t i) n))
    (same_sample d t i a b below m.sampled h)

-- two readers' blocks agree on all that the levels from level i + 1 on read
pub record AgreeFrom (i : ℕ) (a b : Readers) : Type 0 where
  pub own : (l s n : ℕ) → suc i ≤ l → a.own l s n ≡ b.own l s n
  pub incoming : (l s n : ℕ) → i ≤ l → a.incoming l s n ≡ b.incoming l s n
  pub sample : (l s n : ℕ) → suc (suc i) ≤ l → a.sample l s n ≡ b.sample l s n

agree-head : (i : ℕ) (a b : Readers) → AgreeFrom i a b → AgreeAt i a b
agree-head i a b h = record {
  own = λ s n. h.own (suc i) s n (omega arith);
  incoming = λ s n. h.incoming i s n (omega arith);
  sample = λ s n. h.sample (suc (suc i)) s n (omega arith);
}

agree-rest : (i : ℕ) (a b : Readers) → AgreeFrom i a b → AgreeFrom (suc i) a b
agree-rest i a b h = record {
  own = λ l s n from. h.own l s n (omega arith);
  incoming = λ l s n from. h.incoming l s n (omega arith);
  sample = λ l s n from. h.sample l s n (omega arith);
}

pub sum_ap : (w : Bool) (x y p q : ℕ) → x ≡ y → p ≡ q → cond w x 0 + p ≡ cond w y 0 + q
sum_ap w x y p q e f = rw (e, f) refl

pub same_reads : (d t i above : ℕ) (a b : Readers) (levels : List Marks) → AgreeFrom i a b → reads_left d a t i above levels ≡ reads_left d b t i above levels
same_reads d t i above a b [] h = refl
same_reads d t i above a b (m ∷ below) h =
    sum_ap (works t (suc i)) _ _ _ _ (same_merge d t i above a b m below (agree-head i a b h)) (same_reads d t (suc i) m.visible a b below (agree-rest i a b h))

-- the levels behind level i + 1 leave what the levels before them read
pub record LeavesBefore (i : ℕ) (old new : Transfers) : Type 0 where
  pub own : (l s n : ℕ) → l < suc i → new.readers.own l s n ≡ old.readers.own l s n
  pub incoming : (l s n : ℕ) → l < i → new.readers.incoming l s n ≡ old.readers.incoming l s n
  pub sample : (l s n : ℕ) → l < suc i → new.readers.sample l s n ≡ old.readers.sample l s n
  pub kept : (l : ℕ) → l < suc i → new.kept l ≡ old.kept l

leaves_all : (i : ℕ) (old new : Transfers) → new ≡ old → LeavesBefore i old new
leaves_all i old new e = record {
  own = λ l s n _. ap (λ (x : Transfers). x.readers.own l s n) e;
  incoming = λ l s n _. ap (λ (x : Transfers). x.readers.incoming l s n) e;
  sample = λ l s n _. ap (λ (x : Transfers). x.readers.sample l s n) e;
  kept = λ l _. ap (λ (x : Transfers). x.kept l) e;
}

beside_leaves : (i : ℕ) (old new : Transfers) → StaysBeside i old new → LeavesBefore i old new
beside_leaves i old new h = record {
  own = λ l s n before. h.own l s n (λ e. omega arith);
  incoming = λ l s n before. h.incoming l s n (λ e. omega arith) (λ e. omega arith);
  sample = λ l s n before. h.sample l s n (λ e. omega arith) (λ e. omega arith);
  kept = λ l before. h.kept l (λ e. omega arith);
}

turn_leaves : (d t i above : ℕ) (m n : Marks) (below : List Marks) (old new : Transfers) → IsLevelsTurn d t i above m n below old new (works t (suc i)) → LeavesBefore i old new
turn_leaves d t i above m n below old new h =
    elim (cases_Bool (works t (suc i))) [
      | inl e ↦ beside_leaves i old new (turn_of d t i above m n below old new true e h).beside
      | inr e ↦ leaves_all i old new (turn_of d t i above m n below old new false e h).transfers
    ]

leaves-then : (i : ℕ) (old next new : Transfers) → LeavesBefore i old next → LeavesBefore (suc i) next new → LeavesBefore i old new
leaves-then i old next new h k = record {
  own = λ l s n before. k.own l s n (omega arith) ∙ h.own l s n before;
  incoming = λ l s n before. k.incoming l s n (omega arith) ∙ h.incoming l s n before;
  sample = λ l s n before. k.sample l s n (omega arith) ∙ h.sample l s n before;
  kept = λ l before. k.kept l (omega arith) ∙ h.kept l before;
}

pub leaves : (d t i above : ℕ) (levels worked : List Marks) (old new : Transfers) → AreLevelsWorked d t i above levels worked old new → LeavesBefore i old new
leaves d t i above [] [] old new h = leaves_all i old new h
leaves d t i above [] (n ∷ under) old new h = absurd h
leaves d t i above (m ∷ below) [] old new h = absurd h
leaves d t i above (m ∷ below) (n ∷ under) old new (next, turn, rest) =
    leaves-then i old next new (turn_leaves d t i above m n below old next turn) (leaves d t (suc i) m.visible below under next new rest)

-- while a level works the level behind it rests, so the levels behind leave the marks of the next one, and what this one reads
pub record BehindStays (d t i : ℕ) (below under : List Marks) (next new : Transfers) : Type 0 where
  pub blocks : (above : ℕ) (n : Marks) → merge_left d new.readers t i above n under ≡ merge_left d next.readers t i above n below
  pub end : (odd : Bool) → sample_end odd under ≡ sample_end odd below
  pub kept : new.kept (suc i) ≡ next.kept (suc i)

same_end : (odd : Bool) (m n : Marks) (below under : List Marks) → n ≡ m → sample_end odd (n ∷ under) ≡ sample_end odd (m ∷ below)
same_end odd m n below under e = ap (λ (x : Marks). cond odd x.shadow x.visible / 8) e

-- what a merge has left depends on the sample below it alone
same_below : (d t i above : ℕ) (a : Readers) (m n p : Marks) (below under : List Marks) → n ≡ m → merge_left d a t i above p (n ∷ under) ≡ merge_left d a t i above p (m ∷ below)
same_below d t i above a m n p below under e = rw e refl

pub behind-stays : (d t i above : ℕ) (below under : List Marks) (next new : Transfers) → works t (suc i) ≡ true → AreLevelsWorked d t (suc i) above below under next new → BehindStays d t i below under next new
behind-stays d t i above [] [] next new work h = record {
  blocks = λ above n. ap (λ (x : Transfers). merge_left d x.readers t i above n []) h;
  end = λ odd. refl;
  kept = ap (λ (x : Transfers). x.kept (suc i)) h;
}
behind-stays d t i above [] (n ∷ under) next new work h = absurd h
behind-stays d t i above (m ∷ below) [] next new work h = absurd h
behind-stays d t i above (m ∷ below) (n ∷ under) next new work (mid, turn, rest) =
    let rests : IsLevelAtRest m n next mid = turn_of d t (suc i) above m n below next mid false (adjacent-rest t i work) turn in
    let later : LeavesBefore (suc (suc i)) mid new = leaves d t (suc (suc i)) m.visible below under mid new rest in
    let agree : AgreeAt i new.readers mid.readers = record {
      own = λ s k. later.own (suc i) s k (omega arith);
      incoming = λ s k. later.incoming i s k (omega arith);
      sample = λ s k. later.sample (suc (suc i)) s k (omega arith);
    }
    in
    record {
      blocks = λ above p.
          same_merge d t i above new.readers mid.readers p (n ∷ under) agree
          ∙ ap (λ (x : Transfers). merge_left d x.readers t i above p (n ∷ under)) rests.transfers
          ∙ same_below d t i above next.readers m n p below under rests.marks;
      end = λ odd. same_end odd m n below under rests.marks;
      kept = later.kept (suc i) (omega arith) ∙ ap (λ (x : Transfers). x.kept (suc i)) rests.transfers;
    }

-- and this level's work leaves what the levels behind read
ahead-stays : (d t i above : ℕ) (levels : List Marks) (old new : Transfers) → works t (suc i) ≡ true → StaysBeside i old new →
    reads_left d new.readers t (suc i) above levels ≡ reads_left d old.readers t (suc i) above levels
ahead-stays d t i above [] old new work h = refl
ahead-stays d t i above (m ∷ below) old new work h =
    let agree : AgreeFrom (suc (suc i)) new.readers old.readers = record {
      own = λ l s n from. h.own l s n (λ e. omega arith);
      incoming = λ l s n from. h.incoming l s n (λ e. omega arith) (λ e. omega arith);
      sample = λ l s n from. h.sample l s n (λ e. omega arith) (λ e. omega arith);
    }
    in
    rw (adjacent-rest t i work) (ap (λ (x : ℕ). 0 + x) (same_reads d t (suc (suc i)) m.visible new.readers old.readers below agree))

pub ap_le : {a b : ℕ} → a ≡ b → a + 0 ≤ b + 0
ap_le e = omega arith

-- one level more
pub one_more : (old next new head head' rest rest' : ℕ) → next + head' ≤ old + head → new + rest' ≤ next + rest → new + (head' + rest') ≤ old + (head + rest)
one_more old next new head head' rest rest' h k = omega arith

-- a level that rests adds nothing
pub none_more : (old new rest rest' : ℕ) → new + rest' ≤ old + rest → new + (0 + rest') ≤ old + (0 + rest)
none_more old new rest rest' h = omega arith

pub work-reads : (d t i above : ℕ) (levels worked : List Marks) (old new : Transfers) → AreLevelsWorked d t i above levels worked old new →
    new.reads + reads_left d new.readers t i above worked ≤ old.reads + reads_left d old.readers t i above levels
work-reads d t i above [] [] old new h = ap_le (ap (λ (x : Transfers). x.reads) h)
work-reads d t i above [] (n ∷ under) old new h = absurd h
work-reads d t i above (m ∷ below) [] old new h = absurd h
work-reads d t i above (m ∷ below) (n ∷ under) old new (next, turn, rest) =
    let later : new.reads + reads_left d new.readers t (suc i) m.visible under ≤ next.reads + reads_left d next.readers t (suc i) m.visible below =
    work-reads d t (suc i) m.visible below under next new rest in
    elim (cases_Bool (works t (suc i))) [
      | inl e ↦
          let worked : IsLevelWorked d t i above m n below old next = turn_of d t i above m n below old next true e turn in
          let behind : BehindStays d t i below under next new = behind-stays d t i m.visible below under next new e rest in
          let now : next.reads + merge_left d new.readers t i above n under ≤ old.reads + merge_left d old.readers t i above m below =
          subst (λ (x : ℕ). next.reads + x ≤ old.reads + merge_left d old.readers t i above m below) (sym (behind.blocks above n)) worked.reads
          in
          let behind_now : new.reads + reads_left d new.readers t (suc i) m.visible under ≤ next.reads + reads_left d old.readers t (suc i) m.visible below =
          subst (λ (x : ℕ). new.reads + reads_left d new.readers t (suc i) m.visible under ≤ next.reads + x) (ahead-stays d t i m.visible below old next e worked.beside) later
          in
          rw e
          (one_more old.reads next.reads new.reads _ _ _ _ now
          (subst (λ (x : ℕ). new.reads + reads_left d new.readers t (suc i) x under ≤ next.reads + reads_left d old.readers t (suc i) m.visible below) (sym worked.visible) behind_now))
      | inr e ↦
          let rests : IsLevelAtRest m n old next = turn_of d t i above m n below old next false e turn in
          rw (e, rests.marks)
          (none_more old.reads new.reads _ _
          (subst (λ (x : Transfers). new.reads + reads_left d new.readers t (suc i) m.visible under ≤ x.reads + reads_left d x.readers t (suc i) m.visible below) rests.transfers later))
    ]
