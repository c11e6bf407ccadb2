-- How many blocks a range and the calls on its walk turn to.
use Rattle.std.proofs.Common.{◌∙◌, refl, ℕ, List, Option, Some, None, Result, Ok, Err, inl, inr, arith}
use Rattle.cola_cell.specs.declared.fault.ReadFault.{ReadFault}
use Rattle.cola_cell.specs.Spent.{Spent}
use Rattle.cola_spec.specs.Bounds.{range_bound}
use Rattle.cola_store.specs.Calls.{ReadsWithin}
use Rattle.cola_store.specs.Store.{Stored, spent_of, levels_of}
use Rattle.cola_store.specs.Walks.{Begins, Goes, TurnsWithin, left_of}
use Rattle.cola_store.proofs.Storing.{ticks_then, none_made}
use Rattle.cola_handle.specs.declared.cursor.Cursor.{Cursor}
use Rattle.cola_handle.specs.declared.cursor.Row.{Row}
use Rattle.cola_handle.specs.Cursors.{Pair}
use Rattle.cola_handle.specs.Open.{LentDevice, bytes_of, counts_of}
use Rattle.cola_handle.specs.Walking.{GoesOn, Stays, Then, Came, Fills}

-- one call after another
pub then_more : (old mid new : Spent) (left rest most : ℕ) → TurnsWithin old mid left most → TurnsWithin mid new rest left → TurnsWithin old new rest most
then_more old mid new left rest most first second = record {
  turned_stays = omega (arith, first.turned_stays, second.turned_stays);
  turned_rises = omega (arith, first.turned_rises, second.turned_rises);
  written_is = second.written_is ∙ first.written_is;
  ticks = ticks_then old mid new most left rest first.ticks second.ticks;
}

-- what is left is not needed
pub within : (old new : Spent) (left most : ℕ) → TurnsWithin old new left most → ReadsWithin old new most
within old new left most turns = record {
  turned_stays = turns.turned_stays;
  turned_rises = omega (arith, turns.turned_rises);
  written_is = turns.written_is;
}

module _ {T W : Type 0} (spent : T → Spent) (left : W → ℕ) (most : T → ℕ) (begins : T → List ℕ → Option (List ℕ) → Result W ReadFault → T → Type 0) (goes : T → W → Result (Option Pair) ReadFault → T → W → Type 0)
    (begun_turns : (old : T) (low : List ℕ) (high : Option (List ℕ)) (walk : W) (new : T) → begins old low high (Ok walk) new → TurnsWithin (spent old) (spent new) (left walk) (most old))
    (refused_turns : (old : T) (low : List ℕ) (high : Option (List ℕ)) (fault : ReadFault) (new : T) → begins old low high (Err fault) new → TurnsWithin (spent old) (spent new) 0 (most old))
    (gone_turns : (old : T) (walk : W) (answer : Option Pair) (new : T) (after : W) → goes old walk (Ok answer) new after → TurnsWithin (spent old) (spent new) (left after) (left walk))
    (broken_turns : (old : T) (walk : W) (fault : ReadFault) (new : T) (after : W) → goes old walk (Err fault) new after → TurnsWithin (spent old) (spent new) 0 (left walk)) where
  pub turns_on : (old new : T) (walk last : W) (pairs : List Pair) → GoesOn begins goes old walk pairs new last → TurnsWithin (spent old) (spent new) (left last) (left walk)
  turns_on old new walk last pairs Stays = record { turned_stays = omega arith; turned_rises = omega arith; written_is = refl; ticks = none_made (spent old) (left walk) }
  turns_on old new walk last pairs (Then {mid = mid} {after = after} {pairs = before} pair gone went) =
      then_more (spent old) (spent mid) (spent new) (left after) (left last) (left walk) (turns_on old mid walk after before gone) (gone_turns mid after (Some pair) new last went)

  module _ (cursor : Cursor) (low : List ℕ) (high : Option (List ℕ)) (old : T) (rows : List Row) where
    came_turns : (given : ℕ) (new : T) (last : W) → Came begins goes cursor low high old rows given new last → TurnsWithin (spent old) (spent new) (left last) (most old)
    came_turns given new last came =
        then_more (spent old) (spent came.mid) (spent new) (left came.walk) (left last) (most old) (begun_turns old low high came.walk came.mid came.begun) (turns_on came.mid new came.walk last came.pairs came.gone)

    fill_turns : (result : Result ℕ ReadFault) (new : T) → Fills begins goes cursor low high old rows result new → ReadsWithin (spent old) (spent new) (most old)
    fill_turns (Ok given) new (inl all) = within (spent old) (spent new) (left all.1.0) (most old) (came_turns given new all.1.0 all.1.1)
    fill_turns (Ok given) new (inr e) =
        within (spent old) (spent new) (left e.last) (most old)
        (then_more (spent old) (spent e.far) (spent new) (left e.walk) (left e.last) (most old) (came_turns given e.far e.walk e.came) (gone_turns e.far e.walk None new e.last e.ends))
    fill_turns (Err fault) new (inl refused) = within (spent old) (spent new) 0 (most old) (refused_turns old low high fault new refused)
    fill_turns (Err fault) new (inr broken) =
        let e = broken.1 in
        within (spent old) (spent new) 0 (most old)
        (then_more (spent old) (spent e.far) (spent new) (left e.walk) 0 (most old) (came_turns broken.0 e.far e.walk e.came) (broken_turns e.far e.walk fault new e.last e.ends))

-- filling rows turns to at most one block for each tick of a range, and writes none
pub fill_reads : (cursor : Cursor) (low : List ℕ) (high : Option (List ℕ)) (old new : Stored LentDevice) (rows : List Row) (result : Result ℕ ReadFault)
    → Fills (Begins bytes_of counts_of) (Goes bytes_of counts_of) cursor low high old rows result new → ReadsWithin (spent_of counts_of old) (spent_of counts_of new) (range_bound (levels_of old))
fill_reads cursor low high old new rows result fills =
    fill_turns (spent_of counts_of) left_of (λ (store : Stored LentDevice). range_bound (levels_of store)) (Begins bytes_of counts_of) (Goes bytes_of counts_of)
    (λ o l h w n b. b.turns) (λ o l h f n b. b.turns) (λ o w a n z b. b.turns) (λ o w f n z b. b.turns) cursor low high old rows result new fills

-- nothing was turned to
pub no_turn : (spent : Spent) (most : ℕ) → ReadsWithin spent spent most
no_turn spent most = record { turned_stays = omega arith; turned_rises = omega arith; written_is = refl }
