-- What the calls by C on a log tell.
use Rattle.std.specs.Prelude.{◌≡◌, ◌⊎◌, ℕ, List, length, Option, Result, Ok, Err}
use Rattle.cola_log.specs.Format.{Logged}
use Rattle.cola_log.specs.Appended.{IsAppended, IsRefused}
use Rattle.cola_kv.specs.declared.error.Error.{Error}
use Rattle.cola_handle.specs.declared.session.Session.{Session}
use Rattle.cola_handle.specs.Open.{lent_device}
use Rattle.cola_replay.specs.declared.making.Replayed.{Replayed}
use Rattle.cola_replay.specs.Replays.{Replays}

-- the record of a call stands at the front, of this length; or there is none, and its length is told as 0
abbrev pub TellsRecord : (sum sum' : List ℕ) → Logged → (into into' : List ℕ) → ℕ → Type 0
TellsRecord sum sum' it into into' size = IsAppended sum sum' it into into' size ⊎ ((size ≡ 0) × IsRefused sum sum' it into into')

-- what is told in a caller's places, which had this: where a call was refused, nothing

abbrev pub sum_told : Result Replayed Error → List ℕ → List ℕ
sum_told (Ok replayed) old = replayed.sum.sum
sum_told (Err why) old = old

abbrev pub whole_told : Result Replayed Error → ℕ → ℕ
whole_told (Ok replayed) old = replayed.whole
whole_told (Err why) old = old

abbrev pub done_told : Result Replayed Error → ℕ → ℕ
done_told (Ok replayed) old = replayed.done
done_told (Err why) old = old

-- a log was made again on the store behind the handle, and how far is told
pub record TellsReplayed (old : Session) (page bytes : List ℕ) (sum sum' : List ℕ) (whole whole' done done' : ℕ) (new : Session) (answer : Result Replayed Error) : Type 0 where
  pub replays : Replays lent_device old.kv new.kv page bytes answer
  pub sum_is : sum' ≡ sum_told answer sum
  pub whole_is : whole' ≡ whole_told answer whole
  pub done_is : done' ≡ done_told answer done
