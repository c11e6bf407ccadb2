-- Where the calls of a store lead, and those of its log.
use Rattle.std.proofs.Common.{◌≡◌, ◌≢◌, List, [], ◌∷◌, ◌++◌, Option, Some, None, Result, Ok, Err, refl, sym, ◌∙◌, ap, subst}
use Rattle.cola_device.specs.declared.device.Device as device
use Rattle.cola_spec.specs.Map.{Shape, Map}
use Rattle.cola_log.specs.Format as log
use Rattle.cola_log.specs.Format.{Logged, read_log}
use Rattle.cola_kv.specs.declared.error.Error.{Error}
use Rattle.cola_kv.specs.declared.error.Error.TheVariants.{Device}
use Rattle.cola_kv.specs.declared.list.Answer.{Answer}
use Rattle.cola_kv.specs.declared.list.Answer.TheVariants as answer
use Rattle.cola_kv.specs.declared.list.Call.{Call}
use Rattle.cola_kv.specs.declared.list.Call.TheVariants as call
use Rattle.cola_kv.specs.declared.kv.Kv.{Kv}
use Rattle.cola_kv.specs.Kv.{Holds, Stays, shape_of}
use Rattle.cola_kv.specs.Listed.{Carries, Follow, Start, Then, told_as}
use Rattle.cola_kv.proofs.Answered.{stays-same}
use Rattle.cola_kv.proofs.Listing.{shape-stays}
use Rattle.cola_replay.specs.Made.{after, after_all}
use Rattle.cola_replay.specs.Replays.{failed, Remakes}
use Rattle.cola_replay.specs.Again.{logged_of, NoneFailed, AreMadeAgain}
use Rattle.cola_replay.proofs.Remaking.{told_is, put_remade, put_if_remade, delete_remade}
use Rattle.cola_replay.proofs.Replaying.{stays-longer}

-- Lists

after_front : (shape : Shape) (m : Map) (xs ys : List Logged) → after_all shape m (xs ++ ys) ≡ after_all shape (after_all shape m xs) ys
after_front shape m [] ys = refl
after_front shape m (x ∷ xs) ys = after_front shape (after shape m x) xs ys

logged_front : (xs ys : List Call) → logged_of (xs ++ ys) ≡ logged_of xs ++ logged_of ys
logged_front [] ys = refl
logged_front (call.Put key value ∷ xs) ys = ap (λ (l : List Logged). log.Put key.now value.now ∷ l) (logged_front xs ys)
logged_front (call.PutIf key seen value ∷ xs) ys = ap (λ (l : List Logged). log.PutIf key.now seen value.now ∷ l) (logged_front xs ys)
logged_front (call.Delete key ∷ xs) ys = ap (λ (l : List Logged). log.Delete key.now ∷ l) (logged_front xs ys)
logged_front (call.Get key ∷ xs) ys = logged_front xs ys
logged_front (call.Stamp key ∷ xs) ys = logged_front xs ys

split_failed : (xs : List (Result Answer Error)) (y : Result Answer Error) → NoneFailed (xs ++ y ∷ []) → NoneFailed xs × (y ≢ Err Device)
split_failed [] y none = (tt, none.0)
split_failed (x ∷ xs) y none = let rest = split_failed xs y none.1 in ((none.0, rest.0), rest.1)

-- an answer that the device did not refuse
told_error : {A : Type 0} (result : Result A Error) (e : Error) → failed result ≡ Some e → result ≡ Err e
told_error (Ok a) e is = absurd (cc is)
told_error (Err x) e is = ap Err (told_is x e is)

none_told : (why : Option Error) → ((e : Error) → why ≡ Some e → ⊥) → why ≡ None
none_told None never = refl
none_told (Some e) never = absurd (never e refl)

as_told : {A : Type 0} (answer_of : A → Answer) (result : Result A Error) (e : Error) → result ≡ Err e → told_as answer_of result ≡ Err e
as_told answer_of result e is = ap (told_as answer_of) is

module _ {D : Type 0} (d : device.Ghosts D) where
  -- a call that was made and did not fail leads to the map after it
  settles : {A : Type 0} (answer_of : A → Answer) (own : Result A Error) (result : Result Answer Error) (mid new : Kv D d) (it : Logged) (m : Map) →
      result ≡ told_as answer_of own → result ≢ Err Device → Holds d mid m → Remakes d mid new it (failed own) → Holds d new (after (shape_of mid) m it)
  settles answer_of own result mid new it m is never holds made =
      let none : failed own ≡ None = none_told (failed own) (λ e told.
      let fault : e ≡ Device = made.refusal m holds e told in
      never (is ∙ as_told answer_of own Device (told_error own e told ∙ ap Err fault))) in
      made.map m holds none

  one_leads : (mid new : Kv D d) (one : Call) (result : Result Answer Error) (m : Map) → Carries d mid new one result → result ≢ Err Device → Holds d mid m →
      Holds d new (after_all (shape_of mid) m (logged_of (one ∷ [])))
  one_leads mid new (call.Put key value) result m carries never holds =
      settles answer.Put carries.made.0 result mid new (log.Put key.now value.now) m carries.made.1 never holds (put_remade d mid new key.now value.now carries.made.0 carries.made.2)
  one_leads mid new (call.PutIf key seen value) result m carries never holds =
      settles answer.PutIf carries.made.0 result mid new (log.PutIf key.now seen value.now) m carries.made.1 never holds (put_if_remade d mid new key.now seen value.now carries.made.0 carries.made.2)
  one_leads mid new (call.Delete key) result m carries never holds =
      settles answer.Deleted carries.made.0 result mid new (log.Delete key.now) m carries.made.1 never holds (delete_remade d mid new key.now carries.made.0 carries.made.2)
  one_leads mid new (call.Get key) result m carries never holds = carries.made.2.map_stays m holds
  one_leads mid new (call.Stamp key) result m carries never holds = carries.made.2.map_stays m holds

  follow_leads : (old new : Kv D d) (calls : List Call) (results : List (Result Answer Error)) (m : Map) → Follow d old calls results new → NoneFailed results → Holds d old m →
      Stays d old new × Holds d new (after_all (shape_of old) m (logged_of calls))
  follow_leads _ _ _ _ m (Start {kv}) none holds = (stays-same d kv, holds)
  follow_leads _ _ _ _ m (Then {old} {mid} {new} {calls} {results} one result follow carries) none holds =
      let parts = split_failed results result none in
      let before = follow_leads old mid calls results m follow parts.0 holds in
      let same : shape_of mid ≡ shape_of old = shape-stays d old mid before.0 in
      let led : Holds d new (after_all (shape_of mid) (after_all (shape_of old) m (logged_of calls)) (logged_of (one ∷ []))) =
      one_leads mid new one result (after_all (shape_of old) m (logged_of calls)) carries parts.1 before.1 in
      let lists : after_all (shape_of mid) (after_all (shape_of old) m (logged_of calls)) (logged_of (one ∷ [])) ≡ after_all (shape_of old) m (logged_of (calls ++ one ∷ [])) =
      ap (λ (s : Shape). after_all s (after_all (shape_of old) m (logged_of calls)) (logged_of (one ∷ []))) same
      ∙ sym (after_front (shape_of old) m (logged_of calls) (logged_of (one ∷ [])))
      ∙ ap (after_all (shape_of old) m) (sym (logged_front calls (one ∷ []))) in
      (stays-longer d old mid new before.0 carries.stays, subst (λ (x : Map). Holds d new x) lists led)

  pub are_made_again : AreMadeAgain d
  are_made_again = λ old new again last m calls results page bytes replayed holds carries none same_map same_shape read replays.
      let first = follow_leads old new calls results m carries.made none holds in
      let second : Holds d last (after_all (shape_of again) m (read_log page bytes)) = replays.map m same_map in
      let lists : after_all (shape_of again) m (read_log page bytes) ≡ after_all (shape_of old) m (logged_of calls) =
      ap (λ (s : Shape). after_all s m (read_log page bytes)) same_shape ∙ ap (after_all (shape_of old) m) read in
      (first.1, subst (λ (x : Map). Holds d last x) lists second)
