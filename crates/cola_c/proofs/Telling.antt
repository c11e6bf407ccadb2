-- What each call tells of a session that held a map.
use Rattle.std.proofs.Common.{◌≡◌, ◌∙◌, inl, inr, ℕ, ℤ, pos, false, Bool, List, Option, Some, None, Result, Ok, Err, refl, sym, ap, subst, arith}
use Rattle.cola_outside.specs.Faults.{Rose}
use Rattle.cola_spec.specs.Map.{Map, Shape, PutOutcome, is_key, put_outcome, put_if_outcome, with_value, settled}
use Rattle.cola_table.specs.declared.Put.{Put}
use Rattle.cola_table.specs.declared.Put.TheVariants as put
use Rattle.cola_table.specs.declared.PutIf.{PutIf}
use Rattle.cola_table.specs.declared.PutIf.TheVariants as put_if
use Rattle.cola_kv.specs.declared.error.Error.{Error}
use Rattle.cola_kv.specs.declared.error.Error.TheVariants as error
use Rattle.cola_kv.specs.Calls as kv
use Rattle.cola_kv.specs.Causes.{IsReadRefusal, IsPutRefusal, ReadCause, DeleteCause, PutCause}
use Rattle.cola_handle.specs.declared.handle.Cola.{Cola}
use Rattle.cola_handle.specs.declared.session.Session.{Session}
use Rattle.cola_handle.specs.Numbers.{number, refused, found, made, made_if, was_told, other_told, value_told, length_told, stamp_told}
use Rattle.cola_handle.specs.Open.{lent_device, HoldsMap, shape_of}
use Rattle.cola_c.specs.Plain.{PlainGet, PlainStamp, PlainDelete, PlainPut, PlainPutIf, GetsAreTold, StampsAreTold, DeletesAreTold, PutsAreTold, PutsIfAreTold}

no-rise : Rose 0 0 → ⊥
no-rise rose = omega (arith, rose)

-- a call that only looks, or deletes, is refused by the key's length alone
read-refused : (shape : Shape) (key : List ℕ) (e : Error) → IsReadRefusal shape key e → (e ≡ error.Device → ⊥) → (e ≡ error.KeyLength) × (is_key shape key ≡ false)
read-refused shape key error.KeyLength is never = (refl, is)
read-refused shape key error.Device is never = absurd (never refl)
read-refused shape key error.ValueLength is never = absurd is
read-refused shape key error.Keys is never = absurd is
read-refused shape key error.Block is never = absurd is
read-refused shape key error.NotEmpty is never = absurd is
read-refused shape key error.NotStore is never = absurd is
read-refused shape key error.Small is never = absurd is
read-refused shape key error.NotClosed is never = absurd is
read-refused shape key (error.BadCell cell) is never = absurd is
read-refused shape key error.OutOfMemory is never = absurd is
read-refused shape key error.Full is never = absurd is
read-refused shape key error.Worn is never = absurd is
read-refused shape key (error.Overfull level) is never = absurd is

read-no-fault : (shape : Shape) (key : List ℕ) (e : Error) → ReadCause shape key 0 0 e → e ≡ error.Device → ⊥
read-no-fault shape key e cause is = no-rise (subst (λ (x : Error). ReadCause shape key 0 0 x) is cause)

delete-no-fault : (shape : Shape) (key : List ℕ) (e : Error) → DeleteCause shape key 0 0 e → e ≡ error.Device → ⊥
delete-no-fault shape key e cause is = no-rise (subst (λ (x : Error). DeleteCause shape key 0 0 x) is cause)

length-number : (e : Error) → e ≡ error.KeyLength → pos (number (refused e)) ≡ pos 7
length-number e is = ap (λ (x : Error). pos (number (refused x))) is

module _ (old new : Session) (m : Map) (key : List ℕ) (held : HoldsMap old m) (code : ℤ) where
  get-told : (into into' : List ℕ) (len len' : ℕ) (result : Result (Option (List ℕ)) Error) → code ≡ pos (number (found result)) → kv.Gets lent_device old.kv new.kv key result → into' ≡ value_told result into → len' ≡ length_told result len → PlainGet old m key code into into' len len'
  get-told into into' len len' (Ok (Some v)) is g i l = inl (v, sym (g.answer m held), is, i, l)
  get-told into into' len len' (Ok None) is g i l = inr (inl (sym (g.answer m held), is, i, l))
  get-told into into' len len' (Err e) is g i l =
      let r = read-refused (shape_of old) key e (g.refusal m held) (read-no-fault (shape_of old) key e g.cause) in
      inr (inr (r.1, is ∙ length-number e r.0, i, l))

  stamp-told : (place place' : ℕ) (result : Result (Option ℕ) Error) → code ≡ pos (number (found result)) → kv.Stamps lent_device old.kv new.kv key result → place' ≡ stamp_told result place → PlainStamp old m key code place place'
  stamp-told place place' (Ok (Some v)) is g p = inl (v, sym (g.answer m held), is, p)
  stamp-told place place' (Ok None) is g p = inr (inl (sym (g.answer m held), is, p))
  stamp-told place place' (Err e) is g p =
      let r = read-refused (shape_of old) key e (g.refusal m held) (read-no-fault (shape_of old) key e g.cause) in
      inr (inr (r.1, is ∙ length-number e r.0, p))

  module _ (after : Cola) (open_still : after.owned.session ≡ Some new) where
    delete-told : (result : Result (Option (List ℕ)) Error) → code ≡ pos (number (found result)) → kv.Deletes lent_device old.kv new.kv key result → PlainDelete old m key after code
    delete-told (Ok (Some v)) is g = inl (v, sym (g.answer m held), is, (new, open_still, g.map_after m held))
    delete-told (Ok None) is g = inr (inl (sym (g.answer m held), is, (new, open_still, g.map_after m held)))
    delete-told (Err e) is g =
        let r = read-refused (shape_of old) key e (g.refusal m held) (delete-no-fault (shape_of old) key e g.cause) in
        inr (inr (r.1, is ∙ length-number e r.0, (new, open_still, g.map_stays m held)))

    put-refused : (value : List ℕ) (was was' : Bool) (e : Error) → code ≡ pos (number (refused e)) → was' ≡ was → HoldsMap new m → IsPutRefusal (shape_of old) key value (put_outcome (shape_of old) m key) e →
        PutCause (shape_of old) old.kv.store.count old.kv.store.last key value 0 0 e → PlainPut old m key value after code was was'
    put-refused value was was' error.KeyLength is w keeps why cause = inr (inr (inr (inr (inl why, is, w, (new, open_still, keeps)))))
    put-refused value was was' error.ValueLength is w keeps why cause = inr (inr (inr (inr (inr why.1, is, w, (new, open_still, keeps)))))
    put-refused value was was' error.Full is w keeps why cause = inr (inr (inl (why, is, w, (new, open_still, keeps))))
    put-refused value was was' error.Worn is w keeps why cause = inr (inr (inr (inl (why, is, w, (new, open_still, keeps)))))
    put-refused value was was' error.Device is w keeps why cause = absurd (no-rise cause)
    put-refused value was was' error.Keys is w keeps why cause = absurd why
    put-refused value was was' error.Block is w keeps why cause = absurd why
    put-refused value was was' error.NotEmpty is w keeps why cause = absurd why
    put-refused value was was' error.NotStore is w keeps why cause = absurd why
    put-refused value was was' error.Small is w keeps why cause = absurd why
    put-refused value was was' error.NotClosed is w keeps why cause = absurd why
    put-refused value was was' (error.BadCell cell) is w keeps why cause = absurd why
    put-refused value was was' error.OutOfMemory is w keeps why cause = absurd why
    put-refused value was was' (error.Overfull level) is w keeps why cause = absurd why

    put-told : (value : List ℕ) (was was' : Bool) (result : Result Put Error) → code ≡ pos (number (made result)) → kv.Puts lent_device old.kv new.kv key value result → was' ≡ was_told result was → PlainPut old m key value after code was was'
    put-told value was was' (Ok put.New) is g w = inl (sym (g.answer m held), is, w, (new, open_still, g.map_after m held))
    put-told value was was' (Ok (put.Old v)) is g w = inr (inl (v, sym (g.answer m held), is, w, (new, open_still, g.map_after m held)))
    put-told value was was' (Err e) is g w = put-refused value was was' e is w (g.map_stays m held) (g.refusal m held) g.cause

    put-if-refused : (seen : ℕ) (value : List ℕ) (place place' : ℕ) (e : Error) → code ≡ pos (number (refused e)) → place' ≡ place → HoldsMap new m → IsPutRefusal (shape_of old) key value (put_if_outcome (shape_of old) m key seen) e →
        PutCause (shape_of old) old.kv.store.count old.kv.store.last key value 0 0 e → PlainPutIf old m key seen value after code place place'
    put-if-refused seen value place place' error.KeyLength is p keeps why cause = inr (inr (inr (inr (inr (inl why, is, p, (new, open_still, keeps))))))
    put-if-refused seen value place place' error.ValueLength is p keeps why cause = inr (inr (inr (inr (inr (inr why.1, is, p, (new, open_still, keeps))))))
    put-if-refused seen value place place' error.Full is p keeps why cause = inr (inr (inr (inl (why, is, p, (new, open_still, keeps)))))
    put-if-refused seen value place place' error.Worn is p keeps why cause = inr (inr (inr (inr (inl (why, is, p, (new, open_still, keeps))))))
    put-if-refused seen value place place' error.Device is p keeps why cause = absurd (no-rise cause)
    put-if-refused seen value place place' error.Keys is p keeps why cause = absurd why
    put-if-refused seen value place place' error.Block is p keeps why cause = absurd why
    put-if-refused seen value place place' error.NotEmpty is p keeps why cause = absurd why
    put-if-refused seen value place place' error.NotStore is p keeps why cause = absurd why
    put-if-refused seen value place place' error.Small is p keeps why cause = absurd why
    put-if-refused seen value place place' error.NotClosed is p keeps why cause = absurd why
    put-if-refused seen value place place' (error.BadCell cell) is p keeps why cause = absurd why
    put-if-refused seen value place place' error.OutOfMemory is p keeps why cause = absurd why
    put-if-refused seen value place place' (error.Overfull level) is p keeps why cause = absurd why

    put-if-told : (seen : ℕ) (value : List ℕ) (place place' : ℕ) (result : Result PutIf Error) → code ≡ pos (number (made_if result)) → kv.PutsIf lent_device old.kv new.kv key seen value result → place' ≡ other_told result place → PlainPutIf old m key seen value after code place place'
    put-if-told seen value place place' (Ok put_if.New) is g p = inl (sym (g.answer m held), is, p, (new, open_still, g.map_after m held))
    put-if-told seen value place place' (Ok (put_if.Old v)) is g p = inr (inl (v, sym (g.answer m held), is, p, (new, open_still, g.map_after m held)))
    put-if-told seen value place place' (Ok (put_if.Other s)) is g p =
        inr (inr (inl (s, sym (g.answer m held), is, p, (new, open_still, subst (λ (o : PutOutcome). HoldsMap new (settled o m (with_value (shape_of old) m key value))) (sym (g.answer m held)) (g.map_after m held)))))
    put-if-told seen value place place' (Err e) is g p = put-if-refused seen value place place' e is p (g.map_stays m held) (g.refusal m held) g.cause

pub gets-told : GetsAreTold
gets-told old m key after code into into' len len' held told = (
  get-told old told.new m key held code into into' len len' told.answer told.number_is told.says.0 told.says.1 told.says.2,
  (told.new, told.is_open, told.says.0.map_stays m held),
)

pub stamps-told : StampsAreTold
stamps-told old m key after code place place' held told = (
  stamp-told old told.new m key held code place place' told.answer told.number_is told.says.0 told.says.1,
  (told.new, told.is_open, told.says.0.map_stays m held),
)

pub deletes-told : DeletesAreTold
deletes-told old m key after code held told = delete-told old told.new m key held code after told.is_open told.answer told.number_is told.says

pub puts-told : PutsAreTold
puts-told old m key value after code was was' held told = put-told old told.new m key held code after told.is_open value was was' told.answer told.number_is told.says.0 told.says.1

pub puts-if-told : PutsIfAreTold
puts-if-told old m key seen value after code place place' held told = put-if-told old told.new m key held code after told.is_open seen value place place' told.answer told.number_is told.says.0 told.says.1
