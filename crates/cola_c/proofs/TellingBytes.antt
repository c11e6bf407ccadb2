-- What is told of sizes, and of the bytes of a store: made, opened, kept and given back.
use Rattle.std.proofs.Common.{◌≡◌, ◌∙◌, inl, inr, ℕ, ℤ, pos, List, ap}
use Rattle.cola_mapped.specs.Region.{bytes_in}
use Rattle.cola_handle.specs.declared.answer.Answer.{Answer}
use Rattle.cola_handle.specs.declared.answer.Answer.TheVariants.{Done, Absent, Other, Full, Worn, Closed, InUse, Length, Options, NotEmpty, NotStore, Small, NotClosed, BadCell, Overfull, Memory}
use Rattle.cola_handle.specs.Created.{Creates}
use Rattle.cola_handle.specs.Lent.{OpenCause, AreLeft}
use Rattle.cola_handle.specs.Numbers.{number}
use Rattle.cola_c.specs.Exports.{Sizes, SizesStored}
use Rattle.cola_c.specs.Plain.{PlainSize, PlainStored, PlainCreate, PlainRefusal, SizesAreTold, StoredSizesAreTold, CreationsAreTold, RefusalsAreTold, OpeningsAreTold, CheckpointsAreTold, ClosingsAreTold}

size-told : (keys block version place place' : ℕ) (code : ℤ) (answer : Answer) → code ≡ pos (number answer) → Sizes keys block version place place' answer → PlainSize keys block version place place' code
size-told keys block version place place' code Done is says = inl (is, says)
size-told keys block version place place' code Absent is says = absurd says
size-told keys block version place place' code Other is says = absurd says
size-told keys block version place place' code Full is says = absurd says
size-told keys block version place place' code Worn is says = absurd says
size-told keys block version place place' code Closed is says = absurd says
size-told keys block version place place' code InUse is says = absurd says
size-told keys block version place place' code Length is says = absurd says
size-told keys block version place place' code Options is says = inr (is, says.0, says.1)
size-told keys block version place place' code NotEmpty is says = absurd says
size-told keys block version place place' code NotStore is says = absurd says
size-told keys block version place place' code Small is says = absurd says
size-told keys block version place place' code NotClosed is says = absurd says
size-told keys block version place place' code BadCell is says = absurd says
size-told keys block version place place' code Overfull is says = absurd says
size-told keys block version place place' code Memory is says = absurd says

pub sizes-told : SizesAreTold
sizes-told keys block version place place' code told = size-told keys block version place place' code told.answer told.number_is told.says

stored-told : (file : List ℕ) (place place' : ℕ) (code : ℤ) (answer : Answer) → code ≡ pos (number answer) → SizesStored file place place' answer → PlainStored file place place' code
stored-told file place place' code Done is says = inl (is, says)
stored-told file place place' code Absent is says = absurd says.0
stored-told file place place' code Other is says = absurd says.0
stored-told file place place' code Full is says = absurd says.0
stored-told file place place' code Worn is says = absurd says.0
stored-told file place place' code Closed is says = absurd says.0
stored-told file place place' code InUse is says = absurd says.0
stored-told file place place' code Length is says = absurd says.0
stored-told file place place' code Options is says = absurd says.0
stored-told file place place' code NotEmpty is says = absurd says.0
stored-told file place place' code NotStore is says = inr (inl (is, says.0, says.1))
stored-told file place place' code Small is says = inr (inr (inl (is, says.0, says.1)))
stored-told file place place' code NotClosed is says = inr (inr (inr (is, says.0, says.1)))
stored-told file place place' code BadCell is says = absurd says.0
stored-told file place place' code Overfull is says = absurd says.0
stored-told file place place' code Memory is says = absurd says.0

pub stored-sizes-told : StoredSizesAreTold
stored-sizes-told file place place' code told = stored-told file place place' code told.answer told.number_is told.says

create-told : (keys block version : ℕ) (before now : List ℕ) (code : ℤ) (answer : Answer) → code ≡ pos (number answer) → Creates keys block version before now answer → PlainCreate keys block version before now code
create-told keys block version before now code Done is made = inl (is, made.was_zero, (made.format, made.bottom, made.sizes, made.enough), (_, made.stands), made.as_many)
create-told keys block version before now code Absent is says = absurd says
create-told keys block version before now code Other is says = absurd says
create-told keys block version before now code Full is says = absurd says
create-told keys block version before now code Worn is says = absurd says
create-told keys block version before now code Closed is says = absurd says
create-told keys block version before now code InUse is says = absurd says
create-told keys block version before now code Length is says = absurd says
create-told keys block version before now code Options is says = inr (inl (is, says.0, says.1))
create-told keys block version before now code NotEmpty is says = inr (inr (inr (is, says.0, says.1, says.2)))
create-told keys block version before now code NotStore is says = absurd says
create-told keys block version before now code Small is says = inr (inr (inl (is, says.0, says.1)))
create-told keys block version before now code NotClosed is says = absurd says
create-told keys block version before now code BadCell is says = absurd says
create-told keys block version before now code Overfull is says = absurd says
create-told keys block version before now code Memory is says = absurd says

pub creations-told : CreationsAreTold
creations-told keys block version before now code told = create-told keys block version before now code told.answer told.number_is told.says

refusal-told : (before now : List ℕ) (code : ℤ) (answer : Answer) → code ≡ pos (number answer) → OpenCause before answer → AreLeft before now answer → PlainRefusal before now code
refusal-told before now code Done is why left = absurd why
refusal-told before now code Absent is why left = absurd why
refusal-told before now code Other is why left = absurd why
refusal-told before now code Full is why left = absurd why
refusal-told before now code Worn is why left = absurd why
refusal-told before now code Closed is why left = absurd why
refusal-told before now code InUse is why left = absurd why
refusal-told before now code Length is why left = absurd why
refusal-told before now code Options is why left = absurd why
refusal-told before now code NotEmpty is why left = absurd why
refusal-told before now code NotStore is why left = inl (is, why, left)
refusal-told before now code Small is why left = inr (inl (is, why, left))
refusal-told before now code NotClosed is why left = inr (inr (inl (is, why, left)))
refusal-told before now code BadCell is why left = inr (inr (inr (inl (is, why, left))))
refusal-told before now code Overfull is why left = absurd why
refusal-told before now code Memory is why left = inr (inr (inr (inr (is, why, left))))

pub refusals-told : RefusalsAreTold
refusals-told before now code told = (
  refusal-told (bytes_in before.bytes) (bytes_in now.bytes) code told.answer told.number_is told.says.cause told.says.left,
  told.says.lent,
)

-- the number of an answer that is for want of memory
for-memory : (code : ℤ) (answer : Answer) → code ≡ pos (number answer) → answer ≡ Memory → code ≡ pos 16
for-memory code answer is want = is ∙ ap (λ (a : Answer). pos (number a)) want

pub openings-told : OpeningsAreTold
openings-told m before now marks after code stood (inl done) = inl (done.2, (done.0, done.1, done.4.holds m stood), done.3)
openings-told m before now marks after code stood (inr refused) =
    let says = refused.1.says in
    inr (
      for-memory code refused.1.answer refused.1.number_is (says.only m stood),
      refused.0,
      record {
        lent = says.lent;
        stands = says.stands m stood;
        place_is = cc (says.at_stays, says.len_stays);
      },
    )

pub checkpoints-told : CheckpointsAreTold
checkpoints-told old m before now after code held (inl done) =
    let kept = done.4 in
    inl (done.2, done.3, (done.0, done.1, kept.holds m held, (kept.closed, kept.stood m held, kept.marked)))
checkpoints-told old m before now after code held (inr refused) =
    let says = refused.1.says in
    inr (
      for-memory code refused.1.answer refused.1.number_is (says.only m held),
      refused.0,
      record {
        lent = says.lent;
        stands = says.stands m held;
        place_is = says.place;
      },
    )

pub closings-told : ClosingsAreTold
closings-told old m now code held done closes = (done, record { lent = closes.lent; stands = closes.stands m held; place_is = closes.place })
