-- Why an opening on a device that does not fail was refused, and what it left.
use Rattle.std.proofs.Common.{◌≡◌, ◌∙◌, inl, inr, ℕ, ◌+◌, List, take, Some, arith, ap, sym, subst}
use Rattle.cola_layout.specs.declared.geometry.Geometry.{Geometry}
use Rattle.cola_layout.specs.Fields.{fields_of}
use Rattle.cola_layout.specs.Header.{Fields}
use Rattle.cola_layout.proofs.Refusing.{spelling-one}
use Rattle.cola_outside.specs.Faults.{Rose}
use Rattle.cola_image.specs.Standing.{FileStandsFor}
use Rattle.cola_store.specs.Sessions.{IsStoreOpened, IsStoreClosed}
use Rattle.cola_store.specs.Store.{Stored, terms_of}
use Rattle.cola_kv.specs.declared.error.Error.{Error}
use Rattle.cola_kv.specs.declared.error.Error.TheVariants as error
use Rattle.cola_kv.specs.Opened as kv
use Rattle.cola_table.specs.Terms.{Terms}
use Rattle.cola_handle.specs.declared.answer.Answer.{Answer}
use Rattle.cola_handle.specs.declared.answer.Answer.TheVariants.{Memory}
use Rattle.cola_handle.specs.Lent.{HasTerms, OpenCause, AreLeft}
use Rattle.cola_handle.specs.Numbers.{refused}
use Rattle.cola_handle.specs.Open.{LentDevice, lent_device}

pub no-rise : Rose 0 0 → ⊥
no-rise rose = omega (arith, rose)

pub refusal-cause : (before now : LentDevice) (e : Error) → kv.OpenCause lent_device before now e → OpenCause before.device.bytes (refused e)
refusal-cause before now error.NotStore seen = seen.why_is
refusal-cause before now error.NotClosed seen = seen.why_is
refusal-cause before now error.Small seen = seen.why_is
refusal-cause before now error.Device failed = absurd (no-rise failed.cause)
refusal-cause before now error.OutOfMemory seen = seen.why_is
refusal-cause before now (error.BadCell number) seen = (seen.0, (number, seen.1.why_is))
refusal-cause before now error.KeyLength is = absurd is
refusal-cause before now error.ValueLength is = absurd is
refusal-cause before now error.Keys is = absurd is
refusal-cause before now error.Block is = absurd is
refusal-cause before now error.NotEmpty is = absurd is
refusal-cause before now error.Full is = absurd is
refusal-cause before now error.Worn is = absurd is
refusal-cause before now (error.Overfull level) is = absurd is

pub refusal-stays : (before now : LentDevice) (e : Error) → kv.OpenCause lent_device before now e → Some now.device.bytes ≡ Some before.device.bytes
refusal-stays before now error.NotStore seen = seen.bytes_stay
refusal-stays before now error.NotClosed seen = seen.bytes_stay
refusal-stays before now error.Small seen = seen.bytes_stay
refusal-stays before now error.Device failed = absurd (no-rise failed.cause)
refusal-stays before now error.OutOfMemory seen = seen.bytes_stay
refusal-stays before now (error.BadCell number) seen = seen.1.bytes_stay
refusal-stays before now error.KeyLength is = absurd is
refusal-stays before now error.ValueLength is = absurd is
refusal-stays before now error.Keys is = absurd is
refusal-stays before now error.Block is = absurd is
refusal-stays before now error.NotEmpty is = absurd is
refusal-stays before now error.Full is = absurd is
refusal-stays before now error.Worn is = absurd is
refusal-stays before now (error.Overfull level) is = absurd is

-- bytes that stand for a map are refused for want of memory alone
pub refusal-only : (before now : LentDevice) (e : Error) → kv.IsOpenRefusal lent_device before now e → refused e ≡ Memory
refusal-only before now e (inl memory) = ap refused memory
refusal-only before now e (inr met) = absurd (no-rise met.1)

pub left-same : (before now : List ℕ) (why : Answer) → now ≡ before → AreLeft before now why
left-same before now Memory same = record {
  terms_stay = λ terms has. subst (λ (b : List ℕ). HasTerms terms b) (sym same) has;
  map_stays = λ m stands. subst (λ (b : List ℕ). FileStandsFor b m) (sym same) stands;
}
left-same before now _ same = same

-- the terms of a store with this geometry
abbrev terms_with : Geometry → Terms
terms_with geometry = record { format = geometry.format; limit = geometry.keys; depth = geometry.bottom + 1 }

pub opened-terms : (before : LentDevice) (cache : ℕ) (store : Stored LentDevice) → IsStoreOpened lent_device before cache store → HasTerms (terms_of store) before.device.bytes
opened-terms before cache store is = record {
  header = is.header;
  was = is.opened.was.was;
  terms_are = ap terms_with (sym is.header_is.geometry_is);
}

pub closed-terms : (store : Stored LentDevice) (now : LentDevice) → IsStoreClosed lent_device store now → HasTerms (terms_of store) now.device.bytes
closed-terms store now is = record {
  header = is.header;
  was = record { has = is.closed.file.has; closed = is.header_is.closed_is };
  terms_are = ap terms_with (sym is.header_is.geometry_is);
}

-- bytes have one header, and so the terms of one store
pub same-terms : (a b : Terms) (bytes : List ℕ) → HasTerms a bytes → HasTerms b bytes → a ≡ b
same-terms a b bytes mine other =
    let one : fields_of mine.header ≡ fields_of other.header =
    spelling-one (fields_of mine.header) (fields_of other.header) (take 512 bytes) mine.was.has.spelled other.was.has.spelled in
    mine.terms_are ∙ (ap (λ (f : Fields). let t : Terms = record { format = f.format; limit = f.keys; depth = f.bottom + 1 } in t) one ∙ sym other.terms_are)

-- what a refused opening leaves of a closed store are its bytes
pub terms-left : (terms : Terms) (before now : List ℕ) (why : Answer) → HasTerms terms before → AreLeft before now why → HasTerms terms now
terms-left terms before now Memory has left = left.terms_stay terms has
terms-left terms before now _ has same = subst (λ (b : List ℕ). HasTerms terms b) (sym same) has
