-- How many pages of lent bytes have a mark.
use Rattle.std.proofs.Common.{◌≡◌, ◌∙◌, ℕ, ◌+◌, ◌-◌, ◌*◌, ◌<◌, ◌≤◌, List, Option, Some, refl, sym, ap, subst, arith}
use denote.RawPtr.{Ptr}
use Rattle.cola_layout.specs.declared.geometry.Geometry.{Geometry}
use Rattle.cola_mapped.specs.declared.lent.Lent.{Lent}
use Rattle.cola_mapped.specs.Mapped.{Mapped}
use Rattle.cola_mapped.specs.Region.{bytes_in}
use Rattle.cola_mapped.specs.contracts.device.MappedDeviceDevice.TheImpl as mapped
use Rattle.cola_marks.specs.Marked.{IsSound, Settings}
use Rattle.cola_handle.specs.contracts.marks.LentMarksMarks.TheImpl as marks
use Rattle.cola_kv.specs.declared.error.Error.{Error}
use Rattle.cola_kv.specs.declared.error.Error.TheVariants as error
use Rattle.cola_kv.specs.Kv.{writes_of}
use Rattle.cola_kv.specs.Opened as kv
use Rattle.cola_store.specs.Sessions.{IsStoreClosed}
use Rattle.cola_store.specs.Store.{geometry_of}
use Rattle.cola_handle.specs.declared.session.Session.{Session}
use Rattle.cola_handle.specs.Marks.{Place, AreMarked, refused_blocks, marks_in}
use Rattle.cola_handle.specs.Open.{LentDevice, lent_device, lent_with, lent_of, first_of, first_marks_of, closing_blocks}
use Rattle.cola_handle.proofs.Openings.{no-rise}

-- of more blocks
pub few-more : (first_marks first now_marks now : List ℕ) (n k : ℕ) → n ≤ k → AreMarked first_marks first n now_marks now → AreMarked first_marks first k now_marks now
few-more first_marks first now_marks now n k le are = record {
  unmarked = are.unmarked;
  stay = are.stay;
  few = λ some calm. omega (arith, le, are.few some (omega (arith, le, calm)));
}

-- where nothing was marked
pub none-more : (its bytes : List ℕ) (n : ℕ) → AreMarked its bytes n its bytes
none-more its bytes n = record {
  unmarked = λ page there none. refl;
  stay = record { many = refl; stay = λ page there was. was };
  few = λ some calm. omega arith;
}

-- the device says so
pub sound-few : (it : LentDevice) → IsSound mapped.ghosts marks.ghosts it → AreMarked (marks_in it.first_marks) it.first.bytes it.writes (marks_in it.marks) it.device.bytes
sound-few it sound = record {
  unmarked = sound.unmarked;
  stay = sound.stay;
  few = λ some calm. omega (arith, sound.few some calm);
}

-- a refused opening writes nothing
pub refusal-writes : (before now : LentDevice) (e : Error) → kv.OpenCause lent_device before now e → now.writes ≤ before.writes
refusal-writes before now error.NotStore seen = omega (arith, seen.spends.writes_rise)
refusal-writes before now error.NotClosed seen = omega (arith, seen.spends.writes_rise)
refusal-writes before now error.Small seen = omega (arith, seen.spends.writes_rise)
refusal-writes before now error.Device failed = absurd (no-rise failed.cause)
refusal-writes before now error.OutOfMemory seen = omega (arith, seen.spends.writes_rise)
refusal-writes before now (error.BadCell number) seen = omega (arith, seen.1.spends.writes_rise)
refusal-writes before now error.KeyLength is = absurd is
refusal-writes before now error.ValueLength is = absurd is
refusal-writes before now error.Keys is = absurd is
refusal-writes before now error.Block is = absurd is
refusal-writes before now error.NotEmpty is = absurd is
refusal-writes before now error.Full is = absurd is
refusal-writes before now error.Worn is = absurd is
refusal-writes before now (error.Overfull level) is = absurd is

-- a closing writes two blocks, and one for each level
pub closing-writes : (session : Session) (now : LentDevice) → IsStoreClosed lent_device session.kv.store now → now.writes ≤ closing_blocks session
closing-writes session now is =
    let depth : is.header.geometry.bottom ≡ (geometry_of session.kv.store).bottom = ap (λ (g : Geometry). g.bottom) is.header_is.geometry_is in
    omega (arith, is.closed.spends.writes_rise, depth)

-- behind an opening and a closing at most 26 are written
pub opened-few : (before : LentDevice) (session : Session) → kv.IsOpen lent_device before 0 session.kv → before.writes ≡ 0 → closing_blocks session ≤ 26
opened-few before session opens none =
    let once : writes_of lent_device session.kv ≤ before.writes + 1 = opens.given.opened.spends.writes_rise in
    let shallow : (geometry_of session.kv.store).bottom ≤ 22 = (geometry_of session.kv.store).shallow in
    omega (arith, once, none, shallow)

-- what no call changes
abbrev Its : Type 0
Its = Settings Mapped (Option Lent) Place (Option Place)

module _ (its now : List ℕ) where
  -- so what a refused opening gives back is marked as its device says
  pub refused-few : (before after : LentDevice) (e : Error) → kv.OpenCause lent_device before after e → lent_device.kept after ≡ lent_device.kept before →
      AreMarked (marks_in after.first_marks) after.first.bytes after.writes its now → AreMarked (marks_in before.first_marks) before.first.bytes before.writes its now
  refused-few before after e cause kept are =
      subst (λ (ms : List ℕ). AreMarked ms before.first.bytes before.writes its now) (ap (λ (k : Its). marks_in k.first_marks) kept)
      (subst (λ (b : List ℕ). AreMarked (marks_in after.first_marks) b before.writes its now) (ap (λ (k : Its). k.first.bytes) kept)
      (few-more (marks_in after.first_marks) after.first.bytes its now after.writes before.writes (refusal-writes before after e cause) are))

  -- and what a closing gives back
  pub closed-marked : (session : Session) (after : LentDevice) → IsStoreClosed lent_device session.kv.store after → lent_device.kept after ≡ lent_device.kept (lent_of session) →
      AreMarked (marks_in after.first_marks) after.first.bytes after.writes its now → AreMarked (first_marks_of session) (first_of session) (closing_blocks session) its now
  closed-marked session after closed kept are =
      subst (λ (ms : List ℕ). AreMarked ms (first_of session) (closing_blocks session) its now) (ap (λ (k : Its). marks_in k.first_marks) kept)
      (subst (λ (b : List ℕ). AreMarked (marks_in after.first_marks) b (closing_blocks session) its now) (ap (λ (k : Its). k.first.bytes) kept)
      (few-more (marks_in after.first_marks) after.first.bytes its now after.writes (closing_blocks session) (closing-writes session after closed) are))

  module _ (at : Ptr) (len : ℕ) (bytes : List ℕ) (lent : Option Lent) (it : LentDevice) (is : it ≡ lent_with at len bytes lent) where
    -- with which it was made
    pub lent-few : AreMarked (marks_in it.first_marks) it.first.bytes it.writes its now → AreMarked (marks_in lent) bytes refused_blocks its now
    lent-few are =
        few-more (marks_in lent) bytes its now 0 refused_blocks (omega arith)
        (subst (λ (d : LentDevice). AreMarked (marks_in d.first_marks) d.first.bytes d.writes its now) is are)

    -- and what a closing behind it gives back
    pub closed-few : (session : Session) → kv.IsOpen lent_device it 0 session.kv → lent_device.kept (lent_of session) ≡ lent_device.kept it →
        AreMarked (first_marks_of session) (first_of session) (closing_blocks session) its now → AreMarked (marks_in lent) bytes refused_blocks its now
    closed-few session opens kept are =
        let first : first_of session ≡ bytes = ap (λ (k : Its). k.first.bytes) kept ∙ ap (λ (d : LentDevice). d.first.bytes) is in
        let were : first_marks_of session ≡ marks_in lent = ap (λ (k : Its). marks_in k.first_marks) kept ∙ ap (λ (d : LentDevice). marks_in d.first_marks) is in
        subst (λ (ms : List ℕ). AreMarked ms bytes refused_blocks its now) were
        (subst (λ (b : List ℕ). AreMarked (first_marks_of session) b refused_blocks its now) first
        (few-more (first_marks_of session) (first_of session) its now (closing_blocks session) refused_blocks (opened-few it session opens (ap (λ (d : LentDevice). d.writes) is)) are))
