-- What `open` does to the place of a closed store, by the cause of its answer.
use Rattle.std.proofs.Common.{◌≡◌, ℕ, zero, suc, ◌<◌, ◌≤◌, min, true, false, List, ◌∷◌, length, take, drop, Option, Some, None, Ok, Err, inl, inr, ◌⊎◌, refl, sym, ◌∙◌, ap, subst, arith}
use Rattle.std.proofs.lemmas.List.{length-append, length-take, length-drop}
use Rattle.std.proofs.lemmas.Bool.{false≢true}
use Rattle.std.proofs.lemmas.Bool.Decides.{eqb_tells}
use Rattle.std.specs.Prelude.{IfSome, IsSome, IsSomeAnd, ⊤, nat_eq, if◌then◌else◌}
use Rattle.cola_outside.specs.Told.{Both}
use Rattle.cola_device.specs.declared.device.Device as device
use Rattle.cola_layout.specs.declared.header.Header.{Header}
use Rattle.cola_layout.specs.Fields.{fields_of}
use Rattle.cola_opening.specs.Judged.{HasHeader, IsSmall, IsNoStore, IsSeen, IsInUse}
use Rattle.cola_spec.specs.Map.{Map, count}
use Rattle.cola_spec.specs.Command.{Reopen}
use Rattle.cola_spec.specs.Reply as reply
use Rattle.cola_spec.specs.Reply.{Reply}
use Rattle.cola_spec.specs.Machine as machine
use Rattle.cola_spec.specs.Machine.{State, Step, kind_of, reopen_reply, reopen_after, plain_reply, plain_after}
use Rattle.cola_table.specs.Replies.{turn_of}
use Rattle.cola_line.specs.Replied.{KindFaults}
use Rattle.cola_image.specs.Standing.{HeaderStandsFor, FileStandsFor, with_state}
use Rattle.cola_store.specs.declared.fault.OpenFault.{OpenFault}
use Rattle.cola_store.specs.declared.fault.OpenFault.TheVariants as fault
use Rattle.cola_store.specs.declared.closing.Closing.{Closing as ClosingStore}
use Rattle.cola_command.specs.declared.place.Place.{Place}
use Rattle.cola_command.specs.declared.place.Place.TheVariants.{Open, Closing, Closed}
use Rattle.cola_store.specs.Store.{Stored, Holds, geometry_of}
use Rattle.cola_store.specs.Open.{WasClosed, IsReady, HasBadCell, FailedAtHeader, FailedAtCells, FailedAtMark, DeviceFailed, Opens, opening_reads}
use Rattle.cola_store.specs.Sessions.{IsStoreOpened}
use Rattle.cola_command.specs.File.{Sizes, sizes_of, sizes_in, shape, KeepsBehind, HasSizes, StandsBut, device_of, IsOfSizes, IsAt}
use Rattle.cola_command.specs.Turns.{Keeps, OpenCause, refused_reply}
use Rattle.cola_store.proofs.OpenLaws.{IsUsed, IsLost, used-file, lost-file, lost-small, not-no_store, not-in_use, not-small, not-bad_cell, used-no_store, used-small, used-closed}
use Rattle.cola_store.proofs.States.{state-long}
use Rattle.cola_command.proofs.StateByte.{state-twice, sizes-one, size-large, keeps-behind}
use Rattle.cola_command.proofs.PlaceTurns.{StepsTo, TurnFacts, stays, facts-of, kept-of, same-behind, both-told}

-- ---- the state byte of a file that stands for a map but for it

long-but : (sizes : Sizes) (m : Map) (byte : ℕ) (bytes : List ℕ) (but : StandsBut sizes m byte bytes) → 512 ≤ length (with_state 0 bytes)
long-but sizes m byte bytes but = let l = size-large (sizes_in but.header) in omega (arith, l, but.stands.whole)

long-bytes : (state : ℕ) (bytes : List ℕ) → 512 ≤ length (with_state state bytes) → 15 ≤ length bytes
long-bytes state bytes long =
    omega (arith, long, length-append (take 14 bytes) (state ∷ drop 15 bytes), length-take 14 bytes, length-drop 15 bytes)

-- it is closed, in use, or has no header at all
pub data Which (sizes : Sizes) (m : Map) (byte : ℕ) (bytes : List ℕ) : Type 0 where
  IsShut : byte ≡ 0 → StandsBut sizes m 0 bytes → FileStandsFor bytes m → Which sizes m byte bytes
  IsInUseNow : byte ≡ 1 → IsUsed bytes → Which sizes m byte bytes
  IsLostNow : 1 < byte → IsLost bytes → Which sizes m byte bytes

module _ (sizes : Sizes) (m : Map) (byte : ℕ) (bytes : List ℕ) (but : StandsBut sizes m byte bytes) where
  pub enough : 15 ≤ length bytes
  enough = long-bytes 0 bytes (long-but sizes m byte bytes but)

  pub room : 512 ≤ length bytes
  room = let n = state-long 0 bytes enough in omega (arith, n, long-but sizes m byte bytes but)

  closed-file : FileStandsFor (with_state 0 bytes) m
  closed-file = (but.header, but.stands)

  again : (state : ℕ) → but.state ≡ state → with_state state (with_state 0 bytes) ≡ bytes
  again state is = state-twice 0 bytes enough state ∙ subst (λ (n : ℕ). with_state n bytes ≡ bytes) is but.state_is

  by-state : (state : ℕ) → but.state ≡ state → Which sizes m byte bytes
  by-state zero is =
      let here : with_state 0 bytes ≡ bytes = subst (λ (n : ℕ). with_state n bytes ≡ bytes) is but.state_is in
      let none : byte ≡ 0 = but.byte_is ∙ ap (λ (n : ℕ). min n 255) is in
      IsShut none (subst (λ (n : ℕ). StandsBut sizes m n bytes) none but) (subst (λ (xs : List ℕ). FileStandsFor xs m) here closed-file)
  by-state (suc zero) is = IsInUseNow (but.byte_is ∙ ap (λ (n : ℕ). min n 255) is) (subst IsUsed (again 1 is) (used-file m (with_state 0 bytes) closed-file))
  by-state (suc (suc n)) is =
      IsLostNow (let e = but.byte_is in omega (arith, e, is)) (subst IsLost (again (suc (suc n)) is) (lost-file (suc (suc n)) m (with_state 0 bytes) (omega arith) closed-file))

  pub which : Which sizes m byte bytes
  which = by-state but.state refl

-- ---- what an opening says of such a file

-- the header of a file that was closed
ready-zero : (sizes : Sizes) (m : Map) (byte : ℕ) (bytes : List ℕ) (header : Header) → StandsBut sizes m byte bytes → WasClosed header bytes → (byte ≡ 0) × (FileStandsFor bytes m × (sizes_of header.geometry ≡ sizes))
ready-zero sizes m byte bytes header but was = by-which (which sizes m byte bytes but)
  where
    by-which : Which sizes m byte bytes → (byte ≡ 0) × (FileStandsFor bytes m × (sizes_of header.geometry ≡ sizes))
    by-which (IsShut zero-byte shut file) =
        (zero-byte, (file, sizes-one (fields_of header) but.header 0 bytes (room sizes m byte bytes but) was.has.spelled but.stands.spelled ∙ but.sizes_are))
    by-which (IsInUseNow one used) = absurd (used-closed bytes used header was)
    by-which (IsLostNow above lost) = absurd (lost.none (fields_of header) was.has.spelled)

no-store-above : (sizes : Sizes) (m : Map) (byte : ℕ) (bytes : List ℕ) → StandsBut sizes m byte bytes → IsNoStore bytes → 1 < byte
no-store-above sizes m byte bytes but none = by-which (which sizes m byte bytes but)
  where
    by-which : Which sizes m byte bytes → 1 < byte
    by-which (IsShut zero-byte shut file) = absurd (not-no_store m bytes file none)
    by-which (IsInUseNow one used) = absurd (used-no_store bytes used none)
    by-which (IsLostNow above lost) = above

in-use-one : (sizes : Sizes) (m : Map) (byte : ℕ) (bytes : List ℕ) → StandsBut sizes m byte bytes → IsInUse bytes → byte ≡ 1
in-use-one sizes m byte bytes but in-it = by-which (which sizes m byte bytes but)
  where
    by-which : Which sizes m byte bytes → byte ≡ 1
    by-which (IsShut zero-byte shut file) = absurd (not-in_use m bytes file in-it)
    by-which (IsInUseNow one used) = one
    by-which (IsLostNow above lost) = absurd (lost.none in-it.0 in-it.1.0.spelled)

never-small : (sizes : Sizes) (m : Map) (byte : ℕ) (bytes : List ℕ) → StandsBut sizes m byte bytes → IsSmall bytes → ⊥
never-small sizes m byte bytes but small = by-which (which sizes m byte bytes but)
  where
    by-which : Which sizes m byte bytes → ⊥
    by-which (IsShut zero-byte shut file) = not-small m bytes file small
    by-which (IsInUseNow one used) = used-small bytes used small
    by-which (IsLostNow above lost) = lost-small bytes lost small

never-bad : (sizes : Sizes) (m : Map) (byte : ℕ) (bytes : List ℕ) (header : Header) (number : ℕ) → StandsBut sizes m byte bytes → HasBadCell header number bytes → ⊥
never-bad sizes m byte bytes header number but bad = not-bad_cell m bytes (ready-zero sizes m byte bytes header but bad.was).1.0 header number bad

so : {A : Type 0} (told : Option (List ℕ)) (P Q : List ℕ → Type 0) → ((bytes : List ℕ) → P bytes → Q bytes → A) → IsSomeAnd told P → IfSome told Q → A
so None P Q h some if_so = absurd some
so (Some bytes) P Q h some if_so = h bytes some if_so

-- ---- replies

unequal : (a b : ℕ) → (a ≡ b → ⊥) → nat_eq a b ≡ false
unequal a b differ = by-test (eqb_tells a b)
  where
    by-test : ((nat_eq a b ≡ true) × (a ≡ b)) ⊎ ((nat_eq a b ≡ false) × (a ≡ b → ⊥)) → nat_eq a b ≡ false
    by-test (inl (t, e)) = absurd (differ e)
    by-test (inr (f, n)) = f

reply-above : (m : Map) (byte : ℕ) → 1 < byte → (reply.Refused reply.NotStore ≡ reopen_reply m byte) × (machine.Closed m byte ≡ reopen_after m byte)
reply-above m byte above =
    let none = unequal byte 0 (λ e. omega (arith, e, above)) in
    let one = unequal byte 1 (λ e. omega (arith, e, above)) in (
      sym (ap (λ b. if b then reply.Opened (count m) else if nat_eq byte 1 then reply.Refused reply.NotClosed else reply.Refused reply.NotStore) none ∙ ap (λ b. if b then reply.Refused reply.NotClosed else reply.Refused reply.NotStore) one),
      sym (ap (λ b. if b then machine.Open m else machine.Closed m byte) none),
    )

-- ---- the answers

module _ {D : Type 0} (d : device.Ghosts D) (cache : ℕ) (before : D) where
  -- a store is open again
  opened-at : (store : Stored D) → IsStoreOpened d before cache store → (sizes : Sizes) (state : State) → IsAt d sizes (Closed before) state → StepsTo d sizes state (turn_of Reopen (reply.Opened store.count) 0) (Open store)
  opened-at store opened sizes (machine.Open m) at = absurd at
  opened-at store opened sizes (machine.Closing m) at = absurd at
  opened-at store opened sizes (machine.Closed m byte) at =
      let header = opened.header in
      let ready : (byte ≡ 0) × (sizes_of header.geometry ≡ sizes) = so (d.bytes before) (StandsBut sizes m byte) (IsReady header) (λ bytes but is. ((ready-zero sizes m byte bytes header but is.was).0, (ready-zero sizes m byte bytes header but is.was).1.1)) at opened.opened.was in
      let holds : Holds d.bytes store m =
      so (d.bytes before) (StandsBut sizes m byte) (λ bytes. IsReady header bytes × ((n : Map) → FileStandsFor bytes n → Holds d.bytes store n))
      (λ bytes but is. is.1 m (ready-zero sizes m byte bytes header but is.0.was).1.0) at (pair-so (d.bytes before) (IsReady header) (λ bytes. (n : Map) → FileStandsFor bytes n → Holds d.bytes store n) opened.opened.was opened.holds) in
      record {
        next = machine.Open m;
        step = subst (λ (n : ℕ). Step (shape sizes) (machine.Closed m n) (turn_of Reopen (reply.Opened store.count) 0) (machine.Open m)) (sym ready.0) (ap reply.Opened holds.counted, refl);
        at = (ap sizes_of opened.opened.geometry ∙ ready.1, holds);
      }
    where
      pair-so : (told : Option (List ℕ)) (P Q : List ℕ → Type 0) → IfSome told P → IfSome told Q → IfSome told (λ bytes. P bytes × Q bytes)
      pair-so None P Q p q = tt
      pair-so (Some bytes) P Q p q = (p, q)

  pub ready-sizes : (sizes : Sizes) (header : Header) (bytes : List ℕ) → HasSizes sizes bytes → WasClosed header bytes → sizes_of header.geometry ≡ sizes
  ready-sizes sizes header bytes has was =
      let l = size-large (sizes_of header.geometry) in
      sizes-one (fields_of header) has.header has.state bytes (omega (arith, l, was.has.whole)) was.has.spelled has.has.spelled ∙ has.sizes_are

  told-so : (told : Option (List ℕ)) (P Q : List ℕ → Type 0) → IsSome told → IfSome told P → IfSome told Q → IsSomeAnd told (λ bytes. P bytes × Q bytes)
  told-so None P Q some p q = absurd (false≢true some)
  told-so (Some bytes) P Q some p q = (p, q)

  opened-sizes : (store : Stored D) → IsStoreOpened d before cache store → (sizes : Sizes) → IsOfSizes d sizes (Closed before) → sizes_of (geometry_of store) ≡ sizes
  opened-sizes store opened sizes h =
      let here = told-so (d.bytes before) (HasSizes sizes) (IsReady opened.header) h.tells h.sizes_are opened.opened.was in
      ap sizes_of opened.opened.geometry ∙ so (d.bytes before) (λ bytes. HasSizes sizes bytes × IsReady opened.header bytes) (λ bytes. ⊤) (λ bytes is _. ready-sizes sizes opened.header bytes is.0 is.1.was) here (any (d.bytes before))
    where
      any : (told : Option (List ℕ)) → IfSome told (λ bytes. ⊤)
      any None = tt
      any (Some bytes) = tt

  -- another state byte keeps what is behind, and the sizes
  state-behind : (sizes : Sizes) (old new : Option (List ℕ)) → IfSome old (λ bytes. 15 ≤ length bytes) → Both old new (λ a b. (state : ℕ) × (b ≡ with_state state a)) → Both old new (KeepsBehind sizes)
  state-behind sizes None None long both = tt
  state-behind sizes None (Some b) long both = absurd both
  state-behind sizes (Some a) None long both = absurd both
  state-behind sizes (Some a) (Some b) long both = subst (λ (xs : List ℕ). KeepsBehind sizes a xs) (sym both.1) (keeps-behind sizes both.0 a long)

  one-of : (old new : Option (List ℕ)) → Both old new (λ a b. b ≡ with_state 1 a) → Both old new (λ a b. (state : ℕ) × (b ≡ with_state state a))
  one-of None None both = tt
  one-of None (Some b) both = absurd both
  one-of (Some a) None both = absurd both
  one-of (Some a) (Some b) both = (1, both)

  was-long : (header : Header) (told : Option (List ℕ)) → IfSome told (IsReady header) → IfSome told (λ bytes. 15 ≤ length bytes)
  was-long header None ready = tt
  was-long header (Some bytes) ready = let l = size-large (sizes_of header.geometry) in omega (arith, l, ready.was.has.whole)

  opened-facts : (store : Stored D) → IsStoreOpened d before cache store → d.kept store.chain.store.buffers.cache.device ≡ d.kept before → TurnFacts d Reopen (Closed before) (reply.Opened store.count) (Open store)
  opened-facts store opened kept =
      let now = d.bytes store.chain.store.buffers.cache.device in
      let left = one-of (d.bytes before) now opened.opened.marked in
      record {
        faults = opened.opened.no_fault;
        keeps = record {
          kept = kept;
          faults_stay = opened.opened.spends.faults_stay;
          sizes = λ sizes h. record {
            tells = both-told (d.bytes before) now (λ a b. (state : ℕ) × (b ≡ with_state state a)) left h.tells;
            sizes_are = opened-sizes store opened sizes h;
          };
          behind = λ sizes h. state-behind sizes (d.bytes before) now (was-long opened.header (d.bytes before) opened.opened.was) left;
          cache_stays = tt;
        };
        steps = opened-at store opened;
      }

  -- ---- refusals that keep all bytes

  refused-keeps : (now : D) → d.bytes now ≡ d.bytes before → d.kept now ≡ d.kept before → (d.counts before).faults ≤ (d.counts now).faults → Keeps d (Closed before) (Closed now)
  refused-keeps now bytes kept faults = record {
    kept = kept;
    faults_stay = faults;
    sizes = λ sizes h. record {
      tells = subst (λ (t : Option (List ℕ)). IsSome t) (sym bytes) h.tells;
      sizes_are = subst (λ (t : Option (List ℕ)). IfSome t (HasSizes sizes)) (sym bytes) h.sizes_are;
    };
    behind = λ sizes h. subst (λ (t : Option (List ℕ)). Both (d.bytes before) t (KeepsBehind sizes)) (sym bytes) (same-behind d sizes (d.bytes before));
    cache_stays = tt;
  }

  at-still : (now : D) → d.bytes now ≡ d.bytes before → (sizes : Sizes) (m : Map) (byte : ℕ) → IsSomeAnd (d.bytes before) (StandsBut sizes m byte) → IsSomeAnd (d.bytes now) (StandsBut sizes m byte)
  at-still now bytes sizes m byte at = subst (λ (t : Option (List ℕ)). IsSomeAnd t (StandsBut sizes m byte)) (sym bytes) at

  -- a refusal for some reason, which the state at the place allows
  refused-facts : (now : D) (why : List ℕ → Type 0) (reads others : ℕ) (answer : Reply) → IsSeen d before why reads others now → d.kept now ≡ d.kept before → ((b n : ℕ) → n ≡ b → KindFaults (kind_of answer) b n)
      → ((sizes : Sizes) (m : Map) (byte : ℕ) → IsSomeAnd (d.bytes before) (StandsBut sizes m byte) → Step (shape sizes) (machine.Closed m byte) (turn_of Reopen answer 0) (machine.Closed m byte))
      → TurnFacts d Reopen (Closed before) answer (Closed now)
  refused-facts now why reads others answer is kept free step = record {
    faults = free (d.counts before).faults (d.counts now).faults is.no_fault;
    keeps = refused-keeps now is.bytes_stay kept is.spends.faults_stay;
    steps = at-state;
  }
    where
      at-state : (sizes : Sizes) (state : State) → IsAt d sizes (Closed before) state → StepsTo d sizes state (turn_of Reopen answer 0) (Closed now)
      at-state sizes (machine.Open m) at = absurd at
      at-state sizes (machine.Closing m) at = absurd at
      at-state sizes (machine.Closed m byte) at = record { next = machine.Closed m byte; step = step sizes m byte at; at = at-still now is.bytes_stay sizes m byte at }

  why-so : {A : Type 0} (now : D) (why : List ℕ → Type 0) (reads others : ℕ) → IsSeen d before why reads others now → (sizes : Sizes) (m : Map) (byte : ℕ) → IsSomeAnd (d.bytes before) (StandsBut sizes m byte) → ((bytes : List ℕ) → StandsBut sizes m byte bytes → why bytes → A) → A
  why-so now why reads others is sizes m byte at h = so (d.bytes before) (StandsBut sizes m byte) why h at is.why_is

  -- ---- faults

  -- a file with any state byte
  left-at : (sizes : Sizes) (m : Map) (byte state : ℕ) (bytes : List ℕ) → StandsBut sizes m byte bytes → StandsBut sizes m (min state 255) (with_state state bytes)
  left-at sizes m byte state bytes but =
      let long = enough sizes m byte bytes but in
      record {
        header = but.header;
        stands = subst (λ (xs : List ℕ). HeaderStandsFor but.header xs m) (sym (state-twice state bytes long 0)) but.stands;
        sizes_are = but.sizes_are;
        state = state;
        state_is = state-twice state bytes long state;
        byte_is = refl;
      }

  byte-small : (sizes : Sizes) (m : Map) (byte : ℕ) (bytes : List ℕ) → StandsBut sizes m byte bytes → byte < 256
  byte-small sizes m byte bytes but = let e = but.byte_is in omega (arith, e)

  -- some file that stands for the map but for a byte
  pub record LeftAt (sizes : Sizes) (m : Map) (now : Option (List ℕ)) : Type 0 where
    pub byte : ℕ
    pub small : byte < 256
    pub at : IsSomeAnd now (StandsBut sizes m byte)

  same-left : (sizes : Sizes) (m : Map) (byte : ℕ) (told now : Option (List ℕ)) → now ≡ told → IsSomeAnd told (StandsBut sizes m byte) → LeftAt sizes m now
  same-left sizes m byte None now same at = absurd at
  same-left sizes m byte (Some bytes) now same at = record { byte = byte; small = byte-small sizes m byte bytes at; at = subst (λ (t : Option (List ℕ)). IsSomeAnd t (StandsBut sizes m byte)) (sym same) at }

  marked-left : (sizes : Sizes) (m : Map) (byte : ℕ) (told now : Option (List ℕ)) → Both told now (λ a b. (state : ℕ) × (b ≡ with_state state a)) → IsSomeAnd told (StandsBut sizes m byte) → LeftAt sizes m now
  marked-left sizes m byte None now both at = absurd at
  marked-left sizes m byte (Some a) None both at = absurd both
  marked-left sizes m byte (Some a) (Some b) both at = record {
    byte = min both.0 255;
    small = omega arith;
    at = subst (λ (xs : List ℕ). StandsBut sizes m (min both.0 255) xs) (sym both.1) (left-at sizes m byte both.0 a at);
  }

  fault-left : (now : D) → DeviceFailed d before now → (sizes : Sizes) (m : Map) (byte : ℕ) → IsSomeAnd (d.bytes before) (StandsBut sizes m byte) → LeftAt sizes m (d.bytes now)
  fault-left now failed sizes m byte at = by-place failed.at
    where
      by-place : FailedAtHeader d before now ⊎ (FailedAtCells d before now ⊎ FailedAtMark d before now) → LeftAt sizes m (d.bytes now)
      by-place (inl header) = same-left sizes m byte (d.bytes before) (d.bytes now) header.bytes_stay at
      by-place (inr (inl cells)) = same-left sizes m byte (d.bytes before) (d.bytes now) cells.bytes_stay at
      by-place (inr (inr mark)) = marked-left sizes m byte (d.bytes before) (d.bytes now) mark.left at

  -- the sizes after a fault
  sizes-after : (sizes : Sizes) (state : ℕ) (bytes : List ℕ) → HasSizes sizes bytes → HasSizes sizes (with_state state bytes)
  sizes-after sizes state bytes has =
      let l = size-large (sizes_in has.header) in
      let long = long-bytes has.state bytes (omega (arith, l, has.has.whole)) in
      record {
        state = has.state;
        header = has.header;
        has = subst (λ (xs : List ℕ). HasHeader has.header xs) (sym (state-twice state bytes long has.state)) has.has;
        sizes_are = has.sizes_are;
      }

  has-long : (sizes : Sizes) (bytes : List ℕ) → HasSizes sizes bytes → 15 ≤ length bytes
  has-long sizes bytes has = let l = size-large (sizes_in has.header) in long-bytes has.state bytes (omega (arith, l, has.has.whole))

  -- what a fault keeps where bytes are told
  record KeptAfter (sizes : Sizes) (told now : Option (List ℕ)) : Type 0 where
    pub tells : IsSome now
    pub has : IfSome now (HasSizes sizes)
    pub behind : Both told now (KeepsBehind sizes)

  kept-same : (sizes : Sizes) (told now : Option (List ℕ)) → now ≡ told → IsSome told → IfSome told (HasSizes sizes) → KeptAfter sizes told now
  kept-same sizes told now same some has = subst (λ (t : Option (List ℕ)). KeptAfter sizes told t) (sym same) (record { tells = some; has = has; behind = same-behind d sizes told })

  kept-marked : (sizes : Sizes) (told now : Option (List ℕ)) → Both told now (λ a b. (state : ℕ) × (b ≡ with_state state a)) → IsSome told → IfSome told (HasSizes sizes) → KeptAfter sizes told now
  kept-marked sizes None now both some has = absurd (false≢true some)
  kept-marked sizes (Some a) None both some has = absurd both
  kept-marked sizes (Some a) (Some b) both some has = record {
    tells = refl;
    has = subst (λ (xs : List ℕ). HasSizes sizes xs) (sym both.1) (sizes-after sizes both.0 a has);
    behind = subst (λ (xs : List ℕ). KeepsBehind sizes a xs) (sym both.1) (keeps-behind sizes both.0 a (has-long sizes a has));
  }

  kept-after : (now : D) → DeviceFailed d before now → (sizes : Sizes) → IsOfSizes d sizes (Closed before) → KeptAfter sizes (d.bytes before) (d.bytes now)
  kept-after now failed sizes h = by-place failed.at
    where
      by-place : FailedAtHeader d before now ⊎ (FailedAtCells d before now ⊎ FailedAtMark d before now) → KeptAfter sizes (d.bytes before) (d.bytes now)
      by-place (inl header) = kept-same sizes (d.bytes before) (d.bytes now) header.bytes_stay h.tells h.sizes_are
      by-place (inr (inl cells)) = kept-same sizes (d.bytes before) (d.bytes now) cells.bytes_stay h.tells h.sizes_are
      by-place (inr (inr mark)) = kept-marked sizes (d.bytes before) (d.bytes now) mark.left h.tells h.sizes_are

  fault-stay : (now : D) → DeviceFailed d before now → (d.counts before).faults ≤ (d.counts now).faults
  fault-stay now failed = by-place failed.at
    where
      by-place : FailedAtHeader d before now ⊎ (FailedAtCells d before now ⊎ FailedAtMark d before now) → (d.counts before).faults ≤ (d.counts now).faults
      by-place (inl header) = header.spends.faults_stay
      by-place (inr (inl cells)) = cells.spends.faults_stay
      by-place (inr (inr mark)) = mark.spends.faults_stay

  failed-facts : (now : D) → DeviceFailed d before now → d.kept now ≡ d.kept before → TurnFacts d Reopen (Closed before) (reply.Failed reply.Fault) (Closed now)
  failed-facts now failed kept = record {
    faults = failed.cause;
    keeps = record {
      kept = kept;
      faults_stay = fault-stay now failed;
      sizes = λ sizes h. let k = kept-after now failed sizes h in record { tells = k.tells; sizes_are = k.has };
      behind = λ sizes h. (kept-after now failed sizes h).behind;
      cache_stays = tt;
    };
    steps = at-state;
  }
    where
      at-state : (sizes : Sizes) (state : State) → IsAt d sizes (Closed before) state → StepsTo d sizes state (turn_of Reopen (reply.Failed reply.Fault) 0) (Closed now)
      at-state sizes (machine.Open m) at = absurd at
      at-state sizes (machine.Closing m) at = absurd at
      at-state sizes (machine.Closed m byte) at =
          let left = fault-left now failed sizes m byte at in
          record { next = machine.Closed m left.byte; step = (refl, (left.byte, left.small, refl)); at = left.at }

  refusal-facts : (now : D) (fault : OpenFault) → Opens d before cache (Err (now, fault)) → d.kept now ≡ d.kept before → TurnFacts d Reopen (Closed before) (refused_reply fault) (Closed now)
  refusal-facts now fault.NotStore is kept =
      refused-facts now IsNoStore 1 1 (reply.Refused reply.NotStore) is kept (λ b n e. e)
      (λ sizes m byte at. reply-above m byte (why-so now IsNoStore 1 1 is sizes m byte at (no-store-above sizes m byte)))
  refusal-facts now fault.NotClosed is kept =
      refused-facts now IsInUse 1 1 (reply.Refused reply.NotClosed) is kept (λ b n e. e)
      (λ sizes m byte at. subst (λ (n : ℕ). Step (shape sizes) (machine.Closed m n) (turn_of Reopen (reply.Refused reply.NotClosed) 0) (machine.Closed m n)) (sym (why-so now IsInUse 1 1 is sizes m byte at (in-use-one sizes m byte))) (refl, refl))
  refusal-facts now fault.Small is kept =
      refused-facts now IsSmall 1 1 (reply.Refused reply.Small) is kept (λ b n e. e)
      (λ sizes m byte at. absurd (why-so now IsSmall 1 1 is sizes m byte at (never-small sizes m byte)))
  refusal-facts now fault.Device is kept = failed-facts now is kept
  refusal-facts now fault.OutOfMemory is kept =
      refused-facts now (λ bytes. (header : Header) × WasClosed header bytes) 1 1 (reply.Refused reply.Memory) is kept (λ b n e. e)
      (λ sizes m byte at. subst (λ (n : ℕ). Step (shape sizes) (machine.Closed m n) (turn_of Reopen (reply.Refused reply.Memory) 0) (machine.Closed m n))
      (sym (why-so now (λ bytes. (header : Header) × WasClosed header bytes) 1 1 is sizes m byte at (λ bytes but was. (ready-zero sizes m byte bytes was.0 but was.1).0))) refl)
  refusal-facts now (fault.BadCell number) (header, is) kept =
      refused-facts now (HasBadCell header number) (opening_reads header) 1 (reply.Failed (reply.Damaged number)) is kept (λ b n e. e)
      (λ sizes m byte at. absurd (why-so now (HasBadCell header number) (opening_reads header) 1 is sizes m byte at (λ bytes but bad. never-bad sizes m byte bytes header number but bad)))

-- a store that is open, or not closed yet, is not opened again
already-open : {D : Type 0} (d : device.Ghosts D) (store : Stored D) (sizes : Sizes) (state : State) → IsAt d sizes (Open store) state → (reply.Already ≡ plain_reply (shape sizes) state (Some Reopen)) × (state ≡ plain_after (shape sizes) state (Some Reopen))
already-open d store sizes (machine.Open m) at = (refl, refl)
already-open d store sizes (machine.Closing m) at = absurd at
already-open d store sizes (machine.Closed m byte) at = absurd at

already-closing : {D : Type 0} (d : device.Ghosts D) (closing : ClosingStore D d) (sizes : Sizes) (state : State) → IsAt d sizes (Closing closing) state → (reply.Already ≡ plain_reply (shape sizes) state (Some Reopen)) × (state ≡ plain_after (shape sizes) state (Some Reopen))
already-closing d closing sizes (machine.Open m) at = absurd at
already-closing d closing sizes (machine.Closing m) at = (refl, refl)
already-closing d closing sizes (machine.Closed m byte) at = absurd at

-- what follows of the cause of an answer to `open`
pub open-facts : {D : Type 0} (d : device.Ghosts D) (cache : ℕ) (old : Place D d) (answer : Reply) (new : Place D d) → OpenCause d cache old answer new → d.kept (device_of new) ≡ d.kept (device_of old) → TurnFacts d Reopen old answer new
open-facts d cache (Open store) answer new (a, n) kept = facts-of d Reopen (Open store) answer reply.Already new (Open store) a n (stays d Reopen (Open store) reply.Already refl (already-open d store))
open-facts d cache (Closing closing) answer new (a, n) kept = facts-of d Reopen (Closing closing) answer reply.Already new (Closing closing) a n (stays d Reopen (Closing closing) reply.Already refl (already-closing d closing))
open-facts d cache (Closed before) answer new (Ok store, (opens, (a, n))) kept =
    facts-of d Reopen (Closed before) answer (reply.Opened store.count) new (Open store) a n (opened-facts d cache before store opens (kept-of d (Closed before) new (Open store) n kept))
open-facts d cache (Closed before) answer new (Err (now, fault), (opens, (a, n))) kept =
    facts-of d Reopen (Closed before) answer (refused_reply fault) new (Closed now) a n (refusal-facts d cache before now fault opens (kept-of d (Closed before) new (Closed now) n kept))
