-- Sessions over two files: what is left of them, and that one of them is enough.
use Rattle.std.proofs.Common.{◌≡◌, ◌≢◌, ◌⊎◌, inl, inr, ℕ, zero, suc, ◌≤◌, Bool, true, false, ◌&&◌, List, Option, Some, None, refl, sym, ap, ◌∙◌, subst, arith}
use Rattle.std.specs.Prelude.{is_some, IsSomeAnd}
use Rattle.cola_outside.specs.Faults.{RoseBy, Rose}
use Rattle.cola_device.specs.declared.device.Device as device
use Rattle.cola_io.specs.declared.source.Source as source
use Rattle.cola_io.specs.declared.sink.Sink as sink
use Rattle.cola_spec.specs.Map.{Map}
use Rattle.cola_image.specs.Standing.{FileStandsFor}
use Rattle.cola_mirror.specs.declared.sides.Sides.{Sides}
use Rattle.cola_mirror.specs.declared.sides.Sides.TheVariants.{Both, First, Second}
use Rattle.cola_mirror.specs.Differ.{first_difference, DifferAt, IfBoth}
use Rattle.cola_mirror.specs.Mirror.{told_where, Settings, MetFaults}
use Rattle.cola_mirror.specs.Sides.{has_first, has_second}
use Rattle.cola_mirror.specs.Device.{mirror_device, new_pair}
use Rattle.cola_mirror.proofs.DifferLemmas.{difference-none, some-differ}
use Rattle.cola_mirror.proofs.SoundLemmas.{first-calm, second-calm}
use Rattle.cola_store.specs.declared.fault.OpenFault.{OpenFault}
use Rattle.cola_store.specs.declared.fault.OpenFault.TheVariants as fault
use Rattle.cola_session.specs.Ends.{NotBegun, Status0, Status3, Status4, Status5, Status9}
use Rattle.cola_workload.specs.Refused.{refusal_status}
use Rattle.cola_command.specs.Headline.{FileEnds}
use Rattle.cola_command_laws.specs.HeadlineLaws.{NoneFails, Completes, Answered, OutOfMemory}
use Rattle.cola_command.specs.Mirrored.{mirrored_status, IsMirrored, MirrorEnds, NotCompared, Differ, Mirrored}
use Rattle.cola_command_laws.specs.MirrorLaws.{LeftOn, OneAnswers, MirrorCompletes, GoesOn, WithoutMemory, Stopped}
use Rattle.cola_command_laws.proofs.Completing as completing

-- Statuses

-- a status other than 0 stays
pub status-stays : (status : ℕ) (sides : Sides) → status ≢ 0 → status ≡ mirrored_status status sides
status-stays zero sides some = absurd (some refl)
status-stays (suc status) sides some = refl

refusal-low : (why : OpenFault) → refusal_status why ≤ 10
refusal-low fault.OutOfMemory = omega arith
refusal-low fault.Device = omega arith
refusal-low fault.NotStore = omega arith
refusal-low fault.Small = omega arith
refusal-low fault.NotClosed = omega arith
refusal-low (fault.BadCell cell) = omega arith

-- and these are the sides that are in use, by a status above those of a session over one file, or 0
sides-by : (of_lines : ℕ) (sides : Sides) → of_lines ≤ 10
    → (mirrored_status of_lines sides ≡ 0 → (of_lines ≡ 0) × (sides ≡ Both)) × ((mirrored_status of_lines sides ≡ 17 → (of_lines ≡ 0) × (sides ≡ Second)) × (mirrored_status of_lines sides ≡ 18 → (of_lines ≡ 0) × (sides ≡ First)))
sides-by zero Both low = (λ is. (refl, refl), ((λ is. absurd (omega (arith, is))), (λ is. absurd (omega (arith, is)))))
sides-by zero First low = (λ is. absurd (omega (arith, is)), ((λ is. absurd (omega (arith, is))), (λ is. (refl, refl))))
sides-by zero Second low = (λ is. absurd (omega (arith, is)), ((λ is. (refl, refl)), (λ is. absurd (omega (arith, is)))))
sides-by (suc status) sides low = (λ is. absurd (omega (arith, is)), ((λ is. absurd (omega (arith, is, low))), (λ is. absurd (omega (arith, is, low)))))

of-sides : (sides : Sides) (status : ℕ) → status ≡ mirrored_status 0 sides → (status ≡ 0) ⊎ ((status ≡ 17) ⊎ (status ≡ 18))
of-sides Both status is = inl is
of-sides First status is = inr (inr is)
of-sides Second status is = inr (inl is)

-- Sessions over one device

module _ {S K D : Type 0} (g : source.Ghosts S) (h : sink.Ghosts K) (d : device.Ghosts D) (cache : ℕ) (cost : Bool) (source source' : S) (sink sink' : K) (device device' : D) (steps steps' : ℕ) where
  ends-low : (status : ℕ) → FileEnds g h d cache cost source source' sink sink' device device' steps steps' status → status ≤ 10
  ends-low status (NotBegun refused) = let low = refusal-low refused.why in omega (arith, refused.status_is, low)
  ends-low status (Status0 is ends) = omega (arith, is)
  ends-low status (Status3 is ends) = omega (arith, is)
  ends-low status (Status4 is ends) = omega (arith, is)
  ends-low status (Status5 is ends) = omega (arith, is)
  ends-low status (Status9 is ends) = omega (arith, is)

  kept-by : (status : ℕ) → FileEnds g h d cache cost source source' sink sink' device device' steps steps' status → d.kept device' ≡ d.kept device
  kept-by status (NotBegun refused) = refused.kept
  kept-by status (Status0 is ends) = (ends.carried None tt).carried.kept
  kept-by status (Status3 is ends) = (ends.carried None tt).carried.kept
  kept-by status (Status4 is ends) = (ends.carried None tt).carried.kept
  kept-by status (Status5 is ends) = (ends.carried None tt).carried.kept
  kept-by status (Status9 is ends) = (ends.carried None tt).carried.kept

-- Told bytes

told-stands : (P : List ℕ → Type 0) (tells : Bool) (told : Option (List ℕ)) → is_some told ≡ tells → IsSomeAnd told P → IsSomeAnd (told_where (tells && tells) told) P
told-stands P true told is so = so
told-stands P false None is so = so
told-stands P false (Some bytes) is so = cc

-- lists that are the same differ nowhere
never-differ : (P : List ℕ → Type 0) (place : ℕ) (first second : Option (List ℕ)) → IsSomeAnd first P → second ≡ first → IfBoth first second (λ xs ys. Some place ≡ first_difference xs ys) → ⊥
never-differ P place None second so same differ = so
never-differ P place (Some xs) second so same differ = some-none (subst (λ (told : Option (List ℕ)). IfBoth (Some xs) told (λ xs ys. Some place ≡ first_difference xs ys)) same differ ∙ difference-none xs)
  where
    some-none : Some place ≡ None → ⊥
    some-none is = cc

rose-from : (before between made now : ℕ) → before ≤ between → made ≡ between → Rose made now → Rose before now
rose-from before between made now stays is rose = omega (arith, stays, is, rose)

-- Faulted turns

met-used : (used : Bool) (own before now : ℕ) → used ≡ true → MetFaults used own before now → RoseBy own before now
met-used true own before now is met = met
met-used false own before now is met = cc

-- at most as many turns as a mirror met faults, which are at most as many as a side in use met
pub rose-through : (used : Bool) (steps own before now : ℕ) → RoseBy steps 0 own → used ≡ true → MetFaults used own before now → RoseBy steps before now
rose-through used steps own before now rose is met = let side = met-used used own before now is met in omega (arith, rose, side)

-- Sessions over two

module _ {S K D : Type 0} (g : source.Ghosts S) (h : sink.Ghosts K) (d : device.Ghosts D) (cache : ℕ) (cost : Bool) (source source' : S) (sink sink' : K) (device device' second second' : D) (steps steps' : ℕ) where
  module _ (status : ℕ) (mirrored : IsMirrored g h d cache cost source source' sink sink' device device' second second' steps steps' status) where
    first-left : has_first mirrored.last.sides ≡ true → d.bytes device' ≡ (mirror_device d d).bytes mirrored.last
    first-left used = ap d.bytes mirrored.device_is ∙ mirrored.sound.first_bytes used

    second-left : has_second mirrored.last.sides ≡ true → d.bytes second' ≡ (mirror_device d d).bytes mirrored.last
    second-left used = ap d.bytes mirrored.second_is ∙ mirrored.sound.second_bytes used

    low : mirrored.of_lines ≤ 10
    low = ends-low g h (mirror_device d d) cache cost source source' sink sink' (new_pair d d mirrored.first mirrored.other) mirrored.last steps steps' mirrored.of_lines mirrored.ends

    left-on : (sides : Sides) → (mirrored.of_lines ≡ 0) × (mirrored.last.sides ≡ sides) → LeftOn g h d cache cost source source' sink sink' device device' second second' steps steps' (has_first sides) (has_second sides) status
    left-on sides (is, sides_are) = record {
      mirrored = mirrored;
      of_lines_is = is;
      first_has = λ used. first-left (ap has_first sides_are ∙ used);
      second_has = λ used. second-left (ap has_second sides_are ∙ used);
    }

    pub both-left : status ≡ 0 → LeftOn g h d cache cost source source' sink sink' device device' second second' steps steps' true true status
    both-left is = left-on Both ((sides-by mirrored.of_lines mirrored.last.sides low).0 (sym mirrored.status_is ∙ is))

    pub second-only : status ≡ 17 → LeftOn g h d cache cost source source' sink sink' device device' second second' steps steps' false true status
    second-only is = left-on Second ((sides-by mirrored.of_lines mirrored.last.sides low).1.0 (sym mirrored.status_is ∙ is))

    pub first-only : status ≡ 18 → LeftOn g h d cache cost source source' sink sink' device device' second second' steps steps' true false status
    first-only is = left-on First ((sides-by mirrored.of_lines mirrored.last.sides low).1.1 (sym mirrored.status_is ∙ is))

    -- what the mirror keeps tells how many faults its sides had met
    settings : (mirror_device d d).kept mirrored.last ≡ (mirror_device d d).kept (new_pair d d mirrored.first mirrored.other)
    settings = kept-by g h (mirror_device d d) cache cost source source' sink sink' (new_pair d d mirrored.first mirrored.other) mirrored.last steps steps' mirrored.of_lines mirrored.ends

    first-calmed : (Rose (d.counts device).faults (d.counts device').faults → ⊥) → mirrored.last.counts.faults ≡ 0
    first-calmed calm = (first-calm d d mirrored.last mirrored.sound (λ rose. calm (subst (λ (now : D). Rose (d.counts device).faults (d.counts now).faults) (sym mirrored.device_is)
        (rose-from (d.counts device).faults (d.counts mirrored.first).faults mirrored.last.first_faults (d.counts mirrored.last.first).faults mirrored.only_compared.only_read.spends.faults_stay (ap (λ (all : Settings d.Kept d.Kept). all.first_faults) settings) rose)))).1

    second-calmed : (Rose (d.counts second).faults (d.counts second').faults → ⊥) → mirrored.last.counts.faults ≡ 0
    second-calmed calm = (second-calm d d mirrored.last mirrored.sound (λ rose. calm (subst (λ (now : D). Rose (d.counts second).faults (d.counts now).faults) (sym mirrored.second_is)
        (rose-from (d.counts second).faults (d.counts mirrored.other).faults mirrored.last.second_faults (d.counts mirrored.last.second).faults mirrored.only_compared.only_read.second_spends.faults_stay (ap (λ (all : Settings d.Kept d.Kept). all.second_faults) settings) rose)))).1

    none-met : (Rose (d.counts device).faults (d.counts device').faults → ⊥) ⊎ (Rose (d.counts second).faults (d.counts second').faults → ⊥) → mirrored.last.counts.faults ≡ 0
    none-met (inl calm) = first-calmed calm
    none-met (inr calm) = second-calmed calm

    calm-mirror : mirrored.last.counts.faults ≡ 0 → Rose 0 mirrored.last.counts.faults → ⊥
    calm-mirror none rose = omega (arith, none, rose)

    module _ (told : (device : D) → is_some (d.bytes device) ≡ d.tells) (m : Map) (sound : OneAnswers g h d cache cost source source' sink sink' device device' second second' steps steps' m) where
      none-fails : NoneFails g h (mirror_device d d) m source source' sink sink' (new_pair d d mirrored.first mirrored.other) mirrored.last
      none-fails = record {
        stands = told-stands (λ bytes. FileStandsFor bytes m) d.tells (d.bytes mirrored.first) (told mirrored.first) (subst (λ (told : Option (List ℕ)). IsSomeAnd told (λ bytes. FileStandsFor bytes m)) (sym mirrored.only_compared.only_read.bytes_stay) sound.stands);
        nothing = sound.nothing;
        device_answers = calm-mirror (none-met sound.one_answers);
      }

      goes-on : Completes g h (mirror_device d d) cache cost m source source' sink sink' (new_pair d d mirrored.first mirrored.other) mirrored.last steps steps' mirrored.of_lines → MirrorCompletes g h d cache cost source source' sink sink' device device' second second' steps steps' m status
      goes-on (Answered is all) = GoesOn mirrored (of-sides mirrored.last.sides status (mirrored.status_is ∙ ap (λ (n : ℕ). mirrored_status n mirrored.last.sides) is)) all
      goes-on (OutOfMemory is refused) = WithoutMemory mirrored (mirrored.status_is ∙ ap (λ (n : ℕ). mirrored_status n mirrored.last.sides) is)

      pub served : MirrorCompletes g h d cache cost source source' sink sink' device device' second second' steps steps' m status
      served = goes-on (completing.completes g h (mirror_device d d) cache cost m source source' sink sink' (new_pair d d mirrored.first mirrored.other) mirrored.last steps steps' mirrored.of_lines mirrored.ends none-fails)

  pub completes : (told : (device : D) → is_some (d.bytes device) ≡ d.tells) (m : Map) (status : ℕ) → MirrorEnds g h d cache cost source source' sink sink' device device' second second' steps steps' status → OneAnswers g h d cache cost source source' sink sink' device device' second second' steps steps' m → MirrorCompletes g h d cache cost source source' sink sink' device device' second second' steps steps' m status
  completes told m status (NotCompared is fault compared) sound = Stopped is fault compared
  completes told m status (Differ is place compared) sound = absurd (never-differ (λ bytes. FileStandsFor bytes m) place (d.bytes device) (d.bytes second) sound.stands sound.same compared.compares.place_is)
  completes told m status (Mirrored mirrored) sound = served status mirrored told m sound

  -- Files that are left

  pub both : MirrorEnds g h d cache cost source source' sink sink' device device' second second' steps steps' 0 → LeftOn g h d cache cost source source' sink sink' device device' second second' steps steps' true true 0
  both (NotCompared is fault compared) = absurd (omega (arith, is))
  both (Differ is place compared) = absurd (omega (arith, is))
  both (Mirrored mirrored) = both-left 0 mirrored refl

  pub only-second : MirrorEnds g h d cache cost source source' sink sink' device device' second second' steps steps' 17 → LeftOn g h d cache cost source source' sink sink' device device' second second' steps steps' false true 17
  only-second (NotCompared is fault compared) = absurd (omega (arith, is))
  only-second (Differ is place compared) = absurd (omega (arith, is))
  only-second (Mirrored mirrored) = second-only 17 mirrored refl

  pub only-first : MirrorEnds g h d cache cost source source' sink sink' device device' second second' steps steps' 18 → LeftOn g h d cache cost source source' sink sink' device device' second second' steps steps' true false 18
  only-first (NotCompared is fault compared) = absurd (omega (arith, is))
  only-first (Differ is place compared) = absurd (omega (arith, is))
  only-first (Mirrored mirrored) = first-only 18 mirrored refl

  -- Files that differ

  first-place : (place : ℕ) (first other : Option (List ℕ)) → IfBoth first other (λ xs ys. Some place ≡ first_difference xs ys) → IfBoth first other (λ xs ys. DifferAt xs ys place)
  first-place place None other is = tt
  first-place place (Some xs) None is = tt
  first-place place (Some xs) (Some ys) is = some-differ xs ys place (sym is)

  not-16 : (of_lines : ℕ) (sides : Sides) → of_lines ≤ 10 → 16 ≡ mirrored_status of_lines sides → ⊥
  not-16 zero Both low is = omega (arith, is)
  not-16 zero First low is = omega (arith, is)
  not-16 zero Second low is = omega (arith, is)
  not-16 (suc status) sides low is = omega (arith, is, low)

  pub differing : MirrorEnds g h d cache cost source source' sink sink' device device' second second' steps steps' 16 →
      ((place : ℕ) × IfBoth (d.bytes device) (d.bytes second) (λ xs ys. DifferAt xs ys place))
      × ((d.bytes device' ≡ d.bytes device) × ((d.bytes second' ≡ d.bytes second) × (((d.counts device').faults ≡ (d.counts device).faults) × (((d.counts second').faults ≡ (d.counts second).faults) × ((source' ≡ source) × ((sink' ≡ sink) × (steps' ≡ steps)))))))
  differing (NotCompared is fault compared) = absurd (omega (arith, is))
  differing (Differ is place compared) =
      let only = compared.only_compared.only_read in (
        (place, first-place place (d.bytes device) (d.bytes second) compared.compares.place_is),
        (only.bytes_stay, (only.second_bytes_stay, (compared.compares.no_fault, (compared.compares.second_no_fault, (compared.untouched.source_stays, (compared.untouched.sink_stays, compared.untouched.steps_stay)))))),
      )
  differing (Mirrored mirrored) = absurd (not-16 mirrored.of_lines mirrored.last.sides (low 16 mirrored) mirrored.status_is)
