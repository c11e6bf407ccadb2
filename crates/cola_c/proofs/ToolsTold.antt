-- What the calls by C on whole stores tell of maps.
use Rattle.std.proofs.Common.{◌≡◌, ◌∙◌, ◌⊎◌, inl, inr, ℕ, ℤ, pos, List, Result, Ok, Err, sym, ap, arith}
use Rattle.std.specs.Result.{result_unwrap_or}
use Rattle.cola_image.specs.Standing.{FileStandsFor}
use Rattle.cola_spec.specs.Map.{Map, count}
use Rattle.cola_mapped.specs.declared.region.Region.{Region}
use Rattle.cola_mapped.specs.Region.{bytes_in}
use Rattle.cola_verdict.specs.declared.verdict.Verdict.{Verdict}
use Rattle.cola_verdict.specs.declared.verdict.Verdict.TheVariants.{Sound, Broken}
use Rattle.cola_tools.specs.declared.fault.ToolFault.{ToolFault}
use Rattle.cola_tools.specs.declared.fault.ToolFault.TheVariants.{Small, NotStore, NotClosed, Memory, Options, NotEmpty, BadCell, Fewer, Length, Full, Order}
use Rattle.cola_tools.specs.Checking.{Checks}
use Rattle.cola_tools.specs.Growing.{Grows}
use Rattle.cola_tools.proofs.CheckLaws.{sound, broken, complete}
use Rattle.cola_tools.proofs.GrowLaws as grown
use Rattle.cola_c.specs.declared.tools.Found.{Found}
use Rattle.cola_c.specs.Tools.{TellsCheck, TellsGrow, HasMap, IsLeftBlank, fault_number, check_number, grow_number, told_of}

same : (a b : ℕ) → pos a ≡ pos b → a ≡ b
same a b is = cc

-- no refusal has the number 0 or 21
refusals : (why : ToolFault) → (fault_number why ≡ 0 → ⊥) × (fault_number why ≡ 21 → ⊥)
refusals Small = (λ is. omega (arith, is), λ is. omega (arith, is))
refusals NotStore = (λ is. omega (arith, is), λ is. omega (arith, is))
refusals NotClosed = (λ is. omega (arith, is), λ is. omega (arith, is))
refusals Memory = (λ is. omega (arith, is), λ is. omega (arith, is))
refusals Options = (λ is. omega (arith, is), λ is. omega (arith, is))
refusals NotEmpty = (λ is. omega (arith, is), λ is. omega (arith, is))
refusals BadCell = (λ is. omega (arith, is), λ is. omega (arith, is))
refusals Length = (λ is. omega (arith, is), λ is. omega (arith, is))
refusals Full = (λ is. omega (arith, is), λ is. omega (arith, is))
refusals Order = (λ is. omega (arith, is), λ is. omega (arith, is))
refusals Fewer = (λ is. omega (arith, is), λ is. omega (arith, is))

module _ (bytes : List ℕ) (from to : ℕ) (before now : Found) where
  sound-by : (answer : Result Verdict ToolFault) → Checks bytes from to answer → 0 ≡ check_number answer → now ≡ told_of answer before → (m : Map) × (FileStandsFor bytes m × (count m ≡ now.keys))
  sound-by (Ok (Sound keys)) checks number told =
      let found = sound bytes from to keys checks in
      (found.0, (found.1.0, found.1.1 ∙ sym (ap (λ (f : Found). f.keys) told)))
  sound-by (Ok (Broken flaw level cell)) checks number told = absurd (omega (arith, number))
  sound-by (Err why) checks number told = absurd ((refusals why).0 (sym number))

  broken-by : (m : Map) (answer : Result Verdict ToolFault) → Checks bytes from to answer → 21 ≡ check_number answer → ¬ FileStandsFor bytes m
  broken-by m (Ok (Sound keys)) checks number stands = omega (arith, number)
  broken-by m (Ok (Broken flaw level cell)) checks number stands = broken bytes from to flaw level cell m checks stands
  broken-by m (Err why) checks number stands = (refusals why).1 (sym number)

  complete-by : (m : Map) (code : ℤ) (answer : Result Verdict ToolFault) → FileStandsFor bytes m → Checks bytes from to answer → code ≡ pos (check_number answer) → (code ≡ pos 0) ⊎ (code ≡ pos 16)
  complete-by m code (Ok (Sound keys)) stands checks number = inl number
  complete-by m code (Ok (Broken flaw level cell)) stands checks number = absurd (broken bytes from to flaw level cell m checks stands)
  complete-by m code (Err why) stands checks number =
      let is : why ≡ Memory = complete bytes from to (Err why) m stands checks in
      inr (number ∙ ap (λ (w : ToolFault). pos (fault_number w)) is)

pub checks-sound : (bytes : List ℕ) (before now : Found) → TellsCheck bytes before now (pos 0) → (m : Map) × (FileStandsFor bytes m × (count m ≡ now.keys))
checks-sound bytes before now t = sound-by bytes t.from t.to before now t.answer t.checks (same _ _ t.number_is) t.told_is

pub checks-broken : (bytes : List ℕ) (before now : Found) (m : Map) → TellsCheck bytes before now (pos 21) → ¬ FileStandsFor bytes m
checks-broken bytes before now m t = broken-by bytes t.from t.to before now m t.answer t.checks (same _ _ t.number_is)

pub checks-complete : (bytes : List ℕ) (before now : Found) (code : ℤ) (m : Map) → FileStandsFor bytes m → TellsCheck bytes before now code → (code ≡ pos 0) ⊎ (code ≡ pos 16)
checks-complete bytes before now code m stands t = complete-by bytes t.from t.to before now m code t.answer stands t.checks t.number_is

module _ (keys block : ℕ) (from : List ℕ) (before now : Region) (told told' ticks ticks_now : ℕ) where
  done-by : (m : Map) → FileStandsFor from m → (answer : Result ℕ ToolFault) → Grows keys block from (bytes_in before.bytes) (bytes_in now.bytes) ticks ticks_now answer → 0 ≡ grow_number answer
      → told' ≡ result_unwrap_or answer told → HasMap keys block m now × (told' ≡ count m)
  done-by m stands (Ok keys') grows number is =
      let s = grown.stands keys block from (bytes_in before.bytes) (bytes_in now.bytes) ticks ticks_now keys' m stands grows in
      ((s.0, (s.1.0, (s.1.1.0, s.1.1.1.0))), is ∙ s.1.1.1.1)
  done-by m stands (Err why) grows number is = absurd ((refusals why).0 (sym number))

  refused-by : (code : ℤ) (answer : Result ℕ ToolFault) → Grows keys block from (bytes_in before.bytes) (bytes_in now.bytes) ticks ticks_now answer → code ≡ pos (grow_number answer) → (code ≡ pos 0) ⊎ IsLeftBlank before now
  refused-by code (Ok keys') grows number = inl number
  refused-by code (Err why) grows number = inr (grown.refused keys block from (bytes_in before.bytes) (bytes_in now.bytes) ticks ticks_now why grows)

pub grows-done : (keys block : ℕ) (from : List ℕ) (before now : Region) (told told' : ℕ) (m : Map) → FileStandsFor from m → TellsGrow keys block from before now told told' (pos 0) → HasMap keys block m now × (told' ≡ count m)
grows-done keys block from before now told told' m stands t = done-by keys block from before now told told' t.ticks t.ticks_now m stands t.answer t.grows (same _ _ t.number_is) t.told_is

pub grows-refused : (keys block : ℕ) (from : List ℕ) (before now : Region) (told told' : ℕ) (code : ℤ) → TellsGrow keys block from before now told told' code → (code ≡ pos 0) ⊎ IsLeftBlank before now
grows-refused keys block from before now told told' code t = refused-by keys block from before now told told' t.ticks t.ticks_now code t.answer t.grows t.number_is
