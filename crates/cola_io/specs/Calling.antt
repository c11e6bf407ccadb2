-- A call of a line reader's `next_line`, with the reads that it makes.
use Rattle.std.specs.Prelude.{◌≡◌, ℕ, Bool, true, false, ◌||◌, List, [], ◌++◌}
use Rattle.std.specs.Io.KnownBytes.{IsAtEnd}
use Rattle.cola_io.specs.Streams.{Taken}
use Rattle.cola_io.specs.Counted.{after_fault}
use Rattle.cola_io.specs.Reading.{Reading}
use Rattle.cola_io.specs.Buffered.{HasNoFeed}
use Rattle.cola_io.specs.Reads.{Read, bytes_read, WasRead, AreDue, was_refused, met_end}
use Rattle.cola_io.specs.NextLine.{NextLine, is_settled}
use Rattle.cola_io.specs.declared.source.Source.{Ghosts}
use Rattle.cola_io.specs.declared.next.Next.{Next}
use Rattle.cola_io.specs.declared.next.Next.TheVariants.{Line, TooLong, End, Fault, Budget}

abbrev pub is_fault : Next → Bool
is_fault Line = false
is_fault TooLong = false
is_fault End = false
is_fault Fault = true
is_fault Budget = false

-- the reads that a call makes: none where the answer needs no further byte, and each only where no whole line is pending
pub record Asks (old : Reading) (reads : List Read) (answer : Next) (new : Reading) : Type 0 where
  pub none : is_settled old ≡ true → reads ≡ []
  pub due : AreDue (λ bytes. HasNoFeed (old.pending ++ bytes)) old.allowed reads
  pub ended : new.ended ≡ (old.ended || met_end reads)
  pub refused : was_refused reads ≡ is_fault answer

-- the count of faults stays, but for one more where the answer is a fault
abbrev pub faults_after : Next → ℕ → ℕ
faults_after Line count = count
faults_after TooLong count = count
faults_after End count = count
faults_after Fault count = after_fault count
faults_after Budget count = count

-- a call of a reader over a source
pub record Calls {S : Type 0} (g : Ghosts S) (old : Reading) (source : S) (answer : Next) (new : Reading) (source' : S) : Type 0 where
  pub reads : List Read
  pub was_read : WasRead g source reads source'
  pub took : Taken (bytes_read reads) (g.left source) (g.left source')
  pub at_end : met_end reads ≡ true → IsAtEnd (g.left source')
  pub asks : Asks old reads answer new
  pub line : NextLine old (bytes_read reads) answer new
