-- Reads one after another, and reads that are due.
use Rattle.std.proofs.Common.{◌≡◌, ℕ, ◌+◌, ◌-◌, min, List, [], ◌∷◌, ◌++◌, length, unwrap_or, ap, sym, ◌∙◌, subst, arith, length-append, append_assoc, append-nil}
use Rattle.cola_io.specs.Reads.{Read, bytes_read, WasRead, GaveSome, AreDue}
use Rattle.cola_io.specs.declared.source.Source.{Ghosts}

-- the bytes of later reads are behind those of earlier ones
pub bytes_read-append : (later earlier : List Read) → bytes_read (later ++ earlier) ≡ bytes_read earlier ++ bytes_read later
bytes_read-append [] earlier = sym (append-nil (bytes_read earlier))
bytes_read-append (read ∷ later) earlier = ap (λ t. t ++ unwrap_or read.gave []) (bytes_read-append later earlier) ∙ append_assoc (bytes_read earlier) (bytes_read later) (unwrap_or read.gave [])

-- reads, and then later ones
pub WasRead-append : {S : Type 0} (g : Ghosts S) (later earlier : List Read) (x y z : S) → WasRead g x earlier y → WasRead g y later z → WasRead g x (later ++ earlier) z
WasRead-append g [] earlier x y z first then = subst (WasRead g x earlier) (sym then) first
WasRead-append g (read ∷ later) earlier x y z first then = (then.0, WasRead-append g later earlier x y then.0 first then.1, then.2)

-- each of them gave some bytes
pub GaveSome-append : (later earlier : List Read) → GaveSome later → GaveSome earlier → GaveSome (later ++ earlier)
GaveSome-append [] earlier a b = b
GaveSome-append (read ∷ later) earlier a b = (a.0, GaveSome-append later earlier a.1 b)

-- where more is wanted more often, the reads are due
pub AreDue-wanted : (Wanted Wanted' : List ℕ → Type 0) (limit : ℕ) (reads : List Read) → ((bytes : List ℕ) → Wanted bytes → Wanted' bytes) → AreDue Wanted limit reads → AreDue Wanted' limit reads
AreDue-wanted Wanted Wanted' limit [] more due = tt
AreDue-wanted Wanted Wanted' limit (read ∷ earlier) more due = (
  record { gave_some = due.0.gave_some; wanted = more (bytes_read earlier) due.0.wanted; allowed = due.0.allowed; asked = due.0.asked },
  AreDue-wanted Wanted Wanted' limit earlier more due.1,
)

-- reads that are due behind others, which took of what the limit allows
pub AreDue-append : (Wanted Wanted' : List ℕ → Type 0) (limit allowed : ℕ) (later earlier : List Read) → GaveSome earlier → allowed + length (bytes_read earlier) ≡ limit
    → ((bytes : List ℕ) → Wanted bytes → Wanted' (bytes_read earlier ++ bytes)) → AreDue Wanted allowed later → AreDue Wanted' limit earlier → AreDue Wanted' limit (later ++ earlier)
AreDue-append Wanted Wanted' limit allowed [] earlier some counted more due before = before
AreDue-append Wanted Wanted' limit allowed (read ∷ later) earlier some counted more due before =
    let bytes : bytes_read (later ++ earlier) ≡ bytes_read earlier ++ bytes_read later = bytes_read-append later earlier in
    let size : length (bytes_read (later ++ earlier)) ≡ length (bytes_read earlier) + length (bytes_read later) = ap length bytes ∙ length-append (bytes_read earlier) (bytes_read later) in
    let left : allowed - length (bytes_read later) ≡ limit - length (bytes_read (later ++ earlier)) = omega (arith, size, counted) in (
      record {
        gave_some = GaveSome-append later earlier due.0.gave_some some;
        wanted = subst Wanted' (sym bytes) (more (bytes_read later) due.0.wanted);
        allowed = omega (arith, size, counted, due.0.allowed);
        asked = due.0.asked ∙ ap (min 512) left;
      },
      AreDue-append Wanted Wanted' limit allowed later earlier some counted more due.1 before,
    )
