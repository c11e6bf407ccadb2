-- What a device over zero bytes for a new file keeps where it is written.
use Rattle.std.proofs.Common.{◌≡◌, ◌∙◌, ℕ, ◌+◌, ◌-◌, ◌≤◌, false, Bool, List, ◌++◌, length, take, drop, replicate, sym, ap, true≢false, arith}
use Rattle.std.specs.Prelude.{if◌then◌else◌}
use Rattle.std.proofs.lemmas.List.{length-take-le, drop-drop, take-append-le, length-drop, append_assoc, take-append-drop, take_at, drop-append-le}
use Rattle.cola_device.specs.declared.memory.TheConstants.{SPOILED}
use Rattle.cola_device.specs.Bytes.{splice}
use Rattle.cola_device.proofs.BytesLemmas.{length-splice, drop-splice_end}
use Rattle.cola_tools.specs.New.{New, IsNew, file_of}

-- new bytes among the first of two lists
splice-front : (first second : List ℕ) (at : ℕ) (new : List ℕ) → at + length new ≤ length first → splice (first ++ second) at new ≡ splice first at new ++ second
splice-front first second at new inside =
    let rest : List ℕ = drop (length new) (drop at first) in
    ap (λ (xs : List ℕ). xs ++ (new ++ drop (length new) (drop at (first ++ second)))) (take-append-le at first second (omega (arith, inside)))
    ∙ (ap (λ (xs : List ℕ). take at first ++ (new ++ drop (length new) xs)) (drop-append-le at first second (omega (arith, inside)))
    ∙ (ap (λ (xs : List ℕ). take at first ++ (new ++ xs)) (drop-append-le (length new) (drop at first) second (simp length-drop (omega (arith, inside))))
    ∙ (ap (λ (xs : List ℕ). take at first ++ xs) (sym (append_assoc new rest second)) ∙ sym (append_assoc (take at first) (new ++ rest) second))))

-- the first bytes of a list with new ones among them
pub take-splice : (bytes : List ℕ) (at size : ℕ) (new : List ℕ) → size ≤ length bytes → at + length new ≤ size → take size (splice bytes at new) ≡ splice (take size bytes) at new
take-splice bytes at size new inside below =
    let first : List ℕ = take size bytes in
    let long : length first ≡ size = length-take-le size bytes inside in
    ap (λ (xs : List ℕ). take size (splice xs at new)) (sym (take-append-drop size bytes))
    ∙ (ap (take size) (splice-front first (drop size bytes) at new (omega (arith, below, long)))
    ∙ take_at (splice first at new) (drop size bytes) size (length-splice first at new (omega (arith, below, long)) ∙ long))

-- the bytes behind them
pub drop-splice_behind : (bytes : List ℕ) (at size : ℕ) (new : List ℕ) → size ≤ length bytes → at + length new ≤ size → drop size (splice bytes at new) ≡ drop size bytes
drop-splice_behind bytes at size new inside below =
    let rest : ℕ = size - (at + length new) in
    let whole : size ≡ at + length new + rest = omega (arith, below) in
    ap (λ (n : ℕ). drop n (splice bytes at new)) whole
    ∙ (sym (drop-drop rest (at + length new) (splice bytes at new))
    ∙ (ap (drop rest) (drop-splice_end bytes at new (omega (arith, inside, below)))
    ∙ (drop-drop rest (at + length new) bytes ∙ ap (λ (n : ℕ). drop n bytes) (sym whole))))

module _ (d e : New) (at : ℕ) (from : List ℕ) (sound : IsNew d) (laid : d.refused ≡ false) (within : at + length from ≤ length (file_of d))
    (bytes_are : e.bytes ≡ splice d.bytes at from) (size_is : e.size ≡ d.size) (refused_is : e.refused ≡ d.refused) where
  -- where no layout was refused, the file is the first of the bytes
  file : file_of d ≡ take d.size d.bytes
  file = ap (λ (r : Bool). if r then replicate (length d.bytes + 1) SPOILED else take d.size d.bytes) laid

  below : at + length from ≤ d.size
  below = omega (arith, within, ap length file, length-take-le d.size d.bytes sound.inside)

  many : length e.bytes ≡ length d.bytes
  many = ap length bytes_are ∙ length-splice d.bytes at from (omega (arith, below, sound.inside))

  behind : drop e.size e.bytes ≡ drop d.size d.bytes
  behind = ap (λ (n : ℕ). drop n e.bytes) size_is ∙ (ap (drop d.size) bytes_are ∙ drop-splice_behind d.bytes at d.size from sound.inside below)

  -- bytes written into the file leave all behind it zero
  pub keeps : e.faults ≡ d.faults → (e.writes ≡ 0 → ⊥) → IsNew e
  keeps faults_are written = record {
    some = omega (arith, sound.some, many);
    inside = omega (arith, sound.inside, many, size_is);
    zero_behind = behind ∙ (sound.zero_behind ∙ ap (λ (n : ℕ). replicate n 0) (omega (arith, many, size_is)));
    unwritten = λ none. absurd (written none);
    none_laid = λ yes. absurd (true≢false (sym yes ∙ (refused_is ∙ laid)));
    no_fault = λ _. faults_are ∙ sound.no_fault laid;
    met = λ yes. absurd (true≢false (sym yes ∙ (refused_is ∙ laid)));
  }

  -- and stand in it
  pub wrote : file_of e ≡ splice (file_of d) at from
  wrote =
      ap (λ (r : Bool). if r then replicate (length e.bytes + 1) SPOILED else take e.size e.bytes) (refused_is ∙ laid)
      ∙ (ap (λ (n : ℕ). take n e.bytes) size_is
      ∙ (ap (take d.size) bytes_are
      ∙ (take-splice d.bytes at d.size from sound.inside below ∙ ap (λ (xs : List ℕ). splice xs at from) (sym file))))
