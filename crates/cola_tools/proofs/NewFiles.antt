-- What stands in the bytes of a device for a new file, by what its file is.
use Rattle.std.proofs.Common.{◌≡◌, ◌∙◌, ℕ, ◌+◌, ◌-◌, ◌≤◌, true, false, Bool, List, length, take, drop, replicate, get_or, sym, ap, subst, arith, length-take}
use Rattle.std.specs.Prelude.{if◌then◌else◌}
use Rattle.std.proofs.lemmas.Bool.{true_from_ne_false, false_from_ne_true}
use Rattle.std.proofs.lemmas.List.{length-replicate, length-take-le, get_or-replicate, take-take, take-replicate}
use Rattle.cola_outside.specs.Faults.{Rose}
use Rattle.cola_device.specs.declared.memory.TheConstants.{SPOILED}
use Rattle.cola_load.specs.Loading.{IsHeadless}
use Rattle.cola_tools.specs.New.{New, IsNew, file_of}
use Rattle.cola_tools.specs.Growing.{AreZero, IsFileIn}

-- without a fault no layout was refused, and with one there was
pub not-refused : (d : New) → IsNew d → d.faults ≡ 0 → d.refused ≡ false
not-refused d sound none = false_from_ne_true d.refused (λ is. omega (arith, sound.met is, none))

pub no-rise : (n : ℕ) → n ≡ 0 → Rose 0 n → ⊥
no-rise n none rose = omega (arith, rose, none)

pub was-refused : (d : New) → IsNew d → Rose 0 d.faults → d.refused ≡ true
was-refused d sound rose = true_from_ne_false d.refused (λ is. no-rise d.faults (sound.no_fault is) rose)

zero-rest : (xs : List ℕ) (many : ℕ) → xs ≡ replicate many 0 → AreZero xs
zero-rest xs many is = is ∙ ap (λ (n : ℕ). replicate n 0) (sym (ap length is ∙ length-replicate many 0))

module _ (d : New) (sound : IsNew d) where
  -- without a file all bytes are zero
  pub unlaid-zero : d.size ≡ 0 → AreZero d.bytes
  unlaid-zero none =
      let is : d.bytes ≡ replicate (length d.bytes - d.size) 0 = ap (λ (n : ℕ). drop n d.bytes) (sym none) ∙ sound.zero_behind in
      zero-rest d.bytes (length d.bytes - d.size) is

  module _ (laid : d.refused ≡ false) where
    pub file-is : file_of d ≡ take d.size d.bytes
    file-is = ap (λ (r : Bool). if r then replicate (length d.bytes + 1) SPOILED else take d.size d.bytes) laid

    pub file-long : length (file_of d) ≡ d.size
    file-long = ap length file-is ∙ length-take-le d.size d.bytes sound.inside

    -- a file of so many bytes stands in the bytes
    pub file-in : (many : ℕ) → length (file_of d) ≡ many → IsFileIn many (file_of d) d.bytes
    file-in many long =
        let size : d.size ≡ many = sym file-long ∙ long in
        record {
          inside = omega (arith, size, sound.inside);
          file_is = file-is ∙ ap (λ (n : ℕ). take n d.bytes) size;
          zero_behind = subst (λ (n : ℕ). AreZero (drop n d.bytes)) size (zero-rest (drop d.size d.bytes) (length d.bytes - d.size) sound.zero_behind);
        }

    -- a file without a header leaves none in the bytes
    pub headless : IsHeadless (file_of d) → IsHeadless d.bytes
    headless none =
        let here : take 512 (take d.size d.bytes) ≡ replicate 512 0 = ap (take 512) (sym file-is) ∙ none in
        let many : length (take 512 (take d.size d.bytes)) ≡ 512 = ap length here ∙ length-replicate {A = ℕ} 512 0 in
        let long : 512 ≤ d.size = omega (arith, many, length-take 512 (take d.size d.bytes), length-take d.size d.bytes) in
        sym (take-take 512 d.size d.bytes long) ∙ here

    -- an empty file leaves all bytes zero
    pub empty-zero : length (file_of d) ≡ 0 → AreZero d.bytes
    empty-zero none = unlaid-zero (sym file-long ∙ none)

  module _ (refused : d.refused ≡ true) where
    pub spoiled : file_of d ≡ replicate (length d.bytes + 1) SPOILED
    spoiled = ap (λ (r : Bool). if r then replicate (length d.bytes + 1) SPOILED else take d.size d.bytes) refused

    pub spoiled-long : length (file_of d) ≡ length d.bytes + 1
    spoiled-long = ap length spoiled ∙ length-replicate (length d.bytes + 1) SPOILED

    pub refused-zero : AreZero d.bytes
    refused-zero = unlaid-zero (sound.none_laid refused)

    -- spoiled bytes are no file without a header
    pub not-headless : IsHeadless (file_of d) → ⊥
    not-headless none =
        let long : length (take 512 (file_of d)) ≡ 512 = ap length none ∙ length-replicate {A = ℕ} 512 0 in
        let enough : 512 ≤ length d.bytes + 1 = omega (arith, long, length-take 512 (file_of d), spoiled-long) in
        let here : replicate {A = ℕ} 512 SPOILED ≡ replicate {A = ℕ} 512 0 = sym (take-replicate {X = ℕ} 512 (length d.bytes + 1) SPOILED enough) ∙ (ap (take 512) (sym spoiled) ∙ none) in
        let first : SPOILED ≡ 0 = sym (get_or-replicate {A = ℕ} 512 0 SPOILED 0 (omega arith)) ∙ (ap (λ (xs : List ℕ). get_or xs 0 0) here ∙ get_or-replicate {A = ℕ} 512 0 0 0 (omega arith)) in
        omega (arith, first)

-- zero bytes, as many as others that are zero, are these
pub same-zeros : (now before : List ℕ) → AreZero now → AreZero before → length now ≡ length before → now ≡ before
same-zeros now before zero was many = zero ∙ (ap (λ (n : ℕ). replicate n 0) many ∙ sym was)
