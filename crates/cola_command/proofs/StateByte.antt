-- A file with another state byte: what stays of its bytes and of its sizes, and what a spelled header says of it.
use Rattle.std.proofs.Common.{◌≡◌, ℕ, ◌+◌, ◌≤◌, cond, List, ◌∷◌, ◌++◌, length, take, drop, get_or, slice_index, refl, sym, ◌∙◌, ap, subst, arith}
use Rattle.std.proofs.lemmas.List.{take_at, drop_at, length-take-le, take-append-drop, drop_more, get_or-drop}
use Rattle.cola_cell.specs.declared.format.Format.{Format}
use Rattle.cola_cell.specs.declared.format.Format.TheVariants.{One, Two}
use Rattle.cola_layout.specs.Header.{Fields, IsSpelling}
use Rattle.cola_layout.proofs.Saying.{text-says}
use Rattle.cola_layout.proofs.Powers.{power-le}
use Rattle.cola_layout.proofs.Refusing.{spelling-one}
use Rattle.cola_opening.specs.Judged.{file_size}
use Rattle.cola_image.specs.Standing.{with_state}
use Rattle.cola_command.specs.File.{Sizes, KeepsBehind, sizes_in, size_of}
use Rattle.cola_store.proofs.States.{state-long, state-first, behind, in_use, used-spelling}

module _ (state : ℕ) (bytes : List ℕ) (long : 15 ≤ length bytes) where
  few : length (take 14 bytes) ≡ 14
  few = length-take-le 14 bytes (omega arith)

  pub front-stays : take 14 (with_state state bytes) ≡ take 14 bytes
  front-stays = take_at (take 14 bytes) (state ∷ drop 15 bytes) 14 few

  -- the last state byte decides
  pub state-twice : (other : ℕ) → with_state other (with_state state bytes) ≡ with_state other bytes
  state-twice other =
      ap (λ (xs : List ℕ). xs ++ (other ∷ drop 15 (with_state state bytes))) front-stays
      ∙ ap (λ (xs : List ℕ). take 14 bytes ++ (other ∷ xs)) (behind state 15 bytes long (omega arith))

  pub state-there : slice_index (with_state state bytes) 14 ≡ state
  state-there =
      sym (get_or-drop 14 (with_state state bytes) 0 0)
      ∙ ap (λ (xs : List ℕ). get_or xs 0 0) (drop_at (take 14 bytes) (state ∷ drop 15 bytes) 14 few)

-- every file has a state byte
pub some-state : (bytes : List ℕ) → 15 ≤ length bytes → (state : ℕ) × (with_state state bytes ≡ bytes)
some-state bytes long =
    (get_or bytes 14 0, ap (λ (xs : List ℕ). take 14 bytes ++ xs) (sym (drop_more bytes 14 0 (omega arith))) ∙ take-append-drop 14 bytes)

states-in_use : (f : Fields) → sizes_in (in_use f) ≡ sizes_in f
states-in_use f = refl

-- headers that are spelled but for the state byte have the same sizes
pub sizes-one : (f g : Fields) (state : ℕ) (bytes : List ℕ) → 512 ≤ length bytes → IsSpelling f (take 512 bytes) → IsSpelling g (take 512 (with_state state bytes)) → sizes_in f ≡ sizes_in g
sizes-one f g state bytes long here there =
    let many : length (take 512 bytes) ≡ 512 = length-take-le 512 bytes long in
    let first : IsSpelling g (with_state state (take 512 bytes)) = subst (λ (xs : List ℕ). IsSpelling g xs) (state-first state bytes long) there in
    let other : IsSpelling (in_use g) (with_state 1 (take 512 bytes)) =
    subst (λ (xs : List ℕ). IsSpelling (in_use g) xs) (state-twice state (take 512 bytes) (omega (arith, many)) 1) (used-spelling g (with_state state (take 512 bytes)) first) in
    ap sizes_in (spelling-one (in_use f) (in_use g) (with_state 1 (take 512 bytes)) (used-spelling f (take 512 bytes) here) other)

-- a spelled header says what the state byte is
pub state-is : (f : Fields) (state : ℕ) (bytes : List ℕ) → 512 ≤ length bytes → IsSpelling f (take 512 bytes) → with_state state bytes ≡ bytes → state ≡ cond f.closed 0 1
state-is f state bytes long spelled same =
    let many : length (take 512 bytes) ≡ 512 = length-take-le 512 bytes long in
    sym (state-there state (take 512 bytes) (omega (arith, many)))
    ∙ ap (λ (xs : List ℕ). slice_index xs 14) (sym (state-first state bytes long) ∙ ap (take 512) same)
    ∙ sym (text-says f (take 512 bytes) spelled).state

large : (format : Format) (bottom : ℕ) → 1024 ≤ file_size format bottom
large One bottom = let p = power-le 4 (bottom + 4) (omega arith) in omega (arith, p)
large Two bottom = let p = power-le 4 (bottom + 4) (omega arith) in omega (arith, p)

pub size-large : (sizes : Sizes) → 1024 ≤ size_of sizes
size-large sizes = large sizes.format sizes.bottom

-- another state byte keeps the bytes behind the cells
pub keeps-behind : (sizes : Sizes) (state : ℕ) (bytes : List ℕ) → 15 ≤ length bytes → KeepsBehind sizes bytes (with_state state bytes)
keeps-behind sizes state bytes long = record {
  many = state-long state bytes long;
  behind = behind state (size_of sizes) bytes long (let l = size-large sizes in omega (arith, l));
}
