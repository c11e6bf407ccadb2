use Rattle.std.proofs.Common.{◌≡◌, ◌⊎◌, inl, inr, ℕ, ◌+◌, ◌^◌, ◌≤◌, ◌<◌, ap, ◌∙◌, arith, pow_mono}
use Rattle.cola_cell.specs.declared.format.Format.TheVariants.{One}
use Rattle.cola_opening.specs.Judged.{file_size}
use Rattle.cola_layout.specs.Geometry.{IsBottom}
use Rattle.cola_workload.proofs.laws.new_files_end.Goals as goal

-- the lowest level of a store for four keys
three : (bottom : ℕ) → IsBottom 4 bottom → bottom ≡ 3
three bottom is = let t = is.three in elim (let c : (3 < bottom) ⊎ (bottom ≤ 3) = grind arith in c) [
  | inl more ↦ let p : 2 ^ 5 ≤ 2 ^ (bottom + 1) = pow_mono {i = 5} {j = bottom + 1} (omega (arith, more)) in let l = is.least more in absurd (omega (arith, p, l))
  | inr few ↦ omega (arith, t, few)
]

pub returns-clause-file : goal.returns-clause-file
returns-clause-file g c = λ bytes file. (file.size ∙ ap (file_size One) (three file.bottom file.suits.bottom_is), (file.map, (file.stands, file.odd)))
