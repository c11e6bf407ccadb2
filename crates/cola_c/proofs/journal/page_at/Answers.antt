use Rattle.std.proofs.Common.{◌≡◌, ◌∙◌, ℕ, ◌-◌, ◌*◌, ◌≤◌, List, length, take, drop, sym, ap, arith, length-drop}
use Rattle.std.proofs.lemmas.List.{take_all}
use Rattle.cola_c.proofs.journal.page_at.Goals as goal

-- the last page has fewer bytes
pub returns-then-behind-lt-PAGE : goal.returns-then-behind-lt-PAGE
returns-then-behind-lt-PAGE c =
    let bytes : List ℕ = c.args.bytes.now in
    let at : ℕ = c.args.page * 4096 in
    let many = length-drop at bytes in
    let all : take (length bytes - at) (drop at bytes) ≡ drop at bytes = take_all (length bytes - at) (drop at bytes) (omega (arith, many)) in
    let few : length (drop at bytes) ≤ 4096 = omega (arith, ap length all, c.if-behind-lt-PAGE.true) in
    let same : c.args.page * 4096 ≡ 4096 * c.args.page = omega arith in
    all ∙ (sym (take_all 4096 (drop at bytes) few) ∙ ap (λ (n : ℕ). take 4096 (drop n bytes)) same)
