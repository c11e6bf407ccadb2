use Rattle.std.proofs.Common.{◌≡◌, ◌<◌, ◌≤◌, ◌+◌, ◌-◌, ◌*◌, ℕ, List, length, Option, Some, None, sym, ap, subst, ◌∙◌, arith}
use Rattle.std.specs.Prelude.{IfSome}
use Rattle.std.proofs.lemmas.List.{get_or-set_same, length-set}
use Rattle.cola_cell.specs.declared.format.Format.{Format}
use Rattle.cola_cell.specs.Format.{width}
use Rattle.cola_cell.specs.Decoded.{decoded}
use Rattle.cola_device.specs.Bytes.{Gives}
use Rattle.cola_front.specs.Front.{block_size, cell_at, cell_bytes}
use Rattle.cola_front.proofs.Stored.{loaded_told, both_loaded}
use Rattle.cola_cache.specs.Blocks.{last_in}
use Rattle.cola_run.proofs.saving.load_front.Goals as goal

-- where the second block begins
begin-of : (f : Format) (block : ℕ) → 1 * (width f * block) ≡ width f * block
begin-of f block = omega arith

none-of : (f : Format) (n : ℕ) → 0 * n ≡ width f * 0
none-of f n = omega arith

pub returns-in-Ok-turn_to-clause-loaded : goal.returns-in-Ok-turn_to-clause-loaded
returns-in-Ok-turn_to-clause-loaded g c =
    let f = c.args.front.now in
    let told = g.D.Device.bytes c.args.buffers.now.cache.device in
    let first = c.copy.result.now in
    let second = c.copy-in-Ok-turn_to.result.now in
    let middle = c.take_first.new.self in
    let now = c.take_second.new.self in
    let shape = c.take_first.ensures.shape in
    let size : c.turn_to.new.self.cache.size ≡ block_size f = c.turn_to.ensures.stays.size ∙ c.requires.size in
    let size_again : c.turn_to-in-Ok.new.self.cache.size ≡ block_size f = c.turn_to-in-Ok.ensures.stays.size ∙ size in
    let there : last_in c.turn_to.new.self.lasts 0 ≡ Some 0 = ap (λ (xs : List (Option ℕ)). last_in xs 0) c.in-Ok.ensures.ok ∙ get_or-set_same c.args.buffers.now.lasts 0 (Some 0) None c.requires.buffer in
    let many : 0 < length c.turn_to.new.self.lasts = (let e : length c.turn_to.new.self.lasts ≡ length c.args.buffers.now.lasts = ap (λ (xs : List (Option ℕ)). length xs) c.in-Ok.ensures.ok ∙ length-set c.args.buffers.now.lasts 0 (Some 0) in let b = c.requires.buffer in omega (arith, e, b)) in
    let there_again : last_in c.turn_to-in-Ok.new.self.lasts 0 ≡ Some 1 = ap (λ (xs : List (Option ℕ)). last_in xs 0) c.in-Ok-turn_to.ensures.ok ∙ get_or-set_same c.turn_to.new.self.lasts 0 (Some 1) None many in
    let given : Gives told (width f.format * 0) first =
    subst (λ (x : Option (List ℕ)). Gives x (width f.format * 0) first) c.turn_to.ensures.bytes_stay
    (subst (λ (n : ℕ). Gives (g.D.Device.bytes c.turn_to.new.self.cache.device) n first) (none-of f.format c.turn_to.new.self.cache.size) (c.copy.ensures.given 0 there)) in
    let given_again : Gives told (width f.format * f.block) second =
    subst (λ (x : Option (List ℕ)). Gives x (width f.format * f.block) second) (c.turn_to-in-Ok.ensures.bytes_stay ∙ c.turn_to.ensures.bytes_stay)
    (subst (λ (n : ℕ). Gives (g.D.Device.bytes c.turn_to-in-Ok.new.self.cache.device) n second) (ap (λ (n : ℕ). 1 * n) size_again ∙ begin-of f.format f.block) (c.copy-in-Ok-turn_to.ensures.given 1 there_again)) in
    let block : middle.block ≡ f.block = shape.block in
    let lower : IfSome told (λ bytes. (place : ℕ) → 8 ≤ place → place < 0 + f.block → cell_at middle place ≡ decoded f.format (cell_bytes f.format bytes place)) =
    loaded_told f.format told first middle.cells 0 8 f.block given (omega (arith, c.copy.ensures.size ∙ size)) (omega arith)
    (λ place behind within.
    let none : place - 0 ≡ place = omega arith in
    subst (λ (n : ℕ). cell_at middle place ≡ decoded f.format (cell_bytes f.format first n)) (sym none) (c.take_first.ensures.taken place behind (omega (arith, within)))) in
    let upper : IfSome told (λ bytes. (place : ℕ) → f.block ≤ place → place < f.block + f.block → cell_at now place ≡ decoded f.format (cell_bytes f.format bytes place)) =
    loaded_told f.format told second now.cells f.block f.block f.block given_again (omega (arith, c.copy-in-Ok-turn_to.ensures.size ∙ size_again)) (omega arith)
    (λ place behind within.
    subst (λ (x : Format). cell_at now place ≡ decoded x (cell_bytes x second (place - f.block))) shape.format
    (subst (λ (n : ℕ). cell_at now place ≡ decoded middle.format (cell_bytes middle.format second (place - n))) block
    (c.take_second.ensures.taken place (omega (arith, behind, block)) (omega (arith, within, block))))) in
    both_loaded told middle now
    (subst (λ (n : ℕ). IfSome told (λ bytes. (place : ℕ) → 8 ≤ place → place < n → cell_at middle place ≡ decoded middle.format (cell_bytes middle.format bytes place))) (let e : 0 + f.block ≡ middle.block = omega (arith, block) in e)
    (subst (λ (x : Format). IfSome told (λ bytes. (place : ℕ) → 8 ≤ place → place < 0 + f.block → cell_at middle place ≡ decoded x (cell_bytes x bytes place))) (sym shape.format) lower))
    (subst (λ (n : ℕ). IfSome told (λ bytes. (place : ℕ) → n ≤ place → place < n + n → cell_at now place ≡ decoded middle.format (cell_bytes middle.format bytes place))) (sym block)
    (subst (λ (x : Format). IfSome told (λ bytes. (place : ℕ) → f.block ≤ place → place < f.block + f.block → cell_at now place ≡ decoded x (cell_bytes x bytes place))) (sym shape.format) upper))
    c.take_second.ensures.below c.take_second.ensures.shape
