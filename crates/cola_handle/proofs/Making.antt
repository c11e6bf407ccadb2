-- Zero bytes with the header of a new store.
use Rattle.std.proofs.Common.{◌≡◌, ◌∙◌, ℕ, ◌-◌, ◌≤◌, List, ◌++◌, length, take, drop, replicate, refl, sym, ap, subst, arith, length-append}
use Rattle.std.proofs.lemmas.List.{length-replicate, take_at, drop_at}
use Rattle.cola_cell.specs.declared.format.Format.{Format}
use Rattle.cola_device.specs.Bytes.{splice}
use Rattle.cola_layout.specs.Header.{IsSpelling}
use Rattle.cola_opening.specs.Judged.{file_size}
use Rattle.cola_image.proofs.StandingLemmas.{empty-stands}
use Rattle.cola_store.specs.Create.{new_header}
use Rattle.cola_store.proofs.Filled.{zeros_behind}
use Rattle.cola_handle.specs.Created.{HasSizes, AreZero, IsMade}

pub made : (format : Format) (keys block_exp version bottom : ℕ) (head before now : List ℕ) → HasSizes keys block_exp version format bottom → length head ≡ 512 → IsSpelling (new_header format keys block_exp bottom) head → 512 ≤ file_size format bottom → file_size format bottom ≤ length before
    → AreZero before → now ≡ splice before 0 head → IsMade keys block_exp version before now
made format keys block_exp version bottom head before now sizes long spelled room enough zero is =
    let behind : List ℕ = replicate (length before - 512) 0 in
    let text : now ≡ head ++ behind = is ∙ (ap (λ (xs : List ℕ). splice xs 0 head) zero ∙ zeros_behind (length before) head long) in
    let tail : drop 512 now ≡ behind = ap (drop 512) text ∙ drop_at head behind 512 long in
    let many : length now ≡ length before = ap length text ∙ (length-append head behind ∙ omega (arith, long, length-replicate {A = ℕ} (length before - 512) 0, room, enough)) in
    record {
      format = format;
      bottom = bottom;
      sizes = sizes;
      enough = enough;
      was_zero = zero;
      stands =
          empty-stands (new_header format keys block_exp bottom) now
          (subst (λ (xs : List ℕ). IsSpelling (new_header format keys block_exp bottom) xs) (sym (ap (take 512) text ∙ take_at head behind 512 long)) spelled)
          refl refl refl refl refl (omega (arith, many, enough));
      as_many = many;
      zero_behind = tail ∙ ap (λ (n : ℕ). replicate n 0) (sym (ap length tail ∙ length-replicate (length before - 512) 0));
    }
