use Rattle.std.proofs.Common.{◌≡◌, ◌∙◌, ℕ, true, List, length, Option, Some, None, is_some, refl, sym}
use Rattle.std.specs.Prelude.{IfSome}
use Rattle.std.specs.Option.{IsSomeAnd}
use Rattle.cola_spec.specs.Map.{empty_map, after_put}
use Rattle.cola_image.specs.Standing.{FileStandsFor}
use Rattle.cola_example.proofs.round_trip.Goals as goal

is-some : (told : Option (List ℕ)) → IsSomeAnd told (λ bytes. length bytes ≡ 0) → is_some told ≡ true
is-some None some = absurd some
is-some (Some bytes) some = refl

both-so : (told : Option (List ℕ)) (P : List ℕ → Type 0) → is_some told ≡ true → IfSome told P → IsSomeAnd told P
both-so None P some if_so = cc
both-so (Some bytes) P some if_so = if_so

pub returns : goal.returns
returns g c = λ empty.
    let d = g.D.Device in
    let told = g.met.D.Device.told in
    let made = c.create.new.device in
    let file = both-so (d.bytes made) (λ bytes. FileStandsFor bytes empty_map) (told made ∙ sym (told c.args.device) ∙ is-some (d.bytes c.args.device) empty) c.in_ok-create.ensures.made.stands in
    let writes = c.in_ok-device.ensures empty_map file in
    let reads = c.in_ok-device-2.ensures (after_put writes.shape empty_map c.args.key.now c.args.value.now) writes.reads.file in
    record { writes = record { shape = writes.shape; reads = record { file = reads.file; pair_is = writes.reads.pair_is } }; reads = reads }
