-- Two files are compared, and where they are the same a session is served over their mirror.
use Rattle.std.proofs.Common.{◌≡◌, ℕ, Option, Ok, refl, sym, ap, ◌∙◌, subst}
use Rattle.cola_mirror.specs.declared.sides.Sides.{Sides}
use Rattle.cola_mirror.specs.Differ.{first_difference, IfBoth, Compares}
use Rattle.cola_mirror.specs.Device.{mirror_device}
use Rattle.cola_mirror.proofs.SoundLemmas.{same-told}
use Rattle.cola_command.specs.Headline.{FileEnds}
use Rattle.cola_command.specs.Mirrored.{mirrored_status, NotCompared, Differ, Mirrored}
use Rattle.cola_command.proofs.mirrored.serve_mirror.Goals as goal

pub new-mirror-requires : goal.new-mirror-requires
new-mirror-requires g c =
    let only = c.in-Ok-None.ensures.only_compared.only_read in
    let same = same-told (g.D.Device.bytes c.args.device) (g.D.Device.bytes c.args.second) (g.met.D.Device.told c.args.device ∙ sym (g.met.D.Device.told c.args.second))
    (subst (λ (place : Option ℕ). IfBoth (g.D.Device.bytes c.args.device) (g.D.Device.bytes c.args.second) (λ xs ys. place ≡ first_difference xs ys)) c.in-Ok-None.field-0-is c.in-Ok-None.ensures.compares.place_is) in
    only.bytes_stay ∙ same ∙ sym only.second_bytes_stay

pub returns-in-Ok-None : goal.returns-in-Ok-None
returns-in-Ok-None g c =
    let served = c.serve_file-mirror in
    Mirrored (record {
      first = c.compare.new.first;
      other = c.compare.new.second;
      compares = subst (λ (place : Option ℕ). Compares g.D.Device g.D.Device c.args.device c.compare.new.first c.args.second c.compare.new.second first_difference (Ok place)) c.in-Ok-None.field-0-is c.in-Ok-None.ensures.compares;
      only_compared = c.in-Ok-None.ensures.only_compared;
      last = served.result.0;
      of_lines = served.result.1;
      ends = subst (λ pair. FileEnds g.S.Source g.K.Sink (mirror_device g.D.Device g.D.Device) c.args.cache c.args.cost c.args.source.now served.new.source c.args.sink.now served.new.sink pair served.result.0 c.args.steps.now served.new.steps served.result.1) c.new-mirror.ensures served.ensures;
      sound = c.sides.ensures.sound;
      device_is = c.into_parts-device.ensures.first;
      second_is = c.into_parts-device.ensures.second;
      status_is = c.status_by-status.ensures ∙ ap (λ (sides : Sides). mirrored_status served.result.1 sides) c.sides.ensures.sides;
    })

pub returns-in-Ok-Some : goal.returns-in-Ok-Some
returns-in-Ok-Some g c =
    Differ refl c.in-Ok-Some.field-0-0
    (record {
      compares = subst (λ (place : Option ℕ). Compares g.D.Device g.D.Device c.args.device c.compare.new.first c.args.second c.compare.new.second first_difference (Ok place)) c.in-Ok-Some.field-0-is c.in-Ok-Some.ensures.compares;
      only_compared = c.in-Ok-Some.ensures.only_compared;
      untouched = record { source_stays = refl; sink_stays = refl; steps_stay = refl };
    })

pub returns-in-Err : goal.returns-in-Err
returns-in-Err g c = NotCompared refl c.in-Err.field-0 (record { compares = c.in-Err.ensures.compares; only_compared = c.in-Err.ensures.only_compared; untouched = record { source_stays = refl; sink_stays = refl; steps_stay = refl } })
