use Rattle.std.proofs.Common.{inl, refl, ◌∙◌}
use Rattle.cola_load.proofs.Saving.{headless-then, settled-so, settled-two, waits-by}
use Rattle.cola_load.proofs.loader.Loader.finish.Goals as goal

pub returns-in-Ok-settle-clause-finishes : goal.returns-in-Ok-settle-clause-finishes
returns-in-Ok-settle-clause-finishes g c = settled-two _ _ _ _ c.settle.ensures.bytes_stay c.in-Ok.ensures.saves c.write_front.ensures.finishes (λ x y z was next. next x was)

pub returns-in-Err-clause-finishes : goal.returns-in-Err-clause-finishes
returns-in-Err-clause-finishes g c =
    settled-so _ (g.D.Device.bytes c.write_tails.new.device) _ refl c.write_tails.ensures.front_stays (λ x y s rows held. inl (headless-then c.args.self.geometry x y s held.no_header))

pub returns-clause-finishes : goal.returns-clause-finishes
returns-clause-finishes g c = settled-so _ _ _ c.settle.ensures.bytes_stay c.write_tails.ensures.front_stays (λ x y s rows held. inl (headless-then c.args.self.geometry x y s held.no_header))

pub returns-in-Err-clause-size_stays : goal.returns-in-Err-clause-size_stays
returns-in-Err-clause-size_stays g c = settled-so _ (g.D.Device.bytes c.write_tails.new.device) _ refl c.write_tails.ensures.front_stays (λ x y s. s.size_stays)

pub returns-clause-size_stays : goal.returns-clause-size_stays
returns-clause-size_stays g c = settled-so _ _ _ c.settle.ensures.bytes_stay c.write_tails.ensures.front_stays (λ x y s. s.size_stays)

pub returns-in-Ok-settle-clause-size_stays : goal.returns-in-Ok-settle-clause-size_stays
returns-in-Ok-settle-clause-size_stays g c = settled-two _ _ _ _ c.settle.ensures.bytes_stay c.write_tails.ensures.front_stays c.write_front.ensures.size_stays (λ x y z was next. next ∙ was.size_stays)

pub returns-in-Err-clause-waits : goal.returns-in-Err-clause-waits
returns-in-Err-clause-waits g c = inl (settled-so _ (g.D.Device.bytes c.write_tails.new.device) _ refl c.write_tails.ensures.front_stays (λ x y s. s.front_stays))

pub returns-clause-waits : goal.returns-clause-waits
returns-clause-waits g c = inl (settled-so _ _ _ c.settle.ensures.bytes_stay c.write_tails.ensures.front_stays (λ x y s. s.front_stays))

pub returns-in-Ok-settle-clause-waits : goal.returns-in-Ok-settle-clause-waits
returns-in-Ok-settle-clause-waits g c =
    waits-by g.D.Device c.args.self.geometry c.args.device.now c.write_front.new.device c.write_front.result (record {
      between = c.settle.new.self;
      levels_settled = record {
        before = c.write_tails.new.device;
        after = c.settle.new.self;
        settled = c.in-Ok-settle.ensures.settled;
        bytes_stay = c.settle.ensures.bytes_stay;
        writes_stay = refl;
      };
      front_waits = settled-so _ _ _ c.settle.ensures.bytes_stay c.write_tails.ensures.front_stays (λ x y s. s.front_stays);
      levels_stay = c.write_front.ensures.levels_stay;
    })
