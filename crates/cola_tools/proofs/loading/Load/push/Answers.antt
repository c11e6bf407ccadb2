use Rattle.std.proofs.Common.{◌≡◌, ◌∙◌, ℕ, ◌+◌, ◌<◌, Some, sym, ap, subst, arith}
use Rattle.cola_layout.specs.declared.geometry.Geometry.{Geometry}
use Rattle.cola_tools.specs.Loading.{Loads, HasOneMore, geometry_of, stamp_at}
use Rattle.cola_tools.proofs.Loaded.{goes-on, one-more}
use Rattle.cola_tools.proofs.loading.Load.push.Goals as goal

pub invariant_of-self : goal.invariant_of-self
invariant_of-self c =
    let room : c.self.inside.loader.rows < c.self.inside.loader.geometry.keys = subst (λ (load : Loads). load.loader.rows < (geometry_of load).keys) (sym c.self.view_is) c.requires.room in
    goes-on c.self.inside.loader c.push-pushed.new.self c.self.inside.device c.push-pushed.new.device c.self.inside.geometry c.self.inside.rows c.self.inside.key (Some c.args.key.now)
    c.self.invariant c.is_sound.ensures c.is_sound-2.ensures c.in-Ok.ensures.counts.none_hidden c.push-pushed.ensures.front_stays c.push-pushed.ensures.geometry c.push-pushed.ensures.last
    c.in-Ok.ensures.rows c.in-Ok.ensures.key (omega (arith, room, c.self.invariant.rows_are, ap (λ (g : Geometry). g.keys) c.self.invariant.geometry_is))

pub returns : goal.returns
returns c =
    let old : Loads = record { loader = c.self.inside.loader; device = c.self.inside.device } in
    let now : Loads = record { loader = c.push-pushed.new.self; device = c.push-pushed.new.device } in
    let stamp-is : c.stamp_of-stamp.result ≡ stamp_at (geometry_of old).format (old.loader.rows + 1) =
    c.stamp_of-stamp.ensures
    ∙ (ap (λ (g : Geometry). stamp_at g.format (c.self.inside.rows + 1)) (sym c.self.invariant.geometry_is)
    ∙ ap (λ (n : ℕ). stamp_at (geometry_of old).format (n + 1)) (sym c.self.invariant.rows_are)) in
    let counts = c.push-pushed.ensures.counts in
    subst (λ (load : Loads). HasOneMore load c.args.key.now c.args.value.now now) c.self.view_is (record {
      holds = one-more old now c.args.key.now c.args.value.now c.stamp_of-stamp.result stamp-is c.push-pushed.ensures.geometry c.push-pushed.ensures.last c.in-Ok.ensures.pushes;
      rows_are = c.in-Ok.ensures.rows;
      key_is = c.in-Ok.ensures.key;
      geometry_stays = c.push-pushed.ensures.geometry;
      place_stays = c.push-pushed.ensures.kept;
      reads_stay = omega (arith, counts.reads_stay, counts.reads_rise);
      writes_rise = counts.writes_rise;
    })
