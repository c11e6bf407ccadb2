use Rattle.cola_spec.specs.Map.{after_put}
use Rattle.cola_kv.specs.Kv.{shape_of}
use Rattle.cola_example.proofs.write_one.Goals as goal

pub returns : goal.returns
returns g c = λ m file.
    let held = c.in_ok-kv.ensures m file in
    let shape = shape_of c.in_ok-kv.kv in
    let after = after_put shape m c.args.key.now c.args.value.now in
    let put = c.in_ok-put.ensures.map_after m held in
    record {
      shape = shape;
      reads = record {
        file = c.in_ok-closed.ensures after (c.first_pair.ensures.stays after put);
        pair_is = c.in_ok-pair.ensures.first after put;
      };
    }
