use Rattle.std.proofs.Common.{◌∙◌, ◌≤◌, length, ℕ, None, inr, refl, subst, arith}
use Rattle.cola_outside.specs.Faults.{Rose}
use Rattle.cola_device.specs.declared.device.DeviceFault.{DeviceFault}
use Rattle.cola_load.specs.Loading.{Loading}
use Rattle.std.proofs.lemmas.Option.{IfSome_then}
use Rattle.cola_run.proofs.Spots.{both-second}
use Rattle.cola_run.specs.Cells.{file_bytes}
use Rattle.cola_load.proofs.Saving.{held-of}
use Rattle.cola_load.proofs.loader.Loader.begin.Goals as goal

pub returns-in-Ok-lay_out-clause-begins : goal.returns-in-Ok-lay_out-clause-begins
returns-in-Ok-lay_out-clause-begins g c =
    let parts = c.in-Ok-no_cells.parts in
    let l : Loading = record { geometry = c.args.geometry; last = c.args.last; rows = 0; key = None; front = parts.0; tails = parts.1 } in
    record {
      was_empty = IfSome_then (g.D.Device.bytes c.args.device.now) c.in-Ok.ensures.value (λ bytes is. omega (arith, is, c.if-size-gt0.false));
      geometry_is = refl;
      last_is = refl;
      no_rows = refl;
      no_key = refl;
      holds = held-of DeviceFault (tt {0}) l c.size_of.result (g.D.Device.bytes c.size.new.self) (g.D.Device.bytes c.lay_out.new.self) refl refl c.size_of.ensures.value c.size_of.ensures.header c.in-Ok-lay_out.ensures.laid;
      no_fault = c.in-Ok-lay_out.ensures.counts.none_hidden ∙ c.in-Ok.ensures.counts.none_hidden;
    }

pub returns-in-Err-lay_out-clause-begins : goal.returns-in-Err-lay_out-clause-begins
returns-in-Err-lay_out-clause-begins g c =
    record {
      cause = subst (λ (n : ℕ). Rose n (g.D.Device.counts c.lay_out.new.self).faults) c.in-Ok.ensures.counts.none_hidden c.in-Err-lay_out.ensures.counts.cause;
      left = inr (record {
        was_empty = IfSome_then (g.D.Device.bytes c.args.device.now) c.in-Ok.ensures.value (λ bytes is. omega (arith, is, c.if-size-gt0.false));
        at_most = both-second (g.D.Device.bytes c.size.new.self) (g.D.Device.bytes c.lay_out.new.self) (λ old new. length new ≤ c.size_of.result) (λ bytes. length bytes ≤ file_bytes c.args.geometry)
            (λ x y few. omega (arith, few, c.size_of.ensures.value)) c.in-Err-lay_out.ensures.laid;
      });
    }
