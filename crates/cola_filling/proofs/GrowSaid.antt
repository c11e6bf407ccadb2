-- How the growing of a file ends, by its status, in plain terms.
use Rattle.std.proofs.Common.{◌≡◌, inl, inr, ℕ, Err}
use Rattle.cola_device.specs.declared.device.Device as device
use Rattle.cola_io.specs.declared.sink.Sink as sink
use Rattle.cola_load.specs.declared.fault.GrowFault.{GrowFault}
use Rattle.cola_load.specs.declared.fault.GrowFault.TheVariants as grow
use Rattle.cola_load.specs.Grow.{Grows}
use Rattle.cola_report.specs.Line.LineEnds.{WroteLine, WroteFront}
use Rattle.cola_filling.specs.Grows.{GrowEnds, Grown, NotGrown, grow_status}
use Rattle.cola_filling.specs.GrowLaws as laws
use Rattle.cola_filling.specs.GrowLaws.{GrowAnswers}

module _ {K D : Type 0} (h : sink.Ghosts K) (d : device.Ghosts D) (keys block_exp : ℕ) (device device' second second' : D) (sink sink' : K) (steps steps' : ℕ) (status : ℕ) where
  abbrev Answers : Type 0
  Answers = GrowAnswers h d keys block_exp device device' second second' sink sink' steps steps' status

  refused : (fault : GrowFault) → status ≡ grow_status fault → Grows d d device device' second second' steps steps' keys block_exp (Err fault) → sink' ≡ sink → Answers
  refused grow.Small is grows stays = laws.NoStore is (inr (grows, stays))
  refused grow.NotStore is grows stays = laws.NoStore is (inl (grows, stays))
  refused grow.NotClosed is grows stays = laws.InUse is (grows, stays)
  refused (grow.Fewer count) is grows stays = laws.TooFewKeys is count (grows, stays)
  refused grow.OutOfMemory is grows stays = laws.NoMemory is (grows, stays)
  refused (grow.BadCell number) is grows stays = laws.Damaged is number (inl (grows, stays))
  refused grow.NotEmpty is grows stays = laws.NotEmpty is (grows, stays)
  refused (grow.Disorder number) is grows stays = laws.Damaged is number (inr (grows, stays))
  refused grow.Device is grows stays = laws.DeviceStops is (grows, stays)

  pub answers : GrowEnds h d keys block_exp device device' second second' sink sink' steps steps' status → Answers
  answers (Grown rows grows (WroteLine is wrote counted)) = laws.Grown is rows grows (wrote, counted)
  answers (Grown rows grows (WroteFront is n wrote counted)) = laws.SinkStops is rows grows ((n, wrote), counted)
  answers (NotGrown fault is grows stays) = refused fault is grows stays
