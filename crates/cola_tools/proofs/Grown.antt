-- What growing over lent bytes answers, by what growing over devices answered.
use Rattle.std.proofs.Common.{◌≡◌, ◌∙◌, ◌⊎◌, inl, inr, ℕ, ◌<◌, true, false, true≢false, List, length, Some, Result, Ok, Err, sym, ap, subst, arith}
use Rattle.std.proofs.lemmas.Option.{same_Some}
use denote.RawPtr.{Ptr}
use Rattle.cola_outside.specs.Faults.{Rose}
use Rattle.cola_image.specs.Standing.{HeaderStandsFor}
use Rattle.cola_layout.specs.Fields.{fields_of}
use Rattle.cola_run.specs.Cells.{file_bytes}
use Rattle.cola_load.specs.declared.fault.GrowFault.{GrowFault}
use Rattle.cola_load.specs.declared.fault.GrowFault.TheVariants as fault
use Rattle.cola_load.specs.Filled.{Row}
use Rattle.cola_load.specs.Loading.{IsPartlyLaid, IsUnfinished}
use Rattle.cola_spec.specs.Map.{Map}
use Rattle.cola_tools.specs.declared.fault.ToolFault.{ToolFault}
use Rattle.cola_tools.specs.declared.fault.ToolFault.TheVariants.{Small}
use Rattle.cola_load.specs.Grow as load
use Rattle.cola_load.specs.Grow.HasStopped.{Uncalled, NotBegun, Headless, NotFinished}
use Rattle.cola_tools.specs.Shown.{Showing, unread}
use Rattle.cola_tools.specs.contracts.shown.ShownDevice.TheImpl as shown
use Rattle.cola_tools.specs.New.{New, IsNew, Place, file_of, unlaid, place_of}
use Rattle.cola_tools.specs.contracts.new_device.NewDeviceDevice.TheImpl as new
use Rattle.cola_tools.specs.Growing.{AreZero, HasNoHeader, IsOf, HasNoMap, HasNoRoom, Grows, refusal}
use Rattle.cola_tools.proofs.NewFiles.{not-refused, no-rise, was-refused, file-in, headless, empty-zero, spoiled-long, refused-zero, not-headless, same-zeros}

module _ (at : Ptr) (len : ℕ) (from before : List ℕ) (zero : AreZero before) (from_now : Showing) (to_now : New) (ticks ticks_now keys block_exp : ℕ)
    (quiet : from_now.writes ≡ 0) (sound : IsNew to_now) (placed : place_of to_now ≡ place_of (unlaid at len before)) where
  abbrev to : New
  to = unlaid at len before

  abbrev Answered : Result ℕ GrowFault → Type 0
  Answered = load.Grows shown.ghosts new.ghosts (unread from) from_now to to_now ticks ticks_now keys block_exp

  abbrev Copied : Result ℕ GrowFault → Type 0
  Copied = load.HasCopied shown.ghosts new.ghosts (unread from) from_now to to_now ticks ticks_now keys block_exp

  abbrev Says : Result ℕ ToolFault → Type 0
  Says = Grows keys block_exp from before to_now.bytes ticks ticks_now

  many : length to_now.bytes ≡ length before
  many = ap (λ (place : Place). place.many) placed

  of-copied : (result : Result ℕ GrowFault) (c : Copied result) → IsOf keys block_exp from before to_now.bytes ticks ticks_now (fields_of c.header) c.geometry
  of-copied result c = record {
    was = c.was;
    few = c.few;
    is_for = c.is_for;
    steps_stay = c.spent.steps_stay;
    few_ticks = c.spent.few_ticks;
  }

  stays : to_now ≡ to → to_now.bytes ≡ before
  stays same = ap (λ (d : New). d.bytes) same

  no-header : (to_now.faults ≡ 0) → (to_now ≡ to) ⊎ load.IsLeftHeadless new.ghosts to to_now → HasNoHeader to_now.bytes
  no-header calm (inl same) = inl (subst AreZero (sym (stays same)) zero)
  no-header calm (inr left) = inr (headless to_now sound (not-refused to_now sound calm) left.no_header)

  pub grown : (count : ℕ) → Answered (Ok count) → Says (Ok count)
  grown count c =
      let rows : List Row = c.copies.0 in
      let is = c.copies.1 in
      let laid : to_now.refused ≡ false = not-refused to_now sound c.faults.1 in
      record {
        header = fields_of c.header;
        geometry = c.geometry;
        is_of = of-copied (Ok count) c;
        was_zero = zero;
        rows = rows;
        count_is = is.count_is;
        filled = record {
          file = file_of to_now;
          in_bytes = file-in to_now sound laid (file_bytes c.geometry) is.filled.whole;
          are_rows = is.are_rows;
          filled = is.filled;
        };
        as_many = many;
        map_is = is.map_is;
      }

  no-map : (result : Result ℕ GrowFault) (c : Copied result) → ((m : Map) → ¬ HeaderStandsFor (fields_of c.header) from m) → to_now.faults ≡ 0
      → (to_now ≡ to) ⊎ load.IsLeftHeadless new.ghosts to to_now → HasNoMap keys block_exp from before to_now.bytes ticks ticks_now
  no-map result c none calm left = record {
    header = fields_of c.header;
    geometry = c.geometry;
    is_of = of-copied result c;
    none = none;
    no_header = no-header calm left;
    as_many = many;
  }

  -- where the new device met a fault, it refused the layout: there are fewer bytes than the new store has
  module _ (c : Copied (Err fault.Device)) (spoiled : to_now.refused ≡ true) where
    by-left : (Some (file_of to_now) ≡ Some (file_of to)) ⊎ IsPartlyLaid new.ghosts c.geometry c.header.last to to_now → length before < file_bytes c.geometry
    by-left (inl same) = absurd (omega (arith, ap length (same_Some (file_of to_now) (file_of to) same), spoiled-long to_now sound spoiled))
    by-left (inr part) = omega (arith, part.at_most, spoiled-long to_now sound spoiled, many)

    by-rest : (rows : List Row) → IsUnfinished c.geometry c.header.last rows (file_of to_now) → length before < file_bytes c.geometry
    by-rest rows (inl none) = absurd (not-headless to_now sound spoiled none)
    by-rest rows (inr behind) = omega (arith, behind.many, behind.filled.whole, spoiled-long to_now sound spoiled, many)

    few-bytes : load.HasStopped new.ghosts c.header c.geometry (Some from) to to_now → length before < file_bytes c.geometry
    few-bytes (Uncalled same) = absurd (true≢false (sym spoiled ∙ ap (λ (d : New). d.refused) same))
    few-bytes (NotBegun begun) = by-left begun.failed.left
    few-bytes (Headless left) = absurd (not-headless to_now sound spoiled left.no_header)
    few-bytes (NotFinished rows unfinished) = by-rest rows unfinished.left

    no-room : HasNoRoom keys block_exp from before to_now.bytes ticks ticks_now
    no-room = record {
      header = fields_of c.header;
      geometry = c.geometry;
      is_of = of-copied (Err fault.Device) c;
      fewer = few-bytes c.copies;
    }

  bytes-stay : to_now.faults ≡ 0 → Some (file_of to_now) ≡ Some (file_of to) → to_now.bytes ≡ before
  bytes-stay calm same =
      let none : length (file_of to_now) ≡ 0 = ap length (same_Some (file_of to_now) (file_of to) same) in
      same-zeros to_now.bytes before (empty-zero to_now sound (not-refused to_now sound calm) none) zero many

  by-fault : (c : Copied (Err fault.Device)) → Rose 0 from_now.writes ⊎ Rose 0 to_now.faults → Says (Err Small)
  by-fault c (inl rose) = absurd (no-rise from_now.writes quiet rose)
  by-fault c (inr rose) =
      let spoiled : to_now.refused ≡ true = was-refused to_now sound rose in
      (inr (inr (no-room c spoiled)), same-zeros to_now.bytes before (refused-zero to_now sound spoiled) zero many)

  pub refused : (why : GrowFault) → Answered (Err why) → Says (Err (refusal why))
  refused fault.Small r = (inl r.seen.why_is, stays r.untouched)
  refused fault.NotStore r = (r.seen.why_is, stays r.untouched)
  refused fault.NotClosed r = (r.seen.why_is, stays r.untouched)
  refused (fault.Fewer count) r = ((count, (r.0.seen.why_is, r.1)), stays r.0.untouched)
  refused fault.OutOfMemory c = ((fields_of c.header, (c.geometry, of-copied (Err fault.OutOfMemory) c)), bytes-stay c.faults.1 c.copies.bytes_stay)
  refused (fault.BadCell number) c = no-map (Err (fault.BadCell number)) c c.copies.no_map c.faults.1 c.copies.left
  refused fault.NotEmpty c = absurd (omega (arith, c.copies.was))
  refused (fault.Disorder number) c = no-map (Err (fault.Disorder number)) c c.copies.no_map c.faults.1 (inr c.copies.left)
  refused fault.Device (inl failed) = absurd (no-rise from_now.writes quiet failed.failed.cause)
  refused fault.Device (inr c) = by-fault c c.faults

-- the same answer, of devices and a result that are these
pub answered : (shows : Showing) (lays : New) (at : Ptr) (len : ℕ) (from before : List ℕ) (from_now : Showing) (to_now : New) (ticks ticks_now keys block_exp : ℕ) (result same : Result ℕ GrowFault)
    → shows ≡ unread from → lays ≡ unlaid at len before → result ≡ same
    → load.Grows shown.ghosts new.ghosts shows from_now lays to_now ticks ticks_now keys block_exp result
    → load.Grows shown.ghosts new.ghosts (unread from) from_now (unlaid at len before) to_now ticks ticks_now keys block_exp same
answered shows lays at len from before from_now to_now ticks ticks_now keys block_exp result same shows-is lays-is result-is says =
    subst (λ (r : Result ℕ GrowFault). load.Grows shown.ghosts new.ghosts (unread from) from_now (unlaid at len before) to_now ticks ticks_now keys block_exp r) result-is
    (subst (λ (e : New). load.Grows shown.ghosts new.ghosts (unread from) from_now e to_now ticks ticks_now keys block_exp result) lays-is
    (subst (λ (d : Showing). load.Grows shown.ghosts new.ghosts d from_now lays to_now ticks ticks_now keys block_exp result) shows-is says))
