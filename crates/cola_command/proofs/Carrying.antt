-- A session over a file that carries out lines: what became of it so far, and what one more line makes of it.
use Rattle.std.proofs.Common.{◌≡◌, ℕ, ◌+◌, ◌≤◌, Bool, List, [], ◌∷◌, ◌++◌, length, take, All, Option, Some, None, Result, Ok, Err, refl, sym, ap, ◌∙◌, subst, append-nil, append_assoc, arith}
use Rattle.std.specs.Prelude.{IfSome}
use Rattle.std.specs.List.{flat_map, slice_index_or}
use Rattle.std.proofs.lemmas.List.{map-append}
use Rattle.std.proofs.lemmas.List.Elements.{All-nil, All-append}
use Rattle.std.proofs.lemmas.Grind.{flat_map-append}
use Rattle.cola_outside.specs.Told.{Both}
use Rattle.cola_cell.specs.declared.format.Format.{Format}
use Rattle.cola_device.specs.declared.device.Device as device
use Rattle.cola_io.specs.Streams.{Appended}
use Rattle.cola_io.specs.declared.sink.Sink as sink
use Rattle.cola_io.specs.declared.sink.SinkFault.{SinkFault}
use Rattle.cola_io.proofs.StreamLemmas.{Appended-none, Appended-then}
use Rattle.cola_layout.proofs.Powers.{power-le}
use Rattle.cola_spec.specs.Map.{Shape}
use Rattle.cola_spec.specs.Lines.{Line}
use Rattle.cola_spec.specs.Command.{Command, Put, PutIf, Del, Get, Stamp, Range, Scan, Count, Close, Reopen, line_requests}
use Rattle.cola_spec.specs.Machine as machine
use Rattle.cola_spec.specs.Machine.{State, Turn, History, kind_of, turn_text, turns_text, ticks_of, faulted_steps}
use Rattle.cola_spec.specs.Bounds.{request_bound}
use Rattle.cola_shapes.specs.Shapes.{shape_of}
use Rattle.cola_line.proofs.Listing.{take_beyond}
use Rattle.cola_store.specs.Store.{levels_of}
use Rattle.cola_store.specs.Table.{store_table}
use Rattle.cola_command.specs.declared.file.Session.{Session}
use Rattle.cola_command.specs.declared.place.Place.{Place}
use Rattle.cola_command.specs.declared.place.Place.TheVariants as place
use Rattle.cola_command.specs.File.{Sizes, shape, KeepsBehind, device_of, table_in, format_of, faults_of, IsOfSizes}
use Rattle.cola_session.specs.Home.{FaultsOver, cut_after, cut_by_request, Point, point, depth_in, LineLeads, LinesLead, FrontLeads}
use Rattle.cola_command.specs.Turns.{KeepsFormat, SessionAt, file_home}
use Rattle.cola_command.specs.Headline.{Known, sizes_known, state_known, asked, AreAsked, WroteLines}
use Rattle.cola_command.specs.Moves.{AllMove}
use Rattle.cola_session.proofs.CutOff.{quiet-run}
use Rattle.cola_command.proofs.Caching.{AllCaused, caused-append, line-caused}
use Rattle.cola_session.proofs.Leading.{led-by}
use Rattle.cola_command.proofs.Moving.{moves-append, line-moves}
use Rattle.cola_command.proofs.PlaceCauses.{caused-place}
use Rattle.cola_command.proofs.Settling.{IsSettledAt, line-settles}

-- Turns one after another

pub asked-append : (a b : List Turn) → asked (a ++ b) ≡ asked a ++ asked b
asked-append a b = map-append (λ (turn : Turn). turn.request) a b

pub ticks-append : (a b : List Turn) → ticks_of (a ++ b) ≡ ticks_of a + ticks_of b
ticks-append [] b = omega arith
ticks-append (turn ∷ a) b = let rest = ticks-append a b in omega (arith, rest)

pub cut-append : (a b : List Turn) (before : Bool) → cut_after (a ++ b) before ≡ cut_after b (cut_after a before)
cut-append [] b before = refl
cut-append (turn ∷ a) b before = cut-append a b (cut_by_request turn.request turn.answer before)

pub faults-append : (a b : List Turn) (x y z : ℕ) → FaultsOver a x y → FaultsOver b y z → FaultsOver (a ++ b) x z
faults-append [] b x y z first next = subst (λ n. FaultsOver b n z) first next
faults-append (turn ∷ a) b x y z (between, (one, rest)) next = (between, (one, faults-append a b between y z rest next))

pub faulted-append : (a b : List Turn) → faulted_steps (a ++ b) ≡ faulted_steps a + faulted_steps b
faulted-append [] b = omega arith
faulted-append (turn ∷ a) b = let rest = faulted-append a b in omega (arith, rest)

pub run-append : (shape : Shape) (a b : List Turn) (first mid last : State) → History shape first a mid → History shape mid b last → History shape first (a ++ b) last
run-append shape [] b first mid last start next = subst (λ s. History shape s b last) start next
run-append shape (turn ∷ a) b first mid last (between, step, rest) next = (between, step, run-append shape a b between mid last rest next)

pub asks-then : (lines : List Line) (line : Line) (format : Format) (a b : List (Option Command)) → AreAsked lines a → b ≡ line_requests (shape_of format 0) line → AreAsked (lines ++ line ∷ []) (a ++ b)
asks-then [] line format a b none is = (format, ([], (ap (λ t. t ++ b) none ∙ is ∙ sym (append-nil _), refl)))
asks-then (first ∷ lines) line format a b (other, (rest, (whole, asks))) is = (other, (rest ++ b, (ap (λ t. t ++ b) whole ∙ append_assoc _ rest b, asks-then lines line format rest b asks is)))

flat-last : {X A : Type 0} (f : X → List A) (xs : List X) (x : X) → flat_map f (xs ++ x ∷ []) ≡ flat_map f xs ++ f x
flat-last f xs x = flat_map-append f xs (x ∷ []) ∙ ap (λ t. flat_map f xs ++ t) (append-nil (f x))

-- Files of known sizes

pub both-same : (sizes : Sizes) (a : Option (List ℕ)) → Both a a (KeepsBehind sizes)
both-same sizes None = tt
both-same sizes (Some bytes) = record { many = refl; behind = refl }

pub both-then : (sizes : Sizes) (a b c : Option (List ℕ)) → Both a b (KeepsBehind sizes) → Both b c (KeepsBehind sizes) → Both a c (KeepsBehind sizes)
both-then sizes None None c p q = q
both-then sizes None (Some b) c p q = absurd p
both-then sizes (Some a) None c p q = absurd p
both-then sizes (Some a) (Some b) None p q = absurd q
both-then sizes (Some a) (Some b) (Some c) p q = record { many = q.many ∙ p.many; behind = q.behind ∙ p.behind }

-- a table without levels is within the bounds of any
least-bound : (levels : ℕ) (request : Option Command) → request_bound 0 request ≤ request_bound levels request
least-bound levels None = omega arith
least-bound levels (Some (Put key value)) = omega arith
least-bound levels (Some (PutIf key seen value)) = omega arith
least-bound levels (Some (Del key)) = omega arith
least-bound levels (Some (Get key)) = omega arith
least-bound levels (Some (Stamp key)) = omega arith
least-bound levels (Some (Range low high)) = let p = power-le 2 (levels + 2) (omega arith) in omega (arith, p)
least-bound levels (Some (Scan low most)) = let p = power-le 2 (levels + 2) (omega arith) in omega (arith, p)
least-bound levels (Some Count) = omega arith
least-bound levels (Some Close) = omega arith
least-bound levels (Some Reopen) = omega arith

module _ {D : Type 0} (d : device.Ghosts D) where
  -- the levels of a store are those of its file's sizes
  bound-is : (sizes : Sizes) (old : Place D d) → IsOfSizes d sizes old → (request : Option Command) → request_bound (depth_in (store_table d) (table_in old)) request ≤ request_bound (sizes.bottom + 1) request
  bound-is sizes (place.Open store) is request =
      let e : levels_of store ≡ sizes.bottom + 1 = ap (λ (s : Sizes). s.bottom + 1) is.sizes_are in
      subst (λ n. request_bound (levels_of store) request ≤ request_bound n request) e (omega arith)
  bound-is sizes (place.Closing closing) is request = least-bound (sizes.bottom + 1) request
  bound-is sizes (place.Closed device) is request = least-bound (sizes.bottom + 1) request

  -- so is the format of lines, where it was that of the file before
  format-kept : (sizes : Sizes) (now : Place D d) (last before : Format) → IsOfSizes d sizes now → KeepsFormat now last before → before ≡ sizes.format → format_of now last ≡ sizes.format
  format-kept sizes (place.Open store) last before is kept was = ap (λ (s : Sizes). s.format) is.sizes_are
  format-kept sizes (place.Closing closing) last before is kept was = kept ∙ was
  format-kept sizes (place.Closed device) last before is kept was = kept ∙ was

  within-is : (sizes : Sizes) (old : Place D d) (turns : List Turn) → IsOfSizes d sizes old → All (λ (turn : Turn). turn.ticks ≤ request_bound (depth_in (store_table d) (table_in old)) turn.request) turns → All (λ (turn : Turn). turn.ticks ≤ request_bound (sizes.bottom + 1) turn.request) turns
  within-is sizes old turns is within = λ k x below. let turn = slice_index_or turns k x in let w = within k x below in let b = bound-is sizes old is turn.request in omega (arith, w, b)

-- What became of a session so far

-- what is known of the file holds of the session at the beginning
abbrev pub BeginsAt : {D : Type 0} (d : device.Ghosts D) → Session D d → Option Known → Type 0
BeginsAt d first known = IfSome known (λ known. SessionAt d known.sizes first (machine.Open known.map))

module _ {K D : Type 0} (h : sink.Ghosts K) (d : device.Ghosts D) (first : Session D d) (sink : K) (steps : ℕ) where
  -- of a session over a file of these sizes: it still is, the turns are those of the lines in its format, each turn is within the bound of its request, and the bytes stay in number, and behind the cells
  pub record StillOf (sizes : Sizes) (lines : List Line) (turns : List Turn) (now : Session D d) : Type 0 where
    pub format_is : format_of now.place now.format ≡ sizes.format
    pub asks : asked turns ≡ flat_map (line_requests (shape sizes)) lines
    pub of_sizes : IsOfSizes d sizes now.place
    pub within : All (λ (turn : Turn). turn.ticks ≤ request_bound (sizes.bottom + 1) turn.request) turns
    pub behind : Both (d.bytes (device_of first.place)) (d.bytes (device_of now.place)) (KeepsBehind sizes)

  -- the turns are those of the lines in the file's format, and lead the session machine from the map that the store held to where the session is; and, where none is faulted, each moves the store and its device's counts as it may
  pub record RunsSoFar (known : Known) (lines : List Line) (turns : List Turn) (now : Point (Session D d) K) : Type 0 where
    pub asks : asked turns ≡ flat_map (line_requests (shape known.sizes)) lines
    pub run : History (shape known.sizes) (machine.Open known.map) turns now.state
    pub at : SessionAt d known.sizes now.home now.state
    pub moves : faulted_steps turns ≡ 0 → AllMove d known.sizes first.cache turns first.place now.home.place

  -- lines were carried out by turns
  pub record SoFar (known : Option Known) (lines : List Line) (turns : List Turn) (now : Point (Session D d) K) : Type 0 where
    pub asks : AreAsked lines (asked turns)
    pub counted : now.steps ≡ steps + ticks_of turns
    pub faults : FaultsOver turns (faults_of d first.place) (faults_of d now.home.place)
    pub kept : d.kept (device_of now.home.place) ≡ d.kept (device_of first.place)
    pub cut_off : now.home.cut_off ≡ cut_after turns first.cut_off
    pub cache_is : now.home.cache ≡ first.cache
    pub cost_is : now.home.cost ≡ first.cost
    pub settled : IsSettledAt d first.place first.cut_off → IsSettledAt d now.home.place now.home.cut_off
    pub sized : (sizes : Sizes) → IsOfSizes d sizes first.place → format_of first.place first.format ≡ sizes.format → StillOf sizes lines turns now.home
    pub caused : AllCaused (store_table d) d h first.cache turns first.place now.home.place
    pub runs : IfSome known (λ known. RunsSoFar known lines turns now)

  -- and the texts of their replies were written
  pub record SoFarWrote (known : Option Known) (lines : List Line) (turns : List Turn) (now : Point (Session D d) K) : Type 0 where
    pub so_far : SoFar known lines turns now
    pub wrote : Appended (turns_text first.cost turns) (h.written sink) (h.written now.sink)

  -- Nothing yet

  runs-none : (known : Option Known) → BeginsAt d first known → IfSome known (λ of. RunsSoFar of [] [] (point first sink steps (state_known known)))
  runs-none None begins = tt
  runs-none (Some known) begins = record { asks = refl; run = refl; at = begins; moves = λ none. refl }

  none-yet : (known : Option Known) → BeginsAt d first known → SoFarWrote known [] [] (point first sink steps (state_known known))
  none-yet known begins = record {
    so_far = record {
      asks = refl;
      counted = omega arith;
      faults = refl;
      kept = refl;
      cut_off = refl;
      cache_is = refl;
      cost_is = refl;
      settled = λ at. at;
      sized = λ sizes of format. record { format_is = format; asks = refl; of_sizes = of; within = All-nil _; behind = both-same sizes (d.bytes (device_of first.place)) };
      caused = refl;
      runs = runs-none known begins;
    };
    wrote = Appended-none (h.written sink);
  }

  -- One more line

  module _ (line : Line) (result : Result (Unit {0}) SinkFault) (lines : List Line) (turns more : List Turn) (mid now : Point (Session D d) K) where
    abbrev Leads : Option Sizes → Type 0
    Leads sizes = LineLeads (store_table d) (file_home d) h sizes line result more mid now

    -- of a file of known sizes
    sized-then : (known : Option Sizes) (sizes : Sizes) → Leads known → StillOf sizes lines turns mid.home → StillOf sizes (lines ++ line ∷ []) (turns ++ more) now.home
    sized-then known sizes c so_far = record {
      format_is = format-kept d sizes now.home.place now.home.format (format_of mid.home.place mid.home.format) (c.keeps.place.sizes sizes so_far.of_sizes) c.keeps.format_is so_far.format_is;
      asks =
          let line-asks : asked more ≡ line_requests (shape sizes) line = c.asks sizes.keys ∙ ap (λ f. line_requests (shape_of f sizes.keys) line) so_far.format_is in
          asked-append turns more ∙ ap (λ a. a ++ asked more) so_far.asks ∙ ap (λ a. flat_map (line_requests (shape sizes)) lines ++ a) line-asks ∙ sym (flat-last (line_requests (shape sizes)) lines line);
      of_sizes = c.keeps.place.sizes sizes so_far.of_sizes;
      within = All-append (λ (turn : Turn). turn.ticks ≤ request_bound (sizes.bottom + 1) turn.request) turns more so_far.within (within-is d sizes mid.home.place more so_far.of_sizes c.within);
      behind = both-then sizes (d.bytes (device_of first.place)) (d.bytes (device_of mid.home.place)) (d.bytes (device_of now.home.place)) so_far.behind (c.keeps.place.behind sizes so_far.of_sizes);
    }

    -- of a file that stands for a map
    runs-then : (known : Option Known) → Leads (sizes_known known) → mid.home.cache ≡ first.cache → IfSome known (λ known. RunsSoFar known lines turns mid) → IfSome known (λ known. RunsSoFar known (lines ++ line ∷ []) (turns ++ more) now)
    runs-then None c cache r = tt
    runs-then (Some known) c cache r =
        let line-asks : asked more ≡ line_requests (shape known.sizes) line = c.asks known.sizes.keys ∙ ap (λ f. line_requests (shape_of f known.sizes.keys) line) r.at.format_is in
        record {
          asks = asked-append turns more ∙ ap (λ a. a ++ asked more) r.asks ∙ ap (λ a. flat_map (line_requests (shape known.sizes)) lines ++ a) line-asks ∙ sym (flat-last (line_requests (shape known.sizes)) lines line);
          run = run-append (shape known.sizes) turns more (machine.Open known.map) mid.state now.state r.run c.runs;
          at = c.stays;
          moves = λ none.
              let whole = faulted-append turns more in
              let quiet = quiet-run (shape known.sizes) (machine.Open known.map) turns mid.state r.run (omega (arith, none, whole)) tt in
              let moved = line-moves d known.sizes h line result more mid now c quiet (omega (arith, none, whole)) in
              moves-append d known.sizes first.cache turns more first.place mid.home.place now.home.place (r.moves (omega (arith, none, whole))) (subst (λ n. AllMove d known.sizes n more mid.home.place now.home.place) cache moved);
        }

    so-far-then : (known : Option Known) → SoFar known lines turns mid → Leads (sizes_known known) → SoFar known (lines ++ line ∷ []) (turns ++ more) now
    so-far-then known so_far c = record {
      asks = subst (λ a. AreAsked (lines ++ line ∷ []) a) (sym (asked-append turns more)) (asks-then lines line (format_of mid.home.place mid.home.format) (asked turns) (asked more) so_far.asks (c.asks 0));
      counted = omega (arith, so_far.counted, c.counted, ticks-append turns more);
      faults = faults-append turns more (faults_of d first.place) (faults_of d mid.home.place) (faults_of d now.home.place) so_far.faults c.faults;
      kept = c.keeps.place.kept ∙ so_far.kept;
      cut_off = c.cut_off ∙ ap (cut_after more) so_far.cut_off ∙ sym (cut-append turns more first.cut_off);
      cache_is = c.keeps.cache_is ∙ so_far.cache_is;
      cost_is = c.keeps.cost_is ∙ so_far.cost_is;
      settled = λ begins. subst (λ (b : Bool). IsSettledAt d now.home.place b) (sym c.cut_off)
          (line-settles (store_table d) d h mid.home.cache result mid.home.place mid.sink now.home.place now.sink mid.home.cut_off (so_far.settled begins) more (caused-place (store_table d) d h result mid.home mid.sink more now.home now.sink c.cause));
      sized = λ sizes of format. sized-then (sizes_known known) sizes c (so_far.sized sizes of format);
      caused = caused-append (store_table d) d h first.cache turns more first.place mid.home.place now.home.place so_far.caused (line-caused d h first.cache (sizes_known known) line result more mid now c so_far.cache_is);
      runs = runs-then known c so_far.cache_is so_far.runs;
    }

  text-then : (cost : Bool) (turns more : List Turn) → cost ≡ first.cost → turns_text first.cost turns ++ turns_text cost more ≡ turns_text first.cost (turns ++ more)
  text-then cost turns more same = ap (λ c. turns_text first.cost turns ++ turns_text c more) same ∙ sym (flat_map-append (turn_text first.cost) turns more)

  one-more : (known : Option Known) (lines : List Line) (turns more : List Turn) (line : Line) (mid now : Point (Session D d) K) → SoFarWrote known lines turns mid → LineLeads (store_table d) (file_home d) h (sizes_known known) line (Ok tt) more mid now
      → SoFarWrote known (lines ++ line ∷ []) (turns ++ more) now
  one-more known lines turns more line mid now before c = record {
    so_far = so-far-then line (Ok tt) lines turns more mid now known before.so_far c;
    wrote = subst (λ text. Appended text (h.written sink) (h.written now.sink)) (text-then mid.home.cost turns more before.so_far.cost_is)
        (Appended-then (turns_text first.cost turns) (turns_text mid.home.cost more) (h.written sink) (h.written mid.sink) (h.written now.sink) before.wrote c.wrote);
  }

  -- Lines

  module _ (known : Option Known) (begins : BeginsAt d first known) where
    abbrev start : Point (Session D d) K
    start = point first sink steps (state_known known)

    pub lines-then : (lines : List Line) (turns : List Turn) (now : Point (Session D d) K) → LinesLead (store_table d) (file_home d) h (sizes_known known) lines turns start now → SoFarWrote known lines turns now
    lines-then = led-by (store_table d) (file_home d) h (sizes_known known) (SoFarWrote known) (one-more known) [] [] start (none-yet known begins)

    -- and one in whose reply the sink failed
    pub record FrontSoFar (before : List Line) (last : Line) (turns : List Turn) (now : Point (Session D d) K) : Type 0 where
      pub so_far : SoFar known (before ++ last ∷ []) turns now
      pub wrote : WroteLines first.cost before turns (h.written sink) (h.written now.sink)

    pub front-then : (before : List Line) (last : Line) (turns : List Turn) (now : Point (Session D d) K) → FrontLeads (store_table d) (file_home d) h (sizes_known known) before last turns start now → FrontSoFar before last turns now
    front-then before last turns now f =
        let old = lines-then before f.earlier f.mid f.led in
        let n = f.in_last.wrote.0 in
        let size = length (turns_text first.cost f.earlier) + n in
        record {
          so_far = subst (λ (ts : List Turn). SoFar known (before ++ last ∷ []) ts now) (sym f.are) (so-far-then last (Err f.fault) before f.earlier f.late f.mid now known old.so_far f.in_last);
          wrote = record {
            earlier = f.earlier;
            late = f.late;
            are = f.are;
            asks = old.so_far.asks;
            front = record {
              size = size;
              least_is = omega arith;
              wrote = subst (λ text. Appended text (h.written sink) (h.written now.sink))
                  (sym (take_beyond (turns_text first.cost f.earlier) (turns_text f.mid.home.cost f.late) n) ∙ ap (take size) (text-then f.mid.home.cost f.earlier f.late old.so_far.cost_is ∙ ap (turns_text first.cost) (sym f.are)))
                  (Appended-then (turns_text first.cost f.earlier) (take n (turns_text f.mid.home.cost f.late)) (h.written sink) (h.written f.mid.sink) (h.written now.sink) old.wrote f.in_last.wrote.1);
            };
          };
        }
