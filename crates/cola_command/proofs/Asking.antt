-- A turn of the session: what follows of its cause, for each kind of command.
use Rattle.std.proofs.Common.{◌≡◌, ℕ, ◌+◌, ◌≤◌, List, [], Option, Some, None, Result, refl, sym, ◌∙◌, ap, subst, arith}
use Rattle.std.specs.Prelude.{IsSome, option_map}
use Rattle.std.proofs.Math.Bridge.{le_prop}
use Rattle.cola_outside.specs.Told.{Both}
use Rattle.cola_cell.specs.declared.format.Format.{Format}
use Rattle.cola_device.specs.declared.device.Device as device
use Rattle.cola_io.specs.declared.sink.Sink as sink
use Rattle.cola_layout.specs.declared.geometry.Geometry.{Geometry}
use Rattle.cola_spec.specs.Command.{Put, PutIf, Del, Get, Stamp, Range, Scan, Count, Close, Reopen}
use Rattle.cola_spec.specs.Command as spec
use Rattle.cola_spec.specs.Reply as reply
use Rattle.cola_spec.specs.Reply.{Reply, reply_text}
use Rattle.cola_spec.specs.Machine as machine
use Rattle.cola_spec.specs.Machine.{State, Turn, Step, kind_of, by_command, turn_text, PlainStep, plain_reply, plain_after, command_reply, command_after}
use Rattle.cola_spec.specs.Bounds.{command_bound, request_bound}
use Rattle.cola_table.specs.Replies.{turn_of}
use Rattle.cola_line.specs.declared.command.Command.{Command}
use Rattle.cola_line.specs.Spoken.{spoken, IsOfTable}
use Rattle.cola_line.specs.Replied.{Wrote, KindFaults, StepsFrom}
use Rattle.cola_line.specs.Answered.{Answered}
use Rattle.cola_run.specs.Store.{Beside, beside}
use Rattle.cola_store.specs.declared.closing.Closing.{Closing as ClosingStore}
use Rattle.cola_session.proofs.OfTable.{by-table, cut-table, map_of, shut-reply, shut-closed}
use Rattle.cola_command.specs.declared.place.Place.{Place}
use Rattle.cola_command.specs.declared.place.Place.TheVariants.{Open, Closing, Closed}
use Rattle.cola_store.specs.Store.{Stored, Holds, geometry_of, levels_of, kept_of, spent_of}
use Rattle.cola_store.specs.Table.{store_table}
use Rattle.cola_command.specs.declared.file.Session.{Session}
use Rattle.cola_command.specs.File.{Sizes, sizes_of, shape, KeepsBehind, table_in, format_of, faults_of, IsAt}
use Rattle.cola_session.specs.Home as home
use Rattle.cola_session.specs.Home.{cut_by_request, depth_in}
use Rattle.cola_command.specs.Turns.{Keeps, KeepsFormat, KeepsSession, file_home}
use Rattle.cola_command.proofs.PlaceTurns.{StepsTo, TurnFacts, stays, session-keeps}

-- ---- an open store

told-beside : (geometry : Geometry) (a b : Option (List ℕ)) → ◌≡◌ {A = Option Beside} (option_map (beside geometry) b) (option_map (beside geometry) a) → Both a b (KeepsBehind (sizes_of geometry))
told-beside geometry None None same = tt
told-beside geometry None (Some b) same = cc
told-beside geometry (Some a) None same = cc
told-beside geometry (Some a) (Some b) same = record { many = ap size same; behind = ap behind same }
  where
    size : Option Beside → ℕ
    size None = 0
    size (Some x) = x.size

    behind : Option Beside → List ℕ
    behind None = []
    behind (Some x) = x.behind

module _ {D : Type 0} (d : device.Ghosts D) (old new : Stored D) (kept : kept_of d.bytes d.counts d.kept new ≡ kept_of d.bytes d.counts d.kept old) where
  same-geometry : geometry_of new ≡ geometry_of old
  same-geometry = ap (λ k. k.geometry) kept

  beside-is : option_map (beside (geometry_of old)) (d.bytes new.chain.store.buffers.cache.device) ≡ option_map (beside (geometry_of old)) (d.bytes old.chain.store.buffers.cache.device)
  beside-is = subst (λ (g : Geometry). option_map (beside g) (d.bytes new.chain.store.buffers.cache.device) ≡ option_map (beside (geometry_of old)) (d.bytes old.chain.store.buffers.cache.device)) same-geometry (ap (λ k. k.beside) kept)

  told-both : Both (d.bytes old.chain.store.buffers.cache.device) (d.bytes new.chain.store.buffers.cache.device) (KeepsBehind (sizes_of (geometry_of old)))
  told-both = told-beside (geometry_of old) (d.bytes old.chain.store.buffers.cache.device) (d.bytes new.chain.store.buffers.cache.device) beside-is

  tells-still : (a b : Option (List ℕ)) → Both a b (KeepsBehind (sizes_of (geometry_of old))) → IsSome a → IsSome b
  tells-still None None both some = some
  tells-still None (Some b) both some = absurd both
  tells-still (Some a) None both some = absurd both
  tells-still (Some a) (Some b) both some = refl

  store-keeps : (faults : faults_of d (Open old) ≤ faults_of d (Open new)) → Keeps d (Open old) (Open new)
  store-keeps faults = record {
    kept = ap (λ k. k.device) kept;
    faults_stay = faults;
    sizes = λ sizes h. record {
      tells = tells-still (d.bytes old.chain.store.buffers.cache.device) (d.bytes new.chain.store.buffers.cache.device) told-both h.tells;
      sizes_are = ap sizes_of same-geometry ∙ h.sizes_are;
    };
    behind = λ sizes h. subst (λ (s : Sizes). Both (d.bytes old.chain.store.buffers.cache.device) (d.bytes new.chain.store.buffers.cache.device) (KeepsBehind s)) h.sizes_are told-both;
    cache_stays = ap (λ k. k.cache) kept;
  }

-- ---- a turn of a session

-- the format at a state is that of the sizes
format-at : {D : Type 0} (d : device.Ghosts D) (sizes : Sizes) (place : Place D d) (state : State) (last before : Format) → IsAt d sizes place state → KeepsFormat place last before → before ≡ sizes.format → format_of place last ≡ sizes.format
format-at d sizes (Open store) (machine.Open m) last before at kept same = ap (λ (s : Sizes). s.format) at.0
format-at d sizes (Open store) (machine.Closing m) last before at kept same = absurd at
format-at d sizes (Open store) (machine.Closed m byte) last before at kept same = absurd at
format-at d sizes (Closing closing) state last before at kept same = kept ∙ same
format-at d sizes (Closed now) state last before at kept same = kept ∙ same

module _ {D K A E : Type 0} (d : device.Ghosts D) (k : sink.Ghosts K) (state : State) (asked : Option spec.Command) (result : Result A E) (old new : Session D d) (sink sink' : K) (steps steps' : ℕ) where
  -- by the place of its store
  pub session-turned : (turn : Turn) → turn.request ≡ asked → Wrote (turn_text old.cost turn) result (k.written sink) (k.written sink') → steps' ≡ steps + turn.ticks → turn.ticks ≤ request_bound (depth_in (store_table d) (table_in old.place)) asked
      → KindFaults (kind_of turn.answer) (faults_of d old.place) (faults_of d new.place) → home.Cause (store_table d) (file_home d) k asked result old sink turn new sink' → KeepsSession d old new → new.cut_off ≡ cut_by_request asked turn.answer old.cut_off
      → ((sizes : Sizes) → IsAt d sizes old.place state → StepsTo d sizes state turn new.place) → home.Turned (store_table d) (file_home d) k state asked result old new sink sink' steps steps' turn
  session-turned turn asks wrote counted within faults cause keeps cut leads = record {
    asks = asks;
    wrote = wrote;
    counted = counted;
    within = within;
    faults = faults;
    cause = cause;
    keeps = keeps;
    cut_off = cut;
    leads = λ sizes at.
        let s = leads sizes at.at in
        record { next = s.next; step = s.step; at = record { format_is = format-at d sizes new.place s.next new.format (format_of old.place old.format) s.at keeps.format_is at.format_is; at = s.at } };
  }

-- what a store that is a table answers
module _ {D K A E : Type 0} (d : device.Ghosts D) (k : sink.Ghosts K) (state : State) (command : Command) (of_table : IsOfTable command) (result : Result A E) (old new : Session D d) (store after : Stored D) (is : old.place ≡ Open store) (then : new.place ≡ Open after)
    (sink sink' : K) (steps steps' : ℕ) where
  abbrev At : Place D d → Place D d → Turn → Type 0
  At before now turn = (sizes : Sizes) → IsAt d sizes before state → StepsTo d sizes state turn now

  pub ask-turned : (turn : Turn) → Answered (store_table d) k (map_of state) (spoken command) old.cost result store after sink sink' steps steps' turn → steps' ≤ steps + command_bound (levels_of store) (spoken command)
      → kept_of d.bytes d.counts d.kept after ≡ kept_of d.bytes d.counts d.kept store → (spent_of d.counts store).faults ≤ (spent_of d.counts after).faults
      → new.cache ≡ old.cache → new.cost ≡ old.cost → new.cut_off ≡ old.cut_off → home.Turned (store_table d) (file_home d) k state (Some (spoken command)) result old new sink sink' steps steps' turn
  ask-turned turn a within kept stay cache cost cut =
      session-turned d k state (Some (spoken command)) result old new sink sink' steps steps' turn a.asked a.wrote a.counted
      (subst (λ (p : Place D d). turn.ticks ≤ request_bound (depth_in (store_table d) (table_in p)) (Some (spoken command))) (sym is) (let n = a.counted in omega (arith, n, within)))
      (subst (λ (p : Place D d). KindFaults (kind_of turn.answer) (faults_of d p) (faults_of d new.place)) (sym is) (subst (λ (p : Place D d). KindFaults (kind_of turn.answer) (faults_of d (Open store)) (faults_of d p)) (sym then) a.faults))
      (by-table _ _ command of_table (subst (λ (p : Place D d). home.Asked (store_table d) (file_home d) k (table_in p) (spoken command) result old sink turn new sink') (sym is) (after, (a.given, then))))
      (record {
        place = subst (λ (p : Place D d). Keeps d p new.place) (sym is) (subst (λ (p : Place D d). Keeps d (Open store) p) (sym then) (store-keeps d store after kept stay));
        cache_is = cache;
        cost_is = cost;
        format_is = subst (λ (p : Place D d). KeepsFormat p new.format (format_of old.place old.format)) (sym then) tt;
      })
      (cut ∙ cut-table command of_table turn.answer old.cut_off)
      (subst (λ (p : Place D d). At p new.place turn) (sym is) (subst (λ (p : Place D d). At (Open store) p turn) (sym then) (at-state state a.step)))
    where
      at-state : (state : State) → (Holds d.bytes store (map_of state) → StepsFrom (shape (sizes_of (geometry_of store))) (map_of state) (Holds d.bytes after) turn) → (sizes : Sizes) → IsAt d sizes (Open store) state → StepsTo d sizes state turn (Open after)
      at-state (machine.Closing m) step sizes at = absurd at
      at-state (machine.Closed m byte) step sizes at = absurd at
      at-state (machine.Open m) step sizes (same, holds) =
          let s = step holds in
          record {
            next = machine.Open s.next;
            step = subst (λ (x : Sizes). Step (shape x) (machine.Open m) turn (machine.Open s.next)) same s.step;
            at = (ap sizes_of (same-geometry d store after kept) ∙ same, s.holds);
          }

-- turns without ticks, by the facts of their answers
module _ {D K A E : Type 0} (d : device.Ghosts D) (k : sink.Ghosts K) (state : State) (result : Result A E) (old new : Session D d) (sink sink' : K) (steps steps' : ℕ) (same : steps' ≡ steps) where
  pub turned : (command : spec.Command) (answer : Reply) → Wrote (reply_text old.cost 0 answer) result (k.written sink) (k.written sink') → TurnFacts d command old.place answer new.place
      → home.Cause (store_table d) (file_home d) k (Some command) result old sink (turn_of command answer 0) new sink' → new.cache ≡ old.cache → new.cost ≡ old.cost → KeepsFormat new.place new.format (format_of old.place old.format)
      → new.cut_off ≡ cut_by_request (Some command) answer old.cut_off → home.Turned (store_table d) (file_home d) k state (Some command) result old new sink sink' steps steps' (turn_of command answer 0)
  turned command answer wrote facts cause cache cost format cut =
      session-turned d k state (Some command) result old new sink sink' steps steps' (turn_of command answer 0) refl wrote (omega (arith, same)) (omega arith) facts.faults cause (record { place = facts.keeps; cache_is = cache; cost_is = cost; format_is = format }) cut
      (λ sizes at. facts.steps sizes state at)

module _ {D : Type 0} (d : device.Ghosts D) (command : Command) (of_table : IsOfTable command) where
  pub shut-while_closing : (closing : ClosingStore D d) → TurnFacts d (spoken command) (Closing closing) reply.Shut (Closing closing)
  shut-while_closing closing = stays d (spoken command) (Closing closing) reply.Shut refl step
    where
      step : (sizes : Sizes) (state : State) → IsAt d sizes (Closing closing) state → (reply.Shut ≡ plain_reply (shape sizes) state (Some (spoken command))) × (state ≡ plain_after (shape sizes) state (Some (spoken command)))
      step sizes (machine.Open m) at = absurd at
      step sizes (machine.Closing m) at = shut-reply command of_table (shape sizes) m
      step sizes (machine.Closed m byte) at = absurd at

  pub shut-while_closed : (now : D) → TurnFacts d (spoken command) (Closed now) reply.Shut (Closed now)
  shut-while_closed now = stays d (spoken command) (Closed now) reply.Shut refl step
    where
      step : (sizes : Sizes) (state : State) → IsAt d sizes (Closed now) state → (reply.Shut ≡ plain_reply (shape sizes) state (Some (spoken command))) × (state ≡ plain_after (shape sizes) state (Some (spoken command)))
      step sizes (machine.Open m) at = absurd at
      step sizes (machine.Closing m) at = absurd at
      step sizes (machine.Closed m byte) at = shut-closed command of_table (shape sizes) m byte

-- a session that has no open store answers it so, and stays
module _ {D K A E : Type 0} (d : device.Ghosts D) (k : sink.Ghosts K) (state : State) (command : Command) (of_table : IsOfTable command) (result : Result A E) (old : Session D d) (sink sink' : K) (steps : ℕ) where
  abbrev with-bound : old.cache ≤ 4096 → Session D d
  with-bound small = record { place = old.place; cache = old.cache; cost = old.cost; format = old.format; cut_off = old.cut_off; small = small }

  abbrev Shut : Session D d → Type 0
  Shut new = home.Turned (store_table d) (file_home d) k state (Some (spoken command)) result old new sink sink' steps steps (turn_of (spoken command) reply.Shut 0)

  pub shut-turned : (small : old.cache ≤ 4096) (place : Place D d) → old.place ≡ place → table_in place ≡ None → TurnFacts d (spoken command) place reply.Shut place → Wrote (reply_text old.cost 0 reply.Shut) result (k.written sink) (k.written sink') → Shut (with-bound small)
  shut-turned small place is none facts wrote =
      subst (λ (bound : old.cache ≤ 4096). Shut (with-bound bound)) (le_prop old.small small)
      (turned d k state result old old sink sink' steps steps refl (spoken command) reply.Shut wrote (subst (λ (p : Place D d). TurnFacts d (spoken command) p reply.Shut p) (sym is) facts)
      (by-table _ _ command of_table
      (subst (λ (x : Option (Stored D)). home.Asked (store_table d) (file_home d) k x (spoken command) result old sink (turn_of (spoken command) reply.Shut 0) old sink') (sym (ap (λ (p : Place D d). table_in p) is ∙ none)) (refl, refl)))
      refl refl (session-keeps d old).format_is (cut-table command of_table reply.Shut old.cut_off))
