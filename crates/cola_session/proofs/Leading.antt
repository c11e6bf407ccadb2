-- Lines of a session over any home, one after another.
use Rattle.std.specs.Prelude.{nat_eq, IfSome}
use Rattle.std.proofs.lemmas.List.Elements.{All-cons}
use Rattle.std.proofs.lemmas.Bool.{false≢true}
use Rattle.std.proofs.lemmas.Bool.Decides.{eqb_tells}
use Rattle.std.proofs.Common.{◌≡◌, ◌⊎◌, inl, inr, ℕ, ◌≤◌, true, false, List, [], ◌∷◌, ◌++◌, length, Option, Some, None, Result, Ok, Err, refl, sym, ◌∙◌, ap, subst, arith, append-nil, append_assoc}
use Rattle.cola_io.specs.Counted.{CountsFaults, after_fault}
use Rattle.cola_io.specs.declared.sink.Sink as sink
use Rattle.cola_io.specs.declared.sink.SinkFault.{SinkFault}
use Rattle.cola_spec.specs.Map.{Shape}
use Rattle.cola_spec.specs.Lines.{Line, Text}
use Rattle.cola_spec.specs.Command.{Command, line_requests, command_of}
use Rattle.cola_spec.specs.Reply as reply
use Rattle.cola_spec.specs.Reply.{reply_text}
use Rattle.cola_spec.specs.Machine.{State, Turn, Step, History, turn_text}
use Rattle.cola_spec.specs.Bounds.{request_bound}
use Rattle.cola_table.specs.declared.table.Table as table
use Rattle.cola_shapes.specs.Shapes.{shape_of}
use Rattle.cola_line.specs.Replied.{Wrote}
use Rattle.cola_session.specs.Home.{Home, Point, point, depth_in, cut_by_request, IsAtSome, Cause, Turned, LineLeads, LinesLead, Leads, AllLead, FrontLead}

-- What a line asks

pub asks-text : (shape : Shape) (text : List ℕ) (request : Option Command) → nat_eq (length text) 0 ≡ false → request ≡ command_of shape text → request ∷ [] ≡ line_requests shape (Text text)
asks-text shape [] request some is = cc
asks-text shape (byte ∷ bytes) request some is = ap (λ (r : Option Command). r ∷ []) is

pub empty-text : (text : List ℕ) → nat_eq (length text) 0 ≡ true → Text text ≡ Text []
empty-text [] none = refl
empty-text (byte ∷ bytes) none = absurd (by-test (eqb_tells (length (byte ∷ bytes)) 0))
  where
    by-test : ((nat_eq (length (byte ∷ bytes)) 0 ≡ true) × (length (byte ∷ bytes) ≡ 0)) ⊎ ((nat_eq (length (byte ∷ bytes)) 0 ≡ false) × (length (byte ∷ bytes) ≡ 0 → ⊥)) → ⊥
    by-test (inl (t, e)) = omega (arith, e)
    by-test (inr (f, differ)) = false≢true (sym f ∙ none)

-- One line
module _ {H T W K : Type 0} (t : table.Ghosts T W) (h : Home H T) (k : sink.Ghosts K) (line : Line) (result : Result (Unit {0}) SinkFault) (old new : H) (sink sink' : K) (steps steps' : ℕ) (state : State) (few : h.few old) where
  module _ (asked : Option Command) (asks : (keys : ℕ) → asked ∷ [] ≡ line_requests (shape_of (h.format old) keys) line) (turn : Turn) (made : Turned t h k state asked result old new sink sink' steps steps' turn) where
    run-one : (known : Option h.Known) (next : State) → IfSome known (λ known. Step (h.shape known) state turn next) → IfSome known (λ known. History (h.shape known) state (turn ∷ []) next)
    run-one None next step = tt
    run-one (Some known) next step = (next, step, refl)

    leads-by : (known : Option h.Known) (next : State) → IsAtSome h known (point old sink steps state) → IfSome known (λ known. Step (h.shape known) state turn next) → IfSome known (λ known. h.at known new next)
        → LineLeads t h k known line result (turn ∷ []) (point old sink steps state) (point new sink' steps' next)
    leads-by known next at step then = record {
      stands = at;
      asks = λ keys. ap (λ (r : Option Command). r ∷ []) made.asks ∙ asks keys;
      wrote = subst (λ (text : List ℕ). Wrote text result (k.written sink) (k.written sink')) (sym (append-nil (turn_text (h.cost old) turn))) made.wrote;
      counted = let n = made.counted in omega (arith, n);
      within = All-cons (λ (x : Turn). x.ticks ≤ request_bound (depth_in t (h.table old)) x.request) turn []
          (subst (λ (r : Option Command). turn.ticks ≤ request_bound (depth_in t (h.table old)) r) (sym made.asks) made.within) (λ i x none. absurd (omega (arith, none)));
      faults = (h.faults new, (made.faults, refl));
      cause = subst (λ (r : Option Command). Cause t h k r result old sink turn new sink') (sym made.asks) made.cause;
      keeps = made.keeps;
      cut_off = subst (λ (r : Option Command). h.cut_off new ≡ cut_by_request r turn.answer (h.cut_off old)) (sym made.asks) made.cut_off;
      few = few;
      runs = run-one known next step;
      stays = then;
    }

    -- a line of one turn
    pub leads-turn : (known : Option h.Known) → IsAtSome h known (point old sink steps state) → (next : State) × ((turns : List Turn) × LineLeads t h k known line result turns (point old sink steps state) (point new sink' steps' next))
    leads-turn None at = (state, (turn ∷ [], leads-by None state at tt tt))
    leads-turn (Some known) at = let s = made.leads known at in (s.next, (turn ∷ [], leads-by (Some known) s.next at s.step s.at))

-- a line that is no command
pub bad-turned : {H T W K A E : Type 0} (t : table.Ghosts T W) (h : Home H T) (k : sink.Ghosts K) (state : State) (result : Result A E) (home : H) (sink sink' : K) (steps : ℕ) → h.keeps home home → Wrote (reply_text (h.cost home) 0 reply.Bad) result (k.written sink) (k.written sink')
    → Turned t h k state None result home home sink sink' steps steps (record { request = None; answer = reply.Bad; ticks = 0 })
bad-turned t h k state result home sink sink' steps keeps wrote = record {
  asks = refl;
  wrote = wrote;
  counted = omega arith;
  within = omega arith;
  faults = refl;
  cause = (refl, refl);
  keeps = keeps;
  cut_off = refl;
  leads = λ known at. record { next = state; step = (refl, refl); at = at };
}

-- an empty line
pub leads-none : {H T W K : Type 0} (t : table.Ghosts T W) (h : Home H T) (k : sink.Ghosts K) (line : Line) (result : Result (Unit {0}) SinkFault) (home : H) (sink : K) (steps : ℕ) → h.few home → h.keeps home home → line ≡ Text [] → Wrote [] result (k.written sink) (k.written sink)
    → Leads t h k line result home home sink sink steps steps
leads-none t h k line result home sink steps few keeps empty wrote known state at = (
  state,
  (
    [],
    record {
      stands = at;
      asks = λ keys. sym (ap (line_requests (shape_of (h.format home) keys)) empty);
      wrote = wrote;
      counted = omega arith;
      within = λ i x none. absurd (omega (arith, none));
      faults = refl;
      cause = refl;
      keeps = keeps;
      cut_off = refl;
      few = few;
      runs = no-run known;
      stays = at;
    },
  ),
)
  where
    no-run : (known : Option h.Known) → IfSome known (λ known. History (h.shape known) state [] state)
    no-run None = tt
    no-run (Some known) = refl

-- the count of faults stays where a call succeeds, and rises by one where it is refused
pub counts-ok : {A E : Type 0} (result : Result A E) (done : A) (before now : ℕ) → result ≡ Ok done → CountsFaults result before now → now ≡ before
counts-ok result done before now is counts = subst (λ r. CountsFaults r before now) is counts

pub counts-err : {A E : Type 0} (result : Result A E) (failed : E) (before now : ℕ) → result ≡ Err failed → CountsFaults result before now → now ≡ after_fault before
counts-err result failed before now is counts = subst (λ r. CountsFaults r before now) is counts

-- Lines
module _ {H T W K : Type 0} (t : table.Ghosts T W) (h : Home H T) (k : sink.Ghosts K) (known : Option h.Known) where
  -- the home is at the state behind lines, where it was before
  pub still-at : (lines : List Line) (turns : List Turn) (old new : Point H K) → LinesLead t h k known lines turns old new → IsAtSome h known old → IsAtSome h known new
  still-at [] turns old new (none, same) at = subst (λ (p : Point H K). IsAtSome h known p) (sym same) at
  still-at (line ∷ lines) turns old new (mid, (now, (rest, (whole, (one, others))))) at = still-at lines rest mid new others one.stays

  -- lines, and one more
  pub leads-then : (line : Line) (late : List Turn) (mid new : Point H K) → LineLeads t h k known line (Ok tt) late mid new
      → (lines : List Line) (turns : List Turn) (old : Point H K) → LinesLead t h k known lines turns old mid → LinesLead t h k known (lines ++ line ∷ []) (turns ++ late) old new
  leads-then line late mid new one [] turns old (none, same) =
      (new, (late, ([], (ap (λ (x : List Turn). x ++ late) none ∙ sym (append-nil late), (subst (λ (p : Point H K). LineLeads t h k known line (Ok tt) late p new) same one, (refl, refl))))))
  leads-then line late mid new one (first ∷ lines) turns old (next, (now, (rest, (whole, (led, others))))) =
      (next, (now, (rest ++ late, (ap (λ (x : List Turn). x ++ late) whole ∙ append_assoc now rest late, (led, leads-then line late mid new one lines rest next others)))))

  -- what one more line keeps is kept by lines
  module _ (P : List Line → List Turn → Point H K → Type 0)
      (more : (lines : List Line) (turns late : List Turn) (line : Line) (mid new : Point H K) → P lines turns mid → LineLeads t h k known line (Ok tt) late mid new → P (lines ++ line ∷ []) (turns ++ late) new) where
    pub led-by : (done : List Line) (earlier : List Turn) (mid : Point H K) → P done earlier mid → (lines : List Line) (turns : List Turn) (new : Point H K) → LinesLead t h k known lines turns mid new → P (done ++ lines) (earlier ++ turns) new
    led-by done earlier mid start [] turns new (none, same) =
        subst (λ (p : Point H K). P (done ++ []) (earlier ++ turns) p) (sym same)
        (subst (λ (ls : List Line). P ls (earlier ++ turns) mid) (sym (append-nil done)) (subst (λ (ts : List Turn). P done ts mid) (sym (ap (λ (x : List Turn). earlier ++ x) none ∙ append-nil earlier)) start))
    led-by done earlier mid start (line ∷ lines) turns new (next, (now, (rest, (whole, (one, others))))) =
        let then = led-by (done ++ line ∷ []) (earlier ++ now) next (more done earlier now line mid next start one) lines rest new others in
        subst (λ (ls : List Line). P ls (earlier ++ turns) new) (append_assoc done (line ∷ []) lines)
        (subst (λ (ts : List Turn). P ((done ++ line ∷ []) ++ lines) ts new) (append_assoc earlier now rest ∙ ap (λ (x : List Turn). earlier ++ x) (sym whole)) then)

-- The lines of a source
module _ {H T W K : Type 0} (t : table.Ghosts T W) (h : Home H T) (k : sink.Ghosts K) where
  pub all-none : (home : H) (sink : K) (steps : ℕ) → AllLead t h k home home sink sink steps steps []
  all-none home sink steps known state at = (state, ([], (refl, refl)))

  module _ (first mid now : H) (sink sink' sink'' : K) (steps steps' steps'' : ℕ) (lines : List Line) (before : AllLead t h k first mid sink sink' steps steps' lines) (line : Line) (result : Result (Unit {0}) SinkFault)
      (one : Leads t h k line result mid now sink' sink'' steps' steps'') where
    pub all-then : (done : Unit {0}) → result ≡ Ok done → AllLead t h k first now sink sink'' steps steps'' (lines ++ line ∷ [])
    all-then done is known state at =
        let b = before known state at in
        let o = one known b.0 (still-at t h k known lines b.1.0 _ _ b.1.1 at) in (
          o.0,
          (
            b.1.0 ++ o.1.0,
            leads-then t h k known line o.1.0 (point mid sink' steps' b.0) (point now sink'' steps'' o.0) (subst (λ (r : Result (Unit {0}) SinkFault). LineLeads t h k known line r o.1.0 (point mid sink' steps' b.0) (point now sink'' steps'' o.0)) is o.1.1) lines b.1.0 (point first sink steps state) b.1.1,
          ),
        )

    pub front-then : (fault : SinkFault) → result ≡ Err fault → FrontLead t h k first now sink sink'' steps steps'' lines line
    front-then fault is known state at =
        let b = before known state at in
        let o = one known b.0 (still-at t h k known lines b.1.0 _ _ b.1.1 at) in (
          o.0,
          (
            b.1.0 ++ o.1.0,
            record {
              earlier = b.1.0;
              late = o.1.0;
              are = refl;
              mid = point mid sink' steps' b.0;
              led = b.1.1;
              fault = fault;
              in_last = subst (λ (r : Result (Unit {0}) SinkFault). LineLeads t h k known line r o.1.0 (point mid sink' steps' b.0) (point now sink'' steps'' o.0)) is o.1.1;
            },
          ),
        )
