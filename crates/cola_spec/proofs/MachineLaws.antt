-- The laws of the session machine.
use Rattle.std.proofs.Common.{ℕ, zero, ◌≡◌, Bool, true, false, cond, refl, sym, ◌∙◌, ap, subst, List, [], ◌∷◌, ◌++◌, Option, Some, None, All, map, nat_eq, ◌&&◌, bytes_eq, codes}
use Rattle.std.specs.List.{list_any}
use Rattle.std.proofs.lemmas.Bool.{and_parts}
use Rattle.std.proofs.lemmas.List.Elements.{All-cons, All-nil, All-head, All-tail, All-append}
use Rattle.cola_spec.specs.Map.{Shape, Map, IsMap, is_key, is_value, count, PutOutcome, New, Old, Full, Worn, Other}
use Rattle.cola_spec.specs.Lines.{Line, Text, TooLong, line_of}
use Rattle.cola_spec.specs.Command.{Command, Put, PutIf, Del, Get, Stamp, Range, Scan, Count, Close, Reopen, command_of, words_command, verb_of, put_of, put_if_of, del_of, get_of, stamp_of, range_of, scan_of, alone, when, words_of, requests, line_requests, is_number, number_of}
use Rattle.cola_spec.specs.Reply as reply
use Rattle.cola_spec.specs.Reply.{Reply, Failed, Refused, reply_text, line}
use Rattle.cola_spec.specs.Machine.{State, Open, Closing, Closed, Kind, PlainStep, FaultedStep, ShortStep, kind_of, Turn, Step, StepOf, History, Faulted, OpenFaulted, ReopenFaulted, ShortOfMemory, by_command, plain_reply, plain_after, open_reply, open_after, reopen_reply, reopen_after, plain_turn, plain_turns, plain_last, turns_text}
use Rattle.cola_spec.specs.Laws.{map_of, CommandFits, RequestFits}
use Rattle.cola_spec.proofs.MapLaws.{after_put_is_map, after_put_if_is_map, after_delete_is_map}

-- Plain steps

reopen_kind : (m : Map) (byte : ℕ) → kind_of (reopen_reply m byte) ≡ PlainStep
reopen_kind m byte =
    elim (nat_eq byte 0) as (λ b. kind_of (cond b (reply.Opened (count m)) (cond (nat_eq byte 1) (Refused reply.NotClosed) (Refused reply.NotStore))) ≡ PlainStep) [
      | true ↦ refl
      | false ↦ elim (nat_eq byte 1) as (λ b. kind_of (cond b (Refused reply.NotClosed) (Refused reply.NotStore)) ≡ PlainStep) [ true ↦ refl | false ↦ refl ]
    ]

open_kind : (shape : Shape) (m : Map) (command : Command) → kind_of (open_reply shape m command) ≡ PlainStep
open_kind shape m (Put key value) = refl
open_kind shape m (PutIf key seen value) = refl
open_kind shape m (Del key) = refl
open_kind shape m (Get key) = refl
open_kind shape m (Stamp key) = refl
open_kind shape m (Range low high) = refl
open_kind shape m (Scan low most) = refl
open_kind shape m Count = refl
open_kind shape m Close = refl
open_kind shape m Reopen = refl

-- what holds of each of the three answers by a command holds of the one chosen
by_command_holds : {A : Type 0} (P : A → Type 0) (command : Command) (close reopen other : A) → P close → P reopen → P other → P (by_command command close reopen other)
by_command_holds P (Put key value) close reopen other c r o = o
by_command_holds P (PutIf key seen value) close reopen other c r o = o
by_command_holds P (Del key) close reopen other c r o = o
by_command_holds P (Get key) close reopen other c r o = o
by_command_holds P (Stamp key) close reopen other c r o = o
by_command_holds P (Range low high) close reopen other c r o = o
by_command_holds P (Scan low most) close reopen other c r o = o
by_command_holds P Count close reopen other c r o = o
by_command_holds P Close close reopen other c r o = c
by_command_holds P Reopen close reopen other c r o = r

pub plain_kind : (shape : Shape) (state : State) (request : Option Command) → kind_of (plain_reply shape state request) ≡ PlainStep
plain_kind shape state None = refl
plain_kind shape (Open m) (Some command) = open_kind shape m command
plain_kind shape (Closing m) (Some command) = by_command_holds (λ r. kind_of r ≡ PlainStep) command reply.Closed reply.Already reply.Shut refl refl refl
plain_kind shape (Closed m byte) (Some command) = by_command_holds (λ r. kind_of r ≡ PlainStep) command reply.Already (reopen_reply m byte) reply.Shut refl (reopen_kind m byte) refl

-- there is a plain step
pub plain_step : (shape : Shape) (state : State) (request : Option Command) → Step shape state (plain_turn shape state request) (plain_after shape state request)
plain_step shape state request =
    subst (λ kind. StepOf shape state (plain_turn shape state request) (plain_after shape state request) kind) (sym (plain_kind shape state request)) (refl, refl)

-- and it is the only one
pub plain_step_is_one : (shape : Shape) (state : State) (turn : Turn) (next : State) → kind_of turn.answer ≡ PlainStep → Step shape state turn next
    → (turn.answer ≡ plain_reply shape state turn.request) × (next ≡ plain_after shape state turn.request)
plain_step_is_one shape state turn next kind step = subst (λ k. StepOf shape state turn next k) kind step

-- Faulted steps and those short of memory keep the map

by_command_taken : (R : Type 0) (command : Command) (close reopen other : Type 0) → (close → R) → (reopen → R) → (other → R) → by_command command close reopen other → R
by_command_taken R (Put key value) close reopen other c r o = o
by_command_taken R (PutIf key seen value) close reopen other c r o = o
by_command_taken R (Del key) close reopen other c r o = o
by_command_taken R (Get key) close reopen other c r o = o
by_command_taken R (Stamp key) close reopen other c r o = o
by_command_taken R (Range low high) close reopen other c r o = o
by_command_taken R (Scan low most) close reopen other c r o = o
by_command_taken R Count close reopen other c r o = o
by_command_taken R Close close reopen other c r o = c
by_command_taken R Reopen close reopen other c r o = r

open_fault_keeps : (m : Map) (command : Command) (answer : Reply) (next : State) → OpenFaulted m command answer next → map_of next ≡ m
open_fault_keeps m (Put key value) answer next h = ap map_of h.1
open_fault_keeps m (PutIf key seen value) answer next h = ap map_of h.1
open_fault_keeps m (Del key) answer next h = ap map_of h.1
open_fault_keeps m (Get key) answer next h = ap map_of h.1
open_fault_keeps m (Stamp key) answer next h = ap map_of h.1
open_fault_keeps m (Range low high) answer next h = ap map_of h.1
open_fault_keeps m (Scan low most) answer next h = ap map_of h.1
open_fault_keeps m Count answer next h = absurd h
open_fault_keeps m Close answer next h = ap map_of h.1
open_fault_keeps m Reopen answer next h = absurd h

fault_keeps : (state : State) (request : Option Command) (answer : Reply) (next : State) → Faulted state request answer next → map_of next ≡ map_of state
fault_keeps state None answer next h = absurd h
fault_keeps (Open m) (Some command) answer next h = open_fault_keeps m command answer next h
fault_keeps (Closing m) (Some command) answer next h =
    by_command_taken (map_of next ≡ m) command ((answer ≡ Failed reply.Fault) × (next ≡ Closing m)) ⊥ ⊥ (λ is. ap map_of is.1) absurd absurd h
fault_keeps (Closed m byte) (Some command) answer next h =
    by_command_taken (map_of next ≡ m) command ⊥ (ReopenFaulted m answer next) ⊥ absurd (λ is. ap map_of is.1.2) absurd h

short_keeps : (state : State) (request : Option Command) (next : State) → ShortOfMemory state request next → map_of next ≡ map_of state
short_keeps (Closed m zero) (Some Reopen) next h = ap map_of h
short_keeps _ _ next h = absurd h

pub faulted_step_keeps : (shape : Shape) (state : State) (turn : Turn) (next : State) → kind_of turn.answer ≡ FaultedStep → Step shape state turn next → map_of next ≡ map_of state
faulted_step_keeps shape state turn next kind step = fault_keeps state turn.request turn.answer next (subst (λ k. StepOf shape state turn next k) kind step)

pub short_step_keeps : (shape : Shape) (state : State) (turn : Turn) (next : State) → kind_of turn.answer ≡ ShortStep → Step shape state turn next → map_of next ≡ map_of state
short_step_keeps shape state turn next kind step = short_keeps state turn.request next (subst (λ k. StepOf shape state turn next k) kind step)

-- Requests fit the shape

cond_fits : (shape : Shape) (b : Bool) (x y : Option Command) → RequestFits shape x → RequestFits shape y → RequestFits shape (cond b x y)
cond_fits shape true x y fits other = fits
cond_fits shape false x y fits other = other

when_fits : (shape : Shape) (b : Bool) (command : Command) → (b ≡ true → CommandFits shape command) → RequestFits shape (when b command)
when_fits shape true command fits = fits refl
when_fits shape false command fits = tt

put_fits : (shape : Shape) (words : List (List ℕ)) → RequestFits shape (put_of shape words)
put_fits shape (key ∷ value ∷ []) = when_fits shape (is_key shape key && is_value shape value) (Put key value) (and_parts (is_key shape key) (is_value shape value))
put_fits shape _ = tt

put_if_fits : (shape : Shape) (words : List (List ℕ)) → RequestFits shape (put_if_of shape words)
put_if_fits shape (key ∷ seen ∷ value ∷ []) =
    when_fits shape (shape.stamped && is_key shape key && is_number 19 seen && is_value shape value) (PutIf key (number_of seen) value)
    (λ h.
    let all = and_parts (shape.stamped && is_key shape key && is_number 19 seen) (is_value shape value) h in
    let first = and_parts (shape.stamped && is_key shape key) (is_number 19 seen) all.0 in
    ((and_parts shape.stamped (is_key shape key) first.0).1, all.1))
put_if_fits shape _ = tt

del_fits : (shape : Shape) (words : List (List ℕ)) → RequestFits shape (del_of shape words)
del_fits shape (key ∷ []) = when_fits shape (is_key shape key) (Del key) (λ h. h)
del_fits shape _ = tt

get_fits : (shape : Shape) (words : List (List ℕ)) → RequestFits shape (get_of shape words)
get_fits shape (key ∷ []) = when_fits shape (is_key shape key) (Get key) (λ h. h)
get_fits shape _ = tt

stamp_fits : (shape : Shape) (words : List (List ℕ)) → RequestFits shape (stamp_of shape words)
stamp_fits shape (key ∷ []) = when_fits shape (shape.stamped && is_key shape key) (Stamp key) (λ h. (and_parts shape.stamped (is_key shape key) h).1)
stamp_fits shape _ = tt

range_fits : (shape : Shape) (words : List (List ℕ)) → RequestFits shape (range_of shape words)
range_fits shape (low ∷ high ∷ []) = when_fits shape (is_key shape low && is_key shape high) (Range low high) (and_parts (is_key shape low) (is_key shape high))
range_fits shape _ = tt

scan_fits : (shape : Shape) (words : List (List ℕ)) → RequestFits shape (scan_of shape words)
scan_fits shape (low ∷ most ∷ []) = when_fits shape (is_key shape low && is_number 10 most) (Scan low (number_of most)) (λ h. (and_parts (is_key shape low) (is_number 10 most) h).0)
scan_fits shape _ = tt

alone_fits : (shape : Shape) (command : Command) (words : List (List ℕ)) → CommandFits shape command → RequestFits shape (alone command words)
alone_fits shape command [] fits = fits
alone_fits shape command (word ∷ words) fits = tt

record Fit (shape : Shape) (request : Option Command) : Type 0 where
  fits : RequestFits shape request

either_fits : {shape : Shape} (b : Bool) (x : Option Command) {y : Option Command} → RequestFits shape x → Fit shape y → Fit shape (cond b x y)
either_fits true x fits other = record { fits = fits }
either_fits false x fits other = other

verb_fits : (shape : Shape) (verb : List ℕ) (words : List (List ℕ)) → Fit shape (verb_of shape verb words)
verb_fits shape verb words =
    either_fits (bytes_eq verb (codes "put")) (put_of shape words) (put_fits shape words)
    (either_fits (bytes_eq verb (codes "putif")) (put_if_of shape words) (put_if_fits shape words)
    (either_fits (bytes_eq verb (codes "del")) (del_of shape words) (del_fits shape words)
    (either_fits (bytes_eq verb (codes "get")) (get_of shape words) (get_fits shape words)
    (either_fits (bytes_eq verb (codes "stamp")) (stamp_of shape words) (stamp_fits shape words)
    (either_fits (bytes_eq verb (codes "range")) (range_of shape words) (range_fits shape words)
    (either_fits (bytes_eq verb (codes "scan")) (scan_of shape words) (scan_fits shape words)
    (either_fits (bytes_eq verb (codes "count")) (alone Count words) (alone_fits shape Count words tt)
    (either_fits (bytes_eq verb (codes "close")) (alone Close words) (alone_fits shape Close words tt)
    (either_fits (bytes_eq verb (codes "open")) (alone Reopen words) (alone_fits shape Reopen words tt) (record { fits = tt }))))))))))

words_fit : (shape : Shape) (words : List (List ℕ)) → RequestFits shape (words_command shape words)
words_fit shape [] = tt
words_fit shape (verb ∷ words) = (verb_fits shape verb words).fits

pub command_fits : (shape : Shape) (text : List ℕ) → RequestFits shape (command_of shape text)
command_fits shape text = cond_fits shape (list_any (λ byte. nat_eq byte 0) text) None (words_command shape (words_of text)) tt (words_fit shape (words_of text))

line_fits : (shape : Shape) (line : Line) → All (RequestFits shape) (line_requests shape line)
line_fits shape (Text []) = All-nil (RequestFits shape)
line_fits shape (Text (byte ∷ bytes)) = All-cons (RequestFits shape) _ [] (command_fits shape (byte ∷ bytes)) (All-nil (RequestFits shape))
line_fits shape TooLong = All-cons (RequestFits shape) None [] tt (All-nil (RequestFits shape))

pub requests_fit : (shape : Shape) (raws : List (List ℕ)) → All (RequestFits shape) (requests shape raws)
requests_fit shape [] = All-nil (RequestFits shape)
requests_fit shape (raw ∷ raws) = All-append (RequestFits shape) (line_requests shape (line_of raw)) (requests shape raws) (line_fits shape (line_of raw)) (requests_fit shape raws)

-- Maps of the shape stay so

open_step_is_map : (shape : Shape) (m : Map) (command : Command) → CommandFits shape command → IsMap shape m → IsMap shape (map_of (open_after shape m command))
open_step_is_map shape m (Put key value) fits h = after_put_is_map shape m key value h fits.0 fits.1
open_step_is_map shape m (PutIf key seen value) fits h = after_put_if_is_map shape m key seen value h fits.0 fits.1
open_step_is_map shape m (Del key) fits h = after_delete_is_map shape m key h
open_step_is_map shape m (Get key) fits h = h
open_step_is_map shape m (Stamp key) fits h = h
open_step_is_map shape m (Range low high) fits h = h
open_step_is_map shape m (Scan low most) fits h = h
open_step_is_map shape m Count fits h = h
open_step_is_map shape m Close fits h = h
open_step_is_map shape m Reopen fits h = h

reopened_is_map : (shape : Shape) (m : Map) (byte : ℕ) → IsMap shape m → IsMap shape (map_of (reopen_after m byte))
reopened_is_map shape m byte h = elim (nat_eq byte 0) as (λ b. IsMap shape (map_of (cond b (Open m) (Closed m byte)))) [ true ↦ h | false ↦ h ]

plain_step_is_map : (shape : Shape) (state : State) (request : Option Command) → RequestFits shape request → IsMap shape (map_of state) → IsMap shape (map_of (plain_after shape state request))
plain_step_is_map shape state None fits h = h
plain_step_is_map shape (Open m) (Some command) fits h = open_step_is_map shape m command fits h
plain_step_is_map shape (Closing m) (Some command) fits h = by_command_holds (λ s. IsMap shape (map_of s)) command (Closed m 0) (Closing m) (Closing m) h h h
plain_step_is_map shape (Closed m byte) (Some command) fits h = by_command_holds (λ s. IsMap shape (map_of s)) command (Closed m byte) (reopen_after m byte) (Closed m byte) h (reopened_is_map shape m byte h) h

step_of_kind_is_map : (shape : Shape) (state : State) (turn : Turn) (next : State) (kind : Kind) → StepOf shape state turn next kind → RequestFits shape turn.request → IsMap shape (map_of state) → IsMap shape (map_of next)
step_of_kind_is_map shape state turn next PlainStep step fits h = subst (λ s. IsMap shape (map_of s)) (sym step.1) (plain_step_is_map shape state turn.request fits h)
step_of_kind_is_map shape state turn next FaultedStep step fits h = subst (IsMap shape) (sym (fault_keeps state turn.request turn.answer next step)) h
step_of_kind_is_map shape state turn next ShortStep step fits h = subst (IsMap shape) (sym (short_keeps state turn.request next step)) h

pub step_is_map : (shape : Shape) (state : State) (turn : Turn) (next : State) → Step shape state turn next → RequestFits shape turn.request → IsMap shape (map_of state) → IsMap shape (map_of next)
step_is_map shape state turn next step fits h = step_of_kind_is_map shape state turn next (kind_of turn.answer) step fits h

pub run_is_map : (shape : Shape) (state : State) (turns : List Turn) (last : State) → History shape state turns last → All (λ turn. RequestFits shape turn.request) turns → IsMap shape (map_of state) → IsMap shape (map_of last)
run_is_map shape state [] last run fits h = subst (λ s. IsMap shape (map_of s)) (sym run) h
run_is_map shape state (turn ∷ turns) last run fits h =
    run_is_map shape run.0 turns last run.2 (All-tail (λ t. RequestFits shape t.request) turn turns fits) (step_is_map shape state turn run.0 run.1 (All-head (λ t. RequestFits shape t.request) turn turns fits) h)

-- The one plain run

pub plain_run : (shape : Shape) (state : State) (asked : List (Option Command)) → History shape state (plain_turns shape state asked) (plain_last shape state asked)
plain_run shape state [] = refl
plain_run shape state (request ∷ asked) = (plain_after shape state request, plain_step shape state request, plain_run shape (plain_after shape state request) asked)

abbrev answers : List Turn → List Reply
answers turns = map (λ turn. turn.answer) turns

abbrev asked_in : List Turn → List (Option Command)
asked_in turns = map (λ turn. turn.request) turns

pub plain_run_is_one : (shape : Shape) (state : State) (turns : List Turn) (last : State) → History shape state turns last → All (λ turn. kind_of turn.answer ≡ PlainStep) turns
    → (answers turns ≡ answers (plain_turns shape state (asked_in turns))) × (last ≡ plain_last shape state (asked_in turns))
plain_run_is_one shape state [] last run plain = (refl, run)
plain_run_is_one shape state (turn ∷ turns) last run plain =
    let first = plain_step_is_one shape state turn run.0 (All-head (λ t. kind_of t.answer ≡ PlainStep) turn turns plain) run.1 in
    let rest = plain_run_is_one shape run.0 turns last run.2 (All-tail (λ t. kind_of t.answer ≡ PlainStep) turn turns plain) in (
      (λ i. first.0 i ∷ (rest.0 ∙ ap (λ s. answers (plain_turns shape s (asked_in turns))) first.1) i),
      rest.1 ∙ ap (λ s. plain_last shape s (asked_in turns)) first.1,
    )

-- Texts without costs

outcome_text_is_one : (outcome : PutOutcome) (ticks other : ℕ) → reply_text false ticks (reply.Put outcome) ≡ reply_text false other (reply.Put outcome)
outcome_text_is_one New ticks other = refl
outcome_text_is_one (Old value) ticks other = refl
outcome_text_is_one Full ticks other = refl
outcome_text_is_one Worn ticks other = refl
outcome_text_is_one (Other stamp) ticks other = refl

pub text_without_cost : (answer : Reply) (ticks other : ℕ) → reply_text false ticks answer ≡ reply_text false other answer
text_without_cost (reply.Put outcome) ticks other = outcome_text_is_one outcome ticks other
text_without_cost _ ticks other = refl

texts_by_answers : (turns others : List Turn) → answers turns ≡ answers others → turns_text false turns ≡ turns_text false others
texts_by_answers [] [] same = refl
texts_by_answers [] (other ∷ others) same = cc
texts_by_answers (turn ∷ turns) [] same = cc
texts_by_answers (turn ∷ turns) (other ∷ others) same =
    let first : turn.answer ≡ other.answer = cc in
    let rest : answers turns ≡ answers others = cc in
    (λ i. (ap (reply_text false turn.ticks) first ∙ text_without_cost other.answer turn.ticks other.ticks) i ++ texts_by_answers turns others rest i)

pub plain_run_text : (shape : Shape) (state : State) (turns : List Turn) (last : State) → History shape state turns last → All (λ turn. kind_of turn.answer ≡ PlainStep) turns
    → turns_text false turns ≡ turns_text false (plain_turns shape state (asked_in turns))
plain_run_text shape state turns last run plain = texts_by_answers turns (plain_turns shape state (asked_in turns)) (plain_run_is_one shape state turns last run plain).0
