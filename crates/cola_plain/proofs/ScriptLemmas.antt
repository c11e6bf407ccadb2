-- Runs by a script, request by request.
use Rattle.std.proofs.Common.{ℕ, zero, suc, ◌≡◌, ◌<◌, ◌+◌, cond, refl, sym, ◌∙◌, ap, subst, List, [], ◌∷◌, ◌++◌, length, get_or, take, drop, map, Option, Some, None, IfOk, OnErr, Result, Ok, Err, option_map, option_to_list, is_some, unwrap_or, arith, add-one, append_assoc, drop-cons}
use Rattle.std.proofs.lemmas.List.{get_or_default, get_or-map, length-map, drop_all, map-append}
use Rattle.std.specs.Borrow.{Bor}
use Rattle.cola_spec.specs.Map.{Shape}
use Rattle.cola_spec.specs.Lines.{line_of}
use Rattle.cola_spec.specs.Command.{Command, line_requests, requests}
use Rattle.cola_spec.specs.Machine.{State, plain_after, plain_reply}
use Rattle.cola_plain.specs.declared.command.Command as plain
use Rattle.cola_plain.specs.declared.reply.Reply.{Reply}
use Rattle.cola_plain.specs.declared.session.Session.{Session}
use Rattle.cola_plain.specs.declared.turn.Turn.{Turn}
use Rattle.cola_plain.specs.declared.script.Choice.{Choice}
use Rattle.cola_plain.specs.declared.script.Choice.TheVariants.{Plain, Faulted, ShortOfMemory}
use Rattle.cola_plain.specs.declared.script.Move.{Move}
use Rattle.cola_plain.specs.Lines.{texts}
use Rattle.cola_plain.specs.Command.{request_with}
use Rattle.cola_plain.specs.Reply.{reply_with}
use Rattle.cola_plain.specs.Session.{SessionStands}
use Rattle.cola_plain.specs.Turns.{turn_with, turns_with}
use Rattle.cola_plain.specs.Scripts.{chosen_after, chosen_reply, scripted_after, scripted_last, scripted_reply, scripted_turn, scripted_turns, next_move, later_moves}
use Rattle.cola_plain.proofs.SessionLemmas.{asked_more, one_more}
use Rattle.cola_plain.proofs.FaultLaws.{no_fault_keeps, none_is_some}

-- What lines ask

listed_alike : (here : Option (Option plain.Command)) → map request_with (option_to_list here) ≡ option_to_list (option_map request_with here)
listed_alike None = refl
listed_alike (Some request) = refl

-- the requests of one more line
pub asked_so_far : (shape : Shape) (lines : List (Bor (List ℕ))) (i : ℕ) (d : Bor (List ℕ)) (before : List (Option plain.Command)) (here : Option (Option plain.Command)) → i < length lines
    → map request_with before ≡ requests shape (texts (take i lines))
    → option_to_list (option_map request_with here) ≡ line_requests shape (line_of (get_or lines i d).now)
    → map request_with (before ++ option_to_list here) ≡ requests shape (texts (take (i + 1) lines))
asked_so_far shape lines i d before here within so_far is =
    let raw = get_or lines i d in
    map-append request_with before (option_to_list here)
    ∙ ap (λ xs. xs ++ map request_with (option_to_list here)) so_far
    ∙ ap (λ xs. requests shape (texts (take i lines)) ++ xs) (listed_alike here ∙ is)
    ∙ sym (ap (requests shape) (one_more lines i raw within (get_or_default lines i d raw within)) ∙ asked_more shape (texts (take i lines)) raw.now)

-- A step that cannot go as chosen

pub not_chosen_keeps : (choice : Choice) (shape : Shape) (state : State) (request : Option Command) → None ≡ chosen_reply choice shape state request → chosen_after choice shape state request ≡ state
not_chosen_keeps Plain shape state request none = absurd (none_is_some (plain_reply shape state request) none)
not_chosen_keeps (Faulted rows byte) shape state request none = no_fault_keeps rows byte state request (sym none)
not_chosen_keeps ShortOfMemory shape state request none = refl

-- goes plainly
pub scripted_plainly : {E : Type 0} (choice : Choice) (shape : Shape) (middle after : Session) (state : State) (request : Option Command) (r : Result Reply E)
    → None ≡ chosen_reply choice shape state request
    → SessionStands middle (chosen_after choice shape state request)
    → ((s : State) → SessionStands middle s → IfOk r (λ reply. (reply_with reply ≡ plain_reply shape s request) × SessionStands after (plain_after shape s request)))
    → IfOk r (λ reply. (reply_with reply ≡ scripted_reply choice shape state request) × SessionStands after (scripted_after choice shape state request))
scripted_plainly choice shape middle after state request r none stands answered =
    subst (λ o. IfOk r (λ reply. (reply_with reply ≡ unwrap_or o (plain_reply shape state request)) × SessionStands after (cond (is_some o) (chosen_after choice shape state request) (plain_after shape state request)))) none
    (answered state (subst (SessionStands middle) (not_chosen_keeps choice shape state request none) stands))

-- The turns so far, and those of the requests left

pub record IsGoing (script : List Move) (shape : Shape) (state : State) (asked : List (Option plain.Command)) (turns : List Turn) (place : ℕ) (session : Session) : Type 0 where
  pub now : State
  pub stands : SessionStands session now
  pub reached : now ≡ scripted_last script shape state (take place (map request_with asked))
  pub told : turns_with turns ++ scripted_turns (drop place script) shape now (map request_with (drop place asked)) ≡ scripted_turns script shape state (map request_with asked)
  pub left : scripted_last (drop place script) shape now (map request_with (drop place asked)) ≡ scripted_last script shape state (map request_with asked)

going_first : (script : List Move) (shape : Shape) (state : State) (asked : List (Option plain.Command)) (session : Session) → SessionStands session state → IsGoing script shape state asked [] 0 session
going_first script shape state asked session stands = record { now = state; stands = stands; reached = refl; told = refl; left = refl }

later_dropped : (place : ℕ) (script : List Move) → later_moves (drop place script) ≡ drop (suc place) script
later_dropped zero [] = refl
later_dropped zero (move ∷ moves) = refl
later_dropped (suc place) [] = refl
later_dropped (suc place) (move ∷ moves) = later_dropped place moves

dropped_later : (place : ℕ) (script : List Move) → drop place (later_moves script) ≡ drop (suc place) script
dropped_later zero [] = refl
dropped_later (suc place) [] = refl
dropped_later place (move ∷ moves) = refl

-- the state after one more request
last_step : (script : List Move) (shape : Shape) (state : State) (asked : List (Option Command)) (place : ℕ) (d : Option Command) → place < length asked
    → scripted_last script shape state (take (suc place) asked) ≡ scripted_after (next_move (drop place script)).choice shape (scripted_last script shape state (take place asked)) (get_or asked place d)
last_step script shape state [] place d within = absurd (omega arith)
last_step script shape state (request ∷ asked) zero d within = refl
last_step script shape state (request ∷ asked) (suc place) d within =
    let after = scripted_after (next_move script).choice shape state request in
    last_step (later_moves script) shape after asked place d (omega arith)
    ∙ ap (λ moves. scripted_after (next_move moves).choice shape (scripted_last (later_moves script) shape after (take place asked)) (get_or asked place d)) (dropped_later place script)

-- in terms of the requests of this crate
step_reached : (script : List Move) (shape : Shape) (state : State) (asked : List (Option plain.Command)) (place : ℕ) (d : Option plain.Command) → place < length asked
    → scripted_after (next_move (drop place script)).choice shape (scripted_last script shape state (take place (map request_with asked))) (request_with (get_or asked place d)) ≡ scripted_last script shape state (take (suc place) (map request_with asked))
step_reached script shape state asked place d within =
    sym (ap (scripted_after (next_move (drop place script)).choice shape (scripted_last script shape state (take place (map request_with asked)))) (get_or-map request_with asked place d (request_with d) within))
    ∙ sym (last_step script shape state (map request_with asked) place (request_with d) (rw length-map within))

going_on_by_move : (script : List Move) (shape : Shape) (state : State) (asked : List (Option plain.Command)) (turns : List Turn) (place : ℕ) (before after : Session) (d : Option plain.Command) (turn : Turn) → place < length asked
    → (going : IsGoing script shape state asked turns place before)
    → (turn_with turn ≡ scripted_turn (next_move (drop place script)) shape going.now (request_with (get_or asked place d)))
    → SessionStands after (scripted_after (next_move (drop place script)).choice shape going.now (request_with (get_or asked place d)))
    → IsGoing script shape state asked (turns ++ turn ∷ []) (place + 1) after
going_on_by_move script shape state asked turns place before after d turn within going is standing =
    let request = request_with (get_or asked place d) in
    let next = next_move (drop place script) in
    let then = scripted_after next.choice shape going.now request in
    let rest = map request_with (drop (suc place) asked) in
    let split = ap (map request_with) (drop-cons asked place d within) in
    rw add-one
    (record {
      now = then;
      stands = standing;
      reached = ap (λ s. scripted_after next.choice shape s request) going.reached ∙ step_reached script shape state asked place d within;
      told = ap (λ ts. ts ++ scripted_turns (drop (suc place) script) shape then rest) (map-append turn_with turns (turn ∷ []))
          ∙ append_assoc (turns_with turns) (turn_with turn ∷ []) (scripted_turns (drop (suc place) script) shape then rest)
          ∙ ap (λ t. turns_with turns ++ t ∷ scripted_turns (drop (suc place) script) shape then rest) is
          ∙ ap (λ moves. turns_with turns ++ scripted_turn next shape going.now request ∷ scripted_turns moves shape then rest) (sym (later_dropped place script))
          ∙ ap (λ xs. turns_with turns ++ scripted_turns (drop place script) shape going.now xs) (sym split)
          ∙ going.told;
      left = ap (λ moves. scripted_last moves shape then rest) (sym (later_dropped place script))
          ∙ ap (scripted_last (drop place script) shape going.now) (sym split)
          ∙ going.left;
    })

pub going_on : (script : List Move) (shape : Shape) (state : State) (asked : List (Option plain.Command)) (turns : List Turn) (place : ℕ) (before after : Session) (d : Option plain.Command) (turn : Turn) (next : Move) (new : List Turn) → place < length asked
    → next ≡ next_move (drop place script) → new ≡ turns ++ turn ∷ []
    → IsGoing script shape state asked turns place before
    → ((now : State) → SessionStands before now → (turn_with turn ≡ scripted_turn next shape now (request_with (get_or asked place d))) × SessionStands after (scripted_after next.choice shape now (request_with (get_or asked place d))))
    → IsGoing script shape state asked new (place + 1) after
going_on script shape state asked turns place before after d turn next new within moved pushed going step =
    let here = step going.now going.stands in
    subst (λ ts. IsGoing script shape state asked ts (place + 1) after) (sym pushed)
    (going_on_by_move script shape state asked turns place before after d turn within going
    (subst (λ move. turn_with turn ≡ scripted_turn move shape going.now (request_with (get_or asked place d))) moved here.0)
    (subst (λ move. SessionStands after (scripted_after move.choice shape going.now (request_with (get_or asked place d)))) moved here.1))

pub going_begins : (script : List Move) (shape : Shape) (state : State) (asked : List (Option plain.Command)) (session : Session) (turns : List Turn) → turns ≡ [] → SessionStands session state → IsGoing script shape state asked turns 0 session
going_begins script shape state asked session turns none stands = subst (λ ts. IsGoing script shape state asked ts 0 session) (sym none) (going_first script shape state asked session stands)

pub on_err : {T E P : Type 0} (r : Result T E) → P → OnErr r P
on_err (Ok x) h = tt
on_err (Err e) h = h

-- a run that stops at a place has made the steps before it
pub going_stops : {T E : Type 0} (r : Result T E) (script : List Move) (shape : Shape) (state : State) (asked : List (Option plain.Command)) (turns : List Turn) (place : ℕ) (before session : Session) → (going : IsGoing script shape state asked turns place before)
    → ((now : State) → SessionStands before now → SessionStands session now)
    → OnErr r ((steps : ℕ) × SessionStands session (scripted_last script shape state (take steps (map request_with asked))))
going_stops r script shape state asked turns place before session going kept = on_err r (place, subst (SessionStands session) going.reached (kept going.now going.stands))

append_none : {Y : Type 0} (xs : List Y) → xs ++ [] ≡ xs
append_none [] = refl
append_none (x ∷ xs) = ap (λ rest. x ∷ rest) (append_none xs)

going_last : (script : List Move) (shape : Shape) (state : State) (asked : List (Option plain.Command)) (turns : List Turn) (session : Session) → IsGoing script shape state asked turns (length asked) session
    → (turns_with turns ≡ scripted_turns script shape state (map request_with asked)) × SessionStands session (scripted_last script shape state (map request_with asked))
going_last script shape state asked turns session going =
    let none = ap (map request_with) (drop_all (length asked) asked (omega arith)) in (
      sym (append_none (turns_with turns)) ∙ ap (λ xs. turns_with turns ++ scripted_turns (drop (length asked) script) shape going.now xs) (sym none) ∙ going.told,
      subst (SessionStands session) (ap (scripted_last (drop (length asked) script) shape going.now) (sym none) ∙ going.left) going.stands,
    )

pub going_ends : (script : List Move) (shape : Shape) (state : State) (asked : List (Option plain.Command)) (turns : List Turn) (place : ℕ) (session : Session) → place ≡ length asked → IsGoing script shape state asked turns place session
    → (turns_with turns ≡ scripted_turns script shape state (map request_with asked)) × SessionStands session (scripted_last script shape state (map request_with asked))
going_ends script shape state asked turns place session last going = going_last script shape state asked turns session (subst (λ n. IsGoing script shape state asked turns n session) last going)

pub none_more : (before : List (Option plain.Command)) (here : Option (Option plain.Command)) → here ≡ None → before ≡ before ++ option_to_list here
none_more before here none = sym (append_none before) ∙ ap (λ o. before ++ option_to_list o) (sym none)
