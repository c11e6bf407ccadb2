-- Runs over one list of requests after another.
use Rattle.std.proofs.Common.{ℕ, ◌≡◌, false, refl, sym, ◌∙◌, ap, subst, Some, option_map, IfOk, OnErr, ◌⊎◌, inl, inr, Result, Ok, Err, List, [], ◌∷◌, ◌++◌, length, get_or, take, Option, append_assoc, ◌<◌, ◌+◌}
use Rattle.std.proofs.lemmas.List.{get_or_default, take_more, take-map, map-append}
use Rattle.std.proofs.lemmas.List.Concat.{flat_map-append}
use Rattle.std.specs.Borrow.{Bor}
use Rattle.cola_spec.specs.Map.{Shape, Map}
use Rattle.cola_spec.specs.Lines.{line_of}
use Rattle.cola_spec.specs.Command.{Command, line_requests, requests}
use Rattle.cola_spec.specs.Machine.{State, Open, Closing, Closed, command_reply, command_after, plain_reply, plain_after, plain_last, plain_turn, plain_turns, turn_text, turns_text}
use Rattle.cola_plain.specs.Lines.{texts}
use Rattle.cola_plain.specs.declared.command.Command as plain
use Rattle.cola_plain.specs.declared.reply.Reply.{Reply}
use Rattle.cola_plain.specs.declared.session.Session.{Session}
use Rattle.cola_plain.specs.declared.session.Stage.{Stage}
use Rattle.cola_plain.specs.declared.session.Stage.TheVariants as stage
use Rattle.cola_plain.specs.Command.{command_with, request_with}
use Rattle.cola_plain.specs.Faults.{command_faulted_after, command_faulted_reply, command_short_reply, faulted_after, faulted_reply, short_reply}
use Rattle.cola_plain.specs.Map.{Stands}
use Rattle.cola_plain.specs.Reply.{reply_with}
use Rattle.cola_plain.specs.Session.{SessionStands, state_at}

append_none : (xs : List (Option Command)) → xs ++ [] ≡ xs
append_none [] = refl
append_none (x ∷ xs) = ap (λ rest. x ∷ rest) (append_none xs)

pub asked_more : (shape : Shape) (raws : List (List ℕ)) (raw : List ℕ) → requests shape (raws ++ raw ∷ []) ≡ requests shape raws ++ line_requests shape (line_of raw)
asked_more shape [] raw = append_none (line_requests shape (line_of raw))
asked_more shape (first ∷ raws) raw =
    ap (λ rest. line_requests shape (line_of first) ++ rest) (asked_more shape raws raw)
    ∙ sym (append_assoc (line_requests shape (line_of first)) (requests shape raws) (line_requests shape (line_of raw)))

turns_of_both : (shape : Shape) (state : State) (xs ys : List (Option Command)) → plain_turns shape state (xs ++ ys) ≡ plain_turns shape state xs ++ plain_turns shape (plain_last shape state xs) ys
turns_of_both shape state [] ys = refl
turns_of_both shape state (x ∷ xs) ys = ap (λ rest. plain_turn shape state x ∷ rest) (turns_of_both shape (plain_after shape state x) xs ys)

last_of_both : (shape : Shape) (state : State) (xs ys : List (Option Command)) → plain_last shape state (xs ++ ys) ≡ plain_last shape (plain_last shape state xs) ys
last_of_both shape state [] ys = refl
last_of_both shape state (x ∷ xs) ys = last_of_both shape (plain_after shape state x) xs ys

pub one_more : (lines : List (Bor (List ℕ))) (i : ℕ) (raw : Bor (List ℕ)) → i < length lines → raw ≡ get_or lines i raw → texts (take (i + 1) lines) ≡ texts (take i lines) ++ raw.now ∷ []
one_more lines i raw within is = ap texts (take_more lines i raw within ∙ ap (λ x. take i lines ++ x ∷ []) (sym is)) ∙ map-append (λ (x : Bor (List ℕ)). x.now) (take i lines) (raw ∷ [])

-- the text of the replies to one more line
pub text_more : (shape : Shape) (state : State) (lines : List (Bor (List ℕ))) (i : ℕ) (raw : Bor (List ℕ)) → i < length lines → raw ≡ get_or lines i raw
    → turns_text false (plain_turns shape state (requests shape (texts (take (i + 1) lines))))
    ≡ turns_text false (plain_turns shape state (requests shape (texts (take i lines)))) ++ turns_text false (plain_turns shape (plain_last shape state (requests shape (texts (take i lines)))) (line_requests shape (line_of raw.now)))
text_more shape state lines i raw within is =
    let before = requests shape (texts (take i lines)) in
    let here = line_requests shape (line_of raw.now) in
    ap (λ raws. turns_text false (plain_turns shape state (requests shape raws))) (one_more lines i raw within is)
    ∙ ap (λ asked. turns_text false (plain_turns shape state asked)) (asked_more shape (texts (take i lines)) raw.now)
    ∙ ap (turns_text false) (turns_of_both shape state before here)
    ∙ flat_map-append (turn_text false) (plain_turns shape state before) (plain_turns shape (plain_last shape state before) here)

-- and the state after it
pub last_more : (shape : Shape) (state : State) (lines : List (Bor (List ℕ))) (i : ℕ) (raw : Bor (List ℕ)) → i < length lines → raw ≡ get_or lines i raw
    → plain_last shape state (requests shape (texts (take (i + 1) lines))) ≡ plain_last shape (plain_last shape state (requests shape (texts (take i lines)))) (line_requests shape (line_of raw.now))
last_more shape state lines i raw within is =
    ap (λ raws. plain_last shape state (requests shape raws)) (one_more lines i raw within is)
    ∙ ap (plain_last shape state) (asked_more shape (texts (take i lines)) raw.now)
    ∙ last_of_both shape state (requests shape (texts (take i lines))) (line_requests shape (line_of raw.now))

-- what holds of the state of a session's stage holds of the state that the session stands for
pub by_stage : (P : State → Type 0) (session : Session) (stage : Stage) (state : State) → session.stage ≡ stage → SessionStands session state → ((m : Map) → Stands session.map m → P (state_at stage m)) → P state
by_stage P session stage (Open m) is stands h = subst (λ s. P (state_at s m)) (sym is ∙ stands.0) (h m stands.1)
by_stage P session stage (Closing m) is stands h = subst (λ s. P (state_at s m)) (sym is ∙ stands.0) (h m stands.1)
by_stage P session stage (Closed m byte) is stands h = subst (λ s. P (state_at s m)) (sym is ∙ stands.0) (h m stands.1)

stands_by_stage : (at : Stage) (session : Session) (m : Map) → session.stage ≡ at → Stands session.map m → SessionStands session (state_at at m)
stands_by_stage stage.Open session m is stands = (is, stands)
stands_by_stage stage.Closing session m is stands = (is, stands)
stands_by_stage (stage.Closed byte) session m is stands = (is, stands)

-- a session at the stage of a state, with its map, stands for the state
pub stands_at : (session : Session) (m : Map) (state : State) → Stands session.map m → state_at session.stage m ≡ state → SessionStands session state
stands_at session m state stands is = subst (SessionStands session) is (stands_by_stage session.stage session m refl stands)

pub ok_first : {A E : Type 0} (P Q : A → Type 0) (r : Result A E) → IfOk r (λ x. P x × Q x) → IfOk r P
ok_first P Q (Ok x) h = h.0
ok_first P Q (Err e) h = h

first_lines : (lines : List (Bor (List ℕ))) (raws : List (List ℕ)) (n : ℕ) → texts lines ≡ raws → texts (take n lines) ≡ take n raws
first_lines lines raws n same = sym (take-map (λ (x : Bor (List ℕ)). x.now) n lines) ∙ ap (take n) same

pub turns_go_on : (shape : Shape) (state : State) (lines : List (Bor (List ℕ))) (i : ℕ) (d : Bor (List ℕ)) (text reply new : List ℕ) (after : Session) → i < length lines
    → text ≡ turns_text false (plain_turns shape state (requests shape (texts (take i lines))))
    → reply ≡ turns_text false (plain_turns shape (plain_last shape state (requests shape (texts (take i lines)))) (line_requests shape (line_of (get_or lines i d).now)))
    → new ≡ text ++ reply
    → SessionStands after (plain_last shape (plain_last shape state (requests shape (texts (take i lines)))) (line_requests shape (line_of (get_or lines i d).now)))
    → (new ≡ turns_text false (plain_turns shape state (requests shape (texts (take (i + 1) lines))))) × SessionStands after (plain_last shape state (requests shape (texts (take (i + 1) lines))))
turns_go_on shape state lines i d text reply new after within before here joined standing =
    let raw = get_or lines i d in
    let same = get_or_default lines i d raw within in (
      joined ∙ ap (λ t. t ++ reply) before ∙ ap (λ r. turns_text false (plain_turns shape state (requests shape (texts (take i lines)))) ++ r) here ∙ sym (text_more shape state lines i raw within same),
      subst (SessionStands after) (sym (last_more shape state lines i raw within same)) standing,
    )

-- a run that stops at a line has carried out the lines before it, or that line too
pub run_stops : {T E : Type 0} (r : Result T E) (shape : Shape) (state : State) (lines : List (Bor (List ℕ))) (raws : List (List ℕ)) (i : ℕ) (d : Bor (List ℕ)) (session : Session) → i < length lines → texts lines ≡ raws
    → SessionStands session (plain_last shape state (requests shape (texts (take i lines)))) ⊎ SessionStands session (plain_last shape (plain_last shape state (requests shape (texts (take i lines)))) (line_requests shape (line_of (get_or lines i d).now)))
    → OnErr r ((n : ℕ) × SessionStands session (plain_last shape state (requests shape (take n raws))))
run_stops (Ok x) shape state lines raws i d session within same stands = tt
run_stops (Err e) shape state lines raws i d session within same (inl stands) = (i, subst (λ rs. SessionStands session (plain_last shape state (requests shape rs))) (first_lines lines raws i same) stands)
run_stops (Err e) shape state lines raws i d session within same (inr stands) =
    let raw = get_or lines i d in (
      i + 1,
      subst (λ rs. SessionStands session (plain_last shape state (requests shape rs))) (first_lines lines raws (i + 1) same)
          (subst (SessionStands session) (sym (last_more shape state lines i raw within (get_or_default lines i d raw within))) stands),
    )

-- an answer by the stage alone, which keeps the map, is the answer by the state
pub answered_at : (shape : Shape) (before : Session) (at next : Stage) (request : Option plain.Command) (command : plain.Command) (answer : Reply) (state : State) → request ≡ Some command → before.stage ≡ at → SessionStands before state
    → ((m : Map) → Stands before.map m → reply_with answer ≡ command_reply shape (state_at at m) (command_with command))
    → ((m : Map) → state_at next m ≡ command_after shape (state_at at m) (command_with command))
    → (reply_with answer ≡ plain_reply shape state (request_with request)) × SessionStands (record { map = before.map; stage = next }) (plain_after shape state (request_with request))
answered_at shape before at next request command answer state is stage stands h g =
    subst (λ r. (reply_with answer ≡ plain_reply shape state (request_with r)) × SessionStands (record { map = before.map; stage = next }) (plain_after shape state (request_with r))) (sym is)
    (by_stage (λ s. (reply_with answer ≡ plain_reply shape s (Some (command_with command))) × SessionStands (record { map = before.map; stage = next }) (plain_after shape s (Some (command_with command)))) before at state stage stands
    (λ m standing. (h m standing, stands_at (record { map = before.map; stage = next }) m (command_after shape (state_at at m) (command_with command)) standing (g m))))

-- the answer of a faulted step by the stage is the one by the state
pub faulted_at : (before : Session) (at next : Stage) (rows byte : ℕ) (request : Option plain.Command) (command : plain.Command) (answer : Option Reply) (state : State) → request ≡ Some command → before.stage ≡ at → SessionStands before state
    → ((m : Map) → Stands before.map m → option_map reply_with answer ≡ command_faulted_reply rows (state_at at m) (command_with command))
    → ((m : Map) → Stands before.map m → state_at next m ≡ command_faulted_after byte (state_at at m) (command_with command))
    → (option_map reply_with answer ≡ faulted_reply rows state (request_with request)) × SessionStands (record { map = before.map; stage = next }) (faulted_after byte state (request_with request))
faulted_at before at next rows byte request command answer state is stage stands h g =
    subst (λ r. (option_map reply_with answer ≡ faulted_reply rows state (request_with r)) × SessionStands (record { map = before.map; stage = next }) (faulted_after byte state (request_with r))) (sym is)
    (by_stage (λ s. (option_map reply_with answer ≡ faulted_reply rows s (Some (command_with command))) × SessionStands (record { map = before.map; stage = next }) (faulted_after byte s (Some (command_with command)))) before at state stage stands
    (λ m standing. (h m standing, stands_at (record { map = before.map; stage = next }) m (command_faulted_after byte (state_at at m) (command_with command)) standing (g m standing))))

-- and so is that of a step that finds no memory
pub short_at : (before : Session) (at : Stage) (request : Option plain.Command) (command : plain.Command) (answer : Option Reply) (state : State) → request ≡ Some command → before.stage ≡ at → SessionStands before state
    → ((m : Map) → option_map reply_with answer ≡ command_short_reply (state_at at m) (command_with command))
    → option_map reply_with answer ≡ short_reply state (request_with request)
short_at before at request command answer state is stage stands h =
    subst (λ r. option_map reply_with answer ≡ short_reply state (request_with r)) (sym is)
    (by_stage (λ s. option_map reply_with answer ≡ short_reply s (Some (command_with command))) before at state stage stands (λ m standing. h m))
