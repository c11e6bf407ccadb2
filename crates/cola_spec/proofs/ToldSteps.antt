-- For the request that was made, what a text tells is the whole reply.
use Rattle.std.proofs.Common.{ℕ, ◌≡◌, Bool, true, false, cond, refl, sym, ◌∙◌, subst, List, [], ◌∷◌, Option, Some, None, All, map, nat_eq}
use Rattle.cola_spec.specs.Map.{Shape, Map, count}
use Rattle.cola_spec.specs.Command.{Command, Put, PutIf, Del, Get, Stamp, Range, Scan, Count, Close, Reopen}
use Rattle.cola_spec.specs.Reply as reply
use Rattle.cola_spec.specs.Reply.{Reply, Failure, Fault, Memory, NotClosed, NotStore, Deleted, Got, Stamped, Cut, Failed, Refused}
use Rattle.cola_spec.specs.Machine.{State, Open, Closing, Closed, Turn, Kind, PlainStep, FaultedStep, ShortStep, kind_of, Step, StepOf, History, Faulted, plain_reply, reopen_reply, turns_text}
use Rattle.cola_spec.specs.Told.{IsReadableTurn, told, told_turn}
use Rattle.cola_spec.proofs.StepLaws.{answered_memory}
use Rattle.cola_spec.proofs.ToldLaws.{told_by_texts}

-- the reply to a delete, a stamp or a range that is told as another
abbrev deleted : Reply → Reply
deleted (Got None) = Deleted None
deleted r = r

abbrev stamped : Reply → Reply
stamped (Got None) = Stamped None
stamped r = r

abbrev cut : Reply → Reply
cut (Failed failure) = Cut [] failure
cut r = r

-- the reply to a command that is told so
abbrev command_answer : Command → Reply → Reply
command_answer (Put key value) r = r
command_answer (PutIf key seen value) r = r
command_answer (Del key) r = deleted r
command_answer (Get key) r = r
command_answer (Stamp key) r = stamped r
command_answer (Range low high) r = cut r
command_answer (Scan low most) r = cut r
command_answer Count r = r
command_answer Close r = r
command_answer Reopen r = r

-- the reply to a request that is told so
abbrev answer_of : Option Command → Reply → Reply
answer_of None r = r
answer_of (Some command) r = command_answer command r

deleted_back : (value : Option (List ℕ)) → deleted (told (Deleted value)) ≡ Deleted value
deleted_back None = refl
deleted_back (Some value) = refl

stamped_back : (stamp : Option ℕ) → stamped (told (Stamped stamp)) ≡ Stamped stamp
stamped_back None = refl
stamped_back (Some stamp) = refl

cut_back : (rows : List (List ℕ × List ℕ)) (failure : Failure) → cut (told (Cut rows failure)) ≡ Cut rows failure
cut_back [] failure = refl
cut_back (row ∷ rows) failure = refl

reopen_back : (m : Map) (byte : ℕ) → told (reopen_reply m byte) ≡ reopen_reply m byte
reopen_back m byte =
    elim (nat_eq byte 0) as (λ b. told (cond b (reply.Opened (count m)) (cond (nat_eq byte 1) (Refused NotClosed) (Refused NotStore))) ≡ cond b (reply.Opened (count m)) (cond (nat_eq byte 1) (Refused NotClosed) (Refused NotStore))) [
      | true ↦ refl
      | false ↦ elim (nat_eq byte 1) as (λ b. told (cond b (Refused NotClosed) (Refused NotStore)) ≡ cond b (Refused NotClosed) (Refused NotStore)) [ true ↦ refl | false ↦ refl ]
    ]

plain_back : (shape : Shape) (state : State) (request : Option Command) → answer_of request (told (plain_reply shape state request)) ≡ plain_reply shape state request
plain_back shape (Open m) (Some (Del key)) = deleted_back _
plain_back shape (Open m) (Some (Stamp key)) = stamped_back _
plain_back shape (Closed m byte) (Some Reopen) = reopen_back m byte
plain_back shape (Open m) None = refl
plain_back shape (Closing m) None = refl
plain_back shape (Closed m byte) None = refl
plain_back shape (Open m) (Some (Put key value)) = refl
plain_back shape (Open m) (Some (PutIf key seen value)) = refl
plain_back shape (Open m) (Some (Get key)) = refl
plain_back shape (Open m) (Some (Range low high)) = refl
plain_back shape (Open m) (Some (Scan low most)) = refl
plain_back shape (Open m) (Some Count) = refl
plain_back shape (Open m) (Some Close) = refl
plain_back shape (Open m) (Some Reopen) = refl
plain_back shape (Closing m) (Some command) = elim command as (λ c. answer_of (Some c) (told (plain_reply shape (Closing m) (Some c))) ≡ plain_reply shape (Closing m) (Some c)) [
  | Put key value ↦ refl
  | PutIf key seen value ↦ refl
  | Del key ↦ refl
  | Get key ↦ refl
  | Stamp key ↦ refl
  | Range low high ↦ refl
  | Scan low most ↦ refl
  | Count ↦ refl
  | Close ↦ refl
  | Reopen ↦ refl
]
plain_back shape (Closed m byte) (Some (Put key value)) = refl
plain_back shape (Closed m byte) (Some (PutIf key seen value)) = refl
plain_back shape (Closed m byte) (Some (Del key)) = refl
plain_back shape (Closed m byte) (Some (Get key)) = refl
plain_back shape (Closed m byte) (Some (Stamp key)) = refl
plain_back shape (Closed m byte) (Some (Range low high)) = refl
plain_back shape (Closed m byte) (Some (Scan low most)) = refl
plain_back shape (Closed m byte) (Some Count) = refl
plain_back shape (Closed m byte) (Some Close) = refl

-- a reply that is told back at a request
abbrev IsToldBack : Option Command → Reply → Type 0
IsToldBack request answer = answer_of request (told answer) ≡ answer

same_back : (request : Option Command) (answer other : Reply) → answer ≡ other → IsToldBack request other → IsToldBack request answer
same_back request answer other same h = subst (IsToldBack request) (sym same) h

faulted_back : (state : State) (request : Option Command) (answer : Reply) (next : State) → Faulted state request answer next → IsToldBack request answer
faulted_back state None answer next h = absurd h
faulted_back (Open m) (Some (Put key value)) answer next h = same_back (Some (Put key value)) answer (Failed Fault) h.0 refl
faulted_back (Open m) (Some (PutIf key seen value)) answer next h = same_back (Some (PutIf key seen value)) answer (Failed Fault) h.0 refl
faulted_back (Open m) (Some (Del key)) answer next h = same_back (Some (Del key)) answer (Failed Fault) h.0 refl
faulted_back (Open m) (Some (Get key)) answer next h = same_back (Some (Get key)) answer (Failed Fault) h.0 refl
faulted_back (Open m) (Some (Stamp key)) answer next h = same_back (Some (Stamp key)) answer (Failed Fault) h.0 refl
faulted_back (Open m) (Some (Range low high)) answer next h = same_back (Some (Range low high)) answer _ h.0.1 (cut_back _ Fault)
faulted_back (Open m) (Some (Scan low most)) answer next h = same_back (Some (Scan low most)) answer _ h.0.1 (cut_back _ Fault)
faulted_back (Open m) (Some Close) answer next h = same_back (Some Close) answer (Failed Fault) h.0 refl
faulted_back (Closing m) (Some Close) answer next h = same_back (Some Close) answer (Failed Fault) h.0 refl
faulted_back (Closed m byte) (Some Reopen) answer next h = same_back (Some Reopen) answer (Failed Fault) h.0 refl
faulted_back _ _ answer next h = absurd h

memory_back : (request : Option Command) → IsToldBack request (Refused Memory)
memory_back None = refl
memory_back (Some command) = elim command as (λ c. IsToldBack (Some c) (Refused Memory)) [
  | Put key value ↦ refl
  | PutIf key seen value ↦ refl
  | Del key ↦ refl
  | Get key ↦ refl
  | Stamp key ↦ refl
  | Range low high ↦ refl
  | Scan low most ↦ refl
  | Count ↦ refl
  | Close ↦ refl
  | Reopen ↦ refl
]

kind_back : (shape : Shape) (state : State) (turn : Turn) (next : State) (kind : Kind) → kind_of turn.answer ≡ kind → StepOf shape state turn next kind → IsToldBack turn.request turn.answer
kind_back shape state turn next PlainStep is step = same_back turn.request turn.answer (plain_reply shape state turn.request) step.0 (plain_back shape state turn.request)
kind_back shape state turn next FaultedStep is step = faulted_back state turn.request turn.answer next step
kind_back shape state turn next ShortStep is step = same_back turn.request turn.answer (Refused Memory) (answered_memory turn.answer is) (memory_back turn.request)

step_back : (shape : Shape) (state : State) (turn : Turn) (next : State) → Step shape state turn next → IsToldBack turn.request turn.answer
step_back shape state turn next step = kind_back shape state turn next (kind_of turn.answer) refl step

abbrev answers : List Turn → List Reply
answers turns = map (λ turn. turn.answer) turns

abbrev asked_in : List Turn → List (Option Command)
asked_in turns = map (λ turn. turn.request) turns

-- the replies of requests that are told so
abbrev answers_of : List (Option Command) → List (Reply × ℕ) → List Reply
answers_of [] tells = []
answers_of (request ∷ requests) [] = []
answers_of (request ∷ requests) (tell ∷ tells) = answer_of request tell.0 ∷ answers_of requests tells

run_back : (cost : Bool) (shape : Shape) (state : State) (turns : List Turn) (last : State) → History shape state turns last → answers_of (asked_in turns) (map (told_turn cost) turns) ≡ answers turns
run_back cost shape state [] last run = refl
run_back cost shape state (turn ∷ turns) last run = λ i. step_back shape state turn run.0 run.1 i ∷ run_back cost shape run.0 turns last run.2 i

-- two runs over the same requests whose texts are the same have the same replies
pub runs_are_told : (cost : Bool) (shape other_shape : Shape) (state other_state : State) (turns others : List Turn) (last other_last : State) → History shape state turns last → History other_shape other_state others other_last → All IsReadableTurn turns → All IsReadableTurn others
    → asked_in turns ≡ asked_in others → turns_text cost turns ≡ turns_text cost others → answers turns ≡ answers others
runs_are_told cost shape other_shape state other_state turns others last other_last run other_run all other_all asked same =
    sym (run_back cost shape state turns last run) ∙ (λ i. answers_of (asked i) (told_by_texts cost turns others all other_all same i)) ∙ run_back cost other_shape other_state others other_last other_run
