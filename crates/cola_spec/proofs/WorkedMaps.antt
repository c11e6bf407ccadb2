-- Sessions over small maps, computed.
use Rattle.std.proofs.Common.{ℕ, ◌≡◌, refl, true, false, List, [], ◌∷◌, codes, map, Option, Some, None}
use Rattle.std.specs.FinMap as finite
use Rattle.cola_spec.specs.Map.{Shape, New, Old, Full, Worn, Other, Map, empty_map, last_stamp}
use Rattle.cola_spec.specs.Command.{Command, Put, PutIf, Del, Get, Stamp, Range, Scan, Count, Close, Reopen}
use Rattle.cola_spec.specs.Reply as reply
use Rattle.cola_spec.specs.Reply.{Reply, Got, Deleted, Stamped, Rows, Counted, Opened, Already, Shut, Bad, Refused, NotClosed, NotStore}
use Rattle.cola_spec.specs.Machine.{State, Open, Closing, Closed, plain_turns}
use Rattle.cola_spec.proofs.Entries.{listed}

abbrev shape_of : ℕ → Shape
shape_of limit = record { limit = limit; key_limit = 24; value_limit = 32; stamped = false }

abbrev stamped_shape : Shape
stamped_shape = record { limit = 32; key_limit = 40; value_limit = 72; stamped = true }

abbrev replies : Shape → State → List (Option Command) → List Reply
replies shape state asked = map (λ turn. turn.answer) (plain_turns shape state asked)

abbrev a : List ℕ
a = codes "a"

abbrev b : List ℕ
b = codes "b"

abbrev c : List ℕ
c = codes "c"

abbrev d : List ℕ
d = codes "d"

abbrev one : List ℕ
one = codes "1"

abbrev two : List ℕ
two = codes "2"

abbrev three : List ℕ
three = codes "3"

-- a put answers the value that it replaces, and a get the last one
pub put_and_get : replies (shape_of 4) (Open empty_map) (Some (Put a one) ∷ Some (Get a) ∷ Some (Get b) ∷ Some (Put a two) ∷ Some (Get a) ∷ [])
    ≡ reply.Put New ∷ Got (Some one) ∷ Got None ∷ reply.Put (Old one) ∷ Got (Some two) ∷ []
unfolding empty_map
put_and_get = simp listed

-- a new key is refused at the limit, and a present one is not
pub full_at_the_limit : replies (shape_of 1) (Open empty_map) (Some (Put a one) ∷ Some (Put b two) ∷ Some (Put a three) ∷ [])
    ≡ reply.Put New ∷ reply.Put Full ∷ reply.Put (Old one) ∷ []
unfolding empty_map
full_at_the_limit = simp listed

-- a delete makes room for another key
pub a_delete_makes_room : replies (shape_of 1) (Open empty_map) (Some (Put a one) ∷ Some (Put b two) ∷ Some (Put a three) ∷ Some (Del a) ∷ Some (Put b two) ∷ Some (Get a) ∷ [])
    ≡ reply.Put New ∷ reply.Put Full ∷ reply.Put (Old one) ∷ Deleted (Some three) ∷ reply.Put New ∷ Got None ∷ []
unfolding empty_map
a_delete_makes_room = simp listed

-- a second delete finds nothing
pub deleted_twice : replies (shape_of 2) (Open empty_map) (Some (Put b two) ∷ Some (Put a one) ∷ Some (Del b) ∷ Some (Get b) ∷ Some Count ∷ Some (Del b) ∷ Some (Put d one) ∷ Some (Put c one) ∷ [])
    ≡ reply.Put New ∷ reply.Put New ∷ Deleted (Some two) ∷ Got None ∷ Counted 1 ∷ Deleted None ∷ reply.Put New ∷ reply.Put Full ∷ []
unfolding empty_map
deleted_twice = simp listed

-- ranges and scans, with a key at each end, past each end, and none within
pub ranges : replies (shape_of 4) (Open empty_map) (Some (Put c three) ∷ Some (Put a one) ∷ Some (Put b two) ∷ Some (Range a c) ∷ Some (Range b d) ∷ Some (Range a a) ∷ Some (Range b a) ∷ Some (Scan a 0) ∷ Some (Scan b 1) ∷ Some (Scan b 5) ∷ Some (Scan d 5) ∷ [])
    ≡ reply.Put New ∷ reply.Put New ∷ reply.Put New ∷ Rows ((a, one) ∷ (b, two) ∷ []) ∷ Rows ((b, two) ∷ (c, three) ∷ []) ∷ Rows [] ∷ Rows [] ∷ Rows [] ∷ Rows ((b, two) ∷ []) ∷ Rows ((b, two) ∷ (c, three) ∷ []) ∷ Rows [] ∷ []
unfolding empty_map
ranges = simp listed

-- a key stands below each key that it begins
pub prefixes : replies (shape_of 4) (Open empty_map) (Some (Put (codes "user:1") one) ∷ Some (Put (codes "user") two) ∷ Some (Put (codes "city:7") three) ∷ Some (Range (codes "user:") (codes "user;")) ∷ Some (Scan a 2) ∷ [])
    ≡ reply.Put New ∷ reply.Put New ∷ reply.Put New ∷ Rows ((codes "user:1", one) ∷ []) ∷ Rows ((codes "city:7", three) ∷ (codes "user", two) ∷ []) ∷ []
unfolding empty_map
prefixes = simp listed

-- what close and open answer, and that a closed store keeps its map
pub closed_and_opened : replies (shape_of 4) (Open empty_map) (Some (Put a one) ∷ Some Close ∷ Some (Get a) ∷ None ∷ Some Close ∷ Some Reopen ∷ Some Reopen ∷ Some (Get a) ∷ [])
    ≡ reply.Put New ∷ reply.Closed ∷ Shut ∷ Bad ∷ Already ∷ Opened 1 ∷ Already ∷ Got (Some one) ∷ []
unfolding empty_map
closed_and_opened = simp listed

-- a store whose closing met a fault is shut to all but a second close
pub closing_again : replies (shape_of 4) (Closing empty_map) (Some (Get a) ∷ Some Reopen ∷ None ∷ Some Close ∷ Some Close ∷ Some Reopen ∷ [])
    ≡ Shut ∷ Already ∷ Bad ∷ reply.Closed ∷ Already ∷ Opened 0 ∷ []
unfolding empty_map
closing_again = simp listed

-- a store that was not closed does not open
pub not_closed : replies (shape_of 4) (Closed empty_map 1) (Some Reopen ∷ Some (Put a one) ∷ Some Close ∷ [])
    ≡ Refused NotClosed ∷ Shut ∷ Already ∷ []
not_closed = refl

-- a state byte above 1 is no store
pub no_store : replies (shape_of 4) (Closed empty_map 2) (Some Reopen ∷ [])
    ≡ Refused NotStore ∷ []
no_store = refl

-- each accepted put takes the next stamp, and one that saw another stamp is refused
pub stamps : replies stamped_shape (Open empty_map) (Some (Put a one) ∷ Some (Put b two) ∷ Some (Stamp a) ∷ Some (Put a two) ∷ Some (Stamp a) ∷ Some (PutIf a 1 three) ∷ [])
    ≡ reply.Put New ∷ reply.Put New ∷ Stamped (Some 1) ∷ reply.Put (Old one) ∷ Stamped (Some 3) ∷ reply.Put (Other 3) ∷ []
unfolding empty_map
stamps = simp listed

-- a map with one key, after three accepted puts
abbrev later_map : Map
later_map = record { entries = finite.insert finite.empty a (record { value = two; stamp = 3 }); last = 3 }

-- a put that saw the stamp of its key, or 0 where the key is absent, is accepted
pub stamps_seen : replies stamped_shape (Open later_map) (Some (PutIf a 3 three) ∷ Some (Stamp a) ∷ Some (PutIf c 0 one) ∷ Some (PutIf c 0 two) ∷ Some (Stamp d) ∷ Some (PutIf d 7 one) ∷ [])
    ≡ reply.Put (Old two) ∷ Stamped (Some 4) ∷ reply.Put New ∷ reply.Put (Other 5) ∷ Stamped None ∷ reply.Put (Other 0) ∷ []
stamps_seen = simp listed

-- no put is accepted after the last stamp, and another stamp is told first
pub worn : replies stamped_shape (Open (record empty_map { last = last_stamp })) (Some (Put a one) ∷ Some (PutIf a 0 one) ∷ Some (PutIf a 1 one) ∷ Some (Get a) ∷ Some (Del a) ∷ [])
    ≡ reply.Put Worn ∷ reply.Put Worn ∷ reply.Put (Other 0) ∷ Got None ∷ Deleted None ∷ []
unfolding empty_map
worn = simp listed
