-- When a put is refused as full, and when as worn: by how many keys a store has, and by the last number that it gave.
use Rattle.std.proofs.Common.{◌≡◌, ◌⊎◌, inl, inr, ℕ, ◌≤◌, Bool, true, false, List, Option, Some, None, Result, Ok, Err, refl, ap, subst}
use Rattle.std.specs.Prelude.{if◌then◌else◌, nat_le, nat_eq}
use Rattle.std.proofs.lemmas.Bool.{leb-true}
use Rattle.cola_cell.specs.declared.cell.Item.{Item}
use Rattle.cola_cell.specs.declared.fault.ReadFault.{ReadFault}
use Rattle.cola_cell.specs.declared.fault.StepFault.{StepFault}
use Rattle.cola_cell.specs.Held.{Stamped}
use Rattle.cola_device.specs.declared.counts.Counts.{Counts}
use Rattle.cola_layout.specs.declared.geometry.Geometry.{Geometry}
use Rattle.cola_shapes.specs.Shapes as shapes
use Rattle.cola_spec.specs.Map.{Shape, PutOutcome, New, Old, Full, Worn, Other}
use Rattle.cola_spec.specs.Reply as reply
use Rattle.cola_store.specs.Calls.{Same, Concludes, PutFollows, PutIfFollows, SearchesFirst, stepped, stamped_found, stamp_or_zero, worn_at, decided, decided_if, decided_by, decided_if_by}
use Rattle.cola_store.specs.Store.{Stored, map_shape}
use Rattle.cola_table.specs.Replies.{read_failure, step_failure}

-- which of two was chosen
chosen : {A : Type 0} (t : Bool) (a b c : A) → (if t then a else b) ≡ c → ((t ≡ true) × (a ≡ c)) ⊎ ((t ≡ false) × (b ≡ c))
chosen true a b c e = inl (refl, e)
chosen false a b c e = inr (refl, e)

worn-not-full : Worn ≡ Full → ⊥
worn-not-full e = cc

new-not-full : New ≡ Full → ⊥
new-not-full e = cc

old-not-full : (v : List ℕ) → Old v ≡ Full → ⊥
old-not-full v e = cc

other-not-full : (n : ℕ) → Other n ≡ Full → ⊥
other-not-full n e = cc

full-not-worn : Full ≡ Worn → ⊥
full-not-worn e = cc

new-not-worn : New ≡ Worn → ⊥
new-not-worn e = cc

old-not-worn : (v : List ℕ) → Old v ≡ Worn → ⊥
old-not-worn v e = cc

other-not-worn : (n : ℕ) → Other n ≡ Worn → ⊥
other-not-worn n e = cc

-- one of two that cannot be was not chosen
chose-first : {A : Type 0} (t : Bool) (a b c : A) → (b ≡ c → ⊥) → (if t then a else b) ≡ c → (t ≡ true) × (a ≡ c)
chose-first t a b c never e = at (chosen t a b c e)
  where
    at : ((t ≡ true) × (a ≡ c)) ⊎ ((t ≡ false) × (b ≡ c)) → (t ≡ true) × (a ≡ c)
    at (inl is) = is
    at (inr is) = absurd (never is.1)

chose-second : {A : Type 0} (t : Bool) (a b c : A) → (a ≡ c → ⊥) → (if t then a else b) ≡ c → b ≡ c
chose-second t a b c never e = at (chosen t a b c e)
  where
    at : ((t ≡ true) × (a ≡ c)) ⊎ ((t ≡ false) × (b ≡ c)) → b ≡ c
    at (inl is) = absurd (never is.1)
    at (inr is) = is.1

module _ (shape : Shape) (count last : ℕ) where
  not-fresh-full : (other : PutOutcome) → (other ≡ Full → ⊥) → (if worn_at shape last then Worn else other) ≡ Full → ⊥
  not-fresh-full other never e = never (chose-second (worn_at shape last) Worn other Full worn-not-full e)

  decided-full : (found : Option Stamped) → decided shape count last found ≡ Full → shape.limit ≤ count
  decided-full None e =
      leb-true shape.limit count (chose-first (nat_le shape.limit count) Full (if worn_at shape last then Worn else New) Full (not-fresh-full New new-not-full) e).0
  decided-full (Some s) e = absurd (not-fresh-full (Old s.value) (old-not-full s.value) e)

  decided-worn : (found : Option Stamped) → decided shape count last found ≡ Worn → worn_at shape last ≡ true
  decided-worn None e =
      (chose-first (worn_at shape last) Worn New Worn new-not-worn (chose-second (nat_le shape.limit count) Full (if worn_at shape last then Worn else New) Worn full-not-worn e)).0
  decided-worn (Some s) e = (chose-first (worn_at shape last) Worn (Old s.value) Worn (old-not-worn s.value) e).0

  module _ (seen : ℕ) (found : Option Stamped) where
    decided-if-full : decided_if shape count last seen found ≡ Full → shape.limit ≤ count
    decided-if-full e =
        decided-full found (chose-first (nat_eq (stamp_or_zero found) seen) (decided shape count last found) (Other (stamp_or_zero found)) Full (other-not-full (stamp_or_zero found)) e).1

    decided-if-worn : decided_if shape count last seen found ≡ Worn → worn_at shape last ≡ true
    decided-if-worn e =
        decided-worn found (chose-first (nat_eq (stamp_or_zero found) seen) (decided shape count last found) (Other (stamp_or_zero found)) Worn (other-not-worn (stamp_or_zero found)) e).1

-- a reply that a put was carried out, or why not
same-outcome : (r o : PutOutcome) → reply.Put r ≡ reply.Put o → o ≡ r
same-outcome r o e = cc

not-failed : (r : PutOutcome) (f : reply.Failure) → reply.Put r ≡ reply.Failed f → ⊥
not-failed r f e = cc

stepped-outcome : (r o : PutOutcome) (step : Result (Unit {0}) StepFault) → reply.Put r ≡ stepped (reply.Put o) step → o ≡ r
stepped-outcome r o (Ok a) e = cc
stepped-outcome r o (Err f) e = absurd (not-failed r (step_failure f) e)

module _ {D : Type 0} (bytes : D → Option (List ℕ)) (counts : D → Counts) where
  concluded : (r o : PutOutcome) (old new : Stored D) (key value : List ℕ) (x : Option Stamped) → Concludes bytes counts o old new key value x (reply.Put r) → o ≡ r
  concluded r New old new key value x w = stepped-outcome r New w.step w.answer_is
  concluded r (Old v) old new key value x w = stepped-outcome r (Old v) w.step w.answer_is
  concluded r Full old new key value x w = same-outcome r Full w.answer_is
  concluded r Worn old new key value x w = same-outcome r Worn w.answer_is
  concluded r (Other n) old new key value x w = same-outcome r (Other n) w.answer_is

  -- the outcome that is answered was decided, by what the key had
  put-decided : (r : PutOutcome) (mid new : Stored D) (key value : List ℕ) (search : Result (Option Item) ReadFault) → PutFollows bytes counts mid new key value search (reply.Put r) → (found : Option Stamped) × (decided_by mid found ≡ r)
  put-decided r mid new key value (Ok found) w = (stamped_found found, concluded r (decided_by mid (stamped_found found)) mid new key value (stamped_found found) w)
  put-decided r mid new key value (Err f) w = absurd (not-failed r (read_failure f) w.answer_is)

  put-if-decided : (r : PutOutcome) (mid new : Stored D) (key : List ℕ) (seen : ℕ) (value : List ℕ) (search : Result (Option Item) ReadFault) → PutIfFollows bytes counts mid new key seen value search (reply.Put r) → (found : Option Stamped) × (decided_if_by mid seen found ≡ r)
  put-if-decided r mid new key seen value (Ok found) w = (stamped_found found, concluded r (decided_if_by mid seen (stamped_found found)) mid new key value (stamped_found found) w)
  put-if-decided r mid new key seen value (Err f) w = absurd (not-failed r (read_failure f) w.answer_is)

  -- a search leaves the shape, the number of keys and the last number
  same-shape : (old mid : Stored D) → Same bytes counts old mid → map_shape mid ≡ map_shape old
  same-shape old mid same = ap (λ (g : Geometry). shapes.shape_of g.format g.keys) same.geometry_is

  limit-before : (old mid : Stored D) → Same bytes counts old mid → (map_shape mid).limit ≤ mid.count → (map_shape old).limit ≤ old.count
  limit-before old mid same le = subst (λ (n : ℕ). (map_shape old).limit ≤ n) same.count_is (subst (λ (s : Shape). s.limit ≤ mid.count) (same-shape old mid same) le)

  worn-before : (old mid : Stored D) → Same bytes counts old mid → worn_at (map_shape mid) mid.last ≡ true → worn_at (map_shape old) old.last ≡ true
  worn-before old mid same e = subst (λ (n : ℕ). worn_at (map_shape old) n ≡ true) same.last_is (subst (λ (s : Shape). worn_at s mid.last ≡ true) (same-shape old mid same) e)

  module _ (old new : Stored D) (key value : List ℕ) where
    pub put-full : SearchesFirst bytes counts old new key (λ mid search. PutFollows bytes counts mid new key value search (reply.Put Full)) → (map_shape old).limit ≤ old.count
    put-full a =
        let found = put-decided Full a.mid new key value a.search a.follows in
        limit-before old a.mid a.searches.same (decided-full (map_shape a.mid) a.mid.count a.mid.last found.0 found.1)

    pub put-worn : SearchesFirst bytes counts old new key (λ mid search. PutFollows bytes counts mid new key value search (reply.Put Worn)) → worn_at (map_shape old) old.last ≡ true
    put-worn a =
        let found = put-decided Worn a.mid new key value a.search a.follows in
        worn-before old a.mid a.searches.same (decided-worn (map_shape a.mid) a.mid.count a.mid.last found.0 found.1)

  module _ (old new : Stored D) (key : List ℕ) (seen : ℕ) (value : List ℕ) where
    pub put-if-full : SearchesFirst bytes counts old new key (λ mid search. PutIfFollows bytes counts mid new key seen value search (reply.Put Full)) → (map_shape old).limit ≤ old.count
    put-if-full a =
        let found = put-if-decided Full a.mid new key seen value a.search a.follows in
        limit-before old a.mid a.searches.same (decided-if-full (map_shape a.mid) a.mid.count a.mid.last seen found.0 found.1)

    pub put-if-worn : SearchesFirst bytes counts old new key (λ mid search. PutIfFollows bytes counts mid new key seen value search (reply.Put Worn)) → worn_at (map_shape old) old.last ≡ true
    put-if-worn a =
        let found = put-if-decided Worn a.mid new key seen value a.search a.follows in
        worn-before old a.mid a.searches.same (decided-if-worn (map_shape a.mid) a.mid.count a.mid.last seen found.0 found.1)
