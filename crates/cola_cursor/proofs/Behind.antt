-- The cells that lines pass, step by step.
use Rattle.std.proofs.Common.{◌≡◌, ◌⊎◌, inl, inr, ℕ, ◌≤◌, ◌<◌, List, [], ◌∷◌, Option, None, Some, IsTrue, refl, sym, ap, subst, ◌∙◌, arith, Bool}
use Rattle.std.specs.Option.{option_or}
use Rattle.cola_runs.specs.Cells as laws
use Rattle.cola_cell.specs.declared.cell.Item.{Item}
use Rattle.cola_cell.specs.declared.cell.Item.TheVariants.{Value, Tombstone}
use Rattle.cola_cell.specs.declared.cell.Run.{Run}
use Rattle.cola_cell.specs.Held.{Held, Told, Tells, LawCell}
use Rattle.cola_cursor.specs.declared.line.Line.{Line}
use Rattle.cola_cursor.specs.Passing.{Passes, PassAll}
use Rattle.cola_cursor.specs.Results.{FetchAll}
use Rattle.cola_cursor.specs.Standing.{HasTombstone, PassedCell, LinePassed, LinesPassed, AnyHasValue}
use Rattle.cola_cursor.specs.Way.{spot_at}

module _ (falls : Bool) where
  module _ (held : Held) where
    -- ---- reading passes nothing

    pub fetch_passes : (answered : Option (List ℕ)) (hidden : List ℕ → Type 0) (olds news : List Line) → FetchAll falls held olds news → LinesPassed falls held answered hidden olds news
    fetch_passes answered hidden [] [] h = tt
    fetch_passes answered hidden [] (n ∷ news) h = absurd h
    fetch_passes answered hidden (o ∷ olds) [] h = absurd h
    fetch_passes answered hidden (o ∷ olds) (n ∷ news) h = (
      record { run_is = h.0.run_is; goes = (let e = h.0.place_is in omega arith); cells = λ j a b. absurd (let e = h.0.place_is in omega arith) },
      fetch_passes answered (λ k. hidden k ⊎ HasTombstone falls held o n k) olds news h.1,
    )

    -- ---- one step after another

    more_tombstones : (old mid new : Line) (k : List ℕ) → mid.place ≤ new.place → HasTombstone falls held old mid k → HasTombstone falls held old new k
    more_tombstones old mid new k l h = record { index = h.index; from = h.from; before = (let b = h.before in omega arith); young = h.young; link = h.link; told = h.told }

    later_tombstones : (old mid new : Line) (k : List ℕ) → mid.run ≡ old.run → old.place ≤ mid.place → HasTombstone falls held mid new k → HasTombstone falls held old new k
    later_tombstones old mid new k r l h =
        record {
          index = h.index;
          from = (let b = h.from in omega arith);
          before = h.before;
          young = h.young;
          link = h.link;
          told = subst (λ (x : Run). Tells (spot_at falls held x h.index) (Told (laws.Entry k laws.Tombstone h.young h.link))) r h.told;
        }

    -- two steps, of which only the second may answer
    pub passes_then : (answered : Option (List ℕ)) (first second both : List ℕ → Type 0) (olds mids news : List Line) → LinesPassed falls held None first olds mids → LinesPassed falls held answered second mids news →
        ((k : List ℕ) → first k → both k) → ((k : List ℕ) → second k → both k) → LinesPassed falls held answered both olds news
    passes_then answered first second both [] [] [] h g f s = tt
    passes_then answered first second both [] [] (n ∷ news) h g f s = absurd g
    passes_then answered first second both [] (m ∷ mids) news h g f s = absurd h
    passes_then answered first second both (o ∷ olds) [] news h g f s = absurd h
    passes_then answered first second both (o ∷ olds) (m ∷ mids) [] h g f s = absurd g
    passes_then answered first second both (o ∷ olds) (m ∷ mids) (n ∷ news) h g f s =
        let a = h.0.goes in let b = g.0.goes in (
          record {
            run_is = g.0.run_is ∙ h.0.run_is;
            goes = omega arith;
            cells = λ j x y. by_place j x y (let c : (j < m.place) ⊎ (m.place ≤ j) = grind arith in c);
          },
          passes_then answered (λ k. first k ⊎ HasTombstone falls held o m k) (λ k. second k ⊎ HasTombstone falls held m n k) (λ k. both k ⊎ HasTombstone falls held o n k) olds mids news h.1 g.1
              (λ k. firsts k) (λ k. seconds k),
        )
      where
        firsts : (k : List ℕ) → first k ⊎ HasTombstone falls held o m k → both k ⊎ HasTombstone falls held o n k
        firsts k (inl x) = inl (f k x)
        firsts k (inr x) = inr (more_tombstones o m n k g.0.goes x)

        seconds : (k : List ℕ) → second k ⊎ HasTombstone falls held m n k → both k ⊎ HasTombstone falls held o n k
        seconds k (inl x) = inl (s k x)
        seconds k (inr x) = inr (later_tombstones o m n k h.0.run_is h.0.goes x)

        first_reason : (c : LawCell) → IsTrue (laws.is_look c) ⊎ (None ≡ Some (laws.key_of c)) ⊎ first (laws.key_of c) ⊎ HasTombstone falls held o m (laws.key_of c) →
            IsTrue (laws.is_look c) ⊎ (answered ≡ Some (laws.key_of c)) ⊎ both (laws.key_of c) ⊎ HasTombstone falls held o n (laws.key_of c)
        first_reason c (inl x) = inl x
        first_reason c (inr (inl x)) = cc
        first_reason c (inr (inr (inl x))) = inr (inr (inl (f (laws.key_of c) x)))
        first_reason c (inr (inr (inr x))) = inr (inr (inr (more_tombstones o m n (laws.key_of c) g.0.goes x)))

        second_reason : (c : LawCell) → IsTrue (laws.is_look c) ⊎ (answered ≡ Some (laws.key_of c)) ⊎ second (laws.key_of c) ⊎ HasTombstone falls held m n (laws.key_of c) →
            IsTrue (laws.is_look c) ⊎ (answered ≡ Some (laws.key_of c)) ⊎ both (laws.key_of c) ⊎ HasTombstone falls held o n (laws.key_of c)
        second_reason c (inl x) = inl x
        second_reason c (inr (inl x)) = inr (inl x)
        second_reason c (inr (inr (inl x))) = inr (inr (inl (s (laws.key_of c) x)))
        second_reason c (inr (inr (inr x))) = inr (inr (inr (later_tombstones o m n (laws.key_of c) h.0.run_is h.0.goes x)))

        by_place : (j : ℕ) → o.place ≤ j → j < n.place → (j < m.place) ⊎ (m.place ≤ j) → PassedCell falls held o n answered both j
        by_place j x y (inl z) = let p = h.0.cells j x z in record { cell = p.cell; told = p.told; reason = first_reason p.cell p.reason }
        by_place j x y (inr z) =
            let p = g.0.cells j z y in
            record {
              cell = p.cell;
              told = subst (λ (r : Run). Tells (spot_at falls held r j) (Told p.cell)) h.0.run_is p.told;
              reason = second_reason p.cell p.reason;
            }

    -- ---- a step over one key

    module _ (key : List ℕ) where
      -- every cell that it passes has the key: this answers it
      pub answer_passes : (hidden : List ℕ → Type 0) (olds news : List Line) (item : Option Item) → PassAll falls held key olds news item → LinesPassed falls held (Some key) hidden olds news
      answer_passes hidden [] [] item h = tt
      answer_passes hidden [] (n ∷ news) item h = absurd h
      answer_passes hidden (o ∷ olds) [] item h = absurd h
      answer_passes hidden (o ∷ olds) (n ∷ news) item h = (
        record { run_is = h.2.run_is; goes = h.2.goes; cells = λ j a b. let p = h.2.cells j a b in record { cell = p.cell; told = p.told; reason = inr (inl (ap Some (sym p.key_is))) } },
        answer_passes (λ k. hidden k ⊎ HasTombstone falls held o n k) olds news h.1 h.3,
      )

      -- or the key is hidden
      hidden_passes : (hidden : List ℕ → Type 0) (olds news : List Line) (item : Option Item) → hidden key → PassAll falls held key olds news item → LinesPassed falls held None hidden olds news
      hidden_passes hidden [] [] item x h = tt
      hidden_passes hidden [] (n ∷ news) item x h = absurd h
      hidden_passes hidden (o ∷ olds) [] item x h = absurd h
      hidden_passes hidden (o ∷ olds) (n ∷ news) item x h = (
        record { run_is = h.2.run_is; goes = h.2.goes; cells = λ j a b. let p = h.2.cells j a b in record { cell = p.cell; told = p.told; reason = inr (inr (inl (subst hidden (sym p.key_is) x))) } },
        hidden_passes (λ k. hidden k ⊎ HasTombstone falls held o n k) olds news h.1 (inl x) h.3,
      )

      look_line : (hidden : List ℕ → Type 0) (old new : Line) → Passes falls held key old new None → LinePassed falls held old new None hidden
      look_line hidden old new p = record { run_is = p.run_is; goes = p.goes; cells = λ j a b. let q = p.cells j a b in record { cell = q.cell; told = q.told; reason = inl (q.looks refl) } }

      tombstone_line : (hidden : List ℕ → Type 0) (old new : Line) → Passes falls held key old new (Some Tombstone) → LinePassed falls held old new None hidden × HasTombstone falls held old new key
      tombstone_line hidden old new p =
          let f = p.found Tombstone refl in
          let t : HasTombstone falls held old new key = record { index = f.index; from = f.from; before = f.before; young = f.young; link = f.link; told = f.told } in (
            record {
              run_is = p.run_is;
              goes = p.goes;
              cells = λ j a b. let q = p.cells j a b in record { cell = q.cell; told = q.told; reason = inr (inr (inr (subst (HasTombstone falls held old new) (sym q.key_is) t))) };
            },
            t,
          )

      -- no item: the cells are lookahead cells
      pub look_passes : (hidden : List ℕ → Type 0) (olds news : List Line) (item : Option Item) → item ≡ None → PassAll falls held key olds news item → LinesPassed falls held None hidden olds news
      look_passes hidden [] [] item e h = tt
      look_passes hidden [] (n ∷ news) item e h = absurd h
      look_passes hidden (o ∷ olds) [] item e h = absurd h
      look_passes hidden (o ∷ olds) (n ∷ news) item e h = go (λ rest f q. look_passes (λ k. hidden k ⊎ HasTombstone falls held o n k) olds news rest f q) h.0 h.1 h.2 h.3 (sym h.4 ∙ e)
        where
          go : ((rest : Option Item) → rest ≡ None → PassAll falls held key olds news rest → LinesPassed falls held None (λ k. hidden k ⊎ HasTombstone falls held o n k) olds news) →
              (first rest : Option Item) → Passes falls held key o n first → PassAll falls held key olds news rest → option_or first rest ≡ None → LinesPassed falls held None hidden (o ∷ olds) (n ∷ news)
          go more None rest p q f = (look_line hidden o n p, more rest f q)
          go more (Some i) rest p q f = cc

      -- a tombstone: what stands before it are lookahead cells, and it hides the others
      pub tombstone_passes : (hidden : List ℕ → Type 0) (olds news : List Line) (item : Option Item) → item ≡ Some Tombstone → PassAll falls held key olds news item → LinesPassed falls held None hidden olds news
      tombstone_passes hidden [] [] item e h = tt
      tombstone_passes hidden [] (n ∷ news) item e h = absurd h
      tombstone_passes hidden (o ∷ olds) [] item e h = absurd h
      tombstone_passes hidden (o ∷ olds) (n ∷ news) item e h = go (λ rest f q. tombstone_passes (λ k. hidden k ⊎ HasTombstone falls held o n k) olds news rest f q) h.0 h.1 h.2 h.3 (sym h.4 ∙ e)
        where
          go : ((rest : Option Item) → rest ≡ Some Tombstone → PassAll falls held key olds news rest → LinesPassed falls held None (λ k. hidden k ⊎ HasTombstone falls held o n k) olds news) →
              (first rest : Option Item) → Passes falls held key o n first → PassAll falls held key olds news rest → option_or first rest ≡ Some Tombstone → LinesPassed falls held None hidden (o ∷ olds) (n ∷ news)
          go more None rest p q f = (look_line hidden o n p, more rest f q)
          go more (Some Tombstone) rest p q f =
              let t = tombstone_line hidden o n p in
              (t.0, hidden_passes (λ k. hidden k ⊎ HasTombstone falls held o n k) olds news rest (inr t.1) q)
          go more (Some (Value v s)) rest p q f = cc

  -- ---- the value that is answered

  module _ (held : Held) (key value : List ℕ) (stamp : ℕ) where
    -- a step that finds it passes it
    pub value_passes : (olds news : List Line) (item : Option Item) → item ≡ Some (Value value stamp) → PassAll falls held key olds news item → AnyHasValue falls held key value stamp olds news
    value_passes [] [] item e h = let f = sym h ∙ e in cc
    value_passes [] (n ∷ news) item e h = absurd h
    value_passes (o ∷ olds) [] item e h = absurd h
    value_passes (o ∷ olds) (n ∷ news) item e h = go (λ rest f q. value_passes olds news rest f q) h.0 h.1 h.2 h.3 (sym h.4 ∙ e)
      where
        go : ((rest : Option Item) → rest ≡ Some (Value value stamp) → PassAll falls held key olds news rest → AnyHasValue falls held key value stamp olds news) →
            (first rest : Option Item) → Passes falls held key o n first → PassAll falls held key olds news rest → option_or first rest ≡ Some (Value value stamp) → AnyHasValue falls held key value stamp (o ∷ olds) (n ∷ news)
        go more None rest p q f = inr (more rest f q)
        go more (Some i) rest p q f =
            let x = p.found (Value value stamp) f in
            inl (record { index = x.index; from = x.from; before = x.before; young = x.young; link = x.link; told = x.told })

    -- and so does a call that came there before
    pub value_later : (olds mids news : List Line) (answered : Option (List ℕ)) (hidden : List ℕ → Type 0) → LinesPassed falls held answered hidden olds mids → AnyHasValue falls held key value stamp mids news → AnyHasValue falls held key value stamp olds news
    value_later [] [] news answered hidden h a = a
    value_later [] (m ∷ mids) news answered hidden h a = absurd h
    value_later (o ∷ olds) [] news answered hidden h a = absurd h
    value_later (o ∷ olds) (m ∷ mids) [] answered hidden h a = a
    value_later (o ∷ olds) (m ∷ mids) (n ∷ news) answered hidden h (inl a) =
        let g = h.0.goes in
        inl (record {
          index = a.index;
          from = (let b = a.from in omega arith);
          before = a.before;
          young = a.young;
          link = a.link;
          told = subst (λ (r : Run). Tells (spot_at falls held r a.index) (Told (laws.Entry key (laws.Value (record { value = value; stamp = stamp })) a.young a.link))) h.0.run_is a.told;
        })
    value_later (o ∷ olds) (m ∷ mids) (n ∷ news) answered hidden h (inr a) = inr (value_later olds mids news answered (λ k. hidden k ⊎ HasTombstone falls held o m k) h.1 a)
