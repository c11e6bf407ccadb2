-- The reads and writes of a session are at most those of its stores.
use Rattle.std.proofs.Common.{◌≡◌, ℕ, suc, ◌+◌, ◌*◌, ◌^◌, ◌<◌, ◌≤◌, Bool, true, false, if◌then◌else◌, List, [], ◌∷◌, length, sum_by, Some, None, refl, sym, ◌∙◌, ap, subst, arith}
use Rattle.std.proofs.lemmas.List.Sums.{sum_by-cons}
use Rattle.cola_device.specs.declared.counts.Counts.{Counts}
use Rattle.cola_device.specs.declared.device.Device as device
use Rattle.cola_spec.specs.Map as map
use Rattle.cola_spec.specs.Reply as reply
use Rattle.cola_spec.specs.Reply.{Reply}
use Rattle.cola_spec.specs.Machine.{Turn}
use Rattle.cola_transfers.specs.Credit.{parts, last_value}
use Rattle.cola_store.specs.declared.account.Account.{Account}
use Rattle.cola_store.specs.Store.{Stored, HasRead, geometry_of, spent_of}
use Rattle.cola_store.specs.Sessions.{IsStoreOpened}
use Rattle.cola_store.specs.Transfers.{IsCounting}
use Rattle.cola_command.specs.declared.place.Place.{Place}
use Rattle.cola_command.specs.declared.place.Place.TheVariants.{Open, Closing, Closed}
use Rattle.cola_command.specs.File.{Sizes, sizes_of, faults_of}
use Rattle.cola_session.specs.Reading.{input_limit}
use Rattle.cola_command.specs.RunTransfers.{mutated, searched, short, opens, mutations, searches, shorts, AsksNoRows, AskNoRows, before_all, begin_where, by_store, levels, block_cells, file_blocks, most_writes, most_reads, cached_reads, FewTransfers}
use Rattle.cola_command.specs.Moves.{Answers, Closes, Rests, Moves, AllMove}

-- Sums over stores

-- an amount for the mutations and searches of each store, where the first had so many before these turns
module _ (f : ℕ → ℕ → ℕ) where
  abbrev pub amount : List Turn → ℕ
  amount store = f (mutations store) (searches store)

  -- turn by turn
  abbrev pub amounts : (m s : ℕ) → List Turn → ℕ
  amounts m s [] = f m s
  amounts m s (turn ∷ turns) = if opens turn.answer then f m s + amounts (mutated turn.answer) (searched turn.answer) turns else amounts (m + mutated turn.answer) (s + searched turn.answer) turns

  -- store by store
  abbrev after : (m s : ℕ) → List (List Turn) → ℕ
  after m s [] = f m s
  after m s (store ∷ stores) = f (m + mutations store) (s + searches store) + sum_by amount stores

  same-amount : (x y m s : ℕ) → x ≡ m → y ≡ s → f x y ≡ f m s
  same-amount x y m s a b = ap (λ (n : ℕ). f n y) a ∙ ap (λ (n : ℕ). f m n) b

  none-more : (x y : ℕ) → x ≡ y → x + sum_by amount [] ≡ y
  none-more x y e = omega (arith, e)

  after-before : (m s : ℕ) (turn : Turn) (stores : List (List Turn)) → after m s (before_all turn stores) ≡ after (m + mutated turn.answer) (s + searched turn.answer) stores
  after-before m s turn [] = none-more _ _ (same-amount (m + (mutated turn.answer + 0)) (s + (searched turn.answer + 0)) _ _ (omega arith) (omega arith))
  after-before m s turn (store ∷ stores) =
      ap (λ (n : ℕ). n + sum_by amount stores) (same-amount (m + (mutated turn.answer + mutations store)) (s + (searched turn.answer + searches store)) _ _ (omega arith) (omega arith))

  whole-sum : (turn : Turn) (stores : List (List Turn)) → sum_by amount (before_all turn stores) ≡ after (mutated turn.answer) (searched turn.answer) stores
  whole-sum turn [] = sum_by-cons amount (turn ∷ []) [] ∙ none-more _ _ (same-amount (mutated turn.answer + 0) (searched turn.answer + 0) _ _ (omega arith) (omega arith))
  whole-sum turn (store ∷ stores) = sum_by-cons amount (turn ∷ store) stores

  by-case : (m s : ℕ) (turn : Turn) (stores : List (List Turn)) (first rest : ℕ) (begins : Bool) → first ≡ after (mutated turn.answer) (searched turn.answer) stores → rest ≡ after (m + mutated turn.answer) (s + searched turn.answer) stores
      → (if begins then f m s + first else rest) ≡ after m s (begin_where begins (before_all turn stores))
  by-case m s turn stores first rest true is goes-on =
      ap (λ (n : ℕ). f m s + n) (is ∙ sym (whole-sum turn stores)) ∙ ap (λ (n : ℕ). n + sum_by amount (before_all turn stores)) (sym (same-amount (m + 0) (s + 0) m s (omega arith) (omega arith)))
  by-case m s turn stores first rest false is goes-on = goes-on ∙ sym (after-before m s turn stores)

  by-turn : (m s : ℕ) (turns : List Turn) → amounts m s turns ≡ after m s (by_store turns)
  by-turn m s [] = sym (none-more _ _ (same-amount (m + 0) (s + 0) m s (omega arith) (omega arith)))
  by-turn m s (turn ∷ turns) =
      by-case m s turn (by_store turns) (amounts (mutated turn.answer) (searched turn.answer) turns) (amounts (m + mutated turn.answer) (s + searched turn.answer) turns) (opens turn.answer)
      (by-turn (mutated turn.answer) (searched turn.answer) turns) (by-turn (m + mutated turn.answer) (s + searched turn.answer) turns)

  -- there is a first store
  from-first : (store : List Turn) (stores : List (List Turn)) → after 0 0 (store ∷ stores) ≡ sum_by amount (store ∷ stores)
  from-first store stores = ap (λ (n : ℕ). n + sum_by amount stores) (same-amount (0 + mutations store) (0 + searches store) (mutations store) (searches store) (omega arith) (omega arith)) ∙ sym (sum_by-cons amount store stores)

  from-before : (turn : Turn) (stores : List (List Turn)) → after 0 0 (before_all turn stores) ≡ sum_by amount (before_all turn stores)
  from-before turn [] = from-first (turn ∷ []) []
  from-before turn (store ∷ stores) = from-first (turn ∷ store) stores

  from-begin : (begins : Bool) (turn : Turn) (stores : List (List Turn)) → after 0 0 (begin_where begins (before_all turn stores)) ≡ sum_by amount (begin_where begins (before_all turn stores))
  from-begin true turn stores = from-first [] (before_all turn stores)
  from-begin false turn stores = from-before turn stores

  from-stores : (turns : List Turn) → after 0 0 (by_store turns) ≡ sum_by amount (by_store turns)
  from-stores [] = from-first [] []
  from-stores (turn ∷ turns) = from-begin (opens turn.answer) turn (by_store turns)

  pub amounts-sum : (turns : List Turn) → amounts 0 0 turns ≡ sum_by amount (by_store turns)
  amounts-sum turns = by-turn 0 0 turns ∙ from-stores turns

-- one turn is one mutation and one search at most
one-at-most : (answer : Reply) → (mutated answer ≤ 1) × (searched answer ≤ 1)
one-at-most (reply.Put map.New) = (omega arith, omega arith)
one-at-most (reply.Put (map.Old value)) = (omega arith, omega arith)
one-at-most (reply.Put map.Full) = (omega arith, omega arith)
one-at-most (reply.Put map.Worn) = (omega arith, omega arith)
one-at-most (reply.Put (map.Other stamp)) = (omega arith, omega arith)
one-at-most (reply.Deleted None) = (omega arith, omega arith)
one-at-most (reply.Deleted (Some value)) = (omega arith, omega arith)
one-at-most (reply.Got value) = (omega arith, omega arith)
one-at-most (reply.Stamped stamp) = (omega arith, omega arith)
one-at-most (reply.Rows rows) = (omega arith, omega arith)
one-at-most (reply.Cut rows failure) = (omega arith, omega arith)
one-at-most (reply.Counted keys) = (omega arith, omega arith)
one-at-most (reply.Failed failure) = (omega arith, omega arith)
one-at-most reply.Closed = (omega arith, omega arith)
one-at-most (reply.Opened keys) = (omega arith, omega arith)
one-at-most (reply.Refused refusal) = (omega arith, omega arith)
one-at-most reply.Already = (omega arith, omega arith)
one-at-most reply.Shut = (omega arith, omega arith)
one-at-most reply.Bad = (omega arith, omega arith)

-- what each turn is asked, and what its reply may take
abbrev pub AllAsk : (Turn → Type 0) → List Turn → Type 0
AllAsk Asks [] = Unit {0}
AllAsk Asks (turn ∷ turns) = Asks turn × AllAsk Asks turns

abbrev pub all_takes : (Reply → ℕ) → List Turn → ℕ
all_takes takes [] = 0
all_takes takes (turn ∷ turns) = takes turn.answer + all_takes takes turns

-- A session turn by turn: what is counted at its end, with what was paid for its last store, is at most what was counted before a store, with the amounts and what the replies take

open-ends : (now opened paid most : ℕ) → now ≤ opened + paid → paid ≡ most → now + 0 ≤ opened + most + 0
open-ends now opened paid most within same = omega (arith, within, same)

closed-ends : (now before most takes : ℕ) → now ≤ before + takes → takes ≡ 0 → now + most ≤ before + most + 0
closed-ends now before most takes within free = omega (arith, within, free)

turn-more : (now from next paid paid' amounts amounts' takes rest : ℕ) → amounts ≡ amounts' → next + paid ≤ from + paid' + takes → now + paid' ≤ next + amounts' + rest → now + paid ≤ from + amounts + (takes + rest)
turn-more now from next paid paid' amounts amounts' takes rest same more bound = omega (arith, same, more, bound)

open-more : (now before opened most amounts amounts' takes rest : ℕ) → amounts ≡ most + amounts' → opened ≡ before → now + 0 ≤ opened + amounts' + rest → now + most ≤ before + amounts + (takes + rest)
open-more now before opened most amounts amounts' takes rest same is bound = omega (arith, same, is, bound)

same-from : (next from takes : ℕ) → next ≡ from → next + 0 ≤ from + 0 + takes
same-from next from takes same = omega (arith, same)

paid-from : (next from paid most takes : ℕ) → next ≤ from + paid → paid ≡ most → next + 0 ≤ from + most + takes
paid-from next from paid most takes within same = omega (arith, within, same)

rest-from : (next from most takes : ℕ) → next ≤ from + takes → next + most ≤ from + most + takes
rest-from next from most takes within = omega (arith, within)

whole-bound : (now opened before amounts sum takes : ℕ) → now + 0 ≤ opened + amounts + takes → opened ≡ before → amounts ≡ sum → now ≤ before + sum + takes
whole-bound now opened before amounts sum takes bound start same = omega (arith, bound, start, same)

-- Stores

-- so many turns that no count of a store comes to its last value
abbrev pub turns_limit : ℕ
turns_limit = 2 ^ 41

count-rises : (before more now n : ℕ) → (before + more < last_value → now ≡ before + more) → before ≤ n → more ≤ 1 → n ≤ turns_limit → now ≤ suc n
count-rises before more now n is few one many = let e = is (omega (arith, few, one, many)) in omega (arith, e, few, one)

block-rises : (before now bottom n : ℕ) → now ≤ before + 40 * (bottom + 1) → bottom ≤ 22 → before ≤ 920 * n → now ≤ 920 * suc n
block-rises before now bottom n rise shallow few = omega (arith, rise, shallow, few)

module _ {D : Type 0} (d : device.Ghosts D) (sizes : Sizes) (cache faults : ℕ) where
  -- an open store after so many turns: what it counted is small
  pub record IsSmall (n : ℕ) (store : Stored D) : Type 0 where
    pub calm : store.account.calm ≡ true
    pub steps_few : store.chain.accepted ≤ n
    pub searches_few : store.account.searches ≤ n
    pub reads_few : store.chain.reads ≤ 920 * n
    pub writes_few : store.chain.writes ≤ 920 * n
    pub cache_is : store.chain.store.buffers.cache.blocks ≡ cache
    pub faults_are : faults_of d (Open store) ≡ faults
    pub opened_faults : store.account.opened.faults ≡ faults

  opened-small : (n : ℕ) (before : D) (store : Stored D) → IsStoreOpened d before cache store → (d.counts before).faults ≡ faults → IsSmall n store
  opened-small n before store opened same = record {
    calm = ap (λ (a : Account). a.calm) opened.account_is;
    steps_few = let e = opened.numbers.0 in omega (arith, e);
    searches_few = let e = ap (λ (a : Account). a.searches) opened.account_is in omega (arith, e);
    reads_few = let e = opened.numbers.1 in omega (arith, e);
    writes_few = let e = opened.numbers.2 in omega (arith, e);
    cache_is = opened.opened.blocks;
    faults_are = opened.opened.no_fault ∙ same;
    opened_faults = ap (λ (a : Account). a.opened.faults) opened.account_is ∙ same;
  }

  answers-small : (n : ℕ) (turn : Turn) (old new : Stored D) → n ≤ turns_limit → IsSmall n old → Answers d sizes cache turn old new → faults_of d (Open new) ≡ faults_of d (Open old) → IsSmall (suc n) new
  answers-small n turn old new many small a stay =
      let one = one-at-most turn.answer in
      let shallow : (geometry_of old).bottom ≤ 22 = (geometry_of old).shallow in
      record {
        calm = a.calls.calm_is ∙ small.calm;
        steps_few = count-rises old.chain.accepted (mutated turn.answer) new.chain.accepted n a.calls.steps_are small.steps_few one.0 many;
        searches_few = count-rises old.account.searches (searched turn.answer) new.account.searches n a.calls.searches_are small.searches_few one.1 many;
        reads_few = block-rises old.chain.reads new.chain.reads (geometry_of old).bottom n a.calls.reads_rise shallow small.reads_few;
        writes_few = block-rises old.chain.writes new.chain.writes (geometry_of old).bottom n a.calls.writes_rise shallow small.writes_few;
        cache_is = a.cache_is ∙ small.cache_is;
        faults_are = stay ∙ small.faults_are;
        opened_faults = ap (λ (c : Counts). c.faults) a.calls.opened_is ∙ small.opened_faults;
      }

  below-last : (n x : ℕ) → x ≤ 920 * n → n ≤ turns_limit → x < last_value
  below-last n x few many = omega (arith, few, many)

  -- it counts
  counting : (n : ℕ) (store : Stored D) → n ≤ turns_limit → IsSmall n store → IsCounting store
  counting n store many small =
      let a = small.steps_few in
      let b = small.searches_few in
      record {
        calm = small.calm;
        steps_few = below-last n store.chain.accepted (omega (arith, a)) many;
        searches_few = below-last n store.account.searches (omega (arith, b)) many;
        reads_few = below-last n store.chain.reads small.reads_few many;
        writes_few = below-last n store.chain.writes small.writes_few many;
      }

  -- an amount of stores over a session: of a count of the device that is none of its other calls, where each store keeps to it from its opening to its close, and each file that stays closed to what its reply may take
  module _ (count : Counts → ℕ) (no_other : (counts : Counts) → count (record counts { others = 0 }) ≡ count counts) (f : ℕ → ℕ → ℕ) (takes : Reply → ℕ) (Asks : Turn → Type 0) (Keeps : Stored D → Type 0)
      (goes : (turn : Turn) (old new : Stored D) → Answers d sizes cache turn old new → Asks turn → Keeps old → Keeps new)
      (begins : (before : D) (store : Stored D) → IsStoreOpened d before cache store → Keeps store)
      (closes : (n : ℕ) (turn : Turn) (store : Stored D) (now : D) → n ≤ turns_limit → IsSmall n store → Keeps store → Closes d sizes cache turn store now → count (d.counts now) ≤ count store.account.opened + f store.chain.accepted store.account.searches)
      (rest : (turn : Turn) (before now : D) → Rests d sizes cache turn before now → count (d.counts now) ≤ count (d.counts before) + takes turn.answer) where
    -- a place after so many turns, with the mutations and searches of its last store
    abbrev pub Is : ℕ → Place D d → (m s : ℕ) → Type 0
    Is n (Open store) m s = IsSmall n store × (Keeps store × ((store.chain.accepted ≡ m) × (store.account.searches ≡ s)))
    Is n (Closing closing) m s = ⊥
    Is n (Closed before) m s = (d.counts before).faults ≡ faults

    -- what was counted before, and the amount of the last store, where that is closed
    abbrev pub from : Place D d → ℕ
    from (Open store) = count store.account.opened
    from (Closing closing) = 0
    from (Closed before) = count (d.counts before)

    abbrev pub paid : Place D d → (m s : ℕ) → ℕ
    paid (Open store) m s = 0
    paid (Closing closing) m s = 0
    paid (Closed before) m s = f m s

    module _ (last : Place D d) (last_turn : Turn) (end : D) (final : Moves d sizes cache last_turn last (Closed end)) (free : takes last_turn.answer ≡ 0) where
      abbrev pub Bound : Place D d → (m s : ℕ) → List Turn → Type 0
      Bound place m s turns = count (d.counts end) + paid place m s ≤ from place + amounts f m s turns + all_takes takes turns

      ends : (n : ℕ) (place : Place D d) (m s : ℕ) → n ≤ turns_limit → Is n place m s → Moves d sizes cache last_turn place (Closed end) → Bound place m s []
      ends n (Open store) m s many (small, (keeps, (steps, searching))) move =
          open-ends (count (d.counts end)) (count store.account.opened) (f store.chain.accepted store.account.searches) (f m s) (closes n last_turn store end many small keeps move) (same-amount f store.chain.accepted store.account.searches m s steps searching)
      ends n (Closing closing) m s many is move = absurd is
      ends n (Closed before) m s many is move = closed-ends (count (d.counts end)) (count (d.counts before)) (f m s) (takes last_turn.answer) (rest last_turn before end move) free

      -- one turn more, where it opens no file
      goes-on : (place next : Place D d) (m s m' s' : ℕ) (turn : Turn) (turns : List Turn) → opens turn.answer ≡ false → m' ≡ m + mutated turn.answer → s' ≡ s + searched turn.answer → from next + paid place m s ≤ from place + paid next m' s' + takes turn.answer → Bound next m' s' turns → Bound place m s (turn ∷ turns)
      goes-on place next m s m' s' turn turns none more-mutations more-searches more bound =
          let e : amounts f m s (turn ∷ turns) ≡ amounts f m' s' turns =
          ap (λ (b : Bool). if b then f m s + amounts f (mutated turn.answer) (searched turn.answer) turns else amounts f (m + mutated turn.answer) (s + searched turn.answer) turns) none
          ∙ sym (ap (λ (x : ℕ). amounts f x s' turns) more-mutations ∙ ap (λ (x : ℕ). amounts f (m + mutated turn.answer) x turns) more-searches) in
          turn-more (count (d.counts end)) (from place) (from next) (paid place m s) (paid next m' s') (amounts f m s (turn ∷ turns)) (amounts f m' s' turns) (takes turn.answer) (all_takes takes turns) e more bound

      pub within : (turns : List Turn) (n : ℕ) (place : Place D d) (m s : ℕ) → n + length turns ≤ turns_limit → Is n place m s → AllAsk Asks turns → AllMove d sizes cache turns place last → Bound place m s turns
      within [] n place m s many is asks same = ends n place m s (omega (arith, many)) is (subst (λ (p : Place D d). Moves d sizes cache last_turn p (Closed end)) same final)
      within (turn ∷ turns) n (Open store) m s many (small, (keeps, (steps, searching))) asks (Open next, (move, (stay, others))) =
          let limit : n ≤ turns_limit = omega (arith, many) in
          let small' = answers-small n turn store next limit small move stay in
          let one = one-at-most turn.answer in
          let a = small.steps_few in
          let b = small.searches_few in
          let last-steps : store.chain.accepted + mutated turn.answer < last_value = omega (arith, a, one.0, limit) in
          let last-searches : store.account.searches + searched turn.answer < last_value = omega (arith, b, one.1, limit) in
          let m' = m + mutated turn.answer in
          let s' = s + searched turn.answer in
          let opened = ap count move.calls.opened_is in
          goes-on (Open store) (Open next) m s m' s' turn turns move.opens_none refl refl (same-from (count next.account.opened) (count store.account.opened) (takes turn.answer) opened)
          (within turns (suc n) (Open next) m' s' (omega (arith, many))
          (small', (goes turn store next move asks.0 keeps, (move.calls.steps_are last-steps ∙ ap (λ (x : ℕ). x + mutated turn.answer) steps, move.calls.searches_are last-searches ∙ ap (λ (x : ℕ). x + searched turn.answer) searching))) asks.1 others)
      within (turn ∷ turns) n (Open store) m s many (small, (keeps, (steps, searching))) asks (Closed now, (move, (stay, others))) =
          let b = closes n turn store now (omega (arith, many)) small keeps move in
          let e : f store.chain.accepted store.account.searches ≡ f m s = same-amount f store.chain.accepted store.account.searches m s steps searching in
          let none-more : m ≡ m + mutated turn.answer = let q = move.quiet.mutated_none in omega (arith, q) in
          let none-searched : s ≡ s + searched turn.answer = let q = move.quiet.searched_none in omega (arith, q) in
          goes-on (Open store) (Closed now) m s m s turn turns move.quiet.opens_none none-more none-searched (paid-from (count (d.counts now)) (count store.account.opened) (f store.chain.accepted store.account.searches) (f m s) (takes turn.answer) b e)
          (within turns (suc n) (Closed now) m s (omega (arith, many)) (stay ∙ small.faults_are) asks.1 others)
      within (turn ∷ turns) n (Open store) m s many is asks (Closing closing, (move, others)) = absurd move
      within (turn ∷ turns) n (Closing before) m s many is asks moves = absurd is
      within (turn ∷ turns) n (Closed before) m s many is asks (Open next, (move, (stay, others))) =
          let none-mutated : mutated turn.answer ≡ 0 = ap mutated move.answer_is in
          let none-searched : searched turn.answer ≡ 0 = ap searched move.answer_is in
          let steps : next.chain.accepted ≡ mutated turn.answer = move.opened.numbers.0 ∙ sym none-mutated in
          let searching : next.account.searches ≡ searched turn.answer = ap (λ (a : Account). a.searches) move.opened.account_is ∙ sym none-searched in
          let opened : count next.account.opened ≡ count (d.counts before) = ap (λ (a : Account). count a.opened) move.opened.account_is ∙ no_other (d.counts before) in
          let bound = within turns (suc n) (Open next) (mutated turn.answer) (searched turn.answer) (omega (arith, many)) (opened-small (suc n) before next move.opened is, (begins before next move.opened, (steps, searching))) asks.1 others in
          let e : amounts f m s (turn ∷ turns) ≡ f m s + amounts f (mutated turn.answer) (searched turn.answer) turns =
          ap (λ (b : Bool). if b then f m s + amounts f (mutated turn.answer) (searched turn.answer) turns else amounts f (m + mutated turn.answer) (s + searched turn.answer) turns) (ap opens move.answer_is) in
          open-more (count (d.counts end)) (count (d.counts before)) (count next.account.opened) (f m s) (amounts f m s (turn ∷ turns)) (amounts f (mutated turn.answer) (searched turn.answer) turns) (takes turn.answer) (all_takes takes turns) e opened bound
      within (turn ∷ turns) n (Closed before) m s many is asks (Closed now, (move, (stay, others))) =
          let b = rest turn before now move in
          let none-more : m ≡ m + mutated turn.answer = let q = move.quiet.mutated_none in omega (arith, q) in
          let none-searched : s ≡ s + searched turn.answer = let q = move.quiet.searched_none in omega (arith, q) in
          goes-on (Closed before) (Closed now) m s m s turn turns move.quiet.opens_none none-more none-searched (rest-from (count (d.counts now)) (count (d.counts before)) (f m s) (takes turn.answer) b)
          (within turns (suc n) (Closed now) m s (omega (arith, many)) (stay ∙ is) asks.1 others)
      within (turn ∷ turns) n (Closed before) m s many is asks (Closing closing, (move, others)) = absurd move

      pub store-within : (first : Stored D) (before : D) (turns : List Turn) → IsStoreOpened d before cache first → (d.counts before).faults ≡ faults → length turns ≤ turns_limit → AllAsk Asks turns → AllMove d sizes cache turns (Open first) last
          → count (d.counts end) ≤ count (d.counts before) + sum_by (λ (store : List Turn). f (mutations store) (searches store)) (by_store turns) + all_takes takes turns
      store-within first before turns opened same many asks moves =
          let account = opened.account_is in
          let bound = within turns 0 (Open first) 0 0 (omega (arith, many)) (opened-small 0 before first opened same, (begins before first opened, (opened.numbers.0, ap (λ (a : Account). a.searches) account))) asks moves in
          let start : count first.account.opened ≡ count (d.counts before) = ap (λ (a : Account). count a.opened) account ∙ no_other (d.counts before) in
          let sum = amounts-sum f turns in
          whole-bound (count (d.counts end)) (count first.account.opened) (count (d.counts before)) (amounts f 0 0 turns) (sum_by (amount f) (by_store turns)) (all_takes takes turns) bound start sum

-- The three amounts

-- a store that is closed wrote as much as it may
write-sum : (now before opened p p' b b' bottom : ℕ) → before ≤ opened + (p + b + 1) → p ≡ p' → b ≡ b' → now ≤ before + (bottom + 3) → now ≤ opened + (p' + b' + (bottom + 1) + 4)
write-sum now before opened p p' b b' bottom few e e' close = omega (arith, few, e, e', close)

-- and read as much
read-sum : (now before opened p p' b b' l l' t t' : ℕ) → before ≤ opened + (p + 4 * b + t + (l + 3)) → p ≡ p' → b ≡ b' → l ≡ l' → t ≡ t' → now ≤ before + 0 → now ≤ opened + (p' + 4 * b' + t' + l' + 4)
read-sum now before opened p p' b b' l l' t t' few e e' e'' e''' close = omega (arith, few, e, e', e'', e''', close)

pub cached-sum : (now before opened b b' bottom : ℕ) → before ≤ opened + (b + 1) → b ≡ b' → now ≤ before + 0 → now ≤ opened + (b' + (bottom + 1) + 4)
cached-sum now before opened b b' bottom few e close = omega (arith, few, e, close)

module _ {D : Type 0} (d : device.Ghosts D) (sizes : Sizes) (cache faults : ℕ) where
  closed-writes : (n : ℕ) (turn : Turn) (store : Stored D) (now : D) → n ≤ turns_limit → IsSmall d sizes cache faults n store → Unit {0} → Closes d sizes cache turn store now → (d.counts now).writes ≤ store.account.opened.writes + most_writes sizes store.chain.accepted
  closed-writes n turn store now many small keeps close =
      let few = close.few.writes (counting d sizes cache faults n store many small) in
      write-sum (d.counts now).writes (spent_of d.counts store).written store.account.opened.writes _ _ _ _ sizes.bottom few
      (ap (λ (x : Sizes). parts (4 * (store.chain.accepted * levels x)) (block_cells x)) close.sizes_are) (ap file_blocks close.sizes_are) close.spends.writes_rise

  closed-reads : (n : ℕ) (turn : Turn) (store : Stored D) (now : D) → n ≤ turns_limit → IsSmall d sizes cache faults n store → HasRead d.counts store → Closes d sizes cache turn store now → (d.counts now).reads ≤ store.account.opened.reads + most_reads sizes store.chain.accepted store.account.searches
  closed-reads n turn store now many small keeps close =
      let few = close.few.reads keeps (counting d sizes cache faults n store many small) in
      read-sum (d.counts now).reads (spent_of d.counts store).turned store.account.opened.reads _ _ _ _ _ _ _ _ few
      (ap (λ (x : Sizes). parts (14 * (store.chain.accepted * levels x)) (block_cells x)) close.sizes_are) (ap file_blocks close.sizes_are) (ap levels close.sizes_are) (ap (λ (x : Sizes). levels x * store.account.searches) close.sizes_are) close.spends.reads_rise

  closed-cached : file_blocks sizes ≤ cache → faults + 1 < 2 ^ 64 → (n : ℕ) (turn : Turn) (store : Stored D) (now : D) → n ≤ turns_limit → IsSmall d sizes cache faults n store → Unit {0} → Closes d sizes cache turn store now → (d.counts now).reads ≤ store.account.opened.reads + cached_reads sizes
  closed-cached room few_faults n turn store now many small keeps close =
      let blocks : file_blocks (sizes_of (geometry_of store)) ≡ file_blocks sizes = ap file_blocks close.sizes_are in
      let cache_is = small.cache_is in
      let a = small.faults_are in
      let b = small.opened_faults in
      let few = close.few.reads_once (room-for _ _ _ _ room blocks cache_is) (a ∙ sym b) (small-faults _ _ a few_faults) in
      cached-sum (d.counts now).reads (spent_of d.counts store).turned store.account.opened.reads _ _ sizes.bottom few blocks close.spends.reads_rise
    where
      room-for : (b b' c c' : ℕ) → b' ≤ c' → b ≡ b' → c ≡ c' → b ≤ c
      room-for b b' c c' room e e' = omega (arith, room, e, e')

      small-faults : (f f' : ℕ) → f ≡ f' → f' + 1 < 2 ^ 64 → f + 1 < 2 ^ 64
      small-faults f f' e h = omega (arith, e, h)

-- nothing is asked of turns, and no reply takes anything
all-turns : (turns : List Turn) → AllAsk (λ turn. Unit {0}) turns
all-turns [] = tt
all-turns (turn ∷ turns) = (tt, all-turns turns)

none-takes : (turns : List Turn) → all_takes (λ r. 0) turns ≡ 0
none-takes [] = refl
none-takes (turn ∷ turns) = let rest = none-takes turns in omega (arith, rest)

-- no rows are asked, and an opening without memory takes a read
no-rows : (turns : List Turn) → AskNoRows turns → AllAsk (λ turn. AsksNoRows turn.request) turns
no-rows [] none = tt
no-rows (turn ∷ turns) (none, rest) = (none, no-rows turns rest)

short-takes : (turns : List Turn) → all_takes short turns ≡ shorts turns
short-takes [] = refl
short-takes (turn ∷ turns) = ap (λ (n : ℕ). short turn.answer + n) (short-takes turns)

-- The bounds

pub few-transfers : {D : Type 0} (d : device.Ghosts D) (sizes : Sizes) (cache : ℕ) (first : Stored D) (before : D) (last : Place D d) (last_turn : Turn) (end : D) (turns : List Turn) → (d.counts before).faults + 1 < 2 ^ 64 → IsStoreOpened d before cache first
    → Moves d sizes cache last_turn last (Closed end) → short last_turn.answer ≡ 0 → length turns ≤ input_limit → AllMove d sizes cache turns (Open first) last → FewTransfers sizes cache turns (d.counts before) (d.counts end)
few-transfers {D} d sizes cache first before last last_turn end turns few_faults opened final free many moves =
    let faults = (d.counts before).faults in
    let limit : length turns ≤ turns_limit = omega (arith, many) in
    let kept : (turn : Turn) (old new : Stored D) → Answers d sizes cache turn old new → Unit {0} → Unit {0} → Unit {0} = λ turn old new a u v. tt in
    record {
      writes =
          let bound = store-within d sizes cache faults (λ c. c.writes) (λ c. refl) (λ m s. most_writes sizes m) (λ r. 0) (λ turn. Unit {0}) (λ store. Unit {0}) kept (λ b store o. tt) (closed-writes d sizes cache faults)
          (λ turn b now r. let w = r.writes_rise in omega (arith, w)) last last_turn end final refl first before turns opened refl limit (all-turns turns) moves in
          let none = none-takes turns in
          omega (arith, bound, none);
      reads = λ asks.
          let bound = store-within d sizes cache faults (λ c. c.reads) (λ c. refl) (λ m s. most_reads sizes m s) short (λ turn. AsksNoRows turn.request) (λ store. HasRead d.counts store) (λ turn old new a. a.reads_kept) (λ b store o. o.reads) (closed-reads d sizes cache faults)
          (λ turn b now r. r.reads_rise) last last_turn end final free first before turns opened refl limit (no-rows turns asks) moves in
          let same = short-takes turns in
          omega (arith, bound, same);
      reads_cached = λ room.
          let bound = store-within d sizes cache faults (λ c. c.reads) (λ c. refl) (λ m s. cached_reads sizes) short (λ turn. Unit {0}) (λ store. Unit {0}) kept (λ b store o. tt) (closed-cached d sizes cache faults room few_faults)
          (λ turn b now r. r.reads_rise) last last_turn end final free first before turns opened refl limit (all-turns turns) moves in
          let same = short-takes turns in
          omega (arith, bound, same);
    }
