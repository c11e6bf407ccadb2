-- The search of a run by the link of the run above, and of a list of runs.
use Rattle.std.specs.Prelude.{◌≡◌, ℕ, zero, suc, ◌+◌, ◌*◌, ◌/◌, cond, List, [], ◌∷◌, length, drop, slice_get, ⊤}
use Rattle.std.specs.declared.cmp.Ordering.{Ordering}
use Rattle.std.specs.Ordering.{is_lt, is_eq}
use Rattle.std.specs.declared.option.Option.{Option}
use Rattle.std.specs.declared.option.Option.TheVariants.{None, Some}
use Rattle.std.specs.Option.{option_or, option_map, option_map_or}
use Rattle.cola_runs.specs.Cells.{Item, Cell, Entry, Look, key_of, link_of, sample, look_keys, IsWellFormed}

-- what the search of a run gives: the index where it stops, the item of the key there, and the link to the next run
pub record Seat (V : Type 0) : Type 0 where
  pub pos : ℕ
  pub hit : Option (Item V)
  pub link : ℕ

module _ {K V : Type 0} where
  -- the link at an index of a run: that of the cell there, and past the end 8 times the number of whole eights in the next run
  abbrev pub link_at : List (Cell K V) → ℕ → ℕ → ℕ
  link_at run next_len i = option_map_or link_of (slice_get run i) (8 * (next_len / 8))

  -- the lookahead cells of a run are the sample of the first of the runs below, where there is one
  abbrev pub SamplesNext : List (Cell K V) → List (List (Cell K V)) → Type 0
  SamplesNext run [] = ⊤
  SamplesNext run (next ∷ runs) = look_keys run ≡ sample next

  -- the length of the first run, and 0 where there is none
  abbrev pub first_len : List (List (Cell K V)) → ℕ
  first_len [] = 0
  first_len (run ∷ runs) = length run

module _ {K V : Type 0} (cmp : K → K → Ordering) (q : K) where
  -- the first index whose key is at least q, or the length where there is none
  abbrev pub place : List (Cell K V) → ℕ
  place [] = 0
  place (c ∷ cells) = cond (is_lt (cmp (key_of c) q)) (suc (place cells)) 0

  -- the same among at most n cells, where there is one
  abbrev pub place_within : ℕ → List (Cell K V) → Option ℕ
  place_within n [] = None
  place_within zero (c ∷ cells) = None
  place_within (suc n) (c ∷ cells) = cond (is_lt (cmp (key_of c) q)) (option_map suc (place_within n cells)) (Some 0)

  -- where a search that begins at this index stops: at the first of at most 8 cells whose key is at least q, else at the length
  abbrev pub stop : ℕ → List (Cell K V) → ℕ
  stop start run = option_map_or (λ i. start + i) (place_within 8 (drop start run)) (length run)

  -- the item of key q in a cell
  abbrev pub hit_of : Option (Cell K V) → Option (Item V)
  hit_of None = None
  hit_of (Some (Entry k i y l)) = cond (is_eq (cmp q k)) (Some i) None
  hit_of (Some (Look k l)) = None

  -- what there is to say of an index of a run
  abbrev pub seat_at : List (Cell K V) → ℕ → ℕ → Seat V
  seat_at run next_len i = record { pos = i; hit = hit_of (slice_get run i); link = link_at run next_len i }

  -- the search of one run
  abbrev pub seek : ℕ → List (Cell K V) → ℕ → Seat V
  seek start run next_len = seat_at run next_len (stop start run)

  -- the search of a list of runs: the item of the first run in which it is found, each run
  -- searched from the link of the one above
  abbrev pub find : ℕ → List (List (Cell K V)) → Option (Item V)
  find start [] = None
  find start (run ∷ runs) = option_or (seek start run (first_len runs)).hit (find (seek start run (first_len runs)).link runs)

module _ {K V : Type 0} (cmp : K → K → Ordering) where
  -- each run is well formed, and its lookahead cells are the sample of the next
  abbrev pub AreSampled : List (List (Cell K V)) → Type 0
  AreSampled [] = ⊤
  AreSampled (run ∷ runs) = IsWellFormed cmp run × SamplesNext run runs × AreSampled runs
