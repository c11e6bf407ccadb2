-- A checkpoint of one byte, step by step.
use Rattle.std.proofs.Common.{◌≡◌, ℕ, zero, suc, List, [], ◌∷◌, Option, None, refl}
use Rattle.std.specs.Prelude.{◌==◌}
use Rattle.cola_journal.specs.declared.stage.Stage.TheVariants.{Rest, Stuck}
use Rattle.cola_journal.specs.Disk.{Contents, Pages}
use Rattle.cola_journal.specs.Runs.{World, Event, Carried, Refused, Begins, behind, begin_with}

-- in each place its number
abbrev numbers : Contents
numbers place = place

abbrev nine_in_3 : Pages
nine_in_3 = record { has = λ place. place == 3; byte = λ place. 9 }

abbrev nothing_reads : List ℕ → Option Pages
nothing_reads bytes = None

abbrev steps : ℕ → List Event
steps zero = []
steps (suc n) = Carried ∷ steps n

-- so many steps of it are carried out
abbrev so_far : ℕ → World
so_far n = behind nothing_reads (begin_with numbers) (Begins nine_in_3 (7 ∷ []) ∷ steps n)

it_does_not_hold_once_its_journal_is_written : (so_far 1).held 3 ≡ 3
it_does_not_hold_once_its_journal_is_written = refl

it_holds_once_its_journal_is_synced : (so_far 2).held 3 ≡ 9
it_holds_once_its_journal_is_synced = refl

then_the_file_is_as_it_was : (so_far 2).disk.file 3 ≡ 3
then_the_file_is_as_it_was = refl

then_it_says_that_it_is_in_use : (so_far 4).disk.file 14 ≡ 1
then_it_says_that_it_is_in_use = refl

it_comes_to_rest : (so_far 10).stage ≡ Rest
it_comes_to_rest = refl

the_file_has_it : (so_far 10).disk.file 3 ≡ 9
the_file_has_it = refl

the_journal_is_empty : (so_far 10).disk.journal ≡ []
the_journal_is_empty = refl

a_refused_step_on_the_file_leaves_it_stuck : (behind nothing_reads (so_far 2) (Refused numbers ∷ steps 5)).stage ≡ Stuck
a_refused_step_on_the_file_leaves_it_stuck = refl
