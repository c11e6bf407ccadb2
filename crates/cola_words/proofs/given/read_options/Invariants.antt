use Rattle.std.proofs.Common.{◌≡◌, ◌+◌, ◌*◌, ◌≤◌, map, length, string_bytes}
use Rattle.std.specs.Option.{option_and_then}
use Rattle.cola_words.specs.Options.{options_of, with_all, options_in}
use Rattle.cola_words.specs.Counts.{given_count}
use Rattle.cola_words.proofs.given.read_options.Given as goal

abbrev pub invariant-options : goal.invariant-options
invariant-options l = record {
  so_far : option_and_then (with_all l.options) (options_of l.place (map string_bytes l.rest)) ≡ options_in l.fn.first (map string_bytes l.fn.words);
  near : l.place ≤ l.fn.first + 2 * given_count l.options;
}

abbrev pub decreases-options : goal.decreases-options
decreases-options l = length l.rest
