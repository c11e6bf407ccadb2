use Rattle.std.proofs.Common.{◌≡◌, ◌≤◌, ◌↔◌, length, sym, ap, ◌∙◌, arith}
use Rattle.std.specs.List.{AllByRecursion}
use Rattle.cola_laws.specs.Chain.{visibles}
use Rattle.cola_runs.proofs.Deciding.{false_is}
use Rattle.cola_plain_files.specs.Levels.{as_runs}
use Rattle.cola_plain_files.specs.File.{file_of}
use Rattle.cola_verdict.specs.Tests.{live_pairs, levels_in, AreStamped}
use Rattle.cola_plain_files.proofs.File.{clock_small, file_says}
use Rattle.cola_plain_files.proofs.Flaws.{sound_of, count_broken, stamp_broken, stamped_same}
use Rattle.cola_plain_files.proofs.verdict.flaws.verdict_of_keys.Goals as goal

pub runs_from-requires-clause-levels_in_range : goal.runs_from-requires-clause-levels_in_range
runs_from-requires-clause-levels_in_range c = omega (arith, c.requires, c.args.header.now.geometry.shallow)

pub runs_from-requires-clause-clock_in_range : goal.runs_from-requires-clause-clock_in_range
runs_from-requires-clause-clock_in_range c = clock_small c.args.header.now

pub returns-then-count-header : goal.returns-then-count-header
returns-then-count-header c = λ bytes same p.
    let file = file_of c.args.header.now bytes in
    let says = file_says c.args.header.now bytes in
    let live : c.in_ok-pairs.pairs.items ≡ live_pairs (visibles (levels_in file)) =
    c.in_ok-pairs.ensures ∙ ap (λ runs. live_pairs (as_runs runs)) c.as_slice.ensures.value ∙ ap live_pairs c.in_ok-runs.ensures ∙ ap (λ levels. live_pairs (visibles levels)) same in
    let many : c.len-count.result ≡ length (live_pairs (visibles (levels_in file))) = omega (arith, c.len-count.ensures, c.in_ok-pairs.pairs.ok.0, ap length live) in
    count_broken file p (λ counted. c.if-count-header.true (many ∙ sym counted ∙ says.count))

pub returns-then-not-are_stamped : goal.returns-then-not-are_stamped
returns-then-not-are_stamped c = λ bytes same p.
    let file = file_of c.args.header.now bytes in
    let says = file_says c.args.header.now bytes in
    let live : c.in_ok-pairs.pairs.items ≡ live_pairs (visibles (levels_in file)) =
    c.in_ok-pairs.ensures ∙ ap (λ runs. live_pairs (as_runs runs)) c.as_slice.ensures.value ∙ ap live_pairs c.in_ok-runs.ensures ∙ ap (λ levels. live_pairs (visibles levels)) same in
    let many : c.len-count.result ≡ length (live_pairs (visibles (levels_in file))) = omega (arith, c.len-count.ensures, c.in_ok-pairs.pairs.ok.0, ap length live) in
    let stamped : AllByRecursion (λ pair. pair.1.stamp ≤ c.args.header.now.last) c.as_slice-2.result.now ↔ AreStamped file =
    stamped_same c.args.header.now.last file.last c.as_slice-2.result.now _ (sym says.last) (c.as_slice-2.ensures.value ∙ live) in
    stamp_broken file p (says.count ∙ sym c.if-count-header.false ∙ many) (λ s. false_is c.are_stamped.result c.if-not-are_stamped.true (c.are_stamped.ensures.1 (stamped.1 s)))

pub returns : goal.returns
returns c = λ bytes same p.
    let file = file_of c.args.header.now bytes in
    let says = file_says c.args.header.now bytes in
    let live : c.in_ok-pairs.pairs.items ≡ live_pairs (visibles (levels_in file)) =
    c.in_ok-pairs.ensures ∙ ap (λ runs. live_pairs (as_runs runs)) c.as_slice.ensures.value ∙ ap live_pairs c.in_ok-runs.ensures ∙ ap (λ levels. live_pairs (visibles levels)) same in
    let many : c.len-count.result ≡ length (live_pairs (visibles (levels_in file))) = omega (arith, c.len-count.ensures, c.in_ok-pairs.pairs.ok.0, ap length live) in
    let stamped : AllByRecursion (λ pair. pair.1.stamp ≤ c.args.header.now.last) c.as_slice-2.result.now ↔ AreStamped file =
    stamped_same c.args.header.now.last file.last c.as_slice-2.result.now _ (sym says.last) (c.as_slice-2.ensures.value ∙ live) in
    sound_of file p c.len-count.result (says.count ∙ sym c.if-count-header.false ∙ many) (stamped.0 (c.are_stamped.ensures.0 c.if-not-are_stamped.false)) many
