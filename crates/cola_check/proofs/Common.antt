-- What the proofs of this crate name of its definitions and of the crates below it.
pub use Rattle.cola_cell.proofs.CellLists.{length-cells, get-cells, cells-more}
pub use Rattle.cola_cell.proofs.CostsLemmas.{costs_then, costs_within, costs_none, costs_read_then}
pub use Rattle.cola_cell.proofs.RunLemmas.{given_is_told, told_is_good, run_tells}
pub use Rattle.cola_cell.specs.Cell.{key_of}
pub use Rattle.cola_cell.specs.Costs.{Costs}
pub use Rattle.cola_cell.specs.Held.{Held, Bad, IsTelling, is_untold, span, LawCell, Stamped, Spot, Told, Tells, as_cell, Spots, Untold, HasPlace, as_item, Fixed}
pub use Rattle.cola_cell.specs.Order.{key_cmp}
pub use Rattle.cola_cell.specs.Places.{number_of, slot_size, Block, block_of}
pub use Rattle.cola_cell.specs.Reads.{Reads}
pub use Rattle.cola_cell.specs.Spent.{Spent, Buffer, IsGiven, By, ReadCalm, ReadAnswers, IsBad}
pub use Rattle.cola_cell.specs.State.{State}
pub use Rattle.cola_cell.specs.ToldCells.{IsTold, run_cells, cell_at, cells, AreTold}
pub use Rattle.cola_cell.specs.declared.cell.Cell.{Cell}
pub use Rattle.cola_cell.specs.declared.cell.Item.TheVariants.{Value, Tombstone}
pub use Rattle.cola_cell.specs.declared.cell.Reader.{Reader}
pub use Rattle.cola_cell.specs.declared.cell.Reader.TheVariants.{Own, Incoming}
pub use Rattle.cola_cell.specs.declared.cell.Run.{Run}
pub use Rattle.cola_cell.specs.declared.fault.ReadFault.{ReadFault}
pub use Rattle.cola_cell.specs.declared.fault.ReadFault.TheVariants.{Device, BadCell}
pub use Rattle.cola_check.specs.BadCells.{level_cells, cells_above, FindsAt, AreRunsTold, FindsCell, all_cells, FindsOne, FindsIn, IsFirstAt}
pub use Rattle.cola_check.specs.Beside.{IsInOrder, AreInOrder, StepsBeside, ReadApart, three_blocks, BeginBeside, walks_of, BesideReadsOn, BesideBegan, beside_blocks}
pub use Rattle.cola_check.specs.Blocks.{all_blocks, run_blocks, run_blocks_or, level_blocks, blocks_above, blocks_below, shadow_blocks, GoesOn, blocks_from, sample_from, SampleReadsOn, TurnsTo}
pub use Rattle.cola_check.specs.Carrying.{IsCarried, FitsAt, AreCarried}
pub use Rattle.cola_check.specs.Chains.{LevelCells, visible_runs, shadow_runs, AreLiveCounts, AreStamped}
pub use Rattle.cola_check.specs.Check.{test_blocks, IsReadBy, Checks, test_ticks, IsLevelOf, IsSure, Judges, TestsAnswer, ReadsCells, TestsMade, test_reads, runs_cells, HasVerdict}
pub use Rattle.cola_check.specs.Cut.{CutFits, CutsAfter, runs_of_aim, aim_blocks, AtLevel, IsAway, IsSpread, runs_of_feed, Followed, Compared, resumed, FollowsBlocks, ComparesBlocks, merge_blocks, feed_blocks}
pub use Rattle.cola_check.specs.Firsts.{IsBelow, AreFewAt, OrderEndsAt, IsAtFirst, FindsFirst, AreTestsAt, AreFirstFlaws, IsFirstFlaw, ArePlaced}
pub use Rattle.cola_check.specs.Found.{tested_by, numbers_at, visible_of, shadow_of, run_in}
pub use Rattle.cola_check.specs.Leasts.{AreLeasts, AreFirstLeasts, AreAwayFrom, FirstStay, IsAwayFrom, Stays, IsHushed}
pub use Rattle.cola_check.specs.LevelWalks.{StandsAt, StandFrom, blocks_at, blocks_of, Each, HasLevel, shadow_or_none, shadow_run, with_shadow, runs_of, cells_in, AreRunsInOrder, cells_of, walks_in, runs_in, LevelFits}
pub use Rattle.cola_check.specs.LevelWalks.{IsLevelReady, all_ahead, BeginsLevel, Hears, PassesLevel, all_unread, ReadFrom, all_left, level_unread, unread_level_begun, ReadsAt, level_left, LevelReadsOn, AllReadOn, LevelBegan}
pub use Rattle.cola_check.specs.Living.{counted_from, finished_shadow, counted_level, count_at, AreFew, AreAllFew, IsFirstCrowded, JudgesWhole, JudgesCounts}
pub use Rattle.cola_check.specs.Others.{by_others}
pub use Rattle.cola_check.specs.Prefix.{AreBothTold, OrderIs, IsFew, lists_below, sample_len, Suits, IsLast, sample_reads, IsSeen, ComesNext, BeginsSample}
pub use Rattle.cola_check.specs.Reading.{HasBadRun, HasBadIn, IsRunTold, PassCause, ReadsRuns}
pub use Rattle.cola_check.specs.Shadows.{next_of, IsNext, IsReached, upper_aim, lowest_aim, IsAimAt, cursors_of, CutAt, FitAt, FinishedAt}
pub use Rattle.cola_check.specs.Tally.{said_or, visible_said, shadow_said, no_count, counted, said_of, IsWithin, live_one, HasRoom, added}
pub use Rattle.cola_check.specs.Testing.{Tests, HasLevels, TestCause, FindsFlaw, FindsVerdict, run_ticks, shadow_ticks, live_ticks, visible_ticks}
pub use Rattle.cola_check.specs.Walks.{as_seen, rest, least_from, Passes, has_key, passed_seen, WalkFits, IsReady, ahead, Turns, found_of, found_or, unread, Fetches, unbegun, ReadsOn, lesser, HeadFits, HeadIsRead, heads_of}
pub use Rattle.cola_check.specs.Walks.{walk_blocks}
pub use Rattle.cola_check.specs.declared.carried.Beside.{Beside}
pub use Rattle.cola_check.specs.declared.cut.Cursors.{Cursors}
pub use Rattle.cola_check.specs.declared.fault.CheckFault.{CheckFault}
pub use Rattle.cola_check.specs.declared.level_walks.LevelRuns.{LevelRuns}
pub use Rattle.cola_check.specs.declared.level_walks.LevelWalks.{LevelWalks}
pub use Rattle.cola_check.specs.declared.tally.LiveCount.{LiveCount}
pub use Rattle.cola_check.specs.declared.tally.Said.{Said}
pub use Rattle.cola_check.specs.declared.tally.Said.TheVariants.{Nothing, Gone, Live}
pub use Rattle.cola_check.specs.declared.visible.Few.{Few}
pub use Rattle.cola_check.specs.declared.visible.RunTests.{RunTests}
pub use Rattle.cola_check.specs.declared.walk.Found.{Found}
pub use Rattle.cola_check.specs.declared.walk.Walk.{Walk}
pub use Rattle.cola_clock.proofs.Laws.{is_over-suc, works-not_over, over-not_works}
pub use Rattle.cola_clock.proofs.MarkLaws.{marks-each}
pub use Rattle.cola_clock.specs.Clock.{period, works, window_step}
unfoldable pub use Rattle.cola_clock.specs.Clock.{visible_slot, is_odd, is_over}
pub use Rattle.cola_laws.specs.Chain.{visibles, next_runs, first_keys, upper_part, shadows}
pub use Rattle.cola_layout.proofs.Levels.{number-at, numbers-length, end-nothing, fits-here}
pub use Rattle.cola_layout.proofs.Places.{place-from, place-below}
pub use Rattle.cola_layout.proofs.Powers.{next_power, power-le, exponent-le}
pub use Rattle.cola_layout.specs.Fields.{fields_of}
pub use Rattle.cola_layout.specs.Marks.{marks_of, no_marks, all_numbers, numbers_of}
pub use Rattle.cola_layout.specs.declared.geometry.Geometry.{Geometry}
pub use Rattle.cola_layout.specs.declared.header.Header.{Header}
pub use Rattle.cola_layout.specs.declared.marks.Marks.{Marks}
pub use Rattle.cola_look.proofs.Looking.{Looked, looks_then, looks_as, looked_none, looks_read}
pub use Rattle.cola_look.specs.Runs.{HasRun}
pub use Rattle.cola_merge.proofs.Groups.{div-mono, sampled_block, read_left, run_left-next}
pub use Rattle.cola_merge.proofs.Reading.{err_is}
pub use Rattle.cola_merge.specs.Advance.{cells_read, whole_run}
pub use Rattle.cola_merge.specs.Feeds.{feed_len, feed_of, part_of, IsSource, IsFeedTold, IsFeed, feed_keys, IsBadAt}
pub use Rattle.cola_merge.specs.Heads.{HasHeads, consumed, head_of, fetched, fresh}
pub use Rattle.cola_merge.specs.Pulls.{Pulls, Gives, HasPullCause, given_cells}
pub use Rattle.cola_merge.specs.States.{state, Spends, IsOther, IsBeside}
pub use Rattle.cola_merge.specs.declared.aims.Aim.{Aim}
pub use Rattle.cola_merge.specs.declared.aims.Feed.{Feed}
pub use Rattle.cola_merge.specs.declared.merging.Merger.{Merger}
pub use Rattle.cola_outside.specs.Faults.{Rose}
pub use Rattle.cola_pairs.proofs.Order.{by_bool, all_change, equal, by_ordering, is_less, not_below_then, tied_alike}
pub use Rattle.cola_pairs.specs.Walk.{AtHead, pass_key, pass_keys, HeadsPast}
pub use Rattle.cola_runs.proofs.Order.{all_append, place_total}
pub use Rattle.cola_runs.specs.Cells.{IsRising, IsWellFormed, sample, Entry, Look, count_looks, place_cmp, link_of, look_keys, IsLinked, IsOldValue}
pub use Rattle.cola_runs.specs.Seen.{seen, Seen, holds, answer, flagged}
pub use Rattle.cola_verdict.proofs.Prefixes.{no-order}
pub use Rattle.cola_verdict.specs.Tests.{Tested, IsLowestBad, run_len, live_pairs, FileLevel, level_at, below_at, AreCellsTold, HasSample, ShadowAt, OrderAt, EachLevel, levels_in, tested_of, IsOfRun, HasFewItems, shadow_cell}
pub use Rattle.cola_verdict.specs.Tests.{LiveAt, IsFirst, EndsOrder, HasFew, SampleAt, LengthAt}
pub use Rattle.cola_verdict.specs.Verdict.{IsVerdict}
pub use Rattle.cola_verdict.specs.declared.verdict.Flaw.{Flaw}
pub use Rattle.cola_verdict.specs.declared.verdict.Flaw.TheVariants.{Order, Sample, Length, Shadow, Count, Stamp}
pub use Rattle.cola_verdict.specs.declared.verdict.Verdict.{Verdict}
pub use Rattle.cola_verdict.specs.declared.verdict.Verdict.TheVariants.{Broken, Sound}
pub use Rattle.std.proofs.Math.Path.{transport}
pub use Rattle.std.proofs.Math.Seq.{take-length, take-append_seam}
pub use Rattle.std.proofs.lemmas.Bool.{cases_lt, cases_order, eqb-false}
pub use Rattle.std.proofs.lemmas.List.{drop_all, get_or_default, take-append-le, take-set, drop-set, length-map, length-replicate, append_cancel_left, take_more, drop_more}
pub use Rattle.std.proofs.lemmas.Nat.{one_shl, le-div}
pub use Rattle.std.proofs.lemmas.Option.{IfSome_then, same_Some, slice_get_past}
pub use Rattle.std.proofs.lemmas.Result.{on_ok_weaker, IfOk-weaker, IfErr-weaker}
pub use Rattle.std.specs.Cmp.{IsTotalOrder, tied_itself}
pub use Rattle.std.specs.List.{AllByRecursion, refill}
unfoldable pub use Rattle.std.specs.List.Sorted.{IsStrictlySortedBy}
pub use Rattle.std.specs.Option.{option_or}
