-- The names that this crate's proofs cite from other crates and from its definitions, passed on from one place. Declares nothing.
pub use Rattle.std.proofs.Common.{[], ◌++◌, ◌+◌, ◌-◌, ◌<◌, ◌∙◌, ◌∷◌, ◌≡◌, ◌≤◌, Bool, Global, List, None, OnOk, Option, Some, ap, append_assoc, arith, drop, false, get_or, if◌then◌else◌, length, map, max, nat_eq, of_z, option_to_list, refl, rules, subst, suc, sym, take, to_z, to_z-of_z, true, w32, zero, ℕ, ℤ}
pub use Rattle.std.proofs.lemmas.Bool.{eq-eqb, ne_eqb}
pub use Rattle.std.proofs.lemmas.List.{append-nil, flat_map_more, map-append, take_more}
pub use Rattle.std.specs.BTreeMap.{get}
pub use Rattle.std.specs.Ordering.{int_cmp, int_eq, nat_cmp}
pub use Rattle.cap_text.specs.TextLines.{lines_of}
pub use Rattle.report_figures.specs.declared.windows.Window.{Window}
pub use Rattle.schedule_log.specs.declared.entries.Entry.{Entry}
pub use Rattle.schedule_log.specs.declared.entries.Item.TheVariants.{Arrive, Data}
pub use Rattle.run_history.specs.Answering.{Keeps, named_for}
pub use Rattle.run_history.specs.Answers.{answers_at, answers_from, answers_of, with_answer}
pub use Rattle.run_history.specs.Followed.{clocks_by, followed_with, inherits, left_after, left_with, named_by, passed_on, segments_with, started_with, works_for}
pub use Rattle.run_history.specs.FollowedRuns.{IsFollowed, followed_answers, left_after_all, none_started, segments_after, started_after}
pub use Rattle.run_history.specs.Happenings.{answered_at, arrivals_from, clocks_in, drops_request, happenings, happenings_from, most_held, requests_dropped}
pub use Rattle.run_history.specs.Numbers.{IsNumbersOf, IsOneMore, KeepsOthers, is_event, take_of, taken, takers, takes, wait_lengths}
pub use Rattle.run_history.specs.Outputs.{answered_once, count_waiting, end_of, output_at, output_of}
pub use Rattle.run_history.specs.PairedRuns.{ArePairsByOrder, ArePairsByValue, came_after, first_after, first_answers, none_waits, put_after, value_after, value_answers, waiting_after}
pub use Rattle.run_history.specs.Pairs.{answers_with, came_with, clocks_for, clocks_of, first_with, puts_with, value_with, waiting_in, waiting_item, waiting_of, waiting_with}
pub use Rattle.run_history.specs.Waits.{is_told, longest_kept, ticks_kept, told_of, with_ticks}
pub use Rattle.run_history.specs.declared.answering.Answerer.TheVariants.{OfPairs, OfSpawned, OfThreads}
pub use Rattle.run_history.specs.declared.answering.Answering.{Answering}
pub use Rattle.run_history.specs.declared.answering.Answering.TheVariants.{ByPairing, BySpawn, ByThread}
pub use Rattle.run_history.specs.declared.answers.Answers.{Answers}
pub use Rattle.run_history.specs.declared.followed.Followed.{Followed}
pub use Rattle.run_history.specs.declared.followed.Spawned.{Spawned}
pub use Rattle.run_history.specs.declared.happenings.Happening.{Happening}
pub use Rattle.run_history.specs.declared.happenings.Happening.TheVariants.{Came, Lost, Nothing, Put, Ran, Started, Waited}
pub use Rattle.run_history.specs.declared.numbers.Numbers.{Numbers}
pub use Rattle.run_history.specs.declared.pairs.Pairing.TheVariants.{First, Value}
pub use Rattle.run_history.specs.declared.pairs.Pairs.{Pairs}
