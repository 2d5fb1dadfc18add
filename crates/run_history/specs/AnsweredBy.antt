-- The answers to a request in the happenings of a log, for each choice of which outputs are answers.
use Rattle.std.specs.Prelude.{ℕ, List, [], Option, None}
use Rattle.run_history.specs.declared.answering.Answering.{Answering}
use Rattle.run_history.specs.declared.answering.Answering.TheVariants.{ByThread, ByPairing, BySpawn}
use Rattle.run_history.specs.declared.answers.Answers.{Answers}
use Rattle.run_history.specs.declared.happenings.Happening.{Happening}
use Rattle.run_history.specs.declared.pairs.Pairing.TheVariants.{First, Value}
use Rattle.run_history.specs.Answers.{answers_from}
use Rattle.run_history.specs.FollowedRuns.{followed_answers, none_started}
use Rattle.run_history.specs.Happenings.{answered_at}
use Rattle.run_history.specs.PairedRuns.{first_answers, none_waits, value_answers}

abbrev pub answers_by : Answering → List Happening → ℕ → Option Answers
answers_by ByThread told request = answers_from None (answered_at request told)
answers_by (ByPairing First) told request = first_answers request 0 [] None told
answers_by (ByPairing Value) told request = value_answers request 0 none_waits [] None told
answers_by (BySpawn spawned) told request = followed_answers request 0 spawned.now none_started None told
