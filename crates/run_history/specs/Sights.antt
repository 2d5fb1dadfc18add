-- What an observer sees while a log is read.
use Rattle.std.specs.Prelude.{Bool, List, [], ◌∷◌, ◌++◌}
use Rattle.schedule_log.specs.declared.entries.Entry.{Entry}
use Rattle.run_history.specs.declared.answering.Answering.{Answering}
use Rattle.run_history.specs.declared.answering.Answering.TheVariants.{ByThread, ByPairing, BySpawn}
use Rattle.run_history.specs.declared.happenings.Happening.{Happening}
use Rattle.run_history.specs.Followed.{named_by}
use Rattle.run_history.specs.FollowedRuns.{none_started, started_after}
use Rattle.run_history.specs.Happenings.{happenings}
use Rattle.run_history.specs.Known.{happening, known_after}

-- an entry, its happening, and its happening with the request for which its segment's thread works as the one that it
-- serves, if that is known
pub record Sight : Type 0 where
  pub entry : Entry
  pub told : Happening
  pub named : Happening

-- the next happening, with the request for which a segment's thread works: it differs from the one that the thread took
-- only with a list of the threads that segments started
abbrev pub named_in : Answering → List Happening → Happening → Happening
named_in ByThread before told = told
named_in (ByPairing pairing) before told = told
named_in (BySpawn spawned) before told = named_by (started_after 0 spawned.now none_started before) told

-- the sight of an entry after earlier entries
abbrev pub sight_of : Answering → List Bool → List Entry → Entry → Sight
sight_of answering accepts before entry = record {
  entry = entry;
  told = happening accepts entry (known_after accepts before);
  named = named_in answering (happenings accepts before) (happening accepts entry (known_after accepts before));
}

-- the sights of entries, each after those before it
abbrev pub sights_from : Answering → List Bool → List Entry → List Entry → List Sight
sights_from answering accepts before [] = []
sights_from answering accepts before (entry ∷ entries) = sight_of answering accepts before entry ∷ sights_from answering accepts (before ++ entry ∷ []) entries

-- the sights of a whole log: each entry once, in order
abbrev pub sights : Answering → List Bool → List Entry → List Sight
sights answering accepts entries = sights_from answering accepts [] entries
