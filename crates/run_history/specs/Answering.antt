-- The data for the answers while a log is read, for each choice of which outputs are answers.
use Rattle.std.specs.Prelude.{◌≡◌, List, ⊤}
use Rattle.std.specs.BTreeMap.{get}
use Rattle.std.specs.Ordering.{nat_cmp}
use Rattle.run_history.specs.declared.answering.Answerer.{Answerer}
use Rattle.run_history.specs.declared.answering.Answerer.TheVariants.{OfThreads, OfPairs, OfSpawned}
use Rattle.run_history.specs.declared.answering.Answering.{Answering}
use Rattle.run_history.specs.declared.answering.Answering.TheVariants.{ByThread, ByPairing, BySpawn}
use Rattle.run_history.specs.declared.happenings.Happening.{Happening}
use Rattle.run_history.specs.declared.pairs.Pairing.TheVariants.{First, Value}
use Rattle.run_history.specs.Followed.{named_by}
use Rattle.run_history.specs.FollowedRuns.{IsFollowed}
use Rattle.run_history.specs.PairedRuns.{ArePairsByOrder, ArePairsByValue}

-- this is the data after these happenings
abbrev pub Keeps : Answering → List Happening → Answerer → Type 0
Keeps ByThread told OfThreads = ⊤
Keeps (ByPairing First) told (OfPairs pairs) = (pairs.pairing ≡ First) × ArePairsByOrder told pairs
Keeps (ByPairing Value) told (OfPairs pairs) = (pairs.pairing ≡ Value) × ArePairsByValue told pairs
Keeps (BySpawn spawned) told (OfSpawned followed) = IsFollowed spawned.now told followed
Keeps _ told _ = ⊥

-- the happening of an entry, with the request for which a segment's thread works, if that is recorded
abbrev pub named_for : Answerer → Happening → Happening
named_for OfThreads told = told
named_for (OfPairs pairs) told = told
named_for (OfSpawned followed) told = named_by (λ one. get nat_cmp followed.started one) told
