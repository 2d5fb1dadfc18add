use Rattle.decoded_code.proofs.Common.{◌≡◌, ◌%◌, ◌^◌, AreEachReady, place_at}
use Rattle.decoded_code.proofs.lists.ready_all.Given as goal

abbrev pub invariant-loop-word : goal.invariant-loop-word
invariant-loop-word l = AreEachReady l.words l.word-index l.ready.items × (l.place ≡ place_at l.word-index % 2 ^ 32)
