use Rattle.scheduler.specs.LawfulChoice.{is_eligible}
use Rattle.stride_rule.proofs.Common.{◌≡◌, drop, true, None, found_among}
use Rattle.stride_rule.proofs.searching.search.Given as goal

-- what is found so far, with the places that are left, is what is found
abbrev pub invariant-loop-place : goal.invariant-loop-place
invariant-loop-place g l =
    found_among (is_eligible (g.R.Ready.is_ready l.ready) (g.R.Ready.at_accept l.ready) (g.R.Ready.any_elsewhere l.ready) l.gate_open) l.running l.found (drop l.place-index l.places)
    ≡ found_among (is_eligible (g.R.Ready.is_ready l.ready) (g.R.Ready.at_accept l.ready) (g.R.Ready.any_elsewhere l.ready) l.gate_open) l.running (record { best = None; all = true }) l.places
