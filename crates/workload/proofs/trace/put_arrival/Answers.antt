use Rattle.workload.proofs.Written.{after_five, arrival_written}
use Rattle.workload.proofs.trace.put_arrival.Goals as goal

pub returns : goal.returns
returns c = after_five c.args.text.now.items _ _ _ _ _ _ _ _ _ _ _ c.in_ok-extend_from_slice.ensures.items c.in_ok-put_number.ensures c.in_ok-extend_from_slice-2.ensures.items c.in_ok-put_number-2.ensures c.in_ok-extend_from_slice-3.ensures.items (arrival_written c.args.text.now.items c.args.j)
