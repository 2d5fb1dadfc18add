use Rattle.workload.proofs.Written.{after_three, main_written}
use Rattle.workload.proofs.program.put_main.Goals as goal

pub returns : goal.returns
returns c = after_three c.args.text.now.items _ _ _ _ _ _ _ c.in_ok-extend_from_slice.ensures.items c.in_ok-put_number.ensures c.in_ok-extend_from_slice-2.ensures.items (main_written c.args.text.now.items c.args.n)
