use Rattle.analysis_lines.proofs.Written.{function_written}
use Rattle.analysis_lines.proofs.text.put_function.Goals as goal

pub returns : goal.returns
returns c =
    function_written _ _ _ _ _ _ _ _ _ _ _ _ _ _ _ _ c.from.ensures c.from-2.ensures c.in_ok-extend_from_slice.ensures.items c.in_ok-put_number.ensures c.in_ok-push.ensures.items c.in_ok-extend_from_slice-2.ensures.items c.in_ok-extend_from_slice-3.ensures.items c.in_ok-put_number-2.ensures
    c.in_ok-extend_from_slice-4.ensures.items c.in_ok-put_number-3.ensures c.in_ok-push-2.ensures.items
