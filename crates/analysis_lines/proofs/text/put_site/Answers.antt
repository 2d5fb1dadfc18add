use Rattle.analysis_lines.proofs.Written.{site_written}
use Rattle.analysis_lines.proofs.text.put_site.Goals as goal

pub returns : goal.returns
returns c =
    site_written _ _ _ _ _ _ _ _ _ _ _ _ c.from.ensures c.in_ok-extend_from_slice.ensures.items c.in_ok-put_number.ensures c.in_ok-push.ensures.items c.in_ok-extend_from_slice-2.ensures.items c.in_ok-push-2.ensures.items c.in_ok-extend_from_slice-3.ensures.items c.in_ok-push-3.ensures.items
