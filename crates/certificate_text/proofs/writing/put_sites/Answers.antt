use Rattle.certificate_text.proofs.Common.{◌∙◌, site_line, HoldsSiteWords, All-more}
use Rattle.certificate_text.proofs.Written.{lines_more}
use Rattle.certificate_text.proofs.writing.put_sites.Goals as goal

pub loop-fact-preserved : goal.loop-fact-preserved
loop-fact-preserved c = (
  c.in_ok-put_site.ensures.line ∙ lines_more site_line _ _ _ _ _ c.loop-fact-test.true c.loop-fact.invariant.0,
  All-more HoldsSiteWords _ _ _ c.loop-fact-test.true c.loop-fact.invariant.1 c.in_ok-put_site.ensures.words,
)
