use Rattle.accepted_pairs.proofs.Common.{program_code}
use Rattle.accepted_pairs.proofs.CodeListLemmas.{before_one_more}
use Rattle.accepted_pairs.proofs.code_lists.words_before_all.Goals as goal

pub loop-f-preserved : goal.loop-f-preserved
loop-f-preserved c =
    before_one_more (program_code c.args.flat.now) c.args.certificate.now c.loop-f.f c.loop-f.lists.items c.push.new.self.items c.in_ok-before.before
    c.loop-f.invariant c.in_ok-push.ensures.items c.in_ok-before.ensures
