use Rattle.std.proofs.lemmas.Result.{on_ok_weaker}
use Rattle.call_cycles.proofs.Common.{◌≡◌, program_code}
use Rattle.call_cycles.proofs.MarkLemmas.{seen-kept}
use Rattle.call_cycles.proofs.reaching.mark_called.Goals as goal

pub returns-in-Call-clause-seen : goal.returns-in-Call-clause-seen
returns-in-Call-clause-seen c =
    on_ok_weaker c.mark.result
    (λ new. seen-kept (λ g. g ≡ c.in-Call.f) (program_code c.args.flat.now) c.args.marks.now c.args.left.now.items c.mark.new.marks c.mark.new.left.items c.args.seen.now new c.requires.seen) c.mark.ensures
