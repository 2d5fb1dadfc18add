use Rattle.thread_core.proofs.Common.{sym, subst, ◌∙◌, IsPool, Areas, AreWords, AreWellFormed, checked_of, start_areas}
use Rattle.thread_core.proofs.MakingLaws.{areas_start, areas_are, pool_is}
use Rattle.thread_core.proofs.making.take_parts.Goals as goal

pub returns : goal.returns
returns c =
    let first : Areas = start_areas c.args.accepted.now c.args.policy in
    let is = c.in_ok-areas.ensures ∙ areas_are c.args.accepted.now c.args.policy c.image.result.now c.certificate.result.now c.in_ok-pool.pool c.image.ensures.value c.certificate.ensures c.in_ok-pool.ensures.start in
    let pool : IsPool first.pool = subst IsPool (pool_is c.args.accepted.now c.args.policy c.certificate.result.now c.in_ok-pool.pool c.certificate.ensures c.in_ok-pool.ensures.start) c.in_ok-pool.ensures.sound in
    let words : AreWords first.globals = subst (λ (a : Areas). AreWords a.globals) (c.areas.view_is ∙ is) c.areas.invariant.global_words in
    record {
      areas = is;
      formed = subst (AreWellFormed (checked_of c.args.accepted.now)) (sym is) (areas_start c.args.accepted.now c.args.policy c.image.ensures.valid pool words c.sizes_law.ensures.aligned);
      exchange = c.in_ok-exchange.ensures;
      waits = c.in_ok-waits.ensures;
      records = c.in_ok-records.ensures.empty;
      first_key = c.in_ok-records.ensures.first_key;
      room = c.in_ok-records.ensures.capacity;
    }
