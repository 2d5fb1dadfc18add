use Rattle.segment_run.proofs.Common.{◌≡◌, ◌-◌, ◌≤◌, refl, sym, ap, subst, ◌∙◌, set, arith, Goes, IsHeld, after_give, chunk_at, Areas, HeadersName, TpIsFront, unlinked, Owns, chunk_below, areas_of, thread_of, words_of-payload}
use Rattle.segment_run.proofs.Linking.{HasFront, front_of, unlink_goes, next_found, innermost_held}
use Rattle.segment_run.proofs.links.unlink.Goals as goal
use Rattle.segment_run.proofs.links.unlink.Goals.{After-areas}

-- the chunk that is given back is held
held : (c : After-areas) → IsHeld (areas_of c.areas.inside).pool c.args.thread.now.chunk
held c =
    let thread = c.args.thread.now in
    innermost_held (areas_of c.areas.inside) thread (subst (λ (a : Areas). Owns (thread_of a thread)) (sym c.areas.view_is) c.requires.owns)
    (subst (λ (a : Areas). TpIsFront a.pool (thread_of a thread).core (thread_of a thread).core.chain) (sym c.areas.view_is) c.requires.front)

pub read-tp-requires-clause-id_in_range : goal.read-tp-requires-clause-id_in_range
read-tp-requires-clause-id_in_range c = (held (goal.at.read-tp-requires-clause-id_in_range c).After-areas).0

pub read-sp-requires-clause-id_in_range : goal.read-sp-requires-clause-id_in_range
read-sp-requires-clause-id_in_range c = (held (goal.at.read-sp-requires-clause-id_in_range c).After-areas).0

pub give-requires : goal.give-requires
give-requires c = held (goal.at.give-requires c).After-areas

pub returns : goal.returns
returns c =
    let old = areas_of c.areas.inside in
    let thread = c.args.thread.now in
    let p = old.pool in
    let owns = subst (λ (a : Areas). Owns (thread_of a thread)) (sym c.areas.view_is) c.requires.owns in
    let front : HasFront p thread = front_of old thread thread.depth refl (subst (λ (a : Areas). TpIsFront a.pool (thread_of a thread).core (thread_of a thread).core.chain) (sym c.areas.view_is) c.requires.front) in
    let names = subst (λ (a : Areas). HeadersName a.pool (thread_of a thread).core.chain) (sym c.areas.view_is) c.requires.headers in
    let pools : c.give.new.self ≡ after_give p thread.chunk = c.give.ensures.after in
    let next : 1 ≤ front.below → c.chunk_or-thread.result ≡ chunk_below p thread.chunk = λ more.
    c.chunk_or-thread.ensures (chunk_below p thread.chunk)
    ((λ i. chunk_at (pools i) (c.read-tp.ensures.value i)) ∙ next_found old thread c.areas.invariant.pool owns front names more) in
    ap (λ (a : Areas). unlinked (thread_of a thread)) (sym c.areas.view_is)
    ∙ unlink_goes old thread c.chunk_or-thread.result c.areas.invariant.pool owns front next
    ∙ (λ i. Goes (thread_of (record old { pool = sym pools i }) (record {
      regs = record { pc = sym c.add-thread.ensures i; x = set (set thread.regs.x 4 (sym c.read-tp.ensures.value i)) 2 (sym c.read-sp.ensures.value i) };
      chunk = c.chunk_or-thread.result;
      depth = thread.depth - 1;
    })))

pub read-tp-requires-clause-word_in_range : goal.read-tp-requires-clause-word_in_range
read-tp-requires-clause-word_in_range c =
    let is = held (goal.at.read-tp-requires-clause-word_in_range c).After-areas in
    omega (arith, words_of-payload (areas_of c.areas.inside).pool c.args.thread.now.chunk c.areas.invariant.pool is.0)

pub read-sp-requires-clause-word_in_range : goal.read-sp-requires-clause-word_in_range
read-sp-requires-clause-word_in_range c =
    let is = held (goal.at.read-sp-requires-clause-word_in_range c).After-areas in
    omega (arith, words_of-payload (areas_of c.areas.inside).pool c.args.thread.now.chunk c.areas.invariant.pool is.0)
