use Rattle.segment_run.proofs.Common.{◌≡◌, ◌+◌, ℕ, refl, sym, ap, subst, ◌∙◌, arith, set, ◌<◌, Goes, Stops, count-most, read, Areas, TpIsFront, NoRoom, linked, linked_on, with_header, Owns, areas_of, thread_of, words_of-payload}
use Rattle.chunk_pool.specs.Pool.{Pool, with_word, place_of, bytes_of, FitsNone}
use Rattle.segment_run.proofs.Taking.{takes_for, takes_none}
use Rattle.segment_run.proofs.Linking.{front_of, depth_below, link_goes}
use Rattle.segment_run.proofs.links.link.Goals as goal

pub overflow_add-thread-3 : goal.overflow_add-thread-3
overflow_add-thread-3 c =
    let owns = subst (λ (a : Areas). Owns (thread_of a c.args.thread.now)) (sym c.areas.view_is) c.requires.owns in
    omega (arith, depth_below (areas_of c.areas.inside) c.args.thread.now owns, count-most (areas_of c.areas.inside).pool c.areas.invariant.pool)

pub invariant_of-areas-2 : goal.invariant_of-areas-2
invariant_of-areas-2 c =
    let kept = c.areas.invariant in
    record { pool = c.write-2.ensures.sound; globals = kept.globals; tables = kept.tables; global_words = kept.global_words; table_words = kept.table_words }

pub returns-in_default : goal.returns-in_default
returns-in_default c =
    let old = areas_of c.areas.inside in
    let thread = c.args.thread.now in
    let need = read thread.regs.x 6 in
    let none = takes_none old.pool c.take.new.self need c.in_default.ensures.taken in
    let after : Areas = record old { pool = c.take.new.self } in
    subst (λ (a : Areas). (linked (thread_of a thread) ≡ Stops NoRoom) × FitsNone a.pool need × (thread_of after thread ≡ thread_of a thread)) c.areas.view_is
    (ap (linked_on (thread_of old thread)) none.is, c.in_default.ensures.none.0 refl, ap (λ (q : Pool). thread_of (record old { pool = q }) thread) none.pool)

pub returns : goal.returns
returns c =
    let old = areas_of c.areas.inside in
    let thread = c.args.thread.now in
    let id = c.in-Some.chunk in
    let p = old.pool in
    let tp_now = read thread.regs.x 4 in
    let sp_now = read thread.regs.x 2 in
    let owns = subst (λ (a : Areas). Owns (thread_of a thread)) (sym c.areas.view_is) c.requires.owns in
    let front = front_of old thread thread.depth refl (subst (λ (a : Areas). TpIsFront a.pool (thread_of a thread).core (thread_of a thread).core.chain) (sym c.areas.view_is) c.requires.front) in
    let need = read thread.regs.x 6 in
    let one = takes_for p c.take.new.self need id c.in-Some.ensures.taken in
    let pools : c.write-2.new.self ≡ with_header one.taken.pool one.taken.chunk tp_now sp_now =
    c.write-2.ensures.after ∙ ap (λ (q : Pool). with_word q id 1 sp_now) (c.write.ensures.after ∙ ap (λ (q : Pool). with_word q id 0 tp_now) one.pool)
    ∙ ap (λ (k : ℕ). with_header one.taken.pool k tp_now sp_now) one.chunk in
    let place : c.place_of-place.result ≡ place_of one.taken.pool one.taken.chunk = c.place_of-place.ensures.place ∙ (λ i. place_of (pools i) (one.chunk i)) in
    let bytes : c.bytes_of.result ≡ bytes_of one.taken.pool one.taken.chunk = c.bytes_of.ensures.value ∙ (λ i. bytes_of (pools i) (one.chunk i)) in
    ap (λ (a : Areas). linked (thread_of a thread)) (sym c.areas.view_is)
    ∙ link_goes old thread one.taken c.areas.invariant.pool owns front one.is
    ∙ (λ i. Goes (thread_of (record old { pool = sym pools i }) (record {
      regs = record { pc = sym c.add-thread.ensures i; x = set (set thread.regs.x 4 (sym place i + 16)) 2 (sym place i + sym bytes i) };
      chunk = sym one.chunk i;
      depth = thread.depth + 1;
    })))

pub write-requires-clause-word_in_range : goal.write-requires-clause-word_in_range
write-requires-clause-word_in_range c =
    omega (arith, words_of-payload c.take.new.self c.in-Some.chunk c.take.ensures.sound c.in-Some.ensures.held.2.0)

pub write-requires-2-clause-word_in_range : goal.write-requires-2-clause-word_in_range
write-requires-2-clause-word_in_range c =
    let within = subst (λ (q : Pool). c.in-Some.chunk < q.count) (sym c.write.ensures.after) c.in-Some.ensures.held.2.0 in
    omega (arith, words_of-payload c.write.new.self c.in-Some.chunk c.write.ensures.sound within)
