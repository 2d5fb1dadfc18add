use Rattle.segment_run.proofs.Common.{◌≡◌, ℕ, [], sym, ap, ◌∙◌, subst, ◌<◌, arith, Option, Some, None, true, false, ◌↔◌, IsNone, accepted_tree, Local, with_header, checked_of, code_of, local_of, AreOf, IsReady, areas_of, first_arguments, IsStarted, fact_at, Certificate, words_of-payload, Context, Areas}
use Rattle.c_mean.specs.Frames.{pushed, function_at}
use Rattle.chunk_pool.specs.Pool.{Pool, with_word, Taken, taken_for, IsTaken, FitsNone, shape_of}
use Rattle.machine_world.specs.StandsFor.{Starts, StandsForThread}
use Rattle.segment_laws.specs.Around.{new_thread}
use Rattle.segment_run.proofs.NewThread.{made, before, new_ready, new_source, written}
use Rattle.segment_run.proofs.Taking.{TakesOne, takes_for, takes_none, shape-take, AreOf-same}
use Rattle.segment_run.proofs.starting.start.Goals as goal
use Rattle.segment_run.proofs.starting.start.Goals.{After-bytes_of}

-- ---- where no free chunk fits

pub returns-in_err-chunk-clause-none : goal.returns-in_err-chunk-clause-none
returns-in_err-chunk-clause-none c =
    let accepted = c.args.accepted.now in
    let fact = c.fact_of-fact.ensures ∙ ap (λ (k : Certificate). fact_at k c.args.function) c.certificate.ensures in
    let need = (fact_at accepted.certificate c.args.function).bound in
    subst (λ (r : Option Context). IsNone r ↔ FitsNone c.args.areas.now.pool need) (sym c.from_residual.ensures)
    (subst (λ (a : Areas). (false ≡ false) ↔ FitsNone a.pool need) c.areas.view_is
    (subst (λ (n : ℕ). (false ≡ false) ↔ FitsNone (areas_of c.areas.inside).pool n) (ap (λ k. k.bound) fact) c.in_err-chunk.ensures.none))

pub returns-in_err-chunk-clause-machine : goal.returns-in_err-chunk-clause-machine
returns-in_err-chunk-clause-machine c =
    let accepted = c.args.accepted.now in
    let old = areas_of c.areas.inside in
    let fact = c.fact_of-fact.ensures ∙ ap (λ (k : Certificate). fact_at k c.args.function) c.certificate.ensures in
    let entry = (fact_at accepted.certificate c.args.function).entry in
    let need = (fact_at accepted.certificate c.args.function).bound in
    let none = takes_none old.pool c.take.new.self need
    (subst (λ (n : ℕ). IsTaken (taken_for old.pool n) None old.pool c.take.new.self) (ap (λ k. k.bound) fact) c.in_err-chunk.ensures.taken) in
    let after : Areas = record old { pool = c.take.new.self } in
    subst (λ (r : Option Context). IsStarted (taken_for c.args.areas.now.pool need) entry c.args.argument r c.args.areas.now after) (sym c.from_residual.ensures)
    (subst (λ (a : Areas). IsStarted (taken_for a.pool need) entry c.args.argument None a after) c.areas.view_is
    (subst (λ (o : Option Taken). IsStarted o entry c.args.argument None old after) (sym none.is) (ap (λ (q : Pool). record old { pool = q }) none.pool)))

pub returns-in_err-chunk-clause-areas : goal.returns-in_err-chunk-clause-areas
returns-in_err-chunk-clause-areas c =
    let old = areas_of c.areas.inside in
    AreOf-same c.args.accepted.now old c.take.new.self (shape-take old.pool c.take.new.self c.fact_of-fact.result.now.bound c.take.result c.take.ensures.taken)
    (subst (AreOf c.args.accepted.now) (sym c.areas.view_is) c.requires.areas)

-- ---- where one does

pub invariant_of-areas-2 : goal.invariant_of-areas-2
invariant_of-areas-2 c =
    let kept = c.areas.invariant in
    record { pool = c.write-2.ensures.sound; globals = kept.globals; tables = kept.tables; global_words = kept.global_words; table_words = kept.table_words }

pub returns-clause-none : goal.returns-clause-none
returns-clause-none c =
    let accepted = c.args.accepted.now in
    let fact = c.fact_of-fact.ensures ∙ ap (λ (k : Certificate). fact_at k c.args.function) c.certificate.ensures in
    let need = (fact_at accepted.certificate c.args.function).bound in
    subst (λ (a : Areas). (true ≡ false) ↔ FitsNone a.pool need) c.areas.view_is
    (subst (λ (n : ℕ). (true ≡ false) ↔ FitsNone (areas_of c.areas.inside).pool n) (ap (λ k. k.bound) fact) c.in_ok-chunk.ensures.none)

pub returns-clause-areas : goal.returns-clause-areas
returns-clause-areas c =
    let old = areas_of c.areas.inside in
    let pools : c.write-2.new.self ≡ with_header c.take.new.self c.in_ok-chunk.chunk 0 0 =
    c.write-2.ensures.after ∙ ap (λ (q : Pool). with_word q c.in_ok-chunk.chunk 1 0) c.write.ensures.after in
    AreOf-same c.args.accepted.now old c.write-2.new.self
    (ap shape_of pools ∙ shape-take old.pool c.take.new.self c.fact_of-fact.result.now.bound c.take.result c.take.ensures.taken)
    (subst (AreOf c.args.accepted.now) (sym c.areas.view_is) c.requires.areas)

abbrev context : After-bytes_of → Context
context c =
    let x = written c.place_of-place.result c.bytes_of.result c.args.argument in
    record { pc = c.fact_of-fact.result.now.entry; x = x; chunk = c.in_ok-chunk.chunk; depth = 1 }

abbrev after : After-bytes_of → Areas
after c = record (areas_of c.areas.inside) { pool = c.write-2.new.self }

-- the chunk that was taken, and the machine's new thread on it
begun : (c : After-bytes_of) →
    (one : TakesOne (areas_of c.areas.inside).pool (fact_at c.args.accepted.now.certificate c.args.function).bound c.in_ok-chunk.chunk c.take.new.self) ×
    (local_of (after c) (context c) ≡ new_thread (checked_of c.args.accepted.now) (areas_of c.areas.inside) one.taken c.args.function c.args.argument)
begun c =
    let old = areas_of c.areas.inside in
    let chunk = c.in_ok-chunk.chunk in
    let fact = c.fact_of-fact.ensures ∙ ap (λ (k : Certificate). fact_at k c.args.function) c.certificate.ensures in
    let one = takes_for old.pool c.take.new.self (fact_at c.args.accepted.now.certificate c.args.function).bound chunk
    (subst (λ (n : ℕ). IsTaken (taken_for old.pool n) (Some chunk) old.pool c.take.new.self) (ap (λ k. k.bound) fact) c.in_ok-chunk.ensures.taken) in
    let pools : c.write-2.new.self ≡ with_header one.taken.pool one.taken.chunk 0 0 =
    c.write-2.ensures.after ∙ ap (λ (q : Pool). with_word q chunk 1 0) (c.write.ensures.after ∙ ap (λ (q : Pool). with_word q chunk 0 0) one.pool)
    ∙ ap (λ (id : ℕ). with_header one.taken.pool id 0 0) one.chunk in
    let same = made (checked_of c.args.accepted.now) old one.taken c.write-2.new.self _ _ _ c.args.function c.args.argument chunk
    pools (ap (λ k. k.entry) fact) one.chunk c.place_of-place.ensures.place c.bytes_of.ensures.value in
    (one, same)

pub returns-clause-ready : goal.returns-clause-ready
returns-clause-ready c =
    let a = c.args.accepted.now in
    let f = c.args.function in
    let (one, is) = begun (goal.at.returns-clause-ready c).After-bytes_of in
    let of = subst (AreOf a) (sym c.areas.view_is) c.requires.areas in
    let first = before a (areas_of c.areas.inside) f c.is_valid.ensures c.areas.invariant of c.requires.function in
    subst (IsReady (checked_of a) (code_of a)) (sym is)
    (new_ready (accepted_tree a) a.image a.certificate a.program.well_scoped c.is_valid.ensures (areas_of c.areas.inside) one.taken
    (fact_at a.certificate f).bound f c.args.argument first.form one.is (omega arith) first.there c.ranges.argument.fits)

pub returns-clause-source : goal.returns-clause-source
returns-clause-source c = λ globals are.
    let a = c.args.accepted.now in
    let tree = accepted_tree a in
    let f = c.args.function in
    let (one, is) = begun (goal.at.returns-clause-source c).After-bytes_of in
    let of = subst (AreOf a) (sym c.areas.view_is) c.requires.areas in
    let first = before a (areas_of c.areas.inside) f c.is_valid.ensures c.areas.invariant of c.requires.function in
    let start = Starts (pushed tree f (first_arguments (function_at tree f).params c.args.argument)) [] in
    subst (λ (l : Local). StandsForThread (checked_of a) tree l start globals) (sym is)
    (new_source tree a.image a.certificate a.program.well_scoped c.is_valid.ensures (areas_of c.areas.inside) one.taken (fact_at a.certificate f).bound f
    c.args.argument first.form one.is (omega arith) first.there c.ranges.argument.fits globals are)

pub write-requires-clause-word_in_range : goal.write-requires-clause-word_in_range
write-requires-clause-word_in_range c =
    omega (arith, words_of-payload c.take.new.self c.in_ok-chunk.chunk c.take.ensures.sound c.in_ok-chunk.ensures.held.2.0)

pub write-requires-2-clause-word_in_range : goal.write-requires-2-clause-word_in_range
write-requires-2-clause-word_in_range c =
    let within = subst (λ (q : Pool). c.in_ok-chunk.chunk < q.count) (sym c.write.ensures.after) c.in_ok-chunk.ensures.held.2.0 in
    omega (arith, words_of-payload c.write.new.self c.in_ok-chunk.chunk c.write.ensures.sound within)

pub returns-clause-machine : goal.returns-clause-machine
returns-clause-machine c =
    let at = (goal.at.returns-clause-machine c).After-bytes_of in
    let fact = fact_at c.args.accepted.now.certificate c.args.function in
    let (one, is) = begun at in
    subst (λ (a : Areas). IsStarted (taken_for a.pool fact.bound) fact.entry c.args.argument (Some (context at)) a (after at)) c.areas.view_is
    (subst (λ (o : Option Taken). IsStarted o fact.entry c.args.argument (Some (context at)) (areas_of c.areas.inside) (after at)) (sym one.is)
    (ap (λ (l : Local). l.core) is, ap (λ (l : Local). l.areas) is))
