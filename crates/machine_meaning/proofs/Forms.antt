-- A live thread of a well-formed world has its form, and the chunks of the others are apart from its own.
use Rattle.machine_meaning.proofs.Common.{◌≡◌, ◌≢◌, ℕ, ◌<◌, nat_eq, ltb, List, [], ◌∷◌, Option, Some, None, refl, sym, subst, ◌∙◌, arith, ⊎_elim, AllByRecursion, cases_eq, cond-true, cond-false, eq-eqb, ne_eqb, Goes, Stops, ProgramTree, Pool, chunk_of, Areas, copies_in, KeepsShape, copies, Local, Ended, local_step, Checked, StandsForRest, Thread, World, Setting, local_in, first_with, thread_of, IsCore, IsWellFormed, HasForm, IsGoodState, KeepsChunks, rests_law, held_one, held_two, each_chunk, at_most_one}
use Rattle.c_mean.specs.World as source
use Rattle.flat_code.specs.WellFormed as flat
use Rattle.machine_world.specs.Alone.{KeepsChunk}
use Rattle.machine_world.proofs.HeldLaws.{KeepsShape-step}
use Rattle.segment_laws.proofs.Untouched.{keeps_step}

core_of : (number : ℕ) (threads : List Thread) (t : Thread) → AllByRecursion (λ thread. IsCore thread.core) threads → first_with number threads ≡ Some t → IsCore t.core
core_of number [] t all found = absurd cc
core_of number (u ∷ us) t all found = ⊎_elim
    (λ (same : u.number ≡ number).
    let here : Some u ≡ Some t = sym (cond-true (nat_eq u.number number) (Some u) (first_with number us) (eq-eqb u.number number same)) ∙ found in
    let equal : u ≡ t = cc in
    subst (λ (v : Thread). IsCore v.core) equal all.0)
    (λ apart. core_of number us t all.1 (sym (cond-false (nat_eq u.number number) (Some u) (first_with number us) (ne_eqb u.number number apart)) ∙ found))
    (cases_eq u.number number)

pub has_form : (c : Checked) (s : Setting) (w : World) (number : ℕ) (t : Thread) → IsWellFormed c s w → thread_of w number ≡ Some t → HasForm c (local_in w t)
has_form c s w number t formed found = record {
  areas = formed.areas;
  core = core_of number w.threads t formed.cores found;
  owns = record { once = λ chunk. let held = held_one chunk number w.threads t found in let all = formed.counted.partition chunk in omega (arith, held, all) };
}

-- a chunk of another thread is neither in the thread's chain nor free
pub elsewhere : (c : Checked) (s : Setting) (w : World) (number other : ℕ) (t v : Thread) (chunk : ℕ) → IsWellFormed c s w → thread_of w number ≡ Some t → thread_of w other ≡ Some v → other ≢ number → 0 < copies chunk v.core.chain → copies_in chunk (local_in w t) ≡ 0
elsewhere c s w number other t v chunk formed found too apart some =
    let held = held_two chunk number other w.threads t v (λ e. apart (sym e)) found too in
    let all = formed.counted.partition chunk in
    let most = at_most_one (ltb chunk w.areas.pool.count) in
    omega (arith, held, all, most, some)

-- ---- a step leaves the chunks of the others

pub kept_going : (c : Checked) (s : Setting) (w : World) (number other : ℕ) (t v : Thread) (next : Local) → flat.IsWellFormed c.flat → IsWellFormed c s w → IsGoodState c s.code (local_in w t) → thread_of w number ≡ Some t → thread_of w other ≡ Some v → other ≢ number
    → local_step s.code (local_in w t) ≡ Goes next → KeepsChunks w.areas.pool next.areas.pool v.core.chain
kept_going c s w number other t v next well formed good found too apart e =
    let l = local_in w t in
    record {
      shape = subst (KeepsShape l) e (KeepsShape-step s.code l);
      words = each_chunk (λ chunk. chunk_of next.areas.pool chunk ≡ chunk_of w.areas.pool chunk) v.core.chain
          (λ chunk some. subst (KeepsChunk chunk l) e (keeps_step c s.code l chunk well (has_form c s w number t formed found) good (elsewhere c s w number other t v chunk formed found too apart some)));
    }

pub kept_ending : (c : Checked) (s : Setting) (w : World) (number other : ℕ) (t v : Thread) (areas : Areas) → flat.IsWellFormed c.flat → IsWellFormed c s w → IsGoodState c s.code (local_in w t) → thread_of w number ≡ Some t → thread_of w other ≡ Some v → other ≢ number
    → local_step s.code (local_in w t) ≡ Stops (Ended areas) → KeepsChunks w.areas.pool areas.pool v.core.chain
kept_ending c s w number other t v areas well formed good found too apart e =
    let l = local_in w t in
    record {
      shape = subst (KeepsShape l) e (KeepsShape-step s.code l);
      words = each_chunk (λ chunk. chunk_of areas.pool chunk ≡ chunk_of w.areas.pool chunk) v.core.chain
          (λ chunk some. subst (KeepsChunk chunk l) e (keeps_step c s.code l chunk well (has_form c s w number t formed found) good (elsewhere c s w number other t v chunk formed found too apart some)));
    }

-- ---- and so the others stand for what they stood for

pub rest_stays : (c : Checked) (program : ProgramTree) (pool after : Pool) (thread : Option Thread) (rest : Option source.Rest) → ((t : Thread) → thread ≡ Some t → KeepsChunks pool after t.core.chain) → StandsForRest c program pool thread rest → StandsForRest c program after thread rest
rest_stays c program pool after None None kept h = tt
rest_stays c program pool after None (Some source.Ended) kept h = tt
rest_stays c program pool after None (Some (source.Fresh function arguments)) kept h = absurd h
rest_stays c program pool after None (Some (source.Blocked block waiting)) kept h = absurd h
rest_stays c program pool after (Some t) None kept h = absurd h
rest_stays c program pool after (Some t) (Some source.Ended) kept h = absurd h
rest_stays c program pool after (Some t) (Some (source.Fresh function arguments)) kept h =
    let on = rests_law c pool after t.core h.rests (kept t refl) in
    record { unblocked = h.unblocked; rests = on.rests; stands = on.stands program _ h.stands }
rest_stays c program pool after (Some t) (Some (source.Blocked block waiting)) kept h =
    let on = rests_law c pool after t.core h.rests (kept t refl) in
    record { blocked = h.blocked; rests = on.rests; past = on.past h.past; stands = on.stands program _ h.stands }
