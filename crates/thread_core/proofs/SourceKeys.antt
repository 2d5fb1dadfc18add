-- How the thread whose segment has ended rests in the source, where the world stands for it.
use Rattle.thread_core.proofs.Common.{◌≡◌, ℕ, ◌<◌, List, length, Option, Some, None, sym, ◌∙◌, subst, slice_get, ProgramTree, Pool, Core, Checked, IsResting, PastCall, IsPast, StandsForRest, Blocked, Thread, World, thread_of, IsKeyOf, HasEnded, HasKey, HasKeyOf}
use Rattle.c_mean.specs.Frames.{Waiting, key_of}
use Rattle.c_mean.specs.World as source
use Rattle.c_mean.specs.World.{Rest}
use Rattle.accepted_pairs.proofs.SomeAt.{some_at}
use Rattle.machine_world.specs.StandsFor.{Waits, StandsFor}
use Rattle.machine_meaning.proofs.SiteKeys.{key_is}
use Rattle.thread_core.proofs.Numbering.{IsBlockedIn}

resting : (c : Checked) (program : ProgramTree) (pool : Pool) (core : Core) (key : List ℕ) → HasKeyOf c pool core key → (waiting : Waiting) → (rests : IsResting c pool core) → IsPast c pool core rests → StandsFor c program pool core rests (Waits waiting) → key ≡ key_of waiting
resting c program pool core key has waiting (PastCall f i op word place frames at) past stands = has.is f i word op place frames at ∙ key_is c program pool core (PastCall f i op word place frames at) waiting stands
resting c program pool core key has waiting _ past stands = absurd past

blocked_key : (c : Checked) (program : ProgramTree) (pool : Pool) (thread : Thread) (blocked : Blocked) (key : List ℕ) → thread.blocked ≡ Some blocked → HasKeyOf c pool thread.core key → (rest : Option Rest) → StandsForRest c program pool (Some thread) rest → IsKeyOf rest key
blocked_key c program pool thread blocked key at has (Some (source.Fresh function arguments)) h = absurd (let no : None ≡ Some blocked = sym h.unblocked ∙ at in cc)
blocked_key c program pool thread blocked key at has (Some (source.Blocked block waiting)) h = resting c program pool thread.core key has waiting h.rests h.past h.stands
blocked_key c program pool thread blocked key at has _ h = absurd h

-- a thread that is blocked has the key of its source thread
pub key_of_rest : (c : Checked) (program : ProgramTree) (w : World) (number : ℕ) (key : List ℕ) (rest : Option Rest) → IsBlockedIn w number → HasKey c w (thread_of w number) key → StandsForRest c program w.areas.pool (thread_of w number) rest → IsKeyOf rest key
key_of_rest c program w number key rest is has h =
    blocked_key c program w.areas.pool is.thread is.blocked key is.at
    (subst (λ (o : Option Thread). HasKey c w o key) is.there has) rest
    (subst (λ (o : Option Thread). StandsForRest c program w.areas.pool o rest) is.there h)

ended_by : (c : Checked) (program : ProgramTree) (pool : Pool) (rest : Option Rest) (other : Rest) → rest ≡ Some other → StandsForRest c program pool None rest → HasEnded rest
ended_by c program pool None other e h = absurd (let no : None ≡ Some other = e in cc)
ended_by c program pool (Some source.Ended) other e h = tt
ended_by c program pool (Some _) other e h = absurd h

-- one that lives no more has ended there
pub ended_rest : (c : Checked) (program : ProgramTree) (w : World) (number : ℕ) (rests : List Rest) → number < length rests → thread_of w number ≡ None → StandsForRest c program w.areas.pool (thread_of w number) (slice_get rests number) → HasEnded (slice_get rests number)
ended_rest c program w number rests there gone h =
    let some = some_at rests number there in
    ended_by c program w.areas.pool (slice_get rests number) some.0 some.1 (subst (λ (o : Option Thread). StandsForRest c program w.areas.pool o (slice_get rests number)) gone h)
