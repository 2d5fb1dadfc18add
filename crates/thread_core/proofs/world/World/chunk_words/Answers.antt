use Rattle.thread_core.proofs.Common.{ℕ, ◌/◌, ◌≡◌, ap, ◌∙◌, arith, Pool, bytes_of, words_of, Held}
use Rattle.thread_core.proofs.world.World.chunk_words.Goals as goal

pub returns : goal.returns
returns c =
    let words : bytes_of c.pool.result.now c.args.chunk / 4 ≡ words_of c.pool.result.now c.args.chunk = omega arith in
    ap (λ (bytes : ℕ). bytes / 4) c.bytes_of.ensures.value ∙ words
    ∙ ap (λ (p : Pool). words_of p c.args.chunk) (c.pool.ensures ∙ ap (λ (h : Held). h.machine.areas.pool) c.self.view_is)
