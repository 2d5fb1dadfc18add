use Rattle.std.proofs.Common.{ℕ, ◌∙◌, ap, get_or, refl, arith}
use Rattle.chunk_pool.proofs.Shapes.{words_in-some}
use Rattle.chunk_pool.proofs.Kept.{IsExtraTaken, taken_extra}
use Rattle.chunk_pool.proofs.pool.ChunkPool.take_extra.Goals as goal

pub start_of-requires-clause-id_in_range : goal.start_of-requires-clause-id_in_range
start_of-requires-clause-id_in_range c = (taken_extra c.self.inside c.args.self.now _ c.self.view_is c.self.invariant c.requires.some refl).within

-- the chunk is the first free one of its size, and the pool is kept without it
taken : (c : goal.After-self-2-1) → IsExtraTaken c.self.inside c.args.self.now c.read-self-inside.result
taken c =
    taken_extra c.self.inside c.args.self.now c.read-self-inside.result c.self.view_is c.self.invariant c.requires.some
    (c.read-self-inside.ensures ∙ ap (λ (i : ℕ). get_or c.self.inside.region i 0) c.start_of.ensures.start)

pub invariant_of-self : goal.invariant_of-self
invariant_of-self c = (taken c).kept

pub returns-clause-first : goal.returns-clause-first
returns-clause-first c = (taken c).first

pub returns-clause-after : goal.returns-clause-after
returns-clause-after c = (taken c).pool

pub returns-clause-sound : goal.returns-clause-sound
returns-clause-sound c = (invariant_of-self c).pool

pub read-self-inside-requires : goal.read-self-inside-requires
read-self-inside-requires c =
    omega (arith, c.start_of.ensures.within, words_in-some c.self.inside.shape c.self.inside.extra_first c.self.invariant.pool.shape, c.self.invariant.size)
