use Rattle.std.proofs.Common.{◌∙◌, arith}
use Rattle.chunk_pool.proofs.Kept.{IsGiven, first_given, has_words, free_most, given_to_first}
use Rattle.chunk_pool.proofs.pool.ChunkPool.give_first.Goals as goal

-- the chunk is in front of its free list, and the pool is kept with it
given : (c : goal.After-self-2-1) → IsGiven (first_given c.self.inside c.args.id) c.args.self.now c.args.id
given c =
    given_to_first c.write.inside c.self.inside c.args.self.now c.args.id c.write.view_is c.write.invariant
    (c.self.view_is ∙ c.write-2.ensures.after) c.self.invariant c.requires.held c.requires.class

pub invariant_of-self : goal.invariant_of-self
invariant_of-self c = (given c).kept

pub overflow_add-self : goal.overflow_add-self
overflow_add-self c =
    omega (arith, free_most c.self.inside c.write-2.new.self c.self.view_is c.self.invariant, c.self.invariant.pool.shape.extra_bounded, c.self.invariant.pool.shape.chunks_bounded)

pub returns-clause-after : goal.returns-clause-after
returns-clause-after c = (given c).pool

pub returns-clause-sound : goal.returns-clause-sound
returns-clause-sound c = (invariant_of-self c).pool

pub write-requires-clause-word_in_range : goal.write-requires-clause-word_in_range
write-requires-clause-word_in_range c = omega (arith, has_words c.write.inside c.args.self.now c.args.id c.write.view_is c.write.invariant)
