use Rattle.chunk_pool.proofs.Common.{sym, ◌∙◌, ap, subst, Pool, KeepsOthers, word_of, IsPool}
use Rattle.chunk_pool.proofs.PoolLaws.{KeepsOthers-with_word, word_of-with_word_same, word_of-with_word_other}
use Rattle.chunk_pool.proofs.Kept.{written}
use Rattle.chunk_pool.proofs.pool.ChunkPool.write.Goals as goal

pub invariant_of-self : goal.invariant_of-self
invariant_of-self c =
    (written c.self.inside c.args.self.now c.args.id c.args.word c.args.value c.position-position.result c.write.new.self c.self.view_is c.self.invariant
    c.requires.id_in_range c.requires.word_in_range c.ranges.value.fits c.requires.link_kept c.position-position.ensures.place c.write.ensures).kept

pub returns-clause-after : goal.returns-clause-after
returns-clause-after c =
    (written c.self.inside c.args.self.now c.args.id c.args.word c.args.value c.position-position.result c.write.new.self c.self.view_is c.self.invariant
    c.requires.id_in_range c.requires.word_in_range c.ranges.value.fits c.requires.link_kept c.position-position.ensures.place c.write.ensures).pool

pub returns-clause-others : goal.returns-clause-others
returns-clause-others c =
    subst (λ (p : Pool). KeepsOthers c.args.self.now p c.args.id) (sym (returns-clause-after c))
    (KeepsOthers-with_word c.args.self.now c.args.id c.args.word c.args.value)

pub returns-clause-sound : goal.returns-clause-sound
returns-clause-sound c = (invariant_of-self c).pool

pub returns-clause-value : goal.returns-clause-value
returns-clause-value c =
    ap (λ (p : Pool). word_of p c.args.id c.args.word) (returns-clause-after c)
    ∙ word_of-with_word_same c.args.self.now c.args.id c.args.word c.args.value (subst IsPool c.self.view_is c.self.invariant.pool)
    c.requires.id_in_range c.requires.word_in_range

pub returns-clause-words : goal.returns-clause-words
returns-clause-words c other apart =
    ap (λ (p : Pool). word_of p c.args.id other) (returns-clause-after c)
    ∙ word_of-with_word_other c.args.self.now c.args.id c.args.word c.args.value other apart
