use Rattle.chunk_pool.proofs.Common.{◌≡◌, ℕ, ◌+◌, sym, ◌∙◌, ap, subst, set, arith, start_in}
use Rattle.chunk_pool.proofs.Shapes.{words_in-some}
use Rattle.chunk_pool.proofs.RegionLaws.{IsLinkedTo, linked_none, linked_more, linked_all}
use Rattle.chunk_pool.proofs.pool.link_all.Goals as goal

pub loop-id-init : goal.loop-id-init
loop-id-init c = linked_none c.args.shape c.args.region.now c.requires.sound c.requires.zeros

pub write-requires : goal.write-requires
write-requires c = omega (arith, c.start_of.ensures.within, words_in-some c.args.shape c.loop-id.id c.requires.sound, c.loop-id.invariant.size)

pub loop-id-preserved : goal.loop-id-preserved
loop-id-preserved c =
    let written = c.write.ensures
    ∙ ap (λ (at : ℕ). set c.loop-id.region at c.next.result) c.start_of.ensures.start
    ∙ ap (λ (word : ℕ). set c.loop-id.region (start_in c.args.shape c.loop-id.id) word) c.next.ensures in
    subst (IsLinkedTo c.args.shape (c.loop-id.id + 1)) (sym written)
    (linked_more c.args.shape c.loop-id.id c.loop-id.region c.requires.sound (omega arith) c.loop-id.invariant)

pub returns-clause-linked : goal.returns-clause-linked
returns-clause-linked c =
    let all : c.loop-id.id ≡ c.args.shape.count = omega arith in
    linked_all c.args.shape c.loop-id.region
    (subst (λ (n : ℕ). IsLinkedTo c.args.shape n c.loop-id.region) all c.loop-id.invariant)
