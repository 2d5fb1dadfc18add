use Rattle.chunk_pool.proofs.Common.{◌-◌, ◌/◌, ◌∙◌, place_of}
use Rattle.chunk_pool.proofs.AddressLaws.{payload_word, word_at, word_within}
use Rattle.chunk_pool.proofs.Kept.{address_within, written}
use Rattle.chunk_pool.proofs.pool.ChunkPool.write_at.Goals as goal

pub write-requires : goal.write-requires
write-requires c =
    address_within c.self.inside c.args.self.now c.args.id c.args.address c.position_at-position.result c.self.view_is c.self.invariant c.requires.address_in_range c.position_at-position.ensures

pub invariant_of-self : goal.invariant_of-self
invariant_of-self c =
    (let has = c.requires.address_in_range in
    let word = (c.args.address - place_of c.args.self.now c.args.id) / 4 in
    written c.self.inside c.args.self.now c.args.id word c.args.value c.position_at-position.result c.write.new.self c.self.view_is c.self.invariant has.0
    (word_within c.args.self.now c.args.id c.args.address has) c.ranges.value.fits (payload_word c.args.self.now c.args.id c.args.address c.requires.link_kept)
    (c.position_at-position.ensures ∙ word_at c.args.self.now c.args.id c.args.address has) c.write.ensures).kept

pub returns-clause-after : goal.returns-clause-after
returns-clause-after c =
    (let has = c.requires.address_in_range in
    let word = (c.args.address - place_of c.args.self.now c.args.id) / 4 in
    written c.self.inside c.args.self.now c.args.id word c.args.value c.position_at-position.result c.write.new.self c.self.view_is c.self.invariant has.0
    (word_within c.args.self.now c.args.id c.args.address has) c.ranges.value.fits (payload_word c.args.self.now c.args.id c.args.address c.requires.link_kept)
    (c.position_at-position.ensures ∙ word_at c.args.self.now c.args.id c.args.address has) c.write.ensures).pool

pub returns-clause-sound : goal.returns-clause-sound
returns-clause-sound c = (invariant_of-self c).pool
