use Rattle.chunk_pool.proofs.Common.{ℕ, ◌-◌, ◌/◌, ◌∙◌, ap, get_or, place_of}
use Rattle.chunk_pool.proofs.AddressLaws.{word_at, word_within}
use Rattle.chunk_pool.proofs.Kept.{address_within, read_is}
use Rattle.chunk_pool.proofs.pool.ChunkPool.read_at.Goals as goal

pub read-requires : goal.read-requires
read-requires c =
    address_within c.self.inside c.args.self.now c.args.id c.args.address c.position_at.result c.self.view_is c.self.invariant c.requires c.position_at.ensures

pub returns-clause-value : goal.returns-clause-value
returns-clause-value c =
    let has = c.requires in
    let word = (c.args.address - place_of c.args.self.now c.args.id) / 4 in
    c.read.ensures ∙ ap (λ (i : ℕ). get_or c.self.inside.region i 0) (c.position_at.ensures ∙ word_at c.args.self.now c.args.id c.args.address has)
    ∙ read_is c.self.inside c.args.self.now c.args.id word c.self.view_is has.0 (word_within c.args.self.now c.args.id c.args.address has)
