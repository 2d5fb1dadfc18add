use Rattle.std.proofs.Common.{◌≡◌, arith, take}
use Rattle.std.proofs.lemmas.Grind.{common_steps}
use Rattle.cap_io.specs.Entries.{put_file}
use Rattle.cap_io.proofs.Stored.{stored}
use Rattle.cap_io.proofs.memory_shelf.MemShelfShelf.store.Goals as goal

pub returns-then-is_some-clause-file : goal.returns-then-is_some-clause-file
returns-then-is_some-clause-file c =
    let put : c.put.new.self ≡ put_file c.args.self.now.entries c.args.name.now (take c.map_or-kept.result c.args.bytes.now) = grind (arith, common_steps)
    in let s = stored _ _ _ _ put in ((c.map_or-kept.result, grind (arith, common_steps), s.same), s.others)

pub returns-clause-file : goal.returns-clause-file
returns-clause-file c =
    let put : c.put.new.self ≡ put_file c.args.self.now.entries c.args.name.now c.args.bytes.now = grind (arith, common_steps)
    in let s = stored _ _ _ _ put in (s.same, s.others)
