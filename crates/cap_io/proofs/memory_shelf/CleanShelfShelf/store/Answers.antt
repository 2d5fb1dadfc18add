use Rattle.std.proofs.Common.{◌≡◌, arith}
use Rattle.std.proofs.lemmas.Grind.{common_steps}
use Rattle.cap_io.specs.Entries.{put_file}
use Rattle.cap_io.proofs.Stored.{stored}
use Rattle.cap_io.proofs.memory_shelf.CleanShelfShelf.store.Goals as goal

pub returns-clause-file : goal.returns-clause-file
returns-clause-file c =
    let put : c.put.new.self ≡ put_file c.args.self.now c.args.name.now c.args.bytes.now = grind (arith, common_steps)
    in let s = stored _ _ _ _ put in (s.same, s.others)
