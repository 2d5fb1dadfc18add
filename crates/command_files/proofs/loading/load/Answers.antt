use Rattle.command_files.proofs.Follows.{too-long}
use Rattle.command_files.proofs.loading.load.Goals as goal

pub returns-in-Err-TooLong-clause-answer : goal.returns-in-Err-TooLong-clause-answer
returns-in-Err-TooLong-clause-answer g c =
    let told = rw c.in-Err-TooLong.field-0-is at c.in-Err-TooLong.ensures in
    let file = rw c.most_bytes.ensures at told.file in
    (too-long c.args.document (g.F.Shelf.files c.args.shelf.now) c.args.name.now file, told.counts)
