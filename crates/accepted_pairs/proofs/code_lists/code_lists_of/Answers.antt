use Rattle.accepted_pairs.proofs.Common.{program_code}
use Rattle.accepted_pairs.proofs.ReadableLemmas.{readable_of}
use Rattle.accepted_pairs.proofs.code_lists.code_lists_of.Goals as goal

pub words_before_all-requires : goal.words_before_all-requires
words_before_all-requires c = readable_of (program_code c.args.flat.now) c.args.image.now c.args.certificate.now c.requires.few c.requires.valid
