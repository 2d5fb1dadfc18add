use Rattle.rv_code.proofs.Fits.{fits-decoding}
use Rattle.rv_code.proofs.Inverse.{decoding-encoding, encoding-lt, same_instruction}
use Rattle.rv_code.proofs.laws.table_laws.Goals as goal

pub returns : goal.returns
returns c = record { decodes = decoding-encoding; encodes = fits-decoding; width = encoding-lt; distinct = same_instruction }
