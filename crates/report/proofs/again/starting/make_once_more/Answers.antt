use Rattle.std.proofs.Common.{map}
use Rattle.std.specs.String.{string_bytes}
use Rattle.report.proofs.again.starting.make_once_more.Goals as goal

pub start_command-requires : goal.start_command-requires
start_command-requires g c = (map (λ word. string_bytes word) c.args.words.now.items, c.in-Ok.ensures.read)
