use Rattle.decoded_code.proofs.readying.ready_at.Goals as goal

pub returns-in-None : goal.returns-in-None
returns-in-None c = c.other.ensures c.args.place c.args.decoded
