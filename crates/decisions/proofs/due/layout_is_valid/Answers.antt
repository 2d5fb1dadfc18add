use Rattle.decisions.proofs.Valid.{valid_layout}
use Rattle.decisions.proofs.due.layout_is_valid.Goals as goal

pub returns : goal.returns
returns c = λ program options image certificate scoped range frames fits laid. valid_layout program scoped options range frames fits image certificate laid
