use Rattle.decisions.proofs.Layouts.{a_layout}
use Rattle.decisions.proofs.laid_out.layout_is_there.Goals as goal

pub returns : goal.returns
returns c = λ code options plan distinct planned. let l = a_layout code options plan distinct planned in (l.image, l.certificate, l.is)
