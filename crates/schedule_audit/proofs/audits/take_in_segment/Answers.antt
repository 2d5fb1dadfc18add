use Rattle.schedule_audit.proofs.Common.{◌∙◌, ℤ, ap, sym, w32, FitsSigned, of_z, to_z, rules, to_z-of_z, Entry}
use Rattle.schedule_audit.proofs.Lined.{refused_within, within_as}
use Rattle.schedule_audit.proofs.audits.take_in_segment.Goals as goal

pub returns-in-Out : goal.returns-in-Out
returns-in-Out g c = λ s state stands is.
    let fits : FitsSigned w32 c.in-Out.value = search rules in
    within_as s state c.args.reading.now c.args.entry (Entry.Out c.in-Out.thread (to_z w32 (of_z w32 c.in-Out.value))) c.out.new.reading c.out.result
    (c.in-Out.is ∙ ap (λ (v : ℤ). Entry.Out c.in-Out.thread v) (sym (to_z-of_z w32 c.in-Out.value fits))) (c.out.ensures s state stands is)

pub returns-in-Block : goal.returns-in-Block
returns-in-Block g c = λ s state stands is. within_as s state c.args.reading.now c.args.entry _ c.block.new.reading c.block.result c.in-Block.is (c.block.ensures s state stands is)

pub returns-in-End : goal.returns-in-End
returns-in-End g c = λ s state stands is. within_as s state c.args.reading.now c.args.entry _ c.end_line-ruling.new.reading c.end_line-ruling.result c.in-End.is (c.end_line-ruling.ensures s state stands is)

pub returns-in_default : goal.returns-in_default
returns-in_default g c = λ s state stands is. refused_within s state c.args.reading.now.core c.args.under stands c.args.entry c.requires.line c.in_default.not-Out c.in_default.not-Block c.in_default.not-End
