use Rattle.rv_code.proofs.Inverse.{decoding-encoding}
use Rattle.stack_certificate.proofs.Common.{◌+◌, length, sym, ap, ◌∙◌, function_at, operation_at, fact_at, begin, kind_of, row_at, setting, setting_at, size, size_at, words_before}
use Rattle.stack_certificate.proofs.AddressLemmas.{words_step}
use Rattle.stack_certificate.proofs.SizeLemmas.{length-prologue, length-row, stride}
use Rattle.stack_certificate.proofs.laws.template_laws.Goals as goal

pub returns-clause-decodes : goal.returns-clause-decodes
returns-clause-decodes c = λ instr word h. rw h.1 (decoding-encoding instr h.0)

pub returns-clause-prologues : goal.returns-clause-prologues
returns-clause-prologues c = length-prologue

pub returns-clause-rows : goal.returns-clause-rows
returns-clause-rows c = length-row

pub returns-clause-templates : goal.returns-clause-templates
returns-clause-templates c = λ code certificate f i op e.
    ap (λ o. length (row_at (fact_at certificate f) (function_at code f).sizes (setting_at code certificate f (begin code certificate f i) o) o)) e ∙
    length-row (fact_at certificate f) (function_at code f).sizes (setting code certificate f (begin code certificate f i) op) op

pub returns-clause-next : goal.returns-clause-next
returns-clause-next c = λ code certificate f i op e.
    stride (fact_at certificate f).entry (words_before code certificate f i) (words_before code certificate f (i + 1))
    (size_at (function_at code f).sizes (kind_of certificate op) (operation_at code f i)) (size (function_at code f).sizes (kind_of certificate op) op)
    (words_step code certificate f i op (sym e)) (ap (λ o. size_at (function_at code f).sizes (kind_of certificate op) o) e)
