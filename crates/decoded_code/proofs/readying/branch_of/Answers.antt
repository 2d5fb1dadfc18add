use Rattle.std.proofs.Common.{ℕ, Some, sym, ap, ◌∙◌}
use Rattle.cap_word.specs.Word as word
use Rattle.decoded_code.proofs.readying.branch_of.Goals as goal

pub returns-in-Some : goal.returns-in-Some
returns-in-Some c = λ instr does.
    c.reading.ensures c.args.place instr (λ m pc. does m c.in-Some.index pc
    (c.in-Some.ensures ∙ c.add.ensures ∙ ap (word.add c.args.place) c.branch_offset.ensures ∙ ap (λ (p : ℕ). word.add p (word.word_of c.args.imm)) (sym pc)))

pub returns-in-None : goal.returns-in-None
returns-in-None c = λ instr does. c.other.ensures c.args.place (Some instr)
