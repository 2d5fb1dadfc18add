use Rattle.stack_certificate.proofs.Common.{◌≡◌, ◌+◌, ◌*◌, arith, sym, ◌∙◌, ap, pos, Instr, checked, zero_, sp}
use Rattle.stack_certificate.proofs.SlotLemmas.{no_store, place_over}
use Rattle.stack_certificate.proofs.WordLemmas.{zero-past, zero-over, zero-word}
use Rattle.stack_certificate.proofs.words.zero_word.Goals as goal

pub returns-then-word-size : goal.returns-then-word-size
returns-then-word-size c = zero-past _ _ _ c.if-word-size.true

pub returns-then-offset-gt2047 : goal.returns-then-offset-gt2047
returns-then-offset-gt2047 c = zero-over _ _ _ c.if-word-size.false (sym (no_store 2 0 _ (place_over _ (omega arith))))

pub returns-in-Some : goal.returns-in-Some
returns-in-Some c =
    let e : c.from.result + 4 * c.from-2.result ≡ c.args.place + 4 * c.args.word = omega arith in
    rw c.encode.ensures.word (zero-word _ _ _ c.in-Some.instr c.if-word-size.false (sym (c.in-Some.ensures ∙ ap (λ p. checked (Instr.Sw sp zero_ (pos p))) e)))

pub returns-in-None : goal.returns-in-None
returns-in-None c =
    let e : c.from.result + 4 * c.from-2.result ≡ c.args.place + 4 * c.args.word = omega arith in
    zero-over _ _ _ c.if-word-size.false (sym (c.in-None.ensures ∙ ap (λ p. checked (Instr.Sw sp zero_ (pos p))) e))
