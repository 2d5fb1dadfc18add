use Rattle.c_lex.proofs.Common.{◌≡◌, ◌≢◌, ◌⊎◌, get_or, arith, take_rest}
use Rattle.c_lex.proofs.NumberWords.{null_word, decimal_some, hexadecimal_some, hexadecimal_none}
use Rattle.c_lex.proofs.numbers.number_of.Goals as goal

pub returns-in-48-clause-value : goal.returns-in-48-clause-value
returns-in-48-clause-value c = null_word c.args.word.now (omega arith) (omega arith)

pub returns-in-48-2-clause-value : goal.returns-in-48-2-clause-value
returns-in-48-2-clause-value c =
    let second : (get_or c.args.word.now 1 0 ≡ 120) ⊎ (get_or c.args.word.now 1 0 ≡ 88) = grind arith in
    let rest = take_rest c.args.word.now 2 in
    hexadecimal_some c.args.word.now _ (omega arith) (omega arith) second (rw rest at c.value_of.ensures.digits) (rw rest at c.value_of.ensures.value)

pub returns-in-48-2-clause-none : goal.returns-in-48-2-clause-none
returns-in-48-2-clause-none c =
    let rest = take_rest c.args.word.now 2 in
    hexadecimal_none c.args.word.now _ (omega arith) (omega arith) (rw rest at c.value_of.ensures.none)

pub returns-in-49-to-57-clause-value : goal.returns-in-49-to-57-clause-value
returns-in-49-to-57-clause-value c =
    let first : get_or c.args.word.now 0 0 ≢ 48 = grind arith in
    decimal_some c.args.word.now _ (grind arith) first c.value_of-in-49-to-57.ensures.digits c.value_of-in-49-to-57.ensures.value
