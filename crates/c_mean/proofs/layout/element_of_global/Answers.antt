use Rattle.std.proofs.Common.{◌<◌, arith, sym}
use Rattle.std.specs.Prelude.{length}
use Rattle.c_mean.specs.Layout.{widths_of}
use Rattle.c_mean.proofs.LayoutLemmas.{element_is, element_beyond, width_at, widths_length, sum_next-le}
use Rattle.c_mean.proofs.layout.element_of_global.Goals as goal

pub bounds-words-words_before_global : goal.bounds-words-words_before_global
bounds-words-words_before_global c =
    let all : c.args.a < length (widths_of c.args.facts.now) = omega (arith, widths_length c.args.facts.now) in
    omega (arith, c.if-index-facts.true, c.words_before_global.ensures, width_at c.args.facts.now c.args.a (record { words = 0; start = 0 }) c.requires.there, sum_next-le (widths_of c.args.facts.now) c.args.a all)

pub returns-then-index-facts : goal.returns-then-index-facts
returns-then-index-facts c =
    let all : c.args.a < length (widths_of c.args.facts.now) = omega (arith, widths_length c.args.facts.now) in
    element_is (widths_of c.args.facts.now) c.args.words.now c.args.a c.args.index c.words_before_global.result _ c.requires.cut all (sym (width_at c.args.facts.now c.args.a (record { words = 0; start = 0 }) c.requires.there)) c.words_before_global.ensures c.if-index-facts.true

pub returns-else-index-facts : goal.returns-else-index-facts
returns-else-index-facts c =
    let all : c.args.a < length (widths_of c.args.facts.now) = omega (arith, widths_length c.args.facts.now) in
    element_beyond (widths_of c.args.facts.now) c.args.words.now c.args.a c.args.index _ _ c.requires.cut all (sym (width_at c.args.facts.now c.args.a (record { words = 0; start = 0 }) c.requires.there)) c.if-index-facts.false
