use Rattle.source_runs.proofs.Common.{◌≡◌, ◌<◌, ◌^◌, List, length, map, sym, subst, arith, IfOk, replicate, sum, GlobalFact, rows_of, widths_of}
use Rattle.source_runs.proofs.interpreter.Interpreter.start_globals.Goals as goal

pub first_words-requires : goal.first_words-requires
first_words-requires c = subst (λ (gs : List GlobalFact). sum (widths_of gs) < 2 ^ 32) (sym c.globals.ensures) (omega (arith, c.requires.scoped.global_words))

pub returns-clause-rows : goal.returns-clause-rows
returns-clause-rows c = subst (λ (gs : List GlobalFact). IfOk c.first_words.result (λ words. rows_of (widths_of gs) words.items ≡ map (λ (g : GlobalFact). replicate g.words g.start) gs)) c.globals.ensures c.first_words.ensures.rows

pub returns-clause-count : goal.returns-clause-count
returns-clause-count c = subst (λ (gs : List GlobalFact). IfOk c.first_words.result (λ words. length words.items ≡ sum (widths_of gs))) c.globals.ensures c.first_words.ensures.count
