use Rattle.source_runs.proofs.Common.{◌≡◌, ◌+◌, ◌-◌, ◌++◌, ℕ, length, take, get_or, ap, ◌∙◌, refl, replicate, GlobalFact, take_all, rows_of, widths_of}
use Rattle.source_runs.proofs.Words.{first-count, first-resized, first-rows, first_of}
use Rattle.source_runs.proofs.layout.first_words.Goals as goal

pub loop-fact-preserved : goal.loop-fact-preserved
loop-fact-preserved c =
    let l = c.loop-fact in
    let none : GlobalFact = record { words = 0; start = 0 } in
    let g = get_or c.args.facts.now l.fact-index none in
    let more = c.len.result + g.words in
    let all : more ≡ length l.words.items + g.words = ap (λ (n : ℕ). n + g.words) (c.len.ensures ∙ l.words.ok.0) in
    let made : c.resize.new.self.items ≡ take more l.words.items ++ replicate (more - length l.words.items) g.start =
    c.in_ok-resize.ensures.items ∙ ap (λ (n : ℕ). take more l.words.items ++ replicate (more - n) g.start) l.words.ok.0 in
    first-resized c.args.facts.now l.fact-index g none l.words.items c.resize.new.self.items more c.loop-fact-test.true refl l.invariant all made

pub returns-clause-rows : goal.returns-clause-rows
returns-clause-rows c =
    let facts = c.args.facts.now in
    ap (rows_of (widths_of facts)) (c.loop-fact.invariant ∙ ap first_of (take_all c.loop-fact.fact-index facts c.loop-fact-test.false)) ∙ first-rows facts

pub returns-clause-count : goal.returns-clause-count
returns-clause-count c =
    let facts = c.args.facts.now in
    ap length (c.loop-fact.invariant ∙ ap first_of (take_all c.loop-fact.fact-index facts c.loop-fact-test.false)) ∙ first-count facts
