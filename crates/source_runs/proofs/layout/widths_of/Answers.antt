use Rattle.source_runs.proofs.Common.{◌≡◌, ◌++◌, ◌∷◌, [], ℕ, List, get_or, ap, sym, ◌∙◌, map_more, take_all, GlobalFact}
use Rattle.c_mean.specs.Layout as rows
use Rattle.source_runs.proofs.layout.widths_of.Goals as goal

pub loop-fact-preserved : goal.loop-fact-preserved
loop-fact-preserved c =
    let l = c.loop-fact in
    let none : GlobalFact = record { words = 0; start = 0 } in
    let g = get_or c.args.facts.now l.fact-index none in
    let items : c.push.new.self.items ≡ l.widths.items ++ g.words ∷ [] = c.in_ok-push.ensures.items in
    items ∙ (ap (λ (xs : List ℕ). xs ++ g.words ∷ []) l.invariant ∙ sym (map_more (λ (h : GlobalFact). h.words) c.args.facts.now l.fact-index none c.loop-fact-test.true))

pub returns : goal.returns
returns c = c.loop-fact.invariant ∙ ap rows.widths_of (take_all c.loop-fact.fact-index c.args.facts.now c.loop-fact-test.false)
