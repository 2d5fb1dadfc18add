use Rattle.std.proofs.lemmas.Result.{on_ok_weaker}
use Rattle.ready_tree.proofs.Common.{◌≡◌, ◌∙◌, ◌++◌, ◌∷◌, [], Option, Some, ap, sym, Entry, entries_of}
use Rattle.ready_tree.proofs.PlaceLaws.{entries_push}
use Rattle.ready_tree.proofs.places.keep.Goals as goal

pub returns-in-Some-clause-same : goal.returns-in-Some-clause-same
returns-in-Some-clause-same c =
    on_ok_weaker c.append.result
    (λ (is : c.append.new.places.items ≡ c.args.kept.now.items ++ Some c.in-Some.entry ∷ []).
    ap entries_of is ∙ entries_push c.args.kept.now.items c.in-Some.entry
    ∙ ap (λ (place : Option Entry). entries_of c.args.kept.now.items ++ entries_of (place ∷ [])) (sym c.in-Some.is))
    c.append.ensures.ok
