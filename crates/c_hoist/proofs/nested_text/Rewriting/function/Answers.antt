use Rattle.c_hoist.proofs.Common.{sym, ap, subst, ◌∙◌, [], ◌++◌, map, name_tree, raw_in_order, raw_stmt_trees, IsMaking, closed_each, made_by, all_hoisted}
use Rattle.c_hoist.proofs.Rewriting.{all_statements, places_of_function, making_or, places_of}
use Rattle.c_hoist.proofs.nested_text.Rewriting.function.Goals as goal

pub returns-clause-read : goal.returns-clause-read
returns-clause-read c = λ all read h.
    let raw = c.args.raw.now in
    let n = name_tree raw.name in
    let first = c.in_ok-resolver.resolver in
    let last = c.in_ok-ended.ended.resolver in
    let ss = all_hoisted 0 (raw_stmt_trees raw.body.items) in
    let begun = subst (λ ps. IsMaking (made_by first) all read raw.gives n (map name_tree ps) []) c.deref.ensures.value (c.in_ok-resolver.ensures all read h) in
    let same = ap (making_or (made_by first)) (rw c.deref-2.ensures.value at c.in_ok-ended.ensures) in
    let made = all_statements (made_by first) (made_by last) all read raw.gives n (map name_tree raw.params.items) ss same begun in
    c.in_ok-resolver-2.ensures all read raw.gives n (map name_tree raw.params.items) ss
    (subst (λ os. IsMaking (closed_each os (made_by last)) all read raw.gives n (map name_tree raw.params.items) ss) (sym made.finished) made)

pub returns-clause-places : goal.returns-clause-places
returns-clause-places c =
    let raw = c.args.raw.now in
    let ss = all_hoisted 0 (raw_stmt_trees raw.body.items) in
    let places = ap places_of (rw c.deref-2.ensures.value at c.in_ok-ended.ensures) in
    places ∙ ap (λ ps. c.args.self.places.items ++ ps) (sym (places_of_function raw.gives (name_tree raw.name) (map name_tree raw.params.items) (raw_in_order ss)))
