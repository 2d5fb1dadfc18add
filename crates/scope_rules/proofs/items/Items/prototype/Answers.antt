use Rattle.scope_rules.proofs.Common.{rules, ◌≡◌, ◌++◌, ◌∙◌, sym, ap, map, length, false, option_map, length-map, name_tree, Rule, Meaning, find, bound, broken, least_of, function_of, is_missing, is_defined, function_faults, main_faults, with_function, prototype_faults}
use Rattle.scope_rules.proofs.Least.{least_of_then}
use Rattle.scope_rules.proofs.items.Items.prototype.Goals as goal

pub returns-clause-faults : goal.returns-clause-faults
returns-clause-faults c =
    let old = c.args.self.now.place.least in
    let o1 = c.note_if.new.least in
    let o2 = c.check_function.new.least in
    let o3 = c.check_main.new.least in
    let o4 = c.prototype_params.new.self.least in
    let defs = c.args.self.now.definitions in
    let names = c.args.self.now.place.names in
    let raw = c.args.raw.now in
    let n = name_tree raw.name in
    let g = raw.gives in
    let ps = map (option_map name_tree) raw.params.items in
    let k = length ps in
    let k0 : c.len-params.result ≡ length raw.params.items = search rules in
    let k1 : c.len-params.result ≡ k = k0 ∙ sym (length-map raw.params.items (option_map name_tree)) in
    let d1 : c.find-definition.result ≡ find n.text defs = c.find-definition.ensures ∙ ap (λ t. find t defs) c.deref.ensures.value in
    let f1 : c.find-found.result ≡ find n.text names = c.find-found.ensures ∙ ap (λ t. find t names) c.deref-2.ensures.value in
    let m1 : c.is_missing.result ≡ is_missing (find n.text defs) = c.is_missing.ensures ∙ ap is_missing d1 in
    let b1 : c.bind.new.self ≡ with_function defs names g n k (is_defined (find n.text names)) =
    c.in_ok-bind.ensures.names
    ∙ (ap (λ t. bound names t (Meaning.Function c.function_of.result g c.len-params.result c.is_defined.result)) c.deref-3.ensures.value
    ∙ (ap (λ x. bound names n.text (Meaning.Function x g c.len-params.result c.is_defined.result)) (c.function_of.ensures ∙ ap function_of d1)
    ∙ (ap (λ x. bound names n.text (Meaning.Function (function_of (find n.text defs)) g x c.is_defined.result)) k1
    ∙ ap (λ x. bound names n.text (Meaning.Function (function_of (find n.text defs)) g k x)) (c.is_defined.ensures ∙ ap is_defined f1)))) in
    let names4 = with_function defs names g n k (is_defined (find n.text names)) in
    let fa = broken (is_missing (find n.text defs)) n.at Rule.Unknown in
    let fb = function_faults false g k n.at (find n.text names) in
    let fc = main_faults n k in
    let fd = prototype_faults names4 (length names4) ps in
    let e1 : o1 ≡ least_of old fa = c.note_if.ensures ∙ ap (λ x. least_of old (broken x n.at Rule.Unknown)) m1 in
    let e2 : o2 ≡ least_of o1 fb = c.check_function.ensures ∙ (ap (λ x. least_of o1 (function_faults false g x n.at c.find-found.result)) k1 ∙ ap (λ x. least_of o1 (function_faults false g k n.at x)) f1) in
    let e3 : o3 ≡ least_of o2 fc = c.check_main.ensures ∙ ap (λ x. least_of o2 (main_faults n x)) k1 in
    let e4 : o4 ≡ least_of o3 fd = c.in_ok-prototype_params.ensures.faults ∙ (ap (λ x. least_of o3 (prototype_faults x (length x) (map (option_map name_tree) c.deref-4.result.now))) b1 ∙ ap (λ x. least_of o3 (prototype_faults names4 (length names4) (map (option_map name_tree) x))) c.deref-4.ensures.value) in
    least_of_then old o1 o4 fa (fb ++ (fc ++ fd)) e1 (least_of_then o1 o2 o4 fb (fc ++ fd) e2 (least_of_then o2 o3 o4 fc fd e3 e4))
