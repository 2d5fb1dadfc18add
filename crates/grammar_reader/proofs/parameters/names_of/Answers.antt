use Rattle.grammar_reader.proofs.Common.{◌≡◌, ◌∙◌, ◌∷◌, ◌++◌, [], List, Option, Some, None, map, append-nil, sym, ap, option_map, map-append, name_tree, names_in}
use Rattle.c_tree.specs.declared.raw_expressions.Name.{Name}
use Rattle.grammar_reader.proofs.ParameterRules.{names_append}
use Rattle.grammar_reader.proofs.parameters.names_of.Goals as goal

names_more : (ps : List (Option Name)) (p : Option Name) → names_in (map (option_map name_tree) (ps ++ (p ∷ []))) ≡ names_in (map (option_map name_tree) ps) ++ names_in (option_map name_tree p ∷ [])
names_more ps p = ap names_in (map-append (option_map name_tree) ps (p ∷ [])) ∙ names_append (map (option_map name_tree) ps) (option_map name_tree p)

with_none : (ps : List (Option Name)) (p : Option Name) (ns : List Name) → p ≡ None → map name_tree ns ≡ names_in (map (option_map name_tree) ps) → map name_tree ns ≡ names_in (map (option_map name_tree) (ps ++ (p ∷ [])))
with_none ps None ns e h = h ∙ sym (names_more ps None ∙ append-nil (names_in (map (option_map name_tree) ps)))
with_none ps (Some n) ns e h = cc

with_some : (ps : List (Option Name)) (p : Option Name) (n : Name) (ns new : List Name) → p ≡ Some n → map name_tree ns ≡ names_in (map (option_map name_tree) ps) → new ≡ ns ++ (n ∷ []) → map name_tree new ≡ names_in (map (option_map name_tree) (ps ++ (p ∷ [])))
with_some ps p n ns new e h k =
    ap (map name_tree) k ∙ (map-append name_tree ns (n ∷ []) ∙ (ap (λ l. l ++ (name_tree n ∷ [])) h ∙ sym (ap (λ o. names_in (map (option_map name_tree) (ps ++ (o ∷ [])))) e ∙ names_more ps (Some n))))

pub loop-param-preserved-in-Continue-1 : goal.loop-param-preserved-in-Continue-1
loop-param-preserved-in-Continue-1 c = with_some c.loop-param.yielded c.in-Some.param c.in-Some-param.name c.loop-param.names.items c.push.new.self.items c.in-Some-param.is c.loop-param.invariant c.in_ok-push.ensures.items

pub loop-param-preserved : goal.loop-param-preserved
loop-param-preserved c = with_none c.loop-param.yielded c.in-Some.param c.loop-param.names.items c.in_default.is c.loop-param.invariant
