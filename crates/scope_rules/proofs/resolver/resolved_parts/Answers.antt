use Rattle.scope_rules.proofs.Common.{◌≡◌, ◌∙◌, refl, sym, ap, subst, IsWellScoped, function_of, sofar_of, IsResolved, IsRefused}
use Rattle.scope_rules.proofs.LeastFaults.{refused}
use Rattle.scope_rules.proofs.Exceeded.{tree_from}
use Rattle.scope_rules.proofs.Resolved.{no_main, over_limit, is_resolved, is_well_scoped}
use Rattle.scope_rules.proofs.resolver.resolved_parts.Goals as goal

pub returns-in-Some-clause-refused : goal.returns-in-Some-clause-refused
returns-in-Some-clause-refused c = λ is h. subst (λ r. IsRefused is r) (sym c.refusal.ensures) (refused is c.in-Some.fault (sym h.faults ∙ c.in-Some.is))

pub returns-in_default-find-clause-refused : goal.returns-in_default-find-clause-refused
returns-in_default-find-clause-refused c = λ is h.
    let w = c.args.items in
    no_main is (sofar_of w) w.definitions c.find.result w.place.least h.sofar h.defined c.find.ensures h.faults c.in_default.is c.in_default-find.is

pub returns-in-Some-exceeded-clause-refused : goal.returns-in-Some-exceeded-clause-refused
returns-in-Some-exceeded-clause-refused c = λ is h.
    let w = c.args.items in
    over_limit is (sofar_of w) w.definitions c.find.result w.place.least h.sofar h.defined c.find.ensures h.faults c.in_default.is w.place.site w.locals refl h.counted c.in-Some-find.main c.in-Some-exceeded.which c.in-Some-find.is
    (sym (c.exceeded.ensures (function_of c.find.result)) ∙ c.in-Some-exceeded.is)

pub returns-clause-scoped : goal.returns-clause-scoped
returns-clause-scoped c =
    let is = c.requires.source in
    let h = c.requires.read in
    let w = c.args.items in
    let m : c.function_of.result ≡ function_of c.find.result = c.function_of.ensures ∙ sym (ap function_of c.in-Some-find.is) in
    subst (λ z. IsWellScoped (tree_from (sofar_of w) z)) (sym m)
    (is_well_scoped is (sofar_of w) w.definitions c.find.result w.place.least h.sofar h.defined c.find.ensures h.faults c.in_default.is w.place.site w.locals refl h.counted c.in-Some-find.main c.in-Some-find.is
    (sym (c.exceeded.ensures (function_of c.find.result)) ∙ c.in_default-exceeded.is) c.requires.within)

pub returns-clause-resolved : goal.returns-clause-resolved
returns-clause-resolved c = λ is h.
    let w = c.args.items in
    let m : c.function_of.result ≡ function_of c.find.result = c.function_of.ensures ∙ sym (ap function_of c.in-Some-find.is) in
    subst (λ z. IsResolved is (tree_from (sofar_of w) z)) (sym m)
    (is_resolved is (sofar_of w) w.definitions c.find.result w.place.least h.sofar h.defined c.find.ensures h.faults c.in_default.is w.place.site w.locals refl h.counted c.in-Some-find.main c.in-Some-find.is
    (sym (c.exceeded.ensures (function_of c.find.result)) ∙ c.in_default-exceeded.is))
