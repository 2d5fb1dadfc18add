use Rattle.scope_rules.proofs.Common.{◌∙◌, subst, sofar_of, Agrees}
use Rattle.scope_rules.proofs.Agreeing.{agrees}
use Rattle.scope_rules.proofs.resolver.Resolver.new.Goals as goal

pub returns : goal.returns
returns c =
    let w = c.in_ok-new.field-0 in
    record {
      defined = c.in_ok-new.ensures.definitions ∙ c.in_ok-definitions.ensures;
      sofar = subst (Agrees (sofar_of w)) c.in_ok-new.ensures.sofar (agrees (sofar_of w));
      faults = c.in_ok-new.ensures.faults;
      counted = λ h. c.in_ok-new.ensures.counted;
    }
