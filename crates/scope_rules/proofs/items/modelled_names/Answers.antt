use Rattle.scope_rules.proofs.Common.{◌≡◌, ◌∷◌, ◌+◌, List, drop, get_or, sym, ap, ◌∙◌, get_or_default, all_calls, name_of, ModelledCall, with_calls, Binding, Meaning, drop_at}
use Rattle.scope_rules.proofs.items.modelled_names.Goals as goal

pub loop-call-preserved : goal.loop-call-preserved
loop-call-preserved c =
    let i = c.loop-call.call-index in
    let call : ModelledCall = get_or all_calls i ModelledCall.Accept in
    let cut : drop i all_calls ≡ call ∷ drop (i + 1) all_calls = drop_at all_calls i call c.loop-call-test.true (get_or_default all_calls i ModelledCall.Accept call c.loop-call-test.true) in
    let text : c.as_bytes.result.now ≡ name_of call = c.as_bytes.ensures.value ∙ c.name.ensures in
    let more : c.declare.new.self ≡ record { text = name_of call; meaning = Meaning.Modelled call } ∷ c.loop-call.names = c.in_ok-declare.ensures.names ∙ ap (λ t. record { text = t; meaning = Meaning.Modelled call } ∷ c.loop-call.names) text in
    ap (λ (names : List Binding). with_calls names (drop (i + 1) all_calls)) more ∙ (ap (with_calls c.loop-call.names) (sym cut) ∙ c.loop-call.invariant)
