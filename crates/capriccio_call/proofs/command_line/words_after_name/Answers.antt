use Rattle.capriccio_call.proofs.Common.{◌≡◌, ◌++◌, ◌∷◌, [], List, Option, Some, None, option_to_list, drop, refl, sym, ap, ◌∙◌, append_assoc, append-nil, subst, nil_from_length, into_iter_items, into_iter_steps}
use Rattle.capriccio_call.proofs.command_line.words_after_name.Goals as goal

-- what is behind the first of them
behind : {X : Type 0} (first : Option X) (items rest : List X) → items ≡ option_to_list first ++ rest → (first ≡ None → rest ≡ []) → rest ≡ drop 1 items
behind None items rest is none = none refl ∙ ap (drop 1) (sym (is ∙ none refl))
behind (Some x) items rest is none = ap (drop 1) (sym is)

starts : {X : Type 0} (words left rest all : List X) → words ≡ [] → left ≡ rest → rest ≡ drop 1 all → words ++ left ≡ drop 1 all
starts words left rest all none same is = ap (λ l. l ++ left) none ∙ same ∙ is

one_more : {X : Type 0} (all words grown left rest : List X) (word : X) → grown ≡ words ++ word ∷ [] → left ≡ word ∷ rest → words ++ left ≡ all → grown ++ rest ≡ all
one_more all words grown left rest word grows steps is = ap (λ l. l ++ rest) grows ∙ append_assoc words (word ∷ []) rest ∙ ap (λ l. words ++ l) (sym steps) ∙ is

ends : {X : Type 0} (all words left : List X) → left ≡ [] → words ++ left ≡ all → words ≡ all
ends all words left none is = sym (append-nil words) ∙ ap (λ l. words ++ l) (sym none) ∙ is

pub loop-word-init : goal.loop-word-init
loop-word-init c =
    starts _ _ _ (into_iter_items c.args.arguments) c.new-words.ensures.items (ap into_iter_items c.into_iter-word-iterator.ensures.into_iter_gives)
    (behind c.next-name.result (into_iter_items c.args.arguments) _ c.next-name.ensures.items
    (λ none. let steps = subst (λ r. into_iter_steps c.args.arguments r c.next-name.new.self) none c.next-name.ensures.cases in nil_from_length _ (sym c.next-name.new.self.rest.ok.0 ∙ steps.1)))

pub loop-word-preserved : goal.loop-word-preserved
loop-word-preserved c = one_more _ _ _ _ _ _ c.in_ok-push.ensures.items c.in-Some.ensures.steps.0 c.loop-word.invariant

pub returns : goal.returns
returns c = ends _ _ _ (nil_from_length _ (sym c.loop-word.word-iterator.rest.ok.0 ∙ c.in-None.ensures.steps.0)) c.loop-word.invariant
