-- What a text has after several pieces that are appended.
use Rattle.std.proofs.Common.{◌≡◌, ℕ, List, ◌++◌, append_assoc, ap, ◌∙◌}
use Rattle.std.specs.Prelude.{OnOk, Result}
use Rattle.std.proofs.lemmas.Result.{on_ok_weaker}

regroup : (a b c d : List ℕ) → ((a ++ b) ++ c) ++ d ≡ a ++ ((b ++ c) ++ d)
regroup a b c d = simp append_assoc

-- three pieces, the last of which may find no memory
pub three-pieces : {T E : Type 0} (r : Result T E) (start a b c one two three : List ℕ) → one ≡ start ++ a → two ≡ one ++ b → OnOk r (three ≡ two ++ c) → OnOk r (three ≡ start ++ ((a ++ b) ++ c))
three-pieces r start a b c one two three h k last =
    on_ok_weaker r (λ e. e ∙ (ap (λ x. x ++ c) (k ∙ ap (λ x. x ++ b) h) ∙ regroup start a b c)) last

regroup-seven : (start a b c d e f g : List ℕ) → ((((((start ++ a) ++ b) ++ c) ++ d) ++ e) ++ f) ++ g ≡ start ++ ((((((a ++ b) ++ c) ++ d) ++ e) ++ f) ++ g)
regroup-seven start a b c d e f g = simp append_assoc

-- seven pieces, the last of which may find no memory
pub seven-pieces : {T E : Type 0} (r : Result T E) (start a b c d e f g n1 n2 n3 n4 n5 n6 n7 : List ℕ) → n1 ≡ start ++ a → n2 ≡ n1 ++ b → n3 ≡ n2 ++ c → n4 ≡ n3 ++ d → n5 ≡ n4 ++ e → n6 ≡ n5 ++ f → OnOk r (n7 ≡ n6 ++ g) →
    OnOk r (n7 ≡ start ++ ((((((a ++ b) ++ c) ++ d) ++ e) ++ f) ++ g))
seven-pieces r start a b c d e f g n1 n2 n3 n4 n5 n6 n7 h1 h2 h3 h4 h5 h6 last =
    let all = h6 ∙ ap (λ x. x ++ f) (h5 ∙ ap (λ x. x ++ e) (h4 ∙ ap (λ x. x ++ d) (h3 ∙ ap (λ x. x ++ c) (h2 ∙ ap (λ x. x ++ b) h1)))) in
    on_ok_weaker r (λ h. h ∙ (ap (λ x. x ++ g) all ∙ regroup-seven start a b c d e f g)) last
