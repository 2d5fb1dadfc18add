-- A list of words asks for one command.
use Rattle.std.proofs.Common.{◌≡◌, ◌∙◌, ℕ, refl, ap, sym, subst, false, List, [], ◌∷◌}
use Rattle.command_words.proofs.Common.{bytes_eq, bytes_eq-Decides, canonical_decimal, decimal_unique, Placement, Policy, Said, Positional, positionals_of, value_of, IsAudit, IsPlacement, IsPolicy, Request, Serve, Run, Build, Check, Graph, Demo, Audit, Budget, IsWordList}
use Rattle.std.proofs.Common.{true≢false}
use Rattle.command_words.specs.declared.options.Audit.{Audit as AuditOptions}
use Rattle.command_words.proofs.Lists.{name_of, said_in, whole_list, one_said}
use Rattle.command_words.proofs.Chosen.{one_audit, one_placement, one_policy}

all_said : (words : List (List ℕ)) (a b : Request) (is : IsWordList words a) (also : IsWordList words b)
    → ◌≡◌ {A = List Said} (Positional (name_of a) ∷ said_in words a is) (Positional (name_of b) ∷ said_in words b also)
all_said words a b is also =
    one_said words (Positional (name_of a) ∷ said_in words a is) (Positional (name_of b) ∷ said_in words b also) (whole_list words a is).whole
    (whole_list words b also).whole

other_command : (words : List (List ℕ)) (a b : Request) → IsWordList words a → IsWordList words b → bytes_eq (name_of a) (name_of b) ≡ false → ⊥
other_command words a b is also differ =
    let both = all_said words a b is also in
    let same : name_of a ≡ name_of b = cc in
    true≢false (sym ((bytes_eq-Decides (name_of a) (name_of b)).1 same) ∙ differ)

same_said : (words : List (List ℕ)) (a b : Request) (is : IsWordList words a) (also : IsWordList words b) → said_in words a is ≡ said_in words b also
same_said words a b is also = let both = all_said words a b is also in cc

same_words : (a b : List Said) (xs ys : List (List ℕ)) → a ≡ b → positionals_of a ≡ xs → positionals_of b ≡ ys → xs ≡ ys
same_words a b xs ys same is also = sym is ∙ ap positionals_of same ∙ also

same_placement : (a b : List Said) (p q : Placement) → a ≡ b → IsPlacement (value_of a) p → IsPlacement (value_of b) q → p ≡ q
same_placement a b p q same is also = one_placement (value_of b) p q (subst (λ (s : List Said). IsPlacement (value_of s) p) same is) also

same_policy : (a b : List Said) (p q : Policy) → a ≡ b → IsPolicy (value_of a) p → IsPolicy (value_of b) q → p ≡ q
same_policy a b p q same is also = one_policy (value_of b) p q (subst (λ (s : List Said). IsPolicy (value_of s) p) same is) also

same_audit : (x y : List Said) (a b : AuditOptions) → x ≡ y → IsAudit (value_of x) a → IsAudit (value_of y) b → a ≡ b
same_audit x y a b same is also = one_audit (value_of y) a b (subst (λ (s : List Said). IsAudit (value_of s) a) same is) also

pub one_request : (words : List (List ℕ)) (a b : Request) → IsWordList words a → IsWordList words b → a ≡ b
one_request words (Serve source p q) (Serve other r s) is also =
    let same = same_said words (Serve source p q) (Serve other r s) is also in
    let names : source ∷ [] ≡ other ∷ [] = same_words is.0 also.0 (source ∷ []) (other ∷ []) same is.1.positional also.1.positional in
    let placement : p ≡ r = same_placement is.0 also.0 p r same is.2 also.2 in
    let policy : q ≡ s = same_policy is.0 also.0 q s same is.3 also.3 in
    cc
one_request words (Run source image certificate p) (Run a b c q) is also =
    let same = same_said words (Run source image certificate p) (Run a b c q) is also in
    let names : source ∷ image ∷ certificate ∷ [] ≡ a ∷ b ∷ c ∷ [] = same_words is.0 also.0 (source ∷ image ∷ certificate ∷ [])
    (a ∷ b ∷ c ∷ []) same is.1.positional also.1.positional in
    let policy : p ≡ q = same_policy is.0 also.0 p q same is.2 also.2 in
    cc
one_request words (Build source image certificate p) (Build a b c q) is also =
    let same = same_said words (Build source image certificate p) (Build a b c q) is also in
    let names : source ∷ image ∷ certificate ∷ [] ≡ a ∷ b ∷ c ∷ [] = same_words is.0 also.0 (source ∷ image ∷ certificate ∷ [])
    (a ∷ b ∷ c ∷ []) same is.1.positional also.1.positional in
    let placement : p ≡ q = same_placement is.0 also.0 p q same is.2 also.2 in
    cc
one_request words (Check source image certificate) (Check a b c) is also =
    let same = same_said words (Check source image certificate) (Check a b c) is also in
    let names : source ∷ image ∷ certificate ∷ [] ≡ a ∷ b ∷ c ∷ [] = same_words is.0 also.0 (source ∷ image ∷ certificate ∷ [])
    (a ∷ b ∷ c ∷ []) same is.1.positional also.1.positional in
    cc
one_request words (Graph source p) (Graph other q) is also =
    let same = same_said words (Graph source p) (Graph other q) is also in
    let names : source ∷ [] ≡ other ∷ [] = same_words is.0 also.0 (source ∷ []) (other ∷ []) same is.1.positional also.1.positional in
    let placement : p ≡ q = same_placement is.0 also.0 p q same is.2 also.2 in
    cc
one_request words (Demo number) (Demo other) is also =
    let same = same_said words (Demo number) (Demo other) is also in
    let names : canonical_decimal number ∷ [] ≡ canonical_decimal other ∷ [] = same_words is.0 also.0 (canonical_decimal number ∷ [])
    (canonical_decimal other ∷ []) same is.1.positional also.1.positional in
    ap Demo (decimal_unique number other (cc))
one_request words (Audit source log options) (Audit a b others) is also =
    let same = same_said words (Audit source log options) (Audit a b others) is also in
    let names : source ∷ log ∷ [] ≡ a ∷ b ∷ [] = same_words is.0 also.0 (source ∷ log ∷ []) (a ∷ b ∷ []) same is.1.positional also.1.positional in
    let policy : options ≡ others = same_audit is.0 also.0 options others same is.2 also.2 in
    cc
one_request words (Budget source image certificate) (Budget a b c) is also =
    let same = same_said words (Budget source image certificate) (Budget a b c) is also in
    let names : source ∷ image ∷ certificate ∷ [] ≡ a ∷ b ∷ c ∷ [] = same_words is.0 also.0 (source ∷ image ∷ certificate ∷ [])
    (a ∷ b ∷ c ∷ []) same is.1.positional also.1.positional in
    cc
one_request words (Serve source p q) b is also = absurd (other_command words (Serve source p q) b is also refl)
one_request words (Run source image certificate p) b is also = absurd (other_command words (Run source image certificate p) b is also refl)
one_request words (Build source image certificate p) b is also = absurd (other_command words (Build source image certificate p) b is also refl)
one_request words (Check source image certificate) b is also = absurd (other_command words (Check source image certificate) b is also refl)
one_request words (Graph source p) b is also = absurd (other_command words (Graph source p) b is also refl)
one_request words (Demo number) b is also = absurd (other_command words (Demo number) b is also refl)
one_request words (Audit source log options) b is also = absurd (other_command words (Audit source log options) b is also refl)
one_request words (Budget source image certificate) b is also = absurd (other_command words (Budget source image certificate) b is also refl)
