-- Linked calls along the frames of a thread, and the heights of their functions.
use Rattle.log_laws.proofs.Common.{◌≡◌, ℕ, ◌+◌, ◌≤◌, List, [], ◌∷◌, Option, Some, None, refl, subst, arith, cond, all-at, Pool, Op, FlatCode, members_of, LinkKind, kind_of, Checked, Frame, Calls, ReturnsInto, chain_below, IsStack, standing, is_linked, stands_at_link, called_at_links, height_of, chunks_added, IsCovered, AreCovered, root_of}
use Rattle.stack_certificate.specs.declared.certificates.Certificate.{Certificate}

pub added_is : (kind : LinkKind) → chunks_added kind ≡ cond (is_linked kind) 1 0
added_is LinkKind.Plain = refl
added_is _ = refl

-- a covered call leaves its caller high enough for the function that it enters
covers : (code : FlatCode) (certificate : Certificate) (heights : List ℕ) (f g : ℕ) (op : Op) → IsCovered code certificate heights f op → Calls code op g →
    height_of heights g + chunks_added (kind_of certificate op) ≤ height_of heights f
covers code certificate heights f g (Op.Call site d h args) covered calls =
    subst (λ (n : ℕ). height_of heights n + chunks_added (kind_of certificate (Op.Call site d h args)) ≤ height_of heights f) calls covered.0
covers code certificate heights f g (Op.CallTable site d t i s) covered calls =
    subst (λ (n : ℕ). height_of heights n + chunks_added (kind_of certificate (Op.CallTable site d t i s)) ≤ height_of heights f) calls.2
    (all-at (λ n. height_of heights n + chunks_added (kind_of certificate (Op.CallTable site d t i s)) ≤ height_of heights f) (members_of code t) calls.0 g covered calls.1)
covers code certificate heights f g _ covered calls = absurd calls

-- a frame and the one below it
one_below : (c : Checked) (heights : List ℕ) (frame below : Frame) (op : Option Op) → AreCovered c.flat c.certificate heights → standing c below ≡ op → ReturnsInto c frame below op →
    height_of heights frame.function + cond (stands_at_link c op) 1 0 ≤ height_of heights below.function
one_below c heights frame below None covered there returns = absurd returns
one_below c heights frame below (Some op) covered there returns =
    let high = covers c.flat c.certificate heights below.function frame.function op (covered below.function below.operation op there) returns.0 in
    omega (arith, high, added_is (kind_of c.certificate op))

pub stack_heights : (c : Checked) (heights : List ℕ) (pool : Pool) (chain : List ℕ) (frame : Frame) (below : List Frame) → AreCovered c.flat c.certificate heights → IsStack c pool chain frame below →
    called_at_links c (frame ∷ below) + height_of heights frame.function ≤ height_of heights (root_of frame below)
stack_heights c heights pool chain frame [] covered stack = omega arith
stack_heights c heights pool chain frame (next ∷ below) covered stack =
    let one = one_below c heights frame next (standing c next) covered refl stack.1.called in
    let rest = stack_heights c heights pool (chain_below frame.is_first chain) next below covered stack.2 in
    omega (arith, one, rest)
