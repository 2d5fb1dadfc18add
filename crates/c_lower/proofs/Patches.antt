-- A jump that is put with no target, and replaced when its target is known.
use Rattle.c_lower.proofs.Common.{◌≡◌, ◌+◌, ℕ, List, [], ◌∷◌, ◌++◌, length, length-append, append_assoc, sym, ap, refl, ◌∙◌, arith, length-set, set, Infix, ExprTree, Conditional, Op, expr_size, expr_code, truth_code, operand_code}
use Rattle.std.proofs.Math.Seq.{set-append_seam}
use Rattle.c_lower.proofs.CodeSizes.{expr_length}
use Rattle.c_lower.proofs.ExprGlue.{grown, conditional_glued}
use Rattle.c_lower.proofs.Glue.{glued3}

-- as if it had been put so at once
pub patched : (s t u v : List Op) (x y : Op) (at : ℕ) (code : ℕ → List Op) → at ≡ length s → t ≡ s ++ (x ∷ []) → u ≡ t ++ code (length t) → v ≡ set u at y → v ≡ (s ++ (y ∷ [])) ++ code (length s + 1)
patched s t u v x y at code is_at e f g =
    let one : length t ≡ length s + 1 = ap length e ∙ length-append s (x ∷ []) in
    let whole : u ≡ s ++ (x ∷ code (length s + 1)) = f ∙ ap (λ n. t ++ code n) one ∙ ap (λ l. l ++ code (length s + 1)) e ∙ append_assoc s (x ∷ []) (code (length s + 1)) in
    g
    ∙ ap (λ n. set u n y) is_at
    ∙ ap (λ l. set l (length s) y) whole
    ∙ set-append_seam s x (code (length s + 1)) y
    ∙ sym (append_assoc s (y ∷ []) (code (length s + 1)))

one_longer : (s : List Op) (y : Op) → length (s ++ (y ∷ [])) ≡ length s + 1
one_longer s y = length-append s (y ∷ [])

pub conditional_patched : (c0 c1 d2 d3 d4 d5 c5 : List Op) (c a b : ExprTree) (k test jump : ℕ) → c1 ≡ c0 ++ expr_code c (length c0) k → test ≡ length c1 → d2 ≡ c1 ++ (Op.Jump 0 ∷ []) → d3 ≡ d2 ++ expr_code a (length d2) k → jump ≡ length d3 → d4 ≡ set d3 test (Op.JumpZero k (length d3 + 1)) ++ (Op.Jump 0 ∷ []) → d5 ≡ d4 ++ expr_code b (length d4) k → c5 ≡ set d5 jump (Op.Jump (length d5 + 0)) → c5 ≡ c0 ++ expr_code (Conditional c a b) (length c0) k
conditional_patched c0 c1 d2 d3 d4 d5 c5 c a b k test jump e1 is_test e2 e3 is_jump e4 e5 p5 =
    let second : ℕ = length d3 + 1 in
    let end : ℕ = length d5 + 0 in
    let c3 : List Op = set d3 test (Op.JumpZero k second) in
    let same3 : length c3 ≡ length d3 = length-set d3 test (Op.JumpZero k second) in
    let after2 : length d2 ≡ length c1 + 1 = ap length e2 ∙ one_longer c1 (Op.Jump 0) in
    let after3 : length d3 ≡ length d2 + expr_size a = grown d2 d3 (expr_code a (length d2) k) (expr_size a) e3 (expr_length a (length d2) k) in
    let after4 : length d4 ≡ length c3 + 1 = ap length e4 ∙ one_longer c3 (Op.Jump 0) in
    let after5 : length d5 ≡ length d4 + expr_size b = grown d4 d5 (expr_code b (length d4) k) (expr_size b) e5 (expr_length b (length d4) k) in
    let c2 : List Op = c1 ++ (Op.JumpZero k second ∷ []) in
    let c4 : List Op = c3 ++ (Op.Jump end ∷ []) in
    let f3 : c3 ≡ c2 ++ expr_code a (length c2) k = patched c1 d2 d3 c3 (Op.Jump 0) (Op.JumpZero k second) test (λ n. expr_code a n k) is_test e2 e3 refl ∙ ap (λ n. c2 ++ expr_code a n k) (sym (one_longer c1 (Op.JumpZero k second))) in
    let f5 : c5 ≡ c4 ++ expr_code b (length c4) k = patched c3 d4 d5 c5 (Op.Jump 0) (Op.Jump end) jump (λ n. expr_code b n k) (is_jump ∙ sym same3) e4 e5 p5 ∙ ap (λ n. c4 ++ expr_code b n k) (sym (one_longer c3 (Op.Jump end))) in
    let at_second : second ≡ length c1 + expr_size a + 2 = omega arith in
    let at_end : end ≡ length c3 + expr_size b + 1 = omega arith in
    conditional_glued c0 c1 c2 c3 c4 c5 c a b k second end e1 at_second refl f3 at_end refl f5

pub and_patched : (c0 d1 d2 c3 : List Op) (r : ExprTree) (k test : ℕ) → test ≡ length c0 → d1 ≡ c0 ++ (Op.Jump 0 ∷ []) → d2 ≡ d1 ++ expr_code r (length d1) k → c3 ≡ set d2 test (Op.JumpZero k (length d2 + 3)) ++ truth_code k (length d2 + 3) (length d2 + 4) → c3 ≡ c0 ++ operand_code Infix.LogicalAnd r (length c0) k
and_patched c0 d1 d2 c3 r k test is_test e1 e2 e3 =
    let second : ℕ = length d2 + 3 in
    let end : ℕ = length d2 + 4 in
    let c2 : List Op = set d2 test (Op.JumpZero k second) in
    let otherwise : ℕ = length c0 + 1 + expr_size r + 3 in
    let after1 : length d1 ≡ length c0 + 1 = ap length e1 ∙ one_longer c0 (Op.Jump 0) in
    let after2 : length d2 ≡ length d1 + expr_size r = grown d1 d2 (expr_code r (length d1) k) (expr_size r) e2 (expr_length r (length d1) k) in
    let at_second : second ≡ otherwise = omega arith in
    let at_end : end ≡ otherwise + 1 = omega arith in
    glued3 c0 (c0 ++ (Op.JumpZero k second ∷ [])) c2 c3 _ _ _
    (ap (λ n. c0 ++ (Op.JumpZero k n ∷ [])) at_second)
    (patched c0 d1 d2 c2 (Op.Jump 0) (Op.JumpZero k second) test (λ n. expr_code r n k) is_test e1 e2 refl)
    (e3 ∙ ap (λ n. c2 ++ truth_code k n end) at_second ∙ ap (λ n. c2 ++ truth_code k otherwise n) at_end)

pub or_patched : (c0 d1 d2 c3 : List Op) (r : ExprTree) (k jump : ℕ) → jump ≡ length c0 + 1 → d1 ≡ c0 ++ (Op.JumpZero k (length c0 + 2) ∷ Op.Jump 0 ∷ []) → d2 ≡ d1 ++ expr_code r (length d1) k → c3 ≡ set d2 jump (Op.Jump (length d2 + 1)) ++ truth_code k (length d2 + 3) (length d2 + 4) → c3 ≡ c0 ++ operand_code Infix.LogicalOr r (length c0) k
or_patched c0 d1 d2 c3 r k jump is_jump e1 e2 e3 =
    let right : ℕ = length c0 + 2 in
    let one : ℕ = length d2 + 1 in
    let second : ℕ = length d2 + 3 in
    let end : ℕ = length d2 + 4 in
    let truth : ℕ = length c0 + 2 + expr_size r + 1 in
    let d0 : List Op = c0 ++ (Op.JumpZero k right ∷ []) in
    let c2 : List Op = set d2 jump (Op.Jump one) in
    let f1 : d1 ≡ d0 ++ (Op.Jump 0 ∷ []) = e1 ∙ sym (append_assoc c0 (Op.JumpZero k right ∷ []) (Op.Jump 0 ∷ [])) in
    let after0 : length d0 ≡ length c0 + 1 = one_longer c0 (Op.JumpZero k right) in
    let after1 : length d1 ≡ length d0 + 1 = ap length f1 ∙ one_longer d0 (Op.Jump 0) in
    let after2 : length d2 ≡ length d1 + expr_size r = grown d1 d2 (expr_code r (length d1) k) (expr_size r) e2 (expr_length r (length d1) k) in
    let at_first : length d0 + 1 ≡ length c0 + 2 = omega arith in
    let at_one : one ≡ truth = omega arith in
    let at_second : second ≡ truth + 2 = omega arith in
    let at_end : end ≡ truth + 3 = omega arith in
    glued3 c0 (d0 ++ (Op.Jump one ∷ [])) c2 c3 _ _ _
    (append_assoc c0 (Op.JumpZero k right ∷ []) (Op.Jump one ∷ []) ∙ ap (λ n. c0 ++ (Op.JumpZero k right ∷ Op.Jump n ∷ [])) at_one)
    (patched d0 d1 d2 c2 (Op.Jump 0) (Op.Jump one) jump (λ n. expr_code r n k) (is_jump ∙ sym after0) f1 e2 refl ∙ ap (λ n. (d0 ++ (Op.Jump one ∷ [])) ++ expr_code r n k) at_first)
    (e3 ∙ ap (λ n. c2 ++ truth_code k n end) at_second ∙ ap (λ n. c2 ++ truth_code k (truth + 2) n) at_end)
