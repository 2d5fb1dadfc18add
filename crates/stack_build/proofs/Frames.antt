-- A plan that code may rely on is of a program whose frames all fit.
use Rattle.stack_build.proofs.Common.{◌≡◌, ℕ, suc, ◌+◌, ◌<◌, ◌≤◌, false, List, [], ◌∷◌, length, refl, ap, arith, None, option_map, slice_index, FlatCode, Plan, IsEnough, weights_of, frame_refusal, weights-count}
use Rattle.std.proofs.lemmas.Bool.Decides.{nat_tests}
use Rattle.checkpoint_place.specs.Refusal.{is_too_large, refusal_from}
use Rattle.stack_build.specs.Refusals.{of_place}
use Rattle.stack_plan.proofs.Enough.{weight-at}

fit-tests : (max_path w : ℕ) → w ≤ max_path → w ≤ 2032 → is_too_large max_path w ≡ false
fit-tests max_path w h k = grind (arith, nat_tests)

pub none-refused : (max_path base : ℕ) (ws : List ℕ) → ((k : ℕ) → k < length ws → (slice_index ws k ≤ max_path) × (slice_index ws k ≤ 2032)) → refusal_from max_path base ws ≡ None
none-refused max_path base [] h = refl
none-refused max_path base (w ∷ ws) h =
    let here = h 0 (omega arith) in
    let e = fit-tests max_path w here.0 here.1 in
    rw e (none-refused max_path (base + 1) ws (λ k lt. h (suc k) (omega arith)))

pub none-too-large : (code : FlatCode) (max_path : ℕ) (plan : Plan) → IsEnough code max_path plan → refusal_from max_path 0 (weights_of code) ≡ None
none-too-large code max_path plan h =
    none-refused max_path 0 (weights_of code)
    (λ k lt. let there : k < length code.functions = omega (arith, weights-count code.functions) in
    let is = weight-at code.functions k there in
    (omega (arith, h.bound k there, h.most k there), omega (arith, h.frame k there)))

pub frames-fit : (code : FlatCode) (max_path : ℕ) (plan : Plan) → IsEnough code max_path plan → frame_refusal code max_path ≡ None
frames-fit code max_path plan h = ap (option_map of_place) (none-too-large code max_path plan h)
