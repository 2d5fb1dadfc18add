-- Numbers are filled in one after another.
use Rattle.std.proofs.Math.Seq.{take-suc}
use Rattle.thread_waits.proofs.Common.{◌≡◌, ℕ, suc, ◌-◌, ◌<◌, List, [], ◌∷◌, ◌++◌, length, take, replicate, sym, ◌∙◌, arith, append_assoc, slice_index, slice_set, set-append_right, length-take}

pub filled : (xs : List ℕ) (p m n none : ℕ) → p < length xs → m ≡ suc n →
    slice_set (take p xs ++ replicate m none) p (slice_index xs p) ≡ take (suc p) xs ++ replicate n none
filled xs p m n none h e =
    let l : length (take p xs) ≡ p = rw (length-take p xs) (omega arith) in
    let z : p - p ≡ 0 = omega arith in
    rw e (set-append_right (take p xs) (replicate (suc n) none) p p (slice_index xs p) l (omega arith)
    ∙ rw (z, take-suc xs p 0 h) (sym (append_assoc (take p xs) (slice_index xs p ∷ []) (replicate n none))))
