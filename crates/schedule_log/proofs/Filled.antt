-- A list in front of eight zeros, of which it takes the place of the first.
use Rattle.schedule_log.proofs.Common.{◌≡◌, ℕ, ℤ, pos, ◌-◌, ◌≤◌, List, ◌++◌, length, drop, ◌∙◌, arith, length-append, length-drop, replicate, drop-replicate, drop_at}

pub filled : (values : List ℤ) (n : ℕ) → length values ≡ n → n ≤ 8
    → (length (values ++ drop n (replicate 8 (pos 0))) ≡ 8) × (drop n (values ++ drop n (replicate 8 (pos 0))) ≡ replicate (8 - n) (pos 0))
filled values n e most = (
  omega (arith, length-append values (drop n (replicate 8 (pos 0))), length-drop n (replicate 8 (pos 0))),
  drop_at values (drop n (replicate 8 (pos 0))) n e ∙ drop-replicate n 8 (pos 0),
)
