-- The order of clients is a strict total order.
use Rattle.stride_rule.proofs.Common.{◌≡◌, ◌≢◌, ℕ, ◌≤◌, true, false, arith, nat_tests, goes_before}

pub goes_before-self : (p n : ℕ) → goes_before p n p n ≡ false
goes_before-self p n = grind (arith, nat_tests)

pub goes_before-asym : (p n q m : ℕ) → goes_before p n q m ≡ true → goes_before q m p n ≡ false
goes_before-asym p n q m h = grind (arith, nat_tests)

pub goes_before-total : (p n q m : ℕ) → n ≢ m → goes_before p n q m ≡ false → goes_before q m p n ≡ true
goes_before-total p n q m ne h = grind (arith, nat_tests)

pub goes_before-cotrans : (p n q m r o : ℕ) → goes_before p n q m ≡ false → goes_before q m r o ≡ false → goes_before p n r o ≡ false
goes_before-cotrans p n q m r o h k = grind (arith, nat_tests)

-- what another doesn't go before has no greater pass
pub not_before-le : (p n q m : ℕ) → goes_before p n q m ≡ false → q ≤ p
not_before-le p n q m h = grind (arith, nat_tests)
