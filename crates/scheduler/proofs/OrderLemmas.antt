-- The order of ranks is a strict total order.
use Rattle.scheduler.proofs.Common.{◌≡◌, ◌≢◌, ℕ, true, false, ℤ, pos, negsuc, arith, nat_tests, ranks_below, comes_before}

pub irrefl : (s : ℤ) (l n : ℕ) → ranks_below s l n s l n ≡ false
irrefl (pos s) l n = grind (arith, nat_tests)
irrefl (negsuc s) l n = grind (arith, nat_tests)

asym : (s : ℤ) (l n : ℕ) (s' : ℤ) (l' n' : ℕ) → ranks_below s l n s' l' n' ≡ true → ranks_below s' l' n' s l n ≡ false
asym (pos s) l n (pos s') l' n' h = grind (arith, nat_tests)
asym _ l n _ l' n' h = grind (arith, nat_tests)

total : (s : ℤ) (l n : ℕ) (s' : ℤ) (l' n' : ℕ) → n ≢ n' → ranks_below s l n s' l' n' ≡ false → ranks_below s' l' n' s l n ≡ true
total (pos s) l n (pos s') l' n' ne h = grind (arith, nat_tests)
total _ l n _ l' n' ne h = grind (arith, nat_tests)

cotrans : (a : ℤ) (la na : ℕ) (b : ℤ) (lb nb : ℕ) (c : ℤ) (lc nc : ℕ) → ranks_below a la na b lb nb ≡ false → ranks_below b lb nb c lc nc ≡ false →
    ranks_below a la na c lc nc ≡ false
cotrans (pos a) la na (pos b) lb nb (pos c) lc nc p q = grind (arith, nat_tests)
cotrans (pos a) la na (pos b) lb nb (negsuc c) lc nc p q = grind (arith, nat_tests)
cotrans (pos a) la na (negsuc b) lb nb (pos c) lc nc p q = grind (arith, nat_tests)
cotrans (pos a) la na (negsuc b) lb nb (negsuc c) lc nc p q = grind (arith, nat_tests)
cotrans (negsuc a) la na (pos b) lb nb (pos c) lc nc p q = grind (arith, nat_tests)
cotrans (negsuc a) la na (pos b) lb nb (negsuc c) lc nc p q = grind (arith, nat_tests)
cotrans (negsuc a) la na (negsuc b) lb nb (pos c) lc nc p q = grind (arith, nat_tests)
cotrans (negsuc a) la na (negsuc b) lb nb (negsuc c) lc nc p q = grind (arith, nat_tests)

module _ (score : ℕ → ℤ) (last : ℕ → ℕ) where
  pub comes_before-self : (node : ℕ) → comes_before score last node node ≡ false
  comes_before-self node = irrefl (score node) (last node) node

  pub comes_before-asym : (a b : ℕ) → comes_before score last a b ≡ true → comes_before score last b a ≡ false
  comes_before-asym a b h = asym (score a) (last a) a (score b) (last b) b h

  pub comes_before-total : (a b : ℕ) → a ≢ b → comes_before score last a b ≡ false → comes_before score last b a ≡ true
  comes_before-total a b ne h = total (score a) (last a) a (score b) (last b) b ne h

  pub comes_before-cotrans : (a b c : ℕ) → comes_before score last a b ≡ false → comes_before score last b c ≡ false → comes_before score last a c ≡ false
  comes_before-cotrans a b c p q = cotrans (score a) (last a) a (score b) (last b) b (score c) (last c) c p q
