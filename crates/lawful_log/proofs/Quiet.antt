-- Steps without an entry come to one place from which the log has one.
use Rattle.lawful_log.proofs.Common.{◌≡◌, ℕ, zero, suc, Option, Some, None, refl, ◌∙◌, ap, and_then, World, Setting, step, quiet_world, after_quiet}

module _ (s : Setting) where
  stuck : (o : Option World) (m : ℕ) (b : World) (P : Type 0) → o ≡ None → and_then o (after_quiet s m) ≡ Some b → P
  stuck None m b P e q = absurd (cc)
  stuck (Some v) m b P e q = absurd (cc)

  both_on : (n m : ℕ) (o : Option World) (a b : World) →
      ((v : World) → after_quiet s n v ≡ Some a → after_quiet s m v ≡ Some b → (n ≡ m) × (a ≡ b)) →
      and_then o (after_quiet s n) ≡ Some a → and_then o (after_quiet s m) ≡ Some b → (suc n ≡ suc m) × (a ≡ b)
  both_on n m None a b ih p q = absurd (cc)
  both_on n m (Some v) a b ih p q = let e : (n ≡ m) × (a ≡ b) = ih v p q in (ap suc e.0, e.1)

  pub one_place : (n m : ℕ) (w a b : World) → after_quiet s n w ≡ Some a → quiet_world (step s a) ≡ None →
      after_quiet s m w ≡ Some b → quiet_world (step s b) ≡ None → (n ≡ m) × (a ≡ b)
  one_place zero zero w a b p la q lb = (refl, cc)
  one_place zero (suc m) w a b p la q lb =
      let e : w ≡ a = cc in stuck (quiet_world (step s w)) m b _ (ap (λ v. quiet_world (step s v)) e ∙ la) q
  one_place (suc n) zero w a b p la q lb =
      let e : w ≡ b = cc in stuck (quiet_world (step s w)) n a _ (ap (λ v. quiet_world (step s v)) e ∙ lb) p
  one_place (suc n) (suc m) w a b p la q lb =
      both_on n m (quiet_world (step s w)) a b (λ v p' q'. one_place n m v a b p' la q' lb) p q
