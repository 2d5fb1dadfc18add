-- What the limits say of each part of a program.
use Rattle.scope_rules.proofs.Common.{ℕ, suc, ◌≡◌, ◌≤◌, refl, Bool, true, false, List, [], ◌∷◌, ◌++◌, length, map, sum, Option, Some, None, arith, nat_lt, if◌then◌else◌, Which, FunctionTree, ProgramTree, declared_words, program_sites, signature_of, signature_at, most_locals, most_params, exceeded}
use Rattle.scope_rules.proofs.NoFaults.{not_less}

pub record AreWithin (p : ProgramTree) : Type 0 where
  pub functions : length p.functions ≤ 4096
  pub sites : length (program_sites p) ≤ 65535
  pub globals : sum (map (λ g. g.words) p.globals) ≤ 65536
  pub tables : sum (map length p.tables) ≤ 65536
  pub locals : most_locals p.functions ≤ 4096
  pub params : most_params p.functions ≤ 6

not_this : (b : Bool) (w : Which) (o : Option Which) → (if b then Some w else o) ≡ None → (b ≡ false) × (o ≡ None)
not_this true w o h = cc
not_this false w o h = (refl, h)

pub within : (p : ProgramTree) → exceeded p ≡ None → AreWithin p
within p h =
    let a = not_this (nat_lt 4096 (length p.functions)) Which.Functions _ h in
    let b = not_this (nat_lt 65535 (length (program_sites p))) Which.Sites _ a.1 in
    let c = not_this (nat_lt 65536 (sum (map (λ g. g.words) p.globals))) Which.Globals _ b.1 in
    let d = not_this (nat_lt 65536 (sum (map length p.tables))) Which.Tables _ c.1 in
    let e = not_this (nat_lt 4096 (most_locals p.functions)) Which.Locals _ d.1 in
    let f = not_this (nat_lt 6 (most_params p.functions)) Which.Params _ e.1 in
    record {
      functions = not_less 4096 (length p.functions) a.0;
      sites = not_less 65535 (length (program_sites p)) b.0;
      globals = not_less 65536 (sum (map (λ g. g.words) p.globals)) c.0;
      tables = not_less 65536 (sum (map length p.tables)) d.0;
      locals = not_less 4096 (most_locals p.functions) e.0;
      params = not_less 6 (most_params p.functions) f.0;
    }

pub one_of_locals : (fs : List FunctionTree) (f : FunctionTree) (gs : List FunctionTree) → sum (declared_words f) ≤ most_locals (fs ++ f ∷ gs)
one_of_locals [] f gs = omega arith
one_of_locals (h ∷ fs) f gs = let k = one_of_locals fs f gs in omega arith

pub signature_small : (fs : List FunctionTree) (i : ℕ) → (signature_at (map signature_of fs) i).params ≤ most_params fs
signature_small (f ∷ fs) (suc i) = let k = signature_small fs i in omega arith
signature_small _ _ = omega arith
