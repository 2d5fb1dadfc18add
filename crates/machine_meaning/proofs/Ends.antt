-- The last operation of a lowered function is a return, so that another one follows each call.
use Rattle.segment_laws.proofs.OnePlace.{within}
use Rattle.machine_meaning.proofs.Common.{◌≡◌, ℕ, suc, ◌+◌, ◌<◌, Bool, true, false, List, [], ◌∷◌, ◌++◌, length, Option, Some, None, refl, sym, ap, ◌∙◌, subst, arith, ⊎_elim, slice_get, cases_eq, closing_code, first_temporary, function_ops, lowered, stmts_code, function_at, ProgramTree, IsWellScoped, FlatFunction, Op, site_of}
use Rattle.flat_code.specs.Codes as codes
use Rattle.machine_meaning.proofs.Lowered.{function_is}

-- ---- the last operation

-- the last operation of a list returns
pub record EndsInReturn (ops : List Op) : Type 0 where
  pub last : ℕ
  pub value : Option ℕ
  pub count : length ops ≡ last + 1
  pub there : slice_get ops last ≡ Some (Op.Return value)

closed : (front : List Op) (gives : Bool) (t : ℕ) → EndsInReturn (front ++ closing_code gives t)
closed [] true t = record { last = 1; value = Some t; count = refl; there = refl }
closed [] false t = record { last = 0; value = None; count = refl; there = refl }
closed (op ∷ front) gives t = let rest = closed front gives t in record { last = suc rest.last; value = rest.value; count = omega (arith, rest.count); there = rest.there }

pub function_ends : (program : ProgramTree) (scoped : IsWellScoped program) (f : ℕ) → f < length program.functions → EndsInReturn (codes.function_at (lowered program) f).ops
function_ends program scoped f lt =
    let tree = function_at program f in
    let ops : (codes.function_at (lowered program) f).ops ≡ function_ops tree = ap (λ (g : FlatFunction). g.ops) (function_is program scoped f lt) in
    subst EndsInReturn (sym ops) (closed (stmts_code tree.body 0 (first_temporary tree) 0 0) tree.gives (first_temporary tree))

-- no site
abbrev no_site : Option ℕ
no_site = None

-- a call isn't the last operation
pub before_last : (ops : List Op) (i s : ℕ) (op : Op) (ends : EndsInReturn ops) → slice_get ops i ≡ Some op → site_of op ≡ Some s → i < ends.last
before_last ops i s op ends e site = ⊎_elim
    (λ (same : i ≡ ends.last). absurd (let is : Some op ≡ Some (Op.Return ends.value) = sym e ∙ ap (slice_get ops) same ∙ ends.there in
    let op_is : op ≡ Op.Return ends.value = cc in
    let none : no_site ≡ Some s = sym (ap site_of op_is) ∙ site in cc))
    (λ (other : i ≡ ends.last → ⊥). let lt = within ops i op e in omega (arith, lt, ends.count, other))
    (cases_eq i ends.last)
