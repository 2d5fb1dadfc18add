-- The member of a table that is called: a function with one parameter.
use Rattle.segment_laws.proofs.Common.{◌≡◌, ℕ, ◌<◌, [], length, map, get_or, sym, ◌∙◌, arith, length-map, get_or_default, Contains, function_at, members_of, signature_of, IsWellFormed, IsMember, IsTable, Checked}
use Rattle.segment_laws.proofs.StandingCode.{all_index}
use Rattle.segment_laws.proofs.PlainCalls.{parameters_of}

pub record IsMemberAt (c : Checked) (t k : ℕ) : Type 0 where
  pub known : get_or (members_of c.flat t) k 0 < length c.flat.functions
  pub one : (function_at c.flat (get_or (members_of c.flat t) k 0)).params ≡ 1
  pub contained : Contains (members_of c.flat t) (get_or (members_of c.flat t) k 0)

pub IsMemberAt-formed : (c : Checked) (t k : ℕ) → IsWellFormed c.flat → t < length c.flat.tables → k < length (members_of c.flat t) → IsMemberAt c t k
IsMemberAt-formed c t k formed there inside =
    let signatures = map signature_of c.flat.functions in
    let members = members_of c.flat t in
    let g = get_or members k 0 in
    let table : IsTable signatures members = all_index (IsTable signatures) c.flat.tables t [] formed.tables there in
    let member : IsMember signatures g = all_index (IsMember signatures) members k 0 table.1 inside in
    record {
      known = omega (arith, member.0, length-map c.flat.functions signature_of);
      one = sym (parameters_of c.flat g member.0) ∙ member.1;
      contained = (k, inside, get_or_default members k g 0 inside);
    }
