-- The name `spawn` can't be declared: it stands for what it is wherever it did.
use Rattle.hoist_meaning.proofs.Common.{ℕ, ◌≡◌, refl, sym, ap, ◌∙◌, Bool, true, false, List, [], ◌∷◌, ◌++◌, append_assoc, Option, Some, None, codes, if◌then◌else◌, bytes_eq, bytes_eq-Decides, NameTree, RawExprTree, RawSimpleTree, RawDeclareScalar, RawDeclareArray, RawDeclareWith, RawStmtTree, RawStmtTrees, RawDo, RawReturn, NoRawStmts, RawThen, raw_in_order, Meaning, Binding, find, is_fixed, bound, Spot, with_variable, simple_after, simples_after, step_after, returned_after, stmt_after, stmts_after, stmt_faults, stmts_faults, params_after, both_none}

abbrev pub KnowsSpawn : List Binding → Type 0
KnowsSpawn names = (position : ℕ) × (find (codes "spawn") names ≡ Some (record { position = position; meaning = Meaning.Spawn }))

bound_by : (v w : Bool) (t : List ℕ) (m : Meaning) (names : List Binding) → is_fixed (find t names) ≡ v → bytes_eq t (codes "spawn") ≡ w → KnowsSpawn names →
    KnowsSpawn (if v then names else record { text = t; meaning = m } ∷ names)
bound_by true w t m names e f h = h
bound_by false true t m names e f h =
    let same : t ≡ codes "spawn" = (bytes_eq-Decides t (codes "spawn")).0 f in
    let fixed : is_fixed (find t names) ≡ true = ap (λ x. is_fixed (find x names)) same ∙ ap is_fixed h.1 in
    absurd (let wrong : false ≡ true = sym e ∙ fixed in cc)
bound_by false false t m names e f h = (h.0, rw f h.1)

pub bound_knows : (names : List Binding) (t : List ℕ) (m : Meaning) → KnowsSpawn names → KnowsSpawn (bound names t m)
bound_knows names t m h = bound_by (is_fixed (find t names)) (bytes_eq t (codes "spawn")) t m names refl refl h

pub simple_knows : (s : Spot) (p : RawSimpleTree) → KnowsSpawn s.names → KnowsSpawn (simple_after s p).names
simple_knows s (RawDeclareScalar n) h = bound_knows s.names n.text _ h
simple_knows s (RawDeclareArray n size) h = bound_knows s.names n.text _ h
simple_knows s (RawDeclareWith n v) h = bound_knows s.names n.text _ h
simple_knows s _ h = h

pub simples_know : (s : Spot) (ps : List RawSimpleTree) → KnowsSpawn s.names → KnowsSpawn (simples_after s ps).names
simples_know s [] h = h
simples_know s (p ∷ ps) h = simples_know (simple_after s p) ps (simple_knows s p h)

pub step_knows : (s : Spot) (p : Option RawSimpleTree) → KnowsSpawn s.names → KnowsSpawn (step_after s p).names
step_knows s None h = h
step_knows s (Some p) h = simple_knows s p h

returned_knows : (s : Spot) (v : Option RawExprTree) → KnowsSpawn s.names → KnowsSpawn (returned_after s v).names
returned_knows s None h = h
returned_knows s (Some v) h = h

pub stmt_knows : (s : Spot) (p : RawStmtTree) → KnowsSpawn s.names → KnowsSpawn (stmt_after s p).names
stmt_knows s (RawDo p) h = simple_knows s p h
stmt_knows s (RawReturn at v) h = returned_knows s v h
stmt_knows s _ h = h

pub stmts_know : (s : Spot) (ps : RawStmtTrees) → KnowsSpawn s.names → KnowsSpawn (stmts_after s ps).names
stmts_know s NoRawStmts h = h
stmts_know s (RawThen p ps) h = stmts_know (stmt_after s p) ps (stmt_knows s p h)

pub params_know : (s : Spot) (ns : List NameTree) → KnowsSpawn s.names → KnowsSpawn (params_after s ns).names
params_know s [] h = h
params_know s (n ∷ ns) h = params_know (with_variable s n false 1) ns (bound_knows s.names n.text _ h)

-- ---- statements one after another that break no rule

abbrev pub AreFine : Bool → Bool → Spot → List RawStmtTree → Type 0
AreFine gives loop s ss = stmts_faults gives loop s (raw_in_order ss) ≡ []

abbrev pub after_all : Spot → List RawStmtTree → Spot
after_all s ss = stmts_after s (raw_in_order ss)

faults_split : (gives loop : Bool) (s : Spot) (ss ts : List RawStmtTree) → stmts_faults gives loop s (raw_in_order (ss ++ ts)) ≡ stmts_faults gives loop s (raw_in_order ss) ++ stmts_faults gives loop (after_all s ss) (raw_in_order ts)
faults_split gives loop s [] ts = refl
faults_split gives loop s (p ∷ ss) ts =
    let one = stmt_faults gives loop s p in
    let t = stmt_after s p in
    ap (λ x. one ++ x) (faults_split gives loop t ss ts) ∙ sym (append_assoc one (stmts_faults gives loop t (raw_in_order ss)) (stmts_faults gives loop (after_all t ss) (raw_in_order ts)))

pub both_fine : (gives loop : Bool) (s : Spot) (ss ts : List RawStmtTree) → AreFine gives loop s (ss ++ ts) → AreFine gives loop s ss × AreFine gives loop (after_all s ss) ts
both_fine gives loop s ss ts h = both_none (stmts_faults gives loop s (raw_in_order ss)) (stmts_faults gives loop (after_all s ss) (raw_in_order ts)) (sym (faults_split gives loop s ss ts) ∙ h)

pub one_fine : (gives loop : Bool) (s : Spot) (p : RawStmtTree) → AreFine gives loop s (p ∷ []) → stmt_faults gives loop s p ≡ []
one_fine gives loop s p h = (both_none (stmt_faults gives loop s p) [] h).0

-- some spot in which `spawn` is known and these break no rule
abbrev pub SomewhereFine : Bool → Bool → List RawStmtTree → Type 0
SomewhereFine gives loop ss = (t : Spot) × KnowsSpawn t.names × AreFine gives loop t ss
