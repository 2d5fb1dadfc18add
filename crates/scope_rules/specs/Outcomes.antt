-- The outcomes of resolving a source.
use Rattle.std.specs.Prelude.{ℕ, ◌≡◌, true, false, List, [], ◌∷◌, Some, None}
use Rattle.std.specs.List.{AllByRecursion}
use Rattle.c_tree.specs.RawTrees.{RawItemTree}
use Rattle.c_tree.specs.Trees.{ProgramTree}
use Rattle.scope_rules.specs.declared.faults.Rule.{Rule}
use Rattle.scope_rules.specs.declared.faults.Fault.{Fault}
use Rattle.scope_rules.specs.declared.errors.ScopeError.{ScopeError}
use Rattle.scope_rules.specs.Faults.{fault, is_before}
use Rattle.scope_rules.specs.Items.{faults_of, has_main, program_of}
use Rattle.scope_rules.specs.Limits.{exceeded}

-- f is one of fs
pub data IsOneOf : Fault → List Fault → Type 0 where
  here : {f : Fault} {fs : List Fault} → IsOneOf f (f ∷ fs)
  further : {f g : Fault} {fs : List Fault} → IsOneOf f fs → IsOneOf f (g ∷ fs)

-- f is reported: it is one of the faults, and no other takes precedence over it
pub record IsLeast (f : Fault) (fs : List Fault) : Type 0 where
  pub one : IsOneOf f fs
  pub least : AllByRecursion (λ g. is_before g f ≡ false) fs

-- a source is this program: it breaks no rule, defines main, exceeds no limit, and the program is its tree with numbers
-- in place of names
pub record IsResolved (is : List RawItemTree) (p : ProgramTree) : Type 0 where
  pub rules : faults_of is ≡ []
  pub main : has_main is ≡ true
  pub limits : exceeded (program_of is) ≡ None
  pub tree : p ≡ program_of is

-- the refusal of a source: the least fault; or, if there is none, that main has no definition; or, if it has one, the
-- first limit that is exceeded
abbrev pub IsRefused : List RawItemTree → ScopeError → Type 0
IsRefused is (ScopeError.Unknown at) = IsLeast (fault at Rule.Unknown) (faults_of is)
IsRefused is (ScopeError.Twice at) = IsLeast (fault at Rule.Twice) (faults_of is)
IsRefused is (ScopeError.Arity at) = IsLeast (fault at Rule.Arity) (faults_of is)
IsRefused is (ScopeError.Kind at) = IsLeast (fault at Rule.Kind) (faults_of is)
IsRefused is ScopeError.NoMain = (faults_of is ≡ []) × (has_main is ≡ false)
IsRefused is (ScopeError.Limit which) = (faults_of is ≡ []) × (has_main is ≡ true) × (exceeded (program_of is) ≡ Some which)
IsRefused is ScopeError.Memory = Unit {0}

-- a refusal of the source, other than out of memory
abbrev pub IsNoMemory : ScopeError → Type 0
IsNoMemory (ScopeError.Unknown at) = Unit {0}
IsNoMemory (ScopeError.Twice at) = Unit {0}
IsNoMemory (ScopeError.Arity at) = Unit {0}
IsNoMemory (ScopeError.Kind at) = Unit {0}
IsNoMemory ScopeError.NoMain = Unit {0}
IsNoMemory (ScopeError.Limit which) = Unit {0}
IsNoMemory ScopeError.Memory = ⊥

-- the refusal for a fault
abbrev pub refusal_by : Rule → ℕ → ScopeError
refusal_by Rule.Unknown at = ScopeError.Unknown at
refusal_by Rule.Twice at = ScopeError.Twice at
refusal_by Rule.Arity at = ScopeError.Arity at
refusal_by Rule.Kind at = ScopeError.Kind at
