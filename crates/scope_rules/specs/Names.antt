-- The names in scope at a place, and their meanings there.
use Rattle.std.specs.Prelude.{ℕ, Bool, false, ◌≡◌, ◌≢◌, List, [], ◌∷◌, length, map, Option, Some, None, if◌then◌else◌}
use Rattle.std.specs.Str.{bytes_eq}
use Rattle.std.specs.Cmp.Lexicographic.{slice_cmp}
use Rattle.std.specs.Ordering.{nat_cmp}
use Rattle.std.specs.BTreeMap.{BTreeMap, get_by, UpdatesBy}
use Rattle.std.specs.Global.{Vec}
use Rattle.scope_rules.specs.declared.meanings.Meaning.{Meaning}
use Rattle.scope_rules.specs.declared.meanings.Found.{Found}
use Rattle.scope_rules.specs.declared.names.Declared.{Declared}
use Rattle.scope_rules.specs.Meanings.{is_modelled}

-- a name in scope, and its meaning
pub record Binding : Type 0 where
  pub text : List ℕ
  pub meaning : Meaning

-- the meaning of a name if these names are in scope, the latest first: an inner name hides an outer
-- one
abbrev pub find : List ℕ → List Binding → Option Found
find t [] = None
find t (b ∷ bs) = if bytes_eq b.text t then Some (record { position = length bs; meaning = b.meaning }) else find t bs

-- the names with one more, which hides its earlier meaning; a modelled call's name keeps its meaning
abbrev pub is_fixed : Option Found → Bool
is_fixed None = false
is_fixed (Some f) = is_modelled f.meaning

abbrev pub bound : List Binding → List ℕ → Meaning → List Binding
bound names t m = if is_fixed (find t names) then names else record { text = t; meaning = m } ∷ names

abbrev pub binding_of : Declared → Binding
binding_of d = record { text = d.text.items; meaning = d.found.meaning }

-- each entry has the number of names before it, and its name's earlier meaning
abbrev pub AreLinked : List Declared → Type 0
AreLinked [] = Unit {0}
AreLinked (d ∷ ds) = (d.found.position ≡ length ds) × (d.hidden ≡ find d.text.items (map binding_of ds)) × AreLinked ds

-- the map has the meaning of each name
abbrev pub Finds : BTreeMap (Vec ℕ) Found → List Binding → Type 0
Finds m bs = (t : List ℕ) → get_by (λ k. slice_cmp nat_cmp t k.items) m ≡ find t bs

-- the map has an entry for this text
abbrev pub IsThere : List ℕ → BTreeMap (Vec ℕ) Found → Type 0
IsThere t m = get_by (λ k. slice_cmp nat_cmp t k.items) m ≢ None

-- n maps this text to w, and all others as m does
abbrev pub Changes : List ℕ → BTreeMap (Vec ℕ) Found → BTreeMap (Vec ℕ) Found → Option Found → Type 0
Changes t m n w = UpdatesBy (λ x y. slice_cmp nat_cmp x.items y.items) (λ k. slice_cmp nat_cmp t k.items) m n w
