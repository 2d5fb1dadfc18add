-- What is held as rows: one for each option with its value and for each positional word.
use Rattle.command_words.proofs.Common.{◌≡◌, ◌∙◌, ℕ, refl, ap, Bool, true, false, true≢false, List, [], ◌∷◌, ◌++◌, Option, Some, None, append-nil, bytes_eq, Kinds, or_else, settle_fault, Held, Row, Text, arg_by_id, at_row, has_row, more_values, settled_rows, without, with_values}
use Rattle.clap.specs.declared.builder.value_parser.Reading.TheVariants.{AsWritten}
use Rattle.clap.specs.declared.parser.matches.ValueSource.TheVariants.{CommandLine}
use Rattle.clap.specs.declared.error.kind.ErrorKind.TheVariants as kind
use Rattle.command_words.proofs.Rules.{rules, text_rule}
use Rattle.command_words.proofs.Steps.{with_value}

abbrev pub row : Text → Text → Row
row name value = record { id = name; values = value ∷ []; count = None; source = Some CommandLine; reading = AsWritten }

pub first_none : (a b : Kinds) → or_else a b ≡ [] → a ≡ []
first_none [] b none = refl
first_none (k ∷ ks) b none = none

pub then_none : (a b : Kinds) → or_else a b ≡ [] → b ≡ []
then_none [] b none = none
then_none (k ∷ ks) b none = absurd (cc)

pub both_none : (a b : Kinds) → a ≡ [] → b ≡ [] → or_else a b ≡ []
both_none a b first next = rw first next

-- a row of a name that there is not yet goes to the end
lands : (id : Text) (change : Row → List Row) (missing rows : List Row) → has_row id rows ≡ false → at_row id change missing rows ≡ rows ++ missing
lands id change missing [] none = refl
lands id change missing (r ∷ rows) none = go (bytes_eq r.id id) refl none (lands id change missing rows)
  where
    go : (b : Bool) → bytes_eq r.id id ≡ b → has_row id (r ∷ rows) ≡ false → (has_row id rows ≡ false → at_row id change missing rows ≡ rows ++ missing)
        → at_row id change missing (r ∷ rows) ≡ (r ∷ rows) ++ missing
    go true is has below = let bad : true ≡ false = rw is at has in absurd (true≢false bad)
    go false is has below =
        let here : has_row id rows ≡ false = rw is at has in
        rw is (ap (λ (rest : List Row). r ∷ rest) (below here))

pub new_row : (name value : Text) (rows : List Row) → has_row name rows ≡ false
    → with_values name AsWritten CommandLine (value ∷ []) (without name rows) ≡ rows ++ row name value ∷ []
new_row name value rows none =
    let kept : without name rows ≡ rows = lands name (λ r. []) [] rows none ∙ append-nil rows in
    rw kept (lands name (more_values CommandLine (value ∷ [])) (row name value ∷ []) rows none)

-- the faults of an argument of one text, and its row
pub value_fault : (h : Held) (name value : Text) (long : Option Text) (index : Option ℕ) → arg_by_id rules name ≡ Some (text_rule name long index)
    → has_row name (settled_rows rules h.pending h.rows) ≡ false → settle_fault rules false (with_value h name value) ≡ []
value_fault h name value long index is none = rw (is, none) refl

pub value_once : (h : Held) (name value : Text) (long : Option Text) (index : Option ℕ) → arg_by_id rules name ≡ Some (text_rule name long index)
    → settle_fault rules false (with_value h name value) ≡ [] → has_row name (settled_rows rules h.pending h.rows) ≡ false
value_once h name value long index is none = go (has_row name (settled_rows rules h.pending h.rows)) refl
  where
    go : (b : Bool) → has_row name (settled_rows rules h.pending h.rows) ≡ b → has_row name (settled_rows rules h.pending h.rows) ≡ false
    go false has = has
    go true has = let bad : kind.ArgumentConflict ∷ [] ≡ [] = rw (is, has) at none in absurd (cc)

pub value_row : (h : Held) (rows : List Row) (name value : Text) (long : Option Text) (index : Option ℕ)
    → arg_by_id rules name ≡ Some (text_rule name long index)
    → settled_rows rules h.pending h.rows ≡ rows → has_row name rows ≡ false
    → settled_rows rules (with_value h name value).pending (with_value h name value).rows ≡ rows ++ row name value ∷ []
value_row h rows name value long index is are none = rw (is, are) (new_row name value rows none)
