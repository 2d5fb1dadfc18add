-- The option at an index is one of those that are left there.
use Rattle.command_words.proofs.Common.{◌≡◌, ℕ, zero, suc, ◌<◌, sym, inl, arith, List, [], ◌∷◌, drop, length, get_or, CommandOption, name_of, names_of, IsOneOf}

pub named : (options : List CommandOption) (i : ℕ) (d : CommandOption) (word : List ℕ) → i < length options
    → name_of (get_or options i d) ≡ word → IsOneOf (names_of (drop i options)) word
named [] i d word less is = absurd (omega (arith, less))
named (it ∷ options) zero d word less is = inl (sym is)
named (it ∷ options) (suc i) d word less is = named options i d word (omega (arith, less)) is
