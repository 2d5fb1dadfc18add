-- The parser's two answers, of a parser with the application that `Parsed` speaks of.
use Rattle.clap.specs.Values.{kind_of}
use Rattle.command_words.proofs.Common.{◌≡◌, ◌∙◌, inl, inr, refl, ap, sym, subst, true, List, [], HasKind, fault_of, is_simple_and_free, Row, Text, first_of, Command, clap_on_literals, Said, words_app, IsReadable, IsSaid, IsReadAs}
use Rattle.clap.specs.Matches.{first_value, found_of}
use Rattle.clap.specs.Simple.{HasMatchesOf, app_of, is_simple as is_simple_app, matches_of}
use Rattle.clap.specs.declared.error.Error.{Error}
use Rattle.clap.specs.declared.error.kind.ErrorKind.TheVariants.{OutOfMemory}
use Rattle.clap.specs.declared.parser.matches.ArgMatches.{ArgMatches}
use Rattle.clap.proofs.WalkLemmas.{first_value-rows}
use Rattle.command_words.proofs.Rules.{is_simple}
use Rattle.command_words.proofs.Parsed.{read_as, said_passes}

simple_app : is_simple_app words_app ≡ true
unfolding clap_on_literals
simple_app = refl

pub parsed : (parser : Command) (texts words : List Text) (m : ArgMatches) → app_of parser ≡ words_app → texts ≡ words → IsReadable words
    → (is_simple_and_free (app_of parser) ≡ true → fault_of (app_of parser) texts ≡ []) → HasMatchesOf (app_of parser) texts m
    → IsReadAs words (λ name. first_value (found_of m) name)
parsed parser texts words m app_is words_are readable faults matches =
    let same : fault_of (app_of parser) texts ≡ fault_of words_app words = (λ i. fault_of (app_is i) (words_are i)) in
    let none_at : fault_of words_app words ≡ [] = sym same ∙ faults (ap is_simple_and_free app_is ∙ is_simple) in
    let rows = sym ((matches (ap is_simple_app app_is ∙ simple_app)).0 ∙ (λ i. matches_of (app_is i) (words_are i))) in
    read_as words readable none_at (λ name. first_value (found_of m) name)
    (λ name. ap (λ (r : List Row). first_of name r) rows ∙ sym (first_value-rows (found_of m) name))

pub refused : (parser : Command) (texts words : List Text) (e : Error) → app_of parser ≡ words_app → texts ≡ words
    → (is_simple_and_free (app_of parser) ≡ true → HasKind (fault_of (app_of parser) texts) e) → (kind_of e ≡ OutOfMemory → ⊥)
    → (said : List Said) → IsSaid words said → ⊥
refused parser texts words e app_is words_are kinds other said is =
    let has : HasKind (fault_of words_app words) e = subst (λ ks. HasKind ks e) (λ i. fault_of (app_is i) (words_are i))
    (kinds (ap is_simple_and_free app_is ∙ is_simple)) in
    let has_none : HasKind [] e = subst (λ ks. HasKind ks e) (said_passes words said is) has in
    elim has_none [ inl memory ↦ other memory | inr none ↦ none ]
