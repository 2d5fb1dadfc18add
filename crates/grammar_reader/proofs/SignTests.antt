-- What `==` and `!=` on signs tell of the next token.
use mathlib.Core.Bool.{not}
use Rattle.grammar_reader.proofs.Common.{◌≡◌, ◌≢◌, refl, sym, Bool, true, false, sameb, Sign, the_type}
use Rattle.grammar_reader.proofs.Paths.{sign_is, sign_other}

not_false : (b : Bool) → false ≡ not b → true ≡ b
not_false true e = refl
not_false false e = sym e

not_true : (b : Bool) → true ≡ not b → false ≡ b
not_true true e = sym e
not_true false e = refl

pub no_other_sign : {s n x : Sign} → s ≡ n → false ≡ not (sameb the_type s x) → n ≡ x
no_other_sign {s = a} {x = b} e test = sign_is e (not_false (sameb the_type a b) test)

pub not_that_sign : {s n x : Sign} → s ≡ n → true ≡ not (sameb the_type s x) → n ≢ x
not_that_sign {s = a} {x = b} e test = sign_other e (not_true (sameb the_type a b) test)
