-- What is known of a pair after V1 has been decided, and the number of words before each operation.
use Rattle.std.specs.Prelude.{◌≡◌, ℕ, ◌+◌, ◌^◌, ◌<◌, ◌≤◌, List, length, slice_index}
use Rattle.std.specs.List.Sorted.{IsStrictlyIncreasing}
use Rattle.flat_code.specs.Codes.{FlatCode, function_at}
use Rattle.stack_certificate.specs.declared.certificates.Certificate.{Certificate}
use Rattle.stack_certificate.specs.Templates.{IsFor, words_before}
use Rattle.certificate_rules.specs.Sites.{fact_numbers}

-- the numbers of the functions are words, the certificate has a fact for each function with a place for each variable,
-- and its sites' numbers increase
pub record IsReadable (code : FlatCode) (certificate : Certificate) : Type 0 where
  pub few : length code.functions ≤ 2 ^ 32
  pub functions : length certificate.functions ≡ length code.functions
  pub places : IsFor code certificate
  pub rising : IsStrictlyIncreasing (fact_numbers certificate.sites)

-- the number of words of function f before each of its operations, and last, before its end
pub record AreWordsBefore (code : FlatCode) (certificate : Certificate) (f : ℕ) (before : List ℕ) : Type 0 where
  pub count : length before ≡ length (function_at code f).ops + 1
  pub each : (i : ℕ) → i ≤ length (function_at code f).ops → slice_index before i ≡ words_before code certificate f i
  pub range : (i : ℕ) → slice_index before i < 2 ^ 54
