-- What is under each name after bytes were put under one.
use Rattle.std.proofs.Common.{◌≡◌, ℕ, Bool, true, false, List, [], ◌∷◌, refl, sym, ◌∙◌, Some}
use Rattle.std.specs.Prelude.{◌≢◌}
use Rattle.std.specs.Str.{bytes_eq}
use Rattle.std.proofs.lemmas.Slice.Eq.{bytes_eq-Decides}
use Rattle.cap_io.specs.Entries.{Entries, file_in, put_file}
use Rattle.cap_io.specs.Files.{KeepsOthers}

pub bytes_eq-same : (xs : List ℕ) → bytes_eq xs xs ≡ true
bytes_eq-same xs = (bytes_eq-Decides xs xs).1 refl

bytes_eq-other_by : (xs ys : List ℕ) (b : Bool) → bytes_eq xs ys ≡ b → xs ≢ ys → bytes_eq xs ys ≡ false
bytes_eq-other_by xs ys true is other = absurd (other ((bytes_eq-Decides xs ys).0 is))
bytes_eq-other_by xs ys false is other = is

pub bytes_eq-other : (xs ys : List ℕ) → xs ≢ ys → bytes_eq xs ys ≡ false
bytes_eq-other xs ys other = bytes_eq-other_by xs ys (bytes_eq xs ys) refl other

put_same_by : (entry : List ℕ × List ℕ) (entries : Entries) (name bytes : List ℕ) (b : Bool) → bytes_eq entry.0 name ≡ b
    → file_in (put_file entries name bytes) name ≡ Some bytes
    → file_in (put_file (entry ∷ entries) name bytes) name ≡ Some bytes
put_same_by entry entries name bytes true is rest = rw (is, is) refl
put_same_by entry entries name bytes false is rest = rw (is, is) rest

pub file_in-put_same : (entries : Entries) (name bytes : List ℕ) → file_in (put_file entries name bytes) name ≡ Some bytes
file_in-put_same [] name bytes = rw (bytes_eq-same name) refl
file_in-put_same (entry ∷ entries) name bytes =
    put_same_by entry entries name bytes (bytes_eq entry.0 name) refl (file_in-put_same entries name bytes)

put_other_by : (entry : List ℕ × List ℕ) (entries : Entries) (name bytes other : List ℕ) (b : Bool) → bytes_eq entry.0 name ≡ b → other ≢ name
    → file_in (put_file entries name bytes) other ≡ file_in entries other
    → file_in (put_file (entry ∷ entries) name bytes) other ≡ file_in (entry ∷ entries) other
put_other_by entry entries name bytes other true is differ rest =
    let named : entry.0 ≡ name = (bytes_eq-Decides entry.0 name).0 is
    in let apart : bytes_eq entry.0 other ≡ false = bytes_eq-other entry.0 other (λ same. differ (sym same ∙ named))
    in rw (is, apart) refl
put_other_by entry entries name bytes other false is differ rest = rw (is, rest) refl

pub file_in-put_other : (name bytes : List ℕ) (entries : Entries) → KeepsOthers (file_in entries) (file_in (put_file entries name bytes)) name
file_in-put_other name bytes [] other differ = rw (bytes_eq-other name other (λ same. differ (sym same))) refl
file_in-put_other name bytes (entry ∷ entries) other differ =
    put_other_by entry entries name bytes other (bytes_eq entry.0 name) refl differ (file_in-put_other name bytes entries other differ)

-- a list of files after a store
pub record IsStored (old new : Entries) (name bytes : List ℕ) : Type 0 where
  pub same : file_in new name ≡ Some bytes
  pub others : KeepsOthers (file_in old) (file_in new) name

pub stored : (old new : Entries) (name bytes : List ℕ) → new ≡ put_file old name bytes → IsStored old new name bytes
stored old new name bytes is = record {
  same = rw is (file_in-put_same old name bytes);
  others = λ other differ. rw is (file_in-put_other name bytes old other differ);
}
