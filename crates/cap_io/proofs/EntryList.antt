-- The files of a list of names and bytes, by the place of the first file of a name.
use Rattle.std.proofs.Common.{◌≡◌, ℕ, zero, suc, ◌+◌, ◌<◌, ◌≤◌, Bool, true, false, cond, nat_lt, List, [], ◌∷◌, ◌++◌, length, get_or, refl, ap, ◌∙◌, arith, Some, None, string_bytes}
use Rattle.std.specs.Prelude.{String, not}
use Rattle.std.specs.Str.{bytes_eq}
use Rattle.std.specs.Global.{Vec}
use Rattle.std.specs.List.{position, position_or_len}
use Rattle.std.specs.declared.alloc.Global.{Global}
use Rattle.std.proofs.Math.ListN.{set}
use Rattle.std.proofs.lemmas.List.Quantifiers.{position-Some}
use Rattle.std.proofs.lemmas.Bool.Decides.{nat_tests}
use Rattle.cap_io.specs.Entries.{entries_of, file_in, put_file}

-- a file as the code has it
abbrev pub File : Type 0
File = String Global × Vec ℕ

-- the test for a name
abbrev pub has_name : List ℕ → File → Bool
has_name name file = bytes_eq (string_bytes file.0) name

-- i is the place of the first file of that name
pub record IsPlace (name : List ℕ) (files : List File) (i : ℕ) (d : File) : Type 0 where
  pub within : i < length files
  pub here : has_name name (get_or files i d) ≡ true
  pub before : (k : ℕ) → k < i → has_name name (get_or files k d) ≡ false

pub IsPlace-position : (name : List ℕ) (files : List File) (i : ℕ) (d : File) → position (has_name name) files ≡ Some i → IsPlace name files i d
IsPlace-position name files i d found =
    let p = position-Some (has_name name) files i d found
    in record { within = p.0; here = p.1; before = p.2 }

pub IsPlace-tail : (name : List ℕ) (file : File) (files : List File) (i : ℕ) (d : File) → IsPlace name (file ∷ files) (suc i) d → IsPlace name files i d
IsPlace-tail name file files i d p = record {
  within = let w : suc i < length (file ∷ files) = p.within in omega arith;
  here = p.here;
  before = λ k below. p.before (suc k) (omega arith);
}

pub file_at : (name : List ℕ) (files : List File) (i : ℕ) (d : File) → IsPlace name files i d
    → file_in (entries_of files) name ≡ Some (get_or files i d).1.items
file_at name [] i d p = absurd (let w : i < 0 = p.within in omega arith)
file_at name (file ∷ files) zero d p = rw p.here refl
file_at name (file ∷ files) (suc i) d p = rw (p.before 0 (omega arith)) (file_at name files i d (IsPlace-tail name file files i d p))

pub put_at : (name : List ℕ) (files : List File) (i : ℕ) (d : File) (bytes : Vec ℕ) → IsPlace name files i d
    → entries_of (set files i ((get_or files i d).0, bytes)) ≡ put_file (entries_of files) name bytes.items
put_at name [] i d bytes p = absurd (let w : i < 0 = p.within in omega arith)
put_at name (file ∷ files) zero d bytes p = rw p.here refl
put_at name (file ∷ files) (suc i) d bytes p =
    rw (p.before 0 (omega arith), put_at name files i d bytes (IsPlace-tail name file files i d p)) refl

-- the same where d is the file at that place, and with what the bytes are
pub put_over : (name : List ℕ) (files : List File) (i : ℕ) (d : File) (bytes : Vec ℕ) (held : List ℕ) → d ≡ get_or files i d
    → bytes.items ≡ held → IsPlace name files i d → entries_of (set files i (d.0, bytes)) ≡ put_file (entries_of files) name held
put_over name files i d bytes held at same p =
    ap (λ (f : File). entries_of (set files i (f.0, bytes))) at
    ∙ put_at name files i d bytes p
    ∙ ap (put_file (entries_of files) name) same

-- no file has that name
pub record HasNone (name : List ℕ) (files : List File) : Type 0 where
  pub past : length files ≤ position_or_len (has_name name) files

some_unless : (b : Bool) (i : ℕ) → cond b (Some i) None ≡ None → b ≡ false
some_unless true i none = cc
some_unless false i none = refl

pub HasNone-position : (name : List ℕ) (files : List File) → position (has_name name) files ≡ None → HasNone name files
HasNone-position name files none =
    let past : nat_lt (position_or_len (has_name name) files) (length files) ≡ false = some_unless _ _ none
    in record { past = grind (arith, nat_tests) }

past_first : (b : Bool) (n m : ℕ) → suc n ≤ cond (not b) (1 + m) 0 → (b ≡ false) × (n ≤ m)
past_first true n m past = absurd (omega arith)
past_first false n m past = (refl, omega arith)

pub HasNone-cons : (name : List ℕ) (file : File) (files : List File) → HasNone name (file ∷ files) → (has_name name file ≡ false) × HasNone name files
HasNone-cons name file files p =
    let parts = past_first (has_name name file) (length files) (position_or_len (has_name name) files) p.past
    in (parts.0, record { past = parts.1 })

pub file_none : (name : List ℕ) (files : List File) → HasNone name files → file_in (entries_of files) name ≡ None
file_none name [] p = refl
file_none name (file ∷ files) p =
    let parts = HasNone-cons name file files p
    in rw parts.0 (file_none name files parts.1)

pub put_none : (name : List ℕ) (files : List File) (bytes : Vec ℕ) (own : String Global) → string_bytes own ≡ name → HasNone name files
    → entries_of (files ++ (own, bytes) ∷ []) ≡ put_file (entries_of files) name bytes.items
put_none name [] bytes own named p = rw named refl
put_none name (file ∷ files) bytes own named p =
    let parts = HasNone-cons name file files p
    in rw (parts.0, put_none name files bytes own named parts.1) refl

pub put_new : (name : List ℕ) (files new : List File) (bytes : Vec ℕ) (own : String Global) (held : List ℕ) → string_bytes own ≡ name
    → bytes.items ≡ held → new ≡ files ++ (own, bytes) ∷ [] → HasNone name files → entries_of new ≡ put_file (entries_of files) name held
put_new name files new bytes own held named same is p =
    ap entries_of is ∙ put_none name files bytes own named p ∙ ap (put_file (entries_of files) name) same
