-- The files of a shelf in memory, as a list of names and bytes.
use Rattle.std.specs.Prelude.{ℕ, List, [], ◌∷◌, map, cond, None, Some, string_bytes, String}
use Rattle.std.specs.Str.{bytes_eq}
use Rattle.std.specs.Global.{Vec}
use Rattle.std.specs.declared.alloc.Global.{Global}
use Rattle.cap_io.specs.Files.{Files}

-- names and bytes; of two files with the same name the first counts
abbrev pub Entries : Type 0
Entries = List (List ℕ × List ℕ)

-- the names and bytes of a list of the code
abbrev pub entries_of : List (String Global × Vec ℕ) → Entries
entries_of files = map (λ file. (string_bytes file.0, file.1.items)) files

-- the bytes of each name
abbrev pub file_in : Entries → Files
file_in [] name = None
file_in (entry ∷ entries) name = cond (bytes_eq entry.0 name) (Some entry.1) (file_in entries name)

-- the list after the bytes are stored under that name
abbrev pub put_file : Entries → List ℕ → List ℕ → Entries
put_file [] name bytes = (name, bytes) ∷ []
put_file (entry ∷ entries) name bytes = cond (bytes_eq entry.0 name) ((entry.0, bytes) ∷ entries) (entry ∷ put_file entries name bytes)
