-- The image that bytes spell, if they aren't refused.
use Rattle.std.specs.Prelude.{ℕ, zero, suc, ◌*◌, List, [], ◌∷◌, ◌++◌, drop}
use Rattle.stack_image.specs.declared.images.Image.{Image}
use Rattle.stack_image.specs.Refusal.{number_at, code_size, globals_size, tables_size, entries_size}

-- the first n words of the bytes
abbrev pub words_of : ℕ → List ℕ → List ℕ
words_of zero bytes = []
words_of (suc n) bytes = words_of n bytes ++ number_at bytes (4 * n) ∷ []

-- the bytes after the first n words
abbrev pub behind : ℕ → List ℕ → List ℕ
behind n bytes = drop (4 * n) bytes

unfoldable pub image_of : List ℕ → Image
image_of bytes =
    let code = behind 5 bytes in
    let globals = behind (code_size bytes) code in
    let tables = behind (globals_size bytes) globals in
    let entries = behind (tables_size bytes) tables in
    record {
      code = words_of (code_size bytes) code;
      globals = words_of (globals_size bytes) globals;
      tables = words_of (tables_size bytes) tables;
      entries = words_of (entries_size bytes) entries;
    }
