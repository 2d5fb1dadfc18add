-- Why bytes aren't an image: the first refusal that applies.
use Rattle.std.specs.Prelude.{ℕ, ◌+◌, ◌*◌, Bool, List, length, take, drop, Option, Some, None, nat_eq, nat_lt, not, if◌then◌else◌}
use Rattle.std.specs.List.{starts_with}
use Rattle.std.specs.Int.{w32, from_le_bytes}
use Rattle.cap_word.specs.declared.limits.Which.{Which}
use Rattle.cap_word.specs.declared.limits.Which.TheVariants as limits
use Rattle.stack_image.specs.declared.refusals.ImageError.{ImageError}
use Rattle.stack_image.specs.declared.refusals.ImageError.TheVariants.{Magic, Short, Long, Limit}
use Rattle.stack_image.specs.Spelling.{magic}

-- the word with lowest byte `at`
unfoldable pub number_at : List ℕ → ℕ → ℕ
number_at bytes at = from_le_bytes w32 (take 4 (drop at bytes))

-- the first four bytes, or all if there are fewer, are the beginning of CAP1
abbrev pub begins_as_image : List ℕ → Bool
begins_as_image bytes = starts_with nat_eq magic (take 4 bytes)

-- the numbers of words, as in the bytes
abbrev pub code_size : List ℕ → ℕ
code_size bytes = number_at bytes 4

abbrev pub globals_size : List ℕ → ℕ
globals_size bytes = number_at bytes 8

abbrev pub tables_size : List ℕ → ℕ
tables_size bytes = number_at bytes 12

abbrev pub entries_size : List ℕ → ℕ
entries_size bytes = number_at bytes 16

-- the first limit that these numbers exceed
abbrev pub exceeded : ℕ → ℕ → ℕ → ℕ → Option Which
exceeded code globals tables entries =
    if nat_lt 200000 code then Some limits.Code
    else if nat_lt 65536 globals then Some limits.Globals
    else if nat_lt 65536 tables then Some limits.Tables
    else if nat_lt 4096 entries then Some limits.Entries
    else None

-- the index of the first byte after the last word
abbrev pub end_of : List ℕ → ℕ
end_of bytes = 20 + 4 * (code_size bytes + globals_size bytes + tables_size bytes + entries_size bytes)

-- the refusal, if the words don't end with the bytes
abbrev pub length_refusal : ℕ → ℕ → Option ImageError
length_refusal len end =
    if nat_lt len end then Some (Short len)
    else if nat_lt end len then Some (Long end)
    else None

-- the refusal of a limit, or otherwise of the length
abbrev pub limit_refusal : Option Which → Option ImageError → Option ImageError
limit_refusal (Some which) rest = Some (Limit which)
limit_refusal None rest = rest

unfoldable pub refusal_of : List ℕ → Option ImageError
refusal_of bytes =
    if not (begins_as_image bytes) then Some Magic
    else if nat_lt (length bytes) 20 then Some (Short (length bytes))
    else limit_refusal
    (exceeded (code_size bytes) (globals_size bytes) (tables_size bytes) (entries_size bytes))
    (length_refusal (length bytes) (end_of bytes))
