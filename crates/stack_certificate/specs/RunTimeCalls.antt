-- The numbers of the run time's own calls, in a7 at an ECALL; the other calls have the numbers of `cap_word`.
use Rattle.std.specs.Prelude.{ℕ}

-- LINK and UNLINK, around a call that may need a chunk
abbrev pub link_number : ℕ
link_number = 1

abbrev pub unlink_number : ℕ
unlink_number = 2

-- END, behind the last frame of a thread
abbrev pub end_number : ℕ
end_number = 30

-- TRAP, with its kind in a0
abbrev pub trap_number : ℕ
trap_number = 31
