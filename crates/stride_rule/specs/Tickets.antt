-- Tickets, and the strides that follow from them.
use Rattle.std.specs.Prelude.{ℕ, suc, ⊤, ◌/◌, ◌≤◌, ◌==◌, if◌then◌else◌, List, [], ◌∷◌}

-- the numbers of the threads strictly increase, from this one on, and each thread has from 1 to 1,024
-- tickets
abbrev pub AreTicketsFrom : ℕ → List (ℕ × ℕ) → Type 0
AreTicketsFrom least [] = ⊤
AreTicketsFrom least ((thread, tickets) ∷ rest) = (least ≤ thread) × (1 ≤ tickets) × (tickets ≤ 1024) × AreTicketsFrom (suc thread) rest

abbrev pub AreTickets : List (ℕ × ℕ) → Type 0
AreTickets tickets = AreTicketsFrom 0 tickets

-- the tickets of a thread: 1 if none are given
abbrev pub tickets_of : List (ℕ × ℕ) → ℕ → ℕ
tickets_of [] sought = 1
tickets_of ((thread, tickets) ∷ rest) sought = if thread == sought then tickets else tickets_of rest sought

-- the stride of a thread, by which its pass grows at each choice of it
abbrev pub stride_of : List (ℕ × ℕ) → ℕ → ℕ
stride_of tickets thread = 1048576 / tickets_of tickets thread
