-- The threads that are scheduled by strides.
use Rattle.std.specs.Prelude.{ℕ, ◌≢◌, ◌+◌, ◌==◌, nat_lt, ◌&&◌, ◌||◌, Bool, false, if◌then◌else◌, Option, Some, None, List, [], ◌∷◌, find}
use Rattle.std.specs.List.{AllByRecursion}
use Rattle.stride_rule.specs.declared.clients.Client.{Client}

-- whether a thread with this pass comes before another: by pass, and by number if the passes are equal
abbrev pub goes_before : (pass thread other_pass other : ℕ) → Bool
goes_before pass thread other_pass other = nat_lt pass other_pass || (pass == other_pass && nat_lt thread other)

abbrev pub is_before : Client → Client → Bool
is_before client other = goes_before client.pass client.thread.number other.pass other.thread.number

-- the client of a thread, by its number
abbrev pub client_of : ℕ → List Client → Option Client
client_of number clients = find (λ client. client.thread.number == number) clients

-- the segment of its thread is in progress
abbrev pub is_running : Option ℕ → Client → Bool
is_running None client = false
is_running (Some number) client = client.thread.number == number

-- no client is of this thread
abbrev pub IsAbsent : ℕ → List Client → Type 0
IsAbsent number clients = AllByRecursion (λ client. client.thread.number ≢ number) clients

-- ---- a thread's pass grows

-- the pass of a thread, or 0 if there is no such thread
abbrev pub pass_in : ℕ → List Client → ℕ
pass_in number [] = 0
pass_in number (client ∷ clients) = if client.thread.number == number then client.pass else pass_in number clients

abbrev pub with_growth : Client → Client
with_growth client = record client { pass = client.pass + client.stride }

-- the clients after the pass of a thread has grown by its stride
abbrev pub grown : ℕ → List Client → List Client
grown number [] = []
grown number (client ∷ clients) = if client.thread.number == number then with_growth client ∷ clients else client ∷ grown number clients

-- ---- a thread leaves

abbrev pub without : ℕ → List Client → List Client
without number [] = []
without number (client ∷ clients) = if client.thread.number == number then clients else client ∷ without number clients
