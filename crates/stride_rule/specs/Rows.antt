-- The places of threads that are scheduled by strides, in order of start. The place of a thread that has left is
-- empty.
use Rattle.std.specs.Prelude.{ℕ, ◌≡◌, ◌<◌, ◌==◌, Bool, true, false, Option, Some, None, List, [], ◌∷◌, length, slice_index_or}
use Rattle.ready_tree.specs.declared.needs.Need.{Need}
use Rattle.stride_rule.specs.declared.clients.Client.{Client}
use Rattle.stride_rule.specs.declared.rows.Row.{Row}
use Rattle.stride_rule.specs.Clients.{with_growth}

-- the clients at the places, in order
abbrev pub clients_of : List (Option Row) → List Client
clients_of [] = []
clients_of (None ∷ places) = clients_of places
clients_of (Some row ∷ places) = row.client ∷ clients_of places

-- their needs
abbrev pub needs_in : List (Option Row) → List (ℕ × Need)
needs_in [] = []
needs_in (None ∷ places) = needs_in places
needs_in (Some row ∷ places) = (row.client.thread.number, row.need) ∷ needs_in places

abbrev pub row_at : List (Option Row) → ℕ → Option Row
row_at places place = slice_index_or places place None

abbrev pub is_there : Option Row → Bool
is_there None = false
is_there (Some row) = true

-- ---- the place of a thread

-- whether a place is that of a thread
abbrev pub is_of : ℕ → Option Row → Bool
is_of number None = false
is_of number (Some row) = row.client.thread.number == number

pub record IsPlaceOf (number : ℕ) (places : List (Option Row)) (place : ℕ) : Type 0 where
  pub there : place < length places
  pub its : is_of number (row_at places place) ≡ true

-- a place of the thread, and none exactly if it has none
abbrev pub IsPlaceIf : ℕ → List (Option Row) → Option ℕ → Type 0
IsPlaceIf number places None = (place : ℕ) → place < length places → is_of number (row_at places place) ≡ false
IsPlaceIf number places (Some place) = IsPlaceOf number places place

-- ---- changes at a place

abbrev pub pass_of : Option Row → ℕ
pass_of None = 0
pass_of (Some row) = row.client.pass

-- the thread's pass has grown by its stride
abbrev pub row_grown : Option Row → Option Row
row_grown None = None
row_grown (Some row) = Some (record row { client = with_growth row.client })

-- the thread has this need
abbrev pub row_told : Need → Option Row → Option Row
row_told need None = None
row_told need (Some row) = Some (record row { need = need })
