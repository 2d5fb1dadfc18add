-- The uses of the resources stay within their caps, and so in 31 bits.
use Rattle.audited_logs.proofs.Common.{◌≡◌, ℕ, zero, suc, ◌+◌, ◌-◌, ◌^◌, ◌<◌, ◌≤◌, ◌||◌, Bool, true, false, List, [], ◌∷◌, length, Option, Some, None, refl, sym, ap, ◌∙◌, subst, arith, ⊎_elim, slice_get, slice_set, slice_index, nat_le, AllByRecursion, cases_lt, nat_tests, length-set, Call, Blocking, Immediate, Goes, Asks, Stops, and_then, moves, Ask, TrapKind, ProgramTree, Waiting, Exchange, cap_of, use_of, with_use, Delivery, Arrival, Message, with_delivery, blocking_row, immediate_row, SourceMove, source_step, is_ready_at, AreCapsSmall}
use Rattle.cap_word.specs.declared.calls.Block as blocks
use Rattle.c_mean.specs.ModelledCalls as table
use Rattle.c_mean.specs.World as source
use Rattle.c_mean.specs.World.{Rest, Fresh, Blocked, Ended, Segment, SegmentMove, Rested, rests, unless_trap, calls, segment_move, segment_step, segment_machine, begun_at, begun}

-- a use of at most 2^31, and uses of the eight resources
abbrev pub Small : List ℕ → Type 0
Small values = AllByRecursion (λ value. value ≤ 2 ^ 31) values

pub record FitUses (x : Exchange) : Type 0 where
  pub small : Small x.uses
  pub eight : length x.uses ≡ 8

small_at : (values : List ℕ) (r : ℕ) → Small values → slice_index values r ≤ 2 ^ 31
small_at [] r h = omega arith
small_at (v ∷ values) zero h = h.0
small_at (v ∷ values) (suc r) h = small_at values r h.1

small_set : (values : List ℕ) (r value : ℕ) → Small values → value ≤ 2 ^ 31 → Small (slice_set values r value)
small_set [] r value h k = tt
small_set (v ∷ values) zero value h k = (k, h.1)
small_set (v ∷ values) (suc r) value h k = (h.0, small_set values r value h.1 k)

cap_small : (caps : List ℕ) (r : ℕ) → AreCapsSmall caps → r < 8 → cap_of caps r ≤ 2 ^ 31
cap_small caps zero h below = omega arith
cap_small caps (suc r) h below = h (suc r) (omega arith) below

set_past : (values : List ℕ) (r value : ℕ) → length values ≤ r → slice_set values r value ≡ values
set_past [] r value h = refl
set_past (v ∷ values) zero value h = absurd (omega (arith, h))
set_past (v ∷ values) (suc r) value h = ap (λ (vs : List ℕ). v ∷ vs) (set_past values r value (omega (arith, h)))

with_small : (x : Exchange) (r value : ℕ) → FitUses x → value ≤ 2 ^ 31 → FitUses (with_use x r value)
with_small x r value fits small = record { small = small_set x.uses r value fits.small small; eight = length-set x.uses r value ∙ fits.eight }

-- a delivery changes no use
pub delivery_fits : (x : Exchange) (delivery : Delivery) → FitUses x → FitUses (with_delivery x delivery)
delivery_fits x (Arrival value) fits = record { small = fits.small; eight = fits.eight }
delivery_fits x (Message channel value) fits = record { small = fits.small; eight = fits.eight }

-- ---- a ready thread goes on

ready_left : (a : Bool) → (a || false) ≡ true → a ≡ true
ready_left true e = refl
ready_left false e = e

most_of : (a b : ℕ) → nat_le a b ≡ true → a ≤ b
most_of a b e = grind (arith, nat_tests, e)

row_fits : (caps : List ℕ) (x : Exchange) (clock since : ℕ) (block : blocks.Block) → AreCapsSmall caps → FitUses x → table.is_ready caps x clock since block ≡ true → FitUses (blocking_row caps x block).after
row_fits caps x clock since blocks.Block.Accept small fits ready = record { small = fits.small; eight = fits.eight }
row_fits caps x clock since (blocks.Block.Wait channel) small fits ready = record { small = fits.small; eight = fits.eight }
row_fits caps x clock since (blocks.Block.Take resource amount) small fits ready =
    ⊎_elim
    (λ (below : resource < 8).
    let within = most_of (use_of x resource + amount) (cap_of caps resource) (ready_left (nat_le (use_of x resource + amount) (cap_of caps resource)) ready) in
    let cap = cap_small caps resource small below in
    with_small x resource (use_of x resource + amount) fits (omega (arith, within, cap)))
    (λ (past : 8 ≤ resource).
    let eight = fits.eight in
    let same = set_past x.uses resource (use_of x resource + amount) (omega (arith, past, eight)) in
    let now : FitUses (with_use x resource (use_of x resource + amount)) = record { small = subst Small (sym same) fits.small; eight = ap length same ∙ fits.eight } in
    now)
    (cases_lt resource 8)
row_fits caps x clock since _ small fits ready = fits

pub none-not : (s : Segment) → ◌≡◌ {A = Option Segment} None (Some s) → ⊥
none-not s e = absurd (cc)

pub same_some : (a b : Segment) → ◌≡◌ {A = Option Segment} (Some a) (Some b) → a ≡ b
same_some a b e = cc

begun_fits_at : (program : ProgramTree) (caps : List ℕ) (world : source.World) (number clock since : ℕ) (first : Segment) (o : Option Rest) → AreCapsSmall caps → FitUses world.exchange → is_ready_at caps world.exchange clock since o ≡ true →
    begun_at program caps world number o ≡ Some first → FitUses first.world.exchange
begun_fits_at program caps world number clock since first (Some (Fresh function arguments)) small fits ready e =
    subst (λ (s : Segment). FitUses s.world.exchange) (same_some _ first e) fits
begun_fits_at program caps world number clock since first (Some (Blocked block waiting)) small fits ready e =
    subst (λ (s : Segment). FitUses s.world.exchange) (same_some _ first e) (row_fits caps world.exchange clock since block small fits ready)
begun_fits_at program caps world number clock since first _ small fits ready e = absurd (none-not first e)

pub begun_fits : (program : ProgramTree) (caps : List ℕ) (world : source.World) (number clock since : ℕ) (first : Segment) → AreCapsSmall caps → FitUses world.exchange → is_ready_at caps world.exchange clock since (slice_get world.threads number) ≡ true →
    begun program caps world number ≡ Some first → FitUses first.world.exchange
begun_fits program caps world number clock since first small fits ready e = begun_fits_at program caps world number clock since first (slice_get world.threads number) small fits ready e

-- ---- steps

abbrev FitsStep : SegmentMove → Type 0
FitsStep (Goes next) = FitUses next.world.exchange
FitsStep (Asks question waiting) = Unit {0}
FitsStep (Stops rested) = FitUses rested.world.exchange

fits_unless : (s : Segment) (globals : List (List ℕ)) (trap : Option TrapKind) (other : SegmentMove) → FitUses s.world.exchange → FitsStep other → FitsStep (unless_trap s globals trap other)
fits_unless s globals (Some trap) other h k = h
fits_unless s globals None other h k = k

answer_fits : (caps : List ℕ) (x : Exchange) (number next : ℕ) (ask : Ask) → FitUses x → FitUses (immediate_row caps x number next ask).after
answer_fits caps x number next (Ask.Give resource amount) fits = (let small = small_at x.uses resource fits.small in with_small x resource (use_of x resource - amount) fits (omega (arith, small)))
answer_fits caps x number next _ fits = fits

module _ (program : ProgramTree) (caps : List ℕ) where
  call_fits : (s : Segment) (globals : List (List ℕ)) (waiting : Waiting) (call : Call) → FitUses s.world.exchange → FitsStep (calls caps s globals waiting call)
  call_fits s globals waiting (Blocking block) fits = fits_unless s globals (blocking_row caps s.world.exchange block).trap (rests s globals (Blocked block waiting)) fits fits
  call_fits s globals waiting (Immediate ask) fits =
      let row = immediate_row caps s.world.exchange s.number (length s.world.threads) ask in
      fits_unless s globals row.trap _ fits (answer_fits caps s.world.exchange s.number (length s.world.threads) ask fits)

  move_fits : (s : Segment) (move : SourceMove) → FitUses s.world.exchange → FitsStep (segment_move caps s move)
  move_fits s (Goes running) fits = fits
  move_fits s (Asks question waiting) fits = call_fits s question.globals waiting question.call fits
  move_fits s (Stops finish) fits = fits_unless s finish.globals finish.trap (rests s finish.globals Ended) fits fits

  moves_then : (n : ℕ) (move : SegmentMove) → FitsStep move → ((next : Segment) → FitUses next.world.exchange → FitsStep (moves (segment_machine program caps) n next)) → FitsStep (and_then move (moves (segment_machine program caps) n))
  moves_then n (Goes next) h rest = rest next h
  moves_then n (Asks question waiting) h rest = tt
  moves_then n (Stops rested) h rest = h

  all_moves : (n : ℕ) (s : Segment) → FitUses s.world.exchange → FitsStep (moves (segment_machine program caps) n s)
  all_moves zero s fits = fits
  all_moves (suc n) s fits = moves_then n (segment_step program caps s) (move_fits s (source_step program s.running) fits) (λ next h. all_moves n next h)

  -- where a run goes on, and where it rests
  pub moves_fit : (n : ℕ) (s next : Segment) → moves (segment_machine program caps) n s ≡ Goes next → FitUses s.world.exchange → FitUses next.world.exchange
  moves_fit n s next e fits = subst FitsStep e (all_moves n s fits)

  pub rest_fits : (s : Segment) (rested : Rested) → segment_step program caps s ≡ Stops rested → FitUses s.world.exchange → FitUses rested.world.exchange
  rest_fits s rested e fits = subst FitsStep e (move_fits s (source_step program s.running) fits)

  pub put_fits : (s next : Segment) → segment_step program caps s ≡ Goes next → FitUses s.world.exchange → FitUses next.world.exchange
  put_fits s next e fits = subst FitsStep e (move_fits s (source_step program s.running) fits)
