-- What threads tell of themselves: what they wait for, and what they need.
use Rattle.schedule_reading.proofs.Common.{◌≡◌, ℕ, Bool, true, false, List, Option, Some, None, option_map, refl, sym, ap, ◌∙◌, if◌then◌else◌, nat_eq, Block, ThreadId, Exchange, Need, is_arrival, is_met, Slab, get, need_for, Wait, Slot, at_place, wait_of, waits_in}
use Rattle.ready_tree.specs.declared.bounds.Bounds.{Bounds}
use Rattle.thread_waits.specs.Waiting as waits

-- ---- at its place

at_by : (b : Bool) (o : Option Wait) (wait : Wait) → (if b then o else None) ≡ Some wait → o ≡ Some wait
at_by true o wait e = e
at_by false o wait e = absurd (cc)

at_of : (places : List (Option Wait)) (thread : ThreadId) (o : Option Slot) (wait : Wait) → wait_of places thread o ≡ Some wait → at_place places thread.slot ≡ Some wait
at_of places thread None wait e = absurd (cc)
at_of places thread (Some slot) wait e = at_by (nat_eq slot.number thread.number) (at_place places thread.slot) wait e

-- what a thread waits for is waited for at its place
pub waits_at : (slots : Slab Slot) (places : List (Option Wait)) (thread : ThreadId) (wait : Wait) → waits_in slots places thread ≡ Some wait → at_place places thread.slot ≡ Some wait
waits_at slots places thread wait e = at_of places thread (get slots thread.slot) wait e

-- nobody is vouched for who waits for nothing
vouched_on : (slots : Slab Slot) (places : List (Option Wait)) (thread : ThreadId) (need : Need) (o : Option Wait) → waits_in slots places thread ≡ o → option_map need_for o ≡ Some need → at_place places thread.slot ≡ None → ⊥
vouched_on slots places thread need None e v none = absurd (cc)
vouched_on slots places thread need (Some wait) e v none = absurd (let no : None ≡ Some wait = sym none ∙ waits_at slots places thread wait e in cc)

pub vouched_waits : (slots : Slab Slot) (places : List (Option Wait)) (thread : ThreadId) (need : Need) → option_map need_for (waits_in slots places thread) ≡ Some need → at_place places thread.slot ≡ None → ⊥
vouched_waits slots places thread need v none = vouched_on slots places thread need (waits_in slots places thread) refl v none

-- ---- needs

module _ (caps : List ℕ) (x : Exchange) (clock : ℕ) (bounds : Bounds) (need : Need) where
  met_by : (o : Option Wait) → option_map need_for o ≡ Some need → ((wait : Wait) → o ≡ Some wait → is_met bounds (need_for wait) ≡ waits.is_ready_for caps x clock wait) →
      waits.is_ready_in caps x clock o ≡ is_met bounds need
  met_by None e met = absurd (cc)
  met_by (Some wait) e met = let same : need_for wait ≡ need = cc in sym (met wait refl) ∙ ap (λ (n : Need). is_met bounds n) same

  -- a need is met where who waits so is ready
  pub met_for : (slots : Slab Slot) (places : List (Option Wait)) (thread : ThreadId) → option_map need_for (waits_in slots places thread) ≡ Some need →
      ((place : ℕ) (wait : Wait) → at_place places place ≡ Some wait → is_met bounds (need_for wait) ≡ waits.is_ready_for caps x clock wait) →
      waits.is_ready_in caps x clock (waits_in slots places thread) ≡ is_met bounds need
  met_for slots places thread vouched met = met_by (waits_in slots places thread) vouched (λ wait e. met thread.slot wait (waits_at slots places thread wait e))

arrival_of : (wait : Wait) → waits.is_at_accept (Some wait) ≡ is_arrival (need_for wait)
arrival_of Wait.Fresh = refl
arrival_of (Wait.At Block.Accept since) = refl
arrival_of (Wait.At (Block.Wait channel) since) = refl
arrival_of (Wait.At (Block.Sleep ticks) since) = refl
arrival_of (Wait.At Block.Yield since) = refl
arrival_of (Wait.At (Block.WaitFor channel ticks) since) = refl
arrival_of (Wait.At (Block.Take resource amount) since) = refl

-- and is an arrival where it is at `accept`
pub arrival_for : (need : Need) (o : Option Wait) → option_map need_for o ≡ Some need → waits.is_at_accept o ≡ is_arrival need
arrival_for need None e = absurd (cc)
arrival_for need (Some wait) e = let same : need_for wait ≡ need = cc in arrival_of wait ∙ ap (λ (n : Need). is_arrival n) same
