-- A thread at any place at which its running frame lies in the front chunk: at a function's first words, in its prologue,
-- within an operation and at a return. What one instruction there needs, and what a store in the frame leaves.
use Rattle.segment_laws.proofs.Common.{◌≡◌, ℕ, ◌+◌, ◌%◌, ◌^◌, ◌<◌, ◌≤◌, List, ◌∷◌, length, pos, Ok, refl, sym, ap, subst, ◌∙◌, arith, inl, Goes, Instr, accessed, read, instruction_at, read-below, Areas, with_byte, Frame, frame_bytes, return_word, IsStack, FramesAt, HeadersName, TpIsFront, HasFrames, IsGoodAccess, ra, sp, tp, Local, machine_of, local_step, Checked, Place, IsAt, Row, NoFrame, Empty, Fresh, Linking, Whole, row_of, function_of, operation_of, HasForm}
use Rattle.chunk_pool.specs.Pool.{Pool, with_word as with_pool_word, payload_place_of}
use Rattle.rv_machine.specs.Bytes.{with_word}
use Rattle.segment_laws.proofs.Facts.{CodeFacts, Fit-areas}
use Rattle.segment_laws.proofs.FrameWords.{InFrame-at, InFrame}
use Rattle.segment_laws.proofs.Registers.{step-is, access-is, with_areas, move-sw}
use Rattle.segment_laws.proofs.Stacks.{AreAway, IsFront, IsOnce, stack_away, IsStack-with_word, HeadersName-with_word}
use Rattle.segment_laws.proofs.Ways.{IsGoodState, Leads, Leads-one, HasForm-next}
use Rattle.segment_laws.proofs.Words.{word_number, stored-payload, writable-payload}

-- the bytes of the running frame and what it returns to, by the row
abbrev pub RowHolds : Checked → Local → ℕ → Row → Frame → Type 0
RowHolds c l f Empty frame = (frame.bytes ≡ 0) × (frame.returns ≡ read l.core.x ra)
RowHolds c l f Fresh frame = (frame.bytes ≡ frame_bytes c f) × (frame.returns ≡ read l.core.x ra)
RowHolds c l f Whole frame = (frame.bytes ≡ frame_bytes c f) × (frame.returns ≡ return_word c l.areas.pool f frame.chunk frame.low)
RowHolds c l f _ frame = ⊥

pub record Standing (c : Checked) (l : Local) (place : Place) (row : Row) (frame : Frame) (below : List Frame) : Type 0 where
  pub form : HasForm c l
  pub at : IsAt c l.core.pc place
  pub row_is : row_of c place ≡ row
  pub sp_is : read l.core.x sp ≡ frame.low
  pub tp_is : read l.core.x tp ≡ payload_place_of l.areas.pool frame.chunk
  pub front : IsFront l.core.chain frame.chunk
  pub function : frame.function ≡ function_of place
  pub operation : frame.operation ≡ operation_of place
  pub holds : RowHolds c l (function_of place) row frame
  pub stack : IsStack c l.areas.pool l.core.chain frame below
  pub headers : HeadersName l.areas.pool l.core.chain

frames_at : (c : Checked) (l : Local) (place : Place) (row : Row) (frame : Frame) (below : List Frame) (rest : List ℕ) → Standing c l place row frame below → l.core.chain ≡ frame.chunk ∷ rest → FramesAt c l.areas.pool l.core place row (frame.chunk ∷ rest) (frame ∷ below)
frames_at c l place NoFrame frame below rest is chain = absurd is.holds
frames_at c l place Linking frame below rest is chain = absurd is.holds
frames_at c l place Whole frame below rest is chain = (
  record {
    function = is.function;
    operation = is.operation;
    chunk_is = refl;
    low_is = sym is.sp_is;
    bytes_are = is.holds.0;
    returns_are = is.holds.1 ∙ ap (return_word c l.areas.pool (function_of place) frame.chunk) (sym is.sp_is);
  },
  subst (λ (ch : List ℕ). IsStack c l.areas.pool ch frame below) chain is.stack,
)
frames_at c l place _ frame below rest is chain = (
  record { function = is.function; operation = is.operation; chunk_is = refl; low_is = sym is.sp_is; bytes_are = is.holds.0; returns_are = is.holds.1 },
  subst (λ (ch : List ℕ). IsStack c l.areas.pool ch frame below) chain is.stack,
)

pub HasFrames-standing : (c : Checked) (l : Local) (place : Place) (row : Row) (frame : Frame) (below : List Frame) → Standing c l place row frame below → HasFrames c l.areas.pool l.core place (frame ∷ below)
HasFrames-standing c l place row frame below is = record {
  at = is.at;
  frames_are = subst (λ (r : Row). FramesAt c l.areas.pool l.core place r l.core.chain (frame ∷ below)) (sym is.row_is)
      (subst (λ (ch : List ℕ). FramesAt c l.areas.pool l.core place row ch (frame ∷ below)) (sym is.front.is) (frames_at c l place row frame below is.front.rest is is.front.is));
  front = subst (TpIsFront l.areas.pool l.core) (sym is.front.is) is.tp_is;
  headers = is.headers;
}

-- an instruction there, whose access is good
pub IsGoodState-standing : (c : Checked) (code : List ℕ) (l : Local) (place : Place) (row : Row) (frame : Frame) (below : List Frame) (instr : Instr) → Standing c l place row frame below →
    instruction_at code l.core.pc ≡ Ok instr → IsGoodAccess c (frame ∷ below) (accessed instr (machine_of l)) → IsGoodState c code l
IsGoodState-standing c code l place row frame below instr is fetch good = record {
  place = place;
  frames = frame ∷ below;
  in_place = HasFrames-standing c l place row frame below is;
  access = subst (IsGoodAccess c (frame ∷ below)) (sym (access-is code l instr fetch)) good;
}

-- one instruction that goes on
pub record Stepped (c : Checked) (code : List ℕ) (l next : Local) : Type 0 where
  pub leads : Leads c code 1 l next
  pub form : HasForm c next

pub stepped : (c : Checked) (code : List ℕ) (l next : Local) (place : Place) (row : Row) (frame : Frame) (below : List Frame) (instr : Instr) → Standing c l place row frame below →
    instruction_at code l.core.pc ≡ Ok instr → IsGoodAccess c (frame ∷ below) (accessed instr (machine_of l)) → local_step code l ≡ Goes next → Stepped c code l next
stepped c code l next place row frame below instr is fetch good step =
    record { leads = Leads-one c code l next (IsGoodState-standing c code l place row frame below instr is fetch good) step; form = HasForm-next c code l next is.form step }

-- ---- a word of the running frame

pub once_standing : (c : Checked) (l : Local) → HasForm c l → IsOnce l.core.chain
once_standing c l form chunk =
    let most = form.owns.once chunk in
    let one = Rattle.std.proofs.lemmas.Bool.cond_both (Rattle.std.specs.Prelude.nat_lt chunk l.areas.pool.count) 1 0 (λ (n : ℕ). n ≤ 1) (λ _. omega arith) (λ _. omega arith) in
    omega (arith, most, one)

-- an aligned word at an offset of a frame of so many bytes
pub InFrame-standing : (c : Checked) (code : List ℕ) (l : Local) (place : Place) (row : Row) (frame : Frame) (below : List Frame) (offset : ℕ) → CodeFacts c code → Standing c l place row frame below → frame.bytes ≡ frame_bytes c (function_of place) →
    function_of place < length c.flat.functions → offset % 4 ≡ 0 → offset + 4 ≤ frame_bytes c (function_of place) → InFrame l frame offset
InFrame-standing c code l place row frame below offset facts is bytes there aligned fits = InFrame-at c code l (function_of place) frame below offset facts there is.form bytes is.sp_is is.stack aligned fits

-- the pool after a word at an offset of the frame is written
abbrev pub pool_with : Local → Frame → ℕ → ℕ → Pool
pool_with l frame offset value = with_pool_word l.areas.pool frame.chunk (word_number l.areas.pool frame.chunk (frame.low + offset)) value

abbrev pub stored_at : Local → Frame → ℕ → ℕ → Local
stored_at l frame offset value = with_areas l (record l.areas { pool = pool_with l frame offset value })

-- sw rs, offset(sp)
pub record Stores (c : Checked) (code : List ℕ) (l : Local) (frame : Frame) (below : List Frame) (offset value : ℕ) : Type 0 where
  pub step : Stepped c code l (stored_at l frame offset value)
  pub stack : IsStack c (pool_with l frame offset value) l.core.chain frame below
  pub headers : HeadersName (pool_with l frame offset value) l.core.chain
  pub away : AreAway frame.chunk (frame.low + frame.bytes) below

framed : (c : Checked) (l : Local) (frame : Frame) (below : List Frame) (rs offset : ℕ) → InFrame l frame offset → IsGoodAccess c (frame ∷ below) (accessed (Instr.Sw 2 rs (pos offset)) (machine_of l))
unfolding accessed
framed c l frame below rs offset is =
    let address = is.address in
    let inside = is.inside in
    inl (omega (arith, address), omega (arith, address, inside))

pub store_standing : (c : Checked) (code : List ℕ) (l : Local) (place : Place) (row : Row) (frame : Frame) (below : List Frame) (rs offset value : ℕ) → CodeFacts c code → Standing c l place row frame below → InFrame l frame offset →
    instruction_at code l.core.pc ≡ Ok (Instr.Sw 2 rs (pos offset)) → read l.core.x rs ≡ value → Stores c code l frame below offset value
store_standing c code l place row frame below rs offset value facts is in_frame fetch value_is =
    let fit = Fit-areas c code l.areas facts is.form.areas in
    let k = word_number l.areas.pool frame.chunk (frame.low + offset) in
    let value_below : value < 2 ^ 32 = subst (λ (n : ℕ). n < 2 ^ 32) value_is (read-below l.core.x rs is.form.core.registers) in
    let after : Areas = record l.areas { pool = pool_with l frame offset value } in
    let written : with_word with_byte l.areas (frame.low + offset) (read l.core.x rs) ≡ after =
    ap (with_word with_byte l.areas (frame.low + offset)) value_is ∙ stored-payload l.areas frame.chunk (frame.low + offset) value fit in_frame.payload value_below in
    let step : local_step code l ≡ Goes (stored_at l frame offset value) =
    step-is code l (Instr.Sw 2 rs (pos offset)) fetch
    ∙ move-sw l 2 rs (frame.low + offset) (pos offset) in_frame.address in_frame.payload.aligned (writable-payload l.areas frame.chunk (frame.low + offset) fit in_frame.payload)
    ∙ ap (λ (a : Areas). Goes (with_areas l a)) written in
    let away = stack_away c l.areas.pool l.core.chain frame below is.stack is.front (once_standing c l is.form) in
    record {
      step = stepped c code l (stored_at l frame offset value) place row frame below (Instr.Sw 2 rs (pos offset)) is fetch (framed c l frame below rs offset in_frame) step;
      stack = IsStack-with_word c l.areas.pool l.core.chain frame below frame.chunk k value (frame.low + frame.bytes) is.stack in_frame.ends away;
      headers = HeadersName-with_word l.areas.pool l.core.chain frame.chunk k value in_frame.ends.behind is.headers;
      away = away;
    }
