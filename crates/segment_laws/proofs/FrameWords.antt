-- Words of the running frame, loaded and stored.
use Rattle.segment_laws.proofs.Common.{◌≡◌, ℕ, ◌+◌, ◌-◌, ◌/◌, ◌%◌, ◌^◌, ◌<◌, ◌≤◌, Bool, true, false, List, [], ◌∷◌, length, ℤ, pos, Ok, refl, sym, ap, subst, ◌∙◌, arith, inl, nat_lt, cond_both, eqb-true, word_of, Goes, place_of-aligned, place_of-bounded, Instr, accessed, read, instruction_at, read-below, Op, fact_at, Areas, with_byte, Frame, word_in, frame_bytes, IsFrame, IsStack, chain_below, low_below, IsGoodAccess, Local, machine_of, local_step, Checked, HasForm, bytes_of-aligned}
use Rattle.cap_word.specs.Word as word
use Rattle.chunk_pool.specs.Pool.{Pool, with_word as with_pool_word, place_of, end_of, IsPool}
use Rattle.rv_machine.specs.Bytes.{with_word}
use Rattle.segment_laws.proofs.Facts.{CodeFacts, IsOperationAt, Fit-areas}
use Rattle.segment_laws.proofs.Inside.{Inside, IsWholeWord, IsGoodState-inside, pc_next, IsValueRegister, IsSet, set_register}
use Rattle.segment_laws.proofs.Registers.{add-small, word_of-small, step-is, with_areas, effect-lw, move-sw}
use Rattle.segment_laws.proofs.Stacks.{IsOnce, EndsBy, stack_away, word_of-other, IsStack-with_word, HeadersName-with_word}
use Rattle.segment_laws.proofs.Ways.{Leads, Leads-one, HasForm-next}
use Rattle.segment_laws.proofs.Words.{PayloadWord, word_number, loaded-payload, stored-payload, writable-payload}

-- ---- the frame

pub stack_frame : (c : Checked) (pool : Pool) (chain : List ℕ) (frame : Frame) (below : List Frame) → IsStack c pool chain frame below → IsFrame c pool frame
stack_frame c pool chain frame [] stack = stack.0
stack_frame c pool chain frame (b ∷ bs) stack = stack.0

at_end : (c : Checked) (pool : Pool) (frame : Frame) → IsFrame c pool frame → frame.is_first ≡ true → frame.low + frame.bytes ≡ end_of pool frame.chunk
at_end c pool frame is first = eqb-true (frame.low + frame.bytes) (end_of pool frame.chunk) (sym is.first ∙ first)

end_aligned : (pool : Pool) (chunk : ℕ) → IsPool pool → end_of pool chunk % 16 ≡ 0
end_aligned pool chunk sound =
    let place = place_of-aligned pool chunk sound in
    let bytes = bytes_of-aligned pool chunk sound in
    omega (arith, place, bytes)

-- a frame that ends at its chunk's end, or where an aligned one begins
aligned_by : (c : Checked) (pool : Pool) (frame : Frame) (low : ℕ) (first : Bool) → IsPool pool → IsFrame c pool frame → frame.bytes % 16 ≡ 0 → frame.is_first ≡ first → low ≡ low_below pool first frame → low % 16 ≡ 0 → frame.low % 16 ≡ 0
aligned_by c pool frame low true sound is bytes first below aligned =
    let end = at_end c pool frame is first in
    let whole = end_aligned pool frame.chunk sound in
    omega (arith, end, whole, bytes)
aligned_by c pool frame low false sound is bytes first below aligned = omega arith

-- each frame begins at a multiple of 16
pub stack_aligned : (c : Checked) (code : List ℕ) (pool : Pool) (chain : List ℕ) (frame : Frame) (below : List Frame) → CodeFacts c code → IsPool pool → frame.bytes % 16 ≡ 0 → IsStack c pool chain frame below → frame.low % 16 ≡ 0
stack_aligned c code pool chain frame [] facts sound bytes stack =
    let end = at_end c pool frame stack.0 stack.2 in
    let whole = end_aligned pool frame.chunk sound in
    omega (arith, end, whole, bytes)
stack_aligned c code pool chain frame (b ∷ bs) facts sound bytes stack =
    let b_bytes : b.bytes % 16 ≡ 0 = ap (λ (n : ℕ). n % 16) stack.1.bytes ∙ (facts.frame b.function (stack_frame c pool (chain_below frame.is_first chain) b bs stack.2).function).aligned in
    aligned_by c pool frame b.low frame.is_first sound stack.0 bytes refl stack.1.low
    (stack_aligned c code pool (chain_below frame.is_first chain) b bs facts sound b_bytes stack.2)

-- ---- a word of the running frame

-- what is known of an aligned word at an offset of the running frame
pub record InFrame (l : Local) (frame : Frame) (offset : ℕ) : Type 0 where
  pub payload : PayloadWord l.areas.pool frame.chunk (frame.low + offset)
  pub address : word.add (read l.core.x 2) (word_of (pos offset)) ≡ frame.low + offset
  pub ends : EndsBy l.areas.pool frame.chunk (word_number l.areas.pool frame.chunk (frame.low + offset)) (frame.low + frame.bytes)
  pub low_aligned : frame.low % 16 ≡ 0
  pub place_aligned : place_of l.areas.pool frame.chunk % 16 ≡ 0
  pub low_in : place_of l.areas.pool frame.chunk + 16 ≤ frame.low
  pub inside : frame.low + offset + 4 ≤ frame.low + frame.bytes

-- an aligned word at an offset of the front frame of a stack
pub InFrame-at : (c : Checked) (code : List ℕ) (l : Local) (f : ℕ) (frame : Frame) (below : List Frame) (offset : ℕ) → CodeFacts c code → f < length c.flat.functions → HasForm c l → frame.bytes ≡ frame_bytes c f → read l.core.x 2 ≡ frame.low →
    IsStack c l.areas.pool l.core.chain frame below → offset % 4 ≡ 0 → offset + 4 ≤ frame_bytes c f → InFrame l frame offset
InFrame-at c code l f frame below offset facts there form bytes sp_is stack aligned fits =
    let sound = form.areas.pool in
    let fact = facts.frame f there in
    let frame_is = stack_frame c l.areas.pool l.core.chain frame below stack in
    let bytes_aligned : frame.bytes % 16 ≡ 0 = ap (λ (n : ℕ). n % 16) bytes ∙ fact.aligned in
    let low_aligned : frame.low % 16 ≡ 0 = stack_aligned c code l.areas.pool l.core.chain frame below facts sound bytes_aligned stack in
    let place = place_of-aligned l.areas.pool frame.chunk sound in
    let bounded : end_of l.areas.pool frame.chunk ≤ 0x8400_0000 = place_of-bounded l.areas.pool frame.chunk sound frame_is.chunk in
    let lowest : place_of l.areas.pool frame.chunk + 16 ≤ frame.low = frame_is.lowest in
    let highest : frame.low + frame.bytes ≤ end_of l.areas.pool frame.chunk = frame_is.highest in
    let inside : frame.low + offset + 4 ≤ frame.low + frame.bytes = omega (arith, bytes, fits) in
    let small : offset < 2 ^ 32 = omega (arith, inside, highest, bounded) in
    let sum : read l.core.x 2 + offset < 2 ^ 32 = omega (arith, sp_is, inside, highest, bounded) in
    record {
      payload = record { chunk_below = frame_is.chunk; low = omega (arith, lowest); high = omega (arith, inside, highest); aligned = omega (arith, low_aligned, aligned) };
      address = ap (word.add (read l.core.x 2)) (word_of-small offset small) ∙ add-small (read l.core.x 2) offset sum ∙ ap (λ (n : ℕ). n + offset) sp_is;
      ends = record { behind = omega (arith, lowest); by = omega (arith, inside, lowest) };
      low_aligned = low_aligned;
      place_aligned = place;
      low_in = lowest;
      inside = inside;
    }

pub InFrame-inside : (c : Checked) (code : List ℕ) (l : Local) (f i w : ℕ) (frame : Frame) (below : List Frame) (offset : ℕ) → CodeFacts c code → f < length c.flat.functions → Inside c l f i w frame below → offset % 4 ≡ 0 → offset + 4 ≤ frame_bytes c f → InFrame l frame offset
InFrame-inside c code l f i w frame below offset facts there is aligned fits = InFrame-at c code l f frame below offset facts there is.form is.body.bytes is.sp_is is.stack aligned fits

-- a frame ends below the end of the map
pub frame_bounded : (c : Checked) (l : Local) (f i w : ℕ) (frame : Frame) (below : List Frame) → Inside c l f i w frame below → frame.low + frame.bytes ≤ 0x8400_0000
frame_bounded c l f i w frame below is =
    let frame_is = stack_frame c l.areas.pool l.core.chain frame below is.stack in
    let bounded : end_of l.areas.pool frame.chunk ≤ 0x8400_0000 = place_of-bounded l.areas.pool frame.chunk is.form.areas.pool frame_is.chunk in
    let highest : frame.low + frame.bytes ≤ end_of l.areas.pool frame.chunk = frame_is.highest in
    omega (arith, bounded, highest)

-- the access of a load or store at a word of the frame, whatever register and immediate give its address
pub framed_lw : (c : Checked) (l : Local) (frame : Frame) (below : List Frame) (rd rs1 offset : ℕ) (imm : ℤ) → InFrame l frame offset → word.add (read l.core.x rs1) (word_of imm) ≡ frame.low + offset → IsGoodAccess c (frame ∷ below) (accessed (Instr.Lw rd rs1 imm) (machine_of l))
unfolding accessed
framed_lw c l frame below rd rs1 offset imm is address =
    let inside = is.inside in
    inl (omega (arith, address), omega (arith, address, inside))

pub framed_sw : (c : Checked) (l : Local) (frame : Frame) (below : List Frame) (rs1 rs2 offset : ℕ) (imm : ℤ) → InFrame l frame offset → word.add (read l.core.x rs1) (word_of imm) ≡ frame.low + offset → IsGoodAccess c (frame ∷ below) (accessed (Instr.Sw rs1 rs2 imm) (machine_of l))
unfolding accessed
framed_sw c l frame below rs1 rs2 offset imm is address =
    let inside = is.inside in
    inl (omega (arith, address), omega (arith, address, inside))

-- lw rd, imm(rs1), where that is a word of the frame
pub load_at : (c : Checked) (code : List ℕ) (l : Local) (f i w : ℕ) (op : Op) (frame : Frame) (below : List Frame) (rd rs1 offset : ℕ) (imm : ℤ) → CodeFacts c code → IsOperationAt c code f i op → IsWholeWord c f w op → Inside c l f i w frame below →
    instruction_at code l.core.pc ≡ Ok (Instr.Lw rd rs1 imm) → InFrame l frame offset → word.add (read l.core.x rs1) (word_of imm) ≡ frame.low + offset → IsValueRegister rd →
    IsSet c code l f i w frame below rd (word_in l.areas.pool frame.chunk (frame.low + offset))
load_at c code l f i w op frame below rd rs1 offset imm facts at word is fetch in_frame address register =
    set_register c code l f i w op frame below (Instr.Lw rd rs1 imm) rd (word_in l.areas.pool frame.chunk (frame.low + offset)) at word is fetch
    (effect-lw l rd rs1 (frame.low + offset) (word_in l.areas.pool frame.chunk (frame.low + offset)) imm address in_frame.payload.aligned (loaded-payload l.areas frame.chunk (frame.low + offset) (Fit-areas c code l.areas facts is.form.areas) in_frame.payload))
    (framed_lw c l frame below rd rs1 offset imm in_frame address) register

-- lw rd, offset(sp)
pub load_word : (c : Checked) (code : List ℕ) (l : Local) (f i w : ℕ) (op : Op) (frame : Frame) (below : List Frame) (rd offset : ℕ) → CodeFacts c code → IsOperationAt c code f i op → IsWholeWord c f w op → Inside c l f i w frame below →
    instruction_at code l.core.pc ≡ Ok (Instr.Lw rd 2 (pos offset)) → offset % 4 ≡ 0 → offset + 4 ≤ frame_bytes c f → IsValueRegister rd →
    IsSet c code l f i w frame below rd (word_in l.areas.pool frame.chunk (frame.low + offset))
load_word c code l f i w op frame below rd offset facts at word is fetch aligned fits register =
    let in_frame = InFrame-inside c code l f i w frame below offset facts at.function is aligned fits in
    load_at c code l f i w op frame below rd 2 offset (pos offset) facts at word is fetch in_frame in_frame.address register

-- the thread after one instruction that stored a word in the running frame
pub record IsStored (c : Checked) (code : List ℕ) (l : Local) (f i w : ℕ) (frame : Frame) (below : List Frame) (offset value : ℕ) : Type 0 where
  pub next : Local
  pub leads : Leads c code 1 l next
  pub inside : Inside c next f i (w + 1) frame below
  pub registers : (r : ℕ) → read next.core.x r ≡ read l.core.x r
  pub areas : next.areas ≡ record l.areas { pool = with_pool_word l.areas.pool frame.chunk (word_number l.areas.pool frame.chunk (frame.low + offset)) value }

pub once_of : (c : Checked) (l : Local) (f i w : ℕ) (frame : Frame) (below : List Frame) → Inside c l f i w frame below → IsOnce l.core.chain
once_of c l f i w frame below is chunk =
    let most = is.form.owns.once chunk in
    let one = cond_both (nat_lt chunk l.areas.pool.count) 1 0 (λ (n : ℕ). n ≤ 1) (λ _. omega arith) (λ _. omega arith) in
    omega (arith, most, one)

-- sw rs, imm(rs1), where that is a word of the frame, but for the place of the return address
pub store_at : (c : Checked) (code : List ℕ) (l : Local) (f i w : ℕ) (op : Op) (frame : Frame) (below : List Frame) (rs1 rs2 offset value : ℕ) (imm : ℤ) → CodeFacts c code → IsOperationAt c code f i op → IsWholeWord c f w op → Inside c l f i w frame below →
    instruction_at code l.core.pc ≡ Ok (Instr.Sw rs1 rs2 imm) → InFrame l frame offset → word.add (read l.core.x rs1) (word_of imm) ≡ frame.low + offset → offset % 4 ≡ 0 → (offset ≡ (fact_at c.certificate f).ra → ⊥) → read l.core.x rs2 ≡ value →
    IsStored c code l f i w frame below offset value
store_at c code l f i w op frame below rs1 rs2 offset value imm facts at word is fetch in_frame address aligned not_ra value_is =
    let fit = Fit-areas c code l.areas facts is.form.areas in
    let k = word_number l.areas.pool frame.chunk (frame.low + offset) in
    let value_below : value < 2 ^ 32 = subst (λ (n : ℕ). n < 2 ^ 32) value_is (read-below l.core.x rs2 is.form.core.registers) in
    let after : Areas = record l.areas { pool = with_pool_word l.areas.pool frame.chunk k value } in
    let written : with_word with_byte l.areas (frame.low + offset) (read l.core.x rs2) ≡ after =
    ap (with_word with_byte l.areas (frame.low + offset)) value_is ∙ stored-payload l.areas frame.chunk (frame.low + offset) value fit in_frame.payload value_below in
    let next : Local = with_areas l after in
    let step : local_step code l ≡ Goes next =
    step-is code l (Instr.Sw rs1 rs2 imm) fetch
    ∙ move-sw l rs1 rs2 (frame.low + offset) imm address in_frame.payload.aligned (writable-payload l.areas frame.chunk (frame.low + offset) fit in_frame.payload)
    ∙ ap (λ (a : Areas). Goes (with_areas l a)) written in
    let away = stack_away c l.areas.pool l.core.chain frame below is.stack is.front (once_of c l f i w frame below is) in
    let fact = facts.frame f at.function in
    let ra_aligned = fact.ra_aligned in
    let low_aligned = in_frame.low_aligned in
    let place_aligned = in_frame.place_aligned in
    let low_in = in_frame.low_in in
    record {
      next = next;
      leads = Leads-one c code l next (IsGoodState-inside c code l f i w op frame below (Instr.Sw rs1 rs2 imm) at word is fetch (framed_sw c l frame below rs1 rs2 offset imm in_frame address)) step;
      inside = record {
        form = HasForm-next c code l next is.form step;
        pc = pc_next c code l f i w op at word.small is.pc;
        sp_is = is.sp_is;
        tp_is = is.tp_is;
        front = is.front;
        body = record {
          function = is.body.function;
          operation = is.body.operation;
          bytes = is.body.bytes;
          returns = is.body.returns ∙ sym (word_of-other l.areas.pool frame.chunk k value frame.chunk ((frame.low + (fact_at c.certificate f).ra - place_of l.areas.pool frame.chunk) / 4)
              (λ same equal. not_ra (let e : offset ≡ (fact_at c.certificate f).ra = omega (arith, equal, ra_aligned, aligned, low_aligned, place_aligned, low_in) in e)));
        };
        stack = IsStack-with_word c l.areas.pool l.core.chain frame below frame.chunk k value (frame.low + frame.bytes) is.stack in_frame.ends away;
        headers = HeadersName-with_word l.areas.pool l.core.chain frame.chunk k value in_frame.ends.behind is.headers;
      };
      registers = λ r. refl;
      areas = refl;
    }
