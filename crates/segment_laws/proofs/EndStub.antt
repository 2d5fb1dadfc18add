-- The return of a thread's last frame: the end stub ends the thread.
use Rattle.segment_laws.proofs.Common.{◌≡◌, ℕ, ◌+◌, ◌*◌, ◌<◌, List, [], ◌∷◌, pos, Option, None, Ok, refl, sym, ap, subst, ◌∙◌, arith, lit<, eqb-true, word_of, Goes, Stops, after_give, end_of, payload_place_of, Instr, accessed, effect, read, sets, instruction_at, Areas, Frame, FramesAt, HeadersName, TpIsFront, IsGoodAccess, Local, Ended, machine_of, local_move, local_step, ended, system_call, Checked, InStub, NoFrame, read-write_same}
use Rattle.cap_word.specs.Word as word
use Rattle.segment_laws.proofs.Facts.{CodeFacts}
use Rattle.segment_laws.proofs.Registers.{read-write_other, add-small, word_of-small, step-is, access-is, with_register, move-sets}
use Rattle.segment_laws.proofs.Returning.{HasReturned}
use Rattle.segment_laws.proofs.Ways.{IsGoodState, Leads, Leads-one, Leads-then, ComesTo}

-- a thread without a frame at a word of the end stub
record InEnd (c : Checked) (l : Local) (word_ : ℕ) (chunk : ℕ) : Type 0 where
  pub small : word_ < 2
  pub pc : l.core.pc ≡ 4096 + 4 * word_
  pub chain : l.core.chain ≡ chunk ∷ []
  pub there : chunk < l.areas.pool.count
  pub sp_is : read l.core.x 2 ≡ end_of l.areas.pool chunk
  pub tp_is : read l.core.x 4 ≡ payload_place_of l.areas.pool chunk
  pub headers : HeadersName l.areas.pool l.core.chain

good_end : (c : Checked) (code : List ℕ) (l : Local) (w chunk : ℕ) (instr : Instr) → InEnd c l w chunk → instruction_at code l.core.pc ≡ Ok instr → accessed instr (machine_of l) ≡ None → IsGoodState c code l
good_end c code l w chunk instr is fetch quiet = record {
  place = InStub w;
  frames = [];
  in_place = record {
    at = (is.small, is.pc);
    frames_are = subst (λ (ch : List ℕ). FramesAt c l.areas.pool l.core (InStub w) NoFrame ch []) (sym is.chain) (is.there, is.sp_is);
    front = subst (TpIsFront l.areas.pool l.core) (sym is.chain) is.tp_is;
    headers = is.headers;
  };
  access = subst (IsGoodAccess c []) (sym (access-is code l instr fetch ∙ quiet)) tt;
}

pub ends_thread : (c : Checked) (code : List ℕ) (l : Local) (frame : Frame) (value : Option ℕ) → CodeFacts c code → HasReturned c code l frame [] value → (n : ℕ) × ComesTo c code n l (Stops (Ended (record l.areas { pool = after_give l.areas.pool frame.chunk })))
unfolding effect accessed
ends_thread c code l frame value facts has =
    let left = has.left in
    let l1 = left.next in
    let stack = left.stack in
    let chunk = frame.chunk in
    let whole : frame.low + frame.bytes ≡ end_of l1.areas.pool chunk = eqb-true (frame.low + frame.bytes) (end_of l1.areas.pool chunk) (sym stack.0.first ∙ stack.2) in
    let first : InEnd c l1 0 chunk = record {
      small = lit< tt;
      pc = left.pc ∙ stack.3;
      chain = stack.1;
      there = stack.0.chunk;
      sp_is = left.sp_is ∙ whole;
      tp_is = left.tp_is;
      headers = left.headers;
    } in
    let fetch1 : instruction_at code l1.core.pc ≡ Ok (Instr.Addi 17 0 (pos 30)) = ap (instruction_at code) first.pc ∙ facts.stub_fetch 0 (Instr.Addi 17 0 (pos 30)) refl in
    let l2 : Local = with_register l1 17 30 in
    let thirty : word.add 0 (word_of (pos 30)) ≡ 30 = ap (word.add 0) (word_of-small 30 (lit< tt)) ∙ add-small 0 30 (lit< tt) in
    let step1 : local_step code l1 ≡ Goes l2 = step-is code l1 (Instr.Addi 17 0 (pos 30)) fetch1 ∙ ap (λ (v : ℕ). local_move l1 (sets (machine_of l1) 17 v)) thirty ∙ move-sets l1 17 30 in
    let count = left.form.core.count in
    let second : InEnd c l2 1 chunk = record {
      small = lit< tt;
      pc = ap (λ (p : ℕ). word.add p 4) first.pc ∙ add-small (4096 + 4 * 0) 4 (lit< tt);
      chain = stack.1;
      there = stack.0.chunk;
      sp_is = read-write_other l1.core.x 17 30 2 (λ e. omega arith) ∙ first.sp_is;
      tp_is = read-write_other l1.core.x 17 30 4 (λ e. omega arith) ∙ first.tp_is;
      headers = left.headers;
    } in
    let fetch2 : instruction_at code l2.core.pc ≡ Ok Instr.Ecall = ap (instruction_at code) second.pc ∙ facts.stub_fetch 1 Instr.Ecall refl in
    let number : read l2.core.x 17 ≡ 30 = read-write_same l1.core.x 17 30 (lit< tt) (omega (arith, count)) in
    let step2 : local_step code l2 ≡ ended l2 (chunk ∷ []) = step-is code l2 Instr.Ecall fetch2 ∙ ap (system_call l2) number ∙ ap (ended l2) stack.1 in
    let leads : Leads c code (has.count + (3 + 1)) l l2 = Leads-then c code has.count (3 + 1) l has.mid l2 has.first (Leads-then c code 3 1 has.mid l1 l2 left.leads (Leads-one c code l1 l2 (good_end c code l1 0 chunk (Instr.Addi 17 0 (pos 30)) first fetch1 refl) step1)) in (
      has.count + (3 + 1),
      record {
        at = l2;
        leads = leads;
        good = good_end c code l2 1 chunk Instr.Ecall second fetch2 refl;
        move_is = step2 ∙ ap (λ (a : Areas). Stops (Ended (record a { pool = after_give a.pool chunk }))) has.areas;
      },
    )
