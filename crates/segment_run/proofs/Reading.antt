-- Frames as they are read from the chunks of a thread.
use Rattle.segment_run.proofs.Common.{◌≡◌, ℕ, ◌+◌, ◌-◌, ◌/◌, ◌<◌, ◌≤◌, Bool, true, false, List, ◌∷◌, length, get_or, Some, sym, ap, subst, ◌∙◌, arith, nat_eq, slice_get, eq-eqb, ne_eqb, get_or-drop, length-drop, lowered, ProgramTree, IsWellScoped, IsValid, Pool, chunk_of, payload_of, place_of, end_of, payload_place_of, chunk_at, IsPool, words_of, chunk_at-some, formed, program_zeroes, Frame, IsAbove, HeadersName, chain_below, low_below, frame_bytes, return_word, saved_tp, saved_sp, Checked, CodeFacts-valid, fact_at, Certificate, Image, IsReadOf, IsChunk-chunk_of, words_of-payload, as_many, stack_frame, rest_is}
use Rattle.segment_run.specs.declared.walking.Frame.{Frame as ReadFrame}

-- where a frame that is read lies
pub record Lies (certificate : Certificate) (pool : Pool) (frame : ReadFrame) : Type 0 where
  pub function : frame.function < length certificate.functions
  pub chunk : frame.chunk < pool.count
  pub low : place_of pool frame.chunk + 16 ≤ frame.low
  pub high : frame.low + (fact_at certificate frame.function).frame ≤ end_of pool frame.chunk
  pub ra : (fact_at certificate frame.function).ra + 4 ≤ (fact_at certificate frame.function).frame

pub lies : (program : ProgramTree) (image : Image) (certificate : Certificate) (pool : Pool) (frame : ReadFrame) (chain : List ℕ) (at : Frame) (below : List Frame) → IsWellScoped program → IsValid (lowered program) image certificate →
    IsReadOf (record { flat = lowered program; certificate = certificate }) pool frame chain at below → Lies certificate pool frame
lies program image certificate pool frame chain at below scoped valid is =
    let c : Checked = record { flat = lowered program; certificate = certificate } in
    let facts = CodeFacts-valid (lowered program) image certificate (formed program image certificate scoped valid) (program_zeroes program scoped) valid in
    let whole = stack_frame c pool chain at below is.stack in
    let function : frame.function < length (lowered program).functions = subst (λ (f : ℕ). f < length (lowered program).functions) is.function whole.function in
    let high : at.low + frame_bytes c at.function ≤ end_of pool at.chunk = subst (λ (n : ℕ). at.low + n ≤ end_of pool at.chunk) is.bytes whole.highest in
    record {
      function = subst (λ (n : ℕ). frame.function < n) (sym (as_many (lowered program) image certificate valid)) function;
      chunk = subst (λ (k : ℕ). k < pool.count) is.chunk whole.chunk;
      low = subst (λ (k : ℕ). place_of pool k + 16 ≤ frame.low) is.chunk (subst (λ (n : ℕ). payload_place_of pool at.chunk ≤ n) is.low whole.lowest);
      high = subst (λ (n : ℕ). n + (fact_at certificate frame.function).frame ≤ end_of pool frame.chunk) is.low
          (subst (λ (k : ℕ). at.low + (fact_at certificate frame.function).frame ≤ end_of pool k) is.chunk (subst (λ (f : ℕ). at.low + frame_bytes c f ≤ end_of pool at.chunk) is.function high));
      ra = (facts.frame frame.function function).ra_inside;
    }

-- ---- the return address

pub payload_length : (p : Pool) (chunk : ℕ) → IsPool p → chunk < p.count → length (payload_of p chunk) ≡ words_of p chunk - 4
payload_length p chunk sound within =
    length-drop 4 (chunk_of p chunk) ∙ ap (λ (n : ℕ). n - 4) (IsChunk-chunk_of p chunk sound within).length

pub returns_is : (c : Checked) (pool : Pool) (frame : ReadFrame) (chain : List ℕ) (at : Frame) (below : List Frame) (offset : ℕ) → IsReadOf c pool frame chain at below →
    offset ≡ frame.low + (fact_at c.certificate frame.function).ra - place_of pool frame.chunk → 16 ≤ offset → get_or (payload_of pool frame.chunk) (offset / 4 - 4) 0 ≡ at.returns
returns_is c pool frame chain at below offset is offset_is behind =
    let number : 4 + (offset / 4 - 4) ≡ offset / 4 = omega arith in
    get_or-drop 4 (chunk_of pool frame.chunk) (offset / 4 - 4) 0
    ∙ ap (λ (k : ℕ). get_or (chunk_of pool frame.chunk) k 0) (number ∙ ap (λ (n : ℕ). n / 4) offset_is)
    ∙ (λ i. return_word c pool (sym is.function i) (sym is.chunk i) (sym is.low i))
    ∙ sym is.returns

-- ---- the frame below

-- the frame ends at its chunk's end exactly where it is the first
is_first : (c : Checked) (pool : Pool) (frame : ReadFrame) (chain : List ℕ) (at : Frame) (below : List Frame) → IsReadOf c pool frame chain at below →
    at.is_first ≡ nat_eq (frame.low + (fact_at c.certificate frame.function).frame) (end_of pool frame.chunk)
is_first c pool frame chain at below is =
    (stack_frame c pool chain at below is.stack).first
    ∙ (λ i. nat_eq (is.low i + is.bytes i) (end_of pool (is.chunk i)))
    ∙ (λ i. nat_eq (frame.low + frame_bytes c (is.function i)) (end_of pool frame.chunk))

pub ends_chunk : (c : Checked) (pool : Pool) (frame : ReadFrame) (chain : List ℕ) (at : Frame) (below : List Frame) → IsReadOf c pool frame chain at below →
    frame.low + (fact_at c.certificate frame.function).frame ≡ end_of pool frame.chunk → at.is_first ≡ true
ends_chunk c pool frame chain at below is same = is_first c pool frame chain at below is ∙ eq-eqb _ _ same

pub ends_before : (c : Checked) (pool : Pool) (frame : ReadFrame) (chain : List ℕ) (at : Frame) (below : List Frame) → IsReadOf c pool frame chain at below →
    (frame.low + (fact_at c.certificate frame.function).frame ≡ end_of pool frame.chunk → ⊥) → at.is_first ≡ false
ends_before c pool frame chain at below is apart = is_first c pool frame chain at below is ∙ ne_eqb _ _ apart

-- below the first of a chunk
pub record NextChunk (c : Checked) (pool : Pool) (frame : ReadFrame) (chain : List ℕ) (at next : Frame) (below : List Frame) : Type 0 where
  pub low : next.low ≡ saved_sp pool frame.chunk
  pub found : chunk_at pool (saved_tp pool frame.chunk) ≡ Some next.chunk
  pub headers : HeadersName pool (chain_below at.is_first chain)

pub next_chunk : (c : Checked) (pool : Pool) (frame : ReadFrame) (chain : List ℕ) (at next : Frame) (below : List Frame) → IsPool pool → IsReadOf c pool frame chain at (next ∷ below) → at.is_first ≡ true → NextChunk c pool frame chain at next below
next_chunk c pool frame chain at next below sound is first =
    let above : IsAbove c pool chain at next = is.stack.1 in
    let rest = rest_is chain at.chunk is.front in
    let chain_is : chain_below at.is_first chain ≡ rest.0 = (λ i. chain_below (first i) (rest.1 i)) in
    let second = rest_is rest.0 next.chunk (ap (λ (cs : List ℕ). slice_get cs 0) (sym chain_is) ∙ above.chunk) in
    let names : HeadersName pool (at.chunk ∷ next.chunk ∷ second.0) = subst (HeadersName pool) (rest.1 ∙ ap (λ (cs : List ℕ). at.chunk ∷ cs) second.1) is.headers in
    let within : next.chunk < pool.count = (stack_frame c pool (chain_below at.is_first chain) next below is.stack.2).chunk in
    record {
      low = above.low ∙ (λ i. low_below pool (first i) at) ∙ ap (saved_sp pool) is.chunk;
      found = ap (λ (k : ℕ). chunk_at pool (saved_tp pool k)) (sym is.chunk) ∙ ap (chunk_at pool) names.0 ∙ chunk_at-some pool next.chunk (payload_place_of pool next.chunk) (within, omega arith, omega (arith, words_of-payload pool next.chunk sound within));
      headers = subst (HeadersName pool) (sym (chain_is ∙ second.1)) names.1;
    }

-- below any other frame
pub record SameChunk (c : Checked) (pool : Pool) (frame : ReadFrame) (chain : List ℕ) (at next : Frame) (below : List Frame) : Type 0 where
  pub low : next.low ≡ frame.low + (fact_at c.certificate frame.function).frame
  pub chunk : next.chunk ≡ frame.chunk
  pub headers : HeadersName pool (chain_below at.is_first chain)

pub same_chunk : (c : Checked) (pool : Pool) (frame : ReadFrame) (chain : List ℕ) (at next : Frame) (below : List Frame) → IsReadOf c pool frame chain at (next ∷ below) → at.is_first ≡ false → SameChunk c pool frame chain at next below
same_chunk c pool frame chain at next below is other =
    let above : IsAbove c pool chain at next = is.stack.1 in
    let chain_is : chain_below at.is_first chain ≡ chain = ap (λ (b : Bool). chain_below b chain) other in
    let both : Some next.chunk ≡ Some at.chunk = sym above.chunk ∙ ap (λ (cs : List ℕ). slice_get cs 0) chain_is ∙ is.front in
    let same : next.chunk ≡ at.chunk = cc in
    record {
      low = above.low ∙ (λ i. low_below pool (other i) at) ∙ (λ i. is.low i + is.bytes i) ∙ (λ i. frame.low + frame_bytes c (is.function i));
      chunk = same ∙ is.chunk;
      headers = subst (HeadersName pool) (sym chain_is) is.headers;
    }

-- what is read of it
pub read_next : (c : Checked) (pool : Pool) (frame found : ReadFrame) (chain : List ℕ) (at next : Frame) (below : List Frame) → IsReadOf c pool frame chain at (next ∷ below) → HeadersName pool (chain_below at.is_first chain) →
    next.function ≡ found.function → next.low ≡ found.low → next.chunk ≡ found.chunk → IsReadOf c pool found (chain_below at.is_first chain) next below
read_next c pool frame found chain at next below is headers function low chunk =
    let above : IsAbove c pool chain at next = is.stack.1 in
    record {
      function = function;
      low = low;
      chunk = chunk;
      bytes = above.bytes;
      returns = above.returns;
      stack = is.stack.2;
      front = above.chunk;
      headers = headers;
    }
