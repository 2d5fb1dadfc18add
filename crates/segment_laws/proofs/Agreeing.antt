-- Two pools that agree in the chunks of a chain: what holds of a thread's frames in the one holds in the other.
use Rattle.segment_laws.proofs.Common.{◌≡◌, ℕ, ◌+◌, ◌-◌, ◌*◌, ◌/◌, ◌<◌, ◌≤◌, Bool, true, false, List, [], ◌∷◌, get_or, Some, slice_get, refl, sym, ap, subst, ◌∙◌, arith, nat_eq, FlatFrame, fact_at, copies, Frame, word_in, IsFrame, chain_below, low_below, IsStack, HeadersName, Checked, HoldsVariables, AreFlatFrames, copies-cons, count-same, place_of-same, payload_place_of-same, end_of-same}
use Rattle.chunk_pool.specs.Pool.{Pool, word_of, place_of, shape_of}
use Rattle.segment_laws.proofs.Stacks.{IsFront, copies-front}

-- the same shape, and the same words in the chunks of a chain
pub record Agrees (p q : Pool) (chain : List ℕ) : Type 0 where
  pub shape : shape_of q ≡ shape_of p
  pub same : (chunk : ℕ) → 1 ≤ copies chunk chain → (j : ℕ) → word_of q chunk j ≡ word_of p chunk j

pub in_front : (chain : List ℕ) (chunk : ℕ) → IsFront chain chunk → 1 ≤ copies chunk chain
in_front chain chunk front = omega (arith, ap (copies chunk) front.is, copies-front chunk front.rest)

pub front_at : (chain : List ℕ) (chunk : ℕ) → slice_get chain 0 ≡ Some chunk → IsFront chain chunk
front_at [] chunk e = absurd cc
front_at (x ∷ xs) chunk e = record { rest = xs; is = (let same : x ≡ chunk = cc in ap (λ (k : ℕ). k ∷ xs) same) }

-- what follows in the chain is in it
later_copies : (chunk other : ℕ) (chain : List ℕ) → 1 ≤ copies chunk chain → 1 ≤ copies chunk (other ∷ chain)
later_copies chunk other chain h = omega (arith, copies-cons chunk other chain)

pub agrees_later : (p q : Pool) (chunk : ℕ) (chain : List ℕ) → Agrees p q (chunk ∷ chain) → Agrees p q chain
agrees_later p q chunk chain h = record { shape = h.shape; same = λ other there j. h.same other (later_copies other chunk chain there) j }

agrees_below : (p q : Pool) (first : Bool) (chain : List ℕ) → Agrees p q chain → Agrees p q (chain_below first chain)
agrees_below p q true (chunk ∷ chain) h = agrees_later p q chunk chain h
agrees_below p q _ _ h = h

pub word_in_same : (p q : Pool) (chain : List ℕ) (chunk address : ℕ) → Agrees p q chain → 1 ≤ copies chunk chain → word_in q chunk address ≡ word_in p chunk address
word_in_same p q chain chunk address h there =
    h.same chunk there ((address - place_of q chunk) / 4) ∙ ap (λ (place : ℕ). word_of p chunk ((address - place) / 4)) (place_of-same p q chunk h.shape)

frame_agrees : (c : Checked) (p q : Pool) (chain : List ℕ) (frame : Frame) → Agrees p q chain → IsFrame c p frame → IsFrame c q frame
frame_agrees c p q chain frame h is =
    let place = place_of-same p q frame.chunk h.shape in
    let end = end_of-same p q frame.chunk h.shape in
    let lowest = is.lowest in
    let highest = is.highest in
    let bound = is.bound in
    record {
      function = is.function;
      chunk = subst (λ (n : ℕ). frame.chunk < n) (sym (count-same p q h.shape)) is.chunk;
      lowest = omega (arith, place, lowest);
      highest = omega (arith, end, highest);
      bound = omega (arith, place, bound);
      first = is.first ∙ ap (nat_eq (frame.low + frame.bytes)) (sym end);
    }

low_agrees : (p q : Pool) (chain : List ℕ) (first : Bool) (frame : Frame) → Agrees p q chain → 1 ≤ copies frame.chunk chain → low_below p first frame ≡ low_below q first frame
low_agrees p q chain true frame h there = sym (h.same frame.chunk there 1)
low_agrees p q chain false frame h there = refl

pub stack_agrees : (c : Checked) (p q : Pool) (chain : List ℕ) (frame : Frame) (below : List Frame) → Agrees p q chain → IsFront chain frame.chunk → IsStack c p chain frame below → IsStack c q chain frame below
stack_agrees c p q chain frame [] h front stack = (frame_agrees c p q chain frame h stack.0, stack.1, stack.2, stack.3)
stack_agrees c p q chain frame (b ∷ bs) h front stack =
    let later = agrees_below p q frame.is_first chain h in
    let front' = front_at (chain_below frame.is_first chain) b.chunk stack.1.chunk in (
      frame_agrees c p q chain frame h stack.0,
      record {
        chunk = stack.1.chunk;
        low = stack.1.low ∙ low_agrees p q chain frame.is_first frame h (in_front chain frame.chunk front);
        bytes = stack.1.bytes;
        returns = stack.1.returns ∙ sym (word_in_same p q (chain_below frame.is_first chain) b.chunk (b.low + (fact_at c.certificate b.function).ra) later (in_front (chain_below frame.is_first chain) b.chunk front'));
        called = stack.1.called;
      },
      stack_agrees c p q (chain_below frame.is_first chain) b bs later front' stack.2,
    )

pub headers_agree : (p q : Pool) (chain : List ℕ) → Agrees p q chain → HeadersName p chain → HeadersName q chain
headers_agree p q [] h named = named
headers_agree p q (x ∷ []) h named =
    let there : 1 ≤ copies x (x ∷ []) = omega (arith, copies-front x []) in (h.same x there 0 ∙ named.0, h.same x there 1 ∙ named.1)
headers_agree p q (x ∷ y ∷ chain) h named =
    let there : 1 ≤ copies x (x ∷ y ∷ chain) = omega (arith, copies-front x (y ∷ chain)) in
    (h.same x there 0 ∙ named.0 ∙ sym (payload_place_of-same p q y h.shape), headers_agree p q (y ∷ chain) (agrees_later p q x (y ∷ chain) h) named.1)

pub variables_agree : (c : Checked) (p q : Pool) (chain : List ℕ) (frame : Frame) (flat : FlatFrame) → Agrees p q chain → 1 ≤ copies frame.chunk chain → HoldsVariables c p frame flat → HoldsVariables c q frame flat
variables_agree c p q chain frame flat h there holds x words e k lt = word_in_same p q chain frame.chunk (frame.low + get_or (fact_at c.certificate frame.function).places x 0 + 4 * k) h there ∙ holds x words e k lt

-- the chunks of the frames of a stack are in its chain
abbrev pub AreIn : List ℕ → List Frame → Type 0
AreIn chain [] = Unit {0}
AreIn chain (frame ∷ frames) = (1 ≤ copies frame.chunk chain) × AreIn chain frames

in_more : (other : ℕ) (chain : List ℕ) (frames : List Frame) → AreIn chain frames → AreIn (other ∷ chain) frames
in_more other chain [] h = tt
in_more other chain (frame ∷ frames) h = (later_copies frame.chunk other chain h.0, in_more other chain frames h.1)

in_below : (first : Bool) (chain : List ℕ) (frames : List Frame) → AreIn (chain_below first chain) frames → AreIn chain frames
in_below true (chunk ∷ chain) frames h = in_more chunk chain frames h
in_below _ _ frames h = h

pub stack_in : (c : Checked) (p : Pool) (chain : List ℕ) (frame : Frame) (below : List Frame) → IsStack c p chain frame below → IsFront chain frame.chunk → AreIn chain (frame ∷ below)
stack_in c p chain frame [] stack front = (in_front chain frame.chunk front, tt)
stack_in c p chain frame (b ∷ bs) stack front =
    (in_front chain frame.chunk front, in_below frame.is_first chain (b ∷ bs) (stack_in c p (chain_below frame.is_first chain) b bs stack.2 (front_at (chain_below frame.is_first chain) b.chunk stack.1.chunk)))

pub flats_agree : (c : Checked) (p q : Pool) (chain : List ℕ) (frames : List Frame) (flats : List FlatFrame) → Agrees p q chain → AreIn chain frames → AreFlatFrames c p frames flats → AreFlatFrames c q frames flats
flats_agree c p q chain [] [] h there are = are
flats_agree c p q chain (frame ∷ frames) (flat ∷ flats) h there are =
    (record { function = are.0.function; operation = are.0.operation; shape = are.0.shape; variables = variables_agree c p q chain frame flat h there.0 are.0.variables }, flats_agree c p q chain frames flats h there.1 are.1)
flats_agree c p q chain _ _ h there are = absurd are
