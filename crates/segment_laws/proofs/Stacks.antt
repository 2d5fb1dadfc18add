-- The frames of a thread where one word of a payload is written: they stay where they are, and so does what they return to.
use Rattle.segment_laws.proofs.Common.{◌≡◌, ℕ, ◌+◌, ◌-◌, ◌*◌, ◌/◌, ◌<◌, ◌≤◌, Bool, true, false, List, [], ◌∷◌, get_or, Option, Some, None, slice_get, refl, sym, ap, subst, ◌∙◌, arith, cond, ⊎_elim, AllByRecursion, cases_eq, eq-eqb, word_of-with_word_other, KeepsOthers-with_word, Op, operation_at, copies, Frame, word_in, IsFrame, ReturnsInto, chain_below, low_below, IsStack, HeadersName, Checked, HoldsVariables, AreFlatFrames, FlatFrame, fact_at, copies-cons}
use Rattle.chunk_pool.specs.Pool.{Pool, word_of, with_word, place_of}
pub use Rattle.segment_laws.specs.Simulation.{IsFront}

-- ---- one word written

-- every other word stays
pub word_of-other : (p : Pool) (chunk k value other j : ℕ) → (other ≡ chunk → j ≡ k → ⊥) → word_of (with_word p chunk k value) other j ≡ word_of p other j
word_of-other p chunk k value other j apart = ⊎_elim
    (λ (same : other ≡ chunk).
    ap (λ (ch : ℕ). word_of (with_word p chunk k value) ch j) same
    ∙ word_of-with_word_other p chunk k value j (λ (equal : j ≡ k). apart same equal)
    ∙ ap (λ (ch : ℕ). word_of p ch j) (sym same))
    (λ (away : other ≡ chunk → ⊥). ap (λ (words : List ℕ). get_or words j 0) (KeepsOthers-with_word p chunk k value other away))
    (cases_eq other chunk)

-- ---- where the frames below lie

-- each of these frames that lies in the chunk lies from an address on
abbrev pub AreAway : ℕ → ℕ → List Frame → Type 0
AreAway chunk top below = AllByRecursion (λ (b : Frame). b.chunk ≡ chunk → top ≤ b.low) below

-- the chunks of a stack are those of its chain
abbrev ChunksIn : List ℕ → List Frame → Type 0
ChunksIn chain frames = AllByRecursion (λ (b : Frame). 1 ≤ copies b.chunk chain) frames

ChunksIn-more : (chunk : ℕ) (chain : List ℕ) (frames : List Frame) → ChunksIn chain frames → ChunksIn (chunk ∷ chain) frames
ChunksIn-more chunk chain [] is = is
ChunksIn-more chunk chain (b ∷ bs) is = (omega (arith, is.0, copies-cons b.chunk chunk chain), ChunksIn-more chunk chain bs is.1)

pub copies-front : (chunk : ℕ) (chain : List ℕ) → copies chunk (chunk ∷ chain) ≡ 1 + copies chunk chain
copies-front chunk chain = copies-cons chunk chunk chain ∙ ap (λ (b : Bool). cond b 1 0 + copies chunk chain) (eq-eqb chunk chunk refl)

front_of : (chain : List ℕ) (chunk : ℕ) → slice_get chain 0 ≡ Some chunk → IsFront chain chunk
front_of [] chunk e = absurd (cc)
front_of (x ∷ xs) chunk e = record { rest = xs; is = (let same : x ≡ chunk = cc in ap (λ (k : ℕ). k ∷ xs) same) }

-- the chain is the same below a frame that isn't the first of its chunk, and without that chunk below one that is
pub data Below (chain : List ℕ) (chunk : ℕ) (first : Bool) : Type 0 where
  Same : first ≡ false → chain_below first chain ≡ chain → Below chain chunk first
  Next : (rest : List ℕ) → first ≡ true → chain ≡ chunk ∷ rest → chain_below first chain ≡ rest → Below chain chunk first

pub below_of : (chain : List ℕ) (chunk : ℕ) (first : Bool) → IsFront chain chunk → Below chain chunk first
below_of chain chunk true front = Next front.rest refl front.is (ap (chain_below true) front.is)
below_of chain chunk false front = Same refl refl

stack_chunks : (c : Checked) (pool : Pool) (chain : List ℕ) (frame : Frame) (below : List Frame) → IsStack c pool chain frame below → IsFront chain frame.chunk → ChunksIn chain (frame ∷ below)
stack_chunks c pool chain frame [] stack front = (omega (arith, ap (copies frame.chunk) front.is, copies-front frame.chunk front.rest), tt)
stack_chunks c pool chain frame (b ∷ bs) stack front =
    let here : 1 ≤ copies frame.chunk chain = omega (arith, ap (copies frame.chunk) front.is, copies-front frame.chunk front.rest) in
    let later = stack_chunks c pool (chain_below frame.is_first chain) b bs stack.2 (front_of (chain_below frame.is_first chain) b.chunk stack.1.chunk) in (
      here,
      elim (below_of chain frame.chunk frame.is_first front) [
        | Same first same ↦ subst (λ (ch : List ℕ). ChunksIn ch (b ∷ bs)) same later
        | Next rest first is next ↦ subst (λ (ch : List ℕ). ChunksIn ch (b ∷ bs)) (sym is) (ChunksIn-more frame.chunk rest (b ∷ bs) (subst (λ (ch : List ℕ). ChunksIn ch (b ∷ bs)) next later))
      ],
    )

-- no chunk stands twice in the chain
abbrev pub IsOnce : List ℕ → Type 0
IsOnce chain = (chunk : ℕ) → copies chunk chain ≤ 1

other_chunks : (chunk top : ℕ) (rest : List ℕ) (frames : List Frame) → copies chunk rest ≡ 0 → ChunksIn rest frames → AreAway chunk top frames
other_chunks chunk top rest [] none is = tt
other_chunks chunk top rest (b ∷ bs) none is =
    ((λ (same : b.chunk ≡ chunk). absurd (omega (arith, is.0, ap (λ (k : ℕ). copies k rest) same, none))), other_chunks chunk top rest bs none is.1)

AreAway-lower : (chunk chunk' top low : ℕ) (frames : List Frame) → low ≤ top → chunk' ≡ chunk → AreAway chunk top frames → AreAway chunk' low frames
AreAway-lower chunk chunk' top low [] below same is = tt
AreAway-lower chunk chunk' top low (b ∷ bs) below same is =
    ((λ (there : b.chunk ≡ chunk'). let high : top ≤ b.low = is.0 (there ∙ same) in omega (arith, high)), AreAway-lower chunk chunk' top low bs below same is.1)

-- all frames below lie behind the end of a frame, or in other chunks
pub stack_away : (c : Checked) (pool : Pool) (chain : List ℕ) (frame : Frame) (below : List Frame) → IsStack c pool chain frame below → IsFront chain frame.chunk → IsOnce chain → AreAway frame.chunk (frame.low + frame.bytes) below
stack_away c pool chain frame [] stack front once = tt
stack_away c pool chain frame (b ∷ bs) stack front once =
    let front' = front_of (chain_below frame.is_first chain) b.chunk stack.1.chunk in
    elim (below_of chain frame.chunk frame.is_first front) [
      | Same first same ↦
          let low : b.low ≡ frame.low + frame.bytes = stack.1.low ∙ ap (λ (first : Bool). low_below pool first frame) first in
          let chunk : b.chunk ≡ frame.chunk =
          (let here : slice_get (frame.chunk ∷ front.rest) 0 ≡ Some b.chunk = subst (λ (ch : List ℕ). slice_get ch 0 ≡ Some b.chunk) (same ∙ front.is) stack.1.chunk in cc) in
          let later = stack_away c pool (chain_below frame.is_first chain) b bs stack.2 front' (subst IsOnce (sym same) once) in
          ((λ _. omega (arith, low)), AreAway-lower b.chunk frame.chunk (b.low + b.bytes) (frame.low + frame.bytes) bs (omega (arith, low)) (sym chunk) later)
      | Next rest first is next ↦
          let none : copies frame.chunk rest ≡ 0 = omega (arith, once frame.chunk, ap (copies frame.chunk) is, copies-front frame.chunk rest) in
          other_chunks frame.chunk (frame.low + frame.bytes) rest (b ∷ bs) none
          (subst (λ (ch : List ℕ). ChunksIn ch (b ∷ bs)) next (stack_chunks c pool (chain_below frame.is_first chain) b bs stack.2 front'))
    ]

-- ---- a word written in the running frame, or anywhere below an address in its chunk

-- the word is behind the header, and ends at or below an address
pub record EndsBy (p : Pool) (chunk k top : ℕ) : Type 0 where
  pub behind : 4 ≤ k
  pub by : place_of p chunk + 4 * k + 4 ≤ top

-- the words of the frames below stay
pub word_in-below : (p : Pool) (chunk k value top : ℕ) (b : Frame) (offset : ℕ) → EndsBy p chunk k top → (b.chunk ≡ chunk → top ≤ b.low) → word_in (with_word p chunk k value) b.chunk (b.low + offset) ≡ word_in p b.chunk (b.low + offset)
word_in-below p chunk k value top b offset ends away =
    word_of-other p chunk k value b.chunk ((b.low + offset - place_of p b.chunk) / 4)
    (λ same equal.
    let place : place_of p b.chunk ≡ place_of p chunk = ap (place_of p) same in
    let high : top ≤ b.low = away same in
    let by : place_of p chunk + 4 * k + 4 ≤ top = ends.by in
    absurd (omega (arith, place, high, by, equal)))

IsFrame-with_word : (c : Checked) (p : Pool) (frame : Frame) (chunk k value : ℕ) → IsFrame c p frame → IsFrame c (with_word p chunk k value) frame
IsFrame-with_word c p frame chunk k value is = record {
  function = is.function;
  chunk = is.chunk;
  lowest = is.lowest;
  highest = is.highest;
  bound = is.bound;
  first = is.first;
}

header_word : (p : Pool) (chunk k value other j : ℕ) → 4 ≤ k → j < 4 → word_of (with_word p chunk k value) other j ≡ word_of p other j
header_word p chunk k value other j behind small = word_of-other p chunk k value other j (λ same equal. absurd (omega arith))

low_below-with_word : (p : Pool) (first : Bool) (frame : Frame) (chunk k value : ℕ) → 4 ≤ k → low_below (with_word p chunk k value) first frame ≡ low_below p first frame
low_below-with_word p true frame chunk k value behind = header_word p chunk k value frame.chunk 1 behind (omega arith)
low_below-with_word p false frame chunk k value behind = refl

pub IsStack-with_word : (c : Checked) (p : Pool) (chain : List ℕ) (frame : Frame) (below : List Frame) (chunk k value top : ℕ) → IsStack c p chain frame below → EndsBy p chunk k top → AreAway chunk top below →
    IsStack c (with_word p chunk k value) chain frame below
IsStack-with_word c p chain frame [] chunk k value top stack ends away =
    (IsFrame-with_word c p frame chunk k value stack.0, stack.1, stack.2, stack.3)
IsStack-with_word c p chain frame (b ∷ bs) chunk k value top stack ends away = (
  IsFrame-with_word c p frame chunk k value stack.0,
  record {
    chunk = stack.1.chunk;
    low = stack.1.low ∙ sym (low_below-with_word p frame.is_first frame chunk k value ends.behind);
    bytes = stack.1.bytes;
    returns = stack.1.returns ∙ sym (word_in-below p chunk k value top b (fact_at c.certificate b.function).ra ends away.0);
    called = stack.1.called;
  },
  IsStack-with_word c p (chain_below frame.is_first chain) b bs chunk k value top stack.2 ends away.1,
)

pub HeadersName-with_word : (p : Pool) (chain : List ℕ) (chunk k value : ℕ) → 4 ≤ k → HeadersName p chain → HeadersName (with_word p chunk k value) chain
HeadersName-with_word p [] chunk k value behind named = named
HeadersName-with_word p (x ∷ []) chunk k value behind named =
    (header_word p chunk k value x 0 behind (omega arith) ∙ named.0, header_word p chunk k value x 1 behind (omega arith) ∙ named.1)
HeadersName-with_word p (x ∷ y ∷ chain) chunk k value behind named =
    (header_word p chunk k value x 0 behind (omega arith) ∙ named.0, HeadersName-with_word p (y ∷ chain) chunk k value behind named.1)

-- the variables of the frames below stay
HoldsVariables-below : (c : Checked) (p : Pool) (b : Frame) (flat : FlatFrame) (chunk k value top : ℕ) → EndsBy p chunk k top → (b.chunk ≡ chunk → top ≤ b.low) → HoldsVariables c p b flat → HoldsVariables c (with_word p chunk k value) b flat
HoldsVariables-below c p b flat chunk k value top ends away holds x words set j inside =
    let place = get_or (fact_at c.certificate b.function).places x 0 in
    let split : b.low + place + 4 * j ≡ b.low + (place + 4 * j) = omega arith in
    ap (word_in (with_word p chunk k value) b.chunk) split
    ∙ word_in-below p chunk k value top b (place + 4 * j) ends away
    ∙ ap (word_in p b.chunk) (sym split)
    ∙ holds x words set j inside

pub AreFlatFrames-with_word : (c : Checked) (p : Pool) (frames : List Frame) (flats : List FlatFrame) (chunk k value top : ℕ) → EndsBy p chunk k top → AreAway chunk top frames → AreFlatFrames c p frames flats → AreFlatFrames c (with_word p chunk k value) frames flats
AreFlatFrames-with_word c p [] [] chunk k value top ends away are = are
AreFlatFrames-with_word c p (b ∷ bs) (flat ∷ flats) chunk k value top ends away are = (
  record {
    function = are.0.function;
    operation = are.0.operation;
    shape = are.0.shape;
    variables = HoldsVariables-below c p b flat chunk k value top ends away.0 are.0.variables;
  },
  AreFlatFrames-with_word c p bs flats chunk k value top ends away.1 are.1,
)
AreFlatFrames-with_word c p _ _ chunk k value top ends away are = absurd are

low_below-operation : (p : Pool) (first : Bool) (frame : Frame) (i : ℕ) → low_below p first frame ≡ low_below p first (record frame { operation = i })
low_below-operation p true frame i = refl
low_below-operation p false frame i = refl

returns_into : (c : Checked) (frame b : Frame) (i : ℕ) (op : Option Op) → ReturnsInto c frame b op → ReturnsInto c (record frame { operation = i }) b op
returns_into c frame b i None into = into
returns_into c frame b i (Some op) into = into

-- the frame at another operation
pub IsStack-operation : (c : Checked) (p : Pool) (chain : List ℕ) (frame : Frame) (below : List Frame) (i : ℕ) → IsStack c p chain frame below → IsStack c p chain (record frame { operation = i }) below
IsStack-operation c p chain frame [] i stack =
    (record { function = stack.0.function; chunk = stack.0.chunk; lowest = stack.0.lowest; highest = stack.0.highest; bound = stack.0.bound; first = stack.0.first }, stack.1, stack.2, stack.3)
IsStack-operation c p chain frame (b ∷ bs) i stack = (
  record { function = stack.0.function; chunk = stack.0.chunk; lowest = stack.0.lowest; highest = stack.0.highest; bound = stack.0.bound; first = stack.0.first },
  record { chunk = stack.1.chunk; low = stack.1.low ∙ low_below-operation p frame.is_first frame i; bytes = stack.1.bytes; returns = stack.1.returns; called = returns_into c frame b i (operation_at c.flat b.function b.operation) stack.1.called },
  stack.2,
)
