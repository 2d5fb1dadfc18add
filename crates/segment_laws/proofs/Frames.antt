-- Frames in place, where the chunks of a chain have the words that they had.
use Rattle.segment_laws.proofs.Common.{◌≡◌, ℕ, ◌+◌, ◌-◌, ◌/◌, ◌<◌, ◌≤◌, Bool, true, false, List, [], ◌∷◌, Some, refl, sym, ap, ◌∙◌, subst, slice_get, nat_eq, slice_index, AllByRecursion, read, Frame, word_in, return_word, IsFrame, IsAbove, IsStack, IsRunning, FramesAt, HeadersName, TpIsFront, HasFrames, chain_below, low_below, ra, sp, tp, Core, saved_sp, Checked, Place, Row, NoFrame, Empty, Fresh, Linking, Whole, IsAt, row_of, KeepsChunks, KeepsStack, count-same, place_of-same, payload_place_of-same, end_of-same}
use Rattle.chunk_pool.specs.Pool.{Pool, chunk_of, word_of, end_of, payload_place_of, shape_of}

module _ (c : Checked) (pool after : Pool) (shape : shape_of after ≡ shape_of pool) where
  count : after.count ≡ pool.count
  count = count-same pool after shape

  -- a chunk has its words
  abbrev pub Keeps : ℕ → Type 0
  Keeps chunk = chunk_of after chunk ≡ chunk_of pool chunk

  pub word_same : (chunk k : ℕ) → Keeps chunk → word_of after chunk k ≡ word_of pool chunk k
  word_same chunk k kept = ap (λ (ws : List ℕ). slice_index ws k) kept

  pub word_in_same : (chunk address : ℕ) → Keeps chunk → word_in after chunk address ≡ word_in pool chunk address
  word_in_same chunk address kept = λ i. slice_index (kept i) ((address - place_of-same pool after chunk shape i) / 4)

  payload_same : (chunk : ℕ) → payload_place_of after chunk ≡ payload_place_of pool chunk
  payload_same chunk = payload_place_of-same pool after chunk shape

  end_same : (chunk : ℕ) → end_of after chunk ≡ end_of pool chunk
  end_same chunk = end_of-same pool after chunk shape

  frame_stays : (frame : Frame) → IsFrame c pool frame → IsFrame c after frame
  frame_stays frame h = record {
    function = h.function;
    chunk = subst (λ (n : ℕ). frame.chunk < n) (sym count) h.chunk;
    lowest = subst (λ (a : ℕ). a ≤ frame.low) (sym (payload_same frame.chunk)) h.lowest;
    highest = subst (λ (a : ℕ). frame.low + frame.bytes ≤ a) (sym (end_same frame.chunk)) h.highest;
    bound = subst (λ (a : ℕ). a + (Rattle.stack_certificate.specs.Certificates.fact_at c.certificate frame.function).bound ≤ frame.low + frame.bytes) (sym (payload_same frame.chunk)) h.bound;
    first = h.first ∙ ap (λ (a : ℕ). nat_eq (frame.low + frame.bytes) a) (sym (end_same frame.chunk));
  }

  low_same : (first : Bool) (frame : Frame) → Keeps frame.chunk → low_below after first frame ≡ low_below pool first frame
  low_same true frame kept = word_same frame.chunk 1 kept
  low_same false frame kept = refl

  above_stays : (chain : List ℕ) (frame below : Frame) → Keeps frame.chunk → Keeps below.chunk → IsAbove c pool chain frame below → IsAbove c after chain frame below
  above_stays chain frame below kept low_kept h = record {
    chunk = h.chunk;
    low = h.low ∙ sym (low_same frame.is_first frame kept);
    bytes = h.bytes;
    returns = h.returns ∙ sym (word_in_same below.chunk _ low_kept);
    called = h.called;
  }

  -- the chunk in front of a chain
  front_kept : (chain : List ℕ) (chunk : ℕ) → slice_get chain 0 ≡ Some chunk → AllByRecursion Keeps chain → Keeps chunk
  front_kept [] chunk e kept = absurd cc
  front_kept (first ∷ chain) chunk e kept = let same : first ≡ chunk = cc in subst Keeps same kept.0

  rest_kept : (first : Bool) (chain : List ℕ) → AllByRecursion Keeps chain → AllByRecursion Keeps (chain_below first chain)
  rest_kept true [] kept = tt
  rest_kept true (chunk ∷ chain) kept = kept.1
  rest_kept false chain kept = kept

  pub record StackStays (chain : List ℕ) (frame : Frame) (below : List Frame) : Type 0 where
    pub stack : IsStack c after chain frame below
    pub chunks : AllByRecursion (λ (f : Frame). Keeps f.chunk) (frame ∷ below)

  pub stack_stays : (chain : List ℕ) (frame : Frame) (below : List Frame) → slice_get chain 0 ≡ Some frame.chunk → AllByRecursion Keeps chain → IsStack c pool chain frame below → StackStays chain frame below
  stack_stays chain frame [] front kept h = record { stack = (frame_stays frame h.0, h.1, h.2, h.3); chunks = (front_kept chain frame.chunk front kept, tt) }
  stack_stays chain frame (next ∷ below) front kept h =
      let here = front_kept chain frame.chunk front kept in
      let rest = stack_stays (chain_below frame.is_first chain) next below h.1.chunk (rest_kept frame.is_first chain kept) h.2 in
      record { stack = (frame_stays frame h.0, above_stays chain frame next here rest.chunks.0 h.1, rest.stack); chunks = (here, rest.chunks) }

  headers_stay : (chain : List ℕ) → AllByRecursion Keeps chain → HeadersName pool chain → HeadersName after chain
  headers_stay [] kept h = absurd h
  headers_stay (chunk ∷ []) kept h = (word_same chunk 0 kept.0 ∙ h.0, word_same chunk 1 kept.0 ∙ h.1)
  headers_stay (chunk ∷ next ∷ chain) kept h = (word_same chunk 0 kept.0 ∙ h.0 ∙ sym (payload_same next), headers_stay (next ∷ chain) kept.1 h.1)

  tp_stays : (core core_now : Core) (chain : List ℕ) → read core_now.x tp ≡ read core.x tp → TpIsFront pool core chain → TpIsFront after core_now chain
  tp_stays core core_now [] same h = h
  tp_stays core core_now (chunk ∷ chain) same h = same ∙ h ∙ sym (payload_same chunk)

  -- the frames and the chunks in which they lie
  pub record FramesStay (core_now : Core) (place : Place) (row : Row) (chain : List ℕ) (frames : List Frame) : Type 0 where
    pub frames_are : FramesAt c after core_now place row chain frames
    pub chunks : AllByRecursion (λ (f : Frame). Keeps f.chunk) frames

  running_stays : (place : Place) (core core_now : Core) (chunk low low_now bytes returns returns_now : ℕ) (frame : Frame) → low_now ≡ low → returns_now ≡ returns → IsRunning place core chunk low bytes returns frame → IsRunning place core_now chunk low_now bytes returns_now frame
  running_stays place core core_now chunk low low_now bytes returns returns_now frame low_same returns_same h = record {
    function = h.function;
    operation = h.operation;
    chunk_is = h.chunk_is;
    low_is = h.low_is ∙ sym low_same;
    bytes_are = h.bytes_are;
    returns_are = h.returns_are ∙ sym returns_same;
  }

  frames_stay : (core core_now : Core) (place : Place) (row : Row) (chain : List ℕ) (frames : List Frame) → read core_now.x ra ≡ read core.x ra → read core_now.x sp ≡ read core.x sp → AllByRecursion Keeps chain
      → FramesAt c pool core place row chain frames → FramesStay core_now place row chain frames
  frames_stay core core_now place NoFrame (chunk ∷ []) [] ra_same sp_same kept h = record { frames_are = (subst (λ (n : ℕ). chunk < n) (sym count) h.0, sp_same ∙ h.1 ∙ sym (end_same chunk)); chunks = tt }
  frames_stay core core_now place Empty (chunk ∷ chain) (frame ∷ below) ra_same sp_same kept h =
      let stack = stack_stays (chunk ∷ chain) frame below (ap (λ (k : ℕ). Some k) (sym h.0.chunk_is)) kept h.1 in
      record { frames_are = (running_stays place core core_now chunk (read core.x sp) (read core_now.x sp) 0 (read core.x ra) (read core_now.x ra) frame sp_same ra_same h.0, stack.stack); chunks = stack.chunks }
  frames_stay core core_now place Fresh (chunk ∷ chain) (frame ∷ below) ra_same sp_same kept h =
      let stack = stack_stays (chunk ∷ chain) frame below (ap (λ (k : ℕ). Some k) (sym h.0.chunk_is)) kept h.1 in
      record { frames_are = (running_stays place core core_now chunk (read core.x sp) (read core_now.x sp) _ (read core.x ra) (read core_now.x ra) frame sp_same ra_same h.0, stack.stack); chunks = stack.chunks }
  frames_stay core core_now place Whole (chunk ∷ chain) (frame ∷ below) ra_same sp_same kept h =
      let stack = stack_stays (chunk ∷ chain) frame below (ap (λ (k : ℕ). Some k) (sym h.0.chunk_is)) kept h.1 in
      record {
        frames_are = (
          running_stays place core core_now chunk (read core.x sp) (read core_now.x sp) _ _ _ frame sp_same
              (ap (λ (low : ℕ). return_word c after (Rattle.machine_world.specs.Places.function_of place) chunk low) sp_same ∙ word_in_same chunk _ kept.0) h.0,
          stack.stack,
        );
        chunks = stack.chunks;
      }
  frames_stay core core_now place Linking (linked ∷ chunk ∷ chain) (frame ∷ below) ra_same sp_same kept h =
      let stack = stack_stays (chunk ∷ chain) frame below (ap (λ (k : ℕ). Some k) (sym h.2.chunk_is)) kept.1 h.3 in
      let saved : saved_sp after linked ≡ saved_sp pool linked = word_same linked 1 kept.0 in
      record {
        frames_are = (
          subst (λ (n : ℕ). linked < n) (sym count) h.0,
          sp_same ∙ h.1 ∙ sym (end_same linked),
          running_stays place core core_now chunk (saved_sp pool linked) (saved_sp after linked) _ _ _ frame saved
              (ap (λ (low : ℕ). return_word c after (Rattle.machine_world.specs.Places.function_of place) chunk low) saved ∙ word_in_same chunk _ kept.1.0) h.2,
          stack.stack,
        );
        chunks = stack.chunks;
      }
  frames_stay core core_now place _ _ _ ra_same sp_same kept h = absurd h

-- ---- a thread

pub record Stays (c : Checked) (pool after : Pool) (core_now : Core) (place : Place) (frames : List Frame) : Type 0 where
  pub in_place : HasFrames c after core_now place frames
  pub chunks : AllByRecursion (λ (f : Frame). chunk_of after f.chunk ≡ chunk_of pool f.chunk) frames

pub has_frames : (c : Checked) (pool after : Pool) (core core_now : Core) (place : Place) (frames : List Frame) → KeepsChunks pool after core.chain → KeepsStack core core_now → HasFrames c pool core place frames → Stays c pool after core_now place frames
has_frames c pool after core core_now place frames kept same h =
    let stay = frames_stay c pool after kept.shape core core_now place (row_of c place) core.chain frames same.returns same.stack kept.words h.frames_are in
    record {
      in_place = record {
        at = subst (λ (pc : ℕ). IsAt c pc place) (sym same.pc) h.at;
        frames_are = subst (λ (chain : List ℕ). FramesAt c after core_now place (row_of c place) chain frames) (sym same.chain) stay.frames_are;
        front = subst (λ (chain : List ℕ). TpIsFront after core_now chain) (sym same.chain) (tp_stays c pool after kept.shape core core_now core.chain same.front h.front);
        headers = subst (λ (chain : List ℕ). HeadersName after chain) (sym same.chain) (headers_stay c pool after kept.shape core.chain kept.words h.headers);
      };
      chunks = stay.chunks;
    }

pub frames_law : (c : Checked) (pool after : Pool) (core core_now : Core) (place : Place) (frames : List Frame) → KeepsChunks pool after core.chain → KeepsStack core core_now → HasFrames c pool core place frames → HasFrames c after core_now place frames
frames_law c pool after core core_now place frames kept same h = (has_frames c pool after core core_now place frames kept same h).in_place
