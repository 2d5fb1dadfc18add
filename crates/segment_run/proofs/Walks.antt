-- The sites of a thread's frames, read one after another.
use Rattle.segment_run.proofs.Common.{◌≡◌, ℕ, zero, suc, ◌+◌, ◌-◌, ◌*◌, ◌<◌, ◌≤◌, Bool, true, false, List, [], ◌∷◌, ◌++◌, length, take, set, replicate, Option, Some, None, refl, sym, ap, subst, ◌∙◌, arith, inl, inr, slice_get, slice_index, take_more_set, append_assoc, append-nil, take_all, lowered, ProgramTree, IsWellScoped, IsValid, Pool, read, Op, FlatCode, function_at, operation_at, result_place, site_of, formed, follows, program_zeroes, Frame, IsRunning, HeadersName, FramesAt, HasFrames, ReturnsInto, joined, words_through_call, frame_bytes, return_word, standing, with_site, sites_of, key_of, site_in, sp, Core, Checked, Place, InOperation, IsAt, Row, Whole, row_at, size_in, before_transfer, through_call, IsResting, AtStart, AtCall, PastCall, IsAtCall, IsPastCall, ecall_word, CodeFacts-valid, CodeFacts, one_place, row_first, size_some, function_of_op, ask_shape, FollowsAsks, StandsFor, Waits, begin, size, kind_of, transfer_size, result_size, Certificate, Image, chain_from, core_of, RestsAround, IsInCall, IsReadOf, IsAroundCall, IsWalked, Context, stack_frame}
use Rattle.c_mean.specs.Frames as source
use Rattle.machine_meaning.proofs.Past.{ecall_site}
use Rattle.machine_meaning.proofs.SiteKeys.{key_is}
use Rattle.stack_certificate.specs.declared.sites.LinkKind.{LinkKind}
use Rattle.segment_run.specs.Passing as passing
use Rattle.segment_run.specs.declared.walking.Frame.{Frame as ReadFrame}
use Rattle.segment_laws.proofs.Jumping.{there_at}

-- ---- the frames of a thread at rest

-- at a place where the frame is whole
pub record IsWholeAt (c : Checked) (pool : Pool) (core : Core) (f : ℕ) (frames : List Frame) : Type 0 where
  pub operation : ℕ
  pub word : ℕ
  pub has : HasFrames c pool core (InOperation f operation word) frames
  pub row : row_at c.certificate word (operation_at c.flat f operation) ≡ Whole

at_whole : (c : Checked) (pool : Pool) (core : Core) (f i word : ℕ) (op : Op) (frames : List Frame) → IsAtCall c pool core f i op word frames → IsWholeAt c pool core f frames
at_whole c pool core f i word op frames at = record {
  operation = i;
  word = word;
  has = at.frames_are;
  row = ap (row_at c.certificate word) at.operation ∙ (ask_shape op word at.ecall).whole (kind_of c.certificate op) word;
}

past_whole : (flat : FlatCode) (image : Image) (certificate : Certificate) (pool : Pool) (core : Core) (f i word : ℕ) (op : Op) (place : Place) (frames : List Frame) (d : Option ℕ) →
    CodeFacts (record { flat = flat; certificate = certificate }) image.code → FollowsAsks flat → IsValid flat image certificate → result_place op ≡ d →
    IsPastCall (record { flat = flat; certificate = certificate }) pool core f i op word place frames → IsWholeAt (record { flat = flat; certificate = certificate }) pool core f frames
past_whole flat image certificate pool core f i word op place frames (Some d) facts follow valid to past =
    let c : Checked = record { flat = flat; certificate = certificate } in
    let there = function_of_op flat f i op past.operation in
    let shape = ask_shape op word past.ecall in
    let size_is : size (function_at flat f).sizes (kind_of certificate op) op ≡ word + 1 + 1 = shape.size_is (function_at flat f).sizes (kind_of certificate op) ∙ ap (λ (o : Option ℕ). word + 1 + result_size o) to in
    let at : IsAt c core.pc (InOperation f i (word + 1)) = (there, subst (λ (o : Option Op). word + 1 < size_in c f o) (sym past.operation) (omega (arith, size_is)), past.pc) in
    let same = one_place flat image certificate core.pc place (InOperation f i (word + 1)) valid past.frames_are.at at in
    record {
      operation = i;
      word = word + 1;
      has = subst (λ (p : Place). HasFrames c pool core p frames) same past.frames_are;
      row = ap (row_at certificate (word + 1)) past.operation ∙ shape.whole (kind_of certificate op) (word + 1);
    }
past_whole flat image certificate pool core f i word op place frames None facts follow valid to past =
    let c : Checked = record { flat = flat; certificate = certificate } in
    let there = function_of_op flat f i op past.operation in
    let here = facts.operation f i op there past.operation in
    let shape = ask_shape op word past.ecall in
    let size_is : size (function_at flat f).sizes (kind_of certificate op) op ≡ word + 1 + 0 = shape.size_is (function_at flat f).sizes (kind_of certificate op) ∙ ap (λ (o : Option ℕ). word + 1 + result_size o) to in
    let next = there_at (function_at flat f).ops (i + 1) (follow f i word op there past.operation past.ecall) in
    let some : 0 < size (function_at flat f).sizes (kind_of certificate next.0) next.0 = size_some (function_at flat f).sizes (kind_of certificate next.0) next.0 (λ a is. facts.zeroed f (i + 1) a there (next.1 ∙ ap Some is)) in
    let step = here.next in
    let pc = past.pc in
    let at : IsAt c core.pc (InOperation f (i + 1) 0) =
    (there, subst (λ (o : Option Op). 0 < size_in c f o) (sym next.1) some, (let e : core.pc ≡ begin flat certificate f (i + 1) + 4 * 0 = omega (arith, pc, step, size_is) in e)) in
    let same = one_place flat image certificate core.pc place (InOperation f (i + 1) 0) valid past.frames_are.at at in
    record {
      operation = i + 1;
      word = 0;
      has = subst (λ (p : Place). HasFrames c pool core p frames) same past.frames_are;
      row = ap (row_at certificate 0) next.1 ∙ row_first (kind_of certificate next.0) next.0;
    }

-- what is read of the running frame there
pub record IsFirstRead (c : Checked) (pool : Pool) (core : Core) (f chunk : ℕ) (chain : List ℕ) (frames : List Frame) : Type 0 where
  pub frame : Frame
  pub below : List Frame
  pub frames_are : frames ≡ frame ∷ below
  pub is_read : IsReadOf c pool (record { function = f; low = read core.x sp; chunk = chunk }) chain frame below

first_read : (c : Checked) (pool : Pool) (core : Core) (f i w : ℕ) (chain : List ℕ) (frames : List Frame) → FramesAt c pool core (InOperation f i w) Whole chain frames → HeadersName pool chain → (chunk : ℕ) → slice_get chain 0 ≡ Some chunk → IsFirstRead c pool core f chunk chain frames
first_read c pool core f i w [] frames at names chunk front = absurd (cc)
first_read c pool core f i w (k ∷ chain) [] at names chunk front = absurd at
first_read c pool core f i w (k ∷ chain) (frame ∷ below) at names chunk front =
    let same : k ≡ chunk = cc in
    let is : IsRunning (InOperation f i w) core k (read core.x sp) (frame_bytes c f) (return_word c pool f k (read core.x sp)) frame = at.0 in
    record {
      frame = frame;
      below = below;
      frames_are = refl;
      is_read = record {
        function = is.function;
        low = is.low_is;
        chunk = is.chunk_is ∙ same;
        bytes = is.bytes_are ∙ ap (frame_bytes c) (sym is.function);
        returns = is.returns_are ∙ (λ n. return_word c pool (sym is.function n) (sym is.chunk_is n) (sym is.low_is n));
        stack = at.1;
        front = ap Some (sym is.chunk_is);
        headers = names;
      };
    }

front_chunk : (pool : Pool) (core : Core) (chunk depth : ℕ) → HeadersName pool (chain_from pool chunk depth) → slice_get (chain_from pool chunk depth) 0 ≡ Some chunk
front_chunk pool core chunk zero names = absurd names
front_chunk pool core chunk (suc n) names = refl

whole_read : (c : Checked) (pool : Pool) (context : Context) (f : ℕ) (frames : List Frame) → IsWholeAt c pool (core_of pool context) f frames → IsFirstRead c pool (core_of pool context) f context.chunk (core_of pool context).chain frames
whole_read c pool context f frames is =
    let core = core_of pool context in
    first_read c pool core f is.operation is.word core.chain frames
    (subst (λ (r : Row). FramesAt c pool core (InOperation f is.operation is.word) r core.chain frames) is.row is.has.frames_are) is.has.headers
    context.chunk (front_chunk pool core context.chunk context.depth is.has.headers)

-- ---- the call at which it rests

module _ (program : ProgramTree) (image : Image) (certificate : Certificate) (scoped : IsWellScoped program) (valid : IsValid (lowered program) image certificate) where
  abbrev checked : Checked
  checked = record { flat = lowered program; certificate = certificate }

  facts : CodeFacts checked image.code
  facts = CodeFacts-valid (lowered program) image certificate (formed program image certificate scoped valid) (program_zeroes program scoped) valid

  pub around_read : (pool : Pool) (context : Context) (f i : ℕ) (frames : List Frame) → IsAroundCall checked pool (core_of pool context) f i frames → IsFirstRead checked pool (core_of pool context) f context.chunk (core_of pool context).chain frames
  around_read pool context f i frames (inl at) = whole_read checked pool context f frames (at_whole checked pool (core_of pool context) f i at.1 at.0 frames at.2)
  around_read pool context f i frames (inr past) =
      whole_read checked pool context f frames
      (past_whole (lowered program) image certificate pool (core_of pool context) f i past.1 past.0 past.2 frames (result_place past.0) facts (follows program scoped) valid refl past.3)

  in_call : (address f i word : ℕ) (op : Op) → operation_at (lowered program) f i ≡ Some op → ecall_word op ≡ Some word → address ≡ begin (lowered program) certificate f i + 4 * word →
      (site : ℕ) × IsInCall checked address f site × (site_in (operation_at (lowered program) f i) ≡ Some site)
  in_call address f i word op there ecall is =
      let site = ecall_site op word ecall in
      let shape = ask_shape op word ecall in
      let size_is = shape.size_is (function_at (lowered program) f).sizes (kind_of certificate op) in
      let named : site_in (operation_at (lowered program) f i) ≡ Some site.0 = ap site_in there ∙ site.1 in (
        site.0,
        record {
          operation = i;
          word = word;
          at = (function_of_op (lowered program) f i op there, subst (λ (o : Option Op). word < size_in checked f o) (sym there) (omega (arith, size_is)), is);
          site_is = named;
        },
        named,
      )

  -- an ECALL at pc, or just before it
  pub around_call : (pool : Pool) (context : Context) (address f i : ℕ) (frames : List Frame) → (around : IsAroundCall checked pool (core_of pool context) f i frames) →
      ((word : ℕ) (op : Op) → IsAtCall checked pool (core_of pool context) f i op word frames → address ≡ context.pc) →
      ((word : ℕ) (op : Op) (place : Place) → IsPastCall checked pool (core_of pool context) f i op word place frames → address + 4 ≡ context.pc) →
      (site : ℕ) × IsInCall checked address f site × (site_in (operation_at (lowered program) f i) ≡ Some site)
  around_call pool context address f i frames (inl at) before behind =
      in_call address f i at.1 at.0 at.2.operation at.2.ecall (before at.1 at.0 at.2 ∙ at.2.frames_are.at.2)
  around_call pool context address f i frames (inr past) before behind =
      let same = behind past.1 past.0 past.2 past.3 in
      let pc = past.3.pc in
      in_call address f i past.1 past.0 past.3.operation past.3.ecall (omega (arith, same, pc))

  -- ---- from frame to frame

  low_begin : (f i : ℕ) → f < length (lowered program).functions → 4104 ≤ begin (lowered program) certificate f i
  low_begin f i there = let inside = ((valid.holds 2 f 1).v2 refl).inside refl there in omega (arith, inside.1)

  pub record Comes (address : ℕ) (next : Frame) : Type 0 where
    pub site : ℕ
    pub call : IsInCall checked address next.function site
    pub named : site_in (standing checked next) ≡ Some site

  through_size : (kind : LinkKind) (second : Bool) (n : ℕ) → through_call kind second ≡ Some n → (1 ≤ n) × (n ≤ transfer_size kind)
  through_size LinkKind.Plain false n e = (let same : 1 ≡ n = cc in (omega (arith, same), omega (arith, same)))
  through_size (LinkKind.Linked need) false n e = (let same : 5 ≡ n = cc in (omega (arith, same), omega (arith, same)))
  through_size (LinkKind.Linked need) true n e = (let same : 9 ≡ n = cc in (omega (arith, same), omega (arith, same)))
  through_size _ _ n e = absurd (cc)

  joined_parts : (a n : ℕ) (through : Option ℕ) → joined (Some a) through ≡ Some n → (m : ℕ) × (through ≡ Some m) × (a + m ≡ n)
  joined_parts a n None e = absurd (cc)
  joined_parts a n (Some m) e = (m, refl, (let same : a + m ≡ n = cc in same))

  called_from : (frame next : Frame) (op : Op) (site before words : ℕ) → operation_at (lowered program) next.function next.operation ≡ Some op → next.function < length (lowered program).functions → site_of op ≡ Some site → before_transfer op ≡ Some before →
      before + transfer_size (kind_of certificate op) ≤ size (function_at (lowered program) next.function).sizes (kind_of certificate op) op → words_through_call checked frame.is_first op ≡ Some words →
      frame.returns ≡ begin (lowered program) certificate next.function next.operation + 4 * words → Comes (frame.returns - 4) next
  called_from frame next op site before words there within site_is before_is room through returns =
      let parts = joined_parts before words (through_call (kind_of certificate op) frame.is_first) (ap (λ (b : Option ℕ). joined b (through_call (kind_of certificate op) frame.is_first)) (sym before_is) ∙ through) in
      let bounds = through_size (kind_of certificate op) frame.is_first parts.0 parts.1 in
      let named : site_in (standing checked next) ≡ Some site = ap site_in there ∙ site_is in
      record {
        site = site;
        call = record {
          operation = next.operation;
          word = words - 1;
          at = (within, subst (λ (o : Option Op). words - 1 < size_in checked next.function o) (sym there) (omega (arith, parts.2, bounds.0, bounds.1, room)), omega (arith, returns, parts.2, bounds.0));
          site_is = named;
        };
        named = named;
      }

  comes_from : (frame next : Frame) (found : Option Op) → operation_at (lowered program) next.function next.operation ≡ found → next.function < length (lowered program).functions → ReturnsInto checked frame next found → Comes (frame.returns - 4) next
  comes_from frame next None there within returns = absurd returns
  comes_from frame next (Some (Op.Call site d g args)) there within returns =
      called_from frame next (Op.Call site d g args) site (length args) returns.1.0 there within refl refl (omega arith) returns.1.1 returns.1.2
  comes_from frame next (Some (Op.CallTable site d t i s)) there within returns =
      called_from frame next (Op.CallTable site d t i s) site 13 returns.1.0 there within refl refl (omega arith) returns.1.1 returns.1.2
  comes_from frame next (Some _) there within returns = absurd returns.0

  pub next_call : (pool : Pool) (frame : ReadFrame) (chain : List ℕ) (at next : Frame) (below : List Frame) → IsReadOf checked pool frame chain at (next ∷ below) → Comes (at.returns - 4) next
  next_call pool frame chain at next below is =
      comes_from at next (operation_at (lowered program) next.function next.operation) refl (stack_frame checked pool _ next below is.stack.2).function is.stack.1.called

  -- the last frame returns to the end stub, and no other does
  pub last_returns : (pool : Pool) (frame : ReadFrame) (chain : List ℕ) (at : Frame) (below : List Frame) → IsReadOf checked pool frame chain at below → at.returns ≡ 4096 → below ≡ []
  last_returns pool frame chain at [] is stub = refl
  last_returns pool frame chain at (next ∷ below) is stub =
      let comes = next_call pool frame chain at next below is in
      let low = low_begin next.function comes.call.operation (stack_frame checked pool _ next below is.stack.2).function in
      absurd (omega (arith, comes.call.at.2, low, stub))

  pub record Next (pool : Pool) (frame : ReadFrame) (chain : List ℕ) (at : Frame) (below : List Frame) : Type 0 where
    pub next : Frame
    pub rest : List Frame
    pub below_is : below ≡ next ∷ rest
    pub is_read : IsReadOf checked pool frame chain at (next ∷ rest)
    pub comes : Comes (at.returns - 4) next

  pub not_last : (pool : Pool) (frame : ReadFrame) (chain : List ℕ) (at : Frame) (below : List Frame) → IsReadOf checked pool frame chain at below →
      (at.returns ≡ 4096 → ⊥) → Next pool frame chain at below
  not_last pool frame chain at [] is stub = absurd (stub is.stack.3)
  not_last pool frame chain at (next ∷ below) is stub =
      record { next = next; rest = below; below_is = refl; is_read = is; comes = next_call pool frame chain at next below is }

  pub low_return : (returns : ℕ) (next : Frame) → Comes (returns - 4) next → 4 ≤ returns
  low_return returns next comes = let low = low_begin next.function comes.call.operation comes.call.at.0 in omega (arith, comes.call.at.2, low)

-- ---- keys

pub key_first : (c : Checked) (f i site : ℕ) (frame : Frame) (below : List Frame) (sites : List ℕ) → site_in (operation_at c.flat f i) ≡ Some site → take 1 sites ≡ site ∷ [] → key_of c f i (frame ∷ below) ≡ take 1 sites ++ take 7 (sites_of c below)
key_first c f i site frame below sites named first =
    ap (λ (s : Option ℕ). take 8 (with_site s (sites_of c below))) named ∙ ap (λ (front : List ℕ). front ++ take 7 (sites_of c below)) (sym first)

pub first_key : (program : ProgramTree) (image : Image) (certificate : Certificate) (scoped : IsWellScoped program) (valid : IsValid (lowered program) image certificate) (pool : Pool) (context : Context) (f i : ℕ) (frames : List Frame) →
    IsAroundCall (record { flat = lowered program; certificate = certificate }) pool (core_of pool context) f i frames → (site function first : ℕ) → site_in (operation_at (lowered program) f i) ≡ Some site → function ≡ f → first ≡ site →
    IsWalked (record { flat = lowered program; certificate = certificate }) pool (key_of (record { flat = lowered program; certificate = certificate }) f i frames) (record { function = function; low = slice_index context.x 2; chunk = context.chunk }) (set (replicate 8 0) 0 first) 1
first_key program image certificate scoped valid pool context f i frames around site function first named same is =
    let c : Checked = record { flat = lowered program; certificate = certificate } in
    let r = around_read program image certificate scoped valid pool context f i frames around in
    record {
      chain = (core_of pool context).chain;
      at = r.frame;
      below = r.below;
      is_read = subst (λ (g : ℕ). IsReadOf c pool (record { function = g; low = slice_index context.x 2; chunk = context.chunk }) (core_of pool context).chain r.frame r.below) (sym same) r.is_read;
      key_is = ap (key_of c f i) r.frames_are ∙ key_first c f i site r.frame r.below (set (replicate 8 0) 0 first) named (ap (λ (s : ℕ). s ∷ []) is);
    }

pub key_more : (key sites rest : List ℕ) (count site : ℕ) → length sites ≡ 8 → count < 8 → key ≡ take count sites ++ take (8 - count) (site ∷ rest) → key ≡ take (count + 1) (set sites count site) ++ take (8 - (count + 1)) rest
key_more key sites rest count site eight small is =
    let left : 8 - count ≡ suc (8 - (count + 1)) = omega (arith, small) in
    is
    ∙ ap (λ (n : ℕ). take count sites ++ take n (site ∷ rest)) left
    ∙ sym (append_assoc (take count sites) (site ∷ []) (take (8 - (count + 1)) rest))
    ∙ ap (λ (front : List ℕ). front ++ take (8 - (count + 1)) rest) (sym (take_more_set sites count site (omega (arith, eight, small))))

-- the call around which a thread rests
pub around_of : (c : Checked) (pool : Pool) (core : Core) → RestsAround c pool core → (f : ℕ) × (i : ℕ) × (frames : List Frame) × IsAroundCall c pool core f i frames
around_of c pool core is = by is.rests is.around where
  by : (rests : IsResting c pool core) → passing.IsAround c pool core rests → (f : ℕ) × (i : ℕ) × (frames : List Frame) × IsAroundCall c pool core f i frames
  by (AtStart f frames in_place) around = absurd around
  by (AtCall f i op word frames at) around = (f, i, frames, inl (op, word, at))
  by (PastCall f i op word place frames past) around = (f, i, frames, inr (op, word, place, past))

pub next_walked : (c : Checked) (pool : Pool) (key sites : List ℕ) (count site : ℕ) (frame : ReadFrame) (chain : List ℕ) (next : Frame) (below rest : List Frame) → length sites ≡ 8 → count < 8 →
    key ≡ take count sites ++ take (8 - count) (sites_of c below) → below ≡ next ∷ rest → site_in (standing c next) ≡ Some site → IsReadOf c pool frame chain next rest → IsWalked c pool key frame (set sites count site) (count + 1)
next_walked c pool key sites count site frame chain next below rest eight small is frames named is_read = record {
  chain = chain;
  at = next;
  below = rest;
  is_read = is_read;
  key_is = key_more key sites (sites_of c rest) count site eight small
      (is
      ∙ ap (λ (fs : List Frame). take count sites ++ take (8 - count) (sites_of c fs)) frames
      ∙ ap (λ (s : Option ℕ). take count sites ++ take (8 - count) (with_site s (sites_of c rest))) named);
}

-- ---- at the end

take_none : (n : ℕ) → take {A = ℕ} n [] ≡ []
take_none zero = refl
take_none (suc n) = refl

pub key_last : (c : Checked) (key sites : List ℕ) (count : ℕ) (below : List Frame) → key ≡ take count sites ++ take (8 - count) (sites_of c below) → below ≡ [] → take count sites ≡ key
key_last c key sites count below is none =
    sym (is
    ∙ ap (λ (frames : List Frame). take count sites ++ take (8 - count) (sites_of c frames)) none
    ∙ ap (λ (rest : List ℕ). take count sites ++ rest) (take_none (8 - count))
    ∙ append-nil (take count sites))

pub key_full : (key sites rest : List ℕ) (count : ℕ) → length sites ≡ 8 → 8 ≤ count → count ≤ 8 → key ≡ take count sites ++ take (8 - count) rest → sites ≡ key
key_full key sites rest count eight low high is =
    let none : 8 - count ≡ 0 = omega (arith, low) in
    sym (is
    ∙ ap (λ (n : ℕ). take count sites ++ take n rest) none
    ∙ append-nil (take count sites)
    ∙ take_all count sites (omega (arith, eight, low)))

-- an answer that is the key of each call around which the thread rests is that of each source thread
pub source_key : (c : Checked) (program : ProgramTree) (pool : Pool) (core : Core) (result : List ℕ) → ((f i : ℕ) (frames : List Frame) → IsAroundCall c pool core f i frames → result ≡ key_of c f i frames) →
    (rests : IsResting c pool core) (waiting : source.Waiting) → StandsFor c program pool core rests (Waits waiting) → result ≡ source.key_of waiting
source_key c program pool core result is (AtStart f frames in_place) waiting stands = absurd stands
source_key c program pool core result is (AtCall f i op word frames at) waiting stands =
    is f i frames (inl (op, word, at)) ∙ key_is c program pool core (AtCall f i op word frames at) waiting stands
source_key c program pool core result is (PastCall f i op word place frames past) waiting stands =
    is f i frames (inr (op, word, place, past)) ∙ key_is c program pool core (PastCall f i op word place frames past) waiting stands
