-- A chain is no longer than the thread's linked calls ask for.
use Rattle.flat_code.specs.declared.operations.Op.{Op}
use Rattle.stack_certificate.specs.declared.sites.LinkKind.{LinkKind}
use Rattle.stack_certificate.specs.Templates.{kind_of}
use Rattle.machine_world.proofs.Common.{◌≡◌, ℕ, ◌+◌, ◌≤◌, Bool, true, false, List, [], ◌∷◌, length, Option, Some, None, refl, sym, ap, ◌∙◌, arith, cond, slice_get, Pool, Core, Checked, Place, before_transfer, through_call, Row, NoFrame, Empty, Fresh, Linking, Whole, row_of, Frame, joined, words_through_call, ReturnsInto, chain_below, IsStack, FramesAt, HasFrames, standing, is_linked, stands_at_link, called_at_links, chunk_ahead}

-- the second call instruction stands at linked sites alone
second_is_linked : (before : Option ℕ) (kind : LinkKind) (words : ℕ) → joined before (through_call kind true) ≡ Some words → is_linked kind ≡ true
second_is_linked (Some b) (LinkKind.Linked need) words e = refl
second_is_linked _ _ words e = absurd (cc)

first_is_linked : (c : Checked) (frame below : Frame) (op : Option Op) → frame.is_first ≡ true → ReturnsInto c frame below op → stands_at_link c op ≡ true
first_is_linked c frame below None first returns = absurd returns
first_is_linked c frame below (Some op) first returns =
    second_is_linked (before_transfer op) (kind_of c.certificate op) returns.1.0
    (sym (ap (λ (b : Bool). words_through_call c b op) first) ∙ returns.1.1)

-- one frame's chunk and the chain below it
one_more : (first linked : Bool) (chain : List ℕ) (chunk n : ℕ) → slice_get (chain_below first chain) 0 ≡ Some chunk → (first ≡ true → linked ≡ true) → length (chain_below first chain) ≤ 1 + n → length chain ≤ 1 + (cond linked 1 0 + n)
one_more false true chain chunk n at_front is most = omega arith
one_more false false chain chunk n at_front is most = omega arith
one_more true true [] chunk n at_front is most = omega arith
one_more true true (x ∷ chain) chunk n at_front is most = omega arith
one_more true false chain chunk n at_front is most = (let never : false ≡ true = is refl in absurd (cc))

length-stack : (c : Checked) (pool : Pool) (chain : List ℕ) (frame : Frame) (below : List Frame) → IsStack c pool chain frame below → length chain ≤ 1 + called_at_links c (frame ∷ below)
length-stack c pool chain frame [] stack = omega (arith, ap length stack.1)
length-stack c pool chain frame (next ∷ below) stack =
    let above = stack.1 in
    one_more frame.is_first (stands_at_link c (standing c next)) chain next.chunk (called_at_links c (next ∷ below)) above.chunk
    (λ first. first_is_linked c frame next (standing c next) first above.called)
    (length-stack c pool (chain_below frame.is_first chain) next below stack.2)

length-frames : (c : Checked) (pool : Pool) (core : Core) (place : Place) (row : Row) (chain : List ℕ) (frames : List Frame) → FramesAt c pool core place row chain frames → length chain ≤ 1 + called_at_links c frames + chunk_ahead row
length-frames c pool core place NoFrame (chunk ∷ []) (frame ∷ below) placed = absurd placed
length-frames c pool core place NoFrame (a ∷ b ∷ chain) frames placed = absurd placed
length-frames c pool core place Empty (chunk ∷ chain) [] placed = absurd placed
length-frames c pool core place Empty (chunk ∷ chain) (frame ∷ below) placed = omega (arith, length-stack c pool (chunk ∷ chain) frame below placed.1)
length-frames c pool core place Fresh (chunk ∷ chain) [] placed = absurd placed
length-frames c pool core place Fresh (chunk ∷ chain) (frame ∷ below) placed = omega (arith, length-stack c pool (chunk ∷ chain) frame below placed.1)
length-frames c pool core place Whole (chunk ∷ chain) [] placed = absurd placed
length-frames c pool core place Whole (chunk ∷ chain) (frame ∷ below) placed = omega (arith, length-stack c pool (chunk ∷ chain) frame below placed.1)
length-frames c pool core place Linking (linked ∷ chunk ∷ chain) [] placed = absurd placed
length-frames c pool core place Linking (linked ∷ chunk ∷ chain) (frame ∷ below) placed = omega (arith, length-stack c pool (chunk ∷ chain) frame below placed.3)
length-frames c pool core place _ _ _ placed = omega arith

pub length-chain : (c : Checked) (pool : Pool) (core : Core) (place : Place) (frames : List Frame) → HasFrames c pool core place frames → length core.chain ≤ 1 + called_at_links c frames + chunk_ahead (row_of c place)
length-chain c pool core place frames has = length-frames c pool core place (row_of c place) core.chain frames has.frames_are
