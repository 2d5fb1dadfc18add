-- A thread that came to rest at an ECALL stands for the flat thread that asks there.
use Rattle.segment_laws.proofs.Common.{ℕ, List, ◌∷◌, FlatThread, Op, Frame, Checked, AtCall, StandsForFlatThread, AtAsk}
use Rattle.machine_world.specs.Local.{Local, Question}

pub stands_asking : (c : Checked) (code : List ℕ) (l : Local) (t : FlatThread) (op : Op) (word : ℕ) (question : Question) (frame : Frame) (below : List Frame) → (at : AtAsk c code l t op word question frame below) →
    StandsForFlatThread c at.at (t.frame ∷ t.below) t.globals
stands_asking c code l t op word question frame below at = record {
  rests = AtCall t.frame.function t.frame.next op word (frame ∷ below) at.rests;
  stands = (
    record {
      function = at.during.inside.body.function;
      operation = at.during.inside.body.operation;
      shape = at.during.shape;
      variables = at.during.variables;
    },
    at.during.flats,
  );
  globals_are = at.during.globals;
}
