-- A piece that is put in several writes: what a told sink has when some of it is done.
use Rattle.std.proofs.Common.{◌≡◌, ℕ, ◌≤◌, List, [], ◌++◌, length, take, drop, ◌∙◌, append_assoc, length-append, length-drop, arith, ◌-◌}
use Rattle.std.specs.Prelude.{Option, None, Some}
use Rattle.std.specs.Io.KnownBytes.{Appends, Keeps}
use Rattle.std.proofs.lemmas.List.{append-nil, take-append-drop, take_all}
use Rattle.std.proofs.Math.Seq.{take-append_seam}
use Rattle.std.proofs.KnownBytes.{Appends-trans, Appends-kept}

-- told bytes grew by a beginning of the piece, whose rest is left
pub record PutSoFar (old new : Option (List ℕ)) (piece rest : List ℕ) : Type 0 where
  pub put : List ℕ
  pub whole : put ++ rest ≡ piece
  pub bytes : Appends old new put

pub keeps_by_none : (old new : Option (List ℕ)) → Appends old new [] → Keeps old new
keeps_by_none None new none = tt
keeps_by_none (Some a) None none = absurd none
keeps_by_none (Some a) (Some b) none = none ∙ append-nil a

-- `&rest[n..]` is the first m - n of what is left behind the first n, where m is the rest's length
pub PutSoFar-more : (old mid new : Option (List ℕ)) (piece rest : List ℕ) (n m : ℕ) → m ≡ length rest
    → PutSoFar old mid piece rest → Appends mid new (take n rest) → PutSoFar old new piece (take (m - n) (drop n rest))
PutSoFar-more old mid new piece rest n m all s now =
    let left : length (drop n rest) ≤ m - n = omega (arith, length-drop n rest)
    in let same : take (m - n) (drop n rest) ≡ drop n rest = take_all (m - n) (drop n rest) left
    in rw same (record {
      put = s.put ++ take n rest;
      whole = append_assoc s.put (take n rest) (drop n rest) ∙ rw take-append-drop s.whole;
      bytes = Appends-trans old mid new s.put (take n rest) s.bytes now;
    })

pub PutSoFar-prefix : (old mid new : Option (List ℕ)) (piece rest : List ℕ) → PutSoFar old mid piece rest → Keeps mid new
    → (n : ℕ) × (n ≤ length piece) × Appends old new (take n piece)
PutSoFar-prefix old mid new piece rest s now =
    let front : take (length s.put) piece ≡ s.put = rw (← s.whole) (take-append_seam s.put rest)
    in (
      length s.put,
      rw (← s.whole) (omega (arith, length-append s.put rest)),
      rw front (Appends-kept old mid new s.put s.bytes now),
    )
