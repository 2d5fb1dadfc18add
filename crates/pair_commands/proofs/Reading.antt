-- What is due of the bytes of a pair, from what is due of the pair that they are read as.
use Rattle.pair_commands.proofs.Common.{ℕ, List, Result, Ok, Err, inl, MatchResult, program_tree, ProgramTree, Image, Certificate, AfterImage, AfterCertificate, Outcome, IsStop, Stop, stop-follows, source-follows, image-follows, certificate-follows, AfterPair, IsPairText, Unread}
use Rattle.pair_commands.specs.declared.pairs.ReadPair.{ReadPair}

module _ (s i c : List ℕ) (next : ProgramTree → Image → Certificate → Outcome → Type 0) where
  after-unread : (o : Outcome) → AfterPair s i c Unread o → AfterPair s i c next o
  after-unread o =
      source-follows s (λ program. AfterImage i (λ x. AfterCertificate c (Unread program x))) (λ program. AfterImage i (λ x. AfterCertificate c (next program x))) o
      (λ program. image-follows i (λ x. AfterCertificate c (Unread program x)) (λ x. AfterCertificate c (next program x)) o
      (λ x. certificate-follows c (Unread program x) (next program x) o (λ y none. absurd none)))

  -- a pair that can't be read
  pub unread-stops : (stop : Stop) → IsStop (AfterPair s i c Unread) stop → IsStop (AfterPair s i c next) stop
  unread-stops stop h = stop-follows (AfterPair s i c Unread) (AfterPair s i c next) stop after-unread h

  module _ (pair : ReadPair) (is : IsPairText s i c pair) where
    -- a pair that is read
    pub of-pair : (o : Outcome) → next (program_tree pair.program) pair.image pair.certificate o → AfterPair s i c next o
    of-pair o h = inl (program_tree pair.program, is.program, inl (pair.image, is.image_bytes, inl (pair.certificate, is.certificate_bytes, h)))

    pub stop-of-pair : (stop : Stop) → IsStop (next (program_tree pair.program) pair.image pair.certificate) stop → IsStop (AfterPair s i c next) stop
    stop-of-pair stop h = stop-follows (next (program_tree pair.program) pair.image pair.certificate) (AfterPair s i c next) stop of-pair h

    -- a step over it
    pub after-pair : {T : Type 0} (outcome : T → Outcome) (r : Result T Stop) → MatchResult r (λ v. next (program_tree pair.program) pair.image pair.certificate (outcome v)) (IsStop (next (program_tree pair.program) pair.image pair.certificate)) →
        MatchResult r (λ v. AfterPair s i c next (outcome v)) (IsStop (AfterPair s i c next))
    after-pair outcome (Ok v) h = of-pair (outcome v) h
    after-pair outcome (Err stop) h = stop-of-pair stop h
