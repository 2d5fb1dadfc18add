-- Bytes are an image, or have a refusal.
use Rattle.decisions.proofs.Common.{ℕ, ◌≡◌, ◌⊎◌, inl, inr, refl, List, Option, Some, None, Image, IsBytes}
use Rattle.stack_image.specs.declared.refusals.ImageError.{ImageError}
use Rattle.stack_image.specs.Refusal.{refusal_of}
use Rattle.stack_image.specs.Reading.{image_of}
use Rattle.stack_image.specs.Spelling.{spelling, IsWithinLimits, HoldsWords}
use Rattle.stack_image.proofs.NoRefusal.{refused_by_nothing}
use Rattle.stack_image.proofs.Spelled.{spelled, image_of-limits, image_of-words}

abbrev pub ReadOrRefused : List ℕ → Type 0
ReadOrRefused bytes = ((i : Image) × IsWithinLimits i × HoldsWords i × (bytes ≡ spelling i)) ⊎ ((error : ImageError) × (refusal_of bytes ≡ Some error))

by_refusal : (bytes : List ℕ) → IsBytes bytes → (refusal : Option ImageError) → refusal_of bytes ≡ refusal → ReadOrRefused bytes
by_refusal bytes fits (Some error) e = inr (error, e)
by_refusal bytes fits None e =
    let none = refused_by_nothing bytes e in
    inl (image_of bytes, image_of-limits bytes none, image_of-words bytes fits, spelled bytes fits none)

pub image_decided : (bytes : List ℕ) → IsBytes bytes → ReadOrRefused bytes
image_decided bytes fits = by_refusal bytes fits (refusal_of bytes) refl
