-- What a build answers, from what it was laid out to.
use Rattle.pair_commands.proofs.Common.{◌≡◌, ◌⊎◌, ℕ, false, List, [], ◌∷◌, Some, None, refl, ap, ◌∙◌, inr, ⊎_elim, ProgramTree, IsWellScoped, lowered, FlatCode, IsWellFormed, Options, Image, Certificate, frame_refusal, IsTooLarge, IsLaidOut, FrameTooLarge, CodeTooLarge, Memory, Products, Outcome, BuildsProgram, IsProductsOf, stored_products, built}
use Rattle.certificate_rules.specs.Validity.{IsValid}
use Rattle.stack_image.specs.Spelling as image
use Rattle.pair_commands.proofs.Analyses.{frame-not-code}
use Rattle.pair_commands.proofs.OneBuild.{code-fits}

-- a refusal of a frame is that of the first frame
pub frame-of : (code : FlatCode) (options : Options) (f bytes : ℕ) → (FrameTooLarge f bytes ≡ Memory) ⊎ ((frame_refusal code options.max_path ≡ Some (FrameTooLarge f bytes)) ⊎ IsTooLarge code options (FrameTooLarge f bytes)) →
    frame_refusal code options.max_path ≡ Some (FrameTooLarge f bytes)
frame-of code options f bytes h = ⊎_elim (λ e. cc) (λ x. ⊎_elim (λ e. e) (λ large. let e = large.3 in cc) x) h

-- a refusal of the code is that of too large a code
pub code-of : (code : FlatCode) (options : Options) (words : ℕ) → (CodeTooLarge words ≡ Memory) ⊎ ((frame_refusal code options.max_path ≡ Some (CodeTooLarge words)) ⊎ IsTooLarge code options (CodeTooLarge words)) →
    IsTooLarge code options (CodeTooLarge words)
code-of code options words h = ⊎_elim (λ e. cc) (λ x. ⊎_elim (λ e. absurd (frame-not-code code options.max_path words e)) (λ large. large) x) h

same-products : (n m : List ℕ) (i : Image) (c : Certificate) (products : Products) → IsProductsOf i c products → stored_products n m products ≡ built n m i c
same-products n m i c products is =
    let line = ap (λ (x : List ℕ). let o : Outcome = record { status = 0; out = x; line = []; stores = (n, products.image.items) ∷ (m, products.certificate.items) ∷ []; last = None; reads_trace = false } in o) is.line in
    let image_bytes = ap (λ (x : List ℕ). let o : Outcome = record { status = 0; out = (built n m i c).out; line = []; stores = (n, x) ∷ (m, products.certificate.items) ∷ []; last = None; reads_trace = false } in o) is.image_bytes in
    let certificate_bytes = ap (λ (x : List ℕ). let o : Outcome = record { status = 0; out = (built n m i c).out; line = []; stores = (n, image.spelling i) ∷ (m, x) ∷ []; last = None; reads_trace = false } in o) is.certificate_bytes in
    line ∙ (image_bytes ∙ certificate_bytes)

pub pair-built : (p : ProgramTree) (options : Options) (n m : List ℕ) (i : Image) (c : Certificate) (products : Products) → IsWellScoped p → IsWellFormed (lowered p) → frame_refusal (lowered p) options.max_path ≡ None → IsValid (lowered p) i c → IsLaidOut (lowered p) options i c → IsProductsOf i c products →
    BuildsProgram options n m p (stored_products n m products)
pair-built p options n m i c products scoped formed fit valid laid is =
    let words = ((valid.holds 1 0 2).v1 refl).words refl in
    inr (fit, code-fits p scoped options i c formed laid words.1, i, c, laid, same-products n m i c products is)
