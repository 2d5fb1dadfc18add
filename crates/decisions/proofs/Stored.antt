-- `check` accepts what `build` wrote under three names.
use Rattle.decisions.proofs.Common.{◌≡◌, ◌≢◌, ℕ, List, [], ◌∷◌, ◌++◌, Option, Some, refl, sym, subst, ◌∙◌, arith, ⊎_elim, codes, Files, ProgramTree, Placement, Build, Check, IsWordList, Image, Certificate, Outside, WhereTold, AreStored, fault_status, Memory, built, sizes_of, build-sizes, IsReadAgain, HasAnswered, HasSource, HasBuildable, HasValidPair, UnlessMemory, WritesText}
use Rattle.certificate_text.specs.Text as certificate
use Rattle.stack_image.specs.Spelling as image
use Rattle.decisions.proofs.Starts.{starts_with_words}
use Rattle.decisions.proofs.Valid.{layout_words}
use Rattle.decisions.proofs.Together.{read_again}
use Rattle.decisions.proofs.BytesAreTexts.{build_stores_its_pair, check_writes_accepted}

-- ---- what the files hold

-- the two files that were stored under different names, and any third
record HoldPair (old new : Files) (image_name certificate_name image_bytes certificate_bytes : List ℕ) : Type 0 where
  image_is : new image_name ≡ Some image_bytes
  certificate_is : new certificate_name ≡ Some certificate_bytes
  others : (name : List ℕ) → name ≢ image_name → name ≢ certificate_name → new name ≡ old name

hold_pair : (old new : Files) (i c image_bytes certificate_bytes : List ℕ) → i ≢ c → AreStored ((i, image_bytes) ∷ (c, certificate_bytes) ∷ []) old new → HoldPair old new i c image_bytes certificate_bytes
hold_pair old new i c image_bytes certificate_bytes apart h =
    let first = h.1 in
    let second = h.2.1 in
    let rest = h.2.2 in
    record {
      image_is = rest i ∙ (second.others i apart ∙ first.holds);
      certificate_is = rest c ∙ second.holds;
      others = λ name a b. rest name ∙ (second.others name b ∙ first.others name a);
    }

valid_pair : (old new : Files) (s i c : List ℕ) (program : ProgramTree) (im : Image) (ce : Certificate) → s ≢ i → s ≢ c → HasSource old s program → IsReadAgain program im ce →
    HoldPair old new i c (image.spelling im) (certificate.spelling ce) → HasValidPair new s i c program im ce
valid_pair old new s i c program im ce from_image from_certificate source again held =
    let there = source.there in
    record {
      source = record { bytes = source.bytes; there = record { file = held.others s from_image from_certificate ∙ there.file; fits = there.fits }; reads = source.reads };
      image_bytes = image.spelling im;
      image_there = record { file = held.image_is; fits = again.image_short };
      image_is = record { limits = again.image_fits; words = again.image_words; spelled = refl };
      certificate_bytes = certificate.spelling ce;
      certificate_there = record { file = held.certificate_is; fits = again.certificate_short };
      certificate_is = record { limits = again.certificate_fits; words = again.certificate_words; spelled = refl };
      valid = again.valid;
    }

-- the files are told
told_files : {P : Type 0} (Q : Files → Files → Type 0) (old new : Files) (after : Option Files) → after ≡ Some new → WhereTold Q (Some old) after → (Q old new → P) → P
told_files Q old new after same h next = next (subst (λ (f : Option Files). WhereTold Q (Some old) f) same h)

pub check_accepts_what_build_wrote : (words check_words : List (List ℕ)) (files check_files : Files) (trace check_trace source image certificate : List ℕ) (placement : Placement) (program : ProgramTree)
    (before after check_before check_after : Outside) (check_status : ℕ) →
    source ≢ image → source ≢ certificate → image ≢ certificate →
    HasAnswered words files trace before after 0 → IsWordList words (Build source image certificate placement) → HasBuildable files source (sizes_of placement) program →
    HasAnswered check_words check_files check_trace check_before check_after check_status → check_before.files ≡ after.files → IsWordList check_words (Check source image certificate) →
    UnlessMemory check_status (WritesText (codes "accepted" ++ 10 ∷ []) check_before check_after check_status)
check_accepts_what_build_wrote words check_words files check_files trace check_trace source i c placement program before after check_before check_after check_status from_image from_certificate apart answered asked there checked same check_asked =
    ⊎_elim
    (λ x.
    let source_read = there.source.reads in
    let read = read_again program (sizes_of placement) x.0 x.1 source_read.scoped (build-sizes words source i c placement asked) there.frames there.code
    (layout_words program (sizes_of placement) x.0 x.1 (starts_with_words there.source.bytes program source_read.reads) x.2) x.2 in
    let stores = (built i c x.0 x.1).stores in
    told_files (AreStored stores) files check_files after.files (sym same ∙ checked.files_told) x.3
    (λ stored.
    let pair = valid_pair files check_files source i c program x.0 x.1 from_image from_certificate there.source read (hold_pair files check_files i c _ _ apart stored) in
    check_writes_accepted check_words check_files check_trace source i c program x.0 x.1 check_before check_after check_status checked check_asked pair))
    (λ want. let clash : 0 ≡ fault_status Memory = want in absurd (omega (arith, clash)))
    (build_stores_its_pair words files trace source i c placement program before after 0 answered asked there)
