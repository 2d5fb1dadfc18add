-- The spelling of an image is refused by nothing, and is read as that image.
use Rattle.stack_image.proofs.Common.{◌≡◌, ◌∙◌, ℕ, ◌+◌, ◌*◌, ◌^◌, ◌<◌, List, [], ◌++◌, length, None, true, refl, sym, ap, append_assoc, arith, append-nil, length-append, Image, magic, word, words, sizes, spelling, IsWithinLimits, HoldsWords, number_at, begins_as_image, code_size, globals_size, tables_size, entries_size, end_of, refusal_of, words_of, behind, image_of}
use Rattle.stack_image.proofs.WordBytes.{AreWords, number_at-word, length-words, words_of-words, behind-words}
use Rattle.stack_image.proofs.NoRefusal.{KeepsLimits, refusal_of_none}
use Rattle.stack_image.proofs.ImageLemmas.{read_in_order}

regroup : (a b c d e f : List ℕ) → a ++ b ++ c ++ d ++ e ++ f ≡ a ++ (b ++ (c ++ (d ++ (e ++ f))))
regroup a b c d e f = simp append_assoc

-- what is spelled behind the counts
lists : Image → List ℕ
lists image = words image.code ++ (words image.globals ++ (words image.tables ++ words image.entries))

spelling_parts : (image : Image) → spelling image ≡ magic ++ (words (sizes image) ++ lists image)
unfolding spelling lists
spelling_parts image =
    regroup magic (words (sizes image)) (words image.code) (words image.globals) (words image.tables) (words image.entries)

-- ---- the numbers of words

-- the word behind a front of the counts
count_at : (image : Image) (front : List ℕ) (n : ℕ) (rest : List ℕ) (at : ℕ) → length front ≡ at → n < 2 ^ 32 →
    magic ++ (words (sizes image) ++ lists image) ≡ front ++ (word n ++ rest) → number_at (spelling image) at ≡ n
count_at image front n rest at len below parts =
    ap (λ (b : List ℕ). number_at b at) (spelling_parts image ∙ parts) ∙ number_at-word front n rest at len below

pub record CountsWords (image : Image) : Type 0 where
  pub code : code_size (spelling image) ≡ length image.code
  pub globals : globals_size (spelling image) ≡ length image.globals
  pub tables : tables_size (spelling image) ≡ length image.tables
  pub entries : entries_size (spelling image) ≡ length image.entries

counts : (image : Image) → IsWithinLimits image → CountsWords image
counts image limits =
    let c = length image.code in
    let g = length image.globals in
    let t = length image.tables in
    let e = length image.entries in
    record {
      code = count_at image magic c (word g ++ (word t ++ (word e ++ lists image))) 4 refl (omega (arith, limits.code)) refl;
      globals = count_at image (magic ++ word c) g (word t ++ (word e ++ lists image)) 8 refl (omega (arith, limits.globals)) refl;
      tables = count_at image (magic ++ word c ++ word g) t (word e ++ lists image) 12 refl (omega (arith, limits.tables)) refl;
      entries = count_at image (magic ++ word c ++ word g ++ word t) e (lists image) 16 refl (omega (arith, limits.entries)) refl;
    }

-- ---- no refusal

begins : (image : Image) → begins_as_image (spelling image) ≡ true
unfolding spelling
begins image = refl

length-lists : (image : Image) → length (lists image) ≡ 4 * (length image.code + length image.globals + length image.tables + length image.entries)
unfolding lists
length-lists image =
    omega (
      arith,
      length-append (words image.code) (words image.globals ++ (words image.tables ++ words image.entries)),
      length-append (words image.globals) (words image.tables ++ words image.entries),
      length-append (words image.tables) (words image.entries),
      length-words image.code,
      length-words image.globals,
      length-words image.tables,
      length-words image.entries,
    )

length-spelling : (image : Image) → length (spelling image) ≡ 20 + length (lists image)
length-spelling image = ap (λ (b : List ℕ). length b) (spelling_parts image) ∙ omega arith

pub spelling_not_refused : (image : Image) → IsWithinLimits image → refusal_of (spelling image) ≡ None
spelling_not_refused image limits =
    let n = counts image limits in
    let len : length (spelling image) ≡ 20 + 4 * (length image.code + length image.globals + length image.tables + length image.entries) =
    length-spelling image ∙ ap (λ (k : ℕ). 20 + k) (length-lists image) in
    let kept : KeepsLimits (code_size (spelling image)) (globals_size (spelling image)) (tables_size (spelling image)) (entries_size (spelling image)) =
    record { code = rw n.code limits.code; globals = rw n.globals limits.globals; tables = rw n.tables limits.tables; entries = rw n.entries limits.entries } in
    let end : length (spelling image) ≡ end_of (spelling image) = omega (arith, n.code, n.globals, n.tables, n.entries) in
    refusal_of_none (spelling image) (record { magic = begins image; long = omega arith; limits = kept; end = end })

-- ---- the image

words_of_all : (ws : List ℕ) → AreWords ws → words_of (length ws) (words ws) ≡ ws
words_of_all ws fits = ap (λ (b : List ℕ). words_of (length ws) b) (sym (append-nil (words ws))) ∙ words_of-words ws [] fits

pub image_of-spelling : (image : Image) → IsWithinLimits image → HoldsWords image → image_of (spelling image) ≡ image
unfolding lists
image_of-spelling image limits fits =
    let n = counts image limits in
    let tables-on = words image.tables ++ words image.entries in
    let globals-on = words image.globals ++ tables-on in
    let r0 : lists image ≡ behind 5 (spelling image) = ap (λ (b : List ℕ). behind 5 b) (sym (spelling_parts image)) in
    sym (read_in_order (spelling image) (lists image) globals-on tables-on (words image.entries)
    image.code image.globals image.tables image.entries
    (length image.code) (length image.globals) (length image.tables) (length image.entries)
    (sym n.code) (sym n.globals) (sym n.tables) (sym n.entries) r0
    (sym (behind-words image.code globals-on)) (sym (behind-words image.globals tables-on)) (sym (behind-words image.tables (words image.entries)))
    (sym (words_of-words image.code globals-on fits.code)) (sym (words_of-words image.globals tables-on fits.globals))
    (sym (words_of-words image.tables (words image.entries) fits.tables)) (sym (words_of_all image.entries fits.entries)))
