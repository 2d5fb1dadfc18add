-- Areas of an accepted program have the form that its certificate says.
use Rattle.segment_run.proofs.Common.{◌≡◌, ℕ, ◌+◌, List, [], ◌∷◌, length, map, replicate, refl, sym, ap, ◌∙◌, sum, sum_by, length-replicate, length-flat_map, sum_by-cons, member_entries, starting_words, IsValid, IsPool, first_bytes, FlatCode, FlatGlobal, Areas, AreWords, AreWellFormed, Certificate, Image, same_words}

pub sum_widths : (gs : List FlatGlobal) → sum_by (λ (g : FlatGlobal). length (replicate {A = ℕ} g.words g.start)) gs ≡ sum (map (λ (g : FlatGlobal). g.words) gs)
sum_widths [] = refl
sum_widths (g ∷ gs) =
    sum_by-cons (λ (x : FlatGlobal). length (replicate {A = ℕ} x.words x.start)) g gs
    ∙ (λ i. length-replicate {A = ℕ} g.words g.start i + sum_widths gs i)
    ∙ sym (sum_by-cons (λ (n : ℕ). n) g.words (map (λ (x : FlatGlobal). x.words) gs))

pub areas_formed : (flat : FlatCode) (image : Image) (certificate : Certificate) (areas : Areas) → IsValid flat image certificate → IsPool areas.pool → AreWords areas.globals → first_bytes areas.pool ≡ certificate.chunk → length areas.globals ≡ length image.globals → areas.tables ≡ image.tables →
    AreWellFormed (record { flat = flat; certificate = certificate }) areas
areas_formed flat image certificate areas valid sound words chunk globals tables = record {
  pool = sound;
  chunk = chunk;
  globals = globals ∙ ap length (same_words image.globals (starting_words flat) (λ i. ((valid.holds 12 0 i).v12 refl).word))
      ∙ length-flat_map (λ (g : FlatGlobal). replicate g.words g.start) flat.globals ∙ sum_widths flat.globals;
  global_words = words;
  tables = tables ∙ same_words image.tables (member_entries flat certificate) (λ i. ((valid.holds 8 0 i).v8 refl).word);
}
