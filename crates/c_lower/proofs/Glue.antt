-- What is put in several pieces at the end of a list stands there as one.
use Rattle.std.proofs.Common.{◌≡◌, List, ◌++◌, ap, ◌∙◌, append_assoc}

pub glued2 : {A : Type 0} (s t u a b : List A) → t ≡ s ++ a → u ≡ t ++ b → u ≡ s ++ (a ++ b)
glued2 s t u a b e f = f ∙ ap (λ x. x ++ b) e ∙ append_assoc s a b

pub glued3 : {A : Type 0} (s t u v a b c : List A) → t ≡ s ++ a → u ≡ t ++ b → v ≡ u ++ c → v ≡ s ++ ((a ++ b) ++ c)
glued3 s t u v a b c e f g = glued2 s u v (a ++ b) c (glued2 s t u a b e f) g

pub glued4 : {A : Type 0} (s t u v w a b c d : List A) → t ≡ s ++ a → u ≡ t ++ b → v ≡ u ++ c → w ≡ v ++ d → w ≡ s ++ (((a ++ b) ++ c) ++ d)
glued4 s t u v w a b c d e f g h = glued2 s v w ((a ++ b) ++ c) d (glued3 s t u v a b c e f g) h

pub glued5 : {A : Type 0} (s t u v w x a b c d i : List A) → t ≡ s ++ a → u ≡ t ++ b → v ≡ u ++ c → w ≡ v ++ d → x ≡ w ++ i → x ≡ s ++ ((((a ++ b) ++ c) ++ d) ++ i)
glued5 s t u v w x a b c d i e f g h j = glued2 s w x (((a ++ b) ++ c) ++ d) i (glued4 s t u v w a b c d e f g h) j
