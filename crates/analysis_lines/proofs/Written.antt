-- What a text has after each line that is appended.
use Rattle.std.proofs.Common.{◌≡◌, ℕ, ℤ, pos, ◌+◌, ◌^◌, ◌<◌, List, [], ◌∷◌, ◌++◌, append_assoc, length, get_or, take, map, refl, ap, ◌∙◌, sym, arith, add-one, to_z, of_z, FitsSigned}
use Rattle.std.specs.Prelude.{codes}
use Rattle.std.specs.Int.{w128}
use Rattle.std.proofs.lemmas.Int.{to_z-of_z}
use Rattle.std.proofs.lemmas.List.{flat_map_more, map_more, get_or-map}
use Rattle.cap_text.specs.Decimals.{canonical_decimal, canonical_integer}
use Rattle.cap_text.specs.TextLines.{ended_lines}
use Rattle.c_tree.specs.declared.facts.Function.{Function}
use Rattle.call_graph.specs.declared.sites.GraphSite.{GraphSite}
use Rattle.analysis_lines.specs.Lines.{name_at, kind_word, site_line, functions_text}

decimal_of_pos : (n : ℕ) → canonical_integer (pos n) ≡ canonical_decimal n
unfolding canonical_integer
decimal_of_pos n = refl

-- a number of 64 bits, widened to 128 signed bits
pub widened : (z : ℤ) (n : ℕ) → n < 2 ^ 64 → z ≡ pos n → canonical_integer (to_z w128 (of_z w128 z)) ≡ canonical_decimal n
widened z n small e =
    let fits : FitsSigned w128 z = rw e (record { sfits = omega arith }) in
    ap canonical_integer (to_z-of_z w128 z fits ∙ e) ∙ decimal_of_pos n

-- the line of a function behind the others
pub functions_more : (names : List (List ℕ)) (weights bounds start text new name : List ℕ) (n frame bound : ℕ) → text ≡ start ++ functions_text names weights bounds n → name ≡ name_at names n → frame ≡ get_or weights n 0 → bound ≡ get_or bounds n 0
    → new ≡ text ++ (((((((codes "function " ++ canonical_decimal n) ++ 32 ∷ name) ++ codes " frame ") ++ canonical_decimal frame) ++ codes " bound ") ++ canonical_decimal bound) ++ 10 ∷ []) → new ≡ start ++ functions_text names weights bounds (n + 1)
functions_more names weights bounds start text new name n frame bound h e f g k =
    rw (add-one, k, h, e, f, g, append_assoc start (functions_text names weights bounds n)) refl

-- the line of a site behind the others
pub lines_more : {A : Type 0} (f : A → List ℕ) (start text : List ℕ) (facts : List A) (i : ℕ) (d : A) → i < length facts → text ≡ start ++ ended_lines (map f (take i facts))
    → text ++ (f (get_or facts i d) ++ 10 ∷ []) ≡ start ++ ended_lines (map f (take (i + 1) facts))
lines_more f start text facts i d l e =
    ap (λ x. x ++ (f (get_or facts i d) ++ 10 ∷ [])) e
    ∙ flat_map_more (λ line. line ++ 10 ∷ []) start (map f (take i facts)) (f (get_or facts i d))
    ∙ ap (λ x. start ++ ended_lines x) (sym (map_more f facts i d l))

pub sites_more : (names : List (List ℕ)) (back checkpointed start text new caller kind : List ℕ) (sites : List GraphSite) (i : ℕ) (d : GraphSite) → i < length sites → text ≡ start ++ ended_lines (map (site_line names back checkpointed) (take i sites)) → caller ≡ name_at names (get_or sites i d).caller
    → kind ≡ kind_word back checkpointed (get_or sites i d).number → new ≡ text ++ (((((codes "site " ++ canonical_decimal (get_or sites i d).number) ++ 32 ∷ caller) ++ 32 ∷ []) ++ kind) ++ 10 ∷ [])
    → new ≡ start ++ ended_lines (map (site_line names back checkpointed) (take (i + 1) sites))
sites_more names back checkpointed start text new caller kind sites i d l h e g k =
    k
    ∙ (ap (λ x. text ++ (((((codes "site " ++ canonical_decimal (get_or sites i d).number) ++ 32 ∷ x) ++ 32 ∷ []) ++ kind) ++ 10 ∷ [])) e
    ∙ (ap (λ x. text ++ (((((codes "site " ++ canonical_decimal (get_or sites i d).number) ++ 32 ∷ name_at names (get_or sites i d).caller) ++ 32 ∷ []) ++ x) ++ 10 ∷ [])) g ∙ lines_more (site_line names back checkpointed) start text sites i d l h))

-- the name of a function that stands there
pub name_there : (functions : List Function) (n : ℕ) (f d : Function) (name : List ℕ) → n < length functions → f ≡ get_or functions n d → name ≡ f.name.items → name ≡ name_at (map (λ (g : Function). g.name.items) functions) n
name_there functions n f d name l e h = h ∙ (ap (λ (g : Function). g.name.items) e ∙ sym (get_or-map (λ (g : Function). g.name.items) functions n d [] l))

-- pieces that are appended one after another
pub function_written : (t t1 t2 t3 t4 t5 t6 t7 t8 t9 name : List ℕ) (n frame bound x y : ℕ) → x ≡ frame → y ≡ bound → t1 ≡ t ++ codes "function " → t2 ≡ t1 ++ canonical_decimal n → t3 ≡ t2 ++ (32 ∷ []) → t4 ≡ t3 ++ name → t5 ≡ t4 ++ codes " frame " → t6 ≡ t5 ++ canonical_decimal x
    → t7 ≡ t6 ++ codes " bound " → t8 ≡ t7 ++ canonical_decimal y → t9 ≡ t8 ++ (10 ∷ []) → t9 ≡ t ++ (((((((codes "function " ++ canonical_decimal n) ++ 32 ∷ name) ++ codes " frame ") ++ canonical_decimal frame) ++ codes " bound ") ++ canonical_decimal bound) ++ 10 ∷ [])
function_written t t1 t2 t3 t4 t5 t6 t7 t8 t9 name n frame bound x y ex ey e1 e2 e3 e4 e5 e6 e7 e8 e9 = rw (e9, e8, e7, e6, e5, e4, e3, e2, e1, ex, ey) (simp append_assoc)

pub site_written : (t t1 t2 t3 t4 t5 t6 t7 caller kind : List ℕ) (n x : ℕ) → x ≡ n → t1 ≡ t ++ codes "site " → t2 ≡ t1 ++ canonical_decimal x → t3 ≡ t2 ++ (32 ∷ []) → t4 ≡ t3 ++ caller → t5 ≡ t4 ++ (32 ∷ []) → t6 ≡ t5 ++ kind → t7 ≡ t6 ++ (10 ∷ [])
    → t7 ≡ t ++ (((((codes "site " ++ canonical_decimal n) ++ 32 ∷ caller) ++ 32 ∷ []) ++ kind) ++ 10 ∷ [])
site_written t t1 t2 t3 t4 t5 t6 t7 caller kind n x ex e1 e2 e3 e4 e5 e6 e7 = rw (e7, e6, e5, e4, e3, e2, e1, ex) (simp append_assoc)
