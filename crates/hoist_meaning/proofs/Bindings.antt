-- The names in scope at a place of the text, and at the place of the rewritten tree that stands for it: the same, but for the new names,
-- and each variable under the number that it has there. The latest comes first.
use Rattle.hoist_meaning.proofs.Common.{ℕ, ◌≡◌, ◌≢◌, suc, ◌<◌, ◌⊎◌, inl, inr, ⊎_elim, refl, sym, ap, subst, ◌∙◌, Bool, true, false, List, [], ◌∷◌, length, Option, Some, None, set, replicate, arith, if◌then◌else◌, bytes_eq, cases_eq, get_or-set_other, bytes_eq-Decides, row, width, with_word, with_zeros, Meaning, Found, Binding, find, is_fixed, bound, is_modelled, table_in, table_of, callee_in, callee_of, new_name, BeginsWithDigit, new_begins, IsSourceName}

-- what is in scope in both: names outside functions, a variable of the text, or a new name, which only the tree has
pub data Agreement : Type 0 where
  Outside : (bs : List Binding) → Agreement
  Both : (t : List ℕ) (x y : ℕ) (array : Bool) (rest : Agreement) → Agreement
  New : (k y : ℕ) (rest : Agreement) → Agreement

abbrev pub variable : List ℕ → ℕ → Bool → Binding
variable t x array = record { text = t; meaning = Meaning.Local x array }

abbrev pub in_text : Agreement → List Binding
in_text (Outside bs) = bs
in_text (Both t x y array a) = variable t x array ∷ in_text a
in_text (New k y a) = in_text a

abbrev pub in_tree : Agreement → List Binding
in_tree (Outside bs) = bs
in_tree (Both t x y array a) = variable t y array ∷ in_tree a
in_tree (New k y a) = variable (new_name k).text y false ∷ in_tree a

-- no variable
abbrev pub IsOutside : Meaning → Type 0
IsOutside (Meaning.Local x array) = ⊥
IsOutside _ = Unit {0}

abbrev pub AreOutside : List Binding → Type 0
AreOutside [] = Unit {0}
AreOutside (b ∷ bs) = IsOutside b.meaning × IsSourceName b.text × AreOutside bs

abbrev pub IsAgreement : Agreement → Type 0
IsAgreement (Outside bs) = AreOutside bs
IsAgreement (Both t x y array a) = IsSourceName t × IsAgreement a
IsAgreement (New k y a) = IsAgreement a

-- a variable of the text has this number in the tree
abbrev pub Paired : Agreement → ℕ → ℕ → Type 0
Paired (Outside bs) x y = ⊥
Paired (Both t u v array a) x y = ((x ≡ u) × (y ≡ v)) ⊎ Paired a x y
Paired (New k v a) x y = Paired a x y

-- numbers of variables rise as they are declared; those to come are from n on in the text, and from m on in the tree
abbrev pub AreBelow : ℕ → ℕ → Agreement → Type 0
AreBelow n m (Outside bs) = Unit {0}
AreBelow n m (Both t x y array a) = (x < n) × (y < m) × AreBelow x y a
AreBelow n m (New k y a) = (y < m) × AreBelow n y a

-- each variable has the words there that it has in the text
abbrev pub NamesStand : Agreement → List (List ℕ) → List (List ℕ) → Type 0
NamesStand a text tree = (x y : ℕ) → Paired a x y → row text x ≡ row tree y

-- ---- what a name of the source is in both

abbrev pub LocalAlike : Agreement → ℕ → Bool → Meaning → Type 0
LocalAlike a x array (Meaning.Local y other) = Paired a x y × (array ≡ other)
LocalAlike a x array _ = ⊥

-- a variable has its number in each; anything else is the same
abbrev pub MeaningAlike : Agreement → Meaning → Meaning → Type 0
MeaningAlike a (Meaning.Local x array) n = LocalAlike a x array n
MeaningAlike a (Meaning.Global g array) n = n ≡ Meaning.Global g array
MeaningAlike a (Meaning.Table t) n = n ≡ Meaning.Table t
MeaningAlike a (Meaning.Function f gives params defined) n = n ≡ Meaning.Function f gives params defined
MeaningAlike a (Meaning.Modelled m) n = n ≡ Meaning.Modelled m
MeaningAlike a Meaning.Spawn n = n ≡ Meaning.Spawn

abbrev pub FoundAlike : Agreement → Option Found → Option Found → Type 0
FoundAlike a None None = Unit {0}
FoundAlike a (Some f) (Some g) = MeaningAlike a f.meaning g.meaning
FoundAlike a _ _ = ⊥

if_alike : (b : Bool) (a : Agreement) (f g : Found) (o p : Option Found) → MeaningAlike a f.meaning g.meaning → FoundAlike a o p → FoundAlike a (if b then Some f else o) (if b then Some g else p)
if_alike true a f g o p h k = h
if_alike false a f g o p h k = k

same_meaning : (a : Agreement) (m : Meaning) → IsOutside m → MeaningAlike a m m
same_meaning a (Meaning.Local x array) h = absurd h
same_meaning a _ h = refl

outside_alike : (a : Agreement) (bs : List Binding) (t : List ℕ) → AreOutside bs → FoundAlike a (find t bs) (find t bs)
outside_alike a [] t h = tt
outside_alike a (b ∷ bs) t h =
    let found : Found = record { position = length bs; meaning = b.meaning } in
    if_alike (bytes_eq b.text t) a found found (find t bs) (find t bs) (same_meaning a b.meaning h.0) (outside_alike a bs t h.2)

-- what agrees by one agreement agrees by another one that pairs as many
weaker_local : (a b : Agreement) (x : ℕ) (array : Bool) (n : Meaning) → ((u v : ℕ) → Paired a u v → Paired b u v) → LocalAlike a x array n → LocalAlike b x array n
weaker_local a b x array (Meaning.Local y other) w h = (w x y h.0, h.1)
weaker_local a b x array _ w h = h

weaker_meaning : (a b : Agreement) (m n : Meaning) → ((u v : ℕ) → Paired a u v → Paired b u v) → MeaningAlike a m n → MeaningAlike b m n
weaker_meaning a b (Meaning.Local x array) n w h = weaker_local a b x array n w h
weaker_meaning a b _ n w h = h

weaker_found : (a b : Agreement) (o p : Option Found) → ((u v : ℕ) → Paired a u v → Paired b u v) → FoundAlike a o p → FoundAlike b o p
weaker_found a b None None w h = tt
weaker_found a b (Some f) (Some g) w h = weaker_meaning a b f.meaning g.meaning w h
weaker_found a b _ _ w h = absurd h

-- a new name is none of the source's
no_source : (t : List ℕ) → BeginsWithDigit t → IsSourceName t → ⊥
no_source [] h s = h
no_source (d ∷ ds) h s = ⊎_elim (λ l. omega (arith, l, h.0)) (λ g. omega (arith, g, h.1)) s

apart_by : (b : Bool) (ds t : List ℕ) → BeginsWithDigit ds → IsSourceName t → bytes_eq ds t ≡ b → b ≡ false
apart_by true ds t h s e = absurd (no_source t (subst BeginsWithDigit ((bytes_eq-Decides ds t).0 e) h) s)
apart_by false ds t h s e = refl

pub new_apart : (k : ℕ) (t : List ℕ) → IsSourceName t → bytes_eq (new_name k).text t ≡ false
new_apart k t s = apart_by (bytes_eq (new_name k).text t) (new_name k).text t (new_begins k) s refl

pub found_alike : (a : Agreement) (t : List ℕ) → IsAgreement a → IsSourceName t → FoundAlike a (find t (in_text a)) (find t (in_tree a))
found_alike (Outside bs) t h s = outside_alike (Outside bs) bs t h
found_alike (Both u x y array a) t h s =
    if_alike (bytes_eq u t) (Both u x y array a) (record { position = length (in_text a); meaning = Meaning.Local x array }) (record { position = length (in_tree a); meaning = Meaning.Local y array }) (find t (in_text a)) (find t (in_tree a))
    (inl (refl, refl), refl) (weaker_found a (Both u x y array a) (find t (in_text a)) (find t (in_tree a)) (λ u v p. inr p) (found_alike a t h.1 s))
found_alike (New k y a) t h s = rw (new_apart k t s) (weaker_found a (New k y a) (find t (in_text a)) (find t (in_tree a)) (λ u v p. p) (found_alike a t h s))

table_local : (a : Agreement) (x : ℕ) (array : Bool) (n : Meaning) → LocalAlike a x array n → 0 ≡ table_in n
table_local a x array (Meaning.Local y other) h = refl
table_local a x array _ h = absurd h

table_meaning : (a : Agreement) (m n : Meaning) → MeaningAlike a m n → table_in m ≡ table_in n
table_meaning a (Meaning.Local x array) n h = table_local a x array n h
table_meaning a _ n h = sym (ap table_in h)

table_found : (a : Agreement) (o p : Option Found) → FoundAlike a o p → table_of o ≡ table_of p
table_found a None None h = refl
table_found a (Some f) (Some g) h = table_meaning a f.meaning g.meaning h
table_found a _ _ h = absurd h

pub table_alike : (a : Agreement) (t : List ℕ) → IsAgreement a → IsSourceName t → table_of (find t (in_text a)) ≡ table_of (find t (in_tree a))
table_alike a t h s = table_found a (find t (in_text a)) (find t (in_tree a)) (found_alike a t h s)

callee_local : (a : Agreement) (x : ℕ) (array : Bool) (n : Meaning) → LocalAlike a x array n → callee_in (Meaning.Local x array) ≡ callee_in n
callee_local a x array (Meaning.Local y other) h = refl
callee_local a x array _ h = absurd h

callee_meaning : (a : Agreement) (m n : Meaning) → MeaningAlike a m n → callee_in m ≡ callee_in n
callee_meaning a (Meaning.Local x array) n h = callee_local a x array n h
callee_meaning a _ n h = sym (ap callee_in h)

callee_found : (a : Agreement) (o p : Option Found) → FoundAlike a o p → callee_of o ≡ callee_of p
callee_found a None None h = refl
callee_found a (Some f) (Some g) h = callee_meaning a f.meaning g.meaning h
callee_found a _ _ h = absurd h

pub callee_alike : (a : Agreement) (t : List ℕ) → IsAgreement a → IsSourceName t → callee_of (find t (in_text a)) ≡ callee_of (find t (in_tree a))
callee_alike a t h s = callee_found a (find t (in_text a)) (find t (in_tree a)) (found_alike a t h s)

-- ---- a new name can be declared: none that can't be is found under it

apart_back_by : (b : Bool) (t ds : List ℕ) → BeginsWithDigit ds → IsSourceName t → bytes_eq t ds ≡ b → b ≡ false
apart_back_by true t ds h s e = absurd (no_source t (subst BeginsWithDigit (sym ((bytes_eq-Decides t ds).0 e)) h) s)
apart_back_by false t ds h s e = refl

apart_back : (k : ℕ) (t : List ℕ) → IsSourceName t → bytes_eq t (new_name k).text ≡ false
apart_back k t s = apart_back_by (bytes_eq t (new_name k).text) t (new_name k).text (new_begins k) s refl

none_outside : (k : ℕ) (bs : List Binding) → AreOutside bs → find (new_name k).text bs ≡ None
none_outside k [] h = refl
none_outside k (b ∷ bs) h = rw (apart_back k b.text h.1) (none_outside k bs h.2)

if_free : (b : Bool) (f : Found) (o : Option Found) → is_modelled f.meaning ≡ false → is_fixed o ≡ false → is_fixed (if b then Some f else o) ≡ false
if_free true f o h k = h
if_free false f o h k = k

pub new_free : (k : ℕ) (a : Agreement) → IsAgreement a → is_fixed (find (new_name k).text (in_tree a)) ≡ false
new_free k (Outside bs) h = rw (none_outside k bs h) refl
new_free k (Both t x y array a) h = rw (apart_back k t h.0) (new_free k a h.1)
new_free k (New j y a) h =
    if_free (bytes_eq (new_name j).text (new_name k).text) (record { position = length (in_tree a); meaning = Meaning.Local y false }) (find (new_name k).text (in_tree a)) refl (new_free k a h)

-- its declaration puts it first
pub new_bound : (k y : ℕ) (a : Agreement) → IsAgreement a → bound (in_tree a) (new_name k).text (Meaning.Local y false) ≡ in_tree (New k y a)
new_bound k y a h = rw (new_free k a h) refl

-- the name that was declared last is found at once
pub last_found : (t : List ℕ) (m : Meaning) (bs : List Binding) → find t (record { text = t; meaning = m } ∷ bs) ≡ Some (record { position = length bs; meaning = m })
last_found t m bs = rw ((bytes_eq-Decides t t).1 refl) refl

-- ---- variables are apart

pub paired_below : (a : Agreement) (n m x y : ℕ) → AreBelow n m a → Paired a x y → (x < n) × (y < m)
paired_below (Outside bs) n m x y b p = absurd p
paired_below (Both t u v array a) n m x y b p =
    ⊎_elim (λ q. (omega (arith, b.0, q.0), omega (arith, b.1, q.1))) (λ q. let r = paired_below a u v x y b.2 q in (omega (arith, b.0, r.0), omega (arith, b.1, r.1))) p
paired_below (New k v a) n m x y b p = let r = paired_below a n v x y b.1 p in (r.0, omega (arith, b.0, r.1))

one_there_of : (a : Agreement) (s r x y u v : ℕ) → AreBelow s r a → (Paired a x y → Paired a u v → u ≡ x → v ≡ y) → ((x ≡ s) × (y ≡ r)) ⊎ Paired a x y → ((u ≡ s) × (v ≡ r)) ⊎ Paired a u v → u ≡ x → v ≡ y
one_there_of a s r x y u v b rest (inl p) (inl q) e = q.1 ∙ sym p.1
one_there_of a s r x y u v b rest (inl p) (inr q) e = let w = paired_below a s r u v b q in absurd (omega (arith, w.0, p.0, e))
one_there_of a s r x y u v b rest (inr p) (inl q) e = let w = paired_below a s r x y b p in absurd (omega (arith, w.0, q.0, e))
one_there_of a s r x y u v b rest (inr p) (inr q) e = rest p q e

-- a variable of the text has one number in the tree, and the other way round
pub one_there : (a : Agreement) (n m x y u v : ℕ) → AreBelow n m a → Paired a x y → Paired a u v → u ≡ x → v ≡ y
one_there (Outside bs) n m x y u v b p q e = absurd p
one_there (Both t s r array a) n m x y u v b p q e = one_there_of a s r x y u v b.2 (λ i j f. one_there a s r x y u v b.2 i j f) p q e
one_there (New k r a) n m x y u v b p q e = one_there a n r x y u v b.1 p q e

one_back_of : (a : Agreement) (s r x y u v : ℕ) → AreBelow s r a → (Paired a x y → Paired a u v → v ≡ y → u ≡ x) → ((x ≡ s) × (y ≡ r)) ⊎ Paired a x y → ((u ≡ s) × (v ≡ r)) ⊎ Paired a u v → v ≡ y → u ≡ x
one_back_of a s r x y u v b rest (inl p) (inl q) e = q.0 ∙ sym p.0
one_back_of a s r x y u v b rest (inl p) (inr q) e = let w = paired_below a s r u v b q in absurd (omega (arith, w.1, p.1, e))
one_back_of a s r x y u v b rest (inr p) (inl q) e = let w = paired_below a s r x y b p in absurd (omega (arith, w.1, q.1, e))
one_back_of a s r x y u v b rest (inr p) (inr q) e = rest p q e

pub one_back : (a : Agreement) (n m x y u v : ℕ) → AreBelow n m a → Paired a x y → Paired a u v → v ≡ y → u ≡ x
one_back (Outside bs) n m x y u v b p q e = absurd p
one_back (Both t s r array a) n m x y u v b p q e = one_back_of a s r x y u v b.2 (λ i j f. one_back a s r x y u v b.2 i j f) p q e
one_back (New k r a) n m x y u v b p q e = one_back a n r x y u v b.1 p q e

-- ---- what a write keeps

pub row_written : (rows : List (List ℕ)) (x i word : ℕ) → row (with_word rows x i word) x ≡ set (row rows x) i word
row_written (r ∷ rows) (suc x) i word = row_written rows x i word
row_written _ _ i word = refl

pub row_zeroed : (rows : List (List ℕ)) (x : ℕ) → row (with_zeros rows x) x ≡ replicate (width rows x) 0
row_zeroed (r ∷ rows) (suc x) = row_zeroed rows x
row_zeroed _ _ = refl

-- rows that differ at most at a pair, where they are alike, stand as those before
rows_stand : (a : Agreement) (n m x y : ℕ) (text tree text' tree' : List (List ℕ)) → AreBelow n m a → Paired a x y → NamesStand a text tree →
    row text' x ≡ row tree' y → ((u : ℕ) → u ≢ x → row text' u ≡ row text u) → ((v : ℕ) → v ≢ y → row tree' v ≡ row tree v) → NamesStand a text' tree'
rows_stand a n m x y text tree text' tree' b p stand here text_kept tree_kept = λ u v q.
    ⊎_elim (λ (e : u ≡ x). ap (row text') e ∙ here ∙ sym (ap (row tree') (one_there a n m x y u v b p q e)))
    (λ (ne : u ≢ x). text_kept u ne ∙ stand u v q ∙ sym (tree_kept v (λ e. ne (one_back a n m x y u v b p q e))))
    (cases_eq u x)

pub write_stands : (a : Agreement) (n m x y i word : ℕ) (text tree : List (List ℕ)) → AreBelow n m a → Paired a x y → NamesStand a text tree → NamesStand a (with_word text x i word) (with_word tree y i word)
write_stands a n m x y i word text tree b p stand =
    rows_stand a n m x y text tree (with_word text x i word) (with_word tree y i word) b p stand
    (row_written text x i word ∙ ap (λ r. set r i word) (stand x y p) ∙ sym (row_written tree y i word))
    (λ u ne. get_or-set_other text x u (set (row text x) i word) [] ne) (λ v ne. get_or-set_other tree y v (set (row tree y) i word) [] ne)
