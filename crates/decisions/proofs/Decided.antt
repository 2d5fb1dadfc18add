-- Each rule is decided at each function and index, and has bounds.
use Rattle.decisions.proofs.Common.{ℕ, zero, suc, ◌≡◌, ◌∙◌, ◌+◌, ◌*◌, ◌%◌, ◌<◌, ◌≤◌, inl, inr, refl, sym, ap, arith, List, [], ◌∷◌, length, Option, Some, None, decided_by, both_decided, denied, number_same, option_same, le_decided, all_below, slice_get, slice_index, slice_get_past, Instr, Op, FlatCode, function_at, operation_at, Image, Certificate, FunctionFact, LinkKind, fact_at, end_stub, prologue, row_at, setting_at, template, words_before, begin, kind_of, IsIn, AreApart, Stands, certified_site, callee_bound, NamesSites, Decided, everywhere}
use Rattle.certificate_rules.specs.Rules.{V1, V2, V3, V4, V5, V6, V7, V8, V9, V10, V11, V12, frame_places, frame_words, IsPlaced, member_entries, starting_words, IsNeed}
use Rattle.decisions.proofs.Decisions.{implied_decided, lt_decided}
use Rattle.decisions.proofs.Search.{held_decided, IsSearched}
use Rattle.decisions.proofs.Instructions.{three_decided, stands_decided}
use Rattle.decisions.proofs.Named.{no_operation, no_operations, names_decided}

-- ---- small parts

at_index : (i c : ℕ) {X : Type 0} → Decided X → Decided (i ≡ c → X)
at_index i c x = implied_decided (number_same i c) (λ e. x)

at_function : (f n : ℕ) {X : Type 0} → Decided X → Decided (f < n → X)
at_function f n x = implied_decided (lt_decided f n) (λ h. x)

in_decided : (start words byte : ℕ) → Decided (IsIn start words byte)
in_decided start words byte = both_decided (le_decided start byte) (lt_decided byte (start + 4 * words))

apart_decided : (start words other others : ℕ) → Decided (AreApart start words other others)
apart_decided start words other others =
    decided_by (λ (all : (byte : ℕ) → IsIn start words byte → IsIn other others byte → ⊥). record { no_byte = all }) (λ a. a.no_byte)
    (everywhere (λ byte. IsIn start words byte → IsIn other others byte → ⊥) (λ byte. implied_decided (in_decided start words byte) (λ h. denied (in_decided other others byte))) (start + 4 * words)
    (λ byte past h. let inside = h.1 in absurd (omega (arith, past, inside))))

placed_decided : (fact : FunctionFact) (sizes : List ℕ) (x : ℕ) → Decided (IsPlaced fact sizes x)
placed_decided fact sizes x =
    decided_by (λ (h : (slice_index (frame_places fact) x % 4 ≡ 0) × (slice_index (frame_places fact) x + 4 * slice_index (frame_words sizes) x ≤ fact.frame) × ((y : ℕ) → y < x →
    AreApart (slice_index (frame_places fact) x) (slice_index (frame_words sizes) x) (slice_index (frame_places fact) y) (slice_index (frame_words sizes) y))).
    record { aligned = h.0; inside = h.1; apart = h.2 })
    (λ p. (p.aligned, p.inside, p.apart))
    (three_decided (number_same (slice_index (frame_places fact) x % 4) 0) (le_decided (slice_index (frame_places fact) x + 4 * slice_index (frame_words sizes) x) fact.frame)
    (all_below (λ y. AreApart (slice_index (frame_places fact) x) (slice_index (frame_words sizes) x) (slice_index (frame_places fact) y) (slice_index (frame_words sizes) y))
    (λ y. apart_decided (slice_index (frame_places fact) x) (slice_index (frame_words sizes) x) (slice_index (frame_places fact) y) (slice_index (frame_words sizes) y)) x))

need_decided : (kind : LinkKind) (bytes : ℕ) → Decided (IsNeed kind bytes)
need_decided LinkKind.Plain bytes = inl tt
need_decided (LinkKind.Linked need) bytes = number_same need bytes
need_decided (LinkKind.Spawned need) bytes = number_same need bytes

plain_decided : (kind : LinkKind) → Decided (kind ≡ LinkKind.Plain)
plain_decided LinkKind.Plain = inl refl
plain_decided _ = inr (λ e. cc)

-- a number above each certified site of some operations
abbrev site_above : Option ℕ → ℕ
site_above None = 0
site_above (Some site) = suc site

abbrev sites_above : List Op → ℕ
sites_above [] = 0
sites_above (op ∷ ops) = site_above (certified_site op) + sites_above ops

first_below : (found : Option ℕ) (site rest : ℕ) → found ≡ Some site → site < site_above found + rest
first_below None site rest e = absurd cc
first_below (Some other) site rest e = let same : other ≡ site = cc in omega arith

sites_below : (ops : List Op) (k site : ℕ) (op : Op) → slice_get ops k ≡ Some op → certified_site op ≡ Some site → site < sites_above ops
sites_below [] k site op e c = absurd cc
sites_below (first ∷ ops) zero site op e c =
    let same : first ≡ op = cc in
    first_below (certified_site first) site (sites_above ops) (ap certified_site same ∙ c)
sites_below (first ∷ ops) (suc k) site op e c = let h = sites_below ops k site op e c in omega arith

both_past : (xs ys : List ℕ) (i : ℕ) → length xs + length ys ≤ i → slice_get xs i ≡ slice_get ys i
both_past xs ys i past = slice_get_past xs i (omega (arith, past)) ∙ sym (slice_get_past ys i (omega (arith, past)))

module _ (code : FlatCode) (image : Image) (certificate : Certificate) where
  abbrev count : ℕ
  count = length code.functions

  -- ---- V1

  abbrev Parts1 : ℕ → ℕ → Type 0
  Parts1 f i = (i ≡ 1 → (certificate.chunk % 16 ≡ 0) × (64 ≤ certificate.chunk) × (certificate.chunk ≤ 65536))
      × ((i ≡ 2 → (2 ≤ length image.code) × (length image.code ≤ 200000))
      × ((i ≡ 3 → (length certificate.functions ≡ count) × (length image.entries ≡ count))
      × ((i ≡ 4 → f < count → length (fact_at certificate f).places ≡ length (function_at code f).sizes)
      × (i ≡ 5 → NamesSites code certificate))))

  decided1 : (f i : ℕ) → Decided (V1 code image certificate f i)
  decided1 f i =
      decided_by (λ (p : Parts1 f i). record { chunk = p.0; words = p.1.0; functions = p.1.1.0; places = p.1.1.1.0; sites = p.1.1.1.1 })
      (λ v. (v.chunk, (v.words, (v.functions, (v.places, v.sites)))))
      (both_decided (at_index i 1 (three_decided (number_same (certificate.chunk % 16) 0) (le_decided 64 certificate.chunk) (le_decided certificate.chunk 65536)))
      (both_decided (at_index i 2 (both_decided (le_decided 2 (length image.code)) (le_decided (length image.code) 200000)))
      (both_decided (at_index i 3 (both_decided (number_same (length certificate.functions) count) (number_same (length image.entries) count)))
      (both_decided (at_index i 4 (at_function f count (number_same (length (fact_at certificate f).places) (length (function_at code f).sizes))))
      (at_index i 5 (names_decided code certificate))))))

  pub searched1 : IsSearched (V1 code image certificate)
  searched1 = record {
    each = decided1;
    ends = λ f. 6;
    past_index = λ f i past. record {
      chunk = λ e. absurd (omega (arith, past, e));
      words = λ e. absurd (omega (arith, past, e));
      functions = λ e. absurd (omega (arith, past, e));
      places = λ e. absurd (omega (arith, past, e));
      sites = λ e. absurd (omega (arith, past, e));
    };
    last = count;
    past_function = λ f i past v. record { chunk = v.chunk; words = v.words; functions = v.functions; places = λ e h. absurd (omega (arith, past, h)); sites = v.sites };
  }

  -- ---- V2

  abbrev Parts2 : ℕ → ℕ → Type 0
  Parts2 f i = (i ≡ 1 → f < count → ((fact_at certificate f).entry % 4 ≡ 0) × (0x1008 ≤ (fact_at certificate f).entry) ×
      ((fact_at certificate f).entry + 4 * (fact_at certificate f).words ≤ 0x1000 + 4 * length image.code))
      × ((i ≡ 2 → f < count → slice_get image.entries f ≡ Some (fact_at certificate f).entry)
      × (i ≡ 3 → f < count → (g : ℕ) → g < f → AreApart (fact_at certificate f).entry (fact_at certificate f).words (fact_at certificate g).entry (fact_at certificate g).words))

  decided2 : (f i : ℕ) → Decided (V2 code image certificate f i)
  decided2 f i =
      decided_by (λ (p : Parts2 f i). record { inside = p.0; entry = p.1.0; apart = p.1.1 }) (λ v. (v.inside, (v.entry, v.apart)))
      (both_decided (at_index i 1 (at_function f count (three_decided (number_same ((fact_at certificate f).entry % 4) 0) (le_decided 0x1008 (fact_at certificate f).entry)
      (le_decided ((fact_at certificate f).entry + 4 * (fact_at certificate f).words) (0x1000 + 4 * length image.code)))))
      (both_decided (at_index i 2 (at_function f count (option_same number_same (slice_get image.entries f) (Some (fact_at certificate f).entry))))
      (at_index i 3 (at_function f count (all_below (λ g. AreApart (fact_at certificate f).entry (fact_at certificate f).words (fact_at certificate g).entry (fact_at certificate g).words)
      (λ g. apart_decided (fact_at certificate f).entry (fact_at certificate f).words (fact_at certificate g).entry (fact_at certificate g).words) f)))))

  pub searched2 : IsSearched (V2 code image certificate)
  searched2 = record {
    each = decided2;
    ends = λ f. 4;
    past_index = λ f i past. record { inside = λ e. absurd (omega (arith, past, e)); entry = λ e. absurd (omega (arith, past, e)); apart = λ e. absurd (omega (arith, past, e)) };
    last = count;
    past_function = λ f i past v. record { inside = λ e h. absurd (omega (arith, past, h)); entry = λ e h. absurd (omega (arith, past, h)); apart = λ e h. absurd (omega (arith, past, h)) };
  }

  -- ---- V3

  pub searched3 : IsSearched (V3 code certificate)
  searched3 = record {
    each = λ f i. decided_by (λ (p : i ≡ 0 → f < count → ((fact_at certificate f).frame % 16 ≡ 0) × (16 ≤ (fact_at certificate f).frame) × ((fact_at certificate f).frame ≤ 2032)). record { frame = p }) (λ v. v.frame)
        (at_index i 0 (at_function f count (three_decided (number_same ((fact_at certificate f).frame % 16) 0) (le_decided 16 (fact_at certificate f).frame) (le_decided (fact_at certificate f).frame 2032))));
    ends = λ f. 1;
    past_index = λ f i past. record { frame = λ e. absurd (omega (arith, past, e)) };
    last = count;
    past_function = λ f i past v. record { frame = λ e h. absurd (omega (arith, past, h)) };
  }

  -- ---- V4

  pub searched4 : IsSearched (V4 code certificate)
  searched4 = record {
    each = λ f i. decided_by (λ (p : f < count → i ≤ length (function_at code f).sizes → IsPlaced (fact_at certificate f) (function_at code f).sizes i). record { placed = p }) (λ v. v.placed)
        (at_function f count (implied_decided (le_decided i (length (function_at code f).sizes)) (λ h. placed_decided (fact_at certificate f) (function_at code f).sizes i)));
    ends = λ f. suc (length (function_at code f).sizes);
    past_index = λ f i past. record { placed = λ h inside. absurd (omega (arith, past, inside)) };
    last = count;
    past_function = λ f i past v. record { placed = λ h. absurd (omega (arith, past, h)) };
  }

  -- ---- V5

  abbrev Word5 : ℕ → ℕ → Instr → Type 0
  Word5 f i instr = (i < (fact_at certificate f).words) × Stands image ((fact_at certificate f).entry + 4 * i) instr

  pub searched5 : IsSearched (V5 code image certificate)
  searched5 = record {
    each = λ f i. decided_by (λ (p : f < count → (instr : Instr) → slice_get (prologue (fact_at certificate f) (function_at code f).params) i ≡ Some instr → Word5 f i instr). record { word = p }) (λ v. v.word)
        (at_function f count (held_decided (Word5 f i) (λ instr. both_decided (lt_decided i (fact_at certificate f).words) (stands_decided image ((fact_at certificate f).entry + 4 * i) instr))
        (slice_get (prologue (fact_at certificate f) (function_at code f).params) i)));
    ends = λ f. length (prologue (fact_at certificate f) (function_at code f).params);
    past_index = λ f i past. record { word = λ h instr e. let none = slice_get_past (prologue (fact_at certificate f) (function_at code f).params) i past in absurd cc };
    last = count;
    past_function = λ f i past v. record { word = λ h. absurd (omega (arith, past, h)) };
  }

  -- ---- V6

  abbrev Words6 : ℕ → ℕ → ℕ → Type 0
  Words6 f i w = (instr : Instr) → slice_get (template code certificate f i) w ≡ Some instr → Stands image (begin code certificate f i + 4 * w) instr

  abbrev Parts6 : ℕ → ℕ → Type 0
  Parts6 f i = (f < count → i < length (function_at code f).ops → words_before code certificate f (i + 1) ≤ (fact_at certificate f).words)
      × ((f < count → (w : ℕ) → Words6 f i w)
      × (f < count → i ≡ length (function_at code f).ops → words_before code certificate f i ≡ (fact_at certificate f).words))

  words6_decided : (f i : ℕ) → Decided ((w : ℕ) → Words6 f i w)
  words6_decided f i = everywhere (Words6 f i)
      (λ w. held_decided (λ instr. Stands image (begin code certificate f i + 4 * w) instr) (λ instr. stands_decided image (begin code certificate f i + 4 * w) instr) (slice_get (template code certificate f i) w))
      (length (template code certificate f i)) (λ w past instr e. let none = slice_get_past (template code certificate f i) w past in absurd cc)

  decided6 : (f i : ℕ) → Decided (V6 code image certificate f i)
  decided6 f i =
      decided_by (λ (p : Parts6 f i). record { inside = p.0; words = p.1.0; over = p.1.1 }) (λ v. (v.inside, (v.words, v.over)))
      (both_decided (at_function f count (implied_decided (lt_decided i (length (function_at code f).ops)) (λ h. le_decided (words_before code certificate f (i + 1)) (fact_at certificate f).words)))
      (both_decided (at_function f count (words6_decided f i))
      (at_function f count (implied_decided (number_same i (length (function_at code f).ops)) (λ h. number_same (words_before code certificate f i) (fact_at certificate f).words)))))

  pub no_template : (f i : ℕ) → length (function_at code f).ops ≤ i → template code certificate f i ≡ []
  no_template f i past =
      ap (λ (o : Option Op). row_at (fact_at certificate f) (function_at code f).sizes (setting_at code certificate f (begin code certificate f i) o) o) (slice_get_past (function_at code f).ops i past)

  pub searched6 : IsSearched (V6 code image certificate)
  searched6 = record {
    each = decided6;
    ends = λ f. suc (length (function_at code f).ops);
    past_index = λ f i past. record {
      inside = λ h inside. absurd (omega (arith, past, inside));
      words = λ h w instr e. let none : template code certificate f i ≡ [] = no_template f i (omega (arith, past)) in let some : slice_get [] w ≡ Some instr = sym (ap (λ (l : List Instr). slice_get l w) none) ∙ e in absurd cc;
      over = λ h e. absurd (omega (arith, past, e));
    };
    last = count;
    past_function = λ f i past v. record { inside = λ h. absurd (omega (arith, past, h)); words = λ h. absurd (omega (arith, past, h)); over = λ h. absurd (omega (arith, past, h)) };
  }

  -- ---- V7

  pub searched7 : IsSearched (V7 image)
  searched7 = record {
    each = λ f i. decided_by (λ (p : (instr : Instr) → slice_get end_stub i ≡ Some instr → Stands image (0x1000 + 4 * i) instr). record { word = p }) (λ v. v.word)
        (held_decided (λ instr. Stands image (0x1000 + 4 * i) instr) (λ instr. stands_decided image (0x1000 + 4 * i) instr) (slice_get end_stub i));
    ends = λ f. length end_stub;
    past_index = λ f i past. record { word = λ instr e. let none = slice_get_past end_stub i past in absurd cc };
    last = 0;
    past_function = λ f i past v. record { word = v.word };
  }

  -- ---- V8 and V12

  pub searched8 : IsSearched (V8 code image certificate)
  searched8 = record {
    each = λ f i. decided_by (λ (p : slice_get image.tables i ≡ slice_get (member_entries code certificate) i). record { word = p }) (λ v. v.word)
        (option_same number_same (slice_get image.tables i) (slice_get (member_entries code certificate) i));
    ends = λ f. length image.tables + length (member_entries code certificate);
    past_index = λ f i past. record { word = both_past image.tables (member_entries code certificate) i past };
    last = 0;
    past_function = λ f i past v. record { word = v.word };
  }

  pub searched12 : IsSearched (V12 code image)
  searched12 = record {
    each = λ f i. decided_by (λ (p : slice_get image.globals i ≡ slice_get (starting_words code) i). record { word = p }) (λ v. v.word)
        (option_same number_same (slice_get image.globals i) (slice_get (starting_words code) i));
    ends = λ f. length image.globals + length (starting_words code);
    past_index = λ f i past. record { word = both_past image.globals (starting_words code) i past };
    last = 0;
    past_function = λ f i past v. record { word = v.word };
  }

  -- ---- V9 and V10

  abbrev AtSite : (Op → Type 0) → ℕ → ℕ → Type 0
  AtSite P f i = (k : ℕ) (op : Op) → operation_at code f k ≡ Some op → certified_site op ≡ Some i → P op

  at_site_decided : (P : Op → Type 0) → ((op : Op) → Decided (P op)) → (f i : ℕ) → Decided (AtSite P f i)
  at_site_decided P each f i = everywhere (λ k. (op : Op) → operation_at code f k ≡ Some op → certified_site op ≡ Some i → P op)
      (λ k. held_decided (λ op. certified_site op ≡ Some i → P op) (λ op. implied_decided (option_same number_same (certified_site op) (Some i)) (λ e. each op)) (operation_at code f k))
      (length (function_at code f).ops) (λ k past op e. absurd (no_operation code f k op past e))

  no_site : (f i k : ℕ) (op : Op) → sites_above (function_at code f).ops ≤ i → operation_at code f k ≡ Some op → certified_site op ≡ Some i → ⊥
  no_site f i k op past e c = let h = sites_below (function_at code f).ops k i op e c in omega (arith, past, h)

  no_function : (f k : ℕ) (op : Op) → count ≤ f → operation_at code f k ≡ Some op → ⊥
  no_function f k op past e = no_operation code f k op (let none = no_operations code f past in omega arith) e

  abbrev Need9 : Op → Type 0
  Need9 op = IsNeed (kind_of certificate op) (callee_bound code certificate op)

  pub searched9 : IsSearched (V9 code certificate)
  searched9 = record {
    each = λ f i. decided_by (λ (p : AtSite Need9 f i). record { need = p }) (λ v. v.need) (at_site_decided Need9 (λ op. need_decided (kind_of certificate op) (callee_bound code certificate op)) f i);
    ends = λ f. sites_above (function_at code f).ops;
    past_index = λ f i past. record { need = λ k op e c. absurd (no_site f i k op past e c) };
    last = count;
    past_function = λ f i past v. record { need = λ k op e c. absurd (no_function f k op past e) };
  }

  abbrev Bound10 : ℕ → Op → Type 0
  Bound10 f op = kind_of certificate op ≡ LinkKind.Plain → (fact_at certificate f).frame + callee_bound code certificate op ≤ (fact_at certificate f).bound

  pub searched10 : IsSearched (V10 code certificate)
  searched10 = record {
    each = λ f i. decided_by (λ (p : AtSite (Bound10 f) f i). record { bound = p }) (λ v. v.bound)
        (at_site_decided (Bound10 f) (λ op. implied_decided (plain_decided (kind_of certificate op)) (λ e. le_decided ((fact_at certificate f).frame + callee_bound code certificate op) (fact_at certificate f).bound)) f i);
    ends = λ f. sites_above (function_at code f).ops;
    past_index = λ f i past. record { bound = λ k op e c. absurd (no_site f i k op past e c) };
    last = count;
    past_function = λ f i past v. record { bound = λ k op e c. absurd (no_function f k op past e) };
  }

  -- ---- V11

  abbrev Parts11 : ℕ → ℕ → Type 0
  Parts11 f i = (i ≡ 1 → f < count → (fact_at certificate f).frame ≤ (fact_at certificate f).bound)
      × ((i ≡ 2 → f < count → (fact_at certificate f).bound ≤ certificate.max_path) × (i ≡ 3 → certificate.max_path + 16 ≤ certificate.chunk))

  pub searched11 : IsSearched (V11 code certificate)
  searched11 = record {
    each = λ f i. decided_by (λ (p : Parts11 f i). record { frame = p.0; bound = p.1.0; path = p.1.1 }) (λ v. (v.frame, (v.bound, v.path)))
        (both_decided (at_index i 1 (at_function f count (le_decided (fact_at certificate f).frame (fact_at certificate f).bound)))
        (both_decided (at_index i 2 (at_function f count (le_decided (fact_at certificate f).bound certificate.max_path))) (at_index i 3 (le_decided (certificate.max_path + 16) certificate.chunk))));
    ends = λ f. 4;
    past_index = λ f i past. record { frame = λ e. absurd (omega (arith, past, e)); bound = λ e. absurd (omega (arith, past, e)); path = λ e. absurd (omega (arith, past, e)) };
    last = count;
    past_function = λ f i past v. record { frame = λ e h. absurd (omega (arith, past, h)); bound = λ e h. absurd (omega (arith, past, h)); path = v.path };
  }
