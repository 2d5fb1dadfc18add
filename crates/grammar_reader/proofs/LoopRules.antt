-- What the functions of the parts of a `for` come to, exit by exit.
use Rattle.grammar_reader.proofs.Common.{ℕ, ◌≡◌, ◌≢◌, ◌+◌, ◌≤◌, ◌⊎◌, inl, inr, refl, List, [], ◌∷◌, Option, Some, None, arith, Token, RawExprTree, RawSimpleTree, ParseError, Unexpected, Sign, step, next_sign, next_place, rest_of, Passes, IsNotOpened, IsForInit, IsForStep, Refused, ReadsSimple, RefusedSimple, ReadsLocals, RefusedInside, ReadsUpToSemicolon, ReadsForInit, ReadsForStep, ReadsForParts}
use Rattle.c_grammar.specs.declared.signs.Sign.TheVariants as signs
use Rattle.c_grammar.specs.Machine as tasks
use Rattle.grammar_reader.proofs.Runs.{passes_shorter, semicolon_only, right_parenthesis_only}
use Rattle.grammar_reader.proofs.Paths.{Path, here, path_leads, path_refused, path_stuck, path_path, path_inside, path_refused_inside, takes, takes_alone, too_deep, refuses, leads_inside, refused_inside}

-- the first part
pub init_none : (source : List ℕ) (end depth : ℕ) (a b : List Token) → depth ≤ 64 → next_sign a ≡ signs.Semicolon → b ≡ rest_of a → ReadsForInit source end depth a [] b
init_none source end depth a b low e behind =
    let p : Passes signs.Semicolon a b = record { is_next = e; behind = behind } in
    record {
      tree = IsForInit.no_init p;
      shorter = passes_shorter p (λ e. cc);
      leads = leads_inside end depth tasks.ForInit a (tasks.UpToSemicolon ∷ tasks.ForStep ∷ []) b (λ outer i. takes_alone (tasks.UpToSemicolon ∷ tasks.ForStep ∷ []) p (λ e. cc) refl (omega arith));
      small = omega arith;
    }

init_int : (end outer : ℕ) (a : List Token) → 1 + outer ≤ 64 → next_sign a ≡ signs.Int → Path end outer (tasks.ForInit ∷ []) a (tasks.LocalName ∷ tasks.UpToSemicolon ∷ tasks.ForStep ∷ []) (rest_of a)
init_int end outer a low e = let p : Passes signs.Int a (rest_of a) = record { is_next = e; behind = refl } in takes_alone (tasks.LocalName ∷ tasks.UpToSemicolon ∷ tasks.ForStep ∷ []) p (λ e. cc) refl (omega arith)

pub init_locals : (source : List ℕ) (end depth : ℕ) (a b : List Token) (ss : List RawSimpleTree) → depth ≤ 64 → next_sign a ≡ signs.Int → ReadsLocals source end depth a ss b → ReadsForInit source end depth a ss b
init_locals source end depth a b ss low e h =
    record {
      tree = IsForInit.locals_init h.tree;
      shorter = h.shorter;
      leads = leads_inside end depth tasks.ForInit a (tasks.UpToSemicolon ∷ tasks.ForStep ∷ []) b (λ outer i. path_leads (init_int end outer a (omega arith) e) (omega arith) h.leads);
      small = (let m = h.small in omega arith);
    }

pub init_locals_refused : (end depth : ℕ) (a : List Token) (error : ParseError) → depth ≤ 64 → next_sign a ≡ signs.Int → Refused end depth (tasks.LocalName ∷ []) (rest_of a) error → RefusedInside end depth tasks.ForInit a error
init_locals_refused end depth a error low e r = refused_inside end depth tasks.ForInit a error (λ outer i. path_refused (init_int end outer a (omega arith) e) (omega arith) r)

init_move : (s : Sign) → s ≢ signs.Semicolon → s ≢ signs.Int → s ≢ signs.Name → tasks.for_init_move s ≡ tasks.Refuse
init_move signs.Semicolon n1 n2 n3 = absurd (n1 refl)
init_move signs.Int n1 n2 n3 = absurd (n2 refl)
init_move signs.Name n1 n2 n3 = absurd (n3 refl)
init_move _ n1 n2 n3 = refl

init_name : (end outer : ℕ) (a : List Token) → 1 + outer ≤ 64 → next_sign a ≡ signs.Name → Path end outer (tasks.ForInit ∷ []) a (tasks.AfterSimpleName ∷ tasks.Token signs.Semicolon ∷ tasks.UpToSemicolon ∷ tasks.ForStep ∷ []) (rest_of a)
init_name end outer a low e =
    let p : Passes signs.Name a (rest_of a) = record { is_next = e; behind = refl } in
    takes_alone (tasks.AfterSimpleName ∷ tasks.Token signs.Semicolon ∷ tasks.UpToSemicolon ∷ tasks.ForStep ∷ []) p (λ e. cc) refl (omega arith)

init_either : (end depth outer : ℕ) (a : List Token) (error : ParseError) → depth ≤ 64 → 1 + outer ≡ depth → next_sign a ≢ signs.Semicolon → next_sign a ≢ signs.Int
    → ((next_sign a ≢ signs.Name) × (error ≡ Unexpected (next_place end a))) ⊎ ((next_sign a ≡ signs.Name) × Refused end depth (tasks.AfterSimpleName ∷ []) (rest_of a) error) → Refused end outer (tasks.ForInit ∷ []) a error
init_either end depth outer a error low i n1 n2 (inl h) = path_stuck (here end outer (tasks.ForInit ∷ []) a) (refuses [] (init_move (next_sign a) n1 n2 h.0) (λ rest. refl) h.1)
init_either end depth outer a error low i n1 n2 (inr h) = path_refused (init_name end outer a (omega arith) h.0) (omega arith) h.1

pub init_refused : (end depth : ℕ) (a : List Token) (error : ParseError) → depth ≤ 64 → next_sign a ≢ signs.Semicolon → next_sign a ≢ signs.Int → RefusedSimple end depth a error → RefusedInside end depth tasks.ForInit a error
init_refused end depth a error low n1 n2 r other = refused_inside end depth tasks.ForInit a error (λ outer i. init_either end depth outer a error low i n1 n2 (r other)) other

init_simple : (source : List ℕ) (end depth outer : ℕ) (a b : List Token) (s : RawSimpleTree) → depth ≤ 64 → 1 + outer ≡ depth → ReadsSimple source end depth a s b → Path end outer (tasks.ForInit ∷ []) a (tasks.Token signs.Semicolon ∷ tasks.UpToSemicolon ∷ tasks.ForStep ∷ []) b
init_simple source end depth outer a b s low i h = path_leads (init_name end outer a (omega arith) h.named) (omega arith) h.leads

pub init_open_end : (source : List ℕ) (end depth : ℕ) (a b : List Token) (s : RawSimpleTree) (error : ParseError) → depth ≤ 64 → ReadsSimple source end depth a s b → error ≡ Unexpected (next_place end b) → next_sign b ≢ signs.Semicolon → RefusedInside end depth tasks.ForInit a error
init_open_end source end depth a b s error low h place wrong =
    refused_inside end depth tasks.ForInit a error (λ outer i. path_stuck (init_simple source end depth outer a b s low i h) (refuses (tasks.UpToSemicolon ∷ tasks.ForStep ∷ []) (semicolon_only (next_sign b) wrong) (λ rest. refl) place))

pub init_read : (source : List ℕ) (end depth : ℕ) (a b c : List Token) (s : RawSimpleTree) → depth ≤ 64 → ReadsSimple source end depth a s b → Passes signs.Semicolon b c → ReadsForInit source end depth a (s ∷ []) c
init_read source end depth a b c s low h close =
    record {
      tree = IsForInit.simple_init h.tree close;
      shorter = (let l1 = h.shorter in let l2 = passes_shorter close (λ e. cc) in omega arith);
      leads = leads_inside end depth tasks.ForInit a (tasks.UpToSemicolon ∷ tasks.ForStep ∷ []) c (λ outer i.
          let q : Path end outer (tasks.Token signs.Semicolon ∷ tasks.UpToSemicolon ∷ tasks.ForStep ∷ []) b (tasks.UpToSemicolon ∷ tasks.ForStep ∷ []) c = takes (tasks.UpToSemicolon ∷ tasks.ForStep ∷ []) [] close (λ e. cc) refl (omega arith) in
          path_path (init_simple source end depth outer a b s low i h) q);
      small = (let m = h.small in omega arith);
    }

-- the last part
pub step_none : (source : List ℕ) (end depth : ℕ) (a b : List Token) → depth ≤ 64 → next_sign a ≡ signs.RightParenthesis → b ≡ rest_of a → ReadsForStep source end depth a None b
step_none source end depth a b low e behind =
    let p : Passes signs.RightParenthesis a b = record { is_next = e; behind = behind } in
    record {
      tree = IsForStep.no_step p;
      shorter = passes_shorter p (λ e. cc);
      leads = leads_inside end depth tasks.ForStep a [] b (λ outer i. takes_alone [] p (λ e. cc) refl (omega arith));
      small = omega arith;
    }

step_move : (s : Sign) → s ≢ signs.RightParenthesis → s ≢ signs.Name → tasks.for_step_move s ≡ tasks.Refuse
step_move signs.RightParenthesis n1 n2 = absurd (n1 refl)
step_move signs.Name n1 n2 = absurd (n2 refl)
step_move _ n1 n2 = refl

step_name : (end outer : ℕ) (a : List Token) → 1 + outer ≤ 64 → next_sign a ≡ signs.Name → Path end outer (tasks.ForStep ∷ []) a (tasks.AfterSimpleName ∷ tasks.Token signs.RightParenthesis ∷ []) (rest_of a)
step_name end outer a low e =
    let p : Passes signs.Name a (rest_of a) = record { is_next = e; behind = refl } in
    takes_alone (tasks.AfterSimpleName ∷ tasks.Token signs.RightParenthesis ∷ []) p (λ e. cc) refl (omega arith)

step_either : (end depth outer : ℕ) (a : List Token) (error : ParseError) → depth ≤ 64 → 1 + outer ≡ depth → next_sign a ≢ signs.RightParenthesis
    → ((next_sign a ≢ signs.Name) × (error ≡ Unexpected (next_place end a))) ⊎ ((next_sign a ≡ signs.Name) × Refused end depth (tasks.AfterSimpleName ∷ []) (rest_of a) error) → Refused end outer (tasks.ForStep ∷ []) a error
step_either end depth outer a error low i n1 (inl h) = path_stuck (here end outer (tasks.ForStep ∷ []) a) (refuses [] (step_move (next_sign a) n1 h.0) (λ rest. refl) h.1)
step_either end depth outer a error low i n1 (inr h) = path_refused (step_name end outer a (omega arith) h.0) (omega arith) h.1

pub step_refused : (end depth : ℕ) (a : List Token) (error : ParseError) → depth ≤ 64 → next_sign a ≢ signs.RightParenthesis → RefusedSimple end depth a error → RefusedInside end depth tasks.ForStep a error
step_refused end depth a error low n1 r other = refused_inside end depth tasks.ForStep a error (λ outer i. step_either end depth outer a error low i n1 (r other)) other

step_simple : (source : List ℕ) (end depth outer : ℕ) (a b : List Token) (s : RawSimpleTree) → depth ≤ 64 → 1 + outer ≡ depth → ReadsSimple source end depth a s b → Path end outer (tasks.ForStep ∷ []) a (tasks.Token signs.RightParenthesis ∷ []) b
step_simple source end depth outer a b s low i h = path_leads (step_name end outer a (omega arith) h.named) (omega arith) h.leads

pub step_open_end : (source : List ℕ) (end depth : ℕ) (a b : List Token) (s : RawSimpleTree) (error : ParseError) → depth ≤ 64 → ReadsSimple source end depth a s b → error ≡ Unexpected (next_place end b) → next_sign b ≢ signs.RightParenthesis → RefusedInside end depth tasks.ForStep a error
step_open_end source end depth a b s error low h place wrong =
    refused_inside end depth tasks.ForStep a error (λ outer i. path_stuck (step_simple source end depth outer a b s low i h) (refuses [] (right_parenthesis_only (next_sign b) wrong) (λ rest. refl) place))

pub step_read : (source : List ℕ) (end depth : ℕ) (a b c : List Token) (s : RawSimpleTree) → depth ≤ 64 → ReadsSimple source end depth a s b → Passes signs.RightParenthesis b c → ReadsForStep source end depth a (Some s) c
step_read source end depth a b c s low h close =
    record {
      tree = IsForStep.step h.tree close;
      shorter = (let l1 = h.shorter in let l2 = passes_shorter close (λ e. cc) in omega arith);
      leads = leads_inside end depth tasks.ForStep a [] c (λ outer i.
          let q : Path end outer (tasks.Token signs.RightParenthesis ∷ []) b [] c = takes_alone [] close (λ e. cc) refl (omega arith) in
          path_path (step_simple source end depth outer a b s low i h) q);
      small = (let m = h.small in omega arith);
    }

-- the parts between their parentheses
parts_move : (s : Sign) → s ≢ signs.LeftParenthesis → tasks.for_parts_move s ≡ tasks.Refuse
parts_move signs.LeftParenthesis other = absurd (other refl)
parts_move _ other = refl

pub parts_not_opened : (end depth : ℕ) (a : List Token) (error : ParseError) → IsNotOpened end depth signs.LeftParenthesis a error → Refused end depth (tasks.ForParts ∷ []) a error
parts_not_opened end depth a error (inl h) = path_stuck (here end depth (tasks.ForParts ∷ []) a) (refuses [] (parts_move (next_sign a) h.1) (λ rest. refl) h.0)
parts_not_opened end depth a error (inr h) = path_stuck (here end depth (tasks.ForParts ∷ []) a) (too_deep [] (tasks.ForInit ∷ []) h.1 (λ e. cc) refl (let deep = h.2 in omega arith) h.0)

parts_opened : (end depth inside : ℕ) (a b : List Token) → (inside ≡ 1 + depth) × Passes signs.LeftParenthesis a b → inside ≤ 64 → Path end depth (tasks.ForParts ∷ []) a (tasks.ForInit ∷ []) b
parts_opened end depth inside a b opening low = takes_alone (tasks.ForInit ∷ []) opening.1 (λ e. cc) refl (let i = opening.0 in omega arith)

pub parts_init_refused : (end depth inside : ℕ) (a b : List Token) (error : ParseError) → (inside ≡ 1 + depth) × Passes signs.LeftParenthesis a b → inside ≤ 64 → RefusedInside end inside tasks.ForInit b error → Refused end depth (tasks.ForParts ∷ []) a error
parts_init_refused end depth inside a b error opening low r = path_refused_inside (parts_opened end depth inside a b opening low) opening.0 r

parts_init : (source : List ℕ) (end depth inside : ℕ) (a b c : List Token) (init : List RawSimpleTree) → (inside ≡ 1 + depth) × Passes signs.LeftParenthesis a b → inside ≤ 64 → ReadsForInit source end inside b init c
    → Path end depth (tasks.ForParts ∷ []) a (tasks.UpToSemicolon ∷ tasks.ForStep ∷ []) c
parts_init source end depth inside a b c init opening low h = path_inside (parts_opened end depth inside a b opening low) opening.0 h.leads

pub parts_condition_refused : (source : List ℕ) (end depth inside : ℕ) (a b c : List Token) (init : List RawSimpleTree) (error : ParseError) → (inside ≡ 1 + depth) × Passes signs.LeftParenthesis a b → inside ≤ 64 → ReadsForInit source end inside b init c
    → Refused end inside (tasks.UpToSemicolon ∷ []) c error → Refused end depth (tasks.ForParts ∷ []) a error
parts_condition_refused source end depth inside a b c init error opening low h r = path_refused (parts_init source end depth inside a b c init opening low h) (let i = opening.0 in omega arith) r

parts_condition : (source : List ℕ) (end depth inside : ℕ) (a b c d : List Token) (init : List RawSimpleTree) (v : Option RawExprTree) → (inside ≡ 1 + depth) × Passes signs.LeftParenthesis a b → inside ≤ 64 → ReadsForInit source end inside b init c
    → ReadsUpToSemicolon source end inside c v d → Path end depth (tasks.ForParts ∷ []) a (tasks.ForStep ∷ []) d
parts_condition source end depth inside a b c d init v opening low h k = path_leads (parts_init source end depth inside a b c init opening low h) (let i = opening.0 in omega arith) k.leads

pub parts_step_refused : (source : List ℕ) (end depth inside : ℕ) (a b c d : List Token) (init : List RawSimpleTree) (v : Option RawExprTree) (error : ParseError) → (inside ≡ 1 + depth) × Passes signs.LeftParenthesis a b → inside ≤ 64 → ReadsForInit source end inside b init c
    → ReadsUpToSemicolon source end inside c v d → RefusedInside end inside tasks.ForStep d error → Refused end depth (tasks.ForParts ∷ []) a error
parts_step_refused source end depth inside a b c d init v error opening low h k r = path_refused_inside (parts_condition source end depth inside a b c d init v opening low h k) opening.0 r

pub parts_read : (source : List ℕ) (end depth inside : ℕ) (a b c d f : List Token) (init : List RawSimpleTree) (v : Option RawExprTree) (last : Option RawSimpleTree) → (inside ≡ 1 + depth) × Passes signs.LeftParenthesis a b → inside ≤ 64 → ReadsForInit source end inside b init c
    → ReadsUpToSemicolon source end inside c v d → ReadsForStep source end inside d last f → ReadsForParts source end depth a init v last f
parts_read source end depth inside a b c d f init v last opening low h k m =
    let p : Path end depth (tasks.ForParts ∷ []) a [] f = path_inside (parts_condition source end depth inside a b c d init v opening low h k) opening.0 m.leads in
    record {
      b = b;
      c = c;
      d = d;
      opened = opening.1;
      first = h.tree;
      second = k.tree;
      third = m.tree;
      shorter = (let l1 = passes_shorter opening.1 (λ e. cc) in let l2 = h.shorter in let l3 = k.shorter in let l4 = m.shorter in omega arith);
      leads = p.goes;
      small = (h.small, k.small, m.small);
    }
