-- What the functions of tables come to, exit by exit.
use Rattle.grammar_reader.proofs.Common.{ℕ, ◌≡◌, ◌≢◌, ◌⊎◌, inl, inr, refl, sym, ap, subst, true, List, [], ◌∷◌, ◌++◌, append_assoc, append-nil, arith, Token, NameTree, RawTableItem, ParseError, Unexpected, Memory, Sign, Task, next_sign, next_place, rest_of, Passes, PassesName, AreMoreMembers, AreItem, Refused, ReadsSize, RefusedSize, ReadsDeclared, ReadsTableParameter, ReadingMembers, ReadsMembers, ReadsTable}
use Rattle.c_grammar.specs.declared.signs.Sign.TheVariants as signs
use Rattle.c_grammar.specs.Machine as tasks
use Rattle.grammar_reader.proofs.Runs.{passes_shorter, right_parenthesis_only, semicolon_only}
use Rattle.grammar_reader.proofs.ParameterRules.{int_only}
use Rattle.grammar_reader.proofs.Paths.{Path, Stuck, here, path_leads, path_stuck, path_path, path_refused, takes, takes_alone, refuses}

star_only : (x : Sign) → x ≢ signs.Star → tasks.token_move signs.Star x ≡ tasks.Refuse
star_only signs.Star other = absurd (other refl)
star_only _ other = refl

name_only : (x : Sign) → x ≢ signs.Name → tasks.token_move signs.Name x ≡ tasks.Refuse
name_only signs.Name other = absurd (other refl)
name_only _ other = refl

assign_only : (x : Sign) → x ≢ signs.Assign → tasks.token_move signs.Assign x ≡ tasks.Refuse
assign_only signs.Assign other = absurd (other refl)
assign_only _ other = refl

size_only : (x : Sign) → x ≢ signs.LeftBracket → tasks.size_move x ≡ tasks.Refuse
size_only signs.LeftBracket other = absurd (other refl)
size_only _ other = refl

parameter_only : (x : Sign) → x ≢ signs.LeftParenthesis → tasks.table_parameter_move x ≡ tasks.Refuse
parameter_only signs.LeftParenthesis other = absurd (other refl)
parameter_only _ other = refl

brace_only : (x : Sign) → x ≢ signs.LeftBrace → tasks.table_members_move x ≡ tasks.Refuse
brace_only signs.LeftBrace other = absurd (other refl)
brace_only _ other = refl

more_refuses : (s : Sign) → s ≢ signs.Comma → s ≢ signs.RightBrace → tasks.more_members_move s ≡ tasks.Refuse
more_refuses signs.Comma a b = absurd (a refl)
more_refuses signs.RightBrace a b = absurd (b refl)
more_refuses _ a b = refl

-- what is behind the name and the size
abbrev declared_left : List Task
declared_left = tasks.TableParameter ∷ tasks.Token signs.Assign ∷ tasks.TableMembers ∷ tasks.Token signs.Semicolon ∷ []

open_path : (end : ℕ) (a b : List Token) → next_sign a ≡ signs.LeftParenthesis → b ≡ rest_of a → Path end 0 (tasks.AfterInt ∷ []) a (tasks.Token signs.Star ∷ tasks.Token signs.Name ∷ tasks.Size ∷ tasks.Token signs.RightParenthesis ∷ declared_left) b
open_path end a b e behind =
    let paren : Passes signs.LeftParenthesis a b = record { is_next = e; behind = behind } in
    takes_alone (tasks.Token signs.Star ∷ tasks.Token signs.Name ∷ tasks.Size ∷ tasks.Token signs.RightParenthesis ∷ declared_left) paren (λ e. cc) refl (omega arith)

pub declared_no_star : (end : ℕ) (a b : List Token) (error : ParseError) → next_sign a ≡ signs.LeftParenthesis → b ≡ rest_of a → error ≡ Unexpected (next_place end b) → next_sign b ≢ signs.Star → Refused end 0 (tasks.AfterInt ∷ []) a error
declared_no_star end a b error e behind place wrong = path_stuck (open_path end a b e behind) (refuses (tasks.Token signs.Name ∷ tasks.Size ∷ tasks.Token signs.RightParenthesis ∷ declared_left) (star_only (next_sign b) wrong) (λ rest. refl) place)

star_path : (end : ℕ) (a b c : List Token) → next_sign a ≡ signs.LeftParenthesis → b ≡ rest_of a → Passes signs.Star b c → Path end 0 (tasks.AfterInt ∷ []) a (tasks.Token signs.Name ∷ tasks.Size ∷ tasks.Token signs.RightParenthesis ∷ declared_left) c
star_path end a b c e behind star = path_path (open_path end a b e behind) (takes (tasks.Token signs.Name ∷ tasks.Size ∷ tasks.Token signs.RightParenthesis ∷ declared_left) [] star (λ e. cc) refl (omega arith))

pub declared_no_name : (end : ℕ) (a b c : List Token) (error : ParseError) → next_sign a ≡ signs.LeftParenthesis → b ≡ rest_of a → Passes signs.Star b c → (error ≡ Memory) ⊎ ((error ≡ Unexpected (next_place end c)) × (next_sign c ≢ signs.Name)) → Refused end 0 (tasks.AfterInt ∷ []) a error
declared_no_name end a b c error e behind star (inl m) other rest o = absurd (other m)
declared_no_name end a b c error e behind star (inr w) other rest o =
    path_stuck (star_path end a b c e behind star) (refuses (tasks.Size ∷ tasks.Token signs.RightParenthesis ∷ declared_left) (name_only (next_sign c) w.1) (λ rest. refl) w.0) other rest o

size_path : (source : List ℕ) (end : ℕ) (n : NameTree) (a b c d : List Token) → next_sign a ≡ signs.LeftParenthesis → b ≡ rest_of a → Passes signs.Star b c → PassesName source c n d → Path end 0 (tasks.AfterInt ∷ []) a (tasks.Size ∷ tasks.Token signs.RightParenthesis ∷ declared_left) d
size_path source end n a b c d e behind star p = path_path (star_path end a b c e behind star) (takes (tasks.Size ∷ tasks.Token signs.RightParenthesis ∷ declared_left) [] p.passes (λ e. cc) refl (omega arith))

-- a size that is refused, with tasks behind it
size_stuck : (end : ℕ) (d : List Token) (error : ParseError) → RefusedSize end 1 d error → Stuck end 0 (tasks.Size ∷ tasks.Token signs.RightParenthesis ∷ declared_left) d error
size_stuck end d error (inl h) = refuses (tasks.Token signs.RightParenthesis ∷ declared_left) (size_only (next_sign d) h.0) (λ rest. refl) h.1
size_stuck end d error (inr h) = record { ends = λ rest o. h tasks.Size [] (tasks.Token signs.RightParenthesis ∷ (declared_left ++ rest)) refl (omega arith) }

pub declared_size_refused : (source : List ℕ) (end : ℕ) (n : NameTree) (a b c d : List Token) (error : ParseError) → next_sign a ≡ signs.LeftParenthesis → b ≡ rest_of a → Passes signs.Star b c → PassesName source c n d → RefusedSize end 1 d error → Refused end 0 (tasks.AfterInt ∷ []) a error
declared_size_refused source end n a b c d error e behind star p h = path_stuck (size_path source end n a b c d e behind star p) (size_stuck end d error h)

close_path : (source : List ℕ) (end : ℕ) (n : NameTree) (a b c d f : List Token) (words : ℕ) → next_sign a ≡ signs.LeftParenthesis → b ≡ rest_of a → Passes signs.Star b c → PassesName source c n d → ReadsSize end 1 d words f → Path end 0 (tasks.AfterInt ∷ []) a (tasks.Token signs.RightParenthesis ∷ declared_left) f
close_path source end n a b c d f words e behind star p h =
    path_leads (size_path source end n a b c d e behind star p) refl (λ rest o. h.leads tasks.Size [] rest refl o)

pub declared_open_end : (source : List ℕ) (end : ℕ) (n : NameTree) (a b c d f : List Token) (words : ℕ) (error : ParseError) → next_sign a ≡ signs.LeftParenthesis → b ≡ rest_of a → Passes signs.Star b c → PassesName source c n d → ReadsSize end 1 d words f
    → error ≡ Unexpected (next_place end f) → next_sign f ≢ signs.RightParenthesis → Refused end 0 (tasks.AfterInt ∷ []) a error
declared_open_end source end n a b c d f words error e behind star p h place wrong = path_stuck (close_path source end n a b c d f words e behind star p h) (refuses declared_left (right_parenthesis_only (next_sign f) wrong) (λ rest. refl) place)

pub declared_read : (source : List ℕ) (end : ℕ) (n : NameTree) (a b c d f g : List Token) (words : ℕ) → next_sign a ≡ signs.LeftParenthesis → b ≡ rest_of a → Passes signs.Star b c → PassesName source c n d → ReadsSize end 1 d words f → Passes signs.RightParenthesis f g
    → ReadsDeclared source end a n words g
declared_read source end n a b c d f g words e behind star p h close =
    let paren : Passes signs.LeftParenthesis a b = record { is_next = e; behind = behind } in
    let r = path_path (close_path source end n a b c d f words e behind star p h) (takes declared_left [] close (λ e. cc) refl (omega arith)) in
    record {
      b = b;
      c = c;
      d = d;
      f = f;
      opened = paren;
      star = star;
      named = p;
      sized = h.tree;
      closed = close;
      shorter = (let l1 = passes_shorter paren (λ e. cc) in let l2 = passes_shorter star (λ e. cc) in let l3 = passes_shorter p.passes (λ e. cc) in let l4 = h.shorter in let l5 = passes_shorter close (λ e. cc) in omega arith);
      leads = r.goes;
    }

-- the parameter of its functions
pub parameter_no_open : (end : ℕ) (a : List Token) (error : ParseError) → error ≡ Unexpected (next_place end a) → next_sign a ≢ signs.LeftParenthesis → Refused end 0 (tasks.TableParameter ∷ []) a error
parameter_no_open end a error place wrong = path_stuck (here end 0 (tasks.TableParameter ∷ []) a) (refuses [] (parameter_only (next_sign a) wrong) (λ rest. refl) place)

parameter_opened : (end : ℕ) (a b : List Token) → Passes signs.LeftParenthesis a b → Path end 0 (tasks.TableParameter ∷ []) a (tasks.Token signs.Int ∷ tasks.Token signs.RightParenthesis ∷ []) b
parameter_opened end a b paren = takes_alone (tasks.Token signs.Int ∷ tasks.Token signs.RightParenthesis ∷ []) paren (λ e. cc) refl (omega arith)

pub parameter_no_int : (end : ℕ) (a b : List Token) (error : ParseError) → Passes signs.LeftParenthesis a b → error ≡ Unexpected (next_place end b) → next_sign b ≢ signs.Int → Refused end 0 (tasks.TableParameter ∷ []) a error
parameter_no_int end a b error paren place wrong = path_stuck (parameter_opened end a b paren) (refuses (tasks.Token signs.RightParenthesis ∷ []) (int_only (next_sign b) wrong) (λ rest. refl) place)

parameter_int : (end : ℕ) (a b c : List Token) → Passes signs.LeftParenthesis a b → Passes signs.Int b c → Path end 0 (tasks.TableParameter ∷ []) a (tasks.Token signs.RightParenthesis ∷ []) c
parameter_int end a b c paren int = path_path (parameter_opened end a b paren) (takes (tasks.Token signs.RightParenthesis ∷ []) [] int (λ e. cc) refl (omega arith))

pub parameter_open_end : (end : ℕ) (a b c : List Token) (error : ParseError) → Passes signs.LeftParenthesis a b → Passes signs.Int b c → error ≡ Unexpected (next_place end c) → next_sign c ≢ signs.RightParenthesis → Refused end 0 (tasks.TableParameter ∷ []) a error
parameter_open_end end a b c error paren int place wrong = path_stuck (parameter_int end a b c paren int) (refuses [] (right_parenthesis_only (next_sign c) wrong) (λ rest. refl) place)

pub parameter_read : (end : ℕ) (a b c d : List Token) → Passes signs.LeftParenthesis a b → Passes signs.Int b c → Passes signs.RightParenthesis c d → ReadsTableParameter end a d
parameter_read end a b c d paren int close =
    let last : Path end 0 (tasks.Token signs.RightParenthesis ∷ []) c [] d = takes_alone [] close (λ e. cc) refl (omega arith) in
    let r = path_path (parameter_int end a b c paren int) last in
    record {
      b = b;
      c = c;
      opened = paren;
      int = int;
      closed = close;
      shorter = (let l1 = passes_shorter paren (λ e. cc) in let l2 = passes_shorter int (λ e. cc) in let l3 = passes_shorter close (λ e. cc) in omega arith);
      leads = r.goes;
    }

-- members
pub members_no_brace : (end : ℕ) (a : List Token) (error : ParseError) → error ≡ Unexpected (next_place end a) → next_sign a ≢ signs.LeftBrace → Refused end 0 (tasks.TableMembers ∷ []) a error
members_no_brace end a error place wrong = path_stuck (here end 0 (tasks.TableMembers ∷ []) a) (refuses [] (brace_only (next_sign a) wrong) (λ rest. refl) place)

brace_path : (end : ℕ) (a b : List Token) → Passes signs.LeftBrace a b → Path end 0 (tasks.TableMembers ∷ []) a (tasks.Token signs.Name ∷ tasks.MoreMembers ∷ []) b
brace_path end a b brace = takes_alone (tasks.Token signs.Name ∷ tasks.MoreMembers ∷ []) brace (λ e. cc) refl (omega arith)

no_name : (end : ℕ) (b : List Token) (error : ParseError) → (error ≡ Unexpected (next_place end b)) × (next_sign b ≢ signs.Name) → Stuck end 0 (tasks.Token signs.Name ∷ tasks.MoreMembers ∷ []) b error
no_name end b error w = refuses (tasks.MoreMembers ∷ []) (name_only (next_sign b) w.1) (λ rest. refl) w.0

pub members_no_name : (end : ℕ) (a b : List Token) (error : ParseError) → Passes signs.LeftBrace a b → (error ≡ Memory) ⊎ ((error ≡ Unexpected (next_place end b)) × (next_sign b ≢ signs.Name)) → Refused end 0 (tasks.TableMembers ∷ []) a error
members_no_name end a b error brace (inl m) other rest o = absurd (other m)
members_no_name end a b error brace (inr w) other rest o = path_stuck (brace_path end a b brace) (no_name end b error w) other rest o

pub members_first : (source : List ℕ) (end : ℕ) (a b c : List Token) (n : NameTree) → Passes signs.LeftBrace a b → PassesName source b n c → ReadingMembers source end a (n ∷ []) c
members_first source end a b c n brace p =
    let r = path_path (brace_path end a b brace) (takes (tasks.MoreMembers ∷ []) [] p.passes (λ e. cc) refl (omega arith)) in
    record {
      b = b;
      c = c;
      first = n;
      more = [];
      some = refl;
      opened = brace;
      named = p;
      tree = λ others after t. t;
      shorter = (let l1 = passes_shorter brace (λ e. cc) in let l2 = passes_shorter p.passes (λ e. cc) in omega arith);
      leads = r.goes;
    }

comma_path : (source : List ℕ) (end : ℕ) (a now b : List Token) (ns : List NameTree) → ReadingMembers source end a ns now → Passes signs.Comma now b → Path end 0 (tasks.TableMembers ∷ []) a (tasks.Token signs.Name ∷ tasks.MoreMembers ∷ []) b
comma_path source end a now b ns h comma =
    let q : Path end 0 (tasks.TableMembers ∷ []) a (tasks.MoreMembers ∷ []) now = record { goes = h.leads } in
    let r : Path end 0 (tasks.MoreMembers ∷ []) now (tasks.Token signs.Name ∷ tasks.MoreMembers ∷ []) b = takes_alone (tasks.Token signs.Name ∷ tasks.MoreMembers ∷ []) comma (λ e. cc) refl (omega arith) in
    path_path q r

pub members_more_no_name : (source : List ℕ) (end : ℕ) (a now b : List Token) (ns : List NameTree) (error : ParseError) → ReadingMembers source end a ns now → next_sign now ≡ signs.Comma → b ≡ rest_of now → (error ≡ Memory) ⊎ ((error ≡ Unexpected (next_place end b)) × (next_sign b ≢ signs.Name))
    → Refused end 0 (tasks.TableMembers ∷ []) a error
members_more_no_name source end a now b ns error h e behind (inl m) other rest o = absurd (other m)
members_more_no_name source end a now b ns error h e behind (inr w) other rest o = path_stuck (comma_path source end a now b ns h (record { is_next = e; behind = behind })) (no_name end b error w) other rest o

pub members_more : (source : List ℕ) (end : ℕ) (a now b c : List Token) (ns : List NameTree) (n : NameTree) → ReadingMembers source end a ns now → next_sign now ≡ signs.Comma → b ≡ rest_of now → PassesName source b n c → ReadingMembers source end a (ns ++ (n ∷ [])) c
members_more source end a now b c ns n h e behind p =
    let comma : Passes signs.Comma now b = record { is_next = e; behind = behind } in
    let r = path_path (comma_path source end a now b ns h comma) (takes (tasks.MoreMembers ∷ []) [] p.passes (λ e. cc) refl (omega arith)) in
    record {
      b = h.b;
      c = h.c;
      first = h.first;
      more = h.more ++ (n ∷ []);
      some = ap (λ l. l ++ (n ∷ [])) h.some;
      opened = h.opened;
      named = h.named;
      tree = λ others after t.
          let P : List NameTree → Type 0 = λ l. AreMoreMembers source h.c l after in
          subst P (sym (append_assoc h.more (n ∷ []) others)) (h.tree (n ∷ others) after (AreMoreMembers.another_member comma p t));
      shorter = (let l1 = h.shorter in let l2 = passes_shorter comma (λ e. cc) in let l3 = passes_shorter p.passes (λ e. cc) in omega arith);
      leads = r.goes;
    }

pub members_open_end : (source : List ℕ) (end : ℕ) (a now : List Token) (ns : List NameTree) (error : ParseError) → ReadingMembers source end a ns now → next_sign now ≢ signs.Comma → next_sign now ≢ signs.RightBrace → error ≡ Unexpected (next_place end now) → Refused end 0 (tasks.TableMembers ∷ []) a error
members_open_end source end a now ns error h no_comma no_close place =
    let q : Path end 0 (tasks.TableMembers ∷ []) a (tasks.MoreMembers ∷ []) now = record { goes = h.leads } in
    path_stuck q (refuses [] (more_refuses (next_sign now) no_comma no_close) (λ rest. refl) place)

pub members_read : (source : List ℕ) (end : ℕ) (a now b : List Token) (ns : List NameTree) → ReadingMembers source end a ns now → Passes signs.RightBrace now b → ReadsMembers source end a ns b
members_read source end a now b ns h close =
    let q : Path end 0 (tasks.TableMembers ∷ []) a (tasks.MoreMembers ∷ []) now = record { goes = h.leads } in
    let last : Path end 0 (tasks.MoreMembers ∷ []) now [] b = takes_alone [] close (λ e. cc) refl (omega arith) in
    let r = path_path q last in
    record {
      b = h.b;
      c = h.c;
      first = h.first;
      more = h.more;
      some = h.some;
      opened = h.opened;
      named = h.named;
      tree = (let P : List NameTree → Type 0 = λ l. AreMoreMembers source h.c l b in subst P (append-nil h.more) (h.tree [] b (AreMoreMembers.last_member close)));
      shorter = (let l1 = h.shorter in let l2 = passes_shorter close (λ e. cc) in omega arith);
      leads = r.goes;
    }

-- the whole table
parameter_path : (source : List ℕ) (end : ℕ) (n : NameTree) (words : ℕ) (a b c : List Token) → ReadsDeclared source end a n words b → ReadsTableParameter end b c → Path end 0 (tasks.AfterInt ∷ []) a (tasks.Token signs.Assign ∷ tasks.TableMembers ∷ tasks.Token signs.Semicolon ∷ []) c
parameter_path source end n words a b c h k =
    let q : Path end 0 (tasks.AfterInt ∷ []) a declared_left b = record { goes = h.leads } in
    path_leads q refl k.leads

pub table_parameter_refused : (source : List ℕ) (end : ℕ) (n : NameTree) (words : ℕ) (a b : List Token) (error : ParseError) → ReadsDeclared source end a n words b → Refused end 0 (tasks.TableParameter ∷ []) b error → Refused end 0 (tasks.AfterInt ∷ []) a error
table_parameter_refused source end n words a b error h r =
    let q : Path end 0 (tasks.AfterInt ∷ []) a declared_left b = record { goes = h.leads } in
    path_refused q refl r

pub table_no_assign : (source : List ℕ) (end : ℕ) (n : NameTree) (words : ℕ) (a b c : List Token) (error : ParseError) → ReadsDeclared source end a n words b → ReadsTableParameter end b c → error ≡ Unexpected (next_place end c) → next_sign c ≢ signs.Assign → Refused end 0 (tasks.AfterInt ∷ []) a error
table_no_assign source end n words a b c error h k place wrong = path_stuck (parameter_path source end n words a b c h k) (refuses (tasks.TableMembers ∷ tasks.Token signs.Semicolon ∷ []) (assign_only (next_sign c) wrong) (λ rest. refl) place)

assign_path : (source : List ℕ) (end : ℕ) (n : NameTree) (words : ℕ) (a b c d : List Token) → ReadsDeclared source end a n words b → ReadsTableParameter end b c → Passes signs.Assign c d → Path end 0 (tasks.AfterInt ∷ []) a (tasks.TableMembers ∷ tasks.Token signs.Semicolon ∷ []) d
assign_path source end n words a b c d h k assign = path_path (parameter_path source end n words a b c h k) (takes (tasks.TableMembers ∷ tasks.Token signs.Semicolon ∷ []) [] assign (λ e. cc) refl (omega arith))

pub table_members_refused : (source : List ℕ) (end : ℕ) (n : NameTree) (words : ℕ) (a b c d : List Token) (error : ParseError) → ReadsDeclared source end a n words b → ReadsTableParameter end b c → Passes signs.Assign c d → Refused end 0 (tasks.TableMembers ∷ []) d error
    → Refused end 0 (tasks.AfterInt ∷ []) a error
table_members_refused source end n words a b c d error h k assign r = path_refused (assign_path source end n words a b c d h k assign) refl r

members_path : (source : List ℕ) (end : ℕ) (n : NameTree) (words : ℕ) (ns : List NameTree) (a b c d f : List Token) → ReadsDeclared source end a n words b → ReadsTableParameter end b c → Passes signs.Assign c d → ReadsMembers source end d ns f
    → Path end 0 (tasks.AfterInt ∷ []) a (tasks.Token signs.Semicolon ∷ []) f
members_path source end n words ns a b c d f h k assign m = path_leads (assign_path source end n words a b c d h k assign) refl m.leads

pub table_open_end : (source : List ℕ) (end : ℕ) (n : NameTree) (words : ℕ) (ns : List NameTree) (a b c d f : List Token) (error : ParseError) → ReadsDeclared source end a n words b → ReadsTableParameter end b c → Passes signs.Assign c d → ReadsMembers source end d ns f
    → error ≡ Unexpected (next_place end f) → next_sign f ≢ signs.Semicolon → Refused end 0 (tasks.AfterInt ∷ []) a error
table_open_end source end n words ns a b c d f error h k assign m place wrong = path_stuck (members_path source end n words ns a b c d f h k assign m) (refuses [] (semicolon_only (next_sign f) wrong) (λ rest. refl) place)

pub table_read : (source : List ℕ) (end : ℕ) (n : NameTree) (words : ℕ) (ns : List NameTree) (a b c d f g : List Token) → ReadsDeclared source end a n words b → ReadsTableParameter end b c → Passes signs.Assign c d → ReadsMembers source end d ns f → Passes signs.Semicolon f g
    → ReadsTable source end a (RawTableItem n words ns) g
table_read source end n words ns a b c d f g h k assign m close =
    let last : Path end 0 (tasks.Token signs.Semicolon ∷ []) f [] g = takes_alone [] close (λ e. cc) refl (omega arith) in
    let r = path_path (members_path source end n words ns a b c d f h k assign m) last in
    record {
      tree = λ x int.
          let P : List NameTree → Type 0 = λ l. AreItem true source x (RawTableItem n words l ∷ []) g in
          subst P (sym m.some) (AreItem.table int h.opened h.star h.named h.sized h.closed k.opened k.int k.closed assign m.opened m.named m.tree close);
      shorter = (let l1 = h.shorter in let l2 = k.shorter in let l3 = passes_shorter assign (λ e. cc) in let l4 = m.shorter in let l5 = passes_shorter close (λ e. cc) in omega arith);
      leads = r.goes;
      small = (omega arith, tt);
    }
