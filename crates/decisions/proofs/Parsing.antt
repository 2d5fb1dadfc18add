-- Tokens are a tree, or have a refusal.
use Rattle.decisions.proofs.Common.{ℕ, ◌≡◌, ◌⊎◌, inl, inr, refl, List, length, Option, Some, None, Token, RawItemTree, AreWithinTemporaries, ParseError, nested_in_items, nested_in_fors, IsParsedWhere, IsRefusedWhere}
use Rattle.c_grammar.specs.declared.errors.ParseError.TheVariants.{Unexpected, TooDeep, NestedCall}
use Rattle.c_grammar.specs.Refusals.{Verdict, IsWithin}
use Rattle.grammar_laws.proofs.Outcome.{some_verdict}
use Rattle.decisions.proofs.Trees.{ATree, tree_of}

module _ (first_nested : List RawItemTree → Option ℕ) (S : List ℕ) (tokens : List Token) where
  -- the tree of the tokens, with few temporaries
  pub record AParse : Type 0 where
    pub tree : List RawItemTree
    pub parsed : IsParsedWhere first_nested S tokens tree
    pub small : AreWithinTemporaries tree

  abbrev pub ParsesOrNot : Type 0
  ParsesOrNot = AParse ⊎ ((error : ParseError) × IsRefusedWhere first_nested S tokens error)

  with_tree : IsWithin tokens → (t : ATree S tokens) → (nested : Option ℕ) → nested ≡ first_nested t.items → ParsesOrNot
  with_tree within t None e = inl (record { tree = t.items; parsed = record { within = within; tree = t.is; none_nested = cc }; small = t.small })
  with_tree within t (Some at) e = inr (NestedCall at, record { items = t.items; within = within; tree = t.is; first = (cc) })

  by_verdict : (verdict : Option ParseError) → Verdict (length S) tokens verdict → ParsesOrNot
  by_verdict None v = let t = tree_of S tokens v in with_tree v t (first_nested t.items) refl
  by_verdict (Some (Unexpected at)) v = inr (Unexpected at, v)
  by_verdict (Some (TooDeep at)) v = inr (TooDeep at, v)
  by_verdict (Some _) v = absurd v

  pub parse_decided : ParsesOrNot
  parse_decided = let v = some_verdict (length S) tokens in by_verdict v.0 v.1

-- no call may be nested
pub tokens_parse : (S : List ℕ) (tokens : List Token)
    → ((tree : List RawItemTree) × IsParsedWhere nested_in_items S tokens tree) ⊎ ((error : ParseError) × IsRefusedWhere nested_in_items S tokens error)
tokens_parse S tokens = elim (parse_decided nested_in_items S tokens) [ inl a ↦ inl (a.tree, a.parsed) | inr refused ↦ inr refused ]

-- none in the parentheses of a `for` may be
pub tokens_parse_nested : (S : List ℕ) (tokens : List Token) → ParsesOrNot nested_in_fors S tokens
tokens_parse_nested S tokens = parse_decided nested_in_fors S tokens
