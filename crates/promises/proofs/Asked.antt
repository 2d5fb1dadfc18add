-- What the words of `serve` and `run` say, and what their run prints.
use Rattle.promises.proofs.Common.{◌≡◌, ◌≢◌, ℕ, List, [], ◌∷◌, Option, IfSome, Some, codes, slice_get, Appends, IsWordList, Request, Serve, Run, Build, Check, Graph, Demo, Audit, Budget, IsPolicyFor, IsRunPolicy, Outside, Policy, Entry, log_text, policy_of, run-policy, serve-policy, Files, Said, AreOf}
use Rattle.capriccio_call.specs.TheText.{IsSourceOf}
use Rattle.command_files.specs.Loaded.{IsLoaded}
use Rattle.command_outcomes.specs.declared.documents.Document.TheVariants as document
use Rattle.command_words.specs.Said.{positionals_of, value_of}
use Rattle.command_words.specs.Values.{IsPolicy}
use Rattle.command_words.specs.declared.options.Policy.{Policy as RunOptions}
use Rattle.promises.proofs.Ran.{Prints}
use Rattle.promises.proofs.Returned.{word-of}

pub record IsAsked (words : List (List ℕ)) (request : Request) (before after : Outside) (policy_now : Policy) (trace : List ℕ) (entries : List Entry) : Type 0 where
  pub command : List ℕ
  pub items : List Said
  pub asked : AreOf words command items
  pub options : RunOptions
  pub policy : IsPolicy (value_of items) options
  pub same : policy_now ≡ policy_of options
  pub ranges : IsRunPolicy options
  pub name : List ℕ
  pub others : List (List ℕ)
  pub named : positionals_of items ≡ name ∷ others
  pub loads : (files : Option Files) (bytes : List ℕ) → IsSourceOf request files bytes → IsLoaded document.Source files name bytes
  pub told : IfSome before.left (λ its. its ≡ trace)
  pub printed : Appends before.taken after.taken (log_text entries)

pub asked-of : (words : List (List ℕ)) (request : Request) (before after : Outside) (policy : Policy) (trace : List ℕ) (entries : List Entry) → IsWordList words request → IsPolicyFor request policy → Prints request before after trace entries →
    slice_get words 0 ≢ Some (codes "demo") → IsAsked words request before after policy trace entries
asked-of words (Serve source placement options) before after policy trace entries is same prints other = let says = is.1 in record {
  command = codes "serve";
  items = is.0;
  asked = record { in_words = says.in_words; plain = says.plain };
  options = options;
  policy = is.3;
  same = same;
  ranges = serve-policy words source placement options is;
  name = source;
  others = [];
  named = says.positional;
  loads = λ files bytes there. there;
  told = prints.0;
  printed = prints.1;
}
asked-of words (Run source image certificate options) before after policy trace entries is same prints other = let says = is.1 in record {
  command = codes "run";
  items = is.0;
  asked = record { in_words = says.in_words; plain = says.plain };
  options = options;
  policy = is.2;
  same = same;
  ranges = run-policy words source image certificate options is;
  name = source;
  others = image ∷ certificate ∷ [];
  named = says.positional;
  loads = λ files bytes there. there;
  told = prints.0;
  printed = prints.1;
}
asked-of words (Demo number) before after policy trace entries is same prints other = absurd (other (word-of words (Demo number) is))
asked-of words (Build source image certificate placement) before after policy trace entries is same prints other = absurd same
asked-of words (Check source image certificate) before after policy trace entries is same prints other = absurd same
asked-of words (Graph source placement) before after policy trace entries is same prints other = absurd same
asked-of words (Audit source log options) before after policy trace entries is same prints other = absurd same
asked-of words (Budget source image certificate) before after policy trace entries is same prints other = absurd same
