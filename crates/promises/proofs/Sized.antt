-- The pool of a returned world.
use Rattle.promises.proofs.Common.{◌≡◌, ◌≢◌, ◌∙◌, ◌+◌, ℕ, List, [], ◌∷◌, Option, IfSome, Some, None, refl, ap, arith, inl, inr, codes, IsAnswer, IsPolicyFor, IsWordList, Request, Serve, Run, Build, Check, Graph, Demo, Audit, Budget, Outside, Policy, Held}
use Rattle.machine_world.specs.Chains.{IsPartition}
use Rattle.promises.specs.Pool.{HasAsked, KeepsPool}
use Rattle.promises.proofs.Ran.{IsRan, ran-of}
use Rattle.promises.proofs.Returned.{returned}

-- the first byte of a word
abbrev first : List ℕ → ℕ
first [] = 0
first (byte ∷ bytes) = byte

serve-or-demo : (byte : ℕ) → byte ≡ 115 → byte ≡ 100 → ⊥
serve-or-demo byte one other = omega (arith, one, other)

run-or-demo : (byte : ℕ) → byte ≡ 114 → byte ≡ 100 → ⊥
run-or-demo byte one other = omega (arith, one, other)

serve-apart : codes "serve" ≢ codes "demo"
serve-apart e = serve-or-demo (first (codes "serve")) refl (ap first e)

run-apart : codes "run" ≢ codes "demo"
run-apart e = run-or-demo (first (codes "run")) refl (ap first e)

asked : (words : List (List ℕ)) (request : Request) (policy : Policy) (count : ℕ) → IsWordList words request → IsPolicyFor request policy → count ≡ policy.chunks + policy.extra → HasAsked words count
asked words (Serve source placement options) policy count is same chunks = let says = is.1 in let chosen = is.3 in record {
  command = codes "serve";
  items = is.0;
  asked = record { in_words = says.in_words; plain = says.plain };
  chunks = options.chunks;
  extra = options.extra;
  chosen = inl (serve-apart, chosen.chunks, chosen.extra);
  count_is = chunks ∙ ap (λ (p : Policy). p.chunks + p.extra) same;
}
asked words (Run source image certificate options) policy count is same chunks = let says = is.1 in let chosen = is.2 in record {
  command = codes "run";
  items = is.0;
  asked = record { in_words = says.in_words; plain = says.plain };
  chunks = options.chunks;
  extra = options.extra;
  chosen = inl (run-apart, chosen.chunks, chosen.extra);
  count_is = chunks ∙ ap (λ (p : Policy). p.chunks + p.extra) same;
}
asked words (Demo number) policy count is same chunks = let says = is.1 in record {
  command = codes "demo";
  items = is.0;
  asked = record { in_words = says.in_words; plain = says.plain };
  chunks = 2048;
  extra = 0;
  chosen = inr (refl, refl);
  count_is = chunks ∙ ap (λ (p : Policy). p.chunks + p.extra) same;
}
asked words (Build source image certificate placement) policy count is same chunks = absurd same
asked words (Check source image certificate) policy count is same chunks = absurd same
asked words (Graph source placement) policy count is same chunks = absurd same
asked words (Audit source log options) policy count is same chunks = absurd same
asked words (Budget source image certificate) policy count is same chunks = absurd same

sized : (words : List (List ℕ)) (before after : Outside) (world : Held) (status : ℕ) → IsRan words before after world status → HasAsked words world.machine.areas.pool.count × IsPartition world.machine
sized words before after world status r =
    let is = r.world_is in
    let sound = is.sound in
    (asked words r.request r.setup.policy world.machine.areas.pool.count r.asked r.policy is.chunks, sound.partition)

kept : (words : List (List ℕ)) (before after : Outside) (err err' : Option (List ℕ)) (faults faults' : ℕ) (last : Option Held) (status : ℕ) → IsAnswer words before after err err' faults faults' last status →
    IfSome last (λ world. HasAsked words world.machine.areas.pool.count) × IfSome last (λ world. IsPartition world.machine)
kept words before after err err' faults faults' None status answer = (tt, tt)
kept words before after err err' faults faults' (Some world) status answer = sized words before after world status (ran-of words before after err err' faults faults' world status answer)

pub pool-kept : (words : List (List ℕ)) (before after : Outside) (err err' : Option (List ℕ)) (faults faults' : ℕ) (last : Option Held) (status : ℕ) → IsAnswer words before after err err' faults faults' last status → KeepsPool words last status
pool-kept words before after err err' faults faults' last status answer =
    let both = kept words before after err err' faults faults' last status answer in
    record { returned = returned words before after err err' faults faults' last status answer; size = both.0; partition = both.1 }
