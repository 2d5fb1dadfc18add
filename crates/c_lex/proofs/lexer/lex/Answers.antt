use Rattle.c_lex.proofs.Common.{◌≡◌, [], ◌∷◌, ◌++◌, drop, is_ok, sym, ap, ◌∙◌, subst, arith, append_assoc, inl, Err, cond-true, length-drop, take_rest, Token, IsFirstGap, IsFirstToken, IsFirstPiece, LeadsTo, BeginsNone, IsLexErrorOf}
use Rattle.std.proofs.lemmas.Result.{err_from_is_err_and}
use Rattle.c_lex.proofs.Leads.{gap_step, token_step, refused_at, all_taken}
use Rattle.c_lex.proofs.Unique.{one_list, never_both, one_error}
use Rattle.c_lex.proofs.lexer.lex.Goals as goal
use Rattle.c_lex.proofs.lexer.lex.Goals.{In_err-length}

pub loop-at-preserved-in-Gap : goal.loop-at-preserved-in-Gap
loop-at-preserved-in-Gap c =
    let source = c.args.source.now in
    let place = c.loop-at.at in
    let first : IsFirstGap (drop place source) c.in-Gap.length = subst (λ l. IsFirstGap l c.in-Gap.length) (take_rest source place) (subst (IsFirstPiece _) c.in-Gap.is c.in_ok-length.ensures.piece) in
    let within = first.within in
    record {
      within = omega (arith, length-drop place source);
      leads = λ tokens stop end leads. c.loop-at.invariant.leads tokens stop end (gap_step source place c.in-Gap.length tokens stop end first leads);
    }

pub loop-at-preserved : goal.loop-at-preserved
loop-at-preserved c =
    let source = c.args.source.now in
    let place = c.loop-at.at in
    let first : IsFirstToken (drop place source) c.in-Token.kind c.in-Token.length = subst (λ l. IsFirstToken l c.in-Token.kind c.in-Token.length) (take_rest source place) (subst (IsFirstPiece _) c.in-Token.is c.in_ok-length.ensures.piece) in
    let within = first.within in
    let token : Token = record { kind = c.in-Token.kind; at = place; length = c.in-Token.length } in
    let pushed : c.push.new.self.items ≡ c.loop-at.tokens.items ++ token ∷ [] = c.push.ensures.items ∙ cond-true (is_ok c.push.result) _ _ (sym c.map_err.ensures.variant ∙ ap is_ok c.in_ok-map_err-in-Token.was) in
    record {
      within = omega (arith, length-drop place source);
      leads = λ tokens stop end leads.
          subst (λ items. LeadsTo 0 source items stop end) (sym (append_assoc c.loop-at.tokens.items (token ∷ []) tokens) ∙ ap (λ items. items ++ tokens) (sym pushed))
          (c.loop-at.invariant.leads (token ∷ tokens) stop end (token_step source place c.in-Token.length c.in-Token.kind tokens stop end first leads));
    }

-- where none begins
refused : (c : In_err-length) → IsLexErrorOf c.args.source.now c.in_err-length.field-0.0
refused c =
    let source = c.args.source.now in
    let place = c.loop-at.at in
    refused_at source c.loop-at.tokens.items place c.in_err-length.field-0.0 c.loop-at.invariant.leads (subst (λ l. BeginsNone place l c.in_err-length.field-0.0) (take_rest source place) c.in_err-length.ensures.none)

pub returns-in_err-length-clause-refusal : goal.returns-in_err-length-clause-refusal
returns-in_err-length-clause-refusal c =
    let p = err_from_is_err_and c.from_residual.result c.from_residual.ensures.1 in
    rw (p.1, p.2) (λ _. refused (goal.at.returns-in_err-length-clause-refusal c).In_err-length)

pub returns-in_err-length-clause-only_tokens : goal.returns-in_err-length-clause-only_tokens
returns-in_err-length-clause-only_tokens c =
    λ tokens are. absurd (never_both c.args.source.now tokens c.in_err-length.field-0.0 are (refused (goal.at.returns-in_err-length-clause-only_tokens c).In_err-length))

pub returns-in_err-length-clause-only_refusal : goal.returns-in_err-length-clause-only_refusal
returns-in_err-length-clause-only_refusal c =
    let p = err_from_is_err_and c.from_residual.result c.from_residual.ensures.1 in
    λ error is. inl (p.1 ∙ ap Err (p.2 ∙ one_error c.args.source.now c.in_err-length.field-0.0 error (refused (goal.at.returns-in_err-length-clause-only_refusal c).In_err-length) is))

pub returns-clause-tokens : goal.returns-clause-tokens
returns-clause-tokens c = all_taken c.args.source.now c.loop-at.tokens.items c.loop-at.at c.loop-at.invariant.leads c.loop-at-test.false

pub returns-clause-only_tokens : goal.returns-clause-only_tokens
returns-clause-only_tokens c = λ tokens are.
    one_list c.args.source.now c.loop-at.tokens.items tokens (all_taken c.args.source.now c.loop-at.tokens.items c.loop-at.at c.loop-at.invariant.leads c.loop-at-test.false) are

pub returns-clause-only_refusal : goal.returns-clause-only_refusal
returns-clause-only_refusal c = λ error is.
    absurd (never_both c.args.source.now c.loop-at.tokens.items error (all_taken c.args.source.now c.loop-at.tokens.items c.loop-at.at c.loop-at.invariant.leads c.loop-at-test.false) is)
