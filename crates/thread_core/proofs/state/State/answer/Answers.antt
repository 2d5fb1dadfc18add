use Rattle.thread_core.proofs.Common.{◌≡◌, ℕ, ◌-◌, ◌^◌, ◌<◌, Option, Some, None, refl, sym, ap, ◌∙◌, subst, is_none, if◌then◌else◌, Ask, Stop, TrapKind, checked_of, code_of, IsAtAsk, Exchanging, passed_context, LocalIs, Told, Record, Turn}
use Rattle.thread_core.proofs.Alike.{stop_told}
use Rattle.thread_core.proofs.Answering as answering
use Rattle.thread_core.proofs.PassLaws.{its_record}
use Rattle.thread_core.proofs.state.State.answer.Goals as goal

pub pass-passed-requires-clause-pc : goal.pass-passed-requires-clause-pc
pass-passed-requires-clause-pc c = answering.all_there c.args.accepted.now c.args.most c.args.self.now c.args.thread c.requires.runs c.requires.fuel (Ask.Put c.in-Put.value) (subst (λ (a : Ask). LocalIs c.args.self.now c.args.thread (λ l. IsAtAsk (checked_of c.args.accepted.now) (code_of c.args.accepted.now) l a)) c.in-Put.is c.requires.at) c.image-image.ensures.valid (λ (x : Record). x.context.pc < 2 ^ 32 - 4) (answering.small_pc c.args.accepted.now c.args.most c.args.self.now c.args.thread c.requires.runs c.requires.fuel (Ask.Put c.in-Put.value) (subst (λ (a : Ask). LocalIs c.args.self.now c.args.thread (λ l. IsAtAsk (checked_of c.args.accepted.now) (code_of c.args.accepted.now) l a)) c.in-Put.is c.requires.at) c.image-image.ensures.valid)

pub pass-passed-requires-in-Give-clause-pc : goal.pass-passed-requires-in-Give-clause-pc
pass-passed-requires-in-Give-clause-pc c = answering.all_there c.args.accepted.now c.args.most c.args.self.now c.args.thread c.requires.runs c.requires.fuel (Ask.Give c.in-Give.resource c.in-Give.amount) (subst (λ (a : Ask). LocalIs c.args.self.now c.args.thread (λ l. IsAtAsk (checked_of c.args.accepted.now) (code_of c.args.accepted.now) l a)) c.in-Give.is c.requires.at) c.image-image.ensures.valid (λ (x : Record). x.context.pc < 2 ^ 32 - 4) (answering.small_pc c.args.accepted.now c.args.most c.args.self.now c.args.thread c.requires.runs c.requires.fuel (Ask.Give c.in-Give.resource c.in-Give.amount) (subst (λ (a : Ask). LocalIs c.args.self.now c.args.thread (λ l. IsAtAsk (checked_of c.args.accepted.now) (code_of c.args.accepted.now) l a)) c.in-Give.is c.requires.at) c.image-image.ensures.valid)

pub pass-passed-requires-in-SelfNumber-clause-pc : goal.pass-passed-requires-in-SelfNumber-clause-pc
pass-passed-requires-in-SelfNumber-clause-pc c = answering.all_there c.args.accepted.now c.args.most c.args.self.now c.args.thread c.requires.runs c.requires.fuel Ask.SelfNumber (subst (λ (a : Ask). LocalIs c.args.self.now c.args.thread (λ l. IsAtAsk (checked_of c.args.accepted.now) (code_of c.args.accepted.now) l a)) c.in-SelfNumber.is c.requires.at) c.image-image.ensures.valid (λ (x : Record). x.context.pc < 2 ^ 32 - 4) (answering.small_pc c.args.accepted.now c.args.most c.args.self.now c.args.thread c.requires.runs c.requires.fuel Ask.SelfNumber (subst (λ (a : Ask). LocalIs c.args.self.now c.args.thread (λ l. IsAtAsk (checked_of c.args.accepted.now) (code_of c.args.accepted.now) l a)) c.in-SelfNumber.is c.requires.at) c.image-image.ensures.valid)

pub returns-in-Put-clause-told : goal.returns-in-Put-clause-told
returns-in-Put-clause-told c = answering.put_passed c.args.accepted.now c.args.most c.args.self.now c.args.thread c.requires.runs c.requires.fuel (Ask.Put c.in-Put.value) (subst (λ (a : Ask). LocalIs c.args.self.now c.args.thread (λ l. IsAtAsk (checked_of c.args.accepted.now) (code_of c.args.accepted.now) l a)) c.in-Put.is c.requires.at) c.image-image.ensures.valid c.args.self.now.exchange refl refl refl refl c.pass-passed.new.self c.pass-passed.result c.pass-passed.ensures.record c.pass-passed.ensures.context c.pass-passed.ensures.rest c.pass-passed.ensures.fuel c.pass-passed.ensures.rests c.in-Put.value refl

pub returns-in-SelfNumber-clause-told : goal.returns-in-SelfNumber-clause-told
returns-in-SelfNumber-clause-told c =
    let number : (answering.r c.args.accepted.now c.args.most c.args.self.now c.args.thread c.requires.runs c.requires.fuel Ask.SelfNumber (subst (λ (a : Ask). LocalIs c.args.self.now c.args.thread (λ l. IsAtAsk (checked_of c.args.accepted.now) (code_of c.args.accepted.now) l a)) c.in-SelfNumber.is c.requires.at) c.image-image.ensures.valid).number ≡ c.args.thread.number = (its_record c.args.accepted.now c.args.most c.args.self.now c.args.thread c.requires.runs).2 in
    answering.silent_passed c.args.accepted.now c.args.most c.args.self.now c.args.thread c.requires.runs c.requires.fuel Ask.SelfNumber (subst (λ (a : Ask). LocalIs c.args.self.now c.args.thread (λ l. IsAtAsk (checked_of c.args.accepted.now) (code_of c.args.accepted.now) l a)) c.in-SelfNumber.is c.requires.at) c.image-image.ensures.valid c.args.self.now.exchange refl refl refl refl c.pass-passed-in-SelfNumber.new.self c.pass-passed-in-SelfNumber.result c.pass-passed-in-SelfNumber.ensures.record
    (λ x e. c.pass-passed-in-SelfNumber.ensures.context x e ∙ ap (λ (n : ℕ). passed_context x.context (Some n)) (sym number)) c.pass-passed-in-SelfNumber.ensures.rest c.pass-passed-in-SelfNumber.ensures.fuel c.pass-passed-in-SelfNumber.ensures.rests refl

pub returns-in-Some-clause-told : goal.returns-in-Some-clause-told
returns-in-Some-clause-told c =
    let trap : (answering.row c.args.accepted.now c.args.most c.args.self.now c.args.thread c.requires.runs c.requires.fuel (Ask.Give c.in-Give.resource c.in-Give.amount) (subst (λ (a : Ask). LocalIs c.args.self.now c.args.thread (λ l. IsAtAsk (checked_of c.args.accepted.now) (code_of c.args.accepted.now) l a)) c.in-Give.is c.requires.at) c.image-image.ensures.valid).trap ≡ Some c.in-Some.kind = sym c.give.ensures.trap ∙ c.in-Some.is in
    let same : c.give.new.self ≡ c.args.self.now.exchange =
    c.give.ensures.after ∙ ap (λ (o : Option TrapKind). if is_none o then record c.args.self.now.exchange { exchange = (answering.row c.args.accepted.now c.args.most c.args.self.now c.args.thread c.requires.runs c.requires.fuel (Ask.Give c.in-Give.resource c.in-Give.amount) (subst (λ (a : Ask). LocalIs c.args.self.now c.args.thread (λ l. IsAtAsk (checked_of c.args.accepted.now) (code_of c.args.accepted.now) l a)) c.in-Give.is c.requires.at) c.image-image.ensures.valid).after } else c.args.self.now.exchange) trap in
    let told = stop_told c.args.accepted.now c.args.most c.args.self.now c.args.thread c.requires.runs (Stop.Trap c.in-Some.kind) (answering.traps c.args.accepted.now c.args.most c.args.self.now c.args.thread c.requires.runs c.requires.fuel (Ask.Give c.in-Give.resource c.in-Give.amount) (subst (λ (a : Ask). LocalIs c.args.self.now c.args.thread (λ l. IsAtAsk (checked_of c.args.accepted.now) (code_of c.args.accepted.now) l a)) c.in-Give.is c.requires.at) c.image-image.ensures.valid c.in-Some.kind trap) in
    rw (c.cut.ensures.after, c.cut.ensures.turn)
    (subst (λ (x : Exchanging). Told c.args.accepted.now c.args.most c.args.thread c.args.self.now (Some (Turn.Cut (Stop.Trap c.in-Some.kind) (c.args.most - c.args.self.now.fuel.left - c.args.self.now.begun)))
    (record c.args.self.now { exchange = x; stopped = Some (Turn.Cut (Stop.Trap c.in-Some.kind) (c.args.most - c.args.self.now.fuel.left - c.args.self.now.begun)) })) (sym same) told)

pub returns-in_default-clause-told : goal.returns-in_default-clause-told
returns-in_default-clause-told c =
    let none : c.give.result ≡ None = c.in_default.is in
    let trap : (answering.row c.args.accepted.now c.args.most c.args.self.now c.args.thread c.requires.runs c.requires.fuel (Ask.Give c.in-Give.resource c.in-Give.amount) (subst (λ (a : Ask). LocalIs c.args.self.now c.args.thread (λ l. IsAtAsk (checked_of c.args.accepted.now) (code_of c.args.accepted.now) l a)) c.in-Give.is c.requires.at) c.image-image.ensures.valid).trap ≡ None = sym c.give.ensures.trap ∙ none in
    let same : c.give.new.self ≡ record c.args.self.now.exchange { exchange = (answering.row c.args.accepted.now c.args.most c.args.self.now c.args.thread c.requires.runs c.requires.fuel (Ask.Give c.in-Give.resource c.in-Give.amount) (subst (λ (a : Ask). LocalIs c.args.self.now c.args.thread (λ l. IsAtAsk (checked_of c.args.accepted.now) (code_of c.args.accepted.now) l a)) c.in-Give.is c.requires.at) c.image-image.ensures.valid).after } =
    c.give.ensures.after ∙ ap (λ (o : Option TrapKind). if is_none o then record c.args.self.now.exchange { exchange = (answering.row c.args.accepted.now c.args.most c.args.self.now c.args.thread c.requires.runs c.requires.fuel (Ask.Give c.in-Give.resource c.in-Give.amount) (subst (λ (a : Ask). LocalIs c.args.self.now c.args.thread (λ l. IsAtAsk (checked_of c.args.accepted.now) (code_of c.args.accepted.now) l a)) c.in-Give.is c.requires.at) c.image-image.ensures.valid).after } else c.args.self.now.exchange) trap in
    answering.silent_passed c.args.accepted.now c.args.most c.args.self.now c.args.thread c.requires.runs c.requires.fuel (Ask.Give c.in-Give.resource c.in-Give.amount) (subst (λ (a : Ask). LocalIs c.args.self.now c.args.thread (λ l. IsAtAsk (checked_of c.args.accepted.now) (code_of c.args.accepted.now) l a)) c.in-Give.is c.requires.at) c.image-image.ensures.valid c.give.new.self (ap (λ (x : Exchanging). x.exchange) same) (ap (λ (x : Exchanging). x.caps) same) (ap (λ (x : Exchanging). x.backlog) same) trap c.pass-passed-in-Give.new.self c.pass-passed-in-Give.result c.pass-passed-in-Give.ensures.record c.pass-passed-in-Give.ensures.context c.pass-passed-in-Give.ensures.rest c.pass-passed-in-Give.ensures.fuel c.pass-passed-in-Give.ensures.rests refl
