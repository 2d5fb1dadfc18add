use Rattle.capriccio_call.proofs.Common.{map, refl, string_bytes, IsDue, Keeps-refl}
use Rattle.capriccio_call.proofs.Told.{told-done, told-stop}
use Rattle.capriccio_call.proofs.GoodRun.{good-without, was-good}
use Rattle.capriccio_call.proofs.Faults.{after-fault}
use Rattle.capriccio_call.proofs.AuditedLog.{audited}
use Rattle.capriccio_call.proofs.EnoughRun.{enough}
use Rattle.capriccio_call.proofs.OneCase.{exact}
use Rattle.capriccio_call.proofs.command.capriccio.Goals as goal

pub returns-in-Ok : goal.returns-in-Ok
returns-in-Ok g c =
    let texts = map (λ word. string_bytes word) c.args.words.now.items in
    let answered = told-done (IsDue texts) _ _ c.in-Ok.field-0 c.put.new.place _ _ _ _ (λ given h. exact texts _ _ given h) c.in-Ok.ensures c.put.ensures (Keeps-refl _) refl in
    record {
      answer = answered;
      good = was-good texts _ _ _ _ _ _ c.put.new.place c.in-Ok.field-0.status answered;
      after_fault = after-fault texts _ _ _ _ _ _ c.put.new.place c.in-Ok.field-0.status answered;
      audited = audited texts _ _ _ _ _ _ c.put.new.place c.in-Ok.field-0.status answered;
      enough = enough texts _ _ _ _ _ _ c.put.new.place c.in-Ok.field-0.status answered;
    }

pub returns-in-Err : goal.returns-in-Err
returns-in-Err g c =
    let texts = map (λ word. string_bytes word) c.args.words.now.items in
    let answered = told-stop (IsDue texts) _ _ c.in-Err.stop c.put-in-Err.new.place _ _ _ _ _ (λ given h. exact texts _ _ given h) c.in-Err.ensures c.put-in-Err.ensures c.finish.ensures in
    record {
      answer = answered;
      after_fault = after-fault texts _ _ _ _ _ _ c.put-in-Err.new.place _ answered;
      audited = audited texts _ _ _ _ _ _ c.put-in-Err.new.place _ answered;
      enough = enough texts _ _ _ _ _ _ c.put-in-Err.new.place _ answered;
      good = good-without texts _ _ c.put-in-Err.new.place _ c.put-in-Err.ensures;
    }
