use Rattle.fetch_cli.specs.Run.{IsAnswer}
use Rattle.fetch_cli.proofs.Answering.{known, one, valid_answered, benched, bench_answered, findings_told, findings_answered}
use Rattle.fetch_cli.proofs.Ended.{answer_of, known_of, low_written, unless_failed, written_of}
use Rattle.fetch_cli.proofs.program.running.run.Goals as goal

pub write_answer-requires : goal.write_answer-requires
write_answer-requires g c = known_of (IsAnswer _ _) _ _ (known _ _) c.answer.result c.answer.ensures.answer

pub returns-clause-written : goal.returns-clause-written
returns-clause-written g c = written_of _ _ _ _ _ _ (answer_of (IsAnswer _ _) _ _ c.answer.result c.answer.ensures.answer) c.write_answer.ensures.written

pub returns-clause-exact : goal.returns-clause-exact
returns-clause-exact g c = λ bytes status text told is.
    unless_failed _ _ _ _ _ status (λ other another r. one _ _ bytes other status another text told (answer_of (IsAnswer _ _) _ _ c.answer.result c.answer.ensures.answer other another r) is)
    c.write_answer.ensures.written

pub returns-clause-bench : goal.returns-clause-bench
returns-clause-bench g c = λ count asks.
    let written = written_of _ (IsAnswer _ _) _ _ _ _ (answer_of (IsAnswer _ _) _ _ c.answer.result c.answer.ensures.answer) c.write_answer.ensures.written in
    record {
      summary = λ low. let w = low_written _ _ _ _ _ low written in record { text = w.text; summary = benched _ _ count _ _ asks w.answer; wrote = w.wrote };
      exact = unless_failed _ _ _ _ _ _ (λ status text r. bench_answered _ _ count status text asks r) written;
    }

pub returns-clause-check : goal.returns-clause-check
returns-clause-check g c = λ findings h.
    let written = written_of _ (IsAnswer _ _) _ _ _ _ (answer_of (IsAnswer _ _) _ _ c.answer.result c.answer.ensures.answer) c.write_answer.ensures.written in
    record {
      text = λ low. let w = low_written _ _ _ _ _ low written in rw (findings_told _ _ findings _ _ h w.answer) at w.wrote;
      exact = unless_failed _ _ _ _ _ _ (λ status text r. findings_answered _ _ findings status text h r) written;
    }

pub returns-clause-complete : goal.returns-clause-complete
returns-clause-complete g c = λ v.
    unless_failed _ _ _ _ _ _ (λ status text r. valid_answered _ _ status text v (answer_of (IsAnswer _ _) _ _ c.answer.result c.answer.ensures.answer status text r)) c.write_answer.ensures.written
