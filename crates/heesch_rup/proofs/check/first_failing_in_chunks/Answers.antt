use Rattle.std.proofs.Common.{ℕ, ◌+◌, ◌*◌, ◌≤◌, min, List, Option, None, length, ap, arith}
use Rattle.std.specs.Prelude.{Result, Ok, IfOk}
use Rattle.std.specs.Int.{div_ceil}
use Rattle.heesch_io.specs.declared.NoMemory.{NoMemory}
use Rattle.heesch_cnf.specs.declared.log.Line.{Line}
use Rattle.heesch_cnf.specs.Flat.{Clauses}
use Rattle.heesch_rup.specs.Answer.{IsFirstFailing}
use Rattle.heesch_rup.proofs.Chunked.{chunk_fails, chunk_holds, chunks_reach, told_length, told_of}
use Rattle.heesch_rup.proofs.check.first_failing_in_chunks.Given as given
use Rattle.heesch_rup.proofs.check.first_failing_in_chunks.Goals as goal
use Rattle.heesch_rup.proofs.check.first_failing_in_chunks.Goals.{In-Ok}

pub by_chunks-requires-clause-callable : goal.by_chunks-requires-clause-callable
by_chunks-requires-clause-callable g c κs within chunk lt = (c.requires.added, omega (arith, lt, c.len.ensures.count))

-- what is told of the chunk of a number, where so many clauses were added
abbrev Tells : Clauses → List Line → ℕ → ℕ → Result (Option ℕ) NoMemory → Type 0
Tells f lines n k r = IfOk r (IsFirstFailing f.vars f.clauses lines (k * 1024) (min (k * 1024 + 1024) n))

answered : (g : given.Over) (c : In-Ok g) → Tells (g.C.ClauseSource.listed c.args.formula.now) (g.S.Steps.written c.args.steps.now).lines (length c.args.added.now.clauses) c.loop-answer.answer-index (Ok c.in-Ok.failing)
answered g c =
    told_of (Tells (g.C.ClauseSource.listed c.args.formula.now) (g.S.Steps.written c.args.steps.now).lines (length c.args.added.now.clauses)) (div_ceil c.len.result 1024) c.in_ok-found.found.items c.in_ok-found.ensures c.deref-answer-items.result.now c.deref-answer-items.ensures.value c.loop-answer.answer-index (Ok None) (Ok c.in-Ok.failing) c.loop-answer-test.true c.in-Ok.is

pub returns-in-Some : goal.returns-in-Some
returns-in-Some g c =
    let f = (g.C.ClauseSource.listed c.args.formula.now) in
    chunk_fails f.vars f.clauses (g.S.Steps.written c.args.steps.now).lines (length c.args.added.now.clauses) c.loop-answer.answer-index c.loop-answer.invariant c.in-Ok.failing (answered g (goal.at.returns-in-Some g c).In-Ok) c.in-Some.at c.in-Some.is

pub loop-answer-preserved : goal.loop-answer-preserved
loop-answer-preserved g c =
    let f = (g.C.ClauseSource.listed c.args.formula.now) in
    chunk_holds f.vars f.clauses (g.S.Steps.written c.args.steps.now).lines (length c.args.added.now.clauses) c.loop-answer.answer-index c.loop-answer.invariant c.in-Ok.failing (answered g (goal.at.loop-answer-preserved g c).In-Ok) c.in_default-failing.is

pub returns : goal.returns
returns g c i le lt =
    let n = length c.args.added.now.clauses in
    let chunks = div_ceil c.len.result 1024 in
    let long = told_length (Tells (g.C.ClauseSource.listed c.args.formula.now) (g.S.Steps.written c.args.steps.now).lines n) chunks c.in_ok-found.found.items c.in_ok-found.ensures in
    let all : chunks ≤ c.loop-answer.answer-index = omega (arith, long, c.loop-answer-test.false, ap length c.deref-answer-items.ensures.value) in
    let reach = chunks_reach n chunks (ap (λ m. div_ceil m 1024) c.len.ensures.count) in
    c.loop-answer.invariant i (omega (arith, lt, all, reach)) lt
