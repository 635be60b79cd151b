use Rattle.std.proofs.Common.{◌≡◌, ℕ, ◌+◌, ◌*◌, ◌≤◌, min, List, Bool, true, false, IsTrue, ◌↔◌, length, refl, sym, ap, ◌∙◌, arith}
use Rattle.std.specs.Prelude.{Result, Ok, IfOk}
use Rattle.std.specs.Int.{div_ceil}
use Rattle.std.proofs.lemmas.List.{length-map}
use Rattle.heesch_io.specs.declared.NoMemory.{NoMemory}
use Rattle.heesch_cnf.specs.declared.log.Line.{Line}
use Rattle.heesch_cnf.specs.Flat.{Clauses}
use Rattle.heesch_cnf.specs.Lines.{clause_of}
use Rattle.heesch_rup.specs.Answer.{AreNewBetween}
use Rattle.heesch_rup.proofs.Chunked.{chunk_is_new, chunk_of_new, chunks_reach, told_length, told_of}
use Rattle.heesch_rup.proofs.newness.are_new_in_chunks.Given as given
use Rattle.heesch_rup.proofs.newness.are_new_in_chunks.Goals as goal
use Rattle.heesch_rup.proofs.newness.are_new_in_chunks.Goals.{In_ok-found, In-Ok}

pub by_chunks-requires-clause-callable : goal.by_chunks-requires-clause-callable
by_chunks-requires-clause-callable g c κs within chunk lt = (c.requires.listed, c.requires.vars, c.requires.added, omega (arith, lt, c.len.ensures.count))

-- what is told of the chunk of a number, where so many clauses were added
abbrev Tells : Clauses → List Line → ℕ → ℕ → Result Bool NoMemory → Type 0
Tells f lines n k r = IfOk r (λ yes. IsTrue yes ↔ AreNewBetween f.clauses lines (k * 1024) (min (k * 1024 + 1024) n))

answered : (g : given.Over) (c : In-Ok g) → Tells (g.N.ClauseSource.listed c.args.formula.now) (g.S.Steps.written c.args.steps.now).lines (length c.args.added.now.clauses) c.loop-answer.answer-index (Ok c.in-Ok.fresh)
answered g c =
    told_of (Tells (g.N.ClauseSource.listed c.args.formula.now) (g.S.Steps.written c.args.steps.now).lines (length c.args.added.now.clauses)) (div_ceil c.len.result 1024) c.in_ok-found.found.items c.in_ok-found.ensures c.deref-answer-items.result.now c.deref-answer-items.ensures.value c.loop-answer.answer-index (Ok false) (Ok c.in-Ok.fresh) c.loop-answer-test.true c.in-Ok.is

-- as many clauses were added as there are lines
many : (g : given.Over) (c : In_ok-found g) → length c.args.added.now.clauses ≡ length (g.S.Steps.written c.args.steps.now).lines
many g c = ap length c.requires.added ∙ length-map (g.S.Steps.written c.args.steps.now).lines clause_of

pub loop-answer-preserved : goal.loop-answer-preserved
loop-answer-preserved g c =
    let here = answered g (goal.at.loop-answer-preserved g c).In-Ok in
    chunk_is_new (g.N.ClauseSource.listed c.args.formula.now).clauses (g.S.Steps.written c.args.steps.now).lines (length c.args.added.now.clauses) c.loop-answer.answer-index c.loop-answer.invariant (here.0 c.if-not-fresh.false)

pub returns-then-not-fresh : goal.returns-then-not-fresh
returns-then-not-fresh g c =
    let a = goal.at.returns-then-not-fresh g c in
    let new = chunk_of_new (g.N.ClauseSource.listed c.args.formula.now).clauses (g.S.Steps.written c.args.steps.now).lines (length c.args.added.now.clauses) c.loop-answer.answer-index (many g a.In_ok-found) in (
      λ e. absurd (let bad : false ≡ true = e in cc),
      λ h. absurd (let bad : false ≡ true = sym c.if-not-fresh.true ∙ (answered g a.In-Ok).1 (new h) in cc),
    )

pub returns : goal.returns
returns g c =
    let a = (goal.at.returns g c).In_ok-found in
    let n = length c.args.added.now.clauses in
    let chunks = div_ceil c.len.result 1024 in
    let long = told_length (Tells (g.N.ClauseSource.listed c.args.formula.now) (g.S.Steps.written c.args.steps.now).lines n) chunks c.in_ok-found.found.items c.in_ok-found.ensures in
    let all : chunks ≤ c.loop-answer.answer-index = omega (arith, long, c.loop-answer-test.false, ap length c.deref-answer-items.ensures.value) in
    let reach = chunks_reach n chunks (ap (λ m. div_ceil m 1024) c.len.ensures.count) in
    (λ e i d lt. c.loop-answer.invariant i d (omega arith) (omega (arith, lt, all, reach, many g a)), λ h. refl)
