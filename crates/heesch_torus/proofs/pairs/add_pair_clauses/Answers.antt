use Rattle.std.proofs.Common.{◌≡◌, ℕ, ◌+◌, ◌<◌, length, ap, arith}
use Rattle.std.proofs.lemmas.List.{length-map, length-replicate}
use Rattle.heesch_torus.specs.Variables.{TorusVariable, sets_of}
use Rattle.heesch_torus.proofs.Excluding.{low_more, pairs_more, all_pairs}
use Rattle.heesch_torus.proofs.pairs.add_pair_clauses.Goals as goal

pub loop-at-preserved : goal.loop-at-preserved
loop-at-preserved g c =
    let sets = sets_of c.args.incidence.now.sets.now.variables.now in
    let old = c.args.formula.now in
    let mid = c.loop-at.formula in
    let new = c.add_marked.new.formula in
    let i = c.loop-at.at in
    let long = length-map c.args.incidence.now.sets.now.variables.now (λ (x : TorusVariable). x.cells) in
    let less : c.loop-at.at < length (sets_of c.args.incidence.now.sets.now.variables.now) = omega (arith, long, c.loop-at-test.true) in
    let none = length-replicate {A = ℕ} (length c.args.incidence.now.sets.now.variables.now + 1) 0 in
    let first = ap length c.requires.none in
    let all : length c.loop-at.marks ≡ length (sets_of c.args.incidence.now.sets.now.variables.now) + 1 = omega (arith, long, none, first, c.loop-at.auto.marks) in
    record {
      low = low_more sets i less c.loop-at.marks c.mark_meeting.new.marks all c.loop-at.invariant.low c.mark_meeting.ensures;
      adds = pairs_more sets i less c.loop-at.marks c.mark_meeting.new.marks all c.loop-at.invariant.low c.mark_meeting.ensures old.vars old.clauses mid.vars mid.clauses new.vars new.clauses c.loop-at.invariant.adds c.in_ok-add_marked.ensures.adds;
      few = omega (arith, c.in_ok-add_marked.ensures.few, c.loop-at.invariant.few);
    }

pub returns-clause-adds : goal.returns-clause-adds
returns-clause-adds g c =
    let long = length-map c.args.incidence.now.sets.now.variables.now (λ (x : TorusVariable). x.cells) in
    let old = c.args.formula.now in
    let new = c.loop-at.formula in
    all_pairs (sets_of c.args.incidence.now.sets.now.variables.now) c.loop-at.at old.vars old.clauses new.vars new.clauses (omega (arith, long, c.loop-at-test.false)) c.loop-at.invariant.adds
