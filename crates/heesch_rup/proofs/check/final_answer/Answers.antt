use Rattle.std.proofs.Common.{◌≡◌, ◌++◌, ◌+◌, ◌≤◌, false, true, List, [], Some, length, sym, ap, ◌∙◌, subst, arith, length-append}
use Rattle.std.specs.Option.{option_copied}
use Rattle.std.proofs.lemmas.List.{length-map, take_all as take_whole}
use Rattle.heesch_cnf.specs.declared.literal.Lit.{Lit}
use Rattle.heesch_cnf.specs.Flat.{Clauses}
use Rattle.heesch_cnf.specs.Lines.{IsShown, clause_of}
use Rattle.heesch_rup.proofs.Forms.{AreClauses-added}
use Rattle.heesch_rup.proofs.Answering.{final_bad}
use Rattle.heesch_rup.proofs.check.final_answer.Goals as goal

pub is_shown-requires-clause-clauses : goal.is_shown-requires-clause-clauses
is_shown-requires-clause-clauses g c =
    AreClauses-added (g.C.ClauseSource.listed c.args.formula.now) c.args.added.now (g.S.Steps.written c.args.steps.now).lines c.vars-vars.ensures.form c.requires.lines c.requires.added

pub returns-else-branch : goal.returns-else-branch
returns-else-branch g c =
    let f = (g.C.ClauseSource.listed c.args.formula.now) in
    let log = g.S.Steps.written c.args.steps.now in
    let hints = c.in-Some.hints.now in
    let last : log.last ≡ Some hints = sym c.last.ensures ∙ ap option_copied c.in-Some.is in
    let same = ap (λ (x : Clauses). x.clauses) c.requires.added in
    let long = ap length same in
    let few : length (f.clauses ++ c.args.added.now.clauses) ≤ c.count.result + c.len.result = omega (arith, length-append f.clauses c.args.added.now.clauses, c.count.ensures.count, c.len.ensures.count) in
    final_bad f.vars f.clauses log c.requires.lines hints (c.len-else-branch.result + 1) last
    (λ shown.
    let there = subst (λ (cs : List (List Lit)). IsShown cs [] hints) (sym (take_whole (c.count.result + c.len.result) (f.clauses ++ c.args.added.now.clauses) few)) (subst (λ (cs : List (List Lit)). IsShown (f.clauses ++ cs) [] hints) (sym same) shown) in
    let bad : false ≡ true = sym c.if-branch.false ∙ c.in_ok-is_shown.ensures.shown.1 there in cc)
    (omega (arith, c.len-else-branch.ensures.count, long, length-map log.lines clause_of))
