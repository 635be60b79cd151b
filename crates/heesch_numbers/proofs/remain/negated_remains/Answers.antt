use Rattle.std.proofs.Common.{◌≡◌, ◌-◌, ◌≤◌, true≢false, List, ℕ, length, get_or, sym, ap, ◌∙◌, subst, arith}
use Rattle.std.specs.Prelude.{Bool, true, false, MatchBool}
use Rattle.heesch_cnf.specs.declared.literal.Lit.{Lit}
use Rattle.heesch_cnf.specs.Literals.{held}
use Rattle.heesch_grid.specs.CoronaFormula.{Variable, IsNumbered}
use Rattle.heesch_cert.specs.Literals.{literals}
use Rattle.heesch_grid.proofs.ClauseFacts.{entry_made}
use Rattle.heesch_encode.proofs.ClauseLists.{entry_range}
use Rattle.heesch_encode.proofs.Numbered.{no_entry}
use Rattle.heesch_encode.proofs.Pieces.{some_at}
use Rattle.heesch_numbers.specs.Common.{VariableRemains}
use Rattle.heesch_numbers.proofs.remain.negated_remains.Goals as goal

pub returns-then-lit : goal.returns-then-lit
returns-then-lit g c = λ around gives n x number e. absurd (true≢false (sym c.if-lit.true ∙ ap (λ (l : Lit). l.positive) e))

pub returns-then-lit-count : goal.returns-then-lit-count
returns-then-lit-count g c = λ around gives n x number e.
    let r = entry_range c.args.plan.now.universe.now.vars (n, x) (entry_made c.args.plan.now.universe.now.vars n x number) in
    let same = ap (λ (l : Lit). l.var) e in
    absurd (omega (arith, r.1, same, c.count-count.ensures.count))

-- the answer for one variable is that for all that the literal negates
answer : (b : Bool) (V : ℕ → Variable → Type 0) (vars : List Variable) (lit : Lit) → 1 ≤ lit.var → lit.var ≤ length vars → lit.positive ≡ false → ((x : Variable) → IsNumbered vars lit.var x → MatchBool b (V lit.var x) (¬ V lit.var x)) →
    MatchBool b ((n : ℕ) (x : Variable) → IsNumbered vars n x → lit ≡ literals.minus n → V n x) (¬ ((n : ℕ) (x : Variable) → IsNumbered vars n x → lit ≡ literals.minus n → V n x))
answer true V vars lit low high negative h = λ n x number e. let same : lit.var ≡ n = ap (λ (l : Lit). l.var) e in subst (λ m. V m x) same (h x (subst (λ m. IsNumbered vars m x) (sym same) number))
answer false V vars lit low high negative h = λ all.
    let x = get_or vars (lit.var - 1) no_entry.1 in
    let number = some_at vars lit.var low high in
    h x number (all lit.var x number (λ i. record { var = lit.var; positive = negative i }))

pub returns : goal.returns
returns g c = λ around gives.
    let u = c.args.plan.now.universe.now in
    answer c.variable_remains.result (λ n x. VariableRemains (held c.args.values.now) g.G.Grid.geometry around u (n, x)) u.vars c.args.lit c.requires.variable (omega (arith, c.count-count.ensures.count, c.if-lit-count.false)) c.if-lit.false
    (λ x number. c.variable_remains.ensures around x gives number)
