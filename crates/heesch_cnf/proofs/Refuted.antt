use Rattle.std.proofs.Common.{ℕ, zero, suc, ◌<◌, ◌≤◌, Bool, Option, None, Some, List, [], ◌∷◌, length, get_or, take, map, All, subst, arith, add-one, take_all}
use Rattle.std.proofs.lemmas.List.Elements.{All-nil, All-cons, All-head, All-tail, All-append, All-map, All-more, All-get_or}
use Rattle.heesch_cnf.specs.declared.literal.Lit.{Lit}
use Rattle.heesch_cnf.specs.declared.log.Line.{Line}
use Rattle.heesch_cnf.specs.declared.log.Line.TheVariants.{Learn, Given}
use Rattle.heesch_cnf.specs.declared.log.Log.{Log}
use Rattle.heesch_cnf.specs.Clauses.{IsSatisfied, Satisfies}
use Rattle.heesch_cnf.specs.Lines.{LineHolds, LinesHold, HasFinal, Refutes, clause_of, clauses_with}
use Rattle.heesch_cnf.specs.Meaning.{given_clauses, IsLearn, LearnsAlone}
use Rattle.heesch_cnf.proofs.Conflict.{shown_follows_lem}
use Rattle.heesch_cnf.proofs.Lists.{Contains-none}

-- a Given line's clause is true
abbrev pub GivenIsTrue : (ℕ → Bool) → Line → Type 0
GivenIsTrue v (Learn clause hints) = Unit {0}
GivenIsTrue v (Given clause) = IsSatisfied v clause

abbrev pub LineIsTrue : (ℕ → Bool) → Line → Type 0
LineIsTrue v line = IsSatisfied v (clause_of line)

all_given : (v : ℕ → Bool) (lines : List Line) → Satisfies v (given_clauses lines) → All (GivenIsTrue v) lines
all_given v [] sat = All-nil (GivenIsTrue v)
all_given v (Learn clause hints ∷ lines) sat = All-cons (GivenIsTrue v) (Learn clause hints) lines tt (all_given v lines sat)
all_given v (Given clause ∷ lines) sat =
    All-cons (GivenIsTrue v) (Given clause) lines (All-head (IsSatisfied v) clause (given_clauses lines) sat) (all_given v lines (All-tail (IsSatisfied v) clause (given_clauses lines) sat))

line_is_true : (v : ℕ → Bool) (vars : ℕ) (clauses : List (List Lit)) (line : Line) → LineHolds vars clauses line → Satisfies v clauses → GivenIsTrue v line → LineIsTrue v line
line_is_true v vars clauses (Learn clause hints) holds sat given = shown_follows_lem clauses clause hints holds.1.1 v sat
line_is_true v vars clauses (Given clause) holds sat given = given

pub Satisfies-with : (v : ℕ → Bool) (clauses : List (List Lit)) (lines : List Line) → Satisfies v clauses → All (LineIsTrue v) lines → Satisfies v (clauses_with clauses lines)
Satisfies-with v clauses lines sat true_lines =
    All-append (IsSatisfied v) clauses (map clause_of lines) sat (All-map (IsSatisfied v) clause_of lines true_lines)

-- the lines that hold are true, one after another
pub lines_are_true : (v : ℕ → Bool) (vars : ℕ) (clauses : List (List Lit)) (lines : List Line) → LinesHold vars clauses lines → Satisfies v clauses → All (GivenIsTrue v) lines →
    (i : ℕ) → i ≤ length lines → All (LineIsTrue v) (take i lines)
lines_are_true v vars clauses lines hold sat given zero le = All-nil (LineIsTrue v)
lines_are_true v vars clauses lines hold sat given (suc i) le =
    let before = lines_are_true v vars clauses lines hold sat given i (omega arith) in
    let lt : i < length lines = omega arith in
    let line = get_or lines i (Given []) in
    let now = line_is_true v vars (clauses_with clauses (take i lines)) line (hold i lt (Given [])) (Satisfies-with v clauses (take i lines) sat before) (All-get_or (GivenIsTrue v) lines i (Given []) lt given) in
    subst (λ n. All (LineIsTrue v) (take n lines)) (add-one i) (All-more (LineIsTrue v) lines i (Given []) lt before now)

no_final : (v : ℕ → Bool) (clauses : List (List Lit)) (last : Option (List ℕ)) → HasFinal clauses last → Satisfies v clauses → ⊥
no_final v clauses None final sat = final
no_final v clauses (Some hints) final sat = let s = shown_follows_lem clauses [] hints final v sat in Contains-none s.0 s.1.0

pub refuted_unsatisfiable_lem : (vars : ℕ) (clauses : List (List Lit)) (log : Log) → Refutes vars clauses log →
    (v : ℕ → Bool) → Satisfies v clauses → Satisfies v (given_clauses log.lines) → ⊥
refuted_unsatisfiable_lem vars clauses log refutes v sat given =
    let upto = lines_are_true v vars clauses log.lines refutes.lines sat (all_given v log.lines given) (length log.lines) (omega arith) in
    let all = subst (All (LineIsTrue v)) (take_all (length log.lines) log.lines (omega arith)) upto in
    no_final v (clauses_with clauses log.lines) log.last refutes.final (Satisfies-with v clauses log.lines sat all)

-- Learn lines give no clause
none_given : (v : ℕ → Bool) (lines : List Line) → LearnsAlone lines → Satisfies v (given_clauses lines)
none_given v [] learns = All-nil (IsSatisfied v)
none_given v (Learn clause hints ∷ lines) learns = none_given v lines (All-tail IsLearn (Learn clause hints) lines learns)
none_given v (Given clause ∷ lines) learns = absurd (All-head IsLearn (Given clause) lines learns)

pub learned_unsatisfiable_lem : (vars : ℕ) (clauses : List (List Lit)) (log : Log) → LearnsAlone log.lines → Refutes vars clauses log →
    (v : ℕ → Bool) → Satisfies v clauses → ⊥
learned_unsatisfiable_lem vars clauses log learns refutes v sat = refuted_unsatisfiable_lem vars clauses log refutes v sat (none_given v log.lines learns)
