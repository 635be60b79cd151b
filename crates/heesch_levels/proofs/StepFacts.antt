-- The steps that are taken from the ends of the lines and of the cuts, and the log that they are.
use Rattle.std.proofs.Common.{◌≡◌, refl, sym, ap, ◌∙◌, ℕ, ◌+◌, ◌<◌, List, [], ◌∷◌, ◌++◌, map, length, All, arith, length-append, append_assoc, append-nil, reverse}
use Rattle.std.proofs.lemmas.List.Elements.{All-nil, All-cons, All-head, All-tail}
use Rattle.std.proofs.lemmas.List.{reverse-append}
use Rattle.heesch_grid.specs.CoronaFormula.{Variable}
use Rattle.heesch_cnf.specs.declared.log.Line.{Line}
use Rattle.heesch_cnf.specs.declared.log.Line.TheVariants.{Learn as LearnLine, Given}
use Rattle.heesch_cnf.specs.declared.log.Log.{Log}
use Rattle.heesch_cnf.specs.declared.literal.Lit.{Lit}
use Rattle.heesch_cnf.specs.Meaning.{given_clauses, LearnsAlone, IsLearn}
use Rattle.heesch_cert.specs.declared.proof.Cut.{Cut as TheCut}
use Rattle.heesch_cert.specs.declared.proof.Step.{Step}
use Rattle.heesch_cert.specs.declared.proof.Step.TheVariants.{Learn, Cut}
use Rattle.heesch_cert.specs.Cuts.{cut_clause}
use Rattle.heesch_cert.specs.Proofs.{line_of_step, log_of}
use Rattle.heesch_levels.specs.Steps.{steps_of, proof_of}

pub given_append : (xs ys : List Line) → given_clauses (xs ++ ys) ≡ given_clauses xs ++ given_clauses ys
given_append [] ys = refl
given_append (LearnLine clause hints ∷ xs) ys = given_append xs ys
given_append (Given clause ∷ xs) ys = ap (λ cs. clause ∷ cs) (given_append xs ys)

pub given_learns : (lines : List Line) → LearnsAlone lines → given_clauses lines ≡ []
given_learns [] h = refl
given_learns (LearnLine clause hints ∷ lines) h = given_learns lines (All-tail IsLearn (LearnLine clause hints) lines h)
given_learns (Given clause ∷ lines) h = absurd (All-head IsLearn (Given clause) lines h)

-- of the lines and the cuts the last ones were taken, and the steps are theirs, last first; as many Given lines are left as cuts
pub record IsTaken (all_lines : List Line) (all_cuts : List TheCut) (lines : List Line) (cuts : List TheCut) (steps : List Step) : Type 0 where
  pub done_lines : List Line
  pub done_cuts : List TheCut
  pub lines_are : all_lines ≡ lines ++ done_lines
  pub cuts_are : all_cuts ≡ cuts ++ done_cuts
  pub even : length (given_clauses lines) ≡ length cuts
  pub steps_are : reverse steps ≡ steps_of done_lines done_cuts

pub taken_none : (lines : List Line) (cuts : List TheCut) → length (given_clauses lines) ≡ length cuts → IsTaken lines cuts lines cuts []
taken_none lines cuts even = record {
  done_lines = [];
  done_cuts = [];
  lines_are = sym (append-nil lines);
  cuts_are = sym (append-nil cuts);
  even = even;
  steps_are = refl;
}

pub taken_learn : (all_lines : List Line) (all_cuts : List TheCut) (lines : List Line) (cuts : List TheCut) (steps : List Step) (clause : List Lit) (hints : List ℕ) →
    IsTaken all_lines all_cuts (lines ++ LearnLine clause hints ∷ []) cuts steps → IsTaken all_lines all_cuts lines cuts (steps ++ Learn clause hints ∷ [])
taken_learn all_lines all_cuts lines cuts steps clause hints t = record {
  done_lines = LearnLine clause hints ∷ t.done_lines;
  done_cuts = t.done_cuts;
  lines_are = t.lines_are ∙ append_assoc lines (LearnLine clause hints ∷ []) t.done_lines;
  cuts_are = t.cuts_are;
  even = ap length (sym (append-nil (given_clauses lines))) ∙ ap length (sym (given_append lines (LearnLine clause hints ∷ []))) ∙ t.even;
  steps_are = reverse-append steps (Learn clause hints ∷ []) ∙ ap (λ ss. Learn clause hints ∷ ss) t.steps_are;
}

pub taken_given : (all_lines : List Line) (all_cuts : List TheCut) (lines : List Line) (cuts : List TheCut) (steps : List Step) (clause : List Lit) (cut : TheCut) →
    IsTaken all_lines all_cuts (lines ++ Given clause ∷ []) (cuts ++ cut ∷ []) steps → IsTaken all_lines all_cuts lines cuts (steps ++ Cut cut ∷ [])
taken_given all_lines all_cuts lines cuts steps clause cut t = record {
  done_lines = Given clause ∷ t.done_lines;
  done_cuts = cut ∷ t.done_cuts;
  lines_are = t.lines_are ∙ append_assoc lines (Given clause ∷ []) t.done_lines;
  cuts_are = t.cuts_are ∙ append_assoc cuts (cut ∷ []) t.done_cuts;
  even = fewer t.even;
  steps_are = reverse-append steps (Cut cut ∷ []) ∙ ap (λ ss. Cut cut ∷ ss) t.steps_are;
}
  where
    fewer : length (given_clauses (lines ++ Given clause ∷ [])) ≡ length (cuts ++ cut ∷ []) → length (given_clauses lines) ≡ length cuts
    fewer e =
        let more : length (given_clauses (lines ++ Given clause ∷ [])) ≡ length (given_clauses lines) + 1 = ap length (given_append lines (Given clause ∷ [])) ∙ length-append (given_clauses lines) (clause ∷ []) in
        let longer : length (cuts ++ cut ∷ []) ≡ length cuts + 1 = length-append cuts (cut ∷ []) in
        omega arith

-- where a Given line is left, so is a cut
pub cut_left : (all_lines : List Line) (all_cuts : List TheCut) (lines : List Line) (cuts : List TheCut) (steps : List Step) (clause : List Lit) →
    IsTaken all_lines all_cuts (lines ++ Given clause ∷ []) cuts steps → 0 < length cuts
cut_left all_lines all_cuts lines cuts steps clause t =
    let even = t.even in
    let more : length (given_clauses (lines ++ Given clause ∷ [])) ≡ length (given_clauses lines) + 1 = ap length (given_append lines (Given clause ∷ [])) ∙ length-append (given_clauses lines) (clause ∷ []) in
    omega arith

pub none_long : {X : Type 0} (xs : List X) → 0 ≡ length xs → xs ≡ []
none_long [] e = refl
none_long (x ∷ xs) e = absurd (omega (arith, e))

-- where no line is left, the steps are those of all lines and cuts
pub taken_all : (all_lines : List Line) (all_cuts : List TheCut) (cuts : List TheCut) (steps : List Step) → IsTaken all_lines all_cuts [] cuts steps → reverse steps ≡ steps_of all_lines all_cuts
taken_all all_lines all_cuts cuts steps t =
    t.steps_are ∙ ap (λ cs. steps_of t.done_lines cs) (sym (t.cuts_are ∙ ap (λ cs. cs ++ t.done_cuts) (none_long cuts t.even))) ∙ ap (λ ls. steps_of ls all_cuts) (sym t.lines_are)

-- ---- the steps as a log

-- where the given clauses are those of the cuts, the lines of the steps are the lines
pub steps_lines : (vars : List Variable) (lines : List Line) (cuts : List TheCut) → given_clauses lines ≡ map (cut_clause vars) cuts → map (line_of_step vars) (steps_of lines cuts) ≡ lines
steps_lines vars [] cuts e = refl
steps_lines vars (LearnLine clause hints ∷ lines) cuts e = ap (λ ls. LearnLine clause hints ∷ ls) (steps_lines vars lines cuts e)
steps_lines vars (Given clause ∷ lines) [] e = absurd (let bad : clause ∷ given_clauses lines ≡ [] = e in cc)
steps_lines vars (Given clause ∷ lines) (cut ∷ cuts) e =
    let both : clause ∷ given_clauses lines ≡ cut_clause vars cut ∷ map (cut_clause vars) cuts = e in
    let first : cut_clause vars cut ≡ clause = cc in
    let rest : given_clauses lines ≡ map (cut_clause vars) cuts = cc in
    let same : map (line_of_step vars) (steps_of lines cuts) ≡ lines = steps_lines vars lines cuts rest in
    ap (λ c. Given c ∷ map (line_of_step vars) (steps_of lines cuts)) first ∙ ap (λ ls. Given clause ∷ ls) same

-- where the given clauses of a log are those of the cuts, their proof is the log
pub log_of_proof : (vars : List Variable) (log : Log) (cuts : List TheCut) → given_clauses log.lines ≡ map (cut_clause vars) cuts → log_of vars (proof_of log cuts) ≡ log
log_of_proof vars log cuts given = ap (λ (ls : List Line). let k : Log = record { lines = ls; last = log.last } in k) (steps_lines vars log.lines cuts given)

-- what holds of each Learn step, and of the cuts, holds of the steps
pub steps_each : (P : TheCut → Type 0) (Q : Step → Type 0) → ((clause : List Lit) (hints : List ℕ) → Q (Learn clause hints)) → ((cut : TheCut) → P cut → Q (Cut cut)) → (lines : List Line) (cuts : List TheCut) → All P cuts → All Q (steps_of lines cuts)
steps_each P Q learnt given [] cuts h = All-nil Q
steps_each P Q learnt given (LearnLine clause hints ∷ lines) cuts h = All-cons Q (Learn clause hints) (steps_of lines cuts) (learnt clause hints) (steps_each P Q learnt given lines cuts h)
steps_each P Q learnt given (Given clause ∷ lines) [] h = steps_each P Q learnt given lines [] h
steps_each P Q learnt given (Given clause ∷ lines) (cut ∷ cuts) h =
    All-cons Q (Cut cut) (steps_of lines cuts) (given cut (All-head P cut cuts h)) (steps_each P Q learnt given lines cuts (All-tail P cut cuts h))
