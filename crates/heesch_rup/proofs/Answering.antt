-- What the checks of single lines say of a log.
use Rattle.std.proofs.Common.{inl, inr, ◌≡◌, ℕ, ◌+◌, ◌-◌, ◌<◌, ◌≤◌, Bool, IsTrue, ◌↔◌, Option, None, Some, List, [], ◌++◌, length, get_or, take, sym, subst, arith}
use Rattle.std.proofs.lemmas.Bool.{cases_lt}
use Rattle.heesch_cnf.specs.declared.literal.Lit.{Lit}
use Rattle.heesch_cnf.specs.declared.log.Line.{Line}
use Rattle.heesch_cnf.specs.declared.log.Line.TheVariants.{Given}
use Rattle.heesch_cnf.specs.declared.log.Log.{Log}
use Rattle.heesch_cnf.specs.Flat.{Clauses}
use Rattle.heesch_cnf.specs.Lines.{IsShown, LineHolds, HoldsAtLine, LinesHold, LinesAreNew, IsSpent, clause_of, clauses_of, clauses_with}
use Rattle.heesch_rup.specs.Answer.{AddsFirst, FailsAtLine, FinalFails, IsFirstBad, IsFirstFailing, IsFormless}
use Rattle.heesch_rup.specs.Hints.{hints_of}
use Rattle.heesch_rup.proofs.Forms.{added_all, before_line, line-form}

-- whether the line of an index holds, by its clause and its hints
pub holds_among : (f added : Clauses) (lines : List Line) (i n : ℕ) (clause : List Lit) (hints : Option (List ℕ)) (holds : Bool) → AddsFirst f.vars lines added → i ≤ length added.clauses → n ≡ length f.clauses + i →
    ((d : Line) → clause ≡ clause_of (get_or lines i d)) → ((d : Line) → hints ≡ hints_of (get_or lines i d)) →
    ((line : Line) → clause ≡ clause_of line → hints ≡ hints_of line → IsTrue holds ↔ LineHolds f.vars (take n (f.clauses ++ added.clauses)) line) →
    (d : Line) → IsTrue holds ↔ LineHolds f.vars (clauses_with f.clauses (take i lines)) (get_or lines i d)
holds_among f added lines i n clause hints holds first le n_is clause_is hints_is judged d =
    subst (λ (cs : List (List Lit)). IsTrue holds ↔ LineHolds f.vars cs (get_or lines i d)) (before_line f added lines first i n le n_is) (judged (get_or lines i d) (clause_is d) (hints_is d))

-- one line more holds
pub hold_more : (vars : ℕ) (clauses : List (List Lit)) (lines : List Line) (from i : ℕ) → ((k : ℕ) → from ≤ k → k < i → HoldsAtLine vars clauses lines k) → HoldsAtLine vars clauses lines i →
    (k : ℕ) → from ≤ k → k < i + 1 → HoldsAtLine vars clauses lines k
hold_more vars clauses lines from i before here k le lt = elim (cases_lt k i) [
  | inl less ↦ before k le less
  | inr past ↦ let same : i ≡ k = omega arith in subst (HoldsAtLine vars clauses lines) same here
]

-- the line of an index is the first that doesn't hold
pub first_bad : (vars : ℕ) (clauses : List (List Lit)) (log : Log) (i : ℕ) → i < length log.lines → ((k : ℕ) → k < i → HoldsAtLine vars clauses log.lines k) →
    ((d : Line) → LineHolds vars (clauses_with clauses (take i log.lines)) (get_or log.lines i d) → ⊥) → IsFirstBad vars clauses log (i + 1)
first_bad vars clauses log i lt hold fails =
    let same : i ≡ i + 1 - 1 = omega arith in
    record {
      counted = omega arith;
      before = λ k less. hold k (omega (arith, less));
      bad = inl (subst (FailsAtLine vars clauses log.lines) same (lt, fails));
    }

-- what is known where the lines before the first that has no clause over the variables were checked
module _ (f added : Clauses) (log : Log) (first : AddsFirst f.vars log.lines added) where
  -- the first of them that fails is the first of all
  pub bad_among : (at : ℕ) → IsFirstFailing f.vars f.clauses log.lines 0 (length added.clauses) (Some at) → IsFirstBad f.vars f.clauses log (at + 1)
  bad_among at h = first_bad f.vars f.clauses log at h.3.0 (λ k lt. h.2 k (omega arith) lt) h.3.1

  -- where all hold, the first without a clause is the first that fails
  pub bad_form : IsFormless f.vars log.lines (length added.clauses) → length added.clauses < length log.lines → IsFirstFailing f.vars f.clauses log.lines 0 (length added.clauses) None → IsFirstBad f.vars f.clauses log (length added.clauses + 1)
  bad_form formless lt hold =
      first_bad f.vars f.clauses log (length added.clauses) lt (λ k less. hold k (omega arith) less) (λ d holds. formless lt d (line-form f.vars _ (get_or log.lines (length added.clauses) d) holds))

  -- and where each has a clause, all hold and their clauses were added
  pub all_hold : (length added.clauses < length log.lines → ⊥) → IsFirstFailing f.vars f.clauses log.lines 0 (length added.clauses) None → LinesHold f.vars f.clauses log.lines
  all_hold whole hold i lt d = elim (cases_lt i (length added.clauses)) [
    | inl less ↦ hold i (omega arith) less d
    | inr past ↦ absurd (whole (omega arith))
  ]

  pub all_added : (length added.clauses < length log.lines → ⊥) → added ≡ record { vars = f.vars; clauses = clauses_of log.lines }
  all_added whole = elim (cases_lt (length added.clauses) (length log.lines)) [
    | inl less ↦ absurd (whole less)
    | inr past ↦ added_all f.vars log.lines (length added.clauses) added past first.1
  ]

-- all lines hold, and so does the final line or it doesn't
module _ (vars : ℕ) (clauses : List (List Lit)) (log : Log) (hold : LinesHold vars clauses log.lines) where
  pub final_bad : (hints : List ℕ) (at : ℕ) → log.last ≡ Some hints → (IsShown (clauses_with clauses log.lines) [] hints → ⊥) → at ≡ length log.lines + 1 → IsFirstBad vars clauses log at
  final_bad hints at is fails at_is = record {
    counted = omega (arith, at_is);
    before = λ i lt. hold i (omega (arith, lt, at_is));
    bad = inr (at_is, subst (FinalFails (clauses_with clauses log.lines)) (sym is) fails);
  }

  pub spent_where_new : (turns : ℕ) → length log.lines ≡ turns → log.last ≡ None → LinesAreNew clauses log.lines ↔ IsSpent vars clauses turns log
  spent_where_new turns long last = ((λ h. record { used = long; lines = hold; new_lines = h; unfinished = last }), (λ s. s.new_lines))

-- a log with a line that doesn't hold isn't spent
pub bad_not_spent : (vars : ℕ) (clauses : List (List Lit)) (log : Log) (at turns : ℕ) → IsFirstBad vars clauses log at → IsSpent vars clauses turns log → ⊥
bad_not_spent vars clauses log at turns b s = elim b.bad [
  | inl f ↦ f.1 (Given []) (s.lines (at - 1) f.0 (Given []))
  | inr f ↦ no_fault f.1
]
  where
    no_fault : FinalFails (clauses_with clauses log.lines) log.last → ⊥
    no_fault f = subst (FinalFails (clauses_with clauses log.lines)) s.unfinished f
