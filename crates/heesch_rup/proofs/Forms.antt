use Rattle.std.proofs.Common.{refl, zero, suc, ◌≡◌, ℕ, ◌+◌, ◌<◌, ◌≤◌, List, [], ◌∷◌, ◌++◌, length, get_or, take, map, sym, ap, ◌∙◌, subst, arith, get_or-take, length-take-le, length-append}
use Rattle.std.proofs.Math.Seq.{take-append-add}
use Rattle.std.proofs.lemmas.List.Elements.{All-append, All-map}
use Rattle.std.proofs.lemmas.List.{take_all as take_whole, take-take, take_more, map-append, length-map}
use Rattle.heesch_cnf.specs.declared.literal.Lit.{Lit}
use Rattle.heesch_cnf.specs.declared.log.Line.{Line}
use Rattle.heesch_cnf.specs.declared.log.Line.TheVariants.{Learn, Given}
use Rattle.heesch_cnf.specs.Clauses.{IsClause, AreClauses}
use Rattle.heesch_cnf.specs.Flat.{Clauses}
use Rattle.heesch_cnf.specs.Lines.{LineHolds, HoldsAtLine, LinesHold, clause_of, clauses_of, clauses_with}
use Rattle.heesch_rup.specs.Answer.{AddsFirst}

-- the clause of a line that holds is one over the variables
pub line-form : (vars : ℕ) (clauses : List (List Lit)) (line : Line) → LineHolds vars clauses line → IsClause vars (clause_of line)
line-form vars clauses (Learn clause hints) holds = holds.1.0
line-form vars clauses (Given clause) holds = holds

pub AreClauses-with : (vars : ℕ) (clauses : List (List Lit)) (lines : List Line) (n : ℕ) → n ≤ length lines → AreClauses vars clauses →
    ((k : ℕ) → k < n → HoldsAtLine vars clauses lines k) → AreClauses vars (clauses_with clauses (take n lines))
AreClauses-with vars clauses lines n le form hold =
    All-append (IsClause vars) clauses (map clause_of (take n lines)) form (All-map (IsClause vars) clause_of (take n lines)
    (λ k d lt. let below : k < n = omega (arith, lt, length-take-le n lines le) in
    subst (λ line. IsClause vars (clause_of line)) (sym (get_or-take n lines k d below)) (line-form vars _ (get_or lines k d) (hold k below d))))

pub AreClauses-whole : (vars : ℕ) (clauses : List (List Lit)) (lines : List Line) → AreClauses vars clauses → LinesHold vars clauses lines → AreClauses vars (clauses_with clauses lines)
AreClauses-whole vars clauses lines form hold =
    subst (λ ls. AreClauses vars (clauses_with clauses ls)) (take_whole (length lines) lines (omega arith)) (AreClauses-with vars clauses lines (length lines) (omega arith) form hold)

-- the clauses of the formula and of lines that hold, which were added
pub AreClauses-added : (f added : Clauses) (lines : List Line) → AreClauses f.vars f.clauses → LinesHold f.vars f.clauses lines → added ≡ record { vars = f.vars; clauses = clauses_of lines } → AreClauses f.vars (f.clauses ++ added.clauses)
AreClauses-added f added lines form hold is = subst (λ (a : Clauses). AreClauses f.vars (f.clauses ++ a.clauses)) (sym is) (AreClauses-whole f.vars f.clauses lines form hold)

-- the clauses of one line more
clauses_of-more : (lines : List Line) (i : ℕ) (clause : List Lit) → i < length lines → ((d : Line) → clause ≡ clause_of (get_or lines i d)) → clauses_of (take i lines) ++ clause ∷ [] ≡ clauses_of (take (i + 1) lines)
clauses_of-more lines i clause lt is =
    let d : Line = Given [] in
    ap (λ (c : List Lit). clauses_of (take i lines) ++ c ∷ []) (is d) ∙ (sym (map-append clause_of (take i lines) (get_or lines i d ∷ [])) ∙ ap clauses_of (sym (take_more lines i d lt)))

-- the flat clauses of one line more
pub added_more : (vars : ℕ) (lines : List Line) (i : ℕ) (clause : List Lit) (before after : Clauses) → i < length lines → ((d : Line) → clause ≡ clause_of (get_or lines i d)) →
    before ≡ record { vars = vars; clauses = clauses_of (take i lines) } → after ≡ record before { clauses = before.clauses ++ clause ∷ [] } → after ≡ record { vars = vars; clauses = clauses_of (take (i + 1) lines) }
added_more vars lines i clause before after lt is before_is after_is =
    after_is ∙ (ap (λ (b : Clauses). record b { clauses = b.clauses ++ clause ∷ [] }) before_is ∙ ap (flat vars) (clauses_of-more lines i clause lt is))
  where
    flat : ℕ → List (List Lit) → Clauses
    flat n cs = record { vars = n; clauses = cs }

-- the flat clauses of the first lines, once all are read
pub added_all : (vars : ℕ) (lines : List Line) (i : ℕ) (added : Clauses) → length lines ≤ i → added ≡ record { vars = vars; clauses = clauses_of (take i lines) } → added ≡ record { vars = vars; clauses = clauses_of lines }
added_all vars lines i added le is = subst (λ (ls : List Line). added ≡ record { vars = vars; clauses = clauses_of ls }) (take_whole i lines le) is

-- the first clauses of the formula and the lines are those of the formula and the first lines
pub take-map : (i : ℕ) (lines : List Line) → take i (clauses_of lines) ≡ clauses_of (take i lines)
take-map zero lines = refl
take-map (suc i) [] = refl
take-map (suc i) (x ∷ xs) = ap (λ cs. clause_of x ∷ cs) (take-map i xs)

pub take-clauses_with : (clauses : List (List Lit)) (lines : List Line) (n i : ℕ) → n ≡ length clauses + i → take n (clauses_with clauses lines) ≡ clauses_with clauses (take i lines)
take-clauses_with clauses lines n i is =
    ap (λ m. take m (clauses_with clauses lines)) is ∙ take-append-add clauses (clauses_of lines) i ∙ ap (λ cs. clauses ++ cs) (take-map i lines)

-- clauses of the first lines, as many as were read
pub adds_first : (vars : ℕ) (lines : List Line) (i : ℕ) (added : Clauses) → i ≤ length lines → added ≡ record { vars = vars; clauses = clauses_of (take i lines) } → (length added.clauses ≡ i) × AddsFirst vars lines added
adds_first vars lines i added le is =
    let long : length added.clauses ≡ i = ap (λ (a : Clauses). length a.clauses) is ∙ (length-map (take i lines) clause_of ∙ length-take-le i lines le) in
    (long, (omega (arith, long), subst (λ n. added ≡ record { vars = vars; clauses = clauses_of (take n lines) }) (sym long) is))

module _ (f added : Clauses) (lines : List Line) (first : AddsFirst f.vars lines added) where
  pub added-vars : added.vars ≡ f.vars
  added-vars = ap (λ (a : Clauses). a.vars) first.1

  -- the clauses of the formula and those that were added
  pub AreClauses-first : AreClauses f.vars f.clauses → AreClauses added.vars added.clauses → AreClauses f.vars (f.clauses ++ added.clauses)
  AreClauses-first form more = All-append (IsClause f.vars) f.clauses added.clauses form (subst (λ n. AreClauses n added.clauses) added-vars more)

  -- the clauses before a line are the first of the formula's and the added ones
  pub before_line : (i n : ℕ) → i ≤ length added.clauses → n ≡ length f.clauses + i → take n (f.clauses ++ added.clauses) ≡ clauses_with f.clauses (take i lines)
  before_line i n le n_is =
      let m = length added.clauses in
      ap (λ (a : Clauses). take n (f.clauses ++ a.clauses)) first.1
      ∙ (take-clauses_with f.clauses (take m lines) n i n_is ∙ ap (clauses_with f.clauses) (take-take i m lines le))

  pub few_before : (i : ℕ) → i ≤ length added.clauses → length f.clauses + i ≤ length (f.clauses ++ added.clauses)
  few_before i le = omega (arith, length-append f.clauses added.clauses)
