use Rattle.std.proofs.Common.{◌≡◌, ℕ, ◌+◌, ◌-◌, ◌<◌, ◌≤◌, Bool, true, false, not, unwrap_or, IfSome, IsSomeAnd, MatchOption, append-nil, Option, None, Some, List, [], ◌∷◌, ◌++◌, ◌^◌, length, sym, ap, ◌∙◌, subst, inl, inr, refl, arith}
use Rattle.std.specs.List.{range_with_len}
use Rattle.std.proofs.lemmas.List.{length-map}
use Rattle.std.proofs.lemmas.List.FromFn.{get_or-map-range_with_len, length-range_with_len, map-range_with_len_more}
use Rattle.std.proofs.lemmas.List.Elements.{All-contains}
use Rattle.heesch_cnf.specs.declared.literal.Lit.{Lit}
use Rattle.heesch_cnf.specs.Literals.{signed}
use Rattle.heesch_cnf.specs.Clauses.{IsClause, AreClauses, IsNew, IsSatisfied}
use Rattle.heesch_trail.specs.declared.step.Step.{Step}
use Rattle.heesch_trail.specs.Fixpoint.{IsSettled, IsFixpoint}
use Rattle.heesch_trail.specs.State.{State, IsTrail, values_of, level_of}
use Rattle.heesch_cdcl.specs.Newness.{IsMadeFalse}
use Rattle.heesch_cnf.specs.declared.log.Line.{Line}
use Rattle.heesch_cnf.specs.Lines.{clauses_with}
use Rattle.heesch_cdcl.proofs.Lines.{Lower-zero, Searches-own, formula_is}
use Rattle.heesch_cdcl.specs.Search.{IsComplete}
use Rattle.heesch_cdcl.specs.Empty.{IsFirstEmpty, NoneEmpty}
use Rattle.heesch_cdcl.specs.Searching.{IsSearching, Searches, SameFormula, formula_in}
use Rattle.heesch_cnf.specs.Clauses.{assignment_of}
use Rattle.heesch_cdcl.specs.Problem.{values_list, IsModel, IsInner, LastHolds}
use Rattle.heesch_cdcl.proofs.Newness.{given_is_new_lem}

-- a clause that the kept model makes false contains no earlier clause
pub New-by_model : (vars : ℕ) (clauses : List (List Lit)) (model : Option (List Bool)) (clause : List Lit) → IfSome model (IsModel vars clauses) → IsSomeAnd model (λ values. IsMadeFalse (assignment_of values) clause) → IsNew clauses clause
New-by_model vars clauses None clause is made_false = absurd made_false
New-by_model vars clauses (Some values) clause is made_false = given_is_new_lem (assignment_of values) clauses clause is.satisfies made_false

-- the value that the list has for a variable
value-in_list : (vars : ℕ) (steps : List Step) (v : ℕ) → 1 ≤ v → v ≤ vars → assignment_of (values_list vars steps) v ≡ unwrap_or (values_of steps v) false
value-in_list vars steps v low high =
    get_or-map-range_with_len (λ x. unwrap_or (values_of steps (x + 1)) false) 0 vars (v - 1) (v - 1) false (omega arith) (omega arith)
    ∙ ap (λ x. unwrap_or (values_of steps x) false) (let same : v - 1 + 1 ≡ v = omega arith in same)

true_literal : (p : Bool) (o : Option Bool) → signed p o ≡ Some true → unwrap_or o false ≡ p
true_literal true None e = absurd (let bad : None ≡ Some true = e in cc)
true_literal true (Some true) e = refl
true_literal true (Some false) e = absurd (let bad : Some false ≡ Some true = e in cc)
true_literal false None e = absurd (let bad : None ≡ Some true = e in cc)
true_literal false (Some true) e = absurd (let bad : Some false ≡ Some true = e in cc)
true_literal false (Some false) e = refl

open_literal : (p : Bool) (o : Option Bool) → signed p o ≡ None → o ≡ None
open_literal true o e = e
open_literal false None e = refl
open_literal false (Some b) e = absurd (let bad : Some (not b) ≡ None = e in cc)

-- a complete assignment under which every clause is settled is a model
pub Model-from_fixpoint : (vars : ℕ) (trail : State) (clauses : List (List Lit)) → trail.vars ≡ vars → AreClauses vars clauses → IsFixpoint (values_of trail.steps) clauses → IsComplete trail →
    IsModel vars clauses (values_list vars trail.steps)
Model-from_fixpoint vars trail clauses same form fixpoint complete = record {
  count = length-map (range_with_len 0 vars) (λ v. unwrap_or (values_of trail.steps (v + 1)) false) ∙ length-range_with_len 0 vars;
  satisfies = λ k d lt. satisfied (form k d lt) (fixpoint k d lt);
}
  where
    satisfied : {c : List Lit} → IsClause vars c → IsSettled (values_of trail.steps) c → IsSatisfied (assignment_of (values_list vars trail.steps)) c
    satisfied {c} is (inl t) =
        let range = All-contains (λ (l : Lit). (1 ≤ l.var) × (l.var ≤ vars)) c t.0 is.in_range t.1.0 in
        (t.0, (t.1.0, value-in_list vars trail.steps t.0.var range.0 range.1 ∙ true_literal t.0.positive (values_of trail.steps t.0.var) t.1.1))
    satisfied {c} is (inr two) =
        let range = All-contains (λ (l : Lit). (1 ≤ l.var) × (l.var ≤ vars)) c two.one is.in_range two.has_one in
        absurd (complete two.one.var range.0 (omega (arith, range.1, same)) (open_literal two.one.positive (values_of trail.steps two.one.var) two.one_open))

-- one value more
pub values_list-more : (n : ℕ) (steps : List Step) → values_list (n + 1) steps ≡ values_list n steps ++ unwrap_or (values_of steps (n + 1)) false ∷ []
values_list-more n steps = map-range_with_len_more (λ v. unwrap_or (values_of steps (v + 1)) false) 0 n n (omega arith)

-- a solver over a formula, with an empty log
pub Inner-opened : (turns : ℕ) (empty : Option ℕ) (vars : ℕ) (clauses : List (List Lit)) (trail : State) (lines : List Line) → trail ≡ record { vars = vars; clauses = clauses; steps = [] } → IsTrail trail → lines ≡ [] →
    MatchOption empty (NoneEmpty clauses) (IsFirstEmpty clauses) → length clauses + turns < 2 ^ 31 → IsInner turns empty trail (record { lines = lines; last = None }) false
Inner-opened turns empty vars clauses trail lines is valid none first room =
    let vars_is = ap (λ (t : State). t.vars) is in
    let clauses_is = ap (λ (t : State). t.clauses) is in
    let zero_level : level_of trail.steps ≡ 0 = ap (λ (t : State). level_of t.steps) is in
    let form : AreClauses vars clauses = subst (λ cs. AreClauses vars cs) clauses_is (subst (λ v. AreClauses v trail.clauses) vars_is valid.clauses) in
    let going : IsSearching vars clauses lines trail = subst (λ ls. IsSearching vars clauses ls trail) (sym none) (record {
      form = form;
      valid = valid;
      same_vars = vars_is;
      same_clauses = clauses_is ∙ sym (append-nil clauses);
      lower = Lower-zero trail zero_level;
      hold = λ i lt. absurd (omega arith);
      fresh = λ i d lt. absurd (omega arith);
    }) in
    let s = Searches-own vars clauses lines trail going in
    let formula = formula_is vars clauses lines trail going in
    record {
      searching = s;
      first = subst (λ cs. MatchOption empty (NoneEmpty cs) (IsFirstEmpty cs)) (sym formula) first;
      solver = record {
        form = s.form;
        room = subst (λ cs. length cs + turns < 2 ^ 31) (sym formula) room;
        few = omega (arith, ap length none);
        hold = s.hold;
        fresh = s.fresh;
        last = tt;
        model = tt;
        unfinished = λ e. refl;
      };
    }

-- a solver that keeps a model
pub Inner-model : (turns : ℕ) (empty : Option ℕ) (old trail : State) (old_lines lines : List Line) (last : Option (List ℕ)) → MatchOption empty (NoneEmpty (formula_in old.clauses old_lines)) (IsFirstEmpty (formula_in old.clauses old_lines)) →
    length (formula_in old.clauses old_lines) + turns < 2 ^ 31 → SameFormula old_lines old lines trail → Searches lines trail → length lines ≤ turns →
    IsFixpoint (values_of trail.steps) trail.clauses × IsComplete trail → last ≡ None → IsInner turns empty trail (record { lines = lines; last = last }) true
Inner-model turns empty old trail old_lines lines last first room same s few ending none = record {
  searching = s;
  first = subst (λ cs. MatchOption empty (NoneEmpty cs) (IsFirstEmpty cs)) (sym same.clauses) first;
  solver = record {
    form = s.form;
    room = subst (λ cs. length cs + turns < 2 ^ 31) (sym same.clauses) room;
    few = few;
    hold = s.hold;
    fresh = s.fresh;
    last = subst (LastHolds (clauses_with (formula_in trail.clauses lines) lines)) (sym none) tt;
    model = Model-from_fixpoint trail.vars trail (clauses_with (formula_in trail.clauses lines) lines) refl
        (subst (AreClauses trail.vars) s.same_clauses s.valid.clauses) (subst (IsFixpoint (values_of trail.steps)) s.same_clauses ending.0) ending.1;
    unfinished = λ e. none;
  };
}
