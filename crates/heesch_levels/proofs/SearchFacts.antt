-- How the state of a search goes on.
use Rattle.std.proofs.Common.{◌≡◌, refl, sym, ap, subst, ◌∙◌, ℕ, List, [], ◌∷◌, ◌++◌, ◌≤◌, length, Bool, map, All, append-nil}
use Rattle.std.proofs.lemmas.List.{map-append}
use Rattle.std.specs.Prelude.{Option, None, Some, IfSome, MatchOption, unwrap_or}
use Rattle.std.proofs.lemmas.List.Elements.{All-contains, All-push, Contains-append_left}
use Rattle.heesch_grid.proofs.ListFacts.{All-from_members}
use Rattle.heesch_grid.specs.Geometry.{Geometry}
use Rattle.heesch_cnf.specs.declared.literal.Lit.{Lit}
use Rattle.heesch_cnf.specs.declared.log.Line.TheVariants.{Given}
use Rattle.heesch_cnf.specs.Meaning.{given_clauses}
use Rattle.heesch_cdcl.specs.Learning.{LearnsMore}
use Rattle.heesch_cdcl.specs.Problem.{Problem, IsSolver, IsModel, SameProblem}
use Rattle.heesch_cdcl.specs.Searching.{NoFinal}
use Rattle.heesch_cnf.specs.declared.log.Line.{Line}
use Rattle.heesch_cnf.specs.Clauses.{Satisfies, IsSatisfied, assignment_of}
use Rattle.heesch_cnf.specs.Lines.{clauses_with, clauses_of}
use Rattle.heesch_cnf.proofs.Conflict.{shown_follows_lem}
use Rattle.heesch_cnf.proofs.Lists.{Contains-none}
use Rattle.heesch_cert.specs.declared.proof.Cut.{Cut}
use Rattle.heesch_cert.specs.Cuts.{cut_clause}
use Rattle.heesch_place.specs.Universes.{Levels}
use Rattle.heesch_levels.specs.declared.searching.Search.{Search}
use Rattle.heesch_levels.specs.Searching.{GoesOn, IsCutUpTo, IsSearch}
use Rattle.heesch_levels.proofs.StepFacts.{given_append, given_learns}

-- a model of the formula of a problem is one of the same problem's
same_model : (p q : Problem) (cuts : List Cut) → SameProblem p q → (holed : Option (List Bool)) → MatchOption holed (cuts ≡ []) (IsModel p.vars p.clauses) → MatchOption holed (cuts ≡ []) (IsModel q.vars q.clauses)
same_model p q cuts same None h = h
same_model p q cuts same (Some values) h = subst (λ n. IsModel n q.clauses values) (sym same.vars) (subst (λ cs. IsModel p.vars cs values) (sym same.clauses) h)

-- the model that a problem keeps is one of its formula
satisfies_first : (values : ℕ → Bool) (xs ys : List (List Lit)) → Satisfies values (xs ++ ys) → Satisfies values xs
satisfies_first values xs ys h = All-from_members (IsSatisfied values) xs (λ c m. All-contains (IsSatisfied values) (xs ++ ys) c h (Contains-append_left xs ys c m))

pub model_first : (vars : ℕ) (clauses : List (List Lit)) (lines : List Line) (values : List Bool) → IsModel vars (clauses_with clauses lines) values → IsModel vars clauses values
model_first vars clauses lines values m = record { count = m.count; satisfies = satisfies_first (assignment_of values) clauses (clauses_of lines) m.satisfies }

pub kept_model : (p : Problem) (values : List Bool) → IsSolver p → p.model ≡ Some values → IsModel p.vars p.clauses values
kept_model p values valid kept = model_first p.vars p.clauses p.log.lines values (subst (λ m. IfSome m (IsModel p.vars (clauses_with p.clauses p.log.lines))) kept valid.model)

-- the model that is known, or else this one
pub model_or : (p : Problem) (cuts : List Cut) (holed : Option (List Bool)) (values : List Bool) → MatchOption holed (cuts ≡ []) (IsModel p.vars p.clauses) → IsModel p.vars p.clauses values → IsModel p.vars p.clauses (unwrap_or holed values)
model_or p cuts None values h m = m
model_or p cuts (Some known) values h m = h

-- a search goes on where Learn lines are added
pub search_learns : (g : Geometry) (u : Levels) (k : ℕ) (s : Search) (q : Problem) → IsSearch g u k s → SameProblem s.solver q → LearnsMore s.solver.log.lines q.log.lines → IsSolver q → GoesOn g u k s (record s { solver = q })
search_learns g u k s q is same more valid = record {
  search = record {
    within = subst (λ n. length u.vars ≤ n) (sym same.vars) is.within;
    valid = valid;
    turns_are = same.turns ∙ is.turns_are;
    lawful = is.lawful;
    given =
        ap given_clauses more.1.0 ∙ given_append s.solver.log.lines more.0 ∙ ap (λ cs. given_clauses s.solver.log.lines ++ cs) (given_learns more.0 more.1.1) ∙ append-nil (given_clauses s.solver.log.lines) ∙ is.given;
    some_model = same_model s.solver q s.cuts same s.holed is.some_model;
  };
  same = same;
  turns = refl;
}

-- a search goes on where the clause of a lawful cut is given
pub search_gives : (g : Geometry) (u : Levels) (k : ℕ) (s : Search) (q : Problem) (more : List Cut) (cut : Cut) (clause : List Lit) (values : List Bool) →
    IsSearch g u k s → IsCutUpTo g u k cut → clause ≡ cut_clause u.vars cut →
    q ≡ record s.solver { log = record { lines = s.solver.log.lines ++ Given clause ∷ []; last = s.solver.log.last }; model = None } → more ≡ s.cuts ++ cut ∷ [] → IsSolver q → s.solver.model ≡ Some values →
    GoesOn g u k s (record { solver = q; turns = s.turns; cuts = more; holed = Some (unwrap_or s.holed values) })
search_gives g u k s q more cut clause values is lawful clause_is after more_are valid kept = record {
  search = record {
    within = subst (λ (r : Problem). length u.vars ≤ r.vars) (sym after) is.within;
    valid = valid;
    turns_are = ap (λ (r : Problem). r.turns) after ∙ is.turns_are;
    lawful = subst (All (IsCutUpTo g u k)) (sym more_are) (All-push (IsCutUpTo g u k) s.cuts cut is.lawful lawful);
    given =
        ap (λ (r : Problem). given_clauses r.log.lines) after ∙ given_append s.solver.log.lines (Given clause ∷ []) ∙ ap (λ cs. cs ++ clause ∷ []) is.given ∙ ap (λ c. map (cut_clause u.vars) s.cuts ++ c ∷ []) clause_is
        ∙ sym (map-append (cut_clause u.vars) s.cuts (cut ∷ [])) ∙ ap (map (cut_clause u.vars)) (sym more_are);
    some_model = subst (λ (r : Problem). IsModel r.vars r.clauses (unwrap_or s.holed values)) (sym after) (model_or s.solver s.cuts s.holed values is.some_model (kept_model s.solver values is.valid kept));
  };
  same = record { vars = ap (λ (r : Problem). r.vars) after; clauses = ap (λ (r : Problem). r.clauses) after; turns = ap (λ (r : Problem). r.turns) after };
  turns = refl;
}

-- where a model is kept, no final line holds
no_final_by : (clauses : List (List Lit)) (v : ℕ → Bool) → Satisfies v clauses → NoFinal clauses
no_final_by clauses v sat hints final = let s = shown_follows_lem clauses [] hints final v sat in Contains-none s.0 s.1.0

pub no_final_with_model : (p : Problem) (values : List Bool) → IsSolver p → p.model ≡ Some values → NoFinal (clauses_with p.clauses p.log.lines)
no_final_with_model p values valid kept =
    let model = subst (λ m. IfSome m (IsModel p.vars (clauses_with p.clauses p.log.lines))) kept valid.model in
    no_final_by (clauses_with p.clauses p.log.lines) (assignment_of values) model.satisfies
