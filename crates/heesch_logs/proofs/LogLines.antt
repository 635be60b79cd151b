-- The lines of steps, one after the other.
use Rattle.std.proofs.Common.{◌≡◌, sym, ap, subst, refl, ◌∙◌, ℕ, zero, suc, ◌+◌, ◌<◌, List, [], ◌∷◌, ◌++◌, map, length, take, get_or, All, arith, inl, inr}
use Rattle.std.proofs.lemmas.Bool.{cases_lt}
use Rattle.std.proofs.lemmas.List.{get_or_default, map-append, take_more}
use Rattle.std.proofs.lemmas.List.Elements.{All-head, All-tail, All-contains, All-push, Contains-get_or}
use Rattle.heesch_grid.specs.Geometry.{Geometry}
use Rattle.heesch_grid.specs.CoronaFormula.{Variable}
use Rattle.heesch_cnf.specs.declared.literal.Lit.{Lit}
use Rattle.heesch_cnf.specs.declared.log.Line.{Line}
use Rattle.heesch_cnf.specs.declared.log.Line.TheVariants.{Learn as LearnLine, Given}
use Rattle.heesch_cnf.specs.declared.log.Log.{Log}
use Rattle.heesch_cert.specs.Cuts.{cut_clause}
use Rattle.heesch_cert.specs.declared.proof.Step.{Step}
use Rattle.heesch_cert.specs.declared.proof.Step.TheVariants.{Learn, Cut}
use Rattle.heesch_cert.specs.declared.proof.Cut.{Cut as Forbidden}
use Rattle.heesch_cert.specs.declared.proof.Proof.{Proof}
use Rattle.heesch_cert.specs.Proofs.{HasNoCut, IsLearnStep, line_of_step, log_of}
use Rattle.heesch_place.specs.Universes.{Levels}
use Rattle.heesch_logs.specs.Admitted.{given_clause, IsAdmittedStep, line_with, lines_with}

module _ {S L : Type 0} (P : S → Type 0) (f : S → L) (steps : List S) (i : ℕ) (s : S) (below : i < length steps) (is : s ≡ get_or steps i s) where
  more : take (i + 1) steps ≡ take i steps ++ s ∷ []
  more = take_more steps i s below ∙ ap (λ x. take i steps ++ x ∷ []) (sym is)

  pub all_more : P s → All P (take i steps) → All P (take (i + 1) steps)
  all_more p h = subst (All P) (sym more) (All-push P (take i steps) s h p)

  pub lines_more : (l : L) (lines next : List L) → l ≡ f s → lines ≡ map f (take i steps) → next ≡ lines ++ l ∷ [] → next ≡ map f (take (i + 1) steps)
  lines_more l lines next e old added =
      added ∙ ((λ j. old j ++ e j ∷ []) ∙ (sym (map-append f (take i steps) (s ∷ [])) ∙ ap (map f) (sym more)))

  pub not_all : (¬ P s) → ¬ All P steps
  not_all fails all = fails (subst P (sym is) (All-contains P steps (get_or steps i s) all (Contains-get_or steps i s below)))

pub each_more : {X : Type 0} (P : X → Type 0) (xs : List X) (i : ℕ) (x : X) → i < length xs → x ≡ get_or xs i x → P x → ((k : ℕ) (d : X) → k < i → P (get_or xs k d)) → (k : ℕ) (d : X) → k < i + 1 → P (get_or xs k d)
each_more P xs i x below is p before k d l =
    elim (cases_lt k i) [
      | inl low ↦ before k d low
      | inr top ↦
          let same : i ≡ k = omega (arith, top, l) in
          subst (λ n. P (get_or xs n d)) same (subst P (is ∙ get_or_default xs i x d below) p)
    ]

-- there is a line for each step
pub lines_with-length : (steps : List Step) (given : List (List Lit)) → length (lines_with steps given) ≡ length steps
lines_with-length [] given = refl
lines_with-length (s ∷ ss) [] = ap suc (lines_with-length ss [])
lines_with-length (s ∷ ss) (c ∷ cs) = ap suc (lines_with-length ss cs)

-- the line of a place
pub lines_with-at : (steps : List Step) (given : List (List Lit)) (i : ℕ) (s : Step) (d : Line) → i < length steps → get_or (lines_with steps given) i d ≡ line_with (get_or steps i s) (get_or given i [])
lines_with-at [] given i s d lt = absurd (omega (arith, lt))
lines_with-at (x ∷ xs) [] zero s d lt = refl
lines_with-at (x ∷ xs) [] (suc i) s d lt = lines_with-at xs [] i s d (omega (arith, lt))
lines_with-at (x ∷ xs) (c ∷ cs) zero s d lt = refl
lines_with-at (x ∷ xs) (c ∷ cs) (suc i) s d lt = lines_with-at xs cs i s d (omega (arith, lt))

-- with what their steps give, these are the lines of the steps
pub lines_of_given : (vars : List Variable) (steps : List Step) → lines_with steps (map (given_clause vars) steps) ≡ map (line_of_step vars) steps
lines_of_given vars [] = refl
lines_of_given vars (Learn clause hints ∷ ss) = ap (λ (ls : List Line). LearnLine clause hints ∷ ls) (lines_of_given vars ss)
lines_of_given vars (Cut cut ∷ ss) = ap (λ (ls : List Line). Given (cut_clause vars cut) ∷ ls) (lines_of_given vars ss)

-- learnt steps ask for no clause
pub lines_of_learnt : (vars : List Variable) (steps : List Step) → All IsLearnStep steps → lines_with steps [] ≡ map (line_of_step vars) steps
lines_of_learnt vars [] all = refl
lines_of_learnt vars (Learn clause hints ∷ ss) all = ap (λ (ls : List Line). LearnLine clause hints ∷ ls) (lines_of_learnt vars ss (All-tail IsLearnStep (Learn clause hints) ss all))
lines_of_learnt vars (Cut cut ∷ ss) all = absurd (All-head IsLearnStep (Cut cut) ss all)

learnt_is_admitted : (g : Geometry) (u : Levels) (k : ℕ) (step : Step) → IsLearnStep step → IsAdmittedStep g u k step
learnt_is_admitted g u k (Learn clause hints) learnt = tt
learnt_is_admitted g u k (Cut cut) learnt = absurd learnt

-- they are admitted over every universe
pub admitted_of_learnt : (g : Geometry) (u : Levels) (k : ℕ) (steps : List Step) → All IsLearnStep steps → All (IsAdmittedStep g u k) steps
admitted_of_learnt g u k steps all = λ i d below. learnt_is_admitted g u k (get_or steps i d) (all i d below)

-- ---- the log of a proof by its lines

abbrev pub log_with : Proof → List Line → Log
log_with proof lines = record { lines = lines; last = proof.last }

pub log_of_learnt : (vars : List Variable) (proof : Proof) (given : List (List Lit)) → given ≡ [] → HasNoCut proof → log_with proof (lines_with proof.steps given) ≡ log_of vars proof
log_of_learnt vars proof given none all = ap (log_with proof) (ap (lines_with proof.steps) none ∙ lines_of_learnt vars proof.steps all)

-- without cuts the universe doesn't matter
pub log_of_none : (vars : List Variable) (proof : Proof) → HasNoCut proof → log_of [] proof ≡ log_of vars proof
log_of_none vars proof all = ap (log_with proof) (sym (lines_of_learnt [] proof.steps all) ∙ lines_of_learnt vars proof.steps all)

pub log_of_given : (vars : List Variable) (proof : Proof) (given : List (List Lit)) → given ≡ map (given_clause vars) proof.steps → log_with proof (lines_with proof.steps given) ≡ log_of vars proof
log_of_given vars proof given same = ap (log_with proof) (ap (lines_with proof.steps) same ∙ lines_of_given vars proof.steps)

-- a log that stands for the steps has a line for each
pub count_of : (proof : Proof) (given : List (List Lit)) (log : Log) → log_with proof (lines_with proof.steps given) ≡ log → length log.lines ≡ length proof.steps
count_of proof given log same = sym (ap (λ (l : Log). length l.lines) same) ∙ lines_with-length proof.steps given

-- and so a step at each of its places
pub step_at : (proof : Proof) (given : List (List Lit)) (log : Log) → log_with proof (lines_with proof.steps given) ≡ log → (steps : List Step) (index : ℕ) → steps ≡ proof.steps → index < length log.lines → index < length steps
step_at proof given log same steps index is below =
    let count = count_of proof given log same in
    let many : length steps ≡ length proof.steps = ap length is in
    omega (arith, count, many, below)

-- ---- the line at a place

module _ (steps : List Step) (given : List (List Lit)) (i : ℕ) (step : Step) (below : i < length steps) (is : step ≡ get_or steps i step) (d : Line) where
  there : get_or (lines_with steps given) i d ≡ line_with step (get_or given i [])
  there = lines_with-at steps given i step d below ∙ ap (λ s. line_with s (get_or given i [])) (sym is)

  pub learnt_there : (clause : List Lit) (hints : List ℕ) → step ≡ Learn clause hints → get_or (lines_with steps given) i d ≡ LearnLine clause hints
  learnt_there clause hints learn = there ∙ ap (λ s. line_with s (get_or given i [])) learn

  pub given_there : (cut : Forbidden) → step ≡ Cut cut → get_or (lines_with steps given) i d ≡ Given (get_or given i [])
  given_there cut forbids = there ∙ ap (λ s. line_with s (get_or given i [])) forbids
