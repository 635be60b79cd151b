use Rattle.std.proofs.Common.{◌≡◌, ◌≢◌, ℕ, ◌+◌, ◌-◌, ◌<◌, ◌≤◌, Bool, true, false, cond, eqb, not, is_some, Option, None, Some, List, [], ◌∷◌, ◌++◌, length, get_or, take, Contains, IsSome, Decides, sym, ap, ◌∙◌, subst, inl, inr, ◌⊎◌, refl, arith, append_assoc, append-nil, length-append}
use Rattle.std.proofs.lemmas.List.{take_at, get_or_at, map-append}
use Rattle.std.proofs.lemmas.List.Elements.{All-append, All-weaker, All-contains_itself}
use Rattle.std.proofs.lemmas.Bool.Decides.{Decides-eqb}
use Rattle.heesch_cnf.specs.declared.literal.Lit.{Lit}
use Rattle.heesch_cnf.specs.Literals.{Values, lit_value, signed, opposite, making}
use Rattle.heesch_cnf.specs.Clauses.{left_of}
use Rattle.heesch_cnf.specs.Lines.{numbered}
use Rattle.heesch_trail.specs.declared.step.Step.{Step}
use Rattle.heesch_trail.specs.Fixpoint.{IsUnit, HasTrue}
use Rattle.heesch_trail.specs.State.{State, IsTrail, StepHolds, StepsHold, made_by, values_of, level_of, Continues}
use Rattle.heesch_trail.proofs.Inner.{with_value, lookup-push}
use Rattle.heesch_trail.proofs.Settled.{left_has}
use Rattle.heesch_trail.proofs.Levels.{Continues-level, StepHolds-unit}
use Rattle.heesch_trail.proofs.Undo.{with_value-here}

-- one more assignment, to an open variable
pub values-push : (steps : List Step) (s : Step) → values_of steps s.lit.var ≡ None → values_of (steps ++ s ∷ []) ≡ with_value s.lit.var (Some s.lit.positive) (values_of steps)
values-push steps s none = ap making (map-append (λ (x : Step). x.lit) steps (s ∷ [])) ∙ lookup-push (λ (l : Lit). l.var) (λ (l : Lit). l.positive) (made_by steps) s.lit none

pub value_elsewhere : {A : Type 0} (n v : ℕ) (a : A) (f : ℕ → A) → v ≢ n → with_value n a f v ≡ f v
value_elsewhere n v a f other = by_test (eqb n v) (Decides-eqb n v)
  where
    by_test : (t : Bool) → Decides t (n ≡ v) → cond t a (f v) ≡ f v
    by_test true d = absurd (other (sym (d.0 refl)))
    by_test false d = refl

signed-itself : (p : Bool) → signed p (Some p) ≡ Some true
signed-itself true = refl
signed-itself false = refl

-- its literal is true then
pub true-pushed : (steps : List Step) (s : Step) → values_of steps s.lit.var ≡ None → lit_value (values_of (steps ++ s ∷ [])) s.lit ≡ Some true
true-pushed steps s none =
    ap (λ (f : Values). signed s.lit.positive (f s.lit.var)) (values-push steps s none)
    ∙ ap (signed s.lit.positive) (with_value-here s.lit.var (Some s.lit.positive) (values_of steps))
    ∙ signed-itself s.lit.positive

-- the literals of other variables keep their values
pub other-pushed : (steps : List Step) (s : Step) (l : Lit) → values_of steps s.lit.var ≡ None → l.var ≢ s.lit.var → lit_value (values_of (steps ++ s ∷ [])) l ≡ lit_value (values_of steps) l
other-pushed steps s l none other =
    ap (λ (f : Values). signed l.positive (f l.var)) (values-push steps s none)
    ∙ ap (signed l.positive) (value_elsewhere s.lit.var l.var (Some s.lit.positive) (values_of steps) other)

-- a literal is of another variable, or the same, or the opposite
pub kinds : (l s : Lit) → (l.var ≢ s.var) ⊎ ((l ≡ s) ⊎ (l ≡ opposite s))
kinds l s = by_test (eqb l.var s.var) (Decides-eqb l.var s.var)
  where
    by_signs : (p q : Bool) → l.var ≡ s.var → (p ≡ q) ⊎ (p ≡ not q)
    by_signs true true e = inl refl
    by_signs true false e = inr refl
    by_signs false true e = inr refl
    by_signs false false e = inl refl

    made_of : (v w : ℕ) (p q : Bool) → v ≡ w → p ≡ q → (let a : Lit = record { var = v; positive = p } in let b : Lit = record { var = w; positive = q } in a ≡ b)
    made_of v w p q e f = ap (λ x. let a : Lit = record { var = x; positive = p } in a) e ∙ ap (λ y. let a : Lit = record { var = w; positive = y } in a) f

    by_test : (t : Bool) → Decides t (l.var ≡ s.var) → (l.var ≢ s.var) ⊎ ((l ≡ s) ⊎ (l ≡ opposite s))
    by_test true d = elim (by_signs l.positive s.positive (d.0 refl)) [
      | inl same ↦ inr (inl (made_of l.var s.var l.positive s.positive (d.0 refl) same))
      | inr turned ↦ inr (inr (made_of l.var s.var l.positive (not s.positive) (d.0 refl) turned))
    ]
    by_test false d = inl (λ q. let no : false ≡ true = d.1 q in cc)

-- a literal that has a value isn't of an open variable
pub value_of-open : (values : Values) (l : Lit) (v : ℕ) (b : Bool) → values v ≡ None → lit_value values l ≡ Some b → l.var ≢ v
value_of-open values l v b none is e = by_sign l.positive (values l.var) (ap values e ∙ none) is
  where
    by_sign : (p : Bool) (o : Option Bool) → o ≡ None → signed p o ≡ Some b → ⊥
    by_sign true None n i = let no : None ≡ Some b = i in cc
    by_sign false None n i = let no : None ≡ Some b = i in cc
    by_sign p (Some a) n i = let no : Some a ≡ None = n in cc

-- a literal's value stays, with one more assignment
pub Value-push : (steps : List Step) (s : Step) (l : Lit) (b : Bool) → values_of steps s.lit.var ≡ None → lit_value (values_of steps) l ≡ Some b → lit_value (values_of (steps ++ s ∷ [])) l ≡ Some b
Value-push steps s l b none is = other-pushed steps s l none (value_of-open (values_of steps) l s.lit.var b none is) ∙ is

-- what each more assignment keeps, all of them keep
pub Steps-more : (P : List Step → Type 0) (vars : ℕ) (clauses : List (List Lit)) (low : ℕ) (made steps : List Step) → StepsHold vars clauses (steps ++ made) → low ≤ length steps →
    ((ss : List Step) (s : Step) → values_of ss s.lit.var ≡ None → low ≤ length ss → P ss → P (ss ++ s ∷ [])) → P steps → P (steps ++ made)
Steps-more P vars clauses low [] steps hold le keep here = subst P (sym (append-nil steps)) here
Steps-more P vars clauses low (x ∷ xs) steps hold le keep here =
    let at = hold (length steps) x (omega (arith, length-append steps (x ∷ xs))) in
    let first = subst (λ b. StepHolds vars clauses b x) (take_at steps (x ∷ xs) (length steps) refl) (subst (StepHolds vars clauses (take (length steps) (steps ++ x ∷ xs))) (get_or_at steps x xs x (length steps) refl) at) in
    let assoc = append_assoc steps (x ∷ []) xs in
    subst P assoc
    (Steps-more P vars clauses low xs (steps ++ x ∷ []) (subst (StepsHold vars clauses) (sym assoc) hold) (omega (arith, le, length-append steps (x ∷ []))) keep (keep steps x first.was_open le here))

pub Continues-keeps : (P : List Step → Type 0) (old new : State) (low : ℕ) → IsTrail new → Continues old new → low ≤ length old.steps →
    ((ss : List Step) (s : Step) → values_of ss s.lit.var ≡ None → low ≤ length ss → P ss → P (ss ++ s ∷ [])) → P old.steps → P new.steps
Continues-keeps P old new low valid go le keep here =
    let steps = ap (λ (st : State). st.steps) go.1.0 in
    subst P (sym steps) (Steps-more P new.vars new.clauses low go.0 old.steps (subst (StepsHold new.vars new.clauses) steps valid.steps) le keep here)

-- values stay
pub Value-continues : (old new : State) (l : Lit) (b : Bool) → IsTrail new → Continues old new → lit_value (values_of old.steps) l ≡ Some b → lit_value (values_of new.steps) l ≡ Some b
Value-continues old new l b valid go is =
    let P : List Step → Type 0 = λ ss. lit_value (values_of ss) l ≡ Some b in
    Continues-keeps P old new 0 valid go (omega arith) (λ ss s none le here. Value-push ss s l b none here) is

pub same_clauses : (old new : State) → Continues old new → new.clauses ≡ old.clauses
same_clauses old new go = ap (λ (st : State). st.clauses) go.1.0

pub more_steps : (old new : State) → Continues old new → length old.steps ≤ length new.steps
more_steps old new go = omega (arith, ap (λ (st : State). length st.steps) go.1.0, length-append old.steps go.0)

-- a clause with a true literal keeps it
pub HasTrue-continues : (old new : State) (k : ℕ) → IsTrail new → Continues old new → HasTrue (values_of old.steps) (get_or old.clauses k []) → HasTrue (values_of new.steps) (get_or new.clauses k [])
HasTrue-continues old new k valid go t =
    subst (λ (cs : List (List Lit)). HasTrue (values_of new.steps) (get_or cs k [])) (sym (same_clauses old new go)) (t.0, (t.1.0, Value-continues old new t.0 true valid go t.1.1))

pub Continues-both : (old mid new : State) → Continues old mid → Continues mid new → Continues old new
Continues-both old mid new go on =
    let P : Step → Type 0 = λ s. (s.level ≡ level_of old.steps) × IsSome s.reason in
    let Q : Step → Type 0 = λ s. (s.level ≡ level_of mid.steps) × IsSome s.reason in (
      go.0 ++ on.0,
      (
        on.1.0 ∙ ap (λ (st : State). record st { steps = st.steps ++ on.0 }) go.1.0 ∙ ap (λ steps. record old { steps = steps }) (append_assoc old.steps go.0 on.0),
        All-append P go.0 on.0 go.1.1 (All-weaker Q P (λ s h. (h.0 ∙ Continues-level old mid go, h.1)) on.0 on.1.1),
      ),
    )

-- the clause of an index is that of the number after it
pub at_number : (clauses : List (List Lit)) (index : ℕ) → numbered clauses (index + 1) ≡ get_or clauses index []
at_number clauses index = ap (λ k. get_or clauses k []) (let e : index + 1 - 1 ≡ index = omega arith in e)

pub StepHolds-read : (trail : State) (index : ℕ) (l : Lit) → IsTrail trail → index < length trail.clauses → IsUnit (values_of trail.steps) (get_or trail.clauses index []) l →
    StepHolds trail.vars trail.clauses trail.steps (record { lit = l; level = level_of trail.steps; reason = Some (index + 1) })
StepHolds-read trail index l valid lt unit =
    StepHolds-unit trail (index + 1) l valid (omega arith, omega arith) (subst (λ clause. IsUnit (values_of trail.steps) clause l) (sym (at_number trail.clauses index)) unit)

-- a unit clause has a true literal once that is made true
pub HasTrue-followed : (steps : List Step) (s : Step) (clause : List Lit) → values_of steps s.lit.var ≡ None → left_of (values_of steps) clause ≡ s.lit ∷ [] → HasTrue (values_of (steps ++ s ∷ [])) clause
HasTrue-followed steps s clause none alone =
    (s.lit, (left_has (Contains clause) (values_of steps) clause s.lit (All-contains_itself clause) alone, true-pushed steps s none))

pub none_of_value : (o : Option Bool) → is_some o ≡ false → o ≡ None
none_of_value None e = refl
none_of_value (Some b) e = absurd (let bad : true ≡ false = e in cc)
