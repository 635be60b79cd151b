-- Steps of the analysis, by what it reads of the trail.
use Rattle.std.proofs.Common.{◌≡◌, ℕ, ◌+◌, ◌-◌, ◌<◌, ◌≤◌, Bool, true, false, Option, None, Some, option_map, option_and_then, reverse, List, [], ◌∷◌, ◌++◌, length, get_or, set, take, MatchOption, sym, ap, ◌∙◌, subst, inl, inr, ◌⊎◌, refl, arith}
use Rattle.std.specs.List.{Contains}
use Rattle.std.proofs.lemmas.List.{ext_get_or, get_or-map, reverse-append}
use Rattle.std.proofs.lemmas.List.Elements.{All-contains}
use Rattle.heesch_cnf.specs.declared.literal.Lit.{Lit}
use Rattle.heesch_cnf.specs.Clauses.{IsClause, left_of}
use Rattle.heesch_cnf.specs.Lines.{numbered, IsNumber}
use Rattle.heesch_trail.specs.declared.step.Step.{Step}
use Rattle.heesch_trail.specs.State.{State, IsTrail, StepHolds, made_by, values_of, fact_of, level_of}
use Rattle.heesch_cdcl.specs.Marking.{Marking, marked, level_in, pending_in, AreMarks, MarksClause}
use Rattle.heesch_cdcl.specs.Resolved.{IsDerived, IsResolving}
use Rattle.heesch_cdcl.proofs.MarkLemmas.{same_or_not}
use Rattle.heesch_cdcl.proofs.Facts.{AtStep, at_step, assigned-fact, fact-is, fact-take, fact-level, fact-level_take}
use Rattle.heesch_cdcl.proofs.Resolving.{top_level, level_of_some, reason_before, reason_says, Derived-resolve, Resolving-resolve}

-- the clause of a number, as it is read
pub form_of : (trail : State) (n : ℕ) (clause : List Lit) → IsTrail trail → IsNumber trail.clauses n → clause ≡ numbered trail.clauses n → IsClause trail.vars clause
form_of trail n clause valid number is = subst (IsClause trail.vars) (sym is) (valid.clauses (n - 1) [] (let num = number in omega arith))

-- the assignment whose variable was read at a place
pub record IsRead (trail : State) (p n : ℕ) : Type 0 where
  pub step : Step
  pub at : AtStep trail p step
  pub var : step.lit.var ≡ n

read_step : (trail : State) (p : ℕ) (made : List Lit) → IsTrail trail → made ≡ made_by trail.steps → p < length trail.steps → IsRead trail p (get_or made p (record { var = 0; positive = false })).var
read_step trail p made valid is lt =
    let none : Lit = record { var = 0; positive = false } in
    let d : Step = record { lit = none; level = 0; reason = None } in
    record {
      step = get_or trail.steps p d;
      at = at_step trail p d valid lt;
      var = ap (λ (l : Lit). l.var) (sym (ap (λ ls. get_or ls p none) is ∙ get_or-map (λ (s : Step). s.lit) trail.steps p d none lt));
    }

-- the last assignment before a place
pub read_before : (trail : State) (p : ℕ) (made : List Lit) → IsTrail trail → made ≡ made_by trail.steps → p + 1 ≤ length trail.steps → IsRead trail p (get_or made p (record { var = 0; positive = false })).var
read_before trail p made valid is le = read_step trail p made valid is (omega arith)

-- the variables of the assignments are the trail's
pub made-in_range : (trail : State) (made : List Lit) (p : ℕ) → IsTrail trail → made ≡ made_by trail.steps → p < length trail.steps → (get_or made p (record { var = 0; positive = false })).var ≤ trail.vars
made-in_range trail made p valid is lt = let r = read_step trail p made valid is lt in omega (arith, r.var, r.at.holds.high)

pub reason_is : (trail : State) (p n : ℕ) (o : Option ℕ) → (r : IsRead trail p n) → o ≡ option_and_then (λ (s : Step). s.reason) (fact_of trail.steps n) → r.step.reason ≡ o
reason_is trail p n o r is =
    sym (is ∙ ap (λ v. option_and_then (λ (s : Step). s.reason) (fact_of trail.steps v)) (sym r.var) ∙ ap (option_and_then (λ (s : Step). s.reason)) r.at.fact)

pub some_pending : (pending level : ℕ) → (2 ≤ pending) ⊎ ((1 ≤ pending) × (level ≡ 0)) → 1 ≤ pending
some_pending pending level (inl two) = omega arith
some_pending pending level (inr one) = one.0

-- after the marks of its reason the variable is counted still
pub read_here : (trail : State) (p n : ℕ) (before after : Marking) (hints : List ℕ) (clause : List Lit) → IsTrail trail → (r : IsRead trail p n) → IsResolving trail (p + 1) before hints → 1 ≤ pending_in before →
    marked before.seen n ≡ true → MarksClause before.seen after.seen clause → AreMarks trail (level_of trail.steps) after → marked after.here n ≡ true
read_here trail p n before after hints clause valid r going le m marks are =
    are.seen_here n (marks.kept n m) (subst (λ v. level_in trail.steps v ≡ Some (level_of trail.steps)) r.var
    (ap (option_map (λ (x : Step). x.level)) r.at.fact ∙ ap Some (top_level trail p r.step before hints valid r.at going le)))

-- the clause of the reason was marked and the variable unmarked: what held after this place holds before it
module _ (trail : State) (p v n : ℕ) (before after : Marking) (mid : List Bool) (hints more : List ℕ) (r : IsRead trail p v) (is : r.step.reason ≡ Some n) (marks : MarksClause before.seen mid (numbered trail.clauses n))
    (room : v < length mid) (write : after.seen ≡ set mid v false) (push : more ≡ hints ++ n ∷ []) (are : AreMarks trail (level_of trail.steps) after) where
  turned : reverse more ≡ n ∷ reverse hints
  turned = ap reverse push ∙ reverse-append hints (n ∷ [])

  written : after.seen ≡ set mid r.step.lit.var false
  written = write ∙ ap (λ w. set mid w false) (sym r.var)

  fits : r.step.lit.var < length mid
  fits = subst (λ w. w < length mid) (sym r.var) room

  pub Resolving-read : IsResolving trail (p + 1) before (reverse hints) → IsResolving trail p after (reverse more)
  Resolving-read going = subst (λ hs. IsResolving trail p after hs) (sym turned) (Resolving-resolve trail p n r.step before after mid (reverse hints) r.at going is marks fits written are)

  pub Derived-read : IsDerived trail (p + 1) before (reverse hints) → IsDerived trail p after (reverse more)
  Derived-read going = subst (λ hs. IsDerived trail p after hs) (sym turned) (Derived-resolve trail p n r.step before after mid (reverse hints) r.at going is marks fits written are)

-- a variable that is marked, and not as one of the present level, isn't of it
not_here : (trail : State) (level v : ℕ) (ms : Marking) → AreMarks trail level ms → marked ms.seen v ≡ true → marked ms.here v ≡ false → level_in trail.steps v ≡ Some level → ⊥
not_here trail level v ms are m off at = let bad : false ≡ true = sym off ∙ are.seen_here v m at in cc

-- the other variables of its reason aren't either
reason_below : (trail : State) (p n : ℕ) (s : Step) (l : Lit) → IsTrail trail → AtStep trail p s → s.reason ≡ Some n → (level_in trail.steps s.lit.var ≡ Some (level_of trail.steps) → ⊥) → Contains (numbered trail.clauses n) l →
    level_in trail.steps l.var ≡ Some (level_of trail.steps) → ⊥
reason_below trail p n s l valid at is lower has level = elim (same_or_not s.lit.var l.var) [
  | inl e ↦ lower (ap (level_in trail.steps) e ∙ level)
  | inr ne ↦
      let f = assigned-fact (take p trail.steps) l.var (reason_before trail p n s l (reason_says trail p s n at is) has ne) in
      let low = fact-level_take trail p l.var f.0 valid (omega (arith, at.place_in)) f.1 in
      let high = level_of_some (fact_of trail.steps l.var) f.0 (level_of trail.steps) (fact-take p trail.steps l.var f.0 f.1) level in
      let follows : s.level ≡ level_of (take p trail.steps) = subst (λ o. MatchOption o (s.level ≡ level_of (take p trail.steps) + 1) (λ n. s.level ≡ level_of (take p trail.steps))) is at.holds.level in
      let most = fact-level trail s.lit.var s valid at.fact in
      let same : s.level ≡ level_of trail.steps = omega (arith, low, high, follows, most) in
      lower (ap (option_map (λ (x : Step). x.level)) at.fact ∙ ap Some same)
]

both_ways : (a b : Bool) → (a ≡ true → b ≡ true) → (b ≡ true → a ≡ true) → a ≡ b
both_ways true b there back = sym (there refl)
both_ways false true there back = back refl
both_ways false false there back = refl

-- where the reason of a lower level's assignment is marked, no more variables of the present level are
here_stays : (trail : State) (p n : ℕ) (s : Step) (ms mid : Marking) → IsTrail trail → AtStep trail p s → s.reason ≡ Some n → AreMarks trail (level_of trail.steps) ms →
    AreMarks trail (level_of trail.steps) mid → MarksClause ms.seen mid.seen (numbered trail.clauses n) → marked ms.seen s.lit.var ≡ true → marked ms.here s.lit.var ≡ false → mid.here ≡ ms.here
here_stays trail p n s ms mid valid at is are new marks m off =
    ext_get_or false mid.here ms.here (new.here_room ∙ sym are.here_room) (λ v lt. both_ways (marked mid.here v) (marked ms.here v) (back v) (there v))
  where
    there : (v : ℕ) → marked ms.here v ≡ true → marked mid.here v ≡ true
    there v h = let old = are.here_seen v h in new.seen_here v (marks.kept v old.0) old.1

    back : (v : ℕ) → marked mid.here v ≡ true → marked ms.here v ≡ true
    back v h =
        let now = new.here_seen v h in
        elim (marks.others v now.0) [
          | inl was ↦ are.seen_here v was now.1
          | inr w ↦
              let lower = not_here trail (level_of trail.steps) s.lit.var ms are m off in
              absurd (reason_below trail p n s w.0 valid at is lower w.1.0 (ap (level_in trail.steps) w.1.1 ∙ now.1))
        ]

-- the same, as it is read
pub here_kept : (trail : State) (p v n : ℕ) (ms mid : Marking) → IsTrail trail → (r : IsRead trail p v) → r.step.reason ≡ Some n → AreMarks trail (level_of trail.steps) ms →
    AreMarks trail (level_of trail.steps) mid → MarksClause ms.seen mid.seen (numbered trail.clauses n) → marked ms.seen v ≡ true → marked ms.here v ≡ false → mid.here ≡ ms.here
here_kept trail p v n ms mid valid r is are new marks m off =
    here_stays trail p n r.step ms mid valid r.at is are new marks (ap (marked ms.seen) r.var ∙ m) (ap (marked ms.here) r.var ∙ off)

number_of : (trail : State) (s : Step) (before : List Step) → StepHolds trail.vars trail.clauses before s → MatchOption s.reason (Unit {0}) (IsNumber trail.clauses)
number_of trail s before holds = by_number s.reason holds.reason
  where
    by_number : (o : Option ℕ) → MatchOption o (Unit {0}) (λ n. IsNumber trail.clauses n × (left_of (values_of before) (numbered trail.clauses n) ≡ s.lit ∷ [])) → MatchOption o (Unit {0}) (IsNumber trail.clauses)
    by_number None h = tt
    by_number (Some n) h = h.0

-- a variable's reason is a number of the clauses
pub reason_number : (trail : State) (v n : ℕ) → IsTrail trail → option_and_then (λ (s : Step). s.reason) (fact_of trail.steps v) ≡ Some n → IsNumber trail.clauses n
reason_number trail v n valid is = by_fact (fact_of trail.steps v) refl is
  where
    by_fact : (o : Option Step) → fact_of trail.steps v ≡ o → option_and_then (λ (s : Step). s.reason) o ≡ Some n → IsNumber trail.clauses n
    by_fact None e none = absurd (let bad : None ≡ Some n = none in cc)
    by_fact (Some s) e some =
        let has = (fact-is trail.steps v s e).0 in
        let all = All-contains (λ (s : Step). MatchOption s.reason (Unit {0}) (IsNumber trail.clauses)) trail.steps s (λ i d lt. number_of trail (get_or trail.steps i d) (take i trail.steps) (valid.steps i d lt)) has in
        subst (λ o. MatchOption o (Unit {0}) (IsNumber trail.clauses)) some all
