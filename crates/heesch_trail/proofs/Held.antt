-- How the fields of the assignments stay together.
use Rattle.std.proofs.Common.{◌≡◌, ◌≢◌, ℕ, zero, suc, ◌+◌, ◌*◌, ◌-◌, ◌<◌, ◌≤◌, Bool, true, false, cond, eqb, not, Option, None, Some, option_map, List, [], ◌∷◌, ◌++◌, length, get_or, set, take, replicate, Decides, count_by, sym, ap, ◌∙◌, subst, inl, inr, refl, arith, length-append, length-set, get_or-set_same, get_or-set_other}
use Rattle.std.proofs.lemmas.List.{length-map, map-append, get_or-map}
use Rattle.std.proofs.lemmas.List.Sums.{sum_by-set, sum_by-append}
use Rattle.std.proofs.lemmas.List.Elements.{All-push}
use Rattle.std.proofs.lemmas.Bool.Decides.{Decides-eqb}
use Rattle.heesch_cnf.specs.declared.literal.Lit.{Lit}
use Rattle.heesch_cnf.specs.Literals.{lit_value, signed, opposite, making}
use Rattle.heesch_cnf.specs.Clauses.{AreClauses, IsClause}
use Rattle.heesch_cnf.specs.Flat.{code_of}
use Rattle.heesch_trail.specs.declared.step.Step.{Step}
use Rattle.heesch_trail.specs.declared.truth.Truth.{Truth}
use Rattle.heesch_trail.specs.declared.truth.Truth.TheVariants.{Open, Yes, No}
use Rattle.heesch_trail.specs.State.{State, StepHolds, StepsHold, made_by, values_of, fact_of, level_of}
use Rattle.heesch_trail.specs.Inner.{IsInner, value_in, is_open, reason_in, step_of, steps_of}
use Rattle.heesch_trail.proofs.Inner.{StepsHold-push, StepHolds-add, level_from-last}
use Rattle.heesch_trail.proofs.Undo.{StepHolds-last, StepsHold-pop}
use Rattle.heesch_trail.proofs.Visits.{true-pushed, other-pushed, kinds}
use Rattle.heesch_trail.proofs.Guards.{Code-fits, Code-same}
use Rattle.heesch_trail.proofs.Rounds.{Opposite-false}

pub made_by-steps : (levels reasons : List ℕ) (made : List Lit) → made_by (steps_of levels reasons made) ≡ made
made_by-steps levels reasons [] = refl
made_by-steps levels reasons (l ∷ ls) = ap (λ xs. l ∷ xs) (made_by-steps levels reasons ls)

abbrev step_with : Lit → ℕ → ℕ → Step
step_with l level reason = record { lit = l; level = level; reason = reason_in reason }

-- the levels and reasons of other variables don't matter
steps-kept : (levels reasons : List ℕ) (v a b : ℕ) (made : List Lit) → making made v ≡ None → steps_of (set levels v a) (set reasons v b) made ≡ steps_of levels reasons made
steps-kept levels reasons v a b [] none = refl
steps-kept levels reasons v a b (l ∷ ls) none = by_test (eqb l.var v) (Decides-eqb l.var v) (λ e. steps-kept levels reasons v a b ls e) none
  where
    by_test : (t : Bool) → Decides t (l.var ≡ v) → (making ls v ≡ None → steps_of (set levels v a) (set reasons v b) ls ≡ steps_of levels reasons ls) → cond t (Some l.positive) (making ls v) ≡ None → steps_of (set levels v a) (set reasons v b) (l ∷ ls) ≡ steps_of levels reasons (l ∷ ls)
    by_test true d rest e = absurd (let no : Some l.positive ≡ None = e in cc)
    by_test false d rest e =
        let level = get_or-set_other levels v l.var a 0 (λ q. let bad : false ≡ true = d.1 q in cc) in
        let reason = get_or-set_other reasons v l.var b 0 (λ q. let bad : false ≡ true = d.1 q in cc) in
        ap (λ x. step_with l x (get_or (set reasons v b) l.var 0) ∷ steps_of (set levels v a) (set reasons v b) ls) level
        ∙ ap (λ y. step_with l (get_or levels l.var 0) y ∷ steps_of (set levels v a) (set reasons v b) ls) reason
        ∙ ap (λ xs. step_of levels reasons l ∷ xs) (rest e)

-- one more assignment
pub steps-push : (levels reasons : List ℕ) (made : List Lit) (s : Step) (b : ℕ) → making made s.lit.var ≡ None → s.lit.var < length levels → s.lit.var < length reasons → reason_in b ≡ s.reason →
    steps_of (set levels s.lit.var s.level) (set reasons s.lit.var b) (made ++ s.lit ∷ []) ≡ steps_of levels reasons made ++ s ∷ []
steps-push levels reasons made s b none low high reason =
    let all_levels = set levels s.lit.var s.level in
    let all_reasons = set reasons s.lit.var b in
    let here : step_of (set levels s.lit.var s.level) (set reasons s.lit.var b) s.lit ≡ s =
    ap (λ x. step_with s.lit x (get_or (set reasons s.lit.var b) s.lit.var 0)) (get_or-set_same levels s.lit.var s.level 0 low)
    ∙ ap (λ y. step_with s.lit s.level y) (get_or-set_same reasons s.lit.var b 0 high)
    ∙ ap (λ r. let x : Step = record { lit = s.lit; level = s.level; reason = r } in x) reason in
    map-append (step_of all_levels all_reasons) made (s.lit ∷ [])
    ∙ ap (λ xs. xs ++ step_of all_levels all_reasons s.lit ∷ []) (steps-kept levels reasons s.lit.var s.level b made none)
    ∙ ap (λ x. steps_of levels reasons made ++ x ∷ []) here

-- the assignment of a variable
fact-held : (levels reasons : List ℕ) (made : List Lit) (v : ℕ) →
    fact_of (steps_of levels reasons made) v ≡ option_map (λ b. step_of levels reasons (record { var = v; positive = b })) (making made v)
fact-held levels reasons [] v = refl
fact-held levels reasons (l ∷ ls) v = by_test (eqb l.var v) (Decides-eqb l.var v) (fact-held levels reasons ls v)
  where
    by_test : (t : Bool) → Decides t (l.var ≡ v) → fact_of (steps_of levels reasons ls) v ≡ option_map (λ b. step_of levels reasons (record { var = v; positive = b })) (making ls v) → cond t (Some (step_of levels reasons l)) (fact_of (steps_of levels reasons ls) v) ≡ option_map (λ b. step_of levels reasons (record { var = v; positive = b })) (cond t (Some l.positive) (making ls v))
    by_test true d rest = ap (λ n. Some (step_of levels reasons (record { var = n; positive = l.positive }))) (d.0 refl)
    by_test false d rest = rest

fact-value : (levels reasons : List ℕ) (made : List Lit) (v : ℕ) →
    fact_of (steps_of levels reasons made) v ≡ option_map (λ b. step_of levels reasons (record { var = v; positive = b })) (values_of (steps_of levels reasons made) v)
fact-value levels reasons made v =
    fact-held levels reasons made v ∙ ap (λ ls. option_map (λ b. step_of levels reasons (record { var = v; positive = b })) (making ls v)) (sym (made_by-steps levels reasons made))

-- the assignment of a variable whose value was read
pub fact-read : (levels reasons : List ℕ) (made : List Lit) (steps : List Step) → steps_of levels reasons made ≡ steps → (v : ℕ) (value : Option Bool) → value ≡ values_of steps v → fact_of steps v ≡ option_map (λ b. step_of levels reasons (record { var = v; positive = b })) value
fact-read levels reasons made steps view v value is =
    subst (λ ss. fact_of ss v ≡ option_map (λ b. step_of levels reasons (record { var = v; positive = b })) (values_of ss v)) view (fact-value levels reasons made v)
    ∙ ap (option_map (λ b. step_of levels reasons (record { var = v; positive = b }))) (sym is)

-- a clause that was read
pub form-read : (vars : ℕ) (clauses : List (List Lit)) (seen : State) → vars ≡ seen.vars → clauses ≡ seen.clauses → AreClauses vars clauses → (index : ℕ) → index < length seen.clauses → (clause : List Lit) → clause ≡ get_or clauses index [] → IsClause seen.vars clause
form-read vars clauses seen same_vars same_clauses forms index lt clause is =
    subst (λ v. IsClause v clause) same_vars (subst (IsClause vars) (sym is) (forms index [] (subst (λ cs. index < length cs) (sym same_clauses) lt)))

-- the level of the last literal
pub level-held : (levels reasons : List ℕ) (made : List Lit) (l : Lit) → 0 < length made → l ≡ get_or made (length made - 1) l → get_or levels l.var 0 ≡ level_of (steps_of levels reasons made)
level-held levels reasons made l some is =
    let n = length made - 1 in
    ap (λ (m : Lit). get_or levels m.var 0) is
    ∙ sym (ap (λ (s : Step). s.level) (get_or-map (step_of levels reasons) made n l (step_of levels reasons l) (omega arith)))
    ∙ sym (level_from-last 0 (steps_of levels reasons made) n (step_of levels reasons l) (omega (arith, length-map made (step_of levels reasons))))

open_of : (t : Truth) → value_in t ≡ None → t ≡ Open
open_of Open e = refl
open_of Yes e = absurd (let no : Some true ≡ None = e in cc)
open_of No e = absurd (let no : Some false ≡ None = e in cc)

shut_of : (t : Truth) (b : Bool) → value_in t ≡ Some b → is_open t ≡ false
shut_of Open b e = absurd (let no : None ≡ Some b = e in cc)
shut_of Yes b e = refl
shut_of No b e = refl

signed-none : (p : Bool) (o : Option Bool) → o ≡ None → signed p o ≡ None
signed-none true o e = e
signed-none false None e = refl
signed-none false (Some b) e = absurd (let no : Some b ≡ None = e in cc)

code-apart : (l : Lit) → code_of (opposite l) ≢ code_of l
code-apart l e = by_sign l.positive e
  where
    by_sign : (p : Bool) → 2 * l.var + cond (not p) 1 0 ≡ 2 * l.var + cond p 1 0 → ⊥
    by_sign true e = omega arith
    by_sign false e = omega arith

code-low : (l : Lit) → 1 ≤ l.var → 2 ≤ code_of l
code-low l low = by_sign l.positive
  where
    by_sign : (p : Bool) → 2 ≤ 2 * l.var + cond p 1 0
    by_sign true = omega (arith, low)
    by_sign false = omega (arith, low)

abbrev weight : Truth → ℕ
weight t = cond (is_open t) 1 0

shut_weight : (t : Truth) → is_open t ≡ false → weight t ≡ 0
shut_weight Open e = absurd (let no : true ≡ false = e in cc)
shut_weight Yes e = refl
shut_weight No e = refl

count-open : (values : List Truth) → 0 < length values → get_or values 0 Open ≡ Open → 1 ≤ count_by is_open values
count-open values lt none = let was = ap weight none in omega (arith, was, sum_by-set weight values 0 Yes Open lt)

-- both literals of a variable have new values
record IsTurned (l : Lit) (a b : Truth) (old new : List Truth) : Type 0 where
  pub here : get_or new (code_of l) Open ≡ a
  pub there : get_or new (code_of (opposite l)) Open ≡ b
  pub others : (m : Lit) → m.var ≢ l.var → get_or new (code_of m) Open ≡ get_or old (code_of m) Open
  pub zero : get_or new 0 Open ≡ get_or old 0 Open
  pub size : length new ≡ length old
  pub count : count_by is_open new + (weight (get_or old (code_of l) Open) + weight (get_or old (code_of (opposite l)) Open)) ≡ count_by is_open old + (weight a + weight b)

Turned : (l : Lit) (a b : Truth) (old : List Truth) (vars : ℕ) → 1 ≤ l.var → l.var ≤ vars → length old ≡ 2 * vars + 2 → IsTurned l a b old (set (set old (code_of l) a) (code_of (opposite l)) b)
Turned l a b old vars low high room =
    let i = code_of l in
    let j = code_of (opposite l) in
    let mid = set old i a in
    let first : i < length old = Code-fits vars (length old) l high room in
    let second : j < length mid = subst (λ n. j < n) (sym (length-set old i a)) (Code-fits vars (length old) (opposite l) high room) in
    record {
      here = get_or-set_other mid j i b Open (λ q. code-apart l (sym q)) ∙ get_or-set_same old i a Open first;
      there = get_or-set_same mid j b Open second;
      others = λ m other.
          get_or-set_other mid j (code_of m) b Open (λ q. other (ap (λ (x : Lit). x.var) (Code-same m (opposite l) q)))
          ∙ get_or-set_other old i (code_of m) a Open (λ q. other (ap (λ (x : Lit). x.var) (Code-same m l q)));
      zero =
          get_or-set_other mid j 0 b Open (λ q. let past = code-low (opposite l) low in omega (arith, q, past))
          ∙ get_or-set_other old i 0 a Open (λ q. let past = code-low l low in omega (arith, q, past));
      size = length-set mid j b ∙ length-set old i a;
      count =
          let same = ap weight (get_or-set_other old i j a Open (λ q. code-apart l q)) in
          omega (arith, same, sum_by-set weight old i a Open first, sum_by-set weight (set old i a) j b Open second);
    }

-- one more assignment that holds
pub IsInner-push : (vars : ℕ) (clauses : List (List Lit)) (values : List Truth) (levels reasons : List ℕ) (made : List Lit) (s : Step) (b : ℕ) →
    IsInner vars clauses values levels reasons made → StepHolds vars clauses (steps_of levels reasons made) s → reason_in b ≡ s.reason →
    IsInner vars clauses (set (set values (code_of s.lit) Yes) (code_of (opposite s.lit)) No) (set levels s.lit.var s.level) (set reasons s.lit.var b) (made ++ s.lit ∷ [])
IsInner-push vars clauses values levels reasons made s b inner new reason =
    record {
      valid = record {
        clauses = inner.valid.clauses;
        steps = subst (StepsHold vars clauses) (sym pushed) (StepsHold-push vars clauses steps s inner.valid.steps new);
        few = omega (arith, size, counted, one);
      };
      held = record {
        room = turned.size ∙ inner.held.room;
        level_room = length-set levels s.lit.var s.level ∙ inner.held.level_room;
        reason_room = length-set reasons s.lit.var b ∙ inner.held.reason_room;
        values_are = λ m le. elim (kinds m s.lit) [
          | inl other ↦ ap value_in (turned.others m other) ∙ inner.held.values_are m le ∙ sym (other-pushed steps s m new.was_open other) ∙ back m
          | inr same ↦ elim same [
            | inl e ↦ subst (λ x. value_in (get_or all (code_of x) Open) ≡ lit_value after x) (sym e) (ap value_in turned.here ∙ sym (true-pushed steps s new.was_open) ∙ back s.lit)
            | inr e ↦ subst (λ x. value_in (get_or all (code_of x) Open) ≡ lit_value after x) (sym e) (ap value_in turned.there ∙ sym (Opposite-false (steps ++ s ∷ []) s.lit (true-pushed steps s new.was_open)) ∙ back (opposite s.lit))
          ]
        ];
        open_at_zero = turned.zero ∙ inner.held.open_at_zero;
        counted = counted;
      };
    }
  where
    steps : List Step
    steps = steps_of levels reasons made

    all : List Truth
    all = set (set values (code_of s.lit) Yes) (code_of (opposite s.lit)) No

    pushed : steps_of (set levels s.lit.var s.level) (set reasons s.lit.var b) (made ++ s.lit ∷ []) ≡ steps ++ s ∷ []
    pushed =
        let high = new.high in
        steps-push levels reasons made s b (ap (λ ls. making ls s.lit.var) (sym (made_by-steps levels reasons made)) ∙ new.was_open) (omega (arith, inner.held.level_room, high)) (omega (arith, inner.held.reason_room, high)) reason

    after : ℕ → Option Bool
    after = values_of (steps_of (set levels s.lit.var s.level) (set reasons s.lit.var b) (made ++ s.lit ∷ []))

    back : (m : Lit) → lit_value (values_of (steps ++ s ∷ [])) m ≡ lit_value after m
    back m = ap (λ ss. lit_value (values_of ss) m) (sym pushed)

    turned : IsTurned s.lit Yes No values all
    turned = Turned s.lit Yes No values vars new.low new.high inner.held.room

    counted : 2 * length (made ++ s.lit ∷ []) + count_by is_open all ≡ 2 * vars + 2
    counted =
        let here = ap weight (open_of (get_or values (code_of s.lit) Open) (inner.held.values_are s.lit new.high ∙ signed-none s.lit.positive (values_of steps s.lit.var) new.was_open)) in
        let there = ap weight (open_of (get_or values (code_of (opposite s.lit)) Open) (inner.held.values_are (opposite s.lit) new.high ∙ signed-none (not s.lit.positive) (values_of steps s.lit.var) new.was_open)) in
        let count = turned.count in
        omega (arith, here, there, count, inner.held.counted, length-append made (s.lit ∷ []))

    one : 1 ≤ count_by is_open all
    one = count-open all (omega (arith, turned.size, inner.held.room)) (turned.zero ∙ inner.held.open_at_zero)

    size : length (steps_of (set levels s.lit.var s.level) (set reasons s.lit.var b) (made ++ s.lit ∷ [])) ≡ length (made ++ s.lit ∷ [])
    size = length-map (made ++ s.lit ∷ []) (step_of (set levels s.lit.var s.level) (set reasons s.lit.var b))

-- the last assignment taken back
pub IsInner-pop : (vars : ℕ) (clauses : List (List Lit)) (values : List Truth) (levels reasons : List ℕ) (made : List Lit) (l : Lit) → IsInner vars clauses values levels reasons (made ++ l ∷ []) →
    IsInner vars clauses (set (set values (code_of l) Open) (code_of (opposite l)) Open) levels reasons made
IsInner-pop vars clauses values levels reasons made l inner =
    record {
      valid = record {
        clauses = inner.valid.clauses;
        steps = StepsHold-pop vars clauses steps s hold;
        few = let few = inner.valid.few in omega (arith, few, size, length-map made (step_of levels reasons), length-append made (l ∷ []));
      };
      held = record {
        room = turned.size ∙ inner.held.room;
        level_room = inner.held.level_room;
        reason_room = inner.held.reason_room;
        values_are = λ m le. elim (kinds m l) [
          | inl other ↦ ap value_in (turned.others m other) ∙ inner.held.values_are m le ∙ ap (λ ss. lit_value (values_of ss) m) split ∙ other-pushed steps s m holds.was_open other
          | inr same ↦ elim same [
            | inl e ↦ subst (λ x. value_in (get_or all (code_of x) Open) ≡ lit_value (values_of steps) x) (sym e) (ap value_in turned.here ∙ sym (signed-none l.positive (values_of steps l.var) holds.was_open))
            | inr e ↦ subst (λ x. value_in (get_or all (code_of x) Open) ≡ lit_value (values_of steps) x) (sym e) (ap value_in turned.there ∙ sym (signed-none (not l.positive) (values_of steps l.var) holds.was_open))
          ]
        ];
        open_at_zero = turned.zero ∙ inner.held.open_at_zero;
        counted =
            let yes = ap (λ ss. lit_value (values_of ss) l) split ∙ true-pushed steps s holds.was_open in
            let no = ap (λ ss. lit_value (values_of ss) (opposite l)) split ∙ Opposite-false (steps ++ s ∷ []) l (true-pushed steps s holds.was_open) in
            let here = shut_weight (get_or values (code_of l) Open) (shut_of (get_or values (code_of l) Open) true (inner.held.values_are l holds.high ∙ yes)) in
            let there = shut_weight (get_or values (code_of (opposite l)) Open) (shut_of (get_or values (code_of (opposite l)) Open) false (inner.held.values_are (opposite l) holds.high ∙ no)) in
            let count = turned.count in
            omega (arith, here, there, count, inner.held.counted, length-append made (l ∷ []));
      };
    }
  where
    steps : List Step
    steps = steps_of levels reasons made

    s : Step
    s = step_of levels reasons l

    all : List Truth
    all = set (set values (code_of l) Open) (code_of (opposite l)) Open

    split : steps_of levels reasons (made ++ l ∷ []) ≡ steps ++ s ∷ []
    split = map-append (step_of levels reasons) made (l ∷ [])

    hold : StepsHold vars clauses (steps ++ s ∷ [])
    hold = subst (StepsHold vars clauses) split inner.valid.steps

    holds : StepHolds vars clauses steps s
    holds = StepHolds-last vars clauses steps s hold

    turned : IsTurned l Open Open values all
    turned = Turned l Open Open values vars holds.low holds.high inner.held.room

    size : length (steps_of levels reasons (made ++ l ∷ [])) ≡ length (made ++ l ∷ [])
    size = length-map (made ++ l ∷ []) (step_of levels reasons)

-- one more clause
pub IsInner-add : (vars : ℕ) (clauses : List (List Lit)) (values : List Truth) (levels reasons : List ℕ) (made : List Lit) (c : List Lit) →
    IsInner vars clauses values levels reasons made → IsClause vars c → IsInner vars (clauses ++ c ∷ []) values levels reasons made
IsInner-add vars clauses values levels reasons made c inner form = record {
  valid = record {
    clauses = All-push (IsClause vars) clauses c inner.valid.clauses form;
    steps = λ i d lt. StepHolds-add vars clauses c (take i (steps_of levels reasons made)) (get_or (steps_of levels reasons made) i d) (inner.valid.steps i d lt);
    few = inner.valid.few;
  };
  held = inner.held;
}

open-replicate : (n v : ℕ) → get_or (replicate n Open) v Open ≡ Open
open-replicate zero v = refl
open-replicate (suc n) zero = refl
open-replicate (suc n) (suc v) = open-replicate n v

count-replicate : (n : ℕ) → count_by is_open (replicate n Open) ≡ n
count-replicate zero = refl
count-replicate (suc n) = omega (arith, sum_by-append weight (Open ∷ []) (replicate n Open), count-replicate n)

-- there is room for one more assignment
pub Room-left : (vars : ℕ) (clauses : List (List Lit)) (values : List Truth) (levels reasons : List ℕ) (made : List Lit) (l : Lit) (n : ℕ) →
    IsInner vars clauses values levels reasons made → StepHolds vars clauses (steps_of levels reasons made) (record { lit = l; level = n; reason = None }) → length (steps_of levels reasons made) + 1 ≤ vars
Room-left vars clauses values levels reasons made l n inner new =
    let s : Step = record { lit = l; level = n; reason = None } in
    let pushed = IsInner-push vars clauses values levels reasons made s 0 inner new refl in
    let few = pushed.valid.few in
    omega (arith, few, length-map (made ++ l ∷ []) (step_of (set levels l.var n) (set reasons l.var 0)), length-map made (step_of levels reasons), length-append made (l ∷ []))

-- a last literal has places in both lists
pub Last-fits : (vars : ℕ) (clauses : List (List Lit)) (values : List Truth) (levels reasons : List ℕ) (made : List Lit) (l : Lit) → IsInner vars clauses values levels reasons (made ++ l ∷ []) →
    (code_of l < length values) × (code_of (opposite l) < length values)
Last-fits vars clauses values levels reasons made l inner =
    let hold = subst (StepsHold vars clauses) (map-append (step_of levels reasons) made (l ∷ [])) inner.valid.steps in
    let holds = StepHolds-last vars clauses (steps_of levels reasons made) (step_of levels reasons l) hold in
    (Code-fits vars (length values) l holds.high inner.held.room, Code-fits vars (length values) (opposite l) holds.high inner.held.room)

-- what is held of the last literal
pub Last-held : (vars : ℕ) (clauses : List (List Lit)) (levels reasons : List ℕ) (made list : List Lit) (l : Lit) → StepsHold vars clauses (steps_of levels reasons made) → list ≡ made → 0 < length list → l ≡ get_or list (length list - 1) l →
    (l.var ≤ vars) × (get_or levels l.var 0 ≡ level_of (steps_of levels reasons made))
Last-held vars clauses levels reasons made list l hold same some is =
    let n = length made - 1 in
    let long = ap length same in
    let at : l ≡ get_or made n l = is ∙ ap (λ xs. get_or xs (length xs - 1) l) same in
    let d = step_of levels reasons l in
    let holds = hold n d (omega (arith, long, some, length-map made (step_of levels reasons))) in
    let step = get_or-map (step_of levels reasons) made n l d (omega (arith, long, some)) in
    let var : (get_or (steps_of levels reasons made) n d).lit.var ≡ l.var = ap (λ (s : Step). s.lit.var) step ∙ ap (λ (m : Lit). m.var) (sym at) in
    let high = holds.high in
    (omega (arith, high, var), level-held levels reasons made l (omega (arith, long, some)) at)
