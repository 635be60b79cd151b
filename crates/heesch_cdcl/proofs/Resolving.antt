use Rattle.std.proofs.Common.{◌≡◌, ◌≢◌, ℕ, zero, suc, ◌+◌, ◌-◌, ◌<◌, ◌≤◌, Bool, true, false, not, cond, eqb, Option, None, Some, option_map, List, [], ◌∷◌, length, set, take, Decides, MatchOption, count_by, sym, ap, ◌∙◌, subst, inl, inr, ◌⊎◌, refl, arith}
use Rattle.std.specs.List.{Contains}
use Rattle.std.proofs.lemmas.List.Sums.{sum_by-set}
use Rattle.std.proofs.lemmas.List.{take_all, get_or_past}
use Rattle.std.proofs.lemmas.List.Elements.{All-nil, All-cons}
use Rattle.std.proofs.lemmas.Bool.{cases_lt}
use Rattle.std.proofs.lemmas.Bool.Decides.{Decides-eqb}
use Rattle.heesch_cnf.specs.declared.literal.Lit.{Lit}
use Rattle.heesch_cnf.specs.Literals.{Values, lit_value, signed, is_false_value}
use Rattle.heesch_cnf.specs.Clauses.{left_of}
use Rattle.heesch_cnf.specs.Lines.{numbered, is_empty, IsNumber}
use Rattle.heesch_cnf.proofs.Lists.{Contains-none, Contains-cases, Contains-filter}
use Rattle.heesch_trail.specs.declared.step.Step.{Step}
use Rattle.heesch_trail.specs.Fixpoint.{IsFalse, IsSettled}
use Rattle.heesch_trail.specs.State.{State, IsTrail, values_of, fact_of, level_of, up_to}
use Rattle.heesch_cdcl.specs.Derivation.{Matches, Derives}
use Rattle.heesch_cdcl.specs.Marking.{Marking, marked, pending_in, AreMarks, MarksClause}
use Rattle.heesch_cdcl.specs.Resolved.{IsDerived, IsResolving, IsBegun}
use Rattle.heesch_trail.specs.Seen.{IsConflict}
use Rattle.heesch_cdcl.specs.Search.{LowerFixpoints}
use Rattle.heesch_cdcl.proofs.Derive.{Derives-start, Derives-earlier, Derives-resolve, values_of-push}
use Rattle.heesch_cdcl.proofs.MarkLemmas.{some_marked, same_or_not, marked-set_same, marked-set_other}
use Rattle.heesch_cdcl.proofs.Facts.{AtStep, Trail-apart, assigned-fact, fact-take, fact-level, fact-level_take, fact-value, value-take, value-low}

-- a marked variable has a place
marked-room : (places : List Bool) (v : ℕ) → marked places v ≡ true → v < length places
marked-room places v m = elim (cases_lt v (length places)) [ inl lt ↦ lt | inr ge ↦ absurd (let bad : false ≡ true = sym (get_or_past places v false ge) ∙ m in cc) ]

-- a marked variable of the level is counted
pub positive_count : (places : List Bool) (v : ℕ) → marked places v ≡ true → 1 ≤ count_by (λ b. b) places
positive_count places v m =
    let weight : Bool → ℕ = λ b. cond b 1 0 in
    let was = ap weight m in
    omega (arith, sum_by-set weight places v false false (marked-room places v m), was)

-- besides one marked variable of at least two there is another
another_marked : (places : List Bool) (v : ℕ) → marked places v ≡ true → 2 ≤ count_by (λ b. b) places → (w : ℕ) × ((marked places w ≡ true) × (v ≡ w → ⊥))
another_marked places v m le =
    let weight : Bool → ℕ = λ b. cond b 1 0 in
    let was = ap weight m in
    let lt = marked-room places v m in
    let r = some_marked (set places v false) (omega (arith, sum_by-set weight places v false false lt, was)) in
    let differ : v ≡ r.0 → ⊥ = λ e. let bad : false ≡ true = sym (marked-set_same places v r.0 false lt e) ∙ r.1 in cc in
    (r.0, (sym (marked-set_other places v r.0 false differ) ∙ r.1, differ))

-- of at most one marked variable there is no other
pub only_marked : (places : List Bool) (v w : ℕ) → marked places v ≡ true → marked places w ≡ true → count_by (λ b. b) places ≤ 1 → v ≡ w
only_marked places v w mv mw le = elim (same_or_not v w) [
  | inl e ↦ e
  | inr ne ↦
      let weight : Bool → ℕ = λ b. cond b 1 0 in
      let was = ap weight mv in
      let lt = marked-room places v mv in
      let more = positive_count (set places v false) w (marked-set_other places v w false ne ∙ mw) in
      absurd (omega (arith, sum_by-set weight places v false false lt, was, more))
]

pub level_of_some : (o : Option Step) (s : Step) (k : ℕ) → o ≡ Some s → option_map (λ (x : Step). x.level) o ≡ Some k → s.level ≡ k
level_of_some o s k e at = let both : Some s.level ≡ Some k = sym (ap (option_map (λ (x : Step). x.level)) e) ∙ at in cc

-- a variable of the present level that is marked
pub record HasHere (trail : State) (v : ℕ) : Type 0 where
  pub step : Step
  pub fact : fact_of trail.steps v ≡ Some step
  pub level : step.level ≡ level_of trail.steps

pub here_facts : (trail : State) (place : ℕ) (ms : Marking) (hints : List ℕ) (v : ℕ) → IsDerived trail place ms hints → marked ms.here v ≡ true → HasHere trail v
here_facts trail place ms hints v r m =
    let at = r.marks.here_seen v m in
    let f = assigned-fact trail.steps v (r.valued v at.0) in
    record { step = f.0; fact = f.1; level = level_of_some (fact_of trail.steps v) f.0 (level_of trail.steps) f.1 at.1 }

-- during the resolution its assignment stands before the place
fact_before : (trail : State) (place : ℕ) (ms : Marking) (hints : List ℕ) (v : ℕ) → IsResolving trail place ms hints → marked ms.here v ≡ true → (h : HasHere trail v) →
    fact_of (take place trail.steps) v ≡ Some h.step
fact_before trail place ms hints v r m h =
    let f = assigned-fact (take place trail.steps) v (r.assigned v (r.derived.marks.here_seen v m).0) in
    let same : Some f.0 ≡ Some h.step = sym (fact-take place trail.steps v f.0 f.1) ∙ h.fact in
    f.1 ∙ same

-- while variables of the level are marked, there are assignments before
pub place_left : (trail : State) (place : ℕ) (ms : Marking) (hints : List ℕ) → IsResolving trail place ms hints → 1 ≤ pending_in ms → 1 ≤ place
place_left trail zero ms hints r le =
    let w = some_marked ms.here le in
    absurd (r.assigned w.0 (r.derived.marks.here_seen w.0 w.1).0 refl)
place_left trail (suc p) ms hints r le = omega arith

-- the last assignment before the place is of the present level
pub top_level : (trail : State) (p : ℕ) (s : Step) (ms : Marking) (hints : List ℕ) → IsTrail trail → AtStep trail p s → IsResolving trail (p + 1) ms hints → 1 ≤ pending_in ms → s.level ≡ level_of trail.steps
top_level trail p s ms hints valid at r le =
    let w = some_marked ms.here le in
    let h = here_facts trail (p + 1) ms hints w.0 r.derived w.1 in
    let low = fact-level_take trail (p + 1) w.0 h.step valid (omega (arith, at.place_in)) (fact_before trail (p + 1) ms hints w.0 r w.1 h) in
    let high = fact-level trail s.lit.var s valid at.fact in
    omega (arith, low, high, h.level, at.level)

-- so where it is marked, it is counted
pub top_here : (trail : State) (p : ℕ) (s : Step) (ms : Marking) (hints : List ℕ) → IsTrail trail → AtStep trail p s → IsResolving trail (p + 1) ms hints → 1 ≤ pending_in ms →
    marked ms.seen s.lit.var ≡ true → marked ms.here s.lit.var ≡ true
top_here trail p s ms hints valid at r le m =
    r.derived.marks.seen_here s.lit.var m (ap (option_map (λ (x : Step). x.level)) at.fact ∙ ap Some (top_level trail p s ms hints valid at r le))

-- a variable with another assignment has its value before
assigned-before : (trail : State) (p : ℕ) (s : Step) (v : ℕ) → AtStep trail p s → (s.lit.var ≡ v → ⊥) → values_of (take (p + 1) trail.steps) v ≢ None → values_of (take p trail.steps) v ≢ None
assigned-before trail p s v at ne some none =
    some (ap (λ (ss : List Step). values_of ss v) at.split ∙ ap (λ (f : Values). f v) (values_of-push (take p trail.steps) s at.holds.was_open) ∙ by_test (eqb s.lit.var v) (Decides-eqb s.lit.var v))
  where
    by_test : (t : Bool) → Decides t (s.lit.var ≡ v) → cond t (Some s.lit.positive) (values_of (take p trail.steps) v) ≡ None
    by_test true d = absurd (ne (d.0 refl))
    by_test false d = none

-- no decision is resolved
pub has_reason : (trail : State) (p : ℕ) (s : Step) (ms : Marking) (hints : List ℕ) → IsTrail trail → AtStep trail p s → IsResolving trail (p + 1) ms hints →
    (2 ≤ pending_in ms) ⊎ ((1 ≤ pending_in ms) × (level_of trail.steps ≡ 0)) → marked ms.seen s.lit.var ≡ true → s.reason ≢ None
has_reason trail p s ms hints valid at r (inr zero_level) m none =
    let level = top_level trail p s ms hints valid at r zero_level.0 in
    let decided : s.level ≡ level_of (take p trail.steps) + 1 = subst (λ o. MatchOption o (s.level ≡ level_of (take p trail.steps) + 1) (λ n. s.level ≡ level_of (take p trail.steps))) none at.holds.level in
    let zero_is = zero_level.1 in
    omega arith
has_reason trail p s ms hints valid at r (inl two) m none =
    let level = top_level trail p s ms hints valid at r (omega arith) in
    let here_s = top_here trail p s ms hints valid at r (omega arith) m in
    let w = another_marked ms.here s.lit.var here_s two in
    let h = here_facts trail (p + 1) ms hints w.0 r.derived w.1.0 in
    let before = assigned-before trail p s w.0 at w.1.1 (r.assigned w.0 (r.derived.marks.here_seen w.0 w.1.0).0) in
    let f = assigned-fact (take p trail.steps) w.0 before in
    let same_step : Some f.0 ≡ Some h.step = sym (fact-take p trail.steps w.0 f.0 f.1) ∙ h.fact in
    let same : f.0 ≡ h.step = cc in
    let low = fact-level_take trail p w.0 f.0 valid (omega (arith, at.place_in)) f.1 in
    let decided : s.level ≡ level_of (take p trail.steps) + 1 = subst (λ o. MatchOption o (s.level ≡ level_of (take p trail.steps) + 1) (λ n. s.level ≡ level_of (take p trail.steps))) none at.holds.level in
    omega (arith, low, decided, level, h.level, ap (λ (x : Step). x.level) same)

-- the literals of a clause that are left
false_or_left : (values : Values) (clause : List Lit) (l : Lit) → Contains clause l → (lit_value values l ≡ Some false) ⊎ Contains (left_of values clause) l
false_or_left values clause l has = by_value (lit_value values l) refl
  where
    by_value : (o : Option Bool) → lit_value values l ≡ o → (lit_value values l ≡ Some false) ⊎ Contains (left_of values clause) l
    by_value None e = inr (Contains-filter (λ m. not (is_false_value (lit_value values m))) clause l has (ap (λ o. not (is_false_value o)) e))
    by_value (Some true) e = inr (Contains-filter (λ m. not (is_false_value (lit_value values m))) clause l has (ap (λ o. not (is_false_value o)) e))
    by_value (Some false) e = inl e

pub conflict_false : (values : Values) (clause : List Lit) (l : Lit) → IsFalse values clause → Contains clause l → lit_value values l ≡ Some false
conflict_false values clause l conflict has = elim (false_or_left values clause l has) [ inl f ↦ f | inr left ↦ absurd (Contains-none l (subst (λ ls. Contains ls l) conflict left)) ]

pub value_of_false : (values : Values) (l : Lit) → lit_value values l ≡ Some false → values l.var ≡ Some (not l.positive)
value_of_false values l e = by_sign l.positive (values l.var) e
  where
    by_sign : (p : Bool) (o : Option Bool) → signed p o ≡ Some false → o ≡ Some (not p)
    by_sign true o e = e
    by_sign false None e = absurd (let bad : None ≡ Some false = e in cc)
    by_sign false (Some true) e = refl
    by_sign false (Some false) e = absurd (let bad : Some true ≡ Some false = e in cc)

some_not_none : {A : Type 0} (o : Option A) (x : A) → o ≡ Some x → o ≢ None
some_not_none o x e none = let bad : Some x ≡ None = sym e ∙ none in cc

-- the values of the marked variables
abbrev picked : (ℕ → Bool) → List Step → Values
picked marks steps v = cond (marks v) (values_of steps v) None

Matches-picked : (marks : ℕ → Bool) (earlier steps : List Step) → Matches (picked marks steps) marks earlier steps
Matches-picked marks earlier steps = record {
  same = λ v m. ap (λ t. cond t (values_of steps v) None) m;
  others = λ v b e. inl (of_value (marks v) (values_of steps v) b e);
}
  where
    of_value : (t : Bool) (o : Option Bool) (b : Bool) → cond t o None ≡ Some b → t ≡ true
    of_value true o b e = refl
    of_value false o b e = absurd (let bad : None ≡ Some b = e in cc)

hints_more : (clauses : List (List Lit)) (marks : ℕ → Bool) (earlier steps : List Step) (hints : List ℕ) → Derives clauses marks earlier steps hints → is_empty hints ≡ false
hints_more clauses marks earlier steps [] derives = absurd (let bad : false ≡ true = derives (picked marks steps) (Matches-picked marks earlier steps) in cc)
hints_more clauses marks earlier steps (h ∷ hints) derives = refl

-- an assignment is passed over
pub Derived-skip : (trail : State) (p : ℕ) (s : Step) (ms : Marking) (hints : List ℕ) → AtStep trail p s → IsDerived trail (p + 1) ms hints → IsDerived trail p ms hints
Derived-skip trail p s ms hints at r = record {
  place_in = omega (arith, r.place_in);
  marks = r.marks;
  valued = r.valued;
  numbers = r.numbers;
  derives = Derives-earlier trail.clauses (marked ms.seen) (take p trail.steps) s trail.steps hints at.holds.was_open (subst (λ ss. Derives trail.clauses (marked ms.seen) ss trail.steps hints) at.split r.derives);
}

-- one that isn't marked is passed over by the resolution
pub Resolving-skip : (trail : State) (p : ℕ) (s : Step) (ms : Marking) (hints : List ℕ) → AtStep trail p s → IsResolving trail (p + 1) ms hints → marked ms.seen s.lit.var ≡ false →
    IsResolving trail p ms hints
Resolving-skip trail p s ms hints at r unmarked = record {
  derived = Derived-skip trail p s ms hints at r.derived;
  assigned = λ v m. assigned-before trail p s v at (λ e. let bad : false ≡ true = sym unmarked ∙ ap (marked ms.seen) e ∙ m in cc) (r.assigned v m);
}

-- what a reason says
pub record HasReason (trail : State) (p : ℕ) (s : Step) (n : ℕ) : Type 0 where
  pub number : IsNumber trail.clauses n
  pub alone : left_of (values_of (take p trail.steps)) (numbered trail.clauses n) ≡ s.lit ∷ []

pub reason_says : (trail : State) (p : ℕ) (s : Step) (n : ℕ) → AtStep trail p s → s.reason ≡ Some n → HasReason trail p s n
reason_says trail p s n at is =
    let both = subst (λ o. MatchOption o (Unit {0}) (λ n. IsNumber trail.clauses n × (left_of (values_of (take p trail.steps)) (numbered trail.clauses n) ≡ s.lit ∷ []))) is at.holds.reason in
    record { number = both.0; alone = both.1 }

-- the other variables of a reason have values before
pub reason_before : (trail : State) (p n : ℕ) (s : Step) (l : Lit) → HasReason trail p s n → Contains (numbered trail.clauses n) l → (s.lit.var ≡ l.var → ⊥) → values_of (take p trail.steps) l.var ≢ None
reason_before trail p n s l reason has ne = elim (false_or_left (values_of (take p trail.steps)) (numbered trail.clauses n) l has) [
  | inl f ↦ some_not_none _ _ (value_of_false (values_of (take p trail.steps)) l f)
  | inr left ↦ elim (Contains-cases s.lit [] l (subst (λ ls. Contains ls l) reason.alone left)) [
    | inl e ↦ absurd (ne (ap (λ (x : Lit). x.var) e))
    | inr none ↦ absurd (Contains-none l none)
  ]
]

-- the marks where an assignment is resolved: those that were, or of the reason
resolved_marks : (trail : State) (p n : ℕ) (s : Step) (seen mid after : List Bool) (v : ℕ) → HasReason trail p s n → MarksClause seen mid (numbered trail.clauses n) → s.lit.var < length mid → after ≡ set mid s.lit.var false → marked after v ≡ true →
    (s.lit.var ≡ v → ⊥) × ((marked seen v ≡ true) ⊎ (values_of (take p trail.steps) v ≢ None))
resolved_marks trail p n s seen mid after v reason marks room write is =
    let m : marked (set mid s.lit.var false) v ≡ true = sym (ap (λ ps. marked ps v) write) ∙ is in
    elim (same_or_not s.lit.var v) [
      | inl e ↦ absurd (let bad : false ≡ true = sym (marked-set_same mid s.lit.var v false room e) ∙ m in cc)
      | inr ne ↦ elim (marks.others v (sym (marked-set_other mid s.lit.var v false ne) ∙ m)) [
        | inl was ↦ (ne, inl was)
        | inr w ↦ (ne, inr (subst (λ x. values_of (take p trail.steps) x ≢ None) w.1.1 (reason_before trail p n s w.0 reason w.1.0 (λ e. ne (e ∙ w.1.1)))))
      ]
    ]

-- an assignment is resolved with its reason
pub Derived-resolve : (trail : State) (p n : ℕ) (s : Step) (before after : Marking) (mid : List Bool) (hints : List ℕ) → AtStep trail p s → IsDerived trail (p + 1) before hints → s.reason ≡ Some n →
    MarksClause before.seen mid (numbered trail.clauses n) → s.lit.var < length mid → after.seen ≡ set mid s.lit.var false → AreMarks trail (level_of trail.steps) after →
    IsDerived trail p after (n ∷ hints)
Derived-resolve trail p n s before after mid hints at r is marks room write new_marks =
    let reason = reason_says trail p s n at is in
    record {
      place_in = omega (arith, r.place_in);
      marks = new_marks;
      valued = λ v m. elim (resolved_marks trail p n s before.seen mid after.seen v reason marks room write m).1 [
        | inl was ↦ r.valued v was
        | inr some ↦ λ none. some (value-take p trail.steps v some ∙ none)
      ];
      numbers = All-cons (IsNumber trail.clauses) n hints reason.number r.numbers;
      derives = subst (λ ps. Derives trail.clauses (marked ps) (take p trail.steps) trail.steps (n ∷ hints)) (sym write)
          (Derives-resolve trail.clauses (marked before.seen) (marked (set mid s.lit.var false)) (take p trail.steps) trail.steps s n hints (hints_more trail.clauses (marked before.seen) (take (p + 1) trail.steps) trail.steps hints r.derives)
          at.holds.was_open (fact-value trail.steps s.lit.var s at.fact) reason.alone (marked-set_same mid s.lit.var s.lit.var false room refl)
          (λ v ne m. marked-set_other mid s.lit.var v false ne ∙ marks.kept v m)
          (λ l has ne. (marked-set_other mid s.lit.var l.var false ne ∙ marks.added l has, value-take p trail.steps l.var (reason_before trail p n s l reason has ne)))
          (λ v b m e. elim (resolved_marks trail p n s before.seen mid (set mid s.lit.var false) v reason marks room refl m).1 [ inl was ↦ inl was | inr some ↦ inr (value-take p trail.steps v some ∙ e) ])
          (subst (λ ss. Derives trail.clauses (marked before.seen) ss trail.steps hints) at.split r.derives));
    }

-- a marked assignment is resolved with its reason
pub Resolving-resolve : (trail : State) (p n : ℕ) (s : Step) (before after : Marking) (mid : List Bool) (hints : List ℕ) → AtStep trail p s → IsResolving trail (p + 1) before hints → s.reason ≡ Some n →
    MarksClause before.seen mid (numbered trail.clauses n) → s.lit.var < length mid → after.seen ≡ set mid s.lit.var false → AreMarks trail (level_of trail.steps) after →
    IsResolving trail p after (n ∷ hints)
Resolving-resolve trail p n s before after mid hints at r is marks room write new_marks = record {
  derived = Derived-resolve trail p n s before after mid hints at r.derived is marks room write new_marks;
  assigned = λ v m.
      let new = resolved_marks trail p n s before.seen mid after.seen v (reason_says trail p s n at is) marks room write m in
      elim new.1 [ inl was ↦ assigned-before trail p s v at new.0 (r.assigned v was) | inr some ↦ some ];
}

-- the conflict begins the resolution
pub Begun-conflict : (trail : State) (n : ℕ) (none : List Bool) (ms : Marking) → IsTrail trail → LowerFixpoints trail → IsConflict trail n → ((v : ℕ) → marked none v ≡ true → ⊥) →
    MarksClause none ms.seen (numbered trail.clauses n) → AreMarks trail (level_of trail.steps) ms → IsBegun trail n ms
Begun-conflict trail n none ms valid lower conflict empty marks are =
    let all = take_all (length trail.steps) trail.steps (omega arith) in
    record {
      resolving = record {
        derived = record {
          place_in = omega arith;
          marks = are;
          valued = valued;
          numbers = All-cons (IsNumber trail.clauses) n [] conflict.0 (All-nil (IsNumber trail.clauses));
          derives = Derives-start trail.clauses (marked ms.seen) (take (length trail.steps) trail.steps) trail.steps n conflict.1 marks.added;
        };
        assigned = λ v m. subst (λ ss. values_of ss v ≢ None) (sym all) (valued v m);
      };
      some = λ above. by_settled above (lower (level_of trail.steps - 1) (omega arith) (n - 1) [] (let num = conflict.0 in omega arith));
    }
  where
    valued : (v : ℕ) → marked ms.seen v ≡ true → values_of trail.steps v ≢ None
    valued v m = elim (marks.others v m) [
      | inl was ↦ absurd (empty v was)
      | inr w ↦ subst (λ x. values_of trail.steps x ≢ None) w.1.1 (some_not_none _ _ (value_of_false (values_of trail.steps) w.0 (conflict_false (values_of trail.steps) (numbered trail.clauses n) w.0 conflict.1 w.1.0)))
    ]

    -- a literal that isn't false below the present level is counted
    counted : 1 ≤ level_of trail.steps → (l : Lit) → Contains (numbered trail.clauses n) l → (lit_value (values_of (up_to (level_of trail.steps - 1) trail.steps)) l ≡ Some false → ⊥) → 1 ≤ pending_in ms
    counted above l has not_false =
        let is_false = conflict_false (values_of trail.steps) (numbered trail.clauses n) l conflict.1 has in
        let value = value_of_false (values_of trail.steps) l is_false in
        let f = assigned-fact trail.steps l.var (some_not_none _ _ value) in
        let high = fact-level trail l.var f.0 valid f.1 in
        elim (cases_lt (level_of trail.steps - 1) f.0.level) [
          | inl lt ↦
              let level : f.0.level ≡ level_of trail.steps = omega arith in
              let here_is = are.seen_here l.var (marks.added l has) (ap (option_map (λ (x : Step). x.level)) f.1 ∙ ap Some level) in
              positive_count ms.here l.var here_is
          | inr ge ↦
              absurd (not_false (ap (signed l.positive) (value-low (level_of trail.steps - 1) trail.steps l.var f.0 (Trail-apart trail valid) f.1 ge) ∙ is_false))
        ]

    by_settled : 1 ≤ level_of trail.steps → IsSettled (values_of (up_to (level_of trail.steps - 1) trail.steps)) (numbered trail.clauses n) → 1 ≤ pending_in ms
    by_settled above (inl t) = counted above t.0 t.1.0 (λ f. let bad : Some true ≡ Some false = sym t.1.1 ∙ f in cc)
    by_settled above (inr two) = counted above two.one two.has_one (λ f. let bad : None ≡ Some false = sym two.one_open ∙ f in cc)
