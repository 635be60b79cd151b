use Rattle.std.proofs.Common.{◌≡◌, ◌≢◌, ℕ, ◌-◌, ◌<◌, ◌≤◌, Bool, true, false, not, cond, eqb, unwrap_or, Option, None, Some, option_map, List, [], ◌∷◌, take, Decides, sym, ap, ◌∙◌, subst, inl, inr, ◌⊎◌, refl, arith}
use Rattle.std.specs.List.{Contains}
use Rattle.std.proofs.lemmas.Bool.{cases_lt}
use Rattle.std.proofs.lemmas.Bool.Decides.{Decides-eqb}
use Rattle.std.proofs.lemmas.List.Elements.{All-contains}
use Rattle.heesch_cnf.specs.declared.literal.Lit.{Lit}
use Rattle.heesch_cnf.specs.Literals.{lit_value, signed}
use Rattle.heesch_cnf.specs.Lines.{refuting, FinalHolds}
use Rattle.heesch_cnf.proofs.Lists.{Contains-none, Contains-cases, Contains-here, Contains-there}
use Rattle.heesch_trail.specs.declared.step.Step.{Step}
use Rattle.heesch_trail.specs.Fixpoint.{HasTwoOpen}
use Rattle.heesch_trail.specs.State.{State, IsTrail, values_of, fact_of, level_of, up_to}
use Rattle.heesch_cdcl.specs.declared.analysis.Learnt.{Learnt}
use Rattle.heesch_cdcl.specs.Derivation.{Matches}
use Rattle.heesch_cdcl.specs.Marking.{Marking, marked}
use Rattle.heesch_cdcl.specs.Marked.{falsified, IsClauseOfMarked, IsLevelIn}
use Rattle.heesch_cdcl.specs.Learning.{IsLearnt}
use Rattle.heesch_cdcl.specs.Resolved.{IsDerived, IsResolved}
use Rattle.heesch_cdcl.proofs.MarkLemmas.{same_or_not, some_marked}
use Rattle.heesch_cdcl.proofs.Facts.{Trail-apart, assigned-fact, fact-level, value-low, value-high}
use Rattle.heesch_cdcl.proofs.Resolving.{HasHere, here_facts, only_marked, positive_count, level_of_some}

-- the values that refute a clause
refuting-sound : (clause : List Lit) (v : ℕ) (b : Bool) → refuting clause v ≡ Some b → (l : Lit) × (Contains clause l × ((l.var ≡ v) × (not l.positive ≡ b)))
refuting-sound [] v b e = absurd (let bad : None ≡ Some b = e in cc)
refuting-sound (x ∷ xs) v b e = by_test (eqb x.var v) (Decides-eqb x.var v) (refuting-sound xs v b) e
  where
    by_test : (t : Bool) → Decides t (x.var ≡ v) → (refuting xs v ≡ Some b → (l : Lit) × (Contains xs l × ((l.var ≡ v) × (not l.positive ≡ b)))) → cond t (Some (not x.positive)) (refuting xs v) ≡ Some b →
        (l : Lit) × (Contains (x ∷ xs) l × ((l.var ≡ v) × (not l.positive ≡ b)))
    by_test true d rest e = (x, (Contains-here x xs, (d.0 refl, (let e : Some (not x.positive) ≡ Some b = e in cc))))
    by_test false d rest e = let r = rest e in (r.0, (Contains-there x xs r.0 r.1.0, r.1.1))

refuting-complete : (clause : List Lit) (l : Lit) → Contains clause l → refuting clause l.var ≢ None
refuting-complete [] l has = absurd (Contains-none l has)
refuting-complete (x ∷ xs) l has = elim (Contains-cases x xs l has) [
  | inl e ↦ by_test (eqb x.var l.var) (Decides-eqb x.var l.var) (λ ne. absurd (ne (ap (λ (y : Lit). y.var) e)))
  | inr later ↦ by_test (eqb x.var l.var) (Decides-eqb x.var l.var) (λ ne. refuting-complete xs l later)
]
  where
    by_test : (t : Bool) → Decides t (x.var ≡ l.var) → ((x.var ≡ l.var → ⊥) → refuting xs l.var ≢ None) → cond t (Some (not x.positive)) (refuting xs l.var) ≢ None
    by_test true d rest none = let bad : Some (not x.positive) ≡ None = none in cc
    by_test false d rest none = rest (λ e. let bad : false ≡ true = d.1 e in cc) none

-- a value that is there, as the falsified literal has it
value_again : (o : Option Bool) (b : Bool) → o ≢ None → not (not (unwrap_or o false)) ≡ b → o ≡ Some b
value_again None b some e = absurd (some refl)
value_again (Some true) b some e = ap Some e
value_again (Some false) b some e = ap Some e

-- a falsified literal is false
falsified-false : (steps : List Step) (v : ℕ) → values_of steps v ≢ None → lit_value (values_of steps) (falsified steps v) ≡ Some false
falsified-false steps v some = by_value (values_of steps v) some
  where
    by_value : (o : Option Bool) → o ≢ None → signed (not (unwrap_or o false)) o ≡ Some false
    by_value None some = absurd (some refl)
    by_value (Some true) some = refl
    by_value (Some false) some = refl

-- the values that refute the clause are those of the assignments at the marked variables
Matches-refuting : (trail : State) (place : ℕ) (ms : Marking) (hints : List ℕ) (clause : List Lit) → IsDerived trail place ms hints → IsClauseOfMarked trail.vars trail.steps ms.seen clause →
    Matches (refuting clause) (marked ms.seen) (take place trail.steps) trail.steps
Matches-refuting trail place ms hints clause r read = record {
  same = λ v m. by_value v (refuting clause v) refl (refuting-complete clause (falsified trail.steps v) (read.has v m));
  others = λ v b e. inl (from_clause v b e).0;
}
  where
    from_clause : (v : ℕ) (b : Bool) → refuting clause v ≡ Some b → (marked ms.seen v ≡ true) × (values_of trail.steps v ≡ Some b)
    from_clause v b e =
        let s = refuting-sound clause v b e in
        let is = All-contains (λ (l : Lit). (l ≡ falsified trail.steps l.var) × (marked ms.seen l.var ≡ true)) clause s.0 read.each s.1.0 in
        let m : marked ms.seen v ≡ true = subst (λ w. marked ms.seen w ≡ true) s.1.1.0 is.1 in
        let sign : not (not (unwrap_or (values_of trail.steps v) false)) ≡ b = ap (λ w. not (not (unwrap_or (values_of trail.steps w) false))) (sym s.1.1.0) ∙ ap (λ (x : Lit). not x.positive) (sym is.0) ∙ s.1.1.1 in
        (m, value_again (values_of trail.steps v) b (r.valued v m) sign)

    by_value : (v : ℕ) (o : Option Bool) → refuting clause v ≡ o → refuting clause v ≢ None → refuting clause v ≡ values_of trail.steps v
    by_value v None e some = absurd (some e)
    by_value v (Some b) e some = e ∙ sym (from_clause v b e).1

signed_none : (p : Bool) → signed p None ≡ None
signed_none true = refl
signed_none false = refl

-- a variable of a higher level is open
open_above : (trail : State) (j v : ℕ) (s : Step) → IsTrail trail → fact_of trail.steps v ≡ Some s → j < s.level → lit_value (values_of (up_to j trail.steps)) (falsified trail.steps v) ≡ None
open_above trail j v s valid fact lt =
    let p = (falsified trail.steps v).positive in
    ap (signed p) (value-high j trail.steps v s (Trail-apart trail valid) fact lt) ∙ signed_none p

-- what the resolution leaves at a conflict above level 0 is learnt
pub Learnt-resolved : (trail : State) (ms : Marking) (learnt : Learnt) → IsTrail trail → 1 ≤ level_of trail.steps → IsResolved trail ms learnt.hints →
    IsClauseOfMarked trail.vars trail.steps ms.seen learnt.clause → learnt.back < level_of trail.steps → IsLevelIn trail.steps learnt.clause learnt.back → IsLearnt trail learnt
Learnt-resolved trail ms learnt valid above res read below reached =
    let k = level_of trail.steps in
    let r = res.derived in
    let one = res.some above in
    let w = some_marked ms.here (one) in
    let h = here_facts trail 0 ms learnt.hints w.0 r w.1 in
    let m = (r.marks.here_seen w.0 w.1).0 in
    record {
      top = falsified trail.steps w.0;
      form = read.form;
      shown = record { numbers = r.numbers; conflict = r.derives (refuting learnt.clause) (Matches-refuting trail 0 ms learnt.hints learnt.clause r read) };
      asserting = record {
        has_top = read.has w.0 m;
        top_open = open_above trail (k - 1) w.0 h.step valid h.fact (omega (arith, h.level));
        others = λ l has. others w.0 w.1 l (All-contains (λ (l : Lit). (l ≡ falsified trail.steps l.var) × (marked ms.seen l.var ≡ true)) learnt.clause l read.each has);
      };
      back_below = below;
      settled = λ j lt. inr (settled w.0 h (read.has w.0 m) j lt reached);
    }
  where
    others : (v : ℕ) → marked ms.here v ≡ true → (l : Lit) → (l ≡ falsified trail.steps l.var) × (marked ms.seen l.var ≡ true) → (l ≡ falsified trail.steps v) ⊎ (lit_value (values_of (up_to (level_of trail.steps - 1) trail.steps)) l ≡ Some false)
    others v m l is = elim (same_or_not v l.var) [
      | inl e ↦ inl (is.0 ∙ ap (falsified trail.steps) (sym e))
      | inr ne ↦
          let r = res.derived in
          let some = r.valued l.var is.1 in
          let f = assigned-fact trail.steps l.var some in
          let high = fact-level trail l.var f.0 valid f.1 in
          elim (cases_lt (level_of trail.steps - 1) f.0.level) [
            | inl lt ↦
                let level : f.0.level ≡ level_of trail.steps = omega arith in
                let too = r.marks.seen_here l.var is.1 (ap (option_map (λ (x : Step). x.level)) f.1 ∙ ap Some level) in
                absurd (ne (only_marked ms.here v l.var m too res.few))
            | inr ge ↦
                let low = value-low (level_of trail.steps - 1) trail.steps l.var f.0 (Trail-apart trail valid) f.1 ge in
                inr (ap (signed l.positive) low ∙ ap (lit_value (values_of trail.steps)) is.0 ∙ falsified-false trail.steps l.var some)
          ]
    ]

    settled : (v : ℕ) → HasHere trail v → Contains learnt.clause (falsified trail.steps v) → (j : ℕ) → j < learnt.back → IsLevelIn trail.steps learnt.clause learnt.back →
        HasTwoOpen (values_of (up_to j trail.steps)) learnt.clause
    settled v h has j lt (inl zero_back) = absurd (omega arith)
    settled v h has j lt (inr at) =
        let r = res.derived in
        let w = at.0.var in
        let is = All-contains (λ (l : Lit). (l ≡ falsified trail.steps l.var) × (marked ms.seen l.var ≡ true)) learnt.clause at.0 read.each at.1.0 in
        let some = r.valued w is.1 in
        let f = assigned-fact trail.steps w some in
        let level = level_of_some (fact_of trail.steps w) f.0 learnt.back f.1 at.1.1 in
        record {
          one = falsified trail.steps v;
          other = falsified trail.steps w;
          has_one = has;
          has_other = read.has w is.1;
          differ = λ e.
              let same : v ≡ w = ap (λ (l : Lit). l.var) e in
              let both : Some h.step ≡ Some f.0 = sym h.fact ∙ ap (fact_of trail.steps) same ∙ f.1 in
              let steps : h.step ≡ f.0 = cc in
              omega (arith, ap (λ (x : Step). x.level) steps, h.level, level, below);
          one_open = open_above trail j v h.step valid h.fact (omega (arith, h.level, lt, below));
          other_open = open_above trail j w f.0 valid f.1 (omega (arith, level, lt));
        }

-- what it leaves at level 0 is a final line
pub Final-resolved : (trail : State) (ms : Marking) (hints : List ℕ) → IsTrail trail → level_of trail.steps ≡ 0 → IsResolved trail ms hints → FinalHolds trail.clauses hints
Final-resolved trail ms hints valid ground_level res =
    let r = res.derived in
    record {
      numbers = r.numbers;
      conflict = r.derives (refuting []) (record { same = λ v m. absurd (none v m); others = λ v b e. absurd (let bad : None ≡ Some b = e in cc) });
    }
  where
    none : (v : ℕ) → marked ms.seen v ≡ true → ⊥
    none v m =
        let r = res.derived in
        let f = assigned-fact trail.steps v (r.valued v m) in
        let high = fact-level trail v f.0 valid f.1 in
        let level : f.0.level ≡ level_of trail.steps = omega arith in
        let is_here = r.marks.seen_here v m (ap (option_map (λ (x : Step). x.level)) f.1 ∙ ap Some level) in
        omega (arith, positive_count ms.here v is_here, res.none ground_level)
