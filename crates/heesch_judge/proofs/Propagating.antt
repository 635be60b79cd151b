-- Unit propagation, clause by clause: what fixpoints with the values before have too.
use Rattle.std.proofs.Common.{◌≡◌, refl, sym, ap, subst, ◌∙◌, ℕ, ◌+◌, ◌<◌, ◌≤◌, Bool, true, false, cond, not, eqb, ◌||◌, Option, None, Some, List, [], ◌∷◌, ◌++◌, length, get_or, set, take, is_none, All, arith, inl, inr, true≢false, get_or-set_same, get_or-set_other, Decides}
use Rattle.std.proofs.lemmas.Bool.Decides.{Decides-eqb}
use Rattle.std.specs.Prelude.{◌↔◌, IsTrue, MatchOption, is_some}
use Rattle.std.specs.List.{Contains}
use Rattle.std.proofs.lemmas.List.{take_all, take_more}
use Rattle.std.proofs.lemmas.List.Elements.{All-append, All-contains, All-cons, All-head, All-more, All-nil, All-take, Contains-append_left, Contains-append_right}
use Rattle.std.proofs.lemmas.List.Sums.{sum_by-set}
use Rattle.heesch_grid.proofs.ListFacts.{All-from_members}
use Rattle.heesch_cnf.specs.declared.literal.Lit.{Lit}
use Rattle.heesch_cnf.specs.Clauses.{IsClause, left_of}
use Rattle.heesch_cnf.specs.Literals.{Values, held, lit_value, signed}
use Rattle.heesch_cnf.specs.Lines.{refuting}
use Rattle.heesch_cnf.proofs.Lists.{Contains-here}
use Rattle.heesch_trail.specs.Fixpoint.{IsFixpoint, IsSettled}
use Rattle.heesch_judge.specs.Propagation.{EndsOpen, Extends, Forces, HasConflict, HasConflictOver, IsForcedExtension, IsPropagated, ConflictOrExtension, open_count}
use Rattle.heesch_logs.proofs.Equal.{granted, refused}
use Rattle.heesch_judge.proofs.Settled.{left_there, one_true, settled_more, unsettled}

-- ---- one clause

-- a true literal's variable has its sign
sign_of : (sign : Bool) (o : Option Bool) → signed sign o ≡ Some true → o ≡ Some sign
sign_of true o e = e
sign_of false None e = absurd (let bad : ⊥ = cc in bad)
sign_of false (Some true) e = absurd (let bad : false ≡ true = cc in true≢false (sym bad))
sign_of false (Some false) e = refl

open_of : (sign : Bool) (o : Option Bool) → signed sign o ≡ None → o ≡ None
open_of true o e = e
open_of false None e = refl
open_of false (Some b) e = absurd (let bad : ⊥ = cc in bad)

module _ (values : List (Option Bool)) (clause : List Lit) where
  -- none of its literals is left
  pub passes_nothing : (after : List (Option Bool)) → left_of (held values) clause ≡ [] → ConflictOrExtension (clause ∷ []) values None after
  passes_nothing after none = λ others fixpoint extends. unsettled others (held values) extends clause none (All-head (IsSettled others) clause [] fixpoint)

  -- it is settled already
  pub passes_settled : IsSettled (held values) clause → ConflictOrExtension (clause ∷ []) values (Some false) values
  passes_settled settled = record {
    forced = λ others fixpoint extends. extends;
    still = λ e. (refl, All-cons (IsSettled (held values)) clause [] settled (All-nil (IsSettled (held values))));
    fewer = λ e. absurd (true≢false (sym e));
  }

  pub passes_more : (vars : ℕ) → IsClause vars clause → 2 ≤ length (left_of (held values) clause) → ConflictOrExtension (clause ∷ []) values (Some false) values
  passes_more vars form more = passes_settled (settled_more (held values) clause vars form more)

  module _ (l : Lit) (alone : left_of (held values) clause ≡ l ∷ []) where
    -- the literal that is left is made true
    made_extends : l.var < length values → (others : Values) → IsSettled others clause → Extends others (held values) → Extends others (held (set values l.var (Some l.positive)))
    made_extends fits others settled extends x b = by_test (eqb l.var x) (Decides-eqb l.var x)
      where
        here : others l.var ≡ Some l.positive
        here = sign_of l.positive (others l.var) (one_true others (held values) extends clause l alone settled)

        by_test : (t : Bool) → Decides t (l.var ≡ x) → get_or (set values l.var (Some l.positive)) x None ≡ Some b → others x ≡ Some b
        by_test true d e =
            let same : l.var ≡ x = d.0 refl in
            subst (λ y. others y ≡ Some b) same (here ∙ (sym (get_or-set_same values l.var (Some l.positive) None fits) ∙ subst (λ y. get_or (set values l.var (Some l.positive)) y None ≡ Some b) (sym same) e))
        by_test false d e = extends x b (sym (get_or-set_other values l.var x (Some l.positive) None (λ same. true≢false (sym (d.1 (sym same))))) ∙ e)

    -- one variable fewer is open
    fewer_open : l.var < length values → held values l.var ≡ None → open_count (set values l.var (Some l.positive)) < open_count values
    fewer_open fits is_open =
        let counts : Option Bool → ℕ = λ v. cond (is_none v) 1 0 in
        let sum = sum_by-set counts values l.var (Some l.positive) None fits in
        let was : counts (get_or values l.var None) ≡ 1 = ap counts is_open in
        omega (arith, sum, was)

    pub passes_made : l.var < length values → held values l.var ≡ None → ConflictOrExtension (clause ∷ []) values (Some true) (set values l.var (Some l.positive))
    passes_made fits is_open = record {
      forced = λ others fixpoint extends. made_extends fits others (All-head (IsSettled others) clause [] fixpoint) extends;
      still = λ e. absurd (true≢false e);
      fewer = λ e. fewer_open fits is_open;
    }

    -- or it is true already
    pub passes_true : (¬ (held values l.var ≡ None)) → ConflictOrExtension (clause ∷ []) values (Some false) values
    passes_true closed =
        let found = left_there (held values) clause l (subst (λ ls. Contains ls l) (sym alone) (Contains-here l [])) in
        elim found.1 [
          | inl made ↦ passes_settled (inl (l, (found.0, made)))
          | inr none ↦ absurd (closed (open_of l.positive (held values l.var) none))
        ]

    -- so it is made true where it is open
    pub passes_assigned : l.var < length values → (came : Bool) (after : List (Option Bool)) → (came ≡ true → (held values l.var ≡ None) × (after ≡ set values l.var (Some l.positive))) → (came ≡ false → (¬ (held values l.var ≡ None)) × (after ≡ values)) → ConflictOrExtension (clause ∷ []) values (Some came) after
    passes_assigned fits true after made kept = let m = made refl in subst (λ vs. ConflictOrExtension (clause ∷ []) values (Some true) vs) (sym m.1) (passes_made fits m.0)
    passes_assigned fits false after made kept = let k = kept refl in subst (λ vs. ConflictOrExtension (clause ∷ []) values (Some false) vs) (sym k.1) (passes_true k.0)

    -- its variable is one of the clause's
    pub in_range : (vars : ℕ) → IsClause vars clause → l.var ≤ vars
    in_range vars form = (All-contains (λ (m : Lit). (1 ≤ m.var) × (m.var ≤ vars)) clause l form.in_range (left_there (held values) clause l (subst (λ ls. Contains ls l) (sym alone) (Contains-here l []))).0).1

-- ---- one pass after the other

-- where nothing is looked at
pub passes_none : (values : List (Option Bool)) → IsForcedExtension [] values false values
passes_none values = record { forced = λ others fixpoint extends. extends; still = λ e. (refl, All-nil (IsSettled (held values))); fewer = λ e. absurd (true≢false (sym e)) }

module _ (whole xs ys : List (List Lit)) (apart : (v : Values) → IsFixpoint v whole → IsFixpoint v xs × IsFixpoint v ys) where
  pub first_conflict : (before : List (Option Bool)) → HasConflictOver xs (held before) → HasConflictOver whole (held before)
  first_conflict before bad others fixpoint extends = bad others (apart others fixpoint).0 extends

  module _ (before middle : List (Option Bool)) (g : Bool) (p : IsForcedExtension xs before g middle) where
    pub second_conflict : HasConflictOver ys (held middle) → HasConflictOver whole (held before)
    second_conflict bad others fixpoint extends = let both = apart others fixpoint in bad others both.1 (p.forced others both.0 extends)

    pub second_pass : ((v : Values) → IsFixpoint v xs → IsFixpoint v ys → IsFixpoint v whole) → (after : List (Option Bool)) (h : Bool) → IsForcedExtension ys middle h after → IsForcedExtension whole before (g || h) after
    second_pass together after h q = record {
      forced = λ others fixpoint extends. (let both = apart others fixpoint in q.forced others both.1 (p.forced others both.0 extends));
      still = still g h p.still q.still;
      fewer = fewer g h (λ e. (p.still e).0) p.fewer (λ e. (q.still e).0) q.fewer;
    }
      where
        still : (g h : Bool) → (g ≡ false → (middle ≡ before) × IsFixpoint (held middle) xs) → (h ≡ false → (after ≡ middle) × IsFixpoint (held after) ys) → (g || h) ≡ false → (after ≡ before) × IsFixpoint (held after) whole
        still true h first second e = absurd (true≢false e)
        still false true first second e = absurd (true≢false e)
        still false false first second e =
            let one = first refl in
            let two = second refl in
            (two.0 ∙ one.0, together (held after) (subst (λ vs. IsFixpoint (held vs) xs) (sym two.0) one.1) two.1)

        fewer : (g h : Bool) → (g ≡ false → middle ≡ before) → (g ≡ true → open_count middle < open_count before) → (h ≡ false → after ≡ middle) → (h ≡ true → open_count after < open_count middle) → (g || h) ≡ true → open_count after < open_count before
        fewer true true same less same_then less_then e = let one = less refl in let two = less_then refl in omega (arith, one, two)
        fewer true false same less same_then less_then e = subst (λ vs. open_count vs < open_count before) (sym (same_then refl)) (less refl)
        fewer false true same less same_then less_then e = subst (λ vs. open_count after < open_count vs) (same refl) (less_then refl)
        fewer false false same less same_then less_then e = absurd (true≢false (sym e))

-- the first clauses, and one more
module _ (clauses : List (List Lit)) (i : ℕ) (below : i < length clauses) where
  one_apart : (v : Values) → IsFixpoint v clauses → IsFixpoint v (take i clauses) × IsFixpoint v (get_or clauses i [] ∷ [])
  one_apart v all = (All-take (IsSettled v) i clauses all, All-cons (IsSettled v) (get_or clauses i []) [] (all i [] below) (All-nil (IsSettled v)))

  more_apart : (v : Values) → IsFixpoint v (take (i + 1) clauses) → IsFixpoint v (take i clauses) × IsFixpoint v (get_or clauses i [] ∷ [])
  more_apart v all =
      let P = IsSettled v in
      let split = subst (All P) (take_more clauses i [] below) all in (
        All-from_members P (take i clauses) (λ c m. All-contains P (take i clauses ++ get_or clauses i [] ∷ []) c split (Contains-append_left (take i clauses) (get_or clauses i [] ∷ []) c m)),
        All-from_members P (get_or clauses i [] ∷ []) (λ c m. All-contains P (take i clauses ++ get_or clauses i [] ∷ []) c split (Contains-append_right (take i clauses) (get_or clauses i [] ∷ []) c m)),
      )

  more_together : (v : Values) → IsFixpoint v (take i clauses) → IsFixpoint v (get_or clauses i [] ∷ []) → IsFixpoint v (take (i + 1) clauses)
  more_together v first last = All-more (IsSettled v) clauses i [] below first (All-head (IsSettled v) (get_or clauses i []) [] last)

  module _ (before middle : List (Option Bool)) (g : Bool) (p : IsForcedExtension (take i clauses) before g middle) where
    pub one_conflict : HasConflictOver (get_or clauses i [] ∷ []) (held middle) → HasConflictOver clauses (held before)
    one_conflict bad = second_conflict clauses (take i clauses) (get_or clauses i [] ∷ []) one_apart before middle g p bad

    pub one_more : (after : List (Option Bool)) (h : Bool) → IsForcedExtension (get_or clauses i [] ∷ []) middle h after → IsForcedExtension (take (i + 1) clauses) before (g || h) after
    one_more after h q = second_pass (take (i + 1) clauses) (take i clauses) (get_or clauses i [] ∷ []) more_apart before middle g p more_together after h q

-- a pass over all of them
pub whole_pass : (clauses : List (List Lit)) (n : ℕ) (before after : List (Option Bool)) (g : Bool) → length clauses ≤ n → IsForcedExtension (take n clauses) before g after → IsForcedExtension clauses before g after
whole_pass clauses n before after g all p = subst (λ cs. IsForcedExtension cs before g after) (take_all n clauses all) p

-- a pass over the second clauses, and then over the first
module _ (xs ys : List (List Lit)) where
  pub both_apart : (v : Values) → IsFixpoint v (xs ++ ys) → IsFixpoint v ys × IsFixpoint v xs
  both_apart v all =
      let P = IsSettled v in (
        All-from_members P ys (λ c m. All-contains P (xs ++ ys) c all (Contains-append_right xs ys c m)),
        All-from_members P xs (λ c m. All-contains P (xs ++ ys) c all (Contains-append_left xs ys c m)),
      )

  pub both_together : (v : Values) → IsFixpoint v ys → IsFixpoint v xs → IsFixpoint v (xs ++ ys)
  both_together v second first = All-append (IsSettled v) xs ys first second

-- ---- pass after pass

pub forces_then : (clauses : List (List Lit)) (before middle after : Values) → Forces clauses before middle → Forces clauses middle after → Forces clauses before after
forces_then clauses before middle after first second others fixpoint extends = second others fixpoint (first others fixpoint extends)

pub conflict_then : (clauses : List (List Lit)) (before middle : Values) → Forces clauses before middle → HasConflictOver clauses middle → HasConflictOver clauses before
conflict_then clauses before middle first bad others fixpoint extends = bad others fixpoint (first others fixpoint extends)

-- ---- from no value on

pub extends_open : (values others : Values) → values ≡ refuting [] → Extends others values
extends_open values others none x b e = let no_value : None ≡ Some b = sym (ap (λ (f : Values). f x) none) ∙ e in absurd (let bad : ⊥ = cc in bad)

pub propagated_from : (clauses : List (List Lit)) (before after : Values) → before ≡ refuting [] → IsFixpoint after clauses → Forces clauses before after → IsPropagated clauses after
propagated_from clauses before after none fixpoint forced = record { fixpoint = fixpoint; least = λ others settled. forced others settled (extends_open before others none) }

pub conflict_from : (clauses : List (List Lit)) (before : Values) → before ≡ refuting [] → HasConflictOver clauses before → HasConflict clauses
conflict_from clauses before none bad values fixpoint = bad values fixpoint (extends_open before values none)

-- ---- whether it ends without a conflict

pub open_told : {V : Type 0} (items : V → List (Option Bool)) (clauses : List (List Lit)) (found : Option V) → MatchOption found (HasConflict clauses) (λ values. IsPropagated clauses (held (items values))) → IsTrue (is_some found) ↔ EndsOpen clauses
open_told items clauses None bad = refused (λ some. bad some.0 some.1)
open_told items clauses (Some values) given = granted (held (items values), given.fixpoint)
