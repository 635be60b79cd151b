use Rattle.std.proofs.Common.{inl, inr, ◌≡◌, ℕ, ◌+◌, ◌<◌, ◌≤◌, Bool, true, false, cond, eqb, Option, None, Some, List, ◌++◌, length, get_or, set, take, drop, Decides, sym, ap, subst, refl, get_or-set_same, get_or-set_other}
use Rattle.std.specs.List.{Contains}
use Rattle.std.proofs.Math.Seq.{take-append_seam}
use Rattle.std.proofs.lemmas.List.{drop_more, drop_all}
use Rattle.std.proofs.lemmas.Bool.Decides.{Decides-eqb}
use Rattle.heesch_cnf.specs.declared.literal.Lit.{Lit}
use Rattle.heesch_cnf.specs.Literals.{Values, held, with_true}
use Rattle.heesch_cnf.proofs.Lists.{Contains-none, Contains-cases}
use Rattle.heesch_rup.specs.Assigned.{all_open, OthersAreOpen}

-- values that agree at each variable are equal
pub same_values : (f g : Values) → ((x : ℕ) → f x ≡ g x) → f ≡ g
same_values f g h = λ i x. h x i

-- a write to the list makes a literal true
pub held-set : (values : List (Option Bool)) (l : Lit) → l.var < length values → held (set values l.var (Some l.positive)) ≡ with_true l (held values)
held-set values l lt = same_values _ _ (λ x. by_test x (eqb l.var x) (Decides-eqb l.var x))
  where
    by_test : (x : ℕ) (t : Bool) → Decides t (l.var ≡ x) → get_or (set values l.var (Some l.positive)) x None ≡ cond t (Some l.positive) (get_or values x None)
    by_test x true d = subst (λ y. get_or (set values l.var (Some l.positive)) y None ≡ Some l.positive) (d.0 refl) (get_or-set_same values l.var (Some l.positive) None lt)
    by_test x false d = get_or-set_other values l.var x (Some l.positive) None (λ e. let no : false ≡ true = d.1 (sym e) in cc)

-- one of the listed variables is opened
pub OthersAreOpen-drop_more : (values : List (Option Bool)) (variables : List ℕ) (i : ℕ) → i < length variables → get_or variables i 0 < length values →
    OthersAreOpen values (drop i variables) → OthersAreOpen (set values (get_or variables i 0) None) (drop (i + 1) variables)
OthersAreOpen-drop_more values variables i lt fits others v unlisted = by_test (eqb here v) (Decides-eqb here v)
  where
    here : ℕ
    here = get_or variables i 0

    by_test : (t : Bool) → Decides t (here ≡ v) → get_or (set values here None) v None ≡ None
    by_test true d = subst (λ y. get_or (set values here None) y None ≡ None) (d.0 refl) (get_or-set_same values here None None fits)
    by_test false d =
        let other : here ≡ v → ⊥ = λ e. let no : false ≡ true = d.1 e in cc in
        let before = others v (λ has. elim (Contains-cases here (drop (i + 1) variables) v (subst (λ vs. Contains vs v) (drop_more variables i 0 lt) has)) [ inl e ↦ other e | inr more ↦ unlisted more ]) in
        subst (λ o. o ≡ None) (sym (get_or-set_other values here v None None (λ e. other (sym e)))) before

pub all_open_when_none_listed : (values : List (Option Bool)) (variables : List ℕ) (n : ℕ) → length variables ≤ n → OthersAreOpen values (drop n variables) → held values ≡ all_open
all_open_when_none_listed values variables n le others =
    same_values _ _ (λ v. others v (λ has. Contains-none v (subst (λ vs. Contains vs v) (drop_all n variables le) has)))

-- a list of this length, written back over another one
pub written_back : (n : ℕ) (new old : List (Option Bool)) → length new ≡ n → take n (new ++ drop (length new) old) ≡ new
written_back n new old same = subst (λ m. take m (new ++ drop (length new) old) ≡ new) same (take-append_seam new (drop (length new) old))

pub others_open_when_all : (values : List (Option Bool)) (variables : List ℕ) → held values ≡ all_open → OthersAreOpen values variables
others_open_when_all values variables same v unlisted = ap (λ (f : Values). f v) same
