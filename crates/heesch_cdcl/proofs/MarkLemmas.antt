use Rattle.std.proofs.Common.{◌≡◌, ℕ, zero, suc, ◌+◌, ◌<◌, ◌≤◌, Bool, true, false, cond, eqb, List, [], ◌∷◌, ◌++◌, length, get_or, set, take, filter, All, Contains, Decides, count_by, sym, ap, ◌∙◌, subst, inl, inr, ◌⊎◌, refl, arith, get_or-set_same, get_or-set_other}
use Rattle.std.proofs.lemmas.List.{take_more, length-set}
use Rattle.std.proofs.lemmas.List.Sums.{sum_by-set}
use Rattle.std.proofs.lemmas.List.Elements.{All-push, All-weaker, All-filter, filter_passes, Contains-push_cases, Contains-push, Contains-append_left}
use Rattle.std.proofs.lemmas.Bool.{cases_lt}
use Rattle.std.proofs.lemmas.Bool.Decides.{Decides-eqb}
use Rattle.heesch_cnf.specs.declared.literal.Lit.{Lit}
use Rattle.heesch_cnf.proofs.Lists.{Contains-filter, Contains-none}
use Rattle.heesch_trail.specs.State.{State}
use Rattle.heesch_cdcl.specs.Marking.{Marking, marked, AreMarks, AreListed, AreCounted, AreMarked, HavePlaces, IsClear, MarksClause}

pub marked-set_same : (places : List Bool) (n v : ℕ) (b : Bool) → n < length places → n ≡ v → marked (set places n b) v ≡ b
marked-set_same places n v b lt e = subst (λ y. marked (set places n b) y ≡ b) e (get_or-set_same places n b false lt)

pub marked-set_other : (places : List Bool) (n v : ℕ) (b : Bool) → (n ≡ v → ⊥) → marked (set places n b) v ≡ marked places v
marked-set_other places n v b ne = get_or-set_other places n v b false (λ e. ne (sym e))

pub same_or_not : (n v : ℕ) → (n ≡ v) ⊎ (n ≡ v → ⊥)
same_or_not n v = by_test (eqb n v) (Decides-eqb n v)
  where
    by_test : (t : Bool) → Decides t (n ≡ v) → (n ≡ v) ⊎ (n ≡ v → ⊥)
    by_test true d = inl (d.0 refl)
    by_test false d = inr (λ e. let bad : false ≡ true = d.1 e in cc)

-- a mark, where the places are the same
pub marked-same : (old new : List Bool) (v : ℕ) (b : Bool) → new ≡ old → marked old v ≡ b → marked new v ≡ b
marked-same old new v b same is = ap (λ places. marked places v) same ∙ is

-- a marked variable of at least one
pub some_marked : (places : List Bool) → 1 ≤ count_by (λ b. b) places → (v : ℕ) × (marked places v ≡ true)
some_marked [] le = absurd (omega arith)
some_marked (true ∷ ps) le = (zero, refl)
some_marked (false ∷ ps) le = let r = some_marked ps le in (suc r.0, r.1)

pub unmarked : (places : List Bool) (v : ℕ) → marked places v ≡ false → marked places v ≡ true → ⊥
unmarked places v off on = let bad : false ≡ true = sym off ∙ on in cc

-- where nothing is marked, the marks are those of any level
pub AreMarks-clear : (trail : State) (level : ℕ) (m : Marking) → HavePlaces trail.vars m → IsClear m → AreMarks trail level m
AreMarks-clear trail level m places c = record {
  seen_room = places.seen_room;
  here_room = places.here_room;
  here_seen = λ v is. absurd (unmarked m.here v (c.none_here v) is);
  seen_here = λ v is at. absurd (unmarked m.seen v (c.none_seen v) is);
}

-- where none is touched, nothing is marked
pub IsClear-listed : (seen here : List Bool) (touched : List ℕ) → AreListed seen here touched → touched ≡ [] → IsClear (record { seen = seen; here = here })
IsClear-listed seen here touched listed none = record {
  none_seen = λ v. by_mark (marked seen v) (λ m. listed.has_seen v m);
  none_here = λ v. by_mark (marked here v) (λ m. listed.has_here v m);
}
  where
    by_mark : {v : ℕ} (b : Bool) → (b ≡ true → Contains touched v) → b ≡ false
    by_mark {v} true has = absurd (Contains-none v (subst (λ vs. Contains vs v) none (has refl)))
    by_mark false has = refl

no_marks : (places : List Bool) → ((v : ℕ) → marked places v ≡ false) → count_by (λ b. b) places ≡ 0
no_marks places none = elim (cases_lt 0 (count_by (λ b. b) places)) [
  | inl more ↦ absurd (let r = some_marked places (omega arith) in unmarked places r.0 (none r.0) r.1)
  | inr few ↦ omega arith
]

-- and so none is counted
pub none_counted : (seen here : List Bool) (touched : List ℕ) → AreListed seen here touched → touched ≡ [] → 0 ≡ count_by (λ b. b) here
none_counted seen here touched listed none =
    let clear = IsClear-listed seen here touched listed none in
    sym (no_marks here clear.none_here)

not_on : (b : Bool) → (b ≡ true → ⊥) → b ≡ false
not_on true off = absurd (off refl)
not_on false off = refl

-- one more is marked, as one of the present level
pub AreCounted-more : (seen here : List Bool) (touched : List ℕ) (pending n : ℕ) → AreCounted seen here touched pending → 1 ≤ n → n < length seen → (marked here n ≡ true → ⊥) →
    AreCounted (set seen n true) (set here n true) (touched ++ n ∷ []) (pending + 1)
AreCounted-more seen here touched pending n a low high off =
    let same = length-set seen n true in
    let fits : n < length here = omega (arith, high, a.listed.same_room) in
    record {
      listed = record {
        same_room = length-set here n true ∙ a.listed.same_room ∙ sym same;
        in_range = All-push (λ v. (1 ≤ v) × (v < length (set seen n true))) touched n
            (All-weaker (λ v. (1 ≤ v) × (v < length seen)) (λ v. (1 ≤ v) × (v < length (set seen n true))) (λ v h. (h.0, omega (arith, h.1, same))) touched a.listed.in_range) (low, omega (arith, high, same));
        has_seen = λ v m. has seen v a.listed.has_seen m;
        has_here = λ v m. has here v a.listed.has_here m;
      };
      counted = omega (arith, a.counted, sum_by-set weight here n true false fits, ap weight (not_on (marked here n) off));
    }
  where
    weight : Bool → ℕ
    weight b = cond b 1 0

    has : (places : List Bool) (v : ℕ) → ((w : ℕ) → marked places w ≡ true → Contains touched w) → marked (set places n true) v ≡ true → Contains (touched ++ n ∷ []) v
    has places v before m = elim (same_or_not n v) [
      | inl e ↦ subst (Contains (touched ++ n ∷ [])) e (Contains-push touched n)
      | inr ne ↦ Contains-append_left touched (n ∷ []) v (before v (sym (marked-set_other places n v true ne) ∙ m))
    ]

-- those touched that are marked
pub AreMarked-listed : (seen here : List Bool) (touched kept : List ℕ) → AreListed seen here touched → kept ≡ filter (marked seen) touched → AreMarked seen kept
AreMarked-listed seen here touched kept a is = record {
  in_range = subst (All (λ v. (1 ≤ v) × (v < length seen))) (sym is) (All-filter (marked seen) (λ v. (1 ≤ v) × (v < length seen)) touched a.in_range);
  each = subst (All (λ v. marked seen v ≡ true)) (sym is) (filter_passes (marked seen) touched);
  has = λ v m. subst (λ vs. Contains vs v) (sym is) (Contains-filter (marked seen) touched v (a.has_seen v m) m);
}

-- one literal more
pub MarksClause-more : (old seen : List Bool) (clause : List Lit) (i : ℕ) (d : Lit) → i < length clause → (get_or clause i d).var < length seen → MarksClause old seen (take i clause) → MarksClause old (set seen (get_or clause i d).var true) (take (i + 1) clause)
MarksClause-more old seen clause i d lt fits m =
    let x = get_or clause i d in
    let n = x.var in
    let keep : (v : ℕ) → marked seen v ≡ true → marked (set seen n true) v ≡ true =
    λ v h. elim (same_or_not n v) [ inl e ↦ marked-set_same seen n v true fits e | inr ne ↦ marked-set_other seen n v true ne ∙ h ] in
    subst (MarksClause old (set seen n true)) (sym (take_more clause i d lt)) (record {
      kept = λ v h. keep v (m.kept v h);
      added = λ l has. elim (Contains-push_cases (take i clause) x l has) [
        | inl before ↦ keep l.var (m.added l before)
        | inr e ↦ marked-set_same seen n l.var true fits (ap (λ (y : Lit). y.var) e)
      ];
      others = λ v h. elim (same_or_not n v) [
        | inl e ↦ inr (x, (Contains-push (take i clause) x, e))
        | inr ne ↦ elim (m.others v (sym (marked-set_other seen n v true ne) ∙ h)) [
          | inl was ↦ inl was
          | inr w ↦ inr (w.0, (Contains-append_left (take i clause) (x ∷ []) w.0 w.1.0, w.1.1))
        ]
      ];
    })
