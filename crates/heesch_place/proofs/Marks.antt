-- Marks of spots: marks that are set, and the list of the spots that have one.
use Rattle.std.proofs.Common.{◌≡◌, sym, ap, ◌∙◌, subst, ℕ, ◌+◌, ◌<◌, ◌≤◌, Bool, true, false, not, ◌==◌, List, [], ◌∷◌, ◌++◌, length, get_or, set, take, drop, Contains, inl, inr, arith, true≢false}
use Rattle.std.specs.Prelude.{nat_abs, nat_le}
use Rattle.std.proofs.Math.Seq.{take-append_seam}
use Rattle.std.proofs.lemmas.Bool.{and_from, and_parts, false_from_ne_true, le-leb, leb-true, not-true, not_from_false, cases_Bool, cases_lt, eqb-true, eq-eqb}
use Rattle.std.proofs.lemmas.List.{get_or-set_same, get_or-set_other, get_or_past}
use Rattle.std.proofs.lemmas.List.Elements.{All-contains, All-nil, Contains-append_left, Contains-append_right, Contains-append_cases}
use Rattle.heesch_grid.specs.Listing.{ListsExactly}
use Rattle.heesch_grid.specs.declared.Cell.{Cell}
use Rattle.heesch_grid.specs.Pairs.{abs_within, within_abs}
use Rattle.heesch_grid.specs.Vectors.{IsWithin}
use Rattle.heesch_grid.proofs.ListFacts.{All-from_members, member_cases, member_here, no_member}
use Rattle.heesch_place.specs.declared.spots.Spot.{Spot}
use Rattle.heesch_place.specs.Found.{Joins}
use Rattle.heesch_place.specs.Spots.{IsMarked, IsSet, has_mark, is_near, MarkedSpots, spot_before, spot_place, width}
use Rattle.heesch_place.proofs.Gathering.{rising_push}
use Rattle.heesch_place.proofs.Places.{place_before, same_place}

-- one more mark is set
pub set_joins : (marks : List Bool) (n : ℕ) → n < length marks → Joins (λ place. place ≡ n) (IsSet marks) (IsSet (set marks n true))
set_joins marks n less = record {
  kept = λ p h. elim (cases_Bool (p == n)) [
    | inl t ↦ here p (eqb-true p n t)
    | inr f ↦ get_or-set_other marks n p true false (λ e. true≢false (sym (eq-eqb p n e) ∙ f)) ∙ h
  ];
  all = λ p e. here p e;
  only = λ p h. elim (cases_Bool (p == n)) [
    | inl t ↦ inr (eqb-true p n t)
    | inr f ↦ inl (sym (get_or-set_other marks n p true false (λ e. true≢false (sym (eq-eqb p n e) ∙ f))) ∙ h)
  ];
}
  where
    here : (p : ℕ) → p ≡ n → get_or (set marks n true) p false ≡ true
    here p e = ap (λ k. get_or (set marks n true) k false) e ∙ get_or-set_same marks n true false less

-- only marks that are there are set
pub set_within : (marks : List Bool) (p : ℕ) → IsSet marks p → p < length marks
set_within marks p h = elim (cases_lt p (length marks)) [ inl l ↦ l | inr l ↦ absurd (true≢false (sym h ∙ get_or_past marks p false l)) ]

module _ (m : MarkedSpots) where
  abbrev pub place_of : Spot → ℕ
  place_of = spot_place (width m.radius) m.radius m.forms

  -- the spots with a mark whose place comes before `most`, in order
  abbrev pub IsListed : ℕ → List Spot → Type 0
  IsListed most spots = ListsExactly spot_before (λ s. IsMarked m s × (place_of s < most)) spots

  pub listed_none : IsListed 0 []
  listed_none = record { rising = tt; only = All-nil (λ s. IsMarked m s × (place_of s < 0)); every = λ s h. let l = h.1 in absurd (omega arith) }

  pub listed_skip : (at : ℕ) (spots : List Spot) → get_or m.marks at false ≡ false → IsListed at spots → IsListed (at + 1) spots
  listed_skip at spots none l = record {
    rising = l.rising;
    only = All-from_members (λ s. IsMarked m s × (place_of s < at + 1)) spots (λ s k. let h = All-contains (λ s. IsMarked m s × (place_of s < at)) spots s l.only k in (h.0, let less = h.1 in omega arith));
    every = λ s h. elim (cases_lt (place_of s) at) [
      | inl less ↦ l.every s (h.0, less)
      | inr high ↦ let less = h.1 in let e : place_of s ≡ at = omega arith in absurd (true≢false (sym h.0.marked ∙ ap (λ n. get_or m.marks n false) e ∙ none))
    ];
  }

  pub listed_push : (at : ℕ) (s : Spot) (spots new : List Spot) → s.form < m.forms → IsWithin m.radius s.first → place_of s ≡ at → get_or m.marks at false ≡ true → new ≡ spots ++ s ∷ [] → IsListed at spots → IsListed (at + 1) new
  listed_push at s spots new inside within is marked pushed l =
      let P : Spot → Type 0 = λ t. IsMarked m t × (place_of t < at) in
      let Q : Spot → Type 0 = λ t. IsMarked m t × (place_of t < at + 1) in
      let here : IsMarked m s = record { inside = inside; within = within; marked = ap (λ n. get_or m.marks n false) is ∙ marked } in
      subst (IsListed (at + 1)) (sym pushed) (record {
        rising = rising_push spot_before spots s l.rising (λ t k.
            let h = All-contains P spots t l.only k in
            let less = h.1 in
            place_before m.radius m.forms t s h.0.within within h.0.inside inside (omega arith));
        only = All-from_members Q (spots ++ s ∷ []) (λ t k. elim (Contains-append_cases spots (s ∷ []) t k) [
          | inl o ↦ let h = All-contains P spots t l.only o in (h.0, let less = h.1 in omega arith)
          | inr o ↦ elim (member_cases s [] t o) [ inl e ↦ subst Q e (here, omega arith) | inr none ↦ absurd (no_member t none) ]
        ]);
        every = λ t h. elim (cases_lt (place_of t) at) [
          | inl less ↦ Contains-append_left spots (s ∷ []) t (l.every t (h.0, less))
          | inr high ↦
              let less = h.1 in
              let e : t ≡ s = same_place m.radius m.forms t s h.0.within within h.0.inside inside (omega arith) in
              subst (Contains (spots ++ s ∷ [])) (sym e) (Contains-append_right spots (s ∷ []) s (member_here s []))
        ];
      })

  pub listed_all : (at : ℕ) (spots : List Spot) → length m.marks ≤ at → IsListed at spots → ListsExactly spot_before (IsMarked m) spots
  listed_all at spots long l = record {
    rising = l.rising;
    only = All-from_members (IsMarked m) spots (λ s k. (All-contains (λ s. IsMarked m s × (place_of s < at)) spots s l.only k).0);
    every = λ s h. l.every s (h, let less = set_within m.marks (place_of s) h.marked in omega arith);
  }

-- the tests of a place and of a mark
pub near_within : (n : ℕ) (c : Cell) → is_near n c ≡ true → IsWithin n c
near_within n c h = let both = and_parts (nat_le (nat_abs c.a) n) (nat_le (nat_abs c.b) n) h in within_abs n c (leb-true (nat_abs c.a) n both.0) (leb-true (nat_abs c.b) n both.1)

pub has_marked : (m : MarkedSpots) (s : Spot) → s.form < m.forms → has_mark m s ≡ true → IsMarked m s
unfolding has_mark
has_marked m s inside h =
    let both = and_parts (is_near m.radius s.first) (get_or m.marks (place_of m s) false) h in
    record { inside = inside; within = near_within m.radius s.first both.0; marked = both.1 }

pub marked_has : (m : MarkedSpots) (s : Spot) → IsMarked m s → has_mark m s ≡ true
unfolding has_mark
marked_has m s h =
    let w = abs_within m.radius s.first h.within in
    and_from (is_near m.radius s.first) (get_or m.marks (place_of m s) false) (and_from (nat_le (nat_abs s.first.a) m.radius) (nat_le (nat_abs s.first.b) m.radius) (le-leb (nat_abs s.first.a) m.radius w.0) (le-leb (nat_abs s.first.b) m.radius w.1)) h.marked

pub unmarked : (m : MarkedSpots) (s : Spot) → s.form < m.forms → (IsMarked m s → ⊥) → not (has_mark m s) ≡ true
unmarked m s inside none = not_from_false (has_mark m s) (false_from_ne_true (has_mark m s) (λ h. none (has_marked m s inside h)))

pub not_marked : (m : MarkedSpots) (s : Spot) → not (has_mark m s) ≡ true → IsMarked m s → ⊥
not_marked m s h k = true≢false (sym (marked_has m s k) ∙ not-true (has_mark m s) h)

-- marks that are all written
pub rewritten : {X : Type 0} (n : ℕ) (new old : List X) → n ≡ length new → take n (new ++ drop (length new) old) ≡ new
rewritten n new old e = ap (λ k. take k (new ++ drop (length new) old)) e ∙ take-append_seam new (drop (length new) old)
