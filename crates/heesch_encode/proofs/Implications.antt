-- A negated variable among others.
use Rattle.std.proofs.Common.{◌≡◌, sym, ap, subst, ◌∙◌, ℕ, ◌-◌, ◌<◌, ◌≤◌, List, [], ◌∷◌, ◌++◌, length, take, drop, true, inl, inr, arith, All, Contains, lt-ltb}
use Rattle.std.specs.Prelude.{IsTrue, nat_lt}
use Rattle.std.proofs.lemmas.List.{take-append-drop, take_rest}
use Rattle.std.proofs.lemmas.List.Elements.{All-nil, All-contains, Contains-append_cases, Contains-append_left, Contains-append_right}
use Rattle.std.proofs.lemmas.Bool.{cases_order}
use Rattle.heesch_cnf.specs.declared.literal.Lit.{Lit}
use Rattle.heesch_grid.specs.Listing.{IsRising, ListsExactly}
use Rattle.heesch_grid.proofs.ListFacts.{member_cases, member_here, no_member, All-from_members}
use Rattle.heesch_grid.proofs.WindowFacts.{map_member, member_map}
use Rattle.heesch_cert.specs.Literals.{literals}
use Rattle.heesch_encode.specs.Literals.{plus_all, lit_before, IsOfImplication}
use Rattle.heesch_encode.proofs.Rising.{rising_map, rising_append, rising_parts}

module _ (n at : ℕ) (ns : List ℕ) where
  abbrev left : List ℕ
  left = take at ns

  abbrev right : List ℕ
  right = drop at ns

  abbrev front : List Lit
  front = plus_all left ++ literals.minus n ∷ []

  whole : left ++ right ≡ ns
  whole = take-append-drop at ns

  module _ (rising : IsRising nat_lt ns) (absent : ¬ Contains ns n) (below : All (λ m. m < n) left) (above : All (λ m. n ≤ m) right) where
    plus_rising : (ms : List ℕ) → IsRising nat_lt ms → IsRising lit_before (plus_all ms)
    plus_rising ms r = rising_map nat_lt lit_before literals.plus (λ x y t. t) ms r

    in_right : (m : ℕ) → Contains right m → n < m
    in_right m k =
        let low : n ≤ m = All-contains (λ m. n ≤ m) right m above k in
        elim (cases_order n m) [
          | inl e ↦ absurd (absent (subst (λ z. Contains ns z) (sym e) (subst (λ zs. Contains zs m) whole (Contains-append_right left right m k))))
          | inr o ↦ elim o [ inl less ↦ less | inr more ↦ absurd (omega arith) ]
        ]

    in_front : (l : Lit) → Contains front l → l.var ≤ n
    in_front l k =
        elim (Contains-append_cases (plus_all left) (literals.minus n ∷ []) l k) [
          | inl h ↦ let r = map_member literals.plus left l h in let low : r.0 < n = All-contains (λ m. m < n) left r.0 below r.1 in subst (λ (z : Lit). z.var ≤ n) r.2 (omega arith)
          | inr h ↦ elim (member_cases (literals.minus n) [] l h) [ inl e ↦ subst (λ (z : Lit). z.var ≤ n) e (omega arith) | inr none ↦ absurd (no_member l none) ]
        ]

    front_rising : IsRising lit_before front
    front_rising =
        rising_append lit_before (plus_all left) (literals.minus n ∷ []) (plus_rising left (rising_parts nat_lt at ns rising).0) (All-nil (λ m. IsTrue (lit_before (literals.minus n) m)), tt)
        (λ x y m k.
        let r = map_member literals.plus left x m in
        let low : r.0 < n = All-contains (λ m. m < n) left r.0 below r.1 in
        elim (member_cases (literals.minus n) [] y k) [ inl e ↦ subst (λ (z : Lit). nat_lt x.var z.var ≡ true) e (subst (λ (z : Lit). nat_lt z.var n ≡ true) r.2 (lt-ltb r.0 n low)) | inr none ↦ absurd (no_member y none) ])

    all_rising : IsRising lit_before (front ++ plus_all right)
    all_rising =
        rising_append lit_before front (plus_all right) front_rising (plus_rising right (rising_parts nat_lt at ns rising).1)
        (λ x y m k.
        let low : x.var ≤ n = in_front x m in
        let r = map_member literals.plus right y k in
        let high : n < r.0 = in_right r.0 r.1 in
        subst (λ (z : Lit). nat_lt x.var z.var ≡ true) r.2 (lt-ltb x.var r.0 (omega arith)))

    only : (l : Lit) → Contains (front ++ plus_all right) l → IsOfImplication n ns l
    only l k =
        elim (Contains-append_cases front (plus_all right) l k) [
          | inl h ↦ elim (Contains-append_cases (plus_all left) (literals.minus n ∷ []) l h) [
            | inl i ↦ let r = map_member literals.plus left l i in inr (r.0, (subst (λ zs. Contains zs r.0) whole (Contains-append_left left right r.0 r.1), sym r.2))
            | inr i ↦ elim (member_cases (literals.minus n) [] l i) [ inl e ↦ inl (sym e) | inr none ↦ absurd (no_member l none) ]
          ]
          | inr h ↦ let r = map_member literals.plus right l h in inr (r.0, (subst (λ zs. Contains zs r.0) whole (Contains-append_right left right r.0 r.1), sym r.2))
        ]

    every : (l : Lit) → IsOfImplication n ns l → Contains (front ++ plus_all right) l
    every l (inl e) = subst (λ z. Contains (front ++ plus_all right) z) (sym e) (Contains-append_left front (plus_all right) (literals.minus n) (Contains-append_right (plus_all left) (literals.minus n ∷ []) (literals.minus n) (member_here (literals.minus n) [])))
    every l (inr h) =
        subst (λ z. Contains (front ++ plus_all right) z) (sym h.1.1)
        (elim (Contains-append_cases left right h.0 (subst (λ zs. Contains zs h.0) (sym whole) h.1.0)) [
          | inl k ↦ Contains-append_left front (plus_all right) (literals.plus h.0) (Contains-append_left (plus_all left) (literals.minus n ∷ []) (literals.plus h.0) (member_map literals.plus left h.0 k))
          | inr k ↦ Contains-append_right front (plus_all right) (literals.plus h.0) (member_map literals.plus right h.0 k)
        ])

    -- the literals of the implication, where the numbers below n stand before it and those above after it
    pub implication_listed : ListsExactly lit_before (IsOfImplication n ns) (front ++ plus_all right)
    implication_listed = record { rising = all_rising; only = All-from_members (IsOfImplication n ns) (front ++ plus_all right) only; every = every }

-- the same, as it is written piece by piece
pub written : (n at : ℕ) (ns : List ℕ) (none first second third : List Lit) (l : Lit) → none ≡ [] → first ≡ none ++ plus_all (take at ns) → second ≡ first ++ l ∷ [] → l ≡ literals.minus n → third ≡ second ++ plus_all (take (length ns - at) (drop at ns)) → third ≡ (plus_all (take at ns) ++ literals.minus n ∷ []) ++ plus_all (drop at ns)
written n at ns none first second third l a b c d e =
    e ∙ ap (λ zs. second ++ plus_all zs) (take_rest ns at) ∙ ap (λ zs. zs ++ plus_all (drop at ns)) (c ∙ ap (λ z. first ++ z ∷ []) d ∙ ap (λ zs. zs ++ literals.minus n ∷ []) (b ∙ ap (λ zs. zs ++ plus_all (take at ns)) a))
