-- Classes found tile by tile are the classes.
use Rattle.std.proofs.Common.{◌≡◌, refl, sym, ap, subst, ◌∙◌, ℕ, zero, suc, ◌+◌, ◌<◌, ◌≤◌, List, [], ◌∷◌, ◌++◌, length, max, take, Some, Result, inl, inr, arith, length-append}
use Rattle.std.specs.List.{slice_get}
use Rattle.std.specs.Result.{OnOk}
use Rattle.std.proofs.Math.Seq.{take-append_seam}
use Rattle.std.proofs.lemmas.Bool.{cases_lt}
use Rattle.std.proofs.lemmas.List.{take-append-le}
use Rattle.std.proofs.lemmas.List.Sums.{fold-append}
use Rattle.std.proofs.lemmas.Option.{slice_get_within}
use Rattle.heesch_grid.specs.declared.Cell.{Cell}
use Rattle.heesch_grid.specs.declared.isometries.Iso.{Iso}
use Rattle.heesch_grid.specs.Facts.{IsClosed}
use Rattle.heesch_grid.specs.Geometry.{Geometry, IsGrid, apply, image}
use Rattle.heesch_grid.specs.Lattice.{Triple, IsTriple}
use Rattle.heesch_grid.specs.Symmetry.{InOneClass, TakesExactly, Member, IsRepresentative, greatest_class, AreClasses}
use Rattle.heesch_grid.specs.Tiling.{no_move}
use Rattle.heesch_grid.proofs.SymmetryFacts.{symmetries_compose}
use Rattle.heesch_orbit.specs.Found.{IsMember, IsNew, AreFound}
use Rattle.heesch_orbit.specs.Symmetries.{IsLeastTaking}
use Rattle.heesch_orbit.proofs.Deciding.{classes_take_exactly, classes_go_both_ways}
use Rattle.heesch_orbit.proofs.Lists.{get_last, one_value, get_cases, get_still}
use Rattle.heesch_orbit.proofs.Options.{on_ok}
use Rattle.heesch_orbit.proofs.Sets.{set_of, map_same, still}

same_length : {X Y : Type 0} (xs : List X) (x : X) (ys : List Y) (y : Y) → length xs ≡ length ys → length (xs ++ x ∷ []) ≡ length (ys ++ y ∷ [])
same_length xs x ys y e = length-append xs (x ∷ []) ∙ ap (λ n. n + 1) e ∙ sym (length-append ys (y ∷ []))

-- the greatest class with one more member
greatest_more : (members : List Member) (x : Member) → greatest_class (members ++ x ∷ []) ≡ max (greatest_class members) x.class
greatest_more members x = fold-append (λ m (member : Member). max m member.class) 0 members (x ∷ [])

-- a representative stays one
representative_still : (members : List Member) (x : Member) (class r : ℕ) → IsRepresentative members class r → IsRepresentative (members ++ x ∷ []) class r
representative_still members x class r (first, before) =
    let less : r < length members = slice_get_within members r first.0 first.1 in (
      (first.0, get_still members (x ∷ []) first.0 r first.1, first.2),
      (λ k member l e. elim (get_cases members x member k e) [ inl h ↦ before k member l h.1 | inr h ↦ absurd (let is = h.0 in omega (arith, is, l, less)) ]),
    )

-- a class has one representative
one_representative : (members : List Member) (class r s : ℕ) → IsRepresentative members class r → IsRepresentative members class s → r ≡ s
one_representative members class r s p q =
    elim (cases_lt r s) [
      | inl l ↦ absurd (q.1 r p.0.0 l p.0.1 p.0.2)
      | inr m ↦ elim (cases_lt s r) [ inl l ↦ absurd (p.1 s q.0.0 l q.0.1 q.0.2) | inr n ↦ omega (arith, m, n) ]
    ]

module _ (g : Geometry) (law : IsGrid g) (shape : List Cell) (t : Triple) (triple : IsTriple t) (places : List Iso) where
  -- the members of old tiles and of the new one
  members_more : (tiles representatives : List Iso) (members : List Member) (to : Iso) (x : Member) → length members ≡ length tiles → ((n : ℕ) (y : Member) (at : Iso) → slice_get members n ≡ Some y → slice_get tiles n ≡ Some at → IsMember g shape t places representatives at y) → IsMember g shape t places representatives to x → (n : ℕ) (y : Member) (at : Iso) → slice_get (members ++ x ∷ []) n ≡ Some y → slice_get (tiles ++ to ∷ []) n ≡ Some at → IsMember g shape t places representatives at y
  members_more tiles representatives members to x long old new n y at e f =
      elim (get_cases members x y n e) [
        | inl h ↦ elim (get_cases tiles to at n f) [ inl k ↦ old n y at h.1 k.1 | inr k ↦ absurd (let l = h.0 in let is = k.0 in omega (arith, l, is, long)) ]
        | inr h ↦ elim (get_cases tiles to at n f) [
          | inl k ↦ absurd (let l = k.0 in let is = h.0 in omega (arith, l, is, long))
          | inr k ↦ subst (λ (z : Member). IsMember g shape t places representatives at z) (sym h.1) (subst (λ (z : Iso). IsMember g shape t places representatives z x) (sym k.1) new)
        ]
      ]

  numbered_more : (members : List Member) (x : Member) → ((n : ℕ) (y : Member) → slice_get members n ≡ Some y → y.class ≤ greatest_class (take n members) + 1) → x.class ≤ greatest_class members + 1 → (n : ℕ) (y : Member) → slice_get (members ++ x ∷ []) n ≡ Some y → y.class ≤ greatest_class (take n (members ++ x ∷ [])) + 1
  numbered_more members x old new n y e =
      elim (get_cases members x y n e) [
        | inl h ↦ subst (λ zs. y.class ≤ greatest_class zs + 1) (sym (take-append-le n members (x ∷ []) (below n (length members) h.0))) (old n y h.1)
        | inr h ↦ subst (λ (z : Member). z.class ≤ greatest_class (take n (members ++ x ∷ [])) + 1) (sym h.1) (subst (λ zs. x.class ≤ greatest_class zs + 1) (sym (ap (λ k. take k (members ++ x ∷ [])) h.0 ∙ take-append_seam members (x ∷ []))) new)
      ]
    where
      below : (n m : ℕ) → n < m → n ≤ m
      below n m l = omega arith

  -- one more tile of a known class
  pub known_found : (tiles representatives : List Iso) (members : List Member) (to : Iso) (x : Member) → AreFound g shape t places tiles representatives members → IsMember g shape t places representatives to x → AreFound g shape t places (tiles ++ to ∷ []) representatives (members ++ x ∷ [])
  known_found tiles representatives members to x a m =
      let inside : m.at < length representatives = slice_get_within representatives m.at m.from m.is_representative in
      let class : x.class ≡ m.at + 1 = m.class_is in
      record {
        one_each = same_length members x tiles to a.one_each;
        greatest = greatest_more members x ∙ kept (greatest_class members) x.class (length representatives) m.at a.greatest class inside;
        apart = a.apart;
        first = λ n from e. let r = a.first n from e in (r.0, get_still tiles (to ∷ []) from r.0 r.1, representative_still members x (n + 1) r.0 r.2);
        member = members_more tiles representatives members to x a.one_each a.member m;
        numbered = numbered_more members x a.numbered (small (greatest_class members) x.class (length representatives) m.at a.greatest class inside);
      }
    where
      kept : (m c n k : ℕ) → m ≡ n → c ≡ k + 1 → k < n → max m c ≡ n
      kept m c n k e f l = omega arith

      small : (m c n k : ℕ) → m ≡ n → c ≡ k + 1 → k < n → c ≤ m + 1
      small m c n k e f l = omega arith

  -- a tile is taken to itself by what moves nothing
  stays : (to : Iso) → IsLeastTaking g shape t places to to no_move
  stays to = record {
    takes = record { is_symmetry = (symmetries_compose g shape t places law triple).nothing; same = set_of (image g no_move (image g to shape)) (image g to shape) (map_same (apply g no_move) (still g law) (image g to shape)) };
    least = λ other h. none other.turn;
  }
    where
      none : (n : ℕ) → 0 ≤ n
      none n = omega arith

  wider : (representatives : List Iso) (to at : Iso) (x : Member) → IsMember g shape t places representatives at x → IsMember g shape t places (representatives ++ to ∷ []) at x
  wider representatives to at x m = record { at = m.at; from = m.from; class_is = m.class_is; is_representative = get_still representatives (to ∷ []) m.from m.at m.is_representative; least = m.least }

  -- one more tile of a new class
  pub new_found : (tiles representatives : List Iso) (members : List Member) (to : Iso) (x : Member) → AreFound g shape t places tiles representatives members → IsNew g shape t places representatives to → x ≡ record { class = length representatives + 1; by = no_move } → AreFound g shape t places (tiles ++ to ∷ []) (representatives ++ to ∷ []) (members ++ x ∷ [])
  new_found tiles representatives members to x a new is =
      let class : x.class ≡ length representatives + 1 = ap (λ (z : Member). z.class) is in
      let by : x.by ≡ no_move = ap (λ (z : Member). z.by) is in
      record {
        one_each = same_length members x tiles to a.one_each;
        greatest = greatest_more members x ∙ grown (greatest_class members) x.class (length representatives) a.greatest class ∙ sym (length-append representatives (to ∷ []));
        apart = λ m n from at l e f h. apart m n from at l e f h;
        first = λ n from e. elim (get_cases representatives to from n e) [
          | inl h ↦ let r = a.first n from h.1 in (r.0, get_still tiles (to ∷ []) from r.0 r.1, representative_still members x (n + 1) r.0 r.2)
          | inr h ↦ (
            length members,
            ap (slice_get (tiles ++ to ∷ [])) a.one_each ∙ get_last tiles to ∙ ap Some (sym h.1),
            ((x, get_last members x, class ∙ ap (λ k. k + 1) (sym h.0)), (λ k member l f same. earlier n k member h.0 l f same)),
          )
        ];
        member = members_more tiles (representatives ++ to ∷ []) members to x a.one_each (λ n y at e f. wider representatives to at y (a.member n y at e f)) (record {
          at = length representatives;
          from = to;
          class_is = class;
          is_representative = get_last representatives to;
          least = subst (λ (z : Iso). IsLeastTaking g shape t places to to z) (sym by) (stays to);
        });
        numbered = numbered_more members x a.numbered (next (greatest_class members) x.class (length representatives) a.greatest class);
      }
    where
      grown : (m c n : ℕ) → m ≡ n → c ≡ n + 1 → max m c ≡ n + 1
      grown m c n e f = omega arith

      next : (m c n : ℕ) → m ≡ n → c ≡ n + 1 → c ≤ m + 1
      next m c n e f = omega arith

      apart : (m n : ℕ) (from at : Iso) → m < n → slice_get (representatives ++ to ∷ []) m ≡ Some from → slice_get (representatives ++ to ∷ []) n ≡ Some at → InOneClass g shape t places from at → ⊥
      apart m n from at l e f h =
          elim (get_cases representatives to from m e) [
            | inl j ↦ elim (get_cases representatives to at n f) [
              | inl k ↦ a.apart m n from at l j.1 k.1 h
              | inr k ↦ let r = (classes_take_exactly g shape t places from to law triple).0 (subst (λ (z : Iso). InOneClass g shape t places from z) k.1 h) in new m from r.0 j.1 r.1
            ]
            | inr j ↦ elim (get_cases representatives to at n f) [
              | inl k ↦ absurd (let is = j.0 in let less = k.0 in omega (arith, is, less, l))
              | inr k ↦ absurd (let is = j.0 in let other = k.0 in omega (arith, is, other, l))
            ]
          ]

      earlier : (n k : ℕ) (member : Member) → n ≡ length representatives → k < length members → slice_get (members ++ x ∷ []) k ≡ Some member → member.class ≡ n + 1 → ⊥
      earlier n k member n_is l f same =
          elim (get_cases members x member k f) [
            | inl h ↦
                let tile : (at : Iso) × (slice_get tiles k ≡ Some at) = some_tile tiles k (subst (λ m. k < m) a.one_each l) in
                let m : IsMember g shape t places representatives tile.0 member = a.member k member tile.0 h.1 tile.1 in
                let inside : m.at < length representatives = slice_get_within representatives m.at m.from m.is_representative in
                let is : member.class ≡ m.at + 1 = m.class_is in
                omega (arith, inside, is, same, n_is)
            | inr h ↦ let is = h.0 in omega (arith, is, l)
          ]
        where
          some_tile : (xs : List Iso) (k : ℕ) → k < length xs → (at : Iso) × (slice_get xs k ≡ Some at)
          some_tile [] k l = absurd (omega arith)
          some_tile (y ∷ ys) zero l = (y, refl)
          some_tile (y ∷ ys) (suc k) l = some_tile ys k (omega arith)

  -- ---- all tiles

  -- what is found of all places are the classes
  pub all_found : (representatives : List Iso) (members : List Member) (count : ℕ) → count ≡ length representatives → AreFound g shape t places places representatives members → AreClasses g shape t places count members
  all_found representatives members count is a = record {
    one_each = a.one_each;
    count_is = is ∙ sym a.greatest;
    together = λ m n x y from to e f h k. (alike m n x y from to e f h k, one m n x y from to e f h k);
    numbered = λ n x e. (positive n x e, a.numbered n x e);
    by_exact = λ n r x from to e p h k.
        let m : IsMember g shape t places representatives to x = a.member n x to e k in
        subst (λ (z : Iso). TakesExactly g shape t places z to x.by) (named x m r from p h) m.least.takes;
    by_least = λ n r x from to by e p h k takes.
        let m : IsMember g shape t places representatives to x = a.member n x to e k in
        m.least.least by (subst (λ (z : Iso). TakesExactly g shape t places z to by) (sym (named x m r from p h)) takes);
  }
    where
      closed : IsClosed g shape t places
      closed = symmetries_compose g shape t places law triple

      -- the representative by its tile is the one by its class
      named : {to : Iso} (x : Member) (m : IsMember g shape t places representatives to x) (r : ℕ) (from : Iso) → IsRepresentative members x.class r → slice_get places r ≡ Some from → m.from ≡ from
      named x m r from p h =
          let s = a.first m.at m.from m.is_representative in
          let same : s.0 ≡ r = one_representative members x.class s.0 r (subst (λ c. IsRepresentative members c s.0) (sym m.class_is) s.2) p in
          one_value (slice_get places r) m.from from (ap (slice_get places) (sym same) ∙ s.1) h

      in_class : (to : Iso) (x : Member) (m : IsMember g shape t places representatives to x) → InOneClass g shape t places m.from to
      in_class to x m = (classes_take_exactly g shape t places m.from to law triple).1 (x.by, m.least.takes)

      back : (from to : Iso) → InOneClass g shape t places from to → InOneClass g shape t places to from
      back from to = classes_go_both_ways g shape t places from to law triple

      alike : (m n : ℕ) (x y : Member) (from to : Iso) → slice_get members m ≡ Some x → slice_get members n ≡ Some y → slice_get places m ≡ Some from → slice_get places n ≡ Some to → x.class ≡ y.class → InOneClass g shape t places from to
      alike m n x y from to e f h k same =
          let p : IsMember g shape t places representatives from x = a.member m x from e h in
          let q : IsMember g shape t places representatives to y = a.member n y to f k in
          let at : p.at ≡ q.at = number p.at q.at x.class y.class p.class_is q.class_is same in
          let one : p.from ≡ q.from = one_value (slice_get representatives p.at) p.from q.from p.is_representative (ap (slice_get representatives) at ∙ q.is_representative) in
          closed.through from p.from to (back p.from from (in_class from x p)) (subst (λ (z : Iso). InOneClass g shape t places z to) (sym one) (in_class to y q))
        where
          number : (p q c d : ℕ) → c ≡ p + 1 → d ≡ q + 1 → c ≡ d → p ≡ q
          number p q c d e f h = omega arith

      one : (m n : ℕ) (x y : Member) (from to : Iso) → slice_get members m ≡ Some x → slice_get members n ≡ Some y → slice_get places m ≡ Some from → slice_get places n ≡ Some to → InOneClass g shape t places from to → x.class ≡ y.class
      one m n x y from to e f h k together =
          let p : IsMember g shape t places representatives from x = a.member m x from e h in
          let q : IsMember g shape t places representatives to y = a.member n y to f k in
          let here : InOneClass g shape t places p.from q.from = closed.through p.from to q.from (closed.through p.from from to (in_class from x p) together) (back q.from to (in_class to y q)) in
          elim (cases_lt p.at q.at) [
            | inl l ↦ absurd (a.apart p.at q.at p.from q.from l p.is_representative q.is_representative here)
            | inr l ↦ elim (cases_lt q.at p.at) [
              | inl r ↦ absurd (a.apart q.at p.at q.from p.from r q.is_representative p.is_representative (back p.from q.from here))
              | inr r ↦ number p.at q.at x.class y.class p.class_is q.class_is l r
            ]
          ]
        where
          number : (p q c d : ℕ) → c ≡ p + 1 → d ≡ q + 1 → q ≤ p → p ≤ q → c ≡ d
          number p q c d e f h k = omega arith

      positive : (n : ℕ) (x : Member) → slice_get members n ≡ Some x → 1 ≤ x.class
      positive n x e =
          let tile : (at : Iso) × (slice_get places n ≡ Some at) = some_tile places n (subst (λ m. n < m) a.one_each (slice_get_within members n x e)) in
          let m : IsMember g shape t places representatives tile.0 x = a.member n x tile.0 e tile.1 in
          let is : x.class ≡ m.at + 1 = m.class_is in
          omega (arith, is)
        where
          some_tile : (xs : List Iso) (k : ℕ) → k < length xs → (at : Iso) × (slice_get xs k ≡ Some at)
          some_tile [] k l = absurd (omega arith)
          some_tile (y ∷ ys) zero l = (y, refl)
          some_tile (y ∷ ys) (suc k) l = some_tile ys k (omega arith)

-- the first so many elements are all

-- ---- one tile more, where it could be pushed
module _ (g : Geometry) (law : IsGrid g) (shape : List Cell) (t : Triple) (triple : IsTriple t) (places : List Iso) (representatives read : List Iso) (read_is : read ≡ representatives) (to : Iso) (x : Member) (old new : List Member) where
  pub known_pushed : {X E : Type 0} → IsMember g shape t places read to x → (r : Result X E) → OnOk r (new ≡ old ++ x ∷ []) → OnOk r ((tiles : List Iso) → AreFound g shape t places tiles representatives old → AreFound g shape t places (tiles ++ to ∷ []) representatives new)
  known_pushed m r pushed =
      on_ok (new ≡ old ++ x ∷ []) ((tiles : List Iso) → AreFound g shape t places tiles representatives old → AreFound g shape t places (tiles ++ to ∷ []) representatives new)
      (λ e tiles a. subst (λ (ms : List Member). AreFound g shape t places (tiles ++ to ∷ []) representatives ms) (sym e) (known_found g law shape t triple places tiles representatives old to x a (subst (λ (rs : List Iso). IsMember g shape t places rs to x) read_is m)))
      r pushed

  pub new_pushed : {X E : Type 0} → IsNew g shape t places read to → (count : ℕ) → count ≡ length representatives + 1 → x ≡ record { class = count; by = no_move } → (more : List Iso) → more ≡ representatives ++ to ∷ [] → (r : Result X E) → OnOk r (new ≡ old ++ x ∷ []) →
      OnOk r ((tiles : List Iso) → AreFound g shape t places tiles representatives old → AreFound g shape t places (tiles ++ to ∷ []) more new)
  new_pushed none count long is more more_is r pushed =
      on_ok (new ≡ old ++ x ∷ []) ((tiles : List Iso) → AreFound g shape t places tiles representatives old → AreFound g shape t places (tiles ++ to ∷ []) more new)
      (λ e tiles a. subst (λ (ms : List Member). AreFound g shape t places (tiles ++ to ∷ []) more ms) (sym e) (subst (λ (rs : List Iso). AreFound g shape t places (tiles ++ to ∷ []) rs (old ++ x ∷ [])) (sym more_is) (found tiles a)))
      r pushed
    where
      numbered : ℕ → Member
      numbered k = record { class = k; by = no_move }

      found : (tiles : List Iso) → AreFound g shape t places tiles representatives old → AreFound g shape t places (tiles ++ to ∷ []) (representatives ++ to ∷ []) (old ++ x ∷ [])
      found tiles a = new_found g law shape t triple places tiles representatives old to x a (subst (λ (rs : List Iso). IsNew g shape t places rs to) read_is none) (is ∙ ap numbered long)

pub take_all : (n : ℕ) (xs : List Iso) → length xs ≤ n → take n xs ≡ xs
take_all zero [] l = refl
take_all (suc n) [] l = refl
take_all zero (x ∷ xs) l = absurd (omega arith)
take_all (suc n) (x ∷ xs) l = ap (λ zs. x ∷ zs) (take_all n xs (omega arith))
