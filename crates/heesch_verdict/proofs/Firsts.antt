-- The first cover of the domains: what stands before it in their triples, and what is left open.
use Rattle.std.proofs.Common.{◌≡◌, refl, sym, ap, subst, ◌∙◌, ℕ, suc, ◌+◌, ◌<◌, ◌≤◌, not-suc-le-zero, List, [], ◌∷◌, ◌++◌, length, take, drop, get_or, true, ◌⊎◌, inl, inr, arith, All, Contains}
use Rattle.std.proofs.lemmas.Bool.{cases_lt}
use Rattle.std.proofs.lemmas.List.{append_assoc, length_push, take-append-drop, take-append-le, take_more}
use Rattle.std.proofs.lemmas.List.Elements.{All-contains, All-nil, All-push, All-weaker, Contains-append_left, Contains-append_right, Contains-get_or}
use Rattle.std.proofs.Math.ListN.{get_or-append}
use Rattle.std.proofs.Math.Seq.{drop-cons, get_or-append_seam, take-append_seam}
use Rattle.heesch_grid.specs.declared.Cell.{Cell}
use Rattle.heesch_grid.specs.Geometry.{Geometry, IsGrid}
use Rattle.heesch_grid.specs.Lattice.{Triple, IsTripleOfDomain}
use Rattle.heesch_grid.specs.Listing.{IsRising}
use Rattle.heesch_grid.specs.Tiling.{IsPeriodicCover}
use Rattle.heesch_grid.proofs.ListFacts.{member_cases, member_here, member_there}
use Rattle.heesch_cert.specs.declared.limits.Limits.{Limits}
use Rattle.heesch_cert.specs.declared.tiling.Tiling.{Tiling}
use Rattle.heesch_cert.specs.Reduced.{IsReducedPlace}
use Rattle.heesch_cert.specs.TrueEntry.{area_before}
use Rattle.heesch_tiling.proofs.Searching.{exact_quotient}
use Rattle.heesch_torus.specs.declared.answer.TorusAnswer.{TorusAnswer}
use Rattle.heesch_torus.specs.declared.answer.TorusAnswer.TheVariants.{Tiles, None, Spent}
use Rattle.heesch_torus.specs.Answer.{IsChosenCover, IsTorusAnswer}
use Rattle.heesch_torus.specs.declared.cover.CoverAnswer.TheVariants.{Open}
use Rattle.heesch_torus.specs.Covers.{IsCoverAnswer}
use Rattle.heesch_torus.specs.Domain.{HasDomain}
use Rattle.heesch_torus.specs.Domains.{AreUpTo, IsTripleUpTo}
use Rattle.heesch_verdict.specs.Domains.{AreLeftOpen, IsFirstOf, IsTried, StandsBehind}
use Rattle.heesch_verdict.specs.Earliest.{HasNoCover, IsPassedOver}
use Rattle.heesch_verdict.specs.Shapes.{IsCanonicalShape}
use Rattle.heesch_verdict.specs.Tilings.{IsCoverOf, IsFirstCover}
use Rattle.heesch_torus.proofs.Listed.{not_before_both}
use Rattle.heesch_verdict.proofs.Nearby.{places_in_range}

-- what comes before a triple of a rising list stands before it there
stands_before : (before after : List Triple) (t u : Triple) → IsRising area_before (before ++ t ∷ after) → Contains (before ++ t ∷ after) u → area_before u t ≡ true → Contains before u
stands_before [] after t u r m b =
    elim (member_cases t after u m) [
      | inl e ↦ let same : area_before u u ≡ true = subst (λ v. area_before u v ≡ true) e b in absurd (not_before_both u u same same)
      | inr k ↦ absurd (not_before_both u t b (All-contains (λ v. area_before t v ≡ true) after u r.0 k))
    ]
stands_before (x ∷ before) after t u r m b =
    elim (member_cases x (before ++ t ∷ after) u m) [
      | inl e ↦ subst (Contains (x ∷ before)) e (member_here x before)
      | inr k ↦ member_there x before u (stands_before before after t u r.1 k b)
    ]

-- what holds of each triple holds of the one that stands there
pub member_at : (P : Triple → Type 0) (ts : List Triple) → All P ts → (i : ℕ) (t : Triple) → i < length ts → t ≡ get_or ts i t → P t
member_at P ts all i t below is = subst P (sym is) (All-contains P ts (get_or ts i t) all (Contains-get_or ts i t below))

module _ (g : Geometry) where
  domain_of : (n most : ℕ) → most ≤ 12 → (t : Triple) → IsTripleUpTo g n most t → HasDomain g n t
  domain_of n most few t h = let low = h.1 in let high = h.2 in record { tiles = h.0; some = omega (arith, low); few = omega (arith, high, few); of_domain = h.3 }

  pub domain_at : (n most : ℕ) → most ≤ 12 → (triples : List Triple) → AreUpTo g n most triples → (i : ℕ) (t : Triple) → i < length triples → t ≡ get_or triples i t → HasDomain g n t
  domain_at n most few triples a i t below is = domain_of n most few t (member_at (IsTripleUpTo g n most) triples a.only i t below is)

  -- a cover for a triple of these domains, before which each is passed over, is their first
  pub first_cover_of : (limits : Limits) (shape : List Cell) → 1 ≤ length shape → (triples : List Triple) → AreUpTo g (length shape) limits.domain triples → (tiling : Tiling) → IsFirstOf g shape limits.turns triples tiling → IsFirstCover g limits shape tiling
  first_cover_of limits shape some triples a tiling f =
      let listed : AreUpTo g (length shape) limits.domain (f.before ++ tiling.triple ∷ f.after) = subst (AreUpTo g (length shape) limits.domain) f.is a in
      let h = All-contains (IsTripleUpTo g (length shape) limits.domain) (f.before ++ tiling.triple ∷ f.after) tiling.triple listed.only (Contains-append_right f.before (tiling.triple ∷ f.after) tiling.triple (member_here tiling.triple f.after)) in
      let e : length tiling.places ≡ h.0 = exact_quotient (length shape) (length tiling.places) h.0 some (sym f.is_cover.of_domain.area ∙ h.3.area) in
      let low = h.1 in
      let high = h.2 in
      record {
        is_cover = f.is_cover;
        many = omega (arith, e, low);
        few = omega (arith, e, high);
        earliest = λ t up b. All-contains (IsPassedOver g shape limits.turns) f.before t f.passed (stands_before f.before f.after tiling.triple t listed.rising (listed.every t up) b);
      }

  -- a cover that a search for one triple answers
  pub found_cover : IsGrid g → (shape : List Cell) → IsCanonicalShape g shape → (t : Triple) → HasDomain g (length shape) t → (tiling : Tiling) → IsChosenCover g shape t tiling → (tiling.triple ≡ t) × IsCoverOf g shape tiling
  found_cover law shape s t d tiling h =
      let domain : IsTripleOfDomain g (length shape) (length tiling.places) t = record { is_triple = d.of_domain.is_triple; area = h.count } in (
        h.triple,
        record {
          cover = subst (λ (u : Triple). IsPeriodicCover g shape u tiling.places) (sym h.triple) h.cover;
          of_domain = subst (IsTripleOfDomain g (length shape) (length tiling.places)) (sym h.triple) domain;
          near = places_in_range g law (length shape) d.tiles s.is_shape.few d.few t d.of_domain tiling.places h.chosen.within;
          reduced = subst (λ (u : Triple). All (IsReducedPlace g u) tiling.places) (sym h.triple) h.chosen.within;
        },
      )

  -- where a search for one triple answers no cover, the triple is passed over
  pub passed_over : (shape : List Cell) (turns : ℕ) (t : Triple) (answer : TorusAnswer) → IsTorusAnswer g shape t turns answer → ((tiling : Tiling) → answer ≡ Tiles tiling → ⊥) → IsPassedOver g shape turns t
  passed_over shape turns t (Tiles tiling) h none = absurd (none tiling refl)
  passed_over shape turns t (None log) h none = inl h.none
  passed_over shape turns t (Spent log) h none = inr (log, h.alone, h.spent)

-- ---- triples that are left open
module _ (g : Geometry) (shape : List Cell) where
  -- the triple has no cover or is one of these
  abbrev NoneOr : List Triple → Triple → Type 0
  NoneOr some u = HasNoCover g shape u ⊎ Contains some u

  further : (listed some : List Triple) (t : Triple) (more : List Triple) → StandsBehind g shape listed some t → StandsBehind g shape (listed ++ more) some t
  further listed some t more s = record { before = s.before; after = s.after ++ more; is = ap (λ xs. xs ++ more) s.is ∙ append_assoc s.before (t ∷ s.after) more; others = s.others }

  pub nothing_left : AreLeftOpen g shape [] []
  nothing_left = record { each = λ k d l. absurd (not-suc-le-zero l); others = All-nil (NoneOr []) }

  -- one triple more, which has no cover
  pub none_more : (listed left : List Triple) (t : Triple) → HasNoCover g shape t → AreLeftOpen g shape listed left → AreLeftOpen g shape (listed ++ t ∷ []) left
  none_more listed left t none o = record {
    each = λ k d l. further listed (take k left) (get_or left k d) (t ∷ []) (o.each k d l);
    others = All-push (NoneOr left) listed t o.others (inl none);
  }

  -- one triple more, which is left open
  pub open_more : (listed left : List Triple) (t : Triple) → AreLeftOpen g shape listed left → AreLeftOpen g shape (listed ++ t ∷ []) (left ++ t ∷ [])
  open_more listed left t o = record {
    each = λ k d l. at k d l;
    others = All-push (NoneOr (left ++ t ∷ [])) listed t (All-weaker (NoneOr left) (NoneOr (left ++ t ∷ [])) wider listed o.others) (inr (Contains-append_right left (t ∷ []) t (member_here t [])));
  }
    where
      wider : (u : Triple) → NoneOr left u → NoneOr (left ++ t ∷ []) u
      wider u h = elim h [ inl n ↦ inl n | inr m ↦ inr (Contains-append_left left (t ∷ []) u m) ]

      last : StandsBehind g shape (listed ++ t ∷ []) left t
      last = record { before = listed; after = []; is = refl; others = o.others }

      at : (k : ℕ) (d : Triple) → k < length (left ++ t ∷ []) → StandsBehind g shape (listed ++ t ∷ []) (take k (left ++ t ∷ [])) (get_or (left ++ t ∷ []) k d)
      at k d l =
          elim (cases_lt k (length left)) [
            | inl low ↦
                let some : take k (left ++ t ∷ []) ≡ take k left = take-append-le k left (t ∷ []) (omega (arith, low)) in
                let same : get_or (left ++ t ∷ []) k d ≡ get_or left k d = get_or-append left (t ∷ []) d k low in
                subst (λ xs. StandsBehind g shape (listed ++ t ∷ []) xs (get_or (left ++ t ∷ []) k d)) (sym some)
                (subst (StandsBehind g shape (listed ++ t ∷ []) (take k left)) (sym same) (further listed (take k left) (get_or left k d) (t ∷ []) (o.each k d low)))
            | inr top ↦
                let e : length left ≡ k = omega (arith, top, length_push left t, l) in
                subst (λ (n : ℕ). StandsBehind g shape (listed ++ t ∷ []) (take n (left ++ t ∷ [])) (get_or (left ++ t ∷ []) n d)) e
                (subst (λ xs. StandsBehind g shape (listed ++ t ∷ []) xs (get_or (left ++ t ∷ []) (length left) d)) (sym (take-append_seam left (t ∷ [])))
                (subst (StandsBehind g shape (listed ++ t ∷ []) left) (sym (get_or-append_seam left t [] d)) last))
          ]

  module _ (turns : ℕ) (listed left after : List Triple) (o : AreLeftOpen g shape listed left) where
    passed : (some before : List Triple) → All (NoneOr some) before → All (IsPassedOver g shape turns) some → All (IsPassedOver g shape turns) before
    passed some before a p = All-weaker (NoneOr some) (IsPassedOver g shape turns) (λ u h. elim h [ inl n ↦ inl n | inr m ↦ All-contains (IsPassedOver g shape turns) some u p m ]) before a

    -- a cover for an open triple, where those before it are passed over
    pub found_open : (first : Triple) (k : ℕ) (d : Triple) → k < length left → All (IsPassedOver g shape turns) (take k left) → (tiling : Tiling) → (tiling.triple ≡ get_or left k d) × IsCoverOf g shape tiling → IsFirstOf g shape turns (listed ++ first ∷ after) tiling
    found_open first k d below p tiling h =
        let s = further listed (take k left) (get_or left k d) (first ∷ after) (o.each k d below) in
        record {
          is_cover = h.1;
          before = s.before;
          after = s.after;
          is = s.is ∙ ap (λ u. s.before ++ u ∷ s.after) (sym h.0);
          passed = passed (take k left) s.before s.others p;
        }

    -- a cover for the triple behind them, where they are all passed over
    pub none_open : (found : Tiling) → IsCoverOf g shape found → All (IsPassedOver g shape turns) left → IsFirstOf g shape turns (listed ++ found.triple ∷ after) found
    none_open found c p = record { is_cover = c; before = listed; after = after; is = refl; passed = passed left listed o.others p }

-- each triple of a list has no cover or is left open, and those that are have domains
pub record AreTried (g : Geometry) (shape : List Cell) (nodes : ℕ) (listed left : List Triple) : Type 0 where
  pub are_open : AreLeftOpen g shape listed left
  pub domains : All (HasDomain g (length shape)) left
  pub tried : All (IsTried g shape nodes) listed

module _ (g : Geometry) (shape : List Cell) (nodes : ℕ) where
  pub tried_at_first : AreTried g shape nodes [] []
  tried_at_first = record { are_open = nothing_left g shape; domains = All-nil (HasDomain g (length shape)); tried = All-nil (IsTried g shape nodes) }

  pub none_tried : (listed left : List Triple) (t : Triple) → HasNoCover g shape t → AreTried g shape nodes listed left → AreTried g shape nodes (listed ++ t ∷ []) left
  none_tried listed left t none a = record { are_open = none_more g shape listed left t none a.are_open; domains = a.domains; tried = All-push (IsTried g shape nodes) listed t a.tried (inl none) }

  pub open_tried : (listed left : List Triple) (t : Triple) → HasDomain g (length shape) t → IsCoverAnswer g shape t nodes Open → AreTried g shape nodes listed left → AreTried g shape nodes (listed ++ t ∷ []) (left ++ t ∷ [])
  open_tried listed left t d answer a = record { are_open = open_more g shape listed left t a.are_open; domains = All-push (HasDomain g (length shape)) left t a.domains d; tried = All-push (IsTried g shape nodes) listed t a.tried (inr answer) }

-- a list is what stands before one of its items, that one, and what stands behind it
pub parts_at : (ts : List Triple) (i : ℕ) (d : Triple) → i < length ts → ts ≡ take i ts ++ get_or ts i d ∷ drop (suc i) ts
parts_at ts i d below = sym (take-append-drop i ts) ∙ ap (λ xs. take i ts ++ xs) (drop-cons ts i d below)

-- ---- the triples as they are gone through
module _ (g : Geometry) (shape : List Cell) (nodes : ℕ) (triples : List Triple) (k : ℕ) (t : Triple) (below : k < length triples) (is : t ≡ get_or triples k t) where
  more : take (k + 1) triples ≡ take k triples ++ t ∷ []
  more = take_more triples k t below ∙ ap (λ (u : Triple). take k triples ++ u ∷ []) (sym is)

  -- the next triple has no cover
  pub none_next : (left : List Triple) → HasNoCover g shape t → AreTried g shape nodes (take k triples) left → AreTried g shape nodes (take (k + 1) triples) left
  none_next left none a = subst (λ (ts : List Triple). AreTried g shape nodes ts left) (sym more) (none_tried g shape nodes (take k triples) left t none a)

  -- the next triple is left open
  pub open_next : (left : List Triple) → HasDomain g (length shape) t → IsCoverAnswer g shape t nodes Open → AreTried g shape nodes (take k triples) left → AreTried g shape nodes (take (k + 1) triples) (left ++ t ∷ [])
  open_next left d answer a = subst (λ (ts : List Triple). AreTried g shape nodes ts (left ++ t ∷ [])) (sym more) (open_tried g shape nodes (take k triples) left t d answer a)

module _ (g : Geometry) (law : IsGrid g) (limits : Limits) (few : limits.domain ≤ 12) (shape : List Cell) (s : IsCanonicalShape g shape) (triples : List Triple) (a : AreUpTo g (length shape) limits.domain triples) (k : ℕ) (t : Triple) (below : k < length triples)
    (is : t ≡ get_or triples k t) (found : Tiling) (h : IsChosenCover g shape t found) where
  -- a cover that the search for a triple of these domains answers
  pub found_at : (found.triple ≡ t) × IsCoverOf g shape found
  found_at = found_cover g law shape s t (domain_at g (length shape) limits.domain few triples a k t below is) found h

  -- what is the first of the triples that are left open before it and of its own is the first of all
  pub first_of_all : (left : List Triple) → AreLeftOpen g shape (take k triples) left → (tiling : Tiling) → ((before after : List Triple) → AreLeftOpen g shape before left → IsFirstOf g shape limits.turns (before ++ found.triple ∷ after) tiling) →
      IsFirstCover g limits shape tiling
  first_of_all left o tiling first =
      let before = take k triples in
      let after = drop (suc k) triples in
      let whole : triples ≡ before ++ found.triple ∷ after = parts_at triples k t below ∙ ap (λ (u : Triple). before ++ u ∷ after) (sym (found_at.0 ∙ is)) in
      first_cover_of g limits shape s.is_shape.polyform.some triples a tiling (subst (λ (ts : List Triple). IsFirstOf g shape limits.turns ts tiling) (sym whole) (first before after o))

-- ---- the open triples as they are gone through
module _ (g : Geometry) (shape : List Cell) (turns : ℕ) (left : List Triple) (k : ℕ) (t : Triple) (below : k < length left) (is : t ≡ get_or left k t) (p : All (IsPassedOver g shape turns) (take k left)) where
  -- the next one is passed over
  pub passed_next : (answer : TorusAnswer) → IsTorusAnswer g shape t turns answer → ((tiling : Tiling) → answer ≡ Tiles tiling → ⊥) → All (IsPassedOver g shape turns) (take (k + 1) left)
  passed_next answer h none =
      let Passed = IsPassedOver g shape turns in
      subst (All Passed) (sym (take_more left k t below)) (All-push Passed (take k left) (get_or left k t) p (subst Passed is (passed_over g shape turns t answer h none)))

  -- the next one has a cover
  pub covered_next : IsGrid g → IsCanonicalShape g shape → All (HasDomain g (length shape)) left → (tiling : Tiling) → IsChosenCover g shape t tiling → (first : Triple) (listed after : List Triple) → AreLeftOpen g shape listed left → IsFirstOf g shape turns (listed ++ first ∷ after) tiling
  covered_next law s domains tiling h first listed after o =
      let found = found_cover g law shape s t (member_at (HasDomain g (length shape)) left domains k t below is) tiling h in
      found_open g shape turns listed left after o first k t below p tiling (found.0 ∙ is, found.1)
