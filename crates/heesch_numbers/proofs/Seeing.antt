-- Literals that are looked at one after another, and what is left of a clause that has them.
use Rattle.std.proofs.Common.{◌≡◌, refl, sym, ap, subst, ◌∙◌, ℕ, ◌+◌, ◌<◌, ◌≤◌, List, [], ◌∷◌, ◌++◌, filter, length, get_or, take, drop, Bool, true, false, cond, not, inl, inr, ◌⊎◌, arith, All, Contains, true≢false}
use Rattle.std.proofs.lemmas.List.Elements.{All-nil, All-cons, All-append, All-contains, All-weaker, Contains-append_left, Contains-append_right, filter-append}
use Rattle.std.specs.Prelude.{flat_map}
use Rattle.std.proofs.lemmas.Bool.{not-true}
use Rattle.std.proofs.lemmas.List.{take_all, take_more, take-append-drop, append-nil, append_assoc, map-append}
use Rattle.std.proofs.lemmas.List.Concat.{flat_map-append}
use Rattle.heesch_cnf.specs.declared.literal.Lit.{Lit}
use Rattle.heesch_cnf.specs.declared.values.Left.{Left}
use Rattle.heesch_cnf.specs.declared.values.Left.TheVariants.{Nothing, One, More}
use Rattle.heesch_cnf.specs.Literals.{Values}
use Rattle.heesch_cnf.specs.Left.{IsLeft}
use Rattle.heesch_grid.specs.Listing.{IsRising}
use Rattle.heesch_grid.proofs.ListFacts.{member_cases, member_here, member_there, no_member, member_filter, filter_member, rising_filter, same_rising}
use Rattle.heesch_cert.specs.Literals.{literals}
use Rattle.heesch_encode.specs.Literals.{plus_all, lit_before}
use Rattle.heesch_encode.proofs.ClauseLists.{lit_before-irreflexive, lit_before-asymmetric}
use Rattle.heesch_numbers.specs.Seen.{is_out, HasOne, HasTwo, IsSeen}

module _ (values : Values) where
  single : (P : Lit → Type 0) (l : Lit) → P l → All P (l ∷ [])
  single P l h = All-cons P l [] h (All-nil P)

  -- nothing was looked at
  pub seen_none : IsSeen values [] Nothing
  seen_none = All-nil (λ l. is_out values l ≡ true)

  more_kept : (seen more : List Lit) → HasTwo values seen → HasTwo values (seen ++ more)
  more_kept seen more h = record {
    first = h.first;
    second = h.second;
    in_first = Contains-append_left seen more h.first h.in_first;
    in_second = Contains-append_left seen more h.second h.in_second;
    open_first = h.open_first;
    open_second = h.open_second;
    differ = h.differ;
  }

  -- where two are left, more literals change nothing
  pub seen_more : (seen more : List Lit) → IsSeen values seen More → IsSeen values (seen ++ more) More
  seen_more seen more h = more_kept seen more h

  -- nor does a literal that is false
  pub seen_out : (seen : List Lit) (l : Lit) (left : Left) → is_out values l ≡ true → IsSeen values seen left → IsSeen values (seen ++ l ∷ []) left
  seen_out seen l Nothing out h = All-append (λ l. is_out values l ≡ true) seen (l ∷ []) h (single (λ l. is_out values l ≡ true) l out)
  seen_out seen l (One m) out h = record {
    inside = Contains-append_left seen (l ∷ []) m h.inside;
    is_open = h.is_open;
    others = All-append (λ k. (is_out values k ≡ true) ⊎ (k ≡ m)) seen (l ∷ []) h.others (single (λ k. (is_out values k ≡ true) ⊎ (k ≡ m)) l (inl out));
  }
  seen_out seen l More out h = more_kept seen (l ∷ []) h

  -- a first one that isn't
  pub seen_first : (seen : List Lit) (l : Lit) → is_out values l ≡ false → IsSeen values seen Nothing → IsSeen values (seen ++ l ∷ []) (One l)
  seen_first seen l is_open h = record {
    inside = Contains-append_right seen (l ∷ []) l (member_here l []);
    is_open = is_open;
    others = All-append (λ k. (is_out values k ≡ true) ⊎ (k ≡ l)) seen (l ∷ []) (All-weaker (λ k. is_out values k ≡ true) (λ k. (is_out values k ≡ true) ⊎ (k ≡ l)) (λ k o. inl o) seen h)
        (single (λ k. (is_out values k ≡ true) ⊎ (k ≡ l)) l (inr refl));
  }

  -- the same one again
  pub seen_again : (seen : List Lit) (l m : Lit) → m ≡ l → IsSeen values seen (One m) → IsSeen values (seen ++ l ∷ []) (One m)
  seen_again seen l m same h = record {
    inside = Contains-append_left seen (l ∷ []) m h.inside;
    is_open = h.is_open;
    others = All-append (λ k. (is_out values k ≡ true) ⊎ (k ≡ m)) seen (l ∷ []) h.others (single (λ k. (is_out values k ≡ true) ⊎ (k ≡ m)) l (inr (sym same)));
  }

  -- a second one
  pub seen_second : (seen : List Lit) (l m : Lit) → is_out values l ≡ false → ¬ (m ≡ l) → IsSeen values seen (One m) → IsSeen values (seen ++ l ∷ []) More
  seen_second seen l m is_open differ h = record {
    first = m;
    second = l;
    in_first = Contains-append_left seen (l ∷ []) m h.inside;
    in_second = Contains-append_right seen (l ∷ []) l (member_here l []);
    open_first = h.is_open;
    open_second = is_open;
    differ = differ;
  }

-- ---- lists of which some pass

pub none_pass : {X : Type 0} (p : X → Bool) (xs : List X) → ((x : X) → Contains xs x → p x ≡ false) → filter p xs ≡ []
none_pass p [] h = refl
none_pass p (x ∷ xs) h = ap (λ b. cond b (x ∷ filter p xs) (filter p xs)) (h x (member_here x xs)) ∙ none_pass p xs (λ y m. h y (member_there x xs y m))

two_members : {X : Type 0} (xs : List X) (x y : X) → Contains xs x → Contains xs y → ¬ (x ≡ y) → 2 ≤ length xs
two_members [] x y a b n = absurd (no_member x a)
two_members (z ∷ []) x y a b n =
    elim (member_cases z [] x a) [
      | inr none ↦ absurd (no_member x none)
      | inl e ↦ elim (member_cases z [] y b) [ inr none ↦ absurd (no_member y none) | inl f ↦ absurd (n (sym e ∙ f)) ]
    ]
two_members (z ∷ w ∷ zs) x y a b n = omega arith

-- ---- what is left of a clause

module _ (values : Values) (clause seen : List Lit) (rising : IsRising lit_before clause) (to : (l : Lit) → Contains clause l → Contains seen l) (back : (l : Lit) → Contains seen l → Contains clause l) where
  abbrev kept : Lit → Bool
  kept l = not (is_out values l)

  stays : (l : Lit) → Contains seen l → is_out values l ≡ false → Contains (filter kept clause) l
  stays l m is_open = member_filter kept clause l (back l m) (ap not is_open)

  one_left : (l : Lit) → HasOne values seen l → filter kept clause ≡ l ∷ []
  one_left l h =
      same_rising lit_before lit_before-irreflexive lit_before-asymmetric (filter kept clause) (l ∷ []) (rising_filter lit_before kept clause rising) (All-nil (λ m. lit_before l m ≡ true), tt)
      (λ m k.
      let f = filter_member kept clause m k in
      elim (All-contains (λ k. (is_out values k ≡ true) ⊎ (k ≡ l)) seen m h.others (to m f.0)) [
        | inl out ↦ absurd (true≢false (sym out ∙ not-true (is_out values m) f.1))
        | inr same ↦ subst (λ z. Contains (l ∷ []) z) (sym same) (member_here l [])
      ])
      (λ m k. elim (member_cases l [] m k) [ inl e ↦ subst (λ z. Contains (filter kept clause) z) e (stays l h.inside h.is_open) | inr none ↦ absurd (no_member m none) ])

  -- a clause with just the literals that were seen
  pub seen_left : (left : Left) → IsSeen values seen left → IsLeft values clause left
  seen_left Nothing h = none_pass kept clause (λ l m. ap not (All-contains (λ l. is_out values l ≡ true) seen l h (to l m)))
  seen_left (One l) h = one_left l h
  seen_left More h = two_members (filter kept clause) h.first h.second (stays h.first h.in_first h.open_first) (stays h.second h.in_second h.open_second) h.differ

-- ---- walks over lists whose elements each give some literals

module _ {X : Type 0} (h : List X → List Lit) (joins : (xs ys : List X) → h (xs ++ ys) ≡ h xs ++ h ys) (values : Values) (seen : List Lit) (xs : List X) (i : ℕ) where
  -- one element more
  pub walk_more : (d : X) (left : Left) → i < length xs → IsSeen values ((seen ++ h (take i xs)) ++ h (get_or xs i d ∷ [])) left → IsSeen values (seen ++ h (take (i + 1) xs)) left
  walk_more d left l s =
      subst (λ ls. IsSeen values ls left) (append_assoc seen (h (take i xs)) (h (get_or xs i d ∷ [])) ∙ ap (λ ls. seen ++ ls) (sym (joins (take i xs) (get_or xs i d ∷ [])) ∙ ap h (sym (take_more xs i d l)))) s

  -- where two are left, the others change nothing
  pub walk_stopped : IsSeen values (seen ++ h (take i xs)) More → IsSeen values (seen ++ h xs) More
  walk_stopped s =
      subst (λ ls. IsSeen values ls More) (append_assoc seen (h (take i xs)) (h (drop i xs)) ∙ ap (λ ls. seen ++ ls) (sym (joins (take i xs) (drop i xs)) ∙ ap h (take-append-drop i xs)))
      (seen_more values (seen ++ h (take i xs)) (h (drop i xs)) s)

  -- all of them
  pub walk_whole : (left : Left) → length xs ≤ i → IsSeen values (seen ++ h (take i xs)) left → IsSeen values (seen ++ h xs) left
  walk_whole left l s = subst (λ ys. IsSeen values (seen ++ h ys) left) (take_all i xs l) s

pub plus_joins : (xs ys : List ℕ) → plus_all (xs ++ ys) ≡ plus_all xs ++ plus_all ys
plus_joins xs ys = map-append literals.plus xs ys

pub kept_joins : (p : ℕ → Bool) (xs ys : List ℕ) → plus_all (filter p (xs ++ ys)) ≡ plus_all (filter p xs) ++ plus_all (filter p ys)
kept_joins p xs ys = ap plus_all (filter-append p xs ys) ∙ plus_joins (filter p xs) (filter p ys)

pub pieces_join : {X : Type 0} (f : X → List ℕ) (xs ys : List X) → plus_all (flat_map f (xs ++ ys)) ≡ plus_all (flat_map f xs) ++ plus_all (flat_map f ys)
pieces_join f xs ys = ap plus_all (flat_map-append f xs ys) ∙ plus_joins (flat_map f xs) (flat_map f ys)

-- ---- one number, which passes or doesn't

module _ (values : Values) (p : ℕ → Bool) (seen : List Lit) (n : ℕ) (left : Left) where
  kept_at : (b : Bool) → p n ≡ b → IsSeen values (seen ++ plus_all (cond b (n ∷ []) [])) left → IsSeen values (seen ++ plus_all (filter p (n ∷ []))) left
  kept_at b e h = subst (λ b. IsSeen values (seen ++ plus_all (cond b (n ∷ []) [])) left) (sym e) h

  none_more : IsSeen values seen left → IsSeen values (seen ++ []) left
  none_more h = subst (λ ls. IsSeen values ls left) (sym (append-nil seen)) h

  -- a false one
  pub kept_out : is_out values (literals.plus n) ≡ true → IsSeen values seen left → IsSeen values (seen ++ plus_all (filter p (n ∷ []))) left
  kept_out out h = go (p n) refl
    where
      go : (b : Bool) → p n ≡ b → IsSeen values (seen ++ plus_all (filter p (n ∷ []))) left
      go true e = kept_at true e (seen_out values seen (literals.plus n) left out h)
      go false e = kept_at false e (none_more h)

  -- one that doesn't pass
  pub kept_not : p n ≡ false → IsSeen values seen left → IsSeen values (seen ++ plus_all (filter p (n ∷ []))) left
  kept_not e h = kept_at false e (none_more h)

  -- one that passes
  pub kept_with : p n ≡ true → IsSeen values (seen ++ literals.plus n ∷ []) left → IsSeen values (seen ++ plus_all (filter p (n ∷ []))) left
  kept_with e h = kept_at true e h
