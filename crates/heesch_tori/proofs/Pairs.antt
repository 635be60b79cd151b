-- The clauses of pairs of variables that share a cell: by number, their form, and when a clause contains one.
use Rattle.std.proofs.Common.{◌≡◌, sym, ap, subst, ◌∙◌, ℕ, ◌+◌, ◌-◌, ◌<◌, ◌≤◌, List, [], ◌∷◌, map, length, get_or, Bool, true, false, refl, ◌||◌, inl, inr, arith, Contains, ◌&&◌, ltb-true, lt-ltb}
use Rattle.std.specs.Prelude.{nat_lt, sum, flat_map}
use Rattle.std.specs.List.{enumerate_from}
use Rattle.std.proofs.lemmas.Bool.{and_parts, and_from, cases_lt}
use Rattle.std.proofs.lemmas.List.{length-map, get_or-map, get_or_default}
use Rattle.std.proofs.lemmas.List.Elements.{All-contains, All-cons, All-nil, Contains-get_or}
use Rattle.std.proofs.lemmas.List.FromFn.{length-enumerate_from, get_or-enumerate_from}
use Rattle.heesch_cnf.specs.declared.literal.Lit.{Lit}
use Rattle.heesch_cnf.specs.Clauses.{IsClause, AreClauses, IsNew, IsWithin}
use Rattle.heesch_grid.specs.declared.Cell.{Cell}
use Rattle.heesch_grid.specs.Cells.{meet, set_of}
use Rattle.heesch_grid.specs.Clauses.{clause_of, no_variable, is_numbered}
use Rattle.heesch_grid.specs.CoronaFormula.{exclusion_clauses}
use Rattle.heesch_grid.proofs.ListFacts.{All-from_members, filter_member, member_filter}
use Rattle.heesch_grid.proofs.WindowFacts.{map_member, member_map, flat_map_member, member_flat_map}
use Rattle.heesch_cert.specs.Literals.{literals}
use Rattle.heesch_encode.proofs.ClauseLists.{clause_form}
use Rattle.heesch_numbers.specs.Counts.{FallsIn}
use Rattle.heesch_numbers.proofs.Counting.{found, all_counted}
use Rattle.heesch_torus.specs.Formula.{pair_clause}
use Rattle.heesch_torus.proofs.Excluding.{pairs_with, pair_of}
use Rattle.heesch_torus.proofs.Numbering.{map_agree}
use Rattle.heesch_tori.specs.Later.{all_later, later_sharing, later_counts, later_numbers, variable_at, MeetsOneOf}
use Rattle.heesch_tori.proofs.Passed.{Entry, no_entry, number_of, entry_is, entry_last}

module _ (sets : List (List Cell)) where
  abbrev entries : List Entry
  entries = enumerate_from 1 sets

  abbrev pairs : List (List Lit)
  pairs = exclusion_clauses literals meet sets

  abbrev clause_with : Entry → Entry → List Lit
  clause_with u v = clause_of literals (λ x. is_numbered u.0 x || is_numbered v.0 x) no_variable sets

  counts_are : later_counts sets ≡ map (λ u. length (pairs_with sets u)) (enumerate_from 1 sets)
  counts_are = map_agree (λ u. length (later_sharing sets u)) (λ u. length (pairs_with sets u)) (enumerate_from 1 sets) (λ u m. sym (length-map (later_sharing sets u) (clause_with u)))

  -- as many as the counts say
  pub pairs_counted : sum (later_counts sets) ≡ length (exclusion_clauses literals meet sets)
  pairs_counted = ap sum counts_are ∙ all_counted (pairs_with sets) (enumerate_from 1 sets)

  counts_numbers : later_counts sets ≡ map (λ u. length (later_numbers sets u)) (enumerate_from 1 sets)
  counts_numbers = map_agree (λ u. length (later_sharing sets u)) (λ u. length (later_numbers sets u)) (enumerate_from 1 sets) (λ u m. sym (length-map (later_sharing sets u) number_of))

  -- there are as many later variables
  pub later_counted : sum (later_counts sets) ≡ length (all_later sets)
  later_counted = ap sum counts_numbers ∙ all_counted (later_numbers sets) (enumerate_from 1 sets)

  entry_range : (x : Entry) → Contains (enumerate_from 1 sets) x → (1 ≤ x.0) × (x.0 ≤ length sets) × (set_of sets x.0 ≡ x.1)
  entry_range x (k, l, e) =
      let long = length-enumerate_from 1 sets in
      let less : k < length sets = omega arith in
      let is : x ≡ (1 + k, get_or sets k x.1) = sym e ∙ get_or-enumerate_from 1 sets k x less in
      let number : x.0 ≡ 1 + k = ap (λ (y : Entry). y.0) is in
      let place : x.0 - 1 ≡ k = omega arith in
      (omega arith, omega arith, ap (λ j. get_or sets j []) place ∙ get_or_default sets k [] x.1 less ∙ sym (ap (λ (y : Entry). y.1) is))

  -- a later variable comes later, is one of the variables, and is what its number says
  pub record IsLaterOne (u : ℕ) (w : Entry) : Type 0 where
    pub later : u < w.0
    pub last : w.0 ≤ length sets
    pub is : w ≡ variable_at sets w.0

  later_one : (u : ℕ) (w : Entry) → Contains (later_sharing sets (variable_at sets u)) w → IsLaterOne u w
  later_one u w m =
      let f = filter_member (λ (v : Entry). nat_lt u v.0 && meet (set_of sets u) v.1) (enumerate_from 1 sets) w m in
      let parts = and_parts (nat_lt u w.0) (meet (set_of sets u) w.1) f.1 in
      let r = entry_range w f.0 in
      record { later = ltb-true u w.0 parts.0; last = r.1; is = λ k. (w.0, sym r.2 k) }

  module _ (place part rest : ℕ) (falls : FallsIn (later_counts sets) place part rest) where
    falls_so : (part < length (enumerate_from 1 sets)) × (rest < length (pairs_with sets (get_or (enumerate_from 1 sets) part no_entry))) × (get_or (flat_map (pairs_with sets) (enumerate_from 1 sets)) place [] ≡ get_or (pairs_with sets (get_or (enumerate_from 1 sets) part no_entry)) rest [])
    falls_so = found (pairs_with sets) (enumerate_from 1 sets) place part rest no_entry [] (subst (λ ns. FallsIn ns place part rest) counts_are falls)

    pub first_within : part < length sets
    first_within = let long = length-enumerate_from 1 sets in let l = falls_so.0 in omega arith

    pub place_within : rest < length (later_sharing sets (variable_at sets (part + 1)))
    place_within =
        let l = falls_so.1 in
        let long = length-map (later_sharing sets (get_or (enumerate_from 1 sets) part no_entry)) (clause_with (get_or (enumerate_from 1 sets) part no_entry)) in
        let same = ap (λ u. length (later_sharing sets u)) (entry_is sets part first_within) in
        omega arith

    abbrev found_there : Entry
    found_there = get_or (later_sharing sets (variable_at sets (part + 1))) rest no_entry

    there : IsLaterOne (part + 1) found_there
    there = later_one (part + 1) found_there (Contains-get_or (later_sharing sets (variable_at sets (part + 1))) rest no_entry place_within)

    -- its number is the one that stands at the place
    pub number_there : get_or (all_later sets) place 0 ≡ (get_or (later_sharing sets (variable_at sets (part + 1))) rest no_entry).0
    number_there =
        let so = found (later_numbers sets) (enumerate_from 1 sets) place part rest no_entry 0 (subst (λ ns. FallsIn ns place part rest) counts_numbers falls) in
        so.2
        ∙ ap (λ u. get_or (later_numbers sets u) rest 0) (entry_is sets part first_within)
        ∙ get_or-map number_of (later_sharing sets (variable_at sets (part + 1))) rest no_entry 0 place_within

    pub number_later : part + 1 < get_or (all_later sets) place 0
    number_later = let e = number_there in let l = there.later in omega (arith, e, l)

    pub number_last : get_or (all_later sets) place 0 ≤ length sets
    number_last = let e = number_there in let l = there.last in omega (arith, e, l)

    pub number_at : get_or (later_sharing sets (variable_at sets (part + 1))) rest no_entry ≡ variable_at sets (get_or (all_later sets) place 0)
    number_at = there.is ∙ ap (variable_at sets) (sym number_there)

    -- the clause of a place is of the first variable and of the later one at its place
    pub pair_at : (v : ℕ) → part + 1 < v → v ≤ length sets → get_or (later_sharing sets (variable_at sets (part + 1))) rest no_entry ≡ variable_at sets v → get_or (exclusion_clauses literals meet sets) place [] ≡ pair_clause (part + 1) v
    pair_at v later last is =
        falls_so.2
        ∙ ap (λ u. get_or (pairs_with sets u) rest []) (entry_is sets part first_within)
        ∙ get_or-map (clause_with (variable_at sets (part + 1))) (later_sharing sets (variable_at sets (part + 1))) rest no_entry [] place_within
        ∙ ap (clause_with (variable_at sets (part + 1))) is
        ∙ pair_of (part + 1) v sets (omega arith) later (omega arith)

  -- ---- which clauses they are

  pub entry_there : (v : ℕ) → 1 ≤ v → v ≤ length sets → Contains (enumerate_from 1 sets) (variable_at sets v)
  entry_there v low high =
      let long = length-enumerate_from 1 sets in
      subst (Contains (enumerate_from 1 sets)) (entry_last sets v low high) (Contains-get_or (enumerate_from 1 sets) (v - 1) no_entry (omega arith))

  -- the clause is of two variables that share a cell, the lower number first
  pub record IsPair (e : List Lit) : Type 0 where
    pub first : ℕ
    pub second : ℕ
    pub some : 1 ≤ first
    pub later : first < second
    pub last : second ≤ length sets
    pub meets : meet (set_of sets first) (set_of sets second) ≡ true
    pub is : e ≡ pair_clause first second

  pub pair_member : (e : List Lit) → Contains (exclusion_clauses literals meet sets) e → IsPair e
  pair_member e m =
      let r = flat_map_member (pairs_with sets) (enumerate_from 1 sets) e m in
      let s = map_member (clause_with r.0) (later_sharing sets r.0) e r.2 in
      let f = filter_member (λ (v : Entry). nat_lt r.0.0 v.0 && meet r.0.1 v.1) (enumerate_from 1 sets) s.0 s.1 in
      let parts = and_parts (nat_lt r.0.0 s.0.0) (meet r.0.1 s.0.1) f.1 in
      let less = ltb-true r.0.0 s.0.0 parts.0 in
      let u = entry_range r.0 r.1 in
      let v = entry_range s.0 f.0 in
      let high = v.1 in
      record {
        first = r.0.0;
        second = s.0.0;
        some = u.0;
        later = less;
        last = v.1;
        meets = (λ i. meet (u.2 i) (v.2 i)) ∙ parts.1;
        is = sym s.2 ∙ pair_of r.0.0 s.0.0 sets u.0 less (omega arith);
      }

  member_pair : (e : List Lit) → IsPair e → Contains (exclusion_clauses literals meet sets) e
  member_pair e p =
      let first = p.some in
      let more = p.later in
      let last = p.last in
      let u : Entry = variable_at sets p.first in
      let v : Entry = variable_at sets p.second in
      let is_later : Contains (later_sharing sets (variable_at sets p.first)) (variable_at sets p.second) =
      member_filter (λ (v : Entry). nat_lt p.first v.0 && meet (set_of sets p.first) v.1) (enumerate_from 1 sets) v (entry_there p.second (omega arith) last) (and_from (nat_lt p.first p.second) (meet (set_of sets p.first) (set_of sets p.second)) (lt-ltb p.first p.second more) p.meets) in
      member_flat_map (pairs_with sets) (enumerate_from 1 sets) u e (entry_there p.first first (omega arith))
      (subst (Contains (pairs_with sets u)) (pair_of p.first p.second sets first more (omega arith) ∙ sym p.is) (member_map (clause_with u) (later_sharing sets u) v is_later))

  pub pairs_form : AreClauses (length sets) (exclusion_clauses literals meet sets)
  pairs_form = All-from_members (IsClause (length sets)) (exclusion_clauses literals meet sets) (λ e m.
      let r = flat_map_member (pairs_with sets) (enumerate_from 1 sets) e m in
      let s = map_member (clause_with r.0) (later_sharing sets r.0) e r.2 in
      subst (IsClause (length sets)) s.2 (clause_form sets (λ (x : Entry). is_numbered r.0.0 x || is_numbered s.0.0 x) no_variable))

  -- ---- when a clause contains one of them

  module _ (clause : List Lit) where
    pub apart_new : ((l : Lit) → Contains clause l → l.positive ≡ false → ¬ MeetsOneOf sets l.var clause) → IsNew (exclusion_clauses literals meet sets) clause
    apart_new none = All-from_members (λ e. ¬ IsWithin e clause) (exclusion_clauses literals meet sets) (λ e m within.
        let p = pair_member e m in
        let both : IsWithin (pair_clause p.first p.second) clause = subst (λ (q : List Lit). IsWithin q clause) p.is within in
        none (literals.minus p.first) (both 0 (literals.minus 0) (omega arith)) refl (record { other = literals.minus p.second; inside = both 1 (literals.minus 0) (omega arith); met = record { negative = refl; later = p.later; meets = p.meets } }))

    pub meeting_old : (form : IsClause (length sets) clause) (l : Lit) → Contains clause l → l.positive ≡ false → MeetsOneOf sets l.var clause → ¬ IsNew (exclusion_clauses literals meet sets) clause
    meeting_old form l inside negative h new =
        let range = λ (k : Lit) (m : Contains clause k). All-contains (λ (k : Lit). (1 ≤ k.var) × (k.var ≤ length sets)) clause k form.in_range m in
        let low = (range l inside).0 in
        let high = (range h.other h.inside).1 in
        let is : l ≡ literals.minus l.var = ap (λ (b : Bool). record l { positive = b }) negative in
        let other_is : h.other ≡ literals.minus h.other.var = ap (λ (b : Bool). record h.other { positive = b }) h.met.negative in
        All-contains (λ e. ¬ IsWithin e clause) (exclusion_clauses literals meet sets) (pair_clause l.var h.other.var) new
        (member_pair (pair_clause l.var h.other.var) (record { first = l.var; second = h.other.var; some = low; later = h.met.later; last = high; meets = h.met.meets; is = refl }))
        (All-cons (Contains clause) (literals.minus l.var) (literals.minus h.other.var ∷ []) (subst (Contains clause) is inside) (All-cons (Contains clause) (literals.minus h.other.var) [] (subst (Contains clause) other_is h.inside) (All-nil (Contains clause))))

-- what holds of no element before a place, and not of that at it
pub none_to : (P : Lit → Type 0) (xs : List Lit) (i : ℕ) (e : Lit) → i < length xs → ((k : ℕ) (d : Lit) → k < i → ¬ P (get_or xs k d)) → ¬ P (get_or xs i e) → (k : ℕ) (d : Lit) → k < i + 1 → ¬ P (get_or xs k d)
none_to P xs i e l before here k d m =
    elim (cases_lt k i) [
      | inl less ↦ before k d less
      | inr at ↦ let same : i ≡ k = omega arith in subst (λ y. ¬ P y) (get_or_default xs i e d l ∙ ap (λ n. get_or xs n d) same) here
    ]

-- and of no element at all
pub none_in : (P : Lit → Type 0) (xs : List Lit) (i : ℕ) → length xs ≤ i → ((k : ℕ) (d : Lit) → k < i → ¬ P (get_or xs k d)) → (x : Lit) → Contains xs x → ¬ P x
none_in P xs i l none x (k, less, e) = subst (λ y. ¬ P y) e (none k x (omega arith))
