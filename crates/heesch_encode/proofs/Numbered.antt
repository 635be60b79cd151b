-- Numbers of variables in a list of them.
use Rattle.std.proofs.Common.{◌≡◌, sym, ap, subst, ◌∙◌, ℕ, ◌<◌, ◌≤◌, List, [], length, get_or, arith, Contains}
use Rattle.std.specs.List.{enumerate_from}
use Rattle.std.proofs.lemmas.List.{length-map, get_or-map, get_or_default}
use Rattle.std.proofs.lemmas.List.Elements.{Contains-get_or}
use Rattle.heesch_grid.specs.CoronaFormula.{Variable, IsNumbered}
use Rattle.heesch_grid.proofs.ClauseFacts.{entry_at}
use Rattle.heesch_encode.specs.Meeting.{numbers_of}
use Rattle.heesch_encode.proofs.ClauseLists.{entry_range}

abbrev Entries : Type 0
Entries = List (ℕ × Variable)

abbrev pub no_entry : ℕ × Variable
no_entry = (0, record { level = 0; tile = [] })

-- the entry at a place of a list of entries, whose numbers are `ns`
pub record IsPlaced (vars : List Variable) (xs : Entries) (ns : List ℕ) (i : ℕ) : Type 0 where
  pub of : ℕ × Variable
  pub is_in : Contains (enumerate_from 1 vars) of
  pub less : i < length xs
  pub is_at : get_or xs i of ≡ of
  pub number : get_or ns i 0 ≡ of.0
  pub numbered : IsNumbered vars (get_or ns i 0) of.1
  pub range : (1 ≤ get_or ns i 0) × (get_or ns i 0 ≤ length vars)

pub placed : (vars : List Variable) (xs : Entries) (ns : List ℕ) (i : ℕ) → ((x : ℕ × Variable) → Contains xs x → Contains (enumerate_from 1 vars) x) → ns ≡ numbers_of xs → i < length ns → IsPlaced vars xs ns i
placed vars xs ns i part is l =
    let long = ap length is in
    let same = length-map xs (λ (x : ℕ × Variable). x.0) in
    let less : i < length xs = omega (arith, l, long, same) in
    let x : ℕ × Variable = get_or xs i no_entry in
    let member : Contains (enumerate_from 1 vars) x = part x (Contains-get_or xs i no_entry less) in
    let number : get_or ns i 0 ≡ x.0 = ap (λ zs. get_or zs i 0) is ∙ get_or-map (λ (x : ℕ × Variable). x.0) xs i no_entry 0 less in
    record {
      of = x;
      is_in = member;
      less = less;
      is_at = get_or_default xs i x no_entry less;
      number = number;
      numbered = subst (λ n. IsNumbered vars n x.1) (sym number) (entry_at vars 1 x member);
      range = subst (λ n. (1 ≤ n) × (n ≤ length vars)) (sym number) (entry_range vars x member);
    }
