-- What is left of literals that are looked at in any order, some of them maybe more than once.
use Rattle.std.specs.Prelude.{◌≡◌, ◌⊎◌, Bool, true, false, List, All, Contains}
use Rattle.heesch_cnf.specs.declared.literal.Lit.{Lit}
use Rattle.heesch_cnf.specs.declared.values.Left.{Left}
use Rattle.heesch_cnf.specs.declared.values.Left.TheVariants.{Nothing, One, More}
use Rattle.heesch_cnf.specs.Literals.{Values, lit_value, is_false_value}

-- whether the literal is false
abbrev pub is_out : Values → Lit → Bool
is_out values l = is_false_value (lit_value values l)

-- two different literals of the list aren't false
pub record HasTwo (values : Values) (seen : List Lit) : Type 0 where
  pub first : Lit
  pub second : Lit
  pub in_first : Contains seen first
  pub in_second : Contains seen second
  pub open_first : is_out values first ≡ false
  pub open_second : is_out values second ≡ false
  pub differ : ¬ (first ≡ second)

-- this literal of the list isn't false, and each other one is
pub record HasOne (values : Values) (seen : List Lit) (one : Lit) : Type 0 where
  pub inside : Contains seen one
  pub is_open : is_out values one ≡ false
  pub others : All (λ l. (is_out values l ≡ true) ⊎ (l ≡ one)) seen

-- what the answer says of the literals of the list that aren't false, as of a set
abbrev pub IsSeen : Values → List Lit → Left → Type 0
IsSeen values seen Nothing = All (λ l. is_out values l ≡ true) seen
IsSeen values seen (One l) = HasOne values seen l
IsSeen values seen More = HasTwo values seen
