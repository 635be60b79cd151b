-- The first line of an input, and whether it ends in time.
use Rattle.std.proofs.Common.{◌≡◌, ◌≢◌, ◌∙◌, ◌⊎◌, ℕ, ◌≤◌, ◌<◌, Bool, true, false, List, [], ◌∷◌, ◌++◌, length, length-append, refl, ap, sym, subst, arith, append_assoc, append-nil, eqb-true, inl, inr}
use Rattle.std.specs.Prelude.{◌==◌}
use Rattle.std.proofs.lemmas.Bool.{eq-eqb}
use Rattle.heesch_exchange.proofs.Bytes.{all_append, cut_same}
use Rattle.heesch_line.specs.Forms.{HasNoNewline}
use Rattle.heesch_exchange.specs.Answers.{HasEndedLine}
use Rattle.heesch_exchange.specs.Shapes.{HasFirstLine, IsEndless, IsInTime}

-- an input with a first line has one alone
pub one_line : (input a b line behind : List ℕ) → HasFirstLine input a b → HasFirstLine input line behind → (a ≡ line) × (b ≡ behind)
one_line input a b line behind x y = by x.text y.text
  where
    by : (input ≡ a ++ 10 ∷ b) ⊎ ((input ≡ a) × (b ≡ [])) → (input ≡ line ++ 10 ∷ behind) ⊎ ((input ≡ line) × (behind ≡ [])) → (a ≡ line) × (b ≡ behind)
    by (inl p) (inl q) =
        let both = cut_same 10 a (10 ∷ b) line (10 ∷ behind) x.whole y.whole refl refl (sym p ∙ q) in
        (both.0, let same = both.1 in cc)
    by (inl p) (inr q) =
        let both = cut_same 10 a (10 ∷ b) line [] x.whole y.whole refl tt (sym p ∙ q.0 ∙ sym (append-nil line)) in
        absurd (let same = both.1 in cc)
    by (inr p) (inl q) =
        let both = cut_same 10 a [] line (10 ∷ behind) x.whole y.whole tt refl (append-nil a ∙ sym p.0 ∙ q) in
        absurd (let same = both.1 in cc)
    by (inr p) (inr q) = (sym p.0 ∙ q.0, p.1 ∙ sym q.1)

-- a line that ends is a first line
pub as_line : (input line model : List ℕ) → HasEndedLine input line model → HasFirstLine input line model
as_line input line model ended = record { whole = ended.whole; text = inl ended.text }

-- an input without a newline is its first line
pub alone : (input : List ℕ) → HasNoNewline input → HasFirstLine input input []
alone input whole = record { whole = whole; text = inr (refl, refl) }

-- ---- in time

-- the first line ends in time, however it is found
pub in_time_of : (most : ℕ) (input a b line behind : List ℕ) → HasFirstLine input a b → HasFirstLine input line behind → IsInTime most input a → IsInTime most input line
in_time_of most input a b line behind x y in_time = subst (IsInTime most input) (one_line input a b line behind x y).0 in_time

-- a first line that ends in time is no endless one
pub not_endless : (most : ℕ) (input line behind : List ℕ) → HasFirstLine input line behind → IsInTime most input line → IsEndless most input → ⊥
not_endless most input line behind first in_time e =
    let lines = one_line input line behind e.line e.behind first e.first in
    e.late (subst (IsInTime most input) lines.0 in_time)

-- each text has a first line
pub first_line_of : (text : List ℕ) → (line : List ℕ) × (behind : List ℕ) × HasFirstLine text line behind
first_line_of [] = ([], [], record { whole = tt; text = inr (refl, refl) })
first_line_of (b ∷ text) = by (first_line_of text) (b == 10) refl
  where
    by : (line : List ℕ) × (behind : List ℕ) × HasFirstLine text line behind → (t : Bool) → (b == 10) ≡ t → (line : List ℕ) × (behind : List ℕ) × HasFirstLine (b ∷ text) line behind
    by rest true is = ([], text, record { whole = tt; text = inl (ap (λ (x : ℕ). x ∷ text) (eqb-true b 10 is)) })
    by (line, behind, first) false is =
        let other : b ≢ 10 = λ e. let no : (b == 10) ≡ true = eq-eqb b 10 e in cc in
        (b ∷ line, behind, record { whole = (other, first.whole); text = one first.text })
      where
        one : {line behind : List ℕ} → (text ≡ line ++ 10 ∷ behind) ⊎ ((text ≡ line) × (behind ≡ [])) → ((b ∷ text) ≡ (b ∷ line) ++ 10 ∷ behind) ⊎ (((b ∷ text) ≡ (b ∷ line)) × (behind ≡ []))
        one (inl e) = inl (ap (λ (t : List ℕ). b ∷ t) e)
        one (inr (e, n)) = inr (ap (λ (t : List ℕ). b ∷ t) e, n)

-- what begins with an input whose first line doesn't end in time is such an input
pub endless_on : (most : ℕ) (front rest : List ℕ) → IsEndless most front → IsEndless most (front ++ rest)
endless_on most front rest e = by e.first.text
  where
    long_line : most ≤ length e.line
    long_line = not_less (length e.line) most (λ less. e.late (inl less))
      where
        not_less : (n m : ℕ) → (n < m → ⊥) → m ≤ n
        not_less n m never = grind (arith, never)

    long : most < length front
    long = not_few (length front) most (λ few. e.late (inr few))
      where
        not_few : (n m : ℕ) → (n ≤ m → ⊥) → m < n
        not_few n m never = grind (arith, never)

    late : (line : List ℕ) → length e.line ≤ length line → IsInTime most (front ++ rest) line → ⊥
    late line longer (inl less) = omega (arith, long_line, longer, less)
    late line longer (inr few) = omega (arith, long, few, length-append front rest)

    by : (front ≡ e.line ++ 10 ∷ e.behind) ⊎ ((front ≡ e.line) × (e.behind ≡ [])) → IsEndless most (front ++ rest)
    by (inl ends) = record {
      line = e.line;
      behind = e.behind ++ rest;
      first = record { whole = e.first.whole; text = inl (ap (λ (t : List ℕ). t ++ rest) ends ∙ append_assoc e.line (10 ∷ e.behind) rest) };
      late = late e.line (omega arith);
    }
    by (inr (whole, _)) =
        let (line, behind, first) = first_line_of rest in
        record {
          line = e.line ++ line;
          behind = behind;
          first = record { whole = all_append (λ (b : ℕ). b ≢ 10) e.line line e.first.whole first.whole; text = on whole first.text };
          late = late (e.line ++ line) (omega (arith, length-append e.line line));
        }
      where
        on : {line behind : List ℕ} → front ≡ e.line → (rest ≡ line ++ 10 ∷ behind) ⊎ ((rest ≡ line) × (behind ≡ [])) → (front ++ rest ≡ (e.line ++ line) ++ 10 ∷ behind) ⊎ ((front ++ rest ≡ e.line ++ line) × (behind ≡ []))
        on {line} {behind} whole (inl ends) = inl (ap (λ (t : List ℕ). t ++ rest) whole ∙ ap (λ (t : List ℕ). e.line ++ t) ends ∙ sym (append_assoc e.line line (10 ∷ behind)))
        on {line} {behind} whole (inr (ends, none)) = inr (ap (λ (t : List ℕ). t ++ rest) whole ∙ ap (λ (t : List ℕ). e.line ++ t) ends, none)
