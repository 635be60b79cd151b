-- The word that the bytes of a line begin with.
use Rattle.std.proofs.Common.{◌≡◌, inl, inr, ℕ, ◌&&◌, ◌||◌, nat_eq, not, Bool, true, false, List, [], ◌∷◌, ◌++◌, codes, refl, ap, ◌∙◌}
use Rattle.std.proofs.lemmas.Bool.{cases_Bool}
use Rattle.heesch_text.specs.declared.line.Line.{Line}
use Rattle.heesch_text.specs.declared.line.Line.TheVariants as lines
use Rattle.heesch_text.specs.Lines.{words_of}
use Rattle.heesch_line.proofs.Newlines.{free, parts}
use Rattle.heesch_grammar.proofs.Running.{IsOuter}
use Rattle.heesch_reader.specs.Faults.{begins, begins_next}
use Rattle.heesch_reader.specs.Feeding.{IsInside}
use Rattle.heesch_reader.proofs.Walking.{outer_words}

not_true : (b : Bool) → not b ≡ true → b ≡ false
not_true true e = absurd cc
not_true false e = refl

-- a word without a newline begins the bytes of a line where it begins the line
begins_cut : (word words back : List ℕ) → free word ≡ true → begins (words ++ 10 ∷ back) word ≡ begins words word
begins_cut [] words back h = refl
begins_cut (c ∷ word) [] back h =
    let differs : nat_eq c 10 ≡ false = not_true (nat_eq c 10) (parts _ _ h).0 in
    ap (λ (x : Bool). x && begins back word) differs
begins_cut (c ∷ word) (b ∷ words) back h = ap (λ (x : Bool). nat_eq c b && x) (begins_cut word words back (parts _ _ h).1)

pub begins_shape_cut : (words back : List ℕ) → begins (words ++ 10 ∷ back) (codes "shape ") ≡ begins words (codes "shape ")
begins_shape_cut words back = begins_cut (codes "shape ") words back refl

pub begins_end_cut : (words back : List ℕ) → begins (words ++ 10 ∷ back) (codes "end ") ≡ begins words (codes "end ")
begins_end_cut words back = begins_cut (codes "end ") words back refl

pub begins_next_cut : (words back : List ℕ) → begins_next (words ++ 10 ∷ back) ≡ begins_next words
begins_next_cut words back =
    ap (λ (x : Bool). x || begins (words ++ 10 ∷ back) (codes "end ")) (begins_shape_cut words back)
    ∙ ap (λ (x : Bool). begins words (codes "shape ") || x) (begins_end_cut words back)

outer_inside : (line : Line) → IsOuter line → IsInside line → ⊥
outer_inside (lines.Shape cells) o i = i
outer_inside (lines.End count) o i = i
outer_inside line o i = o

-- a line inside an entry begins neither an entry nor the end
pub inside_begins : (line : Line) → IsInside line → begins_next (words_of line) ≡ false
inside_begins line i = elim (cases_Bool (begins_next (words_of line))) [
  | inl begun ↦ absurd (outer_inside line (outer_words line begun) i)
  | inr other ↦ other
]
