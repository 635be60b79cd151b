-- Where lines lead, in pieces, and next to the grammar's machine.
use Rattle.std.proofs.Common.{◌&&◌, ◌||◌, nat_eq, codes, ◌≡◌, ℕ, ◌<◌, Bool, true, false, List, [], ◌∷◌, ◌++◌, length, Option, Some, None, refl, ap, ◌∙◌, arith}
use Rattle.std.specs.Prelude.{option_map, option_and_then}
use Rattle.std.specs.List.{AllByRecursion}
pub use Rattle.std.proofs.ByRecursion.{All-append as all_append}
use Rattle.heesch_cert.specs.declared.header.Header.{Header}
use Rattle.heesch_text.specs.declared.line.Line.{Line}
use Rattle.heesch_text.specs.declared.line.Line.TheVariants as lines
use Rattle.heesch_text.specs.Lines.{words_of}
use Rattle.heesch_line.specs.Forms.{IsShape}
use Rattle.heesch_grammar.specs.declared.place.Place.{Place}
use Rattle.heesch_grammar.specs.declared.place.Place.TheVariants as places
use Rattle.heesch_grammar.specs.declared.spot.Spot.{Spot}
use Rattle.heesch_grammar.specs.Grammar.{step, steps, is_whole}
use Rattle.heesch_grammar.proofs.Running.{IsOuter, step_between}
use Rattle.heesch_reader.specs.declared.progress.Progress.{Progress}
use Rattle.heesch_reader.specs.declared.progress.Progress.TheVariants as stages
use Rattle.heesch_reader.specs.Progress.{next, walk, may_end, between}
use Rattle.heesch_reader.specs.Faults.{begins, begins_next, part_of, part_behind}

-- ---- lists

pub all_front : {X : Type 0} (P : X → Type 0) (xs ys : List X) → AllByRecursion P (xs ++ ys) → AllByRecursion P xs
all_front P [] ys h = tt
all_front P (x ∷ xs) ys h = (h.0, all_front P xs ys h.1)

-- ---- pieces

pub walk_append : (p : Progress) (ls ms : List Line) → walk p (ls ++ ms) ≡ option_and_then (λ q. walk q ms) (walk p ls)
walk_append p [] ms = refl
walk_append p (line ∷ ls) ms = by_next (next p line) (λ q. walk_append q ls ms)
  where
    by_next : (o : Option Progress) → ((q : Progress) → walk q (ls ++ ms) ≡ option_and_then (λ r. walk r ms) (walk q ls))
        → option_and_then (λ q. walk q (ls ++ ms)) o ≡ option_and_then (λ r. walk r ms) (option_and_then (λ q. walk q ls) o)
    by_next None h = refl
    by_next (Some q) h = h q

pub walk_push : (p q r : Progress) (ls : List Line) (line : Line) → walk p ls ≡ Some q → next q line ≡ Some r → walk p (ls ++ line ∷ []) ≡ Some r
walk_push p q r ls line e f =
    walk_append p ls (line ∷ []) ∙ ap (λ (o : Option Progress). option_and_then (λ x. walk x (line ∷ [])) o) e ∙ ap (λ (o : Option Progress). option_and_then (λ x. Some x) o) f

-- ---- the machine of the grammar

pub walk_behind : (brief : Bool) (s : Spot) (ls : List Line) (q : Progress) → walk (stages.Behind brief s) ls ≡ Some q → (t : Spot) × (steps brief s ls ≡ Some t) × (stages.Behind brief t ≡ q)
walk_behind brief s [] q e = (s, refl, cc)
walk_behind brief s (line ∷ ls) q e = by_step (step brief s line) (λ t f. walk_behind brief t ls q f) e
  where
    by_step : (o : Option Spot) → ((t : Spot) → walk (stages.Behind brief t) ls ≡ Some q → (u : Spot) × (steps brief t ls ≡ Some u) × (stages.Behind brief u ≡ q))
        → option_and_then (λ r. walk r ls) (option_map (λ t. stages.Behind brief t) o) ≡ Some q → (u : Spot) × (option_and_then (λ t. steps brief t ls) o ≡ Some u) × (stages.Behind brief u ≡ q)
    by_step None h f = absurd cc
    by_step (Some t) h f = h t f

-- a shape isn't the first line
pub no_first_shape : (line : Line) (ls : List Line) (q : Progress) → IsShape line → walk stages.Start (line ∷ ls) ≡ Some q → ⊥
no_first_shape (lines.Shape cells) ls q s e = absurd cc
no_first_shape line ls q s e = absurd s

-- nothing stands behind an end
pub no_shape_behind_end : (brief : Bool) (shapes : ℕ) (line : Line) (ls : List Line) (q : Progress) → IsShape line → walk (stages.Behind brief (record { shapes = shapes; place = places.Ended })) (line ∷ ls) ≡ Some q → ⊥
no_shape_behind_end brief shapes (lines.Shape cells) ls q s e = absurd cc
no_shape_behind_end brief shapes line ls q s e = absurd s

-- ---- where an entry may end

-- a `shape` line and the `end` line are judged there as between two entries
pub same_next : (p : Progress) (line : Line) → may_end p ≡ true → IsOuter line → next p line ≡ next (between p) line
same_next stages.Start line w o = absurd cc
same_next (stages.Behind brief spot) line w o = ap (λ (r : Option Spot). option_map (λ t. stages.Behind brief t) r) (step_between brief spot line w o)

same_part_behind : (place : Place) (shapes : ℕ) (bytes : List ℕ) → is_whole place ≡ true → part_behind place shapes bytes ≡ part_behind places.Between shapes bytes
same_part_behind places.Between shapes bytes w = refl
same_part_behind places.Tile shapes bytes w = refl
same_part_behind (places.Coronas count last) shapes bytes w = refl
same_part_behind (places.Wall level last) shapes bytes w = refl
same_part_behind places.MayOpen shapes bytes w = refl
same_part_behind places.OpenNone shapes bytes w = refl
same_part_behind places.Triples shapes bytes w = refl
same_part_behind place shapes bytes w = absurd cc

pub same_part : (p : Progress) (bytes : List ℕ) → may_end p ≡ true → part_of p bytes ≡ part_of (between p) bytes
same_part stages.Start bytes w = absurd cc
same_part (stages.Behind brief spot) bytes w = same_part_behind spot.place spot.shapes bytes w

-- ---- words

both : (a b : Bool) → (a && b) ≡ true → (a ≡ true) × (b ≡ true)
both true b e = (refl, e)
both false b e = absurd cc

begins_more : (word bytes more : List ℕ) → begins bytes word ≡ true → begins (bytes ++ more) word ≡ true
begins_more [] bytes more h = refl
begins_more (c ∷ word) [] more h = absurd cc
begins_more (c ∷ word) (b ∷ bytes) more h = let f = both (nat_eq c b) (begins bytes word) h in rw (f.0, begins_more word bytes more f.1) refl

either_way : (a b c d : Bool) → (a ≡ true → c ≡ true) → (b ≡ true → d ≡ true) → (a || b) ≡ true → (c || d) ≡ true
either_way true b c d f g e = rw (f refl) refl
either_way false b true d f g e = refl
either_way false b false d f g e = g e

-- more bytes show what fewer did
pub shows_more : (bytes more : List ℕ) → begins_next bytes ≡ true → begins_next (bytes ++ more) ≡ true
shows_more bytes more h =
    either_way (begins bytes (codes "shape ")) (begins bytes (codes "end ")) (begins (bytes ++ more) (codes "shape ")) (begins (bytes ++ more) (codes "end "))
    (begins_more (codes "shape ") bytes more) (begins_more (codes "end ") bytes more) h

header_is_not : (brief : Bool) (h : Header) → h.brief ≡ brief → begins_next (words_of (lines.Header h)) ≡ true → ⊥
header_is_not true h e b = let c = rw e at b in absurd cc
header_is_not false h e b = let c = rw e at b in absurd cc

-- the words show whether the line is a `shape` line or the `end` line
pub outer_words : (line : Line) → begins_next (words_of line) ≡ true → IsOuter line
outer_words (lines.Shape cells) h = tt
outer_words (lines.End count) h = tt
outer_words (lines.Header header) h = absurd (header_is_not header.brief header refl h)
outer_words line h = absurd cc

header_has_words : (brief : Bool) (h : Header) → h.brief ≡ brief → 0 < length (words_of (lines.Header h))
header_has_words true h e = rw e (omega arith)
header_has_words false h e = rw e (omega arith)

-- a line has a byte
pub has_words : (line : Line) → 0 < length (words_of line)
has_words (lines.Header header) = header_has_words header.brief header refl
has_words line = omega arith
