-- Items place by place of the shapes that they are of, and their texts one after another.
use Rattle.std.proofs.Common.{◌≡◌, ℕ, suc, ◌+◌, ◌-◌, ◌<◌, ◌≤◌, List, [], ◌∷◌, ◌++◌, length, get_or, take, drop, refl, sym, ap, subst, ◌∙◌, arith, append-nil, append_assoc}
use Rattle.std.specs.Prelude.{Some, slice_get}
use Rattle.std.specs.List.{AllByRecursion, AllZip, concat, flat_map}
use Rattle.std.proofs.lemmas.List.{get_or-drop, get_or-take, length-drop, length-take, take_more}
use Rattle.std.proofs.lemmas.List.Folds.{concat-append}
use Rattle.std.proofs.lemmas.Option.{slice_get_within}
use Rattle.heesch_grid.specs.declared.Cell.{Cell}
use Rattle.heesch_catalogue.specs.Rounds.{AreTexts, Extends, IsItemText}

-- ---- items

zip_each : {E : Type 0} (IsOf : List Cell → E → Type 0) (shapes : List (List Cell)) (items : List E) → length items ≡ length shapes
    → ((i : ℕ) (e : E) → slice_get items i ≡ Some e → IsOf (get_or shapes i []) e) → AllZip IsOf shapes items
zip_each IsOf [] [] many each = tt
zip_each IsOf [] (e ∷ es) many each = absurd (omega (arith, many))
zip_each IsOf (s ∷ ss) [] many each = absurd (omega (arith, many))
zip_each IsOf (s ∷ ss) (e ∷ es) many each = (each 0 e refl, zip_each IsOf ss es (omega (arith, many)) (λ i x is. each (suc i) x is))

-- as many items as shapes from a place to before another, each of the shape of its place
pub zip_between : {E : Type 0} (IsOf : List Cell → E → Type 0) (shapes : List (List Cell)) (items : List E) (from until : ℕ) → until ≤ length shapes → from + length items ≡ until
    → ((i : ℕ) (e : E) → slice_get items i ≡ Some e → IsOf (get_or shapes (from + i) []) e) → AllZip IsOf (take (until - from) (drop from shapes)) items
zip_between IsOf shapes items from until within many answers =
    let some : List (List Cell) = take (until - from) (drop from shapes) in
    zip_each IsOf some items (omega (arith, many, within, length-take (until - from) (drop from shapes), length-drop from shapes))
    (λ i e is.
    let lt : i < until - from = omega (arith, many, slice_get_within items i e is) in
    let place : get_or some i [] ≡ get_or shapes (from + i) [] = get_or-take (until - from) (drop from shapes) i [] lt ∙ get_or-drop from shapes i [] in
    subst (λ s. IsOf s e) (sym place) (answers i e is))

zip_both : {A B : Type 0} (R : A → B → Type 0) (xs ys : List A) (us vs : List B) → AllZip R xs us → AllZip R ys vs → AllZip R (xs ++ ys) (us ++ vs)
zip_both R [] ys [] vs first next = next
zip_both R [] ys (u ∷ us) vs first next = absurd first
zip_both R (x ∷ xs) ys [] vs first next = absurd first
zip_both R (x ∷ xs) ys (u ∷ us) vs first next = (first.0, zip_both R xs ys us vs first.1 next)

-- ---- texts

-- no item has no text
pub no_texts : {X : Type 0} (IsText : X → List ℕ → Type 0) → AreTexts IsText [] []
no_texts IsText = ([], tt, refl)

-- the texts of some items, and those of others behind them
pub texts_both : {X : Type 0} (IsText : X → List ℕ → Type 0) (xs ys : List X) (a b : List ℕ) → AreTexts IsText xs a → AreTexts IsText ys b → AreTexts IsText (xs ++ ys) (a ++ b)
texts_both IsText xs ys a b (us, are, is) (vs, are_too, is_too) = (us ++ vs, zip_both IsText xs ys us vs are are_too, ap (λ l. l ++ b) is ∙ ap (λ l. concat us ++ l) is_too ∙ sym (concat-append us vs))

-- one text more
pub text_more : {X : Type 0} (IsText : X → List ℕ → Type 0) (xs : List X) (k : ℕ) (x : X) (old middle new : List ℕ) → k < length xs → x ≡ get_or xs k x
    → Extends (AreTexts IsText (take k xs)) old middle → Extends (IsText x) middle new → Extends (AreTexts IsText (take (k + 1) xs)) old new
text_more IsText xs k x old middle new less at (a, are, is) (b, is_text, is_too) =
    let more : take (k + 1) xs ≡ take k xs ++ x ∷ [] = take_more xs k x less ∙ ap (λ y. take k xs ++ y ∷ []) (sym at) in
    let one : AreTexts IsText (x ∷ []) b = (b ∷ [], (is_text, tt), sym (append-nil b)) in (
      a ++ b,
      subst (λ l. AreTexts IsText l (a ++ b)) (sym more) (texts_both IsText (take k xs) (x ∷ []) a b are one),
      is_too ∙ ap (λ l. l ++ b) is ∙ append_assoc old a b,
    )

-- the texts of items are texts of the shapes that those are of
pub texts_of_shapes : {E : Type 0} (IsOf : List Cell → E → Type 0) (IsText : E → List ℕ → Type 0) (shapes : List (List Cell)) (items : List E) → AllZip IsOf shapes items → (output : List ℕ)
    → AreTexts IsText items output → AreTexts (IsItemText IsOf IsText) shapes output
texts_of_shapes IsOf IsText shapes items of_shapes output (texts, are, is) = (texts, through shapes items texts of_shapes are, is)
  where
    through : (ss : List (List Cell)) (es : List _) (ts : List (List ℕ)) → AllZip IsOf ss es → AllZip IsText es ts → AllZip (IsItemText IsOf IsText) ss ts
    through [] [] [] of are = tt
    through [] [] (t ∷ ts) of are = absurd are
    through [] (e ∷ es) ts of are = absurd of
    through (s ∷ ss) [] ts of are = absurd of
    through (s ∷ ss) (e ∷ es) [] of are = absurd are
    through (s ∷ ss) (e ∷ es) (t ∷ ts) of are = ((e, of.0, are.0), through ss es ts of.1 are.1)

-- texts of shapes are those of items that the shapes have, where an item has one text
pub items_of_texts : {E : Type 0} (IsOf : List Cell → E → Type 0) (text_of : E → List ℕ) (IsGood : E → Type 0) (shapes : List (List Cell)) (output : List ℕ)
    → AreTexts (IsItemText IsOf (λ e text. (text ≡ text_of e) × IsGood e)) shapes output
    → (items : List E) × AllZip IsOf shapes items × AllByRecursion IsGood items × (output ≡ flat_map text_of items)
items_of_texts {E} IsOf text_of IsGood shapes output (texts, are, is) =
    let (items, of, good, same) = apart shapes texts are in
    (items, of, good, is ∙ same)
  where
    apart : (ss : List (List Cell)) (ts : List (List ℕ)) → AllZip (IsItemText IsOf (λ e text. (text ≡ text_of e) × IsGood e)) ss ts
        → (es : List E) × AllZip IsOf ss es × AllByRecursion IsGood es × (concat ts ≡ flat_map text_of es)
    apart [] [] are = ([], tt, tt, refl)
    apart [] (t ∷ ts) are = absurd are
    apart (s ∷ ss) [] are = absurd are
    apart (s ∷ ss) (t ∷ ts) ((e, of, one), are) =
        let (es, ofs, goods, same) = apart ss ts are in
        (e ∷ es, (of, ofs), (one.1, goods), ap (λ l. l ++ concat ts) one.0 ∙ ap (λ l. text_of e ++ l) same)
