-- The lines and the numbers of items, counted and joined.
use Rattle.std.proofs.Common.{◌≡◌, ℕ, ◌+◌, List, [], ◌∷◌, ◌++◌, length, refl, subst, arith}
use Rattle.std.proofs.lemmas.List.{length-append}
use Rattle.std.proofs.lemmas.List.Concat.{flat_map-append}
use Rattle.heesch_text.specs.declared.line.Line.{Line}
use Rattle.heesch_text.specs.Lines.{line_text, text_of}
use Rattle.heesch_reader.specs.declared.item.Item.{Item}
use Rattle.heesch_reader.specs.declared.item.Item.TheVariants as items
use Rattle.heesch_reader.specs.declared.scan.Appended.{Appended}
use Rattle.heesch_reader.specs.Items.{item_lines, lines_of, with_item, with_items, AreItemsAt}

pub with_items_append : (a : Appended) (f g : List Item) → with_items a (f ++ g) ≡ with_items (with_items a f) g
with_items_append a [] g = refl
with_items_append a (item ∷ f) g = with_items_append (with_item a item) f g

item_counted : (a : Appended) (item : Item) → (with_item a item).lines ≡ a.lines + length (item_lines item)
item_counted a (items.Header header) = refl
item_counted a (items.Entry line entry) = refl
item_counted a (items.Brief line cells verdict) = refl
item_counted a (items.End count) = refl

pub lines_counted : (a : Appended) (f : List Item) → (with_items a f).lines ≡ a.lines + length (lines_of f)
lines_counted a [] = omega arith
lines_counted a (item ∷ f) = omega (arith, lines_counted (with_item a item) f, item_counted a item, length-append (item_lines item) (lines_of f))

pub items_append : (n : ℕ) (f g : List Item) → AreItemsAt n f → AreItemsAt (n + length (lines_of f)) g → AreItemsAt n (f ++ g)
items_append n [] g h k = let e : n + 0 ≡ n = omega arith in subst (λ (m : ℕ). AreItemsAt m g) e k
items_append n (item ∷ f) g h k =
    let e : n + length (item_lines item ++ lines_of f) ≡ n + length (item_lines item) + length (lines_of f) = omega (arith, length-append (item_lines item) (lines_of f)) in
    (h.0, items_append (n + length (item_lines item)) f g h.1 (subst (λ (m : ℕ). AreItemsAt m g) e k))

pub lines_append : (f g : List Item) → lines_of (f ++ g) ≡ lines_of f ++ lines_of g
lines_append f g = flat_map-append item_lines f g

pub text_append : (a b : List Line) → text_of (a ++ b) ≡ text_of a ++ text_of b
text_append a b = flat_map-append line_text a b
