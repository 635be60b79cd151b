-- How the head, the texts of rounds and the end's text follow one another.
use Rattle.std.proofs.Common.{◌≡◌, ℕ, ◌+◌, ◌-◌, ◌≤◌, List, [], ◌++◌, length, take, drop, refl, sym, ap, ◌∙◌, subst, arith, inl, inr, append_assoc, append-nil}
use Rattle.std.specs.Prelude.{Option, Result, Ok, Err, OnErr, OnOk, ◌==◌, if◌then◌else◌}
use Rattle.std.specs.Io.KnownBytes.{Appends}
use Rattle.std.specs.List.{AllZip}
use Rattle.std.proofs.lemmas.Bool.{eq-eqb}
use Rattle.std.proofs.lemmas.List.{take_all}
use Rattle.std.proofs.lemmas.Result.{on_err_weaker, on_ok_weaker}
use Rattle.std.proofs.Math.Seq.{take-add}
use Rattle.heesch_io.specs.Contents.{AppendsPrefix}
use Rattle.heesch_io.proofs.Appending.{appends_nothing, appends_both, appends_then_keeps, appends_then_prefix}
use Rattle.heesch_grid.specs.declared.Cell.{Cell}
use Rattle.heesch_grid.specs.Geometry.{Geometry}
use Rattle.heesch_text.specs.Catalogue.{end_text}
use Rattle.heesch_catalogue.specs.Rounds.{AreTexts, BeginsOne, IsBegunText, IsItemText, IsWholeText, WritesOne}
use Rattle.heesch_catalogue.proofs.ItemTexts.{no_texts, texts_both, texts_of_shapes}

-- what holds anyway holds at an error
pub at_error : {T E P : Type 0} (r : Result T E) → P → OnErr r P
at_error (Ok x) p = tt
at_error (Err e) p = p

-- the shapes before a round, and those of the round
pub rounds_meet : {X : Type 0} (xs : List X) (from until : ℕ) → from ≤ until → take from xs ++ take (until - from) (drop from xs) ≡ take until xs
rounds_meet xs from until le =
    let sum : from + (until - from) ≡ until = omega arith in
    sym (take-add from (until - from) xs) ∙ ap (λ n. take n xs) sum

pub whole_prefix : (a b : Option (List ℕ)) (xs : List ℕ) → Appends a b xs → AppendsPrefix a b xs
whole_prefix a b xs all = (length xs, subst (λ l. Appends a b l) (sym (take_all (length xs) xs (omega arith))) all)

longer : (a b : Option (List ℕ)) (xs zs : List ℕ) → AppendsPrefix a b xs → AppendsPrefix a b (xs ++ zs)
longer a b xs zs prefix = appends_then_prefix a a b [] xs zs (appends_nothing a) prefix

-- ---- outputs of a kind that has more

pub writes_weaker : {P Q : List ℕ → Type 0} (a b : Option (List ℕ)) → ((output : List ℕ) → P output → Q output) → WritesOne P a b → WritesOne Q a b
writes_weaker a b weaker (output, is, appends) = (output, weaker output is, appends)

pub begins_weaker : {P Q : List ℕ → Type 0} (a b : Option (List ℕ)) → ((output : List ℕ) → P output → Q output) → BeginsOne P a b → BeginsOne Q a b
begins_weaker a b weaker (inl keeps) = inl keeps
begins_weaker a b weaker (inr (output, is, prefix)) = inr (output, weaker output is, prefix)

-- what a call wrote of one kind it wrote of the other
pub writes_as : {T E : Type 0} {P Q : List ℕ → Type 0} (r : Result T E) (a b : Option (List ℕ)) → ((output : List ℕ) → P output → Q output) → OnOk r (WritesOne P a b) → OnOk r (WritesOne Q a b)
writes_as r a b weaker = on_ok_weaker r (writes_weaker a b weaker)

-- and so of what it began
pub begins_as : {T E : Type 0} {P Q : List ℕ → Type 0} (r : Result T E) (a b : Option (List ℕ)) → ((output : List ℕ) → P output → Q output) → OnErr r (BeginsOne P a b) → OnErr r (BeginsOne Q a b)
begins_as r a b weaker = on_err_weaker r (begins_weaker a b weaker)

-- ---- rounds

-- the output is the texts of some first ones of these
abbrev pub AreBegunTexts : {X : Type 0} → (X → List ℕ → Type 0) → List X → List ℕ → Type 0
AreBegunTexts IsText xs output = (count : ℕ) × AreTexts IsText (take count xs) output

module _ {X : Type 0} (IsText : X → List ℕ → Type 0) (xs : List X) where
  round_texts : (from until : ℕ) (a b : List ℕ) → from ≤ until → AreTexts IsText (take from xs) a → AreTexts IsText (take (until - from) (drop from xs)) b → AreTexts IsText (take until xs) (a ++ b)
  round_texts from until a b le are are_too =
      subst (λ l. AreTexts IsText l (a ++ b)) (rounds_meet xs from until le) (texts_both IsText (take from xs) (take (until - from) (drop from xs)) a b are are_too)

  -- a round is written behind those before it
  pub round_written : (from until : ℕ) (a b c : Option (List ℕ)) → from ≤ until → WritesOne (AreTexts IsText (take from xs)) a b
      → WritesOne (AreTexts IsText (take (until - from) (drop from xs))) b c → WritesOne (AreTexts IsText (take until xs)) a c
  round_written from until a b c le (us, are, first) (vs, are_too, next) = (us ++ vs, round_texts from until us vs le are are_too, appends_both a b c us vs first next)

  -- nothing is written behind some rounds
  pub round_kept : (from : ℕ) (a b : Option (List ℕ)) → WritesOne (AreTexts IsText (take from xs)) a b → BeginsOne (AreBegunTexts IsText xs) a b
  round_kept from a b (us, are, first) = inr (us, (from, are), whole_prefix a b us first)

  -- a round is begun behind those before it
  pub round_begun : (from until : ℕ) (a b c : Option (List ℕ)) → from ≤ until → WritesOne (AreTexts IsText (take from xs)) a b
      → BeginsOne (AreTexts IsText (take (until - from) (drop from xs))) b c → BeginsOne (AreBegunTexts IsText xs) a c
  round_begun from until a b c le (us, are, first) (inl keeps) = round_kept from a c (us, are, appends_then_keeps a b c us first keeps)
  round_begun from until a b c le (us, are, first) (inr (vs, are_too, prefix)) =
      inr (
        us ++ vs,
        (until, round_texts from until us vs le are are_too),
        subst (λ l. AppendsPrefix a c (us ++ l)) (append-nil vs) (appends_then_prefix a b c us vs [] first prefix),
      )

-- the texts of items, which are of a round's shapes
module _ {E : Type 0} (IsOf : List Cell → E → Type 0) (IsText : E → List ℕ → Type 0) (shapes : List (List Cell)) where
  pub items_written : (items written : List E) (from until : ℕ) (a b c : Option (List ℕ)) → from ≤ until → written ≡ items → AllZip IsOf (take (until - from) (drop from shapes)) items
      → WritesOne (AreTexts (IsItemText IsOf IsText) (take from shapes)) a b → WritesOne (AreTexts IsText written) b c → WritesOne (AreTexts (IsItemText IsOf IsText) (take until shapes)) a c
  items_written items written from until a b c le same of_shapes first next =
      round_written (IsItemText IsOf IsText) shapes from until a b c le first
      (writes_weaker b c (texts_of_shapes IsOf IsText (take (until - from) (drop from shapes)) items of_shapes) (subst (λ es. WritesOne (AreTexts IsText es) b c) same next))

  pub items_begun : (items written : List E) (from until : ℕ) (a b c : Option (List ℕ)) → from ≤ until → written ≡ items → AllZip IsOf (take (until - from) (drop from shapes)) items
      → WritesOne (AreTexts (IsItemText IsOf IsText) (take from shapes)) a b → BeginsOne (AreTexts IsText written) b c → BeginsOne (AreBegunTexts (IsItemText IsOf IsText) shapes) a c
  items_begun items written from until a b c le same of_shapes first next =
      round_begun (IsItemText IsOf IsText) shapes from until a b c le first
      (begins_weaker b c (texts_of_shapes IsOf IsText (take (until - from) (drop from shapes)) items of_shapes) (subst (λ es. BeginsOne (AreTexts IsText es) b c) same next))

-- ---- head, rounds and end

module _ {E : Type 0} (head : List ℕ) (IsOf : Geometry → List Cell → E → Type 0) (IsText : E → List ℕ → Type 0) (g : Geometry) (shapes : List (List Cell)) where
  abbrev Written : List ℕ → Type 0
  Written texts = AreTexts (IsItemText (IsOf g) IsText) shapes texts

  -- the end's text where so many shapes are all
  abbrev end_if_all : ℕ → List ℕ
  end_if_all count = if length (take count shapes) == length shapes then end_text (length shapes) else []

  -- the head is begun
  pub head_begun : (a b : Option (List ℕ)) → AppendsPrefix a b head → BeginsOne (IsBegunText head IsOf IsText g shapes) a b
  head_begun a b prefix =
      inr (head ++ [] ++ end_if_all 0, (0, [], no_texts (IsItemText (IsOf g) IsText), refl), longer a b (head ++ []) (end_if_all 0) (longer a b head [] prefix))

  -- behind the head some rounds are written, and one is begun
  pub rounds_begun : (a b c : Option (List ℕ)) → Appends a b head → BeginsOne (AreBegunTexts (IsItemText (IsOf g) IsText) shapes) b c → BeginsOne (IsBegunText head IsOf IsText g shapes) a c
  rounds_begun a b c first (inl keeps) = head_begun a c (whole_prefix a c head (appends_then_keeps a b c head first keeps))
  rounds_begun a b c first (inr (texts, (count, are), prefix)) =
      inr (
        head ++ texts ++ end_if_all count,
        (count, texts, are, refl),
        subst (λ l. AppendsPrefix a c l) (sym (append_assoc head texts (end_if_all count))) (appends_then_prefix a b c head texts (end_if_all count) first prefix),
      )

  -- behind all rounds the end's text is begun
  end_begun : (count : ℕ) (a b c d : Option (List ℕ)) → count ≡ length shapes → Appends a b head → WritesOne Written b c → AppendsPrefix c d (end_text count)
      → BeginsOne (IsBegunText head IsOf IsText g shapes) a d
  end_begun count a b c d is_count first (texts, are, next) prefix =
      let whole : take (length shapes) shapes ≡ shapes = take_all (length shapes) shapes (omega arith) in
      let end : List ℕ = end_text (length shapes) in
      let until_end : Appends a c (head ++ texts) = appends_both a b c head texts first next in
      let of_all : AppendsPrefix a d (head ++ texts ++ (end ++ [])) = appends_then_prefix a c d (head ++ texts) end [] until_end (subst (λ n. AppendsPrefix c d (end_text n)) is_count prefix) in
      let is_all : end ≡ end_if_all (length shapes) = rw (whole, eq-eqb (length shapes) (length shapes) refl) refl in
      inr (
        head ++ texts ++ end_if_all (length shapes),
        (length shapes, texts, subst (λ ss. AreTexts (IsItemText (IsOf g) IsText) ss texts) (sym whole) are, refl),
        subst (λ l. AppendsPrefix a d (head ++ texts ++ l)) (append-nil end ∙ is_all) of_all,
      )

  -- head, rounds and end make the whole
  whole_written : (count : ℕ) (a b c d : Option (List ℕ)) → count ≡ length shapes → Appends a b head → WritesOne Written b c → Appends c d (end_text count)
      → WritesOne (IsWholeText head IsOf IsText g shapes) a d
  whole_written count a b c d is_count first (texts, are, next) last =
      let end : List ℕ = end_text (length shapes) in (
        head ++ texts ++ end,
        (texts, are, refl),
        appends_both a c d (head ++ texts) end (appends_both a b c head texts first next) (subst (λ n. Appends c d (end_text n)) is_count last),
      )

  -- behind all rounds the end's text makes the whole, and what is begun of it begins the whole
  pub end_written : (count : ℕ) (a b c d : Option (List ℕ)) → count ≡ length shapes → Appends a b head → WritesOne Written b c
      → (Appends c d (end_text count) → WritesOne (IsWholeText head IsOf IsText g shapes) a d) × (AppendsPrefix c d (end_text count) → BeginsOne (IsBegunText head IsOf IsText g shapes) a d)
  end_written count a b c d is_count first next = (whole_written count a b c d is_count first next, end_begun count a b c d is_count first next)
