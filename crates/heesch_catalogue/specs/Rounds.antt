-- What writing the texts of shapes by rounds does to the bytes that a sink holds.
use Rattle.std.specs.Prelude.{◌≡◌, ℕ, ◌==◌, List, [], ◌++◌, Option, ◌⊎◌, length, take, if◌then◌else◌}
use Rattle.std.specs.List.{AllZip, concat}
use Rattle.std.specs.Io.KnownBytes.{Appends, Keeps}
use Rattle.heesch_io.specs.Contents.{AppendsPrefix}
use Rattle.heesch_grid.specs.declared.Cell.{Cell}
use Rattle.heesch_grid.specs.Geometry.{Geometry}
use Rattle.heesch_grid.specs.Polyform.{IsFreeList}
use Rattle.heesch_text.specs.Catalogue.{end_text}

-- known bytes grow by an output of this kind
abbrev pub WritesOne : (List ℕ → Type 0) → Option (List ℕ) → Option (List ℕ) → Type 0
WritesOne IsOutput old new = (output : List ℕ) × IsOutput output × Appends old new output

-- known bytes stay as they were, or grow by a prefix of an output of this kind
abbrev pub BeginsOne : (List ℕ → Type 0) → Option (List ℕ) → Option (List ℕ) → Type 0
BeginsOne IsOutput old new = Keeps old new ⊎ ((output : List ℕ) × IsOutput output × AppendsPrefix old new output)

-- a text grows by an output of this kind
abbrev pub Extends : (List ℕ → Type 0) → List ℕ → List ℕ → Type 0
Extends IsOutput old new = (output : List ℕ) × IsOutput output × (new ≡ old ++ output)

-- ---- the texts of some, one after another

-- the output is the texts of these, one each, in their order
abbrev pub AreTexts : {X : Type 0} → (X → List ℕ → Type 0) → List X → List ℕ → Type 0
AreTexts IsText xs output = (texts : List (List ℕ)) × AllZip IsText xs texts × (output ≡ concat texts)

-- the text is that of an item of this shape
abbrev pub IsItemText : {E : Type 0} → (List Cell → E → Type 0) → (E → List ℕ → Type 0) → List Cell → List ℕ → Type 0
IsItemText {E} IsOf IsText shape text = (item : E) × IsOf shape item × IsText item text

-- ---- with a head and an end

-- the output is the head, the texts of items of these shapes of the grid, and the end's text with their number
abbrev pub IsWholeText : {E : Type 0} → List ℕ → (Geometry → List Cell → E → Type 0) → (E → List ℕ → Type 0) → Geometry → List (List Cell) → List ℕ → Type 0
IsWholeText head IsOf IsText g shapes output = (texts : List ℕ) × AreTexts (IsItemText (IsOf g) IsText) shapes texts × (output ≡ head ++ texts ++ end_text (length shapes))

-- the output is the head, the texts of items of some first ones of these shapes, and the end's text where these are all
abbrev pub IsBegunText : {E : Type 0} → List ℕ → (Geometry → List Cell → E → Type 0) → (E → List ℕ → Type 0) → Geometry → List (List Cell) → List ℕ → Type 0
IsBegunText head IsOf IsText g shapes output =
    (count : ℕ) × (texts : List ℕ) × AreTexts (IsItemText (IsOf g) IsText) (take count shapes) texts
    × (output ≡ head ++ texts ++ (if length (take count shapes) == length shapes then end_text (length shapes) else []))

-- the output is one of this kind of the free list of the grid's polyforms of n cells
abbrev pub IsOfSize : (Geometry → List (List Cell) → List ℕ → Type 0) → Geometry → ℕ → List ℕ → Type 0
IsOfSize IsOutput g n output = (shapes : List (List Cell)) × IsFreeList g n shapes × IsOutput g shapes output
