-- Whole catalogues.
use Rattle.std.specs.Prelude.{◌≡◌, ℕ, ◌==◌, count_by, List, true}
use Rattle.heesch_text.specs.Lines.{text_of}
use Rattle.heesch_reader.specs.declared.item.Item.{Item}
use Rattle.heesch_reader.specs.declared.progress.Progress.{Progress}
use Rattle.heesch_reader.specs.declared.progress.Progress.TheVariants as stages
use Rattle.heesch_reader.specs.Progress.{Lead}
use Rattle.heesch_reader.specs.Items.{lines_of, AreItemsAt, with_items, none_appended}

-- how many of the bytes are newlines
abbrev pub newlines : List ℕ → ℕ
newlines bytes = count_by (λ b. b == 10) bytes

-- the input is the text of these items: a catalogue from its header to its end, each entry numbered with the line that it begins on
pub record IsWholeCatalogue (input : List ℕ) (all : List Item) : Type 0 where
  pub reached : Progress
  pub text : input ≡ text_of (lines_of all)
  pub lead : Lead stages.Start (lines_of all) reached
  pub numbered : AreItemsAt 0 all
  pub ended : (with_items none_appended all).ended ≡ true
