use Rattle.heesch_cert.proofs.SingleSquare.{square_entry_true, square_entry_right}
use Rattle.heesch_cert.proofs.SingleIamond.{iamond_entry_true, iamond_entry_right}
use Rattle.heesch_cert.proofs.laws.small_entries_are_true.Goals as goal

pub returns : goal.returns
returns c = record {
  square_true = square_entry_true;
  square_right = square_entry_right;
  iamond_true = iamond_entry_true;
  iamond_right = iamond_entry_right;
}
