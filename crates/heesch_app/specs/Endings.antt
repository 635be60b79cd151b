-- How a run leaves the bytes that its sink holds, by the status with which it ends.
use Rattle.std.specs.Prelude.{◌≡◌, ◌⊎◌, ℕ, List, Option, Result, Ok, Err, ⊤}
use Rattle.std.specs.Io.KnownBytes.{Appends}
use Rattle.heesch_io.specs.Causes.{Rose}
use Rattle.heesch_io.specs.Contents.{AppendsPrefix}
use Rattle.heesch_io.specs.declared.fault.IoStop.{IoStop}
use Rattle.heesch_io.specs.declared.fault.IoStop.TheVariants as stops
use Rattle.heesch_catalogue.specs.Rounds.{BeginsOne, WritesOne}
use Rattle.heesch_app.specs.declared.status.Status.{Status}
use Rattle.heesch_app.specs.declared.status.Status.TheVariants.{Done, Invalid, Usage, BadInput, ReadFault, WriteFault, NoMemory}

-- the status of a run whose reading stopped
abbrev pub read_status : IoStop → Status
read_status stops.Failed = ReadFault
read_status stops.NoMemory = NoMemory

-- the status of a run that wrote a catalogue, or stopped
abbrev pub written_status : {A : Type 0} → Result A IoStop → Status
written_status (Ok _) = Done
written_status (Err stops.Failed) = WriteFault
written_status (Err stops.NoMemory) = NoMemory

-- the text was put, and its status is the run's; or the sink failed at a prefix of it
abbrev pub IsPut : (text : List ℕ) (status result : Status) (old new : Option (List ℕ)) (before now : ℕ) → Type 0
IsPut text status result old new before now =
    ((result ≡ status) × Appends old new text) ⊎ ((result ≡ WriteFault) × AppendsPrefix old new text × Rose before now)

-- Known bytes grow by a whole output that comes with the status. Where the sink failed or memory was refused they stay as they were, or grow by a prefix of a begun output; and it is never Usage.
unfoldable pub EndsAs : (Status → List ℕ → Type 0) → (List ℕ → Type 0) → (old new : Option (List ℕ)) → Status → Type 0
EndsAs IsWhole IsBegun old new Done = WritesOne (IsWhole Done) old new
EndsAs IsWhole IsBegun old new Invalid = WritesOne (IsWhole Invalid) old new
EndsAs IsWhole IsBegun old new Usage = ⊥
EndsAs IsWhole IsBegun old new BadInput = WritesOne (IsWhole BadInput) old new
EndsAs IsWhole IsBegun old new ReadFault = ⊤
EndsAs IsWhole IsBegun old new WriteFault = BeginsOne IsBegun old new
EndsAs IsWhole IsBegun old new NoMemory = BeginsOne IsBegun old new
