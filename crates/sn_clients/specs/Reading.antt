-- What a reader takes of a client's source, and why it ends.
use Rattle.std.specs.Prelude.{◌≡◌, ◌⊎◌, ◌≤◌, ◌<◌, ◌+◌, ◌^◌, ◌++◌, ℕ, List, length, Option, IsTrue, Result, Ok, Err}
use Rattle.std.specs.List.{AllByRecursion}
use Rattle.std.specs.Io.KnownBytes.{Consumes, IsAtEnd}
use Rattle.sn_ports.specs.Limits.{most_count}
use Rattle.sn_osc.specs.Framing.{Framing}
use Rattle.sn_osc.specs.Frames.{bad_size, cut, first_frame, is_frame_size}
use Rattle.sn_osc.specs.Unpacking.{joined_frames}
use Rattle.sn_clients.specs.declared.clients.ClientEnd.{ClientEnd}
use Rattle.sn_clients.specs.declared.clients.ClientEnd.TheVariants.{Closed, Cut, BadFrame, ReadFault, SendFault, Stopped, Worn, NoMemory}

-- the bytes are the frames of the packets and then the rest
pub record AreCut (bytes : List ℕ) (packets : List (List ℕ)) (rest : List ℕ) : Type 0 where
  pub whole : bytes ≡ joined_frames packets ++ rest
  pub sized : AllByRecursion (λ packet. IsTrue (is_frame_size (length packet))) packets

-- what an end says of the bytes that were taken, the packets that were put and the bytes after them
module _ (at_end faulted stopped : Type 0) (bytes : List ℕ) (packets : List (List ℕ)) (rest : List ℕ) where
  abbrev pub EndsAs : ClientEnd → Type 0
  EndsAs Closed = at_end × (length rest ≡ 0)
  EndsAs (Cut kept) = at_end × (0 < kept) × (length rest ≡ kept) × (first_frame rest ≡ cut)
  EndsAs (BadFrame size) = first_frame rest ≡ bad_size size
  EndsAs ReadFault = faulted × (first_frame rest ≡ cut)
  EndsAs SendFault = ⊥
  EndsAs Stopped = stopped
  EndsAs Worn = (most_count ≤ length bytes) ⊎ (2 ^ 32 ≤ length packets + 1)
  EndsAs NoMemory = Unit {0}

-- how a stream ends of which this is kept, and nothing more comes
abbrev pub IsClosing : List ℕ → ClientEnd → Type 0
IsClosing kept Closed = length kept ≡ 0
IsClosing kept (Cut n) = (0 < n) × (length kept ≡ n)
IsClosing kept (BadFrame size) = ⊥
IsClosing kept ReadFault = ⊥
IsClosing kept SendFault = ⊥
IsClosing kept Stopped = ⊥
IsClosing kept Worn = ⊥
IsClosing kept NoMemory = ⊥

-- A reader has ended. What it took of its source is the frames of the packets that it put, and then a rest.
pub record HasRead (left_old left_new : Option (List ℕ)) (faulted stopped : Type 0) (packets : List (List ℕ)) (end : ClientEnd) : Type 0 where
  pub bytes : List ℕ
  pub rest : List ℕ
  pub taken : Consumes left_old left_new bytes
  pub cut_so : AreCut bytes packets rest
  pub why : EndsAs (IsAtEnd left_new) faulted stopped bytes packets rest end

-- A reader reads. What it took of its source is the frames of the packets that it put, and then what its framer keeps.
pub record IsReading (left_old left_new : Option (List ℕ)) (packets : List (List ℕ)) (framing : Framing) : Type 0 where
  pub bytes : List ℕ
  pub taken : Consumes left_old left_new bytes
  pub cut_so : AreCut bytes packets framing.kept
  pub count : framing.fed ≡ length bytes

-- it reads on, or has ended
abbrev pub ReadsOn : Option (List ℕ) → Option (List ℕ) → Type 0 → Type 0 → List (List ℕ) → Framing → Result Unit ClientEnd → Type 0
ReadsOn left_old left_new faulted stopped packets framing (Ok x) = IsReading left_old left_new packets framing
ReadsOn left_old left_new faulted stopped packets framing (Err end) = HasRead left_old left_new faulted stopped packets end
