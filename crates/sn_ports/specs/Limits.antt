-- The limits of the server, each by its name. `limits.rt` has the same numbers in code, and a law there says that they
-- are the same.
use Rattle.std.specs.Prelude.{ℕ, ◌*◌, ◌^◌}

-- ---- sound

-- the frames of a block
abbrev pub block_frames : ℕ
block_frames = 64

-- audio buses, numbered from 0 on
abbrev pub audio_bus_count : ℕ
audio_bus_count = 128

-- control buses, numbered from 0 on
abbrev pub control_bus_count : ℕ
control_bus_count = 1024

-- numbers of buffers, from 0 on
abbrev pub buffer_count : ℕ
buffer_count = 1024

-- the channels of the sound, and of a buffer
abbrev pub most_channels : ℕ
most_channels = 8

-- the samples of a block with as many channels as there may be
abbrev pub block_samples : ℕ
block_samples = block_frames * most_channels

-- the wires of a definition; neither it nor a unit has more inputs, outputs or controls
abbrev pub most_wires : ℕ
most_wires = 512

-- the units of a definition
abbrev pub most_units : ℕ
most_units = 256

-- the elements of an array of controls
abbrev pub most_elements : ℕ
most_elements = 64

-- the rates of the sound, in frames a second
abbrev pub low_rate : ℕ
low_rate = 44100

abbrev pub middle_rate : ℕ
middle_rate = 48000

abbrev pub high_rate : ℕ
high_rate = 96000

-- the words of the memory for buffers and states that settings may ask for
abbrev pub least_memory : ℕ
least_memory = 65536

abbrev pub most_memory : ℕ
most_memory = 16777216

-- ---- nodes

-- attached nodes, the root among them
abbrev pub most_nodes : ℕ
most_nodes = 4096

-- ---- packets

-- the bytes of a packet
abbrev pub most_packet : ℕ
most_packet = 65536

-- how deep bundles may nest
abbrev pub most_bundles : ℕ
most_bundles = 8

-- the bytes of a stream
abbrev pub most_stream : ℕ
most_stream = 16777216

-- the bytes of a sound file that a command names
abbrev pub most_file : ℕ
most_file = 33554432

-- the samples of sound files that the commands of a stream may read
abbrev pub most_samples : ℕ
most_samples = 16777216

-- the values that a message asks for
abbrev pub most_values : ℕ
most_values = 8192

-- ---- time

-- the blocks that are said to be due at once
abbrev pub most_ticks : ℕ
most_ticks = 1024

-- the blocks of a span: those that are rendered in one round
abbrev pub most_span : ℕ
most_span = 32

-- Counts that only rise, of blocks, of bytes that came and of entries that were put, end here.
abbrev pub most_count : ℕ
most_count = 2 ^ 62

-- ---- workers

abbrev pub most_workers : ℕ
most_workers = 16

-- the jobs of a round
abbrev pub most_jobs : ℕ
most_jobs = 65536

-- ---- connections

-- the clients of a connection
abbrev pub most_clients : ℕ
most_clients = 4

-- the notes of clients' readers that a relay holds
abbrev pub most_relayed : ℕ
most_relayed = 1024

-- the entries that wait over a connection
abbrev pub most_entries : ℕ
most_entries = 65536
