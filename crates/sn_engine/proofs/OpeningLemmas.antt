-- An engine that was opened plays the opening world.
use Rattle.std.proofs.Common.{◌≡◌, ◌<◌, ◌≤◌, ◌^◌, IsTrue, rules, arith, ℕ, suc, ◌+◌, List, [], ◌∷◌, ◌++◌, length, map, replicate, Option, ap, sym, ◌∙◌}
use Rattle.std.proofs.lemmas.List.{map_push, length-replicate, replicate-append-replicate}
use Rattle.sn_mem.specs.declared.extents.Extent.{Extent}
use Rattle.sn_mem.specs.Blocks.{table}
use Rattle.sn_mem.specs.Layout.{audio_place}
use Rattle.sn_ports.specs.Octets.{Octets, bytes_of}
use Rattle.sn_pcm.specs.Allowed.{is_rate, is_within}
use Rattle.sn_pcm.specs.declared.settings.Settings.{Settings}
use Rattle.sn_queue.specs.Waiting.{WaitingList}
use Rattle.sn_clash.specs.declared.clash.Clash.{Clash}
use Rattle.sn_machine.specs.declared.views.Rested.{Rested}
use Rattle.sn_round.specs.declared.jobs.Job.{Job}
use Rattle.sn_engine.specs.Playing.{Past, no_past}
use Rattle.sn_engine.specs.Planning.{CopiesLie, HasLanes}
use Rattle.sn_engine.specs.Remembered.{Remembered}
use Rattle.sn_engine.specs.Running.{Running, opened}
use Rattle.sn_engine.specs.declared.standing.Standing.TheVariants.{Settled}
use Rattle.sn_world.specs.declared.stage.Stage.{Stage}
use Rattle.sn_world.specs.World.{World, world_of}
use Rattle.sn_world.specs.Opening.{opening, IsOpening}
use Rattle.sn_world.proofs.OpeningLaws.{opens}

abbrev pub a_past : List Job → List Rested → ℕ → ℕ → Past
a_past jobs rounds stores crew = record { jobs = jobs; rounds = rounds; stores = stores; crew = crew }

abbrev pub begun : Settings → World → WaitingList → List Clash → List ℕ → List (List ℕ) → Running
begun s world waiting clashes sound replies = record { settings = s; world = world; waiting = waiting; clashes = clashes; block = 0; standing = Settled; sound = sound; replies = replies }

pub opens_engine : (s : Settings) (base : ℕ) (limit : Option ℕ) (clients n : ℕ) (stage : Stage) (words : List ℕ) (q : WaitingList) (clashes : List Clash) (sound : List ℕ) (replies : List (List ℕ)) → IsOpening s.rate s.memory clients stage
    → words ≡ replicate n 0 → q ≡ record { base = base; rate = s.rate; limit = limit; puts = 0; waiting = [] } → clashes ≡ [] → sound ≡ [] → replies ≡ replicate clients [] → begun s (world_of stage words) q clashes sound replies ≡ opened s base limit clients
opens_engine s base limit clients n stage words q clashes sound replies o zeros waits clear silent none =
    let world : world_of stage words ≡ opening s.rate s.memory clients = ap (world_of stage) zeros ∙ opens s.rate s.memory clients n stage o in
    λ i. begun s (world i) (waits i) (clear i) (silent i) (none i)

pub one_more_silent : (n : ℕ) (texts more : List Octets) (t : Octets) → map bytes_of texts ≡ replicate n [] → more ≡ texts ++ t ∷ [] → t.bytes ≡ [] → map bytes_of more ≡ replicate (n + 1) []
one_more_silent n texts more t silent put none =
    ap (map bytes_of) put ∙ map_push bytes_of texts t
    ∙ (λ i. silent i ++ none i ∷ [])
    ∙ replicate-append-replicate n 1 []

-- the places of the first buses
pub no_places : (places : List Extent) → places ≡ [] → places ≡ table audio_place 0
unfolding table
no_places places none = none

pub one_more_place : (n : ℕ) (places more : List Extent) (place : Extent) → places ≡ table audio_place n → place ≡ audio_place n → more ≡ places ++ place ∷ [] → more ≡ table audio_place (n + 1)
unfolding table
one_more_place n places more place so_far is put =
    let e : n + 1 ≡ suc n = omega arith in
    put ∙ ((λ i. so_far i ++ is i ∷ []) ∙ ap (table audio_place) (sym e))

-- what each setting is
pub channels_fit : (channels : ℕ) → IsTrue (is_within 1 8 channels) → channels ≤ 8
channels_fit channels h = search rules

pub rate_fits : (rate : ℕ) → IsTrue (is_rate rate) → (0 < rate) × (rate ≤ 96000)
rate_fits rate h = search rules

pub memory_fits : (memory : ℕ) → IsTrue (is_within 65536 16777216 memory) → 10368 + memory < 4294967296
memory_fits memory h = search rules

pub memory_opens : (memory : ℕ) → IsTrue (is_within 65536 16777216 memory) → (1 ≤ 10368 + memory + 16384 + 266240) × (10368 + memory + 16384 + 266240 < 2 ^ 31)
memory_opens memory h = let most : memory ≤ 16777216 = search rules in (omega arith, omega (arith, most))

pub workers_fit : (workers : ℕ) → IsTrue (is_within 1 16 workers) → (1 ≤ workers) × (workers ≤ 16)
workers_fit workers h =
    let some : 1 ≤ workers = search rules in
    let few : workers ≤ 16 = search rules in (some, few)

-- nothing was played yet
pub opens_past : (workers words : ℕ) (jobs : List Job) (memory : Remembered) (crew : ℕ) → jobs ≡ [] → memory ≡ record { words = replicate words 0; rounds = []; stores = 0 } → crew ≡ workers
    → a_past jobs memory.rounds memory.stores crew ≡ no_past workers
opens_past workers words jobs memory crew none zeros all = λ i. a_past (none i) (zeros i).rounds (zeros i).stores (all i)

-- there is room for the copies
pub opens_copies : (channels memory rate clients copies : ℕ) (stage : Stage) (words : List ℕ) (outputs : List Extent) → IsTrue (is_within 1 8 channels) → IsTrue (is_within 65536 16777216 memory) → IsOpening rate memory clients stage → copies ≡ 10368 + memory
    → words ≡ replicate (copies + 16384 + 266240) 0 → outputs ≡ table audio_place channels → CopiesLie channels stage words outputs copies
opens_copies channels memory rate clients copies stage words outputs few large o at zeros places =
    let most : 10368 + memory < 4294967296 = memory_fits memory large in
    let roomy = memory_opens memory large in
    let region : stage.pool.region.len ≡ memory = ap (λ p. p.region.len) o.pool in
    let long : length words ≡ copies + 16384 + 266240 = ap length zeros ∙ length-replicate (copies + 16384 + 266240) 0 in
    record {
      few = channels_fit channels few;
      outputs_are = places;
      at = omega (arith, region, at);
      fits = omega (arith, long);
      bounded = omega (arith, at, roomy.1);
    }

-- and for the lanes
pub opens_lanes : (memory rate clients : ℕ) (stage : Stage) (words : List ℕ) → IsTrue (is_within 65536 16777216 memory) → IsOpening rate memory clients stage → words ≡ replicate (10368 + memory + 16384 + 266240) 0 → HasLanes stage words
opens_lanes memory rate clients stage words large o zeros =
    let roomy = memory_opens memory large in
    let region : stage.pool.region.len ≡ memory = ap (λ p. p.region.len) o.pool in
    let long : length words ≡ 10368 + memory + 16384 + 266240 = ap length zeros ∙ length-replicate (10368 + memory + 16384 + 266240) 0 in
    record { fits = omega (arith, region, long); bounded = omega (arith, region, roomy.1) }
