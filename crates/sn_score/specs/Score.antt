-- The text of a list of packets.
use Rattle.std.specs.Prelude.{◌≡◌, ◌≤◌, ℕ, List, length, flat_map, IsTrue}
use Rattle.std.specs.List.{AllByRecursion}
use Rattle.sn_ports.specs.Limits.{most_packet}
use Rattle.sn_osc.specs.Bytes.{are_octets}
use Rattle.sn_osc.specs.Shape.{Shape}
use Rattle.sn_osc.specs.Grammar.{Spells}
use Rattle.sn_score.specs.Lines.{packet_text}

-- the packet spells in no more bytes than a packet may have
pub record Fits (x : Shape) : Type 0 where
  pub bytes : List ℕ
  pub spelled : Spells x bytes
  pub octets : IsTrue (are_octets bytes)
  pub few : length bytes ≤ most_packet

abbrev pub AllFit : List Shape → Type 0
AllFit packets = AllByRecursion Fits packets

unfoldable pub score_text : List Shape → List ℕ
score_text packets = flat_map packet_text packets

-- the text of packets that each fit
pub record Score (text : List ℕ) (packets : List Shape) : Type 0 where
  pub fit : AllFit packets
  pub written : text ≡ score_text packets
