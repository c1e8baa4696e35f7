-- The settings that the words choose serve a fact about them.
use Rattle.std.proofs.Common.{List, sym, subst}
use Rattle.sn_ports.specs.Octets.{Octets}
use Rattle.sn_pcm.specs.declared.settings.Settings.{Settings}
use Rattle.sn_top.specs.Headline.{AreChosen, ForChosen, ByWords}

pub by_words : (words : List Octets) (s : Settings) (P : Settings → Type 0) → AreChosen words s → P s → ByWords words P
by_words words s P chosen holds = subst (λ r. ForChosen words r P) (sym chosen) (s, chosen, holds)
