-- What serving by the settings that the words choose says.
use Rattle.std.proofs.Common.{◌≡◌, ℕ, List, Ok, ◌⊎◌, inl, inr, sym, ap, subst}
use Rattle.sn_ports.specs.Octets.{Octets}
use Rattle.sn_pcm.specs.declared.settings.Settings.{Settings}
use Rattle.sn_server.specs.declared.ended.Ended.{Ended}
use Rattle.sn_words.specs.Choices.{numbers}
use Rattle.sn_words.specs.Serving.{ServeChoices, serve_words_of}
use Rattle.sn_words.specs.declared.serve.ServeWords.{ServeWords}
use Rattle.sn_top.specs.Connection.{AreServed, ForServed, ByServeWords}
use Rattle.sn_top.specs.declared.serving.Served.{Served}
use Rattle.sn_top.specs.declared.serving.Served.TheVariants.{Ran}

-- what the words of a server choose, as their definition has it
abbrev pub choices : ServeWords → ServeChoices
choices w = record { settings = numbers w.settings; port = w.port; clients = w.clients; pacing = w.pacing }

same_end : (ran how : Ended) → Ran ran ≡ Ran how → ran ≡ how
same_end ran how e = cc

pub of_end : (P : Ended → Type 0) (ran how : Ended) → P ran → Ran ran ≡ Ran how → P how
of_end P ran how holds e = subst P (same_end ran how e) holds

pub chosen_end : (words : List Octets) (P : Settings → Ended → Type 0) (s : Settings) (c : ServeChoices) (ran how : Ended) → serve_words_of words ≡ Ok c → c.settings ≡ numbers s → P s ran → Ran ran ≡ Ran how → (t : Settings) × AreServed words t × P t how
chosen_end words P s c ran how chosen is holds e = (s, (c, chosen, is), of_end (P s) ran how holds e)

pub by_chosen : (words : List Octets) (P : Settings → Type 0) (s : Settings) (c : ServeChoices) → serve_words_of words ≡ Ok c → c.settings ≡ numbers s → P s → ByServeWords words P
by_chosen words P s c chosen is holds = subst (λ r. ForServed words r P) (sym chosen) (s, (c, chosen, is), holds)

pub or_end : (ran end : Ended) (P : Type 0) → (ran ≡ end) ⊎ P → (Ran ran ≡ Ran end) ⊎ P
or_end ran end P (inl e) = inl (ap Ran e)
or_end ran end P (inr p) = inr p

pub either_end : (ran a b : Ended) → (ran ≡ a) ⊎ (ran ≡ b) → (Ran ran ≡ Ran a) ⊎ (Ran ran ≡ Ran b)
either_end ran a b (inl e) = inl (ap Ran e)
either_end ran a b (inr e) = inr (ap Ran e)
