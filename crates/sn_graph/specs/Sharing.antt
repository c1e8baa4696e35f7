-- Which audio buses the members of a group mix together.
use Rattle.std.specs.Prelude.{ℕ, ◌*◌, Bool, false, ◌&&◌, ◌||◌, List}
use Rattle.std.specs.List.{list_any}
use Rattle.sn_mem.specs.Layout.{audio_bus_words}
use Rattle.sn_mem.specs.Words.{has}
use Rattle.sn_graph.specs.declared.nodes.Voice.{Voice}
use Rattle.sn_graph.specs.Voices.{HeardNodes, none, synth, group, voices}

-- a synth mixes audio bus n
abbrev pub mixes : Voice → ℕ → Bool
mixes v n = has v.reach.mixes (audio_bus_words * n)

-- one of these mixes it
abbrev pub one_mixes : List Voice → ℕ → Bool
one_mixes vs n = list_any (λ v. mixes v n) vs

-- two members of a group mix it, a group among them by a synth below it
abbrev pub two_mix : HeardNodes → ℕ → Bool
two_mix none n = false
two_mix (synth v rest) n = (mixes v n && one_mixes (voices rest) n) || two_mix rest n
two_mix (group lanes inner rest) n = (one_mixes (voices inner) n && one_mixes (voices rest) n) || two_mix rest n
