-- What words that choose settings and a port are.
use Rattle.std.proofs.Common.{◌≡◌, ◌≤◌, ℕ, Bool, true, false, cond, nat_le, List, Option, Some, None, Ok, refl, sym, ap, subst, ◌∙◌, arith}
use Rattle.std.proofs.lemmas.Bool.{and_from, le-leb}
use Rattle.std.proofs.lemmas.Bool.Decides.{nat_tests}
use Rattle.std.specs.Prelude.{codes}
use Rattle.sn_fixed.specs.Natural.{natural}
use Rattle.sn_pcm.specs.Allowed.{is_within}
use Rattle.sn_ports.specs.Octets.{Octets}
use Rattle.sn_words.specs.declared.keys.Key.{Key}
use Rattle.sn_words.specs.Keys.{serve_keys, choices, value_of}
use Rattle.sn_words.specs.Laws.{IsServeLine, ServesBy}
use Rattle.sn_words.specs.Serving.{ServeChoices, pacing_of, port_word, port_of, by_port, by_settings, serve_words_of}
use Rattle.sn_words.specs.Words.{bad_word, between}
use Rattle.sn_words.proofs.GoodLine.{is_line, no_bad_word}
use Rattle.sn_words.proofs.Passing.{chosen_where}

none_bad : (words : List Octets) (bad : Option ℕ) (chosen : ServeChoices) → by_settings words bad ≡ Ok chosen → (bad ≡ None) × (by_port words (port_of (natural (port_word words))) ≡ Ok chosen)
none_bad words None chosen e = (refl, e)
none_bad words (Some i) chosen e = absurd cc

has_port : (words : List Octets) (port : Option ℕ) (chosen : ServeChoices) → by_port words port ≡ Ok chosen → (port ≡ Some chosen.port) × (chosen.settings ≡ choices (between 2 words)) × (chosen.clients ≡ value_of (between 2 words) Key.Clients) × (chosen.pacing ≡ pacing_of (value_of (between 2 words) Key.Pace))
has_port words None chosen e = absurd cc
has_port words (Some n) chosen e =
    let same : record { settings = choices (between 2 words); port = n; clients = value_of (between 2 words) Key.Clients; pacing = pacing_of (value_of (between 2 words) Key.Pace) } ≡ chosen = cc in
    (ap (λ (c : ServeChoices). Some c.port) same, sym (ap (λ (c : ServeChoices). c.settings) same), sym (ap (λ (c : ServeChoices). c.clients) same), sym (ap (λ (c : ServeChoices). c.pacing) same))

in_range : (n : ℕ) (test : Bool) (port : ℕ) → is_within 1 65535 n ≡ test → cond test (Some n) None ≡ Some port → (n ≡ port) × (1 ≤ n) × (n ≤ 65535)
in_range n true port t e = (cc, grind (arith, nat_tests), grind (arith, nat_tests))
in_range n false port t e = absurd cc

is_number : (number : Option ℕ) (port : ℕ) → port_of number ≡ Some port → (number ≡ Some port) × (1 ≤ port) × (port ≤ 65535)
is_number None port e = absurd cc
is_number (Some n) port e =
    let (same, least, greatest) = in_range n (is_within 1 65535 n) port refl e in
    (ap Some same, subst (λ k. 1 ≤ k) same least, subst (λ k. k ≤ 65535) same greatest)

-- a number in the range of ports is a port
allowed_port : (port : ℕ) → 1 ≤ port → port ≤ 65535 → port_of (Some port) ≡ Some port
allowed_port port least greatest =
    chosen_where (is_within 1 65535 port) (Some port) None (and_from (nat_le 1 port) (nat_le port 65535) (le-leb 1 port least) (le-leb port 65535 greatest))

by_choice : (words : List Octets) (port : Option ℕ) (chosen : ServeChoices) → port ≡ Some chosen.port → chosen.settings ≡ choices (between 2 words) → chosen.clients ≡ value_of (between 2 words) Key.Clients → chosen.pacing ≡ pacing_of (value_of (between 2 words) Key.Pace) → by_port words port ≡ Ok chosen
by_choice words port chosen is same many paced = ap (by_port words) is ∙ (λ i. Ok (record { settings = sym same i; port = chosen.port; clients = sym many i; pacing = sym paced i }))

line_of : (words : List Octets) (chosen : ServeChoices) → serve_words_of words ≡ Ok chosen → IsServeLine words chosen
unfolding serve_words_of
line_of words chosen e =
    let (none, e1) = none_bad words (bad_word serve_keys (codes "serve") 2 words) chosen e in
    let (port, settings, clients, pacing) = has_port words (port_of (natural (port_word words))) chosen e1 in
    let (number, least, greatest) = is_number (natural (port_word words)) chosen.port port in
    record {
      line = is_line serve_keys (codes "serve") 2 words none;
      settings = settings;
      clients = clients;
      pacing = pacing;
      port = number;
      least = least;
      greatest = greatest;
    }

of_line : (words : List Octets) (chosen : ServeChoices) → IsServeLine words chosen → serve_words_of words ≡ Ok chosen
unfolding serve_words_of
of_line words chosen line =
    ap (by_settings words) (no_bad_word serve_keys (codes "serve") 2 words line.line)
    ∙ by_choice words (port_of (natural (port_word words))) chosen (ap port_of line.port ∙ allowed_port chosen.port line.least line.greatest) line.settings line.clients line.pacing

pub serves_by : (words : List Octets) (chosen : ServeChoices) → ServesBy words chosen
serves_by words chosen = (line_of words chosen, of_line words chosen)
