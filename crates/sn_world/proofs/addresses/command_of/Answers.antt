use Rattle.std.proofs.Common.{◌≡◌, ◌∙◌, List, ap, find, rules}
use Rattle.std.specs.Option.{option_map}
use Rattle.sn_world.specs.declared.addresses.Addressed.{Addressed}
use Rattle.sn_world.specs.Addresses.{Called, has_address, called_of, its_command, command_of}
use Rattle.sn_world.proofs.AddressLemmas.{find-seen}
use Rattle.sn_world.proofs.addresses.command_of.Goals as goal

pub returns : goal.returns
unfolding command_of
returns c =
    let test = has_address c.args.address.now in
    let is : c.map.result ≡ option_map (λ (a : Addressed). a.command) c.found.result = search rules in
    is ∙ ap (option_map (λ (a : Addressed). its_command (called_of a))) c.found.ensures
    ∙ find-seen called_of its_command test c.every_command.result.now
    ∙ ap (λ (all : List Called). option_map its_command (find test all)) c.every_command.ensures
