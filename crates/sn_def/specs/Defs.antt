-- A definition as the program holds it.
use Rattle.sn_def.specs.declared.definition.Def.{Def}
use Rattle.sn_def.specs.Definition.{Definition, whole}

abbrev pub definition_of : Def → Definition
definition_of d = whole d.name.bytes d.controls d.arrays d.units d.wires
