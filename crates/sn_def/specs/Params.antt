-- A control of a definition, without the room of its name.
use Rattle.sn_def.specs.declared.definition.Param.{Param}
use Rattle.sn_def.specs.Definition.{Parameter}

abbrev pub parameter_of : Param → Parameter
parameter_of p = record { name = p.name.bytes; default = p.default }
