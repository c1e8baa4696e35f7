-- What reading tells of a text: that it defines something, or where its first fault is.
use Rattle.std.proofs.Common.{◌≡◌, ℕ, List, Result, Ok, Err, subst}
use Rattle.std.specs.Prelude.{IfOk}
use Rattle.sn_def.specs.declared.definition.Def.{Def}
use Rattle.sn_def.specs.declared.fault.DefFault.{DefFault}
use Rattle.sn_def.specs.declared.fault.Unread.{Unread}
use Rattle.sn_def.specs.declared.fault.Unread.TheVariants as unread
use Rattle.sn_def.specs.Defs.{definition_of}
use Rattle.sn_def.specs.Reading.{text_at}
use Rattle.sn_def.specs.Answers.{Reads}
use Rattle.sn_def.specs.Grammar.{DefinitionText}
use Rattle.sn_def.specs.Faults.{DefinitionFault}
use Rattle.sn_def.proofs.Whole.{in_grammar}
use Rattle.sn_def.proofs.Complete.{Bytes}
use Rattle.sn_def.proofs.Faulting.{first_fault}

pub text_told : (text : List ℕ) (r : Result Def Unread) → Reads definition_of r (text_at text) → IfOk r (λ d. DefinitionText text (definition_of d))
text_told text (Ok d) h = in_grammar text (definition_of d) h
text_told text (Err e) h = tt

pub fault_told : Bytes → (text : List ℕ) (r : Result Def Unread) → Reads definition_of r (text_at text) → (f : DefFault) → r ≡ Err (unread.Bad f) → DefinitionFault text f.line f.kind
fault_told bytes text (Ok d) h f e = absurd cc
fault_told bytes text (Err unread.NoMemory) h f e = absurd cc
fault_told bytes text (Err (unread.Bad g)) h f e = first_fault bytes text f (let same : g ≡ f = cc in subst (λ (f : DefFault). text_at text ≡ Err f) same h)
