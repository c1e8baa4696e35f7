-- Of clashes that were there before, none is told.
use Rattle.std.proofs.Common.{◌≡◌, Bool, true, ◌&&◌, ◌||◌, List, [], ◌∷◌, ◌++◌, refl, sym, ap, ◌∙◌}
use Rattle.std.proofs.Math.Bool.{or-true}
use Rattle.std.specs.Cmp.{int_eq_equiv, nat_eq_equiv}
use Rattle.std.specs.List.{list_any}
use Rattle.std.specs.Prelude.{if◌then◌else◌}
use Rattle.std.proofs.lemmas.List.{append_assoc}
use Rattle.std.proofs.lemmas.List.Folds.{list_any-append}
use Rattle.sn_foot.specs.declared.resource.Resource.{Resource}
use Rattle.sn_foot.specs.Footprints.{number_of}
use Rattle.sn_clash.specs.declared.clash.Clash.{Clash}
use Rattle.sn_reply.specs.declared.replies.To.TheVariants.{All}
use Rattle.sn_reply.specs.Replies.{ReplyShape}
use Rattle.sn_engine.specs.Clashing.{clash_message, sort_of, same_resource, same_clash, told_clashes}

itself_resource : (r : Resource) → same_resource r r ≡ true
itself_resource r = λ i. nat_eq_equiv.refl (sort_of r) i && nat_eq_equiv.refl (number_of r) i

itself : (c : Clash) → same_clash c c ≡ true
itself c = λ i. int_eq_equiv.refl c.group i && (int_eq_equiv.refl c.first i && (int_eq_equiv.refl c.second i && itself_resource c.resource i))

there : (front rest : List Clash) (c : Clash) → list_any (λ b. same_clash b c) (front ++ c ∷ rest) ≡ true
there front rest c =
    list_any-append (λ b. same_clash b c) front (c ∷ rest)
    ∙ ap (λ (s : Bool). list_any (λ b. same_clash b c) front || (s || list_any (λ b. same_clash b c) rest)) (itself c)
    ∙ or-true (list_any (λ b. same_clash b c) front)

abbrev telling : Clash → ReplyShape
telling c = record { to = All; message = clash_message c }

none_among : (front rest : List Clash) → told_clashes (front ++ rest) rest ≡ []
none_among front [] = refl
none_among front (c ∷ rest) =
    ap (λ (s : Bool). (if s then [] else telling c ∷ []) ++ told_clashes (front ++ c ∷ rest) rest) (there front rest c)
    ∙ ap (λ (before : List Clash). told_clashes before rest) (sym (append_assoc front (c ∷ []) rest))
    ∙ none_among (front ++ c ∷ []) rest

pub none_told : (cs : List Clash) → told_clashes cs cs ≡ []
none_told cs = none_among [] cs
