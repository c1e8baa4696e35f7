-- A fault that reading gives is the first fault of the text.
use Rattle.std.proofs.Common.{◌≡◌, ℕ, ◌+◌, ◌<◌, ◌==◌, ◌||◌, Bool, true, false, cond, not, List, [], ◌∷◌, ◌++◌, length, Option, Some, None, Result, Ok, Err, inl, inr, refl, sym, ap, subst, ◌∙◌, arith, lit≤, codes, append_assoc, append-nil, length-append}
use Rattle.std.specs.Str.{bytes_eq}
use Rattle.std.proofs.lemmas.Slice.Eq.{bytes_eq-Decides}
use Rattle.sn_def.specs.declared.fault.DefKind.{DefKind}
use Rattle.sn_def.specs.declared.fault.DefKind.TheVariants as wrong
use Rattle.sn_def.specs.declared.fault.DefFault.{DefFault}
use Rattle.sn_def.specs.declared.version.Version.{Version}
use Rattle.sn_def.specs.declared.version.Version.TheVariants as versions
use Rattle.sn_def.specs.Definition.{Definition, named_only}
use Rattle.sn_def.specs.Versions.{title, version_of}
use Rattle.sn_def.specs.Reading.{◌>>=◌, pieces, is_name, line_at, fault, is_over, body_at, def_at, def_and_body, after_title, versioned_at, title_at, text_at}
use Rattle.sn_def.specs.Grammar.{DefinitionText}
use Rattle.sn_def.specs.Faults.{lines_text, Defines, Begins, DefinitionFault}
use Rattle.sn_def.proofs.Whole.{in_grammar, no_names, Title, def_read, title_told}
use Rattle.sn_def.proofs.Sound.{Good}
use Rattle.sn_def.proofs.Complete.{Bytes, is_read, end_back, version-title}
use Rattle.std.proofs.lemmas.Grind.{flat_map-append}
use Rattle.sn_def.proofs.Prefix.{some_pieces, no_pieces, long, same_title}
use Rattle.sn_def.proofs.Judging.{def_judged, line_judged}
use Rattle.sn_def.proofs.Halting.{same_fault, How, is_cut, is_wrong, is_behind, Halts, halts, two_ways, AllFree, pieces_free, free_front, free_cut}

-- a shortest text of a version
least_read : (v : Version) → text_at (lines_text (title v ∷ []) ++ lines_text (codes "def a" ∷ codes "end" ∷ [])) ≡ Ok (named_only (codes "a"))
unfolding text_at is_name body_at
least_read versions.One = refl
least_read versions.Two = refl

begins_empty : Begins []
begins_empty = (lines_text (title versions.One ∷ []) ++ lines_text (codes "def a" ∷ codes "end" ∷ []), (named_only (codes "a"), in_grammar _ (named_only (codes "a")) (least_read versions.One)))

begins_title : (v : Version) → Begins (title v ∷ [])
begins_title v = (lines_text (codes "def a" ∷ codes "end" ∷ []), (named_only (codes "a"), in_grammar _ (named_only (codes "a")) (least_read v)))

-- what reading gives of lines and more
lines_read : (ls : List (List ℕ)) (more : List ℕ) → AllFree ls → text_at (lines_text ls ++ more) ≡ title_at (ls ++ pieces 10 more)
unfolding text_at
lines_read ls more h = ap title_at (free_cut ls more h)

-- lines with which reading faults begin no text
begin_none : (bytes : Bytes) (ls : List (List ℕ)) (f : DefFault) → AllFree ls → ((more : List (List ℕ)) → 0 < length more → title_at (ls ++ more) ≡ Err f) → Begins ls → ⊥
begin_none bytes ls f free h b =
    let read : text_at (lines_text ls ++ b.0) ≡ Ok b.1.0 = is_read bytes (lines_text ls ++ b.0) b.1.0 b.1.1 in
    let other : text_at (lines_text ls ++ b.0) ≡ Err f = lines_read ls b.0 free ∙ h (pieces 10 b.0) (some_pieces 10 b.0) in
    unlike b.1.0 f (sym read ∙ other)
  where
    unlike : (d : Definition) (f : DefFault) → ◌≡◌ {A = Result Definition DefFault} (Ok d) (Err f) → ⊥
    unlike d f e = absurd (cc)

defines_none : (bytes : Bytes) (text : List ℕ) (f : DefFault) → text_at text ≡ Err f → Defines text → ⊥
defines_none bytes text f h g = unlike g.0 f (sym (is_read bytes text g.0 g.1) ∙ h)
  where
    unlike : (d : Definition) (f : DefFault) → ◌≡◌ {A = Result Definition DefFault} (Ok d) (Err f) → ⊥
    unlike d f e = absurd (cc)

title_fault : (first : List ℕ) (more : List (List ℕ)) → version_of first ≡ None → title_at (first ∷ more) ≡ Err (fault 1 wrong.Line)
title_fault first more is = either (length more == 0) (versioned_at (version_of first) more) (ap (λ (o : Option Version). versioned_at o more) is)
  where
    either : (a : Bool) (r : Result Definition DefFault) → r ≡ Err (fault 1 wrong.Line) → cond a (Err (fault 1 wrong.Line)) r ≡ Err (fault 1 wrong.Line)
    either true r h = refl
    either false r h = h

-- the line of a fault of the line `def NAME`
in_two : (k : DefKind) (f : DefFault) → ◌≡◌ {A = Result Definition DefFault} (Err (fault 2 k)) (Err f) → f ≡ fault 2 f.kind
in_two k f h = let e = same_fault (fault 2 k) f h in e ∙ ap (fault 2) (sym (ap (λ (g : DefFault). g.kind) e))

def_line : (v : Version) (fields : List (List ℕ)) (f : DefFault) → def_at v fields ≡ Err f → f ≡ fault 2 f.kind
def_line v [] f h = in_two wrong.Line f h
def_line v (a ∷ []) f h = in_two wrong.Line f h
def_line v (word ∷ name ∷ []) f h =
    two_ways (not (bytes_eq word (codes "def")) || length name == 0) (Err (fault 2 wrong.Line)) _ f (λ t e. in_two wrong.Line f e)
    (λ t e. two_ways (not (is_name v name)) (Err (fault 2 wrong.Name)) (Ok (named_only name)) f (λ u i. in_two wrong.Name f i) (λ u i. cc) e) h
def_line v (a ∷ b ∷ x ∷ y) f h = in_two wrong.Line f h

def_fault : (v : Version) (second : List ℕ) (more : List (List ℕ)) (f : DefFault) → 0 < length more → def_at v (pieces 32 second) ≡ Err f → title_at (title v ∷ second ∷ more) ≡ Err f
def_fault v second more f some h =
    let body : def_and_body v (pieces 32 second) more ≡ Err f = rw h refl in
    let after : after_title v (second ∷ more) ≡ Err f = rw (long more some) body in
    rw (long (second ∷ more) (omega arith)) (ap (λ (o : Option Version). versioned_at o (second ∷ more)) (version-title v) ∙ after)

-- faults of the first line
first_line : (bytes : Bytes) (text first : List ℕ) (more : List (List ℕ)) (f : DefFault) → text_at text ≡ Err f → pieces 10 text ≡ first ∷ more → f ≡ fault 1 wrong.Line → (0 < length more → version_of first ≡ None) → DefinitionFault text f.line f.kind
first_line bytes text first more f read are is other = record {
  none = defines_none bytes text f read;
  earlier = [];
  line = first;
  later = more;
  lines = are;
  number_is = ap (λ (g : DefFault). g.line) is;
  begins = begins_empty;
  whole = λ some. (begin_none bytes (first ∷ []) (fault 1 wrong.Line) (free_front (first ∷ []) more (subst AllFree are (pieces_free text))) (λ ms l. title_fault first ms (other some)), ap (λ (g : DefFault). g.kind) is);
  cut = λ z. ap (λ (g : DefFault). g.kind) is;
}

-- faults of the second line
second_line : (bytes : Bytes) (v : Version) (text second : List ℕ) (more : List (List ℕ)) (f : DefFault) → text_at text ≡ Err f → pieces 10 text ≡ title v ∷ second ∷ more → f.line ≡ 2 → (length more ≡ 0 → f.kind ≡ wrong.Line) → (0 < length more → def_at v (pieces 32 second) ≡ Err (fault 2 f.kind))
    → DefinitionFault text f.line f.kind
second_line bytes v text second more f read are line kind other = record {
  none = defines_none bytes text f read;
  earlier = title v ∷ [];
  line = second;
  later = more;
  lines = are;
  number_is = line;
  begins = begins_title v;
  whole = λ some. (
    begin_none bytes (title v ∷ second ∷ []) (fault 2 f.kind) (free_front (title v ∷ second ∷ []) more (subst AllFree are (pieces_free text))) (λ ms l. def_fault v second ms (fault 2 f.kind) l (other some)),
    (v, (refl, (def_judged v (pieces 32 second) f.kind).0 (other some))),
  );
  cut = kind;
}

-- the first two lines and those read after them, and the line at which reading ends
pub record At (v : Version) (text : List ℕ) (second : List ℕ) (before : List (List ℕ)) (line : List ℕ) (later : List (List ℕ)) (draft : Definition) (f : DefFault) : Type 0 where
  pub read : text_at text ≡ Err f
  pub split : pieces 10 text ≡ (title v ∷ second ∷ before) ++ line ∷ later
  pub goes_on : (more : List (List ℕ)) → 0 < length more → title_at ((title v ∷ second ∷ before) ++ more) ≡ body_at v (3 + length before) draft more

count : (v : Version) (second : List ℕ) (before : List (List ℕ)) → 3 + length before ≡ length (title v ∷ second ∷ before) + 1
count v second before = omega arith

ended : (v : Version) (text second : List ℕ) (before : List (List ℕ)) (line : List ℕ) (later : List (List ℕ)) (draft : Definition) (f : DefFault) → At v text second before line later draft f
    → text_at (lines_text (title v ∷ second ∷ before) ++ lines_text (codes "end" ∷ [])) ≡ Ok draft
ended v text second before line later draft f a =
    let earlier : List (List ℕ) = title v ∷ second ∷ before in
    lines_read earlier (lines_text (codes "end" ∷ [])) (free_front earlier (line ∷ later) (subst AllFree a.split (pieces_free text))) ∙ a.goes_on (codes "end" ∷ [] ∷ []) (lit≤ tt) ∙ end_back v (3 + length before) draft

pub with_end : (earlier : List (List ℕ)) → lines_text (earlier ++ codes "end" ∷ []) ≡ lines_text earlier ++ lines_text (codes "end" ∷ [])
with_end earlier = flat_map-append (λ (l : List ℕ). l ++ 10 ∷ []) earlier (codes "end" ∷ [])

defined : (v : Version) (text second : List ℕ) (before : List (List ℕ)) (line : List ℕ) (later : List (List ℕ)) (draft : Definition) (f : DefFault) → At v text second before line later draft f
    → DefinitionText (lines_text ((title v ∷ second ∷ before) ++ codes "end" ∷ [])) draft
defined v text second before line later draft f a =
    in_grammar (lines_text ((title v ∷ second ∷ before) ++ codes "end" ∷ [])) draft (ap text_at (with_end (title v ∷ second ∷ before)) ∙ ended v text second before line later draft f a)

begun : (v : Version) (text second : List ℕ) (before : List (List ℕ)) (line : List ℕ) (later : List (List ℕ)) (draft : Definition) (f : DefFault) → At v text second before line later draft f → Begins (title v ∷ second ∷ before)
begun v text second before line later draft f a = (lines_text (codes "end" ∷ []), (draft, in_grammar _ draft (ended v text second before line later draft f a)))

wrong_line : (v : Version) (at : ℕ) (draft : Definition) (line : List ℕ) (more : List (List ℕ)) (k : DefKind) → 0 < length more → bytes_eq line (codes "end") ≡ false → line_at v draft (pieces 32 line) ≡ Err k → body_at v at draft (line ∷ more) ≡ Err (fault at k)
unfolding body_at
wrong_line v at draft line more k some is h = rw (long more some, is, h) refl

not_over : (l : List ℕ) (more : List (List ℕ)) → 0 < length more → is_over (l ∷ more) ≡ false
not_over l [] h = absurd (omega arith)
not_over l (m ∷ ms) h = refl

behind_end : (v : Version) (at : ℕ) (draft : Definition) (line l : List ℕ) (more : List (List ℕ)) → 0 < length more → bytes_eq line (codes "end") ≡ true → body_at v at draft (line ∷ l ∷ more) ≡ Err (fault (at + 1) wrong.Line)
unfolding body_at
behind_end v at draft line l more some is = rw (long (l ∷ more) (omega arith), is, not_over l more some) refl

cut_line : (bytes : Bytes) (v : Version) (text second : List ℕ) (before : List (List ℕ)) (line : List ℕ) (later : List (List ℕ)) (draft : Definition) (f : DefFault) → At v text second before line later draft f → length later ≡ 0 → f ≡ fault (3 + length before) wrong.Line
    → DefinitionFault text f.line f.kind
cut_line bytes v text second before line later draft f a none is = record {
  none = defines_none bytes text f a.read;
  earlier = title v ∷ second ∷ before;
  line = line;
  later = later;
  lines = a.split;
  number_is = ap (λ (g : DefFault). g.line) is ∙ count v second before;
  begins = begun v text second before line later draft f a;
  whole = λ some. absurd (omega arith);
  cut = λ z. ap (λ (g : DefFault). g.kind) is;
}

bad_line : (bytes : Bytes) (v : Version) (text second : List ℕ) (before : List (List ℕ)) (line : List ℕ) (later : List (List ℕ)) (draft : Definition) (f : DefFault) → At v text second before line later draft f → (k : DefKind) → 0 < length later → bytes_eq line (codes "end") ≡ false
    → line_at v draft (pieces 32 line) ≡ Err k → f ≡ fault (3 + length before) k → DefinitionFault text f.line f.kind
bad_line bytes v text second before line later draft f a k some is h feq =
    let earlier : List (List ℕ) = title v ∷ second ∷ before in
    let kind : f.kind ≡ k = ap (λ (g : DefFault). g.kind) feq in
    let ls : List (List ℕ) = earlier ++ line ∷ [] in
    let free : AllFree ls = free_front ls later (subst AllFree (a.split ∙ sym (append_assoc earlier (line ∷ []) later)) (pieces_free text)) in
    let error : DefKind → Result Definition DefKind = λ (j : DefKind). Err j in
    record {
      none = defines_none bytes text f a.read;
      earlier = earlier;
      line = line;
      later = later;
      lines = a.split;
      number_is = ap (λ (g : DefFault). g.line) feq ∙ count v second before;
      begins = begun v text second before line later draft f a;
      whole = λ t. (
        begin_none bytes ls (fault (3 + length before) k) free (λ ms l. ap title_at (append_assoc earlier (line ∷ []) ms) ∙ a.goes_on (line ∷ ms) (omega arith) ∙ wrong_line v (3 + length before) draft line ms k l is h),
        (v, (refl, inl (draft, (defined v text second before line later draft f a, (line_judged v draft (pieces 32 line) f.kind).0 (h ∙ ap error (sym kind)))))),
      );
      cut = λ z. absurd (omega arith);
    }

line_behind : (bytes : Bytes) (v : Version) (text second : List ℕ) (before : List (List ℕ)) (line l : List ℕ) (later : List (List ℕ)) (draft : Definition) (f : DefFault) → At v text second before line (l ∷ later) draft f → bytes_eq line (codes "end") ≡ true
    → f ≡ fault (3 + length before + 1) wrong.Line → DefinitionFault text f.line f.kind
line_behind bytes v text second before line l later draft f a is feq =
    let earlier : List (List ℕ) = title v ∷ second ∷ before in
    let end : line ≡ codes "end" = (bytes_eq-Decides line (codes "end")).0 is in
    let kind : f.kind ≡ wrong.Line = ap (λ (g : DefFault). g.kind) feq in
    let all : List (List ℕ) = earlier ++ line ∷ [] in
    let ls : List (List ℕ) = all ++ l ∷ [] in
    let split : pieces 10 text ≡ all ++ l ∷ later = a.split ∙ sym (append_assoc earlier (line ∷ []) (l ∷ later)) in
    let free : AllFree ls = free_front ls later (subst AllFree (split ∙ sym (append_assoc all (l ∷ []) later)) (pieces_free text)) in
    let defined_all : DefinitionText (lines_text all) draft = subst (λ (w : List ℕ). DefinitionText (lines_text (earlier ++ w ∷ [])) draft) (sym end) (defined v text second before line (l ∷ later) draft f a) in
    record {
      none = defines_none bytes text f a.read;
      earlier = all;
      line = l;
      later = later;
      lines = split;
      number_is = ap (λ (g : DefFault). g.line) feq ∙ ap (λ (n : ℕ). n + 1) (count v second before ∙ sym (length-append earlier (line ∷ [])));
      begins = ([], (draft, subst (λ (t : List ℕ). DefinitionText t draft) (sym (append-nil (lines_text all))) defined_all));
      whole = λ some. (
        begin_none bytes ls (fault (3 + length before + 1) wrong.Line) free
            (λ ms t. ap title_at (append_assoc all (l ∷ []) ms ∙ append_assoc earlier (line ∷ []) (l ∷ ms)) ∙ a.goes_on (line ∷ l ∷ ms) (omega arith) ∙ behind_end v (3 + length before) draft line l ms t is),
        (v, (refl, inr ((draft, defined_all), kind))),
      );
      cut = λ z. kind;
    }

by_how : (bytes : Bytes) (v : Version) (text second : List ℕ) (before : List (List ℕ)) (line : List ℕ) (later : List (List ℕ)) (draft : Definition) (f : DefFault) → At v text second before line later draft f → How v (3 + length before) draft f line later → DefinitionFault text f.line f.kind
by_how bytes v text second before line later draft f a (is_cut none is) = cut_line bytes v text second before line later draft f a none is
by_how bytes v text second before line later draft f a (is_wrong k some is h feq) = bad_line bytes v text second before line later draft f a k some is h feq
by_how bytes v text second before line [] draft f a (is_behind some is over feq) = absurd (omega arith)
by_how bytes v text second before line (l ∷ later) draft f a (is_behind some is over feq) = line_behind bytes v text second before line l later draft f a is feq

later_line : (bytes : Bytes) (v : Version) (text second : List ℕ) (d : Definition) (lines : List (List ℕ)) (f : DefFault) → text_at text ≡ Err f → pieces 10 text ≡ title v ∷ second ∷ lines → def_at v (pieces 32 second) ≡ Ok d → Halts v 3 d lines f → DefinitionFault text f.line f.kind
later_line bytes v text second d lines f read are def h =
    let a : At v text second h.before h.text h.after h.draft f = record {
      read = read;
      split = are ∙ ap (λ (ls : List (List ℕ)). title v ∷ second ∷ ls) h.lines_are;
      goes_on = λ more some. same_title (title v) second (h.before ++ more) (body_at v (3 + length h.before) h.draft more) v d (version-title v) (omega (arith, length-append h.before more)) def (h.goes_on more some);
    } in
    by_how bytes v text second h.before h.text h.after h.draft f a h.how

body_fault : (bytes : Bytes) (v : Version) (text second : List ℕ) (d : Definition) (line : List ℕ) (lines : List (List ℕ)) (f : DefFault) → text_at text ≡ Err f → pieces 10 text ≡ title v ∷ second ∷ line ∷ lines → def_at v (pieces 32 second) ≡ Ok d → Title v (pieces 32 second) d
    → body_at v 3 d (line ∷ lines) ≡ Err f → DefinitionFault text f.line f.kind
body_fault bytes v text second d line lines f read are def t h =
    later_line bytes v text second d (line ∷ lines) f read are def
    (halts v 3 d line lines f (λ z. sym (ap (λ (g : Definition). length g.wires) t.made)) (subst (λ (g : Definition). Good v g) t.made (no_names v t.name)) h)

named_fault : (bytes : Bytes) (v : Version) (text second : List ℕ) (line : List ℕ) (lines : List (List ℕ)) (f : DefFault) (r : Result Definition DefFault) → text_at text ≡ Err f → pieces 10 text ≡ title v ∷ second ∷ line ∷ lines → def_at v (pieces 32 second) ≡ r
    → (r >>= λ d. body_at v 3 d (line ∷ lines)) ≡ Err f → DefinitionFault text f.line f.kind
named_fault bytes v text second line lines f (Ok d) read are def h = body_fault bytes v text second d line lines f read are def (def_read v (pieces 32 second) d def) h
named_fault bytes v text second line lines f (Err g) read are def h =
    let same : f ≡ g = same_fault g f h in
    let error : DefFault → Result Definition DefFault = λ (e : DefFault). Err e in
    let here : def_at v (pieces 32 second) ≡ Err f = def ∙ ap error (sym same) in
    let two : f ≡ fault 2 f.kind = def_line v (pieces 32 second) f here in
    second_line bytes v text second (line ∷ lines) f read are (ap (λ (e : DefFault). e.line) two) (λ z. absurd (omega arith)) (λ some. here ∙ ap error two)

not_short : {X : Type 0} (b : Bool) (x y r : X) → b ≡ false → cond b x y ≡ r → y ≡ r
not_short true x y r h i = cc
not_short false x y r h i = i

after_fault : (bytes : Bytes) (v : Version) (text second : List ℕ) (rest : List (List ℕ)) (f : DefFault) → text_at text ≡ Err f → pieces 10 text ≡ title v ∷ second ∷ rest → after_title v (second ∷ rest) ≡ Err f → DefinitionFault text f.line f.kind
after_fault bytes v text second [] f read are h =
    let is = same_fault (fault 2 wrong.Line) f h in
    second_line bytes v text second [] f read are (ap (λ (g : DefFault). g.line) is) (λ z. ap (λ (g : DefFault). g.kind) is) (λ some. absurd (omega arith))
after_fault bytes v text second (line ∷ lines) f read are h =
    let past_long : def_and_body v (pieces 32 second) (line ∷ lines) ≡ Err f = not_short (length (line ∷ lines) == 0) _ _ _ (long (line ∷ lines) (omega arith)) h in
    named_fault bytes v text second line lines f (def_at v (pieces 32 second)) read are refl past_long

by_version : (bytes : Bytes) (text first second : List ℕ) (rest : List (List ℕ)) (f : DefFault) → text_at text ≡ Err f → pieces 10 text ≡ first ∷ second ∷ rest → (o : Option Version) → version_of first ≡ o → versioned_at o (second ∷ rest) ≡ Err f → DefinitionFault text f.line f.kind
by_version bytes text first second rest f read are (Some v) is h = after_fault bytes v text second rest f read (are ∙ ap (λ (l : List ℕ). l ∷ second ∷ rest) (title_told first v is)) h
by_version bytes text first second rest f read are None is h = first_line bytes text first (second ∷ rest) f read are (same_fault (fault 1 wrong.Line) f h) (λ some. is)

title_faults : (bytes : Bytes) (text : List ℕ) (lines : List (List ℕ)) (f : DefFault) → text_at text ≡ Err f → pieces 10 text ≡ lines → title_at lines ≡ Err f → DefinitionFault text f.line f.kind
title_faults bytes text [] f read are h = absurd (no_pieces 10 text are)
title_faults bytes text (first ∷ []) f read are h = first_line bytes text first [] f read are (same_fault (fault 1 wrong.Line) f h) (λ some. absurd (omega arith))
title_faults bytes text (first ∷ second ∷ rest) f read are h =
    by_version bytes text first second rest f read are (version_of first) refl (not_short (length (second ∷ rest) == 0) _ _ _ (long (second ∷ rest) (omega arith)) h)

-- what reading refuses has its fault there
pub first_fault : Bytes → (text : List ℕ) (f : DefFault) → text_at text ≡ Err f → DefinitionFault text f.line f.kind
unfolding text_at
first_fault bytes text f h = title_faults bytes text (pieces 10 text) f h refl h
