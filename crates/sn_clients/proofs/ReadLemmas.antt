-- What a reader took, step by step.
use Rattle.std.proofs.Common.{◌≡◌, ◌⊎◌, ◌<◌, ◌+◌, ◌^◌, ◌++◌, ℕ, List, [], ◌∷◌, length, Option, Some, None, Ok, Err, IsErrAnd, IsTrue, Result, sym, refl, ap, ◌∙◌, subst, inl, inr, append_assoc, append-nil}
use Rattle.std.specs.List.{AllByRecursion}
use Rattle.std.specs.Io.KnownBytes.{Consumes, IsAtEnd, Keeps}
use Rattle.std.proofs.KnownBytes.{Consumes-kept, Consumes-nil, Consumes-trans}
use Rattle.std.proofs.lemmas.List.{length-append}
use Rattle.sn_osc.specs.Bytes.{frame_bytes}
use Rattle.sn_osc.specs.Framing.{Framing}
use Rattle.sn_osc.specs.Framed.{fed_with, packet_of, Next}
use Rattle.sn_osc.specs.Frames.{cut, first_frame, is_frame_size}
use Rattle.sn_osc.specs.Unpacking.{joined_frames}
use Rattle.sn_osc.specs.declared.frame.Frame.{Frame}
use Rattle.sn_clients.specs.declared.clients.ClientEnd.{ClientEnd}
use Rattle.sn_clients.specs.declared.clients.ClientEnd.TheVariants.{Closed, Cut, BadFrame, ReadFault, SendFault, Stopped, Worn, NoMemory}
use Rattle.sn_clients.specs.Reading.{AreCut, EndsAs, HasRead, IsClosing, IsReading, ReadsOn}

-- ---- frames

joined_more : (packets : List (List ℕ)) (packet : List ℕ) → joined_frames (packets ++ packet ∷ []) ≡ joined_frames packets ++ frame_bytes packet
joined_more [] packet = append-nil (frame_bytes packet)
joined_more (p ∷ ps) packet = ap (λ l. frame_bytes p ++ l) (joined_more ps packet) ∙ sym (append_assoc (frame_bytes p) (joined_frames ps) (frame_bytes packet))

sized_more : (packets : List (List ℕ)) (packet : List ℕ) → AllByRecursion (λ p. IsTrue (is_frame_size (length p))) packets → IsTrue (is_frame_size (length packet)) → AllByRecursion (λ p. IsTrue (is_frame_size (length p))) (packets ++ packet ∷ [])
sized_more [] packet h s = (s, tt)
sized_more (p ∷ ps) packet h s = (h.0, sized_more ps packet h.1 s)

cut_more : (bytes : List ℕ) (packets : List (List ℕ)) (rest packet behind : List ℕ) → AreCut bytes packets rest → IsTrue (is_frame_size (length packet)) → rest ≡ frame_bytes packet ++ behind → AreCut bytes (packets ++ packet ∷ []) behind
cut_more bytes packets rest packet behind h s e = record {
  whole = h.whole ∙ ap (λ l. joined_frames packets ++ l) e ∙ sym (append_assoc (joined_frames packets) (frame_bytes packet) behind) ∙ ap (λ l. l ++ behind) (sym (joined_more packets packet));
  sized = sized_more packets packet h.sized s;
}

cut_fed : (bytes : List ℕ) (packets : List (List ℕ)) (rest piece : List ℕ) → AreCut bytes packets rest → AreCut (bytes ++ piece) packets (rest ++ piece)
cut_fed bytes packets rest piece h = record { whole = ap (λ l. l ++ piece) h.whole ∙ append_assoc (joined_frames packets) rest piece; sized = h.sized }

-- ---- steps of a reader

pub starts : (left : Option (List ℕ)) → IsReading left left [] (record { kept = []; fed = 0 })
starts left = record { bytes = []; taken = Consumes-nil left; cut_so = record { whole = refl; sized = tt }; count = refl }

-- a whole frame was taken out and put
pub puts_frame : (first left : Option (List ℕ)) (packets : List (List ℕ)) (old new : Framing) (f : Frame) → Next old new (Ok (Some f)) → IsReading first left packets old → IsReading first left (packets ++ packet_of f ∷ []) new
puts_frame first left packets old new f n h = record {
  bytes = h.bytes;
  taken = h.taken;
  cut_so = cut_more h.bytes packets old.kept (packet_of f) new.kept h.cut_so n.0 n.1;
  count = n.2 ∙ h.count;
}

-- an end between two steps, with what the framer keeps for the rest
pub ends_here : (first left : Option (List ℕ)) (faulted stopped : Type 0) (packets : List (List ℕ)) (framing : Framing) (end : ClientEnd) → (h : IsReading first left packets framing) → EndsAs (IsAtEnd left) faulted stopped h.bytes packets framing.kept end → HasRead first left faulted stopped packets end
ends_here first left faulted stopped packets framing end h why = record { bytes = h.bytes; rest = framing.kept; taken = h.taken; cut_so = h.cut_so; why = why }

-- nothing came
nothing_came : (first left next : Option (List ℕ)) (packets : List (List ℕ)) (framing : Framing) → Consumes left next [] → IsReading first left packets framing → IsReading first next packets framing
nothing_came first left next packets framing c h = record {
  bytes = h.bytes;
  taken = subst (Consumes first next) (append-nil h.bytes) (Consumes-trans first left next h.bytes [] h.taken c);
  cut_so = h.cut_so;
  count = h.count;
}

-- the source keeps what it has
pub kept_on : (first left next : Option (List ℕ)) (packets : List (List ℕ)) (framing : Framing) → Keeps left next → IsReading first left packets framing → IsReading first next packets framing
kept_on first left next packets framing k h = record { bytes = h.bytes; taken = Consumes-kept first left next h.bytes h.taken k; cut_so = h.cut_so; count = h.count }

-- a weaker cause
weaker : (at_end f g s t : Type 0) (bytes : List ℕ) (packets : List (List ℕ)) (rest : List ℕ) (end : ClientEnd) → (f → g) → (s → t) → EndsAs at_end f s bytes packets rest end → EndsAs at_end g t bytes packets rest end
weaker at_end f g s t bytes packets rest Closed u v h = h
weaker at_end f g s t bytes packets rest (Cut kept) u v h = h
weaker at_end f g s t bytes packets rest (BadFrame size) u v h = h
weaker at_end f g s t bytes packets rest ReadFault u v h = (u h.0, h.1)
weaker at_end f g s t bytes packets rest SendFault u v h = h
weaker at_end f g s t bytes packets rest Stopped u v h = v h
weaker at_end f g s t bytes packets rest Worn u v h = h
weaker at_end f g s t bytes packets rest NoMemory u v h = h

pub ends_weaker : (first left : Option (List ℕ)) (f g s t : Type 0) (packets : List (List ℕ)) (end : ClientEnd) → (f → g) → (s → t) → HasRead first left f s packets end → HasRead first left g t packets end
ends_weaker first left f g s t packets end u v h = record {
  bytes = h.bytes;
  rest = h.rest;
  taken = h.taken;
  cut_so = h.cut_so;
  why = weaker (IsAtEnd left) f g s t h.bytes packets h.rest end u v h.why;
}

-- a piece came for which there was no memory
pub loses : (first left next : Option (List ℕ)) (faulted stopped : Type 0) (packets : List (List ℕ)) (framing : Framing) (piece : List ℕ) → Consumes left next piece → IsReading first left packets framing → HasRead first next faulted stopped packets NoMemory
loses first left next faulted stopped packets framing piece c h = record {
  bytes = h.bytes ++ piece;
  rest = framing.kept ++ piece;
  taken = Consumes-trans first left next h.bytes piece h.taken c;
  cut_so = cut_fed h.bytes packets framing.kept piece h.cut_so;
  why = tt;
}

-- nothing more comes
pub closes : (first left next : Option (List ℕ)) (faulted stopped : Type 0) (packets : List (List ℕ)) (framing : Framing) (end : ClientEnd) → Consumes left next [] → IsAtEnd next → first_frame framing.kept ≡ cut → IsReading first left packets framing → IsClosing framing.kept end
    → HasRead first next faulted stopped packets end
unfolding nothing_came
closes first left next faulted stopped packets framing end c done front h k = ends_here first next faulted stopped packets framing end (nothing_came first left next packets framing c h) (close end k)
  where
    close : (e : ClientEnd) → IsClosing framing.kept e → EndsAs (IsAtEnd next) faulted stopped h.bytes packets framing.kept e
    close Closed k = (done, k)
    close (Cut n) k = (done, k.0, k.1, front)
    close (BadFrame size) k = absurd k
    close ReadFault k = absurd k
    close SendFault k = absurd k
    close Stopped k = absurd k
    close Worn k = absurd k
    close NoMemory k = absurd k

-- an error that says how it ended
pub ended : (first left : Option (List ℕ)) (faulted stopped : Type 0) (packets : List (List ℕ)) (framing : Framing) (r : Result (Unit {0}) ClientEnd) (end : ClientEnd) → IsErrAnd r (λ e. e ≡ end) → HasRead first left faulted stopped packets end → ReadsOn first left faulted stopped packets framing r
ended first left faulted stopped packets framing (Ok x) end is h = absurd is
ended first left faulted stopped packets framing (Err e) end is h = subst (HasRead first left faulted stopped packets) (sym is) h

-- a call that read nothing of the source, or put nothing, went before
pub on_weaker : (first left : Option (List ℕ)) (f g s t : Type 0) (packets : List (List ℕ)) (framing : Framing) (r : Result (Unit {0}) ClientEnd) → (f → g) → (s → t) → ReadsOn first left f s packets framing r → ReadsOn first left g t packets framing r
on_weaker first left f g s t packets framing (Ok x) u v h = h
on_weaker first left f g s t packets framing (Err e) u v h = ends_weaker first left f g s t packets e u v h

-- it reads on
pub goes_on : (first left : Option (List ℕ)) (faulted stopped : Type 0) (packets : List (List ℕ)) (framing : Framing) (r : Result (Unit {0}) ClientEnd) (x : Unit {0}) → r ≡ Ok x → ReadsOn first left faulted stopped packets framing r → IsReading first left packets framing
goes_on first left faulted stopped packets framing r x is h = subst (ReadsOn first left faulted stopped packets framing) is h
